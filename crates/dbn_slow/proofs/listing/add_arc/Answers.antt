use Rattle.std.proofs.Common.{◌≡◌, ◌<◌, ◌++◌, ◌∷◌, [], map, take, length, get_or, ◌∙◌, subst}
use Rattle.std.specs.Map.{keys_of}
use Rattle.dbn_marking.specs.Counts.{place_of}
use Rattle.dbn_net.specs.Tables.{columns, place_shapes}
use Rattle.dbn_slow.specs.Clauses.{pattern_clause, IsJoined}
use Rattle.dbn_slow.proofs.JoinLaws.{joined_mapped}
use Rattle.dbn_slow.proofs.listing.add_arc.Goals as goal

pub loop-pattern-preserved : goal.loop-pattern-preserved
loop-pattern-preserved c = λ cs joined.
    let place = c.args.arc.now.place in
    let f = pattern_clause c.args.net.now c.args.marking.now place in
    let ps = c.args.arc.now.patterns in
    let i = c.loop-pattern.pattern-index in
    let p = c.pattern-item.result in
    let same : c.as_slice-pattern-items.result.now ≡ ps = c.as_slice-pattern-items.ensures in
    let rows : c.as_slice.result.now ≡ keys_of (place_of c.args.marking.now place) = c.as_slice.ensures ∙ c.in_ok-rows.ensures in
    joined_mapped f ps i p cs c.add_clause.new.atoms c.add_clause.new.shown (subst (λ l. i < length l) same c.loop-pattern-test.true) (subst (λ l. p ≡ get_or l i p) same c.pattern-item.is)
    (subst (λ rs. IsJoined ((cs ++ map f (take i ps)) ++ record { terms = p.terms; shape = columns (place_shapes c.args.net.now) place; rows = rs } ∷ []) c.add_clause.new.atoms c.add_clause.new.shown) rows
    (c.in_ok-add_clause.ensures (cs ++ map f (take i ps)) (columns (place_shapes c.args.net.now) place) (c.loop-pattern.invariant cs joined)))
