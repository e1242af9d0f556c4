use Rattle.std.proofs.Common.{◌∙◌, ◌++◌, [], true, sym, ap, subst}
use Rattle.std.proofs.lemmas.List.{map-append}
use Rattle.dbn_network.specs.Holding.{feeds_of, IsNetwork}
use Rattle.dbn_network.proofs.FeedLaws.{no_rows, no_nodes}
use Rattle.dbn_network.proofs.NetworkLaws.{meant}
use Rattle.dbn_network.proofs.WalkLaws.{no_walks_by}
use Rattle.dbn_network.proofs.network.Network.new.Goals as goal

pub invariant_of-result : goal.invariant_of-result
invariant_of-result g c =
    let made = (rw (c.in_ok-push_tables.ensures, c.new-feeds.ensures.items, c.as_slice.ensures, c.as_slice-2.ensures) at c.in_ok-push_tables-2.ensures) ∙ sym (map-append (λ shape. []) c.args.rels c.args.places) in
    let walks = (rw (c.in_ok-push_walks.ensures, c.new-walks.ensures.items, c.as_slice-3.ensures, c.as_slice-4.ensures) at c.in_ok-push_walks-2.ensures) ∙ sym (map-append (λ shape. []) c.args.rels c.args.places) in
    λ live. rw (c.new.ensures.items, c.new-2.ensures.items) (
      subst (IsNetwork g.C.Ord.cmp (c.args.rels ++ c.args.places) []) (sym made) (no_nodes g.C.Ord.cmp (c.args.rels ++ c.args.places)),
      no_walks_by (c.args.rels ++ c.args.places) c.push_tables-2.new.tables.items c.push_walks-2.new.walks.items made walks,
    )

pub returns : goal.returns
returns g c =
    let made = (rw (c.in_ok-push_tables.ensures, c.new-feeds.ensures.items, c.as_slice.ensures, c.as_slice-2.ensures) at c.in_ok-push_tables-2.ensures) ∙ sym (map-append (λ shape. []) c.args.rels c.args.places) in
    rw c.new.ensures.items (ap (λ tables. meant true c.args.rels (c.args.rels ++ c.args.places) [] (feeds_of g.C.Ord.cmp tables)) made ∙ ap (meant true c.args.rels (c.args.rels ++ c.args.places) []) (no_rows g.C.Ord.cmp (c.args.rels ++ c.args.places)))
