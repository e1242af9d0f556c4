use Rattle.std.proofs.Common.{◌≡◌, ◌<◌, ◌++◌, [], map, length, sym, subst, IfOk}
use Rattle.std.specs.List.{flat_map, AllByRecursion}
use Rattle.dbn_net.specs.declared.rules.Arc.{Arc}
use Rattle.dbn_net.specs.declared.rules.Read.{Read}
use Rattle.dbn_net.specs.Tables.{places, relation_shapes}
use Rattle.dbn_core.proofs.FitLaws.{has_shapes}
use Rattle.dbn_slow.specs.Clauses.{arc_clauses, read_clause, clauses, IsJoined}
use Rattle.dbn_slow.proofs.ViewLaws.{arcs_within, reads_within, query_fits, candidates_are}
use Rattle.dbn_slow.proofs.listing.candidates.Goals as goal

pub add_arcs-requires : goal.add_arcs-requires
add_arcs-requires c =
    subst (AllByRecursion (λ (arc : Arc). arc.place < length c.args.at.now.marking)) (sym c.as_slice.ensures)
    (arcs_within c.args.net.now c.args.transition.now c.args.at.now.marking c.requires.stands.fits c.requires.good.tokens_fit)

pub add_reads-requires-clause-views : goal.add_reads-requires-clause-views
add_reads-requires-clause-views c =
    subst (AllByRecursion (λ (r : Read). r.view < length (places c.args.net.now))) (sym c.as_slice-2.ensures) (reads_within c.args.net.now c.args.transition.now c.requires.stands.fits)

pub add_reads-requires-clause-fits : goal.add_reads-requires-clause-fits
add_reads-requires-clause-fits c = has_shapes c.args.at.now.instance (relation_shapes c.args.net.now) c.requires.good.facts_fit

pub answers-requires : goal.answers-requires
answers-requires c =
    let net = c.args.net.now in
    let t = c.args.transition.now in
    let marking = c.args.at.now.marking in
    let db = c.args.at.now.instance in
    let start : IsJoined [] c.new-atoms.result c.in_ok-shown.shown = record { atoms_are = c.new-atoms.ensures; shown_are = c.in_ok-shown.ensures } in
    let first : IsJoined (flat_map (arc_clauses net marking) t.ins) c.add_arcs.new.atoms c.add_arcs.new.shown =
    subst (λ l. IsJoined (flat_map (arc_clauses net marking) l) c.add_arcs.new.atoms c.add_arcs.new.shown) c.as_slice.ensures (c.in_ok-add_arcs.ensures [] start) in
    let joined : IsJoined (clauses net t db marking) c.add_reads.new.atoms c.add_reads.new.shown =
    subst (λ l. IsJoined (flat_map (arc_clauses net marking) t.ins ++ map (read_clause net db) l) c.add_reads.new.atoms c.add_reads.new.shown) c.as_slice-2.ensures
    (c.in_ok-add_reads.ensures (flat_map (arc_clauses net marking) t.ins) first) in
    query_fits net t db marking c.add_reads.new.atoms c.add_reads.new.shown c.requires.stands.fits c.requires.good.tokens_fit joined

pub returns : goal.returns
returns c =
    let net = c.args.net.now in
    let t = c.args.transition.now in
    let marking = c.args.at.now.marking in
    let db = c.args.at.now.instance in
    let start : IsJoined [] c.new-atoms.result c.in_ok-shown.shown = record { atoms_are = c.new-atoms.ensures; shown_are = c.in_ok-shown.ensures } in
    let first : IsJoined (flat_map (arc_clauses net marking) t.ins) c.add_arcs.new.atoms c.add_arcs.new.shown =
    subst (λ l. IsJoined (flat_map (arc_clauses net marking) l) c.add_arcs.new.atoms c.add_arcs.new.shown) c.as_slice.ensures (c.in_ok-add_arcs.ensures [] start) in
    let joined : IsJoined (clauses net t db marking) c.add_reads.new.atoms c.add_reads.new.shown =
    subst (λ l. IsJoined (flat_map (arc_clauses net marking) t.ins ++ map (read_clause net db) l) c.add_reads.new.atoms c.add_reads.new.shown) c.as_slice-2.ensures
    (c.in_ok-add_reads.ensures (flat_map (arc_clauses net marking) t.ins) first) in
    subst (λ made. IfOk c.answers.result (λ rows. rows ≡ made)) (candidates_are net t db marking c.add_reads.new.atoms c.add_reads.new.shown joined) c.answers.ensures
