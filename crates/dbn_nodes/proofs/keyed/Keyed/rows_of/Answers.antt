use Rattle.std.proofs.Common.{sym, subst}
use Rattle.std.specs.Cmp.Lexicographic.{slice_cmp, lists_total}
use Rattle.std.specs.FinMap.{slice_cmp-IsAntisymmetric}
use Rattle.dbn_nodes.specs.Tables.{AreRowsOf}
use Rattle.dbn_nodes.proofs.KeyedLaws.{rows_found, rows_none}
use Rattle.dbn_nodes.proofs.keyed.Keyed.rows_of.Goals as goal

pub returns-in-Some-clause-rows : goal.returns-in-Some-clause-rows
returns-in-Some-clause-rows g c =
    subst (λ t. AreRowsOf (slice_cmp g.C.Ord.cmp) t c.args.key.now c.in_ok-rows-in-Some.rows) c.self.view_is
    (rows_found (lists_total g.met.C.Ord.total) (slice_cmp-IsAntisymmetric g.met.C.Cell.exact) c.self.inside.shelves.entries c.args.key.now c.in-Some.shelf.now c.in_ok-rows-in-Some.rows
    (sym c.in-Some.ensures.value) c.in_ok-rows-in-Some.ensures.held c.in_ok-rows-in-Some.ensures.rows)

pub returns-in-None-clause-rows : goal.returns-in-None-clause-rows
returns-in-None-clause-rows g c =
    subst (λ t. AreRowsOf (slice_cmp g.C.Ord.cmp) t c.args.key.now c.new.result) c.self.view_is
    (rows_none (lists_total g.met.C.Ord.total) (slice_cmp-IsAntisymmetric g.met.C.Cell.exact) c.self.inside.shelves.entries c.args.key.now c.new.result (sym c.in-None.ensures.value) c.new.ensures)
