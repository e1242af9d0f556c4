use Rattle.std.proofs.Common.{[], ◌≡◌, ◌<◌, length, get_or, subst}
use Rattle.dbn_value.specs.Scope.{bind}
use Rattle.dbn_arc.proofs.SumLaws.{arc_more, arc_grown}
use Rattle.dbn_arc.proofs.instantiation.instantiate.Goals as goal

pub loop-arc-preserved : goal.loop-arc-preserved
loop-arc-preserved c =
    let same : c.as_slice-arc-items.result.now ≡ c.args.arcs.now = c.as_slice-arc-items.ensures in
    let arc = c.arc-item.result in
    let i = c.loop-arc.arc-index in
    arc_more (bind c.args.scope.now c.args.row.now []) c.args.arcs.now i arc c.loop-arc.sums.entries c.add_patterns.new.sums.entries _
    (subst (λ l. i < length l) same c.loop-arc-test.true) (subst (λ l. arc ≡ get_or l i arc) same c.arc-item.is)
    (arc_grown arc.place c.args.scope.now c.as_slice-in-loop-arc.result.now c.args.row.now arc.patterns c.as_slice.result.now c.loop-arc.sums.entries c.add_patterns.new.sums.entries c.as_slice.ensures c.as_slice-in-loop-arc.ensures c.in_ok-add_patterns.ensures)
    c.loop-arc.invariant
