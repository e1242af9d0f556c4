use Rattle.std.proofs.Common.{◌+◌, ◌-◌, ◌*◌, drop, take, length, sum_by}
use Rattle.dbn_formula.proofs.Weights.{weight}
use Rattle.dbn_plan.proofs.StepLaws.{AllSoFar}
use Rattle.dbn_plan.proofs.MadeLaws.{OrSoFar}
use Rattle.dbn_plan.proofs.forms.+compiled.Given as goal

abbrev pub decreases-compile_at : goal.decreases-compile_at
decreases-compile_at g l = 2 * weight l.f.now

abbrev pub decreases-all_parts : goal.decreases-all_parts
decreases-all_parts g l = 2 * sum_by weight l.parts.now + 1

abbrev pub decreases-denied : goal.decreases-denied
decreases-denied g l = 2 * weight l.part.now + 1

abbrev pub decreases-chosen : goal.decreases-chosen
decreases-chosen g l = 2 * weight l.body.now + 1

abbrev pub decreases-one_of : goal.decreases-one_of
decreases-one_of g l = 2 * weight l.part.now + 1

abbrev pub decreases-any_of : goal.decreases-any_of
decreases-any_of g l = 2 * sum_by weight l.parts.now + 2

abbrev pub decreases-some_part : goal.decreases-some_part
decreases-some_part g l = 2 * sum_by weight l.parts.now + 3

abbrev pub invariant-all_parts-loop-done : goal.invariant-all_parts-loop-done
invariant-all_parts-loop-done g l =
    AllSoFar g.P.Cell.Ord.cmp g.P.Cell.Cell.int_of (g.P.Coder.cell_of l.coder) l.sources.consts l.parts (drop l.done l.parts) l.fn.network l.network l.at.node l.at.labels l.now.node l.now.labels

abbrev pub decreases-all_parts-loop-done : goal.decreases-all_parts-loop-done
decreases-all_parts-loop-done g l = length l.parts - l.done

abbrev pub invariant-any_of-loop-i : goal.invariant-any_of-loop-i
invariant-any_of-loop-i g l =
    OrSoFar g.P.Cell.Ord.cmp g.P.Cell.Cell.int_of (g.P.Coder.cell_of l.coder) l.sources.consts l.parts (take l.i l.parts) l.fn.network l.network l.at.node l.at.labels l.made l.wanted
