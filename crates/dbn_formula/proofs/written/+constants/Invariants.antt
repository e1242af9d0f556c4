use Rattle.std.proofs.Common.{◌≡◌, ◌++◌, take}
use Rattle.std.specs.List.{flat_map}
use Rattle.dbn_formula.specs.Answers.{constants}
use Rattle.dbn_formula.proofs.written.+constants.Given as goal

abbrev pub invariant-add_each-loop-part : goal.invariant-add_each-loop-part
invariant-add_each-loop-part l = l.out ≡ l.fn.out ++ flat_map constants (take l.part-index l.parts)
