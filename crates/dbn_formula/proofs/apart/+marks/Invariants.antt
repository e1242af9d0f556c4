use Rattle.std.proofs.Common.{◌≡◌, ◌++◌, take}
use Rattle.std.specs.List.{flat_map}
use Rattle.dbn_formula.specs.Apart.{marks}
use Rattle.dbn_formula.proofs.apart.+marks.Given as goal

abbrev pub invariant-add_each-loop-part : goal.invariant-add_each-loop-part
invariant-add_each-loop-part l = l.out.items ≡ l.fn.out.items ++ flat_map marks (take l.part-index l.parts)
