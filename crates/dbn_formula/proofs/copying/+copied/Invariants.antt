use Rattle.std.proofs.Common.{◌≡◌, take}
use Rattle.dbn_formula.proofs.copying.+copied.Given as goal

abbrev pub invariant-each_copied-loop-part : goal.invariant-each_copied-loop-part
invariant-each_copied-loop-part l = l.copies ≡ take l.part-index l.parts
