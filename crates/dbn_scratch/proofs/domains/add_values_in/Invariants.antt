use Rattle.std.proofs.Common.{◌≡◌, ◌++◌, drop}
use Rattle.dbn_formula.specs.Answers.{values_in}
use Rattle.dbn_scratch.specs.Given.{row_of}
use Rattle.dbn_scratch.proofs.domains.add_values_in.Given as goal

abbrev pub invariant-loop-rel : goal.invariant-loop-rel
invariant-loop-rel l = row_of l.out.items ++ values_in (drop l.rel l.instance) ≡ row_of l.fn.out.items ++ values_in l.instance
