use Rattle.std.proofs.Common.{◌≡◌, drop}
use Rattle.std.specs.List.{list_all}
use Rattle.dbn_formula.specs.Distinct.{distinct}
use Rattle.dbn_formula.proofs.distinctness.+distinct.Given as goal

abbrev pub invariant-each_distinct-loop-part : goal.invariant-each_distinct-loop-part
invariant-each_distinct-loop-part l = list_all distinct l.parts ≡ list_all distinct (drop l.part-index l.parts)
