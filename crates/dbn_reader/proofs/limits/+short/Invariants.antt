use Rattle.std.proofs.Common.{◌≡◌, drop}
use Rattle.std.specs.List.{list_all}
use Rattle.dbn_reader.specs.Short.{short_formula}
use Rattle.dbn_reader.proofs.limits.+short.Given as goal

abbrev pub invariant-short_formulas-loop-part : goal.invariant-short_formulas-loop-part
invariant-short_formulas-loop-part l = list_all short_formula l.parts ≡ list_all short_formula (drop l.part-index l.parts)
