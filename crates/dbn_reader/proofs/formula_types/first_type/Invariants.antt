use Rattle.std.proofs.Common.{◌≡◌, drop}
use Rattle.dbn_formula.specs.Typing.{type_in}
use Rattle.dbn_reader.proofs.formula_types.first_type.Given as goal

abbrev pub invariant-loop-entry : goal.invariant-loop-entry
invariant-loop-entry l = type_in l.vars l.var ≡ type_in (drop l.entry-index l.vars) l.var
