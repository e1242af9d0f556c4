use Rattle.std.proofs.Common.{◌≡◌, drop}
use Rattle.dbn_formula.specs.Typing.{type_under}
use Rattle.dbn_formula.proofs.typing.type_under.Given as goal

abbrev pub invariant-loop-entry : goal.invariant-loop-entry
invariant-loop-entry l = type_under l.vars l.var l.fn.outside ≡ type_under (drop l.entry-index l.vars) l.var l.found
