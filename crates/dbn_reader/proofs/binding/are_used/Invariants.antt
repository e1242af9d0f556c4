use Rattle.std.proofs.Common.{◌≡◌, drop}
use Rattle.std.specs.List.{list_all}
use Rattle.dbn_formula.specs.Variables.{is_in}
use Rattle.dbn_reader.proofs.binding.are_used.Given as goal

abbrev pub invariant-loop-var : goal.invariant-loop-var
invariant-loop-var l = list_all (λ x. is_in x.0 l.used) l.vars ≡ list_all (λ x. is_in x.0 l.used) (drop l.var-index l.vars)
