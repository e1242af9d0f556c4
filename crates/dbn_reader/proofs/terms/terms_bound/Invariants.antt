use Rattle.std.proofs.Common.{◌≡◌, drop}
use Rattle.std.specs.List.{list_all}
use Rattle.dbn_formula.specs.Variables.{binds}
use Rattle.dbn_formula.specs.Free.{variable_of}
use Rattle.dbn_reader.proofs.terms.terms_bound.Given as goal

abbrev pub invariant-loop-term : goal.invariant-loop-term
invariant-loop-term l =
    list_all (λ t. list_all (binds l.scope) (variable_of t)) l.terms ≡ list_all (λ t. list_all (binds l.scope) (variable_of t)) (drop l.term-index l.terms)
