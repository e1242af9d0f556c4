use Rattle.std.proofs.Common.{◌≡◌}
use Rattle.dbn_formula.specs.Typing.{terms_fit}
use Rattle.dbn_reader.specs.Scopes.{entries}
use Rattle.dbn_reader.proofs.formula_types.terms_fit.Given as goal

abbrev pub invariant-loop-term : goal.invariant-loop-term
invariant-loop-term l =
    terms_fit (entries l.scope) l.terms l.shape ≡ terms_fit (entries l.scope) l.term-iterator.a.rest.now l.term-iterator.b.rest.now
