use Rattle.std.proofs.Common.{sym, ◌∙◌, inl, inr, ⊎_elim}
use Rattle.dbn_reader.specs.Scopes.{entries}
use Rattle.dbn_reader.proofs.FitLaws.{terms_ended}
use Rattle.dbn_reader.proofs.formula_types.terms_fit.Goals as goal

pub returns : goal.returns
returns c =
    let left = c.loop-term.term-iterator in
    sym (c.loop-term.invariant ∙ terms_ended (entries c.args.scope.now) left.a.rest.now left.b.rest.now (⊎_elim (λ s. inl s.1.0) (λ s. inr s.1.0) c.in-None.ensures.steps))
