use Rattle.std.proofs.Common.{sym, ◌∙◌, inl, inr, ⊎_elim}
use Rattle.dbn_reader.proofs.PairLaws.{types_ended}
use Rattle.dbn_reader.proofs.typing.types_eq.Goals as goal

pub returns : goal.returns
returns c =
    let left = c.loop-kind.kind-iterator in
    sym (c.loop-kind.invariant ∙ types_ended left.a.rest.now left.b.rest.now (⊎_elim (λ s. inl s.1.0) (λ s. inr s.1.0) c.in-None.ensures.steps))
