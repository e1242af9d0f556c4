use Rattle.std.proofs.Common.{sym, ◌∙◌, inl, inr, ⊎_elim}
use Rattle.dbn_reader.proofs.PairLaws.{row_ended}
use Rattle.dbn_reader.proofs.typing.row_fits.Goals as goal

pub returns : goal.returns
returns c =
    let left = c.loop-value.value-iterator in
    sym (c.loop-value.invariant ∙ row_ended left.a.rest.now left.b.rest.now (⊎_elim (λ s. inl s.1.0) (λ s. inr s.1.0) c.in-None.ensures.steps))
