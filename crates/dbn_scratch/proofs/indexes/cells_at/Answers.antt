use Rattle.std.proofs.Common.{inl, inr, ⊎_elim, ◌∙◌}
use Rattle.dbn_scratch.proofs.IndexLaws.{key_ended}
use Rattle.dbn_scratch.proofs.indexes.cells_at.Goals as goal

pub returns : goal.returns
returns c =
    c.from_vec.ensures
    ∙ key_ended c.loop-mark.mark-iterator.a.rest.now c.loop-mark.mark-iterator.b.rest.now c.loop-mark.cells.items _
    (⊎_elim (λ s. inl s.1.0) (λ s. inr s.1.0) c.in-None.ensures.steps) c.loop-mark.invariant
