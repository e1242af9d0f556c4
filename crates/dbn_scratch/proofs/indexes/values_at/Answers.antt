use Rattle.std.proofs.Common.{inl, inr, ⊎_elim, ◌∙◌}
use Rattle.dbn_value.specs.Scope.{value_of}
use Rattle.dbn_scratch.specs.Envs.{env_of}
use Rattle.dbn_scratch.proofs.IndexLaws.{values_ended}
use Rattle.dbn_scratch.proofs.indexes.values_at.Goals as goal

pub returns : goal.returns
returns c =
    c.from_vec.ensures
    ∙ values_ended (value_of (env_of c.args.env.now)) c.loop-mark.mark-iterator.a.rest.now c.loop-mark.mark-iterator.b.rest.now c.loop-mark.cells.items _
    (⊎_elim (λ s. inl s.1.0) (λ s. inr s.1.0) c.in-None.ensures.steps) c.loop-mark.invariant
