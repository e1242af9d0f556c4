use Rattle.std.proofs.Common.{inl, inr, ⊎_elim}
use Rattle.dbn_scratch.specs.Envs.{env_of}
use Rattle.dbn_scratch.proofs.LoopLaws.{all_bound}
use Rattle.dbn_scratch.proofs.listing.bound.Goals as goal

pub returns : goal.returns
returns c =
    all_bound c.loop-var.var-iterator.a.rest.now c.loop-var.var-iterator.b.rest.now (env_of c.loop-var.env.items) _
    (⊎_elim (λ s. inl s.1.0) (λ s. inr s.1.0) c.in-None.ensures.steps) c.loop-var.invariant
