use Rattle.std.proofs.Common.{inl, inr, ⊎_elim}
use Rattle.dbn_command.proofs.WriteLaws.{bound_done}
use Rattle.dbn_command.proofs.writing.add_all_bound.Goals as goal

pub returns : goal.returns
returns c =
    bound_done c.loop-var.out.items _ c.loop-var.var-iterator.a.rest.now c.loop-var.var-iterator.b.rest.now
    (⊎_elim (λ s. inl s.1.0) (λ s. inr s.1.0) c.in-None.ensures.steps) c.loop-var.invariant
