use Rattle.std.proofs.Common.{sym, ◌∙◌, inl, inr, ⊎_elim}
use Rattle.dbn_net.proofs.SentenceLaws.{partner_done}
use Rattle.dbn_net.proofs.sentences.partner.Goals as goal

pub returns : goal.returns
returns c =
    sym (c.loop-field.invariant
    ∙ partner_done c.loop-field.field-iterator.a.rest.now c.loop-field.field-iterator.b.rest.now c.args.column (⊎_elim (λ s. inl s.1.0) (λ s. inr s.1.0) c.in-None.ensures.steps))
