use Rattle.std.proofs.Common.{inl, inr, ⊎_elim}
use Rattle.dbn_engine.specs.Steps.{group_lines}
use Rattle.dbn_engine.proofs.GroupLines.{lines_done}
use Rattle.dbn_engine.proofs.replying.group_lines.Goals as goal

pub returns : goal.returns
returns c =
    lines_done c.loop-member.lines (group_lines c.args.before c.args.members.now c.args.all.now) c.loop-member.count c.loop-member.member-iterator.a.rest.now c.loop-member.member-iterator.b.rest.now
    (⊎_elim (λ s. inl s.1.0) (λ s. inr s.1.0) c.in-None.ensures.steps) c.loop-member.invariant.lines
