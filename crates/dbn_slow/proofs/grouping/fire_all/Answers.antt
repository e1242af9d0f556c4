use Rattle.std.proofs.Common.{◌+◌, drop, sym, ap, ◌∙◌}
use Rattle.std.proofs.lemmas.List.{drop_all}
use Rattle.dbn_value.proofs.MemberLaws.{recursion_at}
use Rattle.dbn_core.specs.Group.{IsMember, group_from}
use Rattle.dbn_core.proofs.GoodLaws.{good_at}
use Rattle.dbn_slow.proofs.LoopLaws.{in_index, told_all, told_done, fired_turn, refused_turn}
use Rattle.dbn_slow.proofs.grouping.fire_all.Goals as goal

pub returns-in-Err-Refused : goal.returns-in-Err-Refused
returns-in-Err-Refused c =
    rw c.in-Err-Refused.field-0-is
    (sym c.loop-number.invariant.1
    ∙ refused_turn c.args.net.now c.args.members.now c.loop-number.number c.index-members-number.result c.loop-number.now c.loop-number.all _ c.loop-number-test.true c.index-members-number.is
    (rw c.in-Err-Refused.field-0-is at c.in-Err-Refused.ensures))

pub loop-number-preserved : goal.loop-number-preserved
loop-number-preserved c =
    let net = c.args.net.now in
    let members = c.args.members.now in
    let i = c.loop-number.number in
    let m = c.index-members-number.result in
    let member = recursion_at (IsMember net) m members c.requires.members (in_index members i m c.loop-number-test.true c.index-members-number.is) in (
      good_at net c.loop-number.now c.in-Ok.made.at m.t m.row c.in-Ok.made.fired c.decls-net.ensures.net c.loop-number.invariant.0 member.shape c.in-Ok.ensures,
      ap (λ fs. told_all fs (group_from (i + 1) net (drop (i + 1) members) c.in-Ok.made.at)) c.in_ok-push-in-Ok.ensures.ok
          ∙ fired_turn net members i m c.loop-number.now c.in-Ok.made.at c.loop-number.all c.in-Ok.made.fired c.loop-number-test.true c.index-members-number.is c.in-Ok.ensures ∙ c.loop-number.invariant.1,
    )

pub returns : goal.returns
returns c =
    let i = c.loop-number.number in
    sym c.loop-number.invariant.1
    ∙ ap (λ ms. told_all c.loop-number.all (group_from i c.args.net.now ms c.loop-number.now)) (drop_all i c.args.members.now c.loop-number-test.false)
    ∙ told_done c.loop-number.all c.loop-number.now
