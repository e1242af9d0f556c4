use Rattle.std.proofs.Common.{◌≡◌, ◌+◌, ◌<◌, ◌≤◌, List, ℕ, Some, true, false, length, refl, sym, ap, ◌∙◌, arith}
use Rattle.dbn_value.specs.declared.member.Member.{Member}
use Rattle.dbn_command.specs.declared.reply.MemberWhy.{MemberWhy}
use Rattle.dbn_command.specs.declared.reply.Reply.TheVariants as reply
use Rattle.dbn_store.specs.States.{situation, run_state}
use Rattle.dbn_engine.specs.Steps.{Answer, has_room, why_of, group_lines, group_answer}
use Rattle.dbn_engine.proofs.Firings.{joined_more}
use Rattle.dbn_engine.proofs.Commands.{answered, no_work, same_state, nothing_done, recorded_done, recorded_changes, all_add, group_full, group_refused, group_fired}
use Rattle.dbn_engine.proofs.ReplyLaws.{group_refused as refused_at}
use Rattle.dbn_engine.proofs.recording.group_with.Goals as goal

pub returns-then-not-room-clause-changes : goal.returns-then-not-room-clause-changes
returns-then-not-room-clause-changes g c = no_work (g.K.Keeper.state c.args.keeper.now) _

pub returns-then-not-room-clause-done : goal.returns-then-not-room-clause-done
returns-then-not-room-clause-done g c =
    let s = situation (g.C.Core.rules c.args.core.now) (g.C.Core.state c.args.core.now) in
    let old = g.K.Keeper.state c.args.keeper.now in
    let r = run_state s old in
    let bytes = c.args.body.now in
    let members = c.args.members.now in
    let room = sym c.room.ensures ∙ c.if-not-room.true in
    nothing_done (group_answer r members) (g.C.Core.live c.args.core.now) (g.C.Core.live c.args.core.now) s s old (Some reply.StoreFull) c.said.result (group_full r members bytes c.requires.body c.requires.form room) c.said.ensures c.requires.joined refl c.requires.joined.core

pub returns-in-Err-Refused-clause-changes : goal.returns-in-Err-Refused-clause-changes
returns-in-Err-Refused-clause-changes g c = no_work (g.K.Keeper.state c.args.keeper.now) _

pub returns-in-Err-Memory-clause-changes : goal.returns-in-Err-Memory-clause-changes
returns-in-Err-Memory-clause-changes g c = no_work (g.K.Keeper.state c.args.keeper.now) _

pub returns-in-Err-Refused-clause-done : goal.returns-in-Err-Refused-clause-done
returns-in-Err-Refused-clause-done g c =
    let s = situation (g.C.Core.rules c.args.core.now) (g.C.Core.state c.args.core.now) in
    let old = g.K.Keeper.state c.args.keeper.now in
    let r = run_state s old in
    let bytes = c.args.body.now in
    let members = c.args.members.now in
    let room : has_room r (length bytes) ≡ true = sym c.room.ensures ∙ c.if-not-room.false in
    let leaves = rw c.in-Err-Refused.field-0-is at c.in-Err-Refused.ensures.leaves in
    nothing_done (group_answer r members) (g.C.Core.live c.args.core.now) (g.C.Core.live c.fire_group.new.self) s (situation (g.C.Core.rules c.fire_group.new.self) (g.C.Core.state c.fire_group.new.self)) old
    (Some (reply.Member (c.in-Err-Refused.member + 1) (why_of c.in-Err-Refused.why))) c.said-in-Err-Refused.result
    (group_refused r members bytes c.requires.body c.requires.form c.in-Err-Refused.member c.in-Err-Refused.why room leaves.0)
    ((rw c.in-Err-Refused.field-0-is at c.said-in-Err-Refused.ensures) ∙ ap (λ (w : MemberWhy). answered (Some (reply.Member (c.in-Err-Refused.member + 1) w)) false) (rw c.in-Err-Refused.field-0-is at c.member_why-why.ensures))
    c.requires.joined (same_state s.net (g.C.Core.rules c.fire_group.new.self) s.snapshot (g.C.Core.state c.fire_group.new.self) c.fire_group.ensures.net leaves.1) leaves.2

pub returns-in_err-append-in-Ok-clause-changes : goal.returns-in_err-append-in-Ok-clause-changes
returns-in_err-append-in-Ok-clause-changes g c =
    let s = situation (g.C.Core.rules c.args.core.now) (g.C.Core.state c.args.core.now) in
    let old = g.K.Keeper.state c.args.keeper.now in
    let r = run_state s old in
    let bytes = c.args.body.now in
    let members = c.args.members.now in
    let room : has_room r (length bytes) ≡ true = sym c.room.ensures ∙ c.if-not-room.false in
    let after = g.C.Core.state c.fire_group.new.self in
    let now = situation (g.C.Core.rules c.fire_group.new.self) after in
    let fires = c.in-Ok.ensures.leaves.0 in
    let same = same_state s.net (g.C.Core.rules c.fire_group.new.self) after after c.fire_group.ensures.net refl in
    recorded_changes (group_answer r members) (g.C.Core.live c.args.core.now) s old (g.K.Keeper.state c.append.new.self) bytes after c.requires.joined (g.met.K.Keeper.settled c.args.keeper.now c.requires.joined.keeper_live)
    (all_add old.form s members bytes c.in-Ok.all after c.requires.body fires) (ap (λ (a : Answer). a.next.now) (group_fired r members bytes c.requires.body c.requires.form c.in-Ok.all after room fires)) c.append.ensures.any_moment

pub returns-in_err-lines-in-Ok-clause-changes : goal.returns-in_err-lines-in-Ok-clause-changes
returns-in_err-lines-in-Ok-clause-changes g c =
    let s = situation (g.C.Core.rules c.args.core.now) (g.C.Core.state c.args.core.now) in
    let old = g.K.Keeper.state c.args.keeper.now in
    let r = run_state s old in
    let bytes = c.args.body.now in
    let members = c.args.members.now in
    let room : has_room r (length bytes) ≡ true = sym c.room.ensures ∙ c.if-not-room.false in
    let after = g.C.Core.state c.fire_group.new.self in
    let now = situation (g.C.Core.rules c.fire_group.new.self) after in
    let fires = c.in-Ok.ensures.leaves.0 in
    let same = same_state s.net (g.C.Core.rules c.fire_group.new.self) after after c.fire_group.ensures.net refl in
    recorded_changes (group_answer r members) (g.C.Core.live c.args.core.now) s old (g.K.Keeper.state c.append.new.self) bytes after c.requires.joined (g.met.K.Keeper.settled c.args.keeper.now c.requires.joined.keeper_live)
    (all_add old.form s members bytes c.in-Ok.all after c.requires.body fires) (ap (λ (a : Answer). a.next.now) (group_fired r members bytes c.requires.body c.requires.form c.in-Ok.all after room fires)) c.append.ensures.any_moment

pub returns-in_ok-lines-in-Ok-clause-changes : goal.returns-in_ok-lines-in-Ok-clause-changes
returns-in_ok-lines-in-Ok-clause-changes g c =
    let s = situation (g.C.Core.rules c.args.core.now) (g.C.Core.state c.args.core.now) in
    let old = g.K.Keeper.state c.args.keeper.now in
    let r = run_state s old in
    let bytes = c.args.body.now in
    let members = c.args.members.now in
    let room : has_room r (length bytes) ≡ true = sym c.room.ensures ∙ c.if-not-room.false in
    let after = g.C.Core.state c.fire_group.new.self in
    let now = situation (g.C.Core.rules c.fire_group.new.self) after in
    let fires = c.in-Ok.ensures.leaves.0 in
    let same = same_state s.net (g.C.Core.rules c.fire_group.new.self) after after c.fire_group.ensures.net refl in
    recorded_changes (group_answer r members) (g.C.Core.live c.args.core.now) s old (g.K.Keeper.state c.append.new.self) bytes after c.requires.joined (g.met.K.Keeper.settled c.args.keeper.now c.requires.joined.keeper_live)
    (all_add old.form s members bytes c.in-Ok.all after c.requires.body fires) (ap (λ (a : Answer). a.next.now) (group_fired r members bytes c.requires.body c.requires.form c.in-Ok.all after room fires)) c.append.ensures.any_moment

pub returns-in_ok-lines-in-Ok-clause-done : goal.returns-in_ok-lines-in-Ok-clause-done
returns-in_ok-lines-in-Ok-clause-done g c =
    let s = situation (g.C.Core.rules c.args.core.now) (g.C.Core.state c.args.core.now) in
    let old = g.K.Keeper.state c.args.keeper.now in
    let r = run_state s old in
    let bytes = c.args.body.now in
    let members = c.args.members.now in
    let room : has_room r (length bytes) ≡ true = sym c.room.ensures ∙ c.if-not-room.false in
    let after = g.C.Core.state c.fire_group.new.self in
    let now = situation (g.C.Core.rules c.fire_group.new.self) after in
    let fires = c.in-Ok.ensures.leaves.0 in
    let same = same_state s.net (g.C.Core.rules c.fire_group.new.self) after after c.fire_group.ensures.net refl in
    let new = g.K.Keeper.state c.append.new.self in
    let joined = joined_more (g.C.Core.live c.args.core.now) (g.C.Core.live c.fire_group.new.self) s now old new bytes after c.requires.joined (g.met.K.Keeper.settled c.args.keeper.now c.requires.joined.keeper_live)
    (all_add old.form s members bytes c.in-Ok.all after c.requires.body fires) same c.in-Ok.ensures.leaves.1 c.in_ok-append-in-Ok.ensures.live c.append.ensures.keeps c.in_ok-append-in-Ok.ensures.value in
    let lines : c.in_ok-lines-in-Ok.lines ≡ group_lines s.snapshot.fired members c.in-Ok.all = c.in_ok-lines-in-Ok.ensures ∙ ap (λ (n : ℕ). group_lines n c.as_slice.result.now c.as_slice-in-Ok.result.now) c.fired-before.ensures ∙ ap (λ (l : List Member). group_lines s.snapshot.fired l c.as_slice-in-Ok.result.now) c.as_slice.ensures ∙ ap (group_lines s.snapshot.fired members) c.as_slice-in-Ok.ensures in
    recorded_done (group_answer r members) (g.C.Core.live c.fire_group.new.self) s now old new bytes after (reply.Group (group_lines s.snapshot.fired members c.in-Ok.all)) c.after_record.result
    (group_fired r members bytes c.requires.body c.requires.form c.in-Ok.all after room fires)
    (c.after_record.ensures ∙ ap (λ l. answered (Some (reply.Group l)) true) lines)
    same joined c.append.ensures.header c.in_ok-append-in-Ok.ensures.place c.append.ensures.keeps

pub overflow_add-number : goal.overflow_add-number
overflow_add-number g c =
    let s = situation (g.C.Core.rules c.args.core.now) (g.C.Core.state c.args.core.now) in
    let members = c.args.members.now in
    let leaves = rw c.in-Err-Refused.field-0-is at c.in-Err-Refused.ensures.leaves in
    let at = refused_at s.net 0 members s.snapshot (c.in-Err-Refused.member, c.in-Err-Refused.why) c.requires.sound.net c.requires.sound.snapshot c.requires.of_net.2 leaves.0 in
    let within : c.in-Err-Refused.member < 0 + length members = at.within in
    let few : length members ≤ 4096 = c.requires.of_net.1 in
    omega arith
