use Rattle.std.proofs.Common.{◌≡◌, ◌∷◌, ℕ, [], Some, true, false, length, refl, sym, ap, subst, ◌∙◌}
use Rattle.dbn_codec.specs.Bodies.{member_of}
use Rattle.dbn_command.specs.declared.reply.Reply.{Reply}
use Rattle.dbn_command.specs.declared.reply.Reply.TheVariants as reply
use Rattle.dbn_store.specs.States.{situation, run_state}
use Rattle.dbn_engine.specs.Steps.{Answer, has_room, refused, fired, fire_answer}
use Rattle.dbn_engine.specs.Obeying.{IsBody}
use Rattle.dbn_engine.proofs.Firings.{joined_more}
use Rattle.dbn_engine.proofs.Commands.{answered, no_work, same_state, nothing_done, recorded_done, recorded_changes, body_at, one_adds, fire_full, fire_refused, fire_fired}
use Rattle.dbn_engine.proofs.recording.fire_ready.Goals as goal

pub returns-in_err-body-clause-changes : goal.returns-in_err-body-clause-changes
returns-in_err-body-clause-changes g c = no_work (g.K.Keeper.state c.args.keeper.now) _

pub returns-then-not-room-clause-changes : goal.returns-then-not-room-clause-changes
returns-then-not-room-clause-changes g c = no_work (g.K.Keeper.state c.args.keeper.now) _

pub returns-then-not-room-clause-done : goal.returns-then-not-room-clause-done
returns-then-not-room-clause-done g c =
    let s = situation (g.C.Core.rules c.args.core.now) (g.C.Core.state c.args.core.now) in
    let old = g.K.Keeper.state c.args.keeper.now in
    let r = run_state s old in
    let m = member_of c.args.t c.args.row.now in
    let bytes = c.as_slice-bytes.result.now in
    let body : IsBody s.net old.form (m ∷ []) bytes = subst (IsBody s.net old.form (m ∷ [])) (sym c.as_slice-bytes.ensures) (body_at s.net c.net.result.now old.form c.form.result (m ∷ []) c.in_ok-body.body c.net.ensures c.form.ensures c.in_ok-body.ensures) in
    let room = sym c.room.ensures ∙ c.if-not-room.true in
    nothing_done (fire_answer r c.args.t c.args.row.now) (g.C.Core.live c.args.core.now) (g.C.Core.live c.args.core.now) s s old (Some reply.StoreFull) c.said.result
    (fire_full r c.args.t c.args.row.now bytes body c.requires.ready room) c.said.ensures c.requires.joined refl c.requires.joined.core

pub returns-in-Err-Refused-clause-changes : goal.returns-in-Err-Refused-clause-changes
returns-in-Err-Refused-clause-changes g c = no_work (g.K.Keeper.state c.args.keeper.now) _

pub returns-in-Err-Refused-clause-done : goal.returns-in-Err-Refused-clause-done
returns-in-Err-Refused-clause-done g c =
    let s = situation (g.C.Core.rules c.args.core.now) (g.C.Core.state c.args.core.now) in
    let old = g.K.Keeper.state c.args.keeper.now in
    let r = run_state s old in
    let m = member_of c.args.t c.args.row.now in
    let bytes = c.as_slice-bytes.result.now in
    let body : IsBody s.net old.form (m ∷ []) bytes = subst (IsBody s.net old.form (m ∷ [])) (sym c.as_slice-bytes.ensures) (body_at s.net c.net.result.now old.form c.form.result (m ∷ []) c.in_ok-body.body c.net.ensures c.form.ensures c.in_ok-body.ensures) in
    let room : has_room r (length bytes) ≡ true = sym c.room.ensures ∙ c.if-not-room.false in
    let leaves = rw c.in-Err-Refused.field-0-is at c.in-Err-Refused.ensures.leaves in
    nothing_done (fire_answer r c.args.t c.args.row.now) (g.C.Core.live c.args.core.now) (g.C.Core.live c.fire.new.self) s (situation (g.C.Core.rules c.fire.new.self) (g.C.Core.state c.fire.new.self)) old
    (Some (refused c.in-Err-Refused.why)) c.said-in-Err-Refused.result
    (fire_refused r c.args.t c.args.row.now bytes body c.requires.ready c.in-Err-Refused.why room leaves.0) (c.said-in-Err-Refused.ensures ∙ ap (λ (x : Reply). answered (Some x) false) (rw c.in-Err-Refused.field-0-is at c.refused.ensures))
    c.requires.joined (same_state s.net (g.C.Core.rules c.fire.new.self) s.snapshot (g.C.Core.state c.fire.new.self) c.fire.ensures.net leaves.1) leaves.2

pub returns-in_err-append-in-Ok-clause-changes : goal.returns-in_err-append-in-Ok-clause-changes
returns-in_err-append-in-Ok-clause-changes g c =
    let s = situation (g.C.Core.rules c.args.core.now) (g.C.Core.state c.args.core.now) in
    let old = g.K.Keeper.state c.args.keeper.now in
    let r = run_state s old in
    let m = member_of c.args.t c.args.row.now in
    let bytes = c.as_slice-bytes.result.now in
    let body : IsBody s.net old.form (m ∷ []) bytes = subst (IsBody s.net old.form (m ∷ [])) (sym c.as_slice-bytes.ensures) (body_at s.net c.net.result.now old.form c.form.result (m ∷ []) c.in_ok-body.body c.net.ensures c.form.ensures c.in_ok-body.ensures) in
    let room : has_room r (length bytes) ≡ true = sym c.room.ensures ∙ c.if-not-room.false in
    let after = g.C.Core.state c.fire.new.self in
    let now = situation (g.C.Core.rules c.fire.new.self) after in
    let fires = c.in-Ok.ensures.leaves.0 in
    let same = same_state s.net (g.C.Core.rules c.fire.new.self) after after c.fire.ensures.net refl in
    recorded_changes (fire_answer r c.args.t c.args.row.now) (g.C.Core.live c.args.core.now) s old (g.K.Keeper.state c.append.new.self) bytes after c.requires.joined (g.met.K.Keeper.settled c.args.keeper.now c.requires.joined.keeper_live)
    (one_adds old.form s m bytes c.in-Ok.fired after body fires) (ap (λ (a : Answer). a.next.now) (fire_fired r c.args.t c.args.row.now bytes body c.requires.ready c.in-Ok.fired after room fires)) c.append.ensures.any_moment

pub returns-in-Ok-clause-changes : goal.returns-in-Ok-clause-changes
returns-in-Ok-clause-changes g c =
    let s = situation (g.C.Core.rules c.args.core.now) (g.C.Core.state c.args.core.now) in
    let old = g.K.Keeper.state c.args.keeper.now in
    let r = run_state s old in
    let m = member_of c.args.t c.args.row.now in
    let bytes = c.as_slice-bytes.result.now in
    let body : IsBody s.net old.form (m ∷ []) bytes = subst (IsBody s.net old.form (m ∷ [])) (sym c.as_slice-bytes.ensures) (body_at s.net c.net.result.now old.form c.form.result (m ∷ []) c.in_ok-body.body c.net.ensures c.form.ensures c.in_ok-body.ensures) in
    let room : has_room r (length bytes) ≡ true = sym c.room.ensures ∙ c.if-not-room.false in
    let after = g.C.Core.state c.fire.new.self in
    let now = situation (g.C.Core.rules c.fire.new.self) after in
    let fires = c.in-Ok.ensures.leaves.0 in
    let same = same_state s.net (g.C.Core.rules c.fire.new.self) after after c.fire.ensures.net refl in
    recorded_changes (fire_answer r c.args.t c.args.row.now) (g.C.Core.live c.args.core.now) s old (g.K.Keeper.state c.append.new.self) bytes after c.requires.joined (g.met.K.Keeper.settled c.args.keeper.now c.requires.joined.keeper_live)
    (one_adds old.form s m bytes c.in-Ok.fired after body fires) (ap (λ (a : Answer). a.next.now) (fire_fired r c.args.t c.args.row.now bytes body c.requires.ready c.in-Ok.fired after room fires)) c.append.ensures.any_moment

pub returns-in-Ok-clause-done : goal.returns-in-Ok-clause-done
returns-in-Ok-clause-done g c =
    let s = situation (g.C.Core.rules c.args.core.now) (g.C.Core.state c.args.core.now) in
    let old = g.K.Keeper.state c.args.keeper.now in
    let r = run_state s old in
    let m = member_of c.args.t c.args.row.now in
    let bytes = c.as_slice-bytes.result.now in
    let body : IsBody s.net old.form (m ∷ []) bytes = subst (IsBody s.net old.form (m ∷ [])) (sym c.as_slice-bytes.ensures) (body_at s.net c.net.result.now old.form c.form.result (m ∷ []) c.in_ok-body.body c.net.ensures c.form.ensures c.in_ok-body.ensures) in
    let room : has_room r (length bytes) ≡ true = sym c.room.ensures ∙ c.if-not-room.false in
    let after = g.C.Core.state c.fire.new.self in
    let now = situation (g.C.Core.rules c.fire.new.self) after in
    let fires = c.in-Ok.ensures.leaves.0 in
    let same = same_state s.net (g.C.Core.rules c.fire.new.self) after after c.fire.ensures.net refl in
    let new = g.K.Keeper.state c.append.new.self in
    let joined = joined_more (g.C.Core.live c.args.core.now) (g.C.Core.live c.fire.new.self) s now old new bytes after c.requires.joined (g.met.K.Keeper.settled c.args.keeper.now c.requires.joined.keeper_live)
    (one_adds old.form s m bytes c.in-Ok.fired after body fires) same c.in-Ok.ensures.leaves.1 c.in_ok-append-in-Ok.ensures.live c.append.ensures.keeps c.in_ok-append-in-Ok.ensures.value in
    recorded_done (fire_answer r c.args.t c.args.row.now) (g.C.Core.live c.fire.new.self) s now old new bytes after (fired c.args.t after.fired c.in-Ok.fired) c.after_record.result
    (fire_fired r c.args.t c.args.row.now bytes body c.requires.ready c.in-Ok.fired after room fires)
    (c.after_record.ensures ∙ ap (λ (x : Reply). answered (Some x) true) (c.fired_reply.ensures ∙ ap (λ (n : ℕ). fired c.args.t n c.in-Ok.fired) c.fired.ensures))
    same joined c.append.ensures.header c.in_ok-append-in-Ok.ensures.place c.append.ensures.keeps
