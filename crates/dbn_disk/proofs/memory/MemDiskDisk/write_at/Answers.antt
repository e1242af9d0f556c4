use Rattle.std.proofs.Common.{◌≡◌, List, ◌∷◌, [], ◌++◌, not, ℕ, length, OnOk, ap, subst, ◌∙◌, arith}
use Rattle.std.specs.Option.{option_map}
use Rattle.dbn_disk.specs.Disk.{Elapses, Follows, Torn, written}
use Rattle.dbn_disk.specs.Images.{IsImage}
use Rattle.dbn_disk.specs.MemState.{MemState, present, disk_state}
use Rattle.dbn_disk.specs.declared.log.Call.{Call}
use Rattle.dbn_disk.specs.declared.log.Call.TheVariants.{Write}
use Rattle.dbn_disk.proofs.Present.{state, wrote_fields, wrote_value, wrote_crash, wrote_time}
use Rattle.dbn_disk.proofs.memory.MemDiskDisk.write_at.Goals as goal

noted : (c : goal.After-outcome) → c.note.new.calls.items ≡ c.self.inside.calls.items ++ Write c.args.at c.args.bytes.now (not c.fails_next-done.result) ∷ []
noted c =
    c.note.ensures.items
    ∙ ap (λ (l : List Call). l ++ Write c.args.at c.in-Ok.copy (not c.fails_next-done.result) ∷ []) c.prepare.ensures.calls
    ∙ ap (λ (b : List ℕ). c.self.inside.calls.items ++ Write c.args.at b (not c.fails_next-done.result) ∷ []) c.in-Ok.ensures.copy

pub invariant_of-self-2 : goal.invariant_of-self-2
invariant_of-self-2 c =
    wrote_fields c.self.inside.first c.self.inside.calls.items c.note.new.calls.items c.self.inside.plan c.fails_next-done.new.self c.args.at c.args.bytes.now (not c.fails_next-done.result) (noted c)
    c.prepare.new.held.items _ _ _ (c.prepare.ensures.held ∙ c.self.invariant.held_is) c.put_if.ensures c.self.invariant.sized c.requires (omega (arith, c.in-Ok.ensures.more))

pub returns-clause-value : goal.returns-clause-value
returns-clause-value c =
    subst (λ (old : MemState). OnOk c.outcome.result ((disk_state (state c.self.inside.first c.note.new.calls.items c.fails_next-done.new.self)).content ≡ option_map (written c.args.at c.args.bytes.now) (disk_state old).content)) c.self.view_is
    (wrote_value c.self.inside.first c.self.inside.calls.items c.note.new.calls.items c.self.inside.plan c.fails_next-done.new.self c.args.at c.args.bytes.now (not c.fails_next-done.result) (noted c) c.outcome.result c.outcome.ensures)

pub returns-clause-crash : goal.returns-clause-crash
returns-clause-crash c honest =
    subst (λ (old : MemState). Follows (Torn c.args.at (length c.args.bytes.now)) (IsImage (present old)) (IsImage (present (state c.self.inside.first c.note.new.calls.items c.fails_next-done.new.self)))) c.self.view_is
    (wrote_crash c.self.inside.first c.self.inside.calls.items c.note.new.calls.items c.self.inside.plan c.fails_next-done.new.self c.args.at c.args.bytes.now (not c.fails_next-done.result) (noted c))

pub returns-clause-time : goal.returns-clause-time
returns-clause-time c honest =
    subst (λ (old : MemState). Elapses (disk_state old) (disk_state (state c.self.inside.first c.note.new.calls.items c.fails_next-done.new.self))) c.self.view_is
    (wrote_time c.self.inside.first c.self.inside.calls.items c.note.new.calls.items c.self.inside.plan c.fails_next-done.new.self c.args.at c.args.bytes.now (not c.fails_next-done.result) (noted c))
