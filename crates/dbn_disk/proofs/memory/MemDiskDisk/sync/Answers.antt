use Rattle.std.proofs.Common.{◌≡◌, List, ℕ, Some, subst}
use Rattle.dbn_disk.specs.Disk.{Elapses, Only}
use Rattle.dbn_disk.specs.Images.{IsImage}
use Rattle.dbn_disk.specs.MemState.{MemState, present, disk_state}
use Rattle.dbn_disk.proofs.Present.{state, synced_fields, synced_same, synced_crash, synced_durable, synced_time, clean_durable}
use Rattle.dbn_disk.proofs.memory.MemDiskDisk.sync.Goals as goal

pub invariant_of-self-then-self : goal.invariant_of-self-then-self
invariant_of-self-then-self c =
    synced_fields c.self.inside.first c.self.inside.calls.items c.note.new.calls.items c.self.inside.plan c.fails_next.new.self c.note.ensures.items c.self.inside.held.items _ _ c.self.invariant.held_is c.self.invariant.sized

pub returns-then-self-clause-durable : goal.returns-then-self-clause-durable
returns-then-self-clause-durable c b honest =
    subst (λ (old : MemState). (disk_state old).content ≡ Some b → Only b (IsImage (present (state c.self.inside.first c.note.new.calls.items c.fails_next.new.self)))) c.self.view_is
    (synced_durable c.self.inside.first c.self.inside.calls.items c.note.new.calls.items c.self.inside.plan c.fails_next.new.self c.note.ensures.items b)

pub returns-then-self-clause-same : goal.returns-then-self-clause-same
returns-then-self-clause-same c =
    subst (λ (old : MemState). (disk_state (state c.self.inside.first c.note.new.calls.items c.fails_next.new.self)).content ≡ (disk_state old).content) c.self.view_is
    (synced_same c.self.inside.first c.self.inside.calls.items c.note.new.calls.items c.self.inside.plan c.fails_next.new.self c.note.ensures.items)

pub returns-then-self-clause-crash : goal.returns-then-self-clause-crash
returns-then-self-clause-crash c honest =
    subst (λ (old : MemState). (x : List ℕ) → IsImage (present (state c.self.inside.first c.note.new.calls.items c.fails_next.new.self)) x → IsImage (present old) x) c.self.view_is
    (synced_crash c.self.inside.first c.self.inside.calls.items c.note.new.calls.items c.self.inside.plan c.fails_next.new.self c.note.ensures.items)

pub returns-then-self-clause-time : goal.returns-then-self-clause-time
returns-then-self-clause-time c honest =
    subst (λ (old : MemState). Elapses (disk_state old) (disk_state (state c.self.inside.first c.note.new.calls.items c.fails_next.new.self))) c.self.view_is
    (synced_time c.self.inside.first c.self.inside.calls.items c.note.new.calls.items c.self.inside.plan c.fails_next.new.self c.note.ensures.items)

pub returns-else-self-clause-durable : goal.returns-else-self-clause-durable
returns-else-self-clause-durable c b honest =
    subst (λ (old : MemState). (disk_state old).content ≡ Some b → Only b (IsImage (present (state c.self.inside.first c.self.inside.calls.items c.fails_next.new.self)))) c.self.view_is
    (clean_durable (state c.self.inside.first c.self.inside.calls.items c.self.inside.plan) c.self.inside.held.items (c.self.invariant.clean c.if-self.false) b)
