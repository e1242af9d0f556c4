-- What is known of a disk in memory.
use Rattle.std.specs.Prelude.{◌≡◌, ℕ, ◌+◌, ◌^◌, ◌<◌, ◌≤◌, Bool, true, false, cond, List, [], ◌∷◌, ◌++◌, length, Some, ⊤}
use Rattle.std.specs.List.{All}
use Rattle.dbn_io.specs.Memory.{Plan, begun}
use Rattle.dbn_disk.specs.Disk.{DiskState}
use Rattle.dbn_disk.specs.Images.{Moment, IsImage, WasImage, settled, after_calls}
use Rattle.dbn_disk.specs.declared.log.Call.{Call}
use Rattle.dbn_disk.specs.declared.log.Call.TheVariants.{Write, Cut, Sync}

-- what it began with, the calls since then that its clock counts, and which calls are to fail
pub record MemState : Type 0 where
  pub first : List ℕ
  pub calls : List Call
  pub plan : Plan

-- the moment that it has come to
abbrev pub present : MemState → Moment
present m = after_calls (settled m.first) m.calls

-- all that it means as a disk
abbrev pub disk_state : MemState → DiskState
disk_state m = record {
  content = Some (present m).held;
  image = IsImage (present m);
  since = WasImage m.first m.calls;
  clock = length m.calls;
  honest = true;
  faults = m.plan.faults;
}

-- before the first call
abbrev pub fresh : List ℕ → List ℕ → MemState
fresh bytes fails = record { first = bytes; calls = []; plan = begun fails }

-- a write or a cut was counted since the last sync that succeeded, or something was pending before and none succeeded
abbrev pub pending_after : Bool → List Call → Bool
pending_after before [] = before
pending_after before (Write at bytes done ∷ calls) = pending_after true calls
pending_after before (Cut to done ∷ calls) = pending_after true calls
pending_after before (Sync ∷ calls) = pending_after false calls

abbrev pub is_pending : List Call → Bool
is_pending calls = pending_after false calls

-- a sync that succeeds is counted where something is pending
abbrev pub then_sync : List Call → List Call
then_sync calls = cond (is_pending calls) (calls ++ Sync ∷ []) calls

-- a write ends by 2^62
abbrev pub IsSized : Call → Type 0
IsSized (Write at bytes done) = at + length bytes ≤ 2 ^ 62
IsSized (Cut to done) = ⊤
IsSized Sync = ⊤

-- what its fields keep: the bytes held, whether something is pending, and room for the entry of the next sync
pub record IsMemDisk (first : List ℕ) (calls : List Call) (held : List ℕ) (pending : Bool) (count capacity : ℕ) : Type 0 where
  pub held_is : held ≡ (after_calls (settled first) calls).held
  pub pending_is : pending ≡ is_pending calls
  pub clean : pending ≡ false → after_calls (settled first) calls ≡ settled held
  pub room : pending ≡ true → count < capacity
  pub sized : All IsSized calls
