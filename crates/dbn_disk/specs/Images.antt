-- What a crash may leave of a disk, by the calls of writes, cuts and syncs so far.
use Rattle.std.specs.Prelude.{◌≡◌, ℕ, ◌+◌, ◌<◌, ◌≤◌, max, min, Bool, false, cond, ◌&&◌, nat_le, nat_lt, List, [], ◌∷◌, ◌++◌, length, take, get_or}
use Rattle.std.specs.List.{list_any}
use Rattle.dbn_disk.specs.Disk.{written}
use Rattle.dbn_disk.specs.declared.log.Call.{Call}
use Rattle.dbn_disk.specs.declared.log.Call.TheVariants.{Write, Cut, Sync}

-- a disk between two calls
pub record Moment : Type 0 where
  -- what a read gives
  pub held : List ℕ
  -- what was held at the last sync that succeeded, or at the start
  pub stable : List ℕ
  -- the least and the greatest length since then, each failed call taken as done and as not done
  pub least : ℕ
  pub most : ℕ
  -- the ranges written since then, failed writes included: the first place of each, and the place behind it
  pub covered : List (ℕ × ℕ)

abbrev pub covers : ℕ → ℕ × ℕ → Bool
covers place range = nat_le range.0 place && nat_lt place range.1

abbrev pub is_covered : List (ℕ × ℕ) → ℕ → Bool
is_covered ranges place = list_any (covers place) ranges

-- a crash at this moment may leave these bytes: a permitted length, and the stable byte at each place that no write covers
pub record IsImage (moment : Moment) (bytes : List ℕ) : Type 0 where
  pub least : moment.least ≤ length bytes
  pub most : length bytes ≤ moment.most
  pub stable : (i : ℕ) → i < moment.least → is_covered moment.covered i ≡ false → get_or bytes i 0 ≡ get_or moment.stable i 0

-- all that is held is stable
abbrev pub settled : List ℕ → Moment
settled bytes = record { held = bytes; stable = bytes; least = length bytes; most = length bytes; covered = [] }

abbrev pub then_call : Moment → Call → Moment
then_call m (Write at bytes done) = record {
  held = cond done (written at bytes m.held) m.held;
  stable = m.stable;
  least = m.least;
  most = max m.most (at + length bytes);
  covered = m.covered ++ (at, at + length bytes) ∷ [];
}
then_call m (Cut to done) = record {
  held = cond done (take to m.held) m.held;
  stable = m.stable;
  least = min m.least to;
  most = m.most;
  covered = m.covered;
}
then_call m Sync = settled m.held

abbrev pub after_calls : Moment → List Call → Moment
after_calls m [] = m
after_calls m (call ∷ calls) = after_calls (then_call m call) calls

-- after the first n calls on a disk that began with these bytes, all of them stable
abbrev pub moment_at : List ℕ → List Call → ℕ → Moment
moment_at first calls n = after_calls (settled first) (take n calls)

-- a crash at some moment since t, up to the last call, may have left these bytes; what a crash inside a call may leave, a
-- crash after it may leave too
pub record WasImage (first : List ℕ) (calls : List Call) (t : ℕ) (bytes : List ℕ) : Type 0 where
  pub at : ℕ
  pub from : t ≤ at
  pub in_time : at ≤ length calls
  pub image : IsImage (moment_at first calls at) bytes
