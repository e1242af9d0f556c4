-- What a disk holds, and what a crash may leave of it. All that is said of images speaks of an honest disk.
use Rattle.std.specs.Prelude.{◌≡◌, ◌⊎◌, ℕ, ◌+◌, ◌-◌, ◌<◌, ◌≤◌, max, min, Bool, List, ◌++◌, length, take, drop, replicate, get_or, Option, Some}
use Rattle.dbn_model.specs.Content.{SameTold}

-- all that a disk means at one moment
pub record DiskState : Type 1 where
  -- the bytes held, where they are told
  pub content : Option (List ℕ)
  -- a crash now may leave these bytes
  pub image : List ℕ → Type 0
  -- a crash at some moment since that one may have left these bytes
  pub since : ℕ → List ℕ → Type 0
  -- a number of the moment that never falls
  pub clock : ℕ
  pub honest : Bool
  -- how many faults there were so far
  pub faults : ℕ

abbrev pub zeros : ℕ → List ℕ
zeros n = replicate n 0

-- zeros behind, up to a length of n at least
abbrev pub padded : ℕ → List ℕ → List ℕ
padded n held = held ++ zeros (n - length held)

-- these bytes stand at this place, and zeros fill a gap before them
abbrev pub written : ℕ → List ℕ → List ℕ → List ℕ
written at bytes held = let wide = padded (at + length bytes) held in take at wide ++ (bytes ++ drop (at + length bytes) wide)

-- the bytes that a read gives are those from this place on, as many as there are, at most the buffer
abbrev pub ReadsFrom : ℕ → ℕ → List ℕ → List ℕ → Type 0
ReadsFrom at count into held = take count into ≡ take (length into) (drop at held)

-- every call: what is told stays told, and what is honest stays honest
pub record Keeps (old new : DiskState) : Type 0 where
  pub told : SameTold old.content new.content
  pub honest : new.honest ≡ old.honest

-- a write of n bytes that a crash cuts short: any bytes in the range and past the old end, the same elsewhere
pub record Torn (at n : ℕ) (old new : List ℕ) : Type 0 where
  pub same : (i : ℕ) → i < length old → (i < at) ⊎ (at + n ≤ i) → get_or new i 0 ≡ get_or old i 0
  pub no_shorter : length old ≤ length new
  pub no_longer : length new ≤ max (length old) (at + n)

-- a cut that a crash may undo: some length between, the same bytes before the cut, any behind it
pub record Cut (to : ℕ) (old new : List ℕ) : Type 0 where
  pub same : (i : ℕ) → i < to → i < length new → get_or new i 0 ≡ get_or old i 0
  pub no_longer : length new ≤ length old
  pub no_shorter : min to (length old) ≤ length new

-- each new image is an old image after this step
abbrev pub Follows : (List ℕ → List ℕ → Type 0) → (List ℕ → Type 0) → (List ℕ → Type 0) → Type 0
Follows Step old new = (c : List ℕ) → new c → (d : List ℕ) × old d × Step d c

-- a crash leaves this and nothing else
abbrev pub Only : List ℕ → (List ℕ → Type 0) → Type 0
Only bytes image = (c : List ℕ) → image c → c ≡ bytes

-- the clock stands, and the images are as before
pub record Still (old new : DiskState) : Type 0 where
  pub clock : new.clock ≡ old.clock
  pub image : (c : List ℕ) → new.image c → old.image c
  pub image_back : (c : List ℕ) → old.image c → new.image c
  pub since : (t : ℕ) (c : List ℕ) → new.since t c → old.since t c
  pub since_back : (t : ℕ) (c : List ℕ) → old.since t c → new.since t c

-- time goes on: the images since a moment are those since that moment before the call, and those of now
pub record Elapses (old new : DiskState) : Type 0 where
  pub later : old.clock ≤ new.clock
  pub nothing_else : (t : ℕ) (c : List ℕ) → t ≤ old.clock → new.since t c → old.since t c ⊎ new.image c
  pub keeps : (t : ℕ) (c : List ℕ) → t ≤ old.clock → old.since t c → new.since t c

-- a crash at any moment since old leaves bytes with P
pub record LeavesOnly (old new : DiskState) (P : List ℕ → Type 0) : Type 0 where
  pub later : old.clock ≤ new.clock
  pub each : (c : List ℕ) → new.since old.clock c → P c
  -- for work that began earlier
  pub before : (t : ℕ) (c : List ℕ) → t ≤ old.clock → new.since t c → old.since t c ⊎ P c
  pub keeps : (t : ℕ) (c : List ℕ) → t ≤ old.clock → old.since t c → new.since t c

-- the law of an honest disk
pub record IsSound (disk : DiskState) : Type 0 where
  -- what is read is one of the images
  pub held : (b : List ℕ) → disk.content ≡ Some b → disk.image b
  -- this moment is one of those since an earlier one
  pub now : (t : ℕ) (c : List ℕ) → t ≤ disk.clock → disk.image c → disk.since t c
  -- since this moment there is no other
  pub only_now : (c : List ℕ) → disk.since disk.clock c → disk.image c
