-- Records in the bytes of a file: what a gate says, the list of records from a gate on, and what an append leaves.
use Rattle.std.specs.Prelude.{◌≡◌, ◌≢◌, ◌⊎◌, ℕ, zero, suc, ◌+◌, ◌<◌, Bool, true, false, cond, ◌==◌, nat_lt, List, [], ◌∷◌, ◌++◌, length, take, drop, get_or}
use Rattle.std.specs.Int.{w32, to_be_bytes, from_be_bytes}
use Rattle.dbn_disk.specs.Disk.{written}

-- what stands at a gate: another byte than that of an open one, an open one with a whole body and a gate behind it, or an
-- open one or no byte at all where the file ends too early
pub data Found : Type 0 where
  Shut : Found
  Held : List ℕ → Found
  Torn : Found

-- the byte of an open gate, 0xDB
abbrev pub open_gate : ℕ
open_gate = 219

-- a body of this length, where a gate stands behind it
abbrev pub body_in : ℕ → List ℕ → Found
body_in size rest = cond (nat_lt size (length rest)) (Held (take size rest)) Torn

-- the length of a body in four bytes, and the body
abbrev pub sized_body_in : List ℕ → Found
sized_body_in [] = Torn
sized_body_in (a ∷ []) = Torn
sized_body_in (a ∷ b ∷ []) = Torn
sized_body_in (a ∷ b ∷ c ∷ []) = Torn
sized_body_in (a ∷ b ∷ c ∷ d ∷ rest) = body_in (from_be_bytes w32 (a ∷ b ∷ c ∷ d ∷ [])) rest

-- the bytes from a gate on
abbrev pub gate_in : List ℕ → Found
gate_in [] = Torn
gate_in (gate ∷ rest) = cond (gate == open_gate) (sized_body_in rest) Shut

-- the records from a gate on
pub record RecordList : Type 0 where
  pub bodies : List (List ℕ)
  -- the place of the gate that ends the list
  pub end : ℕ
  -- that gate is torn, which is damage; otherwise it is shut
  pub torn : Bool

abbrev pub no_records : ℕ → Bool → RecordList
no_records place torn = record { bodies = []; end = place; torn = torn }

abbrev pub one_more_record : List ℕ → RecordList → RecordList
one_more_record body list = record { bodies = body ∷ list.bodies; end = list.end; torn = list.torn }

-- what stands at the gate at this place, and behind a whole body of some length the records from the next gate on
abbrev pub from_gate : Found → ℕ → (ℕ → RecordList) → RecordList
from_gate Shut place next = no_records place false
from_gate (Held body) place next = one_more_record body (next (length body))
from_gate Torn place next = no_records place true

-- at most so many records, from a gate at this place on, of these bytes from the gate on
abbrev pub records_within : ℕ → ℕ → List ℕ → RecordList
records_within zero place bytes = no_records place true
records_within (suc most) place bytes = from_gate (gate_in bytes) place (λ size. records_within most (place + 5 + size) (drop (5 + size) bytes))

-- the records of a file from a gate at this place on; there are fewer than it has bytes
abbrev pub records_from : ℕ → List ℕ → RecordList
records_from place file = records_within (length file) place (drop place file)

-- a byte stands at this place, and it is no open gate
pub record IsShutAt (place : ℕ) (file : List ℕ) : Type 0 where
  pub there : place < length file
  pub shut : get_or file place 0 ≢ open_gate

-- what stands behind an open gate: the length, the body and a shut gate
abbrev pub behind : List ℕ → List ℕ
behind body = to_be_bytes w32 (length body) ++ (body ++ 0 ∷ [])

-- a record with this body stands at this place, with a shut gate behind it
abbrev pub IsHeldAt : ℕ → List ℕ → List ℕ → Type 0
IsHeldAt place body file = take (6 + length body) (drop place file) ≡ open_gate ∷ behind body

-- the record written at this place
abbrev pub appended : ℕ → List ℕ → List ℕ → List ℕ
appended place body file = written place (open_gate ∷ behind body) file

-- up to this place an image of before, and there a shut gate or the record
pub record IsBeforeOrAfter (old : List ℕ → Type 0) (place : ℕ) (body file : List ℕ) : Type 0 where
  pub from : List ℕ
  pub image : old from
  pub front : take place file ≡ take place from
  pub gate : IsShutAt place file ⊎ IsHeldAt place body file

-- each of these files has the bytes of this one up to the place
abbrev pub AgreeUpTo : ℕ → List ℕ → (List ℕ → Type 0) → Type 0
AgreeUpTo place bytes files = (d : List ℕ) → files d → take place d ≡ take place bytes

-- the list with one more record at its end
abbrev pub with_record : List ℕ → RecordList → RecordList
with_record body list = record { bodies = list.bodies ++ body ∷ []; end = list.end + 5 + length body; torn = list.torn }

-- the records of a file from this gate on are those of the list, or those and one more
abbrev pub StandsForEither : ℕ → RecordList → List ℕ → List ℕ → Type 0
StandsForEither place list body file = (records_from place file ≡ list) ⊎ (records_from place file ≡ with_record body list)
