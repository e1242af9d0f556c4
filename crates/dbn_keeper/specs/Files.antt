-- What the bytes of two files stand for: the header, which file counts, and the records behind it.
use Rattle.std.specs.Prelude.{ℕ, ◌+◌, ◌^◌, Bool, false, cond, ◌&&◌, ◌==◌, nat_le, nat_lt, List, [], ◌∷◌, ◌++◌, length, take, drop, get_or}
use Rattle.std.specs.Int.{w32, w64, to_be_bytes, from_be_bytes}
use Rattle.dbn_journal.specs.Records.{open_gate, RecordList, records_from}
use Rattle.dbn_journal.specs.Making.{is_open}
use Rattle.dbn_keeper.specs.declared.base.Base.{Base}
use Rattle.dbn_keeper.specs.declared.opening.Form.{Form}
use Rattle.dbn_keeper.specs.declared.opening.Form.TheVariants.{One, Two}
use Rattle.dbn_keeper.specs.declared.opening.Opening.{Opening}
use Rattle.dbn_keeper.specs.declared.opening.Opening.TheVariants.{NotOpen, Foreign, Marked}

-- what the chosen file holds
pub record Store : Type 0 where
  pub form : Form
  pub base : Base
  pub generation : ℕ
  pub bodies : List (List ℕ)
  -- the bodies end at a torn gate, which is damage; otherwise at a shut one
  pub torn : Bool

-- what the bytes of two files say: no file is open, there is something else, or a store, whose text and bodies are judged by others
pub data Folder : Type 0 where
  NotMade : Folder
  NotAStore : Folder
  Holds : Store → Folder

-- the number in the eight bytes at this place
abbrev pub number64 : ℕ → List ℕ → ℕ
number64 at file = from_be_bytes w64 (take 8 (drop at file))

-- the number in the four bytes at this place
abbrev pub number32 : ℕ → List ℕ → ℕ
number32 at file = from_be_bytes w32 (take 4 (drop at file))

-- `DBN` stands behind the first byte
abbrev pub has_letters : List ℕ → Bool
has_letters file = (get_or file 1 0 == 68) && ((get_or file 2 0 == 66) && (get_or file 3 0 == 78))

abbrev pub is_generation : ℕ → Bool
is_generation generation = nat_le 1 generation && nat_le generation (2 ^ 62)

-- and behind these the form, by the digit 1 or 2
abbrev pub marked : ℕ → ℕ → Opening
marked digit generation = cond (digit == 49) (Marked One generation) (cond (digit == 50) (Marked Two generation) Foreign)

-- what an open file says by its first thirteen bytes
abbrev pub header_of : List ℕ → Opening
header_of front = cond (nat_le 13 (length front) && (has_letters front && is_generation (number64 5 front))) (marked (get_or front 4 0) (number64 5 front)) Foreign

abbrev pub opening_in : List ℕ → Opening
opening_in front = cond (is_open front) (header_of front) NotOpen

-- what a file says by its first thirteen bytes
abbrev pub opening_of : List ℕ → Opening
opening_of file = opening_in (take 13 file)

-- the place of the first gate, by the first thirty-three bytes: the text's length stands in the last four of them
abbrev pub first_gate_in : List ℕ → ℕ
first_gate_in front = 33 + number32 29 front

abbrev pub first_gate : List ℕ → ℕ
first_gate file = first_gate_in (take 33 file)

-- the two numbers of the base, by the first thirty-three bytes, and the text behind them
abbrev pub base_in : List ℕ → List ℕ → Base
base_in front file = record { fired = number64 13 front; next = number64 21 front; text = take (number32 29 front) (drop 33 file) }

abbrev pub base_of : List ℕ → Base
base_of file = base_in (take 33 file) file

-- the first gate stands in the file, and the numbers of the base are in their range
abbrev pub has_base : List ℕ → Bool
has_base file = nat_lt (first_gate file) (length file) && (nat_le (base_of file).fired (2 ^ 62) && nat_le (base_of file).next (2 ^ 62))

abbrev pub store_with : Form → ℕ → Base → RecordList → Store
store_with form generation base list = record { form = form; base = base; generation = generation; bodies = list.bodies; torn = list.torn }

-- what a file of this form and generation stands for where it is chosen
abbrev pub holds : Form → ℕ → List ℕ → Folder
holds form generation file = cond (has_base file) (Holds (store_with form generation (base_of file) (records_from (first_gate file) file))) NotAStore

-- the file with the greater generation is chosen, the first one where they are equal
abbrev pub choose : Opening → Opening → List ℕ → List ℕ → Folder
choose NotOpen NotOpen a b = NotMade
choose NotOpen Foreign a b = NotAStore
choose NotOpen (Marked form generation) a b = holds form generation b
choose Foreign other a b = NotAStore
choose (Marked form generation) NotOpen a b = holds form generation a
choose (Marked form generation) Foreign a b = NotAStore
choose (Marked form generation) (Marked form' generation') a b = cond (nat_le generation' generation) (holds form generation a) (holds form' generation' b)

-- what two files stand for
abbrev pub folder : List ℕ → List ℕ → Folder
folder a b = choose (opening_of a) (opening_of b) a b

-- all but the first byte of a new file, which has form two and no record
abbrev pub rest_of : ℕ → Base → List ℕ
rest_of generation base = (68 ∷ 66 ∷ 78 ∷ 50 ∷ []) ++ (to_be_bytes w64 generation ++ (to_be_bytes w64 base.fired ++ (to_be_bytes w64 base.next ++ (to_be_bytes w32 (length base.text) ++ (base.text ++ 0 ∷ [])))))

-- a new file
abbrev pub file_of : ℕ → Base → List ℕ
file_of generation base = open_gate ∷ rest_of generation base

-- what it stands for
abbrev pub new_store : ℕ → Base → Store
new_store generation base = record { form = Two; base = base; generation = generation; bodies = []; torn = false }

-- the store with one body more
abbrev pub with_body : List ℕ → Store → Store
with_body body store = record { form = store.form; base = store.base; generation = store.generation; bodies = store.bodies ++ body ∷ []; torn = false }

-- the bytes that the records of these bodies take, without the gate behind them
abbrev pub space : List (List ℕ) → ℕ
space [] = 0
space (body ∷ bodies) = 5 + length body + space bodies

-- the place of the gate behind so many bodies
abbrev pub place_behind : ℕ → Store → ℕ
place_behind records store = 33 + length store.base.text + space (take records store.bodies)
