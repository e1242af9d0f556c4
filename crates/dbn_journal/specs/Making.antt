-- What the parts of making a file leave.
use Rattle.std.specs.Prelude.{◌≡◌, ◌⊎◌, ◌&&◌, nat_le, get_or, ℕ, ◌<◌, Bool, false, cond, not, ◌==◌, List, [], ◌∷◌, ◌++◌, length, take, drop}
use Rattle.dbn_journal.specs.Records.{open_gate}

-- there is a first byte, and it is shut
abbrev pub has_shut_first : List ℕ → Bool
has_shut_first [] = false
has_shut_first (first ∷ rest) = not (first == open_gate)

-- the first byte is shut: 0 in an empty file and in an open one
abbrev pub closed : List ℕ → List ℕ
closed file = cond (has_shut_first file) file (0 ∷ drop 1 file)

-- the first byte, and then all the rest
abbrev pub filled : List ℕ → List ℕ → List ℕ
filled rest file = take 1 file ++ rest

-- the first byte is open
abbrev pub opened : List ℕ → List ℕ
opened file = open_gate ∷ drop 1 file

-- an image of before, but for its first byte
pub record IsClosing (old : List ℕ → Type 0) (file : List ℕ) : Type 0 where
  pub from : List ℕ
  pub image : old from
  pub rest : drop 1 file ≡ drop 1 from

-- these bytes, but for the first one
pub record IsOpening (bytes file : List ℕ) : Type 0 where
  pub some : 0 < length file
  pub rest : drop 1 file ≡ drop 1 bytes

-- a file counts where it has two bytes at least, and its first byte is open
abbrev pub is_open : List ℕ → Bool
is_open file = nat_le 2 (length file) && (get_or file 0 0 == open_gate)

-- these bytes still, or a file that doesn't count
abbrev pub IsSameOrNotOpen : List ℕ → List ℕ → Type 0
IsSameOrNotOpen bytes file = (file ≡ bytes) ⊎ (is_open file ≡ false)
