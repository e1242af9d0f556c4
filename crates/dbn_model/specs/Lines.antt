-- The lines of a text, and which of them are too long.
use Rattle.std.specs.Prelude.{ℕ, List, [], ◌∷◌, length, map, take, cond, ◌==◌, nat_lt}
use Rattle.std.specs.List.{slice_split}

-- a line without its end, or a line that is too long
pub data Line : Type 0 where
  Text : List ℕ → Line
  Long : Line

-- the greatest length of a line, a carriage return at its end counted
abbrev pub line_limit : ℕ
line_limit = 65536

-- a last part without bytes is no line
abbrev pub without_empty_end : List (List ℕ) → List (List ℕ)
without_empty_end [] = []
without_empty_end ([] ∷ []) = []
without_empty_end (part ∷ parts) = part ∷ without_empty_end parts

-- one carriage return at the end is dropped
abbrev pub without_return : List ℕ → List ℕ
without_return [] = []
without_return (byte ∷ []) = cond (byte == 13) [] (byte ∷ [])
without_return (byte ∷ bytes) = byte ∷ without_return bytes

-- the bytes before each line feed, and those after the last one, empty or not
abbrev pub parts : List ℕ → List (List ℕ)
parts bytes = slice_split (λ byte. byte == 10) bytes

-- the bytes before each line feed, and those after the last one where there are any
abbrev pub raw_lines : List ℕ → List (List ℕ)
raw_lines bytes = without_empty_end (parts bytes)

abbrev pub line_of : List ℕ → Line
line_of raw = cond (nat_lt line_limit (length raw)) Long (Text (without_return raw))

abbrev pub lines : List ℕ → List Line
lines bytes = map line_of (raw_lines bytes)

abbrev pub all_but_last : List (List ℕ) → List (List ℕ)
all_but_last [] = []
all_but_last (part ∷ []) = []
all_but_last (part ∷ next ∷ parts) = part ∷ all_but_last (next ∷ parts)

abbrev pub last_of : List (List ℕ) → List ℕ
last_of [] = []
last_of (part ∷ []) = part
last_of (part ∷ next ∷ parts) = last_of (next ∷ parts)

-- the lines that end with a line feed
abbrev pub whole_lines : List ℕ → List Line
whole_lines bytes = map line_of (all_but_last (parts bytes))

-- the bytes behind the last line feed
abbrev pub last_part : List ℕ → List ℕ
last_part bytes = last_of (parts bytes)

-- the lines that are due where at most so many bytes are taken: all of them, or where there are more bytes, those that
-- end within so many
abbrev pub due_lines : ℕ → List ℕ → List Line
due_lines most bytes = cond (nat_lt most (length bytes)) (whole_lines (take most bytes)) (lines bytes)
