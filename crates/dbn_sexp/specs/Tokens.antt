-- The tokens of a text, each with the line of its first byte.
use Rattle.std.specs.Prelude.{ℕ, zero, suc, ◌+◌, Bool, true, false, ◌||◌, ◌==◌, if◌then◌else◌, List, [], ◌∷◌, ◌++◌, take}
use Rattle.std.specs.List.{position_or_len}

pub data Kind : Type 0 where
  Open : Kind
  Close : Kind
  -- a word, or a text with its quotes
  Atom : List ℕ → Kind

pub record Token : Type 0 where
  pub line : ℕ
  pub kind : Kind

abbrev pub is_line_feed : ℕ → Bool
is_line_feed b = b == 10

-- white space: space, tab, line feed and carriage return
abbrev pub is_blank : ℕ → Bool
is_blank b = b == 32 || b == 9 || b == 10 || b == 13

-- where a word ends: at white space, ( ) ; and a quote
abbrev pub ends_word : ℕ → Bool
ends_word b = is_blank b || b == 40 || b == 41 || b == 59 || b == 34

-- how many bytes of a text stand behind its opening quote, the closing one counted, or all where it isn't closed;
-- a byte is escaped where a backslash stands before it that isn't escaped
abbrev pub text_rest : Bool → List ℕ → ℕ
text_rest escaped [] = 0
text_rest true (b ∷ bytes) = 1 + text_rest false bytes
text_rest false (b ∷ bytes) = if b == 34 then 1 else 1 + text_rest (b == 92) bytes

-- how many bytes behind the first one belong to the same comment, text or word
unfoldable pub more : ℕ → List ℕ → ℕ
more b bytes =
    if b == 59 then position_or_len is_line_feed bytes
    else if b == 34 then text_rest false bytes
    else if ends_word b then 0
    else position_or_len ends_word bytes

-- how many bytes the token, comment or blank takes that stands first
abbrev pub piece_len : List ℕ → ℕ
piece_len [] = 0
piece_len (b ∷ bytes) = 1 + more b bytes

-- the token with this first byte and these bytes, the first one counted; white space and comments are none
unfoldable pub token_of : ℕ → ℕ → List ℕ → List Token
token_of line first bytes =
    if is_blank first || first == 59 then []
    else if first == 40 then record { line = line; kind = Open } ∷ []
    else if first == 41 then record { line = line; kind = Close } ∷ []
    else record { line = line; kind = Atom bytes } ∷ []

-- the line of the byte behind b
abbrev pub line_after : ℕ → ℕ → ℕ
line_after line b = if is_line_feed b then line + 1 else line

-- the tokens of bytes that begin on a line; the first `skip` of them belong to a token or comment before
unfoldable pub tokens : ℕ → ℕ → List ℕ → List Token
tokens line skip [] = []
tokens line zero (b ∷ bytes) = token_of line b (b ∷ take (more b bytes) bytes) ++ tokens (line_after line b) (more b bytes) bytes
tokens line (suc skip) (b ∷ bytes) = tokens (line_after line b) skip bytes
