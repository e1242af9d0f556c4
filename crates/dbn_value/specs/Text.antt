-- Which bytes are a text, and which are a name.
use Rattle.std.specs.Prelude.{ℕ, Bool, false, not, ◌&&◌, ◌||◌, ◌==◌, nat_le, List, [], ◌∷◌, length, IsTrue}
use Rattle.std.specs.List.{list_any, list_all}
use Rattle.std.specs.Char.{is_control, is_ascii_alphabetic, is_ascii_alphanumeric}
use Rattle.std.specs.Str.{chars, is_utf8}

-- UTF-8 of at most 4,096 bytes without control characters (U+0000 to U+001F, U+007F to U+009F)
unfoldable pub is_text : List ℕ → Bool
is_text bytes = is_utf8 bytes && nat_le (length bytes) 4096 && not (list_any is_control (chars bytes))

abbrev pub IsText : List ℕ → Type 0
IsText bytes = IsTrue (is_text bytes)

-- ASCII letters, digits, `_` and `-`
abbrev pub is_name_byte : ℕ → Bool
is_name_byte b = is_ascii_alphanumeric b || b == 95 || b == 45

-- a letter, and then bytes of names
abbrev pub is_identifier : List ℕ → Bool
is_identifier [] = false
is_identifier (b ∷ bytes) = is_ascii_alphabetic b && list_all is_name_byte bytes

-- = < > , and != <= >=
abbrev pub is_operator : List ℕ → Bool
is_operator (a ∷ []) = a == 61 || a == 60 || a == 62
is_operator (a ∷ b ∷ []) = b == 61 && (a == 33 || a == 60 || a == 62)
is_operator bytes = false

unfoldable pub is_name : List ℕ → Bool
is_name bytes = is_identifier bytes || is_operator bytes

abbrev pub IsName : List ℕ → Type 0
IsName bytes = IsTrue (is_name bytes)
