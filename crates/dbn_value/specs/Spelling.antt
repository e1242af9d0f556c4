-- The one spelling of each value, and the value that bytes spell.
use Rattle.std.specs.Prelude.{ℕ, ◌+◌, ◌<◌, ◌^◌, pos, negsuc, neg_ℤ, Bool, true, false, ◌&&◌, ◌||◌, ◌==◌, nat_lt, if◌then◌else◌, List, [], ◌∷◌, ◌++◌, length, Option, Some, None}
use Rattle.std.specs.Option.{option_map, option_and_then}
use Rattle.std.specs.List.{list_all, flat_map}
use Rattle.std.specs.Char.{is_ascii_digit}
use Rattle.std.specs.Str.Parse.{digits_value}
use Rattle.std.specs.Fmt.{decimal, signed_decimal}
use Rattle.dbn_value.specs.Text.{is_text, IsText}
use Rattle.dbn_value.specs.declared.value.Value.{Value}
use Rattle.dbn_value.specs.declared.value.Value.TheVariants.{Int, Text, Id}

-- a quote or a backslash
abbrev pub is_special : ℕ → Bool
is_special b = b == 34 || b == 92

-- a backslash before a quote and a backslash
abbrev pub escape : ℕ → List ℕ
escape b = if is_special b then 92 ∷ b ∷ [] else b ∷ []

abbrev pub escaped : List ℕ → List ℕ
escaped bytes = flat_map escape bytes

-- a text between quotes
abbrev pub quoted : List ℕ → List ℕ
quoted bytes = 34 ∷ escaped bytes ++ 34 ∷ []

-- ints in decimal, texts between quotes, ids in decimal after `#`
abbrev pub spelling : Value → List ℕ
spelling (Int n) = signed_decimal n
spelling (Text bytes) = quoted bytes
spelling (Id n) = 35 ∷ decimal n

-- the text that stands escaped before a closing quote at the end; `behind` tells that a backslash stands just before the bytes
abbrev pub unescaped : Bool → List ℕ → Option (List ℕ)
unescaped behind [] = None
unescaped true (b ∷ bytes) = if is_special b then option_map (λ text. b ∷ text) (unescaped false bytes) else None
unescaped false (b ∷ bytes) =
    if b == 34 then (if length bytes == 0 then Some [] else None)
    else (if b == 92 then unescaped true bytes else option_map (λ text. b ∷ text) (unescaped false bytes))

-- `0` alone, or decimal digits of which the first isn't 0
abbrev pub is_number : List ℕ → Bool
is_number [] = false
is_number (d ∷ digits) = if d == 48 then length digits == 0 else list_all is_ascii_digit (d ∷ digits)

-- the number that the bytes write, below the limit
abbrev pub number_below : ℕ → List ℕ → Option ℕ
number_below limit bytes = if is_number bytes && nat_lt (digits_value 10 bytes) limit then Some (digits_value 10 bytes) else None

abbrev pub text_value : List ℕ → Option Value
text_value text = if is_text text then Some (Text text) else None

abbrev pub id_value : ℕ → Value
id_value n = Id n

abbrev pub natural_value : ℕ → Value
natural_value n = Int (pos n)

-- the int below 0
abbrev pub negative_value : ℕ → Option Value
negative_value n = if n == 0 then None else Some (Int (neg_ℤ (pos n)))

-- what the first byte begins: a text, an id, an int below 0, an int from 0 on
abbrev pub value_from : ℕ → List ℕ → Option Value
value_from b bytes =
    if b == 34 then option_and_then text_value (unescaped false bytes)
    else (if b == 35 then option_map id_value (number_below (2 ^ 62) bytes)
    else (if b == 45 then option_and_then negative_value (number_below (2 ^ 63 + 1) bytes)
    else option_map natural_value (number_below (2 ^ 63) (b ∷ bytes))))

-- the value that the bytes spell
unfoldable pub value_of_bytes : List ℕ → Option Value
value_of_bytes [] = None
value_of_bytes (b ∷ bytes) = value_from b bytes

-- the value is in the range of its type
abbrev pub IsValue : Value → Type 0
IsValue (Int (pos n)) = n < 2 ^ 63
IsValue (Int (negsuc n)) = n < 2 ^ 63
IsValue (Text bytes) = IsText bytes
IsValue (Id n) = n < 2 ^ 62
