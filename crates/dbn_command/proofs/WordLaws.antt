-- Names and spelled values are each one token, and none of them is a semicolon.
use Rattle.std.proofs.Common.{◌≡◌, ℕ, suc, ◌<◌, ◌^◌, ◌==◌, ◌&&◌, ◌||◌, pos, negsuc, Bool, true, false, not, if◌then◌else◌, List, [], ◌∷◌, ◌++◌, length, refl, ap, ◌∙◌, arith, append_assoc}
use Rattle.std.specs.Prelude.{bytes_eq}
use Rattle.std.specs.List.{list_all}
use Rattle.std.specs.Char.{is_ascii_digit, is_ascii_alphabetic}
use Rattle.std.specs.Fmt.{decimal}
use Rattle.std.proofs.lemmas.Bool.{and_parts}
use Rattle.std.proofs.lemmas.Bool.Decides.{nat_tests}
use Rattle.std.proofs.lemmas.Fmt.{decimal_nonempty, digits_decimal}
use Rattle.dbn_value.specs.Text.{is_name_byte, is_identifier}
use Rattle.dbn_value.specs.Spelling.{escape, escaped, spelling, IsValue}
use Rattle.dbn_value.specs.declared.value.Value.{Value}
use Rattle.dbn_value.specs.declared.value.Value.TheVariants.{Int, Text, Id}
use Rattle.dbn_value.proofs.Numbers.{AreDigits, own}
use Rattle.dbn_command.specs.declared.tokens.Place.TheVariants.{Between, Inside, Quoted, Escaped}
use Rattle.dbn_command.specs.Tokens.{is_blank}
use Rattle.dbn_command.specs.Lines.{is_semicolon}
use Rattle.dbn_command.proofs.TokenLaws.{stays, IsToken}

-- ---- bytes that part nothing

not_blank : (b : ℕ) → (b == 32) ≡ false → (b == 9) ≡ false → is_blank b ≡ false
not_blank b p q = rw p q

name_byte_apart : (b c : ℕ) → is_name_byte b ≡ true → c < 45 → (b == c) ≡ false
name_byte_apart b c p l = grind (arith, nat_tests)

letter_apart : (b c : ℕ) → is_ascii_alphabetic b ≡ true → c < 65 → (b == c) ≡ false
letter_apart b c p l = grind (arith, nat_tests)

digit_apart : (b c : ℕ) → is_ascii_digit b ≡ true → c < 48 → (b == c) ≡ false
digit_apart b c p l = grind (arith, nat_tests)

digit_before : (b : ℕ) → is_ascii_digit b ≡ true → (b == 59) ≡ false
digit_before b p = grind (arith, nat_tests)

-- a byte in a token, and what follows
inside_step : (b : ℕ) (bytes : List ℕ) → is_blank b ≡ false → stays Inside bytes ≡ true → stays Inside (b ∷ bytes) ≡ true
inside_step b bytes e later = ap (λ s. not s && stays (if s then Between else Inside) bytes) e ∙ later

-- the first byte of a word
word_start : (b : ℕ) (bytes : List ℕ) → is_blank b ≡ false → (b == 34) ≡ false → stays Inside bytes ≡ true → IsToken (b ∷ bytes)
word_start b bytes e q later =
    ap (λ s. not s && stays (if s then Between else (if b == 34 then Quoted else Inside)) bytes) e ∙ ap (λ s. stays (if s then Quoted else Inside) bytes) q ∙ later

-- ---- names

name_bytes_stay : (bytes : List ℕ) → list_all is_name_byte bytes ≡ true → stays Inside bytes ≡ true
name_bytes_stay [] all = refl
name_bytes_stay (b ∷ bytes) all =
    let (here, later) = and_parts (is_name_byte b) (list_all is_name_byte bytes) all in
    inside_step b bytes (not_blank b (name_byte_apart b 32 here (omega arith)) (name_byte_apart b 9 here (omega arith))) (name_bytes_stay bytes later)

pub name_is_token : (name : List ℕ) → is_identifier name ≡ true → IsToken name
name_is_token [] e = cc
name_is_token (b ∷ bytes) e =
    let (here, later) = and_parts (is_ascii_alphabetic b) (list_all is_name_byte bytes) e in
    word_start b bytes (not_blank b (letter_apart b 32 here (omega arith)) (letter_apart b 9 here (omega arith))) (letter_apart b 34 here (omega arith)) (name_bytes_stay bytes later)

-- ---- numbers

digits_stay : (bytes : List ℕ) → AreDigits bytes → stays Inside bytes ≡ true
digits_stay [] all = refl
digits_stay (b ∷ bytes) all =
    let (here, later) = and_parts (is_ascii_digit b) (list_all is_ascii_digit bytes) all in
    inside_step b bytes (not_blank b (digit_apart b 32 here (omega arith)) (digit_apart b 9 here (omega arith))) (digits_stay bytes later)

digits_are_token : (bytes : List ℕ) → AreDigits bytes → 0 < length bytes → IsToken bytes
digits_are_token [] all some = absurd (omega arith)
digits_are_token (b ∷ bytes) all some =
    let (here, later) = and_parts (is_ascii_digit b) (list_all is_ascii_digit bytes) all in
    word_start b bytes (not_blank b (digit_apart b 32 here (omega arith)) (digit_apart b 9 here (omega arith))) (digit_apart b 34 here (omega arith)) (digits_stay bytes later)

-- ---- texts

escape_stays : (b : ℕ) (bytes : List ℕ) → stays Quoted bytes ≡ true → stays Quoted (escape b ++ bytes) ≡ true
escape_stays b bytes later = by (b == 34) (b == 92) refl refl
  where
    by : (q s : Bool) → (b == 34) ≡ q → (b == 92) ≡ s → stays Quoted ((if q || s then 92 ∷ b ∷ [] else b ∷ []) ++ bytes) ≡ true
    by true s e f = later
    by false true e f = later
    by false false e f = ap (λ c. stays (if c then Inside else (if b == 92 then Escaped else Quoted)) bytes) e ∙ ap (λ c. stays (if c then Escaped else Quoted) bytes) f ∙ later

escaped_stays : (bytes rest : List ℕ) → stays Quoted rest ≡ true → stays Quoted (escaped bytes ++ rest) ≡ true
escaped_stays [] rest e = e
escaped_stays (b ∷ bytes) rest e =
    ap (stays Quoted) (append_assoc (escape b) (escaped bytes) rest) ∙ escape_stays b (escaped bytes ++ rest) (escaped_stays bytes rest e)

-- ---- spellings

pub value_is_token : (v : Value) → IsValue v → IsToken (spelling v)
value_is_token (Int (pos n)) h =
    let small : n < 2 ^ 64 = omega arith in
    digits_are_token (decimal n) (digits_decimal own n small) (decimal_nonempty n small)
value_is_token (Int (negsuc n)) h = digits_stay (decimal (suc n)) (digits_decimal own (suc n) (omega arith))
value_is_token (Text bytes) h = escaped_stays bytes (34 ∷ []) refl
value_is_token (Id n) h = digits_stay (decimal n) (digits_decimal own n (omega arith))

-- ---- no semicolon: the first byte is none

other_first : (b : ℕ) (bytes : List ℕ) → (b == 59) ≡ false → is_semicolon (b ∷ bytes) ≡ false
other_first b bytes e = ap (λ s. s && bytes_eq bytes []) e

pub name_is_no_semicolon : (name : List ℕ) → is_identifier name ≡ true → is_semicolon name ≡ false
name_is_no_semicolon [] e = refl
name_is_no_semicolon (b ∷ bytes) e =
    let (here, later) = and_parts (is_ascii_alphabetic b) (list_all is_name_byte bytes) e in other_first b bytes (letter_apart b 59 here (omega arith))

number_is_no_semicolon : (bytes : List ℕ) → AreDigits bytes → is_semicolon bytes ≡ false
number_is_no_semicolon [] all = refl
number_is_no_semicolon (b ∷ bytes) all =
    let (here, later) = and_parts (is_ascii_digit b) (list_all is_ascii_digit bytes) all in other_first b bytes (digit_before b here)

pub value_is_no_semicolon : (v : Value) → IsValue v → is_semicolon (spelling v) ≡ false
value_is_no_semicolon (Int (pos n)) h = number_is_no_semicolon (decimal n) (digits_decimal own n (omega arith))
value_is_no_semicolon (Int (negsuc n)) h = refl
value_is_no_semicolon (Text bytes) h = refl
value_is_no_semicolon (Id n) h = refl
