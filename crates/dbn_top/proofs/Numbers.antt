-- Numbers as words: the digits of a number from 1 to a greatest one.
use Rattle.std.proofs.Common.{◌≡◌, ℕ, zero, suc, lit<, ◌<◌, ◌≤◌, ◌^◌, Bool, true, false, cond, ◌&&◌, List, get_or, None, Some, Result, Ok, Err, refl, sym, ap, ◌∙◌, subst, arith}
use Rattle.std.specs.Prelude.{decimal, bytes_eq, nat_le}
use Rattle.std.specs.Str.Parse.{digits_value, AllDigits, ParsesUnsigned}
use Rattle.std.specs.Str.{IsAscii, IsUtf8}
use Rattle.std.proofs.lemmas.Bool.{and_parts}
use Rattle.std.proofs.lemmas.Bool.Decides.{nat_tests}
use Rattle.std.proofs.lemmas.Fmt.{decimal_is_IsNumeral, first_decimal, IsAscii-decimal, parse-decimal, decimal-digits_value, decimal_digit}
use Rattle.std.proofs.lemmas.Str.{IsUtf8-from_ascii}
use Rattle.std.proofs.lemmas.Str.Parse.{parse_plain, numerals_by_value, tells_digits}
use Rattle.std.proofs.lemmas.Slice.Eq.{bytes_eq-Decides}
use Rattle.dbn_top.specs.Words.{is_number, number_of}

-- these digits are the number, which is from 1 to `most`
pub record IsOf (most number : ℕ) (digits : List ℕ) : Type 0 where
  pub low : 1 ≤ number
  pub high : number ≤ most
  pub text : digits ≡ decimal number

value_of : (number : ℕ) → number < 2 ^ 64 → digits_value 10 (decimal number) ≡ number
value_of number small = (decimal_is_IsNumeral number small).1

chosen : (most number : ℕ) (digits : List ℕ) → is_number most number digits ≡ true → cond (is_number most number digits) (Some number) None ≡ Some number
chosen most number digits e = rw e refl

pub number_some : (most number : ℕ) (digits : List ℕ) → most < 2 ^ 64 → IsOf most number digits → number_of most digits ≡ Some number
unfolding number_of
number_some most number digits small is =
    let value : digits_value 10 digits ≡ number = ap (digits_value 10) is.text ∙ value_of number (omega (arith, is.high)) in
    let same : bytes_eq (decimal number) digits ≡ true = (bytes_eq-Decides (decimal number) digits).1 (sym is.text) in
    let low : nat_le 1 number ≡ true = grind (arith, nat_tests, is.low) in
    let high : nat_le number most ≡ true = grind (arith, nat_tests, is.high) in
    rw (value, low, high, same) refl

pub number_none : (most : ℕ) (digits : List ℕ) → ((number : ℕ) → IsOf most number digits → ⊥) → number_of most digits ≡ None
unfolding number_of
number_none most digits other =
    let value = digits_value 10 digits in
    let P : Bool → Type 0 = λ test. is_number most value digits ≡ test → cond test (Some value) None ≡ None in
    elim (is_number most value digits) as P [
      | true ↦ λ e. absurd (other value (is_of most value digits e))
      | false ↦ λ e. refl
    ] refl
  where
    is_of : (most number : ℕ) (digits : List ℕ) → is_number most number digits ≡ true → IsOf most number digits
    is_of most number digits e =
        let first = and_parts (nat_le 1 number) (nat_le number most && bytes_eq (decimal number) digits) e in
        let second = and_parts (nat_le number most) (bytes_eq (decimal number) digits) first.1 in
        let low : nat_le 1 number ≡ true = first.0 in
        let high : nat_le number most ≡ true = second.0 in
        record {
          low = grind (arith, nat_tests);
          high = grind (arith, nat_tests);
          text = sym ((bytes_eq-Decides (decimal number) digits).0 second.1);
        }

-- words that are no number
pub below_one : (most : ℕ) (digits : List ℕ) → most < 2 ^ 64 → get_or digits 0 0 < 49 → (number : ℕ) → IsOf most number digits → ⊥
below_one most digits small low number is =
    omega (arith, first_decimal number (omega (arith, is.low)) (omega (arith, is.high)), ap (λ (l : List ℕ). get_or l 0 0) is.text)

pub is_utf8 : (most : ℕ) (digits : List ℕ) → most < 2 ^ 64 → (number : ℕ) → IsOf most number digits → IsUtf8 digits
is_utf8 most digits small number is = IsUtf8-from_ascii digits (subst IsAscii (sym is.text) (IsAscii-decimal number (omega (arith, is.high))))

pub unparsed : (most : ℕ) (digits : List ℕ) → most < 2 ^ 64 → ParsesUnsigned {E = Unit {0}} 64 10 digits (Err tt) → (number : ℕ) → IsOf most number digits → ⊥
unparsed most digits small fails number is =
    let failed : Result ℕ (Unit {0}) = Err tt in
    let below : number < 2 ^ 64 = omega (arith, is.high) in
    absurd (cc (parse-decimal 64 number digits failed below below is.text fails))

-- what was parsed behind a first digit from 1 to 9
not_zero : (digits : List ℕ) (number : ℕ) → 49 ≤ get_or digits 0 0 → digits ≡ decimal number → 1 ≤ number
not_zero digits zero first is = absurd (omega (arith, ap (λ (l : List ℕ). get_or l 0 0) (is ∙ decimal_digit 0 (lit< tt))))
not_zero digits (suc number) first is = omega arith

pub record Parsed (number : ℕ) (digits : List ℕ) : Type 0 where
  pub low : 1 ≤ number
  pub small : number < 2 ^ 64
  pub text : digits ≡ decimal number

pub parsed : (digits : List ℕ) (number : ℕ) → 49 ≤ get_or digits 0 0 → ParsesUnsigned {E = Unit {0}} 64 10 digits (Ok number) → Parsed number digits
parsed digits number first parses =
    let own = numerals_by_value (AllDigits 10) tells_digits in
    let ok : Result ℕ (Unit {0}) = Ok number in
    let plain = parse_plain own 64 digits ok parses (λ e. absurd (omega (arith, e))) in
    let small : number < 2 ^ 64 = omega (arith, plain.0.2, plain.1) in
    let text : digits ≡ decimal number =
    sym (decimal-digits_value own digits plain.0.0 plain.0.1 (λ e. absurd (omega (arith, e))) (omega (arith, plain.0.2))) ∙ ap decimal (sym plain.1) in
    record { low = not_zero digits number first text; small = small; text = text }

-- a number above the greatest one
pub too_great : (most number : ℕ) (digits : List ℕ) → most < 2 ^ 64 → most < number → Parsed number digits → (other : ℕ) → IsOf most other digits → ⊥
too_great most number digits small over is other also =
    let same : number ≡ other =
    sym (value_of number is.small) ∙ ap (digits_value 10) (sym is.text ∙ also.text) ∙ value_of other (omega (arith, also.high)) in
    omega (arith, also.high)
