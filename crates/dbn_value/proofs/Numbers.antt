-- Numbers without a leading zero, and what `decimal` writes.
use Rattle.std.proofs.Common.{rules, arith, ◌≡◌, ◌<◌, ◌≤◌, ◌^◌, ◌==◌, ◌&&◌, ℕ, Bool, true, false, List, [], ◌∷◌, length, get_or, Option, Some, None, Result, Err, nat_lt, if◌then◌else◌, refl, sym, ap, ◌∙◌, eqb-true, ltb-true, subst, zero, suc, ◌≢◌, IsUtf8}
use Rattle.std.specs.List.{list_all}
use Rattle.std.specs.Char.{is_ascii_digit}
use Rattle.std.specs.Fmt.{decimal}
use Rattle.std.specs.Str.Parse.{digits_value, ParsesUnsigned}
use Rattle.std.proofs.lemmas.Str.{IsUtf8-from_ascii}
use Rattle.std.proofs.lemmas.Str.Parse.{IsNumeralModel, numerals_by_value, parse_digits}
use Rattle.std.proofs.lemmas.Result.{OkIff-at_err}
use Rattle.std.proofs.lemmas.Fmt.{IsAscii-from_digits, digits_decimal, digits_value-decimal, decimal-digits_value, decimal_nonempty, first_decimal, decimal_digit}
use Rattle.std.proofs.lemmas.Bool.Decides.{nat_tests}
use Rattle.dbn_value.specs.Spelling.{is_number, number_below}

abbrev pub AreDigits : List ℕ → Type 0
AreDigits bs = list_all is_ascii_digit bs ≡ true

pub own : IsNumeralModel AreDigits (digits_value 10)
own = numerals_by_value _ (search rules)

zero_alone : (d : ℕ) (ds : List ℕ) → d ≡ 48 → length ds ≡ 0 → AreDigits (d ∷ ds)
zero_alone d [] e q = ap (λ x. list_all is_ascii_digit (x ∷ [])) e
zero_alone d (x ∷ ds) e q = absurd (omega arith)

pub number_digits : (bs : List ℕ) → is_number bs ≡ true → AreDigits bs
number_digits [] p = refl
number_digits (d ∷ ds) p = by (d == 48) refl p
  where
    by : (b : Bool) → (d == 48) ≡ b → (if b then length ds == 0 else list_all is_ascii_digit (d ∷ ds)) ≡ true → AreDigits (d ∷ ds)
    by true e q = zero_alone d ds (eqb-true d 48 e) (eqb-true (length ds) 0 q)
    by false e q = q

pub number_long : (bs : List ℕ) → is_number bs ≡ true → 0 < length bs
number_long [] p = cc
number_long (d ∷ ds) p = omega arith

pub number_first : (bs : List ℕ) → is_number bs ≡ true → get_or bs 0 0 ≡ 48 → length bs ≡ 1
number_first [] p e = cc
number_first (d ∷ ds) p e = grind (arith, nat_tests)

pub number_from : (bs : List ℕ) → AreDigits bs → 0 < length bs → (get_or bs 0 0 ≡ 48 → length bs ≡ 1) → is_number bs ≡ true
number_from [] p l f = absurd (omega arith)
number_from (d ∷ ds) p l f = grind (arith, nat_tests)

pub number_utf8 : (bs : List ℕ) → is_number bs ≡ true → IsUtf8 bs
number_utf8 bs p = IsUtf8-from_ascii bs (IsAscii-from_digits bs (own.to bs (number_digits bs p)))

pub no_zero_first : (bs : List ℕ) → 0 < length bs → get_or bs 0 0 ≢ 48 → is_number bs ≡ list_all is_ascii_digit bs
no_zero_first [] l n = absurd (omega arith)
no_zero_first (d ∷ ds) l n = grind (arith, nat_tests)

-- how `number_below` goes, by its two tests
abbrev tested : Bool → Bool → ℕ → Option ℕ
tested number small n = if number && small then Some n else None

not_small : (limit n : ℕ) (b : Bool) → limit ≤ n → tested b (nat_lt n limit) n ≡ None
not_small limit n true h = grind (arith, nat_tests)
not_small limit n false h = refl

-- a number that `parse` refuses is past the limit
pub past_limit : {E : Type 0} (limit : ℕ) (bs : List ℕ) (r : Result ℕ E) (e : E) → limit < 2 ^ 64 → is_number bs ≡ true → ParsesUnsigned 64 10 bs r → r ≡ Err e → number_below limit bs ≡ None
past_limit limit bs r e small p h q =
    let k = OkIff-at_err r _ _ e (parse_digits own 64 bs r h (number_digits bs p)) q in
    let long : 0 < length bs = number_long bs p in
    let big : digits_value 10 bs < 2 ^ 64 → ⊥ = λ l. k (long, l) in
    not_small limit (digits_value 10 bs) (is_number bs) (omega arith)

first_of_decimal : (n : ℕ) → n < 2 ^ 64 → get_or (decimal n) 0 0 ≡ 48 → length (decimal n) ≡ 1
first_of_decimal zero h e = ap length (decimal_digit 0 (omega arith))
first_of_decimal (suc n) h e = let l : 48 < get_or (decimal (suc n)) 0 0 = first_decimal (suc n) (omega arith) h in absurd (omega arith)

pub decimal_number : (n : ℕ) → n < 2 ^ 64 → is_number (decimal n) ≡ true
decimal_number n h = number_from (decimal n) (digits_decimal own n h) (decimal_nonempty n h) (first_of_decimal n h)

small_one : (limit n : ℕ) → n < limit → tested true (nat_lt n limit) n ≡ Some n
small_one limit n h = grind (arith, nat_tests)

pub below_decimal : (limit n : ℕ) → limit ≤ 2 ^ 64 → n < limit → number_below limit (decimal n) ≡ Some n
below_decimal limit n small h =
    let h64 : n < 2 ^ 64 = omega arith in
    let v : digits_value 10 (decimal n) ≡ n = digits_value-decimal own n h64 in
    ap (λ b. tested b (nat_lt (digits_value 10 (decimal n)) limit) (digits_value 10 (decimal n))) (decimal_number n h64)
    ∙ ap (λ m. tested true (nat_lt m limit) m) v ∙ small_one limit n h

told : (b c : Bool) (m n : ℕ) → tested b c m ≡ Some n → (b ≡ true) × (c ≡ true) × (m ≡ n)
told true true m n e = (refl, refl, cc)
told true false m n e = cc
told false c m n e = cc

pub decimal_below : (limit n : ℕ) (bs : List ℕ) → limit ≤ 2 ^ 64 → number_below limit bs ≡ Some n → (decimal n ≡ bs) × (n < limit)
decimal_below limit n bs small h =
    let k = told (is_number bs) (nat_lt (digits_value 10 bs) limit) (digits_value 10 bs) n h in
    let l : digits_value 10 bs < limit = ltb-true (digits_value 10 bs) limit k.1 in
    let d : decimal (digits_value 10 bs) ≡ bs = decimal-digits_value own bs (number_digits bs k.0) (number_long bs k.0) (number_first bs k.0) (omega arith) in
    (sym (ap decimal k.2) ∙ d, subst (λ m. m < limit) k.2 l)
