-- When bytes are a text.
use Rattle.std.proofs.Common.{arith, ◌≡◌, ◌<◌, ◌≤◌, ℕ, Bool, true, false, not, ◌&&◌, List, length, nat_le, refl, IsUtf8}
use Rattle.std.specs.List.{list_any}
use Rattle.std.specs.Char.{is_control}
use Rattle.std.specs.Str.{is_utf8, chars}
use Rattle.std.proofs.lemmas.Str.{is_utf8-from_IsUtf8, IsUtf8-from_is_utf8}
use Rattle.std.proofs.lemmas.Bool.Decides.{nat_tests}
use Rattle.dbn_value.specs.Text.{is_text}

pub no_utf8 : (bs : List ℕ) → ¬ (IsUtf8 bs) → is_text bs ≡ false
unfolding is_text
no_utf8 bs n = by (is_utf8 bs) refl
  where
    by : (b : Bool) → is_utf8 bs ≡ b → is_text bs ≡ false
    by true e = absurd (n (IsUtf8-from_is_utf8 bs e))
    by false e = rw e refl

long_no : (u c : Bool) (n : ℕ) → 4096 < n → (u && nat_le n 4096 && not c) ≡ false
long_no true c n h = grind (arith, nat_tests)
long_no false c n h = refl

short_is : (c : Bool) (n : ℕ) → n ≤ 4096 → (nat_le n 4096 && not c) ≡ not c
short_is c n h = grind (arith, nat_tests)

pub too_long : (bs : List ℕ) → 4096 < length bs → is_text bs ≡ false
unfolding is_text
too_long bs h = long_no (is_utf8 bs) (list_any is_control (chars bs)) (length bs) h

pub fits_text : (bs : List ℕ) → IsUtf8 bs → length bs ≤ 4096 → is_text bs ≡ not (list_any is_control (chars bs))
unfolding is_text
fits_text bs u h = rw (is_utf8-from_IsUtf8 bs u) (short_is (list_any is_control (chars bs)) (length bs) h)
