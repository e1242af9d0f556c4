-- Bytes as far as the first line feed.
use Rattle.std.proofs.Common.{◌≡◌, ℕ, zero, suc, ◌+◌, ◌<◌, true, false, ◌==◌, List, [], ◌∷◌, ◌++◌, length, get_or, take, drop, refl, sym, ap, ◌∙◌, arith, add-one, append-nil, drop-cons, take-append-drop, length-take}
use Rattle.std.proofs.lemmas.Bool.Decides.{nat_tests}
use Rattle.std.proofs.lemmas.List.{get_or-take}
use Rattle.std.proofs.Math.Seq.{drop-append_seam}
use Rattle.dbn_io.specs.Window.{Window, Unbroken, Moves}

get_or-other : (xs : List ℕ) (k d e : ℕ) → k < length xs → get_or xs k d ≡ get_or xs k e
get_or-other [] k d e h = absurd (omega arith)
get_or-other (x ∷ xs) zero d e h = refl
get_or-other (x ∷ xs) (suc k) d e h = get_or-other xs k d e (omega arith)

no-test : (byte : ℕ) → (byte ≡ 10 → ⊥) → (byte == 10) ≡ false
no-test byte other = grind (arith, nat_tests)

unbroken-none : (bytes : List ℕ) (n : ℕ) → n ≡ length bytes → ((k : ℕ) → k < n → get_or bytes k 0 ≡ 10 → ⊥) → Unbroken bytes
unbroken-none bytes n e before k d below =
    ap (λ byte. byte == 10) (get_or-other bytes k d 0 below) ∙ no-test (get_or bytes k 0) (before k (omega arith))

-- all bytes that are held are used, where no line feed is among them
pub all-moved : (before now : Window) (held : List ℕ) (n : ℕ) → held ≡ before.held → n ≡ length held → now.held ≡ drop n before.held
    → ((k : ℕ) → k < n → get_or held k 0 ≡ 10 → ⊥) → Moves false before now held × Unbroken held
all-moved before now held n e all rest none = (
  (sym e, rest ∙ ap (λ k. drop k before.held) all ∙ ap (drop (length held)) (sym e) ∙ ap (drop (length held)) (sym (append-nil held)) ∙ drop-append_seam held []),
  unbroken-none held n all none,
)

-- the bytes before the first line feed are used, and it with them
pub feed-moved : (before now : Window) (held : List ℕ) (n : ℕ) → held ≡ before.held → n < length held → now.held ≡ drop (n + 1) before.held
    → ((k : ℕ) → k < n → get_or held k 0 ≡ 10 → ⊥) → get_or held n 0 ≡ 10 → Moves true before now (take n held) × Unbroken (take n held)
feed-moved before now held n e below rest none found =
    let behind : now.held ≡ drop (suc n) held = rest ∙ ap (drop (n + 1)) (sym e) ∙ ap (λ k. drop k held) (add-one n) in (
      sym e ∙ sym (take-append-drop n held)
          ∙ ap (λ l. take n held ++ l) (drop-cons held n 0 below ∙ ap (λ byte. byte ∷ drop (suc n) held) found ∙ ap (λ l. 10 ∷ l) (sym behind)),
      unbroken-none (take n held) n (omega (arith, length-take n held))
          (λ k lt is. none k lt (sym (get_or-take n held k 0 lt) ∙ is)),
    )
