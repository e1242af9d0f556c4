-- Inclusion, want by want, and tokens of places that there are not.
use Rattle.std.proofs.Common.{arith, ◌≡◌, ℕ, zero, suc, ◌+◌, ◌<◌, ◌≤◌, ◌==◌, nat_le, Bool, true, false, ◌&&◌, List, [], ◌∷◌, length, get_or, drop, drop-cons, add-one, refl, ap, sym, ◌∙◌}
use Rattle.std.proofs.Math.Dec.{eqb-suc-zero, leb-suc-zero}
use Rattle.std.specs.List.{list_all}
use Rattle.std.specs.Prelude.{slice_index_or}
use Rattle.std.specs.declared.cmp.Ordering.{Ordering}
use Rattle.dbn_marking.specs.Counts.{count_of, count_at}

no_place : {A : Type 0} (marking : List (List A)) (place : ℕ) → length marking ≤ place → slice_index_or marking place [] ≡ []
no_place [] place past = refl
no_place (held ∷ marking) zero past = absurd (omega (arith, past))
no_place (held ∷ marking) (suc place) past = no_place marking place (omega (arith, past))

none_needed : (n : ℕ) → (n == 0) ≡ nat_le n 0
none_needed zero = refl
none_needed (suc n) = eqb-suc-zero n ∙ sym (leb-suc-zero n)

pub no_tokens : {K : Type 0} (R : K → K → Ordering) (marking : List (List (K × ℕ))) (place : ℕ) (row : K) (many : ℕ) → length marking ≤ place → (many == 0) ≡ nat_le many (count_at R marking place row)
no_tokens R marking place row many past = none_needed many ∙ ap (λ held. nat_le many (count_of R held row)) (sym (no_place marking place past))

-- ---- one element after the other passes

module _ {A : Type 0} (t : A → Bool) (xs : List A) (i : ℕ) (x : A) (passed all : Bool) where
  first : i < length xs → x ≡ get_or xs i x → passed ≡ t x → all ≡ list_all t (drop i xs) → all ≡ (passed && list_all t (drop (suc i) xs))
  first below is told e = e ∙ ap (list_all t) (drop-cons xs i x below ∙ ap (λ y. y ∷ drop (suc i) xs) (sym is)) ∙ ap (λ b. b && list_all t (drop (suc i) xs)) (sym told)

  pub all_stops : i < length xs → x ≡ get_or xs i x → passed ≡ t x → passed ≡ false → all ≡ list_all t (drop i xs) → false ≡ all
  all_stops below is told failed e = sym (first below is told e ∙ ap (λ b. b && list_all t (drop (suc i) xs)) failed)

  pub all_goes_on : i < length xs → x ≡ get_or xs i x → passed ≡ t x → passed ≡ true → all ≡ list_all t (drop i xs) → all ≡ list_all t (drop (i + 1) xs)
  all_goes_on below is told held e = first below is told e ∙ ap (λ b. b && list_all t (drop (suc i) xs)) held ∙ ap (λ n. list_all t (drop n xs)) (sym (add-one i))
