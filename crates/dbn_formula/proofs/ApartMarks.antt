-- Renaming depends on the marks by their ascending list alone.
use Rattle.std.proofs.Common.{◌≡◌, ℕ, ◌+◌, Bool, nat_eq, List, [], ◌∷◌, ◌++◌, refl, ap, sym, ◌∙◌, subst, take, drop, length}
use Rattle.std.specs.Ordering.{nat_cmp}
use Rattle.std.specs.Cmp.{nat_cmp_total, unsigned_ties}
use Rattle.std.specs.FinMap.{nat_cmp-IsAntisymmetric}
use Rattle.std.specs.List.{dedup, refill}
use Rattle.std.proofs.Math.Seq.{take-append_seam}
use Rattle.std.specs.List.Sorted.{IsPermutation, IsSorted}
use Rattle.dbn_value.specs.Ascending.{ascending}
use Rattle.dbn_value.proofs.AscendingLaws.{is_ascending, sorted_ascending}
use Rattle.dbn_value.proofs.CollectedLaws.{dedup_ascending}
use Rattle.dbn_formula.specs.Variables.{TypedVars}
use Rattle.dbn_formula.specs.Apart.{marks, unused_from, next_mark, Renaming, Renamed, marked, fresh, last_mark, opened, rename_step, rename_at, renamed_at, renamed}
use Rattle.dbn_formula.specs.declared.formula.Formula.{Formula}
use Rattle.dbn_formula.specs.declared.formula.Formula.TheVariants.{Exists, Forall}
use Rattle.dbn_formula.specs.declared.formula.Formula.TheOpen.{Formula-F}
use Rattle.dbn_formula.specs.declared.formula.Formula.TheOpen as layer
use Rattle.dbn_formula.specs.declared.formula.Formula.TheFolds.{fold-Formula}

pub sorted_marks : (xs ys : List ℕ) → IsPermutation xs ys → IsSorted nat_cmp ys → dedup nat_eq ys ≡ ascending nat_cmp xs
sorted_marks xs ys moved rises =
    ap (λ (t : ℕ → ℕ → Bool). dedup t ys) (λ i x y. unsigned_ties x y i)
    ∙ dedup_ascending nat_cmp_total nat_cmp-IsAntisymmetric xs ys moved rises

pub refilled : (n : ℕ) (xs ys : List ℕ) → length ys ≡ n → refill n xs ys ≡ ys
refilled n xs ys e = subst (λ k. take k (ys ++ drop (length ys) xs) ≡ ys) e (take-append_seam ys (drop (length ys) xs))

pub ascending_again : (xs : List ℕ) → ascending nat_cmp (ascending nat_cmp xs) ≡ ascending nat_cmp xs
ascending_again xs =
    sym (is_ascending nat_cmp_total nat_cmp-IsAntisymmetric (ascending nat_cmp xs) (ascending nat_cmp xs) (sorted_ascending nat_cmp_total xs) (λ q at. at) (λ q at. at))

module _ (us vs : List ℕ) (same : ascending nat_cmp us ≡ ascending nat_cmp vs) where
  next_same : (n : ℕ) → next_mark us n ≡ next_mark vs n
  next_same n = ap (λ ms. unused_from ms (n + 1)) same

  fresh_same : (vars : TypedVars) (n : ℕ) → fresh us vars n ≡ fresh vs vars n
  fresh_same [] n = refl
  fresh_same (x ∷ vars) n =
      ap (λ m. (marked x.0 m, x.1) ∷ fresh us vars m) (next_same n)
      ∙ ap (λ more. (marked x.0 (next_mark vs n), x.1) ∷ more) (fresh_same vars (next_mark vs n))

  last_same : (vars : TypedVars) (n : ℕ) → last_mark us vars n ≡ last_mark vs vars n
  last_same [] n = refl
  last_same (x ∷ vars) n = ap (last_mark us vars) (next_same n) ∙ last_same vars (next_mark vs n)

  opened_same : (vars : TypedVars) (n : ℕ) (names : Renaming) → opened us vars n names ≡ opened vs vars n names
  opened_same [] n names = refl
  opened_same (x ∷ vars) n names =
      ap (λ m. opened us vars m ((x.0, marked x.0 m) ∷ names)) (next_same n)
      ∙ opened_same vars (next_mark vs n) ((x.0, marked x.0 (next_mark vs n)) ∷ names)

  step_same : (y : Formula-F (Renaming → ℕ → Renamed)) (names : Renaming) (n : ℕ) → rename_step us y names n ≡ rename_step vs y names n
  step_same (layer.Atom rel terms) names n = refl
  step_same (layer.Test cmp left right) names n = refl
  step_same (layer.And parts) names n = refl
  step_same (layer.Or parts) names n = refl
  step_same (layer.Not part) names n = refl
  step_same (layer.Implies left right) names n = refl
  step_same (layer.Exists vars body) names n = λ i.
      record {
        formula = Exists (fresh_same vars n i) (body (opened_same vars n names i) (last_same vars n i)).formula;
        last = (body (opened_same vars n names i) (last_same vars n i)).last;
      }
  step_same (layer.Forall vars body) names n = λ i.
      record {
        formula = Forall (fresh_same vars n i) (body (opened_same vars n names i) (last_same vars n i)).formula;
        last = (body (opened_same vars n names i) (last_same vars n i)).last;
      }

  pub renamed_same : (f : Formula) (names : Renaming) (n : ℕ) → renamed_at us f names n ≡ renamed_at vs f names n
  unfolding renamed_at rename_at
  renamed_same f names n =
      ap (λ (step : Formula-F (Renaming → ℕ → Renamed) → Renaming → ℕ → Renamed). (fold-Formula (Renaming → ℕ → Renamed) step f names n).formula)
      (λ i y inner m. step_same y inner m i)

pub renamed_by : (f : Formula) → renamed_at (ascending nat_cmp (marks f)) f [] 0 ≡ renamed f
renamed_by f = renamed_same (ascending nat_cmp (marks f)) (marks f) (ascending_again (marks f)) f [] 0
