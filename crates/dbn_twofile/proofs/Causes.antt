-- The faults of two disks.
use Rattle.std.proofs.Common.{◌≡◌, ℕ, Bool, true, false, not, [], ◌∷◌, Result, Ok, IsErrOf, ap, ◌∙◌, arith}
use Rattle.dbn_model.specs.Causes.{Rose}
use Rattle.dbn_io.specs.declared.trouble.Trouble.{Trouble}
use Rattle.dbn_io.specs.declared.trouble.Trouble.TheVariants.{Failed}
use Rattle.dbn_io.specs.Causes.{HasCause}
use Rattle.dbn_keeper.specs.Keeping.{NoneFalls, RoseIn, HasCauseIn}
use Rattle.dbn_keeper.specs.TwoFiles.{pair_list}
use Rattle.dbn_keeper.proofs.Steps.{none_falls}

-- of the chosen disk
pub cause_chosen : {T U : Type 0} (swapped : Bool) (c o c' : ℕ) (first : Result T Trouble) (result : Result U Trouble) → HasCause c c' first → (IsErrOf result Failed → IsErrOf first Failed) → (IsErrOf first Failed → IsErrOf result Failed) → HasCauseIn (pair_list swapped c o) (pair_list swapped c' o) result
cause_chosen swapped c o c' first result cause there back = record {
  later = none_falls swapped c o c' o cause.later (omega arith);
  failed = λ failed. rose swapped (cause.failed (there failed));
  kept = λ kept. ap (λ (n : ℕ). pair_list swapped n o) (cause.kept (λ failed. kept (back failed)));
}
  where
    rose : (s : Bool) → Rose c c' → RoseIn (pair_list s c o) (pair_list s c' o)
    rose true e = (1, e)
    rose false e = (0, e)

-- of the other one
pub cause_other : {T U : Type 0} (swapped : Bool) (c o o' : ℕ) (first : Result T Trouble) (result : Result U Trouble) → HasCause o o' first → (IsErrOf result Failed → IsErrOf first Failed) → (IsErrOf first Failed → IsErrOf result Failed) → HasCauseIn (pair_list swapped c o) (pair_list swapped c o') result
cause_other swapped c o o' first result cause there back = record {
  later = none_falls swapped c o c o' (omega arith) cause.later;
  failed = λ failed. rose swapped (cause.failed (there failed));
  kept = λ kept. ap (λ (n : ℕ). pair_list swapped c n) (cause.kept (λ failed. kept (back failed)));
}
  where
    rose : (s : Bool) → Rose o o' → RoseIn (pair_list s c o) (pair_list s c o')
    rose true e = (0, e)
    rose false e = (1, e)

-- after a checkpoint the two are exchanged
pub made_cause : {T U : Type 0} (swapped : Bool) (c o new_chosen new_other : ℕ) (first : Result T Trouble) (value : U) → HasCause o new_chosen first → new_other ≡ c → (IsErrOf first Failed → ⊥) → HasCauseIn (pair_list swapped c o) (pair_list (not swapped) new_chosen new_other) (Ok value)
made_cause swapped c o new_chosen new_other first value cause other fine = record {
  later = turned swapped;
  failed = λ failed. cc;
  kept = λ kept. same swapped;
}
  where
    stays : new_chosen ≡ o
    stays = cause.kept fine

    turned : (s : Bool) → NoneFalls (pair_list s c o) (pair_list (not s) new_chosen new_other)
    turned true = none_falls false o c new_chosen new_other cause.later (omega (arith, other))
    turned false = none_falls true o c new_chosen new_other cause.later (omega (arith, other))

    same : (s : Bool) → pair_list (not s) new_chosen new_other ≡ pair_list s c o
    same true = ap (λ (n : ℕ). n ∷ new_other ∷ []) stays ∙ ap (λ (n : ℕ). o ∷ n ∷ []) other
    same false = ap (λ (n : ℕ). new_other ∷ n ∷ []) stays ∙ ap (λ (n : ℕ). n ∷ o ∷ []) other
