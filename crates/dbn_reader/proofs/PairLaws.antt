-- Two lists that are walked side by side, up to the end of the shorter one.
use Rattle.std.proofs.Common.{◌≡◌, ◌⊎◌, ⊎_elim, ℕ, Bool, true, List, [], ◌∷◌, length, refl, ap, ◌∙◌}
use Rattle.dbn_value.specs.declared.value.Value.{Value}
use Rattle.dbn_value.specs.declared.value.ColType.{ColType}
use Rattle.dbn_net.specs.Judging.{row_fits, types_eq}

no_items : {A : Type 0} (xs : List A) → length xs ≡ 0 → xs ≡ []
no_items [] e = refl
no_items (x ∷ xs) e = absurd cc

ended : {A B : Type 0} (pass : List A → List B → Bool) → ((ys : List B) → pass [] ys ≡ true) → ((xs : List A) → pass xs [] ≡ true)
    → (xs : List A) (ys : List B) → (length xs ≡ 0) ⊎ (length ys ≡ 0) → pass xs ys ≡ true
ended pass first second xs ys e =
    ⊎_elim (λ a. ap (λ l. pass l ys) (no_items xs a) ∙ first ys) (λ b. ap (pass xs) (no_items ys b) ∙ second xs) e

pub row_ended : (row : List Value) (shape : List ColType) → (length row ≡ 0) ⊎ (length shape ≡ 0) → row_fits row shape ≡ true
row_ended row shape e = ended row_fits (λ ys. refl) no_column row shape e
  where
    no_column : (vs : List Value) → row_fits vs [] ≡ true
    no_column [] = refl
    no_column (v ∷ vs) = refl

pub types_ended : (types others : List ColType) → (length types ≡ 0) ⊎ (length others ≡ 0) → types_eq types others ≡ true
types_ended types others e = ended types_eq (λ ys. refl) no_other types others e
  where
    no_other : (xs : List ColType) → types_eq xs [] ≡ true
    no_other [] = refl
    no_other (x ∷ xs) = refl
