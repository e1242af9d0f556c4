-- Rows of cells against environments.
use Rattle.std.proofs.Common.{◌≡◌, ℕ, zero, suc, inl, inr, ⊎_elim, List, [], ◌∷◌, ◌++◌, map, refl, ap, sym, ◌∙◌, subst, Option, Some, None}
use Rattle.std.specs.Prelude.{slice_get}
use Rattle.std.specs.Option.{unwrap_or}
use Rattle.dbn_value.proofs.MemberLaws.{in_append}
use Rattle.dbn_value.specs.Picked.{picked}
use Rattle.dbn_value.specs.declared.value.Value.{Value}
use Rattle.dbn_value.specs.declared.term.Term.{Term}
use Rattle.dbn_value.specs.declared.term.Term.TheVariants as term
use Rattle.dbn_formula.specs.Holds.{Env, Agree, lookup, value_of}
use Rattle.dbn_formula.specs.Free.{variable_of}
use Rattle.dbn_formula.proofs.Depends.{value_alike, agree_left, agree_right}
use Rattle.dbn_plan.specs.Meaning.{Gives, IsRowOf, vars_of}
pub use Rattle.dbn_plan.specs.Columns.{Labelled}

abbrev tail_of : {A : Type 0} → List A → List A
tail_of [] = []
tail_of (x ∷ xs) = xs

pub some-injective : {A : Type 0} (x y : A) → Some x ≡ Some y → x ≡ y
some-injective x y e = ap (λ m. unwrap_or m x) e

module _ {C : Type 0} where
  abbrev head_or : C → List (Option C) → Option C
  head_or c [] = None
  head_or c (x ∷ xs) = x

  -- two lists of cells whose images under Some are one are one
  pub cells_same : (xs ys : List C) → map Some xs ≡ map Some ys → xs ≡ ys
  cells_same [] [] e = refl
  cells_same [] (y ∷ ys) e = cc
  cells_same (x ∷ xs) [] e = cc
  cells_same (x ∷ xs) (y ∷ ys) e =
      ap (λ z. z ∷ xs) (some-injective x y (ap (head_or x) e)) ∙ ap (λ zs. y ∷ zs) (cells_same xs ys (ap tail_of e))

module _ {C : Type 0} (K : Value → Option C) where
  pub gives_alike : (labels : List Term) (s t : Env) (row : List C) → Agree (vars_of labels) s t → Gives K s labels row → Gives K t labels row
  gives_alike [] s t row same given = given
  gives_alike (a ∷ labels) s t [] same given = cc
  gives_alike (a ∷ labels) s t (c ∷ row) same given =
      let rest = gives_alike labels s t row (agree_right (variable_of a) (vars_of labels) s t same) (ap tail_of given) in
      ap (λ v. K v ∷ map (λ b. K (value_of t b)) labels) (sym (value_alike a s t (agree_left (variable_of a) (vars_of labels) s t same)))
      ∙ ap (λ o. o ∷ map (λ b. K (value_of t b)) labels) (ap (head_or c) given)
      ∙ ap (λ os. Some c ∷ os) rest

  pub gives_one : (labels : List Term) (t : Env) (row other : List C) → Gives K t labels row → Gives K t labels other → row ≡ other
  gives_one labels t row other e f = cells_same row other (sym e ∙ f)

  pub gives_both : (xs ys : List Term) (t : Env) (a b : List C) → Gives K t xs a → Gives K t ys b → Gives K t (xs ++ ys) (a ++ b)
  gives_both [] ys t [] b e f = f
  gives_both [] ys t (c ∷ a) b e f = cc
  gives_both (x ∷ xs) ys t [] b e f = cc
  gives_both (x ∷ xs) ys t (c ∷ a) b e f =
      ap (λ o. o ∷ map (λ z. K (value_of t z)) (xs ++ ys)) (ap (head_or c) e) ∙ ap (λ os. Some c ∷ os) (gives_both xs ys t a b (ap tail_of e) f)

  -- the cell of a column
  pub cell_at : (labels : List Term) (t : Env) (row : List C) (i : ℕ) (a : Term) → Gives K t labels row → slice_get labels i ≡ Some a
      → (c : C) × (slice_get row i ≡ Some c) × (K (value_of t a) ≡ Some c)
  cell_at [] t row i a given at = cc
  cell_at (b ∷ labels) t [] i a given at = cc
  cell_at (b ∷ labels) t (c ∷ row) zero a given at =
      let is : b ≡ a = some-injective b a at in (c, refl, ap (λ z. K (value_of t z)) (sym is) ∙ ap (head_or c) given)
  cell_at (b ∷ labels) t (c ∷ row) (suc i) a given at = cell_at labels t row i a (ap tail_of given) at

  module _ (one : (v w : Value) (c : C) → K v ≡ Some c → K w ≡ Some c → v ≡ w) where
    same_values : (a : Term) (s t : Env) (c : C) → K (value_of s a) ≡ Some c → K (value_of t a) ≡ Some c → Agree (variable_of a) s t
    same_values (term.Var x) s t c e f y (inl at) = subst (λ z. lookup s z ≡ lookup t z) (sym at) (one (lookup s x) (lookup t x) c e f)
    same_values (term.Var x) s t c e f y (inr at) = absurd at
    same_values (term.Const v) s t c e f y at = absurd at

    -- environments that give the same row agree on the labels
    pub gives_agree : (labels : List Term) (s t : Env) (row : List C) → Gives K s labels row → Gives K t labels row → Agree (vars_of labels) s t
    gives_agree [] s t row e f x at = absurd at
    gives_agree (a ∷ labels) s t [] e f x at = cc
    gives_agree (a ∷ labels) s t (c ∷ row) e f x at =
        ⊎_elim (λ here. same_values a s t c (ap (head_or c) e) (ap (head_or c) f) x here) (λ there. gives_agree labels s t row (ap tail_of e) (ap tail_of f) x there)
        (in_append x (variable_of a) (vars_of labels) at)

    pub rows_one : (xs ys : List Value) (cells : List C) → IsRowOf K cells xs → IsRowOf K cells ys → xs ≡ ys
    rows_one [] [] cells e f = refl
    rows_one [] (y ∷ ys) [] e f = cc
    rows_one [] (y ∷ ys) (c ∷ cells) e f = cc
    rows_one (x ∷ xs) ys [] e f = cc
    rows_one (x ∷ xs) [] (c ∷ cells) e f = cc
    rows_one (x ∷ xs) (y ∷ ys) (c ∷ cells) e f =
        ap (λ z. z ∷ xs) (one x y c (ap (head_or c) e) (ap (head_or c) f)) ∙ ap (λ zs. y ∷ zs) (rows_one xs ys cells (ap tail_of e) (ap tail_of f))

module _ {C : Type 0} (K : Value → Option C) where
  pub gives_picked : (labels : List Term) (cols : List ℕ) (wanted : List Term) (t : Env) (row : List C) → Labelled labels cols wanted → Gives K t labels row → Gives K t wanted (picked cols row)
  gives_picked labels [] [] t row at given = refl
  gives_picked labels [] (w ∷ wanted) t row at given = absurd at
  gives_picked labels (c ∷ cols) [] t row at given = absurd at
  gives_picked labels (c ∷ cols) (w ∷ wanted) t row at given =
      let found = cell_at K labels t row c w given at.0 in
      let rest = gives_picked labels cols wanted t row at.1 given in
      ap (λ o. o ∷ map (λ z. K (value_of t z)) wanted) found.2 ∙ ap (λ os. Some found.0 ∷ os) rest ∙ sym (ap (map Some) (picked_some c cols row found.0 found.1))
    where
      picked_some : (c : ℕ) (cols : List ℕ) (row : List C) (cell : C) → slice_get row c ≡ Some cell → picked (c ∷ cols) row ≡ cell ∷ picked cols row
      picked_some c cols row cell e = rw e refl
