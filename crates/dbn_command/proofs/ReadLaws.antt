-- Tests of rows and of numbers of calls.
use Rattle.std.proofs.Common.{◌≡◌, ◌↔◌, ℕ, zero, suc, ◌==◌, ◌&&◌, Bool, true, false, IsTrue, List, [], ◌∷◌, map, length, Some, None, refl, sym, ap, ◌∙◌, arith, eqb-true}
use Rattle.std.specs.Prelude.{slice_get}
use Rattle.std.proofs.lemmas.Bool.{and_parts, and_from}
use Rattle.dbn_value.specs.Order.{value_type, type_eq}
use Rattle.dbn_value.specs.Shape.{HasShape}
use Rattle.dbn_value.specs.declared.value.Value.{Value}
use Rattle.dbn_value.specs.declared.value.ColType.{ColType}
use Rattle.dbn_value.specs.declared.value.ColType.TheVariants as col
use Rattle.dbn_net.specs.Judging.{as_many, row_fits}
use Rattle.dbn_net.proofs.RoundShapes.{shape_fits, shape_arity}
use Rattle.dbn_net.specs.Tables.{columns}
use Rattle.dbn_command.specs.Lines.{has_shape}

same_type : (a b : ColType) → type_eq a b ≡ true → a ≡ b
same_type col.Int col.Int e = refl
same_type col.Int col.Text e = cc
same_type col.Int col.Id e = cc
same_type col.Text col.Int e = cc
same_type col.Text col.Text e = refl
same_type col.Text col.Id e = cc
same_type col.Id col.Int e = cc
same_type col.Id col.Text e = cc
same_type col.Id col.Id e = refl

types_from : (row : List Value) (shape : List ColType) → length row ≡ length shape → row_fits row shape ≡ true → map value_type row ≡ shape
types_from [] [] long fit = refl
types_from [] (type ∷ shape) long fit = absurd (omega (arith, long))
types_from (v ∷ row) [] long fit = absurd (omega (arith, long))
types_from (v ∷ row) (type ∷ shape) long fit =
    let (here, later) = and_parts (type_eq (value_type v) type) (row_fits row shape) fit in
    ap (λ t. t ∷ map value_type row) (same_type (value_type v) type here) ∙ ap (λ l. type ∷ l) (types_from row shape (omega (arith, long)) later)

shape_from : (row : List Value) (shape : List ColType) → has_shape row shape ≡ true → HasShape value_type row shape
shape_from row shape e =
    let (long, fit) = and_parts (as_many row shape) (row_fits row shape) e in types_from row shape (eqb-true (length row) (length shape) long) fit

shape_to : (row : List Value) (shape : List ColType) → HasShape value_type row shape → has_shape row shape ≡ true
shape_to row shape h = and_from (as_many row shape) (row_fits row shape) (shape_arity row shape h) (shape_fits row shape h)

pub shape_test : (b : Bool) (row : List Value) (shape : List ColType) → (IsTrue b ↔ HasShape value_type row shape) → b ≡ has_shape row shape
shape_test true row shape is = sym (shape_to row shape (is.0 refl))
shape_test false row shape is = by (has_shape row shape) refl
  where
    by : (c : Bool) → has_shape row shape ≡ c → false ≡ c
    by true e = absurd (clash (is.1 (shape_from row shape e)))
      where
        clash : IsTrue false → ⊥
        clash t = cc
    by false e = refl

pub no_columns : (row : List Value) → (length row == 0) ≡ has_shape row []
no_columns [] = refl
no_columns (v ∷ row) = by (length (v ∷ row) == 0)
  where
    by : (b : Bool) → b ≡ (b && true)
    by true = refl
    by false = refl

-- the columns of a transition by its number
pub columns_at : (shapes : List (List ColType)) (t : ℕ) (shape : List ColType) → slice_get shapes t ≡ Some shape → columns shapes t ≡ shape
columns_at [] t shape e = cc
columns_at (s ∷ shapes) zero shape e = cc
columns_at (s ∷ shapes) (suc t) shape e = columns_at shapes t shape e

pub no_columns_at : (shapes : List (List ColType)) (t : ℕ) → slice_get shapes t ≡ None → columns shapes t ≡ []
no_columns_at [] t e = refl
no_columns_at (s ∷ shapes) zero e = cc
no_columns_at (s ∷ shapes) (suc t) e = no_columns_at shapes t e
