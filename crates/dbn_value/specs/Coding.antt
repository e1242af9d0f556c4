-- What a coder keeps while it grows, and rows of values as rows of cells.
use Rattle.std.specs.Prelude.{◌≡◌, ℤ, List, [], ◌∷◌, Option, Some}
use Rattle.std.specs.Option.{option_map, option_and_then}
use Rattle.std.specs.Ordering.{int_cmp}
use Rattle.std.specs.declared.cmp.Ordering.{Ordering}
use Rattle.std.specs.Cmp.{IsTotalOrder}
use Rattle.std.specs.FinMap.{IsAntisymmetric}
use Rattle.dbn_value.specs.Order.{value_int}
use Rattle.dbn_value.specs.declared.value.Value.{Value}

module _ {C : Type 0} where
  -- the cells that the old coder gives are given by the new one too
  abbrev pub Extends : (Value → Option C) → (Value → Option C) → Type 0
  Extends old new = (v : Value) (c : C) → old v ≡ Some c → new v ≡ Some c

  -- the way back: each cell that a value has stands for that value
  abbrev pub Decodes : (Value → Option C) → (C → Value) → Type 0
  Decodes cell_of value_of = (v : Value) (c : C) → cell_of v ≡ Some c → value_of c ≡ v

  -- the cells of a row of values, where each of them has one
  abbrev pub cells_of : (Value → Option C) → List Value → Option (List C)
  cells_of cell_of [] = Some []
  cells_of cell_of (v ∷ row) = option_and_then (λ c. option_map (λ cells. c ∷ cells) (cells_of cell_of row)) (cell_of v)

  -- cells for values: different values have different cells, and ints are ordered by their numbers
  pub record IsCoding (R : C → C → Ordering) (int_of : C → Option ℤ) (cell_of : Value → Option C) : Type 0 where
    pub total : IsTotalOrder R
    pub exact : IsAntisymmetric R
    pub one : (v w : Value) (c : C) → cell_of v ≡ Some c → cell_of w ≡ Some c → v ≡ w
    pub ints : (v : Value) (c : C) → cell_of v ≡ Some c → int_of c ≡ value_int v
    pub by_number : (a b : C) (m n : ℤ) → int_of a ≡ Some m → int_of b ≡ Some n → R a b ≡ int_cmp m n
