-- Rows of the shape of their columns pass the tests of a fact.
use Rattle.std.proofs.Common.{◌≡◌, true, ◌&&◌, List, [], ◌∷◌, map, refl, sym, ap, subst, ◌∙◌, length}
use Rattle.std.proofs.lemmas.Bool.{eq-eqb}
use Rattle.std.proofs.lemmas.List.{length-map}
use Rattle.dbn_value.specs.Order.{value_type, type_eq}
use Rattle.dbn_value.specs.declared.value.Value.{Value}
use Rattle.dbn_value.specs.declared.value.ColType.{ColType}
use Rattle.dbn_value.specs.declared.value.ColType.TheVariants as col
use Rattle.dbn_formula.specs.Solutions.{HasShape}
use Rattle.dbn_net.specs.Judging.{as_many, row_fits}
use Rattle.dbn_net.proofs.Listed.{heads, tails}

type_same : (a b : ColType) → a ≡ b → type_eq a b ≡ true
type_same a b e = subst (λ c. type_eq a c ≡ true) e (itself a)
  where
    itself : (c : ColType) → type_eq c c ≡ true
    itself col.Int = refl
    itself col.Text = refl
    itself col.Id = refl

pub shape_fits : (row : List Value) (shape : List ColType) → HasShape row shape → row_fits row shape ≡ true
shape_fits [] shape h = refl
shape_fits (v ∷ row) [] h = absurd cc
shape_fits (v ∷ row) (type ∷ shape) h =
    ap (λ b. b && row_fits row shape) (type_same (value_type v) type (heads (value_type v) type (map value_type row) shape h))
    ∙ shape_fits row shape (tails (value_type v) type (map value_type row) shape h)

pub shape_arity : (row : List Value) (shape : List ColType) → HasShape row shape → as_many row shape ≡ true
shape_arity row shape h = eq-eqb (length row) (length shape) (sym (length-map row value_type) ∙ ap length h)
