-- Alternatives that fail wherever the other parts of a conjunction hold, as x != y does beside x = y.
use Rattle.std.specs.Prelude.{◌≡◌, Bool, true, false, not, ◌&&◌, ◌||◌, List, [], ◌∷◌, map}
use Rattle.std.specs.List.{list_any, filter, flat_map}
use Rattle.dbn_value.specs.declared.term.Var.{Var}
use Rattle.dbn_value.specs.declared.term.Term.{Term}
use Rattle.dbn_value.specs.declared.term.Term.TheVariants as term
use Rattle.dbn_value.specs.declared.term.Cmp.{Cmp}
use Rattle.dbn_value.specs.declared.term.Cmp.TheVariants as cmp
use Rattle.dbn_formula.specs.Variables.{var_eq}
use Rattle.dbn_formula.specs.declared.formula.Formula.{Formula, roll-Formula, out-Formula}
use Rattle.dbn_formula.specs.declared.formula.Formula.TheVariants.{And, Or, Exists}
use Rattle.dbn_formula.specs.declared.formula.Formula.TheOpen.{Formula-F}
use Rattle.dbn_formula.specs.declared.formula.Formula.TheOpen as layer
use Rattle.dbn_formula.specs.declared.formula.Formula.TheFolds.{fold-Formula}

abbrev pub Pair : Type 0
Pair = Var × Var

abbrev pub same_pair : Pair → Pair → Bool
same_pair a b = var_eq a.0 b.0 && var_eq a.1 b.1

-- the keys of a set get these pairs
abbrev pub Adds : List Pair → List Pair → List Pair → Type 0
Adds old new eqs = (p : Pair) → list_any (same_pair p) new ≡ (list_any (same_pair p) old || list_any (same_pair p) eqs)

-- an equation of two variables, in both orders
abbrev pub equated_sides : Cmp → Term → Term → List Pair
equated_sides cmp.Eq (term.Var x) (term.Var y) = (x, y) ∷ (y, x) ∷ []
equated_sides c left right = []

abbrev pub equated_step : Formula-F (List Pair) → List Pair
equated_step (layer.Test c left right) = equated_sides c left right
equated_step (layer.And parts) = flat_map (λ part. part) parts
equated_step other = []

-- the pairs of variables that are equal wherever the formula holds, by the equations that stand in it under `and` alone
unfoldable pub equated : Formula → List Pair
equated f = fold-Formula (List Pair) equated_step f

-- it fails where both sides are equal
abbrev pub is_strict : Cmp → Bool
is_strict cmp.Ne = true
is_strict cmp.Lt = true
is_strict cmp.Gt = true
is_strict other = false

abbrev pub sides_ruled_out : List Pair → Cmp → Term → Term → Bool
sides_ruled_out eqs c (term.Var x) (term.Var y) = is_strict c && list_any (same_pair (x, y)) eqs
sides_ruled_out eqs c left right = false

abbrev pub ruled_out_layer : List Pair → Formula-F Formula → Bool
ruled_out_layer eqs (layer.Test c left right) = sides_ruled_out eqs c left right
ruled_out_layer eqs other = false

-- a comparison that fails where these pairs are equal
unfoldable pub ruled_out : List Pair → Formula → Bool
ruled_out eqs f = ruled_out_layer eqs (out-Formula f)

abbrev pub left_over : List Pair → List Formula → List Formula
left_over eqs parts = filter (λ part. not (ruled_out eqs part)) parts

abbrev pub part_layer : List Pair → Formula-F Formula → Formula
part_layer eqs (layer.Or parts) = Or (left_over eqs parts)
part_layer eqs other = roll-Formula other

-- a disjunction loses the alternatives that are ruled out
unfoldable pub eased_part : List Pair → Formula → Formula
eased_part eqs f = part_layer eqs (out-Formula f)

abbrev pub body_layer : Formula-F Formula → Formula
body_layer (layer.And parts) = And (map (eased_part (flat_map equated parts)) parts)
body_layer other = roll-Formula other

-- so does each part of a conjunction, beside all of its equations
unfoldable pub eased_body : Formula → Formula
eased_body f = body_layer (out-Formula f)

abbrev pub form_layer : Formula-F Formula → Formula
form_layer (layer.Exists vars body) = Exists vars (eased_body body)
form_layer other = eased_body (roll-Formula other)

-- the conjunction is the formula, or stands behind a quantifier at its head
unfoldable pub eased : Formula → Formula
eased f = form_layer (out-Formula f)
