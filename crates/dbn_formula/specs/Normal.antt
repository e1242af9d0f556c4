-- The normal form: no `implies` and no `forall`, and `not` only before an atom or an `exists`.
use Rattle.std.specs.Prelude.{Bool, true, false, not, [], ◌∷◌, map}
use Rattle.dbn_value.specs.declared.term.Cmp.{Cmp}
use Rattle.dbn_value.specs.declared.term.Cmp.TheVariants as cmp
use Rattle.dbn_formula.specs.declared.formula.Formula.{Formula}
use Rattle.dbn_formula.specs.declared.formula.Formula.TheVariants.{Atom, Test, And, Or, Not, Exists}
use Rattle.dbn_formula.specs.declared.formula.Formula.TheOpen.{Formula-F}
use Rattle.dbn_formula.specs.declared.formula.Formula.TheOpen as layer
use Rattle.dbn_formula.specs.declared.formula.Formula.TheFolds.{fold-Formula}

-- the comparison that holds exactly where the other doesn't
abbrev pub denied_cmp : Cmp → Cmp
denied_cmp cmp.Eq = cmp.Ne
denied_cmp cmp.Ne = cmp.Eq
denied_cmp cmp.Lt = cmp.Ge
denied_cmp cmp.Le = cmp.Gt
denied_cmp cmp.Gt = cmp.Le
denied_cmp cmp.Ge = cmp.Lt

-- the normal form of the formula (true) and that of its negation (false)
abbrev pub normal_step : Formula-F (Bool → Formula) → Bool → Formula
normal_step (layer.Atom rel terms) true = Atom rel terms
normal_step (layer.Atom rel terms) false = Not (Atom rel terms)
normal_step (layer.Test cmp left right) true = Test cmp left right
normal_step (layer.Test cmp left right) false = Test (denied_cmp cmp) left right
normal_step (layer.And parts) true = And (map (λ part. part true) parts)
normal_step (layer.And parts) false = Or (map (λ part. part false) parts)
normal_step (layer.Or parts) true = Or (map (λ part. part true) parts)
normal_step (layer.Or parts) false = And (map (λ part. part false) parts)
normal_step (layer.Not part) keep = part (not keep)
normal_step (layer.Implies left right) true = Or (left false ∷ right true ∷ [])
normal_step (layer.Implies left right) false = And (left true ∷ right false ∷ [])
normal_step (layer.Exists vars body) true = Exists vars (body true)
normal_step (layer.Exists vars body) false = Not (Exists vars (body true))
normal_step (layer.Forall vars body) true = Not (Exists vars (body false))
normal_step (layer.Forall vars body) false = Exists vars (body false)

unfoldable pub normal_at : Formula → Bool → Formula
normal_at f keep = fold-Formula (Bool → Formula) normal_step f keep

abbrev pub normal : Formula → Formula
normal f = normal_at f true
