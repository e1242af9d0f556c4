-- Whether each quantifier of a formula names each of its variables once.
use Rattle.std.specs.Prelude.{Bool, true, not, ◌&&◌, [], ◌∷◌}
use Rattle.std.specs.List.{list_all}
use Rattle.dbn_formula.specs.Variables.{TypedVars, binds}
use Rattle.dbn_formula.specs.declared.formula.Formula.{Formula}
use Rattle.dbn_formula.specs.declared.formula.Formula.TheOpen.{Formula-F}
use Rattle.dbn_formula.specs.declared.formula.Formula.TheOpen as layer
use Rattle.dbn_formula.specs.declared.formula.Formula.TheFolds.{fold-Formula}

-- no variable stands twice
abbrev pub distinct_vars : TypedVars → Bool
distinct_vars [] = true
distinct_vars (x ∷ vars) = not (binds vars x.0) && distinct_vars vars

abbrev pub distinct_step : Formula-F Bool → Bool
distinct_step (layer.Atom rel terms) = true
distinct_step (layer.Test cmp left right) = true
distinct_step (layer.And parts) = list_all (λ part. part) parts
distinct_step (layer.Or parts) = list_all (λ part. part) parts
distinct_step (layer.Not part) = part
distinct_step (layer.Implies left right) = left && right
distinct_step (layer.Exists vars body) = distinct_vars vars && body
distinct_step (layer.Forall vars body) = distinct_vars vars && body

-- every quantifier names each variable once
unfoldable pub distinct : Formula → Bool
distinct f = fold-Formula Bool distinct_step f
