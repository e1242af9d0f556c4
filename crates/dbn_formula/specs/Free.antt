-- The free variables of a formula.
use Rattle.std.specs.Prelude.{not, List, [], ◌∷◌, ◌++◌}
use Rattle.std.specs.List.{filter, flat_map}
use Rattle.dbn_value.specs.declared.term.Var.{Var}
use Rattle.dbn_value.specs.declared.term.Term.{Term}
use Rattle.dbn_value.specs.declared.term.Term.TheVariants as term
use Rattle.dbn_formula.specs.Variables.{TypedVars, binds, firsts}
use Rattle.dbn_formula.specs.declared.formula.Formula.{Formula}
use Rattle.dbn_formula.specs.declared.formula.Formula.TheOpen.{Formula-F}
use Rattle.dbn_formula.specs.declared.formula.Formula.TheOpen as layer
use Rattle.dbn_formula.specs.declared.formula.Formula.TheFolds.{fold-Formula}

abbrev pub variable_of : Term → List Var
variable_of (term.Var x) = x ∷ []
variable_of (term.Const v) = []

-- the variables that the quantified ones don't hide
abbrev pub unhidden : TypedVars → List Var → List Var
unhidden vars xs = filter (λ x. not (binds vars x)) xs

abbrev pub occurrences_step : Formula-F (List Var) → List Var
occurrences_step (layer.Atom rel terms) = flat_map variable_of terms
occurrences_step (layer.Test cmp left right) = variable_of left ++ variable_of right
occurrences_step (layer.And parts) = flat_map (λ part. part) parts
occurrences_step (layer.Or parts) = flat_map (λ part. part) parts
occurrences_step (layer.Not part) = part
occurrences_step (layer.Implies left right) = left ++ right
occurrences_step (layer.Exists vars body) = unhidden vars body
occurrences_step (layer.Forall vars body) = unhidden vars body

-- the free variables in reading order, as often as they occur
unfoldable pub occurrences : Formula → List Var
occurrences f = fold-Formula (List Var) occurrences_step f

-- each once, in order of first occurrence
abbrev pub free : Formula → List Var
free f = firsts (occurrences f)
