-- The size of a formula: its connectives, atoms, comparisons, quantified variables and terms.
use Rattle.std.specs.Prelude.{ℕ, ◌+◌, max, List, [], ◌∷◌, length}
use Rattle.dbn_formula.specs.declared.formula.Formula.{Formula}
use Rattle.dbn_formula.specs.declared.formula.Formula.TheOpen.{Formula-F}
use Rattle.dbn_formula.specs.declared.formula.Formula.TheOpen as layer
use Rattle.dbn_formula.specs.declared.formula.Formula.TheFolds.{fold-Formula}

abbrev pub total : List ℕ → ℕ
total [] = 0
total (n ∷ ns) = n + total ns

-- a quantifier counts its variables; one without any counts 1
abbrev pub size_step : Formula-F ℕ → ℕ
size_step (layer.Atom rel terms) = 1 + length terms
size_step (layer.Test cmp left right) = 3
size_step (layer.And parts) = 1 + total parts
size_step (layer.Or parts) = 1 + total parts
size_step (layer.Not part) = 1 + part
size_step (layer.Implies left right) = 1 + left + right
size_step (layer.Exists vars body) = max 1 (length vars) + body
size_step (layer.Forall vars body) = max 1 (length vars) + body

unfoldable pub size : Formula → ℕ
size f = fold-Formula ℕ size_step f
