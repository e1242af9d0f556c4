-- A weight of formulas, by which recursions over them end.
use Rattle.std.specs.Prelude.{ℕ, ◌+◌, length}
use Rattle.std.specs.List.{sum_by}
use Rattle.dbn_formula.specs.declared.formula.Formula.{Formula}
use Rattle.dbn_formula.specs.declared.formula.Formula.TheOpen.{Formula-F}
use Rattle.dbn_formula.specs.declared.formula.Formula.TheOpen as layer
use Rattle.dbn_formula.specs.declared.formula.Formula.TheFolds.{fold-Formula}

abbrev pub weight_step : Formula-F ℕ → ℕ
weight_step (layer.Atom rel terms) = 1
weight_step (layer.Test cmp left right) = 1
weight_step (layer.And parts) = sum_by (λ n. n) parts + length parts + 6
weight_step (layer.Or parts) = sum_by (λ n. n) parts + 5
weight_step (layer.Not part) = part + 1
weight_step (layer.Implies left right) = left + right + 1
weight_step (layer.Exists vars body) = body + length vars + 3
weight_step (layer.Forall vars body) = body + length vars + 3

unfoldable pub weight : Formula → ℕ
weight f = fold-Formula ℕ weight_step f
