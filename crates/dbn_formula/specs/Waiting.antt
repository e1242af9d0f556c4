-- Parts that were not safe, once more is bound.
use Rattle.std.specs.Prelude.{◌≡◌, ◌≤◌, ℕ, Bool, false, List, ◌++◌}
use Rattle.dbn_value.specs.declared.term.Var.{Var}
use Rattle.dbn_value.specs.declared.term.Term.{Term}
use Rattle.dbn_value.specs.declared.term.Term.TheVariants as term
use Rattle.dbn_formula.specs.Variables.{is_in}
use Rattle.dbn_formula.specs.Safe.{safe}
use Rattle.dbn_formula.specs.Conjuncts.{safe_position}
use Rattle.dbn_formula.specs.declared.formula.Formula.{Formula}

-- the first `many` were not safe before the fresh variables were bound
abbrev pub WereUnsafe : ℕ → List Formula → List Var → List Var → Type 0
WereUnsafe many fs fresh bound = (before : List Var) × (bound ≡ before ++ fresh) × (many ≤ safe_position fs before)

-- where it isn't safe, the fresh variables don't help
abbrev pub StaysUnsafe : Formula → List Var → Type 0
StaysUnsafe f fresh = (before : List Var) → safe f before ≡ false → safe f (before ++ fresh) ≡ false

-- the term is one of these variables
abbrev pub is_among : List Var → Term → Bool
is_among xs (term.Var x) = is_in x xs
is_among xs (term.Const v) = false
