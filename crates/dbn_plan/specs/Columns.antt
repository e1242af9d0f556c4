-- Which column has which label, and what an atom asks of the columns of its relation.
use Rattle.std.specs.Prelude.{Bool, false, ℕ, suc, if◌then◌else◌, List, [], ◌∷◌, ◌++◌, length, Option, Some, None, ◌≡◌, slice_get}
use Rattle.std.specs.Option.{option_map}
use Rattle.dbn_value.specs.declared.value.Value.{Value}
use Rattle.dbn_value.specs.declared.term.Var.{Var}
use Rattle.dbn_value.specs.declared.term.Term.{Term}
use Rattle.dbn_value.specs.declared.term.Term.TheVariants as term
use Rattle.dbn_value.specs.declared.term.Cmp.TheVariants as cmp
use Rattle.dbn_value.specs.Members.{In}
use Rattle.std.specs.Ordering.{is_eq}
use Rattle.dbn_value.specs.Order.{value_cmp}
use Rattle.dbn_formula.specs.Variables.{var_eq, is_in}
use Rattle.dbn_plan.specs.Meaning.{vars_of}
use Rattle.dbn_nodes.specs.declared.node.ColTest.{ColTest}
use Rattle.dbn_nodes.specs.declared.node.ColTest.TheVariants as test

-- the two are the same term
abbrev pub term_eq : Term → Term → Bool
term_eq (term.Var x) (term.Var y) = var_eq x y
term_eq (term.Const v) (term.Const w) = is_eq (value_cmp v w)
term_eq (term.Var x) (term.Const w) = false
term_eq (term.Const v) (term.Var y) = false

-- the first column whose label is the variable
abbrev pub position : List Term → Var → Option ℕ
position [] x = None
position (term.Var y ∷ labels) x = if var_eq x y then Some 0 else option_map (λ i. suc i) (position labels x)
position (term.Const v ∷ labels) x = option_map (λ i. suc i) (position labels x)

-- ---- the rows of a relation that an atom names

module _ {C : Type 0} where
  abbrev pub constant_test : ℕ → Option C → List (ColTest C)
  constant_test i (Some c) = test.Constant cmp.Eq i c ∷ []
  constant_test i None = []

  abbrev pub repeat_test : ℕ → Option ℕ → List (ColTest C)
  repeat_test i (Some j) = test.Columns cmp.Eq j i ∷ []
  repeat_test i None = []

  -- the test of a term behind these terms: a constant has to be there, and a variable that stands before has to be the same
  abbrev pub test_of : (Value → Option C) → List Term → Term → List (ColTest C)
  test_of K before (term.Const v) = constant_test (length before) (K v)
  test_of K before (term.Var x) = repeat_test (length before) (position before x)

  -- the tests of these terms, where those before them have theirs
  abbrev pub tests_after : (Value → Option C) → List Term → List Term → List (ColTest C)
  tests_after K before [] = []
  tests_after K before (a ∷ terms) = test_of K before a ++ tests_after K (before ++ a ∷ []) terms

-- ---- the columns that two inputs share

abbrev pub pair_with : ℕ → Option ℕ → List (ℕ × ℕ)
pair_with i (Some c) = (c, i) ∷ []
pair_with i None = []

-- the pair of the term at this position, if it is a variable that has a column
abbrev pub pair_of : List Term → ℕ → Term → List (ℕ × ℕ)
pair_of labels i (term.Const v) = []
pair_of labels i (term.Var x) = pair_with i (position labels x)

-- the pairs of these terms, from the position on
abbrev pub pairs_from : List Term → ℕ → List Term → List (ℕ × ℕ)
pairs_from labels i [] = []
pairs_from labels i (a ∷ terms) = pair_of labels i a ++ pairs_from labels (suc i) terms

-- ---- columns with given labels

-- the columns have these labels
abbrev pub Labelled : List Term → List ℕ → List Term → Type 0
Labelled labels [] [] = Unit {0}
Labelled labels [] (w ∷ wanted) = ⊥
Labelled labels (c ∷ cols) [] = ⊥
Labelled labels (c ∷ cols) (w ∷ wanted) = (slice_get labels c ≡ Some w) × Labelled labels cols wanted

-- the labels, and behind them those of the variables that they don't have
abbrev pub with_vars : List Term → List Var → List Term
with_vars labels [] = labels
with_vars labels (x ∷ xs) = with_vars (if is_in x (vars_of labels) then labels else labels ++ term.Var x ∷ []) xs

-- the values have cells
abbrev pub HaveCells : {C : Type 0} → (Value → Option C) → List Value → Type 0
HaveCells {C} K values = (v : Value) → In v values → (c : C) × (K v ≡ Some c)
