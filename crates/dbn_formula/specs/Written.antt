-- What is written in a formula: its variables, its relations, and how deep its text nests parentheses.
use Rattle.std.specs.Prelude.{ℕ, ◌+◌, ◌<◌, nat_lt, max, Bool, List, [], ◌∷◌, ◌++◌, map}
use Rattle.std.specs.List.{list_all, flat_map}
use Rattle.dbn_value.specs.Members.{In}
use Rattle.dbn_value.specs.declared.term.Var.{Var}
use Rattle.dbn_formula.specs.Free.{variable_of}
use Rattle.dbn_formula.specs.declared.formula.Formula.{Formula}
use Rattle.dbn_formula.specs.declared.formula.Formula.TheOpen.{Formula-F}
use Rattle.dbn_formula.specs.declared.formula.Formula.TheOpen as layer
use Rattle.dbn_formula.specs.declared.formula.Formula.TheFolds.{fold-Formula}

-- ---- variables

abbrev pub written_step : Formula-F (List Var) → List Var
written_step (layer.Atom rel terms) = flat_map variable_of terms
written_step (layer.Test cmp left right) = variable_of left ++ variable_of right
written_step (layer.And parts) = flat_map (λ part. part) parts
written_step (layer.Or parts) = flat_map (λ part. part) parts
written_step (layer.Not part) = part
written_step (layer.Implies left right) = left ++ right
written_step (layer.Exists vars body) = map (λ x. x.0) vars ++ body
written_step (layer.Forall vars body) = map (λ x. x.0) vars ++ body

-- every variable that is written, quantified ones included, in reading order
unfoldable pub written : Formula → List Var
written f = fold-Formula (List Var) written_step f

-- ---- relations

abbrev pub relations_step : Formula-F (List ℕ) → List ℕ
relations_step (layer.Atom rel terms) = rel ∷ []
relations_step (layer.Test cmp left right) = []
relations_step (layer.And parts) = flat_map (λ part. part) parts
relations_step (layer.Or parts) = flat_map (λ part. part) parts
relations_step (layer.Not part) = part
relations_step (layer.Implies left right) = left ++ right
relations_step (layer.Exists vars body) = body
relations_step (layer.Forall vars body) = body

-- the numbers of the relations of its atoms, in reading order
unfoldable pub relations : Formula → List ℕ
relations f = fold-Formula (List ℕ) relations_step f

-- its atoms are of the first n relations
abbrev pub OfFirst : ℕ → Formula → Type 0
OfFirst n f = (rel : ℕ) → In rel (relations f) → rel < n

-- the same as a test
unfoldable pub of_first : ℕ → Formula → Bool
of_first n f = list_all (λ rel. nat_lt rel n) (relations f)

-- ---- depth

abbrev pub deepest : List ℕ → ℕ
deepest [] = 0
deepest (n ∷ ns) = max n (deepest ns)

-- each part stands between parentheses of its own; a quantifier has the list of its variables, each of them a pair
abbrev pub depth_step : Formula-F ℕ → ℕ
depth_step (layer.Atom rel terms) = 1
depth_step (layer.Test cmp left right) = 1
depth_step (layer.And parts) = deepest parts + 1
depth_step (layer.Or parts) = deepest parts + 1
depth_step (layer.Not part) = part + 1
depth_step (layer.Implies left right) = max left right + 1
depth_step (layer.Exists vars body) = max body 2 + 1
depth_step (layer.Forall vars body) = max body 2 + 1

-- how deep its text nests parentheses
unfoldable pub depth_of : Formula → ℕ
depth_of f = fold-Formula ℕ depth_step f
