-- What the rows of a node say: each column has a label, a term, and a row has the cells of the values that an environment
-- gives these terms.
use Rattle.std.specs.Prelude.{◌≡◌, ◌<◌, ℕ, Bool, true, List, [], map, Option, Some, slice_index_or}
use Rattle.std.specs.List.{flat_map}
use Rattle.dbn_value.specs.Members.{In}
use Rattle.dbn_value.specs.declared.value.Value.{Value}
use Rattle.dbn_value.specs.declared.term.Var.{Var}
use Rattle.dbn_value.specs.declared.term.Term.{Term}
use Rattle.dbn_formula.specs.Holds.{Env, Instance, Agree, value_of}
use Rattle.dbn_formula.specs.Free.{variable_of}

module _ {C : Type 0} where
  -- the row has the cells of the values that t gives the labels
  abbrev pub Gives : (Value → Option C) → Env → List Term → List C → Type 0
  Gives K t labels row = map (λ a. K (value_of t a)) labels ≡ map Some row

  -- the row of cells is that of the row of values
  abbrev pub IsRowOf : (Value → Option C) → List C → List Value → Type 0
  IsRowOf K cells row = map K row ≡ map Some cells

  -- the feeds of relations hold the cells of an instance, and only these
  pub record Holds (K : Value → Option C) (rels : ℕ) (feeds : List (List (List C))) (db : Instance) : Type 0 where
    pub there : (rel : ℕ) (row : List Value) → In row (slice_index_or db rel []) → (rel < rels) × (cells : List C) × IsRowOf K cells row × In cells (slice_index_or feeds rel [])
    pub back : (rel : ℕ) (cells : List C) → rel < rels → In cells (slice_index_or feeds rel []) → (row : List Value) × IsRowOf K cells row × In row (slice_index_or db rel [])

  -- the rows are those of the environments that pass p
  pub record Means (K : Value → Option C) (rows : List (List C)) (labels : List Term) (p : Env → Bool) : Type 0 where
    pub each : (row : List C) → In row rows → (t : Env) × Gives K t labels row × (p t ≡ true)
    pub all : (t : Env) → p t ≡ true → (row : List C) × Gives K t labels row × In row rows

-- the variables of labels
abbrev pub vars_of : List Term → List Var
vars_of labels = flat_map variable_of labels

-- p looks only at these variables
abbrev pub LooksAt : List Var → (Env → Bool) → Type 0
LooksAt xs p = (s t : Env) → Agree xs s t → p s ≡ p t
