-- The sentences of a net: what its keys, its foreign keys and its `always` say of an instance.
use Rattle.std.specs.Prelude.{ℕ, ◌+◌, Bool, ◌==◌, if◌then◌else◌, List, [], ◌∷◌, ◌++◌, map, Option, Some, None}
use Rattle.std.specs.List.{filter_map, list_all}
use Rattle.dbn_value.specs.declared.value.ColType.{ColType}
use Rattle.dbn_value.specs.declared.term.Var.{Var}
use Rattle.dbn_value.specs.declared.term.Term.{Term}
use Rattle.dbn_value.specs.declared.term.Term.TheVariants as term
use Rattle.dbn_value.specs.declared.term.Cmp.TheVariants as cmp
use Rattle.dbn_formula.specs.Variables.{TypedVars}
use Rattle.dbn_formula.specs.Holds.{Instance}
use Rattle.dbn_formula.specs.Answers.{holds}
use Rattle.dbn_formula.specs.Normal.{normal}
use Rattle.dbn_formula.specs.Typing.{Shapes}
use Rattle.dbn_formula.specs.declared.formula.Formula.{Formula}
use Rattle.dbn_formula.specs.declared.formula.Formula.TheVariants.{Atom, Test, And, Not, Implies, Exists, Forall}
use Rattle.dbn_net.specs.declared.violation.Label.{Label}
use Rattle.dbn_net.specs.declared.violation.Label.TheVariants as label
use Rattle.dbn_net.specs.declared.violation.Named.{Named}
use Rattle.dbn_net.specs.declared.decl.Decl.{Decl}
use Rattle.dbn_net.specs.declared.decl.Decl.TheVariants.{Key, Foreign, Always}
use Rattle.dbn_net.specs.Tables.{columns, relation_shapes}

-- ---- the variables of two rows: x and y, told apart by the number of the column as mark

abbrev pub column_var : ℕ → ℕ → Var
column_var letter n = record { name = letter ∷ []; mark = n }

-- x and y
abbrev pub first_var : ℕ → Var
first_var n = column_var 120 n

abbrev pub second_var : ℕ → Var
second_var n = column_var 121 n

-- a variable for each column, from number n on
abbrev pub row_vars : (ℕ → Var) → ℕ → List ColType → TypedVars
row_vars var n [] = []
row_vars var n (type ∷ shape) = (var n, type) ∷ row_vars var (n + 1) shape

abbrev pub first_row : List ColType → TypedVars
first_row shape = row_vars first_var 0 shape

abbrev pub second_row : List ColType → TypedVars
second_row shape = row_vars second_var 0 shape

abbrev pub as_terms : TypedVars → List Term
as_terms vars = map (λ x. term.Var x.0) vars

-- ---- keys

-- the two rows have the same cell in this column
abbrev pub same_at : ℕ → Formula
same_at n = Test cmp.Eq (term.Var (first_var n)) (term.Var (second_var n))

-- the columns from number n on
abbrev pub columns_from : ℕ → List ColType → List ℕ
columns_from n [] = []
columns_from n (type ∷ shape) = n ∷ columns_from (n + 1) shape

-- two rows that agree on the fields are equal; the equations stand between the two atoms, so that the second one is looked up
abbrev pub key_sentence : List ColType → ℕ → List ℕ → Formula
key_sentence shape rel fields =
    Forall (first_row shape ++ second_row shape)
    (Implies (And (Atom rel (as_terms (first_row shape)) ∷ map same_at fields ++ Atom rel (as_terms (second_row shape)) ∷ []))
    (And (map same_at (columns_from 0 shape))))

-- ---- foreign keys

-- the column of the first row that is paired with this one of the second
abbrev pub partner : List ℕ → List ℕ → ℕ → Option ℕ
partner [] to_fields column = None
partner (f ∷ fields) [] column = None
partner (f ∷ fields) (g ∷ to_fields) column = if g == column then Some f else partner fields to_fields column

-- the variable in a column of the second row: that of its partner, or its own
abbrev pub paired_var : Option ℕ → ℕ → Var
paired_var (Some f) column = first_var f
paired_var None column = second_var column

abbrev pub paired_terms : List ℕ → List ℕ → ℕ → List ColType → List Term
paired_terms fields to_fields n [] = []
paired_terms fields to_fields n (type ∷ shape) = term.Var (paired_var (partner fields to_fields n) n) ∷ paired_terms fields to_fields (n + 1) shape

-- the variables of the second row that have no partner
abbrev pub own_var : Option ℕ → ℕ → ColType → TypedVars
own_var (Some f) column type = []
own_var None column type = (second_var column, type) ∷ []

abbrev pub own_vars : List ℕ → List ℕ → ℕ → List ColType → TypedVars
own_vars fields to_fields n [] = []
own_vars fields to_fields n (type ∷ shape) = own_var (partner fields to_fields n) n type ++ own_vars fields to_fields (n + 1) shape

-- `exists` over the variables; the body alone where there are none
abbrev pub some_of : TypedVars → Formula → Formula
some_of [] body = body
some_of (x ∷ vars) body = Exists (x ∷ vars) body

-- for each row of the one relation there is a row of the other with the same cells at the paired columns
abbrev pub foreign_sentence : List ColType → List ColType → ℕ → List ℕ → ℕ → List ℕ → Formula
foreign_sentence shape to_shape rel fields to to_fields =
    Forall (first_row shape)
    (Implies (Atom rel (as_terms (first_row shape)))
    (some_of (own_vars fields to_fields 0 to_shape) (Atom to (paired_terms fields to_fields 0 to_shape))))

-- ---- all of them, in order of declaration

abbrev pub labelled : Label → Formula → Named
labelled label item = record { label = label; item = item }

-- the sentence of a declaration
abbrev pub sentence_in : Shapes → Decl → Option Named
sentence_in rels (Key rel fields) = Some (labelled (label.Key rel) (key_sentence (columns rels rel) rel fields))
sentence_in rels (Foreign rel fields to to_fields) =
    Some (labelled (label.Foreign rel to) (foreign_sentence (columns rels rel) (columns rels to) rel fields to to_fields))
sentence_in rels (Always name body) = Some (labelled (label.Always name) body)
sentence_in rels d = None

abbrev pub labelled_sentences : List Decl → List Named
labelled_sentences net = filter_map (sentence_in (relation_shapes net)) net

abbrev pub sentences : List Decl → List Formula
sentences net = map (λ s. s.item) (labelled_sentences net)

-- every sentence holds
abbrev pub consistent : List Decl → Instance → Bool
consistent net db = list_all (λ s. holds s db []) (sentences net)

-- what holds exactly where a sentence doesn't
abbrev pub denied : Named → Named
denied s = labelled s.label (normal (Not s.item))

abbrev pub violations : List Decl → List Named
violations net = map denied (labelled_sentences net)
