-- The `in` patterns and the reads of a transition as one query: each is an atom over a relation of its own, which has the rows
-- that its place shows.
use Rattle.std.specs.Prelude.{◌≡◌, ℕ, ◌+◌, Bool, true, ◌&&◌, List, [], ◌∷◌, ◌++◌, map}
use Rattle.std.specs.List.{flat_map}
use Rattle.std.specs.Option.{option_map_or}
use Rattle.std.specs.Map.{keys_of}
use Rattle.dbn_value.specs.Order.{value_cmp}
use Rattle.dbn_value.specs.Scope.{bind}
use Rattle.dbn_value.specs.declared.value.Value.{Value}
use Rattle.dbn_value.specs.declared.value.ColType.{ColType}
use Rattle.dbn_value.specs.declared.term.Term.{Term}
use Rattle.dbn_formula.specs.Holds.{Instance}
use Rattle.dbn_formula.specs.Answers.{answers}
use Rattle.dbn_formula.specs.declared.formula.Formula.{Formula}
use Rattle.dbn_formula.specs.declared.formula.Formula.TheVariants.{Atom, And}
use Rattle.dbn_marking.specs.Counts.{place_of}
use Rattle.dbn_net.specs.declared.decl.Decl.{Decl}
use Rattle.dbn_net.specs.declared.rules.Arc.{Arc}
use Rattle.dbn_net.specs.declared.rules.Read.{Read}
use Rattle.dbn_net.specs.declared.rules.Pattern.{Pattern}
use Rattle.dbn_net.specs.declared.rules.Transition.{Transition}
use Rattle.dbn_net.specs.Tables.{columns, place_shapes}
use Rattle.dbn_net.specs.Values.{Marking}
use Rattle.dbn_net.specs.Wants.{wants, contained}
use Rattle.dbn_net.specs.Enabled.{view_rows, guard_holds}

-- a pattern or a read: its terms, and the columns and the rows of its place
pub record Clause : Type 0 where
  pub terms : List Term
  pub shape : List ColType
  pub rows : List (List Value)

-- the rows that have tokens in the place, whatever their number
abbrev pub pattern_clause : List Decl → Marking → ℕ → Pattern → Clause
pattern_clause net marking place p = record { terms = p.terms; shape = columns (place_shapes net) place; rows = keys_of (place_of marking place) }

abbrev pub arc_clauses : List Decl → Marking → Arc → List Clause
arc_clauses net marking arc = map (pattern_clause net marking arc.place) arc.patterns

abbrev pub read_clause : List Decl → Instance → Read → Clause
read_clause net db r = record { terms = r.terms; shape = columns (place_shapes net) r.view; rows = view_rows net db r.view }

abbrev pub clauses : List Decl → Transition → Instance → Marking → List Clause
clauses net t db marking = flat_map (arc_clauses net marking) t.ins ++ map (read_clause net db) t.reads

-- the atoms, over the relations from number n on
abbrev pub atoms_from : ℕ → List Clause → List Formula
atoms_from n [] = []
atoms_from n (c ∷ cs) = Atom n c.terms ∷ atoms_from (n + 1) cs

abbrev pub shown_rows : List Clause → Instance
shown_rows cs = map (λ c. c.rows) cs

-- the rows of the bound variables that meet each of the clauses, ascending
abbrev pub candidates : List Decl → Transition → Instance → Marking → List (List Value)
candidates net t db marking = answers (And (atoms_from 0 (clauses net t db marking))) t.bound (shown_rows (clauses net t db marking))

-- what the clauses leave open: the numbers of tokens, and the guard
abbrev pub passes : Transition → Marking → List Value → Bool
passes t marking row =
    contained value_cmp (wants (bind t.bound row []) t.ins) marking && option_map_or (λ g. guard_holds g (bind t.bound row [])) t.guard true

-- the query of these clauses
pub record IsJoined (cs : List Clause) (atoms : List Formula) (shown : Instance) : Type 0 where
  pub atoms_are : atoms ≡ atoms_from 0 cs
  pub shown_are : shown ≡ shown_rows cs
