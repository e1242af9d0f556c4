-- What holds of a net and its start snapshot while they are read.
use Rattle.std.specs.Prelude.{◌≡◌, ℕ, ◌<◌, ◌^◌, true, false, List, length}
use Rattle.std.specs.List.{AllByRecursion}
use Rattle.dbn_value.specs.Order.{value_cmp, row_cmp}
use Rattle.dbn_value.specs.declared.value.Value.{Value}
use Rattle.dbn_sexp.specs.declared.sexp.Sexp.{Sexp}
use Rattle.dbn_formula.specs.Solutions.{HasShape}
use Rattle.dbn_instance.specs.Facts.{IsInstance, has_fact}
use Rattle.dbn_marking.specs.Counts.{IsCounted, count_at}
use Rattle.dbn_net.specs.declared.snapshot.Snapshot.{Snapshot}
use Rattle.dbn_net.specs.declared.decl.Decl.{Decl}
use Rattle.dbn_net.specs.Tables.{relations, relation_shapes, places, place_shapes, columns, is_control, has_place}
use Rattle.dbn_net.specs.Judging.{Begun}
use Rattle.dbn_net.specs.Sentences.{sentences}
use Rattle.dbn_net.specs.WellFormed.{WellFormed}
use Rattle.dbn_net.specs.Values.{next_after}
use Rattle.dbn_net.specs.Texts.{State, Start, next_of}
use Rattle.dbn_net.specs.Good.{RowsFit, TokensFit, Good}

-- a row of a relation of the net, of its shape, that is not there yet
pub record IsNewFact (net : List Decl) (begun : Begun) (rel : ℕ) (row : List Value) : Type 0 where
  pub known : rel < length (relations net)
  pub shape : HasShape row (columns (relation_shapes net) rel)
  pub is_new : has_fact value_cmp begun.facts (record { rel = rel; row = row }) ≡ false

-- from 1 to 4,294,967,295 tokens of a row of a control place, of its shape, of which there are none yet
pub record AreNewTokens (net : List Decl) (begun : Begun) (place many : ℕ) (row : List Value) : Type 0 where
  pub known : place < length (places net)
  pub control : has_place is_control (places net) place ≡ true
  pub shape : HasShape row (columns (place_shapes net) place)
  pub some : 0 < many
  pub small : many < 2 ^ 32
  pub are_new : count_at row_cmp begun.tokens place row ≡ 0

-- the state that a list was read as: all that a good snapshot asks but that the sentences hold, and one line for each sentence
pub record IsSound (list : List Sexp) (s : State) : Type 0 where
  pub well_formed : WellFormed s.decls
  pub facts_ascend : IsInstance value_cmp s.begun.facts
  pub facts_fit : RowsFit s.begun.facts (relation_shapes s.decls)
  pub tokens_counted : AllByRecursion (IsCounted row_cmp) s.begun.tokens
  pub tokens_fit : TokensFit s.begun.tokens (places s.decls)
  pub lines_are : length s.lines ≡ length (sentences s.decls)
  pub next_is : next_of list ≡ next_after s.decls s.begun.facts s.begun.tokens

-- the snapshot before the first firing
abbrev pub first_snapshot : Start → Snapshot
first_snapshot start = record { instance = start.facts; marking = start.tokens; next = start.next; fired = 0 }

-- what a text is read as: a net with a good snapshot, whose next id is the first that no value of both has
pub record IsGoodStart (start : Start) : Type 0 where
  pub well_formed : WellFormed start.decls
  pub good : Good start.decls (first_snapshot start)
  pub next_is : start.next ≡ next_after start.decls start.facts start.tokens
