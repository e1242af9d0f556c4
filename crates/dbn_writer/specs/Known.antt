-- Declarations each of whose numbers is that of something that the net declares.
use Rattle.std.specs.Prelude.{◌≡◌, ℕ, ◌<◌, ◌^◌, true, List, length, Option, Some, None}
use Rattle.std.specs.List.{All}
use Rattle.dbn_formula.specs.Written.{of_first}
use Rattle.dbn_formula.specs.declared.formula.Formula.{Formula}
use Rattle.dbn_instance.specs.declared.fact.FactPattern.{FactPattern}
use Rattle.dbn_net.specs.declared.rules.Arc.{Arc}
use Rattle.dbn_net.specs.declared.rules.Call.{Call}
use Rattle.dbn_net.specs.declared.rules.Transition.{Transition}
use Rattle.dbn_net.specs.declared.decl.Place.{Place}
use Rattle.dbn_net.specs.declared.decl.Place.TheVariants.{Control, View}
use Rattle.dbn_net.specs.declared.decl.Decl.{Decl}
use Rattle.dbn_net.specs.declared.decl.Decl.TheVariants.{Relation, Key, Foreign, Always, Query, Act, Site, Trans}
use Rattle.dbn_net.specs.Tables.{relations, queries, actions, places, field_names}

-- a relation of the net, and columns of it
pub record FieldsKnown (net : List Decl) (rel : ℕ) (fields : List ℕ) : Type 0 where
  pub relation : rel < length (relations net)
  pub columns : All (λ n. n < length (field_names net rel)) fields

abbrev pub FormulaKnown : List Decl → Formula → Type 0
FormulaKnown net f = of_first (length (relations net)) f ≡ true

abbrev pub FactsKnown : List Decl → List FactPattern → Type 0
FactsKnown net patterns = All (λ p. p.rel < length (relations net)) patterns

abbrev pub PlaceKnown : List Decl → Place → Type 0
PlaceKnown net (Control name shape) = Unit {0}
PlaceKnown net (View name query) = query < length (queries net)

-- a place of the net, and counts of tokens
pub record ArcKnown (net : List Decl) (arc : Arc) : Type 0 where
  pub place : arc.place < length (places net)
  pub counts : All (λ p. p.many < 2 ^ 32) arc.patterns

-- a guard names no relation
abbrev pub GuardKnown : Option Formula → Type 0
GuardKnown None = Unit {0}
GuardKnown (Some g) = of_first 0 g ≡ true

abbrev pub CallKnown : List Decl → Option Call → Type 0
CallKnown net None = Unit {0}
CallKnown net (Some c) = c.action < length (actions net)

pub record TransitionKnown (net : List Decl) (t : Transition) : Type 0 where
  pub ins : All (ArcKnown net) t.ins
  pub reads : All (λ r. r.view < length (places net)) t.reads
  pub guard : GuardKnown t.guard
  pub call : CallKnown net t.call
  pub outs : All (ArcKnown net) t.outs
  pub backs : All (ArcKnown net) t.backs

-- each number of the declaration is that of something that the net declares
abbrev pub Known : List Decl → Decl → Type 0
Known net (Relation name fields) = Unit {0}
Known net (Key rel fields) = FieldsKnown net rel fields
Known net (Foreign rel fields to to_fields) = FieldsKnown net rel fields × FieldsKnown net to to_fields
Known net (Always name body) = FormulaKnown net body
Known net (Query name vars body) = FormulaKnown net body
Known net (Act a) = FactsKnown net a.deletes × FactsKnown net a.adds
Known net (Site p) = PlaceKnown net p
Known net (Trans t) = TransitionKnown net t
