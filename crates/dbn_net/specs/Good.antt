-- Good snapshots of a net.
use Rattle.std.specs.Prelude.{◌≡◌, ℕ, ◌≤◌, ◌^◌, true, List, [], ◌∷◌}
use Rattle.std.specs.List.{AllByRecursion}
use Rattle.dbn_value.specs.Order.{value_cmp, row_cmp}
use Rattle.dbn_value.specs.declared.value.Value.{Value}
use Rattle.dbn_formula.specs.Typing.{Shapes}
use Rattle.dbn_formula.specs.Solutions.{HasShape}
use Rattle.dbn_instance.specs.Facts.{IsInstance}
use Rattle.dbn_marking.specs.Counts.{IsCounted}
use Rattle.dbn_net.specs.declared.snapshot.Snapshot.{Snapshot}
use Rattle.dbn_net.specs.declared.decl.Place.{Place}
use Rattle.dbn_net.specs.declared.decl.Place.TheVariants.{Control, View}
use Rattle.dbn_net.specs.declared.decl.Decl.{Decl}
use Rattle.dbn_net.specs.Tables.{relation_shapes, places}
use Rattle.dbn_net.specs.Sentences.{consistent}
use Rattle.dbn_net.specs.Values.{Marking, all_values, ids_below}
use Rattle.dbn_net.specs.Texts.{Start}

-- each relation has rows of its shape
abbrev pub RowsFit : List (List (List Value)) → Shapes → Type 0
RowsFit [] [] = Unit {0}
RowsFit [] (shape ∷ rels) = ⊥
RowsFit (rows ∷ db) [] = ⊥
RowsFit (rows ∷ db) (shape ∷ rels) = AllByRecursion (λ row. HasShape row shape) rows × RowsFit db rels

-- the rows of a control place have its shape; a view holds none
abbrev pub PlaceFits : List (List Value × ℕ) → Place → Type 0
PlaceFits held (Control name shape) = AllByRecursion (λ counted. HasShape counted.0 shape) held
PlaceFits held (View name query) = held ≡ []

abbrev pub TokensFit : Marking → List Place → Type 0
TokensFit [] [] = Unit {0}
TokensFit [] (site ∷ sites) = ⊥
TokensFit (held ∷ marking) [] = ⊥
TokensFit (held ∷ marking) (site ∷ sites) = PlaceFits held site × TokensFit marking sites

-- a consistent state of the declared types, whose ids are all below the next one
pub record Good (net : List Decl) (s : Snapshot) : Type 0 where
  pub facts_ascend : IsInstance value_cmp s.instance
  pub facts_fit : RowsFit s.instance (relation_shapes net)
  pub tokens_counted : AllByRecursion (IsCounted row_cmp) s.marking
  pub tokens_fit : TokensFit s.marking (places net)
  pub holds : consistent net s.instance ≡ true
  pub ids : ids_below s.next (all_values net s.instance s.marking) ≡ true
  pub next_within : s.next ≤ 2 ^ 62
  pub fired_within : s.fired ≤ 2 ^ 62

-- what a text is read as, as a net and its start snapshot
abbrev pub IsStart : Start → List Decl → Snapshot → Type 0
IsStart start net s = start ≡ record { decls = net; facts = s.instance; tokens = s.marking; next = s.next }
