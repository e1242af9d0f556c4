-- Events, and where they lead: from one ascending list of rows to another. R is the order of cells.
use Rattle.std.specs.Prelude.{◌≡◌, Bool, true, false, cond, List, [], ◌∷◌, ◌++◌}
use Rattle.std.specs.declared.cmp.Ordering.{Ordering}
use Rattle.std.specs.Cmp.Lexicographic.{slice_cmp}
use Rattle.std.specs.BTreeMap.{is_at}
use Rattle.std.specs.BTreeSet.{insert_key}
use Rattle.std.specs.Set.{remove_key}
use Rattle.dbn_nodes.specs.declared.event.Event.{Event}
use Rattle.dbn_nodes.specs.declared.event.Event.TheVariants as event
use Rattle.dbn_nodes.specs.Tables.{has}

module _ {C : Type 0} where
  -- the row of an event
  abbrev pub row_in : Event C → List C
  row_in (event.Plus row) = row
  row_in (event.Minus row) = row

  -- whether the row of an event comes
  abbrev pub comes : Event C → Bool
  comes (event.Plus row) = true
  comes (event.Minus row) = false

  -- the event that a row comes, or that it goes
  abbrev pub signed : Bool → List C → Event C
  signed b row = cond b (event.Plus row) (event.Minus row)

  -- the row before the other one, or behind it
  abbrev pub paired : Bool → List C → List C → List C
  paired front row other = cond front (row ++ other) (other ++ row)

  module _ (R : C → C → Ordering) where
    -- the events, one after the other, make t of s: a row that comes isn't there at its turn, and a row that goes is
    abbrev pub Leads : List (List C) → List (Event C) → List (List C) → Type 0
    Leads s [] t = s ≡ t
    Leads s (event.Plus row ∷ es) t = (has (slice_cmp R) s row ≡ false) × Leads (insert_key (slice_cmp R) s row) es t
    Leads s (event.Minus row ∷ es) t = (has (slice_cmp R) s row ≡ true) × Leads (remove_key (is_at (slice_cmp R row)) s) es t

-- the one element, or none
abbrev pub maybe : {A : Type 0} → Bool → A → List A
maybe b x = cond b (x ∷ []) []
