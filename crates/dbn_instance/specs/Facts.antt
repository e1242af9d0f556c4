-- An instance as a list of its relations, each a strictly ascending list of rows; its changes, and what an action makes of it.
-- cmp is the order of cells.
use Rattle.std.specs.Prelude.{◌≡◌, ℕ, ◌+◌, ◌<◌, Bool, true, false, not, ◌&&◌, List, [], ◌∷◌, ◌++◌, map, length, drop, Some, slice_get, slice_index_or, slice_set}
use Rattle.std.specs.declared.cmp.Ordering.{Ordering}
use Rattle.std.specs.Ordering.{eq_by_cmp}
use Rattle.std.specs.Cmp.Lexicographic.{slice_cmp}
use Rattle.std.specs.List.{list_any, filter, All, AllByRecursion}
use Rattle.std.specs.List.Sorted.{IsStrictlySortedBy}
use Rattle.std.specs.BTreeMap.{is_at}
use Rattle.std.specs.BTreeSet.{insert_key}
use Rattle.std.specs.Set.{remove_key}
use Rattle.dbn_value.specs.Ascending.{ascending}
use Rattle.dbn_instance.specs.declared.fact.Fact.{Fact}
use Rattle.dbn_instance.specs.declared.fact.Change.{Change}
use Rattle.dbn_instance.specs.declared.fact.Change.TheVariants.{Plus, Minus}
use Rattle.dbn_instance.specs.FactOrder.{fact_cmp}

-- the rows of each relation
abbrev pub Relations : Type 0 → Type 0
Relations C = List (List (List C))

module _ {C : Type 0} where
  -- the rows of a relation
  abbrev pub rows_of : Relations C → ℕ → List (List C)
  rows_of db rel = slice_index_or db rel []

  -- the fact of a change
  abbrev pub fact_of : Change C → Fact C
  fact_of (Plus f) = f
  fact_of (Minus f) = f

  -- whether the fact of a change comes; else it goes
  abbrev pub comes : Change C → Bool
  comes (Plus f) = true
  comes (Minus f) = false

  -- the change that takes a change back
  abbrev pub turned : Change C → Change C
  turned (Plus f) = Minus f
  turned (Minus f) = Plus f

  -- the facts are of relations that the instance has
  abbrev pub AreInRange : Relations C → List (Fact C) → Type 0
  AreInRange db facts = All (λ f. f.rel < length db) facts

  module _ (cmp : C → C → Ordering) where
    -- the rows of each relation strictly ascend
    abbrev pub IsInstance : Relations C → Type 0
    IsInstance db = AllByRecursion (IsStrictlySortedBy (slice_cmp cmp)) db

    abbrev pub has_fact : Relations C → Fact C → Bool
    has_fact db f = list_any (is_at (slice_cmp cmp f.row)) (rows_of db f.rel)

    abbrev pub with_fact : Relations C → Fact C → Relations C
    with_fact db f = slice_set db f.rel (insert_key (slice_cmp cmp) (rows_of db f.rel) f.row)

    abbrev pub without_fact : Relations C → Fact C → Relations C
    without_fact db f = slice_set db f.rel (remove_key (is_at (slice_cmp cmp f.row)) (rows_of db f.rel))

    -- with all the facts, and without them
    abbrev pub with_facts : Relations C → List (Fact C) → Relations C
    with_facts db [] = db
    with_facts db (f ∷ facts) = with_facts (with_fact db f) facts

    abbrev pub without_facts : Relations C → List (Fact C) → Relations C
    without_facts db [] = db
    without_facts db (f ∷ facts) = without_facts (without_fact db f) facts

    -- what an action makes of an instance: the deleted facts go, and then the added ones come
    abbrev pub after_action : List (Fact C) → List (Fact C) → Relations C → Relations C
    after_action deletes adds db = with_facts (without_facts db deletes) adds

    -- after one change, and after several, the first of them first
    abbrev pub changed : Relations C → Change C → Relations C
    changed db (Plus f) = with_fact db f
    changed db (Minus f) = without_fact db f

    abbrev pub after_changes : List (Change C) → Relations C → Relations C
    after_changes [] db = db
    after_changes (c ∷ changes) db = after_changes changes (changed db c)

    -- changes taken back, the last of them first
    abbrev pub taken_back : List (Change C) → Relations C → Relations C
    taken_back [] db = db
    taken_back (c ∷ changes) db = changed (taken_back changes db) (turned c)

    -- taking changes back stopped at a Minus, whose fact wants memory to come again: exactly the changes behind it are taken back
    pub record StoppedAt (at : ℕ) (changes : List (Change C)) (old new : Relations C) : Type 0 where
      pub minus : (f : Fact C) × (slice_get changes at ≡ Some (Minus f))
      pub behind : new ≡ taken_back (drop (at + 1) changes) old

    -- a fact that comes isn't there, and one that goes is
    abbrev pub Fits : Relations C → Change C → Type 0
    Fits db (Plus f) = has_fact db f ≡ false
    Fits db (Minus f) = has_fact db f ≡ true

    -- each change fits where those before it have happened
    abbrev pub AllFit : List (Change C) → Relations C → Type 0
    AllFit [] db = Unit {0}
    AllFit (c ∷ changes) db = Fits db c × AllFit changes (changed db c)

    -- one of the facts is f
    abbrev pub is_among : List (Fact C) → Fact C → Bool
    is_among facts f = list_any (eq_by_cmp (fact_cmp cmp) f) facts

    -- the deleted facts that are there and not added, and the added facts that are not there; by relation and row, each once
    abbrev pub lost_facts : List (Fact C) → List (Fact C) → Relations C → List (Fact C)
    lost_facts deletes adds db = ascending (fact_cmp cmp) (filter (λ f. has_fact db f && not (is_among adds f)) deletes)

    abbrev pub missing_facts : List (Fact C) → Relations C → List (Fact C)
    missing_facts facts db = filter (λ f. not (has_fact db f)) facts

    abbrev pub gained_facts : List (Fact C) → Relations C → List (Fact C)
    gained_facts adds db = ascending (fact_cmp cmp) (missing_facts adds db)

    -- the shortest list of changes that leads to what the action makes of the instance
    abbrev pub net_changes : List (Fact C) → List (Fact C) → Relations C → List (Change C)
    net_changes deletes adds db = map (λ f. Minus f) (lost_facts deletes adds db) ++ map (λ f. Plus f) (gained_facts adds db)
