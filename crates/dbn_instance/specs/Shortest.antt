-- Lists of changes that no shorter list can replace. cmp is the order of cells.
use Rattle.std.specs.Prelude.{◌≡◌, ◌<◌, ◌≤◌, List, length}
use Rattle.std.specs.declared.cmp.Ordering.{Ordering}
use Rattle.std.specs.List.{All}
use Rattle.dbn_instance.specs.declared.fact.Change.{Change}
use Rattle.dbn_instance.specs.Facts.{Relations, fact_of, after_changes}

-- no list of changes that leads to the same instance is shorter
abbrev pub IsShortest : {C : Type 0} → (C → C → Ordering) → List (Change C) → Relations C → Type 0
IsShortest {C} cmp changes db =
    (others : List (Change C)) → All (λ c. (fact_of c).rel < length db) others → after_changes cmp others db ≡ after_changes cmp changes db → length changes ≤ length others
