-- A set as the strictly ascending list of its members, and products of such lists.
use Rattle.std.specs.Prelude.{◌≡◌, List, [], ◌∷◌, map}
use Rattle.std.specs.declared.cmp.Ordering.{Ordering}
use Rattle.std.specs.List.{flat_map}
use Rattle.std.specs.BTreeSet.{insert_key}
use Rattle.dbn_value.specs.Members.{In}

-- the members of a list, each once, in the order R
abbrev pub ascending : {K : Type 0} → (K → K → Ordering) → List K → List K
ascending R [] = []
ascending R (x ∷ xs) = insert_key R (ascending R xs) x

-- all rows with one cell from each of the lists; the first cell changes slowest
abbrev pub rows_over : {A : Type 0} → List (List A) → List (List A)
rows_over [] = [] ∷ []
rows_over (column ∷ columns) = flat_map (λ cell. map (λ row. cell ∷ row) (rows_over columns)) column

-- a row has one cell from each of the lists
abbrev pub CellsIn : {A : Type 0} → List A → List (List A) → Type 0
CellsIn [] [] = Unit {0}
CellsIn [] (column ∷ columns) = ⊥
CellsIn (cell ∷ cells) [] = ⊥
CellsIn (cell ∷ cells) (column ∷ columns) = In cell column × CellsIn cells columns

-- different values have different images
abbrev pub IsOneToOne : {A B : Type 0} → (A → B) → Type 0
IsOneToOne {A} f = (x y : A) → f x ≡ f y → x ≡ y
