-- The types of a row's cells.
use Rattle.std.specs.Prelude.{◌≡◌, List, map}
use Rattle.dbn_value.specs.declared.value.ColType.{ColType}

-- the cells have the types of the columns, one for each
abbrev pub HasShape : {C : Type 0} → (C → ColType) → List C → List ColType → Type 0
HasShape type_of row shape = map type_of row ≡ shape
