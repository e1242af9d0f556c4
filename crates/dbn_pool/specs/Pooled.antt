-- What a pool, the list of the texts that were put, gives values and cells.
use Rattle.std.specs.Prelude.{ℕ, List, [], ◌∷◌, ◌++◌, get_or, position, Option, Some, None, if◌then◌else◌}
use Rattle.std.specs.List.{list_any}
use Rattle.std.specs.Option.{option_map}
use Rattle.std.specs.Str.{bytes_eq}
use Rattle.dbn_value.specs.declared.value.Value.{Value}
use Rattle.dbn_value.specs.declared.value.Value.TheVariants as value
use Rattle.dbn_pool.specs.declared.cell.SymCell.{SymCell}
use Rattle.dbn_pool.specs.declared.cell.SymCell.TheVariants.{Int, Id, Sym}

-- the symbol of a text: the place at which it stands among the texts
abbrev pub symbol_of : List (List ℕ) → List ℕ → Option ℕ
symbol_of texts text = position (bytes_eq text) texts

-- the texts after one more was put: at the end, where it is new
abbrev pub with_text : List (List ℕ) → List ℕ → List (List ℕ)
with_text texts text = if list_any (bytes_eq text) texts then texts else texts ++ text ∷ []

-- an int and an id have a cell by themselves, a text has the one of its symbol
abbrev pub cell_of : List (List ℕ) → Value → Option SymCell
cell_of texts (value.Int n) = Some (Int n)
cell_of texts (value.Text text) = option_map (λ k. Sym k) (symbol_of texts text)
cell_of texts (value.Id n) = Some (Id n)

abbrev pub own_cell : Value → Option SymCell
own_cell (value.Int n) = Some (Int n)
own_cell (value.Text text) = None
own_cell (value.Id n) = Some (Id n)

abbrev pub value_of : List (List ℕ) → SymCell → Value
value_of texts (Int n) = value.Int n
value_of texts (Id n) = value.Id n
value_of texts (Sym k) = value.Text (get_or texts k [])
