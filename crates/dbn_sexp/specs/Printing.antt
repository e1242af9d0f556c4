-- The one text of a list of S-expressions, and what reading that text gives.
use Rattle.std.specs.Prelude.{ℕ, ◌+◌, ◌≤◌, max, List, [], ◌∷◌, ◌++◌}
use Rattle.std.specs.List.{flat_map, AllByRecursion}
use Rattle.dbn_value.specs.Text.{IsName}
use Rattle.dbn_value.specs.Spelling.{spelling, IsValue}
use Rattle.dbn_sexp.specs.declared.sexp.Sexp.{Sexp}
use Rattle.dbn_sexp.specs.declared.sexp.Item.{Item}
use Rattle.dbn_sexp.specs.declared.sexp.Item.TheVariants as item
use Rattle.dbn_sexp.specs.declared.sexp.Item.TheOpen as layer
use Rattle.dbn_sexp.specs.declared.sexp.Item.TheFolds.{fold-Item}

-- parts with one space between them
abbrev pub spaced : List (List ℕ) → List ℕ
spaced [] = []
spaced (part ∷ parts) = part ++ flat_map (λ next. 32 ∷ next) parts

-- names as they are, values by their spelling, lists between parentheses
abbrev pub text_step : layer.Item-F (List ℕ) (List ℕ) → List ℕ
text_step (layer.Name name) = name
text_step (layer.Const value) = spelling value
text_step (layer.List parts) = 40 ∷ spaced parts ++ 41 ∷ []

unfoldable pub item_text : Item → List ℕ
item_text one = fold-Item (List ℕ) (List ℕ) text_step (λ part. part.item) one

-- each item on one line
abbrev pub text : List Sexp → List ℕ
text list = flat_map (λ one. item_text one.item ++ 10 ∷ []) list

abbrev pub largest : List ℕ → ℕ
largest [] = 0
largest (n ∷ ns) = max n (largest ns)

-- how many parentheses are open at the innermost place
abbrev pub nesting_step : layer.Item-F ℕ ℕ → ℕ
nesting_step (layer.Name name) = 0
nesting_step (layer.Const value) = 0
nesting_step (layer.List parts) = largest parts + 1

unfoldable pub nesting : Item → ℕ
nesting one = fold-Item ℕ ℕ nesting_step (λ part. part.item) one

-- the names and constants in it, in order
abbrev pub atoms_step : layer.Item-F (List Item) (List Item) → List Item
atoms_step (layer.Name name) = item.Name name ∷ []
atoms_step (layer.Const value) = item.Const value ∷ []
atoms_step (layer.List parts) = flat_map (λ part. part) parts

unfoldable pub atoms : Item → List Item
atoms one = fold-Item (List Item) (List Item) atoms_step (λ part. part.item) one

-- a name, or a value in the range of its type
abbrev pub IsAtom : Item → Type 0
IsAtom (item.Name name) = IsName name
IsAtom (item.Const value) = IsValue value
IsAtom (item.List' shape parts) = ⊥

-- the names and constants of a list are in form
abbrev pub HasAtoms : List Sexp → Type 0
HasAtoms list = AllByRecursion IsAtom (flat_map (λ one. atoms one.item) list)

-- no parenthesis of the list opens inside `depth` others
abbrev pub IsWithinDepth : ℕ → List Sexp → Type 0
IsWithinDepth depth list = AllByRecursion (λ one. nesting one.item ≤ depth) list

-- the same with all its parts on one line
abbrev pub line_step : layer.Item-F Item Sexp → Item
line_step (layer.Name name) = item.Name name
line_step (layer.Const value) = item.Const value
line_step (layer.List parts) = item.List parts

unfoldable pub on_line : ℕ → Item → Item
on_line line one = fold-Item Item Sexp line_step (λ part. record { line = line; item = part.item }) one

-- the items one by one on lines of their own, from a line on
abbrev pub on_lines : ℕ → List Sexp → List Sexp
on_lines line [] = []
on_lines line (one ∷ list) = record { line = line; item = on_line line one.item } ∷ on_lines (line + 1) list
