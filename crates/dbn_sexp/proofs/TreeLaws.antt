-- What the folds over an item give at each of its forms, and induction over an item.
use Rattle.std.proofs.Common.{◌≡◌, ℕ, ◌+◌, List, [], ◌∷◌, ◌++◌, map, refl, sym, ap, subst, ◌∙◌}
use Rattle.std.specs.List.{flat_map, AllByRecursion}
use Rattle.std.proofs.lemmas.List.Folds.{flat_map-map}
use Rattle.dbn_value.specs.Spelling.{spelling}
use Rattle.dbn_value.specs.declared.value.Value.{Value}
use Rattle.dbn_sexp.specs.declared.sexp.Sexp.{Sexp}
use Rattle.dbn_sexp.specs.declared.sexp.Item.{Item}
use Rattle.dbn_sexp.specs.declared.sexp.Item.TheVariants as item
use Rattle.dbn_sexp.specs.declared.sexp.Item.TheOpen as layer
use Rattle.dbn_sexp.specs.declared.sexp.Item.TheFolds.{fold-Item, fold-Sexp, fold_out-Sexp, fold-roll-Item, map-Item, ind-Item}
use Rattle.dbn_sexp.specs.declared.sexp.Item.{roll-Item}
use Rattle.dbn_sexp.specs.declared.sexp.Sexp.{roll-Sexp}
use Rattle.dbn_sexp.specs.Printing.{text_step, item_text, spaced, nesting_step, nesting, largest, atoms_step, atoms, line_step, on_line}

map_same : {A B : Type 0} (f g : A → B) → ((x : A) → f x ≡ g x) → (xs : List A) → map f xs ≡ map g xs
map_same f g same [] = refl
map_same f g same (x ∷ xs) = ap (λ y. y ∷ map f xs) (same x) ∙ ap (λ ys. g x ∷ ys) (map_same f g same xs)

module _ (A A' : Type 0) (f : layer.Item-F A A' → A) (g : layer.Sexp-F A A' → A') where
  fold_name : (name : List ℕ) → fold-Item A A' f g (item.Name name) ≡ f (layer.Name name)
  fold_name name = ap (fold-Item A A' f g) (sym (item.rolls-Name name)) ∙ fold-roll-Item A A' f g (layer.Name name)

  fold_const : (value : Value) → fold-Item A A' f g (item.Const value) ≡ f (layer.Const value)
  fold_const value = ap (fold-Item A A' f g) (sym (item.rolls-Const value)) ∙ fold-roll-Item A A' f g (layer.Const value)

  fold_list : (list : List Sexp) → fold-Item A A' f g (item.List list) ≡ f (layer.List (map (λ one. g (record { line = one.line; item = fold-Item A A' f g one.item })) list))
  fold_list list =
      ap (fold-Item A A' f g) (sym (item.rolls-List list)) ∙ fold-roll-Item A A' f g (layer.List list)
      ∙ ap (λ parts. f (layer.List parts))
      (map_same (fold-Sexp A A' f g) (λ one. g (record { line = one.line; item = fold-Item A A' f g one.item })) (fold_out-Sexp A A' f g) list)

pub text_name : (name : List ℕ) → item_text (item.Name name) ≡ name
unfolding item_text
text_name name = fold_name (List ℕ) (List ℕ) text_step (λ part. part.item) name

pub text_const : (value : Value) → item_text (item.Const value) ≡ spelling value
unfolding item_text
text_const value = fold_const (List ℕ) (List ℕ) text_step (λ part. part.item) value

pub text_list : (list : List Sexp) → item_text (item.List list) ≡ 40 ∷ spaced (map (λ one. item_text one.item) list) ++ 41 ∷ []
unfolding item_text
text_list list = fold_list (List ℕ) (List ℕ) text_step (λ part. part.item) list

pub spaced_parts : (one : Sexp) (list : List Sexp)
    → spaced (map (λ part. item_text part.item) (one ∷ list)) ≡ item_text one.item ++ flat_map (λ part. 32 ∷ item_text part.item) list
spaced_parts one list = ap (λ rest. item_text one.item ++ rest) (flat_map-map (λ next. 32 ∷ next) (λ (part : Sexp). item_text part.item) list)

pub ruleset text_laws = (text_name, text_const, text_list, spaced_parts)

pub nesting_name : (name : List ℕ) → nesting (item.Name name) ≡ 0
unfolding nesting
nesting_name name = fold_name ℕ ℕ nesting_step (λ part. part.item) name

pub nesting_const : (value : Value) → nesting (item.Const value) ≡ 0
unfolding nesting
nesting_const value = fold_const ℕ ℕ nesting_step (λ part. part.item) value

pub nesting_list : (list : List Sexp) → nesting (item.List list) ≡ largest (map (λ one. nesting one.item) list) + 1
unfolding nesting
nesting_list list = fold_list ℕ ℕ nesting_step (λ part. part.item) list

pub atoms_name : (name : List ℕ) → atoms (item.Name name) ≡ item.Name name ∷ []
unfolding atoms
atoms_name name = fold_name (List Item) (List Item) atoms_step (λ part. part.item) name

pub atoms_const : (value : Value) → atoms (item.Const value) ≡ item.Const value ∷ []
unfolding atoms
atoms_const value = fold_const (List Item) (List Item) atoms_step (λ part. part.item) value

pub atoms_list : (list : List Sexp) → atoms (item.List list) ≡ flat_map (λ one. atoms one.item) list
unfolding atoms
atoms_list list =
    fold_list (List Item) (List Item) atoms_step (λ part. part.item) list
    ∙ flat_map-map (λ part. part) (λ (one : Sexp). atoms one.item) list

pub ruleset atoms_laws = (atoms_name, atoms_const, atoms_list)

pub line_name : (line : ℕ) (name : List ℕ) → on_line line (item.Name name) ≡ item.Name name
unfolding on_line
line_name line name = fold_name Item Sexp line_step (λ part. record { line = line; item = part.item }) name

pub line_const : (line : ℕ) (value : Value) → on_line line (item.Const value) ≡ item.Const value
unfolding on_line
line_const line value = fold_const Item Sexp line_step (λ part. record { line = line; item = part.item }) value

pub line_list : (line : ℕ) (list : List Sexp) → on_line line (item.List list) ≡ item.List (map (λ one. record { line = line; item = on_line line one.item }) list)
unfolding on_line
line_list line list = fold_list Item Sexp line_step (λ part. record { line = line; item = part.item }) list

-- what holds of names and constants, and of a list where it holds of its items, holds of every item
pub record Steps (P : Item → Type 0) : Type 0 where
  pub name : (name : List ℕ) → P (item.Name name)
  pub const : (value : Value) → P (item.Const value)
  pub list : (list : List Sexp) → AllByRecursion (λ one. P one.item) list → P (item.List list)

module _ (P : Item → Type 0) (steps : Steps P) where
  each : (X' : Type 0) (v : X' → Sexp) → ((x : X') → P (v x).item) → (parts : List X') → AllByRecursion (λ one. P one.item) (map v parts)
  each X' v h [] = tt
  each X' v h (x ∷ parts) = (h x, each X' v h parts)

  made : (X X' : Type 0) (v : X → Item) (v' : X' → Sexp) → ((x : X') → P (v' x).item) → (y : layer.Item-F X X') → P (roll-Item (map-Item X X' Item Sexp v v' y))
  made X X' v v' h (layer.Name name) = subst P (sym (item.rolls-Name name)) (steps.name name)
  made X X' v v' h (layer.Const value) = subst P (sym (item.rolls-Const value)) (steps.const value)
  made X X' v v' h (layer.List parts) = subst P (sym (item.rolls-List (map v' parts))) (steps.list (map v' parts) (each X' v' h parts))

pub induction : (P : Item → Type 0) → Steps P → (one : Item) → P one
induction P steps one =
    ind-Item P (λ (part : Sexp). P part.item)
    (λ x y e. subst (λ z. P (roll-Item z)) e (made P steps _ _ (λ u. u.0) (λ u. u.0) (λ u. u.1) y))
    (λ x y e. subst (λ z. P (roll-Sexp z).item) e y.item.1)
    one
