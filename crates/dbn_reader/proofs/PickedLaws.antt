-- The types of columns, one column after the other.
use Rattle.std.proofs.Common.{◌≡◌, ℕ, ◌+◌, ◌<◌, List, [], ◌∷◌, ◌++◌, sym, ap, ◌∙◌, Option, None, length, get_or, take, append-nil}
use Rattle.std.specs.Prelude.{slice_get}
use Rattle.std.specs.List.{cons_option}
use Rattle.std.proofs.lemmas.List.{take_more}
use Rattle.std.proofs.lemmas.List.Elements.{filter_map-append}
use Rattle.dbn_value.specs.declared.value.ColType.{ColType}
use Rattle.dbn_net.specs.Judging.{picked_types}

-- a number without a column
pub picked_none : (types shape : List ColType) (field : ℕ) → None ≡ slice_get shape field → types ≡ types ++ picked_types shape (field ∷ [])
picked_none types shape field e = sym (append-nil types) ∙ ap (λ (o : Option ColType). types ++ cons_option o []) e

-- one more number
pub picked_more : (types more shape : List ColType) (fields : List ℕ) (i : ℕ) → i < length fields → types ≡ picked_types shape (take i fields)
    → more ≡ types ++ picked_types shape (get_or fields i 0 ∷ []) → more ≡ picked_types shape (take (i + 1) fields)
picked_more types more shape fields i less was grown =
    grown
    ∙ ap (λ l. l ++ picked_types shape (get_or fields i 0 ∷ [])) was
    ∙ sym (filter_map-append (slice_get shape) (take i fields) (get_or fields i 0 ∷ []))
    ∙ ap (picked_types shape) (sym (take_more fields i 0 less))
