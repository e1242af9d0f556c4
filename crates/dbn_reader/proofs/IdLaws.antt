-- The ids among the words of items and of lists.
use Rattle.std.proofs.Common.{◌≡◌, ℕ, ◌+◌, ◌<◌, List, [], ◌∷◌, ◌++◌, refl, sym, ap, ◌∙◌, arith, length, take, get_or}
use Rattle.std.specs.Prelude.{max}
use Rattle.std.specs.List.{flat_map}
use Rattle.std.proofs.lemmas.Grind.{flat_map-append}
use Rattle.dbn_value.specs.declared.value.Value.{Value}
use Rattle.dbn_sexp.specs.declared.sexp.Sexp.{Sexp}
use Rattle.dbn_sexp.specs.declared.sexp.Item.{Item}
use Rattle.dbn_sexp.specs.declared.sexp.Item.TheVariants as item
use Rattle.dbn_sexp.specs.Printing.{atoms}
use Rattle.dbn_sexp.proofs.TreeLaws.{atoms_name, atoms_const, atoms_list}
use Rattle.dbn_net.specs.Values.{past_id, past_ids}
use Rattle.dbn_net.specs.Texts.{value_in, values_of, next_of}
use Rattle.dbn_net.proofs.AtomLaws.{value_name, value_const}
use Rattle.dbn_net.proofs.NextLaws.{past_step}

pub past_name : (name : List ℕ) → past_ids (flat_map value_in (atoms (item.Name name))) ≡ 0
past_name name = ap (λ is. past_ids (flat_map value_in is)) (atoms_name name) ∙ ap (λ vs. past_ids (vs ++ [])) (value_name name)

pub past_const : (v : Value) → past_ids (flat_map value_in (atoms (item.Const v))) ≡ past_id v
past_const v =
    let alone : max (past_id v) 0 ≡ past_id v = omega arith in
    ap (λ is. past_ids (flat_map value_in is)) (atoms_const v) ∙ ap (λ vs. past_ids (vs ++ [])) (value_const v) ∙ alone

pub past_parts : (parts : List Sexp) → past_ids (flat_map value_in (atoms (item.List parts))) ≡ next_of parts
past_parts parts = ap (λ is. past_ids (flat_map value_in is)) (atoms_list parts)

pub ruleset past_laws = (past_name, past_const, past_parts)

-- the constants of each item, one item after the other
abbrev pub item_values : Sexp → List Value
item_values one = flat_map value_in (atoms one.item)

values_listed : (list : List Sexp) → values_of list ≡ flat_map item_values list
values_listed [] = refl
values_listed (one ∷ list) =
    flat_map-append value_in (atoms one.item) (flat_map (λ x. atoms x.item) list) ∙ ap (λ vs. item_values one ++ vs) (values_listed list)

pub next_listed : (list : List Sexp) (n : ℕ) → n ≡ past_ids (flat_map item_values list) → n ≡ next_of list
next_listed list n is = is ∙ ap past_ids (sym (values_listed list))

-- one more turn of the loop
pub next_step : (list : List Sexp) (n : ℕ) (one : Sexp) (old past new : ℕ) → n < length list → one ≡ get_or list n one
    → old ≡ past_ids (flat_map item_values (take n list)) → past ≡ past_ids (item_values one) → new ≡ max old past
    → new ≡ past_ids (flat_map item_values (take (n + 1) list))
next_step list n one old past new less is before this made = past_step item_values list n one old past new less is before this made
