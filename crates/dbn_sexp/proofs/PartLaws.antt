-- What an S-expression taken apart gives at each of its forms, and what it is by what was found.
use Rattle.std.proofs.Common.{◌≡◌, ℕ, List, [], ◌∷◌, map, refl, sym, ap, ◌∙◌, Option, Some, None}
use Rattle.std.specs.List.{AllByRecursion}
use Rattle.dbn_value.specs.declared.value.Value.{Value}
use Rattle.dbn_sexp.specs.declared.sexp.Sexp.{Sexp}
use Rattle.dbn_sexp.specs.declared.sexp.Item.{Item, out-Item}
use Rattle.dbn_sexp.specs.declared.sexp.Item.TheVariants as item
use Rattle.dbn_sexp.proofs.TreeLaws.{Steps, induction}
use Rattle.dbn_sexp.specs.Parts.{word_of, constant_of, list_of, word_in, constant_in, list_in}

pub word_name : (line : ℕ) (name : List ℕ) → word_in (record { line = line; item = item.Name name }) ≡ Some name
unfolding word_in
word_name line name = ap word_of (item.outs-Name name)

pub word_const : (line : ℕ) (v : Value) → word_in (record { line = line; item = item.Const v }) ≡ None
unfolding word_in
word_const line v = ap word_of (item.outs-Const v)

pub word_list : (line : ℕ) (parts : List Sexp) → word_in (record { line = line; item = item.List parts }) ≡ None
unfolding word_in
word_list line parts = ap word_of (item.outs-List parts)

pub constant_name : (line : ℕ) (name : List ℕ) → constant_in (record { line = line; item = item.Name name }) ≡ None
unfolding constant_in
constant_name line name = ap constant_of (item.outs-Name name)

pub constant_const : (line : ℕ) (v : Value) → constant_in (record { line = line; item = item.Const v }) ≡ Some v
unfolding constant_in
constant_const line v = ap constant_of (item.outs-Const v)

pub constant_list : (line : ℕ) (parts : List Sexp) → constant_in (record { line = line; item = item.List parts }) ≡ None
unfolding constant_in
constant_list line parts = ap constant_of (item.outs-List parts)

pub list_name : (line : ℕ) (name : List ℕ) → list_in (record { line = line; item = item.Name name }) ≡ None
unfolding list_in
list_name line name = ap list_of (item.outs-Name name)

pub list_const : (line : ℕ) (v : Value) → list_in (record { line = line; item = item.Const v }) ≡ None
unfolding list_in
list_const line v = ap list_of (item.outs-Const v)

pub list_list : (line : ℕ) (parts : List Sexp) → list_in (record { line = line; item = item.List parts }) ≡ Some parts
unfolding list_in
list_list line parts = ap list_of (item.outs-List parts)

pub ruleset part_laws = (word_name, word_const, word_list, constant_name, constant_const, constant_list, list_name, list_const, list_list)

-- ---- the same by the item's form

pub name_word : (one : Sexp) (name : List ℕ) → one.item ≡ item.Name name → word_in one ≡ Some name
unfolding word_in
name_word one name e = ap (λ i. word_of (out-Item i)) e ∙ ap word_of (item.outs-Name name)

pub const_no_word : (one : Sexp) (v : Value) → one.item ≡ item.Const v → word_in one ≡ None
unfolding word_in
const_no_word one v e = ap (λ i. word_of (out-Item i)) e ∙ ap word_of (item.outs-Const v)

pub list_no_word : (one : Sexp) (parts : List Sexp) → one.item ≡ item.List parts → word_in one ≡ None
unfolding word_in
list_no_word one parts e = ap (λ i. word_of (out-Item i)) e ∙ ap word_of (item.outs-List parts)

pub name_no_constant : (one : Sexp) (name : List ℕ) → one.item ≡ item.Name name → constant_in one ≡ None
unfolding constant_in
name_no_constant one name e = ap (λ i. constant_of (out-Item i)) e ∙ ap constant_of (item.outs-Name name)

pub const_constant : (one : Sexp) (v : Value) → one.item ≡ item.Const v → constant_in one ≡ Some v
unfolding constant_in
const_constant one v e = ap (λ i. constant_of (out-Item i)) e ∙ ap constant_of (item.outs-Const v)

pub list_no_constant : (one : Sexp) (parts : List Sexp) → one.item ≡ item.List parts → constant_in one ≡ None
unfolding constant_in
list_no_constant one parts e = ap (λ i. constant_of (out-Item i)) e ∙ ap constant_of (item.outs-List parts)

pub name_no_list : (one : Sexp) (name : List ℕ) → one.item ≡ item.Name name → list_in one ≡ None
unfolding list_in
name_no_list one name e = ap (λ i. list_of (out-Item i)) e ∙ ap list_of (item.outs-Name name)

pub const_no_list : (one : Sexp) (v : Value) → one.item ≡ item.Const v → list_in one ≡ None
unfolding list_in
const_no_list one v e = ap (λ i. list_of (out-Item i)) e ∙ ap list_of (item.outs-Const v)

pub list_parts : (one : Sexp) (parts : List Sexp) → one.item ≡ item.List parts → list_in one ≡ Some parts
unfolding list_in
list_parts one parts e = ap (λ i. list_of (out-Item i)) e ∙ ap list_of (item.outs-List parts)

pub ruleset form_laws = (name_word, const_no_word, list_no_word, name_no_constant, const_constant, list_no_constant, name_no_list, const_no_list, list_parts)

some_is : {A : Type 0} (x y : A) → Some x ≡ Some y → x ≡ y
some_is x y e = cc

-- ---- what an item is, by what was found

word_steps : (w : List ℕ) → Steps (λ i. (line : ℕ) → word_in (record { line = line; item = i }) ≡ Some w → i ≡ item.Name w)
word_steps w = record {
  name = λ name line e. ap item.Name (some_is name w (sym (word_name line name) ∙ e));
  const = λ v line e. absurd (none_is w (sym (word_const line v) ∙ e));
  list = λ parts all line e. absurd (none_is w (sym (word_list line parts) ∙ e));
}
  where
    none_is : (w : List ℕ) → None ≡ Some w → ⊥
    none_is w n = absurd cc

pub word_found : (one : Sexp) (w : List ℕ) → word_in one ≡ Some w → one.item ≡ item.Name w
word_found one w e = induction _ (word_steps w) one.item one.line e

constant_steps : (v : Value) → Steps (λ i. (line : ℕ) → constant_in (record { line = line; item = i }) ≡ Some v → i ≡ item.Const v)
constant_steps v = record {
  name = λ name line e. absurd (none_is v (sym (constant_name line name) ∙ e));
  const = λ w line e. ap item.Const (some_is w v (sym (constant_const line w) ∙ e));
  list = λ parts all line e. absurd (none_is v (sym (constant_list line parts) ∙ e));
}
  where
    none_is : (v : Value) → None ≡ Some v → ⊥
    none_is v n = absurd cc

pub constant_is : (one : Sexp) (v : Value) → constant_in one ≡ Some v → one.item ≡ item.Const v
constant_is one v e = induction _ (constant_steps v) one.item one.line e

list_steps : (ps : List Sexp) → Steps (λ i. (line : ℕ) → list_in (record { line = line; item = i }) ≡ Some ps → i ≡ item.List ps)
list_steps ps = record {
  name = λ name line e. absurd (none_is ps (sym (list_name line name) ∙ e));
  const = λ v line e. absurd (none_is ps (sym (list_const line v) ∙ e));
  list = λ parts all line e. ap item.List (some_is parts ps (sym (list_list line parts) ∙ e));
}
  where
    none_is : (ps : List Sexp) → None ≡ Some ps → ⊥
    none_is ps n = absurd cc

pub list_found : (one : Sexp) (ps : List Sexp) → list_in one ≡ Some ps → one.item ≡ item.List ps
list_found one ps e = induction _ (list_steps ps) one.item one.line e
