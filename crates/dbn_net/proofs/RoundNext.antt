-- The first id that is read of the canonical list isn't above the snapshot's.
use Rattle.std.proofs.Common.{◌≡◌, ℕ, ◌+◌, ◌<◌, ◌≤◌, pos, Bool, true, List, [], ◌∷◌, ◌++◌, map, refl, sym, ap, subst, ◌∙◌, arith, codes}
use Rattle.std.specs.List.{list_all, flat_map, AllByRecursion}
use Rattle.std.proofs.lemmas.Bool.{and_parts, and_from, ltb-true}
use Rattle.std.proofs.lemmas.List.{map-append}
use Rattle.std.proofs.lemmas.Grind.{flat_map-append}
use Rattle.dbn_value.specs.declared.value.Value.{Value}
use Rattle.dbn_value.specs.declared.value.Value.TheVariants as value
use Rattle.dbn_sexp.specs.declared.sexp.Sexp.{Sexp}
use Rattle.dbn_sexp.specs.declared.sexp.Item.{Item}
use Rattle.dbn_sexp.specs.declared.sexp.Item.TheVariants as item
use Rattle.dbn_sexp.specs.Printing.{atoms}
use Rattle.dbn_sexp.proofs.TreeLaws.{atoms_name, atoms_const, atoms_list}
use Rattle.dbn_formula.specs.Holds.{Instance}
use Rattle.dbn_net.specs.declared.decl.Decl.{Decl}
use Rattle.dbn_net.specs.declared.decl.Entry.TheVariants.{Fact, Tokens}
use Rattle.dbn_net.specs.Forms.{Name}
use Rattle.dbn_net.specs.Printing.{word, constant, sexp_of}
use Rattle.dbn_net.specs.Naming.{named_entry}
use Rattle.dbn_net.specs.WellFormed.{written_from}
use Rattle.dbn_net.specs.Values.{Marking, id_below, ids_below, past_id, past_ids}
use Rattle.dbn_net.specs.Texts.{value_in, values_of, next_of, facts_from, tokens_from, printed, canonical_list}
use Rattle.dbn_net.proofs.AtomLaws.{value_name, value_const}

past_one : (n : ℕ) (v : Value) → id_below n v ≡ true → past_id v ≤ n
past_one n (value.Int i) e = omega arith
past_one n (value.Text bytes) e = omega arith
past_one n (value.Id i) e = let less : i < n = ltb-true i n e in omega (arith, less)

pub past_within : (n : ℕ) (vs : List Value) → ids_below n vs ≡ true → past_ids vs ≤ n
past_within n [] e = omega arith
past_within n (v ∷ vs) e =
    let parts = and_parts (id_below n v) (ids_below n vs) e in
    let first : past_id v ≤ n = past_one n v parts.0 in
    let rest : past_ids vs ≤ n = past_within n vs parts.1 in
    omega (arith, first, rest)

all_append : {A : Type 0} (t : A → Bool) (xs ys : List A) → list_all t xs ≡ true → list_all t ys ≡ true → list_all t (xs ++ ys) ≡ true
all_append t [] ys a b = b
all_append t (x ∷ xs) ys a b = let p = and_parts (t x) (list_all t xs) a in and_from (t x) (list_all t (xs ++ ys)) p.0 (all_append t xs ys p.1 b)

-- the ids of an item are below the number
abbrev pub item_below : ℕ → Item → Bool
item_below n i = ids_below n (flat_map value_in (atoms i))

abbrev pub AllBelow : ℕ → List Sexp → Type 0
AllBelow n list = AllByRecursion (λ one. item_below n one.item ≡ true) list

ids_of_list : (n : ℕ) (list : List Sexp) → AllBelow n list → ids_below n (values_of list) ≡ true
ids_of_list n [] all = refl
ids_of_list n (one ∷ list) all =
    ap (ids_below n) (flat_map-append value_in (atoms one.item) (flat_map (λ x. atoms x.item) list))
    ∙ all_append (id_below n) (flat_map value_in (atoms one.item)) (values_of list) all.0 (ids_of_list n list all.1)

pub next_within : (n : ℕ) (list : List Sexp) → AllBelow n list → next_of list ≤ n
next_within n list all = past_within n (values_of list) (ids_of_list n list all)

-- a list is below where its parts are
pub list_below : (n : ℕ) (parts : List Sexp) → AllBelow n parts → item_below n (item.List parts) ≡ true
list_below n parts all = ap (λ l. ids_below n (flat_map value_in l)) (atoms_list parts) ∙ ids_of_list n parts all

pub word_below : (n : ℕ) (name : Name) → item_below n (word name).item ≡ true
word_below n name = ap (λ l. ids_below n (flat_map value_in l)) (atoms_name name) ∙ ap (λ l. ids_below n (l ++ [])) (value_name name)

pub constant_below : (n : ℕ) (v : Value) → id_below n v ≡ true → item_below n (constant v).item ≡ true
constant_below n v e =
    ap (λ l. ids_below n (flat_map value_in l)) (atoms_const v) ∙ ap (λ l. ids_below n (l ++ [])) (value_const v) ∙ and_from (id_below n v) true e refl

row_below : (n : ℕ) (row : List Value) → AllByRecursion (λ v. id_below n v ≡ true) row → AllBelow n (map constant row)
row_below n [] all = tt
row_below n (v ∷ row) all = (constant_below n v all.0, row_below n row all.1)

-- the rows of each relation, and of each place
abbrev pub RowsBelow : ℕ → List (List Value) → Type 0
RowsBelow n rows = AllByRecursion (λ row. AllByRecursion (λ v. id_below n v ≡ true) row) rows

abbrev pub CountedBelow : ℕ → List (List Value × ℕ) → Type 0
CountedBelow n rows = AllByRecursion (λ c. AllByRecursion (λ v. id_below n v ≡ true) c.0) rows

pub append_below : (n : ℕ) (xs ys : List Sexp) → AllBelow n xs → AllBelow n ys → AllBelow n (xs ++ ys)
append_below n [] ys a b = b
append_below n (x ∷ xs) ys a b = (a.0, append_below n xs ys a.1 b)

fact_rows : (decls : List Decl) (n rel : ℕ) (rows : List (List Value)) → RowsBelow n rows → AllBelow n (printed decls (map (Fact rel) rows))
fact_rows decls n rel [] all = tt
fact_rows decls n rel (row ∷ rows) all =
    (list_below n (word (codes "fact") ∷ word _ ∷ map constant row) (word_below n (codes "fact"), (word_below n _, row_below n row all.0)), fact_rows decls n rel rows all.1)

facts_below : (decls : List Decl) (n rel : ℕ) (facts : Instance) → AllByRecursion (RowsBelow n) facts → AllBelow n (printed decls (facts_from rel facts))
facts_below decls n rel [] all = tt
facts_below decls n rel (rows ∷ facts) all =
    subst (AllBelow n) (sym (map-append (λ e. sexp_of (named_entry decls e)) (map (Fact rel) rows) (facts_from (rel + 1) facts)))
    (append_below n (printed decls (map (Fact rel) rows)) (printed decls (facts_from (rel + 1) facts)) (fact_rows decls n rel rows all.0) (facts_below decls n (rel + 1) facts all.1))

token_rows : (decls : List Decl) (n place : ℕ) (rows : List (List Value × ℕ)) → CountedBelow n rows → AllBelow n (printed decls (map (λ r. Tokens place r.1 r.0) rows))
token_rows decls n place [] all = tt
token_rows decls n place (c ∷ rows) all = (
  list_below n (word (codes "token") ∷ word _ ∷ constant (value.Int (pos c.1)) ∷ map constant c.0)
      (word_below n (codes "token"), (word_below n _, (constant_below n (value.Int (pos c.1)) refl, row_below n c.0 all.0))),
  token_rows decls n place rows all.1,
)

tokens_below : (decls : List Decl) (n place : ℕ) (tokens : Marking) → AllByRecursion (CountedBelow n) tokens → AllBelow n (printed decls (tokens_from place tokens))
tokens_below decls n place [] all = tt
tokens_below decls n place (rows ∷ tokens) all =
    subst (AllBelow n) (sym (map-append (λ e. sexp_of (named_entry decls e)) (map (λ r. Tokens place r.1 r.0) rows) (tokens_from (place + 1) tokens)))
    (append_below n (printed decls (map (λ r. Tokens place r.1 r.0) rows)) (printed decls (tokens_from (place + 1) tokens)) (token_rows decls n place rows all.0) (tokens_below decls n (place + 1) tokens all.1))

-- where the ids of the rules, the instance and the marking are below next
pub canonical_next : (decls : List Decl) (facts : Instance) (tokens : Marking) (next : ℕ)
    → AllBelow next (map sexp_of (written_from [] decls)) → AllByRecursion (RowsBelow next) facts → AllByRecursion (CountedBelow next) tokens
    → next_of (canonical_list decls facts tokens) ≤ next
canonical_next decls facts tokens next rules rows held =
    next_within next (canonical_list decls facts tokens)
    (append_below next (map sexp_of (written_from [] decls)) (printed decls (facts_from 0 facts) ++ printed decls (tokens_from 0 tokens)) rules
    (append_below next (printed decls (facts_from 0 facts)) (printed decls (tokens_from 0 tokens)) (facts_below decls next 0 facts rows) (tokens_below decls next 0 tokens held)))
