-- What a text is read as is a net with a good snapshot.
use Rattle.std.proofs.Common.{◌≡◌, ℕ, ℤ, ◌+◌, ◌<◌, ◌≤◌, ◌^◌, zero, suc, Bool, true, false, ◌&&◌, ◌==◌, if◌then◌else◌, List, [], ◌∷◌, ◌++◌, map, refl, sym, ap, subst, ◌∙◌, ◌⊎◌, inl, inr, ⊎_elim, Option, Some, None, arith, length, length-append, append-nil, append_assoc}
use Rattle.std.specs.Prelude.{Result, Ok, Err, max, slice_index_or, slice_set, nat_le}
use Rattle.std.specs.List.{flat_map, filter_map, list_all, AllByRecursion, zip}
use Rattle.std.specs.Option.{option_map}
use Rattle.std.specs.Map.{keys_of}
use Rattle.std.specs.BTreeSet.{insert_key}
use Rattle.std.proofs.lemmas.Bool.{and_parts, eqb-true, leb-true, not-true}
use Rattle.std.proofs.lemmas.List.{length-map}
use Rattle.std.proofs.lemmas.Grind.{flat_map-append}
use Rattle.dbn_value.specs.Members.{In}
use Rattle.dbn_value.specs.Order.{value_cmp, value_total, value_type, row_cmp, rows_total, exact_rows}
use Rattle.dbn_value.specs.declared.value.Value.{Value}
use Rattle.dbn_value.specs.declared.value.Value.TheVariants as value
use Rattle.dbn_value.specs.declared.value.ColType.{ColType}
use Rattle.dbn_value.proofs.MemberLaws.{in_flat, flat_in, in_append, append_left, append_right, recursion_at, recursion_from, map_in, in_map}
use Rattle.dbn_value.proofs.AscendingLaws.{in_insert_key, insert_key_old, insert_key_new}
use Rattle.dbn_value.proofs.EntryLaws.{keys_insert_entry}
use Rattle.dbn_sexp.specs.declared.sexp.Sexp.{Sexp}
use Rattle.dbn_sexp.specs.Printing.{nesting, IsWithinDepth}
use Rattle.dbn_sexp.specs.Reading as sexps
use Rattle.dbn_sexp.proofs.LinesLaws.{atoms_alike}
use Rattle.dbn_sexp.proofs.DepthLaws.{read_within}
use Rattle.dbn_formula.specs.Typing.{Shapes}
use Rattle.dbn_formula.specs.Variables.{type_eq}
use Rattle.dbn_formula.specs.Holds.{Instance}
use Rattle.dbn_formula.specs.Answers.{holds, values_in}
use Rattle.dbn_formula.specs.Solutions.{HasShape}
use Rattle.dbn_formula.specs.declared.formula.Formula.{Formula}
use Rattle.dbn_formula.proofs.VariableLaws.{type_same}
use Rattle.dbn_instance.specs.Facts.{IsInstance, rows_of, has_fact, with_fact}
use Rattle.dbn_instance.specs.declared.fact.Fact.{Fact}
use Rattle.dbn_instance.proofs.FactLaws.{instance_either, instance_with}
use Rattle.dbn_marking.specs.Counts.{IsMarking, place_of, count_of, count_at, added, with_tokens}
use Rattle.dbn_marking.proofs.CountLaws.{marking_more, marking_given}
use Rattle.dbn_net.specs.declared.fault.NetKind.{NetKind}
use Rattle.dbn_net.specs.declared.violation.Named.{Named}
use Rattle.dbn_net.specs.declared.written.Written.{Written}
use Rattle.dbn_net.specs.declared.written.Written.TheVariants as written
use Rattle.dbn_net.specs.declared.decl.Place.{Place}
use Rattle.dbn_net.specs.declared.decl.Place.TheVariants.{Control, View}
use Rattle.dbn_net.specs.declared.decl.Decl.{Decl}
use Rattle.dbn_net.specs.declared.decl.Decl.TheVariants as decl
use Rattle.dbn_net.specs.declared.decl.Entry.{Entry}
use Rattle.dbn_net.specs.declared.decl.Entry.TheVariants.{Part, Tokens}
use Rattle.dbn_net.specs.declared.decl.Entry.TheVariants as entry
use Rattle.dbn_net.specs.Forms.{Name, declaration_in}
use Rattle.dbn_net.specs.Printing.{sexp_of}
use Rattle.dbn_net.specs.Tables.{relation_in, place_in, relations, relation_names, relation_shape, relation_shapes, query_names, query_shapes, place_names, place_shape, place_shapes, places, columns, is_control, has_place}
use Rattle.dbn_net.specs.Naming.{number_of, control_number, count, resolved_formula, resolved_key, resolved_foreign, resolved_action, transition, resolved}
use Rattle.dbn_net.specs.Judging.{Begun, row_fits, is_count, fact_is_new, token_is_new, no_duplicate, judged}
use Rattle.dbn_net.specs.Sentences.{sentence_in, sentences, labelled_sentences}
use Rattle.dbn_net.specs.WellFormed.{Passes}
use Rattle.dbn_net.specs.Values.{Marking, decl_constants, rule_values, token_values, all_values, ids_below, past_ids, next_after}
use Rattle.dbn_net.specs.Texts.{State, Fault, Start, nothing, value_in, more_facts, more_tokens, sentence_lines, with_entry, taken_up, read_shape, read_one, read_each, and_then, first_broken, next_of, tested, finished, read_list, reads}
use Rattle.dbn_net.specs.Good.{RowsFit, PlaceFits, TokensFit}
use Rattle.dbn_net.specs.Starts.{IsNewFact, AreNewTokens, IsSound, IsGoodStart}
use Rattle.dbn_net.proofs.Maybes.{some_is, mapped_found}
use Rattle.dbn_net.proofs.Listed.{get_within}
use Rattle.dbn_net.proofs.LiftLaws.{has_within}
use Rattle.dbn_net.proofs.NamedLaws.{number_within}
use Rattle.dbn_net.proofs.MadeLaws.{site_has}
use Rattle.dbn_net.proofs.DeclaredAgain.{declaration_found}
use Rattle.dbn_net.proofs.JudgedLaws.{judged_is}
use Rattle.dbn_net.proofs.PassesLaws.{named_again, read_passes}
use Rattle.dbn_net.proofs.BackLaws.{one_more}
use Rattle.dbn_net.proofs.AddLaws.{grow, filter_grow, map_grow, rules_past}
use Rattle.dbn_net.proofs.NextLaws.{past_append, next_is_past}
use Rattle.dbn_net.proofs.RoundText.{reads_is}
use Rattle.dbn_net.proofs.LimitLaws.{sentences_as_many}
use Rattle.dbn_net.proofs.RangeLaws.{next_small}
use Rattle.dbn_net.proofs.WrittenValues.{item_values, list_values, values_listed, fact_values, token_values_are, past_same, decl_past}

-- ---- rows of the shape of their columns

row_shaped : (row : List Value) (shape : List ColType) → length row ≡ length shape → row_fits row shape ≡ true → HasShape row shape
row_shaped [] [] same fits = refl
row_shaped [] (type ∷ shape) same fits = absurd (omega (arith, same))
row_shaped (v ∷ row) [] same fits = absurd (omega (arith, same))
row_shaped (v ∷ row) (type ∷ shape) same fits =
    let p = and_parts (type_eq (value_type v) type) (row_fits row shape) fits in
    let rest = row_shaped row shape (omega (arith, same)) p.1 in
    (λ i. type_same (value_type v) type p.0 i ∷ rest i)

-- ---- facts of their shapes

rows_at : (db : Instance) (rels : Shapes) (n : ℕ) (row : List Value) → RowsFit db rels → In row (rows_of db n) → HasShape row (columns rels n)
rows_at [] rels n row fit at = absurd at
rows_at (rows ∷ db) [] n row fit at = absurd fit
rows_at (rows ∷ db) (shape ∷ rels) zero row fit at = recursion_at (λ r. HasShape r shape) row rows fit.0 at
rows_at (rows ∷ db) (shape ∷ rels) (suc n) row fit at = rows_at db rels n row fit.1 at

rows_set : (db : Instance) (rels : Shapes) (n : ℕ) (new : List (List Value)) → RowsFit db rels → AllByRecursion (λ row. HasShape row (columns rels n)) new → RowsFit (slice_set db n new) rels
rows_set [] rels n new fit all = fit
rows_set (rows ∷ db) [] n new fit all = absurd fit
rows_set (rows ∷ db) (shape ∷ rels) zero new fit all = (all, fit.1)
rows_set (rows ∷ db) (shape ∷ rels) (suc n) new fit all = (fit.0, rows_set db rels n new fit.1 all)

rows_more : (db : Instance) (rels : Shapes) (shape : List ColType) → RowsFit db rels → RowsFit (db ++ [] ∷ []) (rels ++ shape ∷ [])
rows_more [] [] shape fit = (tt, tt)
rows_more [] (s ∷ rels) shape fit = absurd fit
rows_more (rows ∷ db) [] shape fit = absurd fit
rows_more (rows ∷ db) (s ∷ rels) shape fit = (fit.0, rows_more db rels shape fit.1)

rows_length : (db : Instance) (rels : Shapes) → RowsFit db rels → length db ≡ length rels
rows_length [] [] fit = refl
rows_length [] (s ∷ rels) fit = absurd fit
rows_length (rows ∷ db) [] fit = absurd fit
rows_length (rows ∷ db) (s ∷ rels) fit = ap suc (rows_length db rels fit.1)

fact_fits : (db : Instance) (rels : Shapes) (n : ℕ) (row : List Value) → RowsFit db rels → HasShape row (columns rels n) → RowsFit (with_fact value_cmp db (record { rel = n; row = row })) rels
fact_fits db rels n row fit shape =
    rows_set db rels n (insert_key row_cmp (rows_of db n) row) fit
    (recursion_from (λ r. HasShape r (columns rels n)) (insert_key row_cmp (rows_of db n) row)
    (λ r at. ⊎_elim (λ here. subst (λ q. HasShape q (columns rels n)) (sym here) shape) (λ old. rows_at db rels n r fit old) (in_insert_key row_cmp row r (rows_of db n) at)))

-- ---- tokens of their shapes

held_more : (shape : List ColType) (held : List (List Value × ℕ)) (row : List Value) (many : ℕ) → HasShape row shape → AllByRecursion (λ c. HasShape c.0 shape) held → AllByRecursion (λ c. HasShape c.0 shape) (added row_cmp held row many)
held_more shape held row many fits all =
    recursion_from (λ (c : List Value × ℕ). HasShape c.0 shape) (added row_cmp held row many)
    (λ c at.
    let key : In c.0 (insert_key row_cmp (keys_of held) row) =
    subst (λ keys. In c.0 keys) (keys_insert_entry row_cmp row (count_of row_cmp held row + many) held) (map_in (λ (e : List Value × ℕ). e.0) c (added row_cmp held row many) at) in
    ⊎_elim (λ here. subst (λ r. HasShape r shape) (sym here) fits)
    (λ old. let found = in_map (λ (e : List Value × ℕ). e.0) c.0 held old in subst (λ r. HasShape r shape) (sym found.2) (recursion_at (λ (e : List Value × ℕ). HasShape e.0 shape) found.0 held all found.1))
    (in_insert_key row_cmp row c.0 (keys_of held) key))

tokens_given : (marking : Marking) (asks : Shapes) (sites : List Place) (n : ℕ) (row : List Value) (many : ℕ) → TokensFit marking sites → has_place is_control sites n ≡ true
    → HasShape row (columns (map (place_shape asks) sites) n) → TokensFit (with_tokens row_cmp marking n row many) sites
tokens_given [] asks [] n row many fit has shape = absurd cc
tokens_given [] asks (site ∷ sites) n row many fit has shape = absurd fit
tokens_given (held ∷ marking) asks [] n row many fit has shape = absurd fit
tokens_given (held ∷ marking) asks (Control name types ∷ sites) zero row many fit has shape = (held_more types held row many shape fit.0, fit.1)
tokens_given (held ∷ marking) asks (View name query ∷ sites) zero row many fit has shape = absurd cc
tokens_given (held ∷ marking) asks (site ∷ sites) (suc n) row many fit has shape = (fit.0, tokens_given marking asks sites n row many fit.1 has shape)

no_tokens_fit : (site : Place) → PlaceFits [] site
no_tokens_fit (Control name shape) = tt
no_tokens_fit (View name query) = refl

tokens_more : (marking : Marking) (sites : List Place) (site : Place) → TokensFit marking sites → TokensFit (marking ++ [] ∷ []) (sites ++ site ∷ [])
tokens_more [] [] site fit = (no_tokens_fit site, tt)
tokens_more [] (s ∷ sites) site fit = absurd fit
tokens_more (held ∷ marking) [] site fit = absurd fit
tokens_more (held ∷ marking) (s ∷ sites) site fit = (fit.0, tokens_more marking sites site fit.1)

tokens_length : (marking : Marking) (sites : List Place) → TokensFit marking sites → length marking ≡ length sites
tokens_length [] [] fit = refl
tokens_length [] (s ∷ sites) fit = absurd fit
tokens_length (held ∷ marking) [] fit = absurd fit
tokens_length (held ∷ marking) (s ∷ sites) fit = ap suc (tokens_length marking sites fit.1)

-- ---- the values of a list of which one element was set

module _ {B : Type 0} (f : B → List Value) (d : B) where
  index_in : (xs : List B) (n : ℕ) (v : Value) → f d ≡ [] → In v (f (slice_index_or xs n d)) → In v (flat_map f xs)
  index_in [] n v none at = subst (λ l. In v l) none at
  index_in (x ∷ xs) zero v none at = append_left v (f x) (flat_map f xs) at
  index_in (x ∷ xs) (suc n) v none at = append_right v (f x) (flat_map f xs) (index_in xs n v none at)

  set_in : (xs : List B) (n : ℕ) (new : B) (v : Value) → In v (flat_map f (slice_set xs n new)) → In v (flat_map f xs) ⊎ In v (f new)
  set_in [] n new v at = inl at
  set_in (x ∷ xs) zero new v at = ⊎_elim (λ here. inr here) (λ later. inl (append_right v (f x) (flat_map f xs) later)) (in_append v (f new) (flat_map f xs) at)
  set_in (x ∷ xs) (suc n) new v at =
      ⊎_elim (λ here. inl (append_left v (f x) (flat_map f xs) here))
      (λ later. ⊎_elim (λ old. inl (append_right v (f x) (flat_map f xs) old)) (λ one. inr one) (set_in xs n new v later))
      (in_append v (f x) (flat_map f (slice_set xs n new)) at)

  set_new : (xs : List B) (n : ℕ) (new : B) (v : Value) → n < length xs → In v (f new) → In v (flat_map f (slice_set xs n new))
  set_new [] n new v less at = absurd (omega (arith, less))
  set_new (x ∷ xs) zero new v less at = append_left v (f new) (flat_map f xs) at
  set_new (x ∷ xs) (suc n) new v less at = append_right v (f x) (flat_map f (slice_set xs n new)) (set_new xs n new v (omega (arith, less)) at)

  set_old : (xs : List B) (n : ℕ) (new : B) (v : Value) → (In v (f (slice_index_or xs n d)) → In v (f new)) → In v (flat_map f xs) → In v (flat_map f (slice_set xs n new))
  set_old [] n new v keeps at = at
  set_old (x ∷ xs) zero new v keeps at =
      ⊎_elim (λ here. append_left v (f new) (flat_map f xs) (keeps here)) (λ later. append_right v (f new) (flat_map f xs) later) (in_append v (f x) (flat_map f xs) at)
  set_old (x ∷ xs) (suc n) new v keeps at =
      ⊎_elim (λ here. append_left v (f x) (flat_map f (slice_set xs n new)) here)
      (λ later. append_right v (f x) (flat_map f (slice_set xs n new)) (set_old xs n new v keeps later)) (in_append v (f x) (flat_map f xs) at)

  -- where the new element has the values of the old one and those of a row
  set_past : (xs : List B) (n : ℕ) (new : B) (row : List Value) → f d ≡ [] → n < length xs → ((v : Value) → In v (f new) → In v (f (slice_index_or xs n d)) ⊎ In v row)
      → ((v : Value) → In v (f (slice_index_or xs n d)) → In v (f new)) → ((v : Value) → In v row → In v (f new)) → past_ids (flat_map f (slice_set xs n new)) ≡ max (past_ids (flat_map f xs)) (past_ids row)
  set_past xs n new row none less parts keeps adds =
      past_same (flat_map f (slice_set xs n new)) (flat_map f xs ++ row)
      (λ v at. ⊎_elim (λ old. append_left v (flat_map f xs) row old)
      (λ one. ⊎_elim (λ old. append_left v (flat_map f xs) row (index_in xs n v none old)) (λ new'. append_right v (flat_map f xs) row new') (parts v one))
      (set_in xs n new v at))
      (λ v at. ⊎_elim (λ old. set_old xs n new v (keeps v) old) (λ one. set_new xs n new v less (adds v one)) (in_append v (flat_map f xs) row at))
      ∙ past_append (flat_map f xs) row

abbrev cells : List (List Value) → List Value
cells rows = flat_map (λ row. row) rows

inserted_in : (rows : List (List Value)) (row : List Value) (v : Value) → In v (cells (insert_key row_cmp rows row)) → In v (cells rows) ⊎ In v row
inserted_in rows row v at =
    let found = in_flat (λ (r : List Value). r) v (insert_key row_cmp rows row) at in
    ⊎_elim (λ here. inr (subst (λ r. In v r) here found.2)) (λ old. inl (flat_in (λ (r : List Value). r) v found.0 rows old found.2)) (in_insert_key row_cmp row found.0 rows found.1)

inserted_old : (rows : List (List Value)) (row : List Value) (v : Value) → In v (cells rows) → In v (cells (insert_key row_cmp rows row))
inserted_old rows row v at =
    let found = in_flat (λ (r : List Value). r) v rows at in
    flat_in (λ (r : List Value). r) v found.0 (insert_key row_cmp rows row) (insert_key_old row_cmp row found.0 rows found.1) found.2

inserted_new : (rows : List (List Value)) (row : List Value) (v : Value) → In v row → In v (cells (insert_key row_cmp rows row))
inserted_new rows row v at = flat_in (λ (r : List Value). r) v row (insert_key row_cmp rows row) (insert_key_new rows_total exact_rows row rows) at

fact_past : (db : Instance) (n : ℕ) (row : List Value) → n < length db → past_ids (values_in (with_fact value_cmp db (record { rel = n; row = row }))) ≡ max (past_ids (values_in db)) (past_ids row)
fact_past db n row less =
    set_past cells [] db n (insert_key row_cmp (rows_of db n) row) row refl less (inserted_in (rows_of db n) row) (inserted_old (rows_of db n) row) (inserted_new (rows_of db n) row)

abbrev held_cells : List (List Value × ℕ) → List Value
held_cells held = flat_map (λ c. c.0) held

keys_cells : (held : List (List Value × ℕ)) → held_cells held ≡ cells (keys_of held)
keys_cells [] = refl
keys_cells (c ∷ held) = ap (λ l. c.0 ++ l) (keys_cells held)

added_cells : (held : List (List Value × ℕ)) (row : List Value) (many : ℕ) → held_cells (added row_cmp held row many) ≡ cells (insert_key row_cmp (keys_of held) row)
added_cells held row many = keys_cells (added row_cmp held row many) ∙ ap cells (keys_insert_entry row_cmp row (count_of row_cmp held row + many) held)

token_past : (marking : Marking) (n : ℕ) (row : List Value) (many : ℕ) → n < length marking → past_ids (token_values (with_tokens row_cmp marking n row many)) ≡ max (past_ids (token_values marking)) (past_ids row)
token_past marking n row many less =
    set_past held_cells [] marking n (added row_cmp (place_of marking n) row many) row refl less
    (λ v at.
    ⊎_elim (λ old. inl (subst (λ l. In v l) (sym (keys_cells (place_of marking n))) old)) (λ new. inr new)
    (inserted_in (keys_of (place_of marking n)) row v (subst (λ l. In v l) (added_cells (place_of marking n) row many) at)))
    (λ v at. subst (λ l. In v l) (sym (added_cells (place_of marking n) row many)) (inserted_old (keys_of (place_of marking n)) row v (subst (λ l. In v l) (keys_cells (place_of marking n)) at)))
    (λ v at. subst (λ l. In v l) (sym (added_cells (place_of marking n) row many)) (inserted_new (keys_of (place_of marking n)) row v at))

-- ---- the first id behind those of a state

next_parts : (net : List Decl) (db : Instance) (marking : Marking) → next_after net db marking ≡ max (max (past_ids (values_in db)) (past_ids (token_values marking))) (past_ids (rule_values net))
next_parts net db marking =
    past_append (values_in db ++ token_values marking) (rule_values net) ∙ ap (λ n. max n (past_ids (rule_values net))) (past_append (values_in db) (token_values marking))

list_past : (list : List Sexp) → next_of list ≡ past_ids (list_values list)
list_past list = ap past_ids (values_listed list)

next_more : (list : List Sexp) (one : Sexp) → next_of (list ++ one ∷ []) ≡ max (next_of list) (past_ids (item_values one.item))
next_more list one =
    list_past (list ++ one ∷ [])
    ∙ ap past_ids (flat_map-append (λ (x : Sexp). item_values x.item) list (one ∷ []) ∙ ap (λ l. list_values list ++ l) (append-nil (item_values one.item)))
    ∙ past_append (list_values list) (item_values one.item)
    ∙ ap (λ n. max n (past_ids (item_values one.item))) (sym (list_past list))

-- one more of facts, of tokens or of declarations
max_first : (a b c n : ℕ) → max (max (max a b) c) n ≡ max (max (max a n) b) c
max_first a b c n = omega arith

max_second : (a b c n : ℕ) → max (max (max a b) c) n ≡ max (max a (max b n)) c
max_second a b c n = omega arith

max_third : (a b c n : ℕ) → max (max (max a b) c) n ≡ max (max a b) (max c n)
max_third a b c n = omega arith

-- ---- what was read

pub record WasRead (s next : State) (one : Sexp) : Type 0 where
  pub text : Written
  pub meant : Entry
  pub shape : declaration_in one ≡ Some text
  pub passed : judged s.decls s.begun text ≡ Ok meant
  pub is : with_entry one.line s meant ≡ next

ok_is : {E : Type 0} (x y : State) → ◌≡◌ {A = Result State E} (Ok x) (Ok y) → x ≡ y
ok_is x y e = cc

pub was_read : (s next : State) (one : Sexp) → read_one s one ≡ Ok next → WasRead s next one
was_read s next one e = by (declaration_in one) refl e
  where
    taken : (w : Written) → declaration_in one ≡ Some w → (r : Result Entry NetKind) → judged s.decls s.begun w ≡ r → taken_up one.line s r ≡ Ok next → WasRead s next one
    taken w shape (Ok x) passed e = record { text = w; meant = x; shape = shape; passed = passed; is = ok_is (with_entry one.line s x) next e }
    taken w shape (Err k) passed e = absurd cc

    by : (o : Option Written) → declaration_in one ≡ o → read_shape one.line s o ≡ Ok next → WasRead s next one
    by None shape e = absurd cc
    by (Some w) shape e = taken w shape (judged s.decls s.begun w) refl e

-- the constants of an S-expression are those of the declaration as it is printed
same_values : (one : Sexp) (w : Written) → declaration_in one ≡ Some w → item_values one.item ≡ item_values (sexp_of w).item
same_values one w shape =
    sym (ap (λ (x : Sexp). item_values x.item) (declaration_found one w shape) ∙ ap (flat_map value_in) (atoms_alike 0 one.item))

-- ---- facts and tokens that were resolved

record FactWas (net : List Decl) (w : Written) (n : ℕ) (row : List Value) : Type 0 where
  name : Name
  is : w ≡ written.Fact name row
  number : number_of (relation_names net) name ≡ Some n

record TokenWas (net : List Decl) (w : Written) (n many : ℕ) (row : List Value) : Type 0 where
  name : Name
  amount : ℤ
  is : w ≡ written.Token name amount row
  number : control_number net name ≡ Some n
  some : count amount ≡ many

-- the other declarations are parts of the net
abbrev IsPart : Option Entry → Type 0
IsPart o = (x : Entry) → o ≡ Some x → (d : Decl) × (x ≡ Part d)

mapped_part : {A : Type 0} (f : A → Decl) (o : Option A) → IsPart (option_map (λ a. Part (f a)) o)
mapped_part f o x e = let (a, is, made) = mapped_found (λ a. Part (f a)) o x e in (f a, sym made)

just_part : (d : Decl) → IsPart (Some (Part d))
just_part d x e = (d, sym (some_is (Part d) x e))

part_no_fact : (o : Option Entry) → IsPart o → (n : ℕ) (row : List Value) → o ≡ Some (entry.Fact n row) → ⊥
part_no_fact o part n row e = let found = part (entry.Fact n row) e in never found.0 found.1
  where
    never : (d : Decl) → entry.Fact n row ≡ Part d → ⊥
    never d e = cc

part_no_token : (o : Option Entry) → IsPart o → (n many : ℕ) (row : List Value) → o ≡ Some (Tokens n many row) → ⊥
part_no_token o part n many row e = let found = part (Tokens n many row) e in never found.0 found.1
  where
    never : (d : Decl) → Tokens n many row ≡ Part d → ⊥
    never d e = cc

-- what is written is a part of the net, a fact or tokens
abbrev IsOther : Written → Type 0
IsOther (written.Fact name row) = ⊥
IsOther (written.Token name amount row) = ⊥
IsOther w = Unit {0}

other_part : (net : List Decl) (w : Written) → IsOther w → IsPart (resolved net w)
other_part net (written.Relation name fields) other = just_part (decl.Relation name fields)
other_part net (written.Key rel fields) other = mapped_part (λ d. d) (resolved_key net rel fields)
other_part net (written.Foreign rel fields to to_fields) other = mapped_part (λ d. d) (resolved_foreign net rel fields to to_fields)
other_part net (written.Always name body) other = mapped_part (decl.Always name) (resolved_formula (relation_names net) body)
other_part net (written.Query name vars body) other = mapped_part (decl.Query name vars) (resolved_formula (relation_names net) body)
other_part net (written.Action name params deletes adds) other = mapped_part (λ d. d) (resolved_action net name params deletes adds)
other_part net (written.Control name shape) other = just_part (decl.Site (Control name shape))
other_part net (written.View name query) other = mapped_part (λ n. decl.Site (View name n)) (number_of (query_names net) query)
other_part net (written.Transition r) other = mapped_part decl.Trans (transition net r)
other_part net (written.Fact name row) other = absurd other
other_part net (written.Token name amount row) other = absurd other

fact_is : (a b : ℕ) (x y : List Value) → entry.Fact a x ≡ entry.Fact b y → (a ≡ b) × (x ≡ y)
fact_is a b x y e = (cc, cc)

token_is : (a b m k : ℕ) (x y : List Value) → Tokens a m x ≡ Tokens b k y → (a ≡ b) × (m ≡ k) × (x ≡ y)
token_is a b m k x y e = (cc, cc, cc)

fact_token : (a b m : ℕ) (x y : List Value) → entry.Fact a x ≡ Tokens b m y → ⊥
fact_token a b m x y e = cc

fact_was : (net : List Decl) (w : Written) (n : ℕ) (row : List Value) → resolved net w ≡ Some (entry.Fact n row) → FactWas net w n row
fact_was net (written.Fact name other) n row e =
    let (m, is, made) = mapped_found (λ k. entry.Fact k other) (number_of (relation_names net) name) (entry.Fact n row) e in
    let same = fact_is m n other row made in
    record { name = name; is = ap (written.Fact name) same.1; number = is ∙ ap (λ k. Some k) same.0 }
fact_was net (written.Token name amount other) n row e =
    let (m, is, made) = mapped_found (λ k. Tokens k (count amount) other) (control_number net name) (entry.Fact n row) e in
    absurd (fact_token n m (count amount) row other (sym made))
fact_was net (written.Relation a b) n row e = absurd (part_no_fact (resolved net (written.Relation a b)) (other_part net (written.Relation a b) tt) n row e)
fact_was net (written.Key a b) n row e = absurd (part_no_fact (resolved net (written.Key a b)) (other_part net (written.Key a b) tt) n row e)
fact_was net (written.Foreign a b c d) n row e = absurd (part_no_fact (resolved net (written.Foreign a b c d)) (other_part net (written.Foreign a b c d) tt) n row e)
fact_was net (written.Always a b) n row e = absurd (part_no_fact (resolved net (written.Always a b)) (other_part net (written.Always a b) tt) n row e)
fact_was net (written.Query a b c) n row e = absurd (part_no_fact (resolved net (written.Query a b c)) (other_part net (written.Query a b c) tt) n row e)
fact_was net (written.Action a b c d) n row e = absurd (part_no_fact (resolved net (written.Action a b c d)) (other_part net (written.Action a b c d) tt) n row e)
fact_was net (written.Control a b) n row e = absurd (part_no_fact (resolved net (written.Control a b)) (other_part net (written.Control a b) tt) n row e)
fact_was net (written.View a b) n row e = absurd (part_no_fact (resolved net (written.View a b)) (other_part net (written.View a b) tt) n row e)
fact_was net (written.Transition r) n row e = absurd (part_no_fact (resolved net (written.Transition r)) (other_part net (written.Transition r) tt) n row e)

token_was : (net : List Decl) (w : Written) (n many : ℕ) (row : List Value) → resolved net w ≡ Some (Tokens n many row) → TokenWas net w n many row
token_was net (written.Token name amount other) n many row e =
    let (m, is, made) = mapped_found (λ k. Tokens k (count amount) other) (control_number net name) (Tokens n many row) e in
    let same = token_is m n (count amount) many other row made in
    record { name = name; amount = amount; is = ap (written.Token name amount) same.2; number = is ∙ ap (λ k. Some k) same.0; some = same.1 }
token_was net (written.Fact name other) n many row e =
    let (m, is, made) = mapped_found (λ k. entry.Fact k other) (number_of (relation_names net) name) (Tokens n many row) e in
    absurd (fact_token m n many other row made)
token_was net (written.Relation a b) n many row e = absurd (part_no_token (resolved net (written.Relation a b)) (other_part net (written.Relation a b) tt) n many row e)
token_was net (written.Key a b) n many row e = absurd (part_no_token (resolved net (written.Key a b)) (other_part net (written.Key a b) tt) n many row e)
token_was net (written.Foreign a b c d) n many row e = absurd (part_no_token (resolved net (written.Foreign a b c d)) (other_part net (written.Foreign a b c d) tt) n many row e)
token_was net (written.Always a b) n many row e = absurd (part_no_token (resolved net (written.Always a b)) (other_part net (written.Always a b) tt) n many row e)
token_was net (written.Query a b c) n many row e = absurd (part_no_token (resolved net (written.Query a b c)) (other_part net (written.Query a b c) tt) n many row e)
token_was net (written.Action a b c d) n many row e = absurd (part_no_token (resolved net (written.Action a b c d)) (other_part net (written.Action a b c d) tt) n many row e)
token_was net (written.Control a b) n many row e = absurd (part_no_token (resolved net (written.Control a b)) (other_part net (written.Control a b) tt) n many row e)
token_was net (written.View a b) n many row e = absurd (part_no_token (resolved net (written.View a b)) (other_part net (written.View a b) tt) n many row e)
token_was net (written.Transition r) n many row e = absurd (part_no_token (resolved net (written.Transition r)) (other_part net (written.Transition r) tt) n many row e)

-- ---- a state with one more declaration

ascend_more : (d : Decl) (db : Instance) → IsInstance value_cmp db → IsInstance value_cmp (more_facts d db)
ascend_more (decl.Relation name fields) db is = instance_either value_cmp true db is
ascend_more (decl.Key rel fields) db is = is
ascend_more (decl.Foreign rel fields to to_fields) db is = is
ascend_more (decl.Always name body) db is = is
ascend_more (decl.Query name vars body) db is = is
ascend_more (decl.Act a) db is = is
ascend_more (decl.Site p) db is = is
ascend_more (decl.Trans t) db is = is

facts_more_fit : (d : Decl) (db : Instance) (rels : Shapes) → RowsFit db rels → RowsFit (more_facts d db) (grow rels (option_map relation_shape (relation_in d)))
facts_more_fit (decl.Relation name fields) db rels fit = rows_more db rels (map (λ f. f.1) fields) fit
facts_more_fit (decl.Key rel fields) db rels fit = fit
facts_more_fit (decl.Foreign rel fields to to_fields) db rels fit = fit
facts_more_fit (decl.Always name body) db rels fit = fit
facts_more_fit (decl.Query name vars body) db rels fit = fit
facts_more_fit (decl.Act a) db rels fit = fit
facts_more_fit (decl.Site p) db rels fit = fit
facts_more_fit (decl.Trans t) db rels fit = fit

nothing_more : {B : Type 0} (f : List B → List Value) (xs : List (List B)) → f [] ≡ [] → flat_map f (xs ++ [] ∷ []) ≡ flat_map f xs
nothing_more f xs none = flat_map-append f xs ([] ∷ []) ∙ ap (λ l. flat_map f xs ++ (l ++ [])) none ∙ append-nil (flat_map f xs)

facts_more_values : (d : Decl) (db : Instance) → values_in (more_facts d db) ≡ values_in db
facts_more_values (decl.Relation name fields) db = nothing_more cells db refl
facts_more_values (decl.Key rel fields) db = refl
facts_more_values (decl.Foreign rel fields to to_fields) db = refl
facts_more_values (decl.Always name body) db = refl
facts_more_values (decl.Query name vars body) db = refl
facts_more_values (decl.Act a) db = refl
facts_more_values (decl.Site p) db = refl
facts_more_values (decl.Trans t) db = refl

counted_more : (d : Decl) (marking : Marking) → IsMarking row_cmp marking → IsMarking row_cmp (more_tokens d marking)
counted_more (decl.Relation name fields) marking is = is
counted_more (decl.Key rel fields) marking is = is
counted_more (decl.Foreign rel fields to to_fields) marking is = is
counted_more (decl.Always name body) marking is = is
counted_more (decl.Query name vars body) marking is = is
counted_more (decl.Act a) marking is = is
counted_more (decl.Site p) marking is = marking_more row_cmp marking is
counted_more (decl.Trans t) marking is = is

tokens_more_fit : (d : Decl) (marking : Marking) (sites : List Place) → TokensFit marking sites → TokensFit (more_tokens d marking) (grow sites (place_in d))
tokens_more_fit (decl.Relation name fields) marking sites fit = fit
tokens_more_fit (decl.Key rel fields) marking sites fit = fit
tokens_more_fit (decl.Foreign rel fields to to_fields) marking sites fit = fit
tokens_more_fit (decl.Always name body) marking sites fit = fit
tokens_more_fit (decl.Query name vars body) marking sites fit = fit
tokens_more_fit (decl.Act a) marking sites fit = fit
tokens_more_fit (decl.Site p) marking sites fit = tokens_more marking sites p fit
tokens_more_fit (decl.Trans t) marking sites fit = fit

tokens_more_values : (d : Decl) (marking : Marking) → token_values (more_tokens d marking) ≡ token_values marking
tokens_more_values (decl.Relation name fields) marking = refl
tokens_more_values (decl.Key rel fields) marking = refl
tokens_more_values (decl.Foreign rel fields to to_fields) marking = refl
tokens_more_values (decl.Always name body) marking = refl
tokens_more_values (decl.Query name vars body) marking = refl
tokens_more_values (decl.Act a) marking = refl
tokens_more_values (decl.Site p) marking = nothing_more held_cells marking refl
tokens_more_values (decl.Trans t) marking = refl

-- one line for each sentence
sentence_count : (net : List Decl) → length (sentences net) ≡ length (filter_map (sentence_in []) net)
sentence_count net = length-map (labelled_sentences net) (λ (s : Named). s.item) ∙ sentences_as_many (relation_shapes net) [] net

one_each : {A B : Type 0} (xs : List A) (ys : List B) (x : A) (y : B) → length xs ≡ length ys → length (xs ++ x ∷ []) ≡ length (ys ++ y ∷ [])
one_each xs ys x y same =
    let a : length (xs ++ x ∷ []) ≡ length xs + 1 = length-append xs (x ∷ []) in
    let b : length (ys ++ y ∷ []) ≡ length ys + 1 = length-append ys (y ∷ []) in
    a ∙ ap (λ n. n + 1) same ∙ sym b

lines_grown : (line : ℕ) (d : Decl) (lines : List ℕ) (ss : List Named) → length lines ≡ length ss → length (lines ++ sentence_lines line d) ≡ length (grow ss (sentence_in [] d))
lines_grown line (decl.Relation name fields) lines ss same = ap length (append-nil lines) ∙ same
lines_grown line (decl.Key rel fields) lines ss same = one_each lines ss line _ same
lines_grown line (decl.Foreign rel fields to to_fields) lines ss same = one_each lines ss line _ same
lines_grown line (decl.Always name body) lines ss same = one_each lines ss line _ same
lines_grown line (decl.Query name vars body) lines ss same = ap length (append-nil lines) ∙ same
lines_grown line (decl.Act a) lines ss same = ap length (append-nil lines) ∙ same
lines_grown line (decl.Site p) lines ss same = ap length (append-nil lines) ∙ same
lines_grown line (decl.Trans t) lines ss same = ap length (append-nil lines) ∙ same

lines_more : (line : ℕ) (d : Decl) (net : List Decl) (lines : List ℕ) → length lines ≡ length (sentences net) → length (lines ++ sentence_lines line d) ≡ length (sentences (net ++ d ∷ []))
lines_more line d net lines same =
    lines_grown line d lines (filter_map (sentence_in []) net) (same ∙ sentence_count net)
    ∙ ap length (sym (filter_grow (sentence_in []) net d)) ∙ sym (sentence_count (net ++ d ∷ []))

part_step : (list : List Sexp) (line : ℕ) (s : State) (one : Sexp) (d : Decl) → IsSound list s → Passes s.decls d → past_ids (item_values one.item) ≡ past_ids (decl_constants d)
    → IsSound (list ++ one ∷ []) (with_entry line s (Part d))
part_step list line s one d sound p same =
    let db : Instance = s.begun.facts in
    let marking : Marking = s.begun.tokens in
    record {
      well_formed = one_more [] s.decls d sound.well_formed p;
      facts_ascend = ascend_more d db sound.facts_ascend;
      facts_fit = subst (RowsFit (more_facts d db)) (sym (ap (map relation_shape) (filter_grow relation_in s.decls d) ∙ map_grow relation_shape (relations s.decls) (relation_in d)))
          (facts_more_fit d db (relation_shapes s.decls) sound.facts_fit);
      tokens_counted = counted_more d marking sound.tokens_counted;
      tokens_fit = subst (TokensFit (more_tokens d marking)) (sym (filter_grow place_in s.decls d)) (tokens_more_fit d marking (places s.decls) sound.tokens_fit);
      lines_are = lines_more line d s.decls s.lines sound.lines_are;
      next_is = next_more list one
          ∙ (λ i. max ((sound.next_is ∙ next_parts s.decls db marking) i) (same i))
          ∙ max_third (past_ids (values_in db)) (past_ids (token_values marking)) (past_ids (rule_values s.decls)) (past_ids (decl_constants d))
          ∙ (λ i. max (max (past_ids (sym (facts_more_values d db) i)) (past_ids (sym (tokens_more_values d marking) i))) (sym (rules_past s.decls d) i))
          ∙ sym (next_parts (s.decls ++ d ∷ []) (more_facts d db) (more_tokens d marking));
    }

fact_step : (list : List Sexp) (line : ℕ) (s : State) (one : Sexp) (n : ℕ) (row : List Value) → IsSound list s → n < length s.begun.facts → HasShape row (columns (relation_shapes s.decls) n)
    → past_ids (item_values one.item) ≡ past_ids row → IsSound (list ++ one ∷ []) (with_entry line s (entry.Fact n row))
fact_step list line s one n row sound less shape same =
    let db : Instance = s.begun.facts in
    let marking : Marking = s.begun.tokens in
    let f : Fact Value = record { rel = n; row = row } in
    record {
      well_formed = sound.well_formed;
      facts_ascend = instance_with value_total db f sound.facts_ascend;
      facts_fit = fact_fits db (relation_shapes s.decls) n row sound.facts_fit shape;
      tokens_counted = sound.tokens_counted;
      tokens_fit = sound.tokens_fit;
      lines_are = sound.lines_are;
      next_is = next_more list one
          ∙ (λ i. max ((sound.next_is ∙ next_parts s.decls db marking) i) (same i))
          ∙ max_first (past_ids (values_in db)) (past_ids (token_values marking)) (past_ids (rule_values s.decls)) (past_ids row)
          ∙ ap (λ k. max (max k (past_ids (token_values marking))) (past_ids (rule_values s.decls))) (sym (fact_past db n row less))
          ∙ sym (next_parts s.decls (with_fact value_cmp db f) marking);
    }

token_step : (list : List Sexp) (line : ℕ) (s : State) (one : Sexp) (n many : ℕ) (row : List Value) → IsSound list s → n < length s.begun.tokens → has_place is_control (places s.decls) n ≡ true
    → HasShape row (columns (place_shapes s.decls) n) → 0 < many → count_at row_cmp s.begun.tokens n row + many < 2 ^ 32
    → past_ids (item_values one.item) ≡ past_ids row → IsSound (list ++ one ∷ []) (with_entry line s (Tokens n many row))
token_step list line s one n many row sound less has shape some small same =
    let db : Instance = s.begun.facts in
    let marking : Marking = s.begun.tokens in
    record {
      well_formed = sound.well_formed;
      facts_ascend = sound.facts_ascend;
      facts_fit = sound.facts_fit;
      tokens_counted = marking_given rows_total marking n row many sound.tokens_counted some small;
      tokens_fit = tokens_given marking (query_shapes s.decls) (places s.decls) n row many sound.tokens_fit has shape;
      lines_are = sound.lines_are;
      next_is = next_more list one
          ∙ (λ i. max ((sound.next_is ∙ next_parts s.decls db marking) i) (same i))
          ∙ max_second (past_ids (values_in db)) (past_ids (token_values marking)) (past_ids (rule_values s.decls)) (past_ids row)
          ∙ ap (λ k. max (max (past_ids (values_in db)) k) (past_ids (rule_values s.decls))) (sym (token_past marking n row many less))
          ∙ sym (next_parts s.decls db (with_tokens row_cmp marking n row many));
    }

-- ---- one step of reading

int_first : (i : ℤ) (row : List Value) → past_ids (value.Int i ∷ row) ≡ past_ids row
int_first i row = omega arith

fact_less : (net : List Decl) (db : Instance) (name : Name) (n : ℕ) → RowsFit db (relation_shapes net) → number_of (relation_names net) name ≡ Some n → n < length db
fact_less net db name n fit is =
    let a : length db ≡ length (relation_shapes net) = rows_length db (relation_shapes net) fit in
    let b : length (relation_shapes net) ≡ length (relations net) = length-map (relations net) relation_shape in
    let c : length (relation_names net) ≡ length (relations net) = length-map (relations net) (λ r. r.name) in
    let less : n < length (relation_names net) = number_within (relation_names net) name n is in
    omega (arith, a, b, c, less)

token_less : (net : List Decl) (marking : Marking) (n : ℕ) → TokensFit marking (places net) → has_place is_control (places net) n ≡ true → n < length marking
token_less net marking n fit has =
    let site = has_within is_control (places net) n has in
    subst (λ k. n < k) (sym (tokens_length marking (places net) fit)) (get_within (places net) n site.0 site.1)

few_enough : (before many : ℕ) → (before == 0) ≡ true → is_count many ≡ true → (0 < many) × (before + many < 2 ^ 32)
few_enough before many none counts =
    let p = and_parts (nat_le 1 many) (nat_le many 4294967295) counts in
    let zero_is : before ≡ 0 = eqb-true before 0 none in
    let some : 1 ≤ many = leb-true 1 many p.0 in
    let small : many ≤ 4294967295 = leb-true many 4294967295 p.1 in
    (omega (arith, some), omega (arith, zero_is, small))

-- what a fact and tokens that were judged are
pub fact_judged_is : (net : List Decl) (begun : Begun) (w : Written) (n : ℕ) (row : List Value) → judged net begun w ≡ Ok (entry.Fact n row) → IsNewFact net begun n row
fact_judged_is net begun w n row passed =
    let j = judged_is net begun w (entry.Fact n row) passed in
    let was = fact_was net w n row j.is in
    let new : fact_is_new begun row (Some n) ≡ true =
    subst (λ o. fact_is_new begun row o ≡ true) was.number (subst (λ (y : Written). no_duplicate net begun y ≡ true) was.is j.once) in
    record {
      known = subst (λ k. n < k) (length-map (relations net) (λ r. r.name)) (number_within (relation_names net) was.name n was.number);
      shape = row_shaped row (columns (relation_shapes net) n) (eqb-true (length row) (length (columns (relation_shapes net) n)) j.passed.arity) j.passed.typed;
      is_new = not-true (has_fact value_cmp begun.facts (record { rel = n; row = row })) new;
    }

pub tokens_judged_are : (net : List Decl) (begun : Begun) (w : Written) (n many : ℕ) (row : List Value) → judged net begun w ≡ Ok (Tokens n many row) → AreNewTokens net begun n many row
tokens_judged_are net begun w n many row passed =
    let j = judged_is net begun w (Tokens n many row) passed in
    let was = token_was net w n many row j.is in
    let has : has_place is_control (places net) n ≡ true = site_has is_control (places net) (number_of (place_names net) was.name) n was.number in
    let site = has_within is_control (places net) n has in
    let new : token_is_new begun row (Some n) ≡ true =
    subst (λ o. token_is_new begun row o ≡ true) was.number (subst (λ (y : Written). no_duplicate net begun y ≡ true) was.is j.once) in
    let none : count_at row_cmp begun.tokens n row ≡ 0 = eqb-true (count_at row_cmp begun.tokens n row) 0 new in
    let enough = few_enough (count_at row_cmp begun.tokens n row) many new j.passed.counted in
    let small : count_at row_cmp begun.tokens n row + many < 2 ^ 32 = enough.1 in
    record {
      known = get_within (places net) n site.0 site.1;
      control = has;
      shape = row_shaped row (columns (place_shapes net) n) (eqb-true (length row) (length (columns (place_shapes net) n)) j.passed.arity) j.passed.typed;
      some = enough.0;
      small = omega (arith, none, small);
      are_new = none;
    }

-- a sound state has rows for each relation and tokens for each place
pub sound_sizes : (list : List Sexp) (s : State) → IsSound list s → (length s.begun.facts ≡ length (relations s.decls)) × (length s.begun.tokens ≡ length (places s.decls))
sound_sizes list s sound = (
  rows_length s.begun.facts (relation_shapes s.decls) sound.facts_fit ∙ length-map (relations s.decls) relation_shape,
  tokens_length s.begun.tokens (places s.decls) sound.tokens_fit,
)

entry_step : (list : List Sexp) (s : State) (one : Sexp) (w : Written) (x : Entry) → IsSound list s → nesting one.item ≤ 64 → declaration_in one ≡ Some w → judged s.decls s.begun w ≡ Ok x
    → IsSound (list ++ one ∷ []) (with_entry one.line s x)
entry_step list s one w (Part d) sound within shape passed =
    let j = judged_is s.decls s.begun w (Part d) passed in
    let p = read_passes s.decls s.begun one w d shape passed within in
    part_step list one.line s one d sound p
    (ap past_ids (same_values one w shape)
    ∙ ap (λ (y : Written). past_ids (item_values (sexp_of y).item)) (sym (named_again s.decls w d j.is j.passed.counted))
    ∙ decl_past s.decls d p)
entry_step list s one w (entry.Fact n row) sound within shape passed =
    let j = judged_is s.decls s.begun w (entry.Fact n row) passed in
    let was = fact_was s.decls w n row j.is in
    fact_step list one.line s one n row sound
    (fact_less s.decls s.begun.facts was.name n sound.facts_fit was.number)
    (row_shaped row (columns (relation_shapes s.decls) n) (eqb-true (length row) (length (columns (relation_shapes s.decls) n)) j.passed.arity) j.passed.typed)
    (ap past_ids (same_values one w shape) ∙ ap (λ (y : Written). past_ids (item_values (sexp_of y).item)) was.is ∙ ap past_ids (fact_values was.name row))
entry_step list s one w (Tokens n many row) sound within shape passed =
    let j = judged_is s.decls s.begun w (Tokens n many row) passed in
    let was = token_was s.decls w n many row j.is in
    let has : has_place is_control (places s.decls) n ≡ true = site_has is_control (places s.decls) (number_of (place_names s.decls) was.name) n was.number in
    let new : token_is_new s.begun row (Some n) ≡ true =
    subst (λ o. token_is_new s.begun row o ≡ true) was.number (subst (λ (y : Written). no_duplicate s.decls s.begun y ≡ true) was.is j.once) in
    let enough = few_enough (count_at row_cmp s.begun.tokens n row) many new j.passed.counted in
    token_step list one.line s one n many row sound
    (token_less s.decls s.begun.tokens n sound.tokens_fit has) has
    (row_shaped row (columns (place_shapes s.decls) n) (eqb-true (length row) (length (columns (place_shapes s.decls) n)) j.passed.arity) j.passed.typed)
    enough.0 enough.1
    (ap past_ids (same_values one w shape) ∙ ap (λ (y : Written). past_ids (item_values (sexp_of y).item)) was.is
    ∙ ap past_ids (token_values_are was.name was.amount row) ∙ int_first was.amount row)

-- each declaration, fact or token that is read keeps the state sound
pub sound_step : (list : List Sexp) (s next : State) (one : Sexp) → IsSound list s → nesting one.item ≤ 64 → read_one s one ≡ Ok next → IsSound (list ++ one ∷ []) next
sound_step list s next one sound within e =
    let r = was_read s next one e in
    subst (IsSound (list ++ one ∷ [])) r.is (entry_step list s one r.text r.meant sound within r.shape r.passed)

pub nothing_sound : IsSound [] nothing
nothing_sound = record {
  well_formed = tt;
  facts_ascend = tt;
  facts_fit = tt;
  tokens_counted = tt;
  tokens_fit = tt;
  lines_are = refl;
  next_is = refl;
}

-- ---- all steps

then_read : (r : Result State Fault) (rest : List Sexp) (last : State) → and_then r (λ next. read_each next rest) ≡ Ok last → (mid : State) × (r ≡ Ok mid) × (read_each mid rest ≡ Ok last)
then_read (Ok mid) rest last e = (mid, refl, e)
then_read (Err x) rest last e = absurd cc

sound_steps : (list rest : List Sexp) (s last : State) → IsSound list s → IsWithinDepth 64 rest → read_each s rest ≡ Ok last → IsSound (list ++ rest) last
sound_steps list [] s last sound within e = subst (λ l. IsSound l last) (sym (append-nil list)) (subst (IsSound list) (ok_is s last e) sound)
sound_steps list (one ∷ rest) s last sound within e =
    let (mid, first, later) = then_read (read_one s one) rest last e in
    subst (λ l. IsSound l last) (append_assoc list (one ∷ []) rest)
    (sound_steps (list ++ one ∷ []) rest mid last (sound_step list s mid one sound within.0 first) within.1 later)

pub sound_list : (list : List Sexp) (s : State) → IsWithinDepth 64 list → read_each nothing list ≡ Ok s → IsSound list s
sound_list list s within e = sound_steps [] list nothing s nothing_sound within e

-- ---- the end of reading

all_hold : (db : Instance) (ls : List ℕ) (fs : List Formula) → length ls ≡ length fs → first_broken db (zip ls fs) ≡ None → list_all (λ f. holds f db []) fs ≡ true
all_hold db [] [] same none = refl
all_hold db [] (f ∷ fs) same none = absurd (omega (arith, same))
all_hold db (l ∷ ls) [] same none = absurd (omega (arith, same))
all_hold db (l ∷ ls) (f ∷ fs) same none = by (holds f db []) none (λ rest. all_hold db ls fs (omega (arith, same)) rest)
  where
    by : (b : Bool) → (if b then first_broken db (zip ls fs) else Some l) ≡ None → (first_broken db (zip ls fs) ≡ None → list_all (λ g. holds g db []) fs ≡ true) → (b && list_all (λ g. holds g db []) fs) ≡ true
    by true e later = later e
    by false e later = absurd cc

start_is : (x y : Start) → ◌≡◌ {A = Result Start Fault} (Ok x) (Ok y) → x ≡ y
start_is x y e = cc

pub good_start : (list : List Sexp) (s : State) (start : Start) → IsSound list s → next_of list ≤ 2 ^ 62 → finished list s ≡ Ok start → IsGoodStart start
good_start list s start sound small e = by (first_broken s.begun.facts (zip s.lines (sentences s.decls))) refl e
  where
    made : first_broken s.begun.facts (zip s.lines (sentences s.decls)) ≡ None → IsGoodStart (record { decls = s.decls; facts = s.begun.facts; tokens = s.begun.tokens; next = next_of list })
    made none = record {
      well_formed = sound.well_formed;
      good = record {
        facts_ascend = sound.facts_ascend;
        facts_fit = sound.facts_fit;
        tokens_counted = sound.tokens_counted;
        tokens_fit = sound.tokens_fit;
        holds = all_hold s.begun.facts s.lines (sentences s.decls) sound.lines_are none;
        ids = subst (λ n. ids_below n (all_values s.decls s.begun.facts s.begun.tokens) ≡ true) (sym sound.next_is) (next_is_past s.decls s.begun.facts s.begun.tokens);
        next_within = small;
        fired_within = omega arith;
      };
      next_is = sound.next_is;
    }

    by : (o : Option ℕ) → first_broken s.begun.facts (zip s.lines (sentences s.decls)) ≡ o → tested list s o ≡ Ok start → IsGoodStart start
    by None none e = subst IsGoodStart (start_is _ start e) (made none)
    by (Some line) none e = absurd cc

-- what a text is read as
pub text_good : (bytes : List ℕ) (start : Start) → reads bytes ≡ Ok start → IsGoodStart start
text_good bytes start e = by (sexps.reads 64 bytes) refl (sym (reads_is bytes) ∙ e)
  where
    last : (list : List Sexp) → sexps.reads 64 bytes ≡ Ok list → (r : Result State Fault) → read_each nothing list ≡ r → and_then r (finished list) ≡ Ok start → IsGoodStart start
    last list is (Ok s) each e = good_start list s start (sound_list list s (read_within 64 bytes list is) each) (next_small 64 bytes list is) e
    last list is (Err x) each e = absurd cc

    by : (r : Result (List Sexp) sexps.Fault) → sexps.reads 64 bytes ≡ r → read_list r ≡ Ok start → IsGoodStart start
    by (Err x) is e = absurd cc
    by (Ok list) is e = last list is (read_each nothing list) refl e
