-- The rows that meet the clauses of a transition, the numbers of tokens and the guard are those that enable it.
use Rattle.std.proofs.Common.{◌≡◌, ℕ, ◌+◌, ◌<◌, zero, suc, Bool, true, false, cond, ◌&&◌, ◌==◌, List, [], ◌∷◌, ◌++◌, map, refl, sym, ap, ◌∙◌, subst, inl, inr, ⊎_elim, Some, None, arith, length, take, drop, append-nil, get_or}
use Rattle.std.specs.Prelude.{slice_get, slice_index_or, slice_set, pos}
use Rattle.std.specs.List.{list_all, list_any, flat_map, filter, AllByRecursion}
use Rattle.std.specs.List.Sorted.{IsStrictlySortedBy}
use Rattle.std.specs.Map.{keys_of, lookup as entry_at}
use Rattle.std.specs.BTreeMap.{is_at}
use Rattle.std.specs.BTreeSet.{insert_key}
use Rattle.std.specs.Option.{option_map_or, unwrap_or}
use Rattle.std.specs.Cmp.{Equal-is, tied_itself}
use Rattle.std.proofs.lemmas.Bool.{and_parts, and_from}
use Rattle.std.proofs.lemmas.List.{length-map, map-append}
use Rattle.std.proofs.lemmas.List.Kept.{IsStrictlySortedBy-filter}
use Rattle.dbn_value.specs.Members.{In}
use Rattle.dbn_value.specs.Order.{value_cmp, value_total, exact_values, value_type, type_eq, row_cmp, rows_total, exact_rows}
use Rattle.dbn_value.specs.Scope.{Env, lookup, value_of, bind}
use Rattle.dbn_value.specs.Ascending.{ascending, rows_over, CellsIn}
use Rattle.dbn_value.specs.declared.value.Value.{Value}
use Rattle.dbn_value.specs.declared.value.Value.TheVariants.{Int, Text, Id}
use Rattle.dbn_value.specs.declared.value.ColType.{ColType}
use Rattle.dbn_value.specs.declared.value.ColType.TheVariants as col
use Rattle.dbn_value.specs.declared.term.Var.{Var}
use Rattle.dbn_value.specs.declared.term.Term.{Term}
use Rattle.dbn_value.specs.declared.term.Term.TheVariants as term
use Rattle.dbn_value.proofs.AppendLaws.{append_key, past_those_before}
use Rattle.dbn_value.proofs.AscendingLaws.{is_one, in_ascending, ascending_in, sorted_ascending, sorted_rows_over, in_rows_over, rows_over_in, same_members}
use Rattle.dbn_value.proofs.ListLaws.{take_more, whole}
use Rattle.dbn_value.proofs.MemberLaws.{any_in, in_any, all_at, all_from, in_filter, filter_in, in_append, append_left, append_right, in_map, map_in, in_flat, flat_in, in_at, at_in}
use Rattle.dbn_formula.specs.Variables.{TypedVars, binds, is_in}
use Rattle.dbn_formula.specs.Free.{variable_of, occurrences}
use Rattle.dbn_formula.specs.Distinct.{distinct_vars}
use Rattle.dbn_formula.specs.Holds.{Instance, row_eq, holds_over}
use Rattle.dbn_formula.specs.Answers.{domain, holds, constants, values_in}
use Rattle.dbn_formula.specs.Typing.{Shapes, arity_fits, types_fit, terms_fit, type_fault}
use Rattle.dbn_formula.specs.Solutions.{HasShape, HasShapes}
use Rattle.dbn_formula.specs.declared.formula.Formula.{Formula}
use Rattle.dbn_formula.specs.declared.formula.Formula.TheVariants.{Atom, And}
use Rattle.dbn_formula.proofs.VariableLaws.{in_of_is, type_same, type_itself}
use Rattle.dbn_formula.proofs.TypingLaws.{arity_atom, arity_and, types_atom, types_and}
use Rattle.dbn_formula.proofs.FreeLaws.{occurrences_atom, occurrences_and}
use Rattle.dbn_formula.proofs.HoldsLaws.{holds_atom, holds_and}
use Rattle.dbn_formula.proofs.AnswersLaws.{in_answers, answers_in, sorted_answers}
use Rattle.dbn_formula.proofs.NoFault.{fault_none}
use Rattle.dbn_instance.specs.Facts.{with_fact}
use Rattle.dbn_marking.specs.Counts.{place_of}
use Rattle.dbn_net.specs.declared.decl.Decl.{Decl}
use Rattle.dbn_net.specs.declared.rules.Arc.{Arc}
use Rattle.dbn_net.specs.declared.rules.Read.{Read}
use Rattle.dbn_net.specs.declared.rules.Pattern.{Pattern}
use Rattle.dbn_net.specs.declared.rules.Transition.{Transition}
use Rattle.dbn_net.specs.Tables.{columns, types_of, given, shape_of}
use Rattle.dbn_net.specs.Judging.{as_many, terms_bound}
use Rattle.dbn_net.specs.Values.{Marking, all_values}
use Rattle.dbn_net.specs.Wants.{wants, contained, bound_token}
use Rattle.dbn_net.specs.Enabled.{view_rows, is_read, guard_holds, bound_part, enabled_in, enabled, values_for, bindings}
use Rattle.dbn_net.specs.WellFormed.{Fits, terms_in, arc_vars, read_vars, clause_vars}
use Rattle.dbn_net.proofs.InsideLaws.{inside, token_there, distinct_left, bind_first}
use Rattle.dbn_net.proofs.Listed.{heads, tails}
use Rattle.dbn_slow.specs.Clauses.{Clause, pattern_clause, arc_clauses, read_clause, clauses, atoms_from, shown_rows, candidates, passes, IsJoined}

some_same : {A : Type 0} (a b : A) → Some a ≡ Some b → a ≡ b
some_same a b e = cc

-- ---- the query is put together clause by clause

atoms_more : (n : ℕ) (cs : List Clause) (c : Clause) → atoms_from n (cs ++ c ∷ []) ≡ atoms_from n cs ++ Atom (n + length cs) c.terms ∷ []
atoms_more n [] c = let same : n ≡ n + 0 = omega arith in ap (λ k. Atom k c.terms ∷ []) same
atoms_more n (d ∷ cs) c =
    let same : n + 1 + length cs ≡ n + suc (length cs) = omega arith in
    ap (λ fs. Atom n d.terms ∷ fs) (atoms_more (n + 1) cs c ∙ ap (λ k. atoms_from (n + 1) cs ++ Atom k c.terms ∷ []) same)

pub joined_more : (cs : List Clause) (c : Clause) (atoms new : List Formula) (shown after : Instance) (rel : ℕ) → IsJoined cs atoms shown → rel ≡ length shown
    → new ≡ atoms ++ Atom rel c.terms ∷ [] → after ≡ shown ++ c.rows ∷ [] → IsJoined (cs ++ c ∷ []) new after
joined_more cs c atoms new shown after rel before number more filled =
    let same : rel ≡ 0 + length cs = let long : length shown ≡ length cs = ap length before.shown_are ∙ length-map cs (λ d. d.rows) in omega (arith, number, long) in
    record {
      atoms_are = more ∙ ap (λ k. atoms ++ Atom k c.terms ∷ []) same ∙ ap (λ fs. fs ++ Atom (0 + length cs) c.terms ∷ []) before.atoms_are ∙ sym (atoms_more 0 cs c);
      shown_are = filled ∙ ap (λ rows. rows ++ c.rows ∷ []) before.shown_are ∙ sym (map-append (λ d. d.rows) cs (c ∷ []));
    }

set_last : {A : Type 0} (front : List (List A)) (old new : List A) → slice_set (front ++ old ∷ []) (length front) new ≡ front ++ new ∷ []
set_last [] old new = refl
set_last (x ∷ front) old new = ap (λ l. x ∷ l) (set_last front old new)

index_last : {A : Type 0} (front : List (List A)) (old : List A) → slice_index_or (front ++ old ∷ []) (length front) [] ≡ old
index_last [] old = refl
index_last (x ∷ front) old = index_last front old

-- one more row of an ascending list stands behind those before it
pub filled_more : (front : Instance) (rows : List (List Value)) (i rel : ℕ) (row : List Value) (shown new : Instance) → IsStrictlySortedBy row_cmp rows → i < length rows → row ≡ get_or rows i row
    → rel ≡ length front → shown ≡ front ++ take i rows ∷ [] → new ≡ with_fact value_cmp shown (record { rel = rel; row = row }) → new ≡ front ++ take (i + 1) rows ∷ []
filled_more front rows i rel row shown new sorted within is number so_far made =
    let past = past_those_before rows_total (take i rows) row (drop (i + 1) rows) (subst (IsStrictlySortedBy row_cmp) (whole rows i row within is) sorted) in
    made
    ∙ ap (λ db. with_fact value_cmp db (record { rel = rel; row = row })) so_far
    ∙ ap (λ n. with_fact value_cmp (front ++ take i rows ∷ []) (record { rel = n; row = row })) number
    ∙ set_last front (take i rows) _
    ∙ ap (λ rs. front ++ rs ∷ []) (ap (λ rs. insert_key row_cmp rs row) (index_last front (take i rows)) ∙ append_key row_cmp row (take i rows) past ∙ sym (take_more rows i row within is))

-- ---- atoms and clauses

record IsAtomOf (n : ℕ) (cs : List Clause) (f : Formula) : Type 0 where
  at : ℕ
  clause : Clause
  there : slice_get cs at ≡ Some clause
  is : f ≡ Atom (n + at) clause.terms

atom_of : (n : ℕ) (cs : List Clause) (f : Formula) → In f (atoms_from n cs) → IsAtomOf n cs f
atom_of n [] f among = absurd among
atom_of n (c ∷ cs) f among =
    ⊎_elim
    (λ here. let same : n ≡ n + 0 = omega arith in record { at = 0; clause = c; there = refl; is = here ∙ ap (λ k. Atom k c.terms) same })
    (λ later.
    let found = atom_of (n + 1) cs f later in
    let same : n + 1 + found.at ≡ n + suc found.at = omega arith in
    record { at = suc found.at; clause = found.clause; there = found.there; is = found.is ∙ ap (λ k. Atom k found.clause.terms) same })
    among

of_clause : (n : ℕ) (cs : List Clause) (k : ℕ) (c : Clause) → slice_get cs k ≡ Some c → In (Atom (n + k) c.terms) (atoms_from n cs)
of_clause n [] k c is = absurd cc
of_clause n (d ∷ cs) zero c is = let same : n + 0 ≡ n = omega arith in inl (ap (λ j. Atom j c.terms) same ∙ ap (λ (e : Clause). Atom n e.terms) (sym (some_same d c is)))
of_clause n (d ∷ cs) (suc k) c is =
    let same : n + 1 + k ≡ n + suc k = omega arith in
    inr (subst (λ j. In (Atom j c.terms) (atoms_from (n + 1) cs)) same (of_clause (n + 1) cs k c is))

pub mapped_at : {A B : Type 0} (f : A → B) (d : B) (xs : List A) (n : ℕ) (x : A) → slice_get xs n ≡ Some x → slice_index_or (map f xs) n d ≡ f x
mapped_at f d [] n x is = absurd cc
mapped_at f d (y ∷ xs) zero x is = ap f (some_same y x is)
mapped_at f d (y ∷ xs) (suc n) x is = mapped_at f d xs n x is

-- the terms of a clause are typed, and its rows have the shape of its place
pub record ClauseFits (scope : TypedVars) (c : Clause) : Type 0 where
  pub terms : terms_in scope c.terms c.shape ≡ true
  pub rows : (row : List Value) → In row c.rows → HasShape row c.shape

record RowOf (cs : List Clause) (rel : ℕ) (row : List Value) : Type 0 where
  clause : Clause
  there : slice_get cs rel ≡ Some clause
  among : In row clause.rows

row_of : (cs : List Clause) (rel : ℕ) (row : List Value) → In row (slice_index_or (shown_rows cs) rel []) → RowOf cs rel row
row_of [] rel row at = absurd at
row_of (c ∷ cs) zero row at = record { clause = c; there = refl; among = at }
row_of (c ∷ cs) (suc rel) row at = let found = row_of cs rel row at in record { clause = found.clause; there = found.there; among = found.among }

same_rows : (a b : List Value) → row_eq a b ≡ true → a ≡ b
same_rows a b e = exact_rows a b ((Equal-is (row_cmp a b)).0 e)

row_itself : (a : List Value) → row_eq a a ≡ true
row_itself a = (Equal-is (row_cmp a a)).1 (tied_itself rows_total a)

var_value : (env : Env) (x : Var) (terms : List Term) → In x (flat_map variable_of terms) → In (lookup env x) (map (value_of env) terms)
var_value env x terms at = let found = in_flat variable_of x terms at in by found.0 found.1 found.2
  where
    by : (a : Term) → In a terms → In x (variable_of a) → In (lookup env x) (map (value_of env) terms)
    by (term.Var y) among (inl here) = subst (λ z. In (lookup env z) (map (value_of env) terms)) (sym here) (map_in (value_of env) (term.Var y) terms among)
    by (term.Var y) among (inr there) = absurd there
    by (term.Const v) among there = absurd there

module _ (scope : TypedVars) (cs : List Clause) (each : (c : Clause) → In c cs → ClauseFits scope c) where
  abbrev query : Formula
  query = And (atoms_from 0 cs)

  abbrev rels : Shapes
  rels = map (λ (c : Clause). c.shape) cs

  shape_there : (k : ℕ) (c : Clause) → slice_get cs k ≡ Some c → columns rels (0 + k) ≡ c.shape
  shape_there k c is = let same : 0 + k ≡ k = omega arith in ap (columns rels) same ∙ mapped_at (λ (d : Clause). d.shape) [] cs k c is

  rows_there : (k : ℕ) (c : Clause) → slice_get cs k ≡ Some c → slice_index_or (shown_rows cs) (0 + k) [] ≡ c.rows
  rows_there k c is = let same : 0 + k ≡ k = omega arith in ap (λ n. slice_index_or (shown_rows cs) n []) same ∙ mapped_at (λ (d : Clause). d.rows) [] cs k c is

  parts_of : (k : ℕ) (c : Clause) → slice_get cs k ≡ Some c → (as_many c.terms c.shape ≡ true) × (terms_fit scope c.terms c.shape ≡ true) × (terms_bound scope c.terms c.shape ≡ true)
  parts_of k c is =
      let all = and_parts (as_many c.terms c.shape && terms_fit scope c.terms c.shape) (terms_bound scope c.terms c.shape) (each c (in_at cs k c is)).terms in
      let two = and_parts (as_many c.terms c.shape) (terms_fit scope c.terms c.shape) all.0 in
      (two.0, two.1, all.1)

  pub query_typed : type_fault rels query scope ≡ None
  query_typed =
      fault_none rels query scope
      (arity_and rels (atoms_from 0 cs) ∙ all_from (arity_fits rels) (atoms_from 0 cs)
      (λ f at. let a = atom_of 0 cs f at in
      ap (arity_fits rels) a.is ∙ arity_atom rels (0 + a.at) a.clause.terms ∙ ap (λ shape. length a.clause.terms == length shape) (shape_there a.at a.clause a.there) ∙ (parts_of a.at a.clause a.there).0))
      (types_and rels (atoms_from 0 cs) scope ∙ all_from (λ f. types_fit rels f scope) (atoms_from 0 cs)
      (λ f at. let a = atom_of 0 cs f at in
      ap (λ g. types_fit rels g scope) a.is ∙ types_atom rels (0 + a.at) a.clause.terms scope ∙ ap (λ shape. terms_fit scope a.clause.terms shape) (shape_there a.at a.clause a.there)
      ∙ (parts_of a.at a.clause a.there).1))
      (all_from (binds scope) (occurrences query)
      (λ x at.
      let found = in_flat occurrences x (atoms_from 0 cs) (subst (λ xs. In x xs) (occurrences_and (atoms_from 0 cs)) at) in
      let a = atom_of 0 cs found.0 found.1 in
      all_at (binds scope) x (flat_map variable_of a.clause.terms) (parts_of a.at a.clause a.there).2
      (subst (λ xs. In x xs) (ap occurrences a.is ∙ occurrences_atom (0 + a.at) a.clause.terms) found.2)))

  pub query_shapes : HasShapes rels (shown_rows cs)
  query_shapes = record {
    each = λ rel row at.
        let found = row_of cs rel row at in
        subst (λ shape. HasShape row shape) (sym (mapped_at (λ (d : Clause). d.shape) [] cs rel found.clause found.there)) ((each found.clause (in_at cs rel found.clause found.there)).rows row found.among);
  }

  meets_out : (env : Env) → holds query (shown_rows cs) env ≡ true → (c : Clause) → In c cs → In (map (value_of env) c.terms) c.rows
  meets_out env on c at =
      let number = at_in cs c at in
      let dom = domain query (shown_rows cs) in
      let one = all_at (λ f. holds_over dom (shown_rows cs) f env) (Atom (0 + number.0) c.terms) (atoms_from 0 cs) (sym (holds_and dom (shown_rows cs) (atoms_from 0 cs) env) ∙ on) (of_clause 0 cs number.0 c number.1) in
      let some = any_in (λ row. row_eq row (map (value_of env) c.terms)) c.rows
      (ap (λ rows. list_any (λ row. row_eq row (map (value_of env) c.terms)) rows) (sym (rows_there number.0 c number.1)) ∙ sym (holds_atom dom (shown_rows cs) (0 + number.0) c.terms env) ∙ one) in
      subst (λ row. In row c.rows) (same_rows some.0 (map (value_of env) c.terms) some.2) some.1

  meets_in : (env : Env) → ((c : Clause) → In c cs → In (map (value_of env) c.terms) c.rows) → holds query (shown_rows cs) env ≡ true
  meets_in env all =
      let dom = domain query (shown_rows cs) in
      holds_and dom (shown_rows cs) (atoms_from 0 cs) env
      ∙ all_from (λ f. holds_over dom (shown_rows cs) f env) (atoms_from 0 cs)
      (λ f at. let a = atom_of 0 cs f at in
      ap (λ g. holds_over dom (shown_rows cs) g env) a.is
      ∙ holds_atom dom (shown_rows cs) (0 + a.at) a.clause.terms env
      ∙ ap (λ rows. list_any (λ row. row_eq row (map (value_of env) a.clause.terms)) rows) (rows_there a.at a.clause a.there)
      ∙ in_any (λ row. row_eq row (map (value_of env) a.clause.terms)) (map (value_of env) a.clause.terms) a.clause.rows (all a.clause (in_at cs a.at a.clause a.there)) (row_itself (map (value_of env) a.clause.terms)))

  -- a value of a clause's terms is one of the rows that are shown
  shown_value : (env : Env) (c : Clause) (x : Var) → In c cs → In x (flat_map variable_of c.terms) → In (map (value_of env) c.terms) c.rows → In (lookup env x) (values_in (shown_rows cs))
  shown_value env c x at among meets =
      flat_in (λ (rows : List (List Value)). flat_map (λ (r : List Value). r) rows) (lookup env x) c.rows (shown_rows cs) (map_in (λ (d : Clause). d.rows) c cs at)
      (flat_in (λ (r : List Value). r) (lookup env x) (map (value_of env) c.terms) c.rows meets (var_value env x c.terms among))

-- ---- rows over the values of a type

abbrev pub values_of : List Value → ColType → List Value
values_of pool type = ascending value_cmp (filter (λ v. type_eq (value_type v) type) pool)

in_values : (pool : List Value) (type : ColType) (v : Value) → In v pool → value_type v ≡ type → In v (values_of pool type)
in_values pool type v at typed =
    ascending_in value_total exact_values v (filter (λ w. type_eq (value_type w) type) pool)
    (filter_in (λ w. type_eq (value_type w) type) v pool at (ap (λ t. type_eq t type) typed ∙ type_itself type))

values_typed : (pool : List Value) (type : ColType) (v : Value) → In v (values_of pool type) → value_type v ≡ type
values_typed pool type v at =
    type_same (value_type v) type (in_filter (λ w. type_eq (value_type w) type) v pool (in_ascending value_cmp v (filter (λ w. type_eq (value_type w) type) pool) at)).1

pub shape_of_cells : (pool : List Value) (vars : TypedVars) (row : List Value) → CellsIn row (map (λ (x : Var × ColType). values_of pool x.1) vars) → HasShape row (types_of vars)
shape_of_cells pool [] [] cells = refl
shape_of_cells pool [] (v ∷ row) cells = absurd cells
shape_of_cells pool (x ∷ vars) [] cells = absurd cells
shape_of_cells pool (x ∷ vars) (v ∷ row) cells =
    ap (λ t. t ∷ map value_type row) (values_typed pool x.1 v cells.0) ∙ ap (λ types. x.1 ∷ types) (shape_of_cells pool vars row cells.1)

cells_of_shape : (pool : List Value) (vars : TypedVars) (row : List Value) (env : Env) → distinct_vars vars ≡ true → HasShape row (types_of vars)
    → ((x : Var × ColType) → In x vars → In (lookup (bind vars row env) x.0) pool) → CellsIn row (map (λ (x : Var × ColType). values_of pool x.1) vars)
cells_of_shape pool [] [] env once fits each = tt
cells_of_shape pool [] (v ∷ row) env once fits each = absurd cc
cells_of_shape pool (x ∷ vars) [] env once fits each = absurd cc
cells_of_shape pool (x ∷ vars) (v ∷ row) env once fits each = (
  in_values pool x.1 v (subst (λ w. In w pool) (bind_first x v vars row env once) (each x (inl refl))) (heads (value_type v) x.1 (map value_type row) (types_of vars) fits),
  cells_of_shape pool vars row ((x.0, v) ∷ env) (and_parts _ (distinct_vars vars) once).1 (tails (value_type v) x.1 (map value_type row) (types_of vars) fits) (λ y at. each y (inr at)),
)

-- the columns by types, and by variables
columns_same : (pool : List Value) (vars : TypedVars) → map (values_of pool) (types_of vars) ≡ map (λ (x : Var × ColType). values_of pool x.1) vars
columns_same pool [] = refl
columns_same pool (x ∷ vars) = ap (λ cs. values_of pool x.1 ∷ cs) (columns_same pool vars)

columns_sorted : (pool : List Value) (types : List ColType) → AllByRecursion (IsStrictlySortedBy value_cmp) (map (values_of pool) types)
columns_sorted pool [] = tt
columns_sorted pool (type ∷ types) = (sorted_ascending value_total (filter (λ v. type_eq (value_type v) type) pool), columns_sorted pool types)

-- ---- a row of the bound variables, and one with values for the asked ones

abbrev any_value : ColType → Value
any_value col.Int = Int (pos 0)
any_value col.Text = Text []
any_value col.Id = Id 0

any_typed : (type : ColType) → value_type (any_value type) ≡ type
any_typed col.Int = refl
any_typed col.Text = refl
any_typed col.Id = refl

abbrev any_values : TypedVars → List Value
any_values vars = map (λ x. any_value x.1) vars

any_shape : (vars : TypedVars) → map value_type (any_values vars) ≡ types_of vars
any_shape [] = refl
any_shape (x ∷ vars) = ap (λ t. t ∷ map value_type (any_values vars)) (any_typed x.1) ∙ ap (λ types. x.1 ∷ types) (any_shape vars)

abbrev padded : Transition → List Value → List Value
padded t row = row ++ any_values t.asked

padded_shape : (t : Transition) (row : List Value) → HasShape row (types_of t.bound) → HasShape (padded t row) (shape_of t)
padded_shape t row fits =
    map-append value_type row (any_values t.asked) ∙ ap (λ types. types ++ map value_type (any_values t.asked)) fits ∙ ap (λ types. types_of t.bound ++ types) (any_shape t.asked)
    ∙ sym (map-append (λ (x : Var × ColType). x.1) t.bound t.asked)

take_front : {A : Type 0} (xs ys : List A) (n : ℕ) → n ≡ length xs → take n (xs ++ ys) ≡ xs
take_front [] ys n same = let none : n ≡ 0 = omega (arith, same) in ap (λ k. take k ys) none
take_front (x ∷ xs) ys zero same = absurd (omega (arith, same))
take_front (x ∷ xs) ys (suc n) same = ap (λ l. x ∷ l) (take_front xs ys n (omega (arith, same)))

as_long : (vars : TypedVars) (row : List Value) → HasShape row (types_of vars) → length vars ≡ length row
as_long vars row fits = sym (length-map vars (λ (x : Var × ColType). x.1)) ∙ sym (ap length fits) ∙ length-map row value_type

bound_padded : (t : Transition) (row : List Value) → HasShape row (types_of t.bound) → bound_part t (padded t row) ≡ row
bound_padded t row fits = take_front row (any_values t.asked) (length t.bound) (as_long t.bound row fits)

bound_alone : (t : Transition) (row : List Value) → HasShape row (types_of t.bound) → bound_part t row ≡ row
bound_alone t row fits = subst (λ r. take (length t.bound) r ≡ row) (append-nil row) (take_front row [] (length t.bound) (as_long t.bound row fits))

-- ---- tokens stand among the rows of their places

key_there : (row : List Value) (es : List (List Value × ℕ)) → 0 < unwrap_or (entry_at (is_at (row_cmp row)) es) 0 → In row (keys_of es)
key_there row [] some = absurd (omega (arith, some))
key_there row (e ∷ es) some = by (is_at (row_cmp row) e.0) refl some (λ rest. key_there row es rest)
  where
    by : (b : Bool) → is_at (row_cmp row) e.0 ≡ b → 0 < unwrap_or (cond b (Some e.1) (entry_at (is_at (row_cmp row)) es)) 0
        → (0 < unwrap_or (entry_at (is_at (row_cmp row)) es) 0 → In row (keys_of es)) → In row (e.0 ∷ keys_of es)
    by true same more rest = inl (is_one rows_total exact_rows row e.0 same)
    by false other more rest = inr (rest more)

-- ---- the listing

module _ (net : List Decl) (t : Transition) (db : Instance) (marking : Marking) (fits : Fits net t) (each : (c : Clause) → In c (clauses net t db marking) → ClauseFits t.bound c) where
  abbrev cs : List Clause
  cs = clauses net t db marking

  abbrev pool : List Value
  pool = values_in (shown_rows cs) ++ constants (query t.bound cs each)

  of_pattern : (arc : Arc) (p : Pattern) → In arc t.ins → In p arc.patterns → In (pattern_clause net marking arc.place p) cs
  of_pattern arc p at among =
      append_left (pattern_clause net marking arc.place p) (flat_map (arc_clauses net marking) t.ins) (map (read_clause net db) t.reads)
      (flat_in (arc_clauses net marking) (pattern_clause net marking arc.place p) arc t.ins at (map_in (pattern_clause net marking arc.place) p arc.patterns among))

  of_read : (r : Read) → In r t.reads → In (read_clause net db r) cs
  of_read r at = append_right (read_clause net db r) (flat_map (arc_clauses net marking) t.ins) (map (read_clause net db) t.reads) (map_in (read_clause net db) r t.reads at)

  -- what enables the transition
  record IsOn (row : List Value) : Type 0 where
    tokens : contained value_cmp (wants (bind t.bound row []) t.ins) marking ≡ true
    reads : list_all (is_read net db (bind t.bound row [])) t.reads ≡ true
    guard : option_map_or (λ g. guard_holds g (bind t.bound row [])) t.guard true ≡ true

  on_parts : (row : List Value) → HasShape row (types_of t.bound) → enabled net t db marking row ≡ true → IsOn row
  on_parts row shape on =
      let plain = subst (λ r. enabled_in net t db marking (bind t.bound r []) ≡ true) (bound_alone t row shape) on in
      let two = and_parts _ _ plain in
      let one = and_parts _ _ two.0 in
      record { tokens = one.0; reads = one.1; guard = two.1 }

  on_from : (row whole : List Value) → bound_part t whole ≡ row → IsOn row → enabled net t db marking whole ≡ true
  on_from row whole same on =
      subst (λ r. enabled_in net t db marking (bind t.bound r []) ≡ true) (sym same) (and_from _ _ (and_from _ _ on.tokens on.reads) on.guard)

  -- an enabled row meets each clause
  meets_each : (row : List Value) → IsOn row → (c : Clause) → In c cs → In (map (value_of (bind t.bound row [])) c.terms) c.rows
  meets_each row on c at =
      ⊎_elim
      (λ token.
      let arc = in_flat (arc_clauses net marking) c t.ins token in
      let p = in_map (pattern_clause net marking arc.0.place) c arc.0.patterns arc.2 in
      let env : Env = bind t.bound row [] in
      let there = token_there env t.ins marking fits.ins on.tokens (bound_token env arc.0.place p.0)
      (flat_in (λ (a : Arc). map (bound_token env a.place) a.patterns) (bound_token env arc.0.place p.0) arc.0 t.ins arc.1 (map_in (bound_token env arc.0.place) p.0 arc.0.patterns p.1)) in
      subst (λ (d : Clause). In (map (value_of env) d.terms) d.rows) (sym p.2) (key_there (map (value_of env) p.0.terms) (place_of marking arc.0.place) there))
      (λ answer.
      let r = in_map (read_clause net db) c t.reads answer in
      let env : Env = bind t.bound row [] in
      let some = any_in (λ q. row_eq q (map (value_of env) r.0.terms)) (view_rows net db r.0.view) (all_at (is_read net db env) r.0 t.reads on.reads r.1) in
      subst (λ (d : Clause). In (map (value_of env) d.terms) d.rows) (sym r.2) (subst (λ q. In q (view_rows net db r.0.view)) (same_rows some.0 (map (value_of env) r.0.terms) some.2) some.1))
      (in_append c (flat_map (arc_clauses net marking) t.ins) (map (read_clause net db) t.reads) at)

  -- each bound variable stands in a clause
  value_shown : (row : List Value) → IsOn row → (x : Var × ColType) → In x t.bound → In (lookup (bind t.bound row []) x.0) pool
  value_shown row on x at =
      append_left (lookup (bind t.bound row []) x.0) (values_in (shown_rows cs)) (constants (query t.bound cs each))
      (⊎_elim
      (λ token.
      let arc = in_flat (λ (a : Arc). flat_map (λ (p : Pattern). flat_map variable_of p.terms) a.patterns) x.0 t.ins token in
      let p = in_flat (λ (p : Pattern). flat_map variable_of p.terms) x.0 arc.0.patterns arc.2 in
      let c : Clause = pattern_clause net marking arc.0.place p.0 in
      shown_value t.bound cs each (bind t.bound row []) c x.0 (of_pattern arc.0 p.0 arc.1 p.1) p.2 (meets_each row on c (of_pattern arc.0 p.0 arc.1 p.1)))
      (λ answer.
      let r = in_flat (λ (r : Read). flat_map variable_of r.terms) x.0 t.reads answer in
      let c : Clause = read_clause net db r.0 in
      shown_value t.bound cs each (bind t.bound row []) c x.0 (of_read r.0 r.1) r.2 (meets_each row on c (of_read r.0 r.1)))
      (in_append x.0 (arc_vars t.ins) (read_vars t.reads)
      (in_of_is x.0 (clause_vars t) (all_at (λ (y : Var × ColType). is_in y.0 (clause_vars t)) x t.bound (and_parts _ (list_all (λ (y : Var × ColType). is_in y.0 (clause_vars t)) t.bound) fits.scoped).1 at))))

  once : distinct_vars t.bound ≡ true
  once = distinct_left t.bound t.asked (distinct_left (given t) _ (and_parts _ (list_all (λ (y : Var × ColType). is_in y.0 (clause_vars t)) t.bound) fits.scoped).0)

  listed_in : (row : List Value) → In row (filter (passes t marking) (candidates net t db marking)) → In row (bindings net t db marking)
  listed_in row at =
      let found = in_filter (passes t marking) row (candidates net t db marking) at in
      let answer = in_answers (query t.bound cs each) t.bound (shown_rows cs) row found.0 in
      let shape : HasShape row (types_of t.bound) = shape_of_cells pool t.bound row answer.0 in
      let pass = and_parts _ _ found.1 in
      let on : IsOn row = record {
        tokens = pass.0;
        reads = all_from (is_read net db (bind t.bound row [])) t.reads
            (λ r among. in_any (λ q. row_eq q (map (value_of (bind t.bound row [])) r.terms)) (map (value_of (bind t.bound row [])) r.terms) (view_rows net db r.view)
            (meets_out t.bound cs each (bind t.bound row []) answer.1 (read_clause net db r) (of_read r among)) (row_itself (map (value_of (bind t.bound row [])) r.terms)));
        guard = pass.1;
      } in
      let cells = inside net t db marking (padded t row) fits (padded_shape t row shape) (on_from row (padded t row) (bound_padded t row shape) on) in
      filter_in (enabled net t db marking) row (rows_over (map (values_for net db marking) (types_of t.bound)))
      (rows_over_in row (map (values_for net db marking) (types_of t.bound)) (subst (λ r. CellsIn r (map (values_for net db marking) (types_of t.bound))) (bound_padded t row shape) cells))
      (on_from row row (bound_alone t row shape) on)

  in_listed : (row : List Value) → In row (bindings net t db marking) → In row (filter (passes t marking) (candidates net t db marking))
  in_listed row at =
      let found = in_filter (enabled net t db marking) row (rows_over (map (values_for net db marking) (types_of t.bound))) at in
      let cells = subst (CellsIn row) (columns_same (all_values net db marking) t.bound) (in_rows_over row (map (values_for net db marking) (types_of t.bound)) found.0) in
      let shape : HasShape row (types_of t.bound) = shape_of_cells (all_values net db marking) t.bound row cells in
      let on : IsOn row = on_parts row shape found.1 in
      filter_in (passes t marking) row (candidates net t db marking)
      (answers_in (query t.bound cs each) t.bound (shown_rows cs) row (cells_of_shape pool t.bound row [] once shape (value_shown row on)) (meets_in t.bound cs each (bind t.bound row []) (meets_each row on)))
      (and_from _ _ on.tokens on.guard)

  pub listed_are : filter (passes t marking) (candidates net t db marking) ≡ bindings net t db marking
  listed_are =
      same_members rows_total (filter (passes t marking) (candidates net t db marking)) (bindings net t db marking)
      (IsStrictlySortedBy-filter row_cmp (passes t marking) (candidates net t db marking) (sorted_answers (query t.bound cs each) t.bound (shown_rows cs)))
      (IsStrictlySortedBy-filter row_cmp (enabled net t db marking) (rows_over (map (values_for net db marking) (types_of t.bound)))
      (sorted_rows_over value_total (map (values_for net db marking) (types_of t.bound)) (columns_sorted (all_values net db marking) (types_of t.bound))))
      listed_in in_listed
