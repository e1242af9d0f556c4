-- The values of a row that enables a transition are values of the state and of the declarations, of the types of its variables.
use Rattle.std.proofs.Common.{◌≡◌, ℕ, ◌<◌, ◌≤◌, zero, suc, Bool, true, false, cond, not, ◌&&◌, ◌||◌, if◌then◌else◌, List, [], ◌∷◌, ◌++◌, map, refl, sym, ap, ◌∙◌, subst, inl, inr, ⊎_elim, Option, Some, None, arith, leb, take, length}
use Rattle.std.specs.Prelude.{slice_get, slice_index_or, nat_le}
use Rattle.std.specs.List.{list_all, flat_map, filter}
use Rattle.std.specs.Option.{unwrap_or, option_map_or}
use Rattle.std.specs.Map.{lookup}
use Rattle.std.specs.Ordering.{is_eq, nat_cmp, ordering_then}
use Rattle.std.specs.declared.cmp.Ordering.{Ordering}
use Rattle.std.specs.declared.cmp.Ordering.TheVariants.{Less, Equal, Greater}
use Rattle.std.specs.FinMap.{IsAntisymmetric, nat_cmp-IsAntisymmetric}
use Rattle.std.specs.Cmp.{IsTotalOrder, nat_cmp_total, on_total, then_total, Equal-is}
use Rattle.std.specs.BTreeMap.{is_at}
use Rattle.std.proofs.lemmas.Bool.{and_parts, leb-true, not-true, or_parts}
use Rattle.std.proofs.lemmas.List.Sums.{sum_by-cons}
use Rattle.dbn_value.specs.Members.{In}
use Rattle.dbn_value.specs.Ascending.{ascending, CellsIn}
use Rattle.dbn_value.specs.Order.{value_cmp, value_total, value_type, row_cmp, rows_total, exact_rows, exact_values}
use Rattle.dbn_value.specs.declared.value.Value.{Value}
use Rattle.dbn_value.specs.declared.value.ColType.{ColType}
use Rattle.dbn_value.specs.declared.value.ColType.TheVariants as col
use Rattle.dbn_value.specs.declared.term.Var.{Var}
use Rattle.dbn_value.specs.declared.term.Term.{Term}
use Rattle.dbn_value.specs.declared.term.Term.TheVariants as term
use Rattle.dbn_value.proofs.AscendingLaws.{ascending_in, in_ascending, is_one}
use Rattle.dbn_value.proofs.EntryLaws.{is_at_itself}
use Rattle.dbn_value.proofs.MemberLaws.{in_map, map_in, in_flat, flat_in, all_at, any_in, in_append, append_left, append_right, in_filter, filter_in, in_at}
use Rattle.dbn_formula.specs.Variables.{TypedVars, type_eq, is_in, binds, var_eq}
use Rattle.dbn_formula.specs.Holds as formula
use Rattle.dbn_formula.specs.Holds.{Env, Instance, value_of, row_eq}
use Rattle.dbn_formula.specs.Answers.{bind, answers, domain, constants, values_in}
use Rattle.dbn_formula.specs.Free.{variable_of}
use Rattle.dbn_formula.specs.Distinct.{distinct_vars}
use Rattle.dbn_formula.specs.Solutions.{HasShape}
use Rattle.dbn_formula.proofs.VariableLaws.{in_of_is, type_itself, var_itself}
use Rattle.dbn_formula.proofs.AnswersLaws.{in_answers}
use Rattle.dbn_formula.proofs.SolutionLaws.{bind_other}
use Rattle.dbn_instance.specs.declared.fact.Action.{Action}
use Rattle.dbn_marking.specs.Counts.{place_of, count_at}
use Rattle.dbn_net.specs.declared.decl.Decl.{Decl}
use Rattle.dbn_net.specs.declared.decl.Decl.TheVariants.{Relation, Key, Foreign, Always, Query, Act, Site, Trans}
use Rattle.dbn_net.specs.declared.decl.Place.{Place}
use Rattle.dbn_net.specs.declared.decl.Place.TheVariants.{Control, View}
use Rattle.dbn_net.specs.declared.rules.Arc.{Arc}
use Rattle.dbn_net.specs.declared.rules.Pattern.{Pattern}
use Rattle.dbn_net.specs.declared.rules.Read.{Read}
use Rattle.dbn_net.specs.declared.rules.Transition.{Transition}
use Rattle.dbn_net.specs.declared.want.Want.{Want}
use Rattle.dbn_net.specs.Tables.{Question, queries, query_in, actions, action_in, places, types_of, given, shape_of, with_type, scope_of}
use Rattle.dbn_net.specs.Judging.{is_count, arcs_counted}
use Rattle.dbn_net.specs.Values.{Marking, decl_constants, fact_constants, token_values, rule_values, all_values}
use Rattle.dbn_net.specs.Wants.{Spot, spot_cmp, spot_of, bound_token, bound_tokens, total_of, want_at, wants, contained}
use Rattle.dbn_net.specs.Enabled.{view_rows, viewed, is_read, guard_holds, bound_part, bound_env, enabled, values_for}
use Rattle.dbn_net.specs.WellFormed.{Fits, arc_vars, read_vars, clause_vars}
use Rattle.dbn_net.proofs.Maybes.{some_is}
use Rattle.dbn_net.proofs.Listed.{in_filter_map, heads, tails}

-- ---- what is declared stands in the net

query_in_is : (d : Decl) (q : Question) (v : Value) → query_in d ≡ Some q → In v (constants q.body) → In v (decl_constants d)
query_in_is (Query name vars body) q v e at = let same : body ≡ q.body = ap (λ (r : Question). r.body) (some_is (record { name = name; vars = vars; body = body }) q e) in subst (λ f. In v (constants f)) (sym same) at
query_in_is (Relation name fields) q v e at = absurd cc
query_in_is (Key rel fields) q v e at = absurd cc
query_in_is (Foreign rel fields to to_fields) q v e at = absurd cc
query_in_is (Always name body) q v e at = absurd cc
query_in_is (Act a) q v e at = absurd cc
query_in_is (Site p) q v e at = absurd cc
query_in_is (Trans t) q v e at = absurd cc

action_in_is : (d : Decl) (a : Action) (v : Value) → action_in d ≡ Some a → In v (fact_constants a.deletes ++ fact_constants a.adds) → In v (decl_constants d)
action_in_is (Act b) a v e at = subst (λ (c : Action). In v (fact_constants c.deletes ++ fact_constants c.adds)) (sym (some_is b a e)) at
action_in_is (Relation name fields) a v e at = absurd cc
action_in_is (Key rel fields) a v e at = absurd cc
action_in_is (Foreign rel fields to to_fields) a v e at = absurd cc
action_in_is (Always name body) a v e at = absurd cc
action_in_is (Query name vars body) a v e at = absurd cc
action_in_is (Site p) a v e at = absurd cc
action_in_is (Trans t) a v e at = absurd cc

-- the constants of a declared query, of a declared action and of a declared transition are values of the net
pub query_values : (net : List Decl) (n : ℕ) (q : Question) (v : Value) → slice_get (queries net) n ≡ Some q → In v (constants q.body) → In v (rule_values net)
query_values net n q v is at =
    let found = in_filter_map query_in q net (in_at (queries net) n q is) in
    flat_in decl_constants v found.0 net found.1 (query_in_is found.0 q v found.2 at)

pub action_values : (net : List Decl) (n : ℕ) (a : Action) (v : Value) → slice_get (actions net) n ≡ Some a → In v (fact_constants a.deletes ++ fact_constants a.adds) → In v (rule_values net)
action_values net n a v is at =
    let found = in_filter_map action_in a net (in_at (actions net) n a is) in
    flat_in decl_constants v found.0 net found.1 (action_in_is found.0 a v found.2 at)

pub transition_values : (net : List Decl) (t : Transition) (v : Value) → In (Trans t) net → In v (decl_constants (Trans t)) → In v (rule_values net)
transition_values net t v declared at = flat_in decl_constants v (Trans t) net declared at

-- ---- a row bound to variables

-- the first of the variables keeps its value
pub bind_first : (x : Var × ColType) (v : Value) (vars : TypedVars) (row : List Value) (env : Env) → distinct_vars (x ∷ vars) ≡ true → formula.lookup (bind vars row ((x.0, v) ∷ env)) x.0 ≡ v
bind_first x v vars row env once =
    let parts = and_parts (not (binds vars x.0)) (distinct_vars vars) once in
    bind_other vars row ((x.0, v) ∷ env) x.0 (not-true (binds vars x.0) parts.0) ∙ ap (λ b. cond b v (formula.lookup env x.0)) (var_itself x.0)

binds_more : (vars more : TypedVars) (x : Var) → binds (vars ++ more) x ≡ false → binds vars x ≡ false
binds_more [] more x e = refl
binds_more (y ∷ vars) more x e =
    let parts = or_parts (var_eq x y.0) (binds (vars ++ more) x) e in
    ap (λ b. b || binds vars x) parts.0 ∙ binds_more vars more x parts.1

pub distinct_left : (vars more : TypedVars) → distinct_vars (vars ++ more) ≡ true → distinct_vars vars ≡ true
distinct_left [] more once = refl
distinct_left (x ∷ vars) more once =
    let parts = and_parts (not (binds (vars ++ more) x.0)) (distinct_vars (vars ++ more)) once in
    ap (λ b. not b && distinct_vars vars) (binds_more vars more x.0 (not-true (binds (vars ++ more) x.0) parts.0)) ∙ distinct_left vars more parts.1

-- the bound part of a row of the transition's shape has the types of the bound variables
pub part_shape : (vars more : TypedVars) (row : List Value) → HasShape row (types_of (vars ++ more)) → HasShape (take (length vars) row) (types_of vars)
part_shape [] more row fits = refl
part_shape (x ∷ vars) more [] fits = absurd cc
part_shape (x ∷ vars) more (v ∷ row) fits =
    ap (λ type. type ∷ map value_type (take (length vars) row)) (heads (value_type v) x.1 (map value_type row) (types_of (vars ++ more)) fits)
    ∙ ap (λ types. x.1 ∷ types) (part_shape vars more row (tails (value_type v) x.1 (map value_type row) (types_of (vars ++ more)) fits))

pub bound_shape : (t : Transition) (row : List Value) → HasShape row (shape_of t) → HasShape (bound_part t row) (types_of t.bound)
bound_shape t row fits = part_shape t.bound t.asked row fits

-- ---- lists by number

pub in_index : {E : Type 0} (lists : List (List E)) (n : ℕ) (e : E) → In e (slice_index_or lists n []) → (xs : List E) × In xs lists × In e xs
in_index [] n e at = absurd at
in_index (xs ∷ lists) zero e at = (xs, inl refl, at)
in_index (xs ∷ lists) (suc n) e at = let found = in_index lists n e at in (found.0, inr found.1, found.2)

-- ---- tokens that are wanted are there

spot_total : IsTotalOrder spot_cmp
spot_total = then_total (on_total (λ (s : Spot Value). s.0) nat_cmp_total) (on_total (λ (s : Spot Value). s.1) rows_total)

then_equal : (a b : Ordering) → ordering_then a b ≡ Equal → (a ≡ Equal) × (b ≡ Equal)
then_equal Less b e = cc
then_equal Equal b e = (refl, e)
then_equal Greater b e = cc

spot_exact : IsAntisymmetric spot_cmp
spot_exact a b e =
    let parts = then_equal (nat_cmp a.0 b.0) (row_cmp a.1 b.1) e in
    ap (λ (n : ℕ). (n, a.1)) (nat_cmp-IsAntisymmetric a.0 b.0 parts.0) ∙ ap (λ (r : List Value). (b.0, r)) (exact_rows a.1 b.1 parts.1)

-- a token counts in the total of its spot
total_some : (tokens : List (Want Value)) (spot : Spot Value) (w : Want Value) → In w tokens → 0 < w.many → spot ≡ spot_of w → 0 < total_of tokens spot
total_some [] spot w at some here = absurd at
total_some (v ∷ tokens) spot w at some here = ⊎_elim (λ same. first same) (λ later. more (total_some tokens spot w later some here)) at
  where
    part : Want Value → ℕ
    part u = if is_eq (spot_cmp spot (spot_of u)) then u.many else 0

    first : w ≡ v → 0 < total_of (v ∷ tokens) spot
    first same =
        let one : part w ≡ w.many = ap (λ b. cond b w.many 0) (subst (λ (s : Spot Value). is_eq (spot_cmp spot s) ≡ true) here (is_at_itself spot_total spot)) in
        let moved : part v ≡ part w = ap part (sym same) in
        let all = sum_by-cons part v tokens in
        omega arith

    more : 0 < total_of tokens spot → 0 < total_of (v ∷ tokens) spot
    more rest = let all = sum_by-cons part v tokens in omega arith

token_counts : (env : Env) (arcs : List Arc) → arcs_counted arcs ≡ true → (w : Want Value) → In w (bound_tokens env arcs) → 0 < w.many
token_counts env arcs counts w at =
    let in_arc = in_flat (λ (arc : Arc). map (bound_token env arc.place) arc.patterns) w arcs at in
    let found = in_map (bound_token env in_arc.0.place) w in_arc.0.patterns in_arc.2 in
    let all = all_at (λ (arc : Arc). list_all (λ (p : Pattern). is_count p.many) arc.patterns) in_arc.0 arcs counts in_arc.1 in
    let one = all_at (λ (p : Pattern). is_count p.many) found.0 in_arc.0.patterns all found.1 in
    subst (λ (v : Want Value). 0 < v.many) (sym found.2) (let some : 1 ≤ found.0.many = leb-true 1 found.0.many (and_parts (nat_le 1 found.0.many) (nat_le found.0.many 4294967295) one).0 in omega (arith, some))

-- where the marking has what is wanted, each pattern's row has a token
pub token_there : (env : Env) (arcs : List Arc) (marking : Marking) → arcs_counted arcs ≡ true → contained value_cmp (wants env arcs) marking ≡ true
    → (w : Want Value) → In w (bound_tokens env arcs) → 0 < count_at row_cmp marking w.place w.row
token_there env arcs marking counts there w at =
    let tokens : List (Want Value) = bound_tokens env arcs in
    let spot : In (spot_of w) (ascending spot_cmp (map spot_of tokens)) = ascending_in spot_total spot_exact (spot_of w) (map spot_of tokens) (map_in spot_of w tokens at) in
    let wanted : In (want_at tokens (spot_of w)) (wants env arcs) = map_in (want_at tokens) (spot_of w) (ascending spot_cmp (map spot_of tokens)) spot in
    let some : 0 < total_of tokens (spot_of w) = total_some tokens (spot_of w) w at (token_counts env arcs counts w at) refl in
    let enough : total_of tokens (spot_of w) ≤ count_at row_cmp marking w.place w.row =
    leb-true _ _ (all_at (λ (v : Want Value). leb v.many (count_at row_cmp marking v.place v.row)) (want_at tokens (spot_of w)) (wants env arcs) there wanted) in
    omega arith

entry_there : (row : List Value) (es : List (List Value × ℕ)) → 0 < unwrap_or (lookup (is_at (row_cmp row)) es) 0 → (c : List Value × ℕ) × In c es × (row ≡ c.0)
entry_there row [] some = absurd (omega arith)
entry_there row (e ∷ es) some = by (is_at (row_cmp row) e.0) refl some (λ rest. entry_there row es rest)
  where
    by : (b : Bool) → is_at (row_cmp row) e.0 ≡ b → 0 < unwrap_or (cond b (Some e.1) (lookup (is_at (row_cmp row)) es)) 0
        → (0 < unwrap_or (lookup (is_at (row_cmp row)) es) 0 → (c : List Value × ℕ) × In c es × (row ≡ c.0)) → (c : List Value × ℕ) × In c (e ∷ es) × (row ≡ c.0)
    by true same more rest = (e, inl refl, is_one rows_total exact_rows row e.0 same)
    by false other more rest = let found = rest more in (found.0, inr found.1, found.2)

-- values of a row that has tokens are values of the marking
pub token_row_values : (marking : Marking) (place : ℕ) (row : List Value) → 0 < count_at row_cmp marking place row → (v : Value) → In v row → In v (token_values marking)
token_row_values marking place row some v at =
    let entry = entry_there row (place_of marking place) some in
    let held = in_index marking place entry.0 entry.1 in
    flat_in (λ (h : List (List Value × ℕ)). flat_map (λ (c : List Value × ℕ). c.0) h) v held.0 marking held.1
    (flat_in (λ (c : List Value × ℕ). c.0) v entry.0 held.0 held.2 (subst (λ r. In v r) entry.2 at))

-- ---- answers have values of the instance and of the query

pub in_cells : {A : Type 0} (cells : List A) (columns : List (List A)) (v : A) → CellsIn cells columns → In v cells → (column : List A) × In column columns × In v column
in_cells [] columns v all at = absurd at
in_cells (c ∷ cells) [] v all at = absurd all
in_cells (c ∷ cells) (column ∷ columns) v all at =
    ⊎_elim (λ here. (column, inl refl, subst (λ z. In z column) (sym here) all.0)) (λ there. let found = in_cells cells columns v all.1 there in (found.0, inr found.1, found.2)) at

answer_values : (net : List Decl) (db : Instance) (n : ℕ) (q : Question) → slice_get (queries net) n ≡ Some q
    → (row : List Value) → In row (answers q.body q.vars db) → (v : Value) → In v row → In v (values_in db ++ rule_values net)
answer_values net db n q is row answer v at =
    let cells = (in_answers q.body q.vars db row answer).0 in
    let column = in_cells row (map (λ (x : Var × ColType). domain q.body db x.1) q.vars) v cells at in
    let typed = in_map (λ (x : Var × ColType). domain q.body db x.1) column.0 q.vars column.1 in
    let within : In v (domain q.body db typed.0.1) = subst (λ c. In v c) typed.2 column.2 in
    let known = (in_filter (λ w. type_eq (value_type w) typed.0.1) v (values_in db ++ constants q.body)
    (in_ascending value_cmp v (filter (λ w. type_eq (value_type w) typed.0.1) (values_in db ++ constants q.body)) within)).0 in
    ⊎_elim (λ fact. append_left v (values_in db) (rule_values net) fact)
    (λ constant. append_right v (values_in db) (rule_values net) (query_values net n q v is constant))
    (in_append v (values_in db) (constants q.body) known)

query_row_values : (net : List Decl) (db : Instance) (n : ℕ) (found : Option Question) → slice_get (queries net) n ≡ found
    → (row : List Value) → In row (option_map_or (λ q. answers q.body q.vars db) found []) → (v : Value) → In v row → In v (values_in db ++ rule_values net)
query_row_values net db n None is row answer v at = absurd answer
query_row_values net db n (Some q) is row answer v at = answer_values net db n q is row answer v at

site_row_values : (net : List Decl) (db : Instance) (site : Place) (row : List Value) → In row (viewed net db site) → (v : Value) → In v row → In v (values_in db ++ rule_values net)
site_row_values net db (Control name shape) row shown v at = absurd shown
site_row_values net db (View name query) row shown v at = query_row_values net db query (slice_get (queries net) query) refl row shown v at

view_row_values : (net : List Decl) (db : Instance) (found : Option Place) (row : List Value) → In row (option_map_or (viewed net db) found []) → (v : Value) → In v row → In v (values_in db ++ rule_values net)
view_row_values net db None row shown v at = absurd shown
view_row_values net db (Some site) row shown v at = site_row_values net db site row shown v at

-- ---- bound variables

var_value : (x : Var) (terms : List Term) (env : Env) → In x (flat_map variable_of terms) → In (formula.lookup env x) (map (value_of env) terms)
var_value x terms env at = let found = in_flat variable_of x terms at in by found.0 found.1 found.2
  where
    by : (a : Term) → In a terms → In x (variable_of a) → In (formula.lookup env x) (map (value_of env) terms)
    by (term.Var y) among (inl here) = subst (λ z. In (formula.lookup env z) (map (value_of env) terms)) (sym here) (map_in (value_of env) (term.Var y) terms among)
    by (term.Var y) among (inr there) = absurd there
    by (term.Const v) among there = absurd there

in_tokens : (net : List Decl) (db : Instance) (marking : Marking) (v : Value) → In v (token_values marking) → In v (all_values net db marking)
in_tokens net db marking v at = append_left v (values_in db ++ token_values marking) (rule_values net) (append_right v (values_in db) (token_values marking) at)

not_tokens : (net : List Decl) (db : Instance) (marking : Marking) (v : Value) → In v (values_in db ++ rule_values net) → In v (all_values net db marking)
not_tokens net db marking v at =
    ⊎_elim (λ fact. append_left v (values_in db ++ token_values marking) (rule_values net) (append_left v (values_in db) (token_values marking) fact))
    (λ rule. append_right v (values_in db ++ token_values marking) (rule_values net) rule)
    (in_append v (values_in db) (rule_values net) at)

from_arcs : (net : List Decl) (db : Instance) (marking : Marking) (env : Env) (arcs : List Arc) → arcs_counted arcs ≡ true → contained value_cmp (wants env arcs) marking ≡ true
    → (x : Var) → In x (arc_vars arcs) → In (formula.lookup env x) (all_values net db marking)
from_arcs net db marking env arcs counts there x at =
    let arc = in_flat (λ (arc : Arc). flat_map (λ (p : Pattern). flat_map variable_of p.terms) arc.patterns) x arcs at in
    let p = in_flat (λ (p : Pattern). flat_map variable_of p.terms) x arc.0.patterns arc.2 in
    let token : In (bound_token env arc.0.place p.0) (bound_tokens env arcs) =
    flat_in (λ (a : Arc). map (bound_token env a.place) a.patterns) (bound_token env arc.0.place p.0) arc.0 arcs arc.1 (map_in (bound_token env arc.0.place) p.0 arc.0.patterns p.1) in
    in_tokens net db marking (formula.lookup env x)
    (token_row_values marking arc.0.place (map (value_of env) p.0.terms) (token_there env arcs marking counts there (bound_token env arc.0.place p.0) token)
    (formula.lookup env x) (var_value x p.0.terms env p.2))

from_reads : (net : List Decl) (db : Instance) (marking : Marking) (env : Env) (reads : List Read) → list_all (is_read net db env) reads ≡ true
    → (x : Var) → In x (read_vars reads) → In (formula.lookup env x) (all_values net db marking)
from_reads net db marking env reads all x at =
    let r = in_flat (λ (r : Read). flat_map variable_of r.terms) x reads at in
    let answer = any_in (λ row. row_eq row (map (value_of env) r.0.terms)) (view_rows net db r.0.view) (all_at (is_read net db env) r.0 reads all r.1) in
    let same : answer.0 ≡ map (value_of env) r.0.terms = exact_rows answer.0 (map (value_of env) r.0.terms) ((Equal-is (row_cmp answer.0 (map (value_of env) r.0.terms))).0 answer.2) in
    not_tokens net db marking (formula.lookup env x)
    (view_row_values net db (slice_get (places net) r.0.view) answer.0 answer.1 (formula.lookup env x)
    (subst (λ row. In (formula.lookup env x) row) (sym same) (var_value x r.0.terms env r.2)))

-- ---- the row

cells_inside : (net : List Decl) (db : Instance) (marking : Marking) (vars : TypedVars) (row : List Value) (env : Env) → distinct_vars vars ≡ true → HasShape row (types_of vars)
    → ((x : Var × ColType) → In x vars → In (formula.lookup (bind vars row env) x.0) (all_values net db marking)) → CellsIn row (map (values_for net db marking) (types_of vars))
cells_inside net db marking [] [] env once fits each = tt
cells_inside net db marking [] (v ∷ row) env once fits each = absurd cc
cells_inside net db marking (x ∷ vars) [] env once fits each = absurd cc
cells_inside net db marking (x ∷ vars) (v ∷ row) env once fits each =
    let known : In v (all_values net db marking) = subst (λ w. In w (all_values net db marking)) (bind_first x v vars row env once) (each x (inl refl)) in
    let typed : type_eq (value_type v) x.1 ≡ true = ap (λ type. type_eq type x.1) (heads (value_type v) x.1 (map value_type row) (types_of vars) fits) ∙ type_itself x.1 in (
      ascending_in value_total exact_values v (filter (λ w. type_eq (value_type w) x.1) (all_values net db marking))
          (filter_in (λ w. type_eq (value_type w) x.1) v (all_values net db marking) known typed),
      cells_inside net db marking vars row ((x.0, v) ∷ env) (and_parts _ (distinct_vars vars) once).1 (tails (value_type v) x.1 (map value_type row) (types_of vars) fits) (λ y at. each y (inr at)),
    )

-- the values of a row that enables a transition are of the state and the rules, and of the types of its variables
pub inside : (net : List Decl) (t : Transition) (db : Instance) (marking : Marking) (row : List Value) → Fits net t → HasShape row (shape_of t)
    → enabled net t db marking row ≡ true → CellsIn (bound_part t row) (map (values_for net db marking) (types_of t.bound))
inside net t db marking row fits shape on =
    let env : Env = bound_env t row in
    let guarded = and_parts (contained value_cmp (wants env t.ins) marking && list_all (is_read net db env) t.reads) (option_map_or (λ g. guard_holds g env) t.guard true) on in
    let parts = and_parts (contained value_cmp (wants env t.ins) marking) (list_all (is_read net db env) t.reads) guarded.0 in
    let scopes = and_parts (distinct_vars (scope_of t)) (list_all (λ (y : Var × ColType). is_in y.0 (clause_vars t)) t.bound) fits.scoped in
    cells_inside net db marking t.bound (bound_part t row) [] (distinct_left t.bound t.asked (distinct_left (given t) (with_type col.Id t.fresh) scopes.0)) (bound_shape t row shape)
    (λ x at. ⊎_elim
    (λ token. from_arcs net db marking env t.ins fits.ins parts.0 x.0 token)
    (λ answer. from_reads net db marking env t.reads parts.1 x.0 answer)
    (in_append x.0 (arc_vars t.ins) (read_vars t.reads) (in_of_is x.0 (clause_vars t) (all_at (λ (y : Var × ColType). is_in y.0 (clause_vars t)) x t.bound scopes.1 at))))

-- the same without types
pub row_values_in : (net : List Decl) (t : Transition) (db : Instance) (marking : Marking) (row : List Value) → Fits net t → HasShape row (shape_of t)
    → enabled net t db marking row ≡ true → (v : Value) → In v (bound_part t row) → In v (all_values net db marking)
row_values_in net t db marking row fits shape on v at =
    let column = in_cells (bound_part t row) (map (values_for net db marking) (types_of t.bound)) v (inside net t db marking row fits shape on) at in
    let type = in_map (values_for net db marking) column.0 (types_of t.bound) column.1 in
    (in_filter (λ w. type_eq (value_type w) type.0) v (all_values net db marking)
    (in_ascending value_cmp v (filter (λ w. type_eq (value_type w) type.0) (all_values net db marking)) (subst (λ c. In v c) type.2 column.2))).0
