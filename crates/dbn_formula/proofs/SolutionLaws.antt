-- The solutions of an accepted query are exactly its answers; an accepted sentence holds exactly where its denial has none.
use Rattle.std.proofs.Common.{◌≡◌, ℕ, zero, suc, inl, inr, Bool, true, false, cond, not, ◌||◌, List, [], ◌∷◌, ◌++◌, map, refl, ap, sym, ◌∙◌, subst, Some, None, if◌then◌else◌}
use Rattle.std.specs.Prelude.{slice_index_or}
use Rattle.std.specs.Cmp.{both_ways}
use Rattle.std.specs.List.{list_all, flat_map, filter}
use Rattle.std.proofs.lemmas.Bool.{and_parts, true≢false, not-true, not_from_false, false_from_ne_true}
use Rattle.dbn_value.specs.Members.{In}
use Rattle.dbn_value.specs.Ascending.{ascending, CellsIn}
use Rattle.dbn_value.proofs.MemberLaws.{all_at, filter_in, flat_in, append_left, append_right}
use Rattle.dbn_value.proofs.AscendingLaws.{ascending_in}
use Rattle.dbn_value.specs.Order.{value_cmp, value_type, value_total, exact_values}
use Rattle.dbn_value.specs.declared.value.Value.{Value}
use Rattle.dbn_value.specs.declared.value.ColType.{ColType}
use Rattle.dbn_value.specs.declared.term.Var.{Var}
use Rattle.dbn_formula.specs.Variables.{TypedVars, var_eq, type_eq, binds}
use Rattle.dbn_formula.specs.Holds.{Env, Domain, Instance, lookup, holds_over}
use Rattle.dbn_formula.specs.Free.{occurrences}
use Rattle.dbn_formula.specs.Answers.{values_in, constants, domain, holds, bind, answers}
use Rattle.dbn_formula.specs.Typing.{Shapes, type_in, arity_fits, types_fit, all_bound}
use Rattle.dbn_formula.specs.Normal.{normal}
use Rattle.dbn_formula.specs.Apart.{renamed}
use Rattle.dbn_formula.specs.Distinct.{distinct_vars, distinct}
use Rattle.dbn_formula.specs.Safe.{safe, safe_in_order}
use Rattle.dbn_formula.specs.Solve.{is_empty}
use Rattle.dbn_formula.specs.Ready.{AreValued, RowIn, RowsIn, ValuesIn, Ready}
use Rattle.dbn_formula.specs.Solutions.{solvable, solutions, HasShapes, AcceptsQuery, AcceptsSentence, IsSolution}
use Rattle.dbn_formula.specs.declared.formula.Formula.{Formula}
use Rattle.dbn_formula.specs.declared.formula.Formula.TheVariants.{Not}
use Rattle.dbn_formula.proofs.NoFault.{no_fault}
use Rattle.dbn_formula.proofs.HoldsLaws.{holds_not}
use Rattle.dbn_formula.proofs.FreeLaws.{occurrences_not}
use Rattle.dbn_formula.proofs.ConstantsLaws.{constants_not}
use Rattle.dbn_formula.proofs.TypingLaws.{types_not}
use Rattle.dbn_formula.proofs.NormalMeaning as meaning
use Rattle.dbn_formula.proofs.NormalFree as variables
use Rattle.dbn_formula.proofs.NormalConstants as values
use Rattle.dbn_formula.proofs.Depends.{depends}
use Rattle.dbn_formula.proofs.AnswersLaws.{in_answers, answers_in}
use Rattle.dbn_formula.proofs.VariableLaws.{var_itself, type_itself, in_bound, bound_in, var_same}
use Rattle.dbn_formula.proofs.RenameLaws.{renamed_holds}
use Rattle.dbn_formula.proofs.RenameFree.{renamed_occurrences, renamed_constants}
use Rattle.dbn_formula.proofs.RenameApart.{renamed_apart}
use Rattle.dbn_formula.proofs.DistinctLaws.{renamed_distinct}
use Rattle.dbn_formula.proofs.TypesKept.{normal_types, renamed_types}
use Rattle.dbn_formula.proofs.OrderOfParts.{Alike}
use Rattle.dbn_formula.proofs.Arranged.{arranged_holds, arranged_types, arranged_distinct, arranged_free, arranged_constants, arranged_in_order, alike_same, alike_then}
use Rattle.dbn_formula.proofs.Bounded.{bounded}
use Rattle.dbn_formula.proofs.Solved.{Solves, solved}

-- ---- the formula that is solved says the same

pub solvable_holds : (dom : Domain) (db : Instance) (f : Formula) (env : Env) → holds_over dom db (solvable f) env ≡ holds_over dom db f env
solvable_holds dom db f env = arranged_holds dom db (renamed (normal f)) [] env ∙ renamed_holds dom db (normal f) env ∙ (meaning.meant dom db f).yes env

pub solvable_free : (f : Formula) → Alike (occurrences (solvable f)) (occurrences f)
solvable_free f =
    alike_then (occurrences (solvable f)) (occurrences (renamed (normal f))) (occurrences f) (arranged_free (renamed (normal f)) [])
    (alike_same (occurrences (renamed (normal f))) (occurrences f) (renamed_occurrences (normal f) ∙ variables.kept f true))

pub solvable_constants : (f : Formula) → Alike (constants (solvable f)) (constants f)
solvable_constants f =
    alike_then (constants (solvable f)) (constants (renamed (normal f))) (constants f) (arranged_constants (renamed (normal f)) [])
    (alike_same (constants (renamed (normal f))) (constants f) (renamed_constants (normal f) ∙ values.kept f true))

solvable_types : (rels : Shapes) (f : Formula) (scope : TypedVars) → types_fit rels (solvable f) scope ≡ types_fit rels f scope
solvable_types rels f scope = arranged_types rels (renamed (normal f)) [] scope ∙ renamed_types rels (normal f) scope ∙ normal_types rels f true scope

solvable_distinct : (f : Formula) → distinct (solvable f) ≡ true
solvable_distinct f = arranged_distinct (renamed (normal f)) [] ∙ renamed_distinct (normal f)

-- ---- the domain of a formula

in_domain : (f : Formula) (db : Instance) (v : Value) → In v (values_in db ++ constants f) → In v (domain f db (value_type v))
in_domain f db v at =
    ascending_in value_total exact_values v (filter (λ w. type_eq (value_type w) (value_type v)) (values_in db ++ constants f))
    (filter_in (λ w. type_eq (value_type w) (value_type v)) v (values_in db ++ constants f) at (type_itself (value_type v)))

in_rows : (db : Instance) (rel : ℕ) (row : List Value) → In row (slice_index_or db rel []) → (rows : List (List Value)) × In rows db × In row rows
in_rows [] rel row at = absurd at
in_rows (rows ∷ db) zero row at = (rows, inl refl, at)
in_rows (rows ∷ db) (suc rel) row at = let found = in_rows db rel row at in (found.0, inr found.1, found.2)

value_of_row : (db : Instance) (rel : ℕ) (row : List Value) (v : Value) → In row (slice_index_or db rel []) → In v row → In v (values_in db)
value_of_row db rel row v at within =
    let found = in_rows db rel row at in
    flat_in (λ rows. flat_map (λ r. r) rows) v found.0 db found.1 (flat_in (λ r. r) v row found.0 found.2 within)

cells_in : (f : Formula) (db : Instance) (row : List Value) → ((v : Value) → In v row → In v (values_in db)) → RowIn (domain f db) row (map value_type row)
cells_in f db [] known = tt
cells_in f db (v ∷ row) known = (in_domain f db v (append_left v (values_in db) (constants f) (known v (inl refl))), cells_in f db row (λ w at. known w (inr at)))

pub rows_in : (f : Formula) (rels : Shapes) (db : Instance) → HasShapes rels db → RowsIn (domain f db) rels db
rows_in f rels db fits = record {
  each = λ rel row at. subst (RowIn (domain f db) row) (fits.each rel row at) (cells_in f db row (λ v within. value_of_row db rel row v at within));
}

-- ---- a formula that is well typed and safe is ready to be solved

module _ (rels : Shapes) (scope : TypedVars) (f : Formula) (db : Instance) (fits : HasShapes rels db) (typed : types_fit rels f scope ≡ true) (scoped : all_bound f scope ≡ true) (is_safe : safe (renamed (normal f)) [] ≡ true) where
  in_scope : (x : Var) → In x (occurrences (solvable f)) → binds scope x ≡ true
  in_scope x at = all_at (binds scope) x (occurrences f) scoped ((solvable_free f).there x at)

  constants_known : ValuesIn (domain f db) (constants (solvable f))
  constants_known = record { each = λ v at. in_domain f db v (append_right v (values_in db) (constants f) ((solvable_constants f).there v at)) }

  in_order_here : safe_in_order (solvable f) [] ≡ true
  in_order_here = arranged_in_order (renamed (normal f)) [] is_safe (renamed_apart (normal f))

  pub is_ready : Ready (domain f db) rels (solvable f) scope [] []
  is_ready = record {
    safe_here = in_order_here;
    typed = solvable_types rels f scope ∙ typed;
    once = solvable_distinct f;
    scoped = in_scope;
    constants_in = constants_known;
    covers = record { has = λ x at. absurd at; all = λ x b. absurd (true≢false (sym b)) };
    valued = record { each = λ x at. absurd at };
  }

  pub solves : Solves (domain f db) db rels (rows_in f rels db fits) (solvable f) []
  solves = solved (domain f db) db rels (rows_in f rels db fits) (solvable f) scope [] [] is_ready

  -- a solution gives the free variables values of the domain
  pub valued : (g : Env) → holds_over (domain f db) db (solvable f) g ≡ true → AreValued (domain f db) scope (occurrences (solvable f)) g
  valued g e =
      bounded (domain f db) db rels (rows_in f rels db fits) (solvable f) scope [] g in_order_here (solvable_types rels f scope ∙ typed) in_scope constants_known
      (record { each = λ x at. absurd at }) e

-- ---- rows of values for the variables of a query

pub bind_other : (vars : TypedVars) (row : List Value) (env : Env) (y : Var) → binds vars y ≡ false → lookup (bind vars row env) y ≡ lookup env y
bind_other [] row env y e = refl
bind_other (x ∷ vars) [] env y e = refl
bind_other (x ∷ vars) (v ∷ row) env y e =
    let here : var_eq y x.0 ≡ false = false_from_ne_true (var_eq y x.0) (λ same. true≢false (sym (ap (λ b. b || binds vars y) same) ∙ e)) in
    let there : binds vars y ≡ false = ap (λ b. b || binds vars y) (sym here) ∙ e in
    bind_other vars row ((x.0, v) ∷ env) y there ∙ ap (λ b. cond b v (lookup env y)) here

-- the row has one value for each variable
abbrev pub SameLength : TypedVars → List Value → Type 0
SameLength [] [] = Unit {0}
SameLength [] (v ∷ row) = ⊥
SameLength (x ∷ vars) [] = ⊥
SameLength (x ∷ vars) (v ∷ row) = SameLength vars row

pub bind_row : (vars : TypedVars) (row : List Value) (env : Env) → distinct_vars vars ≡ true → SameLength vars row → map (λ x. lookup (bind vars row env) x.0) vars ≡ row
bind_row [] [] env once same = refl
bind_row [] (v ∷ row) env once same = absurd same
bind_row (x ∷ vars) [] env once same = absurd same
bind_row (x ∷ vars) (v ∷ row) env once same =
    let parts = and_parts (not (binds vars x.0)) (distinct_vars vars) once in
    ap (λ w. w ∷ map (λ y. lookup (bind vars row ((x.0, v) ∷ env)) y.0) vars)
    (bind_other vars row ((x.0, v) ∷ env) x.0 (not-true (binds vars x.0) parts.0) ∙ ap (λ b. cond b v (lookup env x.0)) (var_itself x.0))
    ∙ ap (λ l. v ∷ l) (bind_row vars row ((x.0, v) ∷ env) parts.1 same)

length_of_cells : (dom : Domain) (vars : TypedVars) (row : List Value) → CellsIn row (map (λ x. dom x.1) vars) → SameLength vars row
length_of_cells dom [] [] cells = tt
length_of_cells dom [] (v ∷ row) cells = absurd cells
length_of_cells dom (x ∷ vars) [] cells = absurd cells
length_of_cells dom (x ∷ vars) (v ∷ row) cells = length_of_cells dom vars row cells.1

length_of_map : (vars : TypedVars) (h : Var × ColType → Value) → SameLength vars (map h vars)
length_of_map [] h = tt
length_of_map (x ∷ vars) h = length_of_map vars h

module _ {A B : Type 0} where
  -- two maps over a list that are equal are equal at each member
  pub maps_at : (p q : A → B) (xs : List A) (x : A) → map p xs ≡ map q xs → In x xs → p x ≡ q x
  maps_at p q [] x e at = absurd at
  maps_at p q (y ∷ ys) x e (inl here) = let first : p y ≡ q y = head_same (p y) (q y) (map p ys) (map q ys) e in ap p here ∙ first ∙ ap q (sym here)
    where
      head_same : (a b : B) (ks ls : List B) → a ∷ ks ≡ b ∷ ls → a ≡ b
      head_same a b ks ls e = cc
  maps_at p q (y ∷ ys) x e (inr there) = maps_at p q ys x (tail_same (p y) (q y) (map p ys) (map q ys) e) there
    where
      tail_same : (a b : B) (ks ls : List B) → a ∷ ks ≡ b ∷ ls → ks ≡ ls
      tail_same a b ks ls e = cc

  pub maps_from : (p q : A → B) (xs : List A) → ((x : A) → In x xs → p x ≡ q x) → map p xs ≡ map q xs
  maps_from p q [] same = refl
  maps_from p q (x ∷ xs) same = ap (λ b. b ∷ map p xs) (same x (inl refl)) ∙ ap (λ l. q x ∷ l) (maps_from p q xs (λ y at. same y (inr at)))

-- a variable of a list without repeats has its own type in it
pub own_type : (vars : TypedVars) (y : Var × ColType) → distinct_vars vars ≡ true → In y vars → type_in vars y.0 ≡ Some y.1
own_type [] y once at = absurd at
own_type (z ∷ vars) y once (inl here) = subst (λ (w : Var × ColType). type_in (z ∷ vars) w.0 ≡ Some w.1) (sym here) (ap (λ b. cond b (Some z.1) (type_in vars z.0)) (var_itself z.0))
own_type (z ∷ vars) y once (inr there) =
    let parts = and_parts (not (binds vars z.0)) (distinct_vars vars) once in
    let other : var_eq y.0 z.0 ≡ false = false_from_ne_true (var_eq y.0 z.0) (λ same.
    true≢false (sym (subst (λ w. binds vars w ≡ true) (var_same y.0 z.0 same) (in_bound vars y there)) ∙ not-true (binds vars z.0) parts.0)) in
    ap (λ b. cond b (Some z.1) (type_in vars y.0)) other ∙ own_type vars y parts.1 there

cells_of : (dom : Domain) (vars : TypedVars) (h : Var × ColType → Value) → ((x : Var × ColType) → In x vars → In (h x) (dom x.1)) → CellsIn (map h vars) (map (λ x. dom x.1) vars)
cells_of dom [] h each = tt
cells_of dom (x ∷ vars) h each = (each x (inl refl), cells_of dom vars h (λ y at. each y (inr at)))

some_same : {A : Type 0} (a b : A) → Some a ≡ Some b → a ≡ b
some_same a b e = cc

-- ---- queries

module _ (rels : Shapes) (vars : TypedVars) (f : Formula) (db : Instance) (accepted : AcceptsQuery rels vars f) (fits : HasShapes rels db) where
  pub sound_types : (types_fit rels f vars ≡ true) × (all_bound f vars ≡ true)
  sound_types = let all = no_fault rels f vars accepted.typed in (all.1, all.2)

  pub query_solves : Solves (domain f db) db rels (rows_in f rels db fits) (solvable f) []
  query_solves = solves rels vars f db fits sound_types.0 sound_types.1 accepted.is_safe

  pub answer_solved : (row : List Value) → In row (answers f vars db) → IsSolution f vars db row
  answer_solved row at =
      let known = in_answers f vars db row at in
      let t : Env = bind vars row [] in
      let found = query_solves.complete t (record { each = λ x b. absurd (true≢false (sym b)) }) (solvable_holds (domain f db) db f t ∙ known.1) in
      let sound = query_solves.sound found.env found.at in
      let row_is : map (λ x. lookup t x.0) vars ≡ row = bind_row vars row [] accepted.once (length_of_cells (domain f db) vars row known.0) in (
        found.env,
        found.at,
        sym row_is ∙ maps_from (λ x. lookup t x.0) (λ x. lookup found.env x.0) vars (λ x within.
            found.keeps.each x.0 (sound.step.new x.0 ((solvable_free f).back x.0 (accepted.all_free x.0 (in_bound vars x within))))),
      )

  pub solution_answers : (row : List Value) → IsSolution f vars db row → In row (answers f vars db)
  solution_answers row (g, at, is) =
      let sound = query_solves.sound g at in
      let h : Var × ColType → Value = λ x. lookup g x.0 in
      let cells : List Value = map h vars in
      let t : Env = bind vars cells [] in
      let same : (x : Var × ColType) → In x vars → lookup t x.0 ≡ lookup g x.0 =
      λ x within. maps_at (λ y. lookup t y.0) h vars x (bind_row vars cells [] accepted.once (length_of_map vars h)) within in
      let agrees : (x : Var) → In x (occurrences f) → lookup t x ≡ lookup g x =
      λ x occurs. let entry = bound_in vars x (all_at (binds vars) x (occurrences f) sound_types.1 occurs) in ap (lookup t) entry.2 ∙ same entry.0 entry.1 ∙ ap (lookup g) (sym entry.2) in
      let holds_g : holds_over (domain f db) db f g ≡ true = sym (solvable_holds (domain f db) db f g) ∙ sound.holds in
      let holds_t : holds_over (domain f db) db f t ≡ true = depends (domain f db) db f t g agrees ∙ holds_g in
      let values : AreValued (domain f db) vars (occurrences (solvable f)) g = valued rels vars f db fits sound_types.0 sound_types.1 accepted.is_safe g sound.holds in
      let within : CellsIn cells (map (λ x. domain f db x.1) vars) = cells_of (domain f db) vars h (λ x member.
      let value = values.each x.0 ((solvable_free f).back x.0 (accepted.all_free x.0 (in_bound vars x member))) in
      subst (λ type. In (lookup g x.0) (domain f db type)) (some_same value.type x.1 (sym value.is ∙ own_type vars x accepted.once member)) value.within) in
      subst (λ r. In r (answers f vars db)) (sym is) (answers_in f vars db cells within holds_t)

  -- the rows of environments for which the solvable formula holds
  pub answer_holds : (row : List Value) → In row (answers f vars db) → (t : Env) × (holds_over (domain f db) db (solvable f) t ≡ true) × (row ≡ map (λ x. lookup t x.0) vars)
  answer_holds row at = let found = answer_solved row at in (found.0, (query_solves.sound found.0 found.1).holds, found.2)

  pub holds_answer : (t : Env) → holds_over (domain f db) db (solvable f) t ≡ true → In (map (λ x. lookup t x.0) vars) (answers f vars db)
  holds_answer t e =
      let found = query_solves.complete t (record { each = λ x b. absurd (true≢false (sym b)) }) e in
      let sound = query_solves.sound found.env found.at in
      solution_answers (map (λ x. lookup t x.0) vars) (
        found.env,
        found.at,
        maps_from (λ x. lookup t x.0) (λ x. lookup found.env x.0) vars (λ x within.
            found.keeps.each x.0 (sound.step.new x.0 ((solvable_free f).back x.0 (accepted.all_free x.0 (in_bound vars x within))))),
      )

-- ---- sentences

pub sentence_solved : (rels : Shapes) (f : Formula) (db : Instance) → AcceptsSentence rels f → HasShapes rels db → holds f db [] ≡ is_empty (solutions (Not f) db)
sentence_solved rels f db accepted fits =
    let all = no_fault rels f [] accepted.typed in
    let types : (types_fit rels f [] ≡ true) × (all_bound f [] ≡ true) = (all.1, all.2) in
    let dom : Domain = domain (Not f) db in
    let closed : all_bound (Not f) [] ≡ true = ap (list_all (binds [])) (occurrences_not f) ∙ types.1 in
    let solve : Solves dom db rels (rows_in (Not f) rels db fits) (solvable (Not f)) [] =
    solves rels [] (Not f) db fits (types_not rels f [] ∙ types.0) closed accepted.is_safe in
    let same_domain : holds f db [] ≡ holds_over dom db f [] = ap (λ values. holds_over (λ type. ascending value_cmp (filter (λ v. type_eq (value_type v) type) (values_in db ++ values))) db f []) (sym (constants_not f)) in
    let denial : (g : Env) → holds_over dom db (solvable (Not f)) g ≡ not (holds_over dom db f g) = λ g. solvable_holds dom db (Not f) g ∙ holds_not dom db f g in
    let nothing_free : (x : Var) → In x (occurrences f) → ⊥ = λ x at. true≢false (sym (all_at (binds []) x (occurrences f) types.1 at)) in
    both_ways (holds f db []) (is_empty (solutions (Not f) db))
    (λ e. none (solutions (Not f) db) (λ g at.
    let sound = solve.sound g at in
    let fails : holds_over dom db f g ≡ false = not-true (holds_over dom db f g) (sym (denial g) ∙ sound.holds) in
    true≢false (sym (sym same_domain ∙ e) ∙ depends dom db f [] g (λ x at. absurd (nothing_free x at)) ∙ fails)))
    (λ e. true_or_not (holds f db []) (λ fails.
    let found = solve.complete [] (record { each = λ x b. absurd (true≢false (sym b)) }) (denial [] ∙ not_from_false (holds_over dom db f []) (sym same_domain ∙ fails)) in
    is_none (solutions (Not f) db) e found.env found.at))
  where
    none : (gs : List Env) → ((g : Env) → In g gs → ⊥) → is_empty gs ≡ true
    none [] each = refl
    none (g ∷ gs) each = absurd (each g (inl refl))

    is_none : (gs : List Env) → is_empty gs ≡ true → (g : Env) → In g gs → ⊥
    is_none [] e g at = at
    is_none (h ∷ gs) e g at = true≢false (sym e)

    true_or_not : (b : Bool) → (b ≡ false → ⊥) → b ≡ true
    true_or_not true h = refl
    true_or_not false h = absurd (h refl)
