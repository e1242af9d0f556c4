-- The rows that the solutions of a safe formula give the variables of a query are its answers.
use Rattle.std.proofs.Common.{◌≡◌, inl, inr, ⊎_elim, Bool, true, false, cond, not, List, [], ◌∷◌, ◌++◌, map, if◌then◌else◌, Option, None, Some, refl, ap, sym, ◌∙◌, subst}
use Rattle.std.specs.List.{list_all, flat_map, filter}
use Rattle.std.specs.Cmp.{both_ways}
use Rattle.std.proofs.lemmas.Bool.{and_parts, true≢false}
use Rattle.dbn_value.specs.Members.{In}
use Rattle.dbn_value.specs.Ascending.{ascending, rows_over, CellsIn}
use Rattle.dbn_value.specs.Order.{value_cmp, row_cmp, value_type, type_eq, rows_total, exact_rows}
use Rattle.dbn_value.specs.declared.value.Value.{Value}
use Rattle.dbn_value.specs.declared.value.ColType.{ColType}
use Rattle.dbn_value.specs.declared.term.Var.{Var}
use Rattle.dbn_value.proofs.MemberLaws.{all_at, in_flat, flat_in}
use Rattle.dbn_value.proofs.AscendingLaws.{in_ascending, ascending_in, same_members, sorted_ascending, in_rows_over, rows_over_in}
use Rattle.dbn_formula.specs.Variables.{TypedVars, binds}
use Rattle.dbn_formula.specs.Holds.{Env, Domain, Instance, lookup, holds_over}
use Rattle.dbn_formula.specs.Free.{occurrences}
use Rattle.dbn_formula.specs.Answers.{values_in, domain, holds, bind, answers}
use Rattle.dbn_formula.specs.Typing.{Shapes, types_fit, all_bound, type_fault}
use Rattle.dbn_formula.specs.Normal.{normal}
use Rattle.dbn_formula.specs.Apart.{renamed}
use Rattle.dbn_formula.specs.Safe.{safe, arranged}
use Rattle.dbn_formula.specs.Distinct.{distinct_vars}
use Rattle.dbn_formula.specs.Solve.{is_empty, is_bound, solutions_over}
use Rattle.dbn_formula.specs.Ready.{AreValued}
use Rattle.dbn_formula.specs.Solutions.{solvable, HasShapes}
use Rattle.dbn_formula.specs.declared.formula.Formula.{Formula}
use Rattle.dbn_formula.specs.declared.formula.Formula.TheVariants.{Not}
use Rattle.dbn_formula.proofs.VariableLaws.{bound_in}
use Rattle.dbn_formula.proofs.ConstantsLaws.{constants_not}
use Rattle.dbn_formula.proofs.NoFault.{no_fault}
use Rattle.dbn_formula.proofs.Depends.{depends}
use Rattle.dbn_formula.proofs.Solved.{Solves}
use Rattle.dbn_formula.proofs.AnswersLaws.{sorted_answers, in_answers, answers_in}
use Rattle.dbn_formula.proofs.SolutionLaws.{solvable_holds, solvable_free, rows_in, solves, valued, SameLength, bind_row, own_type, sentence_solved}
use Rattle.dbn_scratch.specs.Given.{column_of, rows_given}

-- ---- rows with a cell from each column

cells_at : (h : Var × ColType → Value) (c : Var × ColType → List Value) (vars : TypedVars) (x : Var × ColType) → CellsIn (map h vars) (map c vars) → In x vars → In (h x) (c x)
cells_at h c [] x cells at = absurd at
cells_at h c (y ∷ vars) x cells (inl here) = subst (λ z. In (h z) (c z)) (sym here) cells.0
cells_at h c (y ∷ vars) x cells (inr there) = cells_at h c vars x cells.1 there

cells_from : (h : Var × ColType → Value) (c : Var × ColType → List Value) (vars : TypedVars) → ((x : Var × ColType) → In x vars → In (h x) (c x)) → CellsIn (map h vars) (map c vars)
cells_from h c [] each = tt
cells_from h c (x ∷ vars) each = (each x (inl refl), cells_from h c vars (λ y at. each y (inr at)))

same_length : (c : Var × ColType → List Value) (vars : TypedVars) (row : List Value) → CellsIn row (map c vars) → SameLength vars row
same_length c [] [] cells = tt
same_length c [] (v ∷ row) cells = absurd cells
same_length c (x ∷ vars) [] cells = absurd cells
same_length c (x ∷ vars) (v ∷ row) cells = same_length c vars row cells.1

some_same : {A : Type 0} (a b : A) → Some a ≡ Some b → a ≡ b
some_same a b e = cc

-- ---- a column

in_bound_column : (dom : Domain) (g : Env) (x : Var × ColType) (v : Value) → is_bound g x.0 ≡ true → In v (column_of dom g x) → v ≡ lookup g x.0
in_bound_column dom g x v b at =
    ⊎_elim (λ here. here) (λ there. absurd there) (subst (λ c. In v (cond c (lookup g x.0 ∷ []) (dom x.1))) b at)

in_other_column : (dom : Domain) (g : Env) (x : Var × ColType) (v : Value) → is_bound g x.0 ≡ false → In v (column_of dom g x) → In v (dom x.1)
in_other_column dom g x v b at = subst (λ c. In v (cond c (lookup g x.0 ∷ []) (dom x.1))) b at

bound_column_in : (dom : Domain) (g : Env) (x : Var × ColType) (v : Value) → is_bound g x.0 ≡ true → v ≡ lookup g x.0 → In v (column_of dom g x)
bound_column_in dom g x v b e = subst (λ c. In v (cond c (lookup g x.0 ∷ []) (dom x.1))) (sym b) (inl e)

other_column_in : (dom : Domain) (g : Env) (x : Var × ColType) (v : Value) → is_bound g x.0 ≡ false → In v (dom x.1) → In v (column_of dom g x)
other_column_in dom g x v b at = subst (λ c. In v (cond c (lookup g x.0 ∷ []) (dom x.1))) (sym b) at

nothing_bound : (x : Var) → is_bound [] x ≡ true → ⊥
nothing_bound x b = true≢false (sym b)

-- ---- queries

module _ (rels : Shapes) (vars : TypedVars) (f : Formula) (db : Instance) (typed : type_fault rels f vars ≡ None) (fits : HasShapes rels db) (is_safe : safe (renamed (normal f)) [] ≡ true) where
  types : (types_fit rels f vars ≡ true) × (all_bound f vars ≡ true)
  types = let all = no_fault rels f vars typed in (all.1, all.2)

  solved_here : Solves (domain f db) db rels (rows_in f rels db fits) (solvable f) []
  solved_here = solves rels vars f db fits types.0 types.1 is_safe

  module _ (once : distinct_vars vars ≡ true) where
    -- what a solution gives is an answer
    given_answer : (row : List Value) → In row (flat_map (rows_given (domain f db) vars) (solutions_over (domain f db) db (solvable f) [])) → In row (answers f vars db)
    given_answer row at =
        let dom : Domain = domain f db in
        let found = in_flat (rows_given dom vars) row (solutions_over dom db (solvable f) []) at in
        let g : Env = found.0 in
        let sound = solved_here.sound g found.1 in
        let cells : CellsIn row (map (column_of dom g) vars) = in_rows_over row (map (column_of dom g) vars) found.2 in
        let t : Env = bind vars row [] in
        let h : Var × ColType → Value = λ x. lookup t x.0 in
        let row_is : map h vars ≡ row = bind_row vars row [] once (same_length (column_of dom g) vars row cells) in
        let each : (x : Var × ColType) → In x vars → In (h x) (column_of dom g x) =
        λ x within. cells_at h (column_of dom g) vars x (subst (λ r. CellsIn r (map (column_of dom g) vars)) (sym row_is) cells) within in
        let values : AreValued dom vars (occurrences (solvable f)) g = valued rels vars f db fits types.0 types.1 is_safe g sound.holds in
        let inside : (x : Var × ColType) → In x vars → In (h x) (dom x.1) =
        λ x within.
        elim (is_bound g x.0) as (λ b. is_bound g x.0 ≡ b → In (h x) (dom x.1)) [
          | true ↦ λ b.
              let occurs : In x.0 (occurrences (solvable f)) = ⊎_elim (λ start. absurd (nothing_bound x.0 start)) (λ new. new) (sound.step.only x.0 b) in
              let value = values.each x.0 occurs in
              subst (λ v. In v (dom x.1)) (sym (in_bound_column dom g x (h x) b (each x within)))
              (subst (λ type. In (lookup g x.0) (dom type)) (some_same value.type x.1 (sym value.is ∙ own_type vars x once within)) value.within)
          | false ↦ λ b. in_other_column dom g x (h x) b (each x within)
        ] refl in
        let agrees : (x : Var) → In x (occurrences f) → lookup t x ≡ lookup g x =
        λ x occurs.
        let entry = bound_in vars x (all_at (binds vars) x (occurrences f) types.1 occurs) in
        let b : is_bound g entry.0.0 ≡ true = subst (λ y. is_bound g y ≡ true) entry.2 (sound.step.new x ((solvable_free f).back x occurs)) in
        ap (lookup t) entry.2 ∙ in_bound_column dom g entry.0 (h entry.0) b (each entry.0 entry.1) ∙ ap (lookup g) (sym entry.2) in
        let holds_t : holds_over dom db f t ≡ true = depends dom db f t g agrees ∙ sym (solvable_holds dom db f g) ∙ sound.holds in
        answers_in f vars db row (subst (λ r. CellsIn r (map (λ x. dom x.1) vars)) row_is (cells_from h (λ x. dom x.1) vars inside)) holds_t

    -- an answer is given by a solution
    answer_given : (row : List Value) → In row (answers f vars db) → In row (flat_map (rows_given (domain f db) vars) (solutions_over (domain f db) db (solvable f) []))
    answer_given row at =
        let dom : Domain = domain f db in
        let known = in_answers f vars db row at in
        let t : Env = bind vars row [] in
        let h : Var × ColType → Value = λ x. lookup t x.0 in
        let row_is : map h vars ≡ row = bind_row vars row [] once (same_length (λ x. dom x.1) vars row known.0) in
        let inside : (x : Var × ColType) → In x vars → In (h x) (dom x.1) =
        λ x within. cells_at h (λ y. dom y.1) vars x (subst (λ r. CellsIn r (map (λ y. dom y.1) vars)) (sym row_is) known.0) within in
        let found = solved_here.complete t (record { each = λ x b. absurd (nothing_bound x b) }) (solvable_holds dom db f t ∙ known.1) in
        let g : Env = found.env in
        let each : (x : Var × ColType) → In x vars → In (h x) (column_of dom g x) =
        λ x within.
        elim (is_bound g x.0) as (λ b. is_bound g x.0 ≡ b → In (h x) (column_of dom g x)) [
          | true ↦ λ b. bound_column_in dom g x (h x) b (found.keeps.each x.0 b)
          | false ↦ λ b. other_column_in dom g x (h x) b (inside x within)
        ] refl in
        flat_in (rows_given dom vars) row g (solutions_over dom db (solvable f) []) found.at
        (rows_over_in row (map (column_of dom g) vars) (subst (λ r. CellsIn r (map (column_of dom g) vars)) row_is (cells_from h (column_of dom g) vars each)))

    pub given_answers : ascending row_cmp (flat_map (rows_given (domain f db) vars) (solutions_over (domain f db) db (solvable f) [])) ≡ answers f vars db
    given_answers =
        let given : List (List Value) = flat_map (rows_given (domain f db) vars) (solutions_over (domain f db) db (solvable f) []) in
        same_members rows_total (ascending row_cmp given) (answers f vars db) (sorted_ascending rows_total given) (sorted_answers f vars db)
        (λ row at. given_answer row (in_ascending row_cmp row given at))
        (λ row at. ascending_in rows_total exact_rows row given (answer_given row at))

-- ---- sentences

some_from : (gs : List Env) (g : Env) → In g gs → not (is_empty gs) ≡ true
some_from [] g at = absurd at
some_from (h ∷ gs) g at = refl

first_of : (gs : List Env) → not (is_empty gs) ≡ true → (g : Env) × In g gs
first_of [] e = absurd (true≢false (sym e))
first_of (g ∷ gs) e = (g, inl refl)

module _ (rels : Shapes) (f : Formula) (db : Instance) (typed : type_fault rels f [] ≡ None) (fits : HasShapes rels db) where
  -- a formula that is safe as a query holds where it has a solution
  pub solved_holds : safe (renamed (normal f)) [] ≡ true → not (is_empty (solutions_over (domain f db) db (solvable f) [])) ≡ holds f db []
  solved_holds is_safe =
      let dom : Domain = domain f db in
      let solve = solved_here rels [] f db typed fits is_safe in
      let none_free : (x : Var) → In x (occurrences f) → ⊥ = λ x at. true≢false (sym (all_at (binds []) x (occurrences f) (types rels [] f db typed fits is_safe).1 at)) in
      both_ways (not (is_empty (solutions_over dom db (solvable f) []))) (holds f db [])
      (λ e.
      let g = first_of (solutions_over dom db (solvable f) []) e in
      depends dom db f [] g.0 (λ x at. absurd (none_free x at)) ∙ sym (solvable_holds dom db f g.0) ∙ (solve.sound g.0 g.1).holds)
      (λ e.
      let found = solve.complete [] (record { each = λ x b. absurd (nothing_bound x b) }) (solvable_holds dom db f [] ∙ e) in
      some_from (solutions_over dom db (solvable f) []) found.env found.at)

  -- a formula whose negation is safe holds where this has none
  pub denied_holds : safe (renamed (normal (Not f))) [] ≡ true → not (not (is_empty (solutions_over (domain f db) db (solvable (Not f)) []))) ≡ holds f db []
  denied_holds is_safe =
      twice (is_empty (solutions_over (domain f db) db (solvable (Not f)) []))
      ∙ ap (λ values. is_empty (solutions_over (λ type. ascending value_cmp (filter (λ v. type_eq (value_type v) type) (values_in db ++ values))) db (solvable (Not f)) [])) (sym (constants_not f))
      ∙ sym (sentence_solved rels f db (record { typed = typed; is_safe = is_safe }) fits)
    where
      twice : (b : Bool) → not (not b) ≡ b
      twice true = refl
      twice false = refl

-- ---- solutions with a value for each variable

module _ (dom : Domain) where
  one_row : (vars : TypedVars) (e : Env) → list_all (λ x. is_bound e x.0) vars ≡ true → rows_given dom vars e ≡ map (λ x. lookup e x.0) vars ∷ []
  one_row [] e all = refl
  one_row (x ∷ vars) e all =
      let parts = and_parts (is_bound e x.0) (list_all (λ y. is_bound e y.0) vars) all in
      ap (λ b. rows_over (cond b (lookup e x.0 ∷ []) (dom x.1) ∷ map (column_of dom e) vars)) parts.0
      ∙ ap (λ rows. map (λ row. lookup e x.0 ∷ row) rows ++ []) (one_row vars e parts.1)

  pub plain_rows : (vars : TypedVars) (envs : List Env) → list_all (λ e. list_all (λ x. is_bound e x.0) vars) envs ≡ true
      → map (λ e. map (λ x. lookup e x.0) vars) envs ≡ flat_map (rows_given dom vars) envs
  plain_rows vars [] all = refl
  plain_rows vars (e ∷ envs) all =
      let parts = and_parts (list_all (λ x. is_bound e x.0) vars) (list_all (λ g. list_all (λ x. is_bound g x.0) vars) envs) all in
      ap (λ rows. map (λ x. lookup e x.0) vars ∷ rows) (plain_rows vars envs parts.1)
      ∙ ap (λ rows. rows ++ flat_map (rows_given dom vars) envs) (sym (one_row vars e parts.0))

-- ---- the formula as it is solved, where it is safe

abbrev pub IsForm : Formula → Option Formula → Type 0
IsForm form found = found ≡ (if safe (renamed form) [] then Some (arranged (renamed form) []) else None)

form_safe : (form solved : Formula) → IsForm form (Some solved) → (safe (renamed form) [] ≡ true) × (solved ≡ arranged (renamed form) [])
form_safe form solved e =
    elim (safe (renamed form) []) as (λ b. safe (renamed form) [] ≡ b → Some solved ≡ (if b then Some (arranged (renamed form) []) else None) → (safe (renamed form) [] ≡ true) × (solved ≡ arranged (renamed form) [])) [
      | true ↦ λ is e. (is, some_same solved (arranged (renamed form) []) e)
      | false ↦ λ is e. absurd (no_some solved e)
    ] refl e
  where
    no_some : (f : Formula) → Some f ≡ None → ⊥
    no_some f e = cc

-- what is asked of a query and of a sentence
abbrev pub IsTyped : Formula → TypedVars → Instance → Type 0
IsTyped f vars db = (rels : Shapes) × (type_fault rels f vars ≡ None) × HasShapes rels db

pub answers_found : (f : Formula) (vars : TypedVars) (db : Instance) (form solved : Formula) → IsTyped f vars db → distinct_vars vars ≡ true → form ≡ normal f → IsForm form (Some solved)
    → ascending row_cmp (flat_map (rows_given (domain f db) vars) (solutions_over (domain f db) db solved [])) ≡ answers f vars db
answers_found f vars db form solved (rels, typed, fits) once is found =
    let known = form_safe (normal f) solved (subst (λ g. IsForm g (Some solved)) is found) in
    ap (λ g. ascending row_cmp (flat_map (rows_given (domain f db) vars) (solutions_over (domain f db) db g []))) known.1 ∙ given_answers rels vars f db typed fits known.0 once

pub solved_found : (f : Formula) (db : Instance) (form solved : Formula) → IsTyped f [] db → form ≡ normal f → IsForm form (Some solved)
    → not (is_empty (solutions_over (domain f db) db solved [])) ≡ holds f db []
solved_found f db form solved (rels, typed, fits) is found =
    let known = form_safe (normal f) solved (subst (λ g. IsForm g (Some solved)) is found) in
    ap (λ g. not (is_empty (solutions_over (domain f db) db g []))) known.1 ∙ solved_holds rels f db typed fits known.0

pub denied_found : (f : Formula) (db : Instance) (form solved : Formula) → IsTyped f [] db → form ≡ normal (Not f) → IsForm form (Some solved)
    → not (not (is_empty (solutions_over (domain f db) db solved []))) ≡ holds f db []
denied_found f db form solved (rels, typed, fits) is found =
    let known = form_safe (normal (Not f)) solved (subst (λ g. IsForm g (Some solved)) is found) in
    ap (λ g. not (not (is_empty (solutions_over (domain f db) db g [])))) known.1 ∙ denied_holds rels f db typed fits known.0
