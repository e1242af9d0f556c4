-- The solutions of a formula that is safe from left to right are sound and complete for what holds.
use Rattle.std.proofs.Common.{◌≡◌, ℕ, inl, inr, ⊎_elim, true, false, cond, not, ◌&&◌, ◌||◌, List, [], ◌∷◌, ◌++◌, map, refl, ap, sym, ◌∙◌, subst, Some}
use Rattle.std.specs.Prelude.{slice_index_or}
use Rattle.std.specs.Ordering.{is_eq}
use Rattle.std.specs.Cmp.{Equal-is, tied_itself}
use Rattle.std.specs.List.{list_any, list_all, flat_map, AllByRecursion}
use Rattle.std.proofs.lemmas.Bool.{and_parts, and_from, or_cases, or_left, or_right, true≢false, not-true, not_from_false, false_from_ne_true}
use Rattle.dbn_value.specs.Members.{In}
use Rattle.dbn_value.proofs.MemberLaws.{any_in, in_any, all_at, all_from, fails_at, in_append, append_left, append_right, in_flat, flat_in, recursion_from}
use Rattle.dbn_value.specs.Order.{value_cmp, row_cmp, value_total, rows_total, exact_values, exact_rows}
use Rattle.dbn_value.specs.declared.value.Value.{Value}
use Rattle.dbn_value.specs.declared.value.ColType.{ColType}
use Rattle.dbn_value.specs.declared.term.Var.{Var}
use Rattle.dbn_value.specs.declared.term.Term.{Term}
use Rattle.dbn_value.specs.declared.term.Term.TheVariants as term
use Rattle.dbn_value.specs.declared.term.Cmp.{Cmp}
use Rattle.dbn_value.specs.declared.term.Cmp.TheVariants as cmp
use Rattle.dbn_formula.specs.Variables.{TypedVars, is_in, binds}
use Rattle.dbn_formula.specs.Holds.{Env, Domain, Instance, lookup, value_of, meets, row_eq, holds_over}
use Rattle.dbn_formula.specs.Free.{variable_of, occurrences}
use Rattle.dbn_formula.specs.Answers.{constants}
use Rattle.dbn_formula.specs.Typing.{Shapes, entered, types_fit}
use Rattle.dbn_formula.specs.Distinct.{distinct_vars, distinct}
use Rattle.dbn_formula.specs.Safe.{all_in, known, test_safe, in_turn, safe_in_order, as_level}
use Rattle.dbn_formula.specs.Solve.{is_empty, is_bound, only_if, has_value, term_is, matched, all_run, choosable, dropped, chosen, solutions_over}
use Rattle.dbn_formula.specs.Ready.{IsValued, AreValued, RowsIn, ValuesIn, Covers, Ready}
use Rattle.dbn_formula.specs.declared.formula.Formula.{Formula}
use Rattle.dbn_formula.specs.declared.formula.Formula.TheVariants.{Atom, Test, And, Or, Not, Exists}
use Rattle.dbn_formula.proofs.Induction.{induction}
use Rattle.dbn_formula.proofs.HoldsLaws.{holds_atom, holds_test, holds_and, holds_or, holds_not, holds_exists}
use Rattle.dbn_formula.proofs.FreeLaws.{occurrences_atom, occurrences_test, occurrences_and, occurrences_or, occurrences_not, occurrences_exists}
use Rattle.dbn_formula.proofs.ConstantsLaws.{constants_and, constants_or, constants_not, constants_exists}
use Rattle.dbn_formula.proofs.TypingLaws.{types_and, types_or, types_not, types_exists}
use Rattle.dbn_formula.proofs.DistinctLaws.{distinct_and, distinct_or, distinct_not, distinct_exists}
use Rattle.dbn_formula.proofs.SafeLaws.{in_order_test, in_order_and, in_order_or, in_order_not, in_order_implies, in_order_exists, in_order_forall}
use Rattle.dbn_formula.proofs.SolveLaws.{solve_atom, solve_test, solve_and, solve_or, solve_not, solve_exists}
use Rattle.dbn_formula.proofs.Depends.{depends}
use Rattle.dbn_formula.proofs.VariableLaws.{in_of_is, in_bound, in_unhidden, unhidden_in}
use Rattle.dbn_formula.proofs.Choices.{KeepsValues, Choice, choice_out, choice_in, entered_own, entered_binds, valued_inside}
use Rattle.dbn_formula.proofs.Bounded.{bounded, inner_scope, joined}
use Rattle.dbn_formula.proofs.Environments.{Step, Found, in_only_if, only_if_in, keeps_itself, step_none, step_then, step_alike, value_kept, term_sound, term_complete, matched_sound, matched_complete, lookup_dropped, bound_dropped, dropped_bound}

pub empty_is : {A : Type 0} (xs : List A) → is_empty xs ≡ true → (x : A) → In x xs → ⊥
empty_is [] e x at = at
empty_is (y ∷ ys) e x at = true≢false (sym e)

empty_from : {A : Type 0} (xs : List A) → ((x : A) → In x xs → ⊥) → is_empty xs ≡ true
empty_from [] none = refl
empty_from (y ∷ ys) none = absurd (none y (inl refl))

filled : {A : Type 0} (xs : List A) → is_empty xs ≡ false → (x : A) × In x xs
filled [] e = absurd (true≢false e)
filled (y ∷ ys) e = (y, inl refl)

some_same : {A : Type 0} (a b : A) → Some a ≡ Some b → a ≡ b
some_same a b e = cc

-- a quantified variable with a value inside its quantifier has it in the domain of its own type
pub own_domain : (dom : Domain) (vars scope : TypedVars) (y : Var × ColType) (v : Value) → distinct_vars vars ≡ true → In y vars → IsValued dom (entered vars scope) (term.Var y.0) v → In v (dom y.1)
own_domain dom vars scope y v once at valued =
    subst (λ type. In v (dom type)) (some_same valued.type y.1 (sym valued.is ∙ entered_own vars scope y once at)) valued.within

-- a known term has a value in an environment that covers the bound variables
known_value : (bound : List Var) (env : Env) (a : Term) → Covers bound env → known bound a ≡ true → has_value env a ≡ true
known_value bound env (term.Var x) covers e = covers.has x (in_of_is x bound e)
known_value bound env (term.Const v) covers e = refl

value_bound : (a : Term) (env : Env) → has_value env a ≡ true → (x : Var) → In x (variable_of a) → is_bound env x ≡ true
value_bound (term.Var y) env e x (inl here) = subst (λ z. is_bound env z ≡ true) (sym here) e
value_bound (term.Var y) env e x (inr there) = absurd there
value_bound (term.Const v) env e x at = absurd at

both_bound : (left right : Term) (env : Env) → has_value env left ≡ true → has_value env right ≡ true → (x : Var) → In x (variable_of left ++ variable_of right) → is_bound env x ≡ true
both_bound left right env l r x at = ⊎_elim (value_bound left env l x) (value_bound right env r x) (in_append x (variable_of left) (variable_of right) at)

equal_meets : (v w : Value) → v ≡ w → meets cmp.Eq (value_cmp v w) ≡ true
equal_meets v w e = subst (λ u. is_eq (value_cmp v u) ≡ true) e (ap is_eq (tied_itself value_total v))

meets_equal : (v w : Value) → meets cmp.Eq (value_cmp v w) ≡ true → v ≡ w
meets_equal v w e = exact_values v w ((Equal-is (value_cmp v w)).0 e)

-- what t keeps of g it keeps of an environment that g extends
keeps_through : (e g t : Env) (vars : List Var) → Step vars e g → KeepsValues g t → KeepsValues e t
keeps_through e g t vars step keeps = record { each = λ x b. keeps.each x (step.old x b) ∙ step.keeps.each x b }

module _ (dom : Domain) (db : Instance) (rels : Shapes) (rows : RowsIn dom rels db) where
  -- a solution extends the environment by the free variables, and the formula holds for it
  pub record Sound (f : Formula) (e g : Env) : Type 0 where
    pub step : Step (occurrences f) e g
    pub holds : holds_over dom db f g ≡ true

  -- each solution is sound, and wherever the formula holds there is a solution with the same values
  pub record Solves (f : Formula) (e : Env) : Type 0 where
    pub sound : (g : Env) → In g (solutions_over dom db f e) → Sound f e g
    pub complete : (t : Env) → KeepsValues e t → holds_over dom db f t ≡ true → Found (solutions_over dom db f e) t

  abbrev pub Solved : Formula → Type 0
  Solved f = (scope : TypedVars) (bound : List Var) (e : Env) → Ready dom rels f scope bound e → Solves f e

  -- the formula holds for g where it holds for an environment that g extends and that has all free variables
  still_holds : (f : Formula) (e m g : Env) → Sound f e m → KeepsValues m g → holds_over dom db f g ≡ true
  still_holds f e m g sound keeps = depends dom db f g m (λ x at. keeps.each x (sound.step.new x at)) ∙ sound.holds

  -- ---- atoms and comparisons

  at_atom : (rel : ℕ) (terms : List Term) → Solved (Atom rel terms)
  at_atom rel terms scope bound e ready = record {
    sound = λ g at.
        let found = in_flat (λ row. matched terms row e) g (slice_index_or db rel []) (subst (In g) (solve_atom dom db rel terms e) at) in
        let match = matched_sound terms found.0 e g found.2 in
        record {
          step = subst (λ xs. Step xs e g) (sym (occurrences_atom rel terms)) match.step;
          holds =
              holds_atom dom db rel terms g
              ∙ in_any (λ row. row_eq row (map (value_of g) terms)) found.0 (slice_index_or db rel []) found.1
              (subst (λ row. row_eq found.0 row ≡ true) (sym match.values) (ap is_eq (tied_itself rows_total found.0)));
        };
    complete = λ t keeps e_t.
        let found = any_in (λ row. row_eq row (map (value_of t) terms)) (slice_index_or db rel []) (sym (holds_atom dom db rel terms t) ∙ e_t) in
        let same : found.0 ≡ map (value_of t) terms = exact_rows found.0 (map (value_of t) terms) ((Equal-is (row_cmp found.0 (map (value_of t) terms))).0 found.2) in
        let match = matched_complete terms e t keeps in
        record {
          env = match.env;
          at = subst (In match.env) (sym (solve_atom dom db rel terms e))
              (flat_in (λ row. matched terms row e) match.env found.0 (slice_index_or db rel []) found.1 (subst (λ row. In match.env (matched terms row e)) (sym same) match.at));
          keeps = match.keeps;
        };
  }

  -- a comparison that is tested, where both sides are known
  tested_both : (c : Cmp) (left right : Term) (e : Env) → has_value e left ≡ true → has_value e right ≡ true
      → solutions_over dom db (Test c left right) e ≡ only_if (meets c (value_cmp (value_of e left) (value_of e right))) e → Solves (Test c left right) e
  tested_both c left right e l r is = record {
    sound = λ g at.
        let found = in_only_if (meets c (value_cmp (value_of e left) (value_of e right))) e g (subst (In g) is at) in
        subst (Sound (Test c left right) e) (sym found.0) (record {
          step = subst (λ xs. Step xs e e) (sym (occurrences_test c left right)) (step_none (variable_of left ++ variable_of right) e (both_bound left right e l r));
          holds = holds_test dom db c left right e ∙ found.1;
        });
    complete = λ t keeps e_t. record {
      env = e;
      at = subst (In e) (sym is) (only_if_in (meets c (value_cmp (value_of e left) (value_of e right))) e
          (ap (λ v. meets c (value_cmp v (value_of e right))) (sym (value_kept left e t keeps l)) ∙ ap (λ v. meets c (value_cmp (value_of t left) v)) (sym (value_kept right e t keeps r))
          ∙ sym (holds_test dom db c left right t) ∙ e_t));
      keeps = keeps;
    };
  }

  -- an equation whose right side is known
  right_known : (left right : Term) (e : Env) → has_value e right ≡ true → solutions_over dom db (Test cmp.Eq left right) e ≡ term_is left (value_of e right) e → Solves (Test cmp.Eq left right) e
  right_known left right e r is = record {
    sound = λ g at.
        let given = term_sound left (value_of e right) e g (subst (In g) is at) in
        record {
          step = subst (λ xs. Step xs e g) (sym (occurrences_test cmp.Eq left right))
              (step_alike (variable_of left) (variable_of left ++ variable_of right) e g given.step
              (λ x at. ⊎_elim (λ here. inr here) (λ there. inl (value_bound right e r x there)) (in_append x (variable_of left) (variable_of right) at))
              (λ x at. append_left x (variable_of left) (variable_of right) at));
          holds = holds_test dom db cmp.Eq left right g ∙ equal_meets (value_of g left) (value_of g right) (given.value ∙ sym (value_kept right e g given.step.keeps r));
        };
    complete = λ t keeps e_t.
        let same : value_of t left ≡ value_of e right =
        meets_equal (value_of t left) (value_of t right) (sym (holds_test dom db cmp.Eq left right t) ∙ e_t) ∙ value_kept right e t keeps r in
        let found = term_complete left e t keeps in
        record { env = found.env; at = subst (In found.env) (sym is) (subst (λ v. In found.env (term_is left v e)) same found.at); keeps = found.keeps };
  }

  left_known : (left right : Term) (e : Env) → has_value e left ≡ true → solutions_over dom db (Test cmp.Eq left right) e ≡ term_is right (value_of e left) e → Solves (Test cmp.Eq left right) e
  left_known left right e l is = record {
    sound = λ g at.
        let given = term_sound right (value_of e left) e g (subst (In g) is at) in
        record {
          step = subst (λ xs. Step xs e g) (sym (occurrences_test cmp.Eq left right))
              (step_alike (variable_of right) (variable_of left ++ variable_of right) e g given.step
              (λ x at. ⊎_elim (λ here. inl (value_bound left e l x here)) (λ there. inr there) (in_append x (variable_of left) (variable_of right) at))
              (λ x at. append_right x (variable_of left) (variable_of right) at));
          holds = holds_test dom db cmp.Eq left right g ∙ equal_meets (value_of g left) (value_of g right) (value_kept left e g given.step.keeps l ∙ sym given.value);
        };
    complete = λ t keeps e_t.
        let same : value_of t right ≡ value_of e left =
        sym (meets_equal (value_of t left) (value_of t right) (sym (holds_test dom db cmp.Eq left right t) ∙ e_t)) ∙ value_kept left e t keeps l in
        let found = term_complete right e t keeps in
        record { env = found.env; at = subst (In found.env) (sym is) (subst (λ v. In found.env (term_is right v e)) same found.at); keeps = found.keeps };
  }

  known_sides : (bound : List Var) (left right : Term) (e : Env) → Covers bound e → known bound left && known bound right ≡ true → (has_value e left ≡ true) × (has_value e right ≡ true)
  known_sides bound left right e covers k =
      let parts = and_parts (known bound left) (known bound right) k in
      (known_value bound e left covers parts.0, known_value bound e right covers parts.1)

  equation : (left right : Term) (bound : List Var) (e : Env) → Covers bound e → known bound left || known bound right ≡ true → Solves (Test cmp.Eq left right) e
  equation left right bound e covers k =
      elim (has_value e right) as (λ b. has_value e right ≡ b → Solves (Test cmp.Eq left right) e) [
        | true ↦ λ r.
            right_known left right e r (solve_test dom db cmp.Eq left right e ∙ ap (λ b. cond b (term_is left (value_of e right) e) (term_is right (value_of e left) e)) r)
        | false ↦ λ r.
            left_known left right e
            (⊎_elim (λ l. known_value bound e left covers l) (λ there. absurd (true≢false (sym (known_value bound e right covers there) ∙ r))) (or_cases (known bound left) (known bound right) k))
            (solve_test dom db cmp.Eq left right e ∙ ap (λ b. cond b (term_is left (value_of e right) e) (term_is right (value_of e left) e)) r)
      ] refl

  comparison : (c : Cmp) (left right : Term) (bound : List Var) (e : Env) → Covers bound e → test_safe c left right bound ≡ true → Solves (Test c left right) e
  comparison cmp.Eq left right bound e covers k = equation left right bound e covers k
  comparison cmp.Ne left right bound e covers k = let sides = known_sides bound left right e covers k in tested_both cmp.Ne left right e sides.0 sides.1 (solve_test dom db cmp.Ne left right e)
  comparison cmp.Lt left right bound e covers k = let sides = known_sides bound left right e covers k in tested_both cmp.Lt left right e sides.0 sides.1 (solve_test dom db cmp.Lt left right e)
  comparison cmp.Le left right bound e covers k = let sides = known_sides bound left right e covers k in tested_both cmp.Le left right e sides.0 sides.1 (solve_test dom db cmp.Le left right e)
  comparison cmp.Gt left right bound e covers k = let sides = known_sides bound left right e covers k in tested_both cmp.Gt left right e sides.0 sides.1 (solve_test dom db cmp.Gt left right e)
  comparison cmp.Ge left right bound e covers k = let sides = known_sides bound left right e covers k in tested_both cmp.Ge left right e sides.0 sides.1 (solve_test dom db cmp.Ge left right e)

  -- ---- `and`

  -- what is ready for all conjuncts from left to right
  record ReadyAll (fs : List Formula) (scope : TypedVars) (bound : List Var) (e : Env) : Type 0 where
    safe_here : in_turn (map as_level fs) bound ≡ true
    typed : list_all (λ f. types_fit rels f scope) fs ≡ true
    once : list_all distinct fs ≡ true
    scoped : (x : Var) → In x (flat_map occurrences fs) → binds scope x ≡ true
    constants_in : ValuesIn dom (flat_map constants fs)
    covers : Covers bound e
    valued : AreValued dom scope bound e

  first_ready : (f : Formula) (fs : List Formula) (scope : TypedVars) (bound : List Var) (e : Env) → ReadyAll (f ∷ fs) scope bound e → Ready dom rels f scope bound e
  first_ready f fs scope bound e ready = record {
    safe_here = (and_parts (safe_in_order f bound) (in_turn (map as_level fs) (bound ++ occurrences f)) ready.safe_here).0;
    typed = (and_parts (types_fit rels f scope) (list_all (λ g. types_fit rels g scope) fs) ready.typed).0;
    once = (and_parts (distinct f) (list_all distinct fs) ready.once).0;
    scoped = λ x at. ready.scoped x (append_left x (occurrences f) (flat_map occurrences fs) at);
    constants_in = record { each = λ v at. ready.constants_in.each v (append_left v (constants f) (flat_map constants fs) at) };
    covers = ready.covers;
    valued = ready.valued;
  }

  -- what has values in e has the same ones in an environment that extends it
  valued_kept : (scope : TypedVars) (bound : List Var) (e g : Env) → Covers bound e → KeepsValues e g → AreValued dom scope bound e → AreValued dom scope bound g
  valued_kept scope bound e g covers keeps valued = record {
    each = λ x at. subst (IsValued dom scope (term.Var x)) (sym (keeps.each x (covers.has x at))) (valued.each x at);
  }

  rest_ready : (f : Formula) (fs : List Formula) (scope : TypedVars) (bound : List Var) (e g : Env) → ReadyAll (f ∷ fs) scope bound e → Sound f e g → ReadyAll fs scope (bound ++ occurrences f) g
  rest_ready f fs scope bound e g ready sound =
      let first = first_ready f fs scope bound e ready in
      let kept : AreValued dom scope bound g = valued_kept scope bound e g ready.covers sound.step.keeps ready.valued in
      record {
        safe_here = (and_parts (safe_in_order f bound) (in_turn (map as_level fs) (bound ++ occurrences f)) ready.safe_here).1;
        typed = (and_parts (types_fit rels f scope) (list_all (λ h. types_fit rels h scope) fs) ready.typed).1;
        once = (and_parts (distinct f) (list_all distinct fs) ready.once).1;
        scoped = λ x at. ready.scoped x (append_right x (occurrences f) (flat_map occurrences fs) at);
        constants_in = record { each = λ v at. ready.constants_in.each v (append_right v (constants f) (flat_map constants fs) at) };
        covers = record {
          has = λ x at. ⊎_elim (λ here. sound.step.old x (ready.covers.has x here)) (λ there. sound.step.new x there) (in_append x bound (occurrences f) at);
          all = λ x b. ⊎_elim (λ start. append_left x bound (occurrences f) (ready.covers.all x start)) (λ new. append_right x bound (occurrences f) new) (sound.step.only x b);
        };
        valued = joined dom db rels rows scope g bound (occurrences f) kept
            (bounded dom db rels rows f scope bound g first.safe_here first.typed first.scoped first.constants_in kept sound.holds);
      }

  record SoundAll (fs : List Formula) (e g : Env) : Type 0 where
    step : Step (flat_map occurrences fs) e g
    holds : list_all (λ f. holds_over dom db f g) fs ≡ true

  all_sound : (fs : List Formula) → AllByRecursion Solved fs → (scope : TypedVars) (bound : List Var) (e : Env) → ReadyAll fs scope bound e
      → (g : Env) → In g (all_run (map (solutions_over dom db) fs) e) → SoundAll fs e g
  all_sound [] each scope bound e ready g (inl here) = subst (SoundAll [] e) (sym here) (record { step = step_none [] e (λ x at. absurd at); holds = refl })
  all_sound [] each scope bound e ready g (inr there) = absurd there
  all_sound (f ∷ fs) each scope bound e ready g at =
      let found = in_flat (all_run (map (solutions_over dom db) fs)) g (solutions_over dom db f e) at in
      let m : Env = found.0 in
      let first : Sound f e m = (each.0 scope bound e (first_ready f fs scope bound e ready)).sound m found.1 in
      let rest = all_sound fs each.1 scope (bound ++ occurrences f) m (rest_ready f fs scope bound e m ready first) g found.2 in
      record {
        step = step_then (occurrences f) (flat_map occurrences fs) e m g first.step rest.step;
        holds = and_from (holds_over dom db f g) (list_all (λ h. holds_over dom db h g) fs) (still_holds f e m g first rest.step.keeps) rest.holds;
      }

  all_complete : (fs : List Formula) → AllByRecursion Solved fs → (scope : TypedVars) (bound : List Var) (e : Env) → ReadyAll fs scope bound e
      → (t : Env) → KeepsValues e t → list_all (λ f. holds_over dom db f t) fs ≡ true → Found (all_run (map (solutions_over dom db) fs) e) t
  all_complete [] each scope bound e ready t keeps holds = record { env = e; at = inl refl; keeps = keeps }
  all_complete (f ∷ fs) each scope bound e ready t keeps holds =
      let parts = and_parts (holds_over dom db f t) (list_all (λ h. holds_over dom db h t) fs) holds in
      let solves : Solves f e = each.0 scope bound e (first_ready f fs scope bound e ready) in
      let first = solves.complete t keeps parts.0 in
      let rest = all_complete fs each.1 scope (bound ++ occurrences f) first.env (rest_ready f fs scope bound e first.env ready (solves.sound first.env first.at)) t first.keeps parts.1 in
      record {
        env = rest.env;
        at = flat_in (all_run (map (solutions_over dom db) fs)) rest.env first.env (solutions_over dom db f e) first.at rest.at;
        keeps = rest.keeps;
      }

  at_both : (fs : List Formula) → AllByRecursion Solved fs → Solved (And fs)
  at_both fs each scope bound e ready =
      let all : ReadyAll fs scope bound e = record {
        safe_here = sym (in_order_and fs bound) ∙ ready.safe_here;
        typed = sym (types_and rels fs scope) ∙ ready.typed;
        once = sym (distinct_and fs) ∙ ready.once;
        scoped = λ x at. ready.scoped x (subst (In x) (sym (occurrences_and fs)) at);
        constants_in = subst (ValuesIn dom) (constants_and fs) ready.constants_in;
        covers = ready.covers;
        valued = ready.valued;
      } in
      record {
        sound = λ g at.
            let sound = all_sound fs each scope bound e all g (subst (In g) (solve_and dom db fs e) at) in
            record { step = subst (λ xs. Step xs e g) (sym (occurrences_and fs)) sound.step; holds = holds_and dom db fs g ∙ sound.holds };
        complete = λ t keeps holds.
            let found = all_complete fs each scope bound e all t keeps (sym (holds_and dom db fs t) ∙ holds) in
            record { env = found.env; at = subst (In found.env) (sym (solve_and dom db fs e)) found.at; keeps = found.keeps };
      }

  -- ---- `or`

  -- each part is ready, and binds with what was bound the variables of all
  abbrev ReadyPart : List Var → TypedVars → List Var → Env → Formula → Type 0
  ReadyPart all scope bound e f = Ready dom rels f scope bound e × ((x : Var) → In x all → In x (bound ++ occurrences f)) × ((x : Var) → In x (occurrences f) → In x all)

  any_sound : (all : List Var) (fs : List Formula) → AllByRecursion Solved fs → (scope : TypedVars) (bound : List Var) (e : Env) → AllByRecursion (ReadyPart all scope bound e) fs
      → (g : Env) → In g (flat_map (λ f. solutions_over dom db f e) fs) → Step all e g × (list_any (λ f. holds_over dom db f g) fs ≡ true)
  any_sound all [] each scope bound e ready g at = absurd at
  any_sound all (f ∷ fs) each scope bound e ready g at =
      ⊎_elim
      (λ here.
      let sound : Sound f e g = (each.0 scope bound e ready.0.0).sound g here in (
        step_alike (occurrences f) all e g sound.step
            (λ x within. ⊎_elim (λ old. inl (ready.0.0.covers.has x old)) (λ new. inr new) (in_append x bound (occurrences f) (ready.0.1 x within))) ready.0.2,
        or_left (holds_over dom db f g) (list_any (λ h. holds_over dom db h g) fs) sound.holds,
      ))
      (λ there.
      let more = any_sound all fs each.1 scope bound e ready.1 g there in
      (more.0, or_right (holds_over dom db f g) (list_any (λ h. holds_over dom db h g) fs) more.1))
      (in_append g (solutions_over dom db f e) (flat_map (λ h. solutions_over dom db h e) fs) at)

  any_complete : (all : List Var) (fs : List Formula) → AllByRecursion Solved fs → (scope : TypedVars) (bound : List Var) (e : Env) → AllByRecursion (ReadyPart all scope bound e) fs
      → (t : Env) → KeepsValues e t → list_any (λ f. holds_over dom db f t) fs ≡ true → Found (flat_map (λ f. solutions_over dom db f e) fs) t
  any_complete all [] each scope bound e ready t keeps holds = absurd (true≢false (sym holds))
  any_complete all (f ∷ fs) each scope bound e ready t keeps holds =
      ⊎_elim
      (λ here.
      let found = (each.0 scope bound e ready.0.0).complete t keeps here in
      record { env = found.env; at = append_left found.env (solutions_over dom db f e) (flat_map (λ h. solutions_over dom db h e) fs) found.at; keeps = found.keeps })
      (λ there.
      let found = any_complete all fs each.1 scope bound e ready.1 t keeps there in
      record { env = found.env; at = append_right found.env (solutions_over dom db f e) (flat_map (λ h. solutions_over dom db h e) fs) found.at; keeps = found.keeps })
      (or_cases (holds_over dom db f t) (list_any (λ h. holds_over dom db h t) fs) holds)

  parts_ready : (fs : List Formula) (scope : TypedVars) (bound : List Var) (e : Env) → Ready dom rels (Or fs) scope bound e → AllByRecursion (ReadyPart (flat_map occurrences fs) scope bound e) fs
  parts_ready fs scope bound e ready =
      recursion_from (ReadyPart (flat_map occurrences fs) scope bound e) fs (λ f at.
      let safes = and_parts (safe_in_order f bound) (all_in (flat_map occurrences fs) (bound ++ occurrences f))
      (all_at (λ g. safe_in_order g bound && all_in (flat_map occurrences fs) (bound ++ occurrences g)) f fs (sym (in_order_or fs bound) ∙ ready.safe_here) at) in (
        record {
          safe_here = safes.0;
          typed = all_at (λ g. types_fit rels g scope) f fs (sym (types_or rels fs scope) ∙ ready.typed) at;
          once = all_at distinct f fs (sym (distinct_or fs) ∙ ready.once) at;
          scoped = λ x here. ready.scoped x (subst (In x) (sym (occurrences_or fs)) (flat_in occurrences x f fs at here));
          constants_in = record { each = λ v here. ready.constants_in.each v (subst (In v) (sym (constants_or fs)) (flat_in constants v f fs at here)) };
          covers = ready.covers;
          valued = ready.valued;
        },
        λ x here. in_of_is x (bound ++ occurrences f) (all_at (λ y. is_in y (bound ++ occurrences f)) x (flat_map occurrences fs) safes.1 here),
        λ x here. flat_in occurrences x f fs at here,
      ))

  at_either : (fs : List Formula) → AllByRecursion Solved fs → Solved (Or fs)
  at_either fs each scope bound e ready =
      let parts = parts_ready fs scope bound e ready in
      record {
        sound = λ g at.
            let sound = any_sound (flat_map occurrences fs) fs each scope bound e parts g (subst (In g) (solve_or dom db fs e) at) in
            record { step = subst (λ xs. Step xs e g) (sym (occurrences_or fs)) sound.0; holds = holds_or dom db fs g ∙ sound.1 };
        complete = λ t keeps holds.
            let found = any_complete (flat_map occurrences fs) fs each scope bound e parts t keeps (sym (holds_or dom db fs t) ∙ holds) in
            record { env = found.env; at = subst (In found.env) (sym (solve_or dom db fs e)) found.at; keeps = found.keeps };
      }

  -- ---- `not`

  at_denial : (f : Formula) → Solved f → Solved (Not f)
  at_denial f known_f scope bound e ready =
      let safes = and_parts (all_in (occurrences f) bound) (safe_in_order f bound) (sym (in_order_not f bound) ∙ ready.safe_here) in
      let has : (x : Var) → In x (occurrences f) → is_bound e x ≡ true = λ x at. ready.covers.has x (in_of_is x bound (all_at (λ y. is_in y bound) x (occurrences f) safes.0 at)) in
      let solves : Solves f e = known_f scope bound e (record {
        safe_here = safes.1;
        typed = sym (types_not rels f scope) ∙ ready.typed;
        once = sym (distinct_not f) ∙ ready.once;
        scoped = λ x at. ready.scoped x (subst (In x) (sym (occurrences_not f)) at);
        constants_in = subst (ValuesIn dom) (constants_not f) ready.constants_in;
        covers = ready.covers;
        valued = ready.valued;
      }) in
      record {
        sound = λ g at.
            let found = in_only_if (is_empty (solutions_over dom db f e)) e g (subst (In g) (solve_not dom db f e) at) in
            subst (Sound (Not f) e) (sym found.0) (record {
              step = subst (λ xs. Step xs e e) (sym (occurrences_not f)) (step_none (occurrences f) e has);
              holds = holds_not dom db f e ∙ not_from_false (holds_over dom db f e) (false_from_ne_true (holds_over dom db f e) (λ holds.
                  let there = solves.complete e (keeps_itself e) holds in empty_is (solutions_over dom db f e) found.1 there.env there.at));
            });
        complete = λ t keeps holds.
            let fails : holds_over dom db f t ≡ false = not-true (holds_over dom db f t) (sym (holds_not dom db f t) ∙ holds) in
            record {
              env = e;
              at = subst (In e) (sym (solve_not dom db f e)) (only_if_in (is_empty (solutions_over dom db f e)) e (empty_from (solutions_over dom db f e) (λ g at.
                  let sound : Sound f e g = solves.sound g at in
                  let same : holds_over dom db f t ≡ holds_over dom db f g = depends dom db f t g (λ x within. keeps.each x (has x within) ∙ sym (sound.step.keeps.each x (has x within))) in
                  true≢false (sym sound.holds ∙ sym same ∙ fails))));
              keeps = keeps;
            };
      }

  -- ---- `exists`

  at_some : (vars : TypedVars) (f : Formula) → Solved f → Solved (Exists vars f)
  unfolding chosen
  at_some vars f known_f scope bound e ready =
      let safes = and_parts (not (list_any (binds vars) bound)) (safe_in_order f bound) (sym (in_order_exists vars f bound) ∙ ready.safe_here) in
      let onces = and_parts (distinct_vars vars) (distinct f) (sym (distinct_exists vars f) ∙ ready.once) in
      let free_in : (x : Var) → In x bound → binds vars x ≡ false = λ x at. fails_at (binds vars) x bound (not-true (list_any (binds vars) bound) safes.0) at in
      let free_of : (x : Var) → is_bound e x ≡ true → binds vars x ≡ false = λ x b. free_in x (ready.covers.all x b) in
      let inner_scoped : (x : Var) → In x (occurrences f) → binds (entered vars scope) x ≡ true = λ x at. entered_binds vars scope x (inner_scope vars f scope ready.scoped x at) in
      let inner_typed : types_fit rels f (entered vars scope) ≡ true = sym (types_exists rels vars f scope) ∙ ready.typed in
      let inner_constants : ValuesIn dom (constants f) = subst (ValuesIn dom) (constants_exists vars f) ready.constants_in in
      let inner_valued : AreValued dom (entered vars scope) bound e = record { each = λ x at. valued_inside dom vars scope x (lookup e x) (free_in x at) (ready.valued.each x at) } in
      let solves : Solves f e = known_f (entered vars scope) bound e (record {
        safe_here = safes.1;
        typed = inner_typed;
        once = onces.1;
        scoped = inner_scoped;
        constants_in = inner_constants;
        covers = ready.covers;
        valued = inner_valued;
      }) in
      record {
        sound = λ g at.
            let found = in_flat (chosen dom vars) g (solutions_over dom db f e) (subst (In g) (solve_exists dom db vars f e) at) in
            let m : Env = found.0 in
            let body : Sound f e m = solves.sound m found.1 in
            let pick = in_only_if (choosable dom vars m) (dropped vars m) g found.2 in
            let bounded_here : AreValued dom (entered vars scope) (occurrences f) m =
            bounded dom db rels rows f (entered vars scope) bound m safes.1 inner_typed inner_scoped inner_constants
            (valued_kept (entered vars scope) bound e m ready.covers body.step.keeps inner_valued) body.holds in
            let choices : AllByRecursion (Choice dom m) vars = recursion_from (Choice dom m) vars (λ y at.
            elim (is_bound m y.0) as (λ b. is_bound m y.0 ≡ b → Choice dom m y) [
              | true ↦ λ b.
                  let occurs : In y.0 (occurrences f) =
                  ⊎_elim (λ start. absurd (true≢false (sym (in_bound vars y at) ∙ free_of y.0 start))) (λ new. new) (body.step.only y.0 b) in
                  let valued = bounded_here.each y.0 occurs in
                  record {
                    value = lookup m y.0;
                    within = own_domain dom vars scope y (lookup m y.0) onces.0 at valued;
                    own = λ b. refl;
                  }
              | false ↦ λ b.
                  let room = ⊎_elim (λ yes_bound. absurd (true≢false (sym yes_bound ∙ b))) (λ e. e)
                  (or_cases (is_bound m y.0) (not (is_empty (dom y.1))) (all_at (λ z. is_bound m z.0 || not (is_empty (dom z.1))) y vars pick.1 at)) in
                  let some_value = filled (dom y.1) (not-true (is_empty (dom y.1)) room) in
                  record { value = some_value.0; within = some_value.1; own = λ known. absurd (true≢false (sym known ∙ b)) }
            ] refl) in
            subst (Sound (Exists vars f) e) (sym pick.0) (record {
              step = record {
                keeps = record { each = λ x b. lookup_dropped vars m x (free_of x b) ∙ body.step.keeps.each x b };
                old = λ x b. dropped_bound vars m x (body.step.old x b) (free_of x b);
                new = λ x within.
                    let free_here = in_unhidden vars x (occurrences f) (subst (In x) (occurrences_exists vars f) within) in
                    dropped_bound vars m x (body.step.new x free_here.0) free_here.1;
                only = λ x b.
                    let stays = bound_dropped vars m x b in
                    ⊎_elim (λ start. inl start) (λ new. inr (subst (In x) (sym (occurrences_exists vars f)) (unhidden_in vars x (occurrences f) new stays.1))) (body.step.only x stays.0);
              };
              holds = holds_exists dom db vars f (dropped vars m)
                  ∙ choice_in dom vars (holds_over dom db f) m (dropped vars m) (λ u keeps. still_holds f e m u body keeps) choices (λ x b free. lookup_dropped vars m x free);
            });
        complete = λ t keeps holds.
            let choice = choice_out dom vars scope (holds_over dom db f) t (sym (holds_exists dom db vars f t) ∙ holds) in
            let u : Env = choice.0 in
            let found = solves.complete u (record { each = λ x b. choice.1.others x (free_of x b) ∙ keeps.each x b }) choice.1.passes in
            let m : Env = found.env in
            let can : choosable dom vars m ≡ true = all_from (λ z. is_bound m z.0 || not (is_empty (dom z.1))) vars (λ y at.
            let theirs = choice.1.theirs y.0 (in_bound vars y at) in
            let there : In (lookup u y.0) (dom y.1) = own_domain dom vars scope y (lookup u y.0) onces.0 at theirs in
            or_right (is_bound m y.0) (not (is_empty (dom y.1))) (not_from_false (is_empty (dom y.1)) (false_from_ne_true (is_empty (dom y.1)) (λ none. empty_is (dom y.1) none (lookup u y.0) there)))) in
            record {
              env = dropped vars m;
              at = subst (In (dropped vars m)) (sym (solve_exists dom db vars f e))
                  (flat_in (chosen dom vars) (dropped vars m) m (solutions_over dom db f e) found.at (only_if_in (choosable dom vars m) (dropped vars m) can));
              keeps = record {
                each = λ x b.
                    let stays = bound_dropped vars m x b in
                    sym (choice.1.others x stays.1) ∙ found.keeps.each x stays.0 ∙ sym (lookup_dropped vars m x stays.1);
              };
            };
      }

  pub solved : (f : Formula) → Solved f
  solved = induction Solved (record {
    atom = at_atom;
    test = λ c left right scope bound e ready. comparison c left right bound e ready.covers (sym (in_order_test c left right bound) ∙ ready.safe_here);
    both = at_both;
    either = at_either;
    denial = at_denial;
    implication = λ f g here there scope bound e ready. absurd (true≢false (sym ready.safe_here ∙ in_order_implies f g bound));
    some = at_some;
    every = λ vars f here scope bound e ready. absurd (true≢false (sym ready.safe_here ∙ in_order_forall vars f bound));
  })
