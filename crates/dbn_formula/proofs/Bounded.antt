-- Where a formula that is safe from left to right holds, its free variables have values in the domain.
use Rattle.std.proofs.Common.{◌≡◌, ℕ, ◌⊎◌, inl, inr, ⊎_elim, true, false, not, ◌&&◌, ◌||◌, List, [], ◌∷◌, ◌++◌, map, refl, ap, sym, ◌∙◌, subst, Option, Some, None}
use Rattle.std.specs.Prelude.{slice_index_or}
use Rattle.std.specs.Cmp.{Equal-is}
use Rattle.std.specs.List.{list_any, list_all, flat_map, AllByRecursion}
use Rattle.std.proofs.lemmas.Bool.{and_parts, or_cases, true≢false, not-true}
use Rattle.dbn_value.specs.Members.{In}
use Rattle.dbn_value.proofs.MemberLaws.{any_in, all_at, fails_at, in_append, append_left, append_right}
use Rattle.dbn_value.specs.Order.{value_cmp, row_cmp, value_type, exact_values, exact_rows}
use Rattle.dbn_value.specs.declared.value.Value.{Value}
use Rattle.dbn_value.specs.declared.value.ColType.{ColType}
use Rattle.dbn_value.specs.declared.term.Var.{Var}
use Rattle.dbn_value.specs.declared.term.Term.{Term}
use Rattle.dbn_value.specs.declared.term.Term.TheVariants as term
use Rattle.dbn_value.specs.declared.term.Cmp.{Cmp}
use Rattle.dbn_value.specs.declared.term.Cmp.TheVariants as cmp
use Rattle.dbn_formula.specs.Variables.{TypedVars, type_eq, is_in, binds}
use Rattle.dbn_formula.specs.Holds.{Env, Domain, Instance, lookup, value_of, meets, row_eq, holds_over}
use Rattle.dbn_formula.specs.Free.{variable_of, occurrences}
use Rattle.dbn_formula.specs.Answers.{constant_of, constants}
use Rattle.dbn_formula.specs.Typing.{Shapes, entered, type_in, term_type, agree, terms_fit, sides_fit, types_fit}
use Rattle.dbn_formula.specs.Safe.{all_in, known, test_safe, in_turn, safe_in_order, as_level}
use Rattle.dbn_formula.specs.Ready.{IsValued, AreValued, RowIn, RowsIn, ValuesIn}
use Rattle.dbn_formula.specs.declared.formula.Formula.{Formula}
use Rattle.dbn_formula.specs.declared.formula.Formula.TheVariants.{Atom, Test, And, Or, Not, Exists}
use Rattle.dbn_formula.proofs.Induction.{induction}
use Rattle.dbn_formula.proofs.HoldsLaws.{holds_atom, holds_test, holds_and, holds_or, holds_exists}
use Rattle.dbn_formula.proofs.FreeLaws.{occurrences_atom, occurrences_test, occurrences_and, occurrences_or, occurrences_not, occurrences_exists}
use Rattle.dbn_formula.proofs.ConstantsLaws.{constants_test, constants_and, constants_or, constants_exists}
use Rattle.dbn_formula.proofs.TypingLaws.{types_atom, types_test, types_and, types_or, types_exists}
use Rattle.dbn_formula.proofs.SafeLaws.{in_order_test, in_order_and, in_order_or, in_order_not, in_order_implies, in_order_exists, in_order_forall}
use Rattle.dbn_formula.proofs.VariableLaws.{type_same, type_itself, in_of_is, in_unhidden, unhidden_in}
use Rattle.dbn_formula.proofs.Choices.{choice_out, type_of_bound, entered_binds, valued_inside, valued_outside}

-- ---- types that agree

-- a variable of the scope whose type agrees has just that type
pub agrees_is : (scope : TypedVars) (x : Var) (type : ColType) → binds scope x ≡ true → agree (type_in scope x) (Some type) ≡ true → type_in scope x ≡ Some type
agrees_is scope x type b e =
    let own = type_of_bound scope x b in
    own.1 ∙ ap Some (type_same own.0 type (subst (λ o. agree o (Some type) ≡ true) own.1 e))

agree_turned : (a b : Option ColType) → agree a b ≡ true → agree b a ≡ true
agree_turned (Some a) (Some b) e = subst (λ c. type_eq c a ≡ true) (type_same a b e) (type_itself a)
agree_turned (Some a) None e = refl
agree_turned None (Some b) e = refl
agree_turned None None e = refl

-- ---- atoms

pub valued_terms : (dom : Domain) (scope : TypedVars) (env : Env) (terms : List Term) (shape : List ColType) → RowIn dom (map (value_of env) terms) shape
    → terms_fit scope terms shape ≡ true → (x : Var) → In x (flat_map variable_of terms) → binds scope x ≡ true → IsValued dom scope (term.Var x) (lookup env x)
valued_terms dom scope env [] shape cells fit x at b = absurd at
valued_terms dom scope env (a ∷ terms) [] cells fit x at b = absurd cells
valued_terms dom scope env (term.Var y ∷ terms) (type ∷ shape) cells fit x at b =
    let parts = and_parts (agree (type_in scope y) (Some type)) (terms_fit scope terms shape) fit in
    ⊎_elim
    (λ here.
    let agrees : agree (type_in scope x) (Some type) ≡ true = subst (λ z. agree (type_in scope z) (Some type) ≡ true) (sym here) parts.0 in
    record { type = type; is = agrees_is scope x type b agrees; within = subst (λ z. In (lookup env z) (dom type)) (sym here) cells.0 })
    (λ there. valued_terms dom scope env terms shape cells.1 parts.1 x there b)
    at
valued_terms dom scope env (term.Const v ∷ terms) (type ∷ shape) cells fit x at b =
    valued_terms dom scope env terms shape cells.1 (and_parts (agree (Some (value_type v)) (Some type)) (terms_fit scope terms shape) fit).1 x at b

-- ---- comparisons

-- a known term has a value in its domain
pub valued_known : (dom : Domain) (scope : TypedVars) (bound : List Var) (env : Env) (a : Term) → ValuesIn dom (constant_of a) → AreValued dom scope bound env
    → known bound a ≡ true → IsValued dom scope a (value_of env a)
valued_known dom scope bound env (term.Var x) consts valued e = valued.each x (in_of_is x bound e)
valued_known dom scope bound env (term.Const v) consts valued e = record { type = value_type v; is = refl; within = consts.each v (inl refl) }

-- what is equal to a known term has a value there too
pub valued_equal : (dom : Domain) (scope : TypedVars) (env : Env) (a b : Term) → IsValued dom scope a (value_of env a) → agree (term_type scope a) (term_type scope b) ≡ true
    → value_of env a ≡ value_of env b → (x : Var) → In x (variable_of b) → binds scope x ≡ true → IsValued dom scope (term.Var x) (lookup env x)
valued_equal dom scope env a (term.Const v) valued agrees same x at b = absurd at
valued_equal dom scope env a (term.Var y) valued agrees same x (inr there) b = absurd there
valued_equal dom scope env a (term.Var y) valued agrees same x (inl here) b =
    let own : type_in scope y ≡ Some valued.type =
    agrees_is scope y valued.type (subst (λ z. binds scope z ≡ true) here b)
    (agree_turned (Some valued.type) (type_in scope y) (subst (λ o. agree o (type_in scope y) ≡ true) valued.is agrees)) in
    record {
      type = valued.type;
      is = ap (type_in scope) here ∙ own;
      within = subst (λ v. In v (dom valued.type)) (same ∙ ap (lookup env) (sym here)) valued.within;
    }

known_both : (dom : Domain) (scope : TypedVars) (bound : List Var) (env : Env) (left right : Term) → AreValued dom scope bound env → known bound left && known bound right ≡ true
    → (x : Var) → In x (variable_of left ++ variable_of right) → IsValued dom scope (term.Var x) (lookup env x)
known_both dom scope bound env left right valued e x at =
    let parts = and_parts (known bound left) (known bound right) e in
    ⊎_elim (from_known left parts.0 x) (from_known right parts.1 x) (in_append x (variable_of left) (variable_of right) at)
  where
    from_known : (a : Term) → known bound a ≡ true → (x : Var) → In x (variable_of a) → IsValued dom scope (term.Var x) (lookup env x)
    from_known (term.Const v) k x at = absurd at
    from_known (term.Var y) k x (inr there) = absurd there
    from_known (term.Var y) k x (inl here) = valued.each x (subst (λ z. In z bound) (sym here) (in_of_is y bound k))

equal_values : (v w : Value) → meets cmp.Eq (value_cmp v w) ≡ true → v ≡ w
equal_values v w e = exact_values v w ((Equal-is (value_cmp v w)).0 e)

-- a free variable of the body is quantified or in the scope
pub inner_scope : (vars : TypedVars) (f : Formula) (scope : TypedVars) → ((x : Var) → In x (occurrences (Exists vars f)) → binds scope x ≡ true)
    → (x : Var) → In x (occurrences f) → (binds vars x ≡ true) ⊎ (binds scope x ≡ true)
inner_scope vars f scope scoped x at =
    elim (binds vars x) as (λ b. binds vars x ≡ b → (b ≡ true) ⊎ (binds scope x ≡ true)) [
      | true ↦ λ e. inl refl
      | false ↦ λ e. inr (scoped x (subst (In x) (sym (occurrences_exists vars f)) (unhidden_in vars x (occurrences f) at e)))
    ] refl

module _ (dom : Domain) (db : Instance) (rels : Shapes) (rows : RowsIn dom rels db) where
  -- one of the sides of an equation is known
  equation : (scope : TypedVars) (bound : List Var) (env : Env) (left right : Term) → ValuesIn dom (constant_of left ++ constant_of right) → AreValued dom scope bound env
      → known bound left || known bound right ≡ true → agree (term_type scope left) (term_type scope right) ≡ true → value_of env left ≡ value_of env right
      → ((x : Var) → In x (variable_of left ++ variable_of right) → binds scope x ≡ true)
      → (x : Var) → In x (variable_of left ++ variable_of right) → IsValued dom scope (term.Var x) (lookup env x)
  equation scope bound env left right consts valued e agrees same scoped x at =
      let left_in : ValuesIn dom (constant_of left) = record { each = λ v here. consts.each v (append_left v (constant_of left) (constant_of right) here) } in
      let right_in : ValuesIn dom (constant_of right) = record { each = λ v here. consts.each v (append_right v (constant_of left) (constant_of right) here) } in
      ⊎_elim
      (λ l.
      let valued_left : IsValued dom scope left (value_of env left) = valued_known dom scope bound env left left_in valued l in
      ⊎_elim
      (λ here. valued_self dom scope env left valued_left x here)
      (λ there. valued_equal dom scope env left right valued_left agrees same x there (scoped x at))
      (in_append x (variable_of left) (variable_of right) at))
      (λ r.
      let valued_right : IsValued dom scope right (value_of env right) = valued_known dom scope bound env right right_in valued r in
      ⊎_elim
      (λ here. valued_equal dom scope env right left valued_right (agree_turned (term_type scope left) (term_type scope right) agrees) (sym same) x here (scoped x at))
      (λ there. valued_self dom scope env right valued_right x there)
      (in_append x (variable_of left) (variable_of right) at))
      (or_cases (known bound left) (known bound right) e)
    where
      valued_self : (dom : Domain) (scope : TypedVars) (env : Env) (a : Term) → IsValued dom scope a (value_of env a) → (x : Var) → In x (variable_of a) → IsValued dom scope (term.Var x) (lookup env x)
      valued_self dom scope env (term.Const v) valued x at = absurd at
      valued_self dom scope env (term.Var y) valued x (inr there) = absurd there
      valued_self dom scope env (term.Var y) valued x (inl here) = subst (λ z. IsValued dom scope (term.Var z) (lookup env z)) (sym here) valued

  comparison : (c : Cmp) (scope : TypedVars) (bound : List Var) (env : Env) (left right : Term) → ValuesIn dom (constant_of left ++ constant_of right) → AreValued dom scope bound env
      → test_safe c left right bound ≡ true → sides_fit c (term_type scope left) (term_type scope right) ≡ true → meets c (value_cmp (value_of env left) (value_of env right)) ≡ true
      → ((x : Var) → In x (variable_of left ++ variable_of right) → binds scope x ≡ true)
      → (x : Var) → In x (variable_of left ++ variable_of right) → IsValued dom scope (term.Var x) (lookup env x)
  comparison cmp.Eq scope bound env left right consts valued e fit met scoped x at =
      equation scope bound env left right consts valued e fit (equal_values (value_of env left) (value_of env right) met) scoped x at
  comparison cmp.Ne scope bound env left right consts valued e fit met scoped x at = known_both dom scope bound env left right valued e x at
  comparison cmp.Lt scope bound env left right consts valued e fit met scoped x at = known_both dom scope bound env left right valued e x at
  comparison cmp.Le scope bound env left right consts valued e fit met scoped x at = known_both dom scope bound env left right valued e x at
  comparison cmp.Gt scope bound env left right consts valued e fit met scoped x at = known_both dom scope bound env left right valued e x at
  comparison cmp.Ge scope bound env left right consts valued e fit met scoped x at = known_both dom scope bound env left right valued e x at

  -- ---- formulas

  abbrev pub Bounded : Formula → Type 0
  Bounded f = (scope : TypedVars) (bound : List Var) (env : Env) → safe_in_order f bound ≡ true → types_fit rels f scope ≡ true → ((x : Var) → In x (occurrences f) → binds scope x ≡ true)
      → ValuesIn dom (constants f) → AreValued dom scope bound env → holds_over dom db f env ≡ true → AreValued dom scope (occurrences f) env

  pub joined : (scope : TypedVars) (env : Env) (xs ys : List Var) → AreValued dom scope xs env → AreValued dom scope ys env → AreValued dom scope (xs ++ ys) env
  joined scope env xs ys left right = record { each = λ x at. ⊎_elim (left.each x) (right.each x) (in_append x xs ys at) }

  all_bounded : (fs : List Formula) → AllByRecursion Bounded fs → (scope : TypedVars) (bound : List Var) (env : Env) → in_turn (map as_level fs) bound ≡ true
      → list_all (λ f. types_fit rels f scope) fs ≡ true → ((x : Var) → In x (flat_map occurrences fs) → binds scope x ≡ true) → ValuesIn dom (flat_map constants fs)
      → AreValued dom scope bound env → list_all (λ f. holds_over dom db f env) fs ≡ true → AreValued dom scope (flat_map occurrences fs) env
  all_bounded [] each scope bound env turn fit scoped consts valued e = record { each = λ x at. absurd at }
  all_bounded (f ∷ fs) each scope bound env turn fit scoped consts valued e =
      let turns = and_parts (safe_in_order f bound) (in_turn (map as_level fs) (bound ++ occurrences f)) turn in
      let fits = and_parts (types_fit rels f scope) (list_all (λ g. types_fit rels g scope) fs) fit in
      let holds = and_parts (holds_over dom db f env) (list_all (λ g. holds_over dom db g env) fs) e in
      let first : AreValued dom scope (occurrences f) env =
      each.0 scope bound env turns.0 fits.0 (λ x at. scoped x (append_left x (occurrences f) (flat_map occurrences fs) at))
      (record { each = λ v at. consts.each v (append_left v (constants f) (flat_map constants fs) at) }) valued holds.0 in
      joined scope env (occurrences f) (flat_map occurrences fs) first
      (all_bounded fs each.1 scope (bound ++ occurrences f) env turns.1 fits.1 (λ x at. scoped x (append_right x (occurrences f) (flat_map occurrences fs) at))
      (record { each = λ v at. consts.each v (append_right v (constants f) (flat_map constants fs) at) }) (joined scope env bound (occurrences f) valued first) holds.1)

  -- the variables of the part that holds, with those bound before, are those of all parts
  any_bounded : (fs : List Formula) → AllByRecursion Bounded fs → (all : List Var) (scope : TypedVars) (bound : List Var) (env : Env)
      → list_all (λ f. safe_in_order f bound && all_in all (bound ++ occurrences f)) fs ≡ true
      → list_all (λ f. types_fit rels f scope) fs ≡ true → ((x : Var) → In x (flat_map occurrences fs) → binds scope x ≡ true) → ValuesIn dom (flat_map constants fs)
      → AreValued dom scope bound env → list_any (λ f. holds_over dom db f env) fs ≡ true → AreValued dom scope all env
  any_bounded [] each all scope bound env safe fit scoped consts valued e = absurd (true≢false (sym e))
  any_bounded (f ∷ fs) each all scope bound env safe fit scoped consts valued e =
      let safes = and_parts (safe_in_order f bound && all_in all (bound ++ occurrences f)) (list_all (λ g. safe_in_order g bound && all_in all (bound ++ occurrences g)) fs) safe in
      let here_safe = and_parts (safe_in_order f bound) (all_in all (bound ++ occurrences f)) safes.0 in
      let fits = and_parts (types_fit rels f scope) (list_all (λ g. types_fit rels g scope) fs) fit in
      ⊎_elim
      (λ here.
      let first : AreValued dom scope (occurrences f) env =
      each.0 scope bound env here_safe.0 fits.0 (λ x at. scoped x (append_left x (occurrences f) (flat_map occurrences fs) at))
      (record { each = λ v at. consts.each v (append_left v (constants f) (flat_map constants fs) at) }) valued here in
      let both : AreValued dom scope (bound ++ occurrences f) env = joined scope env bound (occurrences f) valued first in
      record { each = λ x at. both.each x (in_of_is x (bound ++ occurrences f) (all_at (λ y. is_in y (bound ++ occurrences f)) x all here_safe.1 at)) })
      (λ there.
      any_bounded fs each.1 all scope bound env safes.1 fits.1 (λ x at. scoped x (append_right x (occurrences f) (flat_map occurrences fs) at))
      (record { each = λ v at. consts.each v (append_right v (constants f) (flat_map constants fs) at) }) valued there)
      (or_cases (holds_over dom db f env) (list_any (λ g. holds_over dom db g env) fs) e)

  at_atom : (rel : ℕ) (terms : List Term) → Bounded (Atom rel terms)
  at_atom rel terms scope bound env safe fit scoped consts valued e =
      let found = any_in (λ row. row_eq row (map (value_of env) terms)) (slice_index_or db rel []) (sym (holds_atom dom db rel terms env) ∙ e) in
      let same : found.0 ≡ map (value_of env) terms = exact_rows found.0 (map (value_of env) terms) ((Equal-is (row_cmp found.0 (map (value_of env) terms))).0 found.2) in
      let cells : RowIn dom (map (value_of env) terms) (slice_index_or rels rel []) = subst (λ row. RowIn dom row (slice_index_or rels rel [])) same (rows.each rel found.0 found.1) in
      record {
        each = λ x at.
            valued_terms dom scope env terms (slice_index_or rels rel []) cells (sym (types_atom rels rel terms scope) ∙ fit) x (subst (In x) (occurrences_atom rel terms) at) (scoped x at);
      }

  at_test : (c : Cmp) (left right : Term) → Bounded (Test c left right)
  at_test c left right scope bound env safe fit scoped consts valued e = record {
    each = λ x at.
        comparison c scope bound env left right (subst (ValuesIn dom) (constants_test c left right) consts) valued (sym (in_order_test c left right bound) ∙ safe)
        (sym (types_test rels c left right scope) ∙ fit) (sym (holds_test dom db c left right env) ∙ e)
        (λ y within. scoped y (subst (In y) (sym (occurrences_test c left right)) within)) x (subst (In x) (occurrences_test c left right) at);
  }

  at_both : (fs : List Formula) → AllByRecursion Bounded fs → Bounded (And fs)
  at_both fs each scope bound env safe fit scoped consts valued e =
      subst (λ xs. AreValued dom scope xs env) (sym (occurrences_and fs))
      (all_bounded fs each scope bound env (sym (in_order_and fs bound) ∙ safe) (sym (types_and rels fs scope) ∙ fit)
      (λ x at. scoped x (subst (In x) (sym (occurrences_and fs)) at)) (subst (ValuesIn dom) (constants_and fs) consts) valued (sym (holds_and dom db fs env) ∙ e))

  at_either : (fs : List Formula) → AllByRecursion Bounded fs → Bounded (Or fs)
  at_either fs each scope bound env safe fit scoped consts valued e =
      subst (λ xs. AreValued dom scope xs env) (sym (occurrences_or fs))
      (any_bounded fs each (flat_map occurrences fs) scope bound env (sym (in_order_or fs bound) ∙ safe) (sym (types_or rels fs scope) ∙ fit)
      (λ x at. scoped x (subst (In x) (sym (occurrences_or fs)) at)) (subst (ValuesIn dom) (constants_or fs) consts) valued (sym (holds_or dom db fs env) ∙ e))

  at_denial : (f : Formula) → Bounded f → Bounded (Not f)
  at_denial f known_f scope bound env safe fit scoped consts valued e =
      let parts = and_parts (all_in (occurrences f) bound) (safe_in_order f bound) (sym (in_order_not f bound) ∙ safe) in
      record { each = λ x at. valued.each x (in_of_is x bound (all_at (λ y. is_in y bound) x (occurrences f) parts.0 (subst (In x) (occurrences_not f) at))) }

  at_some : (vars : TypedVars) (f : Formula) → Bounded f → Bounded (Exists vars f)
  at_some vars f known_f scope bound env safe fit scoped consts valued e =
      let parts = and_parts (not (list_any (binds vars) bound)) (safe_in_order f bound) (sym (in_order_exists vars f bound) ∙ safe) in
      let choice = choice_out dom vars scope (holds_over dom db f) env (sym (holds_exists dom db vars f env) ∙ e) in
      let outside_bound : (x : Var) → In x bound → binds vars x ≡ false = λ x at. fails_at (binds vars) x bound (not-true (list_any (binds vars) bound) parts.0) at in
      let inner : AreValued dom (entered vars scope) (occurrences f) choice.0 =
      known_f (entered vars scope) bound choice.0 parts.1 (sym (types_exists rels vars f scope) ∙ fit)
      (λ x at. entered_binds vars scope x (inner_scope vars f scope scoped x at))
      (subst (ValuesIn dom) (constants_exists vars f) consts)
      (record {
        each = λ x at.
            subst (IsValued dom (entered vars scope) (term.Var x)) (sym (choice.1.others x (outside_bound x at)))
            (valued_inside dom vars scope x (lookup env x) (outside_bound x at) (valued.each x at));
      })
      choice.1.passes in
      record {
        each = λ x at.
            let found = in_unhidden vars x (occurrences f) (subst (In x) (occurrences_exists vars f) at) in
            subst (IsValued dom scope (term.Var x)) (choice.1.others x found.1) (valued_outside dom vars scope x (lookup choice.0 x) found.1 (inner.each x found.0));
      }

  pub bounded : (f : Formula) → Bounded f
  bounded = induction Bounded (record {
    atom = at_atom;
    test = at_test;
    both = at_both;
    either = at_either;
    denial = at_denial;
    implication = λ f g here there scope bound env safe fit scoped consts valued e. absurd (true≢false (sym safe ∙ in_order_implies f g bound));
    some = at_some;
    every = λ vars f here scope bound env safe fit scoped consts valued e. absurd (true≢false (sym safe ∙ in_order_forall vars f bound));
  })
