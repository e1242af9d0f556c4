-- What stays where alternatives are left out: the meaning, the constants, the free variables, and all that a plan asks for.
use Rattle.std.proofs.Common.{◌≡◌, ◌≤◌, ◌+◌, ◌⊎◌, inl, inr, ⊎_elim, ℕ, Bool, true, false, not, ◌&&◌, ◌||◌, cond, List, [], ◌∷◌, ◌++◌, map, ap, sym, ◌∙◌, refl, subst, arith, max, length}
use Rattle.std.specs.List.{list_any, list_all, filter, flat_map, AllByRecursion}
use Rattle.std.specs.Ordering.{is_eq}
use Rattle.std.specs.Cmp.{Equal-is, both_ways, tied_itself}
use Rattle.std.proofs.lemmas.Bool.{and_parts, and_from, true≢false}
use Rattle.dbn_value.specs.Members.{In}
use Rattle.dbn_value.proofs.MemberLaws.{any_in, in_any, all_at, all_from, in_filter, filter_in, in_append, append_left, append_right, in_map, map_in, in_flat, flat_in, recursion_at}
use Rattle.dbn_value.specs.Order.{value_cmp, value_total, exact_values}
use Rattle.dbn_value.specs.declared.value.Value.{Value}
use Rattle.dbn_value.specs.declared.term.Var.{Var}
use Rattle.dbn_value.specs.declared.term.Term.{Term}
use Rattle.dbn_value.specs.declared.term.Term.TheVariants as term
use Rattle.dbn_value.specs.declared.term.Cmp.{Cmp}
use Rattle.dbn_value.specs.declared.term.Cmp.TheVariants as cmp
use Rattle.dbn_formula.specs.Variables.{TypedVars, is_in, binds}
use Rattle.dbn_formula.specs.Holds.{Env, Domain, Instance, lookup, value_of, meets, holds_over}
use Rattle.dbn_formula.specs.Free.{variable_of, unhidden, occurrences}
use Rattle.dbn_formula.specs.Answers.{constant_of, constants}
use Rattle.dbn_formula.specs.Typing.{Shapes, arity_fits, types_fit, entered}
use Rattle.dbn_formula.specs.Distinct.{distinct, distinct_vars}
use Rattle.dbn_formula.specs.Safe.{safe_in_order, test_safe, known, in_turn, as_level, all_in}
use Rattle.dbn_formula.specs.Size.{total, size}
use Rattle.dbn_formula.specs.declared.formula.Formula.{Formula}
use Rattle.dbn_formula.specs.declared.formula.Formula.TheVariants.{Atom, Test, And, Or, Not, Implies, Exists, Forall}
use Rattle.dbn_formula.proofs.HoldsLaws.{holds_test, holds_and, holds_or, holds_exists}
use Rattle.dbn_formula.proofs.FreeLaws.{occurrences_test, occurrences_and, occurrences_or, occurrences_exists}
use Rattle.dbn_formula.proofs.ConstantsLaws.{constants_test, constants_and, constants_or, constants_exists}
use Rattle.dbn_formula.proofs.TypingLaws.{arity_and, arity_or, arity_exists, types_and, types_or, types_exists}
use Rattle.dbn_formula.proofs.DistinctLaws.{distinct_and, distinct_or, distinct_exists}
use Rattle.dbn_formula.proofs.SafeLaws.{in_order_test, in_order_and, in_order_or, in_order_exists}
use Rattle.dbn_formula.proofs.SizeLaws.{size_and, size_or, size_exists}
use Rattle.dbn_formula.proofs.NormalMeaning.{some_alike}
use Rattle.dbn_formula.proofs.Induction.{induction}
use Rattle.dbn_formula.proofs.OrderOfParts.{Alike}
use Rattle.dbn_formula.proofs.Arranged.{in_order_alike, alike_self}
use Rattle.dbn_formula.proofs.VariableLaws.{in_of_is, in_unhidden, unhidden_in}
use Rattle.dbn_plan.specs.Easing.{Pair, same_pair, equated_sides, equated, is_strict, sides_ruled_out, ruled_out, left_over, eased_part, eased_body, eased}
use Rattle.dbn_plan.proofs.EasingLaws.{equated_test, equated_and, equated_atom, equated_or, equated_not, equated_implies, equated_exists, equated_forall, ruled_test, ruled_cases, part_or, part_cases, body_and, body_cases, eased_exists, eased_cases, pairs_same}

-- ---- equations

abbrev Equal : List Pair → Env → Type 0
Equal eqs env = (p : Pair) → In p eqs → lookup env p.0 ≡ lookup env p.1

equal_values : (v w : Value) → is_eq (value_cmp v w) ≡ true → v ≡ w
equal_values v w e = exact_values v w ((Equal-is (value_cmp v w)).0 e)

equal_pair : (x y : Var) (p : Pair) (env : Env) → p ≡ (x, y) → lookup env x ≡ lookup env y → lookup env p.0 ≡ lookup env p.1
equal_pair x y p env e same = subst (λ q. lookup env q.0 ≡ lookup env q.1) (sym e) same

sides_equal : (c : Cmp) (left right : Term) (env : Env) → meets c (value_cmp (value_of env left) (value_of env right)) ≡ true → Equal (equated_sides c left right) env
sides_equal cmp.Eq (term.Var x) (term.Var y) env e p at =
    let same = equal_values (lookup env x) (lookup env y) e in
    ⊎_elim (λ is. equal_pair x y p env is same) (λ more. ⊎_elim (λ is. equal_pair y x p env is (sym same)) (λ none. absurd none) more) at
sides_equal cmp.Eq (term.Var x) (term.Const v) env e p at = absurd at
sides_equal cmp.Eq (term.Const v) right env e p at = absurd at
sides_equal cmp.Ne left right env e p at = absurd at
sides_equal cmp.Lt left right env e p at = absurd at
sides_equal cmp.Le left right env e p at = absurd at
sides_equal cmp.Gt left right env e p at = absurd at
sides_equal cmp.Ge left right env e p at = absurd at

none_equated : (eqs : List Pair) (p : Pair) → eqs ≡ [] → In p eqs → ⊥
none_equated eqs p e at = absurd (subst (In p) e at)

module _ (dom : Domain) (db : Instance) (env : Env) where
  abbrev Equates : Formula → Type 0
  Equates f = holds_over dom db f env ≡ true → Equal (equated f) env

  equates : (f : Formula) → Equates f
  equates = induction Equates (record {
    atom = λ rel terms e p at. absurd (none_equated (equated (Atom rel terms)) p (equated_atom rel terms) at);
    test = λ c left right e p at. sides_equal c left right env (sym (holds_test dom db c left right env) ∙ e) p (subst (In p) (equated_test c left right) at);
    both = λ fs each e p at.
        let some = in_flat equated p fs (subst (In p) (equated_and fs) at) in
        recursion_at Equates some.0 fs each some.1 (all_at (λ f. holds_over dom db f env) some.0 fs (sym (holds_and dom db fs env) ∙ e) some.1) p some.2;
    either = λ fs each e p at. absurd (none_equated (equated (Or fs)) p (equated_or fs) at);
    denial = λ f here e p at. absurd (none_equated (equated (Not f)) p (equated_not f) at);
    implication = λ f g here there e p at. absurd (none_equated (equated (Implies f g)) p (equated_implies f g) at);
    some = λ vars f here e p at. absurd (none_equated (equated (Exists vars f)) p (equated_exists vars f) at);
    every = λ vars f here e p at. absurd (none_equated (equated (Forall vars f)) p (equated_forall vars f) at);
  })

-- both sides of an equation occur
abbrev Occur : List Pair → List Var → Type 0
Occur eqs xs = (p : Pair) → In p eqs → In p.0 xs × In p.1 xs

pair_occurs : (x y : Var) (p : Pair) (xs : List Var) → p ≡ (x, y) → In x xs → In y xs → In p.0 xs × In p.1 xs
pair_occurs x y p xs e first second = subst (λ q. In q.0 xs × In q.1 xs) (sym e) (first, second)

sides_occur : (c : Cmp) (left right : Term) → Occur (equated_sides c left right) (variable_of left ++ variable_of right)
sides_occur cmp.Eq (term.Var x) (term.Var y) p at =
    ⊎_elim (λ is. pair_occurs x y p (x ∷ y ∷ []) is (inl refl) (inr (inl refl))) (λ more. ⊎_elim (λ is. pair_occurs y x p (x ∷ y ∷ []) is (inr (inl refl)) (inl refl)) (λ none. absurd none) more) at
sides_occur cmp.Eq (term.Var x) (term.Const v) p at = absurd at
sides_occur cmp.Eq (term.Const v) right p at = absurd at
sides_occur cmp.Ne left right p at = absurd at
sides_occur cmp.Lt left right p at = absurd at
sides_occur cmp.Le left right p at = absurd at
sides_occur cmp.Gt left right p at = absurd at
sides_occur cmp.Ge left right p at = absurd at

abbrev Own : Formula → Type 0
Own f = Occur (equated f) (occurrences f)

own : (f : Formula) → Own f
own = induction Own (record {
  atom = λ rel terms p at. absurd (none_equated (equated (Atom rel terms)) p (equated_atom rel terms) at);
  test = λ c left right p at. subst (λ xs. In p.0 xs × In p.1 xs) (sym (occurrences_test c left right)) (sides_occur c left right p (subst (In p) (equated_test c left right) at));
  both = λ fs each p at.
      let some = in_flat equated p fs (subst (In p) (equated_and fs) at) in
      let both = recursion_at Own some.0 fs each some.1 p some.2 in
      subst (λ xs. In p.0 xs × In p.1 xs) (sym (occurrences_and fs)) (flat_in occurrences p.0 some.0 fs some.1 both.0, flat_in occurrences p.1 some.0 fs some.1 both.1);
  either = λ fs each p at. absurd (none_equated (equated (Or fs)) p (equated_or fs) at);
  denial = λ f here p at. absurd (none_equated (equated (Not f)) p (equated_not f) at);
  implication = λ f g here there p at. absurd (none_equated (equated (Implies f g)) p (equated_implies f g) at);
  some = λ vars f here p at. absurd (none_equated (equated (Exists vars f)) p (equated_exists vars f) at);
  every = λ vars f here p at. absurd (none_equated (equated (Forall vars f)) p (equated_forall vars f) at);
})

-- ---- an alternative that is ruled out

-- a comparison of two variables that an equation joins
record Ruled (eqs : List Pair) (f : Formula) : Type 0 where
  c : Cmp
  x : Var
  y : Var
  is : f ≡ Test c (term.Var x) (term.Var y)
  strict : is_strict c ≡ true
  within : In (x, y) eqs

sides_ruled : (eqs : List Pair) (f : Formula) (c : Cmp) (left right : Term) → f ≡ Test c left right → sides_ruled_out eqs c left right ≡ true → Ruled eqs f
sides_ruled eqs f c (term.Var x) (term.Var y) is e =
    let both = and_parts (is_strict c) (list_any (same_pair (x, y)) eqs) e in
    let found = any_in (same_pair (x, y)) eqs both.1 in
    record { c = c; x = x; y = y; is = is; strict = both.0; within = subst (λ q. In q eqs) (sym (pairs_same (x, y) found.0 found.2)) found.1 }
sides_ruled eqs f c (term.Var x) (term.Const v) is e = absurd (true≢false (sym e))
sides_ruled eqs f c (term.Const v) right is e = absurd (true≢false (sym e))

ruled : (eqs : List Pair) (f : Formula) → ruled_out eqs f ≡ true → Ruled eqs f
ruled eqs f e =
    ⊎_elim
    (λ found. sides_ruled eqs f found.0 found.1 found.2 found.3 (sym (ap (ruled_out eqs) found.3 ∙ ruled_test eqs found.0 found.1 found.2) ∙ e))
    (λ no. absurd (true≢false (sym e ∙ no)))
    (ruled_cases eqs f)

strict_fails : (c : Cmp) (v : Value) → is_strict c ≡ true → meets c (value_cmp v v) ≡ false
strict_fails cmp.Eq v e = absurd (true≢false (sym e))
strict_fails cmp.Ne v e = ap (meets cmp.Ne) (tied_itself value_total v)
strict_fails cmp.Lt v e = ap (meets cmp.Lt) (tied_itself value_total v)
strict_fails cmp.Le v e = absurd (true≢false (sym e))
strict_fails cmp.Gt v e = ap (meets cmp.Gt) (tied_itself value_total v)
strict_fails cmp.Ge v e = absurd (true≢false (sym e))

strict_known : (c : Cmp) (left right : Term) (bound : List Var) → is_strict c ≡ true → test_safe c left right bound ≡ true → (known bound left && known bound right) ≡ true
strict_known cmp.Eq left right bound e safe = absurd (true≢false (sym e))
strict_known cmp.Ne left right bound e safe = safe
strict_known cmp.Lt left right bound e safe = safe
strict_known cmp.Le left right bound e safe = absurd (true≢false (sym e))
strict_known cmp.Gt left right bound e safe = safe
strict_known cmp.Ge left right bound e safe = absurd (true≢false (sym e))

module _ (eqs : List Pair) where
  ruled_fails : (dom : Domain) (db : Instance) (env : Env) (f : Formula) → Equal eqs env → ruled_out eqs f ≡ true → holds_over dom db f env ≡ false
  ruled_fails dom db env f equal e =
      let r : Ruled eqs f = ruled eqs f e in
      ap (λ g. holds_over dom db g env) r.is ∙ holds_test dom db r.c (term.Var r.x) (term.Var r.y) env
      ∙ ap (λ v. meets r.c (value_cmp (lookup env r.x) v)) (sym (equal (r.x, r.y) r.within)) ∙ strict_fails r.c (lookup env r.x) r.strict

  ruled_constants : (f : Formula) → ruled_out eqs f ≡ true → constants f ≡ []
  ruled_constants f e = let r : Ruled eqs f = ruled eqs f e in ap constants r.is ∙ constants_test r.c (term.Var r.x) (term.Var r.y)

  ruled_vars : (f : Formula) (z : Var) → ruled_out eqs f ≡ true → In z (occurrences f) → (p : Pair) × In p eqs × ((z ≡ p.0) ⊎ (z ≡ p.1))
  ruled_vars f z e at =
      let r : Ruled eqs f = ruled eqs f e in
      ((r.x, r.y), r.within, ⊎_elim (λ is. inl is) (λ more. ⊎_elim (λ is. inr is) (λ none. absurd none) more) (subst (In z) (ap occurrences r.is ∙ occurrences_test r.c (term.Var r.x) (term.Var r.y)) at))

  ruled_bound : (f : Formula) (bound : List Var) (z : Var) → ruled_out eqs f ≡ true → safe_in_order f bound ≡ true → In z (occurrences f) → In z bound
  ruled_bound f bound z e safe at =
      let r : Ruled eqs f = ruled eqs f e in
      let both = and_parts (is_in r.x bound) (is_in r.y bound) (strict_known r.c (term.Var r.x) (term.Var r.y) bound r.strict (sym (ap (λ g. safe_in_order g bound) r.is ∙ in_order_test r.c (term.Var r.x) (term.Var r.y) bound) ∙ safe)) in
      ⊎_elim
      (λ is. subst (λ v. In v bound) (sym is) (in_of_is r.x bound both.0))
      (λ more. ⊎_elim (λ is. subst (λ v. In v bound) (sym is) (in_of_is r.y bound both.1)) (λ none. absurd none) more)
      (subst (In z) (ap occurrences r.is ∙ occurrences_test r.c (term.Var r.x) (term.Var r.y)) at)

  -- ---- what is left of the alternatives

  any_left : (t : Formula → Bool) → ((f : Formula) → ruled_out eqs f ≡ true → t f ≡ false) → (fs : List Formula) → list_any t (left_over eqs fs) ≡ list_any t fs
  any_left t fails [] = refl
  any_left t fails (f ∷ fs) =
      elim (ruled_out eqs f) as (λ b. ruled_out eqs f ≡ b → list_any t (cond (not b) (f ∷ left_over eqs fs) (left_over eqs fs)) ≡ (t f || list_any t fs)) [
        | true ↦ λ e. any_left t fails fs ∙ ap (λ b. b || list_any t fs) (sym (fails f e))
        | false ↦ λ e. ap (λ b. t f || b) (any_left t fails fs)
      ] refl

  constants_left : (fs : List Formula) → flat_map constants (left_over eqs fs) ≡ flat_map constants fs
  constants_left [] = refl
  constants_left (f ∷ fs) =
      elim (ruled_out eqs f) as (λ b. ruled_out eqs f ≡ b → flat_map constants (cond (not b) (f ∷ left_over eqs fs) (left_over eqs fs)) ≡ constants f ++ flat_map constants fs) [
        | true ↦ λ e. constants_left fs ∙ ap (λ vs. vs ++ flat_map constants fs) (sym (ruled_constants f e))
        | false ↦ λ e. ap (λ vs. constants f ++ vs) (constants_left fs)
      ] refl

  all_left : (t : Formula → Bool) (fs : List Formula) → list_all t fs ≡ true → list_all t (left_over eqs fs) ≡ true
  all_left t fs e = all_from t (left_over eqs fs) (λ f at. all_at t f fs e (in_filter (λ g. not (ruled_out eqs g)) f fs at).0)

  size_left : (fs : List Formula) → total (map size (left_over eqs fs)) ≤ total (map size fs)
  size_left [] = omega arith
  size_left (f ∷ fs) =
      elim (ruled_out eqs f) as (λ b. total (map size (cond (not b) (f ∷ left_over eqs fs) (left_over eqs fs))) ≤ size f + total (map size fs)) [
        | true ↦ let m = size_left fs in omega (arith, m)
        | false ↦ let m = size_left fs in omega (arith, m)
      ]

  is_left : (f : Formula) (fs : List Formula) → In f fs → (ruled_out eqs f ≡ true) ⊎ In f (left_over eqs fs)
  is_left f fs at =
      elim (ruled_out eqs f) as (λ b. ruled_out eqs f ≡ b → (ruled_out eqs f ≡ true) ⊎ In f (left_over eqs fs)) [
        | true ↦ λ e. inl e
        | false ↦ λ e. inr (filter_in (λ g. not (ruled_out eqs g)) f fs at (ap not e))
      ] refl

  vars_left : (z : Var) (fs : List Formula) → In z (flat_map occurrences (left_over eqs fs)) → In z (flat_map occurrences fs)
  vars_left z fs at = let some = in_flat occurrences z (left_over eqs fs) at in flat_in occurrences z some.0 fs (in_filter (λ g. not (ruled_out eqs g)) some.0 fs some.1).0 some.2

  -- ---- a part

  record Part (f : Formula) : Type 0 where
    holds : (dom : Domain) (db : Instance) (env : Env) → Equal eqs env → holds_over dom db (eased_part eqs f) env ≡ holds_over dom db f env
    equations : equated (eased_part eqs f) ≡ equated f
    consts : constants (eased_part eqs f) ≡ constants f
    arity : (rels : Shapes) → arity_fits rels f ≡ true → arity_fits rels (eased_part eqs f) ≡ true
    types : (rels : Shapes) (scope : TypedVars) → types_fit rels f scope ≡ true → types_fit rels (eased_part eqs f) scope ≡ true
    once : distinct f ≡ true → distinct (eased_part eqs f) ≡ true
    small : size (eased_part eqs f) ≤ size f
    there : (z : Var) → In z (occurrences (eased_part eqs f)) → In z (occurrences f)
    back : (z : Var) → In z (occurrences f) → In z (occurrences (eased_part eqs f)) ⊎ ((p : Pair) × In p eqs × ((z ≡ p.0) ⊎ (z ≡ p.1)))
    safe : (bound : List Var) → safe_in_order f bound ≡ true → safe_in_order (eased_part eqs f) bound ≡ true
    bound : (bound : List Var) (z : Var) → safe_in_order f bound ≡ true → In z (occurrences f) → In z (bound ++ occurrences (eased_part eqs f))

  same_part : (f : Formula) → eased_part eqs f ≡ f → Part f
  same_part f e = record {
    holds = λ dom db env equal. ap (λ g. holds_over dom db g env) e;
    equations = ap equated e;
    consts = ap constants e;
    arity = λ rels t. ap (arity_fits rels) e ∙ t;
    types = λ rels scope t. ap (λ g. types_fit rels g scope) e ∙ t;
    once = λ t. ap distinct e ∙ t;
    small = let s : size (eased_part eqs f) ≡ size f = ap size e in omega (arith, s);
    there = λ z at. subst (λ g. In z (occurrences g)) e at;
    back = λ z at. inl (subst (λ g. In z (occurrences g)) (sym e) at);
    safe = λ bound t. ap (λ g. safe_in_order g bound) e ∙ t;
    bound = λ bound z t at. append_right z bound (occurrences (eased_part eqs f)) (subst (λ g. In z (occurrences g)) (sym e) at);
  }

  alternative : (fs : List Formula) (bound : List Var) (f : Formula) → safe_in_order (Or fs) bound ≡ true → In f fs → (safe_in_order f bound ≡ true) × (all_in (flat_map occurrences fs) (bound ++ occurrences f) ≡ true)
  alternative fs bound f t at =
      and_parts (safe_in_order f bound) (all_in (flat_map occurrences fs) (bound ++ occurrences f)) (all_at (λ g. safe_in_order g bound && all_in (flat_map occurrences fs) (bound ++ occurrences g)) f fs (sym (in_order_or fs bound) ∙ t) at)

  some_part : (fs : List Formula) → Part (Or fs)
  some_part fs =
      let left = left_over eqs fs in
      let e : eased_part eqs (Or fs) ≡ Or left = part_or eqs fs in
      let vars : occurrences (eased_part eqs (Or fs)) ≡ flat_map occurrences left = ap occurrences e ∙ occurrences_or left in
      record {
        holds = λ dom db env equal.
            ap (λ g. holds_over dom db g env) e ∙ holds_or dom db left env ∙ any_left (λ f. holds_over dom db f env) (λ f r. ruled_fails dom db env f equal r) fs ∙ sym (holds_or dom db fs env);
        equations = ap equated e ∙ equated_or left ∙ sym (equated_or fs);
        consts = ap constants e ∙ constants_or left ∙ constants_left fs ∙ sym (constants_or fs);
        arity = λ rels t. ap (arity_fits rels) e ∙ arity_or rels left ∙ all_left (arity_fits rels) fs (sym (arity_or rels fs) ∙ t);
        types = λ rels scope t. ap (λ g. types_fit rels g scope) e ∙ types_or rels left scope ∙ all_left (λ f. types_fit rels f scope) fs (sym (types_or rels fs scope) ∙ t);
        once = λ t. ap distinct e ∙ distinct_or left ∙ all_left distinct fs (sym (distinct_or fs) ∙ t);
        small =
            let a : size (eased_part eqs (Or fs)) ≡ 1 + total (map size left) = ap size e ∙ size_or left in
            let b : size (Or fs) ≡ 1 + total (map size fs) = size_or fs in
            let m : total (map size left) ≤ total (map size fs) = size_left fs in
            omega (arith, a, b, m);
        there = λ z at. subst (In z) (sym (occurrences_or fs)) (vars_left z fs (subst (In z) vars at));
        back = λ z at.
            let some = in_flat occurrences z fs (subst (In z) (occurrences_or fs) at) in
            ⊎_elim (λ r. inr (ruled_vars some.0 z r some.2)) (λ here. inl (subst (In z) (sym vars) (flat_in occurrences z some.0 left here some.2))) (is_left some.0 fs some.1);
        safe = λ bound t.
            ap (λ g. safe_in_order g bound) e ∙ in_order_or left bound
            ∙ all_from (λ g. safe_in_order g bound && all_in (flat_map occurrences left) (bound ++ occurrences g)) left (λ g at.
            let two = alternative fs bound g t (in_filter (λ h. not (ruled_out eqs h)) g fs at).0 in
            and_from (safe_in_order g bound) (all_in (flat_map occurrences left) (bound ++ occurrences g)) two.0
            (all_from (λ x. is_in x (bound ++ occurrences g)) (flat_map occurrences left) (λ x here. all_at (λ y. is_in y (bound ++ occurrences g)) x (flat_map occurrences fs) two.1 (vars_left x fs here))));
        bound = λ bound z t at.
            let some = in_flat occurrences z fs (subst (In z) (occurrences_or fs) at) in
            ⊎_elim
            (λ r. append_left z bound (occurrences (eased_part eqs (Or fs))) (ruled_bound some.0 bound z r (alternative fs bound some.0 t some.1).0 some.2))
            (λ here. append_right z bound (occurrences (eased_part eqs (Or fs))) (subst (In z) (sym vars) (flat_in occurrences z some.0 left here some.2)))
            (is_left some.0 fs some.1);
      }

  part : (f : Formula) → Part f
  part f = ⊎_elim (λ found. subst Part (sym found.1) (some_part found.0)) (λ e. same_part f e) (part_cases eqs f)

  -- ---- all parts

  all_parts : (t : Formula → Bool) → ((f : Formula) → t f ≡ true → t (eased_part eqs f) ≡ true) → (fs : List Formula) → list_all t fs ≡ true → list_all t (map (eased_part eqs) fs) ≡ true
  all_parts t keeps fs e = all_from t (map (eased_part eqs) fs) (λ g at. let found = in_map (eased_part eqs) g fs at in ap t found.2 ∙ keeps found.0 (all_at t found.0 fs e found.1))

  all_same : (t : Formula → Bool) → ((f : Formula) → t (eased_part eqs f) ≡ t f) → (fs : List Formula) → list_all t (map (eased_part eqs) fs) ≡ list_all t fs
  all_same t same [] = refl
  all_same t same (f ∷ fs) = ap (λ b. b && list_all t (map (eased_part eqs) fs)) (same f) ∙ ap (λ b. t f && b) (all_same t same fs)

  flat_same : {A : Type 0} (k : Formula → List A) → ((f : Formula) → k (eased_part eqs f) ≡ k f) → (fs : List Formula) → flat_map k (map (eased_part eqs) fs) ≡ flat_map k fs
  flat_same k same [] = refl
  flat_same k same (f ∷ fs) = ap (λ xs. xs ++ flat_map k (map (eased_part eqs) fs)) (same f) ∙ ap (λ xs. k f ++ xs) (flat_same k same fs)

  sizes : (fs : List Formula) → total (map size (map (eased_part eqs) fs)) ≤ total (map size fs)
  sizes [] = omega arith
  sizes (f ∷ fs) = let a = (part f).small in let b = sizes fs in omega (arith, a, b)

  turns_kept : (fs : List Formula) (xs ys : List Var) → Alike xs ys → in_turn (map as_level fs) xs ≡ true → in_turn (map as_level (map (eased_part eqs) fs)) ys ≡ true
  turns_kept [] xs ys alike e = refl
  turns_kept (f ∷ fs) xs ys alike e =
      let both = and_parts (safe_in_order f xs) (in_turn (map as_level fs) (xs ++ occurrences f)) e in
      let g = eased_part eqs f in
      let kept : Part f = part f in
      and_from (safe_in_order g ys) (in_turn (map as_level (map (eased_part eqs) fs)) (ys ++ occurrences g)) (sym (in_order_alike g xs ys alike) ∙ kept.safe xs both.0)
      (turns_kept fs (xs ++ occurrences f) (ys ++ occurrences g) (record {
        there = λ z at.
            ⊎_elim (λ here. append_left z ys (occurrences g) (alike.there z here))
            (λ here. ⊎_elim (λ old. append_left z ys (occurrences g) (alike.there z old)) (λ new. append_right z ys (occurrences g) new) (in_append z xs (occurrences g) (kept.bound xs z both.0 here)))
            (in_append z xs (occurrences f) at);
        back = λ z at. ⊎_elim (λ here. append_left z xs (occurrences f) (alike.back z here)) (λ here. append_right z xs (occurrences f) (kept.there z here)) (in_append z ys (occurrences g) at);
      }) both.1)

-- ---- a formula with fewer alternatives that says the same

pub record Lighter (g f : Formula) : Type 0 where
  pub holds : (dom : Domain) (db : Instance) (env : Env) → holds_over dom db g env ≡ holds_over dom db f env
  pub consts : constants g ≡ constants f
  pub arity : (rels : Shapes) → arity_fits rels f ≡ true → arity_fits rels g ≡ true
  pub types : (rels : Shapes) (scope : TypedVars) → types_fit rels f scope ≡ true → types_fit rels g scope ≡ true
  pub once : distinct f ≡ true → distinct g ≡ true
  pub small : size g ≤ size f
  pub vars : Alike (occurrences g) (occurrences f)
  pub safe : (bound : List Var) → safe_in_order f bound ≡ true → safe_in_order g bound ≡ true

lighter_same : (g f : Formula) → g ≡ f → Lighter g f
lighter_same g f e = record {
  holds = λ dom db env. ap (λ h. holds_over dom db h env) e;
  consts = ap constants e;
  arity = λ rels t. ap (arity_fits rels) e ∙ t;
  types = λ rels scope t. ap (λ h. types_fit rels h scope) e ∙ t;
  once = λ t. ap distinct e ∙ t;
  small = let s : size g ≡ size f = ap size e in omega (arith, s);
  vars = subst (λ h. Alike (occurrences g) (occurrences h)) e (alike_self (occurrences g));
  safe = λ bound t. ap (λ h. safe_in_order h bound) e ∙ t;
}

lighter_parts : (fs : List Formula) → Lighter (And (map (eased_part (flat_map equated fs)) fs)) (And fs)
lighter_parts fs =
    let eqs = flat_map equated fs in
    let gs = map (eased_part eqs) fs in
    let equations : equated (And gs) ≡ eqs = equated_and gs ∙ flat_same eqs equated (λ f. (part eqs f).equations) fs in
    record {
      holds = λ dom db env.
          let same : Equal eqs env → holds_over dom db (And gs) env ≡ holds_over dom db (And fs) env =
          λ equal. holds_and dom db gs env ∙ all_same eqs (λ f. holds_over dom db f env) (λ f. (part eqs f).holds dom db env equal) fs ∙ sym (holds_and dom db fs env) in
          both_ways (holds_over dom db (And gs) env) (holds_over dom db (And fs) env)
          (λ e. sym (same (subst (λ ps. Equal ps env) equations (equates dom db env (And gs) e))) ∙ e)
          (λ e. same (subst (λ ps. Equal ps env) (equated_and fs) (equates dom db env (And fs) e)) ∙ e);
      consts = constants_and gs ∙ flat_same eqs constants (λ f. (part eqs f).consts) fs ∙ sym (constants_and fs);
      arity = λ rels t. arity_and rels gs ∙ all_parts eqs (arity_fits rels) (λ f. (part eqs f).arity rels) fs (sym (arity_and rels fs) ∙ t);
      types = λ rels scope t. types_and rels gs scope ∙ all_parts eqs (λ f. types_fit rels f scope) (λ f. (part eqs f).types rels scope) fs (sym (types_and rels fs scope) ∙ t);
      once = λ t. distinct_and gs ∙ all_parts eqs distinct (λ f. (part eqs f).once) fs (sym (distinct_and fs) ∙ t);
      small =
          let a : size (And gs) ≡ 1 + total (map size gs) = size_and gs in
          let b : size (And fs) ≡ 1 + total (map size fs) = size_and fs in
          let m : total (map size gs) ≤ total (map size fs) = sizes eqs fs in
          omega (arith, a, b, m);
      vars = record {
        there = λ z at.
            let some = in_flat occurrences z gs (subst (In z) (occurrences_and gs) at) in
            let from = in_map (eased_part eqs) some.0 fs some.1 in
            subst (In z) (sym (occurrences_and fs)) (flat_in occurrences z from.0 fs from.1 ((part eqs from.0).there z (subst (λ g. In z (occurrences g)) from.2 some.2)));
        back = λ z at.
            let some = in_flat occurrences z fs (subst (In z) (occurrences_and fs) at) in
            ⊎_elim
            (λ here. subst (In z) (sym (occurrences_and gs)) (flat_in occurrences z (eased_part eqs some.0) gs (map_in (eased_part eqs) some.0 fs some.1) here))
            (λ found.
            let both = own (And gs) found.0 (subst (In found.0) (sym equations) found.1) in
            ⊎_elim (λ is. subst (λ v. In v (occurrences (And gs))) (sym is) both.0) (λ is. subst (λ v. In v (occurrences (And gs))) (sym is) both.1) found.2)
            ((part eqs some.0).back z some.2);
      };
      safe = λ bound t. in_order_and gs bound ∙ turns_kept eqs fs bound bound (alike_self bound) (sym (in_order_and fs bound) ∙ t);
    }

body_lighter : (f : Formula) → Lighter (eased_body f) f
body_lighter f =
    ⊎_elim (λ found. subst (λ g. Lighter (eased_body g) g) (sym found.1) (subst (λ g. Lighter g (And found.0)) (sym (body_and found.0)) (lighter_parts found.0))) (λ e. lighter_same (eased_body f) f e) (body_cases f)

lighter_exists : (vars : TypedVars) (g f : Formula) → Lighter g f → Lighter (Exists vars g) (Exists vars f)
lighter_exists vars g f l = record {
  holds = λ dom db env. holds_exists dom db vars g env ∙ some_alike dom vars (holds_over dom db g) (holds_over dom db f) (l.holds dom db) env ∙ sym (holds_exists dom db vars f env);
  consts = constants_exists vars g ∙ l.consts ∙ sym (constants_exists vars f);
  arity = λ rels t. arity_exists rels vars g ∙ l.arity rels (sym (arity_exists rels vars f) ∙ t);
  types = λ rels scope t. types_exists rels vars g scope ∙ l.types rels (entered vars scope) (sym (types_exists rels vars f scope) ∙ t);
  once = λ t.
      let both = and_parts (distinct_vars vars) (distinct f) (sym (distinct_exists vars f) ∙ t) in
      distinct_exists vars g ∙ and_from (distinct_vars vars) (distinct g) both.0 (l.once both.1);
  small =
      let a : size (Exists vars g) ≡ max 1 (length vars) + size g = size_exists vars g in
      let b : size (Exists vars f) ≡ max 1 (length vars) + size f = size_exists vars f in
      let m = l.small in
      omega (arith, a, b, m);
  vars = record {
    there = λ z at.
        let here = in_unhidden vars z (occurrences g) (subst (In z) (occurrences_exists vars g) at) in
        subst (In z) (sym (occurrences_exists vars f)) (unhidden_in vars z (occurrences f) (l.vars.there z here.0) here.1);
    back = λ z at.
        let here = in_unhidden vars z (occurrences f) (subst (In z) (occurrences_exists vars f) at) in
        subst (In z) (sym (occurrences_exists vars g)) (unhidden_in vars z (occurrences g) (l.vars.back z here.0) here.1);
  };
  safe = λ bound t.
      let both = and_parts (not (list_any (binds vars) bound)) (safe_in_order f bound) (sym (in_order_exists vars f bound) ∙ t) in
      in_order_exists vars g bound ∙ and_from (not (list_any (binds vars) bound)) (safe_in_order g bound) both.0 (l.safe bound both.1);
}

pub eased_lighter : (f : Formula) → Lighter (eased f) f
eased_lighter f =
    ⊎_elim
    (λ found. subst (λ g. Lighter (eased g) g) (sym found.2) (subst (λ g. Lighter g (Exists found.0 found.1)) (sym (eased_exists found.0 found.1)) (lighter_exists found.0 (eased_body found.1) found.1 (body_lighter found.1))))
    (λ e. subst (λ g. Lighter g f) (sym e) (body_lighter f))
    (eased_cases f)
