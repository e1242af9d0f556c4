-- What each form of formula makes of a node that stands.
use Rattle.std.proofs.Common.{◌≡◌, ◌<◌, ℕ, ℤ, inl, ⊎_elim, Bool, true, false, not, ◌&&◌, ◌||◌, List, [], ◌∷◌, ◌++◌, map, refl, ap, sym, ◌∙◌, subst, Option, Some, length}
use Rattle.std.specs.declared.cmp.Ordering.{Ordering}
use Rattle.std.specs.List.{list_any, list_all, flat_map, AllByRecursion}
use Rattle.std.proofs.lemmas.List.{append_assoc}
use Rattle.std.proofs.lemmas.List.Concat.{flat_map-append}
use Rattle.std.proofs.lemmas.Bool.{true≢false, and_parts, and_from, or_cases, or_right, not-true, not_from_false, false_from_ne_true}
use Rattle.dbn_value.specs.Members.{In}
use Rattle.dbn_value.proofs.MemberLaws.{all_at, all_from, append_left, append_right, fails_at, recursion_from}
use Rattle.dbn_value.specs.declared.value.Value.{Value}
use Rattle.dbn_value.specs.declared.value.ColType.{ColType}
use Rattle.dbn_value.specs.declared.term.Var.{Var}
use Rattle.dbn_value.specs.declared.term.Term.{Term}
use Rattle.dbn_value.specs.declared.term.Term.TheVariants as term
use Rattle.dbn_formula.specs.Variables.{TypedVars, var_eq, is_in, binds}
use Rattle.dbn_formula.specs.Holds.{Env, Agree, Domain, lookup, holds_over}
use Rattle.dbn_formula.specs.Free.{occurrences}
use Rattle.dbn_formula.specs.Answers.{constants}
use Rattle.dbn_formula.specs.Typing.{Shapes, types_fit, entered}
use Rattle.dbn_formula.specs.Distinct.{distinct, distinct_vars}
use Rattle.dbn_formula.specs.Safe.{safe_in_order, in_turn, as_level, all_in}
use Rattle.dbn_formula.specs.Solve.{is_bound, is_empty}
use Rattle.dbn_formula.specs.Ready.{IsValued, AreValued}
use Rattle.dbn_formula.specs.declared.formula.Formula.{Formula}
use Rattle.dbn_formula.specs.declared.formula.Formula.TheVariants.{And, Not, Exists}
use Rattle.dbn_formula.proofs.HoldsLaws.{holds_and, holds_not, holds_exists}
use Rattle.dbn_formula.proofs.FreeLaws.{occurrences_and, occurrences_not}
use Rattle.dbn_formula.proofs.ConstantsLaws.{constants_and, constants_not, constants_exists}
use Rattle.dbn_formula.proofs.TypingLaws.{types_and, types_not, types_exists}
use Rattle.dbn_formula.proofs.DistinctLaws.{distinct_and, distinct_not, distinct_exists}
use Rattle.dbn_formula.proofs.SafeLaws.{in_order_and, in_order_not, in_order_exists}
use Rattle.dbn_formula.proofs.Depends.{depends}
use Rattle.dbn_formula.proofs.Bounded.{bounded, joined, inner_scope}
use Rattle.dbn_formula.proofs.Choices.{choice_out, Choice, choice_in, entered_own, entered_binds, valued_inside}
use Rattle.dbn_formula.proofs.OrderOfParts.{Alike}
use Rattle.dbn_formula.proofs.Arranged.{in_order_alike, alike_append, alike_self}
use Rattle.dbn_formula.proofs.VariableLaws.{in_of_is, is_of_in, in_bound}
use Rattle.dbn_nodes.specs.declared.node.Node.{Node}
use Rattle.dbn_network.specs.Values.{val}
use Rattle.dbn_nodes.specs.Values.{without}
use Rattle.dbn_plan.proofs.Places.{val_stays}
use Rattle.dbn_plan.specs.Meaning.{Means, LooksAt, vars_of}
use Rattle.dbn_plan.specs.Compiled.{World, Stands, Fit, Compiled}
use Rattle.dbn_plan.proofs.NodeLaws.{means_alike, diff_means, over, over_own}

-- ---- truth

pub and_both : (a b c : Bool) → (a && (b && c)) ≡ ((a && b) && c)
and_both true b c = refl
and_both false b c = refl

pub and_denied : (a b : Bool) → (a && not (a && b)) ≡ (a && not b)
and_denied true b = refl
and_denied false b = refl

pub and_either : (a b c : Bool) → ((a && b) || (a && c)) ≡ (a && (b || c))
and_either true b c = refl
and_either false b c = refl

-- ---- what all parts of a conjunction need

pub record FitAll (consts : List Value) (rels : Shapes) (fs : List Formula) (scope : TypedVars) (bound : List Var) : Type 0 where
  pub safe_here : in_turn (map as_level fs) bound ≡ true
  pub typed : list_all (λ f. types_fit rels f scope) fs ≡ true
  pub once : list_all distinct fs ≡ true
  pub scoped : (x : Var) → In x (flat_map occurrences fs) → binds scope x ≡ true
  pub written : (v : Value) → In v (flat_map constants fs) → In v consts

pub turn_alike : (fs : List Formula) (xs ys : List Var) → Alike xs ys → in_turn (map as_level fs) xs ≡ in_turn (map as_level fs) ys
turn_alike [] xs ys alike = refl
turn_alike (f ∷ fs) xs ys alike =
    ap (λ b. b && in_turn (map as_level fs) (xs ++ occurrences f)) (in_order_alike f xs ys alike)
    ∙ ap (λ b. safe_in_order f ys && b) (turn_alike fs (xs ++ occurrences f) (ys ++ occurrences f) (alike_append xs (occurrences f) ys (occurrences f) alike (alike_self (occurrences f))))

pub turn_parts : (front rest : List Formula) (bound : List Var) → in_turn (map as_level (front ++ rest)) bound ≡ true
    → (in_turn (map as_level front) bound ≡ true) × (in_turn (map as_level rest) (bound ++ flat_map occurrences front) ≡ true)
turn_parts [] rest bound e = (refl, subst (λ xs. in_turn (map as_level rest) xs ≡ true) (sym (append_none bound)) e)
  where
    append_none : (xs : List Var) → xs ++ [] ≡ xs
    append_none [] = refl
    append_none (x ∷ xs) = ap (λ ys. x ∷ ys) (append_none xs)
turn_parts (f ∷ front) rest bound e =
    let parts = and_parts (safe_in_order f bound) (in_turn (map as_level (front ++ rest)) (bound ++ occurrences f)) e in
    let tail = turn_parts front rest (bound ++ occurrences f) parts.1 in (
      and_from (safe_in_order f bound) (in_turn (map as_level front) (bound ++ occurrences f)) parts.0 tail.0,
      subst (λ xs. in_turn (map as_level rest) xs ≡ true) (append_assoc bound (occurrences f) (flat_map occurrences front)) tail.1,
    )

pub all_both : {A : Type 0} (P : A → Bool) (xs ys : List A) → list_all P (xs ++ ys) ≡ (list_all P xs && list_all P ys)
all_both P [] ys = refl
all_both P (x ∷ xs) ys = ap (λ b. P x && b) (all_both P xs ys) ∙ and_both (P x) (list_all P xs) (list_all P ys)

-- of the parts in front, and of those behind
pub front_fit : (consts : List Value) (rels : Shapes) (front rest : List Formula) (scope : TypedVars) (bound : List Var) → FitAll consts rels (front ++ rest) scope bound → Fit consts rels (And front) scope bound
front_fit consts rels front rest scope bound fit = record {
  safe_here = in_order_and front bound ∙ (turn_parts front rest bound fit.safe_here).0;
  typed = types_and rels front scope ∙ (and_parts (list_all (λ g. types_fit rels g scope) front) (list_all (λ g. types_fit rels g scope) rest) (sym (all_both (λ g. types_fit rels g scope) front rest) ∙ fit.typed)).0;
  once = distinct_and front ∙ (and_parts (list_all distinct front) (list_all distinct rest) (sym (all_both distinct front rest) ∙ fit.once)).0;
  scoped = λ x at. fit.scoped x (subst (In x) (sym (flat_map-append occurrences front rest)) (append_left x (flat_map occurrences front) (flat_map occurrences rest) (subst (In x) (occurrences_and front) at)));
  written = λ v at. fit.written v (subst (In v) (sym (flat_map-append constants front rest)) (append_left v (flat_map constants front) (flat_map constants rest) (subst (In v) (constants_and front) at)));
}

pub behind_fit : (consts : List Value) (rels : Shapes) (front rest : List Formula) (scope : TypedVars) (bound more : List Var) → Alike more (bound ++ flat_map occurrences front)
    → FitAll consts rels (front ++ rest) scope bound → FitAll consts rels rest scope more
behind_fit consts rels front rest scope bound more alike fit = record {
  safe_here = turn_alike rest more (bound ++ flat_map occurrences front) alike ∙ (turn_parts front rest bound fit.safe_here).1;
  typed = (and_parts (list_all (λ g. types_fit rels g scope) front) (list_all (λ g. types_fit rels g scope) rest) (sym (all_both (λ g. types_fit rels g scope) front rest) ∙ fit.typed)).1;
  once = (and_parts (list_all distinct front) (list_all distinct rest) (sym (all_both distinct front rest) ∙ fit.once)).1;
  scoped = λ x at. fit.scoped x (subst (In x) (sym (flat_map-append occurrences front rest)) (append_right x (flat_map occurrences front) (flat_map occurrences rest) at));
  written = λ v at. fit.written v (subst (In v) (sym (flat_map-append constants front rest)) (append_right v (flat_map constants front) (flat_map constants rest) at));
}

pub first_fit : (consts : List Value) (rels : Shapes) (f : Formula) (fs : List Formula) (scope : TypedVars) (bound : List Var) → FitAll consts rels (f ∷ fs) scope bound → Fit consts rels f scope bound
first_fit consts rels f fs scope bound fit = record {
  safe_here = (and_parts (safe_in_order f bound) (in_turn (map as_level fs) (bound ++ occurrences f)) fit.safe_here).0;
  typed = (and_parts (types_fit rels f scope) (list_all (λ g. types_fit rels g scope) fs) fit.typed).0;
  once = (and_parts (distinct f) (list_all distinct fs) fit.once).0;
  scoped = λ x at. fit.scoped x (append_left x (occurrences f) (flat_map occurrences fs) at);
  written = λ v at. fit.written v (append_left v (constants f) (flat_map constants fs) at);
}

pub rest_fit : (consts : List Value) (rels : Shapes) (f : Formula) (fs : List Formula) (scope : TypedVars) (bound more : List Var) → Alike more (bound ++ occurrences f)
    → FitAll consts rels (f ∷ fs) scope bound → FitAll consts rels fs scope more
rest_fit consts rels f fs scope bound more alike fit = record {
  safe_here = turn_alike fs more (bound ++ occurrences f) alike ∙ (and_parts (safe_in_order f bound) (in_turn (map as_level fs) (bound ++ occurrences f)) fit.safe_here).1;
  typed = (and_parts (types_fit rels f scope) (list_all (λ g. types_fit rels g scope) fs) fit.typed).1;
  once = (and_parts (distinct f) (list_all distinct fs) fit.once).1;
  scoped = λ x at. fit.scoped x (append_right x (occurrences f) (flat_map occurrences fs) at);
  written = λ v at. fit.written v (append_right v (constants f) (flat_map constants fs) at);
}

pub all_fit : (consts : List Value) (rels : Shapes) (fs : List Formula) (scope : TypedVars) (bound : List Var) → Fit consts rels (And fs) scope bound → FitAll consts rels fs scope bound
all_fit consts rels fs scope bound fit = record {
  safe_here = sym (in_order_and fs bound) ∙ fit.safe_here;
  typed = sym (types_and rels fs scope) ∙ fit.typed;
  once = sym (distinct_and fs) ∙ fit.once;
  scoped = λ x at. fit.scoped x (subst (In x) (sym (occurrences_and fs)) at);
  written = λ v at. fit.written v (subst (In v) (sym (constants_and fs)) at);
}

module _ {C : Type 0} (R : C → C → Ordering) (int_of : C → Option ℤ) where
  -- the rows of the node behind are those that satisfy all of these formulas besides
  abbrev pub CompiledAll : (Value → Option C) → List Value → Shapes → List Formula → List (Node C) → ℕ → List Term → List (Node C) → ℕ → List Term → Type 0
  CompiledAll cell_of consts rels fs nodes node labels after made made_labels =
      (w : World R int_of cell_of consts rels) (scope : TypedVars) (p : Env → Bool) → FitAll consts rels fs scope (vars_of labels) → Stands R int_of w nodes node labels scope p
      → Stands R int_of w after made made_labels scope (λ t. p t && list_all (λ f. holds_over w.dom w.db f t) fs)

module _ {C : Type 0} {R : C → C → Ordering} {int_of : C → Option ℤ} {cell_of : Value → Option C} {consts : List Value} {rels : Shapes} (w : World R int_of cell_of consts rels) where
  -- a test that says the same
  pub stands_alike : (nodes : List (Node C)) (node : ℕ) (labels : List Term) (scope : TypedVars) (p q : Env → Bool) → ((t : Env) → p t ≡ q t)
      → Stands R int_of w nodes node labels scope p → Stands R int_of w nodes node labels scope q
  stands_alike nodes node labels scope p q same s = record {
    means = means_alike w.coding.total w.coding.exact w.K w.coding.one (val R node nodes w.feeds) labels p q same s.means;
    looks = λ t u agree. sym (same t) ∙ s.looks t u agree ∙ same u;
    valued = λ t e. s.valued t (same t ∙ e);
  }

  -- later nodes don't matter
  pub stands_later : (nodes more : List (Node C)) (node : ℕ) (labels : List Term) (scope : TypedVars) (p : Env → Bool) → node < length nodes
      → Stands R int_of w nodes node labels scope p → Stands R int_of w (nodes ++ more) node labels scope p
  stands_later nodes more node labels scope p h s = record {
    means = subst (λ rows. Means w.K rows labels p) (sym (val_stays R w.feeds nodes more node h)) s.means;
    looks = s.looks;
    valued = s.valued;
  }

  -- it is enough to know the rows: the formula looks at bound variables alone, and is bounded
  pub stands_from : (f : Formula) (nodes after : List (Node C)) (node made : ℕ) (labels made_labels : List Term) (scope : TypedVars) (p : Env → Bool)
      → Fit consts rels f scope (vars_of labels) → Stands R int_of w nodes node labels scope p
      → Alike (vars_of made_labels) (vars_of labels ++ occurrences f)
      → Means w.K (val R made after w.feeds) made_labels (λ t. p t && holds_over w.dom w.db f t)
      → Stands R int_of w after made made_labels scope (λ t. p t && holds_over w.dom w.db f t)
  stands_from f nodes after node made labels made_labels scope p fit s alike means = record {
    means = means;
    looks = λ t u agree.
        ap (λ b. b && holds_over w.dom w.db f t) (s.looks t u (λ x at. agree x (alike.back x (append_left x (vars_of labels) (occurrences f) at))))
        ∙ ap (λ b. p u && b) (depends w.dom w.db f t u (λ x at. agree x (alike.back x (append_right x (vars_of labels) (occurrences f) at))));
    valued = λ t e.
        let parts = and_parts (p t) (holds_over w.dom w.db f t) e in
        let here : AreValued w.dom scope (vars_of labels) t = s.valued t parts.0 in
        let both : AreValued w.dom scope (vars_of labels ++ occurrences f) t = joined w.dom w.db rels w.rows scope t (vars_of labels) (occurrences f) here
        (bounded w.dom w.db rels w.rows f scope (vars_of labels) t fit.safe_here fit.typed fit.scoped (record { each = λ v at. w.consts_in.each v (fit.written v at) }) here parts.1) in
        record { each = λ x at. both.each x (alike.there x at) };
  }

  -- ---- `not`

  pub not_means : (f : Formula) (ls rs : List (List C)) (labels : List Term) (p : Env → Bool) → Means w.K ls labels p
      → Means w.K rs labels (λ t. p t && holds_over w.dom w.db f t) → LooksAt (vars_of labels) p → ((x : Var) → In x (occurrences f) → In x (vars_of labels))
      → Means w.K (without R ls rs) labels (λ t. p t && holds_over w.dom w.db (Not f) t)
  not_means f ls rs labels p left right looks within =
      let both : Env → Bool = λ t. p t && holds_over w.dom w.db f t in
      let looks_both : LooksAt (vars_of labels) both = λ s t agree.
      ap (λ b. b && holds_over w.dom w.db f s) (looks s t agree) ∙ ap (λ b. p t && b) (depends w.dom w.db f s t (λ x here. agree x (within x here))) in
      means_alike w.coding.total w.coding.exact w.K w.coding.one (without R ls rs) labels (λ t. p t && not (both t)) (λ t. p t && holds_over w.dom w.db (Not f) t)
      (λ t. and_denied (p t) (holds_over w.dom w.db f t) ∙ ap (λ b. p t && b) (sym (holds_not w.dom w.db f t)))
      (diff_means w.coding.total w.coding.exact w.K w.coding.one ls rs labels p both left right looks_both)

  pub not_fit : (f : Formula) (scope : TypedVars) (bound : List Var) → Fit consts rels (Not f) scope bound → Fit consts rels f scope bound × ((x : Var) → In x (occurrences f) → In x bound)
  not_fit f scope bound fit =
      let safes = and_parts (all_in (occurrences f) bound) (safe_in_order f bound) (sym (in_order_not f bound) ∙ fit.safe_here) in (
        record {
          safe_here = safes.1;
          typed = sym (types_not rels f scope) ∙ fit.typed;
          once = sym (distinct_not f) ∙ fit.once;
          scoped = λ x at. fit.scoped x (subst (In x) (sym (occurrences_not f)) at);
          written = λ v at. fit.written v (subst (In v) (sym (constants_not f)) at);
        },
        λ x at. in_of_is x bound (all_at (λ y. is_in y bound) x (occurrences f) safes.0 at),
      )

  -- ---- `exists`

  bound_over : (xs : List Var) (t : Env) (x : Var) → is_bound (map (λ y. (y, lookup t y)) xs ++ []) x ≡ is_in x xs
  bound_over [] t x = refl
  bound_over (y ∷ xs) t x = ap (λ b. var_eq x y || b) (bound_over xs t x)

  empty_is : {A : Type 0} (xs : List A) → is_empty xs ≡ true → (x : A) → In x xs → ⊥
  empty_is [] e x at = at
  empty_is (y ∷ ys) e x at = true≢false (sym e)

  some_same : {A : Type 0} (a b : A) → Some a ≡ Some b → a ≡ b
  some_same a b e = cc

  own_domain : (dom : Domain) (vars scope : TypedVars) (y : Var × ColType) (v : Value) → distinct_vars vars ≡ true → In y vars → IsValued dom (entered vars scope) (term.Var y.0) v → In v (dom y.1)
  own_domain dom vars scope y v once at valued =
      subst (λ type. In v (dom type)) (some_same valued.type y.1 (sym valued.is ∙ entered_own vars scope y once at)) valued.within

  -- each quantified variable occurs in the body, or its type has a value
  pub Room : TypedVars → Formula → Type 0
  Room vars f = (y : Var × ColType) → In y vars → is_in y.0 (occurrences f) ≡ false → (v : Value) × In v (w.dom y.1)

  pub some_from : (vars scope : TypedVars) (f : Formula) (t : Env) → distinct_vars vars ≡ true → AreValued w.dom (entered vars scope) (occurrences f) t → Room vars f
      → holds_over w.dom w.db f t ≡ true → holds_over w.dom w.db (Exists vars f) t ≡ true
  unfolding Room
  some_from vars scope f t once valued room holds =
      let xs : List Var = occurrences f in
      let e : Env = over w.coding.total w.coding.exact w.K w.coding.one xs t [] in
      let own : Agree xs e t = over_own w.coding.total w.coding.exact w.K w.coding.one xs t [] in
      let choices : AllByRecursion (Choice w.dom e) vars = recursion_from (Choice w.dom e) vars (λ y at.
      elim (is_in y.0 xs) as (λ b. is_in y.0 xs ≡ b → Choice w.dom e y) [
        | true ↦ λ here.
            let within : In y.0 xs = in_of_is y.0 xs here in
            record { value = lookup t y.0; within = own_domain w.dom vars scope y (lookup t y.0) once at (valued.each y.0 within); own = λ b. sym (own y.0 within) }
        | false ↦ λ here.
            let free_one = room y at here in
            record { value = free_one.0; within = free_one.1; own = λ b. absurd (true≢false (sym b ∙ bound_over xs t y.0 ∙ here)) }
      ] refl) in
      holds_exists w.dom w.db vars f t
      ∙ choice_in w.dom vars (holds_over w.dom w.db f) e t
      (λ u keeps. depends w.dom w.db f u t (λ x at. keeps.each x (bound_over xs t x ∙ is_of_in x xs at) ∙ own x at) ∙ holds)
      choices (λ x b free. sym (own x (in_of_is x xs (sym (bound_over xs t x) ∙ b))))

  pub some_fit : (vars : TypedVars) (f : Formula) (scope : TypedVars) (bound : List Var) → Fit consts rels (Exists vars f) scope bound
      → Fit consts rels f (entered vars scope) bound × ((x : Var) → In x bound → binds vars x ≡ false) × (distinct_vars vars ≡ true)
  some_fit vars f scope bound fit =
      let safes = and_parts (not (list_any (binds vars) bound)) (safe_in_order f bound) (sym (in_order_exists vars f bound) ∙ fit.safe_here) in
      let onces = and_parts (distinct_vars vars) (distinct f) (sym (distinct_exists vars f) ∙ fit.once) in (
        record {
          safe_here = safes.1;
          typed = sym (types_exists rels vars f scope) ∙ fit.typed;
          once = onces.1;
          scoped = λ x at. entered_binds vars scope x (inner_scope vars f scope fit.scoped x at);
          written = λ v at. fit.written v (subst (In v) (sym (constants_exists vars f)) at);
        },
        (λ x at. fails_at (binds vars) x bound (not-true (list_any (binds vars) bound) safes.0) at),
        onces.0,
      )

  -- the same node inside the quantifier
  pub stands_inside : (vars scope : TypedVars) (nodes : List (Node C)) (node : ℕ) (labels : List Term) (p : Env → Bool) → ((x : Var) → In x (vars_of labels) → binds vars x ≡ false)
      → Stands R int_of w nodes node labels scope p → Stands R int_of w nodes node labels (entered vars scope) p
  stands_inside vars scope nodes node labels p free s = record {
    means = s.means;
    looks = s.looks;
    valued = λ t e. let valued = s.valued t e in record { each = λ x at. valued_inside w.dom vars scope x (lookup t x) (free x at) (valued.each x at) };
  }

  -- whether there is room, as a test
  abbrev pub has_room : TypedVars → Formula → Bool
  has_room vars f = list_all (λ y. is_in y.0 (occurrences f) || not (is_empty (w.dom y.1))) vars

  filled : {A : Type 0} (xs : List A) → is_empty xs ≡ false → (x : A) × In x xs
  filled [] e = absurd (true≢false e)
  filled (y ∷ ys) e = (y, inl refl)

  pub room_is : (vars : TypedVars) (f : Formula) → has_room vars f ≡ true → Room vars f
  unfolding Room
  room_is vars f e y at free =
      let test = all_at (λ z. is_in z.0 (occurrences f) || not (is_empty (w.dom z.1))) y vars e at in
      filled (w.dom y.1) (not-true (is_empty (w.dom y.1)) (⊎_elim (λ here. absurd (true≢false (sym here ∙ free))) (λ there. there) (or_cases (is_in y.0 (occurrences f)) (not (is_empty (w.dom y.1))) test)))

  -- the values of the variables are in their domains
  pub room_chosen : (vars scope : TypedVars) (f : Formula) (s : Env) → distinct_vars vars ≡ true → ((x : Var) → binds vars x ≡ true → IsValued w.dom (entered vars scope) (term.Var x) (lookup s x)) → has_room vars f ≡ true
  room_chosen vars scope f s once theirs =
      all_from (λ y. is_in y.0 (occurrences f) || not (is_empty (w.dom y.1))) vars
      (λ y here.
      or_right (is_in y.0 (occurrences f)) (not (is_empty (w.dom y.1))) (not_from_false (is_empty (w.dom y.1)) (false_from_ne_true (is_empty (w.dom y.1)) (λ none.
      empty_is (w.dom y.1) none (lookup s y.0) (own_domain w.dom vars scope y (lookup s y.0) once here (theirs y.0 (in_bound vars y here)))))))

  pub some_shown : (vars scope : TypedVars) (f : Formula) (nodes after : List (Node C)) (node made : ℕ) (labels inner wanted : List Term) (p : Env → Bool)
      → Fit consts rels (Exists vars f) scope (vars_of labels) → Stands R int_of w nodes node labels scope p
      → Stands R int_of w after made inner (entered vars scope) (λ t. p t && holds_over w.dom w.db f t)
      → ((x : Var) → In x (occurrences f) → In x (vars_of inner))
      → ((x : Var) → In x (vars_of wanted) → binds vars x ≡ false)
      → ((t : Env) → ((p t && holds_over w.dom w.db f t) && has_room vars f) ≡ true → (p t && holds_over w.dom w.db (Exists vars f) t) ≡ true)
      × ((t : Env) → (p t && holds_over w.dom w.db (Exists vars f) t) ≡ true → (s : Env) × Agree (vars_of wanted) s t × (((p s && holds_over w.dom w.db f s) && has_room vars f) ≡ true))
  some_shown vars scope f nodes after node made labels inner wanted p fit outer body all hidden =
      let inside = some_fit vars f scope (vars_of labels) fit in
      let q : Env → Bool = λ t. p t && holds_over w.dom w.db f t in (
        (λ t e.
            let room = and_parts (q t) (has_room vars f) e in
            let parts = and_parts (p t) (holds_over w.dom w.db f t) room.0 in
            let valued = body.valued t room.0 in
            and_from (p t) (holds_over w.dom w.db (Exists vars f) t) parts.0
            (some_from vars scope f t inside.2 (record { each = λ x here. valued.each x (all x here) }) (room_is vars f room.1) parts.1)),
        (λ t e.
            let parts = and_parts (p t) (holds_over w.dom w.db (Exists vars f) t) e in
            let choice = choice_out w.dom vars scope (holds_over w.dom w.db f) t (sym (holds_exists w.dom w.db vars f t) ∙ parts.1) in
            let s : Env = choice.0 in
            let p_s : p s ≡ true = outer.looks s t (λ x here. choice.1.others x (inside.1 x here)) ∙ parts.0 in
            let room : has_room vars f ≡ true = room_chosen vars scope f s inside.2 choice.1.theirs in (
              s,
              (λ x here. choice.1.others x (hidden x here)),
              and_from (q s) (has_room vars f) (and_from (p s) (holds_over w.dom w.db f s) p_s choice.1.passes) room,
            )),
      )

-- ---- `and`, one conjunct after the other

module _ {C : Type 0} {R : C → C → Ordering} {int_of : C → Option ℤ} {cell_of : Value → Option C} {consts : List Value} {rels : Shapes} where
  pub all_none : (nodes : List (Node C)) (node : ℕ) (labels : List Term) → CompiledAll R int_of cell_of consts rels [] nodes node labels nodes node labels
  all_none nodes node labels w scope p fit s = stands_alike w nodes node labels scope p (λ t. p t && true) (λ t. kept (p t)) s
    where
      kept : (b : Bool) → b ≡ (b && true)
      kept true = refl
      kept false = refl

  pub all_step : (f : Formula) (fs : List Formula) (nodes between after : List (Node C)) (node middle made : ℕ) (labels middle_labels made_labels : List Term)
      → Compiled R int_of cell_of consts rels f nodes node labels between middle middle_labels
      → Alike (vars_of middle_labels) (vars_of labels ++ occurrences f)
      → CompiledAll R int_of cell_of consts rels fs between middle middle_labels after made made_labels
      → CompiledAll R int_of cell_of consts rels (f ∷ fs) nodes node labels after made made_labels
  all_step f fs nodes between after node middle made labels middle_labels made_labels first alike rest w scope p fit s =
      let p2 : Env → Bool = λ t. p t && holds_over w.dom w.db f t in
      let mid : Stands R int_of w between middle middle_labels scope p2 = first w scope p (first_fit consts rels f fs scope (vars_of labels) fit) s in
      stands_alike w after made made_labels scope (λ t. p2 t && list_all (λ g. holds_over w.dom w.db g t) fs) (λ t. p t && list_all (λ g. holds_over w.dom w.db g t) (f ∷ fs))
      (λ t. sym (and_both (p t) (holds_over w.dom w.db f t) (list_all (λ g. holds_over w.dom w.db g t) fs)))
      (rest w scope p2 (rest_fit consts rels f fs scope (vars_of labels) (vars_of middle_labels) alike fit) mid)

  pub all_steps : (front fs : List Formula) (nodes between after : List (Node C)) (node middle made : ℕ) (labels middle_labels made_labels : List Term)
      → Compiled R int_of cell_of consts rels (And front) nodes node labels between middle middle_labels
      → Alike (vars_of middle_labels) (vars_of labels ++ flat_map occurrences front)
      → CompiledAll R int_of cell_of consts rels fs between middle middle_labels after made made_labels
      → CompiledAll R int_of cell_of consts rels (front ++ fs) nodes node labels after made made_labels
  all_steps front fs nodes between after node middle made labels middle_labels made_labels first alike rest w scope p fit s =
      let says : Env → Formula → Bool = λ t g. holds_over w.dom w.db g t in
      let p2 : Env → Bool = λ t. p t && holds_over w.dom w.db (And front) t in
      let mid : Stands R int_of w between middle middle_labels scope p2 = first w scope p (front_fit consts rels front fs scope (vars_of labels) fit) s in
      stands_alike w after made made_labels scope (λ t. p2 t && list_all (says t) fs) (λ t. p t && list_all (says t) (front ++ fs))
      (λ t. sym (and_both (p t) (holds_over w.dom w.db (And front) t) (list_all (says t) fs)) ∙ ap (λ b. p t && (b && list_all (says t) fs)) (holds_and w.dom w.db front t) ∙ ap (λ b. p t && b) (sym (all_both (says t) front fs)))
      (rest w scope p2 (behind_fit consts rels front fs scope (vars_of labels) (vars_of middle_labels) alike fit) mid)

  pub and_compiled : (fs : List Formula) (nodes after : List (Node C)) (node made : ℕ) (labels made_labels : List Term)
      → CompiledAll R int_of cell_of consts rels fs nodes node labels after made made_labels → Compiled R int_of cell_of consts rels (And fs) nodes node labels after made made_labels
  and_compiled fs nodes after node made labels made_labels all w scope p fit s =
      stands_alike w after made made_labels scope (λ t. p t && list_all (λ g. holds_over w.dom w.db g t) fs) (λ t. p t && holds_over w.dom w.db (And fs) t)
      (λ t. ap (λ b. p t && b) (sym (holds_and w.dom w.db fs t)))
      (all w scope p (all_fit consts rels fs scope (vars_of labels) fit) s)
