-- The nodes that `not`, `exists` and `or` add.
use Rattle.std.proofs.Common.{◌≡◌, ◌<◌, ◌+◌, ◌*◌, ◌≤◌, ℕ, ℤ, max, zero, suc, inl, inr, ⊎_elim, Bool, true, false, cond, not, ◌&&◌, ◌||◌, List, [], ◌∷◌, ◌++◌, map, refl, ap, sym, ◌∙◌, subst, Option, length, arith}
use Rattle.std.specs.Prelude.{◌==◌, slice_get}
use Rattle.std.proofs.Math.Dec.{eqb-suc-zero}
use Rattle.std.specs.declared.cmp.Ordering.{Ordering}
use Rattle.std.specs.List.{list_any, list_all, flat_map}
use Rattle.std.proofs.lemmas.Bool.{true≢false, and_parts, not-true}
use Rattle.std.proofs.lemmas.List.{append_assoc}
use Rattle.dbn_value.specs.Members.{In}
use Rattle.dbn_value.proofs.MemberLaws.{all_at, in_append, append_left, append_right, in_flat, flat_in, fails_at}
use Rattle.dbn_value.specs.declared.value.Value.{Value}
use Rattle.dbn_value.specs.declared.term.Var.{Var}
use Rattle.dbn_value.specs.declared.term.Term.{Term}
use Rattle.dbn_value.specs.declared.term.Term.TheVariants as term
use Rattle.dbn_formula.specs.Variables.{TypedVars, is_in, binds, firsts}
use Rattle.dbn_formula.specs.Holds.{Env, holds_over}
use Rattle.dbn_formula.specs.Free.{occurrences, variable_of, unhidden}
use Rattle.dbn_formula.specs.Answers.{constants}
use Rattle.dbn_formula.specs.Safe.{safe_in_order, all_in}
use Rattle.dbn_formula.specs.Size.{total, size}
use Rattle.dbn_formula.specs.Typing.{Shapes, types_fit, entered}
use Rattle.dbn_formula.specs.Distinct.{distinct}
use Rattle.dbn_formula.specs.Solve.{is_empty}
use Rattle.dbn_formula.specs.declared.formula.Formula.{Formula}
use Rattle.dbn_formula.specs.declared.formula.Formula.TheVariants.{Not, Exists, Or}
use Rattle.dbn_formula.proofs.HoldsLaws.{holds_or}
use Rattle.dbn_formula.proofs.SizeLaws.{size_not, size_exists, size_or}
use Rattle.dbn_formula.proofs.FreeLaws.{occurrences_not, occurrences_exists, occurrences_or}
use Rattle.dbn_formula.proofs.ConstantsLaws.{constants_or}
use Rattle.dbn_formula.proofs.TypingLaws.{types_or}
use Rattle.dbn_formula.proofs.DistinctLaws.{distinct_or}
use Rattle.dbn_formula.proofs.SafeLaws.{in_order_not, in_order_exists, in_order_or}
use Rattle.dbn_formula.proofs.VariableLaws.{in_of_is, in_unhidden, unhidden_in, in_firsts, firsts_in}
use Rattle.dbn_formula.proofs.OrderOfParts.{Alike}
use Rattle.dbn_formula.proofs.Arranged.{alike_then, alike_same}
use Rattle.dbn_nodes.specs.declared.node.Node.TheVariants as node
use Rattle.dbn_nodes.specs.Values.{either}
use Rattle.dbn_network.specs.Values.{val}
use Rattle.dbn_network.specs.States.{State, Fits, with_node}
use Rattle.dbn_plan.specs.Meaning.{Means, LooksAt, vars_of}
use Rattle.dbn_plan.specs.Columns.{with_vars}
use Rattle.dbn_plan.specs.Compiled.{World, Stands, Fit}
use Rattle.dbn_plan.specs.Making.{IsOpen, Grown, Placed, Labels, Made, Shown, NoneMade, RoomMade, SomeMade, WithVars, IsUnion, rate}
use Rattle.dbn_plan.proofs.Places.{there_last}
use Rattle.dbn_plan.proofs.NodeLaws.{union_means, means_alike}
use Rattle.dbn_plan.proofs.FormulaLaws.{stands_later, stands_from, stands_inside, not_means, not_fit, some_fit, some_shown, and_either}
use Rattle.dbn_plan.proofs.StepLaws.{grown_then, placed_after, grown_at, one_more_node, placed_at, val_at, val_grown, rate_enough}
use Rattle.dbn_plan.proofs.StepsMade.{append_nil}

unbound_outside : (vars : TypedVars) (f : Formula) (bound : List Var) (x : Var) → safe_in_order (Exists vars f) bound ≡ true → In x bound → binds vars x ≡ false
unbound_outside vars f bound x safe here =
    fails_at (binds vars) x bound (not-true (list_any (binds vars) bound) (and_parts (not (list_any (binds vars) bound)) (safe_in_order f bound) (sym (in_order_exists vars f bound) ∙ safe)).0) here

part_fit : (consts : List Value) (all : List Formula) (f : Formula) (rels : Shapes) (scope : TypedVars) (bound : List Var) → In f all → Fit consts rels (Or all) scope bound → Fit consts rels f scope bound
part_fit consts all f rels scope bound at fit =
    let safes = and_parts (safe_in_order f bound) (all_in (flat_map occurrences all) (bound ++ occurrences f))
    (all_at (λ g. safe_in_order g bound && all_in (flat_map occurrences all) (bound ++ occurrences g)) f all (sym (in_order_or all bound) ∙ fit.safe_here) at) in
    record {
      safe_here = safes.0;
      typed = all_at (λ g. types_fit rels g scope) f all (sym (types_or rels all scope) ∙ fit.typed) at;
      once = all_at distinct f all (sym (distinct_or all) ∙ fit.once) at;
      scoped = λ x here. fit.scoped x (subst (In x) (sym (occurrences_or all)) (flat_in occurrences x f all at here));
      written = λ v here. fit.written v (subst (In v) (sym (constants_or all)) (flat_in constants v f all at here));
    }

any_append : {A : Type 0} (t : A → Bool) (xs ys : List A) → list_any t (xs ++ ys) ≡ (list_any t xs || list_any t ys)
any_append t [] ys = refl
any_append t (x ∷ xs) ys = ap (λ b. t x || b) (any_append t xs ys) ∙ or_assoc (t x) (list_any t xs) (list_any t ys)
  where
    or_assoc : (a b c : Bool) → (a || (b || c)) ≡ ((a || b) || c)
    or_assoc true b c = refl
    or_assoc false b c = refl

total_append : (fs gs : List Formula) → total (map size (fs ++ gs)) ≡ total (map size fs) + total (map size gs)
total_append [] gs = omega arith
total_append (f ∷ fs) gs = let rest = total_append fs gs in omega (arith, rest)

-- the body, a test for each variable that occurs nowhere, and a projection
choice_count : (r old mid more new k s whole : ℕ) → 12 ≤ r → mid + 4 ≤ old + r * s → more + 10 * k ≤ mid + r * k → new ≤ more + 1 → whole ≡ max 1 k + s → new + 4 ≤ old + r * whole
choice_count r old mid more new zero s whole enough a b c e =
    let most : max 1 0 ≡ 1 = omega arith in
    let is : r * whole ≡ r * (1 + s) = ap (λ n. r * n) (e ∙ ap (λ n. n + s) most) in
    omega (arith, enough, a, b, c, is)
choice_count r old mid more new (suc k) s whole enough a b c e =
    let most : max 1 (suc k) ≡ suc k = omega arith in
    let is : r * whole ≡ r * (suc k + s) = ap (λ n. r * n) (e ∙ ap (λ n. n + s) most) in
    omega (arith, enough, a, b, c, is)

module _ {C : Type 0} {R : C → C → Ordering} {int_of : C → Option ℤ} {cell_of : Value → Option C} {consts : List Value} where
  pub stands_grown : (rels : Shapes) (w : World R int_of cell_of consts rels) (a b : State C) (i : ℕ) (labels : List Term) (scope : TypedVars) (p : Env → Bool) → Grown a b → i < length a.nodes
      → Stands R int_of w a.nodes i labels scope p → Stands R int_of w b.nodes i labels scope p
  stands_grown rels w a b i labels scope p grown h s =
      subst (λ ns. Stands R int_of w ns i labels scope p) (sym grown.nodes) (stands_later w a.nodes grown.more i labels scope p h s)

  -- ---- `not`

  pub denial_made : (f : Formula) (old mid middle new : State C) (i : ℕ) (labels : List Term) (inner : ℕ) (inner_labels : List Term) (right made : ℕ) (made_labels : List Term) → Placed old i labels
      → safe_in_order (Not f) (vars_of labels) ≡ true → Made R int_of cell_of consts f old mid i labels inner inner_labels → Shown R int_of mid middle inner inner_labels right labels
      → new ≡ with_node middle (node.Diff i right) → made ≡ length middle.nodes → made_labels ≡ labels
      → Made R int_of cell_of consts (Not f) old new i labels made made_labels
  denial_made f old mid middle new i labels inner inner_labels right made made_labels placed safe step back e_new e_made e_labels =
      let to_middle : Grown old middle = grown_then old mid middle step.grown back.grown in
      let last : Grown middle new = grown_at middle new (node.Diff i right) e_new in
      let i_middle : Placed middle i labels = placed_after old middle i labels to_middle placed in
      let within : (x : Var) → In x (occurrences f) → In x (vars_of labels) = λ x here.
      in_of_is x (vars_of labels) (all_at (λ y. is_in y (vars_of labels)) x (occurrences f) (and_parts (all_in (occurrences f) (vars_of labels)) (safe_in_order f (vars_of labels)) (sym (in_order_not f (vars_of labels)) ∙ safe)).0 here) in
      let alike : Alike (vars_of labels) (vars_of labels ++ occurrences (Not f)) = record {
        there = λ x here. append_left x (vars_of labels) (occurrences (Not f)) here;
        back = λ x here. ⊎_elim (λ old_one. old_one) (λ new_one. within x (subst (In x) (occurrences_not f) new_one)) (in_append x (vars_of labels) (occurrences (Not f)) here);
      } in
      subst (λ ls. Made R int_of cell_of consts (Not f) old new i labels made ls) (sym e_labels)
      (record {
        grown = grown_then old middle new to_middle last;
        few =
            let first = step.few in
            let second = back.few in
            let third = one_more_node middle new (node.Diff i right) e_new in
            let enough = rate_enough old.rels in
            let whole = ap (λ n. rate old.rels * n) (size_not f) in
            omega (arith, first, second, third, enough, whole);
        placed = placed_at middle new (node.Diff i right) made labels e_new e_made i_middle.wide;
        labelled = record { keeps = λ a here. here; bound = alike };
        compiled = λ w scope p fit s.
            let fits = not_fit w f scope (vars_of labels) fit in
            let inside = step.compiled w scope p fits.0 s in
            let here : Stands R int_of w middle.nodes i labels scope p = stands_grown old.rels w old middle i labels scope p to_middle placed.there s in
            let both : Env → Bool = λ t. p t && holds_over w.dom w.db f t in
            let shown_back : Means w.K (val R right middle.nodes w.feeds) labels both = back.means w.K w.feeds both both w.coding inside.means (λ t e. e) (λ t e. (t, (λ x at. refl), e)) in
            stands_from w (Not f) old.nodes new.nodes i made labels labels scope p fit s alike
            (subst (λ rs. Means w.K rs labels (λ t. p t && holds_over w.dom w.db (Not f) t)) (sym (val_at R w.feeds middle new (node.Diff i right) made e_new e_made))
            (not_means w f (val R i middle.nodes w.feeds) (val R right middle.nodes w.feeds) labels p here.means shown_back s.looks within));
      })

  -- ---- `exists`

  pub choice_made : (vars : TypedVars) (f : Formula) (old mid more new : State C) (i : ℕ) (labels : List Term) (inner : ℕ) (inner_labels : List Term) (full made : ℕ) (wanted : List Term)
      → safe_in_order (Exists vars f) (vars_of labels) ≡ true → Made R int_of cell_of consts f old mid i labels inner inner_labels
      → RoomMade R int_of cell_of consts vars f mid more inner inner_labels full
      → WithVars (unhidden vars (firsts (occurrences f))) labels wanted → Shown R int_of more new full inner_labels made wanted
      → Made R int_of cell_of consts (Exists vars f) old new i labels made wanted
  choice_made vars f old mid more new i labels inner inner_labels full made wanted safe step room own last =
      let free : (x : Var) → In x (vars_of labels) → binds vars x ≡ false = λ x here. unbound_outside vars f (vars_of labels) x safe here in
      let shown_one : (x : Var) → In x (unhidden vars (firsts (occurrences f))) → In x (occurrences f) × (binds vars x ≡ false) = λ x here.
      let seen = in_unhidden vars x (firsts (occurrences f)) here in (in_firsts x (occurrences f) seen.0, seen.1) in
      let hidden : (x : Var) → In x (vars_of wanted) → binds vars x ≡ false = λ x here.
      ⊎_elim (free x) (λ new_one. (shown_one x new_one).1) (in_append x (vars_of labels) (unhidden vars (firsts (occurrences f))) (own.labelled.bound.there x here)) in
      let alike : Alike (vars_of wanted) (vars_of labels ++ occurrences (Exists vars f)) = record {
        there = λ x here.
            ⊎_elim (λ old_one. append_left x (vars_of labels) (occurrences (Exists vars f)) old_one)
            (λ new_one. let seen = shown_one x new_one in append_right x (vars_of labels) (occurrences (Exists vars f)) (subst (In x) (sym (occurrences_exists vars f)) (unhidden_in vars x (occurrences f) seen.0 seen.1)))
            (in_append x (vars_of labels) (unhidden vars (firsts (occurrences f))) (own.labelled.bound.there x here));
        back = λ x here.
            own.labelled.bound.back x
            (⊎_elim (λ old_one. append_left x (vars_of labels) (unhidden vars (firsts (occurrences f))) old_one)
            (λ new_one.
            let inside = in_unhidden vars x (occurrences f) (subst (In x) (occurrences_exists vars f) new_one) in
            append_right x (vars_of labels) (unhidden vars (firsts (occurrences f))) (unhidden_in vars x (firsts (occurrences f)) (firsts_in x (occurrences f) inside.0) inside.1))
            (in_append x (vars_of labels) (occurrences (Exists vars f)) here));
      } in
      record {
        grown = grown_then old mid new step.grown (grown_then mid more new room.grown last.grown);
        few =
            let first = step.few in
            let second = subst (λ rs. length more.nodes + 10 * length vars ≤ length mid.nodes + rate rs * length vars) step.grown.rels room.few in
            choice_count (rate old.rels) (length old.nodes) (length mid.nodes) (length more.nodes) (length new.nodes) (length vars) (size f) (size (Exists vars f)) (rate_enough old.rels) first second last.few (size_exists vars f);
        placed = last.placed;
        labelled = record { keeps = own.labelled.keeps; bound = alike };
        compiled = λ w scope p fit s.
            let fits = some_fit w vars f scope (vars_of labels) fit in
            let outer : Stands R int_of w old.nodes i labels (entered vars scope) p = stands_inside w vars scope old.nodes i labels p fits.1 s in
            let inside : Stands R int_of w mid.nodes inner inner_labels (entered vars scope) (λ t. p t && holds_over w.dom w.db f t) = step.compiled w (entered vars scope) p fits.0 outer in
            let full_rows : Means w.K (val R full more.nodes w.feeds) inner_labels (λ t. (p t && holds_over w.dom w.db f t) && list_all (λ y. is_in y.0 (occurrences f) || not (is_empty (w.dom y.1))) vars) =
            (subst (λ rs. (v : World R int_of cell_of consts rs) (q : Env → Bool) → LooksAt (vars_of inner_labels) q → Means v.K (val R inner mid.nodes v.feeds) inner_labels q
            → Means v.K (val R full more.nodes v.feeds) inner_labels (λ t. q t && list_all (λ y. is_in y.0 (occurrences f) || not (is_empty (v.dom y.1))) vars)) step.grown.rels room.means)
            w (λ t. p t && holds_over w.dom w.db f t) inside.looks inside.means in
            let ways = some_shown w vars scope f old.nodes mid.nodes i inner labels inner_labels wanted p fit s inside (λ x here. step.labelled.bound.back x (append_right x (vars_of labels) (occurrences f) here)) hidden in
            stands_from w (Exists vars f) old.nodes new.nodes i made labels wanted scope p fit s alike
            (last.means w.K w.feeds (λ t. (p t && holds_over w.dom w.db f t) && list_all (λ y. is_in y.0 (occurrences f) || not (is_empty (w.dom y.1))) vars) (λ t. p t && holds_over w.dom w.db (Exists vars f) t) w.coding full_rows ways.0 ways.1);
      }

  -- ---- `or`

  -- a formula without variables that never holds
  pub empty_made : (f : Formula) (old new : State C) (i : ℕ) (labels : List Term) (made : ℕ) (made_labels : List Term) (n : ℕ) → size f ≡ 1 + n → occurrences f ≡ []
      → ((w : World R int_of cell_of consts old.rels) (t : Env) → holds_over w.dom w.db f t ≡ false) → NoneMade R int_of old new i labels made → made_labels ≡ labels
      → Made R int_of cell_of consts f old new i labels made made_labels
  empty_made f old new i labels made made_labels n sized closed never none e_labels =
      let alike : Alike (vars_of labels) (vars_of labels ++ occurrences f) = alike_same (vars_of labels) (vars_of labels ++ occurrences f) (sym (ap (λ xs. vars_of labels ++ xs) closed ∙ append_nil (vars_of labels))) in
      subst (λ ls. Made R int_of cell_of consts f old new i labels made ls) (sym e_labels)
      (record {
        grown = none.grown;
        few = let first = none.few in let enough = rate_enough old.rels in let whole = ap (λ k. rate old.rels * k) sized in omega (arith, first, enough, whole);
        placed = none.placed;
        labelled = record { keeps = λ a here. here; bound = alike };
        compiled = λ w scope p fit s.
            stands_from w f old.nodes new.nodes i made labels labels scope p fit s alike
            (none.means w.K w.feeds p (λ t. p t && holds_over w.dom w.db f t) w.coding s.means (λ t. ap (λ b. p t && b) (never w t) ∙ and_false (p t)));
      })
    where
      and_false : (b : Bool) → (b && false) ≡ false
      and_false true = refl
      and_false false = refl

  pub nothing_made : (fs : List Formula) (old new : State C) (i : ℕ) (labels : List Term) (made : ℕ) (made_labels : List Term) → fs ≡ [] → NoneMade R int_of old new i labels made → made_labels ≡ labels
      → Made R int_of cell_of consts (Or fs) old new i labels made made_labels
  nothing_made fs old new i labels made made_labels e none e_labels =
      subst (λ gs. Made R int_of cell_of consts (Or gs) old new i labels made made_labels) (sym e)
      (empty_made (Or []) old new i labels made made_labels 0 (size_or []) (occurrences_or []) (λ w t. holds_or w.dom w.db [] t) none e_labels)

  -- one part, over the labels of all
  pub part_made : (all : List Formula) (f : Formula) (old mid new : State C) (i : ℕ) (labels : List Term) (inner : ℕ) (inner_labels : List Term) (wanted : List Term) (made : ℕ) → In f all
      → Made R int_of cell_of consts f old mid i labels inner inner_labels → Shown R int_of mid new inner inner_labels made wanted
      → SomeMade R int_of cell_of consts all (f ∷ []) old new i labels made wanted
  part_made all f old mid new i labels inner inner_labels wanted made in_all step last = record {
    grown = grown_then old mid new step.grown last.grown;
    few = let first = step.few in let second = last.few in omega (arith, first, second);
    placed = last.placed;
    means = λ w scope p fit s.
        let inside = step.compiled w scope p (part_fit consts all f old.rels scope (vars_of labels) in_all fit) s in
        last.means w.K w.feeds (λ t. p t && holds_over w.dom w.db f t) (λ t. p t && list_any (λ g. holds_over w.dom w.db g t) (f ∷ [])) w.coding inside.means
        (λ t e. ap (λ b. p t && b) (or_false (holds_over w.dom w.db f t)) ∙ e)
        (λ t e. (t, (λ x here. refl), ap (λ b. p t && b) (sym (or_false (holds_over w.dom w.db f t))) ∙ e));
  }
    where
      or_false : (b : Bool) → (b || false) ≡ b
      or_false true = refl
      or_false false = refl

  -- the rows of those so far, and of one more
  pub union_made : (all fs gs both : List Formula) (old mid new last : State C) (i : ℕ) (labels : List Term) (left right : ℕ) (wanted : List Term) (made : ℕ) → both ≡ fs ++ gs
      → Placed old i labels → SomeMade R int_of cell_of consts all fs old mid i labels left wanted → SomeMade R int_of cell_of consts all gs mid new i labels right wanted
      → last ≡ with_node new (node.Union left right) → made ≡ length new.nodes
      → SomeMade R int_of cell_of consts all both old last i labels made wanted
  union_made all fs gs both old mid new last i labels left right wanted made e_both placed first second e_last e_made =
      let left_new : Placed new left wanted = placed_after mid new left wanted second.grown first.placed in
      subst (λ hs. SomeMade R int_of cell_of consts all hs old last i labels made wanted) (sym e_both)
      (record {
        grown = grown_then old mid last first.grown (grown_then mid new last second.grown (grown_at new last (node.Union left right) e_last));
        few =
            let a = first.few in
            let b = subst (λ rs. length new.nodes + 3 ≤ length mid.nodes + rate rs * total (map size gs)) first.grown.rels second.few in
            let c = one_more_node new last (node.Union left right) e_last in
            let whole = ap (λ n. rate old.rels * n) (total_append fs gs) in
            omega (arith, a, b, c, whole);
        placed = placed_at new last (node.Union left right) made wanted e_last e_made left_new.wide;
        means = λ w scope p fit s.
            let a = first.means w scope p fit s in
            let s_mid : Stands R int_of w mid.nodes i labels scope p = stands_grown old.rels w old mid i labels scope p first.grown placed.there s in
            let b = (subst (λ rs. (v : World R int_of cell_of consts rs) (sc : TypedVars) (q : Env → Bool) → Fit consts rs (Or all) sc (vars_of labels)
            → Stands R int_of v mid.nodes i labels sc q → Means v.K (val R right new.nodes v.feeds) wanted (λ t. q t && list_any (λ f. holds_over v.dom v.db f t) gs)) first.grown.rels second.means) w scope p fit s_mid in
            let a_new : Means w.K (val R left new.nodes w.feeds) wanted (λ t. p t && list_any (λ f. holds_over w.dom w.db f t) fs) =
            subst (λ rs. Means w.K rs wanted (λ t. p t && list_any (λ f. holds_over w.dom w.db f t) fs)) (sym (val_grown R w.feeds mid new left second.grown first.placed.there)) a in
            subst (λ rs. Means w.K rs wanted (λ t. p t && list_any (λ f. holds_over w.dom w.db f t) (fs ++ gs))) (sym (val_at R w.feeds new last (node.Union left right) made e_last e_made))
            (means_alike w.coding.total w.coding.exact w.K w.coding.one (either R (val R left new.nodes w.feeds) (val R right new.nodes w.feeds)) wanted
            (λ t. (p t && list_any (λ f. holds_over w.dom w.db f t) fs) || (p t && list_any (λ f. holds_over w.dom w.db f t) gs)) (λ t. p t && list_any (λ f. holds_over w.dom w.db f t) (fs ++ gs))
            (λ t. and_either (p t) (list_any (λ f. holds_over w.dom w.db f t) fs) (list_any (λ f. holds_over w.dom w.db f t) gs) ∙ ap (λ b. p t && b) (sym (any_append (λ f. holds_over w.dom w.db f t) fs gs)))
            (union_means w.coding.total w.coding.exact w.K w.coding.one (val R left new.nodes w.feeds) (val R right new.nodes w.feeds) wanted
            (λ t. p t && list_any (λ f. holds_over w.dom w.db f t) fs) (λ t. p t && list_any (λ f. holds_over w.dom w.db f t) gs) a_new b));
      })

  pub or_made : (fs : List Formula) (old new : State C) (i : ℕ) (labels : List Term) (made : ℕ) (wanted : List Term) → Labels (flat_map occurrences fs) labels wanted
      → SomeMade R int_of cell_of consts fs fs old new i labels made wanted → Made R int_of cell_of consts (Or fs) old new i labels made wanted
  or_made fs old new i labels made wanted labelled some =
      let alike : Alike (vars_of wanted) (vars_of labels ++ occurrences (Or fs)) = subst (λ xs. Alike (vars_of wanted) (vars_of labels ++ xs)) (sym (occurrences_or fs)) labelled.bound in
      record {
        grown = some.grown;
        few = let a = some.few in let enough = rate_enough old.rels in let whole = ap (λ n. rate old.rels * n) (size_or fs) in omega (arith, a, enough, whole);
        placed = some.placed;
        labelled = record { keeps = labelled.keeps; bound = alike };
        compiled = λ w scope p fit s.
            stands_from w (Or fs) old.nodes new.nodes i made labels wanted scope p fit s alike
            (means_alike w.coding.total w.coding.exact w.K w.coding.one (val R made new.nodes w.feeds) wanted (λ t. p t && list_any (λ f. holds_over w.dom w.db f t) fs) (λ t. p t && holds_over w.dom w.db (Or fs) t)
            (λ t. ap (λ b. p t && b) (sym (holds_or w.dom w.db fs t))) (some.means w scope p fit s));
      }

module _ {C : Type 0} (R : C → C → Ordering) (int_of : C → Option ℤ) where
  pub record OrSoFar (cell_of : Value → Option C) (consts : List Value) (all fs : List Formula) (old new : State C) (i : ℕ) (labels : List Term) (made : ℕ) (wanted : List Term) : Type 0 where
    pub ready : IsOpen new
    pub some : SomeMade R int_of cell_of consts all fs old new i labels made wanted
    pub union : 1 < length fs → IsUnion new made

pub union_kept : {C : Type 0} (old new : State C) (left right made : ℕ) → new ≡ with_node old (node.Union left right) → made ≡ length old.nodes → IsUnion new made
union_kept {C} old new left right made e_new e_made =
    (left, right, ap (λ k. slice_get new.nodes k) e_made ∙ ap (λ (s : State C). slice_get s.nodes (length old.nodes)) e_new ∙ there_last old.nodes (node.Union left right))

pub union_fits : {C : Type 0} (s : State C) (i : ℕ) (labels : List Term) (j : ℕ) → Placed s i labels → Placed s j labels → Fits s (node.Union i j)
union_fits s i labels j left right = record { left = left.there; right = right.there; names = left.wide ∙ sym right.wide }

-- ---- columns that are there

pub var_label : (labels : List Term) (x : Var) → In x (vars_of labels) → In (term.Var x) labels
var_label labels x at =
    let found = in_flat variable_of x labels at in
    subst (λ a. In a labels) (is_var found.0 found.2) found.1
  where
    is_var : (a : Term) → In x (variable_of a) → a ≡ term.Var x
    is_var (term.Const v) here = absurd here
    is_var (term.Var y) (inr there) = absurd there
    is_var (term.Var y) (inl here) = ap term.Var (sym here)

pub wanted_there : (parts : List Formula) (f : Formula) (labels wanted inner : List Term) → In f parts → safe_in_order (Or parts) (vars_of labels) ≡ true → WithVars (flat_map occurrences parts) labels wanted
    → Labels (occurrences f) labels inner → (a : Term) → In a wanted → In a inner
wanted_there parts f labels wanted inner at safe all own a here =
    let bound : List Var = vars_of labels in
    let safes = and_parts (safe_in_order f bound) (all_in (flat_map occurrences parts) (bound ++ occurrences f))
    (all_at (λ g. safe_in_order g bound && all_in (flat_map occurrences parts) (bound ++ occurrences g)) f parts (sym (in_order_or parts bound) ∙ safe) at) in
    ⊎_elim (λ old_one. own.keeps a old_one)
    (λ new_one.
    let x : Var = new_one.0 in
    let known : In x (bound ++ occurrences f) = in_of_is x (bound ++ occurrences f) (all_at (λ y. is_in y (bound ++ occurrences f)) x (flat_map occurrences parts) safes.1 new_one.2) in
    subst (λ b. In b inner) (sym new_one.1) (var_label inner x (own.bound.back x known)))
    (all.only a here)

pub part_safe : (parts : List Formula) (f : Formula) (bound : List Var) → In f parts → safe_in_order (Or parts) bound ≡ true → safe_in_order f bound ≡ true
part_safe parts f bound at safe =
    (and_parts (safe_in_order f bound) (all_in (flat_map occurrences parts) (bound ++ occurrences f))
    (all_at (λ g. safe_in_order g bound && all_in (flat_map occurrences parts) (bound ++ occurrences g)) f parts (sym (in_order_or parts bound) ∙ safe) at)).0

-- ---- the labels of a disjunction: those of before, and the variables of its first part

vars_more : (labels : List Term) (x : Var) → vars_of (labels ++ term.Var x ∷ []) ≡ vars_of labels ++ x ∷ []
vars_more [] x = refl
vars_more (a ∷ labels) x = ap (λ xs. variable_of a ++ xs) (vars_more labels x) ∙ sym (append_assoc (variable_of a) (vars_of labels) (x ∷ []))

pub with_vars_labels : (labels : List Term) (xs : List Var) → WithVars xs labels (with_vars labels xs)
with_vars_labels labels [] = record {
  labelled = record { keeps = λ a at. at; bound = alike_same (vars_of labels) (vars_of labels ++ []) (sym (append_nil (vars_of labels))) };
  only = λ a at. inl at;
}
with_vars_labels labels (x ∷ xs) =
    elim (is_in x (vars_of labels)) as (λ b. is_in x (vars_of labels) ≡ b → WithVars (x ∷ xs) labels (with_vars (cond b labels (labels ++ term.Var x ∷ [])) xs)) [
      | true ↦ λ e.
          let rest = with_vars_labels labels xs in
          record {
            labelled = record {
              keeps = rest.labelled.keeps;
              bound = record {
                there = λ y at. ⊎_elim (λ here. append_left y (vars_of labels) (x ∷ xs) here) (λ there. append_right y (vars_of labels) (x ∷ xs) (inr there)) (in_append y (vars_of labels) xs (rest.labelled.bound.there y at));
                back = λ y at.
                    ⊎_elim (λ here. rest.labelled.bound.back y (append_left y (vars_of labels) xs here))
                    (λ there. ⊎_elim (λ is. rest.labelled.bound.back y (append_left y (vars_of labels) xs (subst (λ z. In z (vars_of labels)) (sym is) (in_of_is x (vars_of labels) e)))) (λ later. rest.labelled.bound.back y (append_right y (vars_of labels) xs later)) there)
                    (in_append y (vars_of labels) (x ∷ xs) at);
              };
            };
            only = λ a at. ⊎_elim (λ here. inl here) (λ there. inr (there.0, there.1, inr there.2)) (rest.only a at);
          }
      | false ↦ λ e.
          let more : List Term = labels ++ term.Var x ∷ [] in
          let rest = with_vars_labels more xs in
          let split : vars_of more ≡ vars_of labels ++ x ∷ [] = vars_more labels x in
          record {
            labelled = record {
              keeps = λ a at. rest.labelled.keeps a (append_left a labels (term.Var x ∷ []) at);
              bound = alike_then (vars_of (with_vars more xs)) (vars_of more ++ xs) (vars_of labels ++ x ∷ xs) rest.labelled.bound
                  (alike_same (vars_of more ++ xs) (vars_of labels ++ x ∷ xs) (ap (λ ys. ys ++ xs) split ∙ append_assoc (vars_of labels) (x ∷ []) xs));
            };
            only = λ a at.
                ⊎_elim
                (λ here. ⊎_elim (λ old_one. inl old_one) (λ new_one. ⊎_elim (λ is. inr (x, is, inl refl)) (λ none. absurd none) new_one) (in_append a labels (term.Var x ∷ []) here))
                (λ there. inr (there.0, there.1, inr there.2))
                (rest.only a at);
          }
    ] refl

-- each part binds what all of them do
pub first_labels : (parts : List Formula) (f : Formula) (labels wanted : List Term) → In f parts → safe_in_order (Or parts) (vars_of labels) ≡ true → WithVars (firsts (occurrences f)) labels wanted
    → WithVars (flat_map occurrences parts) labels wanted
first_labels parts f labels wanted at safe own =
    let bound : List Var = vars_of labels in
    let safes = and_parts (safe_in_order f bound) (all_in (flat_map occurrences parts) (bound ++ occurrences f))
    (all_at (λ g. safe_in_order g bound && all_in (flat_map occurrences parts) (bound ++ occurrences g)) f parts (sym (in_order_or parts bound) ∙ safe) at) in
    record {
      labelled = record {
        keeps = own.labelled.keeps;
        bound = record {
          there = λ x here.
              ⊎_elim (λ old_one. append_left x bound (flat_map occurrences parts) old_one)
              (λ new_one. append_right x bound (flat_map occurrences parts) (flat_in occurrences x f parts at (in_firsts x (occurrences f) new_one)))
              (in_append x bound (firsts (occurrences f)) (own.labelled.bound.there x here));
          back = λ x here.
              ⊎_elim (λ old_one. own.labelled.bound.back x (append_left x bound (firsts (occurrences f)) old_one))
              (λ new_one.
              let known : In x (bound ++ occurrences f) = in_of_is x (bound ++ occurrences f) (all_at (λ y. is_in y (bound ++ occurrences f)) x (flat_map occurrences parts) safes.1 new_one) in
              ⊎_elim (λ old_one. own.labelled.bound.back x (append_left x bound (firsts (occurrences f)) old_one))
              (λ own_one. own.labelled.bound.back x (append_right x bound (firsts (occurrences f)) (firsts_in x (occurrences f) own_one)))
              (in_append x bound (occurrences f) known))
              (in_append x bound (flat_map occurrences parts) here);
        };
      };
      only = λ a here. ⊎_elim (λ old_one. inl old_one) (λ new_one. inr (new_one.0, new_one.1, flat_in occurrences new_one.0 f parts at (in_firsts new_one.0 (occurrences f) new_one.2))) (own.only a here);
    }

-- the labels that a quantifier leaves are there
pub chosen_there : (vars : TypedVars) (f : Formula) (labels inner wanted : List Term) → WithVars (unhidden vars (firsts (occurrences f))) labels wanted → Labels (occurrences f) labels inner
    → (a : Term) → In a wanted → In a inner
chosen_there vars f labels inner wanted own step a at =
    ⊎_elim (λ old_one. step.keeps a old_one)
    (λ new_one.
    let x : Var = new_one.0 in
    let within : In x (occurrences f) = in_firsts x (occurrences f) (in_unhidden vars x (firsts (occurrences f)) new_one.2).0 in
    subst (λ b. In b inner) (sym new_one.1) (var_label inner x (step.bound.back x (append_right x (vars_of labels) (occurrences f) within))))
    (own.only a at)

pub none_there : {A : Type 0} (xs : List A) (b : Bool) → b ≡ (length xs == 0) → b ≡ true → xs ≡ []
none_there [] b is e = refl
none_there (x ∷ xs) b is e = absurd (true≢false (sym e ∙ is ∙ eqb-suc-zero (length xs)))

pub some_there : {A : Type 0} (xs : List A) (b : Bool) → b ≡ (length xs == 0) → b ≡ false → 0 < length xs
some_there [] b is e = absurd (true≢false (sym is ∙ e))
some_there (x ∷ xs) b is e = omega arith
