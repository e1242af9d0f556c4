-- A closed formula that says: for some values the first parts hold, and the last one, which is solved by itself, doesn't. Its rows are the
-- difference of two projections, to the variables of the second part.
use Rattle.std.proofs.Common.{◌≡◌, ◌+◌, ◌*◌, ◌≤◌, ℕ, ℤ, zero, suc, max, inl, ⊎_elim, Bool, true, not, ◌&&◌, ◌||◌, List, [], ◌∷◌, refl, ap, sym, ◌∙◌, subst, Option, Some, length, arith}
use Rattle.std.specs.Prelude.{slice_get}
use Rattle.std.specs.declared.cmp.Ordering.{Ordering}
use Rattle.std.specs.List.{list_all}
use Rattle.std.proofs.lemmas.Bool.{and_parts, and_from}
use Rattle.dbn_value.specs.Members.{In}
use Rattle.dbn_value.proofs.MemberLaws.{append_right, in_flat, flat_in}
use Rattle.dbn_value.specs.declared.value.Value.{Value}
use Rattle.dbn_value.specs.declared.term.Var.{Var}
use Rattle.dbn_value.specs.declared.term.Term.{Term}
use Rattle.dbn_formula.specs.Variables.{TypedVars, is_in, firsts}
use Rattle.dbn_formula.specs.Holds.{Env, Agree, holds_over}
use Rattle.dbn_formula.specs.Free.{occurrences, variable_of}
use Rattle.dbn_formula.specs.Safe.{safe_in_order}
use Rattle.dbn_formula.specs.Size.{size}
use Rattle.dbn_formula.specs.Solve.{is_empty}
use Rattle.dbn_formula.specs.Typing.{Shapes, entered}
use Rattle.dbn_formula.specs.Ready.{AreValued}
use Rattle.dbn_formula.specs.declared.formula.Formula.{Formula}
use Rattle.dbn_formula.specs.declared.formula.Formula.TheVariants.{Atom, And, Exists}
use Rattle.dbn_formula.proofs.HoldsLaws.{holds_exists}
use Rattle.dbn_formula.proofs.SizeLaws.{size_exists}
use Rattle.dbn_formula.proofs.SafeLaws.{in_order_atom, in_order_exists}
use Rattle.dbn_formula.proofs.Depends.{depends}
use Rattle.dbn_formula.proofs.Choices.{choice_out}
use Rattle.dbn_formula.proofs.VariableLaws.{in_firsts, firsts_in}
use Rattle.dbn_formula.proofs.Arranged.{alike_self}
use Rattle.dbn_nodes.specs.declared.node.Node.TheVariants as node
use Rattle.dbn_network.specs.Values.{val}
use Rattle.dbn_network.specs.States.{State, with_node}
use Rattle.dbn_plan.specs.declared.sources.Sources.{Sources}
use Rattle.dbn_plan.specs.Meaning.{Means, LooksAt, vars_of}
use Rattle.dbn_plan.specs.Compiled.{World, Stands, Fit, Compiled}
use Rattle.dbn_plan.specs.Making.{Grown, Placed, Labels, AreSources, IsReady, Made, Shown, RoomMade, WithVars, rate}
use Rattle.dbn_plan.specs.Answering.{Says, Rooted}
use Rattle.dbn_plan.specs.Referring.{lacking, Difference}
use Rattle.dbn_plan.proofs.Places.{there_small}
use Rattle.dbn_plan.proofs.NodeLaws.{diff_means}
use Rattle.dbn_plan.proofs.DrawnLaws.{Drawn, drawn}
use Rattle.dbn_plan.proofs.FormulaLaws.{not_fit, some_fit, some_from, room_is, room_chosen}
use Rattle.dbn_plan.proofs.SplitLaws.{lacking_size, lacking_from, lacking_sides, lacking_fit, within_left, first_ready, second_within, second_ready}
use Rattle.dbn_plan.proofs.StepLaws.{grown_then, grown_at, one_more_node, placed_at, placed_after, val_at, val_grown}
use Rattle.dbn_plan.proofs.MadeLaws.{stands_grown, var_label}
use Rattle.dbn_plan.proofs.FormsReady.{exists_ready}
use Rattle.dbn_plan.proofs.TopLaws.{unit_stands}

referring_count : (r old one two five new k s l b whole : ℕ) → one + 4 ≤ old + r * l → two + 4 ≤ one + r * b → five ≤ two + 3 → new + 10 * k ≤ five + r * k → s ≡ 1 + l + b → whole ≡ max 1 k + s → new + 2 ≤ old + r * whole
referring_count r old one two five new zero s l b whole first second less room sum all =
    let most : max 1 0 ≡ 1 = omega arith in
    let is : r * whole ≡ r * (1 + (1 + l + b)) = ap (λ n. r * n) (all ∙ ap (λ n. n + s) most ∙ ap (λ n. 1 + n) sum) in
    omega (arith, first, second, less, room, is)
referring_count r old one two five new (suc k) s l b whole first second less room sum all =
    let most : max 1 (suc k) ≡ suc k = omega arith in
    let is : r * whole ≡ r * (suc k + (1 + l + b)) = ap (λ n. r * n) (all ∙ ap (λ n. n + s) most ∙ ap (λ n. suc k + n) sum) in
    omega (arith, first, second, less, room, is)

-- the variables of labels that are there
vars_within : (wanted labels : List Term) → ((a : Term) → In a wanted → In a labels) → (x : Var) → In x (vars_of wanted) → In x (vars_of labels)
vars_within wanted labels within x at = let found = in_flat variable_of x wanted at in flat_in variable_of x found.0 labels (within found.0 found.1) found.2

module _ {C : Type 0} {R : C → C → Ordering} {int_of : C → Option ℤ} (cell_of : Value → Option C) where
  -- what the difference of the two projections says, in one world
  module _ (consts : List Value) (rels : Shapes) (w : World R int_of cell_of consts rels) (vars scope : TypedVars) (front : List Formula) (right : Formula) where
    abbrev Both : List (List C) → List Term → Type 0
    Both rows wanted = Says w.K rows wanted (λ t. holds_over w.dom w.db (Exists vars (lacking front right)) t) (occurrences (Exists vars (lacking front right)))

    abbrev room : Bool
    room = list_all (λ y. is_in y.0 (occurrences (lacking front right)) || not (is_empty (w.dom y.1))) vars

    pub lacking_says : (rows : List (List C)) (wanted : List Term) (d : Drawn (vars_of wanted) (λ t. true && holds_over w.dom w.db (And front) t))
        → Fit consts rels (Exists vars (lacking front right)) scope [] → occurrences (Exists vars (lacking front right)) ≡ []
        → ((x : Var) → In x (occurrences right) → In x (vars_of wanted)) → ((x : Var) → In x (occurrences right) → In x (occurrences (And front)))
        → ((t : Env) → (true && holds_over w.dom w.db (And front) t) ≡ true → AreValued w.dom (entered vars scope) (occurrences (And front)) t)
        → Means w.K rows wanted (λ t. (d.test t && not (true && holds_over w.dom w.db right t)) && room) → Both rows wanted
    lacking_says rows wanted d fit closed shows within valued means =
        let f : Formula = lacking front right in
        let fits = some_fit w vars f scope [] fit in
        let same : (s t : Env) → Agree (vars_of wanted) s t → holds_over w.dom w.db right s ≡ holds_over w.dom w.db right t = λ s t agree. depends w.dom w.db right s t (λ x at. agree x (shows x at)) in
        record {
          passes = λ t. (d.test t && not (true && holds_over w.dom w.db right t)) && room;
          means = means;
          there = λ t e.
              let outer = and_parts (d.test t && not (true && holds_over w.dom w.db right t)) room e in
              let inner = and_parts (d.test t) (not (true && holds_over w.dom w.db right t)) outer.0 in
              let from = d.back t inner.0 in
              let s : Env = from.0 in
              let none : not (holds_over w.dom w.db right s) ≡ true = ap not (same s t from.1) ∙ inner.1 in
              let body : holds_over w.dom w.db f s ≡ true = lacking_from front right w.dom w.db s from.2 none in
              let values = valued s from.2 in
              depends w.dom w.db (Exists vars f) t s (λ x at. absurd (subst (In x) closed at))
              ∙ some_from w vars scope f s fits.2 (record { each = λ x at. values.each x (within_left front right within x at) }) (room_is w vars f outer.1) body;
          back = λ t e.
              let choice = choice_out w.dom vars scope (holds_over w.dom w.db f) t (sym (holds_exists w.dom w.db vars f t) ∙ e) in
              let s : Env = choice.0 in
              let sides = lacking_sides front right w.dom w.db s choice.1.passes in (
                s,
                (λ x at. absurd (subst (In x) closed at)),
                and_from (d.test s && not (true && holds_over w.dom w.db right s)) room
                    (and_from (d.test s) (not (true && holds_over w.dom w.db right s)) (d.there s sides.0) sides.1)
                    (room_chosen w vars scope f s fits.2 choice.1.theirs),
              );
        }

  pub referring_made : (consts : List Value) (vars : TypedVars) (front : List Formula) (right : Formula) (old one two five new : State C) (sources : Sources) (i : ℕ) (labels : List Term) (l : ℕ) (l_labels : List Term) (r : ℕ) (r_labels : List Term)
      (made full : ℕ) (wanted : List Term) → AreSources old sources → i ≡ sources.unit → labels ≡ [] → safe_in_order right [] ≡ true → occurrences (Exists vars (lacking front right)) ≡ []
      → Made R int_of cell_of consts (And front) old one i labels l l_labels → Made R int_of cell_of consts right one two i labels r r_labels
      → WithVars (firsts (occurrences right)) labels wanted → ((a : Term) → In a wanted → In a l_labels)
      → Difference R int_of two five l l_labels r r_labels made wanted → RoomMade R int_of cell_of consts vars (lacking front right) five new made wanted full
      → Rooted R int_of cell_of consts (Exists vars (lacking front right)) old new full wanted
  referring_made consts vars front right old one two five new sources i labels l l_labels r r_labels made full wanted are e_i e_labels alone closed first second own in_left less room =
      let to_two : Grown old two = grown_then old one two first.grown second.grown in
      let to_five : Grown old five = grown_then old two five to_two less.grown in
      let f : Formula = lacking front right in
      let unit : slice_get old.nodes i ≡ Some node.Unit = subst (λ k. slice_get old.nodes k ≡ Some node.Unit) (sym e_i) are.unit in
      record {
        grown = grown_then old five new to_five room.grown;
        few =
            referring_count (rate old.rels) (length old.nodes) (length one.nodes) (length two.nodes) (length five.nodes) (length new.nodes) (length vars) (size f) (size (And front)) (size right) (size (Exists vars f))
            first.few (subst (λ rs. length two.nodes + 4 ≤ length one.nodes + rate rs * size right) first.grown.rels second.few) less.few
            (subst (λ rs. length new.nodes + 10 * length vars ≤ length five.nodes + rate rs * length vars) to_five.rels room.few) (lacking_size front right) (size_exists vars f);
        placed = room.placed;
        columns = λ x at. absurd (subst (In x) closed at);
        says = λ w scope fit.
            let fits = some_fit w vars f scope [] fit in
            let inner : TypedVars = entered vars scope in
            let split = lacking_fit front right consts old.rels inner [] (occurrences (And front)) (alike_self (occurrences (And front))) fits.0 in
            let fit_left : Fit consts old.rels (And front) inner (vars_of labels) = subst (λ ls. Fit consts old.rels (And front) inner (vars_of ls)) (sym e_labels) split.0 in
            let nots = not_fit w right inner (occurrences (And front)) split.1 in
            let own_fit : Fit consts old.rels right inner [] = record { safe_here = alone; typed = nots.0.typed; once = nots.0.once; scoped = nots.0.scoped; written = nots.0.written } in
            let fit_right : Fit consts old.rels right inner (vars_of labels) = subst (λ ls. Fit consts old.rels right inner (vars_of ls)) (sym e_labels) own_fit in
            let start : Stands R int_of w old.nodes i labels inner (λ t. true) = unit_stands cell_of consts old sources i labels inner are e_i e_labels w in
            let lefts = first.compiled w inner (λ t. true) fit_left start in
            let rights = (subst (λ rs. Compiled R int_of cell_of consts rs right one.nodes i labels two.nodes r r_labels) first.grown.rels second.compiled) w inner (λ t. true) fit_right
            (stands_grown old.rels w old one i labels inner (λ t. true) first.grown (there_small old.nodes i node.Unit unit) start) in
            let p : Env → Bool = λ t. true && holds_over w.dom w.db (And front) t in
            let q : Env → Bool = λ t. true && holds_over w.dom w.db right t in
            let left_two : Means w.K (val R l two.nodes w.feeds) l_labels p = subst (λ rows. Means w.K rows l_labels p) (sym (val_grown R w.feeds one two l second.grown first.placed.there)) lefts.means in
            let shows : (x : Var) → In x (occurrences right) → In x (vars_of wanted) = λ x at. own.labelled.bound.back x (append_right x (vars_of labels) (firsts (occurrences right)) (firsts_in x (occurrences right) at)) in
            let d : Drawn (vars_of wanted) p = drawn w.K l_labels p w.coding.one (val R l two.nodes w.feeds) (vars_of wanted) left_two (λ x at. vars_within wanted l_labels in_left x at) in
            let looks : LooksAt (vars_of wanted) q = λ s t agree. depends w.dom w.db right s t (λ x at. agree x (shows x at)) in
            let rows : Means w.K (val R made five.nodes w.feeds) wanted (λ t. d.test t && not (q t)) = less.means w.K w.feeds p d.test q w.coding left_two rights.means d.there d.back looks in
            let full_rows = (subst (λ rs. (v : World R int_of cell_of consts rs) (u : Env → Bool) → LooksAt (vars_of wanted) u → Means v.K (val R made five.nodes v.feeds) wanted u
            → Means v.K (val R full new.nodes v.feeds) wanted (λ t. u t && list_all (λ y. is_in y.0 (occurrences f) || not (is_empty (v.dom y.1))) vars)) to_five.rels room.means)
            w (λ t. d.test t && not (q t)) (λ s t agree. ap (λ b. b && not (q s)) (d.looks s t agree) ∙ ap (λ b. d.test t && not b) (looks s t agree)) rows in
            lacking_says consts old.rels w vars scope front right (val R full new.nodes w.feeds) wanted d fit closed shows nots.1
            (λ t e. let valued = lefts.valued t e in record { each = λ x at. valued.each x (first.labelled.bound.back x (append_right x (vars_of labels) (occurrences (And front)) at)) })
            full_rows;
      }

-- ---- the difference

module _ {C : Type 0} (R : C → C → Ordering) (int_of : C → Option ℤ) where
  pub difference_made : (two three four five : State C) (l : ℕ) (l_labels : List Term) (r : ℕ) (r_labels : List Term) (pl pr made : ℕ) (wanted : List Term)
      → Shown R int_of two three l l_labels pl wanted → Shown R int_of three four r r_labels pr wanted → Placed two r r_labels
      → five ≡ with_node four (node.Diff pl pr) → made ≡ length four.nodes → Difference R int_of two five l l_labels r r_labels made wanted
  difference_made two three four five l l_labels r r_labels pl pr made wanted left_shown right_shown right_placed e_five e_made =
      let grown : Grown two four = grown_then two three four left_shown.grown right_shown.grown in
      record {
        grown = grown_then two four five grown (grown_at four five (node.Diff pl pr) e_five);
        few = let a = left_shown.few in let b = right_shown.few in let c = one_more_node four five (node.Diff pl pr) e_five in omega (arith, a, b, c);
        placed = placed_at four five (node.Diff pl pr) made wanted e_five e_made (placed_after three four pl wanted right_shown.grown left_shown.placed).wide;
        means = λ K feeds p q r_test coding left right there back looks.
            let left_four : Means K (val R pl four.nodes feeds) wanted q = subst (λ rows. Means K rows wanted q) (sym (val_grown R feeds three four pl right_shown.grown left_shown.placed.there)) (left_shown.means K feeds p q coding left there back) in
            let right_three : Means K (val R r three.nodes feeds) r_labels r_test = subst (λ rows. Means K rows r_labels r_test) (sym (val_grown R feeds two three r left_shown.grown right_placed.there)) right in
            let right_four : Means K (val R pr four.nodes feeds) wanted r_test = right_shown.means K feeds r_test r_test coding right_three (λ t e. e) (λ t e. (t, (λ x at. refl), e)) in
            subst (λ rs. Means K rs wanted (λ t. q t && not (r_test t))) (sym (val_at R feeds four five (node.Diff pl pr) made e_five e_made))
            (diff_means coding.total coding.exact K coding.one (val R pl four.nodes feeds) (val R pr four.nodes feeds) wanted q r_test left_four right_four looks);
      }

-- ---- which formulas are of this form

pub atom_alone : (f : Formula) (rel : ℕ) (terms : List Term) → f ≡ Atom rel terms → (bound : List Var) → safe_in_order f bound ≡ true
atom_alone f rel terms e bound = ap (λ g. safe_in_order g bound) e ∙ in_order_atom rel terms bound

pub some_alone : (f : Formula) (vars : TypedVars) (body : Formula) → f ≡ Exists vars body → ((bound : List Var) → safe_in_order body bound ≡ true) → safe_in_order f [] ≡ true
some_alone f vars body e safe = ap (λ g. safe_in_order g []) e ∙ in_order_exists vars body [] ∙ safe []

pub none_free : (f : Formula) (vars : List Var) → vars ≡ firsts (occurrences f) → vars ≡ [] → occurrences f ≡ []
none_free f vars e none = no_members (occurrences f) (λ x at. absurd (subst (In x) (sym e ∙ none) (firsts_in x (occurrences f) at)))
  where
    no_members : (xs : List Var) → ((x : Var) → In x xs → ⊥) → xs ≡ []
    no_members [] never = refl
    no_members (x ∷ xs) never = absurd (never x (inl refl))

-- ---- its parts are ready

module _ {C : Type 0} (cell_of : Value → Option C) (rels : Shapes) (vars : TypedVars) (front : List Formula) (right : Formula) (ready : IsReady cell_of rels [] (Exists vars (lacking front right))) where
  body_ready : IsReady cell_of rels [] (lacking front right)
  body_ready = exists_ready cell_of rels [] vars (lacking front right) ready

  pub left_ready : IsReady cell_of rels [] (And front)
  left_ready = first_ready front right cell_of rels body_ready

  pub right_within : (x : Var) → In x (occurrences right) → In x (occurrences (And front))
  right_within x at = second_within front right cell_of rels body_ready x at

  pub right_ready : safe_in_order right [] ≡ true → IsReady cell_of rels [] right
  right_ready alone = let own = second_ready front right cell_of rels body_ready in record { safe = alone; arity = own.arity; cells = own.cells }

-- the labels of the second part's variables are there behind a part that has them
pub wanted_in : (f g : Formula) (labels wanted inner : List Term) → ((x : Var) → In x (occurrences g) → In x (occurrences f)) → WithVars (firsts (occurrences g)) labels wanted → Labels (occurrences f) labels inner
    → (a : Term) → In a wanted → In a inner
wanted_in f g labels wanted inner within own step a at =
    ⊎_elim (λ old_one. step.keeps a old_one)
    (λ new_one.
    let x : Var = new_one.0 in
    subst (λ b. In b inner) (sym new_one.1) (var_label inner x (step.bound.back x (append_right x (vars_of labels) (occurrences f) (within x (in_firsts x (occurrences g) new_one.2))))))
    (own.only a at)
