-- A query whose last part is denied: its rows are a difference, with its columns in the order of the variables.
use Rattle.std.proofs.Common.{◌≡◌, ◌+◌, ◌*◌, ◌≤◌, ℕ, ℤ, inl, ⊎_elim, Bool, true, not, ◌&&◌, List, [], ◌++◌, refl, ap, sym, ◌∙◌, subst, Option, Some, length, arith}
use Rattle.std.specs.Prelude.{slice_get}
use Rattle.std.specs.declared.cmp.Ordering.{Ordering}
use Rattle.std.specs.List.{list_all}
use Rattle.std.proofs.lemmas.Bool.{and_parts, and_from}
use Rattle.dbn_value.specs.Members.{In}
use Rattle.dbn_value.proofs.MemberLaws.{all_at, in_append, append_right, flat_in, map_in, in_map}
use Rattle.dbn_value.specs.declared.value.Value.{Value}
use Rattle.dbn_value.specs.declared.value.ColType.{ColType}
use Rattle.dbn_value.specs.declared.term.Var.{Var}
use Rattle.dbn_value.specs.declared.term.Term.{Term}
use Rattle.dbn_value.specs.declared.term.Term.TheVariants as term
use Rattle.dbn_formula.specs.Variables.{TypedVars, is_in, binds}
use Rattle.dbn_formula.specs.Holds.{Env, holds_over}
use Rattle.dbn_formula.specs.Free.{occurrences, variable_of, free}
use Rattle.dbn_formula.specs.Safe.{safe_in_order}
use Rattle.dbn_formula.specs.Size.{size}
use Rattle.dbn_formula.specs.Typing.{Shapes}
use Rattle.dbn_formula.specs.declared.formula.Formula.{Formula}
use Rattle.dbn_formula.specs.declared.formula.Formula.TheVariants.{And}
use Rattle.dbn_formula.proofs.Depends.{depends}
use Rattle.dbn_formula.proofs.OrderOfParts.{Alike}
use Rattle.dbn_formula.proofs.VariableLaws.{in_of_is, in_firsts, bound_in, in_bound}
use Rattle.dbn_formula.proofs.Arranged.{alike_self}
use Rattle.dbn_nodes.specs.declared.node.Node.TheVariants as node
use Rattle.dbn_network.specs.Values.{val}
use Rattle.dbn_network.specs.Holding.{IsDirect}
use Rattle.dbn_network.specs.States.{State, with_node}
use Rattle.dbn_plan.specs.declared.sources.Sources.{Sources}
use Rattle.dbn_plan.specs.Meaning.{Means, LooksAt, vars_of}
use Rattle.dbn_plan.specs.Compiled.{World, Stands, Fit, Compiled}
use Rattle.dbn_plan.specs.Making.{Grown, Labels, AreSources, IsReady, Made, rate}
use Rattle.dbn_plan.specs.Answering.{Says, Rooted, Finished, Ends, var_labels}
use Rattle.dbn_plan.specs.Referring.{lacking, IsSolved, IsDifference, Difference, DeniedMade}
use Rattle.dbn_plan.proofs.Places.{there_small, there_last, get_or_there}
use Rattle.dbn_plan.proofs.FormulaLaws.{not_fit}
use Rattle.dbn_plan.proofs.StepLaws.{grown_then, val_grown, ready_alike}
use Rattle.dbn_plan.proofs.StepsMade.{shown_same}
use Rattle.dbn_plan.proofs.MadeLaws.{stands_grown, var_label}
use Rattle.dbn_plan.proofs.TopLaws.{unit_stands}
use Rattle.dbn_plan.proofs.SplitLaws.{lacking_size, lacking_from, lacking_sides, lacking_fit, left_occurs, right_occurs}

-- ---- variables and their labels

-- each of the variables occurs
pub each_occurs : (f : Formula) (vars : TypedVars) (own : List Var) → own ≡ free f → list_all (λ v. is_in v.0 own) vars ≡ true → (x : Var) → binds vars x ≡ true → In x (occurrences f)
each_occurs f vars own e all x b =
    let found = bound_in vars x b in
    let here : is_in found.0.0 own ≡ true = all_at (λ (v : Var × ColType). is_in v.0 own) found.0 vars all found.1 in
    subst (λ y. In y (occurrences f)) (sym found.2) (in_firsts found.0.0 (occurrences f) (subst (In found.0.0) e (in_of_is found.0.0 own here)))

-- a variable of the query has a label
pub wanted_var : (vars : TypedVars) (wanted : List Term) → wanted ≡ var_labels vars → (x : Var) → binds vars x ≡ true → In x (vars_of wanted)
wanted_var vars wanted e x b =
    let found = bound_in vars x b in
    let label : In (term.Var found.0.0) wanted = subst (In (term.Var found.0.0)) (sym e) (map_in (λ (y : Var × ColType). term.Var y.0) found.0 vars found.1) in
    flat_in variable_of x (term.Var found.0.0) wanted label (inl found.2)

-- ---- the node

pub difference_kept : {C : Type 0} (old new : State C) (left right made : ℕ) → new ≡ with_node old (node.Diff left right) → made ≡ length old.nodes → IsDifference new made
difference_kept {C} old new left right made e_new e_made =
    (left, right, ap (λ k. slice_get new.nodes k) e_made ∙ ap (λ (s : State C). slice_get s.nodes (length old.nodes)) e_new ∙ there_last old.nodes (node.Diff left right))

difference_ends : {C : Type 0} (s : State C) (vars : TypedVars) (wanted : List Term) (i : ℕ) → IsDifference s i → wanted ≡ var_labels vars → (wanted ≡ [] → ⊥) → Ends s vars i
difference_ends s vars wanted i (left, right, is) e_wanted some = record {
  there = there_small s.nodes i (node.Diff left right) is;
  direct = λ d. subst IsDirect (sym (get_or_there s.nodes i (node.Diff left right) d is)) tt;
  counted = λ none d. absurd (some (e_wanted ∙ ap var_labels none));
}

denied_count : (r old one two five l s whole : ℕ) → one + 4 ≤ old + r * l → two + 4 ≤ one + r * s → five ≤ two + 3 → whole ≡ 1 + l + s → five + 2 ≤ old + r * whole
denied_count r old one two five l s whole first second less sum = let is : r * whole ≡ r * (1 + l + s) = ap (λ n. r * n) sum in omega (arith, first, second, less, is)

-- ---- what its rows say

module _ {C : Type 0} {R : C → C → Ordering} {int_of : C → Option ℤ} (cell_of : Value → Option C) (consts : List Value) (vars : TypedVars) (front : List Formula) (right : Formula) where
  -- q is what the denied rows say, where the first parts hold
  denied_says : (rels : Shapes) (w : World R int_of cell_of consts rels) (rows : List (List C)) (wanted : List Term) (q : Env → Bool)
      → ((t : Env) → holds_over w.dom w.db (And front) t ≡ true → q t ≡ holds_over w.dom w.db right t)
      → Means w.K rows wanted (λ t. (true && holds_over w.dom w.db (And front) t) && not (q t))
      → Says w.K rows wanted (λ t. holds_over w.dom w.db (lacking front right) t) (occurrences (lacking front right))
  denied_says rels w rows wanted q same means = record {
    passes = λ t. (true && holds_over w.dom w.db (And front) t) && not (q t);
    means = means;
    there = λ t e. let parts = and_parts (holds_over w.dom w.db (And front) t) (not (q t)) e in lacking_from front right w.dom w.db t parts.0 (ap not (sym (same t parts.0)) ∙ parts.1);
    back = λ t e.
        let sides = lacking_sides front right w.dom w.db t e in
        (t, (λ x at. refl), and_from (holds_over w.dom w.db (And front) t) (not (q t)) sides.0 (ap not (same t sides.0) ∙ sides.1));
  }

  -- what the rows of the denied part say in one world
  record Denied (rels : Shapes) (w : World R int_of cell_of consts rels) (rows : List (List C)) (labels wanted : List Term) : Type 0 where
    test : Env → Bool
    same : (t : Env) → holds_over w.dom w.db (And front) t ≡ true → test t ≡ holds_over w.dom w.db right t
    means : Means w.K rows labels test
    looks : LooksAt (vars_of wanted) test

  module _ (old one two five : State C) (sources : Sources) (i : ℕ) (labels : List Term) (l : ℕ) (l_labels : List Term) (r : ℕ) (r_labels : List Term) (made : ℕ) (wanted : List Term)
      (are : AreSources old sources) (e_i : i ≡ sources.unit) (e_labels : labels ≡ []) (shows : (x : Var) → In x (occurrences (lacking front right)) → In x (vars_of wanted))
      (first : Made R int_of cell_of consts (And front) old one i labels l l_labels) (less : Difference R int_of two five l l_labels r r_labels made wanted) where
    rooted_from : Grown one two → length two.nodes + 4 ≤ length one.nodes + rate old.rels * size right
        → ((w : World R int_of cell_of consts old.rels) (scope : TypedVars) → Fit consts old.rels (lacking front right) scope []
        → Stands R int_of w one.nodes l l_labels scope (λ t. true && holds_over w.dom w.db (And front) t) → Denied old.rels w (val R r two.nodes w.feeds) r_labels wanted)
        → Rooted R int_of cell_of consts (lacking front right) old five made wanted
    rooted_from more few denied = record {
      grown = grown_then old two five (grown_then old one two first.grown more) less.grown;
      few = denied_count (rate old.rels) (length old.nodes) (length one.nodes) (length two.nodes) (length five.nodes) (size (And front)) (size right) (size (lacking front right)) first.few few less.few (lacking_size front right);
      placed = less.placed;
      columns = shows;
      says = λ w scope fit.
          let fit_here : Fit consts old.rels (lacking front right) scope (vars_of labels) = subst (λ ls. Fit consts old.rels (lacking front right) scope (vars_of ls)) (sym e_labels) fit in
          let fit_left = (lacking_fit front right consts old.rels scope (vars_of labels) (vars_of labels ++ occurrences (And front)) (alike_self (vars_of labels ++ occurrences (And front))) fit_here).0 in
          let lefts = first.compiled w scope (λ t. true) fit_left (unit_stands cell_of consts old sources i labels scope are e_i e_labels w) in
          let p : Env → Bool = λ t. true && holds_over w.dom w.db (And front) t in
          let rights = denied w scope fit lefts in
          let left_two : Means w.K (val R l two.nodes w.feeds) l_labels p = subst (λ rows. Means w.K rows l_labels p) (sym (val_grown R w.feeds one two l more first.placed.there)) lefts.means in
          denied_says old.rels w (val R made five.nodes w.feeds) wanted rights.test rights.same
          (less.means w.K w.feeds p p rights.test w.coding left_two rights.means (λ t e. e) (λ t e. (t, (λ x at. refl), e)) rights.looks);
    }

    alone_rooted : IsSolved right vars → Made R int_of cell_of consts right one two i labels r r_labels → Rooted R int_of cell_of consts (lacking front right) old five made wanted
    alone_rooted solved second = rooted_from second.grown (subst (λ rs. length two.nodes + 4 ≤ length one.nodes + rate rs * size right) first.grown.rels second.few) (λ w scope fit lefts.
        let unit : slice_get old.nodes i ≡ Some node.Unit = subst (λ k. slice_get old.nodes k ≡ Some node.Unit) (sym e_i) are.unit in
        let split = lacking_fit front right consts old.rels scope [] (occurrences (And front)) (alike_self (occurrences (And front))) fit in
        let nots = not_fit w right scope (occurrences (And front)) split.1 in
        let own_fit : Fit consts old.rels right scope [] = record { safe_here = solved.alone; typed = nots.0.typed; once = nots.0.once; scoped = nots.0.scoped; written = nots.0.written } in
        let fit_right : Fit consts old.rels right scope (vars_of labels) = subst (λ ls. Fit consts old.rels right scope (vars_of ls)) (sym e_labels) own_fit in
        let start : Stands R int_of w old.nodes i labels scope (λ t. true) = unit_stands cell_of consts old sources i labels scope are e_i e_labels w in
        let rights = (subst (λ rs. Compiled R int_of cell_of consts rs right one.nodes i labels two.nodes r r_labels) first.grown.rels second.compiled) w scope (λ t. true) fit_right
        (stands_grown old.rels w old one i labels scope (λ t. true) first.grown (there_small old.nodes i node.Unit unit) start) in
        record {
          test = λ t. true && holds_over w.dom w.db right t;
          same = λ t e. refl;
          means = rights.means;
          looks = λ s t agree. depends w.dom w.db right s t (λ x at. agree x (shows x (right_occurs front right x at)));
        })

    behind_rooted : Made R int_of cell_of consts right one two l l_labels r r_labels → Rooted R int_of cell_of consts (lacking front right) old five made wanted
    behind_rooted second = rooted_from second.grown (subst (λ rs. length two.nodes + 4 ≤ length one.nodes + rate rs * size right) first.grown.rels second.few) (λ w scope fit lefts.
        let fit_here : Fit consts old.rels (lacking front right) scope (vars_of labels) = subst (λ ls. Fit consts old.rels (lacking front right) scope (vars_of ls)) (sym e_labels) fit in
        let split = lacking_fit front right consts old.rels scope (vars_of labels) (vars_of l_labels) first.labelled.bound fit_here in
        let nots = not_fit w right scope (vars_of l_labels) split.1 in
        let p : Env → Bool = λ t. true && holds_over w.dom w.db (And front) t in
        let rights = (subst (λ rs. Compiled R int_of cell_of consts rs right one.nodes l l_labels two.nodes r r_labels) first.grown.rels second.compiled) w scope p nots.0 lefts in
        record {
          test = λ t. p t && holds_over w.dom w.db right t;
          same = λ t e. ap (λ b. b && holds_over w.dom w.db right t) e;
          means = rights.means;
          looks = λ s t agree. rights.looks s t (λ x at. agree x (⊎_elim
              (λ old_one. shows x (left_occurs front right x (subst (λ ls. In x (vars_of ls ++ occurrences (And front))) e_labels (first.labelled.bound.there x old_one))))
              (λ new_one. shows x (right_occurs front right x new_one))
              (in_append x (vars_of l_labels) (occurrences right) (second.labelled.bound.there x at))));
        })

    pub lacking_finished : DeniedMade R int_of cell_of consts right vars one two i labels l l_labels r r_labels → IsDifference five made → wanted ≡ var_labels vars → (wanted ≡ [] → ⊥)
        → Finished R int_of cell_of consts (lacking front right) vars old five made wanted
    lacking_finished second kept e_wanted some =
        let rooted : Rooted R int_of cell_of consts (lacking front right) old five made wanted = ⊎_elim (λ solved. alone_rooted solved.0 solved.1) (λ behind. behind_rooted behind) second in
        record {
          mid = five;
          inner = made;
          inner_labels = wanted;
          rooted = rooted;
          shown = shown_same R int_of five made wanted wanted rooted.placed refl;
          ends = difference_ends five vars wanted made kept e_wanted some;
        }

-- ---- the denied part in general

module _ {C : Type 0} {R : C → C → Ordering} {int_of : C → Option ℤ} (cell_of : Value → Option C) (consts : List Value) (right : Formula) (vars : TypedVars) (old new : State C) (i : ℕ) (labels : List Term) (l : ℕ) (l_labels : List Term)
    (r : ℕ) (r_labels : List Term) (second : DeniedMade R int_of cell_of consts right vars old new i labels l l_labels r r_labels) where
  pub denied_grown : Grown old new
  denied_grown = ⊎_elim (λ solved. solved.1.grown) (λ behind. behind.grown) second

  -- it has a column for each variable of the query
  pub denied_columns : (wanted : List Term) → ((x : Var) → binds vars x ≡ true → In x (vars_of l_labels)) → wanted ≡ var_labels vars → (a : Term) → In a wanted → In a r_labels
  denied_columns wanted own e a at =
      let found = in_map (λ (y : Var × ColType). term.Var y.0) a vars (subst (In a) e at) in
      let x : Var = found.0.0 in
      let b : binds vars x ≡ true = in_bound vars found.0 found.1 in
      subst (λ label. In label r_labels) (sym found.2)
      (⊎_elim (λ solved. var_label r_labels x (solved.1.labelled.bound.back x (append_right x (vars_of labels) (occurrences right) (solved.0.each x b))))
      (λ behind. behind.labelled.keeps (term.Var x) (var_label l_labels x (own x b))) second)

-- ---- the second part is ready

module _ {C : Type 0} (cell_of : Value → Option C) (rels now : Shapes) where
  -- by itself
  pub alone_ready : (f : Formula) (bound : List Var) (vars : TypedVars) (labels : List Term) → labels ≡ [] → IsSolved f vars → IsReady cell_of rels bound f → IsReady cell_of rels (vars_of labels) f
  alone_ready f bound vars labels e solved ready = record { safe = subst (λ ls. safe_in_order f (vars_of ls) ≡ true) (sym e) solved.alone; arity = ready.arity; cells = ready.cells }

  -- behind the first parts
  pub behind_ready : (front : List Formula) (right : Formula) (labels l_labels : List Term) → now ≡ rels → labels ≡ [] → Labels (occurrences (And front)) labels l_labels → IsReady cell_of rels (occurrences (And front)) right
      → IsReady cell_of now (vars_of l_labels) right
  behind_ready front right labels l_labels e_now e step ready =
      let alike : Alike (vars_of l_labels) (occurrences (And front)) = subst (λ ls. Alike (vars_of l_labels) (vars_of ls ++ occurrences (And front))) e step.bound in
      subst (λ rs. IsReady cell_of rs (vars_of l_labels) right) (sym e_now) (ready_alike cell_of rels right (occurrences (And front)) (vars_of l_labels) (record { there = alike.back; back = alike.there }) ready)
