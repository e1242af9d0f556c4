-- The nodes that a comparison adds.
use Rattle.std.proofs.Common.{◌≡◌, ◌<◌, ◌+◌, ◌*◌, ℕ, ℤ, ◌⊎◌, inl, inr, ⊎_elim, Bool, true, false, ◌&&◌, List, [], ◌∷◌, ◌++◌, refl, ap, sym, ◌∙◌, subst, Option, Some, length, arith}
use Rattle.std.specs.Prelude.{slice_get}
use Rattle.std.specs.declared.cmp.Ordering.{Ordering}
use Rattle.std.specs.declared.cmp.Ordering.TheVariants.{Less, Equal, Greater}
use Rattle.std.specs.Ordering.{is_eq, ordering_reverse}
use Rattle.std.specs.Cmp.{Equal-is, tied_itself}
use Rattle.std.proofs.lemmas.Bool.{true≢false, and_parts, or_cases}
use Rattle.std.proofs.lemmas.List.{length-append}
use Rattle.std.proofs.lemmas.List.Concat.{flat_map-append}
use Rattle.std.proofs.lemmas.Option.{slice_get_within}
use Rattle.dbn_value.specs.Members.{In}
use Rattle.dbn_value.specs.Coding.{Extends, IsCoding}
use Rattle.dbn_value.specs.Picked.{picked}
use Rattle.dbn_value.proofs.MemberLaws.{in_append, append_left, append_right}
use Rattle.dbn_value.specs.Order.{value_cmp, value_type, value_total, exact_values, meets}
use Rattle.dbn_value.specs.declared.value.Value.{Value}
use Rattle.dbn_value.specs.declared.value.ColType.{ColType}
use Rattle.dbn_value.specs.declared.value.ColType.TheVariants as col
use Rattle.dbn_value.specs.declared.term.Var.{Var}
use Rattle.dbn_value.specs.declared.term.Term.{Term}
use Rattle.dbn_value.specs.declared.term.Term.TheVariants as term
use Rattle.dbn_value.specs.declared.term.Cmp.{Cmp}
use Rattle.dbn_value.specs.declared.term.Cmp.TheVariants as cmp
use Rattle.dbn_formula.specs.Variables.{TypedVars}
use Rattle.dbn_formula.specs.Holds.{Env, value_of, holds_over}
use Rattle.dbn_formula.specs.Free.{occurrences, variable_of}
use Rattle.dbn_formula.specs.Answers.{constant_of}
use Rattle.dbn_formula.specs.Typing.{Shapes, term_type, agree, sides_fit}
use Rattle.dbn_formula.specs.Safe.{known, test_safe}
use Rattle.dbn_formula.specs.Ready.{IsValued, AreValued}
use Rattle.dbn_formula.specs.declared.formula.Formula.{Formula}
use Rattle.dbn_formula.specs.declared.formula.Formula.TheVariants.{Test}
use Rattle.dbn_formula.proofs.HoldsLaws.{holds_test}
use Rattle.dbn_formula.proofs.FreeLaws.{occurrences_test}
use Rattle.dbn_formula.proofs.ConstantsLaws.{constants_test}
use Rattle.dbn_formula.proofs.TypingLaws.{types_test}
use Rattle.dbn_formula.proofs.SizeLaws.{size_test}
use Rattle.dbn_formula.proofs.SafeLaws.{in_order_test}
use Rattle.dbn_formula.proofs.VariableLaws.{in_of_is, type_same}
use Rattle.dbn_formula.proofs.Bounded.{valued_known}
use Rattle.dbn_formula.proofs.Depends.{value_alike}
use Rattle.dbn_formula.proofs.OrderOfParts.{Alike}
use Rattle.dbn_nodes.specs.declared.node.Node.TheVariants as node
use Rattle.dbn_nodes.specs.declared.node.ColTest.{ColTest}
use Rattle.dbn_nodes.specs.declared.node.ColTest.TheVariants as test
use Rattle.dbn_nodes.specs.declared.node.Added.{Added}
use Rattle.dbn_nodes.specs.declared.node.Added.TheVariants as added
use Rattle.dbn_nodes.specs.Values.{passes, selected, extended, added_cells}
use Rattle.dbn_network.specs.Values.{val}
use Rattle.dbn_network.specs.States.{State, Fits, with_node}
use Rattle.dbn_plan.specs.Meaning.{Means, Gives, vars_of}
use Rattle.dbn_plan.specs.Columns.{HaveCells}
use Rattle.dbn_plan.specs.Compiled.{World, Fit}
use Rattle.dbn_plan.specs.Making.{Placed, IsReady, Selected, NoneMade, Made, rate}
use Rattle.dbn_plan.specs.Comparing.{turned, Comparable, AddedFor, Equated, Compared}
use Rattle.dbn_plan.proofs.Rows.{cell_at}
use Rattle.dbn_plan.proofs.NodeLaws.{select_means, extend_means, means_alike}
use Rattle.dbn_plan.proofs.TestLaws.{columns_pass, constant_pass}
use Rattle.dbn_plan.proofs.FormulaLaws.{stands_from}
use Rattle.dbn_plan.proofs.StepLaws.{grown_none, grown_at, one_more_node, placed_at, val_at, rate_enough}
use Rattle.dbn_plan.proofs.MadeLaws.{var_label}

-- ---- known terms

pub known_within : (bound : List Var) (a : Term) → known bound a ≡ true → (x : Var) → In x (variable_of a) → In x bound
known_within bound (term.Const v) e x at = absurd at
known_within bound (term.Var y) e x (inr there) = absurd there
known_within bound (term.Var y) e x (inl here) = subst (λ z. In z bound) (sym here) (in_of_is y bound e)

-- a known variable has a column
pub known_column : (labels : List Term) (x : Var) → known (vars_of labels) (term.Var x) ≡ true → In (term.Var x) labels
known_column labels x e = var_label labels x (in_of_is x (vars_of labels) e)

pub other_known : (c : Cmp) (left right : Term) (bound : List Var) → test_safe c left right bound ≡ true → known bound left ≡ false → known bound right ≡ true
other_known cmp.Eq left right bound safe none = ⊎_elim (λ e. absurd (true≢false (sym e ∙ none))) (λ e. e) (or_cases (known bound left) (known bound right) safe)
other_known cmp.Ne left right bound safe none = (and_parts (known bound left) (known bound right) safe).1
other_known cmp.Lt left right bound safe none = (and_parts (known bound left) (known bound right) safe).1
other_known cmp.Le left right bound safe none = (and_parts (known bound left) (known bound right) safe).1
other_known cmp.Gt left right bound safe none = (and_parts (known bound left) (known bound right) safe).1
other_known cmp.Ge left right bound safe none = (and_parts (known bound left) (known bound right) safe).1

both_or_equal : (c : Cmp) (left right : Term) (bound : List Var) → test_safe c left right bound ≡ true → (c ≡ cmp.Eq) ⊎ ((known bound left ≡ true) × (known bound right ≡ true))
both_or_equal cmp.Eq left right bound safe = inl refl
both_or_equal cmp.Ne left right bound safe = inr (and_parts (known bound left) (known bound right) safe)
both_or_equal cmp.Lt left right bound safe = inr (and_parts (known bound left) (known bound right) safe)
both_or_equal cmp.Le left right bound safe = inr (and_parts (known bound left) (known bound right) safe)
both_or_equal cmp.Gt left right bound safe = inr (and_parts (known bound left) (known bound right) safe)
both_or_equal cmp.Ge left right bound safe = inr (and_parts (known bound left) (known bound right) safe)

pub test_ready : {C : Type 0} (cell_of : Value → Option C) (rels : Shapes) (bound : List Var) (c : Cmp) (left right : Term) → IsReady cell_of rels bound (Test c left right)
    → (test_safe c left right bound ≡ true) × HaveCells cell_of (constant_of left) × HaveCells cell_of (constant_of right)
test_ready cell_of rels bound c left right ready = (
  sym (in_order_test c left right bound) ∙ ready.safe,
  (λ v at. ready.cells v (subst (In v) (sym (constants_test c left right)) (append_left v (constant_of left) (constant_of right) at))),
  (λ v at. ready.cells v (subst (In v) (sym (constants_test c left right)) (append_right v (constant_of left) (constant_of right) at))),
)

-- ---- one more column

pub extend_fits : {C : Type 0} (cell_of : Value → Option C) (s : State C) (i : ℕ) (labels : List Term) (by : Term) (with : Added C) → Placed s i labels → AddedFor cell_of labels by with → Fits s (node.Extend i with)
extend_fits cell_of s i labels by (added.Copied col) placed at = record { left = placed.there; right = tt; names = subst (λ n. col < n) (sym placed.wide) (slice_get_within labels col by at) }
extend_fits cell_of s i labels by (added.Constant c) placed at = record { left = placed.there; right = tt; names = tt }

picked_one : {C : Type 0} (col : ℕ) (row : List C) (cell : C) → slice_get row col ≡ Some cell → picked (col ∷ []) row ≡ cell ∷ []
picked_one col row cell e = rw e refl

added_cell : {C : Type 0} (cell_of K : Value → Option C) (labels : List Term) (by : Term) (with : Added C) → Extends cell_of K → AddedFor cell_of labels by with
    → (t : Env) (row : List C) → Gives K t labels row → (c : C) × (added_cells with row ≡ c ∷ []) × (K (value_of t by) ≡ Some c)
added_cell cell_of K labels by (added.Copied col) later at t row given = let found = cell_at K labels t row col by given at in (found.0, picked_one col row found.0 found.1, found.2)
added_cell cell_of K labels by (added.Constant c) later at t row given = (c, refl, ap (λ a. K (value_of t a)) at.1 ∙ later at.0 c at.2)

module _ {C : Type 0} (R : C → C → Ordering) (int_of : C → Option ℤ) (cell_of : Value → Option C) where
  pub equated_made : (by new_one : Term) (with : Added C) (old new : State C) (i : ℕ) (labels : List Term) (made : ℕ) (made_labels : List Term)
      → known (vars_of labels) by ≡ true → known (vars_of labels) new_one ≡ false → AddedFor cell_of labels by with → Placed old i labels
      → new ≡ with_node old (node.Extend i with) → made ≡ length old.nodes → made_labels ≡ labels ++ new_one ∷ []
      → Equated R int_of cell_of by new_one old new i labels made made_labels
  equated_made by (term.Const v) with old new i labels made made_labels is none at placed e_new e_made e_labels = absurd (true≢false none)
  equated_made by (term.Var x) with old new i labels made made_labels is none at placed e_new e_made e_labels = record {
    grown = grown_at old new (node.Extend i with) e_new;
    few = one_more_node old new (node.Extend i with) e_new;
    placed = placed_at old new (node.Extend i with) made made_labels e_new e_made (ap (λ n. n + 1) placed.wide ∙ sym (length-append labels (term.Var x ∷ [])) ∙ ap length (sym e_labels));
    labelled = e_labels;
    means = λ K feeds p q later coding means looks equal alike.
        subst (λ rows. Means K rows made_labels (λ t. p t && q t)) (sym (val_at R feeds old new (node.Extend i with) made e_new e_made))
        (subst (λ ls. Means K (extended R with (val R i old.nodes feeds)) ls (λ t. p t && q t)) (sym e_labels)
        (extend_means coding.total coding.exact K coding.one (val R i old.nodes feeds) labels p x by with means looks none
        (λ s t agree. value_alike by s t (λ y here. agree y (known_within (vars_of labels) by is y here)))
        (added_cell cell_of K labels by with later at) q equal alike));
  }

-- ---- comparisons of known terms

turned_meets : (c : Cmp) (o : Ordering) → meets (turned c) o ≡ meets c (ordering_reverse o)
turned_meets cmp.Eq Less = refl
turned_meets cmp.Eq Equal = refl
turned_meets cmp.Eq Greater = refl
turned_meets cmp.Ne Less = refl
turned_meets cmp.Ne Equal = refl
turned_meets cmp.Ne Greater = refl
turned_meets cmp.Lt Less = refl
turned_meets cmp.Lt Equal = refl
turned_meets cmp.Lt Greater = refl
turned_meets cmp.Le Less = refl
turned_meets cmp.Le Equal = refl
turned_meets cmp.Le Greater = refl
turned_meets cmp.Gt Less = refl
turned_meets cmp.Gt Equal = refl
turned_meets cmp.Gt Greater = refl
turned_meets cmp.Ge Less = refl
turned_meets cmp.Ge Equal = refl
turned_meets cmp.Ge Greater = refl

turned_comparable : (c : Cmp) (v w : Value) → Comparable c v w → Comparable (turned c) w v
turned_comparable cmp.Eq v w fit = tt
turned_comparable cmp.Ne v w fit = tt
turned_comparable cmp.Lt v w fit = (fit.1, fit.0)
turned_comparable cmp.Le v w fit = (fit.1, fit.0)
turned_comparable cmp.Gt v w fit = (fit.1, fit.0)
turned_comparable cmp.Ge v w fit = (fit.1, fit.0)

turned_values : (c : Cmp) (v w : Value) → meets (turned c) (value_cmp w v) ≡ meets c (value_cmp v w)
turned_values c v w = turned_meets c (value_cmp w v) ∙ ap (meets c) (sym (value_total.antisymm v w))

module _ {C : Type 0} (R : C → C → Ordering) (int_of : C → Option ℤ) (cell_of : Value → Option C) where
  pub compared_turned : (c : Cmp) (left right : Term) (old new : State C) (i : ℕ) (labels : List Term) (made : ℕ) → Compared R int_of cell_of (turned c) right left old new i labels made
      → Compared R int_of cell_of c left right old new i labels made
  compared_turned c left right old new i labels made other = record {
    grown = other.grown;
    few = other.few;
    placed = other.placed;
    means = λ K feeds p q later coding means fit is.
        other.means K feeds p q later coding means (λ t e. turned_comparable c (value_of t left) (value_of t right) (fit t e))
        (λ t. is t ∙ sym (turned_values c (value_of t left) (value_of t right)));
  }

  compared_by : (c : Cmp) (left right : Term) (old new : State C) (i : ℕ) (labels : List Term) (x : ColTest C) (tests : List (ColTest C)) (made : ℕ) → Placed old i labels → tests ≡ x ∷ []
      → Selected R old new i tests made
      → ((K : Value → Option C) (t : Env) (row : List C) → Extends cell_of K → IsCoding R int_of K → Gives K t labels row → Comparable c (value_of t left) (value_of t right)
      → passes R row x ≡ meets c (value_cmp (value_of t left) (value_of t right)))
      → Compared R int_of cell_of c left right old new i labels made
  compared_by c left right old new i labels x tests made placed e_tests made_one says = record {
    grown = made_one.grown;
    few = made_one.few;
    placed = made_one.placed labels placed;
    means = λ K feeds p q later coding means fit is.
        subst (λ rows. Means K rows labels (λ t. p t && q t)) (sym (made_one.rows feeds ∙ ap (λ ts. selected R ts (val R i old.nodes feeds)) e_tests))
        (select_means coding.total coding.exact K coding.one (val R i old.nodes feeds) labels p q (x ∷ []) means
        (λ t row given e. and_true (passes R row x) ∙ says K t row later coding given (fit t e) ∙ sym (is t)));
  }
    where
      and_true : (b : Bool) → (b && true) ≡ b
      and_true true = refl
      and_true false = refl

  pub columns_made : (c : Cmp) (left right : Term) (old new : State C) (i : ℕ) (labels : List Term) (j k : ℕ) (tests : List (ColTest C)) (made : ℕ) → Placed old i labels
      → slice_get labels j ≡ Some left → slice_get labels k ≡ Some right → tests ≡ test.Columns c j k ∷ [] → Selected R old new i tests made
      → Compared R int_of cell_of c left right old new i labels made
  columns_made c left right old new i labels j k tests made placed at_left at_right e_tests made_one =
      compared_by c left right old new i labels (test.Columns c j k) tests made placed e_tests made_one
      (λ K t row later coding given fit. columns_pass K coding c labels j k left right t row at_left at_right given fit)

  pub column_made : (c : Cmp) (left : Term) (v : Value) (old new : State C) (i : ℕ) (labels : List Term) (j : ℕ) (cell : C) (tests : List (ColTest C)) (made : ℕ) → Placed old i labels
      → slice_get labels j ≡ Some left → cell_of v ≡ Some cell → tests ≡ test.Constant c j cell ∷ [] → Selected R old new i tests made
      → Compared R int_of cell_of c left (term.Const v) old new i labels made
  column_made c left v old new i labels j cell tests made placed at_left own e_tests made_one =
      compared_by c left (term.Const v) old new i labels (test.Constant c j cell) tests made placed e_tests made_one
      (λ K t row later coding given fit. constant_pass K coding c labels j left v cell t row at_left (later v cell own) given fit)

  pub always_made : (c : Cmp) (v w : Value) (s : State C) (i : ℕ) (labels : List Term) → Placed s i labels → meets c (value_cmp v w) ≡ true
      → Compared R int_of cell_of c (term.Const v) (term.Const w) s s i labels i
  always_made c v w s i labels placed e = record {
    grown = grown_none s;
    few = omega arith;
    placed = placed;
    means = λ K feeds p q later coding means fit is.
        means_alike coding.total coding.exact K coding.one (val R i s.nodes feeds) labels p (λ t. p t && q t) (λ t. and_true (p t) (q t) (is t ∙ e)) means;
  }
    where
      and_true : (a b : Bool) → b ≡ true → a ≡ (a && b)
      and_true true true f = refl
      and_true false true f = refl
      and_true a false f = cc

  pub never_made : (c : Cmp) (v w : Value) (old new : State C) (i : ℕ) (labels : List Term) (made : ℕ) → meets c (value_cmp v w) ≡ false → NoneMade R int_of old new i labels made
      → Compared R int_of cell_of c (term.Const v) (term.Const w) old new i labels made
  never_made c v w old new i labels made e none = record {
    grown = none.grown;
    few = none.few;
    placed = none.placed;
    means = λ K feeds p q later coding means fit is. none.means K feeds p (λ t. p t && q t) coding means (λ t. ap (λ b. p t && b) (is t ∙ e) ∙ and_false (p t));
  }
    where
      and_false : (b : Bool) → (b && false) ≡ false
      and_false true = refl
      and_false false = refl

-- ---- the comparison as a formula

comparable : (c : Cmp) (a b : ColType) (v w : Value) → sides_fit c (Some a) (Some b) ≡ true → value_type v ≡ a → value_type w ≡ b → Comparable c v w
comparable cmp.Eq a b v w fit e f = tt
comparable cmp.Ne a b v w fit e f = tt
comparable cmp.Lt a b v w fit e f = let parts = and_parts (agree (Some a) (Some col.Int)) (agree (Some b) (Some col.Int)) fit in (e ∙ type_same a col.Int parts.0, f ∙ type_same b col.Int parts.1)
comparable cmp.Le a b v w fit e f = let parts = and_parts (agree (Some a) (Some col.Int)) (agree (Some b) (Some col.Int)) fit in (e ∙ type_same a col.Int parts.0, f ∙ type_same b col.Int parts.1)
comparable cmp.Gt a b v w fit e f = let parts = and_parts (agree (Some a) (Some col.Int)) (agree (Some b) (Some col.Int)) fit in (e ∙ type_same a col.Int parts.0, f ∙ type_same b col.Int parts.1)
comparable cmp.Ge a b v w fit e f = let parts = and_parts (agree (Some a) (Some col.Int)) (agree (Some b) (Some col.Int)) fit in (e ∙ type_same a col.Int parts.0, f ∙ type_same b col.Int parts.1)

module _ {C : Type 0} {R : C → C → Ordering} {int_of : C → Option ℤ} {cell_of : Value → Option C} {consts : List Value} where
  fit_comparable : (rels : Shapes) (w : World R int_of cell_of consts rels) (c : Cmp) (left right : Term) (scope : TypedVars) (bound : List Var) (t : Env) → Fit consts rels (Test c left right) scope bound
      → known bound left ≡ true → known bound right ≡ true → AreValued w.dom scope bound t → Comparable c (value_of t left) (value_of t right)
  fit_comparable rels w c left right scope bound t fit l r valued =
      let a : IsValued w.dom scope left (value_of t left) =
      valued_known w.dom scope bound t left (record { each = λ v at. w.consts_in.each v (fit.written v (subst (In v) (sym (constants_test c left right)) (append_left v (constant_of left) (constant_of right) at))) }) valued l in
      let b : IsValued w.dom scope right (value_of t right) =
      valued_known w.dom scope bound t right (record { each = λ v at. w.consts_in.each v (fit.written v (subst (In v) (sym (constants_test c left right)) (append_right v (constant_of left) (constant_of right) at))) }) valued r in
      comparable c a.type b.type (value_of t left) (value_of t right)
      (subst (λ o. sides_fit c o (Some b.type) ≡ true) a.is (subst (λ o. sides_fit c (term_type scope left) o ≡ true) b.is (sym (types_test rels c left right scope) ∙ fit.typed)))
      (w.typed a.type (value_of t left) a.within) (w.typed b.type (value_of t right) b.within)

  pub test_made : (c : Cmp) (left right : Term) (old new : State C) (i : ℕ) (labels : List Term) (made : ℕ) (made_labels : List Term) → known (vars_of labels) left ≡ true → known (vars_of labels) right ≡ true
      → Compared R int_of cell_of c left right old new i labels made → made_labels ≡ labels → Made R int_of cell_of consts (Test c left right) old new i labels made made_labels
  test_made c left right old new i labels made made_labels l r compared e_labels =
      let f : Formula = Test c left right in
      let within : (x : Var) → In x (occurrences f) → In x (vars_of labels) = λ x at.
      ⊎_elim (known_within (vars_of labels) left l x) (known_within (vars_of labels) right r x) (in_append x (variable_of left) (variable_of right) (subst (In x) (occurrences_test c left right) at)) in
      let alike : Alike (vars_of labels) (vars_of labels ++ occurrences f) = record {
        there = λ x at. append_left x (vars_of labels) (occurrences f) at;
        back = λ x at. ⊎_elim (λ here. here) (λ there. within x there) (in_append x (vars_of labels) (occurrences f) at);
      } in
      subst (λ ls. Made R int_of cell_of consts f old new i labels made ls) (sym e_labels)
      (record {
        grown = compared.grown;
        few = let a = compared.few in let enough = rate_enough old.rels in let whole = ap (λ n. rate old.rels * n) (size_test c left right) in omega (arith, a, enough, whole);
        placed = compared.placed;
        labelled = record { keeps = λ a at. at; bound = alike };
        compiled = λ w scope p fit s.
            stands_from w f old.nodes new.nodes i made labels labels scope p fit s alike
            (compared.means w.K w.feeds p (holds_over w.dom w.db f) w.later w.coding s.means
            (λ t e. fit_comparable old.rels w c left right scope (vars_of labels) t fit l r (s.valued t e)) (holds_test w.dom w.db c left right));
      })

  -- an equation that gives a new variable the value of a known term
  equation_made : (c : Cmp) (left right by new_one : Term) (old new : State C) (i : ℕ) (labels : List Term) (made : ℕ) (made_labels : List Term) → c ≡ cmp.Eq → known (vars_of labels) by ≡ true
      → ((x : Var) → In x (variable_of left ++ variable_of right) → In x (variable_of by) ⊎ In x (variable_of new_one))
      → ((x : Var) → In x (variable_of new_one) → In x (variable_of left ++ variable_of right))
      → ((t : Env) → value_of t left ≡ value_of t right → value_of t new_one ≡ value_of t by) → ((t : Env) → value_of t new_one ≡ value_of t by → value_of t left ≡ value_of t right)
      → Equated R int_of cell_of by new_one old new i labels made made_labels → Made R int_of cell_of consts (Test c left right) old new i labels made made_labels
  equation_made c left right by new_one old new i labels made made_labels equal is parts mine there back equated =
      let f : Formula = Test c left right in
      let split : vars_of made_labels ≡ vars_of labels ++ (variable_of new_one ++ []) = ap vars_of equated.labelled ∙ flat_map-append variable_of labels (new_one ∷ []) in
      let alike : Alike (vars_of made_labels) (vars_of labels ++ occurrences f) = record {
        there = λ x at.
            ⊎_elim (λ here. append_left x (vars_of labels) (occurrences f) here)
            (λ more. append_right x (vars_of labels) (occurrences f) (subst (In x) (sym (occurrences_test c left right)) (mine x (⊎_elim (λ here. here) (λ none. absurd none) (in_append x (variable_of new_one) [] more)))))
            (in_append x (vars_of labels) (variable_of new_one ++ []) (subst (In x) split at));
        back = λ x at.
            subst (In x) (sym split)
            (⊎_elim (λ here. append_left x (vars_of labels) (variable_of new_one ++ []) here)
            (λ more.
            ⊎_elim (λ old_one. append_left x (vars_of labels) (variable_of new_one ++ []) (known_within (vars_of labels) by is x old_one))
            (λ own. append_right x (vars_of labels) (variable_of new_one ++ []) (append_left x (variable_of new_one) [] own))
            (parts x (subst (In x) (occurrences_test c left right) more)))
            (in_append x (vars_of labels) (occurrences f) at));
      } in
      record {
        grown = equated.grown;
        few = let a = equated.few in let enough = rate_enough old.rels in let whole = ap (λ n. rate old.rels * n) (size_test c left right) in omega (arith, a, enough, whole);
        placed = equated.placed;
        labelled = record { keeps = λ a at. subst (In a) (sym equated.labelled) (append_left a labels (new_one ∷ []) at); bound = alike };
        compiled = λ w scope p fit s.
            stands_from w f old.nodes new.nodes i made labels made_labels scope p fit s alike
            (equated.means w.K w.feeds p (holds_over w.dom w.db f) w.later w.coding s.means s.looks
            (λ t e. there t (tied (value_of t left) (value_of t right) (subst (λ k. meets k (value_cmp (value_of t left) (value_of t right)) ≡ true) equal (sym (holds_test w.dom w.db c left right t) ∙ e))))
            (λ t e. holds_test w.dom w.db c left right t ∙ subst (λ k. meets k (value_cmp (value_of t left) (value_of t right)) ≡ true) (sym equal) (ties (value_of t left) (value_of t right) (back t e))));
      }
    where
      tied : (v w : Value) → is_eq (value_cmp v w) ≡ true → v ≡ w
      tied v w e = exact_values v w ((Equal-is (value_cmp v w)).0 e)

      ties : (v w : Value) → v ≡ w → is_eq (value_cmp v w) ≡ true
      ties v w e = subst (λ z. is_eq (value_cmp v z) ≡ true) e (ap is_eq (tied_itself value_total v))

  pub left_made : (c : Cmp) (left right : Term) (old new : State C) (i : ℕ) (labels : List Term) (made : ℕ) (made_labels : List Term) → test_safe c left right (vars_of labels) ≡ true → known (vars_of labels) left ≡ false
      → Equated R int_of cell_of right left old new i labels made made_labels → Made R int_of cell_of consts (Test c left right) old new i labels made made_labels
  left_made c left right old new i labels made made_labels safe none equated =
      equation_made c left right right left old new i labels made made_labels
      (⊎_elim (λ e. e) (λ both. absurd (true≢false (sym both.0 ∙ none))) (both_or_equal c left right (vars_of labels) safe)) (other_known c left right (vars_of labels) safe none)
      (λ x at. ⊎_elim inr inl (in_append x (variable_of left) (variable_of right) at)) (λ x at. append_left x (variable_of left) (variable_of right) at) (λ t e. e) (λ t e. e) equated

  pub right_made : (c : Cmp) (left right : Term) (old new : State C) (i : ℕ) (labels : List Term) (made : ℕ) (made_labels : List Term) → test_safe c left right (vars_of labels) ≡ true → known (vars_of labels) left ≡ true
      → known (vars_of labels) right ≡ false → Equated R int_of cell_of left right old new i labels made made_labels → Made R int_of cell_of consts (Test c left right) old new i labels made made_labels
  right_made c left right old new i labels made made_labels safe is none equated =
      equation_made c left right left right old new i labels made made_labels
      (⊎_elim (λ e. e) (λ both. absurd (true≢false (sym both.1 ∙ none))) (both_or_equal c left right (vars_of labels) safe)) is
      (λ x at. in_append x (variable_of left) (variable_of right) at) (λ x at. append_right x (variable_of left) (variable_of right) at) (λ t e. sym e) (λ t e. sym e) equated
