-- An equation and its atom are one join.
use Rattle.std.proofs.Common.{◌≡◌, ◌<◌, ◌+◌, ◌*◌, ℕ, ℤ, inl, inr, ⊎_elim, Bool, true, false, ◌&&◌, List, [], ◌∷◌, ◌++◌, map, refl, ap, sym, ◌∙◌, subst, Option, Some, length, take, get_or, arith}
use Rattle.std.specs.Prelude.{slice_get}
use Rattle.std.specs.declared.cmp.Ordering.{Ordering}
use Rattle.std.specs.Ordering.{is_eq}
use Rattle.std.specs.List.{flat_map}
use Rattle.std.specs.Cmp.{Equal-is, tied_itself, both_ways}
use Rattle.std.proofs.lemmas.List.{take_more}
use Rattle.std.proofs.lemmas.List.Concat.{flat_map-append}
use Rattle.std.proofs.lemmas.Option.{slice_get_within}
use Rattle.dbn_value.specs.Members.{In}
use Rattle.dbn_value.proofs.MemberLaws.{in_append, append_left, append_right, flat_in, in_at}
use Rattle.dbn_value.specs.Order.{value_cmp, value_total, exact_values, meets}
use Rattle.dbn_value.specs.declared.value.Value.{Value}
use Rattle.dbn_value.specs.declared.term.Var.{Var}
use Rattle.dbn_value.specs.declared.term.Term.{Term}
use Rattle.dbn_value.specs.declared.term.Cmp.TheVariants as cmp
use Rattle.dbn_formula.specs.Holds.{Env, value_of, holds_over}
use Rattle.dbn_formula.specs.Free.{occurrences, variable_of}
use Rattle.dbn_formula.specs.Answers.{constants}
use Rattle.dbn_formula.specs.Typing.{arity_fits}
use Rattle.dbn_formula.specs.Size.{total, size}
use Rattle.dbn_formula.specs.declared.formula.Formula.{Formula}
use Rattle.dbn_formula.specs.declared.formula.Formula.TheVariants.{And, Test, Atom}
use Rattle.dbn_formula.proofs.HoldsLaws.{holds_test, holds_and}
use Rattle.dbn_formula.proofs.FreeLaws.{occurrences_test, occurrences_atom, occurrences_and}
use Rattle.dbn_formula.proofs.SizeLaws.{size_test, size_atom}
use Rattle.dbn_formula.proofs.Depends.{depends}
use Rattle.dbn_formula.proofs.OrderOfParts.{Alike}
use Rattle.dbn_nodes.specs.Values.{cells_meet}
use Rattle.dbn_nodes.specs.declared.node.ColTest.{ColTest}
use Rattle.dbn_network.specs.Values.{val}
use Rattle.dbn_network.specs.States.{State}
use Rattle.dbn_plan.specs.Meaning.{Gives, Means, vars_of}
use Rattle.dbn_plan.specs.Columns.{HaveCells, tests_after}
use Rattle.dbn_plan.specs.Compiled.{Stands}
use Rattle.dbn_plan.specs.Making.{IsOpen, Grown, Placed, ScanMade, Selected, rate}
use Rattle.dbn_plan.specs.Equated.{PairFor, JoinedBy, AllMade}
use Rattle.dbn_plan.proofs.NodeLaws.{means_alike}
use Rattle.dbn_plan.proofs.TestLaws.{rows_meet}
use Rattle.dbn_plan.proofs.AtomMade.{atom_rows}
use Rattle.dbn_plan.proofs.FormulaLaws.{stands_from}
use Rattle.dbn_plan.proofs.StepLaws.{grown_then, rate_enough}
use Rattle.dbn_plan.proofs.MadeLaws.{stands_grown}

pub pair_small : (labels others : List Term) (left right : Term) (pair : ℕ × ℕ) → PairFor labels others left right pair → (pair.0 < length labels) × (pair.1 < length others)
pair_small labels others left right pair is = (slice_get_within labels pair.0 is.known is.at_known, slice_get_within others pair.1 is.other is.at_other)

pub two_taken : (parts : List Formula) (f g a b : Formula) → 1 < length parts → f ≡ get_or parts 0 f → g ≡ get_or parts 1 g → f ≡ a → g ≡ b → take 2 parts ≡ a ∷ b ∷ []
two_taken parts f g a b h e0 e1 ea eb =
    take_more parts 1 g h ∙ ap (λ xs. xs ++ get_or parts 1 g ∷ []) (take_more parts 0 f (omega (arith, h))) ∙ ap (λ x. x ∷ get_or parts 1 g ∷ []) (sym e0 ∙ ea) ∙ ap (λ y. a ∷ y ∷ []) (sym e1 ∙ eb)

turned_round : (v w : Value) → meets cmp.Eq (value_cmp v w) ≡ meets cmp.Eq (value_cmp w v)
turned_round v w = both_ways (is_eq (value_cmp v w)) (is_eq (value_cmp w v)) (λ e. tied w v (sym (same v w e))) (λ e. tied v w (sym (same w v e)))
  where
    same : (a b : Value) → is_eq (value_cmp a b) ≡ true → a ≡ b
    same a b e = exact_values a b ((Equal-is (value_cmp a b)).0 e)

    tied : (a b : Value) → a ≡ b → is_eq (value_cmp a b) ≡ true
    tied a b e = subst (λ z. is_eq (value_cmp a z) ≡ true) e (ap is_eq (tied_itself value_total a))

pair_says : (labels others : List Term) (left right : Term) (pair : ℕ × ℕ) (is : PairFor labels others left right pair) (t : Env)
    → meets cmp.Eq (value_cmp (value_of t is.known) (value_of t is.other)) ≡ meets cmp.Eq (value_cmp (value_of t left) (value_of t right))
pair_says labels others left right pair is t =
    ⊎_elim
    (λ straight. ap (λ a. meets cmp.Eq (value_cmp (value_of t a) (value_of t is.other))) (sym straight.0) ∙ ap (λ b. meets cmp.Eq (value_cmp (value_of t left) (value_of t b))) (sym straight.1))
    (λ crossed.
    turned_round (value_of t is.known) (value_of t is.other)
    ∙ ap (λ a. meets cmp.Eq (value_cmp (value_of t a) (value_of t is.known))) (sym crossed.0) ∙ ap (λ b. meets cmp.Eq (value_cmp (value_of t left) (value_of t b))) (sym crossed.1))
    is.sides

side_there : (labels : List Term) (i : ℕ) (a : Term) (x : Var) → slice_get labels i ≡ Some a → In x (variable_of a) → In x (vars_of labels)
side_there labels i a x at here = flat_in variable_of x a labels (in_at labels i a at) here

-- the variables of the equation are there
sides_there : (labels others : List Term) (left right : Term) (pair : ℕ × ℕ) → PairFor labels others left right pair → (x : Var) → In x (variable_of left ++ variable_of right) → In x (vars_of labels ++ vars_of others)
sides_there labels others left right pair is x at =
    let of_known : In x (variable_of is.known) → In x (vars_of labels ++ vars_of others) = λ here. append_left x (vars_of labels) (vars_of others) (side_there labels pair.0 is.known x is.at_known here) in
    let of_other : In x (variable_of is.other) → In x (vars_of labels ++ vars_of others) = λ here. append_right x (vars_of labels) (vars_of others) (side_there others pair.1 is.other x is.at_other here) in
    ⊎_elim
    (λ straight. ⊎_elim (λ l. of_known (subst (λ a. In x (variable_of a)) straight.0 l)) (λ r. of_other (subst (λ a. In x (variable_of a)) straight.1 r)) (in_append x (variable_of left) (variable_of right) at))
    (λ crossed. ⊎_elim (λ l. of_other (subst (λ a. In x (variable_of a)) crossed.0 l)) (λ r. of_known (subst (λ a. In x (variable_of a)) crossed.1 r)) (in_append x (variable_of left) (variable_of right) at))
    is.sides

in_other_order : (a b c : Bool) → ((a && b) && c) ≡ (a && (c && (b && true)))
in_other_order true true true = refl
in_other_order true true false = refl
in_other_order true false true = refl
in_other_order true false false = refl
in_other_order false b c = refl

module _ {C : Type 0} {R : C → C → Ordering} {int_of : C → Option ℤ} {cell_of : Value → Option C} {consts : List Value} where
  pub equated_made : (left right : Term) (rel : ℕ) (terms : List Term) (old one two new : State C) (i : ℕ) (labels : List Term) (tests : List (ColTest C)) (scan from : ℕ) (pair : ℕ × ℕ) (made : ℕ) (made_labels : List Term)
      → IsOpen old → Placed old i labels → rel < length old.rels → arity_fits old.rels (Atom rel terms) ≡ true → HaveCells cell_of (constants (Atom rel terms))
      → ScanMade old one rel scan → tests ≡ tests_after cell_of [] terms → Selected R one two scan tests from → JoinedBy R int_of two new i labels from terms pair made made_labels
      → PairFor labels terms left right pair
      → AllMade R int_of cell_of consts (Test cmp.Eq left right ∷ Atom rel terms ∷ []) old new i labels made made_labels
  equated_made left right rel terms old one two new i labels tests scan from pair made made_labels ready placed small arity cells first e_tests second last is =
      let test : Formula = Test cmp.Eq left right in
      let atom : Formula = Atom rel terms in
      let fs : List Formula = test ∷ atom ∷ [] in
      let to_two : Grown old two = grown_then old one two first.grown second.grown in
      let split : vars_of made_labels ≡ vars_of labels ++ vars_of terms = ap vars_of last.labelled ∙ flat_map-append variable_of labels terms in
      let alike : Alike (vars_of made_labels) (vars_of labels ++ flat_map occurrences fs) = record {
        there = λ x at.
            ⊎_elim (λ here. append_left x (vars_of labels) (flat_map occurrences fs) here)
            (λ more.
            append_right x (vars_of labels) (flat_map occurrences fs) (append_right x (occurrences test) (occurrences atom ++ []) (append_left x (occurrences atom) [] (subst (In x) (sym (occurrences_atom rel terms)) more))))
            (in_append x (vars_of labels) (vars_of terms) (subst (In x) split at));
        back = λ x at.
            subst (In x) (sym split)
            (⊎_elim (λ here. append_left x (vars_of labels) (vars_of terms) here)
            (λ more.
            ⊎_elim (λ equal. sides_there labels terms left right pair is x (subst (In x) (occurrences_test cmp.Eq left right) equal))
            (λ behind. append_right x (vars_of labels) (vars_of terms) (subst (In x) (occurrences_atom rel terms) (⊎_elim (λ here. here) (λ none. absurd none) (in_append x (occurrences atom) [] behind))))
            (in_append x (occurrences test) (occurrences atom ++ []) more))
            (in_append x (vars_of labels) (flat_map occurrences fs) at));
      } in
      record {
        grown = grown_then old two new to_two last.grown;
        few =
            let a = first.few in
            let b = second.few in
            let c = last.few in
            let enough = rate_enough old.rels in
            let whole = ap (λ n. rate old.rels * (n + (size atom + 0))) (size_test cmp.Eq left right) in
            omega (arith, a, b, c, enough, whole);
        placed = last.placed;
        labelled = record { keeps = λ a here. subst (In a) (sym last.labelled) (append_left a labels terms here); bound = alike };
        compiled = λ w scope p fit s.
            let here : Stands R int_of w two.nodes i labels scope p = stands_grown old.rels w old two i labels scope p to_two placed.there s in
            let equal : Env → Bool = λ t. meets cmp.Eq (value_cmp (value_of t left) (value_of t right)) in
            stands_from w (And fs) old.nodes new.nodes i made labels made_labels scope p fit s
            (subst (λ xs. Alike (vars_of made_labels) (vars_of labels ++ xs)) (sym (occurrences_and fs)) alike)
            (means_alike w.coding.total w.coding.exact w.K w.coding.one (val R made new.nodes w.feeds) made_labels (λ t. (p t && holds_over w.dom w.db atom t) && equal t) (λ t. p t && holds_over w.dom w.db (And fs) t)
            (λ t.
            in_other_order (p t) (holds_over w.dom w.db atom t) (equal t)
            ∙ ap (λ b. p t && (b && (holds_over w.dom w.db atom t && true))) (sym (holds_test w.dom w.db cmp.Eq left right t))
            ∙ ap (λ b. p t && b) (sym (holds_and w.dom w.db fs t)))
            (last.means w.K w.feeds p (holds_over w.dom w.db atom) equal w.coding here.means (atom_rows rel terms old one two tests scan from ready small arity cells first e_tests second w) s.looks
            (λ t u agree. depends w.dom w.db atom t u (λ x at. agree x (subst (In x) (occurrences_atom rel terms) at)))
            (λ t a b given_a given_b.
            rows_meet w.K w.coding labels terms pair.0 pair.1 is.known is.other t a b is.at_known is.at_other given_a given_b ∙ pair_says labels terms left right pair is t)));
      }
