-- Whether a type has a value: where the formula writes one, or some relation with such a column has a row.
use Rattle.std.proofs.Common.{◌≡◌, ◌<◌, ◌+◌, ◌*◌, ◌≤◌, ℕ, ℤ, zero, suc, inl, ⊎_elim, Bool, true, false, not, ◌&&◌, ◌||◌, List, [], ◌∷◌, ◌++◌, map, take, refl, ap, sym, ◌∙◌, subst, Option, Some, length, arith}
use Rattle.std.specs.Prelude.{slice_get, slice_index_or}
use Rattle.std.specs.declared.cmp.Ordering.{Ordering}
use Rattle.std.specs.Cmp.{both_ways}
use Rattle.std.specs.List.{list_all}
use Rattle.std.proofs.lemmas.Bool.{true≢false, and_parts, and_from, or_cases, or_left, or_right, not-true, not_from_false, false_from_ne_true, cases_lt}
use Rattle.std.proofs.lemmas.List.{take_more}
use Rattle.dbn_value.specs.Members.{In}
use Rattle.dbn_value.specs.Picked.{picked}
use Rattle.dbn_value.proofs.MemberLaws.{any_in, in_any}
use Rattle.dbn_value.proofs.AscendingLaws.{in_images, images_in}
use Rattle.std.specs.Cmp.Lexicographic.{lists_total}
use Rattle.std.specs.FinMap.{slice_cmp-IsAntisymmetric}
use Rattle.dbn_value.specs.Order.{value_type, type_eq}
use Rattle.dbn_value.specs.declared.value.Value.{Value}
use Rattle.dbn_value.specs.declared.value.ColType.{ColType}
use Rattle.dbn_value.specs.declared.term.Var.{Var}
use Rattle.dbn_value.specs.declared.term.Term.{Term}
use Rattle.dbn_formula.specs.Variables.{TypedVars, is_in, firsts}
use Rattle.dbn_formula.specs.Holds.{Env, Domain, Instance}
use Rattle.dbn_formula.specs.Free.{occurrences}
use Rattle.dbn_formula.specs.Typing.{Shapes}
use Rattle.dbn_formula.specs.Solve.{is_empty}
use Rattle.dbn_formula.specs.Ready.{RowIn}
use Rattle.dbn_formula.specs.declared.formula.Formula.{Formula}
use Rattle.dbn_formula.proofs.VariableLaws.{type_same, type_itself, in_of_is, is_of_in, in_firsts, firsts_in}
use Rattle.dbn_formula.proofs.Solved.{empty_is}
use Rattle.dbn_nodes.specs.declared.node.Node.TheVariants as node
use Rattle.dbn_nodes.specs.Values.{either, projected}
use Rattle.dbn_network.specs.Values.{val}
use Rattle.dbn_network.specs.States.{State, Fits, with_node, feed_widths, state_widths, width_at}
use Rattle.dbn_plan.specs.declared.sources.Sources.{Sources}
use Rattle.dbn_plan.specs.Meaning.{Means, LooksAt, vars_of}
use Rattle.dbn_plan.specs.Compiled.{World}
use Rattle.dbn_plan.specs.Making.{IsOpen, Grown, Placed, AreSources, ScanMade, Joined, NoneMade, FilledMade, RoomMade, columns, rate}
use Rattle.dbn_plan.specs.Filling.{has_type, has_value, any_row, RowedMade, AnyMade, MoreMade}
use Rattle.dbn_plan.proofs.Places.{val_unit, width_unit, there_small}
use Rattle.dbn_plan.proofs.NodeLaws.{means_alike, union_means, unit_means}
use Rattle.dbn_plan.proofs.StepLaws.{grown_none, grown_then, grown_at, one_more_node, placed_after, placed_at, val_at, val_grown, rate_enough}
use Rattle.dbn_plan.proofs.StepsMade.{append_nil}
use Rattle.dbn_plan.proofs.AtomMade.{scan_rows}

-- ---- the unit as a context

pub unit_placed : {C : Type 0} (s : State C) (sources : Sources) (i : ℕ) (labels : List Term) → AreSources s sources → i ≡ sources.unit → labels ≡ [] → Placed s i labels
unit_placed s sources i labels are e_i e_labels = record {
  there = subst (λ k. k < length s.nodes) (sym e_i) (there_small s.nodes sources.unit node.Unit are.unit);
  wide = ap (width_at (state_widths s)) e_i ∙ width_unit (feed_widths s.shapes) s.nodes sources.unit are.unit ∙ sym (ap length e_labels);
}

-- ---- a row of one relation

pub rowed_fits : {C : Type 0} (old one : State C) (rel scan : ℕ) (cols : List ℕ) → ScanMade old one rel scan → cols ≡ [] → Fits one (node.Project scan cols)
rowed_fits old one rel scan cols first e = record { left = there_small one.nodes scan (node.Scan rel) first.is; right = tt; names = λ c here. absurd (subst (In c) e here) }

module _ {C : Type 0} (R : C → C → Ordering) (int_of : C → Option ℤ) (cell_of : Value → Option C) (consts : List Value) where
  pub rowed_made : (rel : ℕ) (old one new : State C) (scan : ℕ) (cols : List ℕ) (made : ℕ) → IsOpen old → rel < length old.rels → ScanMade old one rel scan → cols ≡ []
      → new ≡ with_node one (node.Project scan cols) → made ≡ length one.nodes → RowedMade R int_of cell_of consts rel old new made
  rowed_made rel old one new scan cols made ready small first e_cols e_new e_made = record {
    grown = grown_then old one new first.grown (grown_at one new (node.Project scan cols) e_new);
    few = let a = first.few in let b = one_more_node one new (node.Project scan cols) e_new in omega (arith, a, b);
    placed = placed_at one new (node.Project scan cols) made [] e_new e_made (ap length e_cols);
    means = λ w.
        let rows : List (List C) = slice_index_or w.feeds rel [] in
        let is : val R made new.nodes w.feeds ≡ projected R [] rows =
        val_at R w.feeds one new (node.Project scan cols) made e_new e_made ∙ ap (λ cs. projected R cs (val R scan one.nodes w.feeds)) e_cols ∙ ap (projected R []) (scan_rows R old one rel scan w.feeds ready small first) in
        subst (λ rs. Means w.K rs [] (λ t. not (is_empty (slice_index_or w.db rel [])))) (sym is)
        (record {
          each = λ row at.
              let image = in_images (lists_total w.coding.total) (slice_cmp-IsAntisymmetric w.coding.exact) (picked []) row rows at in
              let source = w.holds.back rel image.0 small image.1 in
              ([], ap (map Some) (sym image.2), not_from_false (is_empty (slice_index_or w.db rel [])) (false_from_ne_true (is_empty (slice_index_or w.db rel [])) (λ none. empty_is (slice_index_or w.db rel []) none source.0 source.2)));
          all = λ t e.
              let some = filled_row (slice_index_or w.db rel []) (not-true (is_empty (slice_index_or w.db rel [])) e) in
              let there = w.holds.there rel some.0 some.1 in
              ([], refl, images_in (lists_total w.coding.total) (slice_cmp-IsAntisymmetric w.coding.exact) (picked []) there.1 rows there.3);
        });
  }
    where
      filled_row : {A : Type 0} (xs : List A) → is_empty xs ≡ false → (x : A) × In x xs
      filled_row [] e = absurd (true≢false e)
      filled_row (y ∷ ys) e = (y, inl refl)

  -- ---- one relation more

  pub more_none : (rel : ℕ) (type : ColType) (s : State C) (before : ℕ) → Placed s before [] → has_type type (slice_index_or s.rels rel []) ≡ false
      → MoreMade R int_of cell_of consts rel type s s before before
  more_none rel type s before placed e = record {
    grown = grown_none s;
    few = omega arith;
    placed = placed;
    means = λ w b means.
        means_alike w.coding.total w.coding.exact w.K w.coding.one (val R before s.nodes w.feeds) [] (λ t. b) (λ t. b || (has_type type (slice_index_or s.rels rel []) && not (is_empty (slice_index_or w.db rel []))))
        (λ t. or_false b ∙ ap (λ c. b || (c && not (is_empty (slice_index_or w.db rel [])))) (sym e)) means;
  }
    where
      or_false : (b : Bool) → b ≡ (b || false)
      or_false true = refl
      or_false false = refl

  pub more_made : (rel : ℕ) (type : ColType) (old mid new : State C) (before right made : ℕ) → Placed old before [] → has_type type (slice_index_or old.rels rel []) ≡ true
      → RowedMade R int_of cell_of consts rel old mid right → new ≡ with_node mid (node.Union before right) → made ≡ length mid.nodes
      → MoreMade R int_of cell_of consts rel type old new before made
  more_made rel type old mid new before right made placed e row e_new e_made = record {
    grown = grown_then old mid new row.grown (grown_at mid new (node.Union before right) e_new);
    few =
        let a = row.few in
        let b = one_more_node mid new (node.Union before right) e_new in
        let some = filled_length (slice_index_or old.rels rel []) e in
        omega (arith, a, b, some);
    placed = placed_at mid new (node.Union before right) made [] e_new e_made (placed_after old mid before [] row.grown placed).wide;
    means = λ w b means.
        let filled_one : Bool = not (is_empty (slice_index_or w.db rel [])) in
        let left : Means w.K (val R before mid.nodes w.feeds) [] (λ t. b) = subst (λ rs. Means w.K rs [] (λ t. b)) (sym (val_grown R w.feeds old mid before row.grown placed.there)) means in
        subst (λ rs. Means w.K rs [] (λ t. b || (has_type type (slice_index_or old.rels rel []) && filled_one))) (sym (val_at R w.feeds mid new (node.Union before right) made e_new e_made))
        (means_alike w.coding.total w.coding.exact w.K w.coding.one (either R (val R before mid.nodes w.feeds) (val R right mid.nodes w.feeds)) [] (λ t. b || filled_one)
        (λ t. b || (has_type type (slice_index_or old.rels rel []) && filled_one)) (λ t. ap (λ c. b || (c && filled_one)) (sym e))
        (union_means w.coding.total w.coding.exact w.K w.coding.one (val R before mid.nodes w.feeds) (val R right mid.nodes w.feeds) [] (λ t. b) (λ t. filled_one) left (row.means w)));
  }
    where
      filled_length : (shape : List ColType) → has_type type shape ≡ true → 1 ≤ length shape
      filled_length [] f = absurd (true≢false (sym f))
      filled_length (t ∷ shape) f = omega arith

  -- ---- all relations so far

  pub any_start : (old new : State C) (i : ℕ) (labels : List Term) (type : ColType) (made : ℕ) (sources : Sources) → labels ≡ [] → i ≡ sources.unit → AreSources old sources → NoneMade R int_of old new i labels made
      → AnyMade R int_of cell_of consts type 0 old new made
  any_start old new i labels type made sources e_labels e_i are none = record {
    grown = none.grown;
    few = let a = none.few in omega (arith, a);
    placed = subst (Placed new made) e_labels none.placed;
    means = λ w.
        let unit : slice_get old.nodes i ≡ Some node.Unit = subst (λ k. slice_get old.nodes k ≡ Some node.Unit) (sym e_i) are.unit in
        let ones : Means w.K (val R i old.nodes w.feeds) labels (λ t. true) =
        subst (λ ls. Means w.K (val R i old.nodes w.feeds) ls (λ t. true)) (sym e_labels)
        (subst (λ rs. Means w.K rs [] (λ t. true)) (sym (val_unit R w.feeds old.nodes i unit)) (unit_means w.coding.total w.coding.exact w.K w.coding.one)) in
        subst (λ ls. Means w.K (val R made new.nodes w.feeds) ls (λ t. false)) e_labels (none.means w.K w.feeds (λ t. true) (λ t. false) w.coding ones (λ t. refl));
  }

  pub any_step : (old mid new : State C) (type : ColType) (n : ℕ) (before made : ℕ) → n < length old.rels → AnyMade R int_of cell_of consts type n old mid before → MoreMade R int_of cell_of consts n type mid new before made
      → AnyMade R int_of cell_of consts type (n + 1) old new made
  any_step old mid new type n before made small so step =
      let is : n + 1 ≡ suc n = omega arith in
      subst (λ k. AnyMade R int_of cell_of consts type k old new made) (sym is)
      (record {
        grown = grown_then old mid new so.grown step.grown;
        few =
            let a = so.few in
            let b = subst (λ rs. length new.nodes ≤ length mid.nodes + 3 * length (slice_index_or rs n [])) so.grown.rels step.few in
            let c : columns (take (suc n) old.rels) ≡ columns (take n old.rels) + length (slice_index_or old.rels n []) =
            ap (λ k. columns (take k old.rels)) (sym is) ∙ ap columns (take_more old.rels n [] small) ∙ columns_more (take n old.rels) (slice_index_or old.rels n []) in
            omega (arith, a, b, c);
        placed = step.placed;
        means = λ w.
            (subst (λ rs. (v : World R int_of cell_of consts rs) (b : Bool) → Means v.K (val R before mid.nodes v.feeds) [] (λ t. b)
            → Means v.K (val R made new.nodes v.feeds) [] (λ t. b || (has_type type (slice_index_or rs n []) && not (is_empty (slice_index_or v.db n []))))) so.grown.rels step.means)
            w (any_row type old.rels w.db n) (so.means w);
      })
    where
      columns_more : (xs : Shapes) (shape : List ColType) → columns (xs ++ shape ∷ []) ≡ columns xs + length shape
      columns_more [] shape = omega arith
      columns_more (x ∷ xs) shape = let rest = columns_more xs shape in omega (arith, rest)

-- ---- the domain

row_typed : (dom : Domain) (type : ColType) (row : List Value) (shape : List ColType) → RowIn dom row shape → has_type type shape ≡ true → (v : Value) × In v (dom type)
row_typed dom type [] [] within e = absurd (true≢false (sym e))
row_typed dom type [] (t ∷ shape) within e = absurd within
row_typed dom type (v ∷ row) [] within e = absurd within
row_typed dom type (v ∷ row) (t ∷ shape) within e =
    ⊎_elim (λ here. (v, subst (λ ty. In v (dom ty)) (type_same t type here) within.0)) (λ there. row_typed dom type row shape within.1 there)
    (or_cases (type_eq t type) (has_type type shape) e)

filled_one : {A : Type 0} (xs : List A) → is_empty xs ≡ false → (x : A) × In x xs
filled_one [] e = absurd (true≢false e)
filled_one (y ∷ ys) e = (y, inl refl)

any_found : (type : ColType) (rels : Shapes) (db : Instance) (n : ℕ) → any_row type rels db n ≡ true
    → (rel : ℕ) × (has_type type (slice_index_or rels rel []) ≡ true) × (row : List Value) × In row (slice_index_or db rel [])
any_found type rels db zero e = absurd (true≢false (sym e))
any_found type rels db (suc n) e =
    ⊎_elim (any_found type rels db n)
    (λ here.
    let parts = and_parts (has_type type (slice_index_or rels n [])) (not (is_empty (slice_index_or db n []))) here in
    let row = filled_one (slice_index_or db n []) (not-true (is_empty (slice_index_or db n [])) parts.1) in
    (n, parts.0, row.0, row.1))
    (or_cases (any_row type rels db n) (has_type type (slice_index_or rels n []) && not (is_empty (slice_index_or db n []))) e)

found_any : (type : ColType) (rels : Shapes) (db : Instance) (n rel : ℕ) (row : List Value) → rel < n → In type (slice_index_or rels rel []) → In row (slice_index_or db rel []) → any_row type rels db n ≡ true
found_any type rels db zero rel row h at there = absurd (omega (arith, h))
found_any type rels db (suc n) rel row h at there =
    ⊎_elim (λ below. or_left (any_row type rels db n) (has_type type (slice_index_or rels n []) && not (is_empty (slice_index_or db n []))) (found_any type rels db n rel row below at there))
    (λ past.
    let is : rel ≡ n = omega (arith, h, past) in
    or_right (any_row type rels db n) (has_type type (slice_index_or rels n []) && not (is_empty (slice_index_or db n [])))
    (subst (λ k. (has_type type (slice_index_or rels k []) && not (is_empty (slice_index_or db k []))) ≡ true) is
    (and_from (has_type type (slice_index_or rels rel [])) (not (is_empty (slice_index_or db rel []))) (in_any (λ t. type_eq t type) type (slice_index_or rels rel []) at (type_itself type))
    (not_from_false (is_empty (slice_index_or db rel [])) (false_from_ne_true (is_empty (slice_index_or db rel [])) (λ none. empty_is (slice_index_or db rel []) none row there))))))
    (cases_lt rel n)

module _ {C : Type 0} {R : C → C → Ordering} {int_of : C → Option ℤ} {cell_of : Value → Option C} {consts : List Value} {rels : Shapes} (w : World R int_of cell_of consts rels) where
  not_empty : (type : ColType) (v : Value) → In v (w.dom type) → not (is_empty (w.dom type)) ≡ true
  not_empty type v at = not_from_false (is_empty (w.dom type)) (false_from_ne_true (is_empty (w.dom type)) (λ none. empty_is (w.dom type) none v at))

  pub written_fills : (type : ColType) → has_value type consts ≡ true → not (is_empty (w.dom type)) ≡ true
  written_fills type e =
      let found = any_in (λ v. type_eq (value_type v) type) consts e in
      not_empty type found.0 (subst (λ ty. In found.0 (w.dom ty)) (type_same (value_type found.0) type found.2) (w.consts_in.each found.0 found.1))

  pub rows_fill : (type : ColType) → has_value type consts ≡ false → any_row type rels w.db (length rels) ≡ not (is_empty (w.dom type))
  rows_fill type none =
      both_ways (any_row type rels w.db (length rels)) (not (is_empty (w.dom type)))
      (λ e.
      let found = any_found type rels w.db (length rels) e in
      let value = row_typed w.dom type found.2 (slice_index_or rels found.0 []) (w.rows.each found.0 found.2 found.3) found.1 in
      not_empty type value.0 value.1)
      (λ e.
      let value = filled_one (w.dom type) (not-true (is_empty (w.dom type)) e) in
      ⊎_elim (λ written. absurd (true≢false (sym (in_any (λ v. type_eq (value_type v) type) written.0 consts written.1 (subst (λ ty. type_eq ty type ≡ true) (sym written.2) (type_itself type))) ∙ none)))
      (λ row. found_any type rels w.db (length rels) row.0 row.3 row.1 row.2 row.4)
      (w.filled type value.0 value.1))

module _ {C : Type 0} (R : C → C → Ordering) (int_of : C → Option ℤ) (cell_of : Value → Option C) (consts : List Value) where
  and_is : (a b : Bool) → b ≡ true → a ≡ (a && b)
  and_is true true e = refl
  and_is false true e = refl
  and_is a false e = cc

  pub filled_written : (s : State C) (i : ℕ) (labels : List Term) (type : ColType) → Placed s i labels → has_value type consts ≡ true → FilledMade R int_of cell_of consts type s s i labels i
  filled_written s i labels type placed e = record {
    grown = grown_none s;
    few = let enough = rate_enough s.rels in omega (arith, enough);
    placed = placed;
    means = λ w q looks means. means_alike w.coding.total w.coding.exact w.K w.coding.one (val R i s.nodes w.feeds) labels q (λ t. q t && not (is_empty (w.dom type))) (λ t. and_is (q t) (not (is_empty (w.dom type))) (written_fills w type e)) means;
  }

  rate_is : (rels : Shapes) → rate rels ≡ 3 * columns rels + 12
  unfolding rate
  rate_is rels = refl

  take_whole : {A : Type 0} (xs : List A) → take (length xs) xs ≡ xs
  take_whole [] = refl
  take_whole (x ∷ xs) = ap (λ ys. x ∷ ys) (take_whole xs)

  pub filled_made : (old mid new : State C) (i : ℕ) (labels : List Term) (type : ColType) (some : ℕ) (none : List Term) (made : ℕ) (made_labels : List Term) → Placed old i labels → has_value type consts ≡ false
      → AnyMade R int_of cell_of consts type (length old.rels) old mid some → none ≡ [] → Joined R int_of mid new i labels some none made made_labels
      → FilledMade R int_of cell_of consts type old new i labels made
  filled_made old mid new i labels type some none made made_labels placed e any e_none joined =
      let same : made_labels ≡ labels = joined.labelled ∙ ap (λ ls. labels ++ ls) e_none ∙ append_nil labels in
      record {
        grown = grown_then old mid new any.grown joined.grown;
        few =
            let a = any.few in
            let b = joined.few in
            let whole = ap columns (take_whole old.rels) in
            let is = rate_is old.rels in
            omega (arith, a, b, whole, is);
        placed = subst (Placed new made) same joined.placed;
        means = λ w q looks means.
            let there : Bool = any_row type old.rels w.db (length old.rels) in
            let here : Means w.K (val R i mid.nodes w.feeds) labels q = subst (λ rs. Means w.K rs labels q) (sym (val_grown R w.feeds old mid i any.grown placed.there)) means in
            let rows : Means w.K (val R some mid.nodes w.feeds) none (λ t. there) = subst (λ ls. Means w.K (val R some mid.nodes w.feeds) ls (λ t. there)) (sym e_none) (any.means w) in
            means_alike w.coding.total w.coding.exact w.K w.coding.one (val R made new.nodes w.feeds) labels (λ t. q t && there) (λ t. q t && not (is_empty (w.dom type))) (λ t. ap (λ b. q t && b) (rows_fill w type e))
            (subst (λ ls. Means w.K (val R made new.nodes w.feeds) ls (λ t. q t && there)) same (joined.means w.K w.feeds q (λ t. there) w.coding here rows looks (λ s t agree. refl)));
      }

  -- ---- all quantified variables

  pub room_start : (s : State C) (i : ℕ) (labels : List Term) (f : Formula) → Placed s i labels → RoomMade R int_of cell_of consts [] f s s i labels i
  room_start s i labels f placed = record {
    grown = grown_none s;
    few = omega arith;
    placed = placed;
    means = λ w q looks means. means_alike w.coding.total w.coding.exact w.K w.coding.one (val R i s.nodes w.feeds) labels q (λ t. q t && true) (λ t. and_is (q t) true refl) means;
  }

  room_and : (a b c : Bool) → ((a && b) && c) ≡ (a && (b && c))
  room_and true b c = refl
  room_and false b c = refl

  all_append : {A : Type 0} (t : A → Bool) (xs : List A) (x : A) → list_all t (xs ++ x ∷ []) ≡ (list_all t xs && t x)
  all_append t [] x = and_true (t x)
    where
      and_true : (b : Bool) → (b && true) ≡ b
      and_true true = refl
      and_true false = refl
  all_append t (y ∷ xs) x = ap (λ b. t y && b) (all_append t xs x) ∙ sym (room_and (t y) (list_all t xs) (t x))

  room_more : (old mid new : State C) (i : ℕ) (labels : List Term) (vars : TypedVars) (y : Var × ColType) (f : Formula) (before made : ℕ) → RoomMade R int_of cell_of consts vars f old mid i labels before
      → Grown mid new → length new.nodes + 10 ≤ length mid.nodes + rate mid.rels → Placed new made labels
      → ((w : World R int_of cell_of consts mid.rels) (q : Env → Bool) → LooksAt (vars_of labels) q → Means w.K (val R before mid.nodes w.feeds) labels q
      → Means w.K (val R made new.nodes w.feeds) labels (λ t. q t && (is_in y.0 (occurrences f) || not (is_empty (w.dom y.1)))))
      → RoomMade R int_of cell_of consts (vars ++ y ∷ []) f old new i labels made
  room_more old mid new i labels vars y f before made so grown few placed step = record {
    grown = grown_then old mid new so.grown grown;
    few =
        let a = so.few in
        let b = subst (λ rs. length new.nodes + 10 ≤ length mid.nodes + rate rs) so.grown.rels few in
        let more : length (vars ++ y ∷ []) ≡ length vars + 1 = length_more vars y in
        let whole : rate old.rels * length (vars ++ y ∷ []) ≡ rate old.rels * (length vars + 1) = ap (λ n. rate old.rels * n) more in
        omega (arith, a, b, more, whole);
    placed = placed;
    means = λ w q looks means.
        let so_far : Env → Bool = λ t. q t && list_all (λ z. is_in z.0 (occurrences f) || not (is_empty (w.dom z.1))) vars in
        means_alike w.coding.total w.coding.exact w.K w.coding.one (val R made new.nodes w.feeds) labels (λ t. so_far t && (is_in y.0 (occurrences f) || not (is_empty (w.dom y.1))))
        (λ t. q t && list_all (λ z. is_in z.0 (occurrences f) || not (is_empty (w.dom z.1))) (vars ++ y ∷ []))
        (λ t. room_and (q t) (list_all (λ z. is_in z.0 (occurrences f) || not (is_empty (w.dom z.1))) vars) (is_in y.0 (occurrences f) || not (is_empty (w.dom y.1)))
        ∙ ap (λ b. q t && b) (sym (all_append (λ z. is_in z.0 (occurrences f) || not (is_empty (w.dom z.1))) vars y)))
        ((subst (λ rs. (v : World R int_of cell_of consts rs) (p : Env → Bool) → LooksAt (vars_of labels) p → Means v.K (val R before mid.nodes v.feeds) labels p
        → Means v.K (val R made new.nodes v.feeds) labels (λ t. p t && (is_in y.0 (occurrences f) || not (is_empty (v.dom y.1))))) so.grown.rels step)
        w so_far (λ s t agree. ap (λ b. b && list_all (λ z. is_in z.0 (occurrences f) || not (is_empty (w.dom z.1))) vars) (looks s t agree)) (so.means w q looks means));
  }
    where
      length_more : (xs : TypedVars) (x : Var × ColType) → length (xs ++ x ∷ []) ≡ length xs + 1
      length_more [] x = refl
      length_more (z ∷ xs) x = let rest = length_more xs x in omega (arith, rest)

  -- the variable occurs
  pub room_occurs : (old mid : State C) (i : ℕ) (labels : List Term) (vars more : TypedVars) (y : Var × ColType) (f : Formula) (before : ℕ) → more ≡ vars ++ y ∷ [] → is_in y.0 (firsts (occurrences f)) ≡ true
      → RoomMade R int_of cell_of consts vars f old mid i labels before → RoomMade R int_of cell_of consts more f old mid i labels before
  room_occurs old mid i labels vars more y f before e is so =
      subst (λ vs. RoomMade R int_of cell_of consts vs f old mid i labels before) (sym e)
      (room_more old mid mid i labels vars y f before before so (grown_none mid) (let enough = rate_enough mid.rels in omega (arith, enough)) so.placed
      (λ w q looks means.
      let there : is_in y.0 (occurrences f) ≡ true = is_of_in y.0 (occurrences f) (in_firsts y.0 (occurrences f) (in_of_is y.0 (firsts (occurrences f)) is)) in
      means_alike w.coding.total w.coding.exact w.K w.coding.one (val R before mid.nodes w.feeds) labels q (λ t. q t && (is_in y.0 (occurrences f) || not (is_empty (w.dom y.1))))
      (λ t. and_is (q t) (is_in y.0 (occurrences f) || not (is_empty (w.dom y.1))) (or_left (is_in y.0 (occurrences f)) (not (is_empty (w.dom y.1))) there)) means))

  -- it doesn't, and its type has a value
  pub room_filled : (old mid new : State C) (i : ℕ) (labels : List Term) (vars more : TypedVars) (y : Var × ColType) (f : Formula) (before made : ℕ) → more ≡ vars ++ y ∷ [] → is_in y.0 (firsts (occurrences f)) ≡ false
      → RoomMade R int_of cell_of consts vars f old mid i labels before → FilledMade R int_of cell_of consts y.1 mid new before labels made → RoomMade R int_of cell_of consts more f old new i labels made
  room_filled old mid new i labels vars more y f before made e is so filled =
      subst (λ vs. RoomMade R int_of cell_of consts vs f old new i labels made) (sym e)
      (room_more old mid new i labels vars y f before made so filled.grown filled.few filled.placed
      (λ w q looks means.
      let none : is_in y.0 (occurrences f) ≡ false = false_from_ne_true (is_in y.0 (occurrences f))
      (λ there. true≢false (sym (is_of_in y.0 (firsts (occurrences f)) (firsts_in y.0 (occurrences f) (in_of_is y.0 (occurrences f) there))) ∙ is)) in
      means_alike w.coding.total w.coding.exact w.K w.coding.one (val R made new.nodes w.feeds) labels (λ t. q t && not (is_empty (w.dom y.1))) (λ t. q t && (is_in y.0 (occurrences f) || not (is_empty (w.dom y.1))))
      (λ t. ap (λ b. q t && (b || not (is_empty (w.dom y.1)))) (sym none)) (filled.means w q looks means)))

  -- the variables so far, and one more
  pub room_then : (old mid new : State C) (i : ℕ) (labels : List Term) (vars more : TypedVars) (y : Var × ColType) (f : Formula) (before made : ℕ) → more ≡ vars ++ y ∷ [] → RoomMade R int_of cell_of consts vars f old mid i labels before
      → RoomMade R int_of cell_of consts (y ∷ []) f mid new before labels made → RoomMade R int_of cell_of consts more f old new i labels made
  room_then old mid new i labels vars more y f before made e so step =
      subst (λ vs. RoomMade R int_of cell_of consts vs f old new i labels made) (sym e)
      (room_more old mid new i labels vars y f before made so step.grown (let a = step.few in omega (arith, a)) step.placed
      (λ w q looks means.
      means_alike w.coding.total w.coding.exact w.K w.coding.one (val R made new.nodes w.feeds) labels (λ t. q t && list_all (λ z. is_in z.0 (occurrences f) || not (is_empty (w.dom z.1))) (y ∷ []))
      (λ t. q t && (is_in y.0 (occurrences f) || not (is_empty (w.dom y.1)))) (λ t. ap (λ b. q t && b) (sym (and_is (is_in y.0 (occurrences f) || not (is_empty (w.dom y.1))) true refl))) (step.means w q looks means)))
