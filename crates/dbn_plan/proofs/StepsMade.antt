-- The steps that every form of formula is made of: a selection, a join, a projection, and no rows.
use Rattle.std.proofs.Common.{◌≡◌, ◌<◌, ◌+◌, ℕ, ℤ, suc, inl, inr, ⊎_elim, Bool, true, false, not, ◌&&◌, List, [], ◌∷◌, ◌++◌, refl, ap, sym, ◌∙◌, subst, Option, Some, length, arith}
use Rattle.std.specs.Prelude.{slice_get}
use Rattle.std.specs.declared.cmp.Ordering.{Ordering}
use Rattle.std.proofs.lemmas.Bool.{true≢false, not-true}
use Rattle.std.proofs.lemmas.List.{length-append}
use Rattle.std.proofs.lemmas.Option.{slice_get_within}
use Rattle.dbn_value.specs.Members.{In}
use Rattle.dbn_value.proofs.MemberLaws.{filter_all, in_filter, in_append}
use Rattle.dbn_value.specs.declared.term.Term.{Term}
use Rattle.dbn_value.specs.declared.term.Term.TheVariants as term
use Rattle.dbn_formula.specs.Holds.{Env}
use Rattle.dbn_nodes.specs.declared.node.Node.TheVariants as node
use Rattle.dbn_nodes.specs.declared.node.ColTest.{ColTest}
use Rattle.dbn_nodes.specs.Tables.{has}
use Rattle.dbn_nodes.specs.Values.{selected, joined, cells_meet}
use Rattle.std.specs.Cmp.Lexicographic.{slice_cmp}
use Rattle.dbn_network.specs.Values.{val}
use Rattle.dbn_network.specs.States.{State, Fits, TestIn, state_widths, width_at, feed_widths, with_node}
use Rattle.dbn_plan.specs.declared.sources.Sources.{Sources}
use Rattle.dbn_plan.specs.Meaning.{Means, vars_of}
use Rattle.dbn_plan.specs.Columns.{Labelled}
use Rattle.dbn_plan.specs.Making.{Placed, AreSources, Selected, Joined, Shown, NoneMade, IsProjection}
use Rattle.dbn_plan.specs.Equated.{JoinedBy}
use Rattle.dbn_value.specs.declared.term.Cmp.TheVariants as cmp
use Rattle.dbn_plan.proofs.Places.{val_unit, width_unit, there_last}
use Rattle.dbn_plan.proofs.Rows.{gives_alike}
use Rattle.dbn_plan.proofs.NodeLaws.{Pairs, project_means, join_means, join_where_means, means_alike, in_row}
use Rattle.dbn_plan.proofs.StepLaws.{grown_none, grown_at, one_more_node, placed_at, val_at}

pub append_nil : {A : Type 0} (xs : List A) → xs ++ [] ≡ xs
append_nil [] = refl
append_nil (x ∷ xs) = ap (λ ys. x ∷ ys) (append_nil xs)

-- no labels, where there are none to count
pub no_labels : {A : Type 0} (xs : List A) → length xs ≡ 0 → xs ≡ []
no_labels [] e = refl
no_labels (x ∷ xs) e = absurd (omega (arith, e))

-- ---- a selection

module _ {C : Type 0} (R : C → C → Ordering) where
  every_row : (rows : List (List C)) → selected R [] rows ≡ rows
  every_row rows = filter_all (λ row. true) rows (λ row at. refl)

  -- without tests it is the node itself
  pub selected_none : (s : State C) (i : ℕ) (tests : List (ColTest C)) → tests ≡ [] → Selected R s s i tests i
  selected_none s i tests e = record {
    grown = grown_none s;
    few = omega arith;
    placed = λ labels placed. placed;
    rows = λ feeds. sym (ap (λ ts. selected R ts (val R i s.nodes feeds)) e ∙ every_row (val R i s.nodes feeds));
  }

  pub selected_made : (old new : State C) (i : ℕ) (tests : List (ColTest C)) (made : ℕ) → new ≡ with_node old (node.Select i tests) → made ≡ length old.nodes → Selected R old new i tests made
  selected_made old new i tests made e_new e_made = record {
    grown = grown_at old new (node.Select i tests) e_new;
    few = one_more_node old new (node.Select i tests) e_new;
    placed = λ labels placed. placed_at old new (node.Select i tests) made labels e_new e_made placed.wide;
    rows = λ feeds. val_at R feeds old new (node.Select i tests) made e_new e_made;
  }

pub select_fits : {C : Type 0} (s : State C) (i : ℕ) (tests : List (ColTest C)) → i < length s.nodes → ((x : ColTest C) → In x tests → TestIn (width_at (state_widths s) i) x)
    → Fits s (node.Select i tests)
select_fits s i tests there names = record { left = there; right = tt; names = names }

-- ---- a join

module _ {C : Type 0} (R : C → C → Ordering) (int_of : C → Option ℤ) where
  -- behind the unit it is the other node
  pub joined_unit : (s : State C) (sources : Sources) (i : ℕ) (labels : List Term) (other : ℕ) (others : List Term) (made_labels : List Term) → AreSources s sources → i ≡ sources.unit
      → Placed s i labels → Placed s other others → made_labels ≡ others → Joined R int_of s s i labels other others other made_labels
  joined_unit s sources i labels other others made_labels are e_i placed there e_labels =
      let unit : slice_get s.nodes i ≡ Some node.Unit = subst (λ k. slice_get s.nodes k ≡ Some node.Unit) (sym e_i) are.unit in
      let none : labels ≡ [] = no_labels labels (sym placed.wide ∙ width_unit (feed_widths s.shapes) s.nodes i unit) in
      record {
        grown = grown_none s;
        few = omega arith;
        placed = subst (Placed s other) (sym e_labels) there;
        labelled = e_labels ∙ sym (ap (λ ls. ls ++ others) none);
        means = λ K feeds p q coding left right looks_p looks_q.
            let ones : Means K ([] ∷ []) [] p = subst (λ ls. Means K ([] ∷ []) ls p) none (subst (λ rows. Means K rows labels p) (val_unit R feeds s.nodes i unit) left) in
            let first = ones.each [] (inl refl) in
            let always : (t : Env) → p t ≡ true = λ t. sym (looks_p first.0 t (λ x at. absurd (subst (λ ls. In x (vars_of ls)) none at))) ∙ first.2 in
            subst (λ ls. Means K (val R other s.nodes feeds) ls (λ t. p t && q t)) (sym e_labels)
            (means_alike coding.total coding.exact K coding.one (val R other s.nodes feeds) others q (λ t. p t && q t) (λ t. sym (ap (λ b. b && q t) (always t))) right);
      }

  pub joined_made : (old new : State C) (i : ℕ) (labels : List Term) (other : ℕ) (others : List Term) (on : List (ℕ × ℕ)) (made : ℕ) (made_labels : List Term) → Pairs on labels others
      → new ≡ with_node old (node.Join i other on) → made ≡ length old.nodes → made_labels ≡ labels ++ others → Placed old i labels → Placed old other others
      → Joined R int_of old new i labels other others made made_labels
  joined_made old new i labels other others on made made_labels pairs e_new e_made e_labels placed there = record {
    grown = grown_at old new (node.Join i other on) e_new;
    few = one_more_node old new (node.Join i other on) e_new;
    placed = placed_at old new (node.Join i other on) made made_labels e_new e_made
        (ap (λ n. n + width_at (state_widths old) other) placed.wide ∙ ap (λ n. length labels + n) there.wide ∙ sym (length-append labels others) ∙ ap length (sym e_labels));
    labelled = e_labels;
    means = λ K feeds p q coding left right looks_p looks_q.
        subst (λ rows. Means K rows made_labels (λ t. p t && q t)) (sym (val_at R feeds old new (node.Join i other on) made e_new e_made))
        (subst (λ ls. Means K (joined R on (val R i old.nodes feeds) (val R other old.nodes feeds)) ls (λ t. p t && q t)) (sym e_labels)
        (join_means coding.total coding.exact K coding.one (val R i old.nodes feeds) (val R other old.nodes feeds) labels others on p q left right looks_p looks_q pairs));
  }

pub join_fits : {C : Type 0} (s : State C) (i : ℕ) (labels : List Term) (other : ℕ) (others : List Term) (on : List (ℕ × ℕ)) → Pairs on labels others → Placed s i labels → Placed s other others
    → Fits s (node.Join i other on)
join_fits s i labels other others on pairs left right = record {
  left = left.there;
  right = right.there;
  names = λ pair at.
      let named = pairs.each pair at in (
        subst (λ n. pair.0 < n) (sym left.wide) (slice_get_within labels pair.0 (term.Var named.0) named.1),
        subst (λ n. pair.1 < n) (sym right.wide) (slice_get_within others pair.1 (term.Var named.0) named.2),
      );
}

-- a pair of columns that are there besides
pub join_by_fits : {C : Type 0} (s : State C) (i : ℕ) (labels : List Term) (other : ℕ) (others : List Term) (on : List (ℕ × ℕ)) (pair : ℕ × ℕ) → Pairs on labels others → Placed s i labels
    → Placed s other others → pair.0 < length labels → pair.1 < length others → Fits s (node.Join i other (on ++ pair ∷ []))
join_by_fits s i labels other others on pair pairs left right small_left small_right = record {
  left = left.there;
  right = right.there;
  names = λ one at.
      ⊎_elim (λ here. (join_fits s i labels other others on pairs left right).names one here)
      (λ last.
      ⊎_elim
      (λ is. (
        subst (λ n. one.0 < n) (sym left.wide) (subst (λ (x : ℕ × ℕ). x.0 < length labels) (sym is) small_left),
        subst (λ n. one.1 < n) (sym right.wide) (subst (λ (x : ℕ × ℕ). x.1 < length others) (sym is) small_right),
      ))
      (λ none. absurd none) last)
      (in_append one on (pair ∷ []) at);
}

module _ {C : Type 0} (R : C → C → Ordering) (int_of : C → Option ℤ) where
  pub joined_by_made : (old new : State C) (i : ℕ) (labels : List Term) (other : ℕ) (others : List Term) (on : List (ℕ × ℕ)) (pair : ℕ × ℕ) (made : ℕ) (made_labels : List Term) → Pairs on labels others
      → new ≡ with_node old (node.Join i other (on ++ pair ∷ [])) → made ≡ length old.nodes → made_labels ≡ labels ++ others → Placed old i labels → Placed old other others
      → JoinedBy R int_of old new i labels other others pair made made_labels
  joined_by_made old new i labels other others on pair made made_labels pairs e_new e_made e_labels placed there = record {
    grown = grown_at old new (node.Join i other (on ++ pair ∷ [])) e_new;
    few = one_more_node old new (node.Join i other (on ++ pair ∷ [])) e_new;
    placed = placed_at old new (node.Join i other (on ++ pair ∷ [])) made made_labels e_new e_made
        (ap (λ n. n + width_at (state_widths old) other) placed.wide ∙ ap (λ n. length labels + n) there.wide ∙ sym (length-append labels others) ∙ ap length (sym e_labels));
    labelled = e_labels;
    means = λ K feeds p q r coding left right looks_p looks_q says.
        subst (λ rows. Means K rows made_labels (λ t. (p t && q t) && r t)) (sym (val_at R feeds old new (node.Join i other (on ++ pair ∷ [])) made e_new e_made))
        (subst (λ ls. Means K (joined R (on ++ pair ∷ []) (val R i old.nodes feeds) (val R other old.nodes feeds)) ls (λ t. (p t && q t) && r t)) (sym e_labels)
        (join_where_means coding.total coding.exact K coding.one (val R i old.nodes feeds) (val R other old.nodes feeds) labels others on (pair ∷ []) p q r left right looks_p looks_q pairs
        (λ t a b ga gb. and_none (cells_meet R cmp.Eq (slice_get a pair.0) (slice_get b pair.1)) ∙ says t a b ga gb)));
  }
    where
      and_none : (b : Bool) → (b && true) ≡ b
      and_none true = refl
      and_none false = refl

-- ---- a projection

pub column_small : (labels : List Term) (cols : List ℕ) (wanted : List Term) → Labelled labels cols wanted → (c : ℕ) → In c cols → c < length labels
column_small labels [] [] at c here = absurd here
column_small labels [] (w ∷ wanted) at c here = absurd at
column_small labels (k ∷ cols) [] at c here = absurd at
column_small labels (k ∷ cols) (w ∷ wanted) at c (inl here) = subst (λ n. n < length labels) (sym here) (slice_get_within labels k w at.0)
column_small labels (k ∷ cols) (w ∷ wanted) at c (inr there) = column_small labels cols wanted at.1 c there

pub column_count : (labels : List Term) (cols : List ℕ) (wanted : List Term) → Labelled labels cols wanted → length cols ≡ length wanted
column_count labels [] [] at = refl
column_count labels [] (w ∷ wanted) at = absurd at
column_count labels (c ∷ cols) [] at = absurd at
column_count labels (c ∷ cols) (w ∷ wanted) at = ap suc (column_count labels cols wanted at.1)

pub labelled_as : (labels wanted ls ws : List Term) (cols : List ℕ) → ls ≡ labels → ws ≡ wanted → Labelled ls cols ws → Labelled labels cols wanted
labelled_as labels wanted ls ws cols e f at = subst (Labelled labels cols) f (subst (λ xs. Labelled xs cols ws) e at)

pub project_fits : {C : Type 0} (s : State C) (i : ℕ) (labels : List Term) (cols : List ℕ) (wanted : List Term) → Placed s i labels → Labelled labels cols wanted → Fits s (node.Project i cols)
project_fits s i labels cols wanted placed at = record {
  left = placed.there;
  right = tt;
  names = λ c here. subst (λ n. c < n) (sym placed.wide) (column_small labels cols wanted at c here);
}

module _ {C : Type 0} (R : C → C → Ordering) (int_of : C → Option ℤ) where
  -- the same labels are the node itself
  pub shown_same : (s : State C) (i : ℕ) (labels wanted : List Term) → Placed s i labels → labels ≡ wanted → Shown R int_of s s i labels i wanted
  shown_same s i labels wanted placed e = record {
    grown = grown_none s;
    few = omega arith;
    placed = subst (Placed s i) e placed;
    means = λ K feeds p q coding means there back.
        subst (λ ls. Means K (val R i s.nodes feeds) ls q) e
        (record {
          each = λ row at. let found = means.each row at in (found.0, found.1, there found.0 found.2);
          all = λ t holds.
              let from = back t holds in
              let found = means.all from.0 from.2 in
              (found.0, gives_alike K labels from.0 t found.0 (λ x at. from.1 x (subst (λ ls. In x (vars_of ls)) e at)) found.1, found.2);
        });
  }

  pub shown_made : (old new : State C) (i : ℕ) (labels wanted : List Term) (cols : List ℕ) (made : ℕ) → Placed old i labels → Labelled labels cols wanted
      → new ≡ with_node old (node.Project i cols) → made ≡ length old.nodes → Shown R int_of old new i labels made wanted
  shown_made old new i labels wanted cols made placed at e_new e_made = record {
    grown = grown_at old new (node.Project i cols) e_new;
    few = one_more_node old new (node.Project i cols) e_new;
    placed = placed_at old new (node.Project i cols) made wanted e_new e_made (column_count labels cols wanted at);
    means = λ K feeds p q coding means there back.
        subst (λ rows. Means K rows wanted q) (sym (val_at R feeds old new (node.Project i cols) made e_new e_made))
        (project_means coding.total coding.exact K coding.one (val R i old.nodes feeds) labels wanted cols p q means at there back);
  }

pub projection_made : {C : Type 0} (old new : State C) (i : ℕ) (cols : List ℕ) (made : ℕ) → new ≡ with_node old (node.Project i cols) → made ≡ length old.nodes → IsProjection new made
projection_made {C} old new i cols made e_new e_made =
    (i, cols, ap (λ k. slice_get new.nodes k) e_made ∙ ap (λ (s : State C). slice_get s.nodes (length old.nodes)) e_new ∙ there_last old.nodes (node.Project i cols))

-- ---- no rows

pub diff_fits : {C : Type 0} (s : State C) (i : ℕ) (labels : List Term) (j : ℕ) → Placed s i labels → Placed s j labels → Fits s (node.Diff i j)
diff_fits s i labels j left right = record { left = left.there; right = right.there; names = left.wide ∙ sym right.wide }

module _ {C : Type 0} (R : C → C → Ordering) (int_of : C → Option ℤ) where
  pub none_made : (old new : State C) (i : ℕ) (labels : List Term) (made : ℕ) → Placed old i labels → new ≡ with_node old (node.Diff i i) → made ≡ length old.nodes → NoneMade R int_of old new i labels made
  none_made old new i labels made placed e_new e_made = record {
    grown = grown_at old new (node.Diff i i) e_new;
    few = one_more_node old new (node.Diff i i) e_new;
    placed = placed_at old new (node.Diff i i) made labels e_new e_made placed.wide;
    means = λ K feeds p q coding means never.
        subst (λ rows. Means K rows labels q) (sym (val_at R feeds old new (node.Diff i i) made e_new e_made))
        (record {
          each = λ row at.
              let within = in_filter (λ r. not (has (slice_cmp R) (val R i old.nodes feeds) r)) row (val R i old.nodes feeds) at in
              absurd (true≢false (sym (in_row coding.total coding.exact K coding.one row (val R i old.nodes feeds) within.0) ∙ not-true (has (slice_cmp R) (val R i old.nodes feeds) row) within.1));
          all = λ t e. absurd (true≢false (sym e ∙ never t));
        });
  }
