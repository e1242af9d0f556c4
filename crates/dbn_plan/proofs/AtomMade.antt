-- The nodes that an atom adds.
use Rattle.std.proofs.Common.{◌≡◌, ◌<◌, ℕ, ℤ, zero, suc, inl, inr, ⊎_elim, true, List, [], ◌∷◌, ◌++◌, map, refl, ap, sym, ◌∙◌, subst, Option, Some, None, length, arith}
use Rattle.std.specs.Prelude.{slice_get, slice_index_or}
use Rattle.std.specs.declared.cmp.Ordering.{Ordering}
use Rattle.std.specs.List.{list_all, filter, flat_map}
use Rattle.std.specs.Ordering.{nat_cmp}
use Rattle.std.specs.BTreeMap.{get}
use Rattle.std.proofs.Common.{◌*◌, ◌≤◌, eqb-true}
use Rattle.std.proofs.lemmas.List.{length-append, append_assoc, length-map, get_or_past}
use Rattle.std.proofs.lemmas.Option.{slice_get_within}
use Rattle.std.proofs.lemmas.List.Concat.{flat_map-append}
use Rattle.dbn_value.specs.Members.{In}
use Rattle.dbn_value.proofs.MemberLaws.{in_append, append_left, append_right, none_from}
use Rattle.dbn_value.specs.Coding.{Extends}
use Rattle.dbn_value.specs.declared.value.Value.{Value}
use Rattle.dbn_value.specs.declared.value.ColType.{ColType}
use Rattle.dbn_value.specs.declared.term.Var.{Var}
use Rattle.dbn_value.specs.declared.term.Term.{Term}
use Rattle.dbn_value.specs.declared.term.Term.TheVariants as term
use Rattle.dbn_formula.specs.Holds.{Domain, value_of, row_eq, holds_over}
use Rattle.dbn_formula.proofs.HoldsLaws.{holds_atom}
use Rattle.dbn_formula.proofs.SizeLaws.{size_atom}
use Rattle.dbn_formula.proofs.ConstantsLaws.{constants_atom}
use Rattle.dbn_formula.proofs.TypingLaws.{arity_atom}
use Rattle.dbn_formula.specs.Free.{occurrences, variable_of}
use Rattle.dbn_formula.specs.Answers.{constant_of, constants}
use Rattle.dbn_formula.specs.Typing.{Shapes, arity_fits}
use Rattle.dbn_formula.specs.Ready.{RowIn}
use Rattle.dbn_formula.specs.declared.formula.Formula.TheVariants.{Atom}
use Rattle.dbn_formula.proofs.FreeLaws.{occurrences_atom}
use Rattle.dbn_formula.proofs.Depends.{depends}
use Rattle.dbn_formula.proofs.OrderOfParts.{Alike}
use Rattle.dbn_formula.proofs.Arranged.{alike_same}
use Rattle.dbn_nodes.specs.declared.node.Node.TheVariants as node
use Rattle.dbn_network.specs.Values.{val}
use Rattle.dbn_nodes.specs.Values.{passes}
use Rattle.dbn_network.specs.States.{State, Fits, TestIn, with_node, width_at, feed_widths, state_widths}
use Rattle.dbn_nodes.specs.declared.node.ColTest.{ColTest}
use Rattle.dbn_plan.specs.Meaning.{IsRowOf, Means, vars_of}
use Rattle.dbn_plan.specs.Columns.{position, constant_test, repeat_test, test_of, tests_after, pair_with, pairs_from}
use Rattle.dbn_plan.specs.Compiled.{World, Stands}
use Rattle.dbn_plan.specs.Making.{IsOpen, Grown, Placed, AreSources, IsReady, ScanMade, Selected, Joined, NoneMade, Made, rate}
use Rattle.dbn_plan.specs.declared.sources.Sources.{Sources}
use Rattle.dbn_plan.proofs.NodeLaws.{Pairs}
use Rattle.dbn_plan.proofs.AtomLaws.{HaveCells, position_is, position_some, atom_means}
use Rattle.dbn_plan.proofs.FormulaLaws.{stands_from}
use Rattle.dbn_plan.proofs.StepLaws.{grown_none, grown_then, grown_at, one_more_node, open_after, rate_enough}
use Rattle.dbn_plan.proofs.MadeLaws.{stands_grown, empty_made}
use Rattle.dbn_plan.proofs.StepsMade.{no_labels}
use Rattle.dbn_plan.proofs.Places.{there_small, there_last, val_scan, width_scan}

abbrev tail_of : {A : Type 0} → List A → List A
tail_of [] = []
tail_of (x ∷ xs) = xs

seam : (before : List Term) (a : Term) (after : List Term) → slice_get (before ++ a ∷ after) (length before) ≡ Some a
seam [] a after = refl
seam (b ∷ before) a after = seam before a after

one_more : (before : List Term) (a : Term) → suc (length before) ≡ length (before ++ a ∷ [])
one_more [] a = refl
one_more (b ∷ before) a = ap suc (one_more before a)

-- the tests stay the same while the coder grows
pub tests_stay : {C : Type 0} (small K : Value → Option C) (before terms : List Term) → Extends small K → HaveCells small (flat_map constant_of terms) → tests_after K before terms ≡ tests_after small before terms
tests_stay small K before [] later cells = refl
tests_stay small K before (term.Const v ∷ terms) later cells =
    let own = cells v (inl refl) in
    ap (λ m. constant_test (length before) m ++ tests_after K (before ++ term.Const v ∷ []) terms) (later v own.0 own.1 ∙ sym own.1)
    ∙ ap (λ ts. constant_test (length before) (small v) ++ ts) (tests_stay small K (before ++ term.Const v ∷ []) terms later (λ w at. cells w (inr at)))
tests_stay small K before (term.Var x ∷ terms) later cells =
    ap (λ ts. repeat_test (length before) (position before x) ++ ts) (tests_stay small K (before ++ term.Var x ∷ []) terms later cells)

-- ---- pairs

pairs_there : (labels : List Term) (before terms : List Term) (pair : ℕ × ℕ) → In pair (pairs_from labels (length before) terms)
    → (x : Var) × (slice_get labels pair.0 ≡ Some (term.Var x)) × (slice_get (before ++ terms) pair.1 ≡ Some (term.Var x))
pairs_there labels before [] pair at = absurd at
pairs_there labels before (term.Const v ∷ terms) pair at =
    let rest = pairs_there labels (before ++ term.Const v ∷ []) terms pair (subst (λ n. In pair (pairs_from labels n terms)) (one_more before (term.Const v)) at) in
    (rest.0, rest.1, subst (λ ls. slice_get ls pair.1 ≡ Some (term.Var rest.0)) (append_assoc before (term.Const v ∷ []) terms) rest.2)
pairs_there labels before (term.Var x ∷ terms) pair at =
    ⊎_elim
    (λ here.
    elim (position labels x) as (λ m. position labels x ≡ m → In pair (pair_with (length before) m) → (y : Var) × (slice_get labels pair.0 ≡ Some (term.Var y)) × (slice_get (before ++ term.Var x ∷ terms) pair.1 ≡ Some (term.Var y))) [
      | Some c ↦ λ e within.
          ⊎_elim
          (λ is.
          subst (λ (p : ℕ × ℕ). (y : Var) × (slice_get labels p.0 ≡ Some (term.Var y)) × (slice_get (before ++ term.Var x ∷ terms) p.1 ≡ Some (term.Var y))) (sym is)
          (x, position_is labels x c e, seam before (term.Var x) terms))
          (λ none. absurd none) within
      | None ↦ λ e within. absurd within
    ] refl here)
    (λ there.
    let rest = pairs_there labels (before ++ term.Var x ∷ []) terms pair (subst (λ n. In pair (pairs_from labels n terms)) (one_more before (term.Var x)) there) in
    (rest.0, rest.1, subst (λ ls. slice_get ls pair.1 ≡ Some (term.Var rest.0)) (append_assoc before (term.Var x ∷ []) terms) rest.2))
    (in_append pair (pair_with (length before) (position labels x)) (pairs_from labels (suc (length before)) terms) at)

pairs_all : (labels : List Term) (before terms : List Term) (x : Var) → In x (vars_of labels) → In x (vars_of terms)
    → (pair : ℕ × ℕ) × In pair (pairs_from labels (length before) terms) × (slice_get labels pair.0 ≡ Some (term.Var x)) × (slice_get (before ++ terms) pair.1 ≡ Some (term.Var x))
pairs_all labels before [] x here at = absurd at
pairs_all labels before (term.Const v ∷ terms) x here at =
    let rest = pairs_all labels (before ++ term.Const v ∷ []) terms x here at in
    (rest.0, subst (λ n. In rest.0 (pairs_from labels n terms)) (sym (one_more before (term.Const v))) rest.1, rest.2, subst (λ ls. slice_get ls rest.0.1 ≡ Some (term.Var x)) (append_assoc before (term.Const v ∷ []) terms) rest.3)
pairs_all labels before (term.Var y ∷ terms) x here at =
    ⊎_elim
    (λ is.
    let found = position_some labels x here in
    let e : position labels y ≡ Some found.0 = subst (λ z. position labels z ≡ Some found.0) is found.1 in (
      (found.0, length before),
      append_left (found.0, length before) (pair_with (length before) (position labels y)) (pairs_from labels (suc (length before)) terms)
          (subst (λ m. In (found.0, length before) (pair_with (length before) m)) (sym e) (inl refl)),
      position_is labels x found.0 found.1,
      subst (λ z. slice_get (before ++ term.Var y ∷ terms) (length before) ≡ Some (term.Var z)) (sym is) (seam before (term.Var y) terms),
    ))
    (λ there.
    let rest = pairs_all labels (before ++ term.Var y ∷ []) terms x here there in (
      rest.0,
      append_right rest.0 (pair_with (length before) (position labels y)) (pairs_from labels (suc (length before)) terms) (subst (λ n. In rest.0 (pairs_from labels n terms)) (sym (one_more before (term.Var y))) rest.1),
      rest.2,
      subst (λ ls. slice_get ls rest.0.1 ≡ Some (term.Var x)) (append_assoc before (term.Var y ∷ []) terms) rest.3,
    ))
    at

-- the pairs are all that the labels and the terms share
pub shared_pairs : (labels terms : List Term) → Pairs (pairs_from labels 0 terms) labels terms
shared_pairs labels terms = record { each = λ pair at. pairs_there labels [] terms pair at; all = λ x here there. pairs_all labels [] terms x here there }

pub pairs_shared : (labels terms ls ts : List Term) (on : List (ℕ × ℕ)) → ls ≡ labels → ts ≡ terms → on ≡ pairs_from ls 0 ts → Pairs on labels terms
pairs_shared labels terms ls ts on e f is = subst (λ ps. Pairs ps labels terms) (sym (is ∙ ap (λ xs. pairs_from xs 0 ts) e ∙ ap (pairs_from labels 0) f)) (shared_pairs labels terms)

row_length : (dom : Domain) (row : List Value) (shape : List ColType) → RowIn dom row shape → length row ≡ length shape
row_length dom [] [] within = refl
row_length dom [] (type ∷ shape) within = absurd within
row_length dom (v ∷ row) [] within = absurd within
row_length dom (v ∷ row) (type ∷ shape) within = ap suc (row_length dom row shape within.1)

row_of_length : {C : Type 0} (K : Value → Option C) (cells : List C) (row : List Value) → IsRowOf K cells row → length cells ≡ length row
row_of_length K [] [] e = refl
row_of_length K [] (v ∷ row) e = cc
row_of_length K (c ∷ cells) [] e = cc
row_of_length K (c ∷ cells) (v ∷ row) e = ap suc (row_of_length K cells row (ap tail_of e))

-- ---- what the tests name is there

test_small : {C : Type 0} (K : Value → Option C) (before : List Term) (a : Term) (n : ℕ) (x : ColTest C) → length before < n → In x (test_of K before a) → TestIn n x
test_small K before (term.Const v) n x h =
    elim (K v) as (λ m. In x (constant_test (length before) m) → TestIn n x) [
      | Some c ↦ λ at. ⊎_elim (λ is. subst (TestIn n) (sym is) h) (λ none. absurd none) at
      | None ↦ λ at. absurd at
    ]
test_small K before (term.Var y) n x h =
    elim (position before y) as (λ m. position before y ≡ m → In x (repeat_test (length before) m) → TestIn n x) [
      | Some j ↦ λ e at. let there = slice_get_within before j (term.Var y) (position_is before y j e) in ⊎_elim (λ is. subst (TestIn n) (sym is) (omega (arith, there, h), h)) (λ none. absurd none) at
      | None ↦ λ e at. absurd at
    ] refl

pub tests_small : {C : Type 0} (K : Value → Option C) (before terms : List Term) (x : ColTest C) → In x (tests_after K before terms) → TestIn (length (before ++ terms)) x
tests_small K before [] x at = absurd at
tests_small K before (a ∷ terms) x at =
    ⊎_elim
    (λ here. test_small K before a (length (before ++ a ∷ terms)) x (let long = length-append before (a ∷ terms) in omega (arith, long)) here)
    (λ there. subst (λ ls. TestIn (length ls) x) (append_assoc before (a ∷ []) terms) (tests_small K (before ++ a ∷ []) terms x there))
    (in_append x (test_of K before a) (tests_after K (before ++ a ∷ []) terms) at)

relation_width : (rels places : List (List ColType)) (rel : ℕ) → rel < length rels → width_at (feed_widths (rels ++ places)) rel ≡ length (slice_index_or rels rel [])
relation_width [] places rel h = absurd (omega (arith, h))
relation_width (s ∷ rels) places zero h = refl
relation_width (s ∷ rels) places (suc rel) h = relation_width rels places rel (omega (arith, h))

module _ {C : Type 0} where
  pub relation_there : (s : State C) (rel : ℕ) → IsOpen s → rel < length s.rels → rel < length (feed_widths s.shapes)
  relation_there s rel ready h =
      let sizes = length-append s.rels ready.places in
      let whole : length s.shapes ≡ length (s.rels ++ ready.places) = ap length ready.relations_first in
      let counted : length (feed_widths s.shapes) ≡ length s.shapes = length-map s.shapes length in
      omega (arith, sizes, whole, counted, h)

  pub scan_fits : (s : State C) (rel : ℕ) → IsOpen s → rel < length s.rels → Fits s (node.Scan rel)
  scan_fits s rel ready h = record { left = relation_there s rel ready h; right = tt; names = tt }

  pub scan_found : (s : State C) (sources : Sources) (rel i : ℕ) → AreSources s sources → get nat_cmp sources.scans rel ≡ Some i → ScanMade s s rel i
  scan_found s sources rel i are e = record { grown = grown_none s; few = omega arith; is = are.scans rel i e }

  pub scan_made : (old new : State C) (rel made : ℕ) → new ≡ with_node old (node.Scan rel) → made ≡ length old.nodes → ScanMade old new rel made
  scan_made old new rel made e_new e_made = record {
    grown = grown_at old new (node.Scan rel) e_new;
    few = one_more_node old new (node.Scan rel) e_new;
    is = ap (λ k. slice_get new.nodes k) e_made ∙ ap (λ (s : State C). slice_get s.nodes (length old.nodes)) e_new ∙ there_last old.nodes (node.Scan rel);
  }

  -- the scan has as many columns as the atom has terms, and the rows of the relation
  pub scan_placed : (old one : State C) (rel : ℕ) (terms : List Term) (scan : ℕ) → IsOpen old → rel < length old.rels → length terms ≡ length (slice_index_or old.rels rel []) → ScanMade old one rel scan
      → Placed one scan terms
  scan_placed old one rel terms scan ready h arity made =
      let after : IsOpen one = open_after old one made.grown ready in
      let within : rel < length one.rels = subst (λ rs. rel < length rs) (sym made.grown.rels) h in
      record {
        there = there_small one.nodes scan (node.Scan rel) made.is;
        wide = width_scan (feed_widths one.shapes) one.nodes scan rel (relation_there one rel after within) made.is
            ∙ ap (λ sh. width_at (feed_widths sh) rel) after.relations_first ∙ relation_width one.rels after.places rel within
            ∙ ap (λ rs. length (slice_index_or rs rel [])) made.grown.rels ∙ sym arity;
      }

  pub scan_rows : (R : C → C → Ordering) (old one : State C) (rel scan : ℕ) (feeds : List (List (List C))) → IsOpen old → rel < length old.rels → ScanMade old one rel scan
      → val R scan one.nodes feeds ≡ slice_index_or feeds rel []
  scan_rows R old one rel scan feeds ready h made =
      val_scan R feeds (feed_widths one.shapes) one.nodes scan rel (relation_there one rel (open_after old one made.grown ready) (subst (λ rs. rel < length rs) (sym made.grown.rels) h)) made.is

pub atom_arity : (rels : Shapes) (rel : ℕ) (terms : List Term) → arity_fits rels (Atom rel terms) ≡ true → length terms ≡ length (slice_index_or rels rel [])
atom_arity rels rel terms e = eqb-true (length terms) (length (slice_index_or rels rel [])) (sym (arity_atom rels rel terms) ∙ e)

pub atom_cells : {C : Type 0} (K : Value → Option C) (rel : ℕ) (terms : List Term) → HaveCells K (constants (Atom rel terms)) → HaveCells K (flat_map constant_of terms)
atom_cells K rel terms cells v at = cells v (subst (In v) (sym (constants_atom rel terms)) at)

pub select_names : {C : Type 0} (K : Value → Option C) (one : State C) (scan : ℕ) (terms : List Term) (tests : List (ColTest C)) → Placed one scan terms → tests ≡ tests_after K [] terms
    → (x : ColTest C) → In x tests → TestIn (width_at (state_widths one) scan) x
select_names K one scan terms tests placed e x at = subst (λ n. TestIn n x) (sym placed.wide) (tests_small K [] terms x (subst (In x) e at))

module _ {C : Type 0} {R : C → C → Ordering} {int_of : C → Option ℤ} {cell_of : Value → Option C} {consts : List Value} where
  -- the rows behind the tests are those of the atom
  pub atom_rows : (rel : ℕ) (terms : List Term) (old one two : State C) (tests : List (ColTest C)) (scan from : ℕ)
      → IsOpen old → rel < length old.rels → arity_fits old.rels (Atom rel terms) ≡ true → HaveCells cell_of (constants (Atom rel terms))
      → ScanMade old one rel scan → tests ≡ tests_after cell_of [] terms → Selected R one two scan tests from
      → (w : World R int_of cell_of consts old.rels) → Means w.K (val R from two.nodes w.feeds) terms (holds_over w.dom w.db (Atom rel terms))
  atom_rows rel terms old one two tests scan from ready small fits has first e_tests second w =
      let arity : length terms ≡ length (slice_index_or old.rels rel []) = atom_arity old.rels rel terms fits in
      let cells : HaveCells cell_of (flat_map constant_of terms) = atom_cells cell_of rel terms has in
      let found : HaveCells w.K (flat_map constant_of terms) = λ v at. let own = cells v at in (own.0, w.later v own.0 own.1) in
      let same : tests ≡ tests_after w.K [] terms = e_tests ∙ sym (tests_stay cell_of w.K [] terms w.later cells) in
      let rows : val R from two.nodes w.feeds ≡ filter (λ row. list_all (passes R row) (tests_after w.K [] terms)) (slice_index_or w.feeds rel []) =
      second.rows w.feeds ∙ ap (λ rs. filter (λ row. list_all (passes R row) tests) rs) (scan_rows R old one rel scan w.feeds ready small first)
      ∙ ap (λ ts. filter (λ row. list_all (passes R row) ts) (slice_index_or w.feeds rel [])) same in
      subst (λ rs. Means w.K rs terms (holds_over w.dom w.db (Atom rel terms))) (sym rows)
      (atom_means w.coding.total w.coding.exact w.K w.coding.one w.dom (length old.rels) w.feeds w.db rel terms w.holds small found
      (λ row at. let source = w.holds.back rel row small at in row_of_length w.K row source.0 source.1 ∙ row_length w.dom source.0 (slice_index_or old.rels rel []) (w.rows.each rel source.0 source.2) ∙ sym arity))

  pub atom_made : (rel : ℕ) (terms : List Term) (old one two new : State C) (i : ℕ) (labels : List Term) (tests : List (ColTest C)) (scan from made : ℕ) (made_labels : List Term)
      → IsOpen old → Placed old i labels → rel < length old.rels → IsReady cell_of old.rels (vars_of labels) (Atom rel terms)
      → ScanMade old one rel scan → tests ≡ tests_after cell_of [] terms → Selected R one two scan tests from → Joined R int_of two new i labels from terms made made_labels
      → Made R int_of cell_of consts (Atom rel terms) old new i labels made made_labels
  atom_made rel terms old one two new i labels tests scan from made made_labels ready placed small can first e_tests second last =
      let to_two : Grown old two = grown_then old one two first.grown second.grown in
      let alike : Alike (vars_of made_labels) (vars_of labels ++ occurrences (Atom rel terms)) =
      alike_same (vars_of made_labels) (vars_of labels ++ occurrences (Atom rel terms)) (ap vars_of last.labelled ∙ flat_map-append variable_of labels terms ∙ ap (λ xs. vars_of labels ++ xs) (sym (occurrences_atom rel terms))) in
      record {
        grown = grown_then old two new to_two last.grown;
        few =
            let a = first.few in
            let b = second.few in
            let c = last.few in
            let enough = rate_enough old.rels in
            let whole = ap (λ n. rate old.rels * n) (size_atom rel terms) in
            omega (arith, a, b, c, enough, whole);
        placed = last.placed;
        labelled = record { keeps = λ a here. subst (In a) (sym last.labelled) (append_left a labels terms here); bound = alike };
        compiled = λ w scope p fit s.
            let here : Stands R int_of w two.nodes i labels scope p = stands_grown old.rels w old two i labels scope p to_two placed.there s in
            let atoms : Means w.K (val R from two.nodes w.feeds) terms (holds_over w.dom w.db (Atom rel terms)) = atom_rows rel terms old one two tests scan from ready small can.arity can.cells first e_tests second w in
            stands_from w (Atom rel terms) old.nodes new.nodes i made labels made_labels scope p fit s alike
            (last.means w.K w.feeds p (holds_over w.dom w.db (Atom rel terms)) w.coding here.means atoms s.looks
            (λ t u agree. depends w.dom w.db (Atom rel terms) t u (λ x at. agree x (subst (In x) (occurrences_atom rel terms) at))));
      }

  -- a relation that isn't there has no rows, and the atom no terms
  pub atom_past : (rel : ℕ) (terms : List Term) (old new : State C) (i : ℕ) (labels : List Term) (made : ℕ) (made_labels : List Term)
      → length old.rels ≤ rel → IsReady cell_of old.rels (vars_of labels) (Atom rel terms) → NoneMade R int_of old new i labels made → made_labels ≡ labels
      → Made R int_of cell_of consts (Atom rel terms) old new i labels made made_labels
  atom_past rel terms old new i labels made made_labels past can none e_labels =
      let no_terms : terms ≡ [] = no_labels terms (atom_arity old.rels rel terms can.arity ∙ ap length (get_or_past old.rels rel [] past)) in
      empty_made (Atom rel terms) old new i labels made made_labels (length terms) (size_atom rel terms) (occurrences_atom rel terms ∙ ap (flat_map variable_of) no_terms)
      (λ w t. holds_atom w.dom w.db rel terms t ∙ none_from (λ row. row_eq row (map (value_of t) terms)) (slice_index_or w.db rel [])
      (λ row at. absurd (let within = (w.holds.there rel row at).0 in omega (arith, within, past))))
      none e_labels
