-- Steps of compiling, one after the other.
use Rattle.std.proofs.Common.{◌≡◌, ◌<◌, ◌≤◌, ◌+◌, ◌*◌, Some, ℕ, ℤ, true, List, [], ◌∷◌, ◌++◌, map, refl, ap, sym, ◌∙◌, subst, Option, length, drop, take, arith}
use Rattle.std.specs.declared.cmp.Ordering.{Ordering}
use Rattle.std.specs.List.{list_all, flat_map}
use Rattle.std.specs.Prelude.{slice_get}
use Rattle.std.proofs.lemmas.Bool.{and_parts}
use Rattle.std.proofs.lemmas.List.{append_assoc, length-append, drop-drop, take-append-drop}
use Rattle.dbn_value.specs.Members.{In}
use Rattle.dbn_value.specs.declared.value.Value.{Value}
use Rattle.dbn_value.specs.declared.term.Var.{Var}
use Rattle.dbn_value.specs.declared.term.Term.{Term}
use Rattle.dbn_formula.specs.Free.{occurrences}
use Rattle.dbn_formula.specs.Safe.{safe_in_order, in_turn, as_level}
use Rattle.dbn_formula.specs.Typing.{Shapes}
use Rattle.dbn_formula.specs.declared.formula.Formula.{Formula}
use Rattle.dbn_formula.specs.declared.formula.Formula.TheVariants.{And}
use Rattle.dbn_formula.proofs.OrderOfParts.{Alike}
use Rattle.dbn_formula.proofs.Arranged.{alike_append, alike_self, alike_then, alike_same, in_order_alike}
use Rattle.dbn_formula.proofs.FreeLaws.{occurrences_and}
use Rattle.dbn_nodes.specs.declared.node.Node.{Node}
use Rattle.dbn_nodes.specs.declared.node.Node.TheVariants as node
use Rattle.dbn_network.specs.Values.{val, values, value_in}
use Rattle.dbn_network.specs.States.{State, state_widths, width_at, width_in, feed_widths, widths, with_node}
use Rattle.dbn_plan.proofs.Places.{width_stays, width_last, val_stays, val_last, there_stays}
use Rattle.dbn_value.proofs.MemberLaws.{all_at, flat_in}
use Rattle.dbn_formula.specs.Answers.{constants}
use Rattle.dbn_formula.specs.Size.{total, size}
use Rattle.dbn_formula.proofs.SizeLaws.{size_and}
use Rattle.dbn_formula.specs.Typing.{arity_fits}
use Rattle.dbn_plan.specs.Meaning.{vars_of}
use Rattle.dbn_plan.specs.Compiled.{Compiled}
use Rattle.dbn_plan.specs.declared.sources.Sources.{Sources}
use Rattle.dbn_plan.specs.Columns.{HaveCells}
use Rattle.dbn_plan.specs.Making.{IsOpen, Grown, Placed, AreSources, IsReady, Made, rate}
use Rattle.dbn_plan.specs.Equated.{AllMade}
use Rattle.std.proofs.lemmas.List.Concat.{flat_map-append}
use Rattle.dbn_plan.proofs.FormulaLaws.{CompiledAll, all_none, all_step, all_steps, and_compiled, turn_alike, turn_parts}

module _ {C : Type 0} where
  pub grown_none : (s : State C) → Grown s s
  grown_none s = record { live = refl; rels = refl; shapes = refl; feeds = refl; more = []; nodes = sym (append_none s.nodes) }
    where
      append_none : (xs : List (Node C)) → xs ++ [] ≡ xs
      append_none [] = refl
      append_none (x ∷ xs) = ap (λ ys. x ∷ ys) (append_none xs)

  pub grown_then : (a b c : State C) → Grown a b → Grown b c → Grown a c
  grown_then a b c first second = record {
    live = second.live ∙ first.live;
    rels = second.rels ∙ first.rels;
    shapes = second.shapes ∙ first.shapes;
    feeds = second.feeds ∙ first.feeds;
    more = first.more ++ second.more;
    nodes = second.nodes ∙ ap (λ ns. ns ++ second.more) first.nodes ∙ append_assoc a.nodes first.more second.more;
  }

  pub open_after : (a b : State C) → Grown a b → IsOpen a → IsOpen b
  open_after a b grown was = record {
    live = grown.live ∙ was.live;
    places = was.places;
    relations_first = grown.shapes ∙ was.relations_first ∙ ap (λ rs. rs ++ was.places) (sym grown.rels);
  }

  pub placed_after : (a b : State C) (node : ℕ) (labels : List Term) → Grown a b → Placed a node labels → Placed b node labels
  placed_after a b node labels grown was =
      let more : length (a.nodes ++ grown.more) ≡ length a.nodes + length grown.more = length-append a.nodes grown.more in
      let size : length b.nodes ≡ length (a.nodes ++ grown.more) = ap length grown.nodes in
      let there = was.there in
      record {
        there = omega (arith, more, size, there);
        wide =
            ap (λ ns. width_at (widths (feed_widths b.shapes) ns) node) grown.nodes
            ∙ ap (λ sh. width_at (widths (feed_widths sh) (a.nodes ++ grown.more)) node) grown.shapes
            ∙ width_stays (feed_widths a.shapes) a.nodes grown.more node there
            ∙ was.wide;
      }

  -- there are no fewer nodes
  pub grown_length : (a b : State C) → Grown a b → length a.nodes ≤ length b.nodes
  grown_length a b grown = let more = length-append a.nodes grown.more in let size = ap length grown.nodes in omega (arith, more, size)

  -- the unit and the scans stay
  pub sources_after : (a b : State C) (x : Sources) → Grown a b → AreSources a x → AreSources b x
  sources_after a b x grown are = record {
    unit = subst (λ ns. slice_get ns x.unit ≡ Some node.Unit) (sym grown.nodes) (there_stays a.nodes grown.more x.unit node.Unit are.unit);
    scans = λ rel i e. subst (λ ns. slice_get ns i ≡ Some (node.Scan rel)) (sym grown.nodes) (there_stays a.nodes grown.more i (node.Scan rel) (are.scans rel i e));
  }

  -- ---- one more node

  pub with_grown : (s : State C) (n : Node C) → Grown s (with_node s n)
  with_grown s n = record { live = refl; rels = refl; shapes = refl; feeds = refl; more = n ∷ []; nodes = refl }

  pub grown_at : (old new : State C) (n : Node C) → new ≡ with_node old n → Grown old new
  grown_at old new n e = subst (Grown old) (sym e) (with_grown old n)

  pub one_more_node : (old new : State C) (n : Node C) → new ≡ with_node old n → length new.nodes ≤ length old.nodes + 1
  one_more_node old new n e = let more = length-append old.nodes (n ∷ []) in let size = ap (λ (s : State C). length s.nodes) e in omega (arith, more, size)

  pub placed_at : (old new : State C) (n : Node C) (made : ℕ) (labels : List Term) → new ≡ with_node old n → made ≡ length old.nodes
      → width_in (feed_widths old.shapes) (state_widths old) n ≡ length labels → Placed new made labels
  placed_at old new n made labels e_new e_made e = rw e_made (rw e_new (with_placed old n labels e))
    where
      with_placed : (s : State C) (n : Node C) (labels : List Term) → width_in (feed_widths s.shapes) (state_widths s) n ≡ length labels → Placed (with_node s n) (length s.nodes) labels
      with_placed s n labels e =
          let more : length (s.nodes ++ n ∷ []) ≡ length s.nodes + length (n ∷ []) = length-append s.nodes (n ∷ []) in
          record { there = omega (arith, more); wide = width_last (feed_widths s.shapes) s.nodes n ∙ e }

  module _ (R : C → C → Ordering) (feeds : List (List (List C))) where
    pub val_grown : (a b : State C) (i : ℕ) → Grown a b → i < length a.nodes → val R i b.nodes feeds ≡ val R i a.nodes feeds
    val_grown a b i grown h = ap (λ ns. val R i ns feeds) grown.nodes ∙ val_stays R feeds a.nodes grown.more i h

    pub val_at : (old new : State C) (n : Node C) (made : ℕ) → new ≡ with_node old n → made ≡ length old.nodes → val R made new.nodes feeds ≡ value_in R feeds (values R feeds old.nodes) n
    val_at old new n made e_new e_made = ap (λ i. val R i new.nodes feeds) e_made ∙ ap (λ (s : State C). val R (length old.nodes) s.nodes feeds) e_new ∙ val_last R feeds old.nodes n

-- ---- what is ready

module _ {C : Type 0} (cell_of : Value → Option C) (rels : Shapes) where
  pub ready_part : (fs : List Formula) (f : Formula) (bound : List Var) → In f fs → list_all (arity_fits rels) fs ≡ true → HaveCells cell_of (flat_map constants fs) → safe_in_order f bound ≡ true
      → IsReady cell_of rels bound f
  ready_part fs f bound at arity cells safe = record {
    safe = safe;
    arity = all_at (arity_fits rels) f fs arity at;
    cells = λ v here. cells v (flat_in constants v f fs at here);
  }

  pub ready_alike : (f : Formula) (xs ys : List Var) → Alike xs ys → IsReady cell_of rels xs f → IsReady cell_of rels ys f
  ready_alike f xs ys alike ready = record { safe = sym (in_order_alike f xs ys alike) ∙ ready.safe; arity = ready.arity; cells = ready.cells }

pub first_safe : (f : Formula) (rest : List Formula) (bound : List Var) → in_turn (map as_level (f ∷ rest)) bound ≡ true → safe_in_order f bound ≡ true
first_safe f rest bound turn = (and_parts (safe_in_order f bound) (in_turn (map as_level rest) (bound ++ occurrences f)) turn).0

pub rate_enough : (rels : Shapes) → 12 ≤ rate rels
unfolding rate
rate_enough rels = omega arith

module _ {C : Type 0} (R : C → C → Ordering) (int_of : C → Option ℤ) where
  pub record AllSoFar (cell_of : Value → Option C) (consts : List Value) (fs rest : List Formula) (old new : State C) (node : ℕ) (labels : List Term) (now : ℕ) (now_labels : List Term) : Type 0 where
    pub grown : Grown old new
    pub few : length new.nodes + rate old.rels * total (map size rest) ≤ length old.nodes + rate old.rels * total (map size fs)
    pub ready : IsOpen new
    pub placed : Placed new now now_labels
    pub keeps : (a : Term) → In a labels → In a now_labels
    pub vars : Alike (vars_of now_labels ++ flat_map occurrences rest) (vars_of labels ++ flat_map occurrences fs)
    pub turn : in_turn (map as_level rest) (vars_of now_labels) ≡ true
    pub rest_is : (after : List (Node C)) (made : ℕ) (made_labels : List Term) → CompiledAll R int_of cell_of consts old.rels rest new.nodes now now_labels after made made_labels
        → CompiledAll R int_of cell_of consts old.rels fs old.nodes node labels after made made_labels

module _ {C : Type 0} {R : C → C → Ordering} {int_of : C → Option ℤ} (cell_of : Value → Option C) (consts : List Value) where
  pub so_far_start : (fs : List Formula) (s : State C) (node : ℕ) (labels : List Term) → IsOpen s → Placed s node labels → in_turn (map as_level fs) (vars_of labels) ≡ true
      → AllSoFar R int_of cell_of consts fs fs s s node labels node labels
  so_far_start fs s node labels ready placed turn = record {
    grown = grown_none s;
    few = omega arith;
    ready = ready;
    placed = placed;
    keeps = λ a at. at;
    vars = alike_self (vars_of labels ++ flat_map occurrences fs);
    turn = turn;
    rest_is = λ after made made_labels all. all;
  }

  pub so_far_step : (f : Formula) (fs rest : List Formula) (old mid new : State C) (node : ℕ) (labels : List Term) (now : ℕ) (now_labels : List Term) (made : ℕ) (made_labels : List Term)
      → AllSoFar R int_of cell_of consts fs (f ∷ rest) old mid node labels now now_labels → Made R int_of cell_of consts f mid new now now_labels made made_labels
      → AllSoFar R int_of cell_of consts fs rest old new node labels made made_labels
  so_far_step f fs rest old mid new node labels now now_labels made made_labels so step = record {
    grown = grown_then old mid new so.grown step.grown;
    few = let before = so.few in let here = subst (λ rs. length new.nodes + 4 ≤ length mid.nodes + rate rs * size f) so.grown.rels step.few in omega (arith, before, here);
    ready = open_after mid new step.grown so.ready;
    placed = step.placed;
    keeps = λ a at. step.labelled.keeps a (so.keeps a at);
    vars = alike_then (vars_of made_labels ++ flat_map occurrences rest) (vars_of now_labels ++ flat_map occurrences (f ∷ rest)) (vars_of labels ++ flat_map occurrences fs)
        (alike_then (vars_of made_labels ++ flat_map occurrences rest) ((vars_of now_labels ++ occurrences f) ++ flat_map occurrences rest) (vars_of now_labels ++ flat_map occurrences (f ∷ rest))
        (alike_append (vars_of made_labels) (flat_map occurrences rest) (vars_of now_labels ++ occurrences f) (flat_map occurrences rest) step.labelled.bound (alike_self (flat_map occurrences rest)))
        (alike_same ((vars_of now_labels ++ occurrences f) ++ flat_map occurrences rest) (vars_of now_labels ++ flat_map occurrences (f ∷ rest)) (append_assoc (vars_of now_labels) (occurrences f) (flat_map occurrences rest))))
        so.vars;
    turn = turn_alike rest (vars_of made_labels) (vars_of now_labels ++ occurrences f) step.labelled.bound
        ∙ (and_parts (safe_in_order f (vars_of now_labels)) (in_turn (map as_level rest) (vars_of now_labels ++ occurrences f)) so.turn).1;
    rest_is = λ after last last_labels all.
        so.rest_is after last last_labels (all_step f rest mid.nodes new.nodes after now made last now_labels made_labels last_labels
        (subst (λ rs. Compiled R int_of cell_of consts rs f mid.nodes now now_labels new.nodes made made_labels) so.grown.rels step.compiled)
        step.labelled.bound all);
  }

  -- several at once
  pub so_far_many : (front fs rest : List Formula) (old mid new : State C) (node : ℕ) (labels : List Term) (now : ℕ) (now_labels : List Term) (made : ℕ) (made_labels : List Term)
      → AllSoFar R int_of cell_of consts fs (front ++ rest) old mid node labels now now_labels → AllMade R int_of cell_of consts front mid new now now_labels made made_labels
      → AllSoFar R int_of cell_of consts fs rest old new node labels made made_labels
  so_far_many front fs rest old mid new node labels now now_labels made made_labels so step =
      let turns = turn_parts front rest (vars_of now_labels) so.turn in
      record {
        grown = grown_then old mid new so.grown step.grown;
        few =
            let before = so.few in
            let here = subst (λ rs. length new.nodes + 4 ≤ length mid.nodes + rate rs * total (map size front)) so.grown.rels step.few in
            let both = ap (λ n. rate old.rels * n) (total_both front rest) in
            omega (arith, before, here, both);
        ready = open_after mid new step.grown so.ready;
        placed = step.placed;
        keeps = λ a at. step.labelled.keeps a (so.keeps a at);
        vars = alike_then (vars_of made_labels ++ flat_map occurrences rest) (vars_of now_labels ++ flat_map occurrences (front ++ rest)) (vars_of labels ++ flat_map occurrences fs)
            (alike_then (vars_of made_labels ++ flat_map occurrences rest) ((vars_of now_labels ++ flat_map occurrences front) ++ flat_map occurrences rest) (vars_of now_labels ++ flat_map occurrences (front ++ rest))
            (alike_append (vars_of made_labels) (flat_map occurrences rest) (vars_of now_labels ++ flat_map occurrences front) (flat_map occurrences rest) step.labelled.bound (alike_self (flat_map occurrences rest)))
            (alike_same ((vars_of now_labels ++ flat_map occurrences front) ++ flat_map occurrences rest) (vars_of now_labels ++ flat_map occurrences (front ++ rest))
            (append_assoc (vars_of now_labels) (flat_map occurrences front) (flat_map occurrences rest) ∙ ap (λ xs. vars_of now_labels ++ xs) (sym (flat_map-append occurrences front rest)))))
            so.vars;
        turn = turn_alike rest (vars_of made_labels) (vars_of now_labels ++ flat_map occurrences front) step.labelled.bound ∙ turns.1;
        rest_is = λ after last last_labels all.
            so.rest_is after last last_labels (all_steps front rest mid.nodes new.nodes after now made last now_labels made_labels last_labels
            (subst (λ rs. Compiled R int_of cell_of consts rs (And front) mid.nodes now now_labels new.nodes made made_labels) so.grown.rels step.compiled)
            step.labelled.bound all);
      }
    where
      total_both : (xs ys : List Formula) → total (map size (xs ++ ys)) ≡ total (map size xs) + total (map size ys)
      total_both [] ys = omega arith
      total_both (x ∷ xs) ys = let e = total_both xs ys in omega (arith, e)

  -- the next two at once
  pub so_far_two : (i : ℕ) (fs : List Formula) (old mid new : State C) (node : ℕ) (labels : List Term) (now : ℕ) (now_labels : List Term) (made : ℕ) (made_labels : List Term)
      → AllSoFar R int_of cell_of consts fs (drop i fs) old mid node labels now now_labels → AllMade R int_of cell_of consts (take 2 (drop i fs)) mid new now now_labels made made_labels
      → AllSoFar R int_of cell_of consts fs (drop (i + 2) fs) old new node labels made made_labels
  so_far_two i fs old mid new node labels now now_labels made made_labels so step =
      subst (λ rest. AllSoFar R int_of cell_of consts fs rest old new node labels made made_labels) (drop-drop 2 i fs)
      (so_far_many (take 2 (drop i fs)) fs (drop 2 (drop i fs)) old mid new node labels now now_labels made made_labels
      (subst (λ rest. AllSoFar R int_of cell_of consts fs rest old mid node labels now now_labels) (sym (take-append-drop 2 (drop i fs))) so) step)

  pub so_far_end : (fs : List Formula) (old new : State C) (node : ℕ) (labels : List Term) (now : ℕ) (now_labels : List Term)
      → AllSoFar R int_of cell_of consts fs [] old new node labels now now_labels → Made R int_of cell_of consts (And fs) old new node labels now now_labels
  so_far_end fs old new node labels now now_labels so = record {
    grown = so.grown;
    few = let all = so.few in let enough = rate_enough old.rels in let whole = ap (λ n. rate old.rels * n) (size_and fs) in omega (arith, all, enough, whole);
    placed = so.placed;
    labelled = record {
      keeps = so.keeps;
      bound = alike_then (vars_of now_labels) (vars_of labels ++ flat_map occurrences fs) (vars_of labels ++ occurrences (And fs))
          (alike_then (vars_of now_labels) (vars_of now_labels ++ []) (vars_of labels ++ flat_map occurrences fs) (alike_same (vars_of now_labels) (vars_of now_labels ++ []) (sym (append_none (vars_of now_labels)))) so.vars)
          (alike_same (vars_of labels ++ flat_map occurrences fs) (vars_of labels ++ occurrences (And fs)) (ap (λ xs. vars_of labels ++ xs) (sym (occurrences_and fs))));
    };
    compiled = and_compiled fs old.nodes new.nodes node now labels now_labels (so.rest_is new.nodes now now_labels (all_none new.nodes now now_labels));
  }
    where
      append_none : (xs : List Var) → xs ++ [] ≡ xs
      append_none [] = refl
      append_none (x ∷ xs) = ap (λ ys. x ∷ ys) (append_none xs)
