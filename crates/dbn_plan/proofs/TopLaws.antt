-- From the rows of a compiled formula to its answers.
use Rattle.std.proofs.Common.{◌≡◌, ◌<◌, ◌+◌, ◌*◌, ◌≤◌, ℕ, zero, suc, ℤ, inl, inr, ⊎_elim, Bool, true, false, not, ◌&&◌, ◌||◌, List, [], ◌∷◌, ◌++◌, map, refl, ap, sym, ◌∙◌, subst, Option, Some, None, length, arith}
use Rattle.std.specs.Prelude.{slice_get, slice_index_or}
use Rattle.std.specs.declared.cmp.Ordering.{Ordering}
use Rattle.std.specs.List.{list_all, filter, flat_map}
use Rattle.std.specs.BTreeMap.{is_at, get}
use Rattle.std.specs.BTreeMap.{BTreeMap}
use Rattle.std.specs.Option.{unwrap_or}
use Rattle.std.specs.Cmp.{Equal-is}
use Rattle.std.specs.FinMap.{nat_cmp-IsAntisymmetric}
use Rattle.std.specs.Map.{lookup as lookup_in}
use Rattle.std.specs.Ordering.{nat_cmp}
use Rattle.dbn_value.specs.Members.{In}
use Rattle.dbn_value.specs.Coding.{Extends, IsCoding}
use Rattle.dbn_value.proofs.MemberLaws.{all_at, in_append, append_right, in_filter, filter_in, in_flat, at_in, in_map, map_in}
use Rattle.dbn_value.proofs.AscendingLaws.{in_ascending, ascending_in}
use Rattle.dbn_value.specs.Order.{value_cmp, value_type, value_total, exact_values}
use Rattle.dbn_value.specs.declared.value.Value.{Value}
use Rattle.dbn_value.specs.declared.value.ColType.{ColType}
use Rattle.dbn_value.specs.declared.term.Var.{Var}
use Rattle.dbn_value.specs.declared.term.Term.{Term}
use Rattle.dbn_value.specs.declared.term.Term.TheVariants as term
use Rattle.dbn_formula.specs.Variables.{TypedVars, type_eq, binds}
use Rattle.dbn_formula.specs.Holds.{Env, Instance, lookup, value_of, holds_over}
use Rattle.dbn_formula.specs.Free.{occurrences}
use Rattle.dbn_formula.specs.Answers.{constants, domain, values_in, answers}
use Rattle.dbn_formula.specs.Typing.{Shapes, arity_fits, types_fit, all_bound}
use Rattle.dbn_formula.specs.Solutions.{solvable, HasShape, HasShapes, AcceptsQuery}
use Rattle.dbn_formula.specs.declared.formula.Formula.{Formula}
use Rattle.dbn_formula.proofs.SolutionLaws.{rows_in, solvable_free, solvable_constants, is_ready, answer_holds, holds_answer}
use Rattle.dbn_formula.proofs.ArityKept.{solvable_arity}
use Rattle.dbn_formula.proofs.SizeKept.{solvable_small}
use Rattle.dbn_formula.proofs.NoFault.{no_fault}
use Rattle.dbn_formula.specs.Size.{size}
use Rattle.std.proofs.Math.Nat.{mul-le-mul_left}
use Rattle.dbn_formula.proofs.VariableLaws.{type_same, type_itself, in_bound}
use Rattle.dbn_network.specs.Values.{val}
use Rattle.dbn_plan.specs.Meaning.{Holds, Means, LooksAt, vars_of}
use Rattle.dbn_plan.specs.Compiled.{World, Stands, Fit}
use Rattle.dbn_plan.specs.declared.sources.Sources.{Sources}
use Rattle.dbn_plan.specs.Answering.{SameRows, var_labels, AnswersAt, Ends, Planned, Says, Rooted, Finished, IsWhole}
use Rattle.dbn_plan.specs.Columns.{HaveCells}
use Rattle.dbn_plan.specs.Making.{IsOpen, Grown, Placed, Made, Selected, Joined, ScanMade, RoomMade, IsReady, IsProjection, Sourced, AreSources, AreScans, ScansMade, columns, rate}
use Rattle.dbn_plan.proofs.NodeLaws.{unit_means}
use Rattle.dbn_plan.proofs.MadeLaws.{var_label}
use Rattle.dbn_plan.proofs.RoomLaws.{unit_placed}
use Rattle.dbn_plan.proofs.StepsMade.{selected_none, joined_unit, shown_same}
use Rattle.dbn_plan.proofs.AtomMade.{scan_found, scan_placed, atom_arity, atom_made}
use Rattle.dbn_network.specs.Holding.{IsDirect}
use Rattle.dbn_nodes.specs.Answering.{IsCounted}
use Rattle.dbn_plan.proofs.FormulaLaws.{stands_inside, some_fit, some_shown}
use Rattle.dbn_formula.specs.declared.formula.Formula.TheVariants.{Atom, Exists}
use Rattle.dbn_formula.specs.Variables.{is_in}
use Rattle.dbn_formula.specs.Free.{variable_of}
use Rattle.dbn_formula.specs.Solve.{is_empty}
use Rattle.dbn_formula.specs.Typing.{entered}
use Rattle.dbn_formula.proofs.FreeLaws.{occurrences_exists}
use Rattle.dbn_formula.proofs.SizeLaws.{size_exists}
use Rattle.dbn_formula.proofs.VariableLaws.{in_unhidden}
use Rattle.std.proofs.Common.{max, cond}
use Rattle.dbn_plan.proofs.FormsReady.{exists_ready}
use Rattle.dbn_plan.proofs.StepLaws.{grown_none, grown_then, grown_at, one_more_node, rate_enough}
use Rattle.dbn_formula.specs.Safe.{safe_in_order}
use Rattle.dbn_formula.specs.Apart.{renamed}
use Rattle.dbn_formula.specs.Normal.{normal}
use Rattle.dbn_formula.proofs.Arranged.{arranged_in_order}
use Rattle.dbn_formula.proofs.RenameApart.{renamed_apart}
use Rattle.dbn_network.specs.States.{State, Fits, with_node}
use Rattle.dbn_nodes.specs.declared.node.Node.TheVariants as node
use Rattle.dbn_plan.proofs.Places.{val_unit, get_or_there, there_small, there_last, there_stays}

-- ---- what an accepted query is

module _ (rels : Shapes) (vars : TypedVars) (f : Formula) (accepted : AcceptsQuery rels vars f) where
  sound_types : (arity_fits rels f ≡ true) × (types_fit rels f vars ≡ true) × (all_bound f vars ≡ true)
  sound_types = no_fault rels f vars accepted.typed

  -- the formula as it is solved is ready behind the unit
  pub query_fit : (db : Instance) → HasShapes rels db → Fit (constants (solvable f)) rels (solvable f) vars []
  query_fit db fits =
      let ready = is_ready rels vars f db fits sound_types.1 sound_types.2 accepted.is_safe in
      record { safe_here = ready.safe_here; typed = ready.typed; once = ready.once; scoped = ready.scoped; written = λ v at. at }

  pub query_ready : {C : Type 0} (cell_of : Value → Option C) (form : Formula) → form ≡ solvable f → HaveCells cell_of (constants form) → IsReady cell_of rels [] form
  query_ready cell_of form e cells = record {
    safe = subst (λ g. safe_in_order g [] ≡ true) (sym e) (arranged_in_order (renamed (normal f)) [] accepted.is_safe (renamed_apart (normal f)));
    arity = subst (λ g. arity_fits rels g ≡ true) (sym e) (solvable_arity rels f ∙ sound_types.0);
    cells = cells;
  }

  -- each variable of the query occurs
  pub query_occurs : (form : Formula) → form ≡ solvable f → (x : Var) → binds vars x ≡ true → In x (occurrences form)
  query_occurs form e x b = subst (λ g. In x (occurrences g)) (sym e) ((solvable_free f).back x (accepted.all_free x b))

  -- and each variable that occurs is one of the query
  pub query_bound : (form : Formula) → form ≡ solvable f → (x : Var) → In x (occurrences form) → binds vars x ≡ true
  query_bound form e x at = all_at (binds vars) x (occurrences f) sound_types.2 ((solvable_free f).there x (subst (λ g. In x (occurrences g)) e at))

-- ---- the world of an instance

type_in_shape : (row : List Value) (shape : List ColType) (v : Value) → HasShape row shape → In v row → In (value_type v) shape
type_in_shape row shape v fits at = subst (In (value_type v)) fits (map_in value_type v row at)

index_or : (db : Instance) (i : ℕ) (rows : List (List Value)) → slice_get db i ≡ Some rows → slice_index_or db i [] ≡ rows
index_or [] i rows e = cc
index_or (x ∷ db) zero rows e = ap (λ o. unwrap o) e
  where
    unwrap : Option (List (List Value)) → List (List Value)
    unwrap None = []
    unwrap (Some y) = y
index_or (x ∷ db) (suc i) rows e = index_or db i rows e

module _ {C : Type 0} {R : C → C → Ordering} {int_of : C → Option ℤ} where
  pub world_of : (cell_of K : Value → Option C) (feeds : List (List (List C))) (db : Instance) (rels : Shapes) (f : Formula) → Extends cell_of K → IsCoding R int_of K → Holds K (length rels) feeds db
      → HasShapes rels db → World R int_of cell_of (constants (solvable f)) rels
  world_of cell_of K feeds db rels f later coding holds fits = record {
    K = K;
    feeds = feeds;
    db = db;
    dom = domain f db;
    later = later;
    coding = coding;
    holds = holds;
    rows = rows_in f rels db fits;
    consts_in = record {
      each = λ v at.
          ascending_in value_total exact_values v (filter (λ w. type_eq (value_type w) (value_type v)) (values_in db ++ constants f))
          (filter_in (λ w. type_eq (value_type w) (value_type v)) v (values_in db ++ constants f) (append_right v (values_in db) (constants f) ((solvable_constants f).there v at)) (type_itself (value_type v)));
    };
    typed = λ type v at. type_same (value_type v) type (in_filter (λ w. type_eq (value_type w) type) v (values_in db ++ constants f) (in_ascending value_cmp v (filter (λ w. type_eq (value_type w) type) (values_in db ++ constants f)) at)).1;
    filled = λ type v at.
        let found = in_filter (λ w. type_eq (value_type w) type) v (values_in db ++ constants f) (in_ascending value_cmp v (filter (λ w. type_eq (value_type w) type) (values_in db ++ constants f)) at) in
        let is : value_type v ≡ type = type_same (value_type v) type found.1 in
        ⊎_elim
        (λ there.
        let rows = in_flat (λ rs. flat_map (λ r. r) rs) v db there in
        let row = in_flat (λ r. r) v rows.0 rows.2 in
        let place = at_in db rows.0 rows.1 in
        let at_rel : In row.0 (slice_index_or db place.0 []) = subst (In row.0) (sym (index_or db place.0 rows.0 place.1)) row.1 in
        inr (place.0, (holds.there place.0 row.0 at_rel).0, subst (λ ty. In ty (slice_index_or rels place.0 [])) is (type_in_shape row.0 (slice_index_or rels place.0 []) v (fits.each place.0 row.0 at_rel) row.2), row.0, at_rel))
        (λ written. inl (v, (solvable_constants f).back v written, is))
        (in_append v (values_in db) (constants f) found.0);
  }

module _ {C : Type 0} where
  row_of : (K : Value → Option C) (vars : TypedVars) (t : Env) → map (λ a. K (value_of t a)) (var_labels vars) ≡ map K (map (λ x. lookup t x.0) vars)
  row_of K [] t = refl
  row_of K (x ∷ vars) t = ap (λ os. K (lookup t x.0) ∷ os) (row_of K vars t)

  pub answers_are : (K : Value → Option C) (rels : Shapes) (vars : TypedVars) (f : Formula) (db : Instance) (rows : List (List C)) → AcceptsQuery rels vars f → HasShapes rels db
      → Means K rows (var_labels vars) (holds_over (domain f db) db (solvable f)) → SameRows K rows (answers f vars db)
  answers_are K rels vars f db rows accepted fits means = record {
    there = λ row at.
        let found = answer_holds rels vars f db accepted fits row at in
        let cells = means.all found.0 found.1 in
        (cells.0, ap (map K) found.2 ∙ sym (row_of K vars found.0) ∙ cells.1, cells.2);
    back = λ r at.
        let found = means.each r at in
        (map (λ x. lookup found.0 x.0) vars, sym (row_of K vars found.0) ∙ found.1, holds_answer rels vars f db accepted fits found.0 found.2);
  }

-- ---- the columns of the query

-- their variables occur
pub wanted_occurs : (vars : TypedVars) (form : Formula) (wanted : List Term) → ((x : Var) → binds vars x ≡ true → In x (occurrences form)) → wanted ≡ var_labels vars → (x : Var) → In x (vars_of wanted) → In x (occurrences form)
wanted_occurs vars form wanted occurring e x here =
    let found = in_flat variable_of x (var_labels vars) (subst (λ ls. In x (vars_of ls)) e here) in
    let named = in_map (λ (y : Var × ColType). term.Var y.0) found.0 vars found.1 in
    ⊎_elim (λ is. occurring x (subst (λ z. binds vars z ≡ true) (sym is) (in_bound vars named.0 named.1))) (λ none. absurd none) (subst (λ a. In x (variable_of a)) named.2 found.2)

module _ {C : Type 0} {R : C → C → Ordering} {int_of : C → Option ℤ} (cell_of : Value → Option C) where
  pub planned_answers : (rels : Shapes) (vars : TypedVars) (f form : Formula) (old new : State C) (node : ℕ) → AcceptsQuery rels vars f → rels ≡ old.rels → form ≡ solvable f
      → Planned R int_of cell_of form vars old new node → AnswersAt R int_of cell_of new.rels f vars new.nodes node
  unfolding world_of
  planned_answers rels vars f form old new node accepted e_rels e_form planned K feeds db later coding holds fits =
      let same : new.rels ≡ rels = planned.grown.rels ∙ sym e_rels in
      let holds_here : Holds K (length rels) feeds db = subst (λ rs. Holds K (length rs) feeds db) same holds in
      let fits_here : HasShapes rels db = subst (λ rs. HasShapes rs db) same fits in
      let w : World R int_of cell_of (constants (solvable f)) rels = world_of cell_of K feeds db rels f later coding holds_here fits_here in
      answers_are K rels vars f db (val R node new.nodes feeds) accepted fits_here
      ((subst (λ rs. (v : World R int_of cell_of (constants (solvable f)) rs) → Fit (constants (solvable f)) rs (solvable f) vars [] → Means v.K (val R node new.nodes v.feeds) (var_labels vars) (holds_over v.dom v.db (solvable f))) (sym e_rels)
      (subst (λ g. (v : World R int_of cell_of (constants g) old.rels) → Fit (constants g) old.rels g vars [] → Means v.K (val R node new.nodes v.feeds) (var_labels vars) (holds_over v.dom v.db g)) e_form planned.means))
      w (query_fit rels vars f accepted db fits_here))

  -- behind the unit, and then the query's variables in their order
  pub planned_made : (form : Formula) (vars : TypedVars) (consts : List Value) (old start new : State C) (sources : Sources) (wanted : List Term) (node : ℕ) → consts ≡ constants form → sources.consts ≡ consts
      → ((x : Var) → binds vars x ≡ true → In x (occurrences form))
      → Sourced old start sources (size form) → wanted ≡ var_labels vars → Finished R int_of cell_of sources.consts form vars start new node wanted
      → Planned R int_of cell_of form vars old new node
  planned_made form vars consts old start new sources wanted node e_consts e_sources occurring first e_wanted done = record {
    grown = grown_then old start new first.grown (grown_then start done.mid new done.rooted.grown done.shown.grown);
    few =
        let a = first.few in
        let b = subst (λ rs. length done.mid.nodes + 2 ≤ length start.nodes + rate rs * size form) first.grown.rels done.rooted.few in
        let c = done.shown.few in
        omega (arith, a, b, c);
    ends = done.ends;
    means = λ w fit.
        let says : Says w.K (val R done.inner done.mid.nodes w.feeds) done.inner_labels (λ t. holds_over w.dom w.db form t) (occurrences form) =
        (subst (λ rs. (v : World R int_of cell_of (constants form) rs) (scope : TypedVars) → Fit (constants form) rs form scope [] → Says v.K (val R done.inner done.mid.nodes v.feeds) done.inner_labels (λ t. holds_over v.dom v.db form t) (occurrences form)) first.grown.rels
        (subst (λ vs. (v : World R int_of cell_of vs start.rels) (scope : TypedVars) → Fit vs start.rels form scope [] → Says v.K (val R done.inner done.mid.nodes v.feeds) done.inner_labels (λ t. holds_over v.dom v.db form t) (occurrences form)) (e_sources ∙ e_consts) done.rooted.says))
        w vars fit in
        subst (λ ls. Means w.K (val R node new.nodes w.feeds) ls (λ t. holds_over w.dom w.db form t)) e_wanted
        (done.shown.means w.K w.feeds says.passes (λ t. holds_over w.dom w.db form t) w.coding says.means says.there
        (λ t e. let from = says.back t e in (from.0, (λ x here. from.1 x (wanted_occurs vars form wanted occurring e_wanted x here)), from.2)));
  }

  -- the unit stands for every environment
  pub unit_stands : (consts : List Value) (s : State C) (sources : Sources) (i : ℕ) (labels : List Term) (scope : TypedVars) → AreSources s sources → i ≡ sources.unit → labels ≡ []
      → (w : World R int_of cell_of consts s.rels) → Stands R int_of w s.nodes i labels scope (λ t. true)
  unit_stands consts s sources i labels scope are e_i e_labels w =
      let unit : slice_get s.nodes i ≡ Some node.Unit = subst (λ k. slice_get s.nodes k ≡ Some node.Unit) (sym e_i) are.unit in
      subst (λ ls. Stands R int_of w s.nodes i ls scope (λ t. true)) (sym e_labels)
      (record {
        means = subst (λ rs. Means w.K rs [] (λ t. true)) (sym (val_unit R w.feeds s.nodes i unit)) (unit_means w.coding.total w.coding.exact w.K w.coding.one);
        looks = λ t u agree. refl;
        valued = λ t e. record { each = λ x here. absurd here };
      })

  pub rooted_plain : (consts : List Value) (form : Formula) (old new : State C) (sources : Sources) (i : ℕ) (labels : List Term) (made : ℕ) (made_labels : List Term) → AreSources old sources → i ≡ sources.unit → labels ≡ []
      → Made R int_of cell_of consts form old new i labels made made_labels → Rooted R int_of cell_of consts form old new made made_labels
  rooted_plain consts form old new sources i labels made made_labels are e_i e_labels step = record {
    grown = step.grown;
    few = let a = step.few in omega (arith, a);
    placed = step.placed;
    columns = λ x at. step.labelled.bound.back x (append_right x (vars_of labels) (occurrences form) at);
    says = λ w scope fit.
        let inside = step.compiled w scope (λ t. true) (subst (λ ls. Fit consts old.rels form scope (vars_of ls)) (sym e_labels) fit) (unit_stands consts old sources i labels scope are e_i e_labels w) in
        record { passes = λ t. true && holds_over w.dom w.db form t; means = inside.means; there = λ t e. e; back = λ t e. (t, (λ x at. refl), e) };
  }

  pub rooted_choice : (consts : List Value) (vars : TypedVars) (f : Formula) (old mid new : State C) (sources : Sources) (i : ℕ) (labels : List Term) (inner : ℕ) (inner_labels : List Term) (full : ℕ) → AreSources old sources → i ≡ sources.unit → labels ≡ []
      → Made R int_of cell_of consts f old mid i labels inner inner_labels → RoomMade R int_of cell_of consts vars f mid new inner inner_labels full
      → Rooted R int_of cell_of consts (Exists vars f) old new full inner_labels
  rooted_choice consts vars f old mid new sources i labels inner inner_labels full are e_i e_labels step room = record {
    grown = grown_then old mid new step.grown room.grown;
    few =
        let first = step.few in
        let second = subst (λ rs. length new.nodes + 10 * length vars ≤ length mid.nodes + rate rs * length vars) step.grown.rels room.few in
        root_count (rate old.rels) (length old.nodes) (length mid.nodes) (length new.nodes) (length vars) (size f) (size (Exists vars f)) (rate_enough old.rels) first second (size_exists vars f);
    placed = room.placed;
    columns = λ x at. step.labelled.bound.back x (append_right x (vars_of labels) (occurrences f) (in_unhidden vars x (occurrences f) (subst (In x) (occurrences_exists vars f) at)).0);
    says = λ w scope fit.
        let p : Env → Bool = λ t. true in
        let fit_here : Fit consts old.rels (Exists vars f) scope (vars_of labels) = subst (λ ls. Fit consts old.rels (Exists vars f) scope (vars_of ls)) (sym e_labels) fit in
        let fits = some_fit w vars f scope (vars_of labels) fit_here in
        let s = unit_stands consts old sources i labels scope are e_i e_labels w in
        let inside = step.compiled w (entered vars scope) p fits.0 (stands_inside w vars scope old.nodes i labels p fits.1 s) in
        let full_rows =
        (subst (λ rs. (v : World R int_of cell_of consts rs) (q : Env → Bool) → LooksAt (vars_of inner_labels) q → Means v.K (val R inner mid.nodes v.feeds) inner_labels q
        → Means v.K (val R full new.nodes v.feeds) inner_labels (λ t. q t && list_all (λ y. is_in y.0 (occurrences f) || not (is_empty (v.dom y.1))) vars)) step.grown.rels room.means)
        w (λ t. p t && holds_over w.dom w.db f t) inside.looks inside.means in
        let ways = some_shown w vars scope f old.nodes mid.nodes i inner labels inner_labels (map (λ x. term.Var x) (occurrences (Exists vars f))) p fit_here s inside (λ x here. step.labelled.bound.back x (append_right x (vars_of labels) (occurrences f) here))
        (λ x here. (in_unhidden vars x (occurrences f) (subst (In x) (occurrences_exists vars f) (subst (In x) (vars_named (occurrences (Exists vars f))) here))).1) in
        record {
          passes = λ t. (p t && holds_over w.dom w.db f t) && list_all (λ y. is_in y.0 (occurrences f) || not (is_empty (w.dom y.1))) vars;
          means = full_rows;
          there = ways.0;
          back = λ t e. let from = ways.1 t e in (from.0, (λ x at. from.1 x (subst (In x) (sym (vars_named (occurrences (Exists vars f)))) at)), from.2);
        };
  }
    where
      vars_named : (xs : List Var) → vars_of (map (λ x. term.Var x) xs) ≡ xs
      vars_named [] = refl
      vars_named (x ∷ xs) = ap (λ ys. x ∷ ys) (vars_named xs)

      root_count : (r old mid new k s whole : ℕ) → 12 ≤ r → mid + 4 ≤ old + r * s → new + 10 * k ≤ mid + r * k → whole ≡ max 1 k + s → new + 2 ≤ old + r * whole
      root_count r old mid new zero s whole enough a b e =
          let most : max 1 0 ≡ 1 = omega arith in
          let is : r * whole ≡ r * (1 + s) = ap (λ n. r * n) (e ∙ ap (λ n. n + s) most) in
          omega (arith, enough, a, b, is)
      root_count r old mid new (suc k) s whole enough a b e =
          let most : max 1 (suc k) ≡ suc k = omega arith in
          let is : r * whole ≡ r * (suc k + s) = ap (λ n. r * n) (e ∙ ap (λ n. n + s) most) in
          omega (arith, enough, a, b, is)

-- the columns of the query's variables are there
pub query_columns : (vars : TypedVars) (form : Formula) (made_labels wanted : List Term) → ((x : Var) → binds vars x ≡ true → In x (occurrences form)) → ((x : Var) → In x (occurrences form) → In x (vars_of made_labels)) → wanted ≡ var_labels vars
    → (a : Term) → In a wanted → In a made_labels
query_columns vars form made_labels wanted occurring own e a at =
    let found = in_map (λ (x : Var × ColType). term.Var x.0) a vars (subst (In a) e at) in
    let x : Var × ColType = found.0 in
    subst (λ b. In b made_labels) (sym found.2) (var_label made_labels x.0 (own x.0 (occurring x.0 (in_bound vars x found.1))))

pub projection_ends : {C : Type 0} (s : State C) (vars : TypedVars) (i : ℕ) → IsProjection s i → Ends s vars i
projection_ends s vars i (from, cols, is) = record {
  there = there_small s.nodes i (node.Project from cols) is;
  direct = λ d. subst IsDirect (sym (get_or_there s.nodes i (node.Project from cols) d is)) tt;
  counted = λ none d. subst IsCounted (sym (get_or_there s.nodes i (node.Project from cols) d is)) tt;
}

scan_ends : {C : Type 0} (s : State C) (vars : TypedVars) (wanted : List Term) (i rel : ℕ) → slice_get s.nodes i ≡ Some (node.Scan rel) → wanted ≡ var_labels vars → (wanted ≡ [] → ⊥) → Ends s vars i
scan_ends s vars wanted i rel is e_wanted some = record {
  there = there_small s.nodes i (node.Scan rel) is;
  direct = λ d. subst IsDirect (sym (get_or_there s.nodes i (node.Scan rel) d is)) tt;
  counted = λ none d. absurd (some (e_wanted ∙ ap var_labels none));
}

-- the scan of a relation is a query of just its columns
module _ {C : Type 0} {R : C → C → Ordering} {int_of : C → Option ℤ} (cell_of : Value → Option C) where
  pub scan_finished : (consts : List Value) (form : Formula) (vars : TypedVars) (rel : ℕ) (terms wanted : List Term) (s : State C) (sources : Sources) (i : ℕ) → form ≡ Atom rel terms → IsOpen s → AreSources s sources → rel < length s.rels
      → IsReady cell_of s.rels [] form → IsWhole cell_of terms wanted → get nat_cmp sources.scans rel ≡ Some i → wanted ≡ var_labels vars → Finished R int_of cell_of consts form vars s s i wanted
  scan_finished consts form vars rel terms wanted s sources i e_form ready are h can whole at e_wanted =
      let scan : ScanMade s s rel i = scan_found s sources rel i are at in
      let can_atom : IsReady cell_of s.rels [] (Atom rel terms) = subst (IsReady cell_of s.rels []) e_form can in
      let unit : Placed s sources.unit [] = unit_placed s sources sources.unit [] are refl refl in
      let placed : Placed s i terms = scan_placed s s rel terms i ready h (atom_arity s.rels rel terms can_atom.arity) scan in
      let none : Selected R s s i [] i = selected_none R s i [] refl in
      let alone : Joined R int_of s s sources.unit [] i terms i terms = joined_unit R int_of s sources sources.unit [] i terms terms are refl unit placed refl in
      let made : Made R int_of cell_of consts (Atom rel terms) s s sources.unit [] i terms = atom_made rel terms s s s s sources.unit [] [] i i i terms ready unit h can_atom scan (sym whole.plain) none alone in
      let rooted : Rooted R int_of cell_of consts (Atom rel terms) s s i terms = rooted_plain cell_of consts (Atom rel terms) s s sources sources.unit [] i terms are refl refl made in
      record {
        mid = s;
        inner = i;
        inner_labels = terms;
        rooted = subst (λ f. Rooted R int_of cell_of consts f s s i terms) (sym e_form) rooted;
        shown = shown_same R int_of s i terms wanted placed whole.same;
        ends = scan_ends s vars wanted i rel scan.is e_wanted whole.some;
      }

rate_is : (rels : Shapes) → rate rels ≡ 3 * columns rels + 12
unfolding rate
rate_is rels = refl

-- the bound in the size of the formula as it is written
pub few_nodes : (rels : Shapes) (f form : Formula) (old new : ℕ) → form ≡ solvable f → new ≤ old + rate rels * size form + size form → new ≤ old + 64 * (size f + 1) * (size f + columns rels + 1)
few_nodes rels f form old new e few =
    let three : size form ≤ 3 * size f = subst (λ g. size g ≤ 3 * size f) (sym e) (solvable_small f) in
    let more : rate rels * size form ≤ rate rels * (3 * size f) = mul-le-mul_left (rate rels) three in
    let is : rate rels * (3 * size f) ≡ (3 * columns rels + 12) * (3 * size f) = ap (λ n. n * (3 * size f)) (rate_is rels) in
    counted (columns rels) (size f) old new (rate rels * size form) (rate rels * (3 * size f)) (size form) few more is three
  where
    counted : (c z old new a b s : ℕ) → new ≤ old + a + s → a ≤ b → b ≡ (3 * c + 12) * (3 * z) → s ≤ 3 * z → new ≤ old + 64 * (z + 1) * (z + c + 1)
    counted c z old new a b s p q r m = omega (arith, p, q, r, m)

-- ---- scans

pub unit_fits : {C : Type 0} (s : State C) → Fits s node.Unit
unit_fits s = record { left = tt; right = tt; names = tt }

pub no_scans : {C : Type 0} (s : State C) (scans : BTreeMap ℕ ℕ) → scans.entries ≡ [] → AreScans s scans
no_scans s scans e_scans rel i e = absurd (none_some i (sym (ap (λ es. lookup_in (is_at (nat_cmp rel)) es) e_scans) ∙ e))
  where
    none_some : (i : ℕ) → ◌≡◌ {A = Option ℕ} None (Some i) → ⊥
    none_some i e = cc

pub scans_stay : {C : Type 0} (a b : State C) (scans : BTreeMap ℕ ℕ) → Grown a b → AreScans a scans → AreScans b scans
scans_stay a b scans grown are rel i e = subst (λ ns. slice_get ns i ≡ Some (node.Scan rel)) (sym grown.nodes) (there_stays a.nodes grown.more i (node.Scan rel) (are rel i e))

pub scan_more : {C : Type 0} (old new : State C) (scans more : BTreeMap ℕ ℕ) (rel made : ℕ) → AreScans old scans → new ≡ with_node old (node.Scan rel) → made ≡ length old.nodes
    → ((q : ℕ) → get nat_cmp more q ≡ cond (is_at (nat_cmp rel) q) (Some made) (get nat_cmp scans q)) → ScansMade old new more 1
scan_more old new scans more rel made are e_new e_made updates = record {
  grown = grown_at old new (node.Scan rel) e_new;
  few = one_more_node old new (node.Scan rel) e_new;
  are = λ q i e.
      elim (is_at (nat_cmp rel) q) as (λ b. is_at (nat_cmp rel) q ≡ b → cond b (Some made) (get nat_cmp scans q) ≡ Some i → slice_get new.nodes i ≡ Some (node.Scan q)) [
        | true ↦ λ at f.
            let same : rel ≡ q = nat_cmp-IsAntisymmetric rel q ((Equal-is (nat_cmp rel q)).0 at) in
            let is : made ≡ i = ap (λ o. unwrap_or o made) f in
            subst (λ k. slice_get new.nodes k ≡ Some (node.Scan q)) is
            (subst (λ r. slice_get new.nodes made ≡ Some (node.Scan r)) same
            (ap (λ k. slice_get new.nodes k) e_made ∙ ap (λ s. slice_get s.nodes (length old.nodes)) e_new ∙ there_last old.nodes (node.Scan rel)))
        | false ↦ λ at f. scans_stay old new scans (grown_at old new (node.Scan rel) e_new) are q i f
      ] refl (sym (updates q) ∙ e);
}

pub scans_none : {C : Type 0} (s : State C) (scans : BTreeMap ℕ ℕ) (n : ℕ) → AreScans s scans → ScansMade s s scans n
scans_none s scans n are = record { grown = grown_none s; few = omega arith; are = are }

pub scans_then : {C : Type 0} (a b c : State C) (first second : BTreeMap ℕ ℕ) (n : ℕ) → ScansMade a b first n → ScansMade b c second 1 → ScansMade a c second (n + 1)
scans_then a b c first second n one two = record {
  grown = grown_then a b c one.grown two.grown;
  few = let p = one.few in let q = two.few in omega (arith, p, q);
  are = two.are;
}

-- the unit, and the scans behind it
pub sourced_made : {C : Type 0} (old one new : State C) (sources : Sources) (rels n : ℕ) → one ≡ with_node old node.Unit → sources.unit ≡ length old.nodes → rels ≤ n → ScansMade one new sources.scans rels → Sourced old new sources n
sourced_made old one new sources rels n e_one e_unit small scans = record {
  grown = grown_then old one new (grown_at old one node.Unit e_one) scans.grown;
  few = let p = one_more_node old one node.Unit e_one in let q = scans.few in omega (arith, p, q, small);
  are = record {
    unit =
        subst (λ ns. slice_get ns sources.unit ≡ Some node.Unit) (sym scans.grown.nodes)
        (there_stays one.nodes scans.grown.more sources.unit node.Unit (ap (λ k. slice_get one.nodes k) e_unit ∙ ap (λ s. slice_get s.nodes (length old.nodes)) e_one ∙ there_last old.nodes node.Unit));
    scans = scans.are;
  };
}

-- ---- cells for what is written

module _ {C : Type 0} where
  pub no_cells : (K : Value → Option C) (values : List Value) → values ≡ [] → HaveCells K values
  no_cells K values e v at = absurd (subst (In v) e at)

  pub one_more_cell : (old mid new : Value → Option C) (before more : List Value) (v : Value) (c : C) → more ≡ before ++ v ∷ [] → Extends old mid × HaveCells mid before → Extends mid new → new v ≡ Some c
      → Extends old new × HaveCells new more
  one_more_cell old mid new before more v c e so grows is = (
    λ u d at. grows u d (so.0 u d at),
    λ u at.
        ⊎_elim (λ here. let found = so.1 u here in (found.0, grows u found.0 found.1))
        (λ there. ⊎_elim (λ same. (c, ap new same ∙ is)) (λ none. absurd none) there)
        (in_append u before (v ∷ []) (subst (In u) e at)),
  )

-- ---- behind the unit

module _ {C : Type 0} (cell_of : Value → Option C) (rels : Shapes) where
  pub root_ready : (form : Formula) (labels : List Term) → labels ≡ [] → IsReady cell_of rels [] form → IsReady cell_of rels (vars_of labels) form
  root_ready form labels e ready = subst (λ ls. IsReady cell_of rels (vars_of ls) form) (sym e) ready

  pub body_ready : (form : Formula) (vars : TypedVars) (body : Formula) (labels : List Term) → form ≡ Exists vars body → labels ≡ [] → IsReady cell_of rels [] form → IsReady cell_of rels (vars_of labels) body
  body_ready form vars body labels e_form e ready = root_ready body labels e (exists_ready cell_of rels [] vars body (subst (IsReady cell_of rels []) e_form ready))
