-- The rows of a relation that pass the tests of an atom are those that the atom names.
use Rattle.std.proofs.Common.{◌≡◌, ◌<◌, ℕ, zero, suc, inl, inr, Bool, true, false, cond, ◌||◌, List, [], ◌∷◌, ◌++◌, map, refl, ap, sym, ◌∙◌, subst, Option, Some, None, length, arith}
use Rattle.std.specs.Prelude.{slice_get, slice_index_or}
use Rattle.std.specs.Option.{option_map}
use Rattle.std.specs.declared.cmp.Ordering.{Ordering}
use Rattle.std.specs.Ordering.{is_eq}
use Rattle.std.specs.Cmp.{IsTotalOrder, Equal-is, tied_itself}
use Rattle.std.specs.FinMap.{IsAntisymmetric}
use Rattle.std.specs.List.{list_all, filter, flat_map}
use Rattle.std.proofs.lemmas.Bool.{true≢false, and_parts, and_from}
use Rattle.std.proofs.lemmas.List.{append_assoc}
use Rattle.dbn_value.specs.Members.{In}
use Rattle.dbn_value.proofs.MemberLaws.{any_in, in_any, in_filter, filter_in}
use Rattle.dbn_value.specs.Order.{rows_total, exact_rows, row_cmp}
use Rattle.dbn_value.specs.declared.value.Value.{Value}
use Rattle.dbn_value.specs.declared.term.Var.{Var}
use Rattle.dbn_value.specs.declared.term.Term.{Term}
use Rattle.dbn_value.specs.declared.term.Term.TheVariants as term
use Rattle.dbn_value.specs.declared.term.Cmp.TheVariants as cmp
use Rattle.dbn_formula.specs.Variables.{var_eq, is_in}
use Rattle.dbn_formula.specs.Holds.{Env, Instance, Domain, lookup, value_of, row_eq, holds_over}
use Rattle.dbn_formula.specs.Answers.{constant_of}
use Rattle.dbn_formula.specs.declared.formula.Formula.TheVariants.{Atom}
use Rattle.dbn_formula.proofs.HoldsLaws.{holds_atom}
use Rattle.dbn_formula.proofs.VariableLaws.{var_same, var_itself, is_of_in}
use Rattle.dbn_nodes.specs.Values.{passes, cells_meet}
use Rattle.dbn_nodes.specs.declared.node.ColTest.{ColTest}
use Rattle.dbn_plan.specs.Meaning.{Gives, IsRowOf, Means, Holds, vars_of}
pub use Rattle.dbn_plan.specs.Columns.{HaveCells}
use Rattle.dbn_plan.specs.Columns.{position, constant_test, repeat_test, tests_after}
use Rattle.dbn_plan.proofs.Rows.{some-injective, gives_alike, gives_both, cell_at, rows_one}
use Rattle.dbn_plan.proofs.NodeLaws.{entry_agrees}

-- ---- positions

mapped_some : (o : Option ℕ) (j : ℕ) → option_map (λ i. suc i) o ≡ Some j → (i : ℕ) × (o ≡ Some i) × (suc i ≡ j)
mapped_some None j e = cc
mapped_some (Some i) j e = (i, refl, some-injective (suc i) j e)

pub position_is : (labels : List Term) (x : Var) (i : ℕ) → position labels x ≡ Some i → slice_get labels i ≡ Some (term.Var x)
position_is [] x i e = cc
position_is (term.Const v ∷ labels) x i e =
    let found = mapped_some (position labels x) i e in
    subst (λ k. slice_get (term.Const v ∷ labels) k ≡ Some (term.Var x)) found.2 (position_is labels x found.0 found.1)
position_is (term.Var y ∷ labels) x i e =
    elim (var_eq x y) as (λ b. var_eq x y ≡ b → cond b (Some 0) (option_map (λ k. suc k) (position labels x)) ≡ Some i → slice_get (term.Var y ∷ labels) i ≡ Some (term.Var x)) [
      | true ↦ λ here f. subst (λ k. slice_get (term.Var y ∷ labels) k ≡ Some (term.Var x)) (some-injective 0 i f) (ap (λ z. Some (term.Var z)) (sym (var_same x y here)))
      | false ↦ λ here f.
          let found = mapped_some (position labels x) i f in
          subst (λ k. slice_get (term.Var y ∷ labels) k ≡ Some (term.Var x)) found.2 (position_is labels x found.0 found.1)
    ] refl e

mapped_none : (o : Option ℕ) → option_map (λ i. suc i) o ≡ None → o ≡ None
mapped_none None e = refl
mapped_none (Some i) e = cc

pub position_none : (labels : List Term) (x : Var) → position labels x ≡ None → is_in x (vars_of labels) ≡ false
position_none [] x e = refl
position_none (term.Const v ∷ labels) x e = position_none labels x (mapped_none (position labels x) e)
position_none (term.Var y ∷ labels) x e =
    elim (var_eq x y) as (λ b. var_eq x y ≡ b → cond b (Some 0) (option_map (λ k. suc k) (position labels x)) ≡ None → b || is_in x (vars_of labels) ≡ false) [
      | true ↦ λ here f. cc
      | false ↦ λ here f. position_none labels x (mapped_none (position labels x) f)
    ] refl e

pub position_some : (labels : List Term) (x : Var) → In x (vars_of labels) → (i : ℕ) × (position labels x ≡ Some i)
position_some labels x at =
    elim (position labels x) as (λ o. position labels x ≡ o → (i : ℕ) × (o ≡ Some i)) [
      | Some i ↦ λ e. (i, refl)
      | None ↦ λ e. absurd (true≢false (sym (is_of_in x (vars_of labels) at) ∙ position_none labels x e))
    ] refl

-- ---- the tests of an atom

module _ {C : Type 0} {R : C → C → Ordering} (o : IsTotalOrder R) (exact : IsAntisymmetric R) (K : Value → Option C) (one : (v w : Value) (c : C) → K v ≡ Some c → K w ≡ Some c → v ≡ w) where
  all_both : (t : ColTest C → Bool) (xs ys : List (ColTest C)) → list_all t xs ≡ true → list_all t ys ≡ true → list_all t (xs ++ ys) ≡ true
  all_both t [] ys e f = f
  all_both t (x ∷ xs) ys e f = let parts = and_parts (t x) (list_all t xs) e in and_from (t x) (list_all t (xs ++ ys)) parts.0 (all_both t xs ys parts.1 f)

  all_split : (t : ColTest C → Bool) (xs ys : List (ColTest C)) → list_all t (xs ++ ys) ≡ true → (list_all t xs ≡ true) × (list_all t ys ≡ true)
  all_split t [] ys e = (refl, e)
  all_split t (x ∷ xs) ys e =
      let parts = and_parts (t x) (list_all t (xs ++ ys)) e in
      let more = all_split t xs ys parts.1 in
      (and_from (t x) (list_all t xs) parts.0 more.0, more.1)

  tied : (c d : C) → c ≡ d → is_eq (R c d) ≡ true
  tied c d e = subst (λ z. is_eq (R c z) ≡ true) e (ap is_eq (tied_itself o c))

  untied : (c d : C) → is_eq (R c d) ≡ true → c ≡ d
  untied c d e = exact c d ((Equal-is (R c d)).0 e)

  seam : (before : List Term) (a : Term) (after : List Term) → slice_get (before ++ a ∷ after) (length before) ≡ Some a
  seam [] a after = refl
  seam (b ∷ before) a after = seam before a after

  earlier : {A : Type 0} (xs ys : List A) (i : ℕ) (x : A) → slice_get xs i ≡ Some x → slice_get (xs ++ ys) i ≡ Some x
  earlier [] ys i x e = cc
  earlier (z ∷ xs) ys zero x e = e
  earlier (z ∷ xs) ys (suc i) x e = earlier xs ys i x e

  -- a row that an environment gives passes the tests
  pub tests_pass : (before terms : List Term) (t : Env) (row : List C) → Gives K t (before ++ terms) row → list_all (passes R row) (tests_after K before terms) ≡ true
  tests_pass before [] t row given = refl
  tests_pass before (term.Const v ∷ terms) t row given =
      all_both (passes R row) (constant_test (length before) (K v)) (tests_after K (before ++ term.Const v ∷ []) terms)
      (let here = cell_at K (before ++ term.Const v ∷ terms) t row (length before) (term.Const v) given (seam before (term.Const v) terms) in
      subst (λ m. list_all (passes R row) (constant_test (length before) m) ≡ true) (sym here.2)
      (and_from (cells_meet R cmp.Eq (slice_get row (length before)) (Some here.0)) true (ap (λ m. cells_meet R cmp.Eq m (Some here.0)) here.1 ∙ tied here.0 here.0 refl) refl))
      (tests_pass (before ++ term.Const v ∷ []) terms t row (subst (λ ls. Gives K t ls row) (sym (append_assoc before (term.Const v ∷ []) terms)) given))
  tests_pass before (term.Var x ∷ terms) t row given =
      all_both (passes R row) (repeat_test (length before) (position before x)) (tests_after K (before ++ term.Var x ∷ []) terms)
      (elim (position before x) as (λ m. position before x ≡ m → list_all (passes R row) (repeat_test (length before) m) ≡ true) [
        | Some j ↦ λ e.
            let first = cell_at K (before ++ term.Var x ∷ terms) t row j (term.Var x) given (earlier before (term.Var x ∷ terms) j (term.Var x) (position_is before x j e)) in
            let here = cell_at K (before ++ term.Var x ∷ terms) t row (length before) (term.Var x) given (seam before (term.Var x) terms) in
            and_from (cells_meet R cmp.Eq (slice_get row j) (slice_get row (length before))) true
            (ap (λ m. cells_meet R cmp.Eq m (slice_get row (length before))) first.1 ∙ ap (cells_meet R cmp.Eq (Some first.0)) here.1
            ∙ tied first.0 here.0 (some-injective first.0 here.0 (sym first.2 ∙ here.2))) refl
        | None ↦ λ e. refl
      ] refl)
      (tests_pass (before ++ term.Var x ∷ []) terms t row (subst (λ ls. Gives K t ls row) (sym (append_assoc before (term.Var x ∷ []) terms)) given))

  place : (xs : List C) (c : C) (ys : List C) → slice_get (xs ++ c ∷ ys) (length xs) ≡ Some c
  place [] c ys = refl
  place (x ∷ xs) c ys = place xs c ys

  gives_length : (labels : List Term) (t : Env) (row : List C) → Gives K t labels row → length row ≡ length labels
  gives_length [] t [] e = refl
  gives_length [] t (c ∷ row) e = cc
  gives_length (a ∷ labels) t [] e = cc
  gives_length (a ∷ labels) t (c ∷ row) e = ap suc (gives_length labels t row (ap tail_of e))
    where
      tail_of : List (Option C) → List (Option C)
      tail_of [] = []
      tail_of (x ∷ xs) = xs

  -- a row of cells that passes the tests is given by an environment
  pub tests_give : (before terms : List Term) (t : Env) (a b : List C) (vs : List Value) → HaveCells K (flat_map constant_of terms) → Gives K t before a → IsRowOf K b vs → length b ≡ length terms
      → list_all (passes R (a ++ b)) (tests_after K before terms) ≡ true → (u : Env) × Gives K u (before ++ terms) (a ++ b)
  tests_give before [] t a [] vs cells left right size met = (t, gives_both K before [] t a [] left refl)
  tests_give before [] t a (c ∷ b) vs cells left right size met = absurd (omega (arith, size))
  tests_give before (term.Const v ∷ terms) t a [] vs cells left right size met = absurd (omega (arith, size))
  tests_give before (term.Var x ∷ terms) t a [] vs cells left right size met = absurd (omega (arith, size))
  tests_give before (a' ∷ terms) t a (c ∷ b) [] cells left right size met = cc
  tests_give before (term.Const v ∷ terms) t a (c ∷ b) (w ∷ vs) cells left right size met =
      let parts = all_split (passes R (a ++ c ∷ b)) (constant_test (length before) (K v)) (tests_after K (before ++ term.Const v ∷ []) terms) met in
      let own = cells v (inl refl) in
      let test : list_all (passes R (a ++ c ∷ b)) (constant_test (length before) (Some own.0)) ≡ true = subst (λ m. list_all (passes R (a ++ c ∷ b)) (constant_test (length before) m) ≡ true) own.1 parts.0 in
      let at : slice_get (a ++ c ∷ b) (length before) ≡ Some c = subst (λ n. slice_get (a ++ c ∷ b) n ≡ Some c) (gives_length before t a left) (place a c b) in
      let met_here : is_eq (R c own.0) ≡ true = sym (ap (λ m. cells_meet R cmp.Eq m (Some own.0)) at) ∙ (and_parts (cells_meet R cmp.Eq (slice_get (a ++ c ∷ b) (length before)) (Some own.0)) true test).0 in
      let is : K v ≡ Some c = own.1 ∙ ap Some (sym (untied c own.0 met_here)) in
      let rest = tests_give (before ++ term.Const v ∷ []) terms t (a ++ c ∷ []) b vs (λ z at. cells z (inr at)) (gives_both K before (term.Const v ∷ []) t a (c ∷ []) left (ap (λ m. m ∷ []) is))
      (ap tail_of right) (omega (arith, size)) (subst (λ row. list_all (passes R row) (tests_after K (before ++ term.Const v ∷ []) terms) ≡ true) (sym (append_assoc a (c ∷ []) b)) parts.1) in
      (rest.0, subst (λ ls. Gives K rest.0 ls (a ++ c ∷ b)) (append_assoc before (term.Const v ∷ []) terms) (subst (Gives K rest.0 ((before ++ term.Const v ∷ []) ++ terms)) (append_assoc a (c ∷ []) b) rest.1))
    where
      tail_of : List (Option C) → List (Option C)
      tail_of [] = []
      tail_of (x ∷ xs) = xs
  tests_give before (term.Var x ∷ terms) t a (c ∷ b) (w ∷ vs) cells left right size met =
      let parts = all_split (passes R (a ++ c ∷ b)) (repeat_test (length before) (position before x)) (tests_after K (before ++ term.Var x ∷ []) terms) met in
      let at : slice_get (a ++ c ∷ b) (length before) ≡ Some c = subst (λ n. slice_get (a ++ c ∷ b) n ≡ Some c) (gives_length before t a left) (place a c b) in
      let next : (u : Env) × Gives K u (before ++ term.Var x ∷ []) (a ++ c ∷ []) =
      elim (position before x) as (λ m. position before x ≡ m → list_all (passes R (a ++ c ∷ b)) (repeat_test (length before) m) ≡ true → (u : Env) × Gives K u (before ++ term.Var x ∷ []) (a ++ c ∷ [])) [
        | Some j ↦ λ e test.
            let first = cell_at K before t a j (term.Var x) left (position_is before x j e) in
            let met_here : is_eq (R first.0 c) ≡ true =
            sym (ap (λ m. cells_meet R cmp.Eq m (slice_get (a ++ c ∷ b) (length before))) (earlier a (c ∷ b) j first.0 first.1) ∙ ap (cells_meet R cmp.Eq (Some first.0)) at)
            ∙ (and_parts (cells_meet R cmp.Eq (slice_get (a ++ c ∷ b) j) (slice_get (a ++ c ∷ b) (length before))) true test).0 in
            (t, gives_both K before (term.Var x ∷ []) t a (c ∷ []) left (ap (λ m. m ∷ []) (first.2 ∙ ap Some (untied first.0 c met_here))))
        | None ↦ λ e test. (
          (x, w) ∷ t,
          gives_both K before (term.Var x ∷ []) ((x, w) ∷ t) a (c ∷ []) (gives_alike K before t ((x, w) ∷ t) a (entry_agrees o exact K one x w t (vars_of before) (position_none before x e)) left)
              (ap (λ v. K v ∷ []) (ap (λ g. cond g w (lookup t x)) (var_itself x)) ∙ ap (λ m. m ∷ []) (ap (head_or c) right)),
        )
      ] refl parts.0 in
      let rest = tests_give (before ++ term.Var x ∷ []) terms next.0 (a ++ c ∷ []) b vs cells next.1
      (ap tail_of right) (omega (arith, size)) (subst (λ row. list_all (passes R row) (tests_after K (before ++ term.Var x ∷ []) terms) ≡ true) (sym (append_assoc a (c ∷ []) b)) parts.1) in
      (rest.0, subst (λ ls. Gives K rest.0 ls (a ++ c ∷ b)) (append_assoc before (term.Var x ∷ []) terms) (subst (Gives K rest.0 ((before ++ term.Var x ∷ []) ++ terms)) (append_assoc a (c ∷ []) b) rest.1))
    where
      tail_of : List (Option C) → List (Option C)
      tail_of [] = []
      tail_of (x ∷ xs) = xs

      head_or : C → List (Option C) → Option C
      head_or c [] = None
      head_or c (x ∷ xs) = x

  map_again : (t : Env) (terms : List Term) → map K (map (value_of t) terms) ≡ map (λ a. K (value_of t a)) terms
  map_again t [] = refl
  map_again t (a ∷ terms) = ap (λ os. K (value_of t a) ∷ os) (map_again t terms)

  -- the rows of the relation that pass the tests are those that the atom names
  pub atom_means : (dom : Domain) (rels : ℕ) (feeds : List (List (List C))) (db : Instance) (rel : ℕ) (terms : List Term) → Holds K rels feeds db → rel < rels → HaveCells K (flat_map constant_of terms)
      → ((row : List C) → In row (slice_index_or feeds rel []) → length row ≡ length terms)
      → Means K (filter (λ row. list_all (passes R row) (tests_after K [] terms)) (slice_index_or feeds rel [])) terms (holds_over dom db (Atom rel terms))
  atom_means dom rels feeds db rel terms holds small cells wide = record {
    each = λ row at.
        let within = in_filter (λ r. list_all (passes R r) (tests_after K [] terms)) row (slice_index_or feeds rel []) at in
        let source = holds.back rel row small within.0 in
        let found = tests_give [] terms [] [] row source.0 cells refl source.1 (wide row within.0) within.1 in
        let is : source.0 ≡ map (value_of found.0) terms = rows_one K one source.0 (map (value_of found.0) terms) row source.1 (map_again found.0 terms ∙ found.1) in (
          found.0,
          found.1,
          holds_atom dom db rel terms found.0 ∙ in_any (λ r. row_eq r (map (value_of found.0) terms)) source.0 (slice_index_or db rel []) source.2
              (subst (λ r. row_eq source.0 r ≡ true) is (ap is_eq (tied_itself rows_total source.0))),
        );
    all = λ t e.
        let found = any_in (λ r. row_eq r (map (value_of t) terms)) (slice_index_or db rel []) (sym (holds_atom dom db rel terms t) ∙ e) in
        let same : found.0 ≡ map (value_of t) terms = exact_rows found.0 (map (value_of t) terms) ((Equal-is (row_cmp found.0 (map (value_of t) terms))).0 found.2) in
        let there = holds.there rel found.0 found.1 in
        let given : Gives K t terms there.1 = sym (map_again t terms) ∙ subst (λ r. IsRowOf K there.1 r) same there.2 in
        (there.1, given, filter_in (λ r. list_all (passes R r) (tests_after K [] terms)) there.1 (slice_index_or feeds rel []) there.3 (tests_pass [] terms t there.1 given));
  }
