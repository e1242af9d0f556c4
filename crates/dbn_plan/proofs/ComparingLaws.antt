-- Which terms are known, and the tests of a comparison.
use Rattle.std.proofs.Common.{◌≡◌, ◌<◌, ℕ, ℤ, inl, ⊎_elim, true, List, [], ◌∷◌, refl, ap, sym, ◌∙◌, subst, Option, Some, None}
use Rattle.std.specs.Prelude.{slice_get}
use Rattle.std.specs.Option.{is_some}
use Rattle.std.specs.declared.cmp.Ordering.{Ordering}
use Rattle.std.proofs.lemmas.Option.{slice_get_within}
use Rattle.dbn_value.specs.Members.{In}
use Rattle.dbn_value.proofs.MemberLaws.{flat_in, in_at}
use Rattle.dbn_value.specs.declared.value.Value.{Value}
use Rattle.dbn_value.specs.declared.term.Var.{Var}
use Rattle.dbn_value.specs.declared.term.Term.{Term}
use Rattle.dbn_value.specs.declared.term.Term.TheVariants as term
use Rattle.dbn_value.specs.declared.term.Cmp.{Cmp}
use Rattle.dbn_formula.specs.Free.{variable_of}
use Rattle.dbn_formula.specs.Answers.{constant_of}
use Rattle.dbn_formula.specs.Safe.{known}
use Rattle.dbn_formula.specs.Variables.{is_in}
use Rattle.dbn_formula.proofs.VariableLaws.{is_of_in}
use Rattle.dbn_nodes.specs.declared.node.ColTest.{ColTest}
use Rattle.dbn_nodes.specs.declared.node.ColTest.TheVariants as test
use Rattle.dbn_network.specs.States.{State, TestIn, state_widths, width_at}
use Rattle.dbn_plan.specs.Meaning.{vars_of}
use Rattle.dbn_plan.specs.Columns.{position, HaveCells}
use Rattle.dbn_plan.specs.Comparing.{turned, Compared}
use Rattle.dbn_plan.specs.Making.{Placed}
use Rattle.dbn_plan.proofs.AtomLaws.{position_is, position_none}
use Rattle.dbn_plan.proofs.ComparisonMade.{known_column, compared_turned}

-- a variable is known where it has a column
pub position_known : (labels : List Term) (x : Var) → is_some (position labels x) ≡ is_in x (vars_of labels)
position_known labels x =
    elim (position labels x) as (λ o. position labels x ≡ o → is_some o ≡ is_in x (vars_of labels)) [
      | Some i ↦ λ e. sym (is_of_in x (vars_of labels) (flat_in variable_of x (term.Var x) labels (in_at labels i (term.Var x) (position_is labels x i e)) (inl refl)))
      | None ↦ λ e. sym (position_none labels x e)
    ] refl

pub variable_known : (labels ls : List Term) (x : Var) (a : Term) → ls ≡ labels → a ≡ term.Var x → is_some (position ls x) ≡ known (vars_of labels) a
variable_known labels ls x a e is = ap (λ zs. is_some (position zs x)) e ∙ position_known labels x ∙ ap (known (vars_of labels)) (sym is)

pub known_there : (labels : List Term) (a : Term) (x : Var) → a ≡ term.Var x → known (vars_of labels) a ≡ true → In a labels
known_there labels a x e is = subst (λ b. In b labels) (sym e) (known_column labels x (subst (λ b. known (vars_of labels) b ≡ true) e is))

pub constant_cell : {C : Type 0} (K : Value → Option C) (a : Term) (v : Value) → a ≡ term.Const v → HaveCells K (constant_of a) → (c : C) × (K v ≡ Some c)
constant_cell K a v e cells = cells v (subst (λ b. In v (constant_of b)) (sym e) (inl refl))

-- a constant on the left is compared from the right
pub compared_back : {C : Type 0} (R : C → C → Ordering) (int_of : C → Option ℤ) (cell_of : Value → Option C) (c k : Cmp) (left right : Term) (v : Value) (old new : State C) (i : ℕ) (labels : List Term) (made : ℕ) → k ≡ turned c → left ≡ term.Const v
    → Compared R int_of cell_of k right (term.Const v) old new i labels made → Compared R int_of cell_of c left right old new i labels made
compared_back R int_of cell_of c k left right v old new i labels made e is told =
    compared_turned R int_of cell_of c left right old new i labels made
    (subst (λ m. Compared R int_of cell_of m right left old new i labels made) e (subst (λ a. Compared R int_of cell_of k right a old new i labels made) (sym is) told))

-- the tests name columns that are there
module _ {C : Type 0} (s : State C) (i : ℕ) (labels : List Term) (placed : Placed s i labels) where
  one_test : (x : ColTest C) (tests : List (ColTest C)) → tests ≡ x ∷ [] → TestIn (width_at (state_widths s) i) x → (y : ColTest C) → In y tests → TestIn (width_at (state_widths s) i) y
  one_test x tests e fits y at = ⊎_elim (λ is. subst (TestIn (width_at (state_widths s) i)) (sym is) fits) (λ none. absurd none) (subst (In y) e at)

  column_there : (col : ℕ) (a : Term) → slice_get labels col ≡ Some a → col < width_at (state_widths s) i
  column_there col a at = subst (λ n. col < n) (sym placed.wide) (slice_get_within labels col a at)

  pub columns_fit : (c : Cmp) (left right : Term) (j k : ℕ) (tests : List (ColTest C)) → slice_get labels j ≡ Some left → slice_get labels k ≡ Some right → tests ≡ test.Columns c j k ∷ []
      → (y : ColTest C) → In y tests → TestIn (width_at (state_widths s) i) y
  columns_fit c left right j k tests at_left at_right e = one_test (test.Columns c j k) tests e (column_there j left at_left, column_there k right at_right)

  pub column_fits : (c : Cmp) (left : Term) (j : ℕ) (cell : C) (tests : List (ColTest C)) → slice_get labels j ≡ Some left → tests ≡ test.Constant c j cell ∷ []
      → (y : ColTest C) → In y tests → TestIn (width_at (state_widths s) i) y
  column_fits c left j cell tests at_left e = one_test (test.Constant c j cell) tests e (column_there j left at_left)
