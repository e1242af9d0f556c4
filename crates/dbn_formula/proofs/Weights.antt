-- The weight of formulas, variant by variant.
use Rattle.std.proofs.Common.{◌≡◌, ℕ, ◌+◌, List, [], ◌∷◌, map, refl, ap, sym, ◌∙◌, length, sum_by}
use Rattle.std.proofs.lemmas.List.{length-map}
use Rattle.std.proofs.lemmas.List.Sums.{sum_by-cons}
use Rattle.dbn_value.specs.declared.term.Term.{Term}
use Rattle.dbn_value.specs.declared.term.Cmp.{Cmp}
use Rattle.dbn_formula.specs.Variables.{TypedVars}
use Rattle.dbn_formula.specs.declared.formula.Formula.{Formula}
use Rattle.dbn_formula.specs.declared.formula.Formula.TheVariants.{Atom, Test, And, Or, Not, Implies, Exists, Forall}
pub use Rattle.dbn_formula.specs.Weight.{weight_step, weight}
use Rattle.dbn_formula.proofs.Folds.{fold_atom, fold_test, fold_and, fold_or, fold_not, fold_implies, fold_exists, fold_forall}

weighed : (fs : List Formula) → sum_by (λ (n : ℕ). n) (map weight fs) ≡ sum_by weight fs
weighed [] = refl
weighed (f ∷ fs) =
    sum_by-cons (λ (n : ℕ). n) (weight f) (map weight fs)
    ∙ ap (λ (k : ℕ). weight f + k) (weighed fs)
    ∙ sym (sum_by-cons weight f fs)

pub weight_atom : (rel : ℕ) (terms : List Term) → weight (Atom rel terms) ≡ 1
unfolding weight
weight_atom rel terms = fold_atom ℕ weight_step rel terms

pub weight_test : (cmp : Cmp) (left right : Term) → weight (Test cmp left right) ≡ 1
unfolding weight
weight_test cmp left right = fold_test ℕ weight_step cmp left right

pub weight_and : (fs : List Formula) → weight (And fs) ≡ sum_by weight fs + length fs + 6
unfolding weight
weight_and fs =
    fold_and ℕ weight_step fs
    ∙ ap (λ (n : ℕ). n + length (map weight fs) + 6) (weighed fs)
    ∙ ap (λ (k : ℕ). sum_by weight fs + k + 6) (length-map fs weight)

pub weight_or : (fs : List Formula) → weight (Or fs) ≡ sum_by weight fs + 5
unfolding weight
weight_or fs = fold_or ℕ weight_step fs ∙ ap (λ n. n + 5) (weighed fs)

pub weight_not : (f : Formula) → weight (Not f) ≡ weight f + 1
unfolding weight
weight_not f = fold_not ℕ weight_step f

pub weight_implies : (f g : Formula) → weight (Implies f g) ≡ weight f + weight g + 1
unfolding weight
weight_implies f g = fold_implies ℕ weight_step f g

pub weight_exists : (vars : TypedVars) (f : Formula) → weight (Exists vars f) ≡ weight f + length vars + 3
unfolding weight
weight_exists vars f = fold_exists ℕ weight_step vars f

pub weight_forall : (vars : TypedVars) (f : Formula) → weight (Forall vars f) ≡ weight f + length vars + 3
unfolding weight
weight_forall vars f = fold_forall ℕ weight_step vars f

pub ruleset weight_laws = (weight_atom, weight_test, weight_and, weight_or, weight_not, weight_implies, weight_exists, weight_forall)
