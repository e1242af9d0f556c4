-- The constants of a formula, variant by variant.
use Rattle.std.proofs.Common.{◌≡◌, ℕ, List, ◌++◌, ◌∙◌}
use Rattle.std.specs.List.{flat_map}
use Rattle.std.proofs.lemmas.List.Folds.{flat_map-map}
use Rattle.dbn_value.specs.declared.value.Value.{Value}
use Rattle.dbn_formula.specs.Answers.{constant_of, constants_step, constants}
use Rattle.dbn_value.specs.declared.term.Term.{Term}
use Rattle.dbn_value.specs.declared.term.Cmp.{Cmp}
use Rattle.dbn_formula.specs.Variables.{TypedVars}
use Rattle.dbn_formula.specs.declared.formula.Formula.{Formula}
use Rattle.dbn_formula.specs.declared.formula.Formula.TheVariants.{Atom, Test, And, Or, Not, Implies, Exists, Forall}
use Rattle.dbn_formula.proofs.Folds.{fold_atom, fold_test, fold_and, fold_or, fold_not, fold_implies, fold_exists, fold_forall}

pub constants_atom : (rel : ℕ) (terms : List Term) → constants (Atom rel terms) ≡ flat_map constant_of terms
unfolding constants
constants_atom rel terms = fold_atom (List Value) constants_step rel terms

pub constants_test : (cmp : Cmp) (left right : Term) → constants (Test cmp left right) ≡ constant_of left ++ constant_of right
unfolding constants
constants_test cmp left right = fold_test (List Value) constants_step cmp left right

pub constants_and : (fs : List Formula) → constants (And fs) ≡ flat_map constants fs
unfolding constants
constants_and fs = fold_and (List Value) constants_step fs
    ∙ flat_map-map (λ part. part) constants fs

pub constants_or : (fs : List Formula) → constants (Or fs) ≡ flat_map constants fs
unfolding constants
constants_or fs = fold_or (List Value) constants_step fs
    ∙ flat_map-map (λ part. part) constants fs

pub constants_not : (f : Formula) → constants (Not f) ≡ constants f
unfolding constants
constants_not f = fold_not (List Value) constants_step f

pub constants_implies : (f g : Formula) → constants (Implies f g) ≡ constants f ++ constants g
unfolding constants
constants_implies f g = fold_implies (List Value) constants_step f g

pub constants_exists : (vars : TypedVars) (f : Formula) → constants (Exists vars f) ≡ constants f
unfolding constants
constants_exists vars f = fold_exists (List Value) constants_step vars f

pub constants_forall : (vars : TypedVars) (f : Formula) → constants (Forall vars f) ≡ constants f
unfolding constants
constants_forall vars f = fold_forall (List Value) constants_step vars f

pub ruleset constants_laws = (constants_atom, constants_test, constants_and, constants_or, constants_not, constants_implies, constants_exists, constants_forall)
