-- The free variables of a formula, variant by variant.
use Rattle.std.proofs.Common.{append_assoc, ◌≡◌, ℕ, List, ◌++◌, ◌∙◌}
use Rattle.std.specs.List.{flat_map}
use Rattle.std.proofs.lemmas.List.Folds.{flat_map-map}
use Rattle.dbn_value.specs.declared.term.Var.{Var}
use Rattle.dbn_formula.specs.Free.{variable_of, unhidden, occurrences_step, occurrences}
use Rattle.dbn_value.specs.declared.term.Term.{Term}
use Rattle.dbn_value.specs.declared.term.Cmp.{Cmp}
use Rattle.dbn_formula.specs.Variables.{TypedVars}
use Rattle.dbn_formula.specs.declared.formula.Formula.{Formula}
use Rattle.dbn_formula.specs.declared.formula.Formula.TheVariants.{Atom, Test, And, Or, Not, Implies, Exists, Forall}
use Rattle.dbn_formula.proofs.Folds.{fold_atom, fold_test, fold_and, fold_or, fold_not, fold_implies, fold_exists, fold_forall}

pub occurrences_atom : (rel : ℕ) (terms : List Term) → occurrences (Atom rel terms) ≡ flat_map variable_of terms
unfolding occurrences
occurrences_atom rel terms = fold_atom (List Var) occurrences_step rel terms

pub occurrences_test : (cmp : Cmp) (left right : Term) → occurrences (Test cmp left right) ≡ variable_of left ++ variable_of right
unfolding occurrences
occurrences_test cmp left right = fold_test (List Var) occurrences_step cmp left right

pub occurrences_and : (fs : List Formula) → occurrences (And fs) ≡ flat_map occurrences fs
unfolding occurrences
occurrences_and fs = fold_and (List Var) occurrences_step fs
    ∙ flat_map-map (λ part. part) occurrences fs

pub occurrences_or : (fs : List Formula) → occurrences (Or fs) ≡ flat_map occurrences fs
unfolding occurrences
occurrences_or fs = fold_or (List Var) occurrences_step fs
    ∙ flat_map-map (λ part. part) occurrences fs

pub occurrences_not : (f : Formula) → occurrences (Not f) ≡ occurrences f
unfolding occurrences
occurrences_not f = fold_not (List Var) occurrences_step f

pub occurrences_implies : (f g : Formula) → occurrences (Implies f g) ≡ occurrences f ++ occurrences g
unfolding occurrences
occurrences_implies f g = fold_implies (List Var) occurrences_step f g

pub occurrences_exists : (vars : TypedVars) (f : Formula) → occurrences (Exists vars f) ≡ unhidden vars (occurrences f)
unfolding occurrences
occurrences_exists vars f = fold_exists (List Var) occurrences_step vars f

pub occurrences_forall : (vars : TypedVars) (f : Formula) → occurrences (Forall vars f) ≡ unhidden vars (occurrences f)
unfolding occurrences
occurrences_forall vars f = fold_forall (List Var) occurrences_step vars f

pub ruleset occurrences_laws = (occurrences_atom, occurrences_test, occurrences_and, occurrences_or, occurrences_not, occurrences_implies, occurrences_exists, occurrences_forall)

pub ruleset joining = (append_assoc)
