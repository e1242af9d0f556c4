-- The size of a formula, variant by variant.
use Rattle.std.proofs.Common.{◌≡◌, ℕ, ◌+◌, max, List, map, length}
use Rattle.dbn_formula.specs.Size.{total, size_step, size}
use Rattle.dbn_value.specs.declared.term.Term.{Term}
use Rattle.dbn_value.specs.declared.term.Cmp.{Cmp}
use Rattle.dbn_formula.specs.Variables.{TypedVars}
use Rattle.dbn_formula.specs.declared.formula.Formula.{Formula}
use Rattle.dbn_formula.specs.declared.formula.Formula.TheVariants.{Atom, Test, And, Or, Not, Implies, Exists, Forall}
use Rattle.dbn_formula.proofs.Folds.{fold_atom, fold_test, fold_and, fold_or, fold_not, fold_implies, fold_exists, fold_forall}

pub size_atom : (rel : ℕ) (terms : List Term) → size (Atom rel terms) ≡ 1 + length terms
unfolding size
size_atom rel terms = fold_atom ℕ size_step rel terms

pub size_test : (cmp : Cmp) (left right : Term) → size (Test cmp left right) ≡ 3
unfolding size
size_test cmp left right = fold_test ℕ size_step cmp left right

pub size_and : (fs : List Formula) → size (And fs) ≡ 1 + total (map size fs)
unfolding size
size_and fs = fold_and ℕ size_step fs

pub size_or : (fs : List Formula) → size (Or fs) ≡ 1 + total (map size fs)
unfolding size
size_or fs = fold_or ℕ size_step fs

pub size_not : (f : Formula) → size (Not f) ≡ 1 + size f
unfolding size
size_not f = fold_not ℕ size_step f

pub size_implies : (f g : Formula) → size (Implies f g) ≡ 1 + size f + size g
unfolding size
size_implies f g = fold_implies ℕ size_step f g

pub size_exists : (vars : TypedVars) (f : Formula) → size (Exists vars f) ≡ max 1 (length vars) + size f
unfolding size
size_exists vars f = fold_exists ℕ size_step vars f

pub size_forall : (vars : TypedVars) (f : Formula) → size (Forall vars f) ≡ max 1 (length vars) + size f
unfolding size
size_forall vars f = fold_forall ℕ size_step vars f

pub ruleset size_laws = (size_atom, size_test, size_and, size_or, size_not, size_implies, size_exists, size_forall)
