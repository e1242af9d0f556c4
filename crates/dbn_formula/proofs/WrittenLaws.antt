-- What is written in a formula, variant by variant.
use Rattle.std.proofs.Common.{◌≡◌, ℕ, ◌+◌, max, List, [], ◌∷◌, ◌++◌, map, ◌∙◌}
use Rattle.std.specs.List.{flat_map}
use Rattle.std.proofs.lemmas.List.Folds.{flat_map-map}
use Rattle.dbn_value.specs.declared.term.Var.{Var}
use Rattle.dbn_value.specs.declared.term.Term.{Term}
use Rattle.dbn_value.specs.declared.term.Cmp.{Cmp}
use Rattle.dbn_formula.specs.Variables.{TypedVars}
use Rattle.dbn_formula.specs.Free.{variable_of}
use Rattle.dbn_formula.specs.Written.{written_step, written, relations_step, relations, deepest, depth_step, depth_of}
use Rattle.dbn_formula.specs.declared.formula.Formula.{Formula}
use Rattle.dbn_formula.specs.declared.formula.Formula.TheVariants.{Atom, Test, And, Or, Not, Implies, Exists, Forall}
use Rattle.dbn_formula.proofs.Folds.{fold_atom, fold_test, fold_and, fold_or, fold_not, fold_implies, fold_exists, fold_forall}

-- ---- variables

pub written_atom : (rel : ℕ) (terms : List Term) → written (Atom rel terms) ≡ flat_map variable_of terms
unfolding written
written_atom rel terms = fold_atom (List Var) written_step rel terms

pub written_test : (cmp : Cmp) (left right : Term) → written (Test cmp left right) ≡ variable_of left ++ variable_of right
unfolding written
written_test cmp left right = fold_test (List Var) written_step cmp left right

pub written_and : (fs : List Formula) → written (And fs) ≡ flat_map written fs
unfolding written
written_and fs = fold_and (List Var) written_step fs ∙ flat_map-map (λ part. part) written fs

pub written_or : (fs : List Formula) → written (Or fs) ≡ flat_map written fs
unfolding written
written_or fs = fold_or (List Var) written_step fs ∙ flat_map-map (λ part. part) written fs

pub written_not : (f : Formula) → written (Not f) ≡ written f
unfolding written
written_not f = fold_not (List Var) written_step f

pub written_implies : (f g : Formula) → written (Implies f g) ≡ written f ++ written g
unfolding written
written_implies f g = fold_implies (List Var) written_step f g

pub written_exists : (vars : TypedVars) (f : Formula) → written (Exists vars f) ≡ map (λ x. x.0) vars ++ written f
unfolding written
written_exists vars f = fold_exists (List Var) written_step vars f

pub written_forall : (vars : TypedVars) (f : Formula) → written (Forall vars f) ≡ map (λ x. x.0) vars ++ written f
unfolding written
written_forall vars f = fold_forall (List Var) written_step vars f

pub ruleset written_laws = (written_atom, written_test, written_and, written_or, written_not, written_implies, written_exists, written_forall)

-- ---- relations

pub relations_atom : (rel : ℕ) (terms : List Term) → relations (Atom rel terms) ≡ rel ∷ []
unfolding relations
relations_atom rel terms = fold_atom (List ℕ) relations_step rel terms

pub relations_test : (cmp : Cmp) (left right : Term) → relations (Test cmp left right) ≡ []
unfolding relations
relations_test cmp left right = fold_test (List ℕ) relations_step cmp left right

pub relations_and : (fs : List Formula) → relations (And fs) ≡ flat_map relations fs
unfolding relations
relations_and fs = fold_and (List ℕ) relations_step fs ∙ flat_map-map (λ part. part) relations fs

pub relations_or : (fs : List Formula) → relations (Or fs) ≡ flat_map relations fs
unfolding relations
relations_or fs = fold_or (List ℕ) relations_step fs ∙ flat_map-map (λ part. part) relations fs

pub relations_not : (f : Formula) → relations (Not f) ≡ relations f
unfolding relations
relations_not f = fold_not (List ℕ) relations_step f

pub relations_implies : (f g : Formula) → relations (Implies f g) ≡ relations f ++ relations g
unfolding relations
relations_implies f g = fold_implies (List ℕ) relations_step f g

pub relations_exists : (vars : TypedVars) (f : Formula) → relations (Exists vars f) ≡ relations f
unfolding relations
relations_exists vars f = fold_exists (List ℕ) relations_step vars f

pub relations_forall : (vars : TypedVars) (f : Formula) → relations (Forall vars f) ≡ relations f
unfolding relations
relations_forall vars f = fold_forall (List ℕ) relations_step vars f

pub ruleset relations_laws = (relations_atom, relations_test, relations_and, relations_or, relations_not, relations_implies, relations_exists, relations_forall)

-- ---- depth

pub depth_atom : (rel : ℕ) (terms : List Term) → depth_of (Atom rel terms) ≡ 1
unfolding depth_of
depth_atom rel terms = fold_atom ℕ depth_step rel terms

pub depth_test : (cmp : Cmp) (left right : Term) → depth_of (Test cmp left right) ≡ 1
unfolding depth_of
depth_test cmp left right = fold_test ℕ depth_step cmp left right

pub depth_and : (fs : List Formula) → depth_of (And fs) ≡ deepest (map depth_of fs) + 1
unfolding depth_of
depth_and fs = fold_and ℕ depth_step fs

pub depth_or : (fs : List Formula) → depth_of (Or fs) ≡ deepest (map depth_of fs) + 1
unfolding depth_of
depth_or fs = fold_or ℕ depth_step fs

pub depth_not : (f : Formula) → depth_of (Not f) ≡ depth_of f + 1
unfolding depth_of
depth_not f = fold_not ℕ depth_step f

pub depth_implies : (f g : Formula) → depth_of (Implies f g) ≡ max (depth_of f) (depth_of g) + 1
unfolding depth_of
depth_implies f g = fold_implies ℕ depth_step f g

pub depth_exists : (vars : TypedVars) (f : Formula) → depth_of (Exists vars f) ≡ max (depth_of f) 2 + 1
unfolding depth_of
depth_exists vars f = fold_exists ℕ depth_step vars f

pub depth_forall : (vars : TypedVars) (f : Formula) → depth_of (Forall vars f) ≡ max (depth_of f) 2 + 1
unfolding depth_of
depth_forall vars f = fold_forall ℕ depth_step vars f

pub ruleset depth_laws = (depth_atom, depth_test, depth_and, depth_or, depth_not, depth_implies, depth_exists, depth_forall)
