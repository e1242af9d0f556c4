-- Numbers of terms and types, variant by variant.
use Rattle.std.proofs.Common.{◌≡◌, ℕ, Bool, true, ◌&&◌, ◌==◌, List, [], ap, ◌∙◌, length}
use Rattle.std.specs.Prelude.{slice_index_or}
use Rattle.std.specs.List.{list_all}
use Rattle.std.proofs.lemmas.List.Folds.{list_all-map}
use Rattle.dbn_formula.specs.Typing.{Shapes, arity_step, arity_fits, entered, term_type, terms_fit, sides_fit, types_step, types_fit}
use Rattle.dbn_value.specs.declared.term.Term.{Term}
use Rattle.dbn_value.specs.declared.term.Cmp.{Cmp}
use Rattle.dbn_formula.specs.Variables.{TypedVars}
use Rattle.dbn_formula.specs.declared.formula.Formula.{Formula}
use Rattle.dbn_formula.specs.declared.formula.Formula.TheVariants.{Atom, Test, And, Or, Not, Implies, Exists, Forall}
use Rattle.dbn_formula.proofs.Folds.{fold_atom, fold_test, fold_and, fold_or, fold_not, fold_implies, fold_exists, fold_forall}

pub arity_atom : (rels : Shapes) (rel : ℕ) (terms : List Term) → arity_fits rels (Atom rel terms) ≡ (length terms == length (slice_index_or rels rel []))
unfolding arity_fits
arity_atom rels rel terms = fold_atom Bool (arity_step rels) rel terms

pub arity_test : (rels : Shapes) (cmp : Cmp) (left right : Term) → arity_fits rels (Test cmp left right) ≡ true
unfolding arity_fits
arity_test rels cmp left right = fold_test Bool (arity_step rels) cmp left right

pub arity_and : (rels : Shapes) (fs : List Formula) → arity_fits rels (And fs) ≡ list_all (arity_fits rels) fs
unfolding arity_fits
arity_and rels fs = fold_and Bool (arity_step rels) fs
    ∙ list_all-map (λ part. part) (arity_fits rels) fs

pub arity_or : (rels : Shapes) (fs : List Formula) → arity_fits rels (Or fs) ≡ list_all (arity_fits rels) fs
unfolding arity_fits
arity_or rels fs = fold_or Bool (arity_step rels) fs
    ∙ list_all-map (λ part. part) (arity_fits rels) fs

pub arity_not : (rels : Shapes) (f : Formula) → arity_fits rels (Not f) ≡ arity_fits rels f
unfolding arity_fits
arity_not rels f = fold_not Bool (arity_step rels) f

pub arity_implies : (rels : Shapes) (f g : Formula) → arity_fits rels (Implies f g) ≡ (arity_fits rels f && arity_fits rels g)
unfolding arity_fits
arity_implies rels f g = fold_implies Bool (arity_step rels) f g

pub arity_exists : (rels : Shapes) (vars : TypedVars) (f : Formula) → arity_fits rels (Exists vars f) ≡ arity_fits rels f
unfolding arity_fits
arity_exists rels vars f = fold_exists Bool (arity_step rels) vars f

pub arity_forall : (rels : Shapes) (vars : TypedVars) (f : Formula) → arity_fits rels (Forall vars f) ≡ arity_fits rels f
unfolding arity_fits
arity_forall rels vars f = fold_forall Bool (arity_step rels) vars f

pub types_atom : (rels : Shapes) (rel : ℕ) (terms : List Term) (scope : TypedVars) → types_fit rels (Atom rel terms) scope ≡ terms_fit scope terms (slice_index_or rels rel [])
unfolding types_fit
types_atom rels rel terms scope = ap (λ h. h scope) (fold_atom (TypedVars → Bool) (types_step rels) rel terms)

pub types_test : (rels : Shapes) (cmp : Cmp) (left right : Term) (scope : TypedVars) → types_fit rels (Test cmp left right) scope ≡ sides_fit cmp (term_type scope left) (term_type scope right)
unfolding types_fit
types_test rels cmp left right scope = ap (λ h. h scope) (fold_test (TypedVars → Bool) (types_step rels) cmp left right)

pub types_and : (rels : Shapes) (fs : List Formula) (scope : TypedVars) → types_fit rels (And fs) scope ≡ list_all (λ f. types_fit rels f scope) fs
unfolding types_fit
types_and rels fs scope = ap (λ h. h scope) (fold_and (TypedVars → Bool) (types_step rels) fs)
    ∙ list_all-map (λ part. part scope) (types_fit rels) fs

pub types_or : (rels : Shapes) (fs : List Formula) (scope : TypedVars) → types_fit rels (Or fs) scope ≡ list_all (λ f. types_fit rels f scope) fs
unfolding types_fit
types_or rels fs scope = ap (λ h. h scope) (fold_or (TypedVars → Bool) (types_step rels) fs)
    ∙ list_all-map (λ part. part scope) (types_fit rels) fs

pub types_not : (rels : Shapes) (f : Formula) (scope : TypedVars) → types_fit rels (Not f) scope ≡ types_fit rels f scope
unfolding types_fit
types_not rels f scope = ap (λ h. h scope) (fold_not (TypedVars → Bool) (types_step rels) f)

pub types_implies : (rels : Shapes) (f g : Formula) (scope : TypedVars) → types_fit rels (Implies f g) scope ≡ (types_fit rels f scope && types_fit rels g scope)
unfolding types_fit
types_implies rels f g scope = ap (λ h. h scope) (fold_implies (TypedVars → Bool) (types_step rels) f g)

pub types_exists : (rels : Shapes) (vars : TypedVars) (f : Formula) (scope : TypedVars) → types_fit rels (Exists vars f) scope ≡ types_fit rels f (entered vars scope)
unfolding types_fit
types_exists rels vars f scope = ap (λ h. h scope) (fold_exists (TypedVars → Bool) (types_step rels) vars f)

pub types_forall : (rels : Shapes) (vars : TypedVars) (f : Formula) (scope : TypedVars) → types_fit rels (Forall vars f) scope ≡ types_fit rels f (entered vars scope)
unfolding types_fit
types_forall rels vars f scope = ap (λ h. h scope) (fold_forall (TypedVars → Bool) (types_step rels) vars f)

pub ruleset typing_laws = (arity_atom, arity_test, arity_and, arity_or, arity_not, arity_implies, arity_exists, arity_forall, types_atom, types_test, types_and, types_or, types_not, types_implies, types_exists, types_forall)
