-- The normal form, variant by variant.
use Rattle.std.proofs.Common.{cond, not, ◌≡◌, ℕ, Bool, true, false, List, [], ◌∷◌, map, ap, sym, ◌∙◌}
use Rattle.dbn_formula.specs.Normal.{denied_cmp, normal_step, normal_at}
use Rattle.dbn_formula.proofs.Maps.{map-map}
use Rattle.dbn_value.specs.declared.term.Term.{Term}
use Rattle.dbn_value.specs.declared.term.Cmp.{Cmp}
use Rattle.dbn_formula.specs.Variables.{TypedVars}
use Rattle.dbn_formula.specs.declared.formula.Formula.{Formula}
use Rattle.dbn_formula.specs.declared.formula.Formula.TheVariants.{Atom, Test, And, Or, Not, Implies, Exists, Forall}
use Rattle.dbn_formula.proofs.Folds.{fold_atom, fold_test, fold_and, fold_or, fold_not, fold_implies, fold_exists, fold_forall}

pub kept_atom : (rel : ℕ) (terms : List Term) → normal_at (Atom rel terms) true ≡ Atom rel terms
unfolding normal_at
kept_atom rel terms = ap (λ h. h true) (fold_atom (Bool → Formula) normal_step rel terms)

pub kept_test : (cmp : Cmp) (left right : Term) → normal_at (Test cmp left right) true ≡ Test cmp left right
unfolding normal_at
kept_test cmp left right = ap (λ h. h true) (fold_test (Bool → Formula) normal_step cmp left right)

pub kept_and : (fs : List Formula) → normal_at (And fs) true ≡ And (map (λ f. normal_at f true) fs)
unfolding normal_at
kept_and fs = ap (λ h. h true) (fold_and (Bool → Formula) normal_step fs)
    ∙ ap And (map-map (λ part. part true) normal_at fs)

pub kept_or : (fs : List Formula) → normal_at (Or fs) true ≡ Or (map (λ f. normal_at f true) fs)
unfolding normal_at
kept_or fs = ap (λ h. h true) (fold_or (Bool → Formula) normal_step fs)
    ∙ ap Or (map-map (λ part. part true) normal_at fs)

pub kept_not : (f : Formula) → normal_at (Not f) true ≡ normal_at f false
unfolding normal_at
kept_not f = ap (λ h. h true) (fold_not (Bool → Formula) normal_step f)

pub kept_implies : (f g : Formula) → normal_at (Implies f g) true ≡ Or (normal_at f false ∷ normal_at g true ∷ [])
unfolding normal_at
kept_implies f g = ap (λ h. h true) (fold_implies (Bool → Formula) normal_step f g)

pub kept_exists : (vars : TypedVars) (f : Formula) → normal_at (Exists vars f) true ≡ Exists vars (normal_at f true)
unfolding normal_at
kept_exists vars f = ap (λ h. h true) (fold_exists (Bool → Formula) normal_step vars f)

pub kept_forall : (vars : TypedVars) (f : Formula) → normal_at (Forall vars f) true ≡ Not (Exists vars (normal_at f false))
unfolding normal_at
kept_forall vars f = ap (λ h. h true) (fold_forall (Bool → Formula) normal_step vars f)

pub denied_atom : (rel : ℕ) (terms : List Term) → normal_at (Atom rel terms) false ≡ Not (Atom rel terms)
unfolding normal_at
denied_atom rel terms = ap (λ h. h false) (fold_atom (Bool → Formula) normal_step rel terms)

pub denied_test : (cmp : Cmp) (left right : Term) → normal_at (Test cmp left right) false ≡ Test (denied_cmp cmp) left right
unfolding normal_at
denied_test cmp left right = ap (λ h. h false) (fold_test (Bool → Formula) normal_step cmp left right)

pub denied_and : (fs : List Formula) → normal_at (And fs) false ≡ Or (map (λ f. normal_at f false) fs)
unfolding normal_at
denied_and fs = ap (λ h. h false) (fold_and (Bool → Formula) normal_step fs)
    ∙ ap Or (map-map (λ part. part false) normal_at fs)

pub denied_or : (fs : List Formula) → normal_at (Or fs) false ≡ And (map (λ f. normal_at f false) fs)
unfolding normal_at
denied_or fs = ap (λ h. h false) (fold_or (Bool → Formula) normal_step fs)
    ∙ ap And (map-map (λ part. part false) normal_at fs)

pub denied_not : (f : Formula) → normal_at (Not f) false ≡ normal_at f true
unfolding normal_at
denied_not f = ap (λ h. h false) (fold_not (Bool → Formula) normal_step f)

pub denied_implies : (f g : Formula) → normal_at (Implies f g) false ≡ And (normal_at f true ∷ normal_at g false ∷ [])
unfolding normal_at
denied_implies f g = ap (λ h. h false) (fold_implies (Bool → Formula) normal_step f g)

pub denied_exists : (vars : TypedVars) (f : Formula) → normal_at (Exists vars f) false ≡ Not (Exists vars (normal_at f true))
unfolding normal_at
denied_exists vars f = ap (λ h. h false) (fold_exists (Bool → Formula) normal_step vars f)

pub denied_forall : (vars : TypedVars) (f : Formula) → normal_at (Forall vars f) false ≡ Exists vars (normal_at f false)
unfolding normal_at
denied_forall vars f = ap (λ h. h false) (fold_forall (Bool → Formula) normal_step vars f)

pub ruleset normal_laws = (kept_atom, kept_test, kept_and, kept_or, kept_not, kept_implies, kept_exists, kept_forall, denied_atom, denied_test, denied_and, denied_or, denied_not, denied_implies, denied_exists, denied_forall)

-- ---- the same, for either

pub either_atom : (rel : ℕ) (terms : List Term) (keep : Bool) → normal_at (Atom rel terms) keep ≡ cond keep (Atom rel terms) (Not (Atom rel terms))
either_atom rel terms true = kept_atom rel terms
either_atom rel terms false = denied_atom rel terms

pub either_test : (cmp : Cmp) (left right : Term) (keep : Bool) → normal_at (Test cmp left right) keep ≡ Test (cond keep cmp (denied_cmp cmp)) left right
either_test cmp left right true = kept_test cmp left right
either_test cmp left right false = denied_test cmp left right

pub either_and : (fs : List Formula) (keep : Bool)
    → normal_at (And fs) keep ≡ cond keep (And (map (λ f. normal_at f keep) fs)) (Or (map (λ f. normal_at f keep) fs))
either_and fs true = kept_and fs
either_and fs false = denied_and fs

pub either_or : (fs : List Formula) (keep : Bool)
    → normal_at (Or fs) keep ≡ cond keep (Or (map (λ f. normal_at f keep) fs)) (And (map (λ f. normal_at f keep) fs))
either_or fs true = kept_or fs
either_or fs false = denied_or fs

pub either_not : (f : Formula) (keep : Bool) → normal_at (Not f) keep ≡ normal_at f (not keep)
either_not f true = kept_not f
either_not f false = denied_not f

pub either_implies : (f g : Formula) (keep : Bool)
    → normal_at (Implies f g) keep
    ≡ cond keep (Or (normal_at f (not keep) ∷ normal_at g keep ∷ [])) (And (normal_at f (not keep) ∷ normal_at g keep ∷ []))
either_implies f g true = kept_implies f g
either_implies f g false = denied_implies f g

pub either_exists : (vars : TypedVars) (f : Formula) (keep : Bool)
    → normal_at (Exists vars f) keep ≡ cond keep (Exists vars (normal_at f true)) (Not (Exists vars (normal_at f true)))
either_exists vars f true = kept_exists vars f
either_exists vars f false = denied_exists vars f

pub either_forall : (vars : TypedVars) (f : Formula) (keep : Bool)
    → normal_at (Forall vars f) keep ≡ cond keep (Not (Exists vars (normal_at f false))) (Exists vars (normal_at f false))
either_forall vars f true = kept_forall vars f
either_forall vars f false = denied_forall vars f

pub ruleset either_laws = (either_atom, either_test, either_and, either_or, either_not, either_implies, either_exists, either_forall)

-- ---- the parts of a conjunction, joined as the code joins them

pub joined_and : (fs gs : List Formula) (keep : Bool) → gs ≡ map (λ f. normal_at f keep) fs → cond keep (And gs) (Or gs) ≡ normal_at (And fs) keep
joined_and fs gs true e = ap And e ∙ sym (kept_and fs)
joined_and fs gs false e = ap Or e ∙ sym (denied_and fs)

pub joined_or : (fs gs : List Formula) (keep : Bool) → gs ≡ map (λ f. normal_at f keep) fs → cond (not keep) (And gs) (Or gs) ≡ normal_at (Or fs) keep
joined_or fs gs true e = ap Or e ∙ sym (kept_or fs)
joined_or fs gs false e = ap And e ∙ sym (denied_or fs)
