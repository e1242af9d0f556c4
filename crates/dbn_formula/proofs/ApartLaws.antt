-- Marks and renaming, variant by variant.
use Rattle.std.proofs.Common.{◌≡◌, ℕ, List, [], ◌∷◌, ◌++◌, map, refl, ap, ◌∙◌}
use Rattle.std.specs.List.{flat_map}
use Rattle.std.proofs.lemmas.List.Folds.{flat_map-map}
use Rattle.dbn_formula.specs.Apart.{term_marks, quantified_marks, marks_step, marks, Renaming, Renamed, renamed_term, fresh, last_mark, opened, each_renamed, rename_step, rename_at, renamed_at, last_at, renamed_all, last_all}
use Rattle.dbn_value.specs.declared.term.Term.{Term}
use Rattle.dbn_value.specs.declared.term.Cmp.{Cmp}
use Rattle.dbn_formula.specs.Variables.{TypedVars}
use Rattle.dbn_formula.specs.declared.formula.Formula.{Formula}
use Rattle.dbn_formula.specs.declared.formula.Formula.TheVariants.{Atom, Test, And, Or, Not, Implies, Exists, Forall}
use Rattle.dbn_formula.proofs.Folds.{fold_atom, fold_test, fold_and, fold_or, fold_not, fold_implies, fold_exists, fold_forall}

pub marks_atom : (rel : ℕ) (terms : List Term) → marks (Atom rel terms) ≡ flat_map term_marks terms
unfolding marks
marks_atom rel terms = fold_atom (List ℕ) marks_step rel terms

pub marks_test : (cmp : Cmp) (left right : Term) → marks (Test cmp left right) ≡ term_marks left ++ term_marks right
unfolding marks
marks_test cmp left right = fold_test (List ℕ) marks_step cmp left right

pub marks_and : (fs : List Formula) → marks (And fs) ≡ flat_map marks fs
unfolding marks
marks_and fs = fold_and (List ℕ) marks_step fs
    ∙ flat_map-map (λ part. part) marks fs

pub marks_or : (fs : List Formula) → marks (Or fs) ≡ flat_map marks fs
unfolding marks
marks_or fs = fold_or (List ℕ) marks_step fs
    ∙ flat_map-map (λ part. part) marks fs

pub marks_not : (f : Formula) → marks (Not f) ≡ marks f
unfolding marks
marks_not f = fold_not (List ℕ) marks_step f

pub marks_implies : (f g : Formula) → marks (Implies f g) ≡ marks f ++ marks g
unfolding marks
marks_implies f g = fold_implies (List ℕ) marks_step f g

pub marks_exists : (vars : TypedVars) (f : Formula) → marks (Exists vars f) ≡ quantified_marks vars ++ marks f
unfolding marks
marks_exists vars f = fold_exists (List ℕ) marks_step vars f

pub marks_forall : (vars : TypedVars) (f : Formula) → marks (Forall vars f) ≡ quantified_marks vars ++ marks f
unfolding marks
marks_forall vars f = fold_forall (List ℕ) marks_step vars f

all_formulas : (used : List ℕ) (fs : List Formula) (names : Renaming) (n : ℕ) → (each_renamed (map (rename_at used) fs) names n).formulas ≡ renamed_all used fs names n
unfolding renamed_at last_at
all_formulas used [] names n = refl
all_formulas used (f ∷ fs) names n = ap (λ rest. (rename_at used f names n).formula ∷ rest) (all_formulas used fs names (rename_at used f names n).last)

all_last : (used : List ℕ) (fs : List Formula) (names : Renaming) (n : ℕ) → (each_renamed (map (rename_at used) fs) names n).last ≡ last_all used fs names n
unfolding last_at
all_last used [] names n = refl
all_last used (f ∷ fs) names n = all_last used fs names (rename_at used f names n).last

pub renamed_atom : (used : List ℕ) (rel : ℕ) (terms : List Term) (names : Renaming) (n : ℕ) → renamed_at used (Atom rel terms) names n ≡ Atom rel (map (renamed_term names) terms)
unfolding renamed_at last_at rename_at
renamed_atom used rel terms names n = ap (λ h. (h names n).formula) (fold_atom (Renaming → ℕ → Renamed) (rename_step used) rel terms)

pub renamed_test : (used : List ℕ) (cmp : Cmp) (left right : Term) (names : Renaming) (n : ℕ) → renamed_at used (Test cmp left right) names n ≡ Test cmp (renamed_term names left) (renamed_term names right)
unfolding renamed_at last_at rename_at
renamed_test used cmp left right names n = ap (λ h. (h names n).formula) (fold_test (Renaming → ℕ → Renamed) (rename_step used) cmp left right)

pub renamed_and : (used : List ℕ) (fs : List Formula) (names : Renaming) (n : ℕ) → renamed_at used (And fs) names n ≡ And (renamed_all used fs names n)
unfolding renamed_at last_at rename_at
renamed_and used fs names n = ap (λ h. (h names n).formula) (fold_and (Renaming → ℕ → Renamed) (rename_step used) fs)
    ∙ ap And (all_formulas used fs names n)

pub renamed_or : (used : List ℕ) (fs : List Formula) (names : Renaming) (n : ℕ) → renamed_at used (Or fs) names n ≡ Or (renamed_all used fs names n)
unfolding renamed_at last_at rename_at
renamed_or used fs names n = ap (λ h. (h names n).formula) (fold_or (Renaming → ℕ → Renamed) (rename_step used) fs)
    ∙ ap Or (all_formulas used fs names n)

pub renamed_not : (used : List ℕ) (f : Formula) (names : Renaming) (n : ℕ) → renamed_at used (Not f) names n ≡ Not (renamed_at used f names n)
unfolding renamed_at last_at rename_at
renamed_not used f names n = ap (λ h. (h names n).formula) (fold_not (Renaming → ℕ → Renamed) (rename_step used) f)

pub renamed_implies : (used : List ℕ) (f g : Formula) (names : Renaming) (n : ℕ) → renamed_at used (Implies f g) names n ≡ Implies (renamed_at used f names n) (renamed_at used g names (last_at used f names n))
unfolding renamed_at last_at rename_at
renamed_implies used f g names n = ap (λ h. (h names n).formula) (fold_implies (Renaming → ℕ → Renamed) (rename_step used) f g)

pub renamed_exists : (used : List ℕ) (vars : TypedVars) (f : Formula) (names : Renaming) (n : ℕ) → renamed_at used (Exists vars f) names n ≡ Exists (fresh used vars n) (renamed_at used f (opened used vars n names) (last_mark used vars n))
unfolding renamed_at last_at rename_at
renamed_exists used vars f names n = ap (λ h. (h names n).formula) (fold_exists (Renaming → ℕ → Renamed) (rename_step used) vars f)

pub renamed_forall : (used : List ℕ) (vars : TypedVars) (f : Formula) (names : Renaming) (n : ℕ) → renamed_at used (Forall vars f) names n ≡ Forall (fresh used vars n) (renamed_at used f (opened used vars n names) (last_mark used vars n))
unfolding renamed_at last_at rename_at
renamed_forall used vars f names n = ap (λ h. (h names n).formula) (fold_forall (Renaming → ℕ → Renamed) (rename_step used) vars f)

pub last_atom : (used : List ℕ) (rel : ℕ) (terms : List Term) (names : Renaming) (n : ℕ) → last_at used (Atom rel terms) names n ≡ n
unfolding last_at rename_at
last_atom used rel terms names n = ap (λ h. (h names n).last) (fold_atom (Renaming → ℕ → Renamed) (rename_step used) rel terms)

pub last_test : (used : List ℕ) (cmp : Cmp) (left right : Term) (names : Renaming) (n : ℕ) → last_at used (Test cmp left right) names n ≡ n
unfolding last_at rename_at
last_test used cmp left right names n = ap (λ h. (h names n).last) (fold_test (Renaming → ℕ → Renamed) (rename_step used) cmp left right)

pub last_and : (used : List ℕ) (fs : List Formula) (names : Renaming) (n : ℕ) → last_at used (And fs) names n ≡ last_all used fs names n
unfolding last_at rename_at
last_and used fs names n = ap (λ h. (h names n).last) (fold_and (Renaming → ℕ → Renamed) (rename_step used) fs)
    ∙ all_last used fs names n

pub last_or : (used : List ℕ) (fs : List Formula) (names : Renaming) (n : ℕ) → last_at used (Or fs) names n ≡ last_all used fs names n
unfolding last_at rename_at
last_or used fs names n = ap (λ h. (h names n).last) (fold_or (Renaming → ℕ → Renamed) (rename_step used) fs)
    ∙ all_last used fs names n

pub last_not : (used : List ℕ) (f : Formula) (names : Renaming) (n : ℕ) → last_at used (Not f) names n ≡ last_at used f names n
unfolding last_at rename_at
last_not used f names n = ap (λ h. (h names n).last) (fold_not (Renaming → ℕ → Renamed) (rename_step used) f)

pub last_implies : (used : List ℕ) (f g : Formula) (names : Renaming) (n : ℕ) → last_at used (Implies f g) names n ≡ last_at used g names (last_at used f names n)
unfolding last_at rename_at
last_implies used f g names n = ap (λ h. (h names n).last) (fold_implies (Renaming → ℕ → Renamed) (rename_step used) f g)

pub last_exists : (used : List ℕ) (vars : TypedVars) (f : Formula) (names : Renaming) (n : ℕ) → last_at used (Exists vars f) names n ≡ last_at used f (opened used vars n names) (last_mark used vars n)
unfolding last_at rename_at
last_exists used vars f names n = ap (λ h. (h names n).last) (fold_exists (Renaming → ℕ → Renamed) (rename_step used) vars f)

pub last_forall : (used : List ℕ) (vars : TypedVars) (f : Formula) (names : Renaming) (n : ℕ) → last_at used (Forall vars f) names n ≡ last_at used f (opened used vars n names) (last_mark used vars n)
unfolding last_at rename_at
last_forall used vars f names n = ap (λ h. (h names n).last) (fold_forall (Renaming → ℕ → Renamed) (rename_step used) vars f)

pub ruleset apart_laws = (marks_atom, marks_test, marks_and, marks_or, marks_not, marks_implies, marks_exists, marks_forall, renamed_atom, renamed_test, renamed_and, renamed_or, renamed_not, renamed_implies, renamed_exists, renamed_forall, last_atom, last_test, last_and, last_or, last_not, last_implies, last_exists, last_forall)
