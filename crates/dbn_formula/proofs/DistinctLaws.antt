-- Formulas whose quantifiers name each variable once: variant by variant, and after renaming apart.
use Rattle.std.proofs.Common.{◌≡◌, ℕ, Bool, true, not, ◌&&◌, List, [], ◌∷◌, map, refl, ap, ◌∙◌, inr, arith}
use Rattle.std.specs.List.{list_all, AllByRecursion}
use Rattle.std.proofs.lemmas.List.Folds.{list_all-map}
use Rattle.std.proofs.lemmas.Bool.{and_from}
use Rattle.dbn_value.specs.declared.term.Term.{Term}
use Rattle.dbn_value.specs.declared.term.Cmp.{Cmp}
use Rattle.dbn_formula.specs.Variables.{TypedVars, binds}
use Rattle.dbn_formula.specs.Distinct.{distinct_vars, distinct_step, distinct}
use Rattle.dbn_formula.specs.Apart.{Renaming, marks, next_mark, renamed_term, marked, fresh, last_mark, opened, renamed_at, last_at, renamed_all, renamed}
use Rattle.dbn_formula.specs.declared.formula.Formula.{Formula}
use Rattle.dbn_formula.specs.declared.formula.Formula.TheVariants.{Atom, Test, And, Or, Not, Implies, Exists, Forall}
use Rattle.dbn_formula.proofs.Folds.{fold_atom, fold_test, fold_and, fold_or, fold_not, fold_implies, fold_exists, fold_forall}
use Rattle.dbn_formula.proofs.Induction.{induction}
use Rattle.dbn_formula.proofs.ApartLaws.{renamed_atom, renamed_test, renamed_and, renamed_or, renamed_not, renamed_implies, renamed_exists, renamed_forall}
use Rattle.dbn_formula.proofs.RenameFree.{old_not_fresh}

pub distinct_atom : (rel : ℕ) (terms : List Term) → distinct (Atom rel terms) ≡ true
unfolding distinct
distinct_atom rel terms = fold_atom Bool distinct_step rel terms

pub distinct_test : (cmp : Cmp) (left right : Term) → distinct (Test cmp left right) ≡ true
unfolding distinct
distinct_test cmp left right = fold_test Bool distinct_step cmp left right

pub distinct_and : (fs : List Formula) → distinct (And fs) ≡ list_all distinct fs
unfolding distinct
distinct_and fs = fold_and Bool distinct_step fs ∙ list_all-map (λ part. part) distinct fs

pub distinct_or : (fs : List Formula) → distinct (Or fs) ≡ list_all distinct fs
unfolding distinct
distinct_or fs = fold_or Bool distinct_step fs ∙ list_all-map (λ part. part) distinct fs

pub distinct_not : (f : Formula) → distinct (Not f) ≡ distinct f
unfolding distinct
distinct_not f = fold_not Bool distinct_step f

pub distinct_implies : (f g : Formula) → distinct (Implies f g) ≡ (distinct f && distinct g)
unfolding distinct
distinct_implies f g = fold_implies Bool distinct_step f g

pub distinct_exists : (vars : TypedVars) (f : Formula) → distinct (Exists vars f) ≡ (distinct_vars vars && distinct f)
unfolding distinct
distinct_exists vars f = fold_exists Bool distinct_step vars f

pub distinct_forall : (vars : TypedVars) (f : Formula) → distinct (Forall vars f) ≡ (distinct_vars vars && distinct f)
unfolding distinct
distinct_forall vars f = fold_forall Bool distinct_step vars f

pub ruleset distinct_laws = (distinct_atom, distinct_test, distinct_and, distinct_or, distinct_not, distinct_implies, distinct_exists, distinct_forall)

-- ---- renaming apart gives each quantified variable a mark of its own

fresh_distinct : (used : List ℕ) (vars : TypedVars) (n : ℕ) → distinct_vars (fresh used vars n) ≡ true
fresh_distinct used [] n = refl
fresh_distinct used (x ∷ vars) n =
    let m : ℕ = next_mark used n in
    and_from (not (binds (fresh used vars m) (marked x.0 m))) (distinct_vars (fresh used vars m))
    (ap not (old_not_fresh used vars m (marked x.0 m) (inr (omega arith))))
    (fresh_distinct used vars m)

module _ (used : List ℕ) where
  abbrev IsDistinct : Formula → Type 0
  IsDistinct f = (names : Renaming) (n : ℕ) → distinct (renamed_at used f names n) ≡ true

  all_distinct : (fs : List Formula) → AllByRecursion IsDistinct fs → (names : Renaming) (n : ℕ) → list_all distinct (renamed_all used fs names n) ≡ true
  all_distinct [] each names n = refl
  all_distinct (f ∷ fs) each names n =
      and_from (distinct (renamed_at used f names n)) (list_all distinct (renamed_all used fs names (last_at used f names n)))
      (each.0 names n) (all_distinct fs each.1 names (last_at used f names n))

  is_distinct : (f : Formula) → IsDistinct f
  is_distinct = induction IsDistinct (record {
    atom = λ rel terms names n. ap distinct (renamed_atom used rel terms names n) ∙ distinct_atom rel (map (renamed_term names) terms);
    test = λ cmp left right names n. ap distinct (renamed_test used cmp left right names n) ∙ distinct_test cmp (renamed_term names left) (renamed_term names right);
    both = λ fs each names n. ap distinct (renamed_and used fs names n) ∙ distinct_and (renamed_all used fs names n) ∙ all_distinct fs each names n;
    either = λ fs each names n. ap distinct (renamed_or used fs names n) ∙ distinct_or (renamed_all used fs names n) ∙ all_distinct fs each names n;
    denial = λ f here names n. ap distinct (renamed_not used f names n) ∙ distinct_not (renamed_at used f names n) ∙ here names n;
    implication = λ f g here there names n. let next : ℕ = last_at used f names n in
        ap distinct (renamed_implies used f g names n) ∙ distinct_implies (renamed_at used f names n) (renamed_at used g names next)
        ∙ and_from (distinct (renamed_at used f names n)) (distinct (renamed_at used g names next)) (here names n) (there names next);
    some = λ vars f here names n. let inner : Formula = renamed_at used f (opened used vars n names) (last_mark used vars n) in
        ap distinct (renamed_exists used vars f names n) ∙ distinct_exists (fresh used vars n) inner
        ∙ and_from (distinct_vars (fresh used vars n)) (distinct inner) (fresh_distinct used vars n) (here (opened used vars n names) (last_mark used vars n));
    every = λ vars f here names n. let inner : Formula = renamed_at used f (opened used vars n names) (last_mark used vars n) in
        ap distinct (renamed_forall used vars f names n) ∙ distinct_forall (fresh used vars n) inner
        ∙ and_from (distinct_vars (fresh used vars n)) (distinct inner) (fresh_distinct used vars n) (here (opened used vars n names) (last_mark used vars n));
  })

pub renamed_distinct : (f : Formula) → distinct (renamed f) ≡ true
renamed_distinct f = is_distinct (marks f) f [] 0
