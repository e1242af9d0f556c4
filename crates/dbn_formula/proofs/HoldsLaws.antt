-- What a formula means, variant by variant.
use Rattle.std.proofs.Common.{◌≡◌, ℕ, Bool, not, ◌||◌, List, [], map, ap, ◌∙◌}
use Rattle.std.specs.Prelude.{slice_index_or}
use Rattle.std.specs.List.{list_any, list_all}
use Rattle.std.proofs.lemmas.List.Folds.{list_all-map}
use Rattle.dbn_value.proofs.MemberLaws.{any_map}
use Rattle.dbn_value.specs.Order.{value_cmp}
use Rattle.dbn_formula.specs.Holds.{Env, Domain, Instance, value_of, meets, row_eq, some_choice, every_choice, holds_step, holds_over}
use Rattle.dbn_value.specs.declared.term.Term.{Term}
use Rattle.dbn_value.specs.declared.term.Cmp.{Cmp}
use Rattle.dbn_formula.specs.Variables.{TypedVars}
use Rattle.dbn_formula.specs.declared.formula.Formula.{Formula}
use Rattle.dbn_formula.specs.declared.formula.Formula.TheVariants.{Atom, Test, And, Or, Not, Implies, Exists, Forall}
use Rattle.dbn_formula.proofs.Folds.{fold_atom, fold_test, fold_and, fold_or, fold_not, fold_implies, fold_exists, fold_forall}

pub holds_atom : (dom : Domain) (db : Instance) (rel : ℕ) (terms : List Term) (env : Env) → holds_over dom db (Atom rel terms) env ≡ list_any (λ row. row_eq row (map (value_of env) terms)) (slice_index_or db rel [])
unfolding holds_over
holds_atom dom db rel terms env = ap (λ h. h env) (fold_atom (Env → Bool) (holds_step dom db) rel terms)

pub holds_test : (dom : Domain) (db : Instance) (cmp : Cmp) (left right : Term) (env : Env) → holds_over dom db (Test cmp left right) env ≡ meets cmp (value_cmp (value_of env left) (value_of env right))
unfolding holds_over
holds_test dom db cmp left right env = ap (λ h. h env) (fold_test (Env → Bool) (holds_step dom db) cmp left right)

pub holds_and : (dom : Domain) (db : Instance) (fs : List Formula) (env : Env) → holds_over dom db (And fs) env ≡ list_all (λ f. holds_over dom db f env) fs
unfolding holds_over
holds_and dom db fs env = ap (λ h. h env) (fold_and (Env → Bool) (holds_step dom db) fs)
    ∙ list_all-map (λ part. part env) (holds_over dom db) fs

pub holds_or : (dom : Domain) (db : Instance) (fs : List Formula) (env : Env) → holds_over dom db (Or fs) env ≡ list_any (λ f. holds_over dom db f env) fs
unfolding holds_over
holds_or dom db fs env = ap (λ h. h env) (fold_or (Env → Bool) (holds_step dom db) fs)
    ∙ any_map (λ part. part env) (holds_over dom db) fs

pub holds_not : (dom : Domain) (db : Instance) (f : Formula) (env : Env) → holds_over dom db (Not f) env ≡ not (holds_over dom db f env)
unfolding holds_over
holds_not dom db f env = ap (λ h. h env) (fold_not (Env → Bool) (holds_step dom db) f)

pub holds_implies : (dom : Domain) (db : Instance) (f g : Formula) (env : Env) → holds_over dom db (Implies f g) env ≡ (not (holds_over dom db f env) || holds_over dom db g env)
unfolding holds_over
holds_implies dom db f g env = ap (λ h. h env) (fold_implies (Env → Bool) (holds_step dom db) f g)

pub holds_exists : (dom : Domain) (db : Instance) (vars : TypedVars) (f : Formula) (env : Env) → holds_over dom db (Exists vars f) env ≡ some_choice dom vars (holds_over dom db f) env
unfolding holds_over
holds_exists dom db vars f env = ap (λ h. h env) (fold_exists (Env → Bool) (holds_step dom db) vars f)

pub holds_forall : (dom : Domain) (db : Instance) (vars : TypedVars) (f : Formula) (env : Env) → holds_over dom db (Forall vars f) env ≡ every_choice dom vars (holds_over dom db f) env
unfolding holds_over
holds_forall dom db vars f env = ap (λ h. h env) (fold_forall (Env → Bool) (holds_step dom db) vars f)

pub ruleset holds_laws = (holds_atom, holds_test, holds_and, holds_or, holds_not, holds_implies, holds_exists, holds_forall)
