-- The solutions of a formula, variant by variant.
use Rattle.std.proofs.Common.{◌≡◌, ℕ, List, [], map, ap, ◌∙◌}
use Rattle.std.specs.Prelude.{slice_index_or}
use Rattle.std.specs.List.{flat_map}
use Rattle.std.proofs.lemmas.List.Folds.{flat_map-map}
use Rattle.dbn_value.specs.declared.term.Term.{Term}
use Rattle.dbn_value.specs.declared.term.Cmp.{Cmp}
use Rattle.dbn_formula.specs.Variables.{TypedVars}
use Rattle.dbn_formula.specs.Holds.{Env, Domain, Instance}
use Rattle.dbn_formula.specs.Solve.{is_empty, only_if, matched, tested, all_run, chosen, solve_step, solutions_over}
use Rattle.dbn_formula.specs.declared.formula.Formula.{Formula}
use Rattle.dbn_formula.specs.declared.formula.Formula.TheVariants.{Atom, Test, And, Or, Not, Implies, Exists, Forall}
use Rattle.dbn_formula.proofs.Folds.{fold_atom, fold_test, fold_and, fold_or, fold_not, fold_implies, fold_exists, fold_forall}

pub solve_atom : (dom : Domain) (db : Instance) (rel : ℕ) (terms : List Term) (env : Env) → solutions_over dom db (Atom rel terms) env ≡ flat_map (λ row. matched terms row env) (slice_index_or db rel [])
unfolding solutions_over
solve_atom dom db rel terms env = ap (λ h. h env) (fold_atom (Env → List Env) (solve_step dom db) rel terms)

pub solve_test : (dom : Domain) (db : Instance) (cmp : Cmp) (left right : Term) (env : Env) → solutions_over dom db (Test cmp left right) env ≡ tested cmp left right env
unfolding solutions_over
solve_test dom db cmp left right env = ap (λ h. h env) (fold_test (Env → List Env) (solve_step dom db) cmp left right)

pub solve_and : (dom : Domain) (db : Instance) (fs : List Formula) (env : Env) → solutions_over dom db (And fs) env ≡ all_run (map (solutions_over dom db) fs) env
unfolding solutions_over
solve_and dom db fs env = ap (λ h. h env) (fold_and (Env → List Env) (solve_step dom db) fs)

pub solve_or : (dom : Domain) (db : Instance) (fs : List Formula) (env : Env) → solutions_over dom db (Or fs) env ≡ flat_map (λ f. solutions_over dom db f env) fs
unfolding solutions_over
solve_or dom db fs env = ap (λ h. h env) (fold_or (Env → List Env) (solve_step dom db) fs) ∙ flat_map-map (λ part. part env) (solutions_over dom db) fs

pub solve_not : (dom : Domain) (db : Instance) (f : Formula) (env : Env) → solutions_over dom db (Not f) env ≡ only_if (is_empty (solutions_over dom db f env)) env
unfolding solutions_over
solve_not dom db f env = ap (λ h. h env) (fold_not (Env → List Env) (solve_step dom db) f)

pub solve_implies : (dom : Domain) (db : Instance) (f g : Formula) (env : Env) → solutions_over dom db (Implies f g) env ≡ []
unfolding solutions_over
solve_implies dom db f g env = ap (λ h. h env) (fold_implies (Env → List Env) (solve_step dom db) f g)

pub solve_exists : (dom : Domain) (db : Instance) (vars : TypedVars) (f : Formula) (env : Env) → solutions_over dom db (Exists vars f) env ≡ flat_map (chosen dom vars) (solutions_over dom db f env)
unfolding solutions_over
solve_exists dom db vars f env = ap (λ h. h env) (fold_exists (Env → List Env) (solve_step dom db) vars f)

pub solve_forall : (dom : Domain) (db : Instance) (vars : TypedVars) (f : Formula) (env : Env) → solutions_over dom db (Forall vars f) env ≡ []
unfolding solutions_over
solve_forall dom db vars f env = ap (λ h. h env) (fold_forall (Env → List Env) (solve_step dom db) vars f)

pub ruleset solve_laws = (solve_atom, solve_test, solve_and, solve_or, solve_not, solve_implies, solve_exists, solve_forall)
