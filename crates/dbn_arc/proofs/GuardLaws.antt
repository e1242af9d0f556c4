-- What a guard says, variant by variant.
use Rattle.std.proofs.Common.{◌≡◌, ℕ, Bool, false, not, ◌&&◌, ◌||◌, ◌==◌, List, [], ◌∷◌, length, refl, ap, sym, ◌∙◌}
use Rattle.std.proofs.Math.Dec.{eqb-suc-zero}
use Rattle.std.specs.Prelude.{slice_index_or, map}
use Rattle.std.specs.List.{list_any, list_all}
use Rattle.dbn_value.specs.Order.{value_cmp, meets}
use Rattle.dbn_value.specs.declared.value.Value.{Value}
use Rattle.dbn_value.specs.declared.term.Term.{Term}
use Rattle.dbn_value.specs.declared.term.Cmp.{Cmp}
use Rattle.dbn_formula.specs.Variables.{TypedVars}
use Rattle.dbn_formula.specs.Holds.{Env, value_of, row_eq, some_choice, every_choice, holds_over}
use Rattle.dbn_formula.specs.declared.formula.Formula.{Formula}
use Rattle.dbn_formula.specs.declared.formula.Formula.TheVariants.{Atom, Test, And, Or, Not, Implies, Exists, Forall}
use Rattle.dbn_formula.proofs.HoldsLaws.{holds_atom, holds_test, holds_and, holds_or, holds_not, holds_implies, holds_exists, holds_forall}
use Rattle.dbn_net.specs.Enabled.{guard_holds}

nothing : (rel : ℕ) → slice_index_or {A = List (List Value)} [] rel [] ≡ []
nothing rel = refl

pub guard_atom : (rel : ℕ) (terms : List Term) (env : Env) → guard_holds (Atom rel terms) env ≡ false
guard_atom rel terms env = holds_atom (λ type. []) [] rel terms env ∙ ap (list_any (λ row. row_eq row (map (value_of env) terms))) (nothing rel)

pub guard_test : (c : Cmp) (left right : Term) (env : Env) → guard_holds (Test c left right) env ≡ meets c (value_cmp (value_of env left) (value_of env right))
guard_test c left right env = holds_test (λ type. []) [] c left right env

pub guard_and : (fs : List Formula) (env : Env) → guard_holds (And fs) env ≡ list_all (λ g. guard_holds g env) fs
guard_and fs env = holds_and (λ type. []) [] fs env

pub guard_or : (fs : List Formula) (env : Env) → guard_holds (Or fs) env ≡ list_any (λ g. guard_holds g env) fs
guard_or fs env = holds_or (λ type. []) [] fs env

pub guard_not : (f : Formula) (env : Env) → guard_holds (Not f) env ≡ not (guard_holds f env)
guard_not f env = holds_not (λ type. []) [] f env

pub guard_implies : (f g : Formula) (env : Env) → guard_holds (Implies f g) env ≡ (not (guard_holds f env) || guard_holds g env)
guard_implies f g env = holds_implies (λ type. []) [] f g env

no_choice : (vars : TypedVars) (test : Env → Bool) (env : Env) → some_choice (λ type. []) vars test env ≡ ((length vars == 0) && test env)
no_choice [] test env = refl
no_choice (x ∷ vars) test env = ap (λ b. b && test env) (sym (eqb-suc-zero (length vars)))

all_choices : (vars : TypedVars) (test : Env → Bool) (env : Env) → every_choice (λ type. []) vars test env ≡ (not (length vars == 0) || test env)
all_choices [] test env = refl
all_choices (x ∷ vars) test env = ap (λ b. not b || test env) (sym (eqb-suc-zero (length vars)))

pub guard_exists : (vars : TypedVars) (f : Formula) (env : Env) → guard_holds (Exists vars f) env ≡ ((length vars == 0) && guard_holds f env)
guard_exists vars f env = holds_exists (λ type. []) [] vars f env ∙ no_choice vars (holds_over (λ type. []) [] f) env

pub guard_forall : (vars : TypedVars) (f : Formula) (env : Env) → guard_holds (Forall vars f) env ≡ (not (length vars == 0) || guard_holds f env)
guard_forall vars f env = holds_forall (λ type. []) [] vars f env ∙ all_choices vars (holds_over (λ type. []) [] f) env

pub ruleset guard_laws = (guard_atom, guard_test, guard_and, guard_or, guard_not, guard_implies, guard_exists, guard_forall)
