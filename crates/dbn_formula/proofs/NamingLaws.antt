-- The renaming inside a quantifier, from its variables and the same with their new marks.
use Rattle.std.proofs.Common.{◌≡◌, ◌⊎◌, inl, inr, arith, ℕ, Bool, true, false, cond, Option, Some, List, [], ◌∷◌, length, refl, ap, sym, ◌∙◌}
use Rattle.std.specs.Map.{lookup}
use Rattle.std.specs.Option.{unwrap_or}
use Rattle.std.specs.Ordering.{is_eq}
use Rattle.dbn_value.specs.Variables.{var_cmp, vars_tie}
use Rattle.dbn_value.specs.declared.value.ColType.{ColType}
use Rattle.dbn_value.specs.declared.term.Var.{Var}
use Rattle.dbn_formula.specs.Variables.{TypedVars, var_eq}
use Rattle.dbn_formula.specs.Apart.{Renaming, marked, next_mark, fresh, opened, renamed_var}
use Rattle.dbn_formula.proofs.Firsts.{turned}
use Rattle.dbn_formula.specs.Renewing.{paired, renamed_under}

pub paired_fresh : (used : List ℕ) (vars : TypedVars) (n : ℕ) (names : Renaming) → paired vars (fresh used vars n) names ≡ opened used vars n names
paired_fresh used [] n names = refl
paired_fresh used (x ∷ vars) n names = let m = next_mark used n in paired_fresh used vars m ((x.0, marked x.0 m) ∷ names)

pub renamed_entered : (vars made : TypedVars) (names : Renaming) (x : Var) → renamed_var (paired vars made names) x ≡ renamed_under vars made x (renamed_var names x)
renamed_entered [] made names x = refl
renamed_entered (y ∷ vars) [] names x = refl
renamed_entered (y ∷ vars) (new ∷ made) names x = renamed_entered vars made ((y.0, new.0) ∷ names) x

pub renamed_by_none : (vars made : TypedVars) (x outside : Var) → (length vars ≡ 0) ⊎ (length made ≡ 0) → renamed_under vars made x outside ≡ outside
renamed_by_none [] made x outside ends = refl
renamed_by_none (y ∷ vars) [] x outside ends = refl
renamed_by_none (y ∷ vars) (new ∷ made) x outside (inl ends) = absurd (omega arith)
renamed_by_none (y ∷ vars) (new ∷ made) x outside (inr ends) = absurd (omega arith)

-- a map of the variables that were walked so far gets one more
pub finds_more : (vars made ys ns ys' ns' : TypedVars) (latest more : List (Var × Var)) (y new : Var × ColType) (k v : Var)
    → ((x outside : Var) → renamed_under vars made x outside ≡ renamed_under ys ns x (unwrap_or (lookup (λ z. is_eq (var_cmp x z)) latest) outside))
    → ys ≡ y ∷ ys' → ns ≡ new ∷ ns' → k ≡ y.0 → v ≡ new.0
    → ((q : Var) → lookup (λ z. is_eq (var_cmp q z)) more ≡ cond (is_eq (var_cmp k q)) (Some v) (lookup (λ z. is_eq (var_cmp q z)) latest))
    → (x outside : Var) → renamed_under vars made x outside ≡ renamed_under ys' ns' x (unwrap_or (lookup (λ z. is_eq (var_cmp x z)) more) outside)
finds_more vars made ys ns ys' ns' latest more y new k v before a b p q update x outside =
    before x outside
    ∙ ap (λ us. renamed_under us ns x (unwrap_or (lookup (λ z. is_eq (var_cmp x z)) latest) outside)) a
    ∙ ap (λ us. renamed_under (y ∷ ys') us x (unwrap_or (lookup (λ z. is_eq (var_cmp x z)) latest) outside)) b
    ∙ ap (renamed_under ys' ns' x) (by (var_eq x y.0) (lookup (λ z. is_eq (var_cmp x z)) latest) ∙ ap (λ found. unwrap_or found outside) (ap (λ c. cond c (Some v) (lookup (λ z. is_eq (var_cmp x z)) latest)) tied ∙ sym (update x)))
  where
    tied : var_eq x y.0 ≡ is_eq (var_cmp k x)
    tied = ap (var_eq x) (sym p) ∙ turned k x ∙ vars_tie k x

    by : (c : Bool) (found : Option Var) → cond c new.0 (unwrap_or found outside) ≡ unwrap_or (cond c (Some v) found) outside
    by true found = sym q
    by false found = refl
