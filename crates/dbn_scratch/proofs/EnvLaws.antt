-- Entries of an environment as they are looked up and given.
use Rattle.std.proofs.Common.{◌≡◌, true, false, ◌||◌, if◌then◌else◌, [], ◌∷◌, Some, None, pos, refl, ap, sym, ◌∙◌, is_some}
use Rattle.std.specs.Option.{unwrap_or}
use Rattle.dbn_value.specs.Variables.{var_eq}
use Rattle.dbn_value.specs.Scope.{Env, lookup, entry_of}
use Rattle.dbn_value.specs.declared.value.Value.{Value}
use Rattle.dbn_value.specs.declared.value.Value.TheVariants.{Int}
use Rattle.dbn_value.specs.declared.term.Var.{Var}
use Rattle.dbn_value.specs.declared.term.Term.TheVariants as term
use Rattle.dbn_value.proofs.Scopes.{lookup_is}
use Rattle.dbn_formula.specs.Solve.{value_eq, is_bound, only_if, term_is}

-- a variable is bound where it has an entry
pub known_is_bound : (env : Env) (x : Var) → is_some (entry_of env x) ≡ is_bound env x
known_is_bound [] x = refl
known_is_bound (entry ∷ env) x =
    elim (var_eq x entry.0) as (λ b. is_some (if b then Some entry.1 else entry_of env x) ≡ (b || is_bound env x)) [
      | true ↦ refl
      | false ↦ known_is_bound env x
    ]

-- what it stands for
pub known_value : (env : Env) (x : Var) (v : Value) → entry_of env x ≡ Some v → v ≡ lookup env x
known_value env x v e = sym (ap (λ o. unwrap_or o (Int (pos 0))) e) ∙ lookup_is env x

pub unknown_value : (env : Env) (x : Var) → entry_of env x ≡ None → Int (pos 0) ≡ lookup env x
unknown_value env x e = sym (ap (λ o. unwrap_or o (Int (pos 0))) e) ∙ lookup_is env x

-- a variable with a value is tested
pub known_term : (env : Env) (x : Var) (old v : Value) → entry_of env x ≡ Some old → term_is (term.Var x) v env ≡ only_if (value_eq old v) env
known_term env x old v e =
    ap (λ b. if b then only_if (value_eq (lookup env x) v) env else ((x, v) ∷ env) ∷ []) (sym (known_is_bound env x) ∙ ap is_some e)
    ∙ ap (λ w. only_if (value_eq w v) env) (sym (known_value env x old e))

-- one without takes it
pub new_term : (env : Env) (x : Var) (v : Value) → entry_of env x ≡ None → term_is (term.Var x) v env ≡ only_if true ((x, v) ∷ env)
new_term env x v e =
    ap (λ b. if b then only_if (value_eq (lookup env x) v) env else ((x, v) ∷ env) ∷ []) (sym (known_is_bound env x) ∙ ap is_some e)
