-- Entries of an environment, one at a time.
use Rattle.std.proofs.Common.{arith, ◌≡◌, ◌⊎◌, inl, inr, length, Bool, true, false, if◌then◌else◌, List, [], ◌∷◌, Option, Some, None, pos, refl, sym, ap, ◌∙◌}
use Rattle.std.specs.Option.{option_or, unwrap_or}
use Rattle.dbn_value.specs.Variables.{var_eq}
use Rattle.dbn_value.specs.Scope.{TypedVars, Env, lookup, value_of, bind, entry_of, known_value}
use Rattle.dbn_value.specs.declared.value.Value.{Value}
use Rattle.dbn_value.specs.declared.value.Value.TheVariants.{Int}
use Rattle.dbn_value.specs.declared.value.ColType.{ColType}
use Rattle.dbn_value.specs.declared.term.Var.{Var}
use Rattle.dbn_value.specs.declared.term.Term.{Term}
use Rattle.dbn_value.specs.declared.term.Term.TheVariants as term

-- a variable without an entry stands for 0
pub lookup_is : (env : Env) (x : Var) → unwrap_or (entry_of env x) (Int (pos 0)) ≡ lookup env x
lookup_is [] x = refl
lookup_is (entry ∷ env) x =
    elim (var_eq x entry.0) as (λ b. unwrap_or (if b then Some entry.1 else entry_of env x) (Int (pos 0)) ≡ (if b then entry.1 else lookup env x)) [
      | true ↦ refl
      | false ↦ lookup_is env x
    ]

pub known_is : (env : Env) (t : Term) → unwrap_or (known_value env t) (Int (pos 0)) ≡ value_of env t
known_is env (term.Var x) = lookup_is env x
known_is env (term.Const v) = refl

or_assoc : {A : Type 0} (a b c : Option A) → option_or (option_or a b) c ≡ option_or a (option_or b c)
or_assoc None b c = refl
or_assoc (Some x) b c = refl

pub entry_first : (y x : Var) (v : Value) (env : Env) → entry_of ((y, v) ∷ env) x ≡ option_or (if var_eq x y then Some v else None) (entry_of env x)
entry_first y x v env =
    elim (var_eq x y) as (λ b. (if b then Some v else entry_of env x) ≡ option_or (if b then Some v else None) (entry_of env x)) [
      | true ↦ refl
      | false ↦ refl
    ]

-- what was bound before counts where nothing later does
pub bound_later : (vars : TypedVars) (row : List Value) (env : Env) (x : Var) → entry_of (bind vars row env) x ≡ option_or (entry_of (bind vars row []) x) (entry_of env x)
bound_later [] row env x = refl
bound_later (y ∷ vars) [] env x = refl
bound_later (y ∷ vars) (v ∷ row) env x =
    let here = if var_eq x y.0 then Some v else None in
    bound_later vars row ((y.0, v) ∷ env) x
    ∙ ap (option_or (entry_of (bind vars row []) x)) (entry_first y.0 x v env)
    ∙ sym (or_assoc (entry_of (bind vars row []) x) here (entry_of env x))
    ∙ ap (λ o. option_or o (entry_of env x)) (sym (bound_later vars row ((y.0, v) ∷ []) x))

-- the value that was found last, after one more variable
abbrev pub newest : Bool → Value → Option Value → Option Value
newest b v last = if b then Some v else last

pub one_bound : (y : Var × ColType) (vars : TypedVars) (v : Value) (row : List Value) (x : Var) (last : Option Value) → option_or (entry_of (bind (y ∷ vars) (v ∷ row) []) x) last ≡ option_or (entry_of (bind vars row []) x) (newest (var_eq x y.0) v last)
one_bound y vars v row x last =
    ap (λ o. option_or o last) (bound_later vars row ((y.0, v) ∷ []) x)
    ∙ or_assoc (entry_of (bind vars row []) x) (if var_eq x y.0 then Some v else None) last
    ∙ ap (option_or (entry_of (bind vars row []) x))
    (elim (var_eq x y.0) as (λ b. option_or (if b then Some v else None) last ≡ newest b v last) [ true ↦ refl | false ↦ refl ])

-- one more variable with its value
pub passed : (vars vars' : TypedVars) (row row' : List Value) (y : Var × ColType) (v : Value) (x : Var) (b : Bool) (last all : Option Value) → vars ≡ y ∷ vars' → row ≡ v ∷ row' → b ≡ var_eq x y.0 → all ≡ option_or (entry_of (bind vars row []) x) last → all ≡ option_or (entry_of (bind vars' row' []) x) (newest b v last)
passed vars vars' row row' y v x b last all p q is e =
    e ∙ ap (λ vs. option_or (entry_of (bind vs row []) x) last) p
    ∙ ap (λ r. option_or (entry_of (bind (y ∷ vars') r []) x) last) q
    ∙ one_bound y vars' v row' x last
    ∙ ap (λ t. option_or (entry_of (bind vars' row' []) x) (newest t v last)) (sym is)

-- no variable or no value is left
pub all_passed : (vars : TypedVars) (row : List Value) (x : Var) (last all : Option Value) → (length vars ≡ 0) ⊎ (length row ≡ 0) → all ≡ option_or (entry_of (bind vars row []) x) last → last ≡ all
all_passed [] row x last all end e = sym e
all_passed (y ∷ vars) [] x last all end e = sym e
all_passed (y ∷ vars) (v ∷ row) x last all (inl end) e = absurd (omega arith)
all_passed (y ∷ vars) (v ∷ row) x last all (inr end) e = absurd (omega arith)
