-- The map of a quantifier's variables grows by one at a time.
use Rattle.std.proofs.Common.{◌≡◌, ℕ, suc, ◌+◌, ◌<◌, Bool, true, false, cond, Option, Some, List, ◌∷◌, length, get_or, drop, drop-cons, add-one, refl, ap, sym, ◌∙◌}
use Rattle.std.specs.Map.{lookup}
use Rattle.std.specs.Ordering.{is_eq}
use Rattle.dbn_value.specs.Variables.{var_cmp, vars_tie}
use Rattle.dbn_value.specs.declared.value.ColType.{ColType}
use Rattle.dbn_value.specs.declared.term.Var.{Var}
use Rattle.dbn_formula.specs.Variables.{TypedVars, var_eq}
use Rattle.dbn_formula.specs.Typing.{type_under}
use Rattle.dbn_formula.proofs.Firsts.{turned}
use Rattle.dbn_reader.specs.Quantified.{found_or}

types_more : (vars ys ys' : TypedVars) (latest more : List (Var × ColType)) (y : Var × ColType) (k : Var) (t : ColType)
    → ((x : Var) (outside : Option ColType) → type_under vars x outside ≡ type_under ys x (found_or (lookup (λ z. is_eq (var_cmp x z)) latest) outside))
    → ys ≡ y ∷ ys' → k ≡ y.0 → t ≡ y.1
    → ((q : Var) → lookup (λ z. is_eq (var_cmp q z)) more ≡ cond (is_eq (var_cmp k q)) (Some t) (lookup (λ z. is_eq (var_cmp q z)) latest))
    → (x : Var) (outside : Option ColType) → type_under vars x outside ≡ type_under ys' x (found_or (lookup (λ z. is_eq (var_cmp x z)) more) outside)
types_more vars ys ys' latest more y k t before a p q update x outside =
    before x outside
    ∙ ap (λ us. type_under us x (found_or (lookup (λ z. is_eq (var_cmp x z)) latest) outside)) a
    ∙ ap (type_under ys' x) (by (var_eq x y.0) (lookup (λ z. is_eq (var_cmp x z)) latest) ∙ ap (λ found. found_or found outside) (ap (λ c. cond c (Some t) (lookup (λ z. is_eq (var_cmp x z)) latest)) tied ∙ sym (update x)))
  where
    tied : var_eq x y.0 ≡ is_eq (var_cmp k x)
    tied = ap (var_eq x) (sym p) ∙ turned k x ∙ vars_tie k x

    by : (c : Bool) (found : Option ColType) → cond c (Some y.1) (found_or found outside) ≡ found_or (cond c (Some t) found) outside
    by true found = ap Some (sym q)
    by false found = refl

-- the same for the entry at a place of the variables
pub types_step : (vars : TypedVars) (i : ℕ) (latest more : List (Var × ColType)) (y : Var × ColType) (k : Var) → i < length vars → y ≡ get_or vars i y → k ≡ y.0
    → ((x : Var) (outside : Option ColType) → type_under vars x outside ≡ type_under (drop i vars) x (found_or (lookup (λ z. is_eq (var_cmp x z)) latest) outside))
    → ((q : Var) → lookup (λ z. is_eq (var_cmp q z)) more ≡ cond (is_eq (var_cmp k q)) (Some y.1) (lookup (λ z. is_eq (var_cmp q z)) latest))
    → (x : Var) (outside : Option ColType) → type_under vars x outside ≡ type_under (drop (i + 1) vars) x (found_or (lookup (λ z. is_eq (var_cmp x z)) more) outside)
types_step vars i latest more y k below is p before update =
    types_more vars (drop i vars) (drop (i + 1) vars) latest more y k y.1 before
    (drop-cons vars i y below ∙ ap (λ (z : Var × ColType). z ∷ drop (suc i) vars) (sym is) ∙ ap (λ (n : ℕ). y ∷ drop n vars) (sym (add-one i)))
    p refl update
