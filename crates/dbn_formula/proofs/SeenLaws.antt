-- Variables that stand once: a list is walked, and those before are kept in a set.
use Rattle.std.proofs.Common.{◌≡◌, ℕ, suc, ◌+◌, ◌<◌, Bool, true, false, not, ◌&&◌, ◌||◌, List, [], ◌∷◌, refl, ap, sym, ◌∙◌, subst, length, get_or, drop, drop-cons, add-one}
use Rattle.std.specs.Ordering.{is_eq}
use Rattle.std.specs.Cmp.{both_ways}
use Rattle.std.specs.List.{list_any, list_all}
use Rattle.std.specs.declared.cmp.Ordering.{Ordering}
use Rattle.std.specs.declared.cmp.Ordering.TheVariants.{Less, Equal, Greater}
use Rattle.std.specs.BTreeSet.{insert_key}
use Rattle.dbn_value.specs.Variables.{var_eq, var_cmp, vars_tie, exact_vars}
use Rattle.dbn_value.specs.declared.value.ColType.{ColType}
use Rattle.dbn_value.specs.declared.term.Var.{Var}
use Rattle.dbn_formula.specs.Variables.{TypedVars, binds}
use Rattle.dbn_formula.specs.Distinct.{distinct_vars}
use Rattle.dbn_formula.proofs.VariableLaws.{var_turned}

or_swap : (a b c : Bool) → (a || (b || c)) ≡ (b || (a || c))
or_swap true true c = refl
or_swap true false c = refl
or_swap false b c = refl

or_same : (a c : Bool) → (a || c) ≡ (a || (a || c))
or_same true c = refl
or_same false c = refl

turned : (x y : Var) → var_eq x y ≡ var_eq y x
turned x y = both_ways (var_eq x y) (var_eq y x) (var_turned x y) (var_turned y x)

-- one more before, and one less to come
one_of_both : (a b c d : Bool) → (not (a || b) && (not c && d)) ≡ (not (a || c) && (not b && d))
one_of_both true b c d = refl
one_of_both false true true d = refl
one_of_both false true false d = refl
one_of_both false false true d = refl
one_of_both false false false d = refl

new_one : (a b c d : Bool) → c ≡ false → ((a && b) && (not c && d)) ≡ (b && (a && d))
new_one true true false d e = refl
new_one true false false d e = refl
new_one false true false d e = refl
new_one false false false d e = refl
new_one a b true d e = cc

old_one : (a b c d : Bool) → c ≡ true → ((a && b) && (not c && d)) ≡ false
old_one true true true d e = refl
old_one true false true d e = refl
old_one false b true d e = refl
old_one a b false d e = cc

and_true : (b : Bool) → (b && true) ≡ b
and_true true = refl
and_true false = refl

module _ {X : Type 0} (v : X → Var) where
  abbrev pub seen : List X → Var → Bool
  seen keys x = list_any (λ k. is_eq (var_cmp x (v k))) keys

  -- none of the variables is seen
  abbrev pub unseen : List X → TypedVars → Bool
  unseen keys vars = list_all (λ y. not (seen keys y.0)) vars

  abbrev by_var : X → X → Ordering
  by_var a b = var_cmp (v a) (v b)

  inserted : (keys : List X) (k : X) (x : Var) → seen (insert_key by_var keys k) x ≡ (is_eq (var_cmp x (v k)) || seen keys x)
  inserted [] k x = refl
  inserted (y ∷ ys) k x =
      elim (var_cmp (v k) (v y)) as (λ r. var_cmp (v k) (v y) ≡ r → seen (insert_key by_var (y ∷ ys) k) x ≡ (is_eq (var_cmp x (v k)) || seen (y ∷ ys) x)) [
        | Less ↦ λ e. rw e refl
        | Equal ↦ λ e. rw e (rw (exact_vars (v k) (v y) e) (or_same (is_eq (var_cmp x (v y))) (seen ys x)))
        | Greater ↦ λ e. rw e (ap (λ b. is_eq (var_cmp x (v y)) || b) (inserted ys k x) ∙ or_swap (is_eq (var_cmp x (v y))) (is_eq (var_cmp x (v k))) (seen ys x))
      ] refl

  one_seen : (keys : List X) (k : X) (x : Var) → seen (insert_key by_var keys k) x ≡ (var_eq (v k) x || seen keys x)
  one_seen keys k x = inserted keys k x ∙ ap (λ b. b || seen keys x) (sym (vars_tie x (v k)) ∙ turned x (v k))

  unseen_more : (keys : List X) (k : X) (vars : TypedVars) → unseen (insert_key by_var keys k) vars ≡ (not (binds vars (v k)) && unseen keys vars)
  unseen_more keys k [] = refl
  unseen_more keys k (y ∷ vars) =
      ap (λ b. not b && unseen (insert_key by_var keys k) vars) (one_seen keys k y.0)
      ∙ ap (λ b. not (var_eq (v k) y.0 || seen keys y.0) && b) (unseen_more keys k vars)
      ∙ one_of_both (var_eq (v k) y.0) (seen keys y.0) (binds vars (v k)) (unseen keys vars)

  -- a variable that is new is seen from now on
  pub seen_step : (vars : TypedVars) (i : ℕ) (x : Var × ColType) (keys more : List X) (k : X) (all : Bool) → i < length vars → x ≡ get_or vars i x → v k ≡ x.0
      → seen keys (v k) ≡ false → more ≡ insert_key by_var keys k
      → all ≡ (distinct_vars (drop i vars) && unseen keys (drop i vars)) → all ≡ (distinct_vars (drop (i + 1) vars) && unseen more (drop (i + 1) vars))
  seen_step vars i x keys more k all less is same e grown was =
      let rest : TypedVars = drop (suc i) vars in
      let here : drop i vars ≡ x ∷ rest = drop-cons vars i x less ∙ ap (λ y. y ∷ rest) (sym is) in
      let next : drop (i + 1) vars ≡ rest = ap (λ n. drop n vars) (add-one i) in
      was
      ∙ ap (λ l. distinct_vars l && unseen keys l) here
      ∙ new_one (not (binds rest x.0)) (distinct_vars rest) (seen keys x.0) (unseen keys rest) (ap (seen keys) (sym same) ∙ e)
      ∙ ap (λ y. distinct_vars rest && (not (binds rest y) && unseen keys rest)) (sym same)
      ∙ ap (λ b. distinct_vars rest && b) (sym (unseen_more keys k rest))
      ∙ ap (λ ks. distinct_vars rest && unseen ks rest) (sym grown)
      ∙ ap (λ l. distinct_vars l && unseen more l) (sym next)

  -- one that is seen already stands twice
  pub seen_twice : (vars : TypedVars) (i : ℕ) (x : Var × ColType) (keys : List X) (k : X) (all : Bool) → i < length vars → x ≡ get_or vars i x → v k ≡ x.0
      → seen keys (v k) ≡ true → all ≡ (distinct_vars (drop i vars) && unseen keys (drop i vars)) → all ≡ false
  seen_twice vars i x keys k all less is same e was =
      let rest : TypedVars = drop (suc i) vars in
      let here : drop i vars ≡ x ∷ rest = drop-cons vars i x less ∙ ap (λ y. y ∷ rest) (sym is) in
      was
      ∙ ap (λ l. distinct_vars l && unseen keys l) here
      ∙ old_one (not (binds rest x.0)) (distinct_vars rest) (seen keys x.0) (unseen keys rest) (ap (seen keys) (sym same) ∙ e)

  none_seen : (vars : TypedVars) → unseen [] vars ≡ true
  none_seen [] = refl
  none_seen (x ∷ vars) = none_seen vars

  pub seen_start : (vars : TypedVars) (keys : List X) → keys ≡ [] → distinct_vars vars ≡ (distinct_vars vars && unseen keys vars)
  seen_start vars keys e = sym (ap (λ ks. distinct_vars vars && unseen ks vars) e ∙ ap (λ b. distinct_vars vars && b) (none_seen vars) ∙ and_true (distinct_vars vars))
