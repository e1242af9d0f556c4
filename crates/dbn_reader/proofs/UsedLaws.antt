-- A set of variables that grows with a list of them.
use Rattle.std.proofs.Common.{◌≡◌, ℕ, ◌+◌, ◌<◌, Bool, true, false, ◌||◌, List, [], ◌∷◌, ◌++◌, refl, sym, ap, ◌∙◌, length, get_or, take}
use Rattle.std.specs.List.{list_any}
use Rattle.std.specs.Ordering.{is_eq}
use Rattle.std.specs.declared.cmp.Ordering.{Ordering}
use Rattle.std.specs.declared.cmp.Ordering.TheVariants.{Less, Equal, Greater}
use Rattle.std.specs.BTreeSet.{insert_key}
use Rattle.std.proofs.lemmas.List.{take_more}
use Rattle.dbn_value.specs.Variables.{var_eq, var_cmp, vars_tie, exact_vars}
use Rattle.dbn_value.specs.declared.term.Var.{Var}
use Rattle.dbn_formula.specs.Variables.{is_in}
use Rattle.dbn_formula.proofs.KnownLaws.{is_in-push}
use Rattle.dbn_reader.specs.Used.{HasVars}

or_swap : (a b c : Bool) → (a || (b || c)) ≡ (b || (a || c))
or_swap true true c = refl
or_swap true false c = refl
or_swap false b c = refl

or_same : (a c : Bool) → (a || c) ≡ (a || (a || c))
or_same true c = refl
or_same false c = refl

module _ {X : Type 0} (v : X → Var) where
  abbrev tied : List X → Var → Bool
  tied keys x = list_any (λ k. is_eq (var_cmp x (v k))) keys

  abbrev by_var : X → X → Ordering
  by_var a b = var_cmp (v a) (v b)

  inserted : (keys : List X) (k : X) (x : Var) → tied (insert_key by_var keys k) x ≡ (is_eq (var_cmp x (v k)) || tied keys x)
  inserted [] k x = refl
  inserted (y ∷ ys) k x =
      elim (var_cmp (v k) (v y)) as (λ r. var_cmp (v k) (v y) ≡ r → tied (insert_key by_var (y ∷ ys) k) x ≡ (is_eq (var_cmp x (v k)) || tied (y ∷ ys) x)) [
        | Less ↦ λ e. rw e refl
        | Equal ↦ λ e. rw e (rw (exact_vars (v k) (v y) e) (or_same (is_eq (var_cmp x (v y))) (tied ys x)))
        | Greater ↦ λ e. rw e (ap (λ b. is_eq (var_cmp x (v y)) || b) (inserted ys k x) ∙ or_swap (is_eq (var_cmp x (v y))) (is_eq (var_cmp x (v k))) (tied ys x))
      ] refl

  pub has_none : (keys : List X) → keys ≡ [] → HasVars v keys []
  has_none keys e x = ap (λ ks. tied ks x) e

  -- one more variable of the list
  pub has_more : (vars : List Var) (i : ℕ) (y : Var) (keys more : List X) (k : X) → i < length vars → y ≡ get_or vars i y → v k ≡ y → more ≡ insert_key by_var keys k
      → HasVars v keys (take i vars) → HasVars v more (take (i + 1) vars)
  has_more vars i y keys more k less is same grown has x =
      ap (λ ks. tied ks x) grown
      ∙ inserted keys k x
      ∙ ap (λ b. b || tied keys x) (sym (vars_tie x (v k)))
      ∙ ap (λ z. var_eq x z || tied keys x) same
      ∙ ap (λ b. var_eq x y || b) (has x)
      ∙ sym (is_in-push x (take i vars) y)
      ∙ ap (is_in x) (sym (take_more vars i y less ∙ ap (λ z. take i vars ++ z ∷ []) (sym is)))
