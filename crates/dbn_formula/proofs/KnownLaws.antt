-- A set of variables that grows with a list of them.
use Rattle.std.proofs.Common.{◌≡◌, Result, Ok, Err, OnOk, is_err, Bool, true, false, not, cond, ◌||◌, List, [], ◌∷◌, ◌++◌, inl, inr, refl, ap, sym, ◌∙◌, subst}
use Rattle.std.specs.List.{list_any}
use Rattle.std.specs.Ordering.{is_eq}
use Rattle.std.specs.declared.cmp.Ordering.{Ordering}
use Rattle.std.specs.declared.cmp.Ordering.TheVariants.{Less, Equal, Greater}
use Rattle.std.specs.BTreeSet.{insert_key}
use Rattle.dbn_value.specs.Variables.{var_eq, var_cmp, vars_tie, exact_vars}
use Rattle.dbn_value.specs.declared.term.Var.{Var}
use Rattle.dbn_formula.specs.Variables.{TypedVars, is_in, binds}
use Rattle.std.proofs.lemmas.Bool.{false_from_ne_true}
use Rattle.dbn_value.specs.Members.{In}
use Rattle.dbn_value.proofs.MemberLaws.{in_any}
use Rattle.dbn_formula.specs.Safe.{outside}
use Rattle.dbn_formula.specs.Known.{Knows, hides_bound}
use Rattle.dbn_formula.proofs.VariableLaws.{bound_in, is_of_in}

or_swap : (a b c : Bool) → (a || (b || c)) ≡ (b || (a || c))
or_swap true true c = refl
or_swap true false c = refl
or_swap false b c = refl

or_same : (a c : Bool) → (a || c) ≡ (a || (a || c))
or_same true c = refl
or_same false c = refl

abbrev any_tied : List Var → Var → Bool
any_tied keys x = list_any (λ y. is_eq (var_cmp x y)) keys

inserted : (keys : List Var) (k x : Var) → any_tied (insert_key var_cmp keys k) x ≡ (is_eq (var_cmp x k) || any_tied keys x)
inserted [] k x = refl
inserted (y ∷ ys) k x =
    elim (var_cmp k y) as (λ r. var_cmp k y ≡ r → any_tied (insert_key var_cmp (y ∷ ys) k) x ≡ (is_eq (var_cmp x k) || any_tied (y ∷ ys) x)) [
      | Less ↦ λ e. rw e refl
      | Equal ↦ λ e. rw e (rw (exact_vars k y e) (or_same (is_eq (var_cmp x y)) (any_tied ys x)))
      | Greater ↦ λ e. rw e (ap (λ b. is_eq (var_cmp x y) || b) (inserted ys k x) ∙ or_swap (is_eq (var_cmp x y)) (is_eq (var_cmp x k)) (any_tied ys x))
    ] refl

pub is_in-push : (x : Var) (xs : List Var) (y : Var) → is_in x (xs ++ y ∷ []) ≡ (var_eq x y || is_in x xs)
is_in-push x [] y = refl
is_in-push x (z ∷ zs) y = ap (λ b. var_eq x z || b) (is_in-push x zs y) ∙ or_swap (var_eq x z) (var_eq x y) (is_in x zs)

-- the set and the list get the same variable
pub knows_more : (keys more xs ys : List Var) (k : Var) → Knows keys xs → more ≡ insert_key var_cmp keys k → ys ≡ xs ++ k ∷ [] → Knows more ys
knows_more keys more xs ys k known e f x =
    ap (λ ks. any_tied ks x) e
    ∙ inserted keys k x
    ∙ ap (λ b. b || any_tied keys x) (sym (vars_tie x k))
    ∙ ap (λ b. var_eq x k || b) (known x)
    ∙ sym (is_in-push x xs k)
    ∙ ap (is_in x) (sym f)

pub from_ok : {A E P : Type 0} (r : Result A E) → is_err r ≡ false → OnOk r P → P
from_ok (Ok x) e p = p
from_ok (Err y) e p = cc

pub is_in_append : (x : Var) (xs ys : List Var) → is_in x (xs ++ ys) ≡ (is_in x xs || is_in x ys)
is_in_append x [] ys = refl
is_in_append x (z ∷ zs) ys = ap (λ b. var_eq x z || b) (is_in_append x zs ys) ∙ sym (or_more (var_eq x z) (is_in x zs) (is_in x ys))
  where
    or_more : (a b c : Bool) → ((a || b) || c) ≡ (a || (b || c))
    or_more true b c = refl
    or_more false b c = refl

-- where no variable of a quantifier is bound, all that is bound stays so inside
pub nothing_hidden : (vars : TypedVars) (bound : List Var) → hides_bound vars bound ≡ false → outside vars bound ≡ bound
nothing_hidden vars bound e = all_kept bound (λ y at. false_from_ne_true (binds vars y) (λ hides. clash y at hides))
  where
    clash : (y : Var) → In y bound → binds vars y ≡ true → ⊥
    clash y at hides =
        let entry = bound_in vars y hides in
        differ (sym (in_any (λ z. is_in z.0 bound) entry.0 vars entry.1 (is_of_in entry.0.0 bound (subst (λ z. In z bound) entry.2 at))) ∙ e)
      where
        differ : true ≡ false → ⊥
        differ f = cc

    all_kept : (xs : List Var) → ((y : Var) → In y xs → binds vars y ≡ false) → outside vars xs ≡ xs
    all_kept [] each = refl
    all_kept (y ∷ ys) each =
        ap (λ b. cond (not b) (y ∷ outside vars ys) (outside vars ys)) (each y (inl refl)) ∙ ap (λ zs. y ∷ zs) (all_kept ys (λ z at. each z (inr at)))
