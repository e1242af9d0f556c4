-- Equal variables and types, and variables in lists.
use Rattle.std.proofs.Common.{◌≡◌, ℕ, inl, inr, ⊎_elim, Bool, true, false, not, ◌==◌, List, [], ◌∷◌, refl, ap, sym, ◌∙◌, subst}
use Rattle.std.specs.Ordering.{nat_cmp, is_eq}
use Rattle.std.specs.declared.cmp.Ordering.{Ordering}
use Rattle.std.specs.declared.cmp.Ordering.TheVariants.{Less, Equal, Greater}
use Rattle.std.specs.Cmp.{both_ways, tied_itself}
use Rattle.std.specs.Cmp.Lexicographic.{slice_cmp, nat_list_cmp_total}
use Rattle.std.specs.FinMap.{nat_cmp-IsAntisymmetric, slice_cmp-IsAntisymmetric}
use Rattle.std.proofs.lemmas.Bool.{and_parts, and_from, eqb-true, eq-eqb, not_from_false, false_from_ne_true}
use Rattle.std.proofs.lemmas.Map.Text.{is_eq-slice_cmp}
use Rattle.dbn_value.specs.Names.{name_eq}
use Rattle.dbn_value.specs.Members.{In}
use Rattle.std.specs.List.{list_all}
use Rattle.dbn_value.proofs.MemberLaws.{any_in, in_any, all_at, all_from, in_filter, filter_in}
use Rattle.dbn_value.specs.declared.term.Var.{Var}
use Rattle.dbn_value.specs.declared.value.ColType.{ColType}
use Rattle.dbn_value.specs.declared.value.ColType.TheVariants as col
use Rattle.dbn_formula.specs.Variables.{TypedVars, var_eq, type_eq, is_in, binds, firsts}
use Rattle.dbn_formula.specs.Free.{unhidden}

-- ---- variables

name_same : (a b : List ℕ) → name_eq a b ≡ true → a ≡ b
name_same a b e = slice_cmp-IsAntisymmetric nat_cmp-IsAntisymmetric a b (is_equal (slice_cmp nat_cmp a b) (is_eq-slice_cmp a b ∙ e))
  where
    is_equal : (order : Ordering) → is_eq order ≡ true → order ≡ Equal
    is_equal Less f = cc
    is_equal Equal f = refl
    is_equal Greater f = cc

name_itself : (a : List ℕ) → name_eq a a ≡ true
name_itself a = sym (is_eq-slice_cmp a a) ∙ ap is_eq (tied_itself nat_list_cmp_total a)

made : List ℕ → ℕ → Var
made name mark = record { name = name; mark = mark }

pub var_same : (x y : Var) → var_eq x y ≡ true → x ≡ y
unfolding made
var_same x y e =
    let both = and_parts (name_eq x.name y.name) (x.mark == y.mark) e in
    ap (λ n. made n x.mark) (name_same x.name y.name both.0) ∙ ap (made y.name) (eqb-true x.mark y.mark both.1)

pub var_itself : (x : Var) → var_eq x x ≡ true
var_itself x = and_from (name_eq x.name x.name) (x.mark == x.mark) (name_itself x.name) (eq-eqb x.mark x.mark refl)

pub var_alike : (x y : Var) → x ≡ y → var_eq x y ≡ true
var_alike x y e = subst (λ z. var_eq x z ≡ true) e (var_itself x)

pub var_turned : (x y : Var) → var_eq x y ≡ true → var_eq y x ≡ true
var_turned x y e = var_alike y x (sym (var_same x y e))

pub var_other : (x y : Var) → (x ≡ y → ⊥) → var_eq x y ≡ false
var_other x y ne = false_from_ne_true (var_eq x y) (λ e. ne (var_same x y e))

-- ---- types

pub type_same : (a b : ColType) → type_eq a b ≡ true → a ≡ b
type_same col.Int col.Int e = refl
type_same col.Text col.Text e = refl
type_same col.Id col.Id e = refl
type_same a b e = cc

pub type_itself : (a : ColType) → type_eq a a ≡ true
type_itself col.Int = refl
type_itself col.Text = refl
type_itself col.Id = refl

-- ---- lists of variables

pub in_of_is : (x : Var) (xs : List Var) → is_in x xs ≡ true → In x xs
in_of_is x xs e =
    let found = any_in (λ y. var_eq x y) xs e in
    subst (λ z. In z xs) (sym (var_same x found.0 found.2)) found.1

pub is_of_in : (x : Var) (xs : List Var) → In x xs → is_in x xs ≡ true
is_of_in x xs at = in_any (λ y. var_eq x y) x xs at (var_itself x)

pub bound_in : (vars : TypedVars) (x : Var) → binds vars x ≡ true → (entry : Var × ColType) × In entry vars × (x ≡ entry.0)
bound_in vars x e =
    let found = any_in (λ y. var_eq x y.0) vars e in
    (found.0, found.1, var_same x found.0.0 found.2)

pub in_bound : (vars : TypedVars) (entry : Var × ColType) → In entry vars → binds vars entry.0 ≡ true
in_bound vars entry at = in_any (λ y. var_eq entry.0 y.0) entry vars at (var_itself entry.0)

pub in_unhidden : (vars : TypedVars) (x : Var) (xs : List Var) → In x (unhidden vars xs) → In x xs × (binds vars x ≡ false)
in_unhidden vars x xs at =
    let found = in_filter (λ y. not (binds vars y)) x xs at in
    (found.0, not_true (binds vars x) found.1)
  where
    not_true : (b : Bool) → not b ≡ true → b ≡ false
    not_true true e = cc
    not_true false e = refl

pub unhidden_in : (vars : TypedVars) (x : Var) (xs : List Var) → In x xs → binds vars x ≡ false → In x (unhidden vars xs)
unhidden_in vars x xs at e = filter_in (λ y. not (binds vars y)) x xs at (not_from_false (binds vars x) e)

pub in_firsts : (x : Var) (xs : List Var) → In x (firsts xs) → In x xs
in_firsts x [] at = at
in_firsts x (y ∷ ys) at =
    ⊎_elim
    (λ here. inl here)
    (λ there. inr (in_firsts x ys (in_filter (λ z. not (var_eq y z)) x (firsts ys) there).0))
    at

pub firsts_in : (x : Var) (xs : List Var) → In x xs → In x (firsts xs)
firsts_in x [] at = at
firsts_in x (y ∷ ys) at =
    ⊎_elim
    (λ here. inl here)
    (λ there.
    elim (var_eq y x) as (λ b. var_eq y x ≡ b → In x (firsts (y ∷ ys))) [
      | true ↦ λ e. inl (sym (var_same y x e))
      | false ↦ λ e. inr (filter_in (λ z. not (var_eq y z)) x (firsts ys) (firsts_in x ys there) (not_from_false (var_eq y x) e))
    ] refl)
    at

-- a test of all sees each variable once
pub all_firsts : (t : Var → Bool) (xs : List Var) → list_all t (firsts xs) ≡ list_all t xs
all_firsts t xs =
    both_ways (list_all t (firsts xs)) (list_all t xs)
    (λ e. all_from t xs (λ x at. all_at t x (firsts xs) e (firsts_in x xs at)))
    (λ e. all_from t (firsts xs) (λ x at. all_at t x xs e (in_firsts x xs at)))
