-- The rows of a node at some of its variables alone: whether an environment has the values of one of them is a test.
use Rattle.std.proofs.Common.{◌≡◌, inl, inr, Bool, true, List, [], ◌∷◌, refl, ap, sym, ◌∙◌, subst, Option, Some}
use Rattle.std.specs.List.{list_any, list_all}
use Rattle.std.specs.Ordering.{is_eq}
use Rattle.std.specs.Cmp.{Equal-is, tied_itself, both_ways}
use Rattle.dbn_value.specs.Members.{In}
use Rattle.dbn_value.proofs.MemberLaws.{any_in, in_any, all_at, all_from}
use Rattle.dbn_value.specs.Order.{value_cmp, value_total, exact_values}
use Rattle.dbn_value.specs.declared.value.Value.{Value}
use Rattle.dbn_value.specs.declared.term.Var.{Var}
use Rattle.dbn_value.specs.declared.term.Term.{Term}
use Rattle.dbn_formula.specs.Holds.{Env, Agree, lookup}
use Rattle.dbn_plan.specs.Meaning.{Means, Gives, LooksAt, vars_of}
use Rattle.dbn_plan.proofs.Rows.{gives_agree}

-- the two give these variables the same values
unfoldable same_values : List Var → Env → Env → Bool
same_values xs s t = list_all (λ x. is_eq (value_cmp (lookup s x) (lookup t x))) xs

values_same : (xs : List Var) (s t : Env) → same_values xs s t ≡ true → Agree xs s t
unfolding same_values
values_same xs s t e x at = exact_values (lookup s x) (lookup t x) ((Equal-is (value_cmp (lookup s x) (lookup t x))).0 (all_at (λ y. is_eq (value_cmp (lookup s y) (lookup t y))) x xs e at))

same_at_all : (xs : List Var) (s t : Env) → Agree xs s t → same_values xs s t ≡ true
unfolding same_values
same_at_all xs s t agree =
    all_from (λ y. is_eq (value_cmp (lookup s y) (lookup t y))) xs
    (λ x at. subst (λ v. is_eq (value_cmp (lookup s x) v) ≡ true) (agree x at) (ap is_eq (tied_itself value_total (lookup s x))))

-- a test for the rows at these variables: it passes where p does, and where it passes, p passes with the same values of them
pub record Drawn (xs : List Var) (p : Env → Bool) : Type 0 where
  pub test : Env → Bool
  pub there : (t : Env) → p t ≡ true → test t ≡ true
  pub back : (t : Env) → test t ≡ true → (s : Env) × Agree xs s t × (p s ≡ true)
  pub looks : LooksAt xs test

module _ {C : Type 0} (K : Value → Option C) (labels : List Term) (p : Env → Bool) where
  abbrev Comes : List (List C) → Type 0
  Comes rows = (row : List C) → In row rows → (t : Env) × Gives K t labels row × (p t ≡ true)

  envs : (rows : List (List C)) → Comes rows → List Env
  envs [] each = []
  envs (row ∷ rows) each = (each row (inl refl)).0 ∷ envs rows (λ r at. each r (inr at))

  env_passes : (rows : List (List C)) (each : Comes rows) (s : Env) → In s (envs rows each) → p s ≡ true
  unfolding envs
  env_passes [] each s at = absurd at
  env_passes (row ∷ rows) each s (inl is) = subst (λ u. p u ≡ true) (sym is) (each row (inl refl)).2
  env_passes (row ∷ rows) each s (inr at) = env_passes rows (λ r h. each r (inr h)) s at

  env_of : (rows : List (List C)) (each : Comes rows) (row : List C) → In row rows → (s : Env) × In s (envs rows each) × Gives K s labels row
  unfolding envs
  env_of [] each row at = absurd at
  env_of (r ∷ rows) each row (inl is) = let first = each r (inl refl) in (first.0, inl refl, subst (Gives K first.0 labels) (sym is) first.1)
  env_of (r ∷ rows) each row (inr at) = let rest = env_of rows (λ z h. each z (inr h)) row at in (rest.0, inr rest.1, rest.2)

  pub drawn : (one : (v w : Value) (c : C) → K v ≡ Some c → K w ≡ Some c → v ≡ w) (rows : List (List C)) (xs : List Var) → Means K rows labels p → ((x : Var) → In x xs → In x (vars_of labels)) → Drawn xs p
  drawn one rows xs means within =
      let found : List Env = envs rows means.each in
      record {
        test = λ t. list_any (λ s. same_values xs s t) found;
        there = λ t e.
            let row = means.all t e in
            let own = env_of rows means.each row.0 row.2 in
            in_any (λ s. same_values xs s t) own.0 found own.1 (same_at_all xs own.0 t (λ x at. gives_agree K one labels own.0 t row.0 own.2 row.1 x (within x at)));
        back = λ t e. let s = any_in (λ u. same_values xs u t) found e in (s.0, values_same xs s.0 t s.2, env_passes rows means.each s.0 s.1);
        looks = λ s t agree i.
            list_any
            (λ u.
            both_ways (same_values xs u s) (same_values xs u t)
            (λ e. same_at_all xs u t (λ x at. values_same xs u s e x at ∙ agree x at))
            (λ e. same_at_all xs u s (λ x at. values_same xs u t e x at ∙ sym (agree x at))) i)
            found;
      }
