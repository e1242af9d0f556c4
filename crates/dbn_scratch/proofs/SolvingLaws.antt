-- Solutions of conjunctions and disjunctions, part by part, and whether there are any.
use Rattle.std.specs.Global.{Vec}
use Rattle.std.proofs.Common.{◌≡◌, ℕ, ◌+◌, ◌<◌, ◌≤◌, Bool, true, false, cond, not, ◌&&◌, ◌||◌, List, [], ◌∷◌, ◌++◌, map, take, drop, length, get_or, suc, refl, ap, sym, ◌∙◌, append-nil, append_assoc, drop-cons, add-one}
use Rattle.std.proofs.lemmas.List.{drop_all, map-append}
use Rattle.std.specs.List.{flat_map, list_any, list_all}
use Rattle.std.proofs.lemmas.Bool.{and_parts, or_right}
use Rattle.std.specs.Borrow.{Bor}
use Rattle.dbn_value.specs.declared.value.Value.{Value}
use Rattle.dbn_value.specs.declared.term.Var.{Var}
use Rattle.dbn_scratch.specs.Envs.{env_of, envs_of}
use Rattle.dbn_formula.specs.Variables.{TypedVars}
use Rattle.dbn_formula.specs.Holds.{Env, Domain}
use Rattle.dbn_formula.specs.Solve.{is_empty, is_bound, only_if, all_run, choosable, dropped, chosen}

pub ruleset viewed = (map-append, append_assoc, append-nil)

module _ {A : Type 0} where
  singles : (xs : List A) → flat_map (λ x. x ∷ []) xs ≡ xs
  singles [] = refl
  singles (x ∷ xs) = ap (λ r. x ∷ r) (singles xs)

  some_of_both : (xs ys : List A) → not (is_empty (xs ++ ys)) ≡ (not (is_empty xs) || not (is_empty ys))
  some_of_both [] ys = refl
  some_of_both (x ∷ xs) ys = refl

module _ {A B : Type 0} where
  flat_append : (f : A → List B) (xs ys : List A) → flat_map f (xs ++ ys) ≡ flat_map f xs ++ flat_map f ys
  flat_append f [] ys = refl
  flat_append f (x ∷ xs) ys = ap (λ r. f x ++ r) (flat_append f xs ys) ∙ sym (append_assoc (f x) (flat_map f xs) (flat_map f ys))

  flat_same : (f g : A → List B) → ((x : A) → f x ≡ g x) → (xs : List A) → flat_map f xs ≡ flat_map g xs
  flat_same f g same [] = refl
  flat_same f g same (x ∷ xs) = ap (λ r. r ++ flat_map f xs) (same x) ∙ ap (λ r. g x ++ r) (flat_same f g same xs)

  -- some image has an element
  pub some_flat : (f : A → List B) (xs : List A) → not (is_empty (flat_map f xs)) ≡ list_any (λ x. not (is_empty (f x))) xs
  some_flat f [] = refl
  some_flat f (x ∷ xs) = some_of_both (f x) (flat_map f xs) ∙ ap (λ b. not (is_empty (f x)) || b) (some_flat f xs)

pub any_same : {A : Type 0} (p q : A → Bool) → ((x : A) → p x ≡ q x) → (xs : List A) → list_any p xs ≡ list_any q xs
any_same p q same [] = refl
any_same p q same (x ∷ xs) = ap (λ b. b || list_any p xs) (same x) ∙ ap (λ b. q x || b) (any_same p q same xs)

flat_flat : {A B C : Type 0} (g : B → List C) (f : A → List B) (xs : List A) → flat_map g (flat_map f xs) ≡ flat_map (λ x. flat_map g (f x)) xs
flat_flat g f [] = refl
flat_flat g f (x ∷ xs) = flat_append g (f x) (flat_map f xs) ∙ ap (λ r. flat_map g (f x) ++ r) (flat_flat g f xs)

-- ---- conjunctions

module _ {F : Type 0} (run : F → Env → List Env) where
  -- one more part of a conjunction is run
  pub run_more : (parts : List F) (i : ℕ) (part : F) (envs : List Env) → i < length parts → part ≡ get_or parts i part
      → flat_map (all_run (map run (drop (i + 1) parts))) (flat_map (run part) envs) ≡ flat_map (all_run (map run (drop i parts))) envs
  run_more parts i part envs within is =
      flat_flat (all_run (map run (drop (i + 1) parts))) (run part) envs
      ∙ ap (λ ps. flat_map (all_run (map run ps)) envs) (sym (drop-cons parts i part within ∙ ap (λ p. p ∷ drop (suc i) parts) (sym is) ∙ ap (λ n. part ∷ drop n parts) (sym (add-one i))))

  pub run_done : (parts : List F) (i : ℕ) (envs : List Env) → length parts ≤ i → flat_map (all_run (map run (drop i parts))) envs ≡ envs
  run_done parts i envs past = ap (λ ps. flat_map (all_run (map run ps)) envs) (drop_all i parts past) ∙ singles envs

  -- the last part extends what the others give
  pub run_last : (others : List F) (last : F) (env : Env) → all_run (map run (others ++ last ∷ [])) env ≡ flat_map (run last) (all_run (map run others) env)
  run_last [] last env = singles (run last env) ∙ sym (append-nil (run last env))
  run_last (part ∷ others) last env =
      flat_same (all_run (map run (others ++ last ∷ []))) (λ e. flat_map (run last) (all_run (map run others) e)) (run_last others last) (run part env)
      ∙ sym (flat_flat (run last) (all_run (map run others)) (run part env))

  -- it has one of them
  pub some_last : (parts others : List F) (last : F) (env : Env) → parts ≡ others ++ last ∷ []
      → list_any (λ e. not (is_empty (run last e))) (all_run (map run others) env) ≡ not (is_empty (all_run (map run parts) env))
  some_last parts others last env is =
      sym (some_flat (run last) (all_run (map run others) env)) ∙ ap (λ es. not (is_empty es)) (sym (run_last others last env))
      ∙ ap (λ ps. not (is_empty (all_run (map run ps) env))) (sym is)

-- ---- denials

pub denied : (b : Bool) (env : Env) → not (is_empty (only_if b env)) ≡ b
denied true env = refl
denied false env = refl

-- ---- quantifiers

module _ (dom : Domain) (vars : TypedVars) where
  pub some_chosen : (envs : List Env) → not (is_empty (flat_map (chosen dom vars) envs)) ≡ list_any (choosable dom vars) envs
  unfolding chosen
  some_chosen envs = some_flat (chosen dom vars) envs ∙ any_same (λ e. not (is_empty (chosen dom vars e))) (choosable dom vars) (λ e. denied (choosable dom vars e) (dropped vars e)) envs

all_choosable : (dom : Domain) (vars : TypedVars) (env : Env) → list_all (λ x. not (is_empty (dom x.1))) vars ≡ true → choosable dom vars env ≡ true
all_choosable dom [] env e = refl
all_choosable dom (x ∷ vars) env e =
    let parts = and_parts (not (is_empty (dom x.1))) (list_all (λ y. not (is_empty (dom y.1))) vars) e in
    ap (λ b. b && choosable dom vars env) (or_right (is_bound env x.0) (not (is_empty (dom x.1))) parts.0) ∙ all_choosable dom vars env parts.1

any_true : (envs : List Env) → list_any (λ e. true) envs ≡ not (is_empty envs)
any_true [] = refl
any_true (e ∷ envs) = refl

-- where there are values for all variables, each solution inside is one outside
pub some_inside : (dom : Domain) (vars : TypedVars) (envs : List Env) → list_all (λ x. not (is_empty (dom x.1))) vars ≡ true
    → not (is_empty envs) ≡ not (is_empty (flat_map (chosen dom vars) envs))
some_inside dom vars envs e =
    sym (any_true envs) ∙ any_same (λ g. true) (choosable dom vars) (λ g. sym (all_choosable dom vars g e)) envs ∙ sym (some_chosen dom vars envs)

-- ---- environments as they are kept

pub flat_view : {B : Type 0} (f : Env → List B) (envs : List (Vec (Bor Var × Bor Value))) → flat_map (λ e. f (env_of e.items)) envs ≡ flat_map f (envs_of envs)
flat_view f [] = refl
flat_view f (e ∷ envs) = ap (λ r. f (env_of e.items) ++ r) (flat_view f envs)

pub any_view : (t : Env → Bool) (envs : List (Vec (Bor Var × Bor Value))) → list_any (λ e. t (env_of e.items)) envs ≡ list_any t (envs_of envs)
any_view t [] = refl
any_view t (e ∷ envs) = ap (λ b. t (env_of e.items) || b) (any_view t envs)

pub all_view : (t : Env → Bool) (envs : List (Vec (Bor Var × Bor Value))) → list_all (λ e. t (env_of e.items)) envs ≡ list_all t (envs_of envs)
all_view t [] = refl
all_view t (e ∷ envs) = ap (λ b. t (env_of e.items) && b) (all_view t envs)

pub map_view : {B : Type 0} (f : Env → B) (envs : List (Vec (Bor Var × Bor Value))) → map (λ e. f (env_of e.items)) envs ≡ map f (envs_of envs)
map_view f [] = refl
map_view f (e ∷ envs) = ap (λ r. f (env_of e.items) ∷ r) (map_view f envs)
