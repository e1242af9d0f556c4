-- Environments: which variables have an entry, what stays when one extends another, and entries that are dropped.
use Rattle.std.proofs.Common.{◌≡◌, ◌⊎◌, inl, inr, ⊎_elim, Bool, true, false, cond, not, ◌||◌, List, [], ◌∷◌, ◌++◌, map, refl, ap, sym, ◌∙◌, subst}
use Rattle.std.specs.Ordering.{is_eq}
use Rattle.std.specs.Cmp.{Equal-is, tied_itself}
use Rattle.std.specs.List.{flat_map}
use Rattle.std.proofs.lemmas.Bool.{or_cases, or_left, or_right, true≢false}
use Rattle.dbn_value.specs.Members.{In}
use Rattle.dbn_value.proofs.MemberLaws.{in_append, in_flat, flat_in, append_left, append_right}
use Rattle.dbn_value.specs.Order.{value_cmp, value_total, exact_values}
use Rattle.dbn_value.specs.declared.value.Value.{Value}
use Rattle.dbn_value.specs.declared.term.Var.{Var}
use Rattle.dbn_value.specs.declared.term.Term.{Term}
use Rattle.dbn_value.specs.declared.term.Term.TheVariants as term
use Rattle.dbn_formula.specs.Variables.{TypedVars, var_eq, binds}
use Rattle.dbn_formula.specs.Holds.{Env, lookup, value_of}
use Rattle.dbn_formula.specs.Free.{variable_of}
use Rattle.dbn_formula.specs.Solve.{value_eq, is_bound, only_if, term_is, matched, has_value, dropped}
use Rattle.dbn_formula.proofs.VariableLaws.{var_same, var_itself}
use Rattle.dbn_formula.proofs.Choices.{KeepsValues}

-- ---- values

pub value_same : (v w : Value) → value_eq v w ≡ true → v ≡ w
value_same v w e = exact_values v w ((Equal-is (value_cmp v w)).0 e)

pub value_alike : (v w : Value) → v ≡ w → value_eq v w ≡ true
value_alike v w e = subst (λ u. value_eq v u ≡ true) e (ap is_eq (tied_itself value_total v))

-- ---- at most one environment

pub in_only_if : (passes : Bool) (env g : Env) → In g (only_if passes env) → (g ≡ env) × (passes ≡ true)
in_only_if true env g (inl here) = (here, refl)
in_only_if true env g (inr there) = absurd there
in_only_if false env g at = absurd at

pub only_if_in : (passes : Bool) (env : Env) → passes ≡ true → In env (only_if passes env)
only_if_in true env e = inl refl
only_if_in false env e = absurd (true≢false (sym e))

-- ---- one environment extends another by variables

pub record Step (vars : List Var) (e g : Env) : Type 0 where
  pub keeps : KeepsValues e g
  pub old : (x : Var) → is_bound e x ≡ true → is_bound g x ≡ true
  pub new : (x : Var) → In x vars → is_bound g x ≡ true
  pub only : (x : Var) → is_bound g x ≡ true → (is_bound e x ≡ true) ⊎ In x vars

pub keeps_itself : (env : Env) → KeepsValues env env
keeps_itself env = record { each = λ x b. refl }

pub step_none : (vars : List Var) (env : Env) → ((x : Var) → In x vars → is_bound env x ≡ true) → Step vars env env
step_none vars env known = record { keeps = keeps_itself env; old = λ x b. b; new = known; only = λ x b. inl b }

pub step_then : (xs ys : List Var) (e m g : Env) → Step xs e m → Step ys m g → Step (xs ++ ys) e g
step_then xs ys e m g first second = record {
  keeps = record { each = λ x b. second.keeps.each x (first.old x b) ∙ first.keeps.each x b };
  old = λ x b. second.old x (first.old x b);
  new = λ x at. ⊎_elim (λ here. second.old x (first.new x here)) (λ there. second.new x there) (in_append x xs ys at);
  only = λ x b. ⊎_elim
      (λ mid. ⊎_elim (λ start. inl start) (λ at. inr (append_left x xs ys at)) (first.only x mid))
      (λ at. inr (append_right x xs ys at))
      (second.only x b);
}

-- the same step for a list with the same variables, but for some that had entries
pub step_alike : (xs ys : List Var) (e g : Env) → Step xs e g → ((x : Var) → In x ys → (is_bound e x ≡ true) ⊎ In x xs) → ((x : Var) → In x xs → In x ys) → Step ys e g
step_alike xs ys e g step back there = record {
  keeps = step.keeps;
  old = step.old;
  new = λ x at. ⊎_elim (λ b. step.old x b) (λ within. step.new x within) (back x at);
  only = λ x b. ⊎_elim (λ start. inl start) (λ at. inr (there x at)) (step.only x b);
}

-- a term whose variables have entries keeps its value
pub value_kept : (a : Term) (e t : Env) → KeepsValues e t → has_value e a ≡ true → value_of t a ≡ value_of e a
value_kept (term.Var x) e t keeps b = keeps.each x b
value_kept (term.Const v) e t keeps b = refl

-- ---- one more entry

entry_other : (x y : Var) (v : Value) (env : Env) → is_bound env x ≡ false → is_bound env y ≡ true → lookup ((x, v) ∷ env) y ≡ lookup env y
entry_other x y v env free b =
    elim (var_eq y x) as (λ c. var_eq y x ≡ c → cond c v (lookup env y) ≡ lookup env y) [
      | true ↦ λ same. absurd (true≢false (sym (subst (λ z. is_bound env z ≡ true) (var_same y x same) b) ∙ free))
      | false ↦ λ same. refl
    ] refl

pub step_entry : (x : Var) (v : Value) (env : Env) → is_bound env x ≡ false → Step (x ∷ []) env ((x, v) ∷ env)
step_entry x v env free = record {
  keeps = record { each = λ y b. entry_other x y v env free b };
  old = λ y b. or_right (var_eq y x) (is_bound env y) b;
  new = λ y at. ⊎_elim (λ here. or_left (var_eq y x) (is_bound env y) (subst (λ z. var_eq z x ≡ true) (sym here) (var_itself x))) (λ there. absurd there) at;
  only = λ y b. ⊎_elim (λ here. inr (inl (var_same y x here))) (λ there. inl there) (or_cases (var_eq y x) (is_bound env y) b);
}

-- ---- a term that gets a value

pub record Given (a : Term) (v : Value) (env g : Env) : Type 0 where
  pub step : Step (variable_of a) env g
  pub value : value_of g a ≡ v

pub term_sound : (a : Term) (v : Value) (env g : Env) → In g (term_is a v env) → Given a v env g
term_sound (term.Var x) v env g at =
    elim (is_bound env x) as (λ b. is_bound env x ≡ b → In g (cond b (only_if (value_eq (lookup env x) v) env) (((x, v) ∷ env) ∷ [])) → Given (term.Var x) v env g) [
      | true ↦ λ known at.
          let found = in_only_if (value_eq (lookup env x) v) env g at in
          subst (Given (term.Var x) v env) (sym found.0) (record {
            step = step_none (x ∷ []) env (λ y within. ⊎_elim (λ here. subst (λ z. is_bound env z ≡ true) (sym here) known) (λ there. absurd there) within);
            value = value_same (lookup env x) v found.1;
          })
      | false ↦ λ free at.
          ⊎_elim
          (λ here. subst (Given (term.Var x) v env) (sym here) (record { step = step_entry x v env free; value = ap (λ c. cond c v (lookup env x)) (var_itself x) }))
          (λ there. absurd there)
          at
    ] refl at
term_sound (term.Const w) v env g at =
    let found = in_only_if (value_eq w v) env g at in
    subst (Given (term.Const w) v env) (sym found.0) (record { step = step_none [] env (λ y within. absurd within); value = value_same w v found.1 })

-- a solution among the environments that agrees with t
pub record Found (envs : List Env) (t : Env) : Type 0 where
  pub env : Env
  pub at : In env envs
  pub keeps : KeepsValues env t

pub term_complete : (a : Term) (env t : Env) → KeepsValues env t → Found (term_is a (value_of t a) env) t
term_complete (term.Var x) env t keeps =
    elim (is_bound env x) as (λ b. is_bound env x ≡ b → Found (cond b (only_if (value_eq (lookup env x) (lookup t x)) env) (((x, lookup t x) ∷ env) ∷ [])) t) [
      | true ↦ λ known. record {
        env = env;
        at = only_if_in (value_eq (lookup env x) (lookup t x)) env (value_alike (lookup env x) (lookup t x) (sym (keeps.each x known)));
        keeps = keeps;
      }
      | false ↦ λ free. record {
        env = (x, lookup t x) ∷ env;
        at = inl refl;
        keeps = record {
          each = λ y b.
              elim (var_eq y x) as (λ c. var_eq y x ≡ c → lookup t y ≡ cond c (lookup t x) (lookup env y)) [
                | true ↦ λ same. ap (lookup t) (var_same y x same)
                | false ↦ λ other. keeps.each y (⊎_elim (λ same. absurd (true≢false (sym same ∙ other))) (λ there. there) (or_cases (var_eq y x) (is_bound env y) b))
              ] refl;
        };
      }
    ] refl
term_complete (term.Const w) env t keeps = record { env = env; at = only_if_in (value_eq w w) env (value_alike w w refl); keeps = keeps }

-- ---- terms that get the values of a row

pub record Matched (terms : List Term) (row : List Value) (env g : Env) : Type 0 where
  pub step : Step (flat_map variable_of terms) env g
  pub values : map (value_of g) terms ≡ row

term_bound : (a : Term) (g : Env) → ((x : Var) → In x (variable_of a) → is_bound g x ≡ true) → has_value g a ≡ true
term_bound (term.Var x) g known = known x (inl refl)
term_bound (term.Const v) g known = refl

pub matched_sound : (terms : List Term) (row : List Value) (env g : Env) → In g (matched terms row env) → Matched terms row env g
matched_sound [] [] env g (inl here) = subst (Matched [] [] env) (sym here) (record { step = step_none [] env (λ x at. absurd at); values = refl })
matched_sound [] [] env g (inr there) = absurd there
matched_sound [] (w ∷ row) env g at = absurd at
matched_sound (a ∷ terms) [] env g at = absurd at
matched_sound (a ∷ terms) (w ∷ row) env g at =
    let found = in_flat (λ next. matched terms row next) g (term_is a w env) at in
    let first = term_sound a w env found.0 found.1 in
    let rest = matched_sound terms row found.0 g found.2 in
    record {
      step = step_then (variable_of a) (flat_map variable_of terms) env found.0 g first.step rest.step;
      values =
          ap (λ v. v ∷ map (value_of g) terms) (value_kept a found.0 g rest.step.keeps (term_bound a found.0 first.step.new) ∙ first.value)
          ∙ ap (λ l. w ∷ l) rest.values;
    }

pub matched_complete : (terms : List Term) (env t : Env) → KeepsValues env t → Found (matched terms (map (value_of t) terms) env) t
matched_complete [] env t keeps = record { env = env; at = inl refl; keeps = keeps }
matched_complete (a ∷ terms) env t keeps =
    let first = term_complete a env t keeps in
    let rest = matched_complete terms first.env t first.keeps in
    record {
      env = rest.env;
      at = flat_in (λ next. matched terms (map (value_of t) terms) next) rest.env first.env (term_is a (value_of t a) env) first.at rest.at;
      keeps = rest.keeps;
    }

-- ---- entries that are dropped

pub lookup_dropped : (vars : TypedVars) (env : Env) (x : Var) → binds vars x ≡ false → lookup (dropped vars env) x ≡ lookup env x
lookup_dropped vars [] x free = refl
lookup_dropped vars (entry ∷ env) x free =
    elim (binds vars entry.0) as (λ b. binds vars entry.0 ≡ b → lookup (cond (not b) (entry ∷ dropped vars env) (dropped vars env)) x ≡ cond (var_eq x entry.0) entry.1 (lookup env x)) [
      | true ↦ λ hidden.
          elim (var_eq x entry.0) as (λ c. var_eq x entry.0 ≡ c → lookup (dropped vars env) x ≡ cond c entry.1 (lookup env x)) [
            | true ↦ λ same. absurd (true≢false (sym (subst (λ z. binds vars z ≡ true) (sym (var_same x entry.0 same)) hidden) ∙ free))
            | false ↦ λ other. lookup_dropped vars env x free
          ] refl
      | false ↦ λ stays. ap (λ v. cond (var_eq x entry.0) entry.1 v) (lookup_dropped vars env x free)
    ] refl

pub bound_dropped : (vars : TypedVars) (env : Env) (x : Var) → is_bound (dropped vars env) x ≡ true → (is_bound env x ≡ true) × (binds vars x ≡ false)
bound_dropped vars [] x b = absurd (true≢false (sym b))
bound_dropped vars (entry ∷ env) x b =
    elim (binds vars entry.0) as (λ c. binds vars entry.0 ≡ c → is_bound (cond (not c) (entry ∷ dropped vars env) (dropped vars env)) x ≡ true → (var_eq x entry.0 || is_bound env x ≡ true) × (binds vars x ≡ false)) [
      | true ↦ λ hidden b. let more = bound_dropped vars env x b in (or_right (var_eq x entry.0) (is_bound env x) more.0, more.1)
      | false ↦ λ stays b.
          ⊎_elim
          (λ here. (or_left (var_eq x entry.0) (is_bound env x) here, subst (λ z. binds vars z ≡ false) (sym (var_same x entry.0 here)) stays))
          (λ there. let more = bound_dropped vars env x there in (or_right (var_eq x entry.0) (is_bound env x) more.0, more.1))
          (or_cases (var_eq x entry.0) (is_bound (dropped vars env) x) b)
    ] refl b

pub dropped_bound : (vars : TypedVars) (env : Env) (x : Var) → is_bound env x ≡ true → binds vars x ≡ false → is_bound (dropped vars env) x ≡ true
dropped_bound vars [] x b free = b
dropped_bound vars (entry ∷ env) x b free =
    elim (binds vars entry.0) as (λ c. binds vars entry.0 ≡ c → is_bound (cond (not c) (entry ∷ dropped vars env) (dropped vars env)) x ≡ true) [
      | true ↦ λ hidden.
          ⊎_elim
          (λ here. absurd (true≢false (sym (subst (λ z. binds vars z ≡ true) (sym (var_same x entry.0 here)) hidden) ∙ free)))
          (λ there. dropped_bound vars env x there free)
          (or_cases (var_eq x entry.0) (is_bound env x) b)
      | false ↦ λ stays.
          ⊎_elim
          (λ here. or_left (var_eq x entry.0) (is_bound (dropped vars env) x) here)
          (λ there. or_right (var_eq x entry.0) (is_bound (dropped vars env) x) (dropped_bound vars env x there free))
          (or_cases (var_eq x entry.0) (is_bound env x) b)
    ] refl
