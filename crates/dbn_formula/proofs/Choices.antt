-- Scopes inside quantifiers, and choices of values for quantified variables.
use Rattle.std.proofs.Common.{◌≡◌, ◌⊎◌, inl, inr, ⊎_elim, Bool, true, false, cond, not, ◌||◌, [], ◌∷◌, refl, ap, sym, ◌∙◌, subst, Some}
use Rattle.std.specs.List.{AllByRecursion}
use Rattle.std.proofs.lemmas.Bool.{and_parts, or_cases, or_parts, or_left, or_right, true≢false, not-true}
use Rattle.dbn_value.specs.Members.{In}
use Rattle.dbn_value.proofs.MemberLaws.{any_in, in_any}
use Rattle.dbn_value.specs.declared.value.Value.{Value}
use Rattle.dbn_value.specs.declared.value.ColType.{ColType}
use Rattle.dbn_value.specs.declared.term.Var.{Var}
use Rattle.dbn_value.specs.declared.term.Term.TheVariants as term
use Rattle.dbn_formula.specs.Variables.{TypedVars, var_eq, binds}
use Rattle.dbn_formula.specs.Holds.{Env, Domain, lookup, some_choice}
use Rattle.dbn_formula.specs.Typing.{entered, type_in}
use Rattle.dbn_formula.specs.Distinct.{distinct_vars}
use Rattle.dbn_formula.specs.Solve.{is_bound}
use Rattle.dbn_formula.specs.Ready.{IsValued}
use Rattle.dbn_formula.proofs.VariableLaws.{var_same, var_itself}

-- ---- scopes

-- a variable that isn't quantified has the type that it has outside
pub entered_other : (vars scope : TypedVars) (x : Var) → binds vars x ≡ false → type_in (entered vars scope) x ≡ type_in scope x
entered_other [] scope x e = refl
entered_other (y ∷ vars) scope x e =
    let parts = or_parts (var_eq x y.0) (binds vars x) e in
    entered_other vars (y ∷ scope) x parts.1 ∙ ap (λ b. cond b (Some y.1) (type_in scope x)) parts.0

-- a quantified one has its own
pub entered_own : (vars scope : TypedVars) (y : Var × ColType) → distinct_vars vars ≡ true → In y vars → type_in (entered vars scope) y.0 ≡ Some y.1
entered_own [] scope y once at = absurd at
entered_own (z ∷ vars) scope y once at =
    let parts = and_parts (not (binds vars z.0)) (distinct_vars vars) once in
    ⊎_elim
    (λ here.
    let first : type_in (entered vars (z ∷ scope)) z.0 ≡ Some z.1 =
    entered_other vars (z ∷ scope) z.0 (not-true (binds vars z.0) parts.0) ∙ ap (λ b. cond b (Some z.1) (type_in scope z.0)) (var_itself z.0) in
    subst (λ (w : Var × ColType). type_in (entered vars (z ∷ scope)) w.0 ≡ Some w.1) (sym here) first)
    (λ there. entered_own vars (z ∷ scope) y parts.1 there)
    at

pub entered_binds : (vars scope : TypedVars) (x : Var) → (binds vars x ≡ true) ⊎ (binds scope x ≡ true) → binds (entered vars scope) x ≡ true
entered_binds [] scope x known = ⊎_elim (λ e. absurd (true≢false (sym e))) (λ e. e) known
entered_binds (y ∷ vars) scope x known =
    entered_binds vars (y ∷ scope) x (⊎_elim
    (λ e. ⊎_elim (λ here. inr (or_left (var_eq x y.0) (binds scope x) here)) (λ there. inl there) (or_cases (var_eq x y.0) (binds vars x) e))
    (λ e. inr (or_right (var_eq x y.0) (binds scope x) e))
    known)

-- a variable of the scope has a type
pub type_of_bound : (scope : TypedVars) (x : Var) → binds scope x ≡ true → (type : ColType) × (type_in scope x ≡ Some type)
type_of_bound [] x e = absurd (true≢false (sym e))
type_of_bound (y ∷ scope) x e =
    elim (var_eq x y.0) as (λ b. var_eq x y.0 ≡ b → (type : ColType) × (cond b (Some y.1) (type_in scope x) ≡ Some type)) [
      | true ↦ λ here. (y.1, refl)
      | false ↦ λ here. type_of_bound scope x (ap (λ b. b || binds scope x) (sym here) ∙ e)
    ] refl

-- ---- values of variables

pub valued_outside : (dom : Domain) (vars scope : TypedVars) (x : Var) (v : Value) → binds vars x ≡ false → IsValued dom (entered vars scope) (term.Var x) v → IsValued dom scope (term.Var x) v
valued_outside dom vars scope x v e valued = record { type = valued.type; is = sym (entered_other vars scope x e) ∙ valued.is; within = valued.within }

pub valued_inside : (dom : Domain) (vars scope : TypedVars) (x : Var) (v : Value) → binds vars x ≡ false → IsValued dom scope (term.Var x) v → IsValued dom (entered vars scope) (term.Var x) v
valued_inside dom vars scope x v e valued = record { type = valued.type; is = entered_other vars scope x e ∙ valued.is; within = valued.within }

-- ---- choices

-- what a choice that passes looks like: the test passes for t, which differs from s in the quantified variables alone, and
-- these have values of their types
pub record Chosen (dom : Domain) (vars scope : TypedVars) (p : Env → Bool) (s t : Env) : Type 0 where
  pub passes : p t ≡ true
  pub others : (x : Var) → binds vars x ≡ false → lookup t x ≡ lookup s x
  pub theirs : (x : Var) → binds vars x ≡ true → IsValued dom (entered vars scope) (term.Var x) (lookup t x)

pub choice_out : (dom : Domain) (vars scope : TypedVars) (p : Env → Bool) (s : Env) → some_choice dom vars p s ≡ true → (t : Env) × Chosen dom vars scope p s t
choice_out dom [] scope p s e = (s, record { passes = e; others = λ x free. refl; theirs = λ x b. absurd (true≢false (sym b)) })
choice_out dom (y ∷ vars) scope p s e =
    let found = any_in (λ v. some_choice dom vars p ((y.0, v) ∷ s)) (dom y.1) e in
    let v : Value = found.0 in
    let more = choice_out dom vars (y ∷ scope) p ((y.0, v) ∷ s) found.2 in (
      more.0,
      record {
        passes = more.1.passes;
        others = λ x free.
            let parts = or_parts (var_eq x y.0) (binds vars x) free in
            more.1.others x parts.1 ∙ ap (λ b. cond b v (lookup s x)) parts.0;
        theirs = λ x b.
            elim (binds vars x) as (λ c. binds vars x ≡ c → IsValued dom (entered vars (y ∷ scope)) (term.Var x) (lookup more.0 x)) [
              | true ↦ λ there. more.1.theirs x there
              | false ↦ λ there.
                  let here : var_eq x y.0 ≡ true = ⊎_elim (λ e. e) (λ e. absurd (true≢false (sym e ∙ there))) (or_cases (var_eq x y.0) (binds vars x) b) in
                  record {
                    type = y.1;
                    is = entered_other vars (y ∷ scope) x there ∙ ap (λ c. cond c (Some y.1) (type_in scope x)) here;
                    within = subst (λ w. In w (dom y.1)) (sym (more.1.others x there ∙ ap (λ c. cond c v (lookup s x)) here)) found.1;
                  }
            ] refl;
      },
    )

-- a value to choose for a quantified variable: its own in w, where it has one there
pub record Choice (dom : Domain) (w : Env) (y : Var × ColType) : Type 0 where
  pub value : Value
  pub within : In value (dom y.1)
  pub own : is_bound w y.0 ≡ true → value ≡ lookup w y.0

-- t gives each variable with an entry in w the value that it has there
pub record KeepsValues (w t : Env) : Type 0 where
  pub each : (x : Var) → is_bound w x ≡ true → lookup t x ≡ lookup w x

pub choice_in : (dom : Domain) (vars : TypedVars) (p : Env → Bool) (w s : Env) → ((u : Env) → KeepsValues w u → p u ≡ true) → AllByRecursion (Choice dom w) vars
    → ((x : Var) → is_bound w x ≡ true → binds vars x ≡ false → lookup s x ≡ lookup w x) → some_choice dom vars p s ≡ true
choice_in dom [] p w s passes choices same = passes s (record { each = λ x b. same x b refl })
choice_in dom (y ∷ vars) p w s passes choices same =
    let choice = choices.0 in
    in_any (λ v. some_choice dom vars p ((y.0, v) ∷ s)) choice.value (dom y.1) choice.within
    (choice_in dom vars p w ((y.0, choice.value) ∷ s) passes choices.1 (λ x b free.
    elim (var_eq x y.0) as (λ c. var_eq x y.0 ≡ c → cond c choice.value (lookup s x) ≡ lookup w x) [
      | true ↦ λ here.
          let is : x ≡ y.0 = var_same x y.0 here in
          choice.own (subst (λ z. is_bound w z ≡ true) is b) ∙ ap (lookup w) (sym is)
      | false ↦ λ here. same x b (ap (λ c. c || binds vars x) here ∙ free)
    ] refl))
