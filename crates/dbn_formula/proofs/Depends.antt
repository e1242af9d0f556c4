-- What holds depends only on the values of the free variables.
use Rattle.std.proofs.Common.{◌≡◌, ℕ, inl, Bool, true, false, cond, not, ◌||◌, List, [], ◌∷◌, ◌++◌, map, refl, ap, sym, ◌∙◌, subst}
use Rattle.std.specs.Prelude.{slice_index_or}
use Rattle.std.specs.List.{list_any, flat_map, AllByRecursion}
use Rattle.dbn_value.proofs.MemberLaws.{append_left, append_right}
use Rattle.dbn_value.specs.Order.{value_cmp}
use Rattle.dbn_value.specs.declared.value.Value.{Value}
use Rattle.dbn_value.specs.declared.value.ColType.{ColType}
use Rattle.dbn_value.specs.declared.term.Var.{Var}
use Rattle.dbn_value.specs.declared.term.Term.{Term}
use Rattle.dbn_value.specs.declared.term.Term.TheVariants as term
use Rattle.dbn_value.specs.declared.term.Cmp.{Cmp}
use Rattle.dbn_formula.specs.declared.formula.Formula.{Formula}
use Rattle.dbn_formula.specs.declared.formula.Formula.TheVariants.{Atom, Test, And, Or, Not, Implies, Exists, Forall}
use Rattle.dbn_formula.specs.Variables.{TypedVars, var_eq, binds}
use Rattle.dbn_formula.specs.Holds.{Env, Domain, Instance, lookup, value_of, meets, row_eq, some_choice, every_choice, holds_over, Agree}
use Rattle.dbn_formula.specs.Free.{variable_of, unhidden, occurrences, free}
use Rattle.dbn_formula.proofs.Induction.{induction}
use Rattle.dbn_formula.proofs.HoldsLaws.{holds_atom, holds_test, holds_and, holds_or, holds_not, holds_implies, holds_exists, holds_forall}
use Rattle.dbn_formula.proofs.FreeLaws.{occurrences_atom, occurrences_test, occurrences_and, occurrences_or, occurrences_not, occurrences_implies, occurrences_exists, occurrences_forall}
use Rattle.dbn_formula.proofs.VariableLaws.{in_unhidden, unhidden_in, firsts_in}
use Rattle.dbn_formula.proofs.Truth.{any_alike, all_alike, everywhere}

pub agree_left : (xs ys : List Var) (s t : Env) → Agree (xs ++ ys) s t → Agree xs s t
agree_left xs ys s t same x at = same x (append_left x xs ys at)

pub agree_right : (xs ys : List Var) (s t : Env) → Agree (xs ++ ys) s t → Agree ys s t
agree_right xs ys s t same x at = same x (append_right x xs ys at)

pub value_alike : (a : Term) (s t : Env) → Agree (variable_of a) s t → value_of s a ≡ value_of t a
value_alike (term.Var x) s t same = same x (inl refl)
value_alike (term.Const v) s t same = refl

pub values_alike : (terms : List Term) (s t : Env) → Agree (flat_map variable_of terms) s t → map (value_of s) terms ≡ map (value_of t) terms
values_alike [] s t same = refl
values_alike (a ∷ terms) s t same =
    ap (λ v. v ∷ map (value_of s) terms) (value_alike a s t (agree_left (variable_of a) (flat_map variable_of terms) s t same))
    ∙ ap (λ vs. value_of t a ∷ vs) (values_alike terms s t (agree_right (variable_of a) (flat_map variable_of terms) s t same))

-- with one more value each, two environments agree on one variable more
agree_bound : (x : Var × ColType) (v : Value) (vars : TypedVars) (xs : List Var) (s t : Env) → Agree (unhidden (x ∷ vars) xs) s t
    → Agree (unhidden vars xs) ((x.0, v) ∷ s) ((x.0, v) ∷ t)
agree_bound x v vars xs s t same y at =
    let found = in_unhidden vars y xs at in
    elim (var_eq y x.0) as (λ b. var_eq y x.0 ≡ b → cond b v (lookup s y) ≡ cond b v (lookup t y)) [
      | true ↦ λ e. refl
      | false ↦ λ e. same y (unhidden_in (x ∷ vars) y xs found.0 (ap (λ b. b || binds vars y) e ∙ found.1))
    ] refl

-- a test that reads the variables of a list
abbrev pub Reads : List Var → (Env → Bool) → Type 0
Reads xs test = (s t : Env) → Agree xs s t → test s ≡ test t

nothing_hidden : (xs : List Var) (s t : Env) → Agree (unhidden [] xs) s t → Agree xs s t
nothing_hidden xs s t same x at = same x (unhidden_in [] x xs at refl)

pub some_reads : (dom : Domain) (vars : TypedVars) (xs : List Var) (test : Env → Bool) → Reads xs test → Reads (unhidden vars xs) (some_choice dom vars test)
some_reads dom [] xs test reads s t same = reads s t (nothing_hidden xs s t same)
some_reads dom (x ∷ vars) xs test reads s t same =
    any_alike (λ v. some_choice dom vars test ((x.0, v) ∷ s)) (λ v. some_choice dom vars test ((x.0, v) ∷ t)) (dom x.1)
    (everywhere (λ v. some_choice dom vars test ((x.0, v) ∷ s) ≡ some_choice dom vars test ((x.0, v) ∷ t))
    (λ v. some_reads dom vars xs test reads ((x.0, v) ∷ s) ((x.0, v) ∷ t) (agree_bound x v vars xs s t same))
    (dom x.1))

pub every_reads : (dom : Domain) (vars : TypedVars) (xs : List Var) (test : Env → Bool) → Reads xs test → Reads (unhidden vars xs) (every_choice dom vars test)
every_reads dom [] xs test reads s t same = reads s t (nothing_hidden xs s t same)
every_reads dom (x ∷ vars) xs test reads s t same =
    all_alike (λ v. every_choice dom vars test ((x.0, v) ∷ s)) (λ v. every_choice dom vars test ((x.0, v) ∷ t)) (dom x.1)
    (everywhere (λ v. every_choice dom vars test ((x.0, v) ∷ s) ≡ every_choice dom vars test ((x.0, v) ∷ t))
    (λ v. every_reads dom vars xs test reads ((x.0, v) ∷ s) ((x.0, v) ∷ t) (agree_bound x v vars xs s t same))
    (dom x.1))

module _ (dom : Domain) (db : Instance) where
  abbrev Depends : Formula → Type 0
  Depends f = (s t : Env) → Agree (occurrences f) s t → holds_over dom db f s ≡ holds_over dom db f t

  each_depends : (fs : List Formula) → AllByRecursion Depends fs → (s t : Env) → Agree (flat_map occurrences fs) s t
      → AllByRecursion (λ f. holds_over dom db f s ≡ holds_over dom db f t) fs
  each_depends [] each s t same = tt
  each_depends (f ∷ fs) each s t same = (
    each.0 s t (agree_left (occurrences f) (flat_map occurrences fs) s t same),
    each_depends fs each.1 s t (agree_right (occurrences f) (flat_map occurrences fs) s t same),
  )

  at_atom : (rel : ℕ) (terms : List Term) → Depends (Atom rel terms)
  at_atom rel terms s t same =
      holds_atom dom db rel terms s
      ∙ ap (λ cells. list_any (λ row. row_eq row cells) (slice_index_or db rel []))
      (values_alike terms s t (subst (λ xs. Agree xs s t) (occurrences_atom rel terms) same))
      ∙ sym (holds_atom dom db rel terms t)

  at_test : (cmp : Cmp) (left right : Term) → Depends (Test cmp left right)
  at_test cmp left right s t same =
      let known = subst (λ xs. Agree xs s t) (occurrences_test cmp left right) same in
      holds_test dom db cmp left right s
      ∙ ap (λ v. meets cmp (value_cmp v (value_of s right))) (value_alike left s t (agree_left (variable_of left) (variable_of right) s t known))
      ∙ ap (λ v. meets cmp (value_cmp (value_of t left) v)) (value_alike right s t (agree_right (variable_of left) (variable_of right) s t known))
      ∙ sym (holds_test dom db cmp left right t)

  at_both : (fs : List Formula) → AllByRecursion Depends fs → Depends (And fs)
  at_both fs each s t same =
      holds_and dom db fs s
      ∙ all_alike (λ f. holds_over dom db f s) (λ f. holds_over dom db f t) fs (each_depends fs each s t (subst (λ xs. Agree xs s t) (occurrences_and fs) same))
      ∙ sym (holds_and dom db fs t)

  at_either : (fs : List Formula) → AllByRecursion Depends fs → Depends (Or fs)
  at_either fs each s t same =
      holds_or dom db fs s
      ∙ any_alike (λ f. holds_over dom db f s) (λ f. holds_over dom db f t) fs (each_depends fs each s t (subst (λ xs. Agree xs s t) (occurrences_or fs) same))
      ∙ sym (holds_or dom db fs t)

  at_denial : (f : Formula) → Depends f → Depends (Not f)
  at_denial f known s t same =
      holds_not dom db f s ∙ ap not (known s t (subst (λ xs. Agree xs s t) (occurrences_not f) same)) ∙ sym (holds_not dom db f t)

  at_implication : (f g : Formula) → Depends f → Depends g → Depends (Implies f g)
  at_implication f g known there s t same =
      let both = subst (λ xs. Agree xs s t) (occurrences_implies f g) same in
      holds_implies dom db f g s
      ∙ ap (λ b. not b || holds_over dom db g s) (known s t (agree_left (occurrences f) (occurrences g) s t both))
      ∙ ap (λ b. not (holds_over dom db f t) || b) (there s t (agree_right (occurrences f) (occurrences g) s t both))
      ∙ sym (holds_implies dom db f g t)

  at_some : (vars : TypedVars) (f : Formula) → Depends f → Depends (Exists vars f)
  at_some vars f known s t same =
      holds_exists dom db vars f s
      ∙ some_reads dom vars (occurrences f) (holds_over dom db f) known s t (subst (λ xs. Agree xs s t) (occurrences_exists vars f) same)
      ∙ sym (holds_exists dom db vars f t)

  at_every : (vars : TypedVars) (f : Formula) → Depends f → Depends (Forall vars f)
  at_every vars f known s t same =
      holds_forall dom db vars f s
      ∙ every_reads dom vars (occurrences f) (holds_over dom db f) known s t (subst (λ xs. Agree xs s t) (occurrences_forall vars f) same)
      ∙ sym (holds_forall dom db vars f t)

  pub depends : (f : Formula) (s t : Env) → Agree (occurrences f) s t → holds_over dom db f s ≡ holds_over dom db f t
  depends =
      induction Depends
      (record {
        atom = at_atom;
        test = at_test;
        both = at_both;
        either = at_either;
        denial = at_denial;
        implication = at_implication;
        some = at_some;
        every = at_every;
      })

  pub free_decides : (f : Formula) (s t : Env) → Agree (free f) s t → holds_over dom db f s ≡ holds_over dom db f t
  free_decides f s t same = depends f s t (λ x at. same x (firsts_in x (occurrences f) at))
