-- The normal form keeps the meaning.
use Rattle.std.proofs.Common.{◌≡◌, ℕ, Bool, true, false, not, ◌&&◌, ◌||◌, List, [], ◌∷◌, map, refl, ap, sym, ◌∙◌}
use Rattle.std.specs.declared.cmp.Ordering.{Ordering}
use Rattle.std.specs.declared.cmp.Ordering.TheVariants.{Less, Equal, Greater}
use Rattle.std.specs.List.{AllByRecursion}
use Rattle.std.proofs.lemmas.List.Folds.{list_all-map}
use Rattle.dbn_value.proofs.MemberLaws.{any_map}
use Rattle.dbn_value.specs.Order.{value_cmp}
use Rattle.dbn_value.specs.declared.term.Term.{Term}
use Rattle.dbn_value.specs.declared.term.Cmp.{Cmp}
use Rattle.dbn_value.specs.declared.term.Cmp.TheVariants as cmp
use Rattle.dbn_formula.specs.declared.formula.Formula.{Formula}
use Rattle.dbn_formula.specs.declared.formula.Formula.TheVariants.{Atom, Test, And, Or, Not, Implies, Exists, Forall}
use Rattle.dbn_formula.specs.Variables.{TypedVars}
use Rattle.dbn_formula.specs.Holds.{Env, Domain, Instance, value_of, meets, some_choice, every_choice, holds_over}
use Rattle.dbn_formula.specs.Normal.{denied_cmp, normal_at}
use Rattle.dbn_formula.proofs.Induction.{induction}
use Rattle.dbn_formula.proofs.Truth.{not_not, any_alike, all_alike, any_denied, all_denied, each_of, everywhere}
use Rattle.dbn_formula.proofs.HoldsLaws.{holds_test, holds_and, holds_or, holds_not, holds_implies, holds_exists, holds_forall}
use Rattle.dbn_formula.proofs.NormalLaws.{kept_atom, kept_test, kept_and, kept_or, kept_not, kept_implies, kept_exists, kept_forall, denied_atom, denied_test, denied_and, denied_or, denied_not, denied_implies, denied_exists, denied_forall}

denied_meets : (c : Cmp) (order : Ordering) → meets (denied_cmp c) order ≡ not (meets c order)
denied_meets cmp.Eq order = refl
denied_meets cmp.Ne order = sym (not_not (meets cmp.Eq order))
denied_meets cmp.Lt Less = refl
denied_meets cmp.Lt Equal = refl
denied_meets cmp.Lt Greater = refl
denied_meets cmp.Le Less = refl
denied_meets cmp.Le Equal = refl
denied_meets cmp.Le Greater = refl
denied_meets cmp.Gt Less = refl
denied_meets cmp.Gt Equal = refl
denied_meets cmp.Gt Greater = refl
denied_meets cmp.Ge Less = refl
denied_meets cmp.Ge Equal = refl
denied_meets cmp.Ge Greater = refl

pub some_alike : (dom : Domain) (vars : TypedVars) (p q : Env → Bool) → ((env : Env) → p env ≡ q env) → (env : Env)
    → some_choice dom vars p env ≡ some_choice dom vars q env
some_alike dom [] p q same env = same env
some_alike dom (x ∷ vars) p q same env =
    any_alike (λ v. some_choice dom vars p ((x.0, v) ∷ env)) (λ v. some_choice dom vars q ((x.0, v) ∷ env)) (dom x.1)
    (everywhere (λ v. some_choice dom vars p ((x.0, v) ∷ env) ≡ some_choice dom vars q ((x.0, v) ∷ env)) (λ v. some_alike dom vars p q same ((x.0, v) ∷ env)) (dom x.1))

pub some_denied : (dom : Domain) (vars : TypedVars) (p q : Env → Bool) → ((env : Env) → p env ≡ not (q env)) → (env : Env)
    → some_choice dom vars p env ≡ not (every_choice dom vars q env)
some_denied dom [] p q turned env = turned env
some_denied dom (x ∷ vars) p q turned env =
    any_denied (λ v. some_choice dom vars p ((x.0, v) ∷ env)) (λ v. every_choice dom vars q ((x.0, v) ∷ env)) (dom x.1)
    (everywhere (λ v. some_choice dom vars p ((x.0, v) ∷ env) ≡ not (every_choice dom vars q ((x.0, v) ∷ env)))
    (λ v. some_denied dom vars p q turned ((x.0, v) ∷ env)) (dom x.1))

module _ (dom : Domain) (db : Instance) where
  abbrev says : Formula → Env → Bool
  says f env = holds_over dom db f env

  -- the normal form says the same, that of the negation the contrary
  pub record Meant (f : Formula) : Type 0 where
    pub yes : (env : Env) → holds_over dom db (normal_at f true) env ≡ holds_over dom db f env
    pub no : (env : Env) → holds_over dom db (normal_at f false) env ≡ not (holds_over dom db f env)

  rewritten : {f g : Formula} → f ≡ g → (env : Env) → holds_over dom db f env ≡ holds_over dom db g env
  rewritten e env = ap (λ h. holds_over dom db h env) e

  -- the parts of a list
  parts_kept : (fs : List Formula) → AllByRecursion Meant fs → (env : Env) → AllByRecursion (λ f. says (normal_at f true) env ≡ says f env) fs
  parts_kept fs each env = each_of (λ f known. known.yes env) fs each

  parts_denied : (fs : List Formula) → AllByRecursion Meant fs → (env : Env) → AllByRecursion (λ f. says (normal_at f false) env ≡ not (says f env)) fs
  parts_denied fs each env = each_of (λ f known. known.no env) fs each

  at_atom : (rel : ℕ) (terms : List Term) → Meant (Atom rel terms)
  at_atom rel terms = record {
    yes = λ env. rewritten (kept_atom rel terms) env;
    no = λ env. rewritten (denied_atom rel terms) env ∙ holds_not dom db (Atom rel terms) env;
  }

  at_test : (c : Cmp) (left right : Term) → Meant (Test c left right)
  at_test c left right = record {
    yes = λ env. rewritten (kept_test c left right) env;
    no = λ env.
        rewritten (denied_test c left right) env
        ∙ holds_test dom db (denied_cmp c) left right env
        ∙ denied_meets c (value_cmp (value_of env left) (value_of env right))
        ∙ ap not (sym (holds_test dom db c left right env));
  }

  at_both : (fs : List Formula) → AllByRecursion Meant fs → Meant (And fs)
  at_both fs each = record {
    yes = λ env.
        rewritten (kept_and fs) env
        ∙ holds_and dom db (map (λ f. normal_at f true) fs) env
        ∙ list_all-map (λ f. says f env) (λ f. normal_at f true) fs
        ∙ all_alike (λ f. says (normal_at f true) env) (λ f. says f env) fs (parts_kept fs each env)
        ∙ sym (holds_and dom db fs env);
    no = λ env.
        rewritten (denied_and fs) env
        ∙ holds_or dom db (map (λ f. normal_at f false) fs) env
        ∙ any_map (λ f. says f env) (λ f. normal_at f false) fs
        ∙ any_denied (λ f. says (normal_at f false) env) (λ f. says f env) fs (parts_denied fs each env)
        ∙ ap not (sym (holds_and dom db fs env));
  }

  at_either : (fs : List Formula) → AllByRecursion Meant fs → Meant (Or fs)
  at_either fs each = record {
    yes = λ env.
        rewritten (kept_or fs) env
        ∙ holds_or dom db (map (λ f. normal_at f true) fs) env
        ∙ any_map (λ f. says f env) (λ f. normal_at f true) fs
        ∙ any_alike (λ f. says (normal_at f true) env) (λ f. says f env) fs (parts_kept fs each env)
        ∙ sym (holds_or dom db fs env);
    no = λ env.
        rewritten (denied_or fs) env
        ∙ holds_and dom db (map (λ f. normal_at f false) fs) env
        ∙ list_all-map (λ f. says f env) (λ f. normal_at f false) fs
        ∙ all_denied (λ f. says (normal_at f false) env) (λ f. says f env) fs (parts_denied fs each env)
        ∙ ap not (sym (holds_or dom db fs env));
  }

  at_denial : (f : Formula) → Meant f → Meant (Not f)
  at_denial f known = record {
    yes = λ env. rewritten (kept_not f) env ∙ known.no env ∙ sym (holds_not dom db f env);
    no = λ env. rewritten (denied_not f) env ∙ known.yes env ∙ sym (not_not (says f env)) ∙ ap not (sym (holds_not dom db f env));
  }

  or_pair : (a b : Bool) → (a || (b || false)) ≡ (a || b)
  or_pair true b = refl
  or_pair false true = refl
  or_pair false false = refl

  and_pair : (a b : Bool) → (a && (b && true)) ≡ not (not a || not b)
  and_pair true true = refl
  and_pair true false = refl
  and_pair false b = refl

  at_implication : (f g : Formula) → Meant f → Meant g → Meant (Implies f g)
  at_implication f g known there = record {
    yes = λ env.
        rewritten (kept_implies f g) env
        ∙ holds_or dom db (normal_at f false ∷ normal_at g true ∷ []) env
        ∙ or_pair (says (normal_at f false) env) (says (normal_at g true) env)
        ∙ ap (λ b. b || says (normal_at g true) env) (known.no env)
        ∙ ap (λ b. not (says f env) || b) (there.yes env)
        ∙ sym (holds_implies dom db f g env);
    no = λ env.
        rewritten (denied_implies f g) env
        ∙ holds_and dom db (normal_at f true ∷ normal_at g false ∷ []) env
        ∙ and_pair (says (normal_at f true) env) (says (normal_at g false) env)
        ∙ ap (λ b. not (not b || not (says (normal_at g false) env))) (known.yes env)
        ∙ ap (λ b. not (not (says f env) || not b)) (there.no env)
        ∙ ap (λ b. not (not (says f env) || b)) (not_not (says g env))
        ∙ ap not (sym (holds_implies dom db f g env));
  }

  at_some : (vars : TypedVars) (f : Formula) → Meant f → Meant (Exists vars f)
  at_some vars f known = record {
    yes = λ env.
        rewritten (kept_exists vars f) env
        ∙ holds_exists dom db vars (normal_at f true) env
        ∙ some_alike dom vars (holds_over dom db (normal_at f true)) (holds_over dom db f) known.yes env
        ∙ sym (holds_exists dom db vars f env);
    no = λ env.
        rewritten (denied_exists vars f) env
        ∙ holds_not dom db (Exists vars (normal_at f true)) env
        ∙ ap not (holds_exists dom db vars (normal_at f true) env)
        ∙ ap not (some_alike dom vars (holds_over dom db (normal_at f true)) (holds_over dom db f) known.yes env)
        ∙ ap not (sym (holds_exists dom db vars f env));
  }

  at_every : (vars : TypedVars) (f : Formula) → Meant f → Meant (Forall vars f)
  at_every vars f known = record {
    yes = λ env.
        rewritten (kept_forall vars f) env
        ∙ holds_not dom db (Exists vars (normal_at f false)) env
        ∙ ap not (holds_exists dom db vars (normal_at f false) env)
        ∙ ap not (some_denied dom vars (holds_over dom db (normal_at f false)) (holds_over dom db f) known.no env)
        ∙ not_not (every_choice dom vars (holds_over dom db f) env)
        ∙ sym (holds_forall dom db vars f env);
    no = λ env.
        rewritten (denied_forall vars f) env
        ∙ holds_exists dom db vars (normal_at f false) env
        ∙ some_denied dom vars (holds_over dom db (normal_at f false)) (holds_over dom db f) known.no env
        ∙ ap not (sym (holds_forall dom db vars f env));
  }

  pub meant : (f : Formula) → Meant f
  meant =
      induction Meant
      (record {
        atom = at_atom;
        test = at_test;
        both = at_both;
        either = at_either;
        denial = at_denial;
        implication = at_implication;
        some = at_some;
        every = at_every;
      })
