-- The normal form is its own normal form.
use Rattle.std.proofs.Common.{◌≡◌, ℕ, Bool, true, false, List, [], ◌∷◌, map, ap, sym, ◌∙◌}
use Rattle.std.specs.List.{AllByRecursion}
use Rattle.dbn_value.specs.declared.term.Term.{Term}
use Rattle.dbn_value.specs.declared.term.Cmp.{Cmp}
use Rattle.dbn_formula.specs.declared.formula.Formula.{Formula}
use Rattle.dbn_formula.specs.declared.formula.Formula.TheVariants.{Atom, Test, And, Or, Not, Implies, Exists, Forall}
use Rattle.dbn_formula.specs.Variables.{TypedVars}
use Rattle.dbn_formula.specs.Normal.{denied_cmp, normal_at}
use Rattle.dbn_formula.proofs.Induction.{induction}
use Rattle.dbn_formula.proofs.Maps.{map-map, maps_alike}
use Rattle.dbn_formula.proofs.Truth.{each_of}
use Rattle.dbn_formula.proofs.NormalLaws.{kept_atom, kept_test, kept_and, kept_or, kept_not, kept_implies, kept_exists, kept_forall, denied_atom, denied_test, denied_and, denied_or, denied_not, denied_implies, denied_exists, denied_forall}

abbrev pub Kept : Formula → Type 0
Kept f = (b : Bool) → normal_at (normal_at f b) true ≡ normal_at f b

part : (b : Bool) (fs : List Formula) → AllByRecursion Kept fs → map (λ f. normal_at f true) (map (λ f. normal_at f b) fs) ≡ map (λ f. normal_at f b) fs
part b fs each =
    map-map (λ f. normal_at f true) (λ f. normal_at f b) fs
    ∙ maps_alike (λ f. normal_at (normal_at f b) true) (λ f. normal_at f b) fs (each_of (λ f known. known b) fs each)

again : {f g : Formula} → f ≡ g → normal_at g true ≡ g → normal_at f true ≡ f
again {g = g} e there = ap (λ h. normal_at h true) e ∙ there ∙ sym e

at_atom : (rel : ℕ) (terms : List Term) → Kept (Atom rel terms)
at_atom rel terms true = again (kept_atom rel terms) (kept_atom rel terms)
at_atom rel terms false = again (denied_atom rel terms) (kept_not (Atom rel terms) ∙ denied_atom rel terms)

at_test : (c : Cmp) (left right : Term) → Kept (Test c left right)
at_test c left right true = again (kept_test c left right) (kept_test c left right)
at_test c left right false = again (denied_test c left right) (kept_test (denied_cmp c) left right)

at_both : (fs : List Formula) → AllByRecursion Kept fs → Kept (And fs)
at_both fs each true = again (kept_and fs) (kept_and (map (λ f. normal_at f true) fs) ∙ ap And (part true fs each))
at_both fs each false = again (denied_and fs) (kept_or (map (λ f. normal_at f false) fs) ∙ ap Or (part false fs each))

at_either : (fs : List Formula) → AllByRecursion Kept fs → Kept (Or fs)
at_either fs each true = again (kept_or fs) (kept_or (map (λ f. normal_at f true) fs) ∙ ap Or (part true fs each))
at_either fs each false = again (denied_or fs) (kept_and (map (λ f. normal_at f false) fs) ∙ ap And (part false fs each))

at_denial : (f : Formula) → Kept f → Kept (Not f)
at_denial f known true = again (kept_not f) (known false)
at_denial f known false = again (denied_not f) (known true)

at_implication : (f g : Formula) → Kept f → Kept g → Kept (Implies f g)
at_implication f g known there true =
    again (kept_implies f g)
    (kept_or (normal_at f false ∷ normal_at g true ∷ [])
    ∙ ap (λ h. Or (h ∷ normal_at (normal_at g true) true ∷ [])) (known false)
    ∙ ap (λ h. Or (normal_at f false ∷ h ∷ [])) (there true))
at_implication f g known there false =
    again (denied_implies f g)
    (kept_and (normal_at f true ∷ normal_at g false ∷ [])
    ∙ ap (λ h. And (h ∷ normal_at (normal_at g false) true ∷ [])) (known true)
    ∙ ap (λ h. And (normal_at f true ∷ h ∷ [])) (there false))

-- not exists, where the body is a normal form
no_choice : (vars : TypedVars) (f : Formula) → normal_at f true ≡ f → normal_at (Not (Exists vars f)) true ≡ Not (Exists vars f)
no_choice vars f e = kept_not (Exists vars f) ∙ denied_exists vars f ∙ ap (λ h. Not (Exists vars h)) e

one_choice : (vars : TypedVars) (f : Formula) → normal_at f true ≡ f → normal_at (Exists vars f) true ≡ Exists vars f
one_choice vars f e = kept_exists vars f ∙ ap (Exists vars) e

at_some : (vars : TypedVars) (f : Formula) → Kept f → Kept (Exists vars f)
at_some vars f known true = again (kept_exists vars f) (one_choice vars (normal_at f true) (known true))
at_some vars f known false = again (denied_exists vars f) (no_choice vars (normal_at f true) (known true))

at_every : (vars : TypedVars) (f : Formula) → Kept f → Kept (Forall vars f)
at_every vars f known true = again (kept_forall vars f) (no_choice vars (normal_at f false) (known false))
at_every vars f known false = again (denied_forall vars f) (one_choice vars (normal_at f false) (known false))

pub kept : (f : Formula) (b : Bool) → normal_at (normal_at f b) true ≡ normal_at f b
kept =
    induction Kept
    (record {
      atom = at_atom;
      test = at_test;
      both = at_both;
      either = at_either;
      denial = at_denial;
      implication = at_implication;
      some = at_some;
      every = at_every;
    })
