-- The normal form keeps the free variables.
use Rattle.std.proofs.Common.{◌≡◌, ℕ, Bool, true, false, List, [], ◌∷◌, ◌++◌, map, ap, sym, ◌∙◌}
use Rattle.std.specs.List.{flat_map, AllByRecursion}
use Rattle.std.proofs.lemmas.List.{append-nil}
use Rattle.std.proofs.lemmas.List.Folds.{flat_map-map}
use Rattle.dbn_value.specs.declared.term.Var.{Var}
use Rattle.dbn_value.specs.declared.term.Term.{Term}
use Rattle.dbn_value.specs.declared.term.Cmp.{Cmp}
use Rattle.dbn_formula.specs.declared.formula.Formula.{Formula}
use Rattle.dbn_formula.specs.declared.formula.Formula.TheVariants.{Atom, Test, And, Or, Not, Implies, Exists, Forall}
use Rattle.dbn_formula.specs.Variables.{TypedVars}
use Rattle.dbn_formula.specs.Free.{unhidden, occurrences}
use Rattle.dbn_formula.specs.Normal.{denied_cmp, normal_at}
use Rattle.dbn_formula.proofs.Induction.{induction}
use Rattle.dbn_formula.proofs.Maps.{flat_alike}
use Rattle.dbn_formula.proofs.Truth.{each_of}
use Rattle.dbn_formula.proofs.FreeLaws.{occurrences_test, occurrences_and, occurrences_or, occurrences_not, occurrences_implies, occurrences_exists, occurrences_forall}
use Rattle.dbn_formula.proofs.NormalLaws.{kept_atom, kept_test, kept_and, kept_or, kept_not, kept_implies, kept_exists, kept_forall, denied_atom, denied_test, denied_and, denied_or, denied_not, denied_implies, denied_exists, denied_forall}

abbrev pub Kept : Formula → Type 0
Kept f = (b : Bool) → occurrences (normal_at f b) ≡ occurrences f

part : (b : Bool) (fs : List Formula) → AllByRecursion Kept fs → AllByRecursion (λ f. occurrences (normal_at f b) ≡ occurrences f) fs
part b fs each = each_of (λ f known. known b) fs each

at_atom : (rel : ℕ) (terms : List Term) → Kept (Atom rel terms)
at_atom rel terms true = ap occurrences (kept_atom rel terms)
at_atom rel terms false = ap occurrences (denied_atom rel terms) ∙ occurrences_not (Atom rel terms)

at_test : (c : Cmp) (left right : Term) → Kept (Test c left right)
at_test c left right true = ap occurrences (kept_test c left right)
at_test c left right false = ap occurrences (denied_test c left right) ∙ occurrences_test (denied_cmp c) left right ∙ sym (occurrences_test c left right)

at_both : (fs : List Formula) → AllByRecursion Kept fs → Kept (And fs)
at_both fs each true =
    ap occurrences (kept_and fs) ∙ occurrences_and (map (λ f. normal_at f true) fs) ∙ flat_map-map occurrences (λ f. normal_at f true) fs
    ∙ flat_alike (λ f. occurrences (normal_at f true)) occurrences fs (part true fs each) ∙ sym (occurrences_and fs)
at_both fs each false =
    ap occurrences (denied_and fs) ∙ occurrences_or (map (λ f. normal_at f false) fs) ∙ flat_map-map occurrences (λ f. normal_at f false) fs
    ∙ flat_alike (λ f. occurrences (normal_at f false)) occurrences fs (part false fs each) ∙ sym (occurrences_and fs)

at_either : (fs : List Formula) → AllByRecursion Kept fs → Kept (Or fs)
at_either fs each true =
    ap occurrences (kept_or fs) ∙ occurrences_or (map (λ f. normal_at f true) fs) ∙ flat_map-map occurrences (λ f. normal_at f true) fs
    ∙ flat_alike (λ f. occurrences (normal_at f true)) occurrences fs (part true fs each) ∙ sym (occurrences_or fs)
at_either fs each false =
    ap occurrences (denied_or fs) ∙ occurrences_and (map (λ f. normal_at f false) fs) ∙ flat_map-map occurrences (λ f. normal_at f false) fs
    ∙ flat_alike (λ f. occurrences (normal_at f false)) occurrences fs (part false fs each) ∙ sym (occurrences_or fs)

at_denial : (f : Formula) → Kept f → Kept (Not f)
at_denial f known true = ap occurrences (kept_not f) ∙ known false ∙ sym (occurrences_not f)
at_denial f known false = ap occurrences (denied_not f) ∙ known true ∙ sym (occurrences_not f)

two : (f g : Formula) (xs ys : List Var) → occurrences f ≡ xs → occurrences g ≡ ys → flat_map occurrences (f ∷ g ∷ []) ≡ xs ++ ys
two f g xs ys p q = ap (λ zs. zs ++ (occurrences g ++ [])) p ∙ ap (λ zs. xs ++ zs) (append-nil (occurrences g) ∙ q)

at_implication : (f g : Formula) → Kept f → Kept g → Kept (Implies f g)
at_implication f g known there true =
    ap occurrences (kept_implies f g) ∙ occurrences_or (normal_at f false ∷ normal_at g true ∷ [])
    ∙ two (normal_at f false) (normal_at g true) (occurrences f) (occurrences g) (known false) (there true) ∙ sym (occurrences_implies f g)
at_implication f g known there false =
    ap occurrences (denied_implies f g) ∙ occurrences_and (normal_at f true ∷ normal_at g false ∷ [])
    ∙ two (normal_at f true) (normal_at g false) (occurrences f) (occurrences g) (known true) (there false) ∙ sym (occurrences_implies f g)

at_some : (vars : TypedVars) (f : Formula) → Kept f → Kept (Exists vars f)
at_some vars f known true = ap occurrences (kept_exists vars f) ∙ occurrences_exists vars (normal_at f true) ∙ ap (unhidden vars) (known true) ∙ sym (occurrences_exists vars f)
at_some vars f known false =
    ap occurrences (denied_exists vars f) ∙ occurrences_not (Exists vars (normal_at f true)) ∙ occurrences_exists vars (normal_at f true) ∙ ap (unhidden vars) (known true)
    ∙ sym (occurrences_exists vars f)

at_every : (vars : TypedVars) (f : Formula) → Kept f → Kept (Forall vars f)
at_every vars f known true =
    ap occurrences (kept_forall vars f) ∙ occurrences_not (Exists vars (normal_at f false)) ∙ occurrences_exists vars (normal_at f false) ∙ ap (unhidden vars) (known false)
    ∙ sym (occurrences_forall vars f)
at_every vars f known false = ap occurrences (denied_forall vars f) ∙ occurrences_exists vars (normal_at f false) ∙ ap (unhidden vars) (known false) ∙ sym (occurrences_forall vars f)

pub kept : (f : Formula) (b : Bool) → occurrences (normal_at f b) ≡ occurrences f
kept =
    induction Kept
    (record {
      atom = at_atom;
      test = at_test;
      both = at_both;
      either = at_either;
      denial = at_denial;
      implication = at_implication;
      some = at_some;
      every = at_every;
    })
