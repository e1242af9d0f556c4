-- The normal form keeps the constants.
use Rattle.std.proofs.Common.{◌≡◌, ℕ, Bool, true, false, List, [], ◌∷◌, ◌++◌, map, ap, sym, ◌∙◌}
use Rattle.std.specs.List.{flat_map, AllByRecursion}
use Rattle.std.proofs.lemmas.List.{append-nil}
use Rattle.std.proofs.lemmas.List.Folds.{flat_map-map}
use Rattle.dbn_value.specs.declared.value.Value.{Value}
use Rattle.dbn_value.specs.declared.term.Term.{Term}
use Rattle.dbn_value.specs.declared.term.Cmp.{Cmp}
use Rattle.dbn_formula.specs.declared.formula.Formula.{Formula}
use Rattle.dbn_formula.specs.declared.formula.Formula.TheVariants.{Atom, Test, And, Or, Not, Implies, Exists, Forall}
use Rattle.dbn_formula.specs.Variables.{TypedVars}
use Rattle.dbn_formula.specs.Answers.{constants}
use Rattle.dbn_formula.specs.Normal.{denied_cmp, normal_at}
use Rattle.dbn_formula.proofs.Induction.{induction}
use Rattle.dbn_formula.proofs.Maps.{flat_alike}
use Rattle.dbn_formula.proofs.Truth.{each_of}
use Rattle.dbn_formula.proofs.ConstantsLaws.{constants_test, constants_and, constants_or, constants_not, constants_implies, constants_exists, constants_forall}
use Rattle.dbn_formula.proofs.NormalLaws.{kept_atom, kept_test, kept_and, kept_or, kept_not, kept_implies, kept_exists, kept_forall, denied_atom, denied_test, denied_and, denied_or, denied_not, denied_implies, denied_exists, denied_forall}

abbrev pub Kept : Formula → Type 0
Kept f = (b : Bool) → constants (normal_at f b) ≡ constants f

part : (b : Bool) (fs : List Formula) → AllByRecursion Kept fs → AllByRecursion (λ f. constants (normal_at f b) ≡ constants f) fs
part b fs each = each_of (λ f known. known b) fs each

at_atom : (rel : ℕ) (terms : List Term) → Kept (Atom rel terms)
at_atom rel terms true = ap constants (kept_atom rel terms)
at_atom rel terms false = ap constants (denied_atom rel terms) ∙ constants_not (Atom rel terms)

at_test : (c : Cmp) (left right : Term) → Kept (Test c left right)
at_test c left right true = ap constants (kept_test c left right)
at_test c left right false = ap constants (denied_test c left right) ∙ constants_test (denied_cmp c) left right ∙ sym (constants_test c left right)

at_both : (fs : List Formula) → AllByRecursion Kept fs → Kept (And fs)
at_both fs each true =
    ap constants (kept_and fs) ∙ constants_and (map (λ f. normal_at f true) fs) ∙ flat_map-map constants (λ f. normal_at f true) fs
    ∙ flat_alike (λ f. constants (normal_at f true)) constants fs (part true fs each) ∙ sym (constants_and fs)
at_both fs each false =
    ap constants (denied_and fs) ∙ constants_or (map (λ f. normal_at f false) fs) ∙ flat_map-map constants (λ f. normal_at f false) fs
    ∙ flat_alike (λ f. constants (normal_at f false)) constants fs (part false fs each) ∙ sym (constants_and fs)

at_either : (fs : List Formula) → AllByRecursion Kept fs → Kept (Or fs)
at_either fs each true =
    ap constants (kept_or fs) ∙ constants_or (map (λ f. normal_at f true) fs) ∙ flat_map-map constants (λ f. normal_at f true) fs
    ∙ flat_alike (λ f. constants (normal_at f true)) constants fs (part true fs each) ∙ sym (constants_or fs)
at_either fs each false =
    ap constants (denied_or fs) ∙ constants_and (map (λ f. normal_at f false) fs) ∙ flat_map-map constants (λ f. normal_at f false) fs
    ∙ flat_alike (λ f. constants (normal_at f false)) constants fs (part false fs each) ∙ sym (constants_or fs)

at_denial : (f : Formula) → Kept f → Kept (Not f)
at_denial f known true = ap constants (kept_not f) ∙ known false ∙ sym (constants_not f)
at_denial f known false = ap constants (denied_not f) ∙ known true ∙ sym (constants_not f)

two : (f g : Formula) (xs ys : List Value) → constants f ≡ xs → constants g ≡ ys → flat_map constants (f ∷ g ∷ []) ≡ xs ++ ys
two f g xs ys p q = ap (λ zs. zs ++ (constants g ++ [])) p ∙ ap (λ zs. xs ++ zs) (append-nil (constants g) ∙ q)

at_implication : (f g : Formula) → Kept f → Kept g → Kept (Implies f g)
at_implication f g known there true =
    ap constants (kept_implies f g) ∙ constants_or (normal_at f false ∷ normal_at g true ∷ [])
    ∙ two (normal_at f false) (normal_at g true) (constants f) (constants g) (known false) (there true) ∙ sym (constants_implies f g)
at_implication f g known there false =
    ap constants (denied_implies f g) ∙ constants_and (normal_at f true ∷ normal_at g false ∷ [])
    ∙ two (normal_at f true) (normal_at g false) (constants f) (constants g) (known true) (there false) ∙ sym (constants_implies f g)

at_some : (vars : TypedVars) (f : Formula) → Kept f → Kept (Exists vars f)
at_some vars f known true = ap constants (kept_exists vars f) ∙ constants_exists vars (normal_at f true) ∙ known true ∙ sym (constants_exists vars f)
at_some vars f known false =
    ap constants (denied_exists vars f) ∙ constants_not (Exists vars (normal_at f true)) ∙ constants_exists vars (normal_at f true) ∙ known true
    ∙ sym (constants_exists vars f)

at_every : (vars : TypedVars) (f : Formula) → Kept f → Kept (Forall vars f)
at_every vars f known true =
    ap constants (kept_forall vars f) ∙ constants_not (Exists vars (normal_at f false)) ∙ constants_exists vars (normal_at f false) ∙ known false
    ∙ sym (constants_forall vars f)
at_every vars f known false = ap constants (denied_forall vars f) ∙ constants_exists vars (normal_at f false) ∙ known false ∙ sym (constants_forall vars f)

pub kept : (f : Formula) (b : Bool) → constants (normal_at f b) ≡ constants f
kept =
    induction Kept
    (record {
      atom = at_atom;
      test = at_test;
      both = at_both;
      either = at_either;
      denial = at_denial;
      implication = at_implication;
      some = at_some;
      every = at_every;
    })
