-- The normal form is at most three times as great.
use Rattle.std.proofs.Common.{◌≡◌, ℕ, ◌+◌, ◌*◌, ◌≤◌, Bool, true, false, List, [], ◌∷◌, map, ap, ◌∙◌, arith}
use Rattle.std.specs.List.{AllByRecursion}
use Rattle.dbn_value.specs.declared.term.Term.{Term}
use Rattle.dbn_value.specs.declared.term.Cmp.{Cmp}
use Rattle.dbn_formula.specs.declared.formula.Formula.{Formula}
use Rattle.dbn_formula.specs.declared.formula.Formula.TheVariants.{Atom, Test, And, Or, Not, Implies, Exists, Forall}
use Rattle.dbn_formula.specs.Variables.{TypedVars}
use Rattle.dbn_formula.specs.Size.{total, size}
use Rattle.dbn_formula.specs.Normal.{denied_cmp, normal_at}
use Rattle.dbn_formula.proofs.Induction.{induction}
use Rattle.dbn_formula.proofs.SizeLaws.{size_atom, size_test, size_and, size_or, size_not, size_implies, size_exists, size_forall}
use Rattle.dbn_formula.proofs.NormalLaws.{kept_atom, kept_test, kept_and, kept_or, kept_not, kept_implies, kept_exists, kept_forall, denied_atom, denied_test, denied_and, denied_or, denied_not, denied_implies, denied_exists, denied_forall}

abbrev Small : Formula → Type 0
Small f = (b : Bool) → size (normal_at f b) ≤ 3 * size f

both_small : (a b c d : ℕ) → a ≤ 3 * c → b ≤ 3 * d → a + b ≤ 3 * (c + d)
both_small a b c d p q = omega arith

all_small : (b : Bool) (fs : List Formula) → AllByRecursion Small fs → total (map size (map (λ f. normal_at f b) fs)) ≤ 3 * total (map size fs)
all_small b [] each = omega arith
all_small b (f ∷ fs) each =
    both_small (size (normal_at f b)) (total (map size (map (λ f. normal_at f b) fs))) (size f) (total (map size fs)) (each.0 b) (all_small b fs each.1)

-- one node more than parts that are three times as great at most
one_more : (whole made parts now : ℕ) → whole ≡ 1 + made → now ≡ 1 + parts → made ≤ 3 * parts → whole ≤ 3 * now
one_more whole made parts now p q small = omega arith

at_atom : (rel : ℕ) (terms : List Term) → Small (Atom rel terms)
at_atom rel terms true = let e = ap size (kept_atom rel terms) in omega arith
at_atom rel terms false =
    let e = ap size (denied_atom rel terms) ∙ size_not (Atom rel terms) in
    let g = size_atom rel terms in
    omega arith

at_test : (c : Cmp) (left right : Term) → Small (Test c left right)
at_test c left right true = let e = ap size (kept_test c left right) in omega arith
at_test c left right false =
    let e = ap size (denied_test c left right) ∙ size_test (denied_cmp c) left right in
    let g = size_test c left right in
    omega arith

at_both : (fs : List Formula) → AllByRecursion Small fs → Small (And fs)
at_both fs each true =
    one_more (size (normal_at (And fs) true)) (total (map size (map (λ f. normal_at f true) fs))) (total (map size fs)) (size (And fs))
    (ap size (kept_and fs) ∙ size_and (map (λ f. normal_at f true) fs)) (size_and fs) (all_small true fs each)
at_both fs each false =
    one_more (size (normal_at (And fs) false)) (total (map size (map (λ f. normal_at f false) fs))) (total (map size fs)) (size (And fs))
    (ap size (denied_and fs) ∙ size_or (map (λ f. normal_at f false) fs)) (size_and fs) (all_small false fs each)

at_either : (fs : List Formula) → AllByRecursion Small fs → Small (Or fs)
at_either fs each true =
    one_more (size (normal_at (Or fs) true)) (total (map size (map (λ f. normal_at f true) fs))) (total (map size fs)) (size (Or fs))
    (ap size (kept_or fs) ∙ size_or (map (λ f. normal_at f true) fs)) (size_or fs) (all_small true fs each)
at_either fs each false =
    one_more (size (normal_at (Or fs) false)) (total (map size (map (λ f. normal_at f false) fs))) (total (map size fs)) (size (Or fs))
    (ap size (denied_or fs) ∙ size_and (map (λ f. normal_at f false) fs)) (size_or fs) (all_small false fs each)

at_denial : (f : Formula) → Small f → Small (Not f)
at_denial f small true =
    let e = ap size (kept_not f) in
    let g = size_not f in
    let h = small false in
    omega arith
at_denial f small false =
    let e = ap size (denied_not f) in
    let g = size_not f in
    let h = small true in
    omega arith

at_implication : (f g : Formula) → Small f → Small g → Small (Implies f g)
at_implication f g small there true =
    let e = ap size (kept_implies f g) ∙ size_or (normal_at f false ∷ normal_at g true ∷ []) in
    let s = size_implies f g in
    let h = small false in
    let k = there true in
    omega arith
at_implication f g small there false =
    let e = ap size (denied_implies f g) ∙ size_and (normal_at f true ∷ normal_at g false ∷ []) in
    let s = size_implies f g in
    let h = small true in
    let k = there false in
    omega arith

at_some : (vars : TypedVars) (f : Formula) → Small f → Small (Exists vars f)
at_some vars f small true =
    let e = ap size (kept_exists vars f) ∙ size_exists vars (normal_at f true) in
    let s = size_exists vars f in
    let h = small true in
    omega arith
at_some vars f small false =
    let e = ap size (denied_exists vars f) ∙ size_not (Exists vars (normal_at f true)) in
    let d = size_exists vars (normal_at f true) in
    let s = size_exists vars f in
    let h = small true in
    omega arith

at_every : (vars : TypedVars) (f : Formula) → Small f → Small (Forall vars f)
at_every vars f small true =
    let e = ap size (kept_forall vars f) ∙ size_not (Exists vars (normal_at f false)) in
    let d = size_exists vars (normal_at f false) in
    let s = size_forall vars f in
    let h = small false in
    omega arith
at_every vars f small false =
    let e = ap size (denied_forall vars f) ∙ size_exists vars (normal_at f false) in
    let s = size_forall vars f in
    let h = small false in
    omega arith

pub small : (f : Formula) (b : Bool) → size (normal_at f b) ≤ 3 * size f
small =
    induction Small
    (record {
      atom = at_atom;
      test = at_test;
      both = at_both;
      either = at_either;
      denial = at_denial;
      implication = at_implication;
      some = at_some;
      every = at_every;
    })
