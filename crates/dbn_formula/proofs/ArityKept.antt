-- The normal form, renaming apart and arranging keep the numbers of terms.
use Rattle.std.proofs.Common.{◌≡◌, ℕ, Bool, true, false, ◌&&◌, ◌==◌, List, [], ◌∷◌, map, refl, ap, sym, ◌∙◌, length}
use Rattle.std.specs.Prelude.{slice_index_or}
use Rattle.std.specs.List.{list_all, AllByRecursion}
use Rattle.std.proofs.lemmas.List.{length-map}
use Rattle.std.proofs.lemmas.List.Folds.{list_all-map}
use Rattle.dbn_value.proofs.MemberLaws.{recursion_at}
use Rattle.dbn_value.specs.declared.term.Var.{Var}
use Rattle.dbn_value.specs.declared.term.Term.{Term}
use Rattle.dbn_value.specs.declared.term.Cmp.{Cmp}
use Rattle.dbn_formula.specs.Variables.{TypedVars}
use Rattle.dbn_formula.specs.Typing.{Shapes, arity_fits}
use Rattle.dbn_formula.specs.Normal.{denied_cmp, normal_at, normal}
use Rattle.dbn_formula.specs.Apart.{Renaming, marks, renamed_term, fresh, last_mark, opened, renamed_at, last_at, renamed_all, renamed}
use Rattle.dbn_formula.specs.Safe.{outside, arranged}
use Rattle.dbn_formula.specs.Solutions.{solvable}
use Rattle.dbn_formula.specs.declared.formula.Formula.{Formula}
use Rattle.dbn_formula.specs.declared.formula.Formula.TheVariants.{Atom, Test, And, Or, Not, Implies, Exists, Forall}
use Rattle.dbn_formula.proofs.Induction.{induction}
use Rattle.dbn_formula.proofs.Truth.{all_alike, each_of}
use Rattle.dbn_formula.proofs.TypingLaws.{arity_atom, arity_test, arity_and, arity_or, arity_not, arity_implies, arity_exists, arity_forall}
use Rattle.dbn_formula.proofs.NormalLaws.{kept_atom, kept_test, kept_and, kept_or, kept_not, kept_implies, kept_exists, kept_forall, denied_atom, denied_test, denied_and, denied_or, denied_not, denied_implies, denied_exists, denied_forall}
use Rattle.dbn_formula.proofs.ApartLaws.{renamed_atom, renamed_test, renamed_and, renamed_or, renamed_not, renamed_implies, renamed_exists, renamed_forall}
use Rattle.dbn_formula.proofs.SafeLaws.{arranged_atom, arranged_test, arranged_and, arranged_or, arranged_not, arranged_implies, arranged_exists, arranged_forall}
use Rattle.dbn_formula.proofs.OrderOfParts.{order, order_is, all_arranged, ordered, all_ordered}

and_true : (b : Bool) → (b && true) ≡ b
and_true true = refl
and_true false = refl

-- ---- the normal form

module _ (rels : Shapes) where
  abbrev KeptNormal : Formula → Type 0
  KeptNormal f = (keep : Bool) → arity_fits rels (normal_at f keep) ≡ arity_fits rels f

  parts : (fs : List Formula) → AllByRecursion KeptNormal fs → (keep : Bool) → list_all (arity_fits rels) (map (λ f. normal_at f keep) fs) ≡ list_all (arity_fits rels) fs
  parts fs each keep =
      list_all-map (arity_fits rels) (λ f. normal_at f keep) fs
      ∙ all_alike (λ f. arity_fits rels (normal_at f keep)) (arity_fits rels) fs (each_of (λ f known. known keep) fs each)

  at_test : (c : Cmp) (left right : Term) → KeptNormal (Test c left right)
  at_test c left right true = ap (arity_fits rels) (kept_test c left right)
  at_test c left right false = ap (arity_fits rels) (denied_test c left right) ∙ arity_test rels (denied_cmp c) left right ∙ sym (arity_test rels c left right)

  at_atom : (rel : ℕ) (terms : List Term) → KeptNormal (Atom rel terms)
  at_atom rel terms true = ap (arity_fits rels) (kept_atom rel terms)
  at_atom rel terms false = ap (arity_fits rels) (denied_atom rel terms) ∙ arity_not rels (Atom rel terms)

  at_both : (fs : List Formula) → AllByRecursion KeptNormal fs → KeptNormal (And fs)
  at_both fs each true = ap (arity_fits rels) (kept_and fs) ∙ arity_and rels (map (λ f. normal_at f true) fs) ∙ parts fs each true ∙ sym (arity_and rels fs)
  at_both fs each false = ap (arity_fits rels) (denied_and fs) ∙ arity_or rels (map (λ f. normal_at f false) fs) ∙ parts fs each false ∙ sym (arity_and rels fs)

  at_either : (fs : List Formula) → AllByRecursion KeptNormal fs → KeptNormal (Or fs)
  at_either fs each true = ap (arity_fits rels) (kept_or fs) ∙ arity_or rels (map (λ f. normal_at f true) fs) ∙ parts fs each true ∙ sym (arity_or rels fs)
  at_either fs each false = ap (arity_fits rels) (denied_or fs) ∙ arity_and rels (map (λ f. normal_at f false) fs) ∙ parts fs each false ∙ sym (arity_or rels fs)

  at_denial : (f : Formula) → KeptNormal f → KeptNormal (Not f)
  at_denial f known true = ap (arity_fits rels) (kept_not f) ∙ known false ∙ sym (arity_not rels f)
  at_denial f known false = ap (arity_fits rels) (denied_not f) ∙ known true ∙ sym (arity_not rels f)

  two : (f g h k : Formula) → arity_fits rels h ≡ arity_fits rels f → arity_fits rels k ≡ arity_fits rels g → list_all (arity_fits rels) (h ∷ k ∷ []) ≡ (arity_fits rels f && arity_fits rels g)
  two f g h k p q = ap (λ b. b && (arity_fits rels k && true)) p ∙ ap (λ b. arity_fits rels f && b) (and_true (arity_fits rels k) ∙ q)

  at_implication : (f g : Formula) → KeptNormal f → KeptNormal g → KeptNormal (Implies f g)
  at_implication f g known there true =
      ap (arity_fits rels) (kept_implies f g) ∙ arity_or rels (normal_at f false ∷ normal_at g true ∷ [])
      ∙ two f g (normal_at f false) (normal_at g true) (known false) (there true) ∙ sym (arity_implies rels f g)
  at_implication f g known there false =
      ap (arity_fits rels) (denied_implies f g) ∙ arity_and rels (normal_at f true ∷ normal_at g false ∷ [])
      ∙ two f g (normal_at f true) (normal_at g false) (known true) (there false) ∙ sym (arity_implies rels f g)

  at_some : (vars : TypedVars) (f : Formula) → KeptNormal f → KeptNormal (Exists vars f)
  at_some vars f known true = ap (arity_fits rels) (kept_exists vars f) ∙ arity_exists rels vars (normal_at f true) ∙ known true ∙ sym (arity_exists rels vars f)
  at_some vars f known false =
      ap (arity_fits rels) (denied_exists vars f) ∙ arity_not rels (Exists vars (normal_at f true)) ∙ arity_exists rels vars (normal_at f true) ∙ known true ∙ sym (arity_exists rels vars f)

  at_every : (vars : TypedVars) (f : Formula) → KeptNormal f → KeptNormal (Forall vars f)
  at_every vars f known true =
      ap (arity_fits rels) (kept_forall vars f) ∙ arity_not rels (Exists vars (normal_at f false)) ∙ arity_exists rels vars (normal_at f false) ∙ known false ∙ sym (arity_forall rels vars f)
  at_every vars f known false = ap (arity_fits rels) (denied_forall vars f) ∙ arity_exists rels vars (normal_at f false) ∙ known false ∙ sym (arity_forall rels vars f)

  pub normal_arity : (f : Formula) → KeptNormal f
  normal_arity = induction KeptNormal (record {
    atom = at_atom;
    test = at_test;
    both = at_both;
    either = at_either;
    denial = at_denial;
    implication = at_implication;
    some = at_some;
    every = at_every;
  })

-- ---- renaming apart

module _ (rels : Shapes) (used : List ℕ) where
  abbrev KeptRenamed : Formula → Type 0
  KeptRenamed f = (names : Renaming) (n : ℕ) → arity_fits rels (renamed_at used f names n) ≡ arity_fits rels f

  all_renamed : (fs : List Formula) → AllByRecursion KeptRenamed fs → (names : Renaming) (n : ℕ) → list_all (arity_fits rels) (renamed_all used fs names n) ≡ list_all (arity_fits rels) fs
  all_renamed [] each names n = refl
  all_renamed (f ∷ fs) each names n =
      ap (λ b. b && list_all (arity_fits rels) (renamed_all used fs names (last_at used f names n))) (each.0 names n)
      ∙ ap (λ b. arity_fits rels f && b) (all_renamed fs each.1 names (last_at used f names n))

  renames_arity : (f : Formula) → KeptRenamed f
  renames_arity = induction KeptRenamed (record {
    atom = λ rel terms names n. ap (arity_fits rels) (renamed_atom used rel terms names n) ∙ arity_atom rels rel (map (renamed_term names) terms)
        ∙ ap (λ k. k == length (slice_index_or rels rel [])) (length-map terms (renamed_term names)) ∙ sym (arity_atom rels rel terms);
    test = λ c left right names n. ap (arity_fits rels) (renamed_test used c left right names n) ∙ arity_test rels c (renamed_term names left) (renamed_term names right) ∙ sym (arity_test rels c left right);
    both = λ fs each names n. ap (arity_fits rels) (renamed_and used fs names n) ∙ arity_and rels (renamed_all used fs names n) ∙ all_renamed fs each names n ∙ sym (arity_and rels fs);
    either = λ fs each names n. ap (arity_fits rels) (renamed_or used fs names n) ∙ arity_or rels (renamed_all used fs names n) ∙ all_renamed fs each names n ∙ sym (arity_or rels fs);
    denial = λ f here names n. ap (arity_fits rels) (renamed_not used f names n) ∙ arity_not rels (renamed_at used f names n) ∙ here names n ∙ sym (arity_not rels f);
    implication = λ f g here there names n. let next : ℕ = last_at used f names n in
        ap (arity_fits rels) (renamed_implies used f g names n) ∙ arity_implies rels (renamed_at used f names n) (renamed_at used g names next)
        ∙ ap (λ b. b && arity_fits rels (renamed_at used g names next)) (here names n) ∙ ap (λ b. arity_fits rels f && b) (there names next) ∙ sym (arity_implies rels f g);
    some = λ vars f here names n. ap (arity_fits rels) (renamed_exists used vars f names n) ∙ arity_exists rels (fresh used vars n) (renamed_at used f (opened used vars n names) (last_mark used vars n))
        ∙ here (opened used vars n names) (last_mark used vars n) ∙ sym (arity_exists rels vars f);
    every = λ vars f here names n. ap (arity_fits rels) (renamed_forall used vars f names n) ∙ arity_forall rels (fresh used vars n) (renamed_at used f (opened used vars n names) (last_mark used vars n))
        ∙ here (opened used vars n names) (last_mark used vars n) ∙ sym (arity_forall rels vars f);
  })

pub renamed_arity : (rels : Shapes) (f : Formula) → arity_fits rels (renamed f) ≡ arity_fits rels f
renamed_arity rels f = renames_arity rels (marks f) f [] 0

-- ---- arranging

module _ (rels : Shapes) where
  abbrev KeptArranged : Formula → Type 0
  KeptArranged f = (bound : List Var) → arity_fits rels (arranged f bound) ≡ arity_fits rels f

  pub arranged_arity : (f : Formula) → KeptArranged f
  arranged_arity = induction KeptArranged (record {
    atom = λ rel terms bound. ap (arity_fits rels) (arranged_atom rel terms bound);
    test = λ c left right bound. ap (arity_fits rels) (arranged_test c left right bound);
    both = λ fs each bound.
        ap (arity_fits rels) (arranged_and fs bound ∙ ap And (order_is (length fs) fs bound)) ∙ arity_and rels (order (length fs) fs bound)
        ∙ all_ordered (arity_fits rels) fs (order (length fs) fs bound) (ordered (length fs) fs bound) (λ h at. recursion_at KeptArranged h fs each at) ∙ sym (arity_and rels fs);
    either = λ fs each bound.
        ap (arity_fits rels) (arranged_or fs bound) ∙ arity_or rels (map (λ f. arranged f bound) fs)
        ∙ all_ordered (arity_fits rels) fs (map (λ f. arranged f bound) fs) (all_arranged fs bound) (λ h at. recursion_at KeptArranged h fs each at) ∙ sym (arity_or rels fs);
    denial = λ f here bound. ap (arity_fits rels) (arranged_not f bound) ∙ arity_not rels (arranged f bound) ∙ here bound ∙ sym (arity_not rels f);
    implication = λ f g here there bound.
        ap (arity_fits rels) (arranged_implies f g bound) ∙ arity_implies rels (arranged f bound) (arranged g bound)
        ∙ ap (λ b. b && arity_fits rels (arranged g bound)) (here bound) ∙ ap (λ b. arity_fits rels f && b) (there bound) ∙ sym (arity_implies rels f g);
    some = λ vars f here bound. ap (arity_fits rels) (arranged_exists vars f bound) ∙ arity_exists rels vars (arranged f (outside vars bound)) ∙ here (outside vars bound) ∙ sym (arity_exists rels vars f);
    every = λ vars f here bound. ap (arity_fits rels) (arranged_forall vars f bound) ∙ arity_forall rels vars (arranged f (outside vars bound)) ∙ here (outside vars bound) ∙ sym (arity_forall rels vars f);
  })

pub solvable_arity : (rels : Shapes) (f : Formula) → arity_fits rels (solvable f) ≡ arity_fits rels f
solvable_arity rels f = arranged_arity rels (renamed (normal f)) [] ∙ renamed_arity rels (normal f) ∙ normal_arity rels f true
