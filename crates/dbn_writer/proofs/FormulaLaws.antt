-- The S-expressions of formulas with numbers, variant by variant, and the relations of their parts.
use Rattle.std.proofs.Common.{◌≡◌, ℕ, ◌+◌, ◌<◌, ◌≤◌, true, List, [], ◌∷◌, map, sym, ap, ◌∙◌, arith, codes, length, get_or, remove, sum_by}
use Rattle.std.specs.List.{AllPass}
use Rattle.std.proofs.lemmas.Bool.{and_parts, ltb-true}
use Rattle.std.proofs.lemmas.List.Sums.{AllPass-from_list_all, sum_by-remove}
use Rattle.dbn_value.specs.declared.term.Term.{Term}
use Rattle.dbn_value.specs.declared.term.Cmp.{Cmp}
use Rattle.dbn_formula.specs.Variables.{TypedVars}
use Rattle.dbn_formula.specs.Written.{of_first}
use Rattle.dbn_formula.specs.declared.formula.Formula.{Formula}
use Rattle.dbn_formula.specs.declared.formula.Formula.TheVariants.{Atom, Test, And, Or, Not, Implies, Exists, Forall}
use Rattle.dbn_formula.proofs.Maps.{map-map}
use Rattle.dbn_formula.proofs.Weights.{weight}
use Rattle.dbn_formula.proofs.WrittenTests.{first_atom, first_and, first_or, first_not, first_implies, first_exists, first_forall}
use Rattle.dbn_net.specs.Forms.{Name}
use Rattle.dbn_net.specs.Naming.{name_at, named_formula}
use Rattle.dbn_net.specs.Printing.{form, term_sexp, scope_sexp, comparison_word, formula_sexp}
use Rattle.dbn_net.proofs.WrittenFormulaLaws.{sexp_atom, sexp_test, sexp_and, sexp_or, sexp_not, sexp_implies, sexp_exists, sexp_forall, named_atom, named_test, named_and, named_or, named_not, named_implies, named_exists, named_forall}

module _ (names : List Name) where
  pub shown_atom : (n : ℕ) (terms : List Term) → formula_sexp (named_formula names (Atom n terms)) ≡ form (name_at names n) (map term_sexp terms)
  shown_atom n terms = ap formula_sexp (named_atom names n terms) ∙ sexp_atom (name_at names n) terms

  pub shown_test : (c : Cmp) (left right : Term) → formula_sexp (named_formula names (Test c left right)) ≡ form (comparison_word c) (term_sexp left ∷ term_sexp right ∷ [])
  shown_test c left right = ap formula_sexp (named_test names c left right) ∙ sexp_test c left right

  pub shown_and : (fs : List Formula) → formula_sexp (named_formula names (And fs)) ≡ form (codes "and") (map (λ f. formula_sexp (named_formula names f)) fs)
  shown_and fs = ap formula_sexp (named_and names fs) ∙ sexp_and (map (named_formula names) fs) ∙ ap (form (codes "and")) (map-map formula_sexp (named_formula names) fs)

  pub shown_or : (fs : List Formula) → formula_sexp (named_formula names (Or fs)) ≡ form (codes "or") (map (λ f. formula_sexp (named_formula names f)) fs)
  shown_or fs = ap formula_sexp (named_or names fs) ∙ sexp_or (map (named_formula names) fs) ∙ ap (form (codes "or")) (map-map formula_sexp (named_formula names) fs)

  pub shown_not : (f : Formula) → formula_sexp (named_formula names (Not f)) ≡ form (codes "not") (formula_sexp (named_formula names f) ∷ [])
  shown_not f = ap formula_sexp (named_not names f) ∙ sexp_not (named_formula names f)

  pub shown_implies : (f g : Formula) → formula_sexp (named_formula names (Implies f g)) ≡ form (codes "implies") (formula_sexp (named_formula names f) ∷ formula_sexp (named_formula names g) ∷ [])
  shown_implies f g = ap formula_sexp (named_implies names f g) ∙ sexp_implies (named_formula names f) (named_formula names g)

  pub shown_exists : (vars : TypedVars) (f : Formula) → formula_sexp (named_formula names (Exists vars f)) ≡ form (codes "exists") (scope_sexp vars ∷ formula_sexp (named_formula names f) ∷ [])
  shown_exists vars f = ap formula_sexp (named_exists names vars f) ∙ sexp_exists vars (named_formula names f)

  pub shown_forall : (vars : TypedVars) (f : Formula) → formula_sexp (named_formula names (Forall vars f)) ≡ form (codes "forall") (scope_sexp vars ∷ formula_sexp (named_formula names f) ∷ [])
  shown_forall vars f = ap formula_sexp (named_forall names vars f) ∙ sexp_forall vars (named_formula names f)

pub ruleset shown_laws = (shown_atom, shown_test, shown_and, shown_or, shown_not, shown_implies, shown_exists, shown_forall)

-- ---- what a formula over the first relations says of its parts

pub known_atom : (n : ℕ) (terms : List Term) (count : ℕ) → of_first count (Atom n terms) ≡ true → n < count
known_atom n terms count e = ltb-true n count (sym (first_atom n terms count) ∙ e)

pub known_and : (fs : List Formula) (count : ℕ) → of_first count (And fs) ≡ true → AllPass (of_first count) fs
known_and fs count e = AllPass-from_list_all (of_first count) fs (sym (first_and fs count) ∙ e)

pub known_or : (fs : List Formula) (count : ℕ) → of_first count (Or fs) ≡ true → AllPass (of_first count) fs
known_or fs count e = AllPass-from_list_all (of_first count) fs (sym (first_or fs count) ∙ e)

pub known_not : (f : Formula) (count : ℕ) → of_first count (Not f) ≡ true → of_first count f ≡ true
known_not f count e = sym (first_not f count) ∙ e

pub known_left : (f g : Formula) (count : ℕ) → of_first count (Implies f g) ≡ true → of_first count f ≡ true
known_left f g count e = (and_parts (of_first count f) (of_first count g) (sym (first_implies f g count) ∙ e)).0

pub known_right : (f g : Formula) (count : ℕ) → of_first count (Implies f g) ≡ true → of_first count g ≡ true
known_right f g count e = (and_parts (of_first count f) (of_first count g) (sym (first_implies f g count) ∙ e)).1

pub known_exists : (vars : TypedVars) (f : Formula) (count : ℕ) → of_first count (Exists vars f) ≡ true → of_first count f ≡ true
known_exists vars f count e = sym (first_exists vars f count) ∙ e

pub known_forall : (vars : TypedVars) (f : Formula) (count : ℕ) → of_first count (Forall vars f) ≡ true → of_first count f ≡ true
known_forall vars f count e = sym (first_forall vars f count) ∙ e

-- ---- a part weighs no more than all

pub one_weighs : (fs : List Formula) (i : ℕ) (f : Formula) → i < length fs → f ≡ get_or fs i f → weight f ≤ sum_by weight fs
one_weighs fs i f less is =
    let a : sum_by weight (remove fs i) + weight (get_or fs i f) ≡ sum_by weight fs = sum_by-remove weight fs i f less in
    let b : weight f ≡ weight (get_or fs i f) = ap weight is in
    omega (arith, a, b)
