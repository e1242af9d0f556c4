-- What the folds over formulas with names give at each variant, and the parser of formulas at each depth.
use Rattle.std.proofs.Common.{◌≡◌, ℕ, zero, suc, Bool, true, false, ◌&&◌, List, [], ◌∷◌, map, refl, Option, Some, None, codes}
use Rattle.std.specs.Option.{option_map}
use Rattle.std.specs.List.{list_all}
use Rattle.dbn_value.specs.declared.term.Term.{Term}
use Rattle.dbn_value.specs.declared.term.Cmp.{Cmp}
use Rattle.dbn_formula.specs.Variables.{TypedVars}
use Rattle.dbn_formula.specs.declared.formula.Formula.{Formula}
use Rattle.dbn_formula.specs.declared.formula.Formula.TheVariants as formula
use Rattle.dbn_formula.proofs.Folds as folds
use Rattle.dbn_sexp.specs.declared.sexp.Sexp.{Sexp}
use Rattle.dbn_net.specs.declared.written.WrittenFormula.{WrittenFormula}
use Rattle.dbn_net.specs.declared.written.WrittenFormula.TheVariants as written_formula
use Rattle.dbn_net.specs.Maybe.{◌>>=◌, all_known}
use Rattle.dbn_sexp.specs.Parts.{list_in}
use Rattle.dbn_net.specs.Forms.{Name, guard_step, is_guard, formula_in, formula_of, with_word, declared, declaration_in}
use Rattle.dbn_net.specs.Printing.{form, term_sexp, comparison_word, scope_sexp, formula_step, formula_sexp}
use Rattle.dbn_net.specs.Naming.{number_of, name_at, number_step, resolved_formula, name_step, named_formula}
use Rattle.dbn_net.specs.Judging.{once, scope_names, quantifies_step, quantifies_once}
use Rattle.dbn_net.proofs.WrittenFormulaFolds as folded

pub declaration_is : (one : Sexp) → declaration_in one ≡ (list_in one >>= with_word declared)
unfolding declaration_in
declaration_is one = refl

pub formula_too_deep : (one : Sexp) → formula_in zero one ≡ None
unfolding formula_in
formula_too_deep one = refl

pub formula_deeper : (depth : ℕ) (one : Sexp) → formula_in (suc depth) one ≡ (list_in one >>= with_word (formula_of (formula_in depth)))
unfolding formula_in
formula_deeper depth one = refl

pub sexp_atom : (rel : Name) (terms : List Term) → formula_sexp (written_formula.Atom rel terms) ≡ form rel (map term_sexp terms)
unfolding formula_sexp
sexp_atom rel terms = folded.fold_atom Sexp formula_step rel terms

pub sexp_test : (c : Cmp) (left right : Term) → formula_sexp (written_formula.Test c left right) ≡ form (comparison_word c) (term_sexp left ∷ term_sexp right ∷ [])
unfolding formula_sexp
sexp_test c left right = folded.fold_test Sexp formula_step c left right

pub sexp_and : (ps : List WrittenFormula) → formula_sexp (written_formula.And ps) ≡ form (codes "and") (map formula_sexp ps)
unfolding formula_sexp
sexp_and ps = folded.fold_and Sexp formula_step ps

pub sexp_or : (ps : List WrittenFormula) → formula_sexp (written_formula.Or ps) ≡ form (codes "or") (map formula_sexp ps)
unfolding formula_sexp
sexp_or ps = folded.fold_or Sexp formula_step ps

pub sexp_not : (p : WrittenFormula) → formula_sexp (written_formula.Not p) ≡ form (codes "not") (formula_sexp p ∷ [])
unfolding formula_sexp
sexp_not p = folded.fold_not Sexp formula_step p

pub sexp_implies : (p q : WrittenFormula) → formula_sexp (written_formula.Implies p q) ≡ form (codes "implies") (formula_sexp p ∷ formula_sexp q ∷ [])
unfolding formula_sexp
sexp_implies p q = folded.fold_implies Sexp formula_step p q

pub sexp_exists : (vars : TypedVars) (p : WrittenFormula) → formula_sexp (written_formula.Exists vars p) ≡ form (codes "exists") (scope_sexp vars ∷ formula_sexp p ∷ [])
unfolding formula_sexp
sexp_exists vars p = folded.fold_exists Sexp formula_step vars p

pub sexp_forall : (vars : TypedVars) (p : WrittenFormula) → formula_sexp (written_formula.Forall vars p) ≡ form (codes "forall") (scope_sexp vars ∷ formula_sexp p ∷ [])
unfolding formula_sexp
sexp_forall vars p = folded.fold_forall Sexp formula_step vars p

pub ruleset sexp_laws = (sexp_atom, sexp_test, sexp_and, sexp_or, sexp_not, sexp_implies, sexp_exists, sexp_forall)

pub guard_atom : (rel : Name) (terms : List Term) → is_guard (written_formula.Atom rel terms) ≡ false
unfolding is_guard
guard_atom rel terms = folded.fold_atom Bool guard_step rel terms

pub guard_test : (c : Cmp) (left right : Term) → is_guard (written_formula.Test c left right) ≡ true
unfolding is_guard
guard_test c left right = folded.fold_test Bool guard_step c left right

pub guard_and : (ps : List WrittenFormula) → is_guard (written_formula.And ps) ≡ list_all (λ b. b) (map is_guard ps)
unfolding is_guard
guard_and ps = folded.fold_and Bool guard_step ps

pub guard_or : (ps : List WrittenFormula) → is_guard (written_formula.Or ps) ≡ list_all (λ b. b) (map is_guard ps)
unfolding is_guard
guard_or ps = folded.fold_or Bool guard_step ps

pub guard_not : (p : WrittenFormula) → is_guard (written_formula.Not p) ≡ is_guard p
unfolding is_guard
guard_not p = folded.fold_not Bool guard_step p

pub guard_implies : (p q : WrittenFormula) → is_guard (written_formula.Implies p q) ≡ is_guard p && is_guard q
unfolding is_guard
guard_implies p q = folded.fold_implies Bool guard_step p q

pub guard_exists : (vars : TypedVars) (p : WrittenFormula) → is_guard (written_formula.Exists vars p) ≡ false
unfolding is_guard
guard_exists vars p = folded.fold_exists Bool guard_step vars p

pub guard_forall : (vars : TypedVars) (p : WrittenFormula) → is_guard (written_formula.Forall vars p) ≡ false
unfolding is_guard
guard_forall vars p = folded.fold_forall Bool guard_step vars p

pub ruleset guard_laws = (guard_atom, guard_test, guard_and, guard_or, guard_not, guard_implies, guard_exists, guard_forall)

pub quantifies_atom : (rel : Name) (terms : List Term) → quantifies_once (written_formula.Atom rel terms) ≡ true
unfolding quantifies_once
quantifies_atom rel terms = folded.fold_atom Bool quantifies_step rel terms

pub quantifies_test : (c : Cmp) (left right : Term) → quantifies_once (written_formula.Test c left right) ≡ true
unfolding quantifies_once
quantifies_test c left right = folded.fold_test Bool quantifies_step c left right

pub quantifies_and : (ps : List WrittenFormula) → quantifies_once (written_formula.And ps) ≡ list_all (λ b. b) (map quantifies_once ps)
unfolding quantifies_once
quantifies_and ps = folded.fold_and Bool quantifies_step ps

pub quantifies_or : (ps : List WrittenFormula) → quantifies_once (written_formula.Or ps) ≡ list_all (λ b. b) (map quantifies_once ps)
unfolding quantifies_once
quantifies_or ps = folded.fold_or Bool quantifies_step ps

pub quantifies_not : (p : WrittenFormula) → quantifies_once (written_formula.Not p) ≡ quantifies_once p
unfolding quantifies_once
quantifies_not p = folded.fold_not Bool quantifies_step p

pub quantifies_implies : (p q : WrittenFormula) → quantifies_once (written_formula.Implies p q) ≡ quantifies_once p && quantifies_once q
unfolding quantifies_once
quantifies_implies p q = folded.fold_implies Bool quantifies_step p q

pub quantifies_exists : (vars : TypedVars) (p : WrittenFormula) → quantifies_once (written_formula.Exists vars p) ≡ once (scope_names vars) && quantifies_once p
unfolding quantifies_once
quantifies_exists vars p = folded.fold_exists Bool quantifies_step vars p

pub quantifies_forall : (vars : TypedVars) (p : WrittenFormula) → quantifies_once (written_formula.Forall vars p) ≡ once (scope_names vars) && quantifies_once p
unfolding quantifies_once
quantifies_forall vars p = folded.fold_forall Bool quantifies_step vars p

pub ruleset quantifies_laws = (quantifies_atom, quantifies_test, quantifies_and, quantifies_or, quantifies_not, quantifies_implies, quantifies_exists, quantifies_forall)

pub resolved_atom : (names : List Name) (rel : Name) (terms : List Term) → resolved_formula names (written_formula.Atom rel terms) ≡ option_map (λ n. formula.Atom n terms) (number_of names rel)
unfolding resolved_formula
resolved_atom names rel terms = folded.fold_atom (Option Formula) (number_step names) rel terms

pub resolved_test : (names : List Name) (c : Cmp) (left right : Term) → resolved_formula names (written_formula.Test c left right) ≡ Some (formula.Test c left right)
unfolding resolved_formula
resolved_test names c left right = folded.fold_test (Option Formula) (number_step names) c left right

pub resolved_and : (names : List Name) (ps : List WrittenFormula) → resolved_formula names (written_formula.And ps) ≡ option_map formula.And (all_known (map (resolved_formula names) ps))
unfolding resolved_formula
resolved_and names ps = folded.fold_and (Option Formula) (number_step names) ps

pub resolved_or : (names : List Name) (ps : List WrittenFormula) → resolved_formula names (written_formula.Or ps) ≡ option_map formula.Or (all_known (map (resolved_formula names) ps))
unfolding resolved_formula
resolved_or names ps = folded.fold_or (Option Formula) (number_step names) ps

pub resolved_not : (names : List Name) (p : WrittenFormula) → resolved_formula names (written_formula.Not p) ≡ option_map formula.Not (resolved_formula names p)
unfolding resolved_formula
resolved_not names p = folded.fold_not (Option Formula) (number_step names) p

pub resolved_implies : (names : List Name) (p q : WrittenFormula) → resolved_formula names (written_formula.Implies p q) ≡ (resolved_formula names p >>= λ f. resolved_formula names q >>= λ g. Some (formula.Implies f g))
unfolding resolved_formula
resolved_implies names p q = folded.fold_implies (Option Formula) (number_step names) p q

pub resolved_exists : (names : List Name) (vars : TypedVars) (p : WrittenFormula) → resolved_formula names (written_formula.Exists vars p) ≡ option_map (formula.Exists vars) (resolved_formula names p)
unfolding resolved_formula
resolved_exists names vars p = folded.fold_exists (Option Formula) (number_step names) vars p

pub resolved_forall : (names : List Name) (vars : TypedVars) (p : WrittenFormula) → resolved_formula names (written_formula.Forall vars p) ≡ option_map (formula.Forall vars) (resolved_formula names p)
unfolding resolved_formula
resolved_forall names vars p = folded.fold_forall (Option Formula) (number_step names) vars p

pub ruleset resolved_laws = (resolved_atom, resolved_test, resolved_and, resolved_or, resolved_not, resolved_implies, resolved_exists, resolved_forall)

pub named_atom : (names : List Name) (n : ℕ) (terms : List Term) → named_formula names (formula.Atom n terms) ≡ written_formula.Atom (name_at names n) terms
unfolding named_formula
named_atom names n terms = folds.fold_atom WrittenFormula (name_step names) n terms

pub named_test : (names : List Name) (c : Cmp) (left right : Term) → named_formula names (formula.Test c left right) ≡ written_formula.Test c left right
unfolding named_formula
named_test names c left right = folds.fold_test WrittenFormula (name_step names) c left right

pub named_and : (names : List Name) (fs : List Formula) → named_formula names (formula.And fs) ≡ written_formula.And (map (named_formula names) fs)
unfolding named_formula
named_and names fs = folds.fold_and WrittenFormula (name_step names) fs

pub named_or : (names : List Name) (fs : List Formula) → named_formula names (formula.Or fs) ≡ written_formula.Or (map (named_formula names) fs)
unfolding named_formula
named_or names fs = folds.fold_or WrittenFormula (name_step names) fs

pub named_not : (names : List Name) (f : Formula) → named_formula names (formula.Not f) ≡ written_formula.Not (named_formula names f)
unfolding named_formula
named_not names f = folds.fold_not WrittenFormula (name_step names) f

pub named_implies : (names : List Name) (f g : Formula) → named_formula names (formula.Implies f g) ≡ written_formula.Implies (named_formula names f) (named_formula names g)
unfolding named_formula
named_implies names f g = folds.fold_implies WrittenFormula (name_step names) f g

pub named_exists : (names : List Name) (vars : TypedVars) (f : Formula) → named_formula names (formula.Exists vars f) ≡ written_formula.Exists vars (named_formula names f)
unfolding named_formula
named_exists names vars f = folds.fold_exists WrittenFormula (name_step names) vars f

pub named_forall : (names : List Name) (vars : TypedVars) (f : Formula) → named_formula names (formula.Forall vars f) ≡ written_formula.Forall vars (named_formula names f)
unfolding named_formula
named_forall names vars f = folds.fold_forall WrittenFormula (name_step names) vars f

pub ruleset named_laws = (named_atom, named_test, named_and, named_or, named_not, named_implies, named_exists, named_forall)
