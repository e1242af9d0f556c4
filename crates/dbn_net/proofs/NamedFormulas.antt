-- A formula with numbers is written with its names again.
use Rattle.std.proofs.Common.{◌≡◌, List, [], ◌∷◌, map, sym, ap, ◌∙◌, Some}
use Rattle.std.specs.List.{AllByRecursion}
use Rattle.dbn_formula.specs.declared.formula.Formula.{Formula}
use Rattle.dbn_formula.specs.declared.formula.Formula.TheVariants as formula
use Rattle.dbn_net.specs.declared.written.WrittenFormula.{WrittenFormula}
use Rattle.dbn_net.specs.declared.written.WrittenFormula.TheVariants as written_formula
use Rattle.dbn_net.specs.Maybe.{◌>>=◌, all_known}
use Rattle.dbn_net.specs.Forms.{Name}
use Rattle.dbn_net.specs.Naming.{number_of, resolved_formula, named_formula}
use Rattle.dbn_net.proofs.Maybes.{some_is, first_found, mapped_found}
use Rattle.dbn_net.proofs.WrittenFormulaFolds.{Steps, induction}
use Rattle.dbn_net.proofs.WrittenFormulaLaws.{resolved_atom, resolved_test, resolved_and, resolved_or, resolved_not, resolved_implies, resolved_exists, resolved_forall, named_atom, named_test, named_and, named_or, named_not, named_implies, named_exists, named_forall}
use Rattle.dbn_net.proofs.NamedLaws.{name_again}

module _ (names : List Name) where
  abbrev IsAgain : WrittenFormula → Type 0
  IsAgain p = (f : Formula) → resolved_formula names p ≡ Some f → named_formula names f ≡ p

  all_again : (ps : List WrittenFormula) → AllByRecursion IsAgain ps → (fs : List Formula) → all_known (map (resolved_formula names) ps) ≡ Some fs → map (named_formula names) fs ≡ ps
  all_again [] all fs e = ap (map (named_formula names)) (sym (some_is [] fs e))
  all_again (p ∷ ps) all fs e =
      let (f, is, rest) = first_found (resolved_formula names p) (λ y. all_known (map (resolved_formula names) ps) >>= λ ys. Some (y ∷ ys)) fs e in
      let (gs, are, made) = first_found (all_known (map (resolved_formula names) ps)) (λ ys. Some (f ∷ ys)) fs rest in
      ap (map (named_formula names)) (sym (some_is (f ∷ gs) fs made)) ∙ ap (λ q. q ∷ map (named_formula names) gs) (all.0 f is) ∙ ap (λ qs. p ∷ qs) (all_again ps all.1 gs are)

  again_steps : Steps IsAgain
  again_steps = record {
    atom = λ rel terms f e.
        let (n, is, made) = mapped_found (λ k. formula.Atom k terms) (number_of names rel) f (sym (resolved_atom names rel terms) ∙ e) in
        ap (named_formula names) (sym made) ∙ named_atom names n terms ∙ ap (λ r. written_formula.Atom r terms) (name_again names rel n is);
    test = λ c a b f e. ap (named_formula names) (sym (some_is (formula.Test c a b) f (sym (resolved_test names c a b) ∙ e))) ∙ named_test names c a b;
    both = λ ps all f e.
        let (fs, are, made) = mapped_found formula.And (all_known (map (resolved_formula names) ps)) f (sym (resolved_and names ps) ∙ e) in
        ap (named_formula names) (sym made) ∙ named_and names fs ∙ ap written_formula.And (all_again ps all fs are);
    either = λ ps all f e.
        let (fs, are, made) = mapped_found formula.Or (all_known (map (resolved_formula names) ps)) f (sym (resolved_or names ps) ∙ e) in
        ap (named_formula names) (sym made) ∙ named_or names fs ∙ ap written_formula.Or (all_again ps all fs are);
    denial = λ p again f e.
        let (g, is, made) = mapped_found formula.Not (resolved_formula names p) f (sym (resolved_not names p) ∙ e) in
        ap (named_formula names) (sym made) ∙ named_not names g ∙ ap written_formula.Not (again g is);
    implication = λ p q left right f e.
        let (g, is, rest) = first_found (resolved_formula names p) (λ x. resolved_formula names q >>= λ y. Some (formula.Implies x y)) f (sym (resolved_implies names p q) ∙ e) in
        let (h, was, made) = first_found (resolved_formula names q) (λ y. Some (formula.Implies g y)) f rest in
        ap (named_formula names) (sym (some_is (formula.Implies g h) f made)) ∙ named_implies names g h
        ∙ ap (λ x. written_formula.Implies x (named_formula names h)) (left g is) ∙ ap (written_formula.Implies p) (right h was);
    some = λ vars p again f e.
        let (g, is, made) = mapped_found (formula.Exists vars) (resolved_formula names p) f (sym (resolved_exists names vars p) ∙ e) in
        ap (named_formula names) (sym made) ∙ named_exists names vars g ∙ ap (written_formula.Exists vars) (again g is);
    every = λ vars p again f e.
        let (g, is, made) = mapped_found (formula.Forall vars) (resolved_formula names p) f (sym (resolved_forall names vars p) ∙ e) in
        ap (named_formula names) (sym made) ∙ named_forall names vars g ∙ ap (written_formula.Forall vars) (again g is);
  }

  pub formula_again : (p : WrittenFormula) (f : Formula) → resolved_formula names p ≡ Some f → named_formula names f ≡ p
  formula_again p f e = induction IsAgain again_steps p f e
