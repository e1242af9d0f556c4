-- A fold over formulas, variant by variant.
use Rattle.std.proofs.Common.{◌≡◌, ℕ, List, map, ap, sym, ◌∙◌}
use Rattle.dbn_value.specs.declared.term.Term.{Term}
use Rattle.dbn_value.specs.declared.term.Cmp.{Cmp}
use Rattle.dbn_formula.specs.Variables.{TypedVars}
use Rattle.dbn_formula.specs.declared.formula.Formula.{Formula}
use Rattle.dbn_formula.specs.declared.formula.Formula.TheVariants.{Atom, Test, And, Or, Not, Implies, Exists, Forall}
use Rattle.dbn_formula.specs.declared.formula.Formula.TheVariants.{rolls-Atom, rolls-Test, rolls-And, rolls-Or, rolls-Not, rolls-Implies, rolls-Exists, rolls-Forall}
use Rattle.dbn_formula.specs.declared.formula.Formula.TheOpen.{Formula-F}
use Rattle.dbn_formula.specs.declared.formula.Formula.TheOpen as layer
use Rattle.dbn_formula.specs.declared.formula.Formula.TheFolds.{fold-Formula, fold-roll-Formula}

module _ (A : Type 0) (step : Formula-F A → A) where
  pub fold_atom : (rel : ℕ) (terms : List Term) → fold-Formula A step (Atom rel terms) ≡ step (layer.Atom rel terms)
  fold_atom rel terms = ap (fold-Formula A step) (sym (rolls-Atom rel terms)) ∙ fold-roll-Formula A step (layer.Atom rel terms)

  pub fold_test : (cmp : Cmp) (left right : Term) → fold-Formula A step (Test cmp left right) ≡ step (layer.Test cmp left right)
  fold_test cmp left right = ap (fold-Formula A step) (sym (rolls-Test cmp left right)) ∙ fold-roll-Formula A step (layer.Test cmp left right)

  pub fold_and : (fs : List Formula) → fold-Formula A step (And fs) ≡ step (layer.And (map (fold-Formula A step) fs))
  fold_and fs = ap (fold-Formula A step) (sym (rolls-And fs)) ∙ fold-roll-Formula A step (layer.And fs)

  pub fold_or : (fs : List Formula) → fold-Formula A step (Or fs) ≡ step (layer.Or (map (fold-Formula A step) fs))
  fold_or fs = ap (fold-Formula A step) (sym (rolls-Or fs)) ∙ fold-roll-Formula A step (layer.Or fs)

  pub fold_not : (f : Formula) → fold-Formula A step (Not f) ≡ step (layer.Not ((fold-Formula A step) f))
  fold_not f = ap (fold-Formula A step) (sym (rolls-Not f)) ∙ fold-roll-Formula A step (layer.Not f)

  pub fold_implies : (f g : Formula) → fold-Formula A step (Implies f g) ≡ step (layer.Implies ((fold-Formula A step) f) ((fold-Formula A step) g))
  fold_implies f g = ap (fold-Formula A step) (sym (rolls-Implies f g)) ∙ fold-roll-Formula A step (layer.Implies f g)

  pub fold_exists : (vars : TypedVars) (f : Formula) → fold-Formula A step (Exists vars f) ≡ step (layer.Exists vars ((fold-Formula A step) f))
  fold_exists vars f = ap (fold-Formula A step) (sym (rolls-Exists vars f)) ∙ fold-roll-Formula A step (layer.Exists vars f)

  pub fold_forall : (vars : TypedVars) (f : Formula) → fold-Formula A step (Forall vars f) ≡ step (layer.Forall vars ((fold-Formula A step) f))
  fold_forall vars f = ap (fold-Formula A step) (sym (rolls-Forall vars f)) ∙ fold-roll-Formula A step (layer.Forall vars f)
