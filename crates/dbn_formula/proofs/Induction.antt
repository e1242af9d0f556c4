-- Induction over formulas, with a case for each variant.
use Rattle.std.proofs.Common.{ℕ, List, [], ◌∷◌, map, sym, subst}
use Rattle.std.specs.List.{AllByRecursion}
use Rattle.dbn_value.specs.declared.term.Term.{Term}
use Rattle.dbn_value.specs.declared.term.Cmp.{Cmp}
use Rattle.dbn_formula.specs.Variables.{TypedVars}
use Rattle.dbn_formula.specs.declared.formula.Formula.{Formula}
use Rattle.dbn_formula.specs.declared.formula.Formula.TheVariants.{Atom, Test, And, Or, Not, Implies, Exists, Forall}
use Rattle.dbn_formula.specs.declared.formula.Formula.TheVariants.{rolls-Atom, rolls-Test, rolls-And, rolls-Or, rolls-Not, rolls-Implies, rolls-Exists, rolls-Forall}
use Rattle.dbn_formula.specs.declared.formula.Formula.{roll-Formula}
use Rattle.dbn_formula.specs.declared.formula.Formula.TheOpen.{Formula-F}
use Rattle.dbn_formula.specs.declared.formula.Formula.TheOpen as layer
use Rattle.dbn_formula.specs.declared.formula.Formula.TheFolds.{ind-Formula, map-Formula}

pub record Steps (P : Formula → Type 0) : Type 0 where
  pub atom : (rel : ℕ) (terms : List Term) → P (Atom rel terms)
  pub test : (cmp : Cmp) (left right : Term) → P (Test cmp left right)
  pub both : (fs : List Formula) → AllByRecursion P fs → P (And fs)
  pub either : (fs : List Formula) → AllByRecursion P fs → P (Or fs)
  pub denial : (f : Formula) → P f → P (Not f)
  pub implication : (f g : Formula) → P f → P g → P (Implies f g)
  pub some : (vars : TypedVars) (f : Formula) → P f → P (Exists vars f)
  pub every : (vars : TypedVars) (f : Formula) → P f → P (Forall vars f)

module _ (P : Formula → Type 0) where
  pub each_known : (ps : List ((f : Formula) × P f)) → AllByRecursion P (map (λ p. p.0) ps)
  each_known [] = tt
  each_known (p ∷ ps) = (p.1, each_known ps)

  pub at_layer : Steps P → (y : Formula-F ((f : Formula) × P f)) → P (roll-Formula (map-Formula ((f : Formula) × P f) Formula (λ p. p.0) y))
  at_layer s (layer.Atom rel terms) = subst P (sym (rolls-Atom rel terms)) (s.atom rel terms)
  at_layer s (layer.Test cmp left right) = subst P (sym (rolls-Test cmp left right)) (s.test cmp left right)
  at_layer s (layer.And ps) = subst P (sym (rolls-And (map (λ p. p.0) ps))) (s.both (map (λ p. p.0) ps) (each_known ps))
  at_layer s (layer.Or ps) = subst P (sym (rolls-Or (map (λ p. p.0) ps))) (s.either (map (λ p. p.0) ps) (each_known ps))
  at_layer s (layer.Not p) = subst P (sym (rolls-Not p.0)) (s.denial p.0 p.1)
  at_layer s (layer.Implies p q) = subst P (sym (rolls-Implies p.0 q.0)) (s.implication p.0 q.0 p.1 q.1)
  at_layer s (layer.Exists vars p) = subst P (sym (rolls-Exists vars p.0)) (s.some vars p.0 p.1)
  at_layer s (layer.Forall vars p) = subst P (sym (rolls-Forall vars p.0)) (s.every vars p.0 p.1)

  pub induction : Steps P → (f : Formula) → P f
  induction s f = ind-Formula P (λ x y e. subst (λ z. P (roll-Formula z)) e (at_layer s y)) f
