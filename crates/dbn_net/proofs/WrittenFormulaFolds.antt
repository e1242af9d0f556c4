-- A fold over formulas with names, variant by variant, and induction over them.
use Rattle.std.proofs.Common.{◌≡◌, List, [], ◌∷◌, map, ap, sym, subst, ◌∙◌}
use Rattle.std.specs.List.{AllByRecursion}
use Rattle.dbn_value.specs.declared.term.Term.{Term}
use Rattle.dbn_value.specs.declared.term.Cmp.{Cmp}
use Rattle.dbn_formula.specs.Variables.{TypedVars}
use Rattle.dbn_net.specs.declared.written.WrittenFormula.{WrittenFormula, roll-WrittenFormula}
use Rattle.dbn_net.specs.declared.written.WrittenFormula.TheVariants.{Atom, Test, And, Or, Not, Implies, Exists, Forall}
use Rattle.dbn_net.specs.declared.written.WrittenFormula.TheVariants.{rolls-Atom, rolls-Test, rolls-And, rolls-Or, rolls-Not, rolls-Implies, rolls-Exists, rolls-Forall}
use Rattle.dbn_net.specs.declared.written.WrittenFormula.TheOpen.{WrittenFormula-F}
use Rattle.dbn_net.specs.declared.written.WrittenFormula.TheOpen as layer
use Rattle.dbn_net.specs.declared.written.WrittenFormula.TheFolds.{fold-WrittenFormula, fold-roll-WrittenFormula, ind-WrittenFormula, map-WrittenFormula}
use Rattle.dbn_net.specs.Forms.{Name}

module _ (A : Type 0) (step : WrittenFormula-F A → A) where
  pub fold_atom : (rel : Name) (terms : List Term) → fold-WrittenFormula A step (Atom rel terms) ≡ step (layer.Atom rel terms)
  fold_atom rel terms = ap (fold-WrittenFormula A step) (sym (rolls-Atom rel terms)) ∙ fold-roll-WrittenFormula A step (layer.Atom rel terms)

  pub fold_test : (cmp : Cmp) (left right : Term) → fold-WrittenFormula A step (Test cmp left right) ≡ step (layer.Test cmp left right)
  fold_test cmp left right = ap (fold-WrittenFormula A step) (sym (rolls-Test cmp left right)) ∙ fold-roll-WrittenFormula A step (layer.Test cmp left right)

  pub fold_and : (ps : List WrittenFormula) → fold-WrittenFormula A step (And ps) ≡ step (layer.And (map (fold-WrittenFormula A step) ps))
  fold_and ps = ap (fold-WrittenFormula A step) (sym (rolls-And ps)) ∙ fold-roll-WrittenFormula A step (layer.And ps)

  pub fold_or : (ps : List WrittenFormula) → fold-WrittenFormula A step (Or ps) ≡ step (layer.Or (map (fold-WrittenFormula A step) ps))
  fold_or ps = ap (fold-WrittenFormula A step) (sym (rolls-Or ps)) ∙ fold-roll-WrittenFormula A step (layer.Or ps)

  pub fold_not : (p : WrittenFormula) → fold-WrittenFormula A step (Not p) ≡ step (layer.Not (fold-WrittenFormula A step p))
  fold_not p = ap (fold-WrittenFormula A step) (sym (rolls-Not p)) ∙ fold-roll-WrittenFormula A step (layer.Not p)

  pub fold_implies : (p q : WrittenFormula) → fold-WrittenFormula A step (Implies p q) ≡ step (layer.Implies (fold-WrittenFormula A step p) (fold-WrittenFormula A step q))
  fold_implies p q = ap (fold-WrittenFormula A step) (sym (rolls-Implies p q)) ∙ fold-roll-WrittenFormula A step (layer.Implies p q)

  pub fold_exists : (vars : TypedVars) (p : WrittenFormula) → fold-WrittenFormula A step (Exists vars p) ≡ step (layer.Exists vars (fold-WrittenFormula A step p))
  fold_exists vars p = ap (fold-WrittenFormula A step) (sym (rolls-Exists vars p)) ∙ fold-roll-WrittenFormula A step (layer.Exists vars p)

  pub fold_forall : (vars : TypedVars) (p : WrittenFormula) → fold-WrittenFormula A step (Forall vars p) ≡ step (layer.Forall vars (fold-WrittenFormula A step p))
  fold_forall vars p = ap (fold-WrittenFormula A step) (sym (rolls-Forall vars p)) ∙ fold-roll-WrittenFormula A step (layer.Forall vars p)

pub record Steps (P : WrittenFormula → Type 0) : Type 0 where
  pub atom : (rel : Name) (terms : List Term) → P (Atom rel terms)
  pub test : (cmp : Cmp) (left right : Term) → P (Test cmp left right)
  pub both : (ps : List WrittenFormula) → AllByRecursion P ps → P (And ps)
  pub either : (ps : List WrittenFormula) → AllByRecursion P ps → P (Or ps)
  pub denial : (p : WrittenFormula) → P p → P (Not p)
  pub implication : (p q : WrittenFormula) → P p → P q → P (Implies p q)
  pub some : (vars : TypedVars) (p : WrittenFormula) → P p → P (Exists vars p)
  pub every : (vars : TypedVars) (p : WrittenFormula) → P p → P (Forall vars p)

module _ (P : WrittenFormula → Type 0) where
  pub each_known : (ps : List ((p : WrittenFormula) × P p)) → AllByRecursion P (map (λ p. p.0) ps)
  each_known [] = tt
  each_known (p ∷ ps) = (p.1, each_known ps)

  pub at_layer : Steps P → (y : WrittenFormula-F ((p : WrittenFormula) × P p)) → P (roll-WrittenFormula (map-WrittenFormula ((p : WrittenFormula) × P p) WrittenFormula (λ p. p.0) y))
  at_layer s (layer.Atom rel terms) = subst P (sym (rolls-Atom rel terms)) (s.atom rel terms)
  at_layer s (layer.Test cmp left right) = subst P (sym (rolls-Test cmp left right)) (s.test cmp left right)
  at_layer s (layer.And ps) = subst P (sym (rolls-And (map (λ p. p.0) ps))) (s.both (map (λ p. p.0) ps) (each_known ps))
  at_layer s (layer.Or ps) = subst P (sym (rolls-Or (map (λ p. p.0) ps))) (s.either (map (λ p. p.0) ps) (each_known ps))
  at_layer s (layer.Not p) = subst P (sym (rolls-Not p.0)) (s.denial p.0 p.1)
  at_layer s (layer.Implies p q) = subst P (sym (rolls-Implies p.0 q.0)) (s.implication p.0 q.0 p.1 q.1)
  at_layer s (layer.Exists vars p) = subst P (sym (rolls-Exists vars p.0)) (s.some vars p.0 p.1)
  at_layer s (layer.Forall vars p) = subst P (sym (rolls-Forall vars p.0)) (s.every vars p.0 p.1)

  pub induction : Steps P → (p : WrittenFormula) → P p
  induction s p = ind-WrittenFormula P (λ x y e. subst (λ z. P (roll-WrittenFormula z)) e (at_layer s y)) p
