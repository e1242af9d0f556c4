-- A weight of formulas with names, by which recursions over them end.
use Rattle.std.proofs.Common.{◌≡◌, ℕ, ◌+◌, List, [], ◌∷◌, map, refl, ap, sym, ◌∙◌, sum_by}
use Rattle.std.proofs.lemmas.List.Sums.{sum_by-cons}
use Rattle.dbn_value.specs.declared.term.Term.{Term}
use Rattle.dbn_value.specs.declared.term.Cmp.{Cmp}
use Rattle.dbn_formula.specs.Variables.{TypedVars}
use Rattle.dbn_net.specs.declared.written.WrittenFormula.{WrittenFormula}
use Rattle.dbn_net.specs.declared.written.WrittenFormula.TheVariants.{Atom, Test, And, Or, Not, Implies, Exists, Forall}
use Rattle.dbn_net.specs.declared.written.WrittenFormula.TheOpen.{WrittenFormula-F}
use Rattle.dbn_net.specs.declared.written.WrittenFormula.TheOpen as layer
use Rattle.dbn_net.specs.declared.written.WrittenFormula.TheFolds.{fold-WrittenFormula}
use Rattle.dbn_net.specs.Forms.{Name}
use Rattle.dbn_net.proofs.WrittenFormulaFolds.{fold_atom, fold_test, fold_and, fold_or, fold_not, fold_implies, fold_exists, fold_forall}

abbrev pub weight_step : WrittenFormula-F ℕ → ℕ
weight_step (layer.Atom rel terms) = 1
weight_step (layer.Test cmp left right) = 1
weight_step (layer.And parts) = sum_by (λ n. n) parts + 2
weight_step (layer.Or parts) = sum_by (λ n. n) parts + 2
weight_step (layer.Not part) = part + 1
weight_step (layer.Implies left right) = left + right + 1
weight_step (layer.Exists vars body) = body + 1
weight_step (layer.Forall vars body) = body + 1

unfoldable pub weight : WrittenFormula → ℕ
weight p = fold-WrittenFormula ℕ weight_step p

weighed : (ps : List WrittenFormula) → sum_by (λ (n : ℕ). n) (map weight ps) ≡ sum_by weight ps
weighed [] = refl
weighed (p ∷ ps) =
    sum_by-cons (λ (n : ℕ). n) (weight p) (map weight ps)
    ∙ ap (λ (k : ℕ). weight p + k) (weighed ps)
    ∙ sym (sum_by-cons weight p ps)

pub weight_and : (ps : List WrittenFormula) → weight (And ps) ≡ sum_by weight ps + 2
unfolding weight
weight_and ps = fold_and ℕ weight_step ps ∙ ap (λ (n : ℕ). n + 2) (weighed ps)

pub weight_or : (ps : List WrittenFormula) → weight (Or ps) ≡ sum_by weight ps + 2
unfolding weight
weight_or ps = fold_or ℕ weight_step ps ∙ ap (λ (n : ℕ). n + 2) (weighed ps)

pub weight_not : (p : WrittenFormula) → weight (Not p) ≡ weight p + 1
unfolding weight
weight_not p = fold_not ℕ weight_step p

pub weight_implies : (p q : WrittenFormula) → weight (Implies p q) ≡ weight p + weight q + 1
unfolding weight
weight_implies p q = fold_implies ℕ weight_step p q

pub weight_exists : (vars : TypedVars) (p : WrittenFormula) → weight (Exists vars p) ≡ weight p + 1
unfolding weight
weight_exists vars p = fold_exists ℕ weight_step vars p

pub weight_forall : (vars : TypedVars) (p : WrittenFormula) → weight (Forall vars p) ≡ weight p + 1
unfolding weight
weight_forall vars p = fold_forall ℕ weight_step vars p

pub ruleset weight_laws = (weight_and, weight_or, weight_not, weight_implies, weight_exists, weight_forall)
