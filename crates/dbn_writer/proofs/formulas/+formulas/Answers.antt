use Rattle.std.proofs.Common.{◌≡◌, ◌≤◌, ◌+◌, sym, ap, subst, ◌∙◌, arith, length, sum_by}
use Rattle.std.specs.List.{AllPass}
use Rattle.dbn_formula.specs.Written.{of_first}
use Rattle.dbn_formula.proofs.Weights.{weight, weight_and, weight_or, weight_not, weight_implies, weight_exists, weight_forall}
use Rattle.dbn_net.specs.Tables.{relations}
use Rattle.dbn_writer.specs.Known.{FormulaKnown}
use Rattle.dbn_writer.proofs.FormulaLaws.{one_weighs, known_and, known_or, known_not, known_left, known_right, known_exists, known_forall}
use Rattle.dbn_writer.proofs.formulas.+formulas.Goals as goal

pub formula-formulas-requires : goal.formula-formulas-requires
formula-formulas-requires t c =
    let n = length (relations c.args.net.now) in
    let a : weight c.args.f.now ≡ sum_by weight c.in-And.parts + length c.in-And.parts + 6 = ap weight c.in-And.is ∙ weight_and c.in-And.parts in
    let b : sum_by weight c.as_slice-in-And.result.now ≡ sum_by weight c.in-And.parts = ap (sum_by weight) c.as_slice-in-And.ensures in
    (omega (arith, a, b), subst (AllPass (of_first n)) (sym c.as_slice-in-And.ensures) (known_and c.in-And.parts n (subst (FormulaKnown c.args.net.now) c.in-And.is c.requires)))

pub formula-formulas-requires-in-Or : goal.formula-formulas-requires-in-Or
formula-formulas-requires-in-Or t c =
    let n = length (relations c.args.net.now) in
    let a : weight c.args.f.now ≡ sum_by weight c.in-Or.parts + 5 = ap weight c.in-Or.is ∙ weight_or c.in-Or.parts in
    let b : sum_by weight c.as_slice-in-Or.result.now ≡ sum_by weight c.in-Or.parts = ap (sum_by weight) c.as_slice-in-Or.ensures in
    (omega (arith, a, b), subst (AllPass (of_first n)) (sym c.as_slice-in-Or.ensures) (known_or c.in-Or.parts n (subst (FormulaKnown c.args.net.now) c.in-Or.is c.requires)))

pub formula-formula-requires : goal.formula-formula-requires
formula-formula-requires t c =
    let net = c.args.net.now in
    let a : weight c.args.f.now ≡ weight c.in-Not.part + 1 = ap weight c.in-Not.is ∙ weight_not c.in-Not.part in
    let b : weight c.get.result.now ≡ weight c.in-Not.part = ap weight c.get.ensures in
    (omega (arith, a, b), subst (FormulaKnown net) (sym c.get.ensures) (known_not c.in-Not.part (length (relations net)) (subst (FormulaKnown net) c.in-Not.is c.requires)))

pub formula-formula-requires-in-Implies : goal.formula-formula-requires-in-Implies
formula-formula-requires-in-Implies t c =
    let net = c.args.net.now in
    let a : weight c.args.f.now ≡ weight c.in-Implies.left + weight c.in-Implies.right + 1 = ap weight c.in-Implies.is ∙ weight_implies c.in-Implies.left c.in-Implies.right in
    let b : weight c.get-in-Implies.result.now ≡ weight c.in-Implies.left = ap weight c.get-in-Implies.ensures in
    (omega (arith, a, b), subst (FormulaKnown net) (sym c.get-in-Implies.ensures) (known_left c.in-Implies.left c.in-Implies.right (length (relations net)) (subst (FormulaKnown net) c.in-Implies.is c.requires)))

pub formula-formula-requires-in-Implies-2 : goal.formula-formula-requires-in-Implies-2
formula-formula-requires-in-Implies-2 t c =
    let net = c.args.net.now in
    let a : weight c.args.f.now ≡ weight c.in-Implies.left + weight c.in-Implies.right + 1 = ap weight c.in-Implies.is ∙ weight_implies c.in-Implies.left c.in-Implies.right in
    let b : weight c.get-in-Implies-2.result.now ≡ weight c.in-Implies.right = ap weight c.get-in-Implies-2.ensures in
    (omega (arith, a, b), subst (FormulaKnown net) (sym c.get-in-Implies-2.ensures) (known_right c.in-Implies.left c.in-Implies.right (length (relations net)) (subst (FormulaKnown net) c.in-Implies.is c.requires)))

pub formula-formula-requires-in-Exists : goal.formula-formula-requires-in-Exists
formula-formula-requires-in-Exists t c =
    let net = c.args.net.now in
    let a : weight c.args.f.now ≡ weight c.in-Exists.body + length c.in-Exists.vars + 3 = ap weight c.in-Exists.is ∙ weight_exists c.in-Exists.vars c.in-Exists.body in
    let b : weight c.get-in-Exists.result.now ≡ weight c.in-Exists.body = ap weight c.get-in-Exists.ensures in
    (omega (arith, a, b), subst (FormulaKnown net) (sym c.get-in-Exists.ensures) (known_exists c.in-Exists.vars c.in-Exists.body (length (relations net)) (subst (FormulaKnown net) c.in-Exists.is c.requires)))

pub formula-formula-requires-in-Forall : goal.formula-formula-requires-in-Forall
formula-formula-requires-in-Forall t c =
    let net = c.args.net.now in
    let a : weight c.args.f.now ≡ weight c.in-Forall.body + length c.in-Forall.vars + 3 = ap weight c.in-Forall.is ∙ weight_forall c.in-Forall.vars c.in-Forall.body in
    let b : weight c.get-in-Forall.result.now ≡ weight c.in-Forall.body = ap weight c.get-in-Forall.ensures in
    (omega (arith, a, b), subst (FormulaKnown net) (sym c.get-in-Forall.ensures) (known_forall c.in-Forall.vars c.in-Forall.body (length (relations net)) (subst (FormulaKnown net) c.in-Forall.is c.requires)))

pub formulas-formula-requires : goal.formulas-formula-requires
formulas-formula-requires t c =
    let parts = c.args.parts.now in
    let i = c.loop-part.part-index in
    let part = c.part-item.result in
    let a : weight part ≤ sum_by weight parts = one_weighs parts i part c.loop-part-test.true c.part-item.is in
    (omega (arith, a), subst (FormulaKnown c.args.net.now) (sym c.part-item.is) (c.requires i part c.loop-part-test.true))
