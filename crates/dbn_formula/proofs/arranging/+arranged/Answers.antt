use Rattle.std.proofs.Common.{◌≡◌, ℕ, ◌++◌, ◌+◌, List, [], Bor, ap, ◌∙◌, sym, subst, map, drop, arith, sum_by, OnOk}
use Rattle.std.proofs.lemmas.List.{drop_all}
use Rattle.std.proofs.lemmas.Result.{IfOk-weaker}
use Rattle.dbn_value.specs.declared.term.Var.{Var}
use Rattle.dbn_formula.specs.Safe.{outside, arranged}
use Rattle.dbn_formula.specs.Conjuncts.{arranged_along}
use Rattle.dbn_formula.specs.declared.formula.Formula.{Formula}
use Rattle.dbn_formula.proofs.Maps.{map-map}
use Rattle.dbn_formula.proofs.KnownLaws.{nothing_hidden}
use Rattle.dbn_formula.proofs.Weights.{weight}
use Rattle.dbn_formula.proofs.Turns.{both_weigh, along_order}
use Rattle.dbn_formula.proofs.arranging.+arranged.Goals as goal

abbrev now : Bor Formula → Formula
now f = f.now

abbrev heavy : Bor Formula → ℕ
heavy f = weight f.now

-- no taken part is left, so those that wait follow
pub add_in_turns-returns : goal.add_in_turns-returns
add_in_turns-returns t c =
    let out = c.loop-part.out in
    let bound = c.loop-part.bound in
    let waiting = c.args.waiting.now in
    let left : drop c.loop-part.part-index c.args.taken.now ≡ [] = drop_all c.loop-part.part-index c.args.taken.now c.loop-part-test.false in
    subst (λ (made : List Formula). OnOk c.add_waiting.result (c.add_waiting.new.out ≡ made))
    (ap (λ (gs : List Formula). out ++ gs) (sym (map-map (λ (g : Formula). arranged g bound) now waiting))
    ∙ ap (λ (ws : List (Bor Formula)). out ++ arranged_along (map now ws) (map now waiting) bound) (sym left)
    ∙ c.loop-part.invariant)
    c.add_waiting.ensures

pub in_order-add_in_turns-requires : goal.in_order-add_in_turns-requires
in_order-add_in_turns-requires t c =
    let taken = c.in_ok-turns.turns.taken in
    let waiting = c.in_ok-turns.turns.waiting in
    let a : sum_by heavy c.as_slice.result.now ≡ sum_by heavy taken = ap (sum_by heavy) c.as_slice.ensures in
    let b : sum_by heavy c.as_slice-2.result.now ≡ sum_by heavy waiting = ap (sum_by heavy) c.as_slice-2.ensures in
    let w : sum_by heavy taken + sum_by heavy waiting ≡ sum_by weight c.args.parts.now =
    both_weigh now taken waiting c.args.parts.now c.args.bound.now c.in_ok-turns.ensures.taken c.in_ok-turns.ensures.waiting in
    (omega (arith, a, b, w), tt)

pub in_order-returns : goal.in_order-returns
in_order-returns t c =
    along_order now c.in_ok-turns.turns.taken c.in_ok-turns.turns.waiting c.as_slice.result.now c.as_slice-2.result.now c.args.parts.now c.add_in_turns.new.out c.new-made.result c.args.bound.now
    c.in_ok-add_in_turns.ensures c.new-made.ensures c.as_slice.ensures c.as_slice-2.ensures c.in_ok-turns.ensures.taken c.in_ok-turns.ensures.waiting

-- where the quantifier hides nothing that is bound
pub arranged_inside-returns : goal.arranged_inside-returns
arranged_inside-returns t c =
    let same : outside c.args.vars.now c.args.bound.now ≡ c.args.bound.now = nothing_hidden c.args.vars.now c.args.bound.now (sym c.hides_bound.ensures ∙ c.if-hides_bound.false) in
    IfOk-weaker c.arranged_at-2.result _ _ (λ made e. e ∙ ap (arranged c.args.body.now) (sym same)) c.arranged_at-2.ensures
