use Rattle.std.proofs.Common.{◌≡◌, ◌<◌, ◌≤◌, ◌∙◌, length, get_or, subst}
use Rattle.dbn_net.specs.Tables.{relation_shapes}
use Rattle.dbn_net.specs.Sentences.{violations}
use Rattle.dbn_core.proofs.SentenceTypes.{violation_typed}
use Rattle.dbn_slow.proofs.LoopLaws.{in_index, violated, not_violated}
use Rattle.dbn_slow.proofs.actions.is_consistent.Goals as goal

pub holds-requires : goal.holds-requires
holds-requires c =
    let same : c.as_slice-violation-items.result.now ≡ violations c.args.net.now = c.as_slice-violation-items.ensures ∙ c.violations.ensures in
    let v = c.violation-item.result in
    let i = c.loop-violation.violation-index in
    let at = in_index (violations c.args.net.now) i v (subst (λ l. i < length l) same c.loop-violation-test.true) (subst (λ l. v ≡ get_or l i v) same c.violation-item.is) in
    (relation_shapes c.args.net.now, violation_typed c.args.net.now c.decls-net.ensures.net v at, c.requires)

pub returns-then-branch : goal.returns-then-branch
returns-then-branch c =
    let same : c.as_slice-violation-items.result.now ≡ violations c.args.net.now = c.as_slice-violation-items.ensures ∙ c.violations.ensures in
    let v = c.violation-item.result in
    let i = c.loop-violation.violation-index in
    violated c.args.net.now c.args.instance.now i v c.in_ok-holds.field-0 (subst (λ l. i < length l) same c.loop-violation-test.true) (subst (λ l. v ≡ get_or l i v) same c.violation-item.is)
    c.in_ok-holds.ensures c.if-branch.true c.loop-violation.invariant

pub returns : goal.returns
returns c =
    let same : c.as_slice-violation-items.result.now ≡ violations c.args.net.now = c.as_slice-violation-items.ensures ∙ c.violations.ensures in
    let i = c.loop-violation.violation-index in
    not_violated c.args.net.now c.args.instance.now i (subst (λ l. length l ≤ i) same c.loop-violation-test.false) c.loop-violation.invariant
