use Rattle.std.proofs.Common.{rules, ◌≡◌, sym, ◌∙◌, inl, inr, ⊎_elim}
use Rattle.dbn_net.specs.Tables.{relation_shapes}
use Rattle.dbn_net.specs.Sentences.{violations}
use Rattle.dbn_net.proofs.SentenceTypes.{violation_typed}
use Rattle.dbn_reader.proofs.BrokenLaws.{all_left, left_member, left_passed, left_found, left_none}
use Rattle.dbn_reader.proofs.broken.first_broken.Goals as goal

pub loop-line-init : goal.loop-line-init
loop-line-init c =
    let first : c.into_iter-line-iterator.result.a.rest.now ≡ c.args.lines.now = search rules in
    let second : c.into_iter-line-iterator.result.b.rest.now ≡ violations c.args.net.now = search rules in
    all_left c.args.net.now c.args.facts.now c.args.lines.now c.into_iter-line-iterator.result.a.rest.now c.into_iter-line-iterator.result.b.rest.now first second

pub holds-requires : goal.holds-requires
holds-requires c =
    let before = c.loop-line.line-iterator in
    let after = c.next.new.self in
    let at = left_member c.args.net.now c.args.facts.now c.args.lines.now before.a.rest.now before.b.rest.now after.b.rest.now c.in-Some.violation.now c.in-Some.ensures.steps.1 c.loop-line.invariant in
    (relation_shapes c.args.net.now, violation_typed c.args.net.now c.decls-net.ensures.net c.in-Some.violation.now at, c.requires)

pub loop-line-preserved : goal.loop-line-preserved
loop-line-preserved c =
    let before = c.loop-line.line-iterator in
    let after = c.next.new.self in
    left_passed c.args.net.now c.args.facts.now c.args.lines.now before.a.rest.now after.a.rest.now before.b.rest.now after.b.rest.now c.in-Some.line.now c.in-Some.violation.now c.in-Some.ensures.steps.0 c.in-Some.ensures.steps.1
    (sym c.in_ok-holds.ensures ∙ c.if-branch.false) c.loop-line.invariant

pub returns-then-branch : goal.returns-then-branch
returns-then-branch c =
    let before = c.loop-line.line-iterator in
    let after = c.next.new.self in
    left_found c.args.net.now c.args.facts.now c.args.lines.now before.a.rest.now after.a.rest.now before.b.rest.now after.b.rest.now c.in-Some.line.now c.in-Some.violation.now c.in-Some.ensures.steps.0 c.in-Some.ensures.steps.1
    (sym c.in_ok-holds.ensures ∙ c.if-branch.true) c.loop-line.invariant

pub returns : goal.returns
returns c = left_none c.args.net.now c.args.facts.now c.args.lines.now c.loop-line.line-iterator.a.rest.now c.loop-line.line-iterator.b.rest.now (⊎_elim (λ s. inl s.1.0) (λ s. inr s.1.0) c.in-None.ensures.steps) c.loop-line.invariant
