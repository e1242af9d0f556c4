use Rattle.std.proofs.Common.{arith, ap, ◌∙◌}
use Rattle.std.specs.List.{flat_map}
use Rattle.dbn_net.specs.Values.{constants_of, past_ids}
use Rattle.dbn_net.proofs.NextLaws.{past_step}
use Rattle.dbn_net.proofs.first_ids.past_arcs.Goals as goal

pub loop-arc-preserved : goal.loop-arc-preserved
loop-arc-preserved c = record {
  value = past_step (λ arc. flat_map (λ p. constants_of p.terms) arc.patterns) c.args.arcs.now c.loop-arc.arc-index c.arc-item.result c.loop-arc.next c.past_patterns.result c.greater-next.result c.loop-arc-test.true c.arc-item.is c.loop-arc.invariant.value (c.past_patterns.ensures.value ∙ ap (λ ps. past_ids (flat_map (λ p. constants_of p.terms) ps)) c.as_slice.ensures) c.greater-next.ensures;
  small = omega (arith, c.greater-next.ensures, c.loop-arc.invariant.small, c.past_patterns.ensures.small);
}
