use Rattle.std.proofs.Common.{arith, ap, ◌∙◌}
use Rattle.dbn_net.specs.Values.{constants_of, past_ids}
use Rattle.dbn_net.proofs.NextLaws.{past_step}
use Rattle.dbn_net.proofs.first_ids.past_patterns.Goals as goal

pub loop-pattern-preserved : goal.loop-pattern-preserved
loop-pattern-preserved c = record {
  value = past_step (λ p. constants_of p.terms) c.args.patterns.now c.loop-pattern.pattern-index c.pattern-item.result c.loop-pattern.next c.past_terms.result c.greater-next.result c.loop-pattern-test.true c.pattern-item.is c.loop-pattern.invariant.value (c.past_terms.ensures.value ∙ ap (λ ts. past_ids (constants_of ts)) c.as_slice.ensures) c.greater-next.ensures;
  small = omega (arith, c.greater-next.ensures, c.loop-pattern.invariant.small, c.past_terms.ensures.small);
}
