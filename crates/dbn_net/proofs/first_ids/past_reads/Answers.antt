use Rattle.std.proofs.Common.{arith, ap, ◌∙◌}
use Rattle.dbn_net.specs.Values.{constants_of, past_ids}
use Rattle.dbn_net.proofs.NextLaws.{past_step}
use Rattle.dbn_net.proofs.first_ids.past_reads.Goals as goal

pub loop-read-preserved : goal.loop-read-preserved
loop-read-preserved c = record {
  value = past_step (λ r. constants_of r.terms) c.args.reads.now c.loop-read.read-index c.read-item.result c.loop-read.next c.past_terms.result c.greater-next.result c.loop-read-test.true c.read-item.is c.loop-read.invariant.value (c.past_terms.ensures.value ∙ ap (λ ts. past_ids (constants_of ts)) c.as_slice.ensures) c.greater-next.ensures;
  small = omega (arith, c.greater-next.ensures, c.loop-read.invariant.small, c.past_terms.ensures.small);
}
