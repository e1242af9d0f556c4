use Rattle.std.proofs.Common.{arith}
use Rattle.dbn_net.proofs.NextLaws.{past_value_step}
use Rattle.dbn_net.proofs.first_ids.past_values.Goals as goal

pub loop-value-preserved : goal.loop-value-preserved
loop-value-preserved c = record {
  value = past_value_step c.args.values.now c.loop-value.value-index c.value-item.result c.loop-value.next c.past_value.result c.greater-next.result c.loop-value-test.true c.value-item.is c.loop-value.invariant.value c.past_value.ensures.value c.greater-next.ensures;
  small = omega (arith, c.greater-next.ensures, c.loop-value.invariant.small, c.past_value.ensures.small);
}
