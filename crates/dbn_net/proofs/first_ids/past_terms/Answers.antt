use Rattle.std.proofs.Common.{arith}
use Rattle.dbn_formula.specs.Answers.{constant_of}
use Rattle.dbn_net.proofs.NextLaws.{past_step}
use Rattle.dbn_net.proofs.first_ids.past_terms.Goals as goal

pub loop-term-preserved : goal.loop-term-preserved
loop-term-preserved c = record {
  value = past_step constant_of c.args.terms.now c.loop-term.term-index c.term-item.result c.loop-term.next c.past_term.result c.greater-next.result c.loop-term-test.true c.term-item.is c.loop-term.invariant.value c.past_term.ensures.value c.greater-next.ensures;
  small = omega (arith, c.greater-next.ensures, c.loop-term.invariant.small, c.past_term.ensures.small);
}
