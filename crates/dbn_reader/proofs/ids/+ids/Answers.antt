use Rattle.std.proofs.Common.{arith, ap, ◌∙◌}
use Rattle.std.specs.List.{flat_map}
use Rattle.std.proofs.lemmas.List.{take_all}
use Rattle.dbn_net.specs.Values.{past_ids}
use Rattle.dbn_reader.proofs.IdLaws.{item_values, next_step, next_listed}
use Rattle.dbn_reader.proofs.ids.+ids.Goals as goal

pub next_of-loop-one-preserved : goal.next_of-loop-one-preserved
next_of-loop-one-preserved t c = record {
  value = next_step c.args.list.now c.loop-one.one-index c.one-item.result c.loop-one.next c.past_item.result c.greater-next.result c.loop-one-test.true c.one-item.is c.loop-one.invariant.value c.past_item.ensures.value c.greater-next.ensures;
  small = omega (arith, c.greater-next.ensures, c.loop-one.invariant.small, c.past_item.ensures.small);
}

pub next_of-returns-clause-value : goal.next_of-returns-clause-value
next_of-returns-clause-value t c =
    next_listed c.args.list.now c.loop-one.next
    (c.loop-one.invariant.value ∙ ap (λ l. past_ids (flat_map item_values l)) (take_all c.loop-one.one-index c.args.list.now c.loop-one-test.false))
