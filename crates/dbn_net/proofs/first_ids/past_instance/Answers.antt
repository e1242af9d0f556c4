use Rattle.std.proofs.Common.{◌<◌, [], arith, ap, ◌∙◌, length}
use Rattle.std.specs.List.{flat_map}
use Rattle.dbn_net.specs.Values.{past_ids}
use Rattle.dbn_net.proofs.NextLaws.{past_more_step}
use Rattle.dbn_net.proofs.first_ids.past_instance.Goals as goal

pub loop-rel-preserved : goal.loop-rel-preserved
loop-rel-preserved c =
    let less : c.loop-rel.rel < length c.args.instance.now = omega arith in
    record {
      value = past_more_step (λ rows. flat_map (λ row. row) rows) c.args.instance.now c.loop-rel.rel [] c.loop-rel.next c.past_rows.result c.greater-next.result less c.loop-rel.invariant.value (c.past_rows.ensures.value ∙ ap (λ keys. past_ids (flat_map (λ row. row) keys)) c.row_set.ensures) c.greater-next.ensures;
      small = omega (arith, c.greater-next.ensures, c.loop-rel.invariant.small, c.past_rows.ensures.small);
    }
