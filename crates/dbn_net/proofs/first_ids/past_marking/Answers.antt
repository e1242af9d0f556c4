use Rattle.std.proofs.Common.{◌<◌, [], arith, ap, ◌∙◌, length}
use Rattle.std.specs.List.{flat_map}
use Rattle.dbn_net.specs.Values.{past_ids}
use Rattle.dbn_net.proofs.NextLaws.{past_more_step}
use Rattle.dbn_net.proofs.first_ids.past_marking.Goals as goal

pub loop-place-preserved : goal.loop-place-preserved
loop-place-preserved c =
    let less : c.loop-place.place < length c.args.marking.now = omega arith in
    record {
      value = past_more_step (λ held. flat_map (λ counted. counted.0) held) c.args.marking.now c.loop-place.place [] c.loop-place.next c.past_counts.result c.greater-next.result less c.loop-place.invariant.value (c.past_counts.ensures.value ∙ ap (λ entries. past_ids (flat_map (λ counted. counted.0) entries)) c.counts.ensures.rows) c.greater-next.ensures;
      small = omega (arith, c.greater-next.ensures, c.loop-place.invariant.small, c.past_counts.ensures.small);
    }
