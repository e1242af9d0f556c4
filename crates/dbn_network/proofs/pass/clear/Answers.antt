use Rattle.std.proofs.Common.{◌∙◌, [], refl, get_or, arith}
use Rattle.std.proofs.lemmas.List.{length-set}
use Rattle.dbn_value.proofs.ListLaws.{in_at}
use Rattle.dbn_network.proofs.PassLaws.{same_inside}
use Rattle.dbn_network.proofs.WalkLaws.{clear_step, clear_end}
use Rattle.dbn_network.proofs.pass.clear.Goals as goal

pub loop-number-init : goal.loop-number-init
loop-number-init g c = (refl, λ i from. from)

pub put-requires : goal.put-requires
put-requires g c =
    let size = c.loop-number.invariant.0 in
    let within = c.requires (get_or c.args.walk.now c.loop-number.number-index 0) (in_at c.args.walk.now c.loop-number.number-index (get_or c.args.walk.now c.loop-number.number-index 0) c.loop-number-test.true (same_inside c.args.walk.now c.loop-number.number-index 0 (get_or c.args.walk.now c.loop-number.number-index 0) c.loop-number-test.true)) in
    omega arith

pub loop-number-preserved : goal.loop-number-preserved
loop-number-preserved g c =
    let size = c.loop-number.invariant.0 in
    let within = c.requires (get_or c.args.walk.now c.loop-number.number-index 0) (in_at c.args.walk.now c.loop-number.number-index (get_or c.args.walk.now c.loop-number.number-index 0) c.loop-number-test.true (same_inside c.args.walk.now c.loop-number.number-index 0 (get_or c.args.walk.now c.loop-number.number-index 0) c.loop-number-test.true)) in
    rw (c.put.ensures, c.new.ensures) (
      length-set c.loop-number.made.items (get_or c.args.walk.now c.loop-number.number-index 0) [] ∙ size,
      λ i from. clear_step c.args.walk.now c.loop-number.number-index (get_or c.args.walk.now c.loop-number.number-index 0) c.loop-number.made.items i c.loop-number-test.true (same_inside c.args.walk.now c.loop-number.number-index 0 (get_or c.args.walk.now c.loop-number.number-index 0) c.loop-number-test.true) (omega arith) (c.loop-number.invariant.1 i from),
    )

pub returns-clause-none : goal.returns-clause-none
returns-clause-none g c =
    λ i from. clear_end c.args.walk.now c.loop-number.number-index c.loop-number.made.items i (let past = c.loop-number-test.false in omega arith) (c.loop-number.invariant.1 i from)
