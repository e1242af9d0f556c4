use Rattle.dbn_reader.proofs.PickedLaws.{picked_more}
use Rattle.dbn_reader.proofs.typing.picked_types.Goals as goal

pub loop-field-preserved : goal.loop-field-preserved
loop-field-preserved c =
    picked_more c.loop-field.types c.add_type.new.types c.args.shape.now c.args.fields.now c.loop-field.field-index c.loop-field-test.true c.loop-field.invariant
    c.in_ok-add_type.ensures
