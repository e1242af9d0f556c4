use Rattle.dbn_reader.proofs.PickedLaws.{picked_none}
use Rattle.dbn_reader.proofs.typing.add_type.Goals as goal

pub returns-in-None : goal.returns-in-None
returns-in-None c = picked_none c.args.types.now c.args.shape.now c.args.field c.in-None.ensures
