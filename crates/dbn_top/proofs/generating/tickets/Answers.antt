use Rattle.std.proofs.Common.{refl}
use Rattle.dbn_top.specs.Demos.{tickets}
use Rattle.dbn_top.proofs.generating.tickets.Goals as goal

pub returns : goal.returns
unfolding tickets
returns c = refl
