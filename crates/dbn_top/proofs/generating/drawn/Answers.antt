use Rattle.std.proofs.Common.{refl}
use Rattle.dbn_top.specs.Demos.{drawn}
use Rattle.dbn_top.proofs.Generators.{drawn_as}
use Rattle.dbn_top.proofs.generating.drawn.Goals as goal

pub returns : goal.returns
unfolding drawn
returns c = drawn_as c.args.number _ _ _ _ refl
