use Rattle.std.proofs.Common.{◌≡◌}
use Rattle.dbn_net.specs.Judging.{row_fits}
use Rattle.dbn_reader.proofs.typing.row_fits.Given as goal

abbrev pub invariant-loop-value : goal.invariant-loop-value
invariant-loop-value l = row_fits l.fn.row l.fn.shape ≡ row_fits l.value-iterator.a.rest.now l.value-iterator.b.rest.now
