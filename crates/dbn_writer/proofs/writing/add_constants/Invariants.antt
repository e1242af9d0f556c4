use Rattle.std.proofs.Common.{◌≡◌, ◌++◌, map, take}
use Rattle.dbn_net.specs.Printing.{constant}
use Rattle.dbn_writer.proofs.writing.add_constants.Given as goal

abbrev pub invariant-loop-value : goal.invariant-loop-value
invariant-loop-value l = l.out ≡ l.fn.out ++ map constant (take l.value-index l.row)
