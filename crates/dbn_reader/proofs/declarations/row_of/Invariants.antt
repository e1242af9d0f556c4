use Rattle.std.proofs.Common.{◌≡◌, drop}
use Rattle.dbn_sexp.specs.Parts.{constant_in}
use Rattle.dbn_net.specs.Maybe.{each, each_from}
use Rattle.dbn_reader.proofs.declarations.row_of.Given as goal

abbrev pub invariant-loop-one : goal.invariant-loop-one
invariant-loop-one l = each constant_in l.parts ≡ each_from constant_in l.row.items (drop l.one-index l.parts)
