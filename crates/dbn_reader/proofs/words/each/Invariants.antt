use Rattle.std.proofs.Common.{◌≡◌, drop}
use Rattle.dbn_net.specs.Maybe.{each, each_from}
use Rattle.dbn_reader.proofs.words.each.Given as goal

abbrev pub invariant-loop-one : goal.invariant-loop-one
invariant-loop-one g l = each g.T.FromSexp.read l.parts ≡ each_from g.T.FromSexp.read l.made (drop l.one-index l.parts)
