use Rattle.std.proofs.Common.{◌≡◌, drop}
use Rattle.std.specs.List.{list_all}
use Rattle.dbn_net.specs.Judging.{quantifies_once}
use Rattle.dbn_reader.proofs.duplicates.+quantifiers.Given as goal

abbrev pub invariant-each_quantifies_once-loop-part : goal.invariant-each_quantifies_once-loop-part
invariant-each_quantifies_once-loop-part l = list_all quantifies_once l.parts ≡ list_all quantifies_once (drop l.part-index l.parts)
