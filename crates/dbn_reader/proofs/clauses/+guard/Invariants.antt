use Rattle.std.proofs.Common.{◌≡◌, drop}
use Rattle.std.specs.List.{list_all}
use Rattle.dbn_net.specs.Forms.{is_guard}
use Rattle.dbn_reader.proofs.clauses.+guard.Given as goal

abbrev pub invariant-are_guards-loop-part : goal.invariant-are_guards-loop-part
invariant-are_guards-loop-part l = list_all is_guard l.parts ≡ list_all is_guard (drop l.part-index l.parts)
