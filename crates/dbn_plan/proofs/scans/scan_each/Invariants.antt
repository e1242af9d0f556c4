use Rattle.dbn_plan.specs.Making.{ScansMade}
use Rattle.dbn_plan.proofs.scans.scan_each.Given as goal

abbrev pub invariant-loop-rel : goal.invariant-loop-rel
invariant-loop-rel g l = ScansMade l.fn.network l.network l.scans l.rel-index
