use Rattle.std.proofs.Common.{◌≡◌, drop}
use Rattle.dbn_net.specs.Judging.{all_patterns}
use Rattle.dbn_reader.specs.Terms.{tested}
use Rattle.dbn_reader.proofs.terms.arcs_pass.Given as goal

abbrev pub invariant-loop-arc : goal.invariant-loop-arc
invariant-loop-arc l = all_patterns (tested l.test l.scope) l.sites l.arcs ≡ all_patterns (tested l.test l.scope) l.sites (drop l.arc-index l.arcs)
