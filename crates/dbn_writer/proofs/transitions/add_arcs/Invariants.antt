use Rattle.std.proofs.Common.{◌≡◌, ◌++◌, map, take}
use Rattle.dbn_net.specs.Naming.{written_arc}
use Rattle.dbn_net.specs.Printing.{form, written_arc_parts}
use Rattle.dbn_writer.proofs.transitions.add_arcs.Given as goal

abbrev pub invariant-loop-one : goal.invariant-loop-one
invariant-loop-one l = l.out ≡ l.fn.out ++ map (λ p. form l.first (written_arc_parts p)) (map (written_arc l.net) (take l.one-index l.arcs))
