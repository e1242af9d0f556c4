use Rattle.std.proofs.Common.{◌≡◌, ◌≤◌, ◌++◌, map, drop, length}
use Rattle.dbn_net.specs.Naming.{written_arc, written_read, mixed}
use Rattle.dbn_net.specs.Printing.{input_sexp}
use Rattle.dbn_writer.proofs.transitions.add_inputs.Given as goal

abbrev pub invariant-loop-is_in : goal.invariant-loop-is_in
invariant-loop-is_in l =
    (l.next_in ≤ length l.ins) × (l.next_read ≤ length l.reads)
    × (l.out ++ map input_sexp (mixed (drop l.is_in-index l.mixture) (map (written_arc l.net) (drop l.next_in l.ins)) (map (written_read l.net) (drop l.next_read l.reads)))
    ≡ l.fn.out ++ map input_sexp (mixed l.mixture (map (written_arc l.net) l.ins) (map (written_read l.net) l.reads)))
