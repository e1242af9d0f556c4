use Rattle.std.proofs.Common.{◌≡◌, ◌++◌, map, length}
use Rattle.dbn_net.specs.Naming.{ins_of, reads_of, is_in_clause}
use Rattle.dbn_reader.proofs.resolving.inputs_of.Given as goal

abbrev pub invariant-loop-input : goal.invariant-loop-input
invariant-loop-input l =
    record {
      ins : ins_of l.fn.written ≡ l.made.ins ++ ins_of l.left;
      reads : reads_of l.fn.written ≡ l.made.reads ++ reads_of l.left;
      mixture : map is_in_clause l.fn.written ≡ l.made.mixture ++ map is_in_clause l.left;
    }

abbrev pub decreases-loop-input : goal.decreases-loop-input
decreases-loop-input l = length l.left
