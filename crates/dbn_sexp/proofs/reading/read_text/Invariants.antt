use Rattle.std.proofs.Common.{◌≡◌, ◌+◌, ◌≤◌, length}
use Rattle.dbn_sexp.specs.Reading.{reads_from, reads}
use Rattle.dbn_sexp.specs.Gives.{state_of}
use Rattle.dbn_sexp.proofs.reading.read_text.Given as goal

abbrev pub invariant-loop-rest : goal.invariant-loop-rest
invariant-loop-rest l = (reads_from l.depth (l.lines + 1) l.rest (state_of l.reader) ≡ reads l.depth l.bytes) × (l.lines + length l.rest ≤ length l.bytes)

abbrev pub decreases-loop-rest : goal.decreases-loop-rest
decreases-loop-rest l = length l.rest
