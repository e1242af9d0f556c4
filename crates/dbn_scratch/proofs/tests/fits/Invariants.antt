use Rattle.std.proofs.Common.{ℕ, ◌<◌, List, []}
use Rattle.std.specs.Prelude.{slice_index_or}
use Rattle.dbn_value.specs.Members.{In}
use Rattle.dbn_value.specs.declared.value.Value.{Value}
use Rattle.dbn_formula.specs.Solutions.{HasShape}
use Rattle.dbn_scratch.proofs.tests.fits.Given as goal

abbrev pub invariant-loop-rel : goal.invariant-loop-rel
invariant-loop-rel l = (r : ℕ) → r < l.rel → (row : List Value) → In row (slice_index_or l.instance r []) → HasShape row (slice_index_or l.rels r [])
