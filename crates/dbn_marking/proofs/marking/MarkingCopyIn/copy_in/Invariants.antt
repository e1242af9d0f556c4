use Rattle.std.proofs.Common.{◌≡◌, take}
use Rattle.dbn_marking.proofs.marking.MarkingCopyIn.copy_in.Given as goal

abbrev pub invariant-loop-held : goal.invariant-loop-held
invariant-loop-held g l = l.places.items ≡ take l.held-index l.self
