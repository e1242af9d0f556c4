use Rattle.std.proofs.Common.{[], sym, ap, ◌∙◌}
use Rattle.dbn_disk.specs.MemState.{MemState, fresh}
use Rattle.dbn_journal.proofs.tests.made.Goals as goal

pub make-answer-requires-clause-unused : goal.make-answer-requires-clause-unused
make-answer-requires-clause-unused c = c.in_ok-disk.ensures ∙ ap (λ (m : MemState). fresh m.first []) (sym c.in_ok-disk.ensures)
