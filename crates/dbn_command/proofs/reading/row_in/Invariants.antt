use Rattle.std.proofs.Common.{◌≡◌, map, drop}
use Rattle.dbn_command.specs.Gives.{each}
use Rattle.dbn_command.specs.Lines.{value_in}
use Rattle.dbn_command.proofs.Loops.{with_front}
use Rattle.dbn_command.proofs.reading.row_in.Given as goal

abbrev pub invariant-loop-token : goal.invariant-loop-token
invariant-loop-token l = with_front l.row.items (each value_in (map (λ t. t.now) (drop l.token-index l.tokens))) ≡ each value_in (map (λ t. t.now) l.tokens)
