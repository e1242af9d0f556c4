use Rattle.std.proofs.Common.{◌≡◌, map, drop}
use Rattle.dbn_command.specs.Gives.{each}
use Rattle.dbn_command.specs.Lines.{call_in}
use Rattle.dbn_command.proofs.Loops.{with_front}
use Rattle.dbn_command.proofs.reading.calls_in.Given as goal

abbrev pub invariant-loop-part : goal.invariant-loop-part
invariant-loop-part l = with_front l.calls.items (each call_in (map (λ p. map (λ t. t.now) p.now) (drop l.part-index l.parts))) ≡ each call_in (map (λ p. map (λ t. t.now) p.now) l.parts)
