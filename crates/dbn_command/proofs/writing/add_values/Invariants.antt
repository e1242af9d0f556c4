use Rattle.std.proofs.Common.{◌≡◌, ◌++◌, take}
use Rattle.dbn_command.specs.Replies.{values_text}
use Rattle.dbn_command.proofs.writing.add_values.Given as goal

abbrev pub invariant-loop-value : goal.invariant-loop-value
invariant-loop-value l = l.out.items ≡ l.fn.out.items ++ values_text (take l.value-index l.row)
