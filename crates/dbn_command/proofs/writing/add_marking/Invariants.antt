use Rattle.std.proofs.Common.{◌≡◌, ◌++◌, take}
use Rattle.std.specs.List.{flat_map}
use Rattle.dbn_command.specs.Replies.{row_line, counted_text}
use Rattle.dbn_command.proofs.writing.add_marking.Given as goal

abbrev pub invariant-loop-counted : goal.invariant-loop-counted
invariant-loop-counted l = l.out.items ≡ l.fn.out.items ++ flat_map (row_line counted_text) (take l.counted-index l.rows)
