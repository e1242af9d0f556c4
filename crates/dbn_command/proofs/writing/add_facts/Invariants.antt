use Rattle.std.proofs.Common.{◌≡◌, ◌++◌, take}
use Rattle.std.specs.List.{flat_map}
use Rattle.dbn_command.specs.Replies.{row_line, values_text}
use Rattle.dbn_command.proofs.writing.add_facts.Given as goal

abbrev pub invariant-loop-row : goal.invariant-loop-row
invariant-loop-row l = l.out.items ≡ l.fn.out.items ++ flat_map (row_line values_text) (take l.row-index l.rows)
