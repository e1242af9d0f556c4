use Rattle.std.proofs.Common.{◌≡◌, ◌++◌, take}
use Rattle.std.specs.List.{flat_map}
use Rattle.dbn_command.specs.Replies.{row_line, bound_text}
use Rattle.dbn_command.proofs.writing.add_bindings.Given as goal

abbrev pub invariant-loop-row : goal.invariant-loop-row
invariant-loop-row l = l.out.items ≡ l.fn.out.items ++ flat_map (row_line (bound_text l.vars)) (take l.row-index l.rows)
