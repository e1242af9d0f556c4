use Rattle.std.proofs.Common.{◌≡◌, ◌++◌, take}
use Rattle.std.specs.List.{flat_map}
use Rattle.dbn_command.specs.Replies.{group_line_text}
use Rattle.dbn_command.proofs.writing.add_group.Given as goal

abbrev pub invariant-loop-line : goal.invariant-loop-line
invariant-loop-line l = l.out.items ≡ l.fn.out.items ++ flat_map (group_line_text l.net) (take l.line-index l.lines)
