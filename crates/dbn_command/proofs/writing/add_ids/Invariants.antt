use Rattle.std.proofs.Common.{◌≡◌, ◌++◌, ◌+◌, drop}
use Rattle.dbn_command.specs.Replies.{fresh_text}
use Rattle.dbn_command.proofs.writing.add_ids.Given as goal

abbrev pub invariant-loop-i : goal.invariant-loop-i
invariant-loop-i l = l.out.items ++ fresh_text (drop l.i l.vars) (l.first + l.i) ≡ l.fn.out.items ++ fresh_text l.vars l.first
