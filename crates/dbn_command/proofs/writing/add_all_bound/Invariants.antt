use Rattle.std.proofs.Common.{◌≡◌, ◌++◌}
use Rattle.dbn_command.specs.Replies.{bound_text}
use Rattle.dbn_command.proofs.writing.add_all_bound.Given as goal

abbrev pub invariant-loop-var : goal.invariant-loop-var
invariant-loop-var l = l.out.items ++ bound_text l.var-iterator.a.rest.now l.var-iterator.b.rest.now ≡ l.fn.out.items ++ bound_text l.fn.vars l.fn.row
