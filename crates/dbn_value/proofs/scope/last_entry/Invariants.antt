use Rattle.std.proofs.Common.{◌≡◌, []}
use Rattle.std.specs.Option.{option_or, option_copied}
use Rattle.dbn_value.specs.Scope.{bind, entry_of}
use Rattle.dbn_value.proofs.scope.last_entry.Given as goal

abbrev pub invariant-loop-bound : goal.invariant-loop-bound
invariant-loop-bound l =
    entry_of (bind l.fn.scope l.fn.row []) l.var ≡ option_or (entry_of (bind l.bound-iterator.a.rest.now l.bound-iterator.b.rest.now []) l.var) (option_copied l.last)
