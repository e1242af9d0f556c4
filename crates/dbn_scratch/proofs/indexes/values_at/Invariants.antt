use Rattle.std.proofs.Common.{◌≡◌, ◌++◌, map}
use Rattle.dbn_value.specs.Scope.{value_of}
use Rattle.dbn_scratch.specs.Envs.{env_of}
use Rattle.dbn_scratch.specs.Indexes.{key_of}
use Rattle.dbn_scratch.proofs.indexes.values_at.Given as goal

abbrev pub invariant-loop-mark : goal.invariant-loop-mark
invariant-loop-mark l =
    l.cells.items ++ key_of l.mark-iterator.a.rest.now (map (value_of (env_of l.env)) l.mark-iterator.b.rest.now) ≡ key_of l.fn.marks (map (value_of (env_of l.env)) l.fn.terms)
