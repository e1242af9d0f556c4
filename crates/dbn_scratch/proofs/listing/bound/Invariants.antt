use Rattle.std.proofs.Common.{◌≡◌, []}
use Rattle.dbn_value.specs.Scope.{bind}
use Rattle.dbn_scratch.specs.Envs.{env_of}
use Rattle.dbn_scratch.specs.Given.{row_of}
use Rattle.dbn_scratch.proofs.listing.bound.Given as goal

abbrev pub invariant-loop-var : goal.invariant-loop-var
invariant-loop-var l = bind l.fn.vars (row_of l.fn.row) [] ≡ bind l.var-iterator.a.rest.now (row_of l.var-iterator.b.rest.now) (env_of l.env.items)
