use Rattle.std.proofs.Common.{◌≡◌, map, take}
use Rattle.dbn_value.specs.Scope.{value_of}
use Rattle.dbn_scratch.specs.Envs.{env_of}
use Rattle.dbn_scratch.proofs.listing.row_at.Given as goal

abbrev pub invariant-loop-term : goal.invariant-loop-term
invariant-loop-term l = l.values.items ≡ map (value_of (env_of l.env)) (take l.term-index l.terms)
