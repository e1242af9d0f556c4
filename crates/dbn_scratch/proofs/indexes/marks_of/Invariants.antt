use Rattle.std.proofs.Common.{◌≡◌, map, take}
use Rattle.dbn_formula.specs.Solve.{has_value}
use Rattle.dbn_scratch.specs.Envs.{env_of}
use Rattle.dbn_scratch.proofs.indexes.marks_of.Given as goal

abbrev pub invariant-loop-term : goal.invariant-loop-term
invariant-loop-term l = l.marks.items ≡ map (has_value (env_of l.env)) (take l.term-index l.terms)
