use Rattle.std.proofs.Common.{◌≡◌}
use Rattle.dbn_net.specs.Judging.{types_eq}
use Rattle.dbn_reader.proofs.typing.types_eq.Given as goal

abbrev pub invariant-loop-kind : goal.invariant-loop-kind
invariant-loop-kind l = types_eq l.fn.types l.fn.others ≡ types_eq l.kind-iterator.a.rest.now l.kind-iterator.b.rest.now
