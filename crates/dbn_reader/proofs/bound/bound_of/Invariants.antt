use Rattle.std.proofs.Common.{◌≡◌, [], drop}
use Rattle.std.specs.List.{flat_map}
use Rattle.dbn_net.specs.Naming.{input_occurrences}
use Rattle.dbn_reader.specs.Bound.{with_all}
use Rattle.dbn_reader.proofs.bound.bound_of.Given as goal

abbrev pub invariant-loop-input : goal.invariant-loop-input
invariant-loop-input l = with_all [] (flat_map (input_occurrences l.net) l.inputs) ≡ with_all l.firsts (flat_map (input_occurrences l.net) (drop l.input-index l.inputs))
