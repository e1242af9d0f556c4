use Rattle.std.proofs.Common.{◌≡◌, map, drop}
use Rattle.dbn_net.specs.Maybe.{each, each_from}
use Rattle.dbn_net.specs.Naming.{number_of}
use Rattle.dbn_reader.proofs.resolving.columns_of.Given as goal

abbrev pub invariant-loop-name : goal.invariant-loop-name
invariant-loop-name l = each (number_of (map (λ f. f.0) l.fields)) l.names ≡ each_from (number_of (map (λ f. f.0) l.fields)) l.numbers.items (drop l.name-index l.names)
