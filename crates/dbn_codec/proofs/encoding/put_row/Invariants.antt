use Rattle.std.proofs.Common.{◌≡◌, ◌++◌, take}
use Rattle.std.specs.List.{flat_map, AllByRecursion}
use Rattle.dbn_value.specs.Spelling.{IsValue}
use Rattle.dbn_codec.specs.Bodies.{value_bytes}
use Rattle.dbn_codec.proofs.encoding.put_row.Given as goal

abbrev pub invariant-loop-value : goal.invariant-loop-value
invariant-loop-value l = (l.out.items ≡ l.fn.out.items ++ flat_map value_bytes (take l.value-index l.row)) × AllByRecursion IsValue (take l.value-index l.row)
