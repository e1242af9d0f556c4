use Rattle.std.proofs.Common.{◌≡◌, ◌++◌, take}
use Rattle.dbn_value.specs.Spelling.{escaped}
use Rattle.dbn_value.proofs.spelling.escape_into.Given as goal

abbrev pub invariant-loop-byte : goal.invariant-loop-byte
invariant-loop-byte l = l.out.items ≡ l.fn.out.items ++ escaped (take l.byte-index l.bytes)
