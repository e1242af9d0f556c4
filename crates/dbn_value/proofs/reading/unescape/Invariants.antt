use Rattle.std.proofs.Common.{◌≡◌, ◌++◌, false, drop}
use Rattle.std.specs.Option.{option_map}
use Rattle.dbn_value.specs.Spelling.{unescaped}
use Rattle.dbn_value.proofs.reading.unescape.Given as goal

abbrev pub invariant-loop-i : goal.invariant-loop-i
invariant-loop-i l = unescaped false l.fn.bytes ≡ option_map (λ rest. l.text.items ++ rest) (unescaped l.behind (drop l.i l.bytes))
