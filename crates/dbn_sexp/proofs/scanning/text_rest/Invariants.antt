use Rattle.std.proofs.Common.{◌≡◌, ◌+◌, false, drop}
use Rattle.dbn_sexp.specs.Tokens.{text_rest}
use Rattle.dbn_sexp.proofs.scanning.text_rest.Given as goal

abbrev pub invariant-loop-i : goal.invariant-loop-i
invariant-loop-i l = text_rest false l.bytes ≡ l.i + text_rest l.escaped (drop l.i l.bytes)
