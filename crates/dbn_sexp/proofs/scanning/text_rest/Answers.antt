use Rattle.dbn_sexp.proofs.ScanLaws.{scan_escaped, scan_plain}
use Rattle.dbn_sexp.proofs.scanning.text_rest.Goals as goal
use Rattle.dbn_sexp.proofs.scanning.text_rest.Goals.{then-escaped, else-escaped+else-byte-eq34}

pub loop-i-preserved : goal.loop-i-preserved
loop-i-preserved c =
    elim c.if-escaped.branch [
      | then-escaped w ↦ scan_escaped c.args.bytes.now c.loop-i.i _ _ _ c.loop-i-test.true w.if-escaped.true w.escaped-is c.loop-i.invariant
      | else-escaped+else-byte-eq34 w ↦
          scan_plain c.args.bytes.now c.loop-i.i _ _ _ c.loop-i-test.true w.if-escaped.false w.if-byte-eq34.false w.escaped-is c.loop-i.invariant
    ]
