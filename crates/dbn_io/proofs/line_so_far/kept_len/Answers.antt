use Rattle.std.proofs.Common.{length, refl, arith}
use Rattle.dbn_io.proofs.LineLaws.{return-dropped, return-kept}
use Rattle.dbn_io.proofs.line_so_far.kept_len.Goals as goal

pub returns-then-bytes-len-eq-CARRIAGE_RETURN : goal.returns-then-bytes-len-eq-CARRIAGE_RETURN
returns-then-bytes-len-eq-CARRIAGE_RETURN c = return-dropped c.args.bytes.now (length c.args.bytes.now) refl (omega arith) c.if-bytes-len-eq-CARRIAGE_RETURN.true

pub returns : goal.returns
returns c = return-kept c.args.bytes.now (length c.args.bytes.now) refl (omega arith) c.if-bytes-len-eq-CARRIAGE_RETURN.false
