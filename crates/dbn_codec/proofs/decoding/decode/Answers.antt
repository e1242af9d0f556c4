use Rattle.std.proofs.Common.{arith}
use Rattle.dbn_codec.proofs.Members.{body_takes, no_body}
use Rattle.dbn_codec.proofs.decoding.decode.Goals as goal

pub returns-in-Ok-clause-found : goal.returns-in-Ok-clause-found
returns-in-Ok-clause-found c = body_takes c.args.shapes.now c.args.bytes.now c.in-Ok.field-0 (λ i. omega (arith, c.type_inv.bytes i)) c.in-Ok.ensures

pub returns-in-Err-NoBody-clause-none : goal.returns-in-Err-NoBody-clause-none
returns-in-Err-NoBody-clause-none c = no_body c.args.shapes.now c.args.bytes.now (rw c.in-Err-NoBody.field-0-is at c.in-Err-NoBody.ensures)
