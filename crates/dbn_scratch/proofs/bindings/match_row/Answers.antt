use Rattle.std.proofs.Common.{arith}
use Rattle.dbn_scratch.specs.Envs.{env_of}
use Rattle.dbn_scratch.proofs.TurnLaws.{unequal}
use Rattle.dbn_scratch.proofs.bindings.match_row.Goals as goal

pub returns-then-terms-row : goal.returns-then-terms-row
returns-then-terms-row c = unequal c.args.terms.now c.args.row.now (env_of c.args.env.now) (λ e. omega (arith, e, c.if-terms-row.true))
