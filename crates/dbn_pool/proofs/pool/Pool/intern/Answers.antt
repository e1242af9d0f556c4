use Rattle.std.proofs.Common.{sym, ap, ◌∙◌}
use Rattle.std.specs.Prelude.{is_some}
use Rattle.dbn_pool.specs.PooledLaws.{put_again}
use Rattle.dbn_pool.proofs.pool.Pool.intern.Goals as goal

pub returns-in-Some-clause-texts : goal.returns-in-Some-clause-texts
returns-in-Some-clause-texts c = put_again c.args.self.now c.args.text.now (sym c.symbol_of.ensures.put ∙ ap is_some c.in-Some.is)
