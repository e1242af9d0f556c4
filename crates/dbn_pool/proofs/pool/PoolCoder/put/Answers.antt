use Rattle.std.proofs.Common.{sym, ◌∙◌}
use Rattle.dbn_pool.specs.PooledLaws.{others_stay}
use Rattle.dbn_pool.proofs.pool.PoolCoder.put.Goals as goal

pub returns-in_ok-intern-in-Text-clause-alone : goal.returns-in_ok-intern-in-Text-clause-alone
returns-in_ok-intern-in-Text-clause-alone c = λ v differ. rw c.in_ok-intern-in-Text.ensures.texts (others_stay c.args.self.now c.in-Text.text v (λ same. differ (same ∙ sym c.in-Text.is)))
