use Rattle.std.proofs.Common.{length}
use Rattle.dbn_formula.proofs.typing.+terms_fit_at.Given as goal

abbrev pub decreases-terms_fit_at : goal.decreases-terms_fit_at
decreases-terms_fit_at l = length l.terms.now
