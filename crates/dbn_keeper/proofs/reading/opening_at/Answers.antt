use Rattle.std.proofs.Common.{◌≡◌, ℕ, length, take, ap, ◌∙◌, arith}
use Rattle.dbn_keeper.specs.Files.{opening_in}
use Rattle.dbn_keeper.proofs.reading.opening_at.Goals as goal

pub returns-clause-opening : goal.returns-clause-opening
returns-clause-opening g c b told =
    let bytes = c.in_ok-count.ensures.bytes b told in
    let size : length c.read.new.into ≡ 13 = omega arith in
    c.opening.ensures.opening ∙ ap opening_in bytes ∙ ap (λ (n : ℕ). opening_in (take n b)) size
