use Rattle.std.proofs.Common.{◌≡◌, List, [], ◌∷◌, ℕ, length, take, refl, ap, ◌∙◌, arith}
use Rattle.dbn_journal.specs.Making.{has_shut_first}
use Rattle.dbn_journal.proofs.make.has_shut_first.Goals as goal

first_of : (b : List ℕ) → has_shut_first (take 1 b) ≡ has_shut_first b
first_of [] = refl
first_of (first ∷ rest) = refl

pub returns-clause-first : goal.returns-clause-first
returns-clause-first g c b told =
    let bytes = c.in_ok-count.ensures.bytes b told in
    let one : length c.read.new.into ≡ 1 = omega arith in
    c.is_shut.ensures ∙ ap has_shut_first bytes ∙ ap (λ (n : ℕ). has_shut_first (take n b)) one ∙ first_of b
