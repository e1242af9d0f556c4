use Rattle.std.proofs.Common.{◌≡◌, List, ℕ, length, take, sym, ap, ◌∙◌, arith}
use Rattle.dbn_keeper.specs.Reading.{numbers_in}
use Rattle.dbn_keeper.proofs.Bases.{numbers_none, numbers_some}
use Rattle.dbn_keeper.proofs.reading.base_at.Goals as goal

pub returns-in-None-clause-base : goal.returns-in-None-clause-base
returns-in-None-clause-base g c b told =
    let size : length c.read.new.into ≡ 33 = omega arith in
    let front = c.in_ok-count.ensures.bytes b told ∙ ap (λ (n : ℕ). take n b) size in
    numbers_none b (sym c.in-None.is ∙ c.numbers_of.ensures.numbers ∙ ap (λ (l : List ℕ). numbers_in l c.in_ok-len.len) front ∙ ap (numbers_in (take 33 b)) (c.in_ok-len.ensures.length b (c.read.ensures.same ∙ told)))

pub returns-in_ok-text-in-Some-clause-base : goal.returns-in_ok-text-in-Some-clause-base
returns-in_ok-text-in-Some-clause-base g c b told =
    let size : length c.read.new.into ≡ 33 = omega arith in
    let front = c.in_ok-count.ensures.bytes b told ∙ ap (λ (n : ℕ). take n b) size in
    numbers_some b c.from_vec.result c.in-Some.found (sym c.in-Some.is ∙ c.numbers_of.ensures.numbers ∙ ap (λ (l : List ℕ). numbers_in l c.in_ok-len.len) front ∙ ap (numbers_in (take 33 b)) (c.in_ok-len.ensures.length b (c.read.ensures.same ∙ told)))
    (c.from_vec.ensures ∙ c.in_ok-text-in-Some.ensures.bytes b (c.len.ensures.same ∙ c.read.ensures.same ∙ told))
