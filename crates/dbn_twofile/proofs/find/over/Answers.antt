use Rattle.std.proofs.Common.{◌+◌, ◌<◌, ◌^◌, length, arith, ap}
use Rattle.std.proofs.lemmas.Bool.{false≢true}
use Rattle.dbn_keeper.proofs.Opened.{chosen_found}
use Rattle.dbn_twofile.proofs.find.over.Goals as goal

pub invariant_of-result-clause-two : goal.invariant_of-result-clause-two
invariant_of-result-clause-two g c live = record {
  chosen_file = λ x told. chosen_found c.args.found.form c.args.found.base c.args.found.generation (33 + length c.as_slice.result.now) x (c.requires.holds x told) (ap (λ l. 33 + length l) c.as_slice.ensures);
  other_file = c.requires.way;
  shut = λ x told ended. absurd (false≢true ended);
  chosen_settled = c.requires.settled;
  other_settled = c.requires.settled_other;
  fired = c.args.found.numbers.0;
  next = c.args.found.numbers.1;
  few = omega arith;
  sized = let small : length c.as_slice.result.now < 2 ^ 32 = rw c.as_slice.ensures c.args.found.short in omega (arith, small);
}
