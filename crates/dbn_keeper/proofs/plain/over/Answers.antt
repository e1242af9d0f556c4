use Rattle.std.proofs.Common.{◌+◌, ◌<◌, ◌^◌, length, arith, ap, ◌∙◌}
use Rattle.std.proofs.lemmas.Bool.{false≢true}
use Rattle.dbn_keeper.proofs.Opened.{chosen_found, no_file, nothing}
use Rattle.dbn_keeper.proofs.plain.over.Goals as goal

pub invariant_of-result-clause-one : goal.invariant_of-result-clause-one
invariant_of-result-clause-one g c live = record {
  chosen_file = λ x told. chosen_found c.args.found.form c.args.found.base c.args.found.generation (33 + length c.as_slice.result.now) x (c.requires.holds x told) (ap (λ l. 33 + length l) c.as_slice.ensures);
  other_file = λ y told. no_file c.args.found.generation y told;
  shut = λ x told ended. absurd (false≢true ended);
  chosen_settled = c.requires.settled;
  other_settled = λ y told honest z image. image ∙ nothing y told;
  fired = c.args.found.numbers.0;
  next = c.args.found.numbers.1;
  few = omega arith;
  sized = let small : length c.as_slice.result.now < 2 ^ 32 = rw c.as_slice.ensures c.args.found.short in omega (arith, small);
}
