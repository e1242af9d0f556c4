use Rattle.std.proofs.Common.{◌≡◌, ◌==◌, drop}
use Rattle.std.specs.List.{list_all}
use Rattle.dbn_formula.specs.Written.{written}
use Rattle.dbn_formula.proofs.written.+unmarked.Given as goal

abbrev pub invariant-each_unmarked-loop-part : goal.invariant-each_unmarked-loop-part
invariant-each_unmarked-loop-part l = list_all (λ f. list_all (λ x. x.mark == 0) (written f)) l.parts ≡ list_all (λ f. list_all (λ x. x.mark == 0) (written f)) (drop l.part-index l.parts)
