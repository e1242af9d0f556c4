use Rattle.std.proofs.Common.{◌≡◌, drop}
use Rattle.std.specs.Prelude.{nat_le}
use Rattle.std.specs.List.{list_all}
use Rattle.dbn_formula.specs.Written.{depth_of}
use Rattle.dbn_formula.proofs.written.+depth.Given as goal

abbrev pub invariant-each_nests_within-loop-part : goal.invariant-each_nests_within-loop-part
invariant-each_nests_within-loop-part l = list_all (λ f. nat_le (depth_of f) l.most) l.parts ≡ list_all (λ f. nat_le (depth_of f) l.most) (drop l.part-index l.parts)
