use Rattle.std.proofs.Common.{◌≡◌, ◌+◌, ◌++◌, drop, sum_by}
use Rattle.dbn_formula.specs.Apart.{renamed_all, last_all}
use Rattle.dbn_formula.specs.Naming.{named}
use Rattle.dbn_formula.proofs.Weights.{weight}
use Rattle.dbn_formula.proofs.apart.+renamed.Given as goal

abbrev pub decreases-renamed_at : goal.decreases-renamed_at
decreases-renamed_at l = weight l.f.now

abbrev pub decreases-each_renamed : goal.decreases-each_renamed
decreases-each_renamed l = sum_by weight l.parts.now + 1

abbrev pub decreases-requantified : goal.decreases-requantified
decreases-requantified l = weight l.body.now + 1

abbrev pub invariant-each_renamed-loop-part : goal.invariant-each_renamed-loop-part
invariant-each_renamed-loop-part l =
    (l.made ++ renamed_all l.used (drop l.part-index l.parts) (named l.names) l.last ≡ renamed_all l.used l.parts (named l.names) l.fn.last)
    × (last_all l.used (drop l.part-index l.parts) (named l.names) l.last ≡ last_all l.used l.parts (named l.names) l.fn.last)
