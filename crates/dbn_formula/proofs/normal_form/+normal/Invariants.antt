use Rattle.std.proofs.Common.{◌≡◌, map, take}
use Rattle.dbn_formula.specs.Normal.{normal_at}
use Rattle.dbn_formula.proofs.normal_form.+normal.Given as goal

abbrev pub invariant-each_normal-loop-part : goal.invariant-each_normal-loop-part
invariant-each_normal-loop-part l = l.made ≡ map (λ f. normal_at f l.keep) (take l.part-index l.parts)
