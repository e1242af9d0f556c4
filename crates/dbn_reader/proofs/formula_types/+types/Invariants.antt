use Rattle.std.proofs.Common.{◌≡◌, ◌+◌, drop, sum_by}
use Rattle.std.specs.List.{list_all}
use Rattle.dbn_formula.specs.Typing.{types_fit}
use Rattle.dbn_formula.proofs.Weights.{weight}
use Rattle.dbn_reader.specs.Scopes.{entries}
use Rattle.dbn_reader.proofs.formula_types.+types.Given as goal

abbrev pub decreases-types_fit_at : goal.decreases-types_fit_at
decreases-types_fit_at l = weight l.f.now

abbrev pub decreases-types_fit_inside : goal.decreases-types_fit_inside
decreases-types_fit_inside l = weight l.body.now + 1

abbrev pub decreases-each_types_fit : goal.decreases-each_types_fit
decreases-each_types_fit l = sum_by weight l.parts.now + 1

abbrev pub invariant-each_types_fit-loop-part : goal.invariant-each_types_fit-loop-part
invariant-each_types_fit-loop-part l =
    list_all (λ f. types_fit l.rels f (entries l.scope)) l.parts ≡ list_all (λ f. types_fit l.rels f (entries l.scope)) (drop l.part-index l.parts)
