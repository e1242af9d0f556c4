use Rattle.std.proofs.Common.{◌≡◌, drop}
use Rattle.std.specs.List.{list_all}
use Rattle.dbn_formula.specs.Typing.{types_fit}
use Rattle.dbn_formula.specs.Scope.{entries}
use Rattle.dbn_formula.proofs.typing.+types.Given as goal

abbrev pub invariant-each_types_fit-loop-part : goal.invariant-each_types_fit-loop-part
invariant-each_types_fit-loop-part l =
    list_all (λ f. types_fit l.rels f (entries l.scope)) l.parts ≡ list_all (λ f. types_fit l.rels f (entries l.scope)) (drop l.part-index l.parts)
