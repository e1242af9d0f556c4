use Rattle.std.proofs.Common.{◌≡◌, drop}
use Rattle.std.specs.List.{list_all}
use Rattle.dbn_formula.specs.Typing.{arity_fits}
use Rattle.dbn_formula.proofs.typing.+arity.Given as goal

abbrev pub invariant-each_arity_fits-loop-part : goal.invariant-each_arity_fits-loop-part
invariant-each_arity_fits-loop-part l = list_all (arity_fits l.rels) l.parts ≡ list_all (arity_fits l.rels) (drop l.part-index l.parts)
