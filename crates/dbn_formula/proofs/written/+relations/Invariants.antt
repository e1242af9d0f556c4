use Rattle.std.proofs.Common.{◌≡◌, drop}
use Rattle.std.specs.List.{list_all}
use Rattle.dbn_formula.specs.Written.{of_first}
use Rattle.dbn_formula.proofs.written.+relations.Given as goal

abbrev pub invariant-each_relations_below-loop-part : goal.invariant-each_relations_below-loop-part
invariant-each_relations_below-loop-part l = list_all (of_first l.count) l.parts ≡ list_all (of_first l.count) (drop l.part-index l.parts)
