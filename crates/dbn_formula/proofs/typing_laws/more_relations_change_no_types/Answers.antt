use Rattle.dbn_formula.proofs.MoreRelations.{arity_more, types_more, fault_more}
use Rattle.dbn_formula.proofs.WrittenTests.{first_from}
use Rattle.dbn_formula.proofs.typing_laws.more_relations_change_no_types.Goals as goal

pub returns-clause-test : goal.returns-clause-test
returns-clause-test c = first_from

pub returns-clause-arity : goal.returns-clause-arity
returns-clause-arity c = arity_more

pub returns-clause-types : goal.returns-clause-types
returns-clause-types c = types_more

pub returns-clause-fault : goal.returns-clause-fault
returns-clause-fault c = fault_more
