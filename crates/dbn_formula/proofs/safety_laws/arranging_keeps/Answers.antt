use Rattle.dbn_formula.proofs.Arranged.{arranged_holds, arranged_free, arranged_constants, arranged_in_order}
use Rattle.dbn_formula.proofs.safety_laws.arranging_keeps.Goals as goal

pub returns-clause-meaning : goal.returns-clause-meaning
returns-clause-meaning c = λ dom db f bound env. arranged_holds dom db f bound env

pub returns-clause-variables : goal.returns-clause-variables
returns-clause-variables c = λ f bound x at. (arranged_free f bound).there x at

pub returns-clause-all_variables : goal.returns-clause-all_variables
returns-clause-all_variables c = λ f bound x at. (arranged_free f bound).back x at

pub returns-clause-values : goal.returns-clause-values
returns-clause-values c = λ f bound v at. (arranged_constants f bound).there v at

pub returns-clause-all_values : goal.returns-clause-all_values
returns-clause-all_values c = λ f bound v at. (arranged_constants f bound).back v at

pub returns-clause-left_to_right : goal.returns-clause-left_to_right
returns-clause-left_to_right c = arranged_in_order
