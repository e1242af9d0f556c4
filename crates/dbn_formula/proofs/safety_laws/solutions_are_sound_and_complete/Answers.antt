use Rattle.dbn_formula.proofs.Solved.{solved}
use Rattle.dbn_formula.proofs.safety_laws.solutions_are_sound_and_complete.Goals as goal

pub returns-clause-holding : goal.returns-clause-holding
returns-clause-holding c = λ dom rels db f scope bound env rows ready g at. ((solved dom db rels rows f scope bound env ready).sound g at).holds

pub returns-clause-keeping : goal.returns-clause-keeping
returns-clause-keeping c = λ dom rels db f scope bound env rows ready g at x b. ((solved dom db rels rows f scope bound env ready).sound g at).step.keeps.each x b

pub returns-clause-binding : goal.returns-clause-binding
returns-clause-binding c = λ dom rels db f scope bound env rows ready g at x within. ((solved dom db rels rows f scope bound env ready).sound g at).step.new x within

pub returns-clause-complete : goal.returns-clause-complete
returns-clause-complete c = λ dom rels db f scope bound env rows ready t keeps e.
    let found = (solved dom db rels rows f scope bound env ready).complete t (record { each = keeps }) e in
    (found.env, found.at, λ x b. found.keeps.each x b)
