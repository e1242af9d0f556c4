use Rattle.dbn_net.proofs.LinesLaws.{declaration_alike}
use Rattle.dbn_net.proofs.DeclaredAgain.{declaration_found}
use Rattle.dbn_net.proofs.PassesLaws.{named_again}
use Rattle.dbn_net.proofs.laws.declarations_both_ways.Goals as goal

pub returns-clause-lines : goal.returns-clause-lines
returns-clause-lines c = declaration_alike 0

pub returns-clause-printed : goal.returns-clause-printed
returns-clause-printed c = declaration_found

pub returns-clause-names : goal.returns-clause-names
returns-clause-names c = named_again
