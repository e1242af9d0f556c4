use Rattle.std.proofs.Common.{◌≡◌, sym, subst}
use Rattle.dbn_value.proofs.MemberLaws.{in_map}
use Rattle.dbn_formula.specs.Normal.{normal}
use Rattle.dbn_net.specs.declared.violation.Named.{Named}
use Rattle.dbn_net.specs.Sentences.{denied, labelled_sentences}
use Rattle.dbn_net.proofs.ViolationLaws.{none_is_consistent, violation_normal}
use Rattle.dbn_net.proofs.laws.no_violation_is_consistent.Goals as goal

pub returns-clause-consistent : goal.returns-clause-consistent
returns-clause-consistent c = none_is_consistent

pub returns-clause-normal : goal.returns-clause-normal
returns-clause-normal c = λ net v at.
    let found = in_map denied v (labelled_sentences net) at in
    subst (λ (w : Named). normal w.item ≡ w.item) (sym found.2) (violation_normal found.0)
