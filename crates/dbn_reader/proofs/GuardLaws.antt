-- Guards, variant by variant, with the parts of a list in place.
use Rattle.std.proofs.Common.{◌≡◌, List, ◌∙◌}
use Rattle.std.specs.List.{list_all}
use Rattle.std.proofs.lemmas.List.Folds.{list_all-map}
use Rattle.dbn_net.specs.declared.written.WrittenFormula.{WrittenFormula}
use Rattle.dbn_net.specs.declared.written.WrittenFormula.TheVariants.{And, Or}
use Rattle.dbn_net.specs.Forms.{is_guard}
use Rattle.dbn_net.specs.Judging.{quantifies_once}
use Rattle.dbn_net.proofs.WrittenFormulaLaws.{guard_atom, guard_test, guard_and, guard_or, guard_not, guard_implies, guard_exists, guard_forall, quantifies_atom, quantifies_test, quantifies_and, quantifies_or, quantifies_not, quantifies_implies, quantifies_exists, quantifies_forall}

pub all_guards : (ps : List WrittenFormula) → is_guard (And ps) ≡ list_all is_guard ps
all_guards ps = guard_and ps ∙ list_all-map (λ b. b) is_guard ps

pub any_guards : (ps : List WrittenFormula) → is_guard (Or ps) ≡ list_all is_guard ps
any_guards ps = guard_or ps ∙ list_all-map (λ b. b) is_guard ps

pub ruleset guard_laws = (guard_atom, guard_test, all_guards, any_guards, guard_not, guard_implies, guard_exists, guard_forall)

pub all_once : (ps : List WrittenFormula) → quantifies_once (And ps) ≡ list_all quantifies_once ps
all_once ps = quantifies_and ps ∙ list_all-map (λ b. b) quantifies_once ps

pub any_once : (ps : List WrittenFormula) → quantifies_once (Or ps) ≡ list_all quantifies_once ps
any_once ps = quantifies_or ps ∙ list_all-map (λ b. b) quantifies_once ps

pub ruleset once_laws = (quantifies_atom, quantifies_test, all_once, any_once, quantifies_not, quantifies_implies, quantifies_exists, quantifies_forall)
