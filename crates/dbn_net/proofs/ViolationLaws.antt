-- No violation holds exactly where a net is consistent.
use Rattle.std.proofs.Common.{◌≡◌, Bool, true, false, not, ◌&&◌, ◌||◌, List, [], ◌∷◌, map, refl, ap, ◌∙◌}
use Rattle.std.specs.List.{list_any, list_all}
use Rattle.dbn_formula.specs.Holds.{Instance}
use Rattle.dbn_formula.specs.Answers.{holds}
use Rattle.dbn_formula.specs.Normal.{normal}
use Rattle.dbn_formula.specs.declared.formula.Formula.{Formula}
use Rattle.dbn_formula.specs.declared.formula.Formula.TheVariants.{Not}
use Rattle.dbn_formula.specs.Holds.{holds_over}
use Rattle.dbn_formula.specs.Answers.{domain}
use Rattle.dbn_formula.proofs.NormalAnswers.{same_domain}
use Rattle.dbn_formula.proofs.NormalAgain as again
use Rattle.dbn_formula.proofs.NormalConstants.{kept}
use Rattle.dbn_formula.proofs.NormalMeaning.{meant}
use Rattle.dbn_formula.proofs.ConstantsLaws.{constants_not}
use Rattle.dbn_formula.proofs.HoldsLaws.{holds_not}
use Rattle.dbn_net.specs.declared.violation.Named.{Named}
use Rattle.dbn_net.specs.declared.decl.Decl.{Decl}
use Rattle.dbn_net.specs.Sentences.{denied, labelled_sentences, violations, consistent}

-- over the domain of the whole formula, the denial holds exactly where the formula doesn't
pub denied_holds : (f : Formula) (db : Instance) → holds (normal (Not f)) db [] ≡ not (holds f db [])
denied_holds f db =
    ap (λ dom. holds_over dom db (normal (Not f)) []) (same_domain (normal (Not f)) f db (kept (Not f) true ∙ constants_not f))
    ∙ (meant (domain f db) db (Not f)).yes []
    ∙ holds_not (domain f db) db f []

one_denied : (ss : List Named) (db : Instance) → list_any (λ v. holds v.item db []) (map denied ss) ≡ not (list_all (λ s. holds s db []) (map (λ s. s.item) ss))
one_denied [] db = refl
one_denied (s ∷ ss) db =
    ap (λ b. b || list_any (λ v. holds v.item db []) (map denied ss)) (denied_holds s.item db)
    ∙ ap (λ b. not (holds s.item db []) || b) (one_denied ss db)
    ∙ parts (holds s.item db []) (list_all (λ t. holds t db []) (map (λ t. t.item) ss))
  where
    parts : (a b : Bool) → (not a || not b) ≡ not (a && b)
    parts true b = refl
    parts false b = refl

pub none_is_consistent : (net : List Decl) (db : Instance) → list_any (λ v. holds v.item db []) (violations net) ≡ not (consistent net db)
none_is_consistent net db = one_denied (labelled_sentences net) db

-- each violation is in normal form
pub violation_normal : (s : Named) → normal (denied s).item ≡ (denied s).item
violation_normal s = again.kept (Not s.item) true
