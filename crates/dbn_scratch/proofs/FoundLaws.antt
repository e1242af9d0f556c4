-- What was found, as it is kept and as it is looked at.
use Rattle.std.specs.Global.{Vec}
use Rattle.std.specs.Borrow.{Bor}
use Rattle.std.proofs.Common.{◌≡◌, Bool, List, [], ◌++◌, ap, ◌∙◌}
use Rattle.std.specs.List.{flat_map, list_any}
use Rattle.dbn_value.specs.declared.value.Value.{Value}
use Rattle.dbn_value.specs.declared.term.Var.{Var}
use Rattle.dbn_formula.specs.Holds.{Env, Instance}
use Rattle.dbn_formula.specs.Answers.{domain}
use Rattle.dbn_formula.specs.Solve.{solutions_over}
use Rattle.dbn_formula.specs.declared.formula.Formula.{Formula}
use Rattle.dbn_scratch.specs.Envs.{env_of, envs_of}
use Rattle.dbn_scratch.proofs.SolvingLaws.{flat_view, any_view}

-- all that there is was found
pub from_none : (old new : List (Vec (Bor Var × Bor Value))) (found : List Env) → old ≡ [] → envs_of new ≡ envs_of old ++ found → envs_of new ≡ found
from_none old new found e is = is ∙ ap (λ (es : List (Vec (Bor Var × Bor Value))). envs_of es ++ found) e

pub flat_found : {B : Type 0} (f : Env → List B) (kept seen : List (Vec (Bor Var × Bor Value))) (found : List Env) → seen ≡ kept → envs_of kept ≡ found → flat_map (λ e. f (env_of e.items)) seen ≡ flat_map f found
flat_found f kept seen found e is = ap (λ (es : List (Vec (Bor Var × Bor Value))). flat_map (λ e. f (env_of e.items)) es) e ∙ flat_view f kept ∙ ap (flat_map f) is

pub any_found_of : (t : Env → Bool) (kept seen : List (Vec (Bor Var × Bor Value))) (found : List Env) → seen ≡ kept → envs_of kept ≡ found → list_any (λ e. t (env_of e.items)) seen ≡ list_any t found
any_found_of t kept seen found e is = ap (λ (es : List (Vec (Bor Var × Bor Value))). list_any (λ e. t (env_of e.items)) es) e ∙ any_view t kept ∙ ap (list_any t) is

-- solved over the same
pub over_same : (f g : Formula) (a b : Instance) (solved : Formula) → f ≡ g → a ≡ b → solutions_over (domain f a) a solved [] ≡ solutions_over (domain g b) b solved []
over_same f g a b solved e is = ap (λ h. solutions_over (domain h a) a solved []) e ∙ ap (λ db. solutions_over (domain g db) db solved []) is
