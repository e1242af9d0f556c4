-- A formula of the same meaning and constants has the same answers; so has the normal form.
use Rattle.std.proofs.Common.{◌≡◌, true, List, [], ◌++◌, map, ap, ◌∙◌}
use Rattle.std.specs.List.{filter}
use Rattle.dbn_value.specs.Ascending.{ascending, rows_over}
use Rattle.dbn_value.specs.Order.{value_cmp, value_type}
use Rattle.dbn_value.specs.declared.value.Value.{Value}
use Rattle.dbn_formula.specs.declared.formula.Formula.{Formula}
use Rattle.dbn_formula.specs.Variables.{TypedVars, type_eq}
use Rattle.dbn_formula.specs.Holds.{Env, Domain, Instance, holds_over}
use Rattle.dbn_formula.specs.Answers.{values_in, constants, domain, bind, answers}
use Rattle.dbn_formula.specs.Normal.{normal}
use Rattle.dbn_formula.proofs.NormalMeaning.{meant}
use Rattle.dbn_formula.proofs.NormalConstants.{kept}
use Rattle.dbn_formula.proofs.Truth.{filter_alike}

pub same_domain : (f g : Formula) (db : Instance) → constants f ≡ constants g → domain f db ≡ domain g db
same_domain f g db e =
    let over : List Value → Domain = λ written type. ascending value_cmp (filter (λ v. type_eq (value_type v) type) (values_in db ++ written)) in
    ap over e

pub alike_answers : (f g : Formula) (vars : TypedVars) (db : Instance) → constants f ≡ constants g
    → ((dom : Domain) (env : Env) → holds_over dom db f env ≡ holds_over dom db g env) → answers f vars db ≡ answers g vars db
alike_answers f g vars db e same =
    let rows : Domain → List (List Value) = λ dom. filter (λ row. holds_over dom db f (bind vars row [])) (rows_over (map (λ x. dom x.1) vars)) in
    ap rows (same_domain f g db e)
    ∙ filter_alike (λ row. holds_over (domain g db) db f (bind vars row [])) (λ row. holds_over (domain g db) db g (bind vars row []))
    (λ row. same (domain g db) (bind vars row [])) (rows_over (map (λ x. domain g db x.1) vars))

pub same_answers : (f : Formula) (vars : TypedVars) (db : Instance) → answers (normal f) vars db ≡ answers f vars db
same_answers f vars db = alike_answers (normal f) f vars db (kept f true) (λ dom env. (meant dom db f).yes env)
