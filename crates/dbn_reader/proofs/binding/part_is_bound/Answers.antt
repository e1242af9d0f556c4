use Rattle.std.proofs.Common.{◌≡◌, Bool, ◌&&◌, List, sym, subst, Result, IfOk}
use Rattle.std.specs.List.{list_all}
use Rattle.dbn_formula.specs.Variables.{TypedVars, is_in}
use Rattle.dbn_formula.specs.Free.{occurrences}
use Rattle.dbn_formula.specs.Typing.{all_bound}
use Rattle.dbn_formula.specs.declared.formula.Formula.{Formula}
use Rattle.dbn_net.specs.declared.decl.Decl.{Decl}
use Rattle.dbn_net.specs.declared.decl.Decl.TheVariants.{Query}
use Rattle.dbn_net.specs.declared.decl.Entry.TheVariants.{Part}
use Rattle.dbn_net.specs.Forms.{Name}
use Rattle.dbn_net.specs.Judging.{is_bound}
use Rattle.dbn_reader.proofs.binding.part_is_bound.Goals as goal

-- a query, by its variables and its formula
query_told : {E : Type 0} (result : Result Bool E) (net : List Decl) (d : Decl) (name : Name) (vars seen : TypedVars) (body : Formula) → d ≡ Query name vars body → seen ≡ vars
    → IfOk result (λ ok. ok ≡ (all_bound body seen && list_all (λ x. is_in x.0 (occurrences body)) seen)) → IfOk result (λ ok. ok ≡ is_bound net (Part d))
query_told result net d name vars seen body e f told =
    subst (λ (q : Decl). IfOk result (λ ok. ok ≡ is_bound net (Part q))) (sym e)
    (subst (λ (us : TypedVars). IfOk result (λ ok. ok ≡ (all_bound body us && list_all (λ x. is_in x.0 (occurrences body)) us))) f told)

pub returns-in-Query : goal.returns-in-Query
returns-in-Query c =
    query_told c.query_is_bound.result c.args.net.now c.args.decl.now _ _ c.as_slice.result.now c.in-Query.body c.in-Query.is c.as_slice.ensures c.query_is_bound.ensures
