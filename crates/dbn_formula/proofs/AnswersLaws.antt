-- Answers are a set of rows: in ascending order, and exactly the rows over the domain that satisfy the formula.
use Rattle.std.proofs.Common.{◌≡◌, true, List, [], ◌∷◌, ◌++◌, map}
use Rattle.std.specs.List.{filter, AllByRecursion}
use Rattle.std.specs.List.Sorted.{IsStrictlySortedBy}
use Rattle.std.proofs.lemmas.List.Kept.{IsStrictlySortedBy-filter}
use Rattle.dbn_value.specs.Members.{In}
use Rattle.dbn_value.specs.Ascending.{rows_over, CellsIn}
use Rattle.dbn_value.specs.Order.{value_cmp, row_cmp, value_total, value_type}
use Rattle.dbn_value.proofs.MemberLaws.{in_filter, filter_in}
use Rattle.dbn_value.proofs.AscendingLaws.{sorted_ascending, sorted_rows_over, in_rows_over, rows_over_in}
use Rattle.dbn_value.specs.declared.value.Value.{Value}
use Rattle.dbn_value.specs.declared.value.ColType.{ColType}
use Rattle.dbn_formula.specs.declared.formula.Formula.{Formula}
use Rattle.dbn_formula.specs.Variables.{TypedVars, type_eq}
use Rattle.dbn_formula.specs.Holds.{Instance}
use Rattle.dbn_formula.specs.Answers.{values_in, constants, domain, holds, bind, answers}

pub sorted_domain : (f : Formula) (db : Instance) (type : ColType) → IsStrictlySortedBy value_cmp (domain f db type)
sorted_domain f db type = sorted_ascending value_total (filter (λ v. type_eq (value_type v) type) (values_in db ++ constants f))

sorted_columns : (f : Formula) (db : Instance) (vars : TypedVars) → AllByRecursion (IsStrictlySortedBy value_cmp) (map (λ x. domain f db x.1) vars)
sorted_columns f db [] = tt
sorted_columns f db (x ∷ vars) = (sorted_domain f db x.1, sorted_columns f db vars)

pub sorted_answers : (f : Formula) (vars : TypedVars) (db : Instance) → IsStrictlySortedBy row_cmp (answers f vars db)
sorted_answers f vars db =
    IsStrictlySortedBy-filter row_cmp (λ row. holds f db (bind vars row [])) (rows_over (map (λ x. domain f db x.1) vars))
    (sorted_rows_over value_total (map (λ x. domain f db x.1) vars) (sorted_columns f db vars))

pub in_answers : (f : Formula) (vars : TypedVars) (db : Instance) (row : List Value) → In row (answers f vars db)
    → CellsIn row (map (λ x. domain f db x.1) vars) × (holds f db (bind vars row []) ≡ true)
in_answers f vars db row at =
    let found = in_filter (λ r. holds f db (bind vars r [])) row (rows_over (map (λ x. domain f db x.1) vars)) at in
    (in_rows_over row (map (λ x. domain f db x.1) vars) found.0, found.1)

pub answers_in : (f : Formula) (vars : TypedVars) (db : Instance) (row : List Value) → CellsIn row (map (λ x. domain f db x.1) vars)
    → holds f db (bind vars row []) ≡ true → In row (answers f vars db)
answers_in f vars db row cells e =
    filter_in (λ r. holds f db (bind vars r [])) row (rows_over (map (λ x. domain f db x.1) vars)) (rows_over_in row (map (λ x. domain f db x.1) vars) cells) e
