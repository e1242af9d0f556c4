-- The rows that a solution gives the variables of a query.
use Rattle.std.specs.Global.{Vec}
use Rattle.std.specs.Borrow.{Bor}
use Rattle.std.specs.Prelude.{if◌then◌else◌, List, [], ◌∷◌, map}
use Rattle.std.specs.List.{filter}
use Rattle.dbn_value.specs.Ascending.{ascending, rows_over}
use Rattle.dbn_value.specs.Order.{value_cmp, value_type, type_eq}
use Rattle.dbn_value.specs.declared.value.Value.{Value}
use Rattle.dbn_value.specs.declared.value.ColType.{ColType}
use Rattle.dbn_value.specs.declared.value.ColType.TheVariants as col
use Rattle.dbn_value.specs.declared.term.Var.{Var}
use Rattle.dbn_formula.specs.Variables.{TypedVars}
use Rattle.dbn_formula.specs.Holds.{Env, Domain, lookup}
use Rattle.dbn_formula.specs.Solve.{is_bound}
use Rattle.dbn_scratch.specs.declared.domains.Domains.{Domains}

-- a variable with a value has that one, and another one each of its type
abbrev pub column_of : Domain → Env → Var × ColType → List Value
column_of dom env x = if is_bound env x.0 then lookup env x.0 ∷ [] else dom x.1

abbrev pub rows_given : Domain → TypedVars → Env → List (List Value)
rows_given dom vars env = rows_over (map (column_of dom env) vars)

-- ---- values and rows as they are kept

-- the values of the type, ascending
abbrev pub of_type : List Value → ColType → List Value
of_type values type = ascending value_cmp (filter (λ v. type_eq (value_type v) type) values)

abbrev pub kept_of : Domains → Domain
kept_of d col.Int = d.ints.keys
kept_of d col.Text = d.texts.keys
kept_of d col.Id = d.ids.keys

abbrev pub row_of : List (Bor Value) → List Value
row_of values = map (λ v. v.now) values

abbrev pub rows_of : List (Vec (Bor Value)) → List (List Value)
rows_of rows = map (λ r. row_of r.items) rows
