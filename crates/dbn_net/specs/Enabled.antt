-- What a place shows, and which rows enable a transition.
use Rattle.std.specs.Prelude.{ℕ, Bool, true, false, ◌&&◌, List, [], map, take, drop, length, slice_get}
use Rattle.std.specs.List.{filter, list_any, list_all}
use Rattle.std.specs.Option.{option_map_or}
use Rattle.dbn_value.specs.Ascending.{ascending, rows_over}
use Rattle.dbn_value.specs.Order.{value_cmp, value_type, type_eq}
use Rattle.dbn_value.specs.Scope.{Env, value_of, bind}
use Rattle.dbn_value.specs.declared.value.Value.{Value}
use Rattle.dbn_value.specs.declared.value.ColType.{ColType}
use Rattle.dbn_formula.specs.Holds.{Domain, Instance, row_eq, holds_over}
use Rattle.dbn_formula.specs.Answers.{answers}
use Rattle.dbn_formula.specs.declared.formula.Formula.{Formula}
use Rattle.dbn_marking.specs.Counts.{place_of}
use Rattle.dbn_net.specs.declared.rules.Read.{Read}
use Rattle.dbn_net.specs.declared.rules.Transition.{Transition}
use Rattle.dbn_net.specs.declared.decl.Place.{Place}
use Rattle.dbn_net.specs.declared.decl.Place.TheVariants.{Control, View}
use Rattle.dbn_net.specs.declared.decl.Decl.{Decl}
use Rattle.dbn_net.specs.Tables.{queries, places, transitions, types_of, shape_of}
use Rattle.dbn_net.specs.Values.{Marking, all_values}
use Rattle.dbn_net.specs.Wants.{wants, contained}

-- ---- what a place shows

-- the answers of the query with this number
abbrev pub query_rows : List Decl → Instance → ℕ → List (List Value)
query_rows net db n = option_map_or (λ q. answers q.body q.vars db) (slice_get (queries net) n) []

-- the rows that a place shows as a view; one that holds tokens shows none
abbrev pub viewed : List Decl → Instance → Place → List (List Value)
viewed net db (Control name shape) = []
viewed net db (View name query) = query_rows net db query

abbrev pub view_rows : List Decl → Instance → ℕ → List (List Value)
view_rows net db n = option_map_or (viewed net db) (slice_get (places net) n) []

abbrev pub shown_by : List Decl → Instance → Place → List (List Value × ℕ) → List (List Value × ℕ)
shown_by net db (Control name shape) held = held
shown_by net db (View name query) held = map (λ row. (row, 1)) (query_rows net db query)

-- the counted rows of a place: its tokens, or each answer of its query once
abbrev pub shown : List Decl → Instance → Marking → ℕ → List (List Value × ℕ)
shown net db marking n = option_map_or (λ p. shown_by net db p (place_of marking n)) (slice_get (places net) n) []

-- ---- the row of a firing: the values of the bound variables, and then those of the asked ones

abbrev pub bound_part : Transition → List Value → List Value
bound_part t row = take (length t.bound) row

abbrev pub asked_part : Transition → List Value → List Value
asked_part t row = drop (length t.bound) row

abbrev pub bound_env : Transition → List Value → Env
bound_env t row = bind t.bound (bound_part t row) []

-- ---- enabled

-- the bound terms are a row of the view
abbrev pub is_read : List Decl → Instance → Env → Read → Bool
is_read net db env r = list_any (λ row. row_eq row (map (value_of env) r.terms)) (view_rows net db r.view)

-- a guard looks at values alone
abbrev pub guard_holds : Formula → Env → Bool
guard_holds guard env = holds_over (λ type. []) [] guard env

abbrev pub enabled_in : List Decl → Transition → Instance → Marking → Env → Bool
enabled_in net t db marking env =
    contained value_cmp (wants env t.ins) marking
    && list_all (is_read net db env) t.reads
    && option_map_or (λ g. guard_holds g env) t.guard true

-- the tokens are there, each tuple is an answer of its view, and the guard holds or there is none
abbrev pub enabled : List Decl → Transition → Instance → Marking → List Value → Bool
enabled net t db marking row = enabled_in net t db marking (bound_env t row)

-- ---- bindings

-- the values of a type in the state and in the declarations, ascending
abbrev pub values_for : List Decl → Instance → Marking → Domain
values_for net db marking type = ascending value_cmp (filter (λ v. type_eq (value_type v) type) (all_values net db marking))

-- the bound parts that enable the transition, ascending
abbrev pub bindings : List Decl → Transition → Instance → Marking → List (List Value)
bindings net t db marking = filter (enabled net t db marking) (rows_over (map (values_for net db marking) (types_of t.bound)))

-- ---- by the number of the transition; no transition has a number out of range

abbrev pub enabled_at : List Decl → Instance → Marking → ℕ → List Value → Bool
enabled_at net db marking n row = option_map_or (λ t. enabled net t db marking row) (slice_get (transitions net) n) false

abbrev pub bindings_at : List Decl → Instance → Marking → ℕ → List (List Value)
bindings_at net db marking n = option_map_or (λ t. bindings net t db marking) (slice_get (transitions net) n) []

abbrev pub shape_at : List Decl → ℕ → List ColType
shape_at net n = option_map_or shape_of (slice_get (transitions net) n) []
