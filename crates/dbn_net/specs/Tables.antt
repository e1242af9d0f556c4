-- A net is the list of its declarations. What it declares of each kind stands in order; a number is a place in such a list.
-- A number out of range has no columns and no rows.
use Rattle.std.specs.Prelude.{ℕ, Bool, true, false, List, [], ◌++◌, map, Option, Some, None, slice_get, slice_index_or}
use Rattle.std.specs.List.{filter_map}
use Rattle.std.specs.Option.{option_map_or}
use Rattle.dbn_value.specs.declared.value.ColType.{ColType}
use Rattle.dbn_value.specs.declared.value.ColType.TheVariants as col
use Rattle.dbn_value.specs.declared.term.Var.{Var}
use Rattle.dbn_formula.specs.Variables.{TypedVars}
use Rattle.dbn_formula.specs.Typing.{Shapes}
use Rattle.dbn_formula.specs.declared.formula.Formula.{Formula}
use Rattle.dbn_instance.specs.declared.fact.Action.{Action}
use Rattle.dbn_net.specs.declared.rules.Transition.{Transition}
use Rattle.dbn_net.specs.declared.decl.Place.{Place}
use Rattle.dbn_net.specs.declared.decl.Place.TheVariants.{Control, View}
use Rattle.dbn_net.specs.declared.decl.Decl.{Decl}
use Rattle.dbn_net.specs.declared.decl.Decl.TheVariants.{Relation, Always, Query, Act, Site, Trans}
use Rattle.dbn_net.specs.Forms.{Name}

-- a relation: its name and its columns
pub record Table : Type 0 where
  pub name : Name
  pub fields : List (Name × ColType)

-- a query: its name, its variables, which are its columns, and its formula
pub record Question : Type 0 where
  pub name : Name
  pub vars : TypedVars
  pub body : Formula

-- ---- what a declaration declares of one kind

abbrev pub relation_in : Decl → Option Table
relation_in (Relation name fields) = Some (record { name = name; fields = fields })
relation_in d = None

abbrev pub always_in : Decl → Option Name
always_in (Always name body) = Some name
always_in d = None

abbrev pub query_in : Decl → Option Question
query_in (Query name vars body) = Some (record { name = name; vars = vars; body = body })
query_in d = None

abbrev pub action_in : Decl → Option Action
action_in (Act a) = Some a
action_in d = None

abbrev pub place_in : Decl → Option Place
place_in (Site p) = Some p
place_in d = None

abbrev pub transition_in : Decl → Option Transition
transition_in (Trans t) = Some t
transition_in d = None

-- ---- what a net declares, in order

abbrev pub relations : List Decl → List Table
relations net = filter_map relation_in net

abbrev pub queries : List Decl → List Question
queries net = filter_map query_in net

abbrev pub actions : List Decl → List Action
actions net = filter_map action_in net

abbrev pub places : List Decl → List Place
places net = filter_map place_in net

abbrev pub transitions : List Decl → List Transition
transitions net = filter_map transition_in net

-- ---- names

abbrev pub place_name : Place → Name
place_name (Control name shape) = name
place_name (View name query) = name

abbrev pub relation_names : List Decl → List Name
relation_names net = map (λ r. r.name) (relations net)

-- the names of the `always` sentences; keys and foreign keys have none
abbrev pub always_names : List Decl → List Name
always_names net = filter_map always_in net

abbrev pub query_names : List Decl → List Name
query_names net = map (λ q. q.name) (queries net)

abbrev pub action_names : List Decl → List Name
action_names net = map (λ a. a.name) (actions net)

abbrev pub place_names : List Decl → List Name
place_names net = map place_name (places net)

abbrev pub transition_names : List Decl → List Name
transition_names net = map (λ t. t.name) (transitions net)

-- the names of the columns of a relation
abbrev pub field_names : List Decl → ℕ → List Name
field_names net n = slice_index_or (map (λ r. map (λ f. f.0) r.fields) (relations net)) n []

-- ---- shapes

abbrev pub columns : Shapes → ℕ → List ColType
columns shapes n = slice_index_or shapes n []

abbrev pub types_of : TypedVars → List ColType
types_of vars = map (λ x. x.1) vars

abbrev pub relation_shape : Table → List ColType
relation_shape r = map (λ f. f.1) r.fields

abbrev pub relation_shapes : List Decl → Shapes
relation_shapes net = map relation_shape (relations net)

abbrev pub query_shapes : List Decl → Shapes
query_shapes net = map (λ q. types_of q.vars) (queries net)

-- the types of the parameters of each action
abbrev pub action_shapes : List Decl → Shapes
action_shapes net = map (λ a. types_of a.params) (actions net)

-- the columns of a place: those that are declared, or those of its query
abbrev pub place_shape : Shapes → Place → List ColType
place_shape queries (Control name shape) = shape
place_shape queries (View name query) = columns queries query

abbrev pub place_shapes : List Decl → Shapes
place_shapes net = map (place_shape (query_shapes net)) (places net)

-- the variables whose values come with a firing: the bound ones and then the asked ones
abbrev pub given : Transition → TypedVars
given t = t.bound ++ t.asked

-- the types of the row of a firing
abbrev pub shape_of : Transition → List ColType
shape_of t = types_of (given t)

abbrev pub shapes : List Decl → Shapes
shapes net = map shape_of (transitions net)

abbrev pub with_type : ColType → List Var → TypedVars
with_type type xs = map (λ x. (x, type)) xs

-- all variables of a transition: those that are given, and the fresh ones
abbrev pub scope_of : Transition → TypedVars
scope_of t = given t ++ with_type col.Id t.fresh

-- ---- kinds of places

abbrev pub is_control : Place → Bool
is_control (Control name shape) = true
is_control (View name query) = false

abbrev pub is_view : Place → Bool
is_view (Control name shape) = false
is_view (View name query) = true

-- there is a place with this number, and it is of this kind
abbrev pub has_place : (Place → Bool) → List Place → ℕ → Bool
has_place is sites n = option_map_or is (slice_get sites n) false
