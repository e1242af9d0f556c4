-- The tables that are kept of a net, and what one more declaration adds to them.
use Rattle.std.specs.Prelude.{◌≡◌, ◌≤◌, ◌^◌, ℕ, max, Bool, true, List, [], ◌∷◌, ◌++◌, map}
use Rattle.dbn_value.specs.declared.value.ColType.{ColType}
use Rattle.dbn_formula.specs.Typing.{Shapes}
use Rattle.dbn_net.specs.declared.violation.Label.TheVariants as label
use Rattle.dbn_net.specs.declared.tables.Head.{Head}
use Rattle.dbn_net.specs.declared.tables.Kind.{Kind}
use Rattle.dbn_net.specs.declared.tables.Line.{Line}
use Rattle.dbn_net.specs.declared.tables.Line.TheVariants as line
use Rattle.dbn_net.specs.declared.tables.Noted.{Noted}
use Rattle.dbn_net.specs.declared.tables.Tables.{Tables}
use Rattle.dbn_net.specs.declared.decl.Decl.{Decl}
use Rattle.dbn_net.specs.declared.decl.Decl.TheVariants.{Relation, Key, Foreign, Always, Query, Act, Site, Trans}
use Rattle.dbn_net.specs.Forms.{Name}
use Rattle.dbn_net.specs.Tables.{relation_in, query_in, action_in, place_in, transition_in, relation_names, always_names, query_names, action_names, place_names, transition_names, place_name, columns, types_of, relation_shapes, query_shapes, action_shapes, place_shapes, shapes, place_shape, shape_of}
use Rattle.dbn_net.specs.Positions.{positions}
use Rattle.dbn_net.specs.Judging.{is_new}
use Rattle.dbn_net.specs.Sentences.{labelled, key_sentence, foreign_sentence, denied, violations}
use Rattle.dbn_net.specs.WellFormed.{WellFormed}
use Rattle.dbn_net.specs.Values.{past_ids, rule_values, decl_constants}

-- each table says what the declarations say
pub record Kept (net : List Decl) (t : Tables) : Type 0 where
  pub relations_at : t.relations.at ≡ positions relation_in net
  pub relations_named : t.relations.names ≡ relation_names net
  pub relations_typed : t.relations.types ≡ relation_shapes net
  pub queries_at : t.queries.at ≡ positions query_in net
  pub queries_named : t.queries.names ≡ query_names net
  pub queries_typed : t.queries.types ≡ query_shapes net
  pub actions_at : t.actions.at ≡ positions action_in net
  pub actions_named : t.actions.names ≡ action_names net
  pub actions_typed : t.actions.types ≡ action_shapes net
  pub places_at : t.places.at ≡ positions place_in net
  pub places_named : t.places.names ≡ place_names net
  pub places_typed : t.places.types ≡ place_shapes net
  pub transitions_at : t.transitions.at ≡ positions transition_in net
  pub transitions_named : t.transitions.names ≡ transition_names net
  pub transitions_typed : t.transitions.types ≡ shapes net
  pub always_named : t.always ≡ always_names net
  pub denied : t.denials ≡ violations net
  pub past : t.past ≡ past_ids (rule_values net)
  pub past_small : t.past ≤ 2 ^ 62
  pub well_formed : WellFormed net

-- ---- one more declaration

abbrev pub headed : Name → List ColType → Head
headed name types = record { name = name; types = types }

-- what a declaration adds, over the columns of the relations and of the queries
abbrev pub line_of : Shapes → Shapes → Decl → Line
line_of rels asks (Relation name fields) = line.Relation (headed name (map (λ f. f.1) fields))
line_of rels asks (Key rel fields) = line.Sentence (denied (labelled (label.Key rel) (key_sentence (columns rels rel) rel fields)))
line_of rels asks (Foreign rel fields to to_fields) =
    line.Sentence (denied (labelled (label.Foreign rel to) (foreign_sentence (columns rels rel) (columns rels to) rel fields to to_fields)))
line_of rels asks (Always name body) = line.Always name (denied (labelled (label.Always name) body))
line_of rels asks (Query name vars body) = line.Query (headed name (types_of vars))
line_of rels asks (Act a) = line.Action (headed a.name (types_of a.params))
line_of rels asks (Site p) = line.Place (headed (place_name p) (place_shape asks p))
line_of rels asks (Trans t) = line.Transition (headed t.name (shape_of t))

-- one more of a kind, which stands at this place of the net
abbrev pub with_head : Kind → ℕ → Head → Kind
with_head k n h = record { at = k.at ++ n ∷ []; names = k.names ++ h.name ∷ []; types = k.types ++ h.types ∷ [] }

abbrev pub with_line : Tables → ℕ → Line → Tables
with_line t n (line.Relation h) = record t { relations = with_head t.relations n h }
with_line t n (line.Query h) = record t { queries = with_head t.queries n h }
with_line t n (line.Action h) = record t { actions = with_head t.actions n h }
with_line t n (line.Place h) = record t { places = with_head t.places n h }
with_line t n (line.Transition h) = record t { transitions = with_head t.transitions n h }
with_line t n (line.Sentence s) = record t { denials = t.denials ++ s ∷ [] }
with_line t n (line.Always name s) = record t { always = t.always ++ name ∷ []; denials = t.denials ++ s ∷ [] }

-- with values below this id
abbrev pub with_past : Tables → ℕ → Tables
with_past t m = record t { past = max t.past m }

-- what a declaration adds, and the first id after those that are written in it
unfoldable pub noted_of : Shapes → Shapes → Decl → Noted
noted_of rels asks d = record { line = line_of rels asks d; past = past_ids (decl_constants d) }

unfoldable pub with_noted : Tables → ℕ → Noted → Tables
with_noted t n noted = with_past (with_line t n noted.line) noted.past

-- the name, if there is one, is new in its kind
abbrev pub is_new_line : Tables → Line → Bool
is_new_line t (line.Relation h) = is_new t.relations.names h.name
is_new_line t (line.Query h) = is_new t.queries.names h.name
is_new_line t (line.Action h) = is_new t.actions.names h.name
is_new_line t (line.Place h) = is_new t.places.names h.name
is_new_line t (line.Transition h) = is_new t.transitions.names h.name
is_new_line t (line.Sentence s) = true
is_new_line t (line.Always name s) = is_new t.always name
