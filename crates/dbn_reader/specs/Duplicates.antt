-- The three tests of which each declaration that is no duplicate passes all: its name, its row, and the lists of names in it.
use Rattle.std.specs.Prelude.{Bool, true, ◌&&◌, List, map}
use Rattle.dbn_net.specs.declared.decl.Decl.{Decl}
use Rattle.dbn_net.specs.declared.written.Written.{Written}
use Rattle.dbn_net.specs.declared.written.Written.TheVariants as written
use Rattle.dbn_net.specs.Tables.{relation_names, always_names, query_names, action_names, place_names, transition_names}
use Rattle.dbn_net.specs.Naming.{number_of, control_number}
use Rattle.dbn_net.specs.Judging.{Begun, is_new, once, scope_names, quantifies_once, transition_once, fact_is_new, token_is_new}

-- no declaration of the kind has the name; keys, foreign keys, facts and tokens have none of their own
abbrev pub is_new_name : List Decl → Written → Bool
is_new_name net (written.Relation name fields) = is_new (relation_names net) name
is_new_name net (written.Always name body) = is_new (always_names net) name
is_new_name net (written.Query name vars body) = is_new (query_names net) name
is_new_name net (written.Action name params deletes adds) = is_new (action_names net) name
is_new_name net (written.Control name shape) = is_new (place_names net) name
is_new_name net (written.View name query) = is_new (place_names net) name
is_new_name net (written.Transition r) = is_new (transition_names net) r.name
is_new_name net w = true

-- the fact, or the tokens of the row, were not declared before
abbrev pub is_new_row : List Decl → Begun → Written → Bool
is_new_row net begun (written.Fact rel row) = fact_is_new begun row (number_of (relation_names net) rel)
is_new_row net begun (written.Token place many row) = token_is_new begun row (control_number net place)
is_new_row net begun w = true

-- no list of names has one twice
abbrev pub lists_once : Written → Bool
lists_once (written.Relation name fields) = once (map (λ f. f.0) fields)
lists_once (written.Key rel fields) = once fields
lists_once (written.Foreign rel fields to to_fields) = once fields && once to_fields
lists_once (written.Always name body) = quantifies_once body
lists_once (written.Query name vars body) = once (scope_names vars) && quantifies_once body
lists_once (written.Action name params deletes adds) = once (scope_names params)
lists_once (written.Transition r) = transition_once r
lists_once w = true
