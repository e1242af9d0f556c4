-- What a net never exceeds.
use Rattle.std.specs.Prelude.{ℕ, ◌≤◌, List, length}
use Rattle.dbn_net.specs.declared.rules.Transition.{Transition}
use Rattle.dbn_net.specs.declared.decl.Decl.{Decl}
use Rattle.dbn_net.specs.Tables.{relations, queries, actions, places, transitions, columns, relation_shapes, query_shapes, action_shapes, place_shapes}
use Rattle.dbn_net.specs.Sentences.{labelled_sentences}

-- at most 65,535 of each kind; keys, foreign keys and `always` count together, and so do all places
pub record IsSmallNet (net : List Decl) : Type 0 where
  pub of_relations : length (relations net) ≤ 65535
  pub of_sentences : length (labelled_sentences net) ≤ 65535
  pub of_queries : length (queries net) ≤ 65535
  pub of_actions : length (actions net) ≤ 65535
  pub of_places : length (places net) ≤ 65535
  pub of_transitions : length (transitions net) ≤ 65535

-- at most 16 columns, query variables and parameters
pub record HasFewColumns (net : List Decl) : Type 0 where
  pub of_relation : (n : ℕ) → length (columns (relation_shapes net) n) ≤ 16
  pub of_query : (n : ℕ) → length (columns (query_shapes net) n) ≤ 16
  pub of_action : (n : ℕ) → length (columns (action_shapes net) n) ≤ 16
  pub of_place : (n : ℕ) → length (columns (place_shapes net) n) ≤ 16

-- at most 64 bound, 16 asked and 16 fresh variables
pub record HasFewVariables (t : Transition) : Type 0 where
  pub of_bound : length t.bound ≤ 64
  pub of_asked : length t.asked ≤ 16
  pub of_fresh : length t.fresh ≤ 16
