-- What a well-formed net gives each of its transitions.
use Rattle.std.specs.Prelude.{◌≡◌, ℕ, true, List, Some, slice_get}
use Rattle.dbn_formula.specs.Distinct.{distinct_vars}
use Rattle.dbn_instance.specs.declared.fact.Action.{Action}
use Rattle.dbn_net.specs.declared.decl.Decl.{Decl}
use Rattle.dbn_net.specs.declared.rules.Transition.{Transition}
use Rattle.dbn_net.specs.Tables.{actions}
use Rattle.dbn_net.specs.WellFormed.{Fits, facts_known}

-- its own parts fit; each action names each of its parameters once, and deletes facts of relations that there are
pub record Stands (net : List Decl) (t : Transition) : Type 0 where
  pub fits : Fits net t
  pub once : (n : ℕ) (a : Action) → slice_get (actions net) n ≡ Some a → distinct_vars a.params ≡ true
  pub deletes : (n : ℕ) (a : Action) → slice_get (actions net) n ≡ Some a → facts_known net a.deletes ≡ true
