-- The firing rule: a firing is a refusal, or what is told of it with the snapshot after it.
use Rattle.std.specs.Prelude.{ℕ, ◌+◌, ◌^◌, ◌==◌, Bool, true, false, not, nat_lt, if◌then◌else◌, List, [], ◌∷◌, ◌++◌, map, length, Option, Some, None, Result, Ok, Err, slice_get}
use Rattle.std.specs.Option.{option_map_or}
use Rattle.dbn_value.specs.Order.{value_cmp}
use Rattle.dbn_value.specs.Scope.{Env, bind, value_of}
use Rattle.dbn_value.specs.declared.value.Value.{Value}
use Rattle.dbn_value.specs.declared.value.Value.TheVariants.{Id}
use Rattle.dbn_value.specs.declared.term.Var.{Var}
use Rattle.dbn_formula.specs.Holds.{Instance}
use Rattle.dbn_instance.specs.Facts.{after_action}
use Rattle.dbn_instance.specs.Grounding.{grounded}
use Rattle.dbn_instance.specs.declared.fact.Action.{Action}
use Rattle.dbn_net.specs.declared.decl.Decl.{Decl}
use Rattle.dbn_net.specs.declared.rules.Arc.{Arc}
use Rattle.dbn_net.specs.declared.rules.Call.{Call}
use Rattle.dbn_net.specs.declared.rules.Transition.{Transition}
use Rattle.dbn_net.specs.declared.snapshot.Snapshot.{Snapshot}
use Rattle.dbn_net.specs.Tables.{actions, transitions, scope_of}
use Rattle.dbn_net.specs.Sentences.{consistent}
use Rattle.dbn_net.specs.Values.{Marking, ids_below}
use Rattle.dbn_net.specs.Wants.{wants}
use Rattle.dbn_net.specs.Enabled.{asked_part, bound_env, enabled}
use Rattle.dbn_core.specs.declared.outcome.Outcome.{Outcome}
use Rattle.dbn_core.specs.declared.outcome.Outcome.TheVariants.{Committed, RolledBack}
use Rattle.dbn_core.specs.declared.outcome.Fired.{Fired}
use Rattle.dbn_core.specs.declared.outcome.Refusal.{Refusal}
use Rattle.dbn_core.specs.declared.outcome.Refusal.TheVariants.{Disabled, UnknownId, FreshEnd, FiringEnd, CountLimit}
use Rattle.dbn_core.specs.Moves.{taken_all, given_all, first_over}

-- ---- values of the variables

-- fresh variables get the ids from the next one on
abbrev pub fresh_values : ℕ → List Var → List Value
fresh_values next [] = []
fresh_values next (x ∷ vars) = Id next ∷ fresh_values (next + 1) vars

-- the values of all variables: those of the row that is given, and then the fresh ids
abbrev pub scope_values : Transition → List Value → ℕ → List Value
scope_values t row next = row ++ fresh_values next t.fresh

abbrev pub fire_env : Transition → List Value → ℕ → Env
fire_env t row next = bind (scope_of t) (scope_values t row next) []

-- ---- the action

-- what an action makes of the instance: the deleted facts go, and then the added ones come
abbrev pub performed : Action → List Value → Instance → Instance
performed a args db = after_action value_cmp (grounded a.params args a.deletes) (grounded a.params args a.adds) db

abbrev pub acted : List Decl → Env → Call → Instance → Instance
acted net env c db = option_map_or (λ a. performed a (map (value_of env) c.args) db) (slice_get (actions net) c.action) db

-- the same of the call of an action, where there is one
abbrev pub called : List Decl → Env → Option Call → Instance → Instance
called net env call db = option_map_or (λ c. acted net env c db) call db

-- there is no action, or what it makes is consistent
abbrev pub commits : List Decl → Env → Option Call → Instance → Bool
commits net env call db = option_map_or (λ c. consistent net (acted net env c db)) call true

-- ---- tokens

-- the clauses that produce
abbrev pub produced : Transition → Bool → List Arc
produced t true = t.outs
produced t false = t.backs

-- the tokens of the `in` clauses go, and then those that are produced come
abbrev pub moved : Transition → Env → Env → Bool → Marking → Marking
moved t bound env committed marking = given_all value_cmp (wants env (produced t committed)) (taken_all value_cmp (wants bound t.ins) marking)

-- ---- what a firing leaves, and what is told of it

abbrev pub after_fire : List Decl → Transition → Snapshot → List Value → Env → Bool → Snapshot
after_fire net t s row env committed = record {
  instance = if committed then called net env t.call s.instance else s.instance;
  marking = moved t (bound_env t row) env committed s.marking;
  next = s.next + length t.fresh;
  fired = s.fired + 1;
}

abbrev pub outcome_of : Bool → Outcome
outcome_of true = Committed
outcome_of false = RolledBack

abbrev pub told : Transition → Snapshot → Bool → Fired
told t s committed = record { outcome = outcome_of committed; first = s.next; many = length t.fresh }

-- ---- refusals

-- the tests before a firing, in their order
abbrev pub refusals : List Decl → Transition → Snapshot → List Value → List (Bool × Refusal)
refusals net t s row =
    (not (enabled net t s.instance s.marking row), Disabled)
    ∷ (not (ids_below s.next (asked_part t row)), UnknownId)
    ∷ (nat_lt (2 ^ 62) (s.next + length t.fresh), FreshEnd)
    ∷ (s.fired == 2 ^ 62, FiringEnd)
    ∷ []

abbrev pub first_met : List (Bool × Refusal) → Option Refusal
first_met [] = None
first_met (test ∷ tests) = if test.0 then Some test.1 else first_met tests

-- the first test that is met refuses the firing
abbrev pub refusal : List Decl → Transition → Snapshot → List Value → Option Refusal
refusal net t s row = first_met (refusals net t s row)

-- ---- a firing

abbrev pub Firing : Type 0
Firing = Result (Fired × Snapshot) Refusal

-- unless a count would pass its limit
abbrev pub within_counts : Fired → Snapshot → Firing
within_counts f s = option_map_or (λ place. Err (CountLimit place)) (first_over s.marking) (Ok (f, s))

abbrev pub fire_in : List Decl → Transition → Snapshot → List Value → Env → Bool → Firing
fire_in net t s row env committed = within_counts (told t s committed) (after_fire net t s row env committed)

abbrev pub fire_as : List Decl → Transition → Snapshot → List Value → Env → Firing
fire_as net t s row env = fire_in net t s row env (commits net env t.call s.instance)

abbrev pub fire : List Decl → Transition → Snapshot → List Value → Firing
fire net t s row = option_map_or (λ why. Err why) (refusal net t s row) (fire_as net t s row (fire_env t row s.next))

-- ---- by the number of the transition; one out of range is never enabled

abbrev pub fire_at : List Decl → Snapshot → ℕ → List Value → Firing
fire_at net s n row = option_map_or (λ t. fire net t s row) (slice_get (transitions net) n) (Err Disabled)

abbrev pub refusal_at : List Decl → Snapshot → ℕ → List Value → Option Refusal
refusal_at net s n row = option_map_or (λ t. refusal net t s row) (slice_get (transitions net) n) (Some Disabled)
