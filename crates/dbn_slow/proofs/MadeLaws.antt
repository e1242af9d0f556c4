-- Firings by the number of a transition, and what the parts of one make together.
use Rattle.std.proofs.Common.{◌≡◌, ℕ, ◌+◌, Bool, cond, List, sym, ap, ◌∙◌, subst, Option, Some, None, Result, Ok, Err, length}
use Rattle.std.specs.Prelude.{slice_get}
use Rattle.std.specs.Option.{option_map_or}
use Rattle.dbn_value.specs.Scope.{Env}
use Rattle.dbn_value.specs.declared.value.Value.{Value}
use Rattle.dbn_formula.specs.Holds.{Instance}
use Rattle.dbn_net.specs.declared.decl.Decl.{Decl}
use Rattle.dbn_net.specs.declared.rules.Transition.{Transition}
use Rattle.dbn_net.specs.declared.snapshot.Snapshot.{Snapshot}
use Rattle.dbn_net.specs.Tables.{transitions}
use Rattle.dbn_net.specs.Values.{Marking}
use Rattle.dbn_net.specs.Enabled.{bound_env}
use Rattle.dbn_core.specs.declared.outcome.Fired.{Fired}
use Rattle.dbn_core.specs.declared.outcome.Refusal.{Refusal}
use Rattle.dbn_core.specs.declared.outcome.Refusal.TheVariants.{Disabled, CountLimit}
use Rattle.dbn_core.specs.declared.outcome.FireFault.{FireFault}
use Rattle.dbn_core.specs.declared.outcome.FireFault.TheVariants.{Refused, Memory}
use Rattle.dbn_core.specs.Moves.{first_over}
use Rattle.dbn_core.specs.Fire.{Firing, moved, called, commits, after_fire, told, outcome_of, refusal, fire_env, fire_in, fire_as, fire, fire_at, refusal_at}
use Rattle.dbn_core.specs.Answers.{Tells}
use Rattle.dbn_slow.specs.Makes.{Makes}
use Rattle.dbn_slow.specs.declared.firing.Made.{Made}

-- ---- what the parts make together

abbrev state_of : Transition → Snapshot → Instance → Marking → Snapshot
state_of t s instance marking = record { instance = instance; marking = marking; next = s.next + length t.fresh; fired = s.fired + 1 }

abbrev limited : Fired → Snapshot → Option ℕ → Firing
limited f s found = option_map_or (λ place. Err (CountLimit place)) found (Ok (f, s))

pub made : (net : List Decl) (t : Transition) (s : Snapshot) (row : List Value) (env : Env) (committed : Bool) (instance : Instance) (marking : Marking)
    → committed ≡ commits net env t.call s.instance → instance ≡ (cond committed (called net env t.call s.instance) s.instance)
    → marking ≡ moved t (bound_env t row) env committed s.marking → first_over (moved t (bound_env t row) env committed s.marking) ≡ None
    → fire_as net t s row env ≡ Ok (record { outcome = outcome_of committed; first = s.next; many = length t.fresh }, record { instance = instance; marking = marking; next = s.next + length t.fresh; fired = s.fired + 1 })
made net t s row env committed instance marking is facts tokens none =
    ap (fire_in net t s row env) (sym is)
    ∙ ap (limited (told t s committed) (after_fire net t s row env committed)) none
    ∙ ap (λ db. Ok (told t s committed, state_of t s db (moved t (bound_env t row) env committed s.marking))) (sym facts)
    ∙ ap (λ m. Ok (told t s committed, state_of t s instance m)) (sym tokens)

pub limit : (net : List Decl) (t : Transition) (s : Snapshot) (row : List Value) (env : Env) (committed : Bool) (place : ℕ)
    → committed ≡ commits net env t.call s.instance → first_over (moved t (bound_env t row) env committed s.marking) ≡ Some place → fire_as net t s row env ≡ Err (CountLimit place)
limit net t s row env committed place is over =
    ap (fire_in net t s row env) (sym is) ∙ ap (limited (told t s committed) (after_fire net t s row env committed)) over

-- ---- by the number of the transition

abbrev refused_as : Option Refusal → Firing → Firing
refused_as why rest = option_map_or (λ w. Err w) why rest

abbrev numbered : List Decl → Snapshot → List Value → Option Transition → Firing
numbered net s row found = option_map_or (λ t. fire net t s row) found (Err Disabled)

pub not_fired : (net : List Decl) (s : Snapshot) (n : ℕ) (t : Transition) (row : List Value) (fault : FireFault) → slice_get (transitions net) n ≡ Some t
    → Tells (refusal net t s row) (Err fault) → Makes (fire_at net s n row) (Err fault)
not_fired net s n t row (Refused why) is tells = ap (numbered net s row) is ∙ ap (λ found. refused_as found (fire_as net t s row (fire_env t row s.next))) tells
not_fired net s n t row Memory is tells = tt

pub was_made : (net : List Decl) (s : Snapshot) (n : ℕ) (t : Transition) (row : List Value) (result : Result Made FireFault) → slice_get (transitions net) n ≡ Some t
    → refusal net t s row ≡ None → Makes (fire_as net t s row (fire_env t row s.next)) result → Makes (fire_at net s n row) result
was_made net s n t row result is none makes =
    subst (λ declared. Makes declared result) (sym (ap (numbered net s row) is ∙ ap (λ found. refused_as found (fire_as net t s row (fire_env t row s.next))) none)) makes

abbrev told_at : List Decl → Snapshot → List Value → Option Transition → Option Refusal
told_at net s row found = option_map_or (λ t. refusal net t s row) found (Some Disabled)

pub tells_at : (net : List Decl) (s : Snapshot) (n : ℕ) (t : Transition) (row : List Value) (result : Result (Unit {0}) FireFault) → slice_get (transitions net) n ≡ Some t
    → Tells (refusal net t s row) result → Tells (refusal_at net s n row) result
tells_at net s n t row result is tells = subst (λ declared. Tells declared result) (sym (ap (told_at net s row) is)) tells
