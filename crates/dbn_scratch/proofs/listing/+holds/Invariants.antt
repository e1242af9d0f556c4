use Rattle.std.proofs.Common.{◌≡◌, ◌∷◌, ◌+◌, ◌-◌, length, drop, sum_by}
use Rattle.std.specs.List.{list_any, list_all}
use Rattle.dbn_formula.specs.Weight.{weight}
use Rattle.dbn_formula.specs.Holds.{some_choice, every_choice, holds_over}
use Rattle.dbn_scratch.specs.Envs.{env_of}
use Rattle.dbn_scratch.specs.Given.{kept_of, row_of}
use Rattle.dbn_scratch.proofs.listing.+holds.Given as goal

abbrev pub decreases-holds_at : goal.decreases-holds_at
decreases-holds_at l = weight l.f.now

abbrev pub decreases-all_hold : goal.decreases-all_hold
decreases-all_hold l = sum_by weight l.parts.now + 1

abbrev pub decreases-any_holds : goal.decreases-any_holds
decreases-any_holds l = sum_by weight l.parts.now + 1

abbrev pub decreases-some_choice : goal.decreases-some_choice
decreases-some_choice l = weight l.body.now + (length l.vars.now - l.at) + 1

abbrev pub decreases-every_choice : goal.decreases-every_choice
decreases-every_choice l = weight l.body.now + (length l.vars.now - l.at) + 1

abbrev pub invariant-all_hold-loop-part : goal.invariant-all_hold-loop-part
invariant-all_hold-loop-part l =
    list_all (λ f. holds_over (kept_of l.world.domains.now) l.world.instance.now f (env_of l.env)) l.parts
    ≡ list_all (λ f. holds_over (kept_of l.world.domains.now) l.world.instance.now f (env_of l.env)) (drop l.part-index l.parts)

abbrev pub invariant-any_holds-loop-part : goal.invariant-any_holds-loop-part
invariant-any_holds-loop-part l =
    list_any (λ f. holds_over (kept_of l.world.domains.now) l.world.instance.now f (env_of l.env)) l.parts
    ≡ list_any (λ f. holds_over (kept_of l.world.domains.now) l.world.instance.now f (env_of l.env)) (drop l.part-index l.parts)

abbrev pub invariant-some_choice-loop-value : goal.invariant-some_choice-loop-value
invariant-some_choice-loop-value l =
    some_choice (kept_of l.world.domains.now) (drop l.at l.vars) (holds_over (kept_of l.world.domains.now) l.world.instance.now l.body) (env_of l.env)
    ≡ list_any (λ v. some_choice (kept_of l.world.domains.now) (drop (l.at + 1) l.vars) (holds_over (kept_of l.world.domains.now) l.world.instance.now l.body) ((l.var.0, v) ∷ env_of l.env)) (row_of (drop l.value-index l.value-items))

abbrev pub invariant-every_choice-loop-value : goal.invariant-every_choice-loop-value
invariant-every_choice-loop-value l =
    every_choice (kept_of l.world.domains.now) (drop l.at l.vars) (holds_over (kept_of l.world.domains.now) l.world.instance.now l.body) (env_of l.env)
    ≡ list_all (λ v. every_choice (kept_of l.world.domains.now) (drop (l.at + 1) l.vars) (holds_over (kept_of l.world.domains.now) l.world.instance.now l.body) ((l.var.0, v) ∷ env_of l.env)) (row_of (drop l.value-index l.value-items))
