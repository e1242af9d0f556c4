use Rattle.std.proofs.Common.{rules, arith, ◌≡◌, ◌+◌, ◌<◌, ◌≤◌, ◌∷◌, true, false, drop, length}
use Rattle.dbn_value.specs.declared.value.Value.{Value}
use Rattle.dbn_formula.specs.Holds.{some_choice, every_choice, holds_over}
use Rattle.dbn_scratch.specs.Envs.{env_of}
use Rattle.dbn_scratch.specs.Given.{kept_of, row_of}
use Rattle.dbn_scratch.proofs.TurnLaws.{any_found, any_passed, any_ended, all_failed, all_passed, all_ended, some_first, every_first}
use Rattle.dbn_scratch.proofs.listing.+holds.Goals as goal

pub some_choice-loop-value-init : goal.some_choice-loop-value-init
some_choice-loop-value-init t c =
    let below : c.args.at < length c.args.vars.now = omega arith in
    let values : row_of c.as_slice-value-items.result.now ≡ kept_of c.args.world.now.domains.now c.index-vars-at.result.1 = search rules in
    some_first (kept_of c.args.world.now.domains.now) c.args.vars.now c.args.at c.index-vars-at.result (holds_over (kept_of c.args.world.now.domains.now) c.args.world.now.instance.now c.args.body.now) (env_of c.args.env.now)
    (row_of c.as_slice-value-items.result.now) below c.index-vars-at.is values

pub some_choice-loop-value-preserved : goal.some_choice-loop-value-preserved
some_choice-loop-value-preserved t c =
    let inner : false ≡ some_choice (kept_of c.args.world.now.domains.now) (drop (c.args.at + 1) c.args.vars.now) (holds_over (kept_of c.args.world.now.domains.now) c.args.world.now.instance.now c.args.body.now) ((c.index-vars-at.result.0, c.value-item.result.now) ∷ env_of c.args.env.now) = search rules in
    any_passed (λ (v : Value). some_choice (kept_of c.args.world.now.domains.now) (drop (c.args.at + 1) c.args.vars.now) (holds_over (kept_of c.args.world.now.domains.now) c.args.world.now.instance.now c.args.body.now) ((c.index-vars-at.result.0, v) ∷ env_of c.args.env.now)) (λ v. v.now) c.as_slice-value-items.result.now c.loop-value.value-index (some_choice (kept_of c.args.world.now.domains.now) (drop c.args.at c.args.vars.now) (holds_over (kept_of c.args.world.now.domains.now) c.args.world.now.instance.now c.args.body.now) (env_of c.args.env.now))
    c.value-item.result c.loop-value.invariant c.loop-value-test.true c.value-item.is inner

pub some_choice-returns-then-branch : goal.some_choice-returns-then-branch
some_choice-returns-then-branch t c =
    let inner : true ≡ some_choice (kept_of c.args.world.now.domains.now) (drop (c.args.at + 1) c.args.vars.now) (holds_over (kept_of c.args.world.now.domains.now) c.args.world.now.instance.now c.args.body.now) ((c.index-vars-at.result.0, c.value-item.result.now) ∷ env_of c.args.env.now) = search rules in
    any_found (λ (v : Value). some_choice (kept_of c.args.world.now.domains.now) (drop (c.args.at + 1) c.args.vars.now) (holds_over (kept_of c.args.world.now.domains.now) c.args.world.now.instance.now c.args.body.now) ((c.index-vars-at.result.0, v) ∷ env_of c.args.env.now)) (λ v. v.now) c.as_slice-value-items.result.now c.loop-value.value-index (some_choice (kept_of c.args.world.now.domains.now) (drop c.args.at c.args.vars.now) (holds_over (kept_of c.args.world.now.domains.now) c.args.world.now.instance.now c.args.body.now) (env_of c.args.env.now))
    c.value-item.result c.loop-value.invariant c.loop-value-test.true c.value-item.is inner

pub some_choice-returns : goal.some_choice-returns
some_choice-returns t c =
    let past : length c.as_slice-value-items.result.now ≤ c.loop-value.value-index = omega arith in
    any_ended (λ (v : Value). some_choice (kept_of c.args.world.now.domains.now) (drop (c.args.at + 1) c.args.vars.now) (holds_over (kept_of c.args.world.now.domains.now) c.args.world.now.instance.now c.args.body.now) ((c.index-vars-at.result.0, v) ∷ env_of c.args.env.now)) (λ v. v.now) c.as_slice-value-items.result.now c.loop-value.value-index (some_choice (kept_of c.args.world.now.domains.now) (drop c.args.at c.args.vars.now) (holds_over (kept_of c.args.world.now.domains.now) c.args.world.now.instance.now c.args.body.now) (env_of c.args.env.now))
    c.loop-value.invariant past

pub every_choice-loop-value-init : goal.every_choice-loop-value-init
every_choice-loop-value-init t c =
    let below : c.args.at < length c.args.vars.now = omega arith in
    let values : row_of c.as_slice-value-items.result.now ≡ kept_of c.args.world.now.domains.now c.index-vars-at.result.1 = search rules in
    every_first (kept_of c.args.world.now.domains.now) c.args.vars.now c.args.at c.index-vars-at.result (holds_over (kept_of c.args.world.now.domains.now) c.args.world.now.instance.now c.args.body.now) (env_of c.args.env.now)
    (row_of c.as_slice-value-items.result.now) below c.index-vars-at.is values

pub every_choice-loop-value-preserved : goal.every_choice-loop-value-preserved
every_choice-loop-value-preserved t c =
    let inner : true ≡ every_choice (kept_of c.args.world.now.domains.now) (drop (c.args.at + 1) c.args.vars.now) (holds_over (kept_of c.args.world.now.domains.now) c.args.world.now.instance.now c.args.body.now) ((c.index-vars-at.result.0, c.value-item.result.now) ∷ env_of c.args.env.now) = search rules in
    all_passed (λ (v : Value). every_choice (kept_of c.args.world.now.domains.now) (drop (c.args.at + 1) c.args.vars.now) (holds_over (kept_of c.args.world.now.domains.now) c.args.world.now.instance.now c.args.body.now) ((c.index-vars-at.result.0, v) ∷ env_of c.args.env.now)) (λ v. v.now) c.as_slice-value-items.result.now c.loop-value.value-index (every_choice (kept_of c.args.world.now.domains.now) (drop c.args.at c.args.vars.now) (holds_over (kept_of c.args.world.now.domains.now) c.args.world.now.instance.now c.args.body.now) (env_of c.args.env.now))
    c.value-item.result c.loop-value.invariant c.loop-value-test.true c.value-item.is inner

pub every_choice-returns-then-not-branch : goal.every_choice-returns-then-not-branch
every_choice-returns-then-not-branch t c =
    let inner : false ≡ every_choice (kept_of c.args.world.now.domains.now) (drop (c.args.at + 1) c.args.vars.now) (holds_over (kept_of c.args.world.now.domains.now) c.args.world.now.instance.now c.args.body.now) ((c.index-vars-at.result.0, c.value-item.result.now) ∷ env_of c.args.env.now) = search rules in
    all_failed (λ (v : Value). every_choice (kept_of c.args.world.now.domains.now) (drop (c.args.at + 1) c.args.vars.now) (holds_over (kept_of c.args.world.now.domains.now) c.args.world.now.instance.now c.args.body.now) ((c.index-vars-at.result.0, v) ∷ env_of c.args.env.now)) (λ v. v.now) c.as_slice-value-items.result.now c.loop-value.value-index (every_choice (kept_of c.args.world.now.domains.now) (drop c.args.at c.args.vars.now) (holds_over (kept_of c.args.world.now.domains.now) c.args.world.now.instance.now c.args.body.now) (env_of c.args.env.now))
    c.value-item.result c.loop-value.invariant c.loop-value-test.true c.value-item.is inner

pub every_choice-returns : goal.every_choice-returns
every_choice-returns t c =
    let past : length c.as_slice-value-items.result.now ≤ c.loop-value.value-index = omega arith in
    all_ended (λ (v : Value). every_choice (kept_of c.args.world.now.domains.now) (drop (c.args.at + 1) c.args.vars.now) (holds_over (kept_of c.args.world.now.domains.now) c.args.world.now.instance.now c.args.body.now) ((c.index-vars-at.result.0, v) ∷ env_of c.args.env.now)) (λ v. v.now) c.as_slice-value-items.result.now c.loop-value.value-index (every_choice (kept_of c.args.world.now.domains.now) (drop c.args.at c.args.vars.now) (holds_over (kept_of c.args.world.now.domains.now) c.args.world.now.instance.now c.args.body.now) (env_of c.args.env.now))
    c.loop-value.invariant past
