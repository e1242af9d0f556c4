use Rattle.std.proofs.Common.{rules, ◌≡◌, ◌++◌, take, ap, ◌∙◌}
use Rattle.std.specs.List.{flat_map}
use Rattle.dbn_value.specs.Ascending.{ascending}
use Rattle.dbn_value.specs.Order.{row_cmp}
use Rattle.dbn_scratch.specs.Envs.{env_of}
use Rattle.dbn_scratch.specs.Given.{rows_given, kept_of, rows_of}
use Rattle.dbn_scratch.proofs.LoopLaws.{flat_step}
use Rattle.dbn_scratch.proofs.answering.add_products.Goals as goal

pub loop-env-preserved : goal.loop-env-preserved
loop-env-preserved c =
    let given = flat_map (λ e. rows_given (kept_of c.args.domains.now) c.args.vars.now (env_of e.items)) (take c.loop-env.env-index c.args.envs.now) in
    let made : rows_of c.in_ok-rows.rows ≡ rows_given (kept_of c.args.domains.now) c.args.vars.now (env_of c.env-item.result.items) = search rules in
    c.in_ok-add_rows.ensures given c.loop-env.invariant
    ∙ ap (λ rows. ascending row_cmp (given ++ rows_of rows)) c.as_slice-in-loop-env-2.ensures ∙ ap (λ rows. ascending row_cmp (given ++ rows)) made
    ∙ ap (ascending row_cmp) (flat_step (λ e. rows_given (kept_of c.args.domains.now) c.args.vars.now (env_of e.items)) c.args.envs.now c.loop-env.env-index c.env-item.result c.loop-env-test.true c.env-item.is)
