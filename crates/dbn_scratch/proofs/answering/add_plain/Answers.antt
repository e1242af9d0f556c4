use Rattle.std.proofs.Common.{rules, ◌≡◌, map, take, ap, sym, ◌∙◌}
use Rattle.std.specs.BTreeSet.{insert_key}
use Rattle.dbn_value.specs.Ascending.{ascending}
use Rattle.dbn_value.specs.Order.{row_cmp, rows_total, exact_rows}
use Rattle.dbn_value.proofs.AscendingLaws.{ascending_push}
use Rattle.dbn_formula.specs.Holds.{lookup}
use Rattle.dbn_scratch.specs.Envs.{env_of}
use Rattle.dbn_scratch.proofs.LoopLaws.{map_step}
use Rattle.dbn_scratch.proofs.answering.add_plain.Goals as goal

pub loop-env-preserved : goal.loop-env-preserved
loop-env-preserved c =
    let row = map (λ x. lookup (env_of c.env-item.result.items) x.0) c.args.vars.now in
    let is : c.insert.new.self.keys ≡ insert_key row_cmp c.loop-env.set.keys (map (λ x. lookup (env_of c.env-item.result.items) x.0) c.args.vars.now) = search rules in
    is ∙ ap (λ ks. insert_key row_cmp ks row) c.loop-env.invariant
    ∙ sym (ascending_push rows_total exact_rows row (map (λ e. map (λ x. lookup (env_of e.items) x.0) c.args.vars.now) (take c.loop-env.env-index c.args.envs.now)))
    ∙ ap (ascending row_cmp) (map_step (λ e. map (λ x. lookup (env_of e.items) x.0) c.args.vars.now) c.args.envs.now c.loop-env.env-index c.env-item.result c.loop-env-test.true c.env-item.is)
