use Rattle.std.proofs.Common.{◌++◌, ◌∙◌, [], take, sym, ap}
use Rattle.std.specs.List.{cons_option}
use Rattle.std.specs.Option.{option_copied}
use Rattle.dbn_value.specs.Picked.{picked}
use Rattle.dbn_nodes.specs.Stands.{firsts}
use Rattle.dbn_nodes.proofs.RowLaws.{one_pair}
use Rattle.dbn_nodes.proofs.rows.left_key.Goals as goal

pub loop-pair-preserved : goal.loop-pair-preserved
loop-pair-preserved g c =
    c.in_ok-push_cell.ensures
    ∙ ap (λ xs. xs ++ cons_option (option_copied c.get.result) []) c.loop-pair.invariant
    ∙ ap (λ x. picked (firsts (take c.loop-pair.pair-index c.args.on.now)) c.args.row.now ++ cons_option x []) c.get.ensures
    ∙ sym (one_pair (λ p. p.0) c.args.on.now c.args.row.now c.loop-pair.pair-index (0, 0) c.loop-pair-test.true)
