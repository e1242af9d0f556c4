use Rattle.std.proofs.Common.{◌∷◌, ◌++◌, map, ap, ◌∙◌}
use Rattle.dbn_scratch.specs.Given.{row_of}
use Rattle.dbn_scratch.proofs.LoopLaws.{flat_step}
use Rattle.dbn_scratch.proofs.domains.extended.Goals as goal

pub loop-value-preserved : goal.loop-value-preserved
loop-value-preserved c =
    c.in_ok-add_behind.ensures
    ∙ ap (λ r. r ++ map (λ row. c.value-item.result.now ∷ row_of row.items) c.args.rows.now) c.loop-value.invariant
    ∙ flat_step (λ v. map (λ row. v.now ∷ row_of row.items) c.args.rows.now) c.args.column.now c.loop-value.value-index c.value-item.result c.loop-value-test.true c.value-item.is
