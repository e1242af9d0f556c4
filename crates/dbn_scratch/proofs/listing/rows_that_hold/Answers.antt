use Rattle.std.proofs.Common.{rules, ◌≡◌, ◌++◌, [], ◌∷◌, if◌then◌else◌}
use Rattle.dbn_value.specs.Scope.{bind}
use Rattle.dbn_formula.specs.Holds.{holds_over}
use Rattle.dbn_scratch.specs.Given.{kept_of, row_of}
use Rattle.dbn_scratch.proofs.TurnLaws.{kept_row}
use Rattle.dbn_scratch.proofs.listing.rows_that_hold.Goals as goal

pub loop-row-preserved : goal.loop-row-preserved
loop-row-preserved c =
    let wanted : c.in_ok-wanted.wanted ≡ holds_over (kept_of c.args.world.now.domains.now) c.args.world.now.instance.now c.args.f.now (bind c.args.vars.now (row_of c.row-item.result.items) []) = search rules in
    let grown : c.keep_row.new.out ≡ c.loop-row.made ++ (if c.in_ok-wanted.wanted then row_of c.row-item.result.items ∷ [] else []) = search rules in
    kept_row (λ row. holds_over (kept_of c.args.world.now.domains.now) c.args.world.now.instance.now c.args.f.now (bind c.args.vars.now row [])) c.args.rows.now c.loop-row.row-index c.row-item.result
    c.in_ok-wanted.wanted c.loop-row.made c.keep_row.new.out c.loop-row.invariant c.loop-row-test.true c.row-item.is wanted grown
