use Rattle.std.proofs.Common.{◌≡◌, [], take}
use Rattle.std.specs.List.{filter}
use Rattle.dbn_value.specs.Scope.{bind}
use Rattle.dbn_formula.specs.Holds.{holds_over}
use Rattle.dbn_scratch.specs.Given.{kept_of, rows_of}
use Rattle.dbn_scratch.proofs.listing.rows_that_hold.Given as goal

abbrev pub invariant-loop-row : goal.invariant-loop-row
invariant-loop-row l = l.made ≡ filter (λ row. holds_over (kept_of l.world.domains.now) l.world.instance.now l.f (bind l.vars row [])) (rows_of (take l.row-index l.rows))
