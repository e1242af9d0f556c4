use Rattle.std.proofs.Common.{◌≡◌, ◌∙◌, sym, subst, true, false}
use Rattle.dbn_plan.specs.Filling.{has_value}
use Rattle.dbn_plan.specs.Making.{Placed}
use Rattle.dbn_plan.proofs.StepLaws.{open_after, placed_after, sources_after}
use Rattle.dbn_plan.proofs.RoomLaws.{filled_written, filled_made}
use Rattle.dbn_plan.proofs.room.filled.Goals as goal

pub returns-then-has_value : goal.returns-then-has_value
returns-then-has_value g c =
    filled_written g.P.Cell.Ord.cmp g.P.Cell.Cell.int_of (g.P.Coder.cell_of c.args.coder.now) c.args.sources.now.consts c.args.network.now c.args.at.now.node c.args.at.now.labels c.args.of_type c.requires.placed
    (subst (λ vs. has_value c.args.of_type vs ≡ true) c.as_slice.ensures (sym c.has_value.ensures ∙ c.if-has_value.true))

pub joined-requires-clause-open : goal.joined-requires-clause-open
joined-requires-clause-open g c = open_after c.args.network.now c.any_row.new.network c.in_ok-some.ensures.grown c.requires.open

pub joined-requires-clause-placed : goal.joined-requires-clause-placed
joined-requires-clause-placed g c = placed_after c.args.network.now c.any_row.new.network c.args.at.now.node c.args.at.now.labels c.in_ok-some.ensures.grown c.requires.placed

pub joined-requires-clause-other : goal.joined-requires-clause-other
joined-requires-clause-other g c = subst (Placed c.any_row.new.network c.in_ok-some.some) (sym c.new-none.ensures) c.in_ok-some.ensures.placed

pub joined-requires-clause-sources : goal.joined-requires-clause-sources
joined-requires-clause-sources g c = sources_after c.args.network.now c.any_row.new.network c.args.sources.now c.in_ok-some.ensures.grown c.requires.sources

pub returns : goal.returns
returns g c =
    filled_made g.P.Cell.Ord.cmp g.P.Cell.Cell.int_of (g.P.Coder.cell_of c.args.coder.now) c.args.sources.now.consts c.args.network.now c.any_row.new.network c.joined.new.network c.args.at.now.node c.args.at.now.labels c.args.of_type
    c.in_ok-some.some c.new-none.result c.in_ok-made.made.node c.in_ok-made.made.labels c.requires.placed
    (subst (λ vs. has_value c.args.of_type vs ≡ false) c.as_slice.ensures (sym c.has_value.ensures ∙ c.if-has_value.false)) c.in_ok-some.ensures c.new-none.ensures c.in_ok-made.ensures
