use Rattle.std.proofs.Common.{◌≡◌, ◌∙◌, [], ◌<◌, sym, subst, length, true, false}
use Rattle.std.specs.Prelude.{slice_index_or}
use Rattle.dbn_plan.specs.Filling.{has_type}
use Rattle.dbn_plan.proofs.MadeLaws.{union_fits}
use Rattle.dbn_plan.proofs.StepLaws.{open_after, placed_after}
use Rattle.dbn_plan.proofs.RoomLaws.{more_none, more_made}
use Rattle.dbn_plan.proofs.room.or_row.Goals as goal

pub has_column_at-requires : goal.has_column_at-requires
has_column_at-requires g c = subst (λ rs. c.args.rel < length rs) (sym (c.as_slice.ensures ∙ c.rels.ensures)) c.requires.range

pub add-requires-clause-live : goal.add-requires-clause-live
add-requires-clause-live g c = (open_after c.args.network.now c.rowed.new.network c.in_ok-right.ensures.grown c.requires.open).live

pub add-requires-clause-fits : goal.add-requires-clause-fits
add-requires-clause-fits g c = union_fits c.rowed.new.network c.args.before [] c.in_ok-right.right (placed_after c.args.network.now c.rowed.new.network c.args.before [] c.in_ok-right.ensures.grown c.requires.placed) c.in_ok-right.ensures.placed

pub returns-then-has_column_at : goal.returns-then-has_column_at
returns-then-has_column_at g c =
    more_made g.P.Cell.Ord.cmp g.P.Cell.Cell.int_of (g.P.Coder.cell_of c.args.coder.now) c.args.sources.now.consts c.args.rel c.args.of_type c.args.network.now c.rowed.new.network c.add.new.self c.args.before c.in_ok-right.right c.in_ok-made.made
    c.requires.placed (subst (λ rs. has_type c.args.of_type (slice_index_or rs c.args.rel []) ≡ true) (c.as_slice.ensures ∙ c.rels.ensures) (sym c.has_column_at.ensures ∙ c.if-has_column_at.true)) c.in_ok-right.ensures c.in_ok-made.ensures.ok c.in_ok-made.ensures.number

pub returns : goal.returns
returns g c =
    more_none g.P.Cell.Ord.cmp g.P.Cell.Cell.int_of (g.P.Coder.cell_of c.args.coder.now) c.args.sources.now.consts c.args.rel c.args.of_type c.args.network.now c.args.before
    c.requires.placed (subst (λ rs. has_type c.args.of_type (slice_index_or rs c.args.rel []) ≡ false) (c.as_slice.ensures ∙ c.rels.ensures) (sym c.has_column_at.ensures ∙ c.if-has_column_at.false))
