use Rattle.std.proofs.Common.{◌≡◌, ◌<◌, ◌∙◌, refl, sym, subst, ap, length, arith}
use Rattle.dbn_plan.specs.Filling.{AnyMade}
use Rattle.dbn_plan.proofs.StepLaws.{open_after, sources_after}
use Rattle.dbn_plan.proofs.RoomLaws.{unit_placed, any_start, any_step}
use Rattle.dbn_plan.proofs.room.any_row.Goals as goal

pub nothing-requires-clause-placed : goal.nothing-requires-clause-placed
nothing-requires-clause-placed g c = unit_placed c.args.network.now c.args.sources.now c.args.sources.now.unit c.new.result c.requires.sources refl c.new.ensures

pub loop-rel-init : goal.loop-rel-init
loop-rel-init g c =
    any_start g.P.Cell.Ord.cmp g.P.Cell.Cell.int_of (g.P.Coder.cell_of c.args.coder.now) c.args.sources.now.consts c.args.network.now c.nothing.new.network c.args.sources.now.unit c.new.result c.args.of_type c.in_ok-made.made c.args.sources.now c.new.ensures refl c.requires.sources c.in_ok-made.ensures

pub or_row-requires-clause-open : goal.or_row-requires-clause-open
or_row-requires-clause-open g c = open_after c.args.network.now c.loop-rel.network c.loop-rel.invariant.grown c.requires.open

pub or_row-requires-clause-placed : goal.or_row-requires-clause-placed
or_row-requires-clause-placed g c = c.loop-rel.invariant.placed

pub or_row-requires-clause-sources : goal.or_row-requires-clause-sources
or_row-requires-clause-sources g c = sources_after c.args.network.now c.loop-rel.network c.args.sources.now c.loop-rel.invariant.grown c.requires.sources

pub or_row-requires-clause-range : goal.or_row-requires-clause-range
or_row-requires-clause-range g c =
    subst (λ rs. c.loop-rel.rel < length rs) (sym c.loop-rel.invariant.grown.rels) (subst (λ n. c.loop-rel.rel < n) (c.len-count.ensures ∙ ap length c.rels.ensures) c.loop-rel-test.true)

pub loop-rel-preserved : goal.loop-rel-preserved
loop-rel-preserved g c =
    any_step g.P.Cell.Ord.cmp g.P.Cell.Cell.int_of (g.P.Coder.cell_of c.args.coder.now) c.args.sources.now.consts c.args.network.now c.loop-rel.network c.or_row.new.network c.args.of_type c.loop-rel.rel c.loop-rel.made c.in_ok-more.more
    (subst (λ n. c.loop-rel.rel < n) (c.len-count.ensures ∙ ap length c.rels.ensures) c.loop-rel-test.true) c.loop-rel.invariant c.in_ok-more.ensures

pub returns : goal.returns
returns g c =
    let count : c.len-count.result ≡ length c.args.network.now.rels = c.len-count.ensures ∙ ap length c.rels.ensures in
    let past = c.loop-rel-test.false in
    let upto = c.loop-rel.auto.rel-end in
    let whole : c.loop-rel.rel ≡ length c.args.network.now.rels = omega (arith, count, past, upto) in
    subst (λ n. AnyMade g.P.Cell.Ord.cmp g.P.Cell.Cell.int_of (g.P.Coder.cell_of c.args.coder.now) c.args.sources.now.consts c.args.of_type n c.args.network.now c.loop-rel.network c.loop-rel.made) whole c.loop-rel.invariant
