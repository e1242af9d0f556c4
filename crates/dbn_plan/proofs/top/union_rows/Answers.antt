use Rattle.std.proofs.Common.{refl}
use Rattle.dbn_formula.specs.declared.formula.Formula.TheVariants.{Or}
use Rattle.dbn_plan.proofs.RoomLaws.{unit_placed}
use Rattle.dbn_plan.proofs.TopLaws.{root_ready}
use Rattle.dbn_plan.proofs.UnionLaws.{wanted_labels, union_finished}
use Rattle.dbn_plan.proofs.top.union_rows.Goals as goal

pub any_of-requires-clause-placed : goal.any_of-requires-clause-placed
any_of-requires-clause-placed g c = unit_placed c.args.network.now c.args.sources.now c.args.sources.now.unit c.new.result c.requires.sources refl c.new.ensures

pub any_of-requires-clause-ready : goal.any_of-requires-clause-ready
any_of-requires-clause-ready g c = root_ready (g.P.Coder.cell_of c.args.coder.now) c.args.network.now.rels (Or c.args.parts.now) c.new.result c.new.ensures c.requires.ready

pub any_of-requires-clause-labels : goal.any_of-requires-clause-labels
any_of-requires-clause-labels g c = wanted_labels c.args.parts.now c.args.vars.now c.new.result c.args.wanted.now c.new.ensures c.requires.wanted c.requires.occurring c.requires.bound

pub returns : goal.returns
returns g c =
    union_finished (g.P.Coder.cell_of c.args.coder.now) c.args.sources.now.consts c.args.parts.now c.args.vars.now c.args.network.now c.any_of.new.network c.args.sources.now c.args.sources.now.unit c.new.result c.in_ok-node.node c.args.wanted.now
    c.requires.sources refl c.new.ensures (wanted_labels c.args.parts.now c.args.vars.now c.new.result c.args.wanted.now c.new.ensures c.requires.wanted c.requires.occurring c.requires.bound) c.in_ok-node.ensures.made (c.in_ok-node.ensures.kept c.requires.several)
