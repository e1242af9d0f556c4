use Rattle.dbn_plan.proofs.StepLaws.{open_after}
use Rattle.dbn_plan.proofs.TopLaws.{query_columns, projection_ends}
use Rattle.dbn_plan.proofs.top.in_order.Goals as goal

pub projected-requires-clause-open : goal.projected-requires-clause-open
projected-requires-clause-open g c = open_after c.args.network.now c.behind_unit.new.network c.in_ok-made.ensures.grown c.requires.open

pub projected-requires-clause-there : goal.projected-requires-clause-there
projected-requires-clause-there g c = query_columns c.args.vars.now c.args.form.now c.in_ok-made.made.labels c.args.wanted.now c.requires.occurring c.in_ok-made.ensures.columns c.requires.wanted

pub returns : goal.returns
returns g c = record {
  mid = c.behind_unit.new.network;
  inner = c.in_ok-made.made.node;
  inner_labels = c.in_ok-made.made.labels;
  rooted = c.in_ok-made.ensures;
  shown = c.in_ok-node.ensures.shown;
  ends = projection_ends c.projected.new.network c.args.vars.now c.in_ok-node.node c.in_ok-node.ensures.kept;
}
