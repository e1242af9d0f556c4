use Rattle.std.proofs.Common.{[], ◌∙◌, refl, subst, length}
use Rattle.dbn_plan.specs.Columns.{HaveCells}
use Rattle.dbn_plan.proofs.TopLaws.{query_ready, query_occurs, query_bound, planned_answers, few_nodes}
use Rattle.dbn_plan.proofs.EasedPlans.{eased_cells, eased_ready, eased_occurs, eased_bound, eased_planned}
use Rattle.dbn_plan.proofs.top.compile.Goals as goal

pub plan-requires-clause-ready : goal.plan-requires-clause-ready
plan-requires-clause-ready g c =
    eased_ready (g.P.Coder.cell_of c.put_all.new.coder) c.in_ok-form.form c.in_ok-whole.whole c.in_ok-form.ensures c.args.network.now.rels []
    (query_ready c.args.network.now.rels c.args.vars.now c.args.f.now c.requires.accepted (g.P.Coder.cell_of c.put_all.new.coder) c.in_ok-whole.whole c.in_ok-whole.ensures
    (eased_cells (g.P.Coder.cell_of c.put_all.new.coder) c.in_ok-form.form c.in_ok-whole.whole c.in_ok-form.ensures
    (subst (HaveCells (g.P.Coder.cell_of c.put_all.new.coder)) (c.as_slice.ensures ∙ c.in_ok-consts.ensures) c.in_ok-put_all.ensures.cells)))

pub plan-requires-clause-occurring : goal.plan-requires-clause-occurring
plan-requires-clause-occurring g c =
    eased_occurs c.in_ok-form.form c.in_ok-whole.whole c.args.vars.now c.in_ok-form.ensures (query_occurs c.args.network.now.rels c.args.vars.now c.args.f.now c.requires.accepted c.in_ok-whole.whole c.in_ok-whole.ensures)

pub plan-requires-clause-bound : goal.plan-requires-clause-bound
plan-requires-clause-bound g c =
    eased_bound c.in_ok-form.form c.in_ok-whole.whole c.args.vars.now c.in_ok-form.ensures (query_bound c.args.network.now.rels c.args.vars.now c.args.f.now c.requires.accepted c.in_ok-whole.whole c.in_ok-whole.ensures)

pub returns-clause-answers : goal.returns-clause-answers
returns-clause-answers g c =
    planned_answers (g.P.Coder.cell_of c.put_all.new.coder) c.args.network.now.rels c.args.vars.now c.args.f.now c.in_ok-whole.whole c.args.network.now c.plan.new.network c.in_ok-node.node c.requires.accepted refl c.in_ok-whole.ensures
    (eased_planned (g.P.Coder.cell_of c.put_all.new.coder) c.in_ok-form.form c.in_ok-whole.whole c.args.vars.now c.args.network.now c.plan.new.network c.in_ok-node.node c.in_ok-form.ensures c.in_ok-node.ensures)

pub returns-clause-range : goal.returns-clause-range
returns-clause-range g c = c.in_ok-node.ensures.ends.there

pub returns-clause-direct : goal.returns-clause-direct
returns-clause-direct g c = c.in_ok-node.ensures.ends.direct

pub returns-clause-counted : goal.returns-clause-counted
returns-clause-counted g c = c.in_ok-node.ensures.ends.counted

pub returns-clause-few : goal.returns-clause-few
returns-clause-few g c =
    few_nodes c.args.network.now.rels c.args.f.now c.in_ok-whole.whole (length c.args.network.now.nodes) (length c.plan.new.network.nodes) c.in_ok-whole.ensures
    (eased_planned (g.P.Coder.cell_of c.put_all.new.coder) c.in_ok-form.form c.in_ok-whole.whole c.args.vars.now c.args.network.now c.plan.new.network c.in_ok-node.node c.in_ok-form.ensures c.in_ok-node.ensures).few
