use Rattle.std.proofs.Common.{[], ap, sym, ◌∙◌, subst}
use Rattle.std.specs.Prelude.{IfSome}
use Rattle.dbn_plan.specs.Answering.{var_labels, Finished}
use Rattle.dbn_plan.specs.Making.{IsReady}
use Rattle.dbn_plan.proofs.StepLaws.{open_after}
use Rattle.dbn_plan.proofs.TopLaws.{planned_made}
use Rattle.dbn_plan.proofs.top.plan.Goals as goal

pub relation_itself-requires-clause-open : goal.relation_itself-requires-clause-open
relation_itself-requires-clause-open g c = open_after c.args.network.now c.first_sources.new.network c.in_ok-sources.ensures.made.grown c.requires.open

pub relation_itself-requires-clause-ready : goal.relation_itself-requires-clause-ready
relation_itself-requires-clause-ready g c = subst (λ rs. IsReady (g.P.Coder.cell_of c.args.coder.now) rs [] c.args.form.now) (sym c.in_ok-sources.ensures.made.grown.rels) c.requires.ready

pub relation_itself-requires-clause-wanted : goal.relation_itself-requires-clause-wanted
relation_itself-requires-clause-wanted g c = c.in_ok-wanted.ensures ∙ ap var_labels c.as_slice.ensures

pub query_rows-requires-clause-open : goal.query_rows-requires-clause-open
query_rows-requires-clause-open g c = open_after c.args.network.now c.first_sources.new.network c.in_ok-sources.ensures.made.grown c.requires.open

pub query_rows-requires-clause-ready : goal.query_rows-requires-clause-ready
query_rows-requires-clause-ready g c = subst (λ rs. IsReady (g.P.Coder.cell_of c.args.coder.now) rs [] c.args.form.now) (sym c.in_ok-sources.ensures.made.grown.rels) c.requires.ready

pub query_rows-requires-clause-wanted : goal.query_rows-requires-clause-wanted
query_rows-requires-clause-wanted g c = c.in_ok-wanted.ensures ∙ ap var_labels c.as_slice.ensures

pub returns-in-Some : goal.returns-in-Some
returns-in-Some g c =
    planned_made (g.P.Coder.cell_of c.args.coder.now) c.args.form.now c.args.vars.now c.args.consts c.args.network.now c.first_sources.new.network c.first_sources.new.network c.in_ok-sources.sources c.in_ok-wanted.wanted c.in-Some.scan
    c.requires.consts c.in_ok-sources.ensures.consts c.requires.occurring c.in_ok-sources.ensures.made (c.in_ok-wanted.ensures ∙ ap var_labels c.as_slice.ensures)
    (subst (λ found. IfSome found (λ node. Finished g.P.Cell.Ord.cmp g.P.Cell.Cell.int_of (g.P.Coder.cell_of c.args.coder.now) c.in_ok-sources.sources.consts c.args.form.now c.args.vars.now c.first_sources.new.network c.first_sources.new.network node c.in_ok-wanted.wanted)) c.in-Some.is c.in_ok-whole.ensures)

pub returns : goal.returns
returns g c =
    planned_made (g.P.Coder.cell_of c.args.coder.now) c.args.form.now c.args.vars.now c.args.consts c.args.network.now c.first_sources.new.network c.query_rows.new.network c.in_ok-sources.sources c.in_ok-wanted.wanted c.in_ok-node-in-None.node
    c.requires.consts c.in_ok-sources.ensures.consts c.requires.occurring c.in_ok-sources.ensures.made (c.in_ok-wanted.ensures ∙ ap var_labels c.as_slice.ensures) c.in_ok-node-in-None.ensures
