use Rattle.std.proofs.Common.{refl, sym, subst, ◌∙◌}
use Rattle.dbn_value.proofs.MemberLaws.{append_right}
use Rattle.dbn_formula.specs.Free.{occurrences}
use Rattle.dbn_formula.specs.declared.formula.Formula.TheVariants.{And}
use Rattle.dbn_plan.specs.Meaning.{vars_of}
use Rattle.dbn_plan.specs.Making.{IsReady}
use Rattle.dbn_plan.specs.Answering.{Finished}
use Rattle.dbn_plan.specs.Referring.{lacking}
use Rattle.dbn_plan.proofs.StepLaws.{open_after, placed_after, sources_after}
use Rattle.dbn_plan.proofs.RoomLaws.{unit_placed}
use Rattle.dbn_plan.proofs.SplitLaws.{first_ready, second_ready, second_within, within_left}
use Rattle.dbn_plan.proofs.DeniedLaws.{behind_ready, denied_grown, denied_columns, wanted_var, lacking_finished}
use Rattle.dbn_plan.proofs.TopLaws.{query_columns}
use Rattle.dbn_plan.proofs.referring.rows_without.Goals as goal

pub all_parts-requires-clause-placed : goal.all_parts-requires-clause-placed
all_parts-requires-clause-placed g c = unit_placed c.args.network.now c.args.sources.now c.args.sources.now.unit c.new.result c.requires.sources refl c.new.ensures

pub all_parts-requires-clause-ready : goal.all_parts-requires-clause-ready
all_parts-requires-clause-ready g c =
    subst (λ ls. IsReady (g.P.Coder.cell_of c.args.coder.now) c.args.network.now.rels (vars_of ls) (And c.args.front.now)) (sym c.new.ensures)
    (first_ready c.args.front.now c.args.right.now (g.P.Coder.cell_of c.args.coder.now) c.args.network.now.rels c.requires.ready)

pub denied_rows-requires-clause-open : goal.denied_rows-requires-clause-open
denied_rows-requires-clause-open g c = open_after c.args.network.now c.all_parts.new.network c.in_ok-first.ensures.grown c.requires.open

pub denied_rows-requires-clause-sources : goal.denied_rows-requires-clause-sources
denied_rows-requires-clause-sources g c = sources_after c.args.network.now c.all_parts.new.network c.args.sources.now c.in_ok-first.ensures.grown c.requires.sources

pub denied_rows-requires-clause-ready : goal.denied_rows-requires-clause-ready
denied_rows-requires-clause-ready g c =
    behind_ready (g.P.Coder.cell_of c.args.coder.now) c.args.network.now.rels c.all_parts.new.network.rels c.args.front.now c.args.right.now c.new.result c.in_ok-first.first.labels c.in_ok-first.ensures.grown.rels c.new.ensures c.in_ok-first.ensures.labelled
    (second_ready c.args.front.now c.args.right.now (g.P.Coder.cell_of c.args.coder.now) c.args.network.now.rels c.requires.ready)

pub difference-requires-clause-left : goal.difference-requires-clause-left
difference-requires-clause-left g c =
    placed_after c.all_parts.new.network c.denied_rows.new.network c.in_ok-first.first.node c.in_ok-first.first.labels
    (denied_grown (g.P.Coder.cell_of c.args.coder.now) c.args.sources.now.consts c.args.right.now c.args.vars.now c.all_parts.new.network c.denied_rows.new.network c.args.sources.now.unit c.new.result c.in_ok-first.first.node c.in_ok-first.first.labels c.in_ok-second.second.node c.in_ok-second.second.labels c.in_ok-second.ensures)
    c.in_ok-first.ensures.placed

pub difference-requires-clause-in_left : goal.difference-requires-clause-in_left
difference-requires-clause-in_left g c =
    query_columns c.args.vars.now (lacking c.args.front.now c.args.right.now) c.in_ok-first.first.labels c.in_ok-columns.columns c.requires.occurring
    (λ x here. c.in_ok-first.ensures.labelled.bound.back x (append_right x (vars_of c.new.result) (occurrences (And c.args.front.now)) (within_left c.args.front.now c.args.right.now (second_within c.args.front.now c.args.right.now (g.P.Coder.cell_of c.args.coder.now) c.args.network.now.rels c.requires.ready) x here)))
    (c.in_ok-columns.ensures ∙ c.requires.wanted)

pub difference-requires-clause-in_right : goal.difference-requires-clause-in_right
difference-requires-clause-in_right g c =
    denied_columns (g.P.Coder.cell_of c.args.coder.now) c.args.sources.now.consts c.args.right.now c.args.vars.now c.all_parts.new.network c.denied_rows.new.network c.args.sources.now.unit c.new.result c.in_ok-first.first.node c.in_ok-first.first.labels c.in_ok-second.second.node c.in_ok-second.second.labels c.in_ok-second.ensures
    c.in_ok-columns.columns
    (λ x b. c.in_ok-first.ensures.labelled.bound.back x (append_right x (vars_of c.new.result) (occurrences (And c.args.front.now)) (within_left c.args.front.now c.args.right.now (second_within c.args.front.now c.args.right.now (g.P.Coder.cell_of c.args.coder.now) c.args.network.now.rels c.requires.ready) x (c.requires.occurring x b))))
    (c.in_ok-columns.ensures ∙ c.requires.wanted)

pub returns : goal.returns
returns g c =
    let e = c.in_ok-columns.ensures ∙ c.requires.wanted in
    subst (λ ws. Finished g.P.Cell.Ord.cmp g.P.Cell.Cell.int_of (g.P.Coder.cell_of c.args.coder.now) c.args.sources.now.consts (lacking c.args.front.now c.args.right.now) c.args.vars.now c.args.network.now c.difference.new.network c.in_ok-less.less.node ws) c.in_ok-columns.ensures
    (lacking_finished (g.P.Coder.cell_of c.args.coder.now) c.args.sources.now.consts c.args.vars.now c.args.front.now c.args.right.now c.args.network.now c.all_parts.new.network c.denied_rows.new.network c.difference.new.network c.args.sources.now c.args.sources.now.unit c.new.result
    c.in_ok-first.first.node c.in_ok-first.first.labels c.in_ok-second.second.node c.in_ok-second.second.labels c.in_ok-less.less.node c.in_ok-columns.columns c.requires.sources refl c.new.ensures
    (λ x here. wanted_var c.args.vars.now c.in_ok-columns.columns e x (c.requires.bound x here)) c.in_ok-first.ensures c.in_ok-less.ensures.made c.in_ok-second.ensures c.in_ok-less.ensures.kept e (λ none. c.requires.some (sym c.in_ok-columns.ensures ∙ none)))
