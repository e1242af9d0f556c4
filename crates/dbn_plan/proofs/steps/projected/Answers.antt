use Rattle.std.proofs.Common.{sym, subst}
use Rattle.dbn_value.specs.Members.{In}
use Rattle.dbn_plan.proofs.StepsMade.{project_fits, shown_made, projection_made, labelled_as}
use Rattle.dbn_plan.proofs.steps.projected.Goals as goal

pub columns_of-requires : goal.columns_of-requires
columns_of-requires g c a at = subst (In a) (sym c.as_slice.ensures) (c.requires.there a (subst (In a) c.as_slice-2.ensures at))

pub add-requires-clause-fits : goal.add-requires-clause-fits
add-requires-clause-fits g c =
    project_fits c.args.network.now c.args.node c.args.labels.now c.in_ok-cols.cols c.args.wanted.now c.requires.placed
    (labelled_as c.args.labels.now c.args.wanted.now c.as_slice.result.now c.as_slice-2.result.now c.in_ok-cols.cols c.as_slice.ensures c.as_slice-2.ensures c.in_ok-cols.ensures)

pub returns-clause-shown : goal.returns-clause-shown
returns-clause-shown g c =
    shown_made g.C.Ord.cmp g.C.Cell.int_of c.args.network.now c.add.new.self c.args.node c.args.labels.now c.args.wanted.now c.in_ok-cols.cols c.in_ok-made.made c.requires.placed
    (labelled_as c.args.labels.now c.args.wanted.now c.as_slice.result.now c.as_slice-2.result.now c.in_ok-cols.cols c.as_slice.ensures c.as_slice-2.ensures c.in_ok-cols.ensures)
    c.in_ok-made.ensures.ok c.in_ok-made.ensures.number

pub returns-clause-kept : goal.returns-clause-kept
returns-clause-kept g c = projection_made c.args.network.now c.add.new.self c.args.node c.in_ok-cols.cols c.in_ok-made.made c.in_ok-made.ensures.ok c.in_ok-made.ensures.number
