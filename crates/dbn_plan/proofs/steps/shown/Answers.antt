use Rattle.std.proofs.Common.{◌∙◌, sym}
use Rattle.dbn_plan.proofs.StepsMade.{shown_same}
use Rattle.dbn_plan.proofs.steps.shown.Goals as goal

pub returns-then-same_terms : goal.returns-then-same_terms
returns-then-same_terms g c =
    shown_same g.C.Ord.cmp g.C.Cell.int_of c.args.network.now c.args.node c.args.labels.now c.args.wanted.now c.requires.placed
    (sym c.as_slice.ensures ∙ c.same_terms.ensures c.if-same_terms.true ∙ c.as_slice-2.ensures)
