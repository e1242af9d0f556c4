use Rattle.std.proofs.Common.{◌∙◌}
use Rattle.dbn_reader.proofs.TermLaws.{free_are_used}
use Rattle.dbn_reader.proofs.binding.are_free.Goals as goal

pub returns : goal.returns
returns c =
    free_are_used c.are_used.result c.args.vars.now c.as_slice.result.now c.args.body.now (c.as_slice.ensures ∙ c.in_ok-used.ensures) c.are_used.ensures
