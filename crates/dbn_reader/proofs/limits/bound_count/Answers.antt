use Rattle.std.proofs.Common.{length, ap, ◌∙◌}
use Rattle.dbn_reader.proofs.ShortLaws.{bound_length}
use Rattle.dbn_reader.proofs.limits.bound_count.Goals as goal

pub returns : goal.returns
returns c = c.len.ensures ∙ ap length c.in_ok-bound.ensures ∙ bound_length c.args.net.now c.args.inputs.now
