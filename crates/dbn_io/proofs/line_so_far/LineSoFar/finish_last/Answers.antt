use Rattle.std.proofs.Common.{◌<◌, length, sym, ◌∙◌}
use Rattle.dbn_model.proofs.LineLaws.{lines-only}
use Rattle.dbn_io.proofs.line_so_far.LineSoFar.finish_last.Goals as goal

pub returns : goal.returns
returns c = λ bytes unbroken holds.
    let some : 0 < length bytes = c.is_empty.ensures.some bytes holds c.if-is_empty.false in
    (c.finish.ensures.line bytes holds ∙ sym (lines-only bytes unbroken some), λ _. some)
