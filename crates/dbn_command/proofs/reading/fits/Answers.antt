use Rattle.std.proofs.Common.{◌∙◌, ap, sym}
use Rattle.dbn_command.specs.Lines.{has_shape}
use Rattle.dbn_command.proofs.ReadLaws.{shape_test, columns_at}
use Rattle.dbn_command.proofs.reading.fits.Goals as goal

pub returns-in-Some : goal.returns-in-Some
returns-in-Some c =
    let row = c.args.member.now.row in
    shape_test c.has_shape.result row c.in-Some.shape.now c.has_shape.ensures
    ∙ ap (has_shape row) (sym (columns_at c.args.shapes.now c.args.member.now.t c.in-Some.shape.now (sym c.in-Some.ensures.value)))
