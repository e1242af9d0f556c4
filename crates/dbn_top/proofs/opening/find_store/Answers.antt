use Rattle.std.proofs.Common.{cond, refl, sym, subst}
use Rattle.dbn_keeper.specs.Files.{folder}
use Rattle.dbn_twofile.specs.Resting.{two_cursor}
use Rattle.dbn_top.specs.Keepers.{IsWhy}
use Rattle.dbn_top.specs.Starts.{found_in}
use Rattle.dbn_top.specs.declared.opening.OpenFault.{OpenFault}
use Rattle.dbn_top.proofs.Keepers.{why_found}
use Rattle.dbn_top.proofs.Pairs.{sides_of, over_found, shows_found}
use Rattle.dbn_top.proofs.opening.find_store.Goals as goal

pub returns-in-Ok-clause-over : goal.returns-in-Ok-clause-over
returns-in-Ok-clause-over g c =
    let k = c.in-Ok.keeper in
    over_found (two_cursor k.form k.base k.generation k.file_bytes k.live k.records k.place k.at_end k.swapped) _ _ _ _ (g.D.Disk.state c.args.a) (g.D.Disk.state c.args.b)
    (sides_of {X = g.row.D.Denot} (g.D.Disk.state) k.swapped k.chosen k.other (cond k.swapped k.other k.chosen) (cond k.swapped k.chosen k.other) refl refl) c.in-Ok.ensures.disk_a c.in-Ok.ensures.disk_b c.in-Ok.ensures.faults

pub returns-in-Ok-clause-only : goal.returns-in-Ok-clause-only
returns-in-Ok-clause-only g c =
    let k = c.in-Ok.keeper in
    shows_found (two_cursor k.form k.base k.generation k.file_bytes k.live k.records k.place k.at_end k.swapped) _ _ _ _ (g.D.Disk.state c.args.a) (g.D.Disk.state c.args.b)
    (sides_of {X = g.row.D.Denot} (g.D.Disk.state) k.swapped k.chosen k.other (cond k.swapped k.other k.chosen) (cond k.swapped k.chosen k.other) refl refl) c.in-Ok.ensures.disk_a c.in-Ok.ensures.disk_b

pub returns-in-Err-clause-why : goal.returns-in-Err-clause-why
returns-in-Err-clause-why g c x y told_x told_y =
    subst (λ (why : OpenFault). IsWhy why (found_in c.args.limits.now.file_bytes (folder x y))) (sym c.not_found-why.ensures)
    (why_found c.in-Err.found.why c.args.limits.now.file_bytes (folder x y) (λ e. c.in-Err.ensures.not_made e x y told_x told_y) (λ e. c.in-Err.ensures.not_a_store e x y told_x told_y))
