use Rattle.std.proofs.Common.{sym, ◌∙◌}
use Rattle.std.proofs.lemmas.Bool.{true≢false}
use Rattle.dbn_keeper.specs.Files.{folder}
use Rattle.dbn_top.proofs.Keepers.{over_same, only_same, stays_from, keeps_from}
use Rattle.dbn_top.proofs.opening.open_parts.Goals as goal

pub returns-in-Ok-open_over-clause-runs : goal.returns-in-Ok-open_over-clause-runs
returns-in-Ok-open_over-clause-runs g c x y told_x told_y = c.in-Ok-open_over.ensures.begins (folder x y) c.args.limits.now.file_bytes (c.in-Ok.ensures.over.held x y told_x told_y) c.in-Ok.ensures.fresh.3

pub returns-in-Ok-open_over-clause-over : goal.returns-in-Ok-open_over-clause-over
returns-in-Ok-open_over-clause-over g c = over_same _ _ _ _ c.in-Ok.ensures.over c.open_over.ensures.keeps c.open_over.ensures.files c.in-Ok-open_over.ensures.calm

pub returns-in-Ok-open_over-clause-only : goal.returns-in-Ok-open_over-clause-only
returns-in-Ok-open_over-clause-only g c = only_same _ _ _ _ c.in-Ok.ensures.over c.open_over.ensures.files c.in-Ok.ensures.only

pub returns-in-Ok-open_over-clause-store : goal.returns-in-Ok-open_over-clause-store
returns-in-Ok-open_over-clause-store g c x y told_x told_y = c.open_over.ensures.store (folder x y) (c.in-Ok.ensures.over.held x y told_x told_y)

pub returns-in-Err-open_over-clause-why : goal.returns-in-Err-open_over-clause-why
returns-in-Err-open_over-clause-why g c x y told_x told_y = c.in-Err-open_over.ensures.why (folder x y) c.args.limits.now.file_bytes (c.in-Ok.ensures.over.held x y told_x told_y)

pub returns-in-Err-open_over-clause-stays : goal.returns-in-Err-open_over-clause-stays
returns-in-Err-open_over-clause-stays g c =
    stays_from _ _ (g.D.Disk.state c.args.a) (g.D.Disk.state c.args.b) (g.D.Disk.state c.disks_of-a.result.0) (g.D.Disk.state c.disks_of-a.result.1) c.in-Ok.ensures.over c.disks_of-a.ensures.over c.open_over.ensures.keeps c.in-Ok.ensures.only c.disks_of-a.ensures.all c.open_over.ensures.files

pub returns-in-Err-open_over-clause-bytes : goal.returns-in-Err-open_over-clause-bytes
returns-in-Err-open_over-clause-bytes g c x y told_x told_y none = absurd (true≢false (sym (c.open_over.ensures.store (folder x y) (c.in-Ok.ensures.over.held x y told_x told_y)) ∙ none))

pub returns-in-Err-open_over-clause-keeps : goal.returns-in-Err-open_over-clause-keeps
returns-in-Err-open_over-clause-keeps g c =
    keeps_from _ _ (g.D.Disk.state c.args.a) (g.D.Disk.state c.args.b) (g.D.Disk.state c.disks_of-a.result.0) (g.D.Disk.state c.disks_of-a.result.1) c.in-Ok.ensures.over c.disks_of-a.ensures.over c.open_over.ensures.keeps _ c.open_over.ensures.later c.in-Err-open_over.ensures.calm_err
