use Rattle.dbn_keeper.proofs.Makings.{synced}
use Rattle.dbn_keeper.proofs.reading.settle.Goals as goal

pub returns-in_err-sync-clause-leaves : goal.returns-in_err-sync-clause-leaves
returns-in_err-sync-clause-leaves g c honest =
    synced (g.D.Disk.state c.args.disk.now) (g.D.Disk.state c.sync.new.self) (g.met.D.Disk.sound c.args.disk.now honest) (c.sync.ensures.time honest) (c.sync.ensures.crash honest)
