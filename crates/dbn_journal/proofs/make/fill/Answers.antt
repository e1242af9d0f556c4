use Rattle.std.proofs.Common.{◌<◌, List, ℕ, length, take, IsTrue, ap, subst, sym, ◌∙◌}
use Rattle.std.specs.Option.{option_map}
use Rattle.dbn_disk.specs.Disk.{Only, written}
use Rattle.dbn_journal.proofs.Makes.{filling_cut, filling_work, filled_written}
use Rattle.dbn_journal.proofs.make.fill.Goals as goal

pub returns-in_err-cut-clause-any_moment : goal.returns-in_err-cut-clause-any_moment
returns-in_err-cut-clause-any_moment g c b told honest =
    let old = g.D.Disk.state c.args.disk.now in
    let mid = g.D.Disk.state c.cut.new.self in
    filling_cut old mid mid (g.met.D.Disk.sound c.args.disk.now honest) (c.requires.shut b told honest) (c.cut.ensures.time honest) (c.cut.ensures.crash honest)

pub returns-in_err-write_through-clause-any_moment : goal.returns-in_err-write_through-clause-any_moment
returns-in_err-write_through-clause-any_moment g c b told honest =
    let old = g.D.Disk.state c.args.disk.now in
    let mid = g.D.Disk.state c.cut.new.self in
    let new = g.D.Disk.state c.write_through.new.disk in
    let honest_mid = subst IsTrue (sym c.cut.ensures.keeps.honest) honest in
    filling_work old mid new (g.met.D.Disk.sound c.args.disk.now honest) (c.requires.shut b told honest) (c.cut.ensures.time honest) (c.cut.ensures.crash honest) _ (c.write_through.ensures.any_moment honest_mid)

pub returns-clause-any_moment : goal.returns-clause-any_moment
returns-clause-any_moment g c b told honest =
    let old = g.D.Disk.state c.args.disk.now in
    let mid = g.D.Disk.state c.cut.new.self in
    let new = g.D.Disk.state c.write_through.new.disk in
    let honest_mid = subst IsTrue (sym c.cut.ensures.keeps.honest) honest in
    filling_work old mid new (g.met.D.Disk.sound c.args.disk.now honest) (c.requires.shut b told honest) (c.cut.ensures.time honest) (c.cut.ensures.crash honest) _ (c.write_through.ensures.any_moment honest_mid)

pub returns-clause-durable : goal.returns-clause-durable
returns-clause-durable g c b told honest =
    let honest_mid = subst IsTrue (sym c.cut.ensures.keeps.honest) honest in
    let some : 0 < length b = (c.requires.shut b told honest b ((g.met.D.Disk.sound c.args.disk.now honest).held b told)).there in
    let last = c.in_ok-write_through.ensures.value ∙ ap (option_map (written 1 c.args.rest.now)) (c.in_ok-cut.ensures.value ∙ ap (option_map (take 1)) told) in
    subst (λ (l : List ℕ). Only l (g.D.Disk.state c.write_through.new.disk).image) (filled_written c.args.rest.now b some) (c.in_ok-write_through.ensures.durable _ honest_mid last)
