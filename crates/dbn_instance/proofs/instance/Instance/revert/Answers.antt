use Rattle.std.proofs.Common.{rules, ◌≡◌, OnOk}
use Rattle.dbn_instance.specs.Facts.{taken_back}
use Rattle.dbn_instance.proofs.FactLaws.{reverted}
use Rattle.dbn_instance.proofs.instance.Instance.revert.Goals as goal

pub returns-clause-back : goal.returns-clause-back
returns-clause-back g c =
    let done : OnOk c.undo_all.result (c.undo_all.new.self ≡ taken_back g.C.Ord.cmp c.args.changes.now c.args.self.now) = search rules in
    reverted g.met.C.Ord.total g.met.C.Cell.exact c.undo_all.result c.args.changes.now c.args.self.now c.undo_all.new.self c.requires done
