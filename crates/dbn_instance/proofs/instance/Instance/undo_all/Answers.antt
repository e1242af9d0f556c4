use Rattle.std.proofs.Common.{arith, ◌≡◌, ◌<◌, ◌+◌, ◌-◌, ◌∙◌, not, ap, sym, length}
use Rattle.dbn_instance.proofs.FactLaws.{on_err, stopped_at}
use Rattle.dbn_instance.proofs.instance.Instance.undo_all.Goals as goal

pub returns-in_err-put-clause-err : goal.returns-in_err-put-clause-err
returns-in_err-put-clause-err g c =
    let at = length c.args.changes.now - 1 - c.loop-done.done in
    let next = length c.args.changes.now - c.loop-done.done in
    let within : at < length c.args.changes.now = omega arith in
    let after : at + 1 ≡ next = omega arith in
    on_err c.from_residual.result (
      at,
      stopped_at g.C.Ord.cmp c.args.changes.now at next c.index-changes-changes.result c.args.self.now c.put.new.self
          within after c.index-changes-changes.is (ap not (sym c.comes.ensures) ∙ c.in_err-put.ensures.room) (c.in_err-put.ensures.err ∙ c.loop-done.invariant.back),
    )
