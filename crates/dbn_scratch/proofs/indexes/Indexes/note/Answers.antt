use Rattle.dbn_scratch.proofs.IndexLaws.{kept_put, kept_made}
use Rattle.dbn_scratch.proofs.indexes.Indexes.note.Goals as goal

pub invariant_of-self-2 : goal.invariant_of-self-2
invariant_of-self-2 c =
    kept_put c.self.inside.instance.now c.self.inside.kept.entries c.insert.new.self.entries c.args.spot c.in_ok-index.index (λ q. c.in_ok-insert.ensures.updates.0 q)
    (kept_made c.self.inside.instance.now c.args.spot c.in_ok-index.index c.row_set-rows.result.now.keys c.as_slice-2.result.now c.in_ok-index.ensures c.row_set-rows.ensures c.as_slice-2.ensures.value)
    c.self.invariant
