use Rattle.dbn_sexp.proofs.ReadLaws.{ended_open}
use Rattle.dbn_sexp.proofs.reading.Reader.end.Goals as goal

pub returns : goal.returns
returns c =
    let same = c.as_slice.ensures in
    let first = rw same at c.outermost-item.is in
    let some = rw same at c.in-len1-up.len_at_least in
    ended_open c.args.self.open_lists c.outermost-item.result c.args.self.items some first
