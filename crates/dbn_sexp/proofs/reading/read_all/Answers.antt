use Rattle.dbn_sexp.proofs.DepthLaws.{gives_within}
use Rattle.dbn_sexp.proofs.reading.read_all.Goals as goal

pub returns-clause-within : goal.returns-clause-within
returns-clause-within c = gives_within c.args.depth c.args.bytes.now c.read_text.result c.read_text.ensures
