use Rattle.std.proofs.Common.{[], sym, ap, ◌∙◌}
use Rattle.dbn_net.specs.Tables.{relation_in, relations}
use Rattle.dbn_writer.proofs.NameLaws.{mapped_at}
use Rattle.dbn_writer.proofs.naming.relation_name.Goals as goal

pub returns : goal.returns
returns c = sym (mapped_at (λ r. r.name) (relations c.args.net.now) c.args.n _ [] (sym c.relation_at.ensures ∙ ap relation_in c.in-Relation.is))
