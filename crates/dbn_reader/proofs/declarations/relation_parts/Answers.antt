use Rattle.std.proofs.Common.{sym, subst}
use Rattle.dbn_reader.specs.Parses.{Parses}
use Rattle.dbn_reader.proofs.RelationLaws.{relation_read}
use Rattle.dbn_reader.proofs.declarations.relation_parts.Goals as goal

pub returns : goal.returns
returns c =
    subst (λ o. Parses c.named_relation.result o)
    (sym (relation_read c.args.name.now c.args.parts.now _ _ c.in_ok-name.ensures c.in_ok-fields.ensures))
    c.named_relation.ensures
