use Rattle.std.proofs.Common.{List, map, sym, ap, subst, ◌∙◌}
use Rattle.dbn_value.specs.declared.value.ColType.{ColType}
use Rattle.dbn_net.specs.Forms.{Name}
use Rattle.dbn_net.specs.Maybe.{each}
use Rattle.dbn_net.specs.Tables.{relation_in, relations}
use Rattle.dbn_net.specs.Naming.{number_of}
use Rattle.dbn_net.proofs.PositionLaws.{there}
use Rattle.dbn_reader.specs.Parses.{Parses}
use Rattle.dbn_reader.proofs.ResolvedLaws.{fields_there, relation_in_is}
use Rattle.dbn_reader.proofs.resolving.fields_of.Goals as goal

pub unreachable-requires : goal.unreachable-requires
unreachable-requires c =
    let some = there (relations c.args.net.now) c.args.rel c.requires in
    c.in_default.not-Relation some.0.name some.0.fields (relation_in_is c.relation_at.result.now some.0 (c.relation_at.ensures ∙ some.1))

pub returns : goal.returns
returns c =
    subst (λ (names : List Name). Parses c.columns_of.result (each (number_of names) c.args.names.now))
    (ap (λ (fs : List (Name × ColType)). map (λ (f : Name × ColType). f.0) fs) c.as_slice.ensures ∙ sym (fields_there c.args.net.now c.args.rel c.in-Relation.name c.in-Relation.fields (ap relation_in (sym c.in-Relation.is) ∙ c.relation_at.ensures)))
    c.columns_of.ensures
