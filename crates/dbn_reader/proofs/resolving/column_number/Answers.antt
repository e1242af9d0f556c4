use Rattle.std.proofs.Common.{sym, subst, ◌∙◌}
use Rattle.dbn_reader.specs.Parses.{Parses}
use Rattle.dbn_reader.proofs.ResolvedLaws.{position_of_field}
use Rattle.dbn_reader.proofs.resolving.column_number.Goals as goal

pub returns : goal.returns
returns c = subst (Parses c.known.result) (c.column.ensures ∙ sym (position_of_field c.args.fields.now c.args.name.now)) c.known.ensures
