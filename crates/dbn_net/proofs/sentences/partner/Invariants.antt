use Rattle.std.proofs.Common.{◌≡◌}
use Rattle.dbn_net.specs.Sentences.{partner}
use Rattle.dbn_net.proofs.sentences.partner.Given as goal

abbrev pub invariant-loop-field : goal.invariant-loop-field
invariant-loop-field l = partner l.fn.fields l.fn.to_fields l.column ≡ partner l.field-iterator.a.rest.now l.field-iterator.b.rest.now l.column
