use Rattle.std.proofs.Common.{◌≡◌, drop}
use Rattle.dbn_net.specs.Forms.{bare_transition, clauses_from}
use Rattle.dbn_reader.proofs.clauses.clauses.Given as goal

abbrev pub invariant-loop-part : goal.invariant-loop-part
invariant-loop-part l = clauses_from (0, bare_transition l.fn.name) l.parts ≡ clauses_from (l.draft.last, l.draft.transition) (drop l.part-index l.parts)
