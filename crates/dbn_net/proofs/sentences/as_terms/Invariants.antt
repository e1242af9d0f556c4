use Rattle.std.proofs.Common.{◌≡◌, take}
use Rattle.dbn_net.specs.Sentences.{as_terms}
use Rattle.dbn_net.proofs.sentences.as_terms.Given as goal

abbrev pub invariant-loop-var : goal.invariant-loop-var
invariant-loop-var l = l.terms ≡ as_terms (take l.var-index l.vars)
