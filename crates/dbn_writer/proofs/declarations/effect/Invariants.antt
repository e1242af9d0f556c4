use Rattle.std.proofs.Common.{◌≡◌, ◌∷◌, map, take}
use Rattle.dbn_net.specs.Naming.{written_fact}
use Rattle.dbn_net.specs.Printing.{word, written_atom_sexp}
use Rattle.dbn_writer.proofs.declarations.effect.Given as goal

abbrev pub invariant-loop-fact : goal.invariant-loop-fact
invariant-loop-fact l = l.parts ≡ word l.first ∷ map written_atom_sexp (map (written_fact l.net) (take l.fact-index l.facts))
