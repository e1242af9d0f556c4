use Rattle.std.proofs.Common.{◌≡◌, ◌∷◌, map, take}
use Rattle.dbn_net.specs.Tables.{place_names}
use Rattle.dbn_net.specs.Naming.{name_at, written_pattern}
use Rattle.dbn_net.specs.Printing.{word, written_pattern_sexp}
use Rattle.dbn_writer.proofs.transitions.arc.Given as goal

abbrev pub invariant-loop-tokens : goal.invariant-loop-tokens
invariant-loop-tokens l =
    l.parts ≡ word l.first ∷ word (name_at (place_names l.net) l.arc.place) ∷ map written_pattern_sexp (map written_pattern (take l.tokens-index l.arc.patterns))
