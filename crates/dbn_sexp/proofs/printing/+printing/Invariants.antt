use Rattle.std.proofs.Common.{◌≡◌, ◌++◌, take, map}
use Rattle.dbn_sexp.specs.Printing.{item_text, spaced, HasAtoms}
use Rattle.dbn_sexp.proofs.printing.+printing.Given as goal

abbrev pub invariant-print_spaced-loop-i : goal.invariant-print_spaced-loop-i
invariant-print_spaced-loop-i l =
    (l.out.items ≡ l.fn.out.items ++ spaced (map (λ one. item_text one.item) (take l.i l.list))) × HasAtoms (take l.i l.list)
