-- What a call adds to a text.
use Rattle.std.specs.Prelude.{◌≡◌, ℕ, List, ◌++◌}
use Rattle.dbn_sexp.specs.declared.sexp.Sexp.{Sexp}
use Rattle.dbn_sexp.specs.Printing.{text, HasAtoms}

-- the lines of a list, whose names and values are in form
pub record Adds (before after : List ℕ) (list : List Sexp) : Type 0 where
  pub lines : after ≡ before ++ text list
  pub atoms : HasAtoms list
