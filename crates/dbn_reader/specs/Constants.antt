-- Constants as terms.
use Rattle.std.specs.Prelude.{Option, Some}
use Rattle.dbn_value.specs.declared.term.Term.{Term}
use Rattle.dbn_value.specs.declared.term.Term.TheVariants.{Const}
use Rattle.dbn_sexp.specs.declared.sexp.Sexp.{Sexp}
use Rattle.dbn_sexp.specs.Parts.{constant_in}
use Rattle.dbn_net.specs.Maybe.{◌>>=◌}

abbrev pub constant_term : Sexp → Option Term
constant_term one = constant_in one >>= λ v. Some (Const v)
