-- Clauses of a transition that may be left out.
use Rattle.std.proofs.Common.{◌≡◌, ℕ, ◌<◌, true, List, [], ◌∷◌, map, refl, arith, codes, length}
use Rattle.dbn_value.specs.declared.value.ColType.{ColType}
use Rattle.dbn_value.specs.declared.term.Var.{Var}
use Rattle.dbn_formula.specs.Written.{of_first}
use Rattle.dbn_formula.specs.declared.formula.Formula.{Formula}
use Rattle.dbn_net.specs.Printing.{form, variable_sexp, typed_variable_sexp, ask_sexps, fresh_sexps}
use Rattle.dbn_writer.proofs.NamedMore.{first_more}

pub guard_of_net : (g : Formula) (n : ℕ) → of_first 0 g ≡ true → of_first n g ≡ true
guard_of_net g n e = first_more g 0 n (omega arith) e

pub no_ask : (vars : List (Var × ColType)) → length vars ≡ 0 → ask_sexps vars ≡ []
no_ask [] none = refl
no_ask (x ∷ vars) none = absurd (omega (arith, none))

pub some_ask : (vars : List (Var × ColType)) → 0 < length vars → ask_sexps vars ≡ form (codes "ask") (map typed_variable_sexp vars) ∷ []
some_ask [] some = absurd (omega (arith, some))
some_ask (x ∷ vars) some = refl

pub no_fresh : (vars : List Var) → length vars ≡ 0 → fresh_sexps vars ≡ []
no_fresh [] none = refl
no_fresh (x ∷ vars) none = absurd (omega (arith, none))

pub some_fresh : (vars : List Var) → 0 < length vars → fresh_sexps vars ≡ form (codes "fresh") (map variable_sexp vars) ∷ []
some_fresh [] some = absurd (omega (arith, some))
some_fresh (x ∷ vars) some = refl
