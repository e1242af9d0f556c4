-- Whether two variables are the same, and the order of variables.
use Rattle.std.specs.Prelude.{◌≡◌, Bool, ◌&&◌, ◌==◌, refl}
use Rattle.std.proofs.Common.{ap, ◌∙◌}
use Rattle.std.specs.declared.cmp.Ordering.{Ordering}
use Rattle.std.specs.declared.cmp.Ordering.TheVariants.{Less, Equal, Greater}
use Rattle.std.specs.Ordering.{nat_cmp, ordering_then, eq_by_cmp}
use Rattle.std.specs.Cmp.{IsTotalOrder, nat_cmp_total, then_total, on_total, tied_then, unsigned_ties}
use Rattle.std.specs.FinMap.{IsAntisymmetric, nat_cmp-IsAntisymmetric}
use Rattle.dbn_value.specs.Names.{name_eq, name_cmp, name_total, names_tie, exact_names}
use Rattle.dbn_value.specs.declared.term.Var.{Var}

-- the same name and the same mark
abbrev pub var_eq : Var → Var → Bool
var_eq x y = name_eq x.name y.name && x.mark == y.mark

-- by name, and variables of one name by their marks
abbrev pub var_cmp : Var → Var → Ordering
var_cmp x y = ordering_then (name_cmp x.name y.name) (nat_cmp x.mark y.mark)

pub var_total : IsTotalOrder var_cmp
var_total = then_total (on_total (λ x. x.name) name_total) (on_total (λ x. x.mark) nat_cmp_total)

-- variables are equal exactly where they tie
pub vars_tie : (x y : Var) → var_eq x y ≡ eq_by_cmp var_cmp x y
vars_tie x y =
    ap (λ b. b && x.mark == y.mark) (names_tie x.name y.name)
    ∙ ap (λ b. eq_by_cmp name_cmp x.name y.name && b) (unsigned_ties x.mark y.mark)
    ∙ tied_then (name_cmp x.name y.name) (nat_cmp x.mark y.mark)

-- variables that tie are equal
pub exact_vars : IsAntisymmetric var_cmp
exact_vars x y p = by (name_cmp x.name y.name) refl p
  where
    by : (r : Ordering) → name_cmp x.name y.name ≡ r → ordering_then r (nat_cmp x.mark y.mark) ≡ Equal → x ≡ y
    by Less e q = cc
    by Equal e q = λ i. record { name = exact_names x.name y.name e i; mark = nat_cmp-IsAntisymmetric x.mark y.mark q i }
    by Greater e q = cc
