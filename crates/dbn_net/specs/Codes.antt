-- Codes of wants, which the check wants for a list of them.
use Rattle.std.specs.Prelude.{ℕ, List, refl}
use Rattle.std.specs.Coded.{Coded, code_by, coded×, coded_ℕ, coded_list}
use Rattle.dbn_net.specs.declared.want.Want.{Want}

abbrev pub coded_want : {C : Type 0} → Coded C → Coded (Want C)
coded_want {C} code =
    code_by (ℕ × (List C × ℕ)) (coded× coded_ℕ (coded× (coded_list code) coded_ℕ)) (λ w. (w.place, (w.row, w.many)))
    (λ p. record { place = p.0; row = p.1.0; many = p.1.1 }) (λ _. refl)
