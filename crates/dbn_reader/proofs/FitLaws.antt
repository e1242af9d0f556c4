-- Terms that are walked beside their columns, up to the end of the shorter list.
use Rattle.std.proofs.Common.{◌≡◌, ◌⊎◌, inl, inr, true, List, [], ◌∷◌, length, refl}
use Rattle.dbn_value.specs.declared.value.ColType.{ColType}
use Rattle.dbn_value.specs.declared.term.Term.{Term}
use Rattle.dbn_formula.specs.Variables.{TypedVars}
use Rattle.dbn_formula.specs.Typing.{terms_fit}

pub terms_ended : (scope : TypedVars) (terms : List Term) (shape : List ColType) → (length terms ≡ 0) ⊎ (length shape ≡ 0) → terms_fit scope terms shape ≡ true
terms_ended scope [] shape ends = refl
terms_ended scope (t ∷ terms) [] ends = refl
terms_ended scope (t ∷ terms) (type ∷ shape) (inl ends) = absurd cc
terms_ended scope (t ∷ terms) (type ∷ shape) (inr ends) = absurd cc
