-- The end of writing variables with their values: one of the two lists is at its end.
use Rattle.std.proofs.Common.{◌≡◌, ◌⊎◌, inl, inr, List, [], ◌∷◌, ◌++◌, length, ℕ, refl, sym, ap, ◌∙◌, arith, append-nil}
use Rattle.dbn_value.specs.declared.value.Value.{Value}
use Rattle.dbn_value.specs.declared.value.ColType.{ColType}
use Rattle.dbn_value.specs.declared.term.Var.{Var}
use Rattle.dbn_command.specs.Replies.{bound_text}

no_more : (vars : List (Var × ColType)) (row : List Value) → (length vars ≡ 0) ⊎ (length row ≡ 0) → bound_text vars row ≡ []
no_more [] row ended = refl
no_more (x ∷ vars) [] ended = refl
no_more (x ∷ vars) (v ∷ row) (inl e) = absurd (omega (arith, e))
no_more (x ∷ vars) (v ∷ row) (inr e) = absurd (omega (arith, e))

pub bound_done : (out all : List ℕ) (vars : List (Var × ColType)) (row : List Value) → (length vars ≡ 0) ⊎ (length row ≡ 0) → out ++ bound_text vars row ≡ all → out ≡ all
bound_done out all vars row ended so_far = sym (append-nil out) ∙ ap (λ l. out ++ l) (sym (no_more vars row ended)) ∙ so_far
