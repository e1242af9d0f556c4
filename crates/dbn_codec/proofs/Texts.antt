-- The length of a text.
use Rattle.std.proofs.Common.{ℕ, ◌≤◌, List, length, inl, inr}
use Rattle.std.proofs.lemmas.Bool.{cases_lt}
use Rattle.dbn_value.specs.Text.{IsText}
use Rattle.dbn_value.proofs.Texts.{too_long}

pub text_is_short : (bytes : List ℕ) → IsText bytes → length bytes ≤ 4096
text_is_short bytes text =
    elim (cases_lt 4096 (length bytes)) [
      | inl long ↦ (let none = too_long bytes long in absurd cc)
      | inr short ↦ short
    ]
