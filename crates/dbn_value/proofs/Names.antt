-- Identifiers by their first byte.
use Rattle.std.proofs.Common.{arith, ◌≡◌, ◌<◌, ◌&&◌, ℕ, true, false, List, [], ◌∷◌, length, get_or, sym, ap, ◌∙◌}
use Rattle.std.specs.List.{list_all}
use Rattle.std.specs.Char.{is_ascii_alphabetic}
use Rattle.dbn_value.specs.Text.{is_name_byte, is_identifier}
use Rattle.dbn_value.proofs.Spellings.{behind_first, behind_is}

pub letter_first : (bs : List ℕ) → 0 < length bs → is_ascii_alphabetic (get_or bs 0 0) ≡ true → list_all is_name_byte (behind_first bs) ≡ is_identifier bs
letter_first [] l e = absurd (omega arith)
letter_first (b ∷ bs) l e = ap (list_all is_name_byte) (behind_is b bs) ∙ sym (ap (λ c. c && list_all is_name_byte bs) e)

pub no_letter_first : (bs : List ℕ) → 0 < length bs → is_ascii_alphabetic (get_or bs 0 0) ≡ false → false ≡ is_identifier bs
no_letter_first [] l e = absurd (omega arith)
no_letter_first (b ∷ bs) l e = sym (ap (λ c. c && list_all is_name_byte bs) e)
