-- What a new file stands for.
use Rattle.std.proofs.Common.{◌≡◌, ℕ, ◌+◌, ◌<◌, ◌≤◌, ◌^◌, true, ◌&&◌, nat_le, nat_lt, List, [], ◌∷◌, ◌++◌, length, take, drop, get_or, Some, refl, sym, ap, ◌∙◌, arith, length-append}
use Rattle.std.proofs.lemmas.Nat.{from_be_bytes-to_be_bytes_4, from_be_bytes-to_be_bytes_8}
use Rattle.std.proofs.lemmas.List.{take_at, get_or_at, get_or-drop}
use Rattle.std.proofs.lemmas.Bool.{lt-ltb, le-leb, and_from, cond-true}
use Rattle.dbn_journal.specs.Records.{IsShutAt}
use Rattle.dbn_keeper.specs.Files.{opening_of, number64, number32, first_gate, base_of, has_base, is_generation, file_of, marked}
use Rattle.dbn_keeper.specs.declared.opening.Opening.TheVariants.{Marked}
use Rattle.dbn_keeper.specs.TwoFiles.{IsChosen}
use Rattle.dbn_keeper.specs.declared.opening.Form.TheVariants.{Two}
use Rattle.dbn_keeper.specs.declared.base.Base.{Base}

module _ (g : ℕ) (base : Base) (least : 1 ≤ g) (most : g ≤ 2 ^ 62) (fired : base.fired ≤ 2 ^ 62) (next : base.next ≤ 2 ^ 62) (small : length base.text < 2 ^ 32) where
  generation_is : number64 5 (take 13 (file_of g base)) ≡ g
  generation_is = from_be_bytes-to_be_bytes_8 g (omega (arith, most))

  fired_is : number64 13 (take 33 (file_of g base)) ≡ base.fired
  fired_is = from_be_bytes-to_be_bytes_8 base.fired (omega (arith, fired))

  next_is : number64 21 (take 33 (file_of g base)) ≡ base.next
  next_is = from_be_bytes-to_be_bytes_8 base.next (omega (arith, next))

  size_is : number32 29 (take 33 (file_of g base)) ≡ length base.text
  size_is = from_be_bytes-to_be_bytes_4 (length base.text) small

  pub new_opening : opening_of (file_of g base) ≡ Marked Two g
  new_opening =
      cond-true (is_generation (number64 5 (take 13 (file_of g base)))) (marked 50 (number64 5 (take 13 (file_of g base)))) _ (ap is_generation generation_is ∙ and_from (nat_le 1 g) (nat_le g (2 ^ 62)) (le-leb 1 g least) (le-leb g (2 ^ 62) most))
      ∙ ap (Marked Two) generation_is

  behind_header : drop 33 (file_of g base) ≡ base.text ++ 0 ∷ []
  behind_header = refl

  pub new_length : length (file_of g base) ≡ 34 + length base.text
  new_length = let e : length (file_of g base) ≡ 33 + length (base.text ++ 0 ∷ []) = omega arith in omega (arith, e, length-append base.text (0 ∷ []))

  pub new_first : first_gate (file_of g base) ≡ 33 + length base.text
  new_first = ap (λ (n : ℕ). 33 + n) size_is

  pub new_base : base_of (file_of g base) ≡ base
  new_base =
      ap (λ (n : ℕ). with_fired n (number64 21 (take 33 (file_of g base))) (take (number32 29 (take 33 (file_of g base))) (base.text ++ 0 ∷ []))) fired_is
      ∙ ap (λ (n : ℕ). with_fired base.fired n (take (number32 29 (take 33 (file_of g base))) (base.text ++ 0 ∷ []))) next_is
      ∙ ap (λ (n : ℕ). with_fired base.fired base.next (take n (base.text ++ 0 ∷ []))) size_is
      ∙ ap (with_fired base.fired base.next) (take_at base.text (0 ∷ []) (length base.text) refl)
    where
      with_fired : ℕ → ℕ → List ℕ → Base
      with_fired fired next text = record { fired = fired; next = next; text = text }

  pub new_header : has_base (file_of g base) ≡ true
  new_header =
      and_from (nat_lt (first_gate (file_of g base)) (length (file_of g base))) (nat_le (base_of (file_of g base)).fired (2 ^ 62) && nat_le (base_of (file_of g base)).next (2 ^ 62))
      (lt-ltb (first_gate (file_of g base)) (length (file_of g base)) (omega (arith, new_first, new_length)))
      (ap (λ (b : Base). nat_le b.fired (2 ^ 62) && nat_le b.next (2 ^ 62)) new_base ∙ and_from (nat_le base.fired (2 ^ 62)) (nat_le base.next (2 ^ 62)) (le-leb base.fired (2 ^ 62) fired) (le-leb base.next (2 ^ 62) next))

  pub new_chosen : IsChosen Two base g (33 + length base.text) 0 (file_of g base)
  new_chosen = record { opening = new_opening; header = new_header; base_is = new_base; walked = ap Some new_first }

  pub new_shut : IsShutAt (33 + length base.text) (file_of g base)
  new_shut =
      let gate : get_or (file_of g base) (33 + length base.text) 0 ≡ 0 = ap (λ (k : ℕ). get_or (file_of g base) k 0) (let e : 33 + length base.text ≡ 33 + length base.text = refl in e) ∙ at_gate in
      record { there = omega (arith, new_length); shut = λ e. absurd (omega (arith, gate, e)) }
    where
      at_gate : get_or (file_of g base) (33 + length base.text) 0 ≡ 0
      at_gate = sym (get_or-drop 33 (file_of g base) (length base.text) 0) ∙ get_or_at base.text 0 [] 0 (length base.text) refl
