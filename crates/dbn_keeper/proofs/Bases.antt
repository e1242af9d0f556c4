-- The base of a file, by its numbers.
use Rattle.std.proofs.Common.{◌≡◌, ℕ, ◌<◌, ◌^◌, true, false, ◌&&◌, nat_le, nat_lt, List, length, take, drop, None, Some, sym, ap, ◌∙◌, arith, ⊎_elim}
use Rattle.std.proofs.lemmas.List.{length-take}
use Rattle.std.proofs.lemmas.Bool.{and_parts, and_from, ltb-true, le-leb, cond-true, cond-false, cases_Bool}
use Rattle.dbn_keeper.specs.Files.{number64, number32, first_gate, base_of, has_base}
use Rattle.dbn_keeper.specs.Reading.{numbers_in, base_found}
use Rattle.dbn_keeper.specs.declared.base.Base.{Base}
use Rattle.dbn_keeper.specs.declared.header.Numbers.{Numbers}

long_front : (b : List ℕ) → has_base b ≡ true → nat_le 33 (length (take 33 b)) ≡ true
long_front b e =
    let inside : first_gate b < length b = ltb-true (first_gate b) (length b) (and_parts (nat_lt (first_gate b) (length b)) (nat_le (base_of b).fired (2 ^ 62) && nat_le (base_of b).next (2 ^ 62)) e).0 in
    le-leb 33 (length (take 33 b)) (omega (arith, inside, length-take 33 b))

abbrev numbers_of_file : List ℕ → Numbers
numbers_of_file b = record { fired = number64 13 (take 33 b); next = number64 21 (take 33 b); size = number32 29 (take 33 b) }

abbrev pub base_with : Numbers → List ℕ → Base
base_with found text = record { fired = found.fired; next = found.next; text = text }

pub numbers_none : (b : List ℕ) → None ≡ numbers_in (take 33 b) (length b) → None ≡ base_found b
numbers_none b e = ⊎_elim
    (λ (has : has_base b ≡ true). let some : None ≡ Some (numbers_of_file b) = e ∙ cond-true (nat_le 33 (length (take 33 b)) && has_base b) (Some (numbers_of_file b)) None (and_from (nat_le 33 (length (take 33 b))) (has_base b) (long_front b has) has) in cc)
    (λ (not : has_base b ≡ false). sym (cond-false (has_base b) (Some (base_of b)) None not)) (cases_Bool (has_base b))

pub numbers_some : (b text : List ℕ) (found : Numbers) → Some found ≡ numbers_in (take 33 b) (length b) → text ≡ take found.size (drop 33 b) → Some (base_with found text) ≡ base_found b
numbers_some b text found e is = ⊎_elim yes_case (λ (not : (nat_le 33 (length (take 33 b)) && has_base b) ≡ false). let none : Some found ≡ None = e ∙ cond-false (nat_le 33 (length (take 33 b)) && has_base b) (Some (numbers_of_file b)) None not in cc) (cases_Bool (nat_le 33 (length (take 33 b)) && has_base b))
  where
    some_numbers : (a c : Numbers) → Some a ≡ Some c → a ≡ c
    some_numbers a c e = cc

    yes_case : (nat_le 33 (length (take 33 b)) && has_base b) ≡ true → Some (base_with found text) ≡ base_found b
    yes_case has =
        let same : found ≡ numbers_of_file b = some_numbers found (numbers_of_file b) (e ∙ cond-true (nat_le 33 (length (take 33 b)) && has_base b) (Some (numbers_of_file b)) None has) in
        ap (λ (t : List ℕ). Some (base_with found t)) is ∙ ap (λ (n : Numbers). Some (base_with n (take n.size (drop 33 b)))) same
        ∙ sym (cond-true (has_base b) (Some (base_of b)) None (and_parts (nat_le 33 (length (take 33 b))) (has_base b) has).1)
