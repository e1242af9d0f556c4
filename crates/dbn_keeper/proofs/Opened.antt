-- What is known of a file that was found.
use Rattle.std.proofs.Common.{◌≡◌, ℕ, ◌+◌, ◌<◌, ◌^◌, Bool, true, false, cond, ◌&&◌, nat_le, nat_lt, List, [], length, take, drop, None, Some, refl, sym, ap, ◌∙◌, arith}
use Rattle.std.proofs.lemmas.List.{length-take, length-drop}
use Rattle.std.proofs.lemmas.Bool.{ltb-true, and_parts, cond-false}
use Rattle.dbn_keeper.specs.Files.{folder, choose, opening_of, has_base, base_of, first_gate, number32}
use Rattle.dbn_keeper.specs.Files.Folder.{NotMade, NotAStore}
use Rattle.dbn_keeper.specs.declared.base.Base.{Base}
use Rattle.dbn_keeper.specs.declared.opening.Form.{Form}
use Rattle.dbn_keeper.specs.declared.opening.Opening.{Opening}
use Rattle.dbn_keeper.specs.declared.opening.Opening.TheVariants.{NotOpen, Foreign, Marked}
use Rattle.dbn_keeper.specs.Reading.{base_found, HoldsBase}
use Rattle.dbn_keeper.specs.TwoFiles.{IsChosen, gives_way}

some_base : (a b : Base) → Some a ≡ Some b → a ≡ b
some_base a b e = cc

-- a base was found
pub with_base : (form : Form) (base : Base) (generation : ℕ) (x : List ℕ) → Marked form generation ≡ opening_of x → Some base ≡ base_found x → HoldsBase form base generation x
with_base form base generation x opening found = by_test (has_base x) refl found
  where
    by_test : (t : Bool) → has_base x ≡ t → Some base ≡ cond t (Some (base_of x)) None → HoldsBase form base generation x
    by_test true is e = record { opening = sym opening; header = is; base_is = sym (some_base base (base_of x) e) }
    by_test false is e = cc

-- none was found
pub without_base : (form : Form) (generation : ℕ) (x : List ℕ) → Marked form generation ≡ opening_of x → None ≡ base_found x → folder x [] ≡ NotAStore
without_base form generation x opening found = ap (λ (o : Opening). choose o NotOpen x []) (sym opening) ∙ by_test (has_base x) refl found
  where
    by_test : (t : Bool) → has_base x ≡ t → None ≡ cond t (Some (base_of x)) None → choose (Marked form generation) NotOpen x [] ≡ NotAStore
    by_test true is e = cc
    by_test false is e = cond-false (has_base x) _ _ is

pub not_open : (x : List ℕ) → NotOpen ≡ opening_of x → folder x [] ≡ NotMade
not_open x opening = ap (λ (o : Opening). choose o NotOpen x []) (sym opening)

pub is_foreign : (x : List ℕ) → Foreign ≡ opening_of x → folder x [] ≡ NotAStore
is_foreign x opening = ap (λ (o : Opening). choose o NotOpen x []) (sym opening)

pub chosen_found : (form : Form) (base : Base) (g place : ℕ) (x : List ℕ) → HoldsBase form base g x → place ≡ 33 + length base.text → IsChosen form base g place 0 x
chosen_found form base g place x found is =
    let inside : first_gate x < length x = ltb-true (first_gate x) (length x) (and_parts (nat_lt (first_gate x) (length x)) (nat_le (base_of x).fired (2 ^ 62) && nat_le (base_of x).next (2 ^ 62)) found.header).0 in
    let text : length base.text ≡ number32 29 (take 33 x) = ap (λ (b : Base). length b.text) (sym found.base_is) ∙ omega (arith, inside, length-take (number32 29 (take 33 x)) (drop 33 x), length-drop 33 x) in
    record { opening = found.opening; header = found.header; base_is = found.base_is; walked = ap Some (let e : first_gate x ≡ place = omega (arith, is, text) in e) }

-- where there is no second disk
pub nothing : (y : List ℕ) → Some [] ≡ Some y → [] ≡ y
nothing y e = cc

pub no_file : (g : ℕ) (y : List ℕ) → Some [] ≡ Some y → gives_way false g (opening_of y) ≡ true
no_file g y e = ap (λ (l : List ℕ). gives_way false g (opening_of l)) (sym (nothing y e))
