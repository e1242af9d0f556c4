-- Which file was chosen.
use Rattle.std.proofs.Common.{◌≡◌, ◌⊎◌, ℕ, Bool, true, false, cond, nat_le, nat_lt, List, None, Some, inl, inr, refl, sym, ap, ◌∙◌}
use Rattle.std.proofs.lemmas.Bool.{lt-ltb, leb-false, cond-true, cond-false, cases_Bool}
use Rattle.dbn_keeper.specs.Files.{opening_of, has_base, base_of, folder, choose}
use Rattle.dbn_keeper.specs.Files.Folder.{NotMade, NotAStore}
use Rattle.dbn_keeper.specs.Choosing.{beside}
use Rattle.dbn_keeper.specs.Reading.{base_found}
use Rattle.dbn_keeper.specs.TwoFiles.{gives_way}
use Rattle.dbn_keeper.specs.declared.opening.Form.{Form}
use Rattle.dbn_keeper.specs.declared.opening.Opening.{Opening}
use Rattle.dbn_keeper.specs.declared.opening.Opening.TheVariants.{NotOpen, Foreign, Marked}
use Rattle.dbn_twofile.specs.Finding.{choice_of}
use Rattle.dbn_twofile.specs.declared.look.Choice.TheVariants.{NoneOpen, NoStore, First, Second}

first_same : (f f' : Form) (g g' : ℕ) → First f g ≡ First f' g' → (f ≡ f') × (g ≡ g')
first_same f f' g g' e = let form : f ≡ f' = cc in let number : g ≡ g' = cc in (form, number)

second_same : (f f' : Form) (g g' : ℕ) → Second f g ≡ Second f' g' → (f ≡ f') × (g ≡ g')
second_same f f' g g' e = let form : f ≡ f' = cc in let number : g ≡ g' = cc in (form, number)

marked_same : (f f' : Form) (g g' : ℕ) → (f ≡ f') × (g ≡ g') → Marked f g ≡ Marked f' g'
marked_same f f' g g' e = ap (λ (form : Form). Marked form g) e.0 ∙ ap (Marked f') e.1

pub first_chosen : (o p : Opening) (form : Form) (g : ℕ) → choice_of o p ≡ First form g → (o ≡ Marked form g) × (gives_way false g p ≡ true)
first_chosen NotOpen NotOpen form g e = cc
first_chosen NotOpen Foreign form g e = cc
first_chosen NotOpen (Marked form' h) form g e = cc
first_chosen Foreign p form g e = cc
first_chosen (Marked f n) NotOpen form g e = (marked_same f form n g (first_same f form n g e), refl)
first_chosen (Marked f n) Foreign form g e = cc
first_chosen (Marked f n) (Marked form' h) form g e = by_test (cases_Bool (nat_le h n))
  where
    by_test : (nat_le h n ≡ true) ⊎ (nat_le h n ≡ false) → (Marked f n ≡ Marked form g) × (nat_le h g ≡ true)
    by_test (inl le) =
        let same = first_same f form n g (sym (cond-true (nat_le h n) (First f n) (Second form' h) le) ∙ e) in
        (marked_same f form n g same, ap (nat_le h) (sym same.1) ∙ le)
    by_test (inr over) = let other : Second form' h ≡ First form g = sym (cond-false (nat_le h n) (First f n) (Second form' h) over) ∙ e in cc

pub second_chosen : (o p : Opening) (form : Form) (g : ℕ) → choice_of o p ≡ Second form g → (p ≡ Marked form g) × (gives_way true g o ≡ true)
second_chosen NotOpen NotOpen form g e = cc
second_chosen NotOpen Foreign form g e = cc
second_chosen NotOpen (Marked form' h) form g e = (marked_same form' form h g (second_same form' form h g e), refl)
second_chosen Foreign p form g e = cc
second_chosen (Marked f n) NotOpen form g e = cc
second_chosen (Marked f n) Foreign form g e = cc
second_chosen (Marked f n) (Marked form' h) form g e = by_test (cases_Bool (nat_le h n))
  where
    by_test : (nat_le h n ≡ true) ⊎ (nat_le h n ≡ false) → (Marked form' h ≡ Marked form g) × (nat_lt n g ≡ true)
    by_test (inl le) = let other : First f n ≡ Second form g = sym (cond-true (nat_le h n) (First f n) (Second form' h) le) ∙ e in cc
    by_test (inr over) =
        let same = second_same form' form h g (sym (cond-false (nat_le h n) (First f n) (Second form' h) over) ∙ e) in
        (marked_same form' form h g same, ap (nat_lt n) (sym same.1) ∙ lt-ltb n h (leb-false h n over))

pub none_chosen : (o p : Opening) (x y : List ℕ) → choice_of o p ≡ NoneOpen → o ≡ opening_of x → p ≡ opening_of y → folder x y ≡ NotMade
none_chosen o p x y e first second = ap (λ (q : Opening). choose q (opening_of y) x y) (sym first) ∙ ap (λ (q : Opening). choose o q x y) (sym second) ∙ by_both o p e
  where
    by_both : (o p : Opening) → choice_of o p ≡ NoneOpen → choose o p x y ≡ NotMade
    by_both NotOpen NotOpen e = refl
    by_both NotOpen Foreign e = cc
    by_both NotOpen (Marked form' h) e = cc
    by_both Foreign p e = cc
    by_both (Marked f n) NotOpen e = cc
    by_both (Marked f n) Foreign e = cc
    by_both (Marked f n) (Marked form' h) e = by_test (nat_le h n) e
      where
        by_test : (t : Bool) → cond t (First f n) (Second form' h) ≡ NoneOpen → choose (Marked f n) (Marked form' h) x y ≡ NotMade
        by_test true e = cc
        by_test false e = cc

pub no_store_chosen : (o p : Opening) (x y : List ℕ) → choice_of o p ≡ NoStore → o ≡ opening_of x → p ≡ opening_of y → folder x y ≡ NotAStore
no_store_chosen o p x y e first second = ap (λ (q : Opening). choose q (opening_of y) x y) (sym first) ∙ ap (λ (q : Opening). choose o q x y) (sym second) ∙ by_both o p e
  where
    by_both : (o p : Opening) → choice_of o p ≡ NoStore → choose o p x y ≡ NotAStore
    by_both NotOpen NotOpen e = cc
    by_both NotOpen Foreign e = refl
    by_both NotOpen (Marked form' h) e = cc
    by_both Foreign p e = refl
    by_both (Marked f n) NotOpen e = cc
    by_both (Marked f n) Foreign e = refl
    by_both (Marked f n) (Marked form' h) e = by_test (nat_le h n) e
      where
        by_test : (t : Bool) → cond t (First f n) (Second form' h) ≡ NoStore → choose (Marked f n) (Marked form' h) x y ≡ NotAStore
        by_test true e = cc
        by_test false e = cc

pub not_a_store_first : (form : Form) (g : ℕ) (x y : List ℕ) → opening_of x ≡ Marked form g → gives_way false g (opening_of y) ≡ true → has_base x ≡ false → folder x y ≡ NotAStore
not_a_store_first form g x y marked way without = beside false form g x y marked way ∙ cond-false (has_base x) _ _ without

pub not_a_store_second : (form : Form) (g : ℕ) (x y : List ℕ) → opening_of y ≡ Marked form g → gives_way true g (opening_of x) ≡ true → has_base y ≡ false → folder x y ≡ NotAStore
not_a_store_second form g x y marked way without = beside true form g y x marked way ∙ cond-false (has_base y) _ _ without

pub no_base : (file : List ℕ) → None ≡ base_found file → has_base file ≡ false
no_base file e = by_test (has_base file) refl e
  where
    by_test : (t : Bool) → has_base file ≡ t → None ≡ cond t (Some (base_of file)) None → has_base file ≡ false
    by_test true is e = cc
    by_test false is e = is
