-- Which file counts, and that an append leaves the header.
use Rattle.std.proofs.Common.{◌≡◌, ℕ, ◌+◌, ◌<◌, ◌≤◌, ◌^◌, Bool, true, false, not, ◌&&◌, nat_lt, nat_le, ◌==◌, List, [], ◌∷◌, length, take, drop, refl, sym, ap, ◌∙◌, arith, ⊎_elim}
use Rattle.std.proofs.lemmas.Bool.{lt-ltb, ltb-true, lt-leb, le-leb, and_parts, and_from, and_cases, and_right, cond-true, cond-false, true≢false, false≢true}
use Rattle.dbn_journal.specs.Records.{open_gate, RecordList, records_from}
use Rattle.dbn_journal.specs.Walk.{place_after, bodies_before, prepended}
use Rattle.dbn_journal.specs.Making.{is_open}
use Rattle.dbn_journal.proofs.Walks.{front_of, middle_of, split, goes_on, same_before}
use Rattle.dbn_keeper.specs.Files.{opening_in, opening_of, number32, first_gate, base_in, base_of, has_base, store_with, holds, choose}
use Rattle.dbn_keeper.specs.Files.Folder.{Holds}
use Rattle.dbn_keeper.specs.declared.opening.Form.{Form}
use Rattle.dbn_keeper.specs.declared.opening.Opening.{Opening}
use Rattle.dbn_keeper.specs.declared.opening.Opening.TheVariants.{NotOpen, Foreign, Marked}
use Rattle.dbn_keeper.specs.TwoFiles.{pair_of, gives_way, IsChosen}
use Rattle.dbn_keeper.specs.declared.base.Base.{Base}

-- beside a file that gives way the chosen one counts
pub beside : (swapped : Bool) (form : Form) (g : ℕ) (x y : List ℕ) → opening_of x ≡ Marked form g → gives_way swapped g (opening_of y) ≡ true → pair_of swapped x y ≡ holds form g x
beside true form g x y chosen less = ap (λ (o : Opening). choose (opening_of y) o y x) chosen ∙ by_other (opening_of y) less
  where
    by_other : (o : Opening) → gives_way true g o ≡ true → choose o (Marked form g) y x ≡ holds form g x
    by_other NotOpen e = refl
    by_other Foreign e = absurd (false≢true e)
    by_other (Marked other h) e = cond-false _ _ _ (lt-leb g h (ltb-true h g e))
beside false form g x y chosen less = ap (λ (o : Opening). choose o (opening_of y) x y) chosen ∙ by_other (opening_of y) less
  where
    by_other : (o : Opening) → gives_way false g o ≡ true → choose (Marked form g) o x y ≡ holds form g x
    by_other NotOpen e = refl
    by_other Foreign e = absurd (false≢true e)
    by_other (Marked other h) e = cond-true _ _ _ e

pub exchanged : (swapped : Bool) (x y : List ℕ) → pair_of (not swapped) y x ≡ pair_of swapped x y
exchanged true x y = refl
exchanged false x y = refl

-- a file that isn't open gives way
pub closed_opening : (y : List ℕ) → is_open y ≡ false → opening_of y ≡ NotOpen
closed_opening [] e = refl
closed_opening (z ∷ []) e = refl
closed_opening (z ∷ w ∷ rest) e =
    let shut : (z == open_gate) ≡ false = ⊎_elim (λ short. absurd (true≢false (sym (le-leb 2 (length (z ∷ w ∷ rest)) (omega arith)) ∙ short))) (λ other. other) (and_cases (nat_le 2 (length (z ∷ w ∷ rest))) (z == open_gate) e) in
    cond-false _ _ _ (and_right (nat_le 2 (length (take 13 (z ∷ w ∷ rest)))) (z == open_gate) shut)

-- it stands for this store
pub store_here : (form : Form) (base : Base) (generation place records : ℕ) (file : List ℕ) → IsChosen form base generation place records file
    → holds form generation file ≡ Holds (store_with form generation base (prepended (bodies_before records (first_gate file) file) (records_from place file)))
store_here form base generation place records file chosen =
    cond-true (has_base file) _ _ chosen.header
    ∙ ap (λ (b : Base). Holds (store_with form generation b (records_from (first_gate file) file))) chosen.base_is
    ∙ ap (λ (l : RecordList). Holds (store_with form generation base l)) (split records (first_gate file) place file chosen.walked)

-- the first gate is behind the header, and the place behind the first gate
header_before : (form : Form) (base : Base) (generation place records : ℕ) (file : List ℕ) → IsChosen form base generation place records file → 33 + number32 29 (take 33 file) ≤ place
header_before form base generation place records file chosen = goes_on records (first_gate file) place file chosen.walked

-- a file with the same bytes up to the place, and one more, has the same header and the same records before
pub chosen_same : (form : Form) (base : Base) (generation place records : ℕ) (file c : List ℕ) → IsChosen form base generation place records file → take place c ≡ take place file → place < length c
    → IsChosen form base generation place records c × (bodies_before records (first_gate c) c ≡ bodies_before records (first_gate file) file)
chosen_same form base generation place records file c chosen same long =
    let before : 33 + number32 29 (take 33 file) ≤ place = header_before form base generation place records file chosen in
    let head : take 33 c ≡ take 33 file = front_of 33 place c file (omega (arith, before)) same in
    let opening : take 13 c ≡ take 13 file = front_of 13 place c file (omega (arith, before)) same in
    let text : take (number32 29 (take 33 file)) (drop 33 c) ≡ take (number32 29 (take 33 file)) (drop 33 file) =
    middle_of 33 (number32 29 (take 33 file)) c file (front_of (33 + number32 29 (take 33 file)) place c file before same) in
    let base_same : base_of c ≡ base_of file =
    ap (λ (l : List ℕ). base_in l c) head ∙ ap (λ (t : List ℕ). text_base (take 33 file) t) text in
    let first : first_gate c ≡ first_gate file = ap (λ (l : List ℕ). 33 + number32 29 l) head in
    let parts = and_parts (nat_lt (first_gate file) (length file)) (nat_le (base_of file).fired (2 ^ 62) && nat_le (base_of file).next (2 ^ 62)) chosen.header in
    let more = same_before records (first_gate file) place file c chosen.walked same long in (
      record {
        opening = ap opening_in opening ∙ chosen.opening;
        header = and_from (nat_lt (first_gate c) (length c)) (nat_le (base_of c).fired (2 ^ 62) && nat_le (base_of c).next (2 ^ 62)) (lt-ltb (first_gate c) (length c) (omega (arith, first, before, long)))
            (ap (λ (b : Base). nat_le b.fired (2 ^ 62) && nat_le b.next (2 ^ 62)) base_same ∙ parts.1);
        base_is = base_same ∙ chosen.base_is;
        walked = ap (λ (k : ℕ). place_after records k c) first ∙ more.0;
      },
      ap (λ (k : ℕ). bodies_before records k c) first ∙ more.1,
    )
  where
    text_base : List ℕ → List ℕ → Base
    text_base front text = record { fired = (base_in front []).fired; next = (base_in front []).next; text = text }
