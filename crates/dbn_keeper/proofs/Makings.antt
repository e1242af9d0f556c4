-- A file is made on a disk that is settled.
use Rattle.std.proofs.Common.{◌≡◌, ◌⊎◌, ℕ, ◌+◌, ◌<◌, ◌≤◌, ◌^◌, Bool, true, false, cond, ◌==◌, nat_le, List, [], ◌∷◌, length, drop, get_or, Option, None, Some, is_some, inl, inr, refl, sym, ap, ◌∙◌, arith, ⊎_elim}
use Rattle.std.specs.Option.{option_map}
use Rattle.std.proofs.lemmas.Bool.{and_right, and_parts, leb-true, true≢false, ne_eqb, cases_eq}
use Rattle.dbn_disk.specs.Disk.{DiskState, LeavesOnly, IsSound, Only, Elapses}
use Rattle.dbn_disk.proofs.Going.{called, leaves_on, leaves_more}
use Rattle.dbn_journal.specs.Records.{open_gate, IsShutAt, records_from}
use Rattle.dbn_journal.specs.Making.{is_open, has_shut_first, closed, filled, opened, IsOpening, IsSameOrNotOpen}
use Rattle.dbn_keeper.specs.Creating.{IsMaking, any_open, is_made, is_allowed, IsNoneOrNew}
use Rattle.dbn_keeper.specs.Files.{opening_of, has_base, base_of, first_gate, store_with, file_of, new_store, folder, choose, holds}
use Rattle.dbn_keeper.specs.Files.Folder.{NotMade, NotAStore, Holds}
use Rattle.dbn_keeper.specs.TwoFiles.{pair_of, gives_way}
use Rattle.dbn_keeper.specs.Choosing.{beside, closed_opening}
use Rattle.dbn_keeper.specs.Appending.{at_end_here}
use Rattle.dbn_keeper.specs.Headers.{new_opening, new_chosen, new_shut}
use Rattle.dbn_keeper.specs.declared.base.Base.{Base}
use Rattle.dbn_keeper.specs.declared.opening.Form.{Form}
use Rattle.dbn_keeper.specs.declared.opening.Form.TheVariants.{Two}
use Rattle.dbn_keeper.specs.declared.opening.Opening.{Opening}
use Rattle.dbn_keeper.specs.declared.opening.Opening.TheVariants.{NotOpen, Foreign, Marked}

pub not_open : (c : List ℕ) → IsShutAt 0 c → is_open c ≡ false
not_open c shut = and_right (nat_le 2 (length c)) (get_or c 0 0 == open_gate) (ne_eqb (get_or c 0 0) open_gate shut.shut)

pub closed_some : (b : List ℕ) → 0 < length (closed b)
closed_some b = elim (has_shut_first b) as (λ t. has_shut_first b ≡ t → 0 < length (cond t b (0 ∷ drop 1 b))) [ true ↦ λ e. some b e | false ↦ λ e. omega arith ] refl
  where
    some : (b : List ℕ) → has_shut_first b ≡ true → 0 < length b
    some [] e = absurd (true≢false (sym e))
    some (x ∷ xs) e = omega arith

pub opened_filled : (rest b : List ℕ) → 0 < length b → opened (filled rest b) ≡ open_gate ∷ rest
opened_filled rest [] some = absurd (omega (arith, some))
opened_filled rest (x ∷ xs) some = refl

pub filled_shut : (rest b : List ℕ) → IsShutAt 0 b → IsShutAt 0 (filled rest b)
filled_shut rest [] shut = absurd (omega (arith, shut.there))
filled_shut rest (x ∷ xs) shut = record { there = omega arith; shut = shut.shut }

-- while the first byte is opened
pub opening_made : (rest b c : List ℕ) → 0 < length b → IsOpening (filled rest b) c → (is_open c ≡ false) ⊎ (c ≡ open_gate ∷ rest)
opening_made rest [] c some opening = absurd (omega (arith, some))
opening_made rest (x ∷ xs) [] some opening = absurd (omega (arith, opening.some))
opening_made rest (x ∷ xs) (z ∷ more) some opening = by_first (cases_eq z open_gate)
  where
    by_first : (z ≡ open_gate) ⊎ (z ≡ open_gate → ⊥) → (is_open (z ∷ more) ≡ false) ⊎ (z ∷ more ≡ open_gate ∷ rest)
    by_first (inl e) = inr (ap (λ (k : ℕ). k ∷ more) e ∙ ap (λ (l : List ℕ). open_gate ∷ l) opening.rest)
    by_first (inr other) = inl (and_right (nat_le 2 (length (z ∷ more))) (z == open_gate) (ne_eqb z open_gate other))

-- the three parts
module _ (first closing filling opening : DiskState) (rest b : List ℕ) where
  pub making_closed : LeavesOnly first closing (IsSameOrNotOpen b) → LeavesOnly first closing (IsMaking b (open_gate ∷ rest))
  making_closed work = leaves_more first closing (IsMaking b (open_gate ∷ rest)) (IsSameOrNotOpen b) work (λ c same. ⊎_elim (λ e. inl e) (λ e. inr (inl e)) same)

  pub making_filled : LeavesOnly first closing (IsSameOrNotOpen b) → LeavesOnly closing filling (IsShutAt 0) → LeavesOnly first filling (IsMaking b (open_gate ∷ rest))
  making_filled work more = leaves_on first closing filling (IsMaking b (open_gate ∷ rest)) (IsShutAt 0) (making_closed work) more (λ c shut. inr (inl (not_open c shut)))

  pub making_opened : (held : List ℕ) → 0 < length held → LeavesOnly first closing (IsSameOrNotOpen b) → LeavesOnly closing filling (IsShutAt 0) → LeavesOnly filling opening (IsOpening (filled rest held)) → LeavesOnly first opening (IsMaking b (open_gate ∷ rest))
  making_opened held some work more last = leaves_on first filling opening (IsMaking b (open_gate ∷ rest)) (IsOpening (filled rest held)) (making_filled work more) last (λ c step. inr (opening_made rest held c some step))

-- what is told now was told before
pub was_told : (old new : Option (List ℕ)) (b : List ℕ) → is_some new ≡ is_some old → new ≡ Some b → ((a : List ℕ) × (old ≡ Some a))
was_told None (Some x) b same told = absurd (true≢false same)
was_told None None b same told = cc
was_told (Some a) new b same told = (a, refl)

pub same_some : (a b : List ℕ) → Some a ≡ Some b → a ≡ b
same_some a b e = cc

pub closed_told : (old new : Option (List ℕ)) (b : List ℕ) → new ≡ option_map closed old → old ≡ Some b → new ≡ Some (closed b)
closed_told old new b value told = value ∙ ap (option_map closed) told

pub opened_told : (rest : List ℕ) (filling new : Option (List ℕ)) (b : List ℕ) → new ≡ option_map opened filling → 0 < length b → filling ≡ Some (filled rest b) → new ≡ Some (open_gate ∷ rest)
opened_told rest filling new b value some told = value ∙ ap (option_map opened) told ∙ ap Some (opened_filled rest b some)

-- a sync
pub synced : (old new : DiskState) → IsSound old → Elapses old new → ((c : List ℕ) → new.image c → old.image c) → LeavesOnly old new old.image
synced old new sound time crash = called old new old.image sound time (λ c image. image) crash

-- which files are open
holds_made : (form : Form) (generation : ℕ) (file : List ℕ) → is_made (holds form generation file) ≡ true
holds_made form generation file = by_test (has_base file)
  where
    by_test : (t : Bool) → is_made (cond t (Holds (store_with form generation (base_of file) (records_from (first_gate file) file))) NotAStore) ≡ true
    by_test true = refl
    by_test false = refl

made_by : (o p : Opening) (x y : List ℕ) → is_made (choose o p x y) ≡ any_open o p
made_by NotOpen NotOpen x y = refl
made_by NotOpen Foreign x y = refl
made_by NotOpen (Marked form g) x y = holds_made form g y
made_by Foreign NotOpen x y = refl
made_by Foreign Foreign x y = refl
made_by Foreign (Marked form g) x y = refl
made_by (Marked form g) NotOpen x y = holds_made form g x
made_by (Marked form g) Foreign x y = refl
made_by (Marked form g) (Marked form' g') x y = by_test (nat_le g' g)
  where
    by_test : (t : Bool) → is_made (cond t (holds form g x) (holds form' g' y)) ≡ true
    by_test true = holds_made form g x
    by_test false = holds_made form' g' y

-- by what both files say
pub made_is : (o p : Opening) (x y : List ℕ) (t : Bool) → o ≡ opening_of x → p ≡ opening_of y → any_open o p ≡ t → is_made (folder x y) ≡ t
made_is o p x y t first second is =
    made_by (opening_of x) (opening_of y) x y ∙ sym (ap (λ (q : Opening). any_open q (opening_of y)) first) ∙ sym (ap (any_open o) second) ∙ is

pub none_open : (o p : Opening) → any_open o p ≡ false → (o ≡ NotOpen) × (p ≡ NotOpen)
none_open NotOpen NotOpen e = (refl, refl)
none_open NotOpen Foreign e = absurd (true≢false e)
none_open NotOpen (Marked form g) e = absurd (true≢false e)
none_open Foreign NotOpen e = absurd (true≢false e)
none_open Foreign Foreign e = absurd (true≢false e)
none_open Foreign (Marked form g) e = absurd (true≢false e)
none_open (Marked form g) NotOpen e = absurd (true≢false e)
none_open (Marked form g) Foreign e = absurd (true≢false e)
none_open (Marked form g) (Marked form' g') e = absurd (true≢false e)

pub not_made : (x y : List ℕ) → folder x y ≡ NotMade → (opening_of x ≡ NotOpen) × (opening_of y ≡ NotOpen)
not_made x y e = none_open (opening_of x) (opening_of y) (sym (made_by (opening_of x) (opening_of y) x y) ∙ ap is_made e)

pub none_here : (x y : List ℕ) → opening_of x ≡ NotOpen → opening_of y ≡ NotOpen → folder x y ≡ NotMade
none_here x y first second = ap (λ (o : Opening). choose o (opening_of y) x y) first ∙ ap (λ (o : Opening). choose NotOpen o x y) second

-- a new file beside one that gives way
pub new_beside : (s : Bool) (g : ℕ) (base : Base) (y : List ℕ) → 1 ≤ g → g ≤ 2 ^ 62 → base.fired ≤ 2 ^ 62 → base.next ≤ 2 ^ 62 → length base.text < 2 ^ 32 → gives_way s g (opening_of y) ≡ true → pair_of s (file_of g base) y ≡ Holds (new_store g base)
new_beside s g base y least most fired next small way =
    beside s Two g (file_of g base) y (new_opening g base least most fired next small) way
    ∙ at_end_here Two base g (33 + length base.text) 0 (file_of g base) (new_chosen g base least most fired next small) (new_shut g base least most fired next small)

-- a new store beside a file that isn't open
pub first_store : (base : Base) (y : List ℕ) → base.fired ≤ 2 ^ 62 → base.next ≤ 2 ^ 62 → length base.text < 2 ^ 32 → opening_of y ≡ NotOpen → folder (file_of 1 base) y ≡ Holds (new_store 1 base)
first_store base y fired next small shut = new_beside false 1 base y (omega arith) (omega arith) fired next small (ap (gives_way false 1) shut)

-- while the first file of a store is made beside one that isn't open
pub none_or_new : (base : Base) (x y c : List ℕ) → base.fired ≤ 2 ^ 62 → base.next ≤ 2 ^ 62 → length base.text < 2 ^ 32 → folder x y ≡ NotMade → IsMaking x (file_of 1 base) c → IsNoneOrNew base (folder c y)
none_or_new base x y c fired next small none making =
    let shut = not_made x y none in
    ⊎_elim (λ (same : c ≡ x). inl (ap (λ (l : List ℕ). folder l y) same ∙ none))
    (λ rest. ⊎_elim (λ (closed : is_open c ≡ false). inl (none_here c y (closed_opening c closed) shut.1))
    (λ (new : c ≡ file_of 1 base). inr (ap (λ (l : List ℕ). folder l y) new ∙ first_store base y fired next small shut.1)) rest) making

pub made_since : (first mid last : DiskState) (x new : List ℕ) → Only x first.image → LeavesOnly first mid first.image → LeavesOnly mid last (IsMaking x new) → LeavesOnly first last (IsMaking x new)
made_since first mid last x new only synced work =
    leaves_on first mid last (IsMaking x new) (IsMaking x new) (leaves_more first mid (IsMaking x new) first.image synced (λ c image. inl (only c image))) work (λ c making. making)

-- a text that is allowed is short
pub allowed_small : (net_bytes file_bytes size : ℕ) → net_bytes ≤ 2 ^ 31 → is_allowed net_bytes file_bytes size ≡ true → size < 2 ^ 32
allowed_small net_bytes file_bytes size bound allowed = let le : size ≤ net_bytes = leb-true size net_bytes (and_parts (nat_le size net_bytes) (nat_le (34 + size) file_bytes) allowed).0 in omega (arith, le, bound)
