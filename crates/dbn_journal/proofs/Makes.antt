-- What a crash leaves while a file is made.
use Rattle.std.proofs.Common.{nat_le, get_or, inl, ◌≡◌, ℕ, suc, ◌+◌, ◌-◌, ◌<◌, true, false, ◌==◌, List, [], ◌∷◌, ◌++◌, length, take, drop, Option, None, Some, inr, refl, sym, ap, subst, ◌∙◌, arith, length-drop, append-nil, eq-eqb}
use Rattle.std.specs.Option.{option_map}
use Rattle.std.proofs.lemmas.List.{ext_get_or, get_or-drop, length-take, take_at, drop_all}
use Rattle.std.proofs.lemmas.Bool.{and_left, and_right, lt-leb, eqb-true, not-false, true≢false, false≢true, not-true, cond-true, cond-false}
use Rattle.dbn_disk.specs.Disk.{DiskState, Torn, Cut, Follows, Only, Still, Elapses, LeavesOnly, IsSound, written, padded, zeros}
use Rattle.dbn_disk.specs.SoundLaws.{length-padded}
use Rattle.dbn_disk.proofs.Going.{started, called, leaves_on, leaves_more, after_still}
use Rattle.dbn_journal.specs.Records.{open_gate, IsShutAt}
use Rattle.dbn_journal.specs.Making.{has_shut_first, closed, filled, opened, IsClosing, IsOpening, IsSameOrNotOpen}
use Rattle.dbn_journal.proofs.Appends.{shut_stays}

-- a torn write of the first byte leaves the others
pub torn_rest : (old new : List ℕ) → Torn 0 1 old new → drop 1 new ≡ drop 1 old
torn_rest old new torn =
    ext_get_or 0 (drop 1 new) (drop 1 old) (omega (arith, length-drop 1 new, length-drop 1 old, torn.no_shorter, torn.no_longer)) (λ i under.
    get_or-drop 1 new i 0 ∙ torn.same (1 + i) (omega (arith, length-drop 1 new, torn.no_shorter, torn.no_longer)) (inr (omega arith)) ∙ sym (get_or-drop 1 old i 0))

pub first_written : (byte : ℕ) (b : List ℕ) → written 0 (byte ∷ []) b ≡ byte ∷ drop 1 b
first_written byte [] = refl
first_written byte (first ∷ rest) = ap (λ (k : ℕ). byte ∷ (rest ++ zeros k)) (let e : 1 - suc (length rest) ≡ 0 = omega arith in e) ∙ ap (λ (l : List ℕ). byte ∷ l) (append-nil rest)

pub shut_first : (b : List ℕ) → has_shut_first b ≡ true → IsShutAt 0 b
shut_first [] e = absurd (false≢true e)
shut_first (first ∷ rest) e = record { there = omega arith; shut = λ same. true≢false (sym (eq-eqb first open_gate same) ∙ not-true (first == open_gate) e) }

-- a file whose first byte is shut is as it is to be
pub kept_closed : (content : Option (List ℕ)) → ((b : List ℕ) → content ≡ Some b → has_shut_first b ≡ true) → content ≡ option_map closed content
kept_closed None shut = refl
kept_closed (Some b) shut = ap Some (sym (cond-true (has_shut_first b) b (0 ∷ drop 1 b) (shut b refl)))

-- of another one the first byte is written
pub closed_written : (content : Option (List ℕ)) → ((b : List ℕ) → content ≡ Some b → has_shut_first b ≡ false) → option_map (written 0 (0 ∷ [])) content ≡ option_map closed content
closed_written None other = refl
closed_written (Some b) other = ap Some (first_written 0 b ∙ sym (cond-false (has_shut_first b) b (0 ∷ drop 1 b) (other b refl)))

pub shut_written : (b : List ℕ) → IsShutAt 0 (written 0 (0 ∷ []) b)
shut_written b = subst (IsShutAt 0) (sym (first_written 0 b)) (record { there = omega arith; shut = λ e. absurd (omega arith) })

pub first_opened : (content : Option (List ℕ)) → option_map (written 0 (open_gate ∷ [])) content ≡ option_map opened content
first_opened None = refl
first_opened (Some b) = ap Some (first_written open_gate b)

-- a cut behind the first byte leaves it
pub cut_shut : (old new : List ℕ) → Cut 1 old new → IsShutAt 0 old → IsShutAt 0 new
cut_shut old new cut shut =
    let there : 0 < length new = omega (arith, cut.no_shorter, shut.there) in
    record { there = there; shut = λ e. shut.shut (sym (cut.same 0 (omega arith) there) ∙ e) }

pub filled_written : (rest b : List ℕ) → 0 < length b → written 1 rest (take 1 b) ≡ filled rest b
filled_written rest b some =
    let first : length (take 1 b) ≡ 1 = omega (arith, length-take 1 b) in
    let wide : List ℕ = padded (1 + length rest) (take 1 b) in
    ap (λ (l : List ℕ). l ++ (rest ++ drop (1 + length rest) wide)) (take_at (take 1 b) (zeros (1 + length rest - length (take 1 b))) 1 first)
    ∙ ap (λ (l : List ℕ). take 1 b ++ (rest ++ l)) (drop_all (1 + length rest) wide (omega (arith, first, length-padded (1 + length rest) (take 1 b))))
    ∙ ap (λ (l : List ℕ). take 1 b ++ l) (append-nil rest)

-- the calls of each part
module _ (old mid new : DiskState) where
  pub closing_still : IsSound new → Still old new → LeavesOnly old new (IsClosing old.image)
  closing_still sound still = after_still old new new (IsClosing old.image) still (started new (IsClosing old.image) sound (λ c image. record { from = c; image = still.image c image; rest = refl }))

  pub closing_work : Still old mid → LeavesOnly mid new (λ c. ((d : List ℕ) × mid.image d × Torn 0 1 d c)) → LeavesOnly old new (IsClosing old.image)
  closing_work still work =
      after_still old mid new (IsClosing old.image) still
      (leaves_more mid new (IsClosing old.image) (λ c. ((d : List ℕ) × mid.image d × Torn 0 1 d c)) work (λ c torn. record { from = torn.0; image = still.image torn.0 torn.1; rest = torn_rest torn.0 c torn.2 }))

  module _ (sound : IsSound old) (shut : (c : List ℕ) → old.image c → IsShutAt 0 c) (time : Elapses old mid) (crash : Follows (Cut 1) old.image mid.image) where
    cut_image : (c : List ℕ) → mid.image c → IsShutAt 0 c
    cut_image c image = let from = crash c image in cut_shut from.0 c from.2 (shut from.0 from.1)

    pub filling_cut : LeavesOnly old mid (IsShutAt 0)
    filling_cut = called old mid (IsShutAt 0) sound time shut cut_image

    pub filling_work : (n : ℕ) → LeavesOnly mid new (λ c. ((d : List ℕ) × mid.image d × Torn 1 n d c)) → LeavesOnly old new (IsShutAt 0)
    filling_work n work =
        leaves_on old mid new (IsShutAt 0) (λ c. ((d : List ℕ) × mid.image d × Torn 1 n d c)) filling_cut work (λ c torn. shut_stays 0 1 n torn.0 c (omega arith) torn.2 (cut_image torn.0 torn.1))

  pub opening_work : (b : List ℕ) → IsShutAt 0 b → Only b old.image → LeavesOnly old new (λ c. ((d : List ℕ) × old.image d × Torn 0 1 d c)) → LeavesOnly old new (IsOpening b)
  opening_work b shut only work =
      leaves_more old new (IsOpening b) (λ c. ((d : List ℕ) × old.image d × Torn 0 1 d c)) work (λ c torn.
      let from : Torn 0 1 b c = subst (λ (d : List ℕ). Torn 0 1 d c) (only torn.0 torn.1) torn.2 in
      record { some = omega (arith, from.no_shorter, shut.there); rest = torn_rest b c from })

-- a torn write of the first byte of a file that is empty or open leaves it or one that isn't open
torn_open : (b c : List ℕ) → has_shut_first b ≡ false → Torn 0 1 b c → IsSameOrNotOpen b c
torn_open [] c other torn = inr (and_left (nat_le 2 (length c)) (get_or c 0 0 == open_gate) (lt-leb 2 (length c) (omega (arith, torn.no_longer))))
torn_open (first ∷ rest) [] other torn = absurd (omega (arith, torn.no_shorter))
torn_open (first ∷ rest) (z ∷ more) other torn = elim (z == open_gate) as (λ t. z == open_gate ≡ t → IsSameOrNotOpen (first ∷ rest) (z ∷ more)) [
  | true ↦ λ e. inl (
      ap (λ (k : ℕ). k ∷ more) (eqb-true z open_gate e ∙ sym (eqb-true first open_gate (not-false (first == open_gate) other)))
      ∙ ap (λ (l : List ℕ). first ∷ l) (torn_rest (first ∷ rest) (z ∷ more) torn)
      )
  | false ↦ λ e. inr (and_right (nat_le 2 (length (z ∷ more))) (z == open_gate) e)
] refl

pub closing_settled : (old mid new : DiskState) (b : List ℕ) → Still old mid → LeavesOnly mid new (λ c. ((d : List ℕ) × mid.image d × Torn 0 1 d c)) → Only b old.image → has_shut_first b ≡ false → LeavesOnly old new (IsSameOrNotOpen b)
closing_settled old mid new b still work only other =
    after_still old mid new (IsSameOrNotOpen b) still
    (leaves_more mid new (IsSameOrNotOpen b) (λ c. ((d : List ℕ) × mid.image d × Torn 0 1 d c)) work (λ c torn. torn_open b c other (subst (λ (d : List ℕ). Torn 0 1 d c) (only torn.0 (still.image torn.0 torn.1)) torn.2)))
