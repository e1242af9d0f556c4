-- Tokens taken and given one after the other: the marking that is left, the count of each row, and which count is over first.
use Rattle.std.proofs.Common.{◌≡◌, ℕ, ◌+◌, ◌-◌, ◌<◌, ◌≤◌, ◌^◌, zero, suc, Bool, true, false, cond, ◌&&◌, ◌||◌, if◌then◌else◌, List, [], ◌∷◌, map, refl, sym, ap, ◌∙◌, subst, inl, inr, ⊎_elim, Option, Some, None, arith, length, eqb, length-set, get_or-set_other}
use Rattle.std.specs.Prelude.{nat_le}
use Rattle.std.specs.List.{list_any}
use Rattle.std.specs.List.Sorted.{IsStrictlySortedBy}
use Rattle.std.specs.Map.{lookup, keys_of}
use Rattle.std.specs.Option.{unwrap_or, option_map, IfSome}
use Rattle.std.specs.Ordering.{is_eq, is_lt, nat_cmp, ordering_then, ordering_reverse}
use Rattle.std.specs.declared.cmp.Ordering.{Ordering}
use Rattle.std.specs.declared.cmp.Ordering.TheVariants.{Less, Equal, Greater}
use Rattle.std.specs.Cmp.{IsTotalOrder, nat_cmp_total, tied_itself}
use Rattle.std.specs.Cmp.Lexicographic.{slice_cmp}
use Rattle.std.specs.FinMap.{IsAntisymmetric}
use Rattle.std.specs.BTreeMap.{is_at}
use Rattle.std.proofs.lemmas.Bool.{and_parts, leb-true, leb-false, le-leb, lt-leb, eqb-true, eq-eqb, ne_eqb, cases_eq}
use Rattle.std.proofs.lemmas.Map.Keys.{ge_from_not_lt, sorted_tail}
use Rattle.dbn_value.specs.Members.{In}
use Rattle.dbn_value.proofs.AscendingLaws.{head_below, is_one}
use Rattle.dbn_value.proofs.EntryLaws.{is_at_itself}
use Rattle.dbn_value.proofs.MemberLaws.{all_at, all_from, none_from, map_in}
use Rattle.dbn_marking.specs.Counts.{place_of, count_at, with_tokens, without_tokens, IsCounted, IsMarking}
use Rattle.dbn_marking.proofs.CountLaws.{count_given, count_left, marking_given, marking_left, place_counted}
use Rattle.dbn_net.specs.declared.want.Want.{Want}
use Rattle.dbn_net.specs.Wants.{spot_of, spot_order, AreWants, contained}
use Rattle.dbn_core.specs.Moves.{Tokens, AreGifts, is_over, first_over, taken_all, given_all, first_full, CanTake, CanGive}

-- ---- the order of places and rows

and_false : (b : Bool) → (b && false) ≡ false
and_false true = refl
and_false false = refl

not_after : (a b : Ordering) → ordering_then a b ≡ Less → is_lt (ordering_reverse a) ≡ false
not_after Less b e = refl
not_after Equal b e = refl
not_after Greater b e = cc

rises_by : (a b : ℕ) (r : Ordering) → ordering_then (nat_cmp a b) r ≡ Less → a ≤ b
rises_by a b r e = ge_from_not_lt b a (ap is_lt (nat_cmp_total.antisymm b a) ∙ not_after (nat_cmp a b) r e)

rest_decides : (a b : ℕ) (r : Ordering) → a ≡ b → ordering_then (nat_cmp a b) r ≡ Less → r ≡ Less
rest_decides a b r same e = ap (λ c. ordering_then c r) (sym (tied_itself nat_cmp_total a) ∙ ap (λ n. nat_cmp a n) same) ∙ e

-- ---- counts that are over

or_late : (b c : Bool) → c ≡ true → (b || c) ≡ true
or_late true c is = refl
or_late false c is = is

-- a row that is looked up with such a count stands there
over_from : {K : Type 0} (t : K → Bool) (held : List (K × ℕ)) → 2 ^ 32 ≤ unwrap_or (lookup t held) 0 → list_any (λ counted. nat_le (2 ^ 32) counted.1) held ≡ true
over_from t [] large = absurd (omega (arith, large))
over_from {K} t (e ∷ held) large = by (t e.0) large (λ rest. over_from t held rest)
  where
    by : (b : Bool) → 2 ^ 32 ≤ unwrap_or (cond b (Some e.1) (lookup t held)) 0 → (2 ^ 32 ≤ unwrap_or (lookup t held) 0 → list_any (λ (c : K × ℕ). nat_le (2 ^ 32) c.1) held ≡ true)
        → list_any (λ (c : K × ℕ). nat_le (2 ^ 32) c.1) (e ∷ held) ≡ true
    by true here rest = ap (λ b. b || list_any (λ (c : K × ℕ). nat_le (2 ^ 32) c.1) held) (le-leb (2 ^ 32) e.1 here)
    by false there rest = or_late (nat_le (2 ^ 32) e.1) (list_any (λ (c : K × ℕ). nat_le (2 ^ 32) c.1) held) (rest there)

place_within : {C : Type 0} (R : List C → List C → Ordering) (m : Tokens C) (p : ℕ) (q : List C) → 0 < count_at R m p q → p < length m
place_within R [] p q some = absurd (omega (arith, some))
place_within R (held ∷ m) zero q some = omega arith
place_within R (held ∷ m) (suc p) q some = let rest = place_within R m p q some in omega (arith, rest)

first_is : {C : Type 0} (m : Tokens C) (p : ℕ) → is_over (place_of m p) ≡ true → ((q : ℕ) → q < p → is_over (place_of m q) ≡ false) → first_over m ≡ Some p
first_is [] p over below = absurd cc
first_is (held ∷ m) zero over below = ap (λ b. if b then Some 0 else option_map (λ n. n + 1) (first_over m)) over
first_is (held ∷ m) (suc p) over below =
    let next : p + 1 ≡ suc p = omega arith in
    ap (λ b. if b then Some 0 else option_map (λ n. n + 1) (first_over m)) (below 0 (omega arith))
    ∙ ap (λ o. option_map (λ n. n + 1) o) (first_is m p over (λ q less. below (suc q) (omega (arith, less))))
    ∙ ap (λ n. Some n) next

module _ {C : Type 0} (cmp : C → C → Ordering) (o : IsTotalOrder (slice_cmp cmp)) where
  -- wants that come later are of another place or row
  pub apart : (w v : Want C) → spot_order cmp (spot_of w) (spot_of v) ≡ Less → (eqb v.place w.place && is_at (slice_cmp cmp w.row) v.row) ≡ false
  apart w v less =
      ⊎_elim
      (λ here. ap (λ r. eqb v.place w.place && is_eq r) (rest_decides w.place v.place (slice_cmp cmp w.row v.row) (sym here) less) ∙ and_false (eqb v.place w.place))
      (λ other. ap (λ b. b && is_at (slice_cmp cmp w.row) v.row) (ne_eqb v.place w.place other))
      (cases_eq v.place w.place)

  pub apart_before : (w v : Want C) → spot_order cmp (spot_of w) (spot_of v) ≡ Less → (eqb w.place v.place && is_at (slice_cmp cmp v.row) w.row) ≡ false
  apart_before w v less =
      ⊎_elim
      (λ here. ap (λ r. eqb w.place v.place && is_eq r) (o.antisymm v.row w.row ∙ ap ordering_reverse (rest_decides w.place v.place (slice_cmp cmp w.row v.row) here less)) ∙ and_false (eqb w.place v.place))
      (λ other. ap (λ b. b && is_at (slice_cmp cmp v.row) w.row) (ne_eqb w.place v.place other))
      (cases_eq w.place v.place)

  later : (w v : Want C) (ws : List (Want C)) → AreWants cmp (w ∷ ws) → In v ws → spot_order cmp (spot_of w) (spot_of v) ≡ Less
  later w v ws sorted at = head_below (spot_order cmp) (spot_of w) (map spot_of ws) (spot_of v) sorted (map_in spot_of v ws at)

  sorted_rest : (w : Want C) (ws : List (Want C)) → AreWants cmp (w ∷ ws) → AreWants cmp ws
  sorted_rest w ws sorted = sorted_tail (spot_order cmp) (spot_of w) (map spot_of ws) sorted

  -- ---- a marking has no count that is over

  -- each row stands there with the count that is looked up
  own_count : (held : List (List C × ℕ)) (c : List C × ℕ) → IsStrictlySortedBy (slice_cmp cmp) (keys_of held) → In c held → lookup (is_at (slice_cmp cmp c.0)) held ≡ Some c.1
  own_count [] c sorted at = absurd at
  own_count (e ∷ held) c sorted at =
      ⊎_elim
      (λ here. subst (λ (x : List C × ℕ). lookup (is_at (slice_cmp cmp x.0)) (e ∷ held) ≡ Some x.1) (sym here) (ap (λ b. if b then Some e.1 else lookup (is_at (slice_cmp cmp e.0)) held) (is_at_itself o e.0)))
      (λ there.
      let below : slice_cmp cmp e.0 c.0 ≡ Less = head_below (slice_cmp cmp) e.0 (keys_of held) c.0 sorted (map_in (λ (x : List C × ℕ). x.0) c held there) in
      let other : is_at (slice_cmp cmp c.0) e.0 ≡ false = ap is_eq (o.antisymm c.0 e.0 ∙ ap ordering_reverse below) in
      ap (λ b. if b then Some e.1 else lookup (is_at (slice_cmp cmp c.0)) held) other
      ∙ own_count held c (sorted_tail (slice_cmp cmp) e.0 (keys_of held) sorted) there)
      at

  some_small : (found : Option ℕ) (n : ℕ) → found ≡ Some n → IfSome found (λ k. (0 < k) × (k < 2 ^ 32)) → n < 2 ^ 32
  some_small None n is fits = absurd cc
  some_small (Some k) n is fits = let same : k ≡ n = cc in subst (λ j. j < 2 ^ 32) same fits.1

  not_over : (held : List (List C × ℕ)) → IsCounted (slice_cmp cmp) held → is_over held ≡ false
  not_over held counted =
      none_from (λ (c : List C × ℕ). nat_le (2 ^ 32) c.1) held
      (λ c at. lt-leb (2 ^ 32) c.1 (some_small (lookup (is_at (slice_cmp cmp c.0)) held) c.1 (own_count held c counted.ascends at) (counted.within c.0)))

  pub none_over : (m : Tokens C) → IsMarking (slice_cmp cmp) m → first_over m ≡ None
  none_over [] counted = refl
  none_over (held ∷ m) counted =
      ap (λ b. if b then Some 0 else option_map (λ n. n + 1) (first_over m)) (not_over held counted.0) ∙ ap (λ found. option_map (λ n. n + 1) found) (none_over m counted.1)

  -- ---- taking

  pub taken_length : (ws : List (Want C)) (m : Tokens C) → length (taken_all cmp ws m) ≡ length m
  taken_length [] m = refl
  taken_length (w ∷ ws) m = taken_length ws _ ∙ length-set m w.place _

  pub taken_marking : (ws : List (Want C)) (m : Tokens C) → CanTake cmp ws m → IsMarking (slice_cmp cmp) m → IsMarking (slice_cmp cmp) (taken_all cmp ws m)
  taken_marking [] m can counted = counted
  taken_marking (w ∷ ws) m can counted = taken_marking ws _ can.3 (marking_left o m w.place w.row w.many counted can.1 can.2)

  -- where all are wanted of the marking and are there, each is there when its turn comes
  pub can_take : (ws : List (Want C)) (m : Tokens C) → AreWants cmp ws → ((w : Want C) → In w ws → 0 < w.many) → IsMarking (slice_cmp cmp) m → contained cmp ws m ≡ true → CanTake cmp ws m
  can_take [] m sorted some counted there = tt
  can_take (w ∷ ws) m sorted some counted there =
      let parts = and_parts (nat_le w.many (count_at (slice_cmp cmp) m w.place w.row)) (contained cmp ws m) there in
      let enough : w.many ≤ count_at (slice_cmp cmp) m w.place w.row = leb-true _ _ parts.0 in
      let one : 0 < w.many = some w (inl refl) in
      let any : 0 < count_at (slice_cmp cmp) m w.place w.row = omega (arith, one, enough) in
      let within : w.place < length m = place_within (slice_cmp cmp) m w.place w.row any in
      let left : Tokens C = without_tokens (slice_cmp cmp) m w.place w.row w.many in (
        within,
        one,
        enough,
        can_take ws left (sorted_rest w ws sorted) (λ v at. some v (inr at)) (marking_left o m w.place w.row w.many counted one enough)
            (all_from (λ (v : Want C). nat_le v.many (count_at (slice_cmp cmp) left v.place v.row)) ws
            (λ v at.
            let same : count_at (slice_cmp cmp) left v.place v.row ≡ count_at (slice_cmp cmp) m v.place v.row =
            count_left o m w.place w.row w.many counted within one enough v.place v.row
            ∙ ap (λ b. cond b (count_at (slice_cmp cmp) m w.place w.row - w.many) (count_at (slice_cmp cmp) m v.place v.row)) (apart w v (later w v ws sorted at)) in
            subst (λ n. nat_le v.many n ≡ true) (sym same) (all_at (λ (v : Want C). nat_le v.many (count_at (slice_cmp cmp) m v.place v.row)) v ws parts.1 at))),
      )

  -- rows that are not taken keep their counts
  pub other_taken : (ws : List (Want C)) (m : Tokens C) (p : ℕ) (q : List C) → CanTake cmp ws m → IsMarking (slice_cmp cmp) m
      → ((w : Want C) → In w ws → (eqb p w.place && is_at (slice_cmp cmp w.row) q) ≡ false) → count_at (slice_cmp cmp) (taken_all cmp ws m) p q ≡ count_at (slice_cmp cmp) m p q
  other_taken [] m p q can counted other = refl
  other_taken (w ∷ ws) m p q can counted other =
      other_taken ws _ p q can.3 (marking_left o m w.place w.row w.many counted can.1 can.2) (λ v at. other v (inr at))
      ∙ count_left o m w.place w.row w.many counted can.0 can.1 can.2 p q
      ∙ ap (λ b. cond b (count_at (slice_cmp cmp) m w.place w.row - w.many) (count_at (slice_cmp cmp) m p q)) (other w (inl refl))

  -- ---- giving

  pub given_length : (ws : List (Want C)) (m : Tokens C) → length (given_all cmp ws m) ≡ length m
  given_length [] m = refl
  given_length (w ∷ ws) m = given_length ws _ ∙ length-set m w.place _

  pub given_marking : (ws : List (Want C)) (m : Tokens C) → CanGive cmp ws m → IsMarking (slice_cmp cmp) m → IsMarking (slice_cmp cmp) (given_all cmp ws m)
  given_marking [] m can counted = counted
  given_marking (w ∷ ws) m can counted = given_marking ws _ can.3 (marking_given o m w.place w.row w.many counted can.1 can.2)

  pub other_given : (ws : List (Want C)) (m : Tokens C) (p : ℕ) (q : List C) → ((w : Want C) → In w ws → w.place < length m)
      → ((w : Want C) → In w ws → (eqb p w.place && is_at (slice_cmp cmp w.row) q) ≡ false) → count_at (slice_cmp cmp) (given_all cmp ws m) p q ≡ count_at (slice_cmp cmp) m p q
  other_given [] m p q within other = refl
  other_given (w ∷ ws) m p q within other =
      other_given ws _ p q (λ v at. subst (λ n. v.place < n) (sym (length-set m w.place _)) (within v (inr at))) (λ v at. other v (inr at))
      ∙ count_given o m w.place w.row w.many (within w (inl refl)) p q
      ∙ ap (λ b. cond b (count_at (slice_cmp cmp) m w.place w.row + w.many) (count_at (slice_cmp cmp) m p q)) (other w (inl refl))

  -- the test looks at the counts of the wanted rows alone
  full_same : (ws : List (Want C)) (m n : Tokens C) → ((v : Want C) → In v ws → count_at (slice_cmp cmp) n v.place v.row ≡ count_at (slice_cmp cmp) m v.place v.row)
      → first_full cmp ws n ≡ first_full cmp ws m
  full_same [] m n same = refl
  full_same (w ∷ ws) m n same =
      ap (λ k. if nat_le (2 ^ 32) (k + w.many) then Some w.place else first_full cmp ws n) (same w (inl refl))
      ∙ ap (λ rest. if nat_le (2 ^ 32) (count_at (slice_cmp cmp) m w.place w.row + w.many) then Some w.place else rest) (full_same ws m n (λ v at. same v (inr at)))

  -- tokens that come later are of rows that keep their counts
  full_after : (w : Want C) (ws : List (Want C)) (m : Tokens C) → AreWants cmp (w ∷ ws) → w.place < length m
      → first_full cmp ws (with_tokens (slice_cmp cmp) m w.place w.row w.many) ≡ first_full cmp ws m
  full_after w ws m sorted within =
      full_same ws m (with_tokens (slice_cmp cmp) m w.place w.row w.many)
      (λ v at. count_given o m w.place w.row w.many within v.place v.row
      ∙ ap (λ b. cond b (count_at (slice_cmp cmp) m w.place w.row + w.many) (count_at (slice_cmp cmp) m v.place v.row)) (apart w v (later w v ws sorted at)))

  gifts_rest : (w : Want C) (ws : List (Want C)) (m : Tokens C) (n : ℕ) → AreGifts (length m) (w ∷ ws) → AreGifts (length (with_tokens (slice_cmp cmp) m w.place w.row n)) ws
  gifts_rest w ws m n each v at = subst (λ k. (v.place < k) × (0 < v.many)) (sym (length-set m w.place _)) (each v (inr at))

  -- where no count would be over, all can be given
  pub can_give : (ws : List (Want C)) (m : Tokens C) → AreWants cmp ws → AreGifts (length m) ws → first_full cmp ws m ≡ None → CanGive cmp ws m
  can_give [] m sorted each none = tt
  can_give (w ∷ ws) m sorted each none =
      by (nat_le (2 ^ 32) (count_at (slice_cmp cmp) m w.place w.row + w.many)) refl none
      (λ rest. can_give ws (with_tokens (slice_cmp cmp) m w.place w.row w.many) (sorted_rest w ws sorted) (gifts_rest w ws m w.many each) rest)
    where
      by : (b : Bool) → nat_le (2 ^ 32) (count_at (slice_cmp cmp) m w.place w.row + w.many) ≡ b → cond b (Some w.place) (first_full cmp ws m) ≡ None
          → (first_full cmp ws (with_tokens (slice_cmp cmp) m w.place w.row w.many) ≡ None → CanGive cmp ws (with_tokens (slice_cmp cmp) m w.place w.row w.many)) → CanGive cmp (w ∷ ws) m
      by true full none rest = absurd cc
      by false room none rest =
          let own = each w (inl refl) in
          (own.0, own.1, leb-false (2 ^ 32) (count_at (slice_cmp cmp) m w.place w.row + w.many) room, rest (full_after w ws m sorted own.0 ∙ none))

  -- ---- the first place that is over is that of the first tokens that would bring a count above its limit

  kept_place : (ws : List (Want C)) (m : Tokens C) (q : ℕ) → ((w : Want C) → In w ws → q < w.place) → place_of (given_all cmp ws m) q ≡ place_of m q
  kept_place [] m q above = refl
  kept_place (w ∷ ws) m q above =
      let less : q < w.place = above w (inl refl) in
      kept_place ws _ q (λ v at. above v (inr at)) ∙ get_or-set_other m w.place q _ [] (λ same. absurd (omega (arith, less, same)))

  module _ (exact : IsAntisymmetric (slice_cmp cmp)) where
    rises : (ws : List (Want C)) (m : Tokens C) → AreGifts (length m) ws → (p : ℕ) (q : List C) → count_at (slice_cmp cmp) m p q ≤ count_at (slice_cmp cmp) (given_all cmp ws m) p q
    rises [] m each p q = omega arith
    rises (w ∷ ws) m each p q =
        let one = by (eqb p w.place && is_at (slice_cmp cmp w.row) q) refl in
        let step : count_at (slice_cmp cmp) m p q ≤ count_at (slice_cmp cmp) (with_tokens (slice_cmp cmp) m w.place w.row w.many) p q =
        subst (λ n. count_at (slice_cmp cmp) m p q ≤ n) (sym (count_given o m w.place w.row w.many (each w (inl refl)).0 p q)) one in
        let rest = rises ws (with_tokens (slice_cmp cmp) m w.place w.row w.many) (gifts_rest w ws m w.many each) p q in
        omega (arith, step, rest)
      where
        by : (b : Bool) → (eqb p w.place && is_at (slice_cmp cmp w.row) q) ≡ b
            → count_at (slice_cmp cmp) m p q ≤ cond b (count_at (slice_cmp cmp) m w.place w.row + w.many) (count_at (slice_cmp cmp) m p q)
        by true same =
            let parts = and_parts (eqb p w.place) (is_at (slice_cmp cmp w.row) q) same in
            let is : count_at (slice_cmp cmp) m p q ≡ count_at (slice_cmp cmp) m w.place w.row =
            ap (λ i. count_at (slice_cmp cmp) m i q) (eqb-true p w.place parts.0) ∙ ap (λ r. count_at (slice_cmp cmp) m w.place r) (sym (is_one o exact w.row q parts.1)) in
            omega (arith, is)
        by false other = omega arith

    full_first : (w : Want C) (ws : List (Want C)) (m : Tokens C) → AreWants cmp (w ∷ ws) → AreGifts (length m) (w ∷ ws) → IsMarking (slice_cmp cmp) m
        → 2 ^ 32 ≤ count_at (slice_cmp cmp) m w.place w.row + w.many → first_over (given_all cmp (w ∷ ws) m) ≡ Some w.place
    full_first w ws m sorted each counted full =
        let own = each w (inl refl) in
        let next : Tokens C = with_tokens (slice_cmp cmp) m w.place w.row w.many in
        let there : count_at (slice_cmp cmp) next w.place w.row ≡ count_at (slice_cmp cmp) m w.place w.row + w.many =
        count_given o m w.place w.row w.many own.0 w.place w.row
        ∙ ap (λ b. cond (b && is_at (slice_cmp cmp w.row) w.row) (count_at (slice_cmp cmp) m w.place w.row + w.many) (count_at (slice_cmp cmp) m w.place w.row)) (eq-eqb w.place w.place refl)
        ∙ ap (λ b. cond b (count_at (slice_cmp cmp) m w.place w.row + w.many) (count_at (slice_cmp cmp) m w.place w.row)) (is_at_itself o w.row) in
        let more = rises ws next (gifts_rest w ws m w.many each) w.place w.row in
        let large : 2 ^ 32 ≤ count_at (slice_cmp cmp) (given_all cmp ws next) w.place w.row = omega (arith, full, there, more) in
        first_is (given_all cmp ws next) w.place (over_from (is_at (slice_cmp cmp w.row)) (place_of (given_all cmp ws next) w.place) large)
        (λ q less.
        ap is_over (kept_place ws next q (λ v at. let up = rises_by w.place v.place (slice_cmp cmp w.row v.row) (later w v ws sorted at) in omega (arith, less, up))
        ∙ get_or-set_other m w.place q _ [] (λ same. absurd (omega (arith, less, same))))
        ∙ not_over (place_of m q) (place_counted (slice_cmp cmp) m q counted))

    pub full_is_over : (ws : List (Want C)) (m : Tokens C) → AreWants cmp ws → AreGifts (length m) ws → IsMarking (slice_cmp cmp) m → first_over (given_all cmp ws m) ≡ first_full cmp ws m
    full_is_over [] m sorted each counted = none_over m counted
    full_is_over (w ∷ ws) m sorted each counted =
        by (nat_le (2 ^ 32) (count_at (slice_cmp cmp) m w.place w.row + w.many)) refl
        (λ kept. full_is_over ws (with_tokens (slice_cmp cmp) m w.place w.row w.many) (sorted_rest w ws sorted) (gifts_rest w ws m w.many each) kept)
      where
        by : (b : Bool) → nat_le (2 ^ 32) (count_at (slice_cmp cmp) m w.place w.row + w.many) ≡ b
            → (IsMarking (slice_cmp cmp) (with_tokens (slice_cmp cmp) m w.place w.row w.many)
            → first_over (given_all cmp ws (with_tokens (slice_cmp cmp) m w.place w.row w.many)) ≡ first_full cmp ws (with_tokens (slice_cmp cmp) m w.place w.row w.many))
            → first_over (given_all cmp (w ∷ ws) m) ≡ cond b (Some w.place) (first_full cmp ws m)
        by true full rest = full_first w ws m sorted each counted (leb-true (2 ^ 32) (count_at (slice_cmp cmp) m w.place w.row + w.many) full)
        by false room rest =
            let own = each w (inl refl) in
            rest (marking_given o m w.place w.row w.many counted own.1 (leb-false (2 ^ 32) (count_at (slice_cmp cmp) m w.place w.row + w.many) room)) ∙ full_after w ws m sorted own.0
