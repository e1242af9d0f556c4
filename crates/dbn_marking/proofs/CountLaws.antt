-- Counted rows after a change: they stay counted, and the count of each row.
use Rattle.std.proofs.Common.{◌≡◌, ℕ, zero, suc, ◌∷◌, ◌++◌, append_assoc, inl, inr, replicate, ◌+◌, ◌-◌, ◌<◌, ◌≤◌, ◌^◌, Bool, true, false, cond, eqb, List, refl, sym, ap, ◌∙◌, subst, Option, Some, None, Result, Ok, Err, arith, OnOk, OnErr, if◌then◌else◌, ◌&&◌, [], length, set, ⊎_elim, get_or-set_same, get_or-set_other}
use Rattle.std.specs.declared.cmp.Ordering.{Ordering}
use Rattle.std.specs.Cmp.{IsTotalOrder}
use Rattle.std.specs.Option.{unwrap_or, IfSome, IsSome}
use Rattle.std.specs.List.Sorted.{IsStrictlySortedBy}
use Rattle.std.specs.Map.{lookup, remove_entry, set_value, keys_of}
use Rattle.std.specs.BTreeMap.{is_at, insert_entry}
use Rattle.std.proofs.lemmas.Bool.{eqb-true, eqb-false, cond_both, cases_eq, eq-eqb, ne_eqb}
use Rattle.dbn_value.proofs.EntryLaws.{sorted_insert_entry, sorted_remove_entry, sorted_set_value, lookup_insert_entry, lookup_remove_entry, lookup_set_value}
use Rattle.dbn_value.proofs.AscendingLaws.{sorted_nil}
use Rattle.dbn_value.proofs.AppendLaws.{append_entry, past_those_before}
use Rattle.dbn_marking.specs.Counts.{IsCounted, IsMarking, place_of, count_of, added, taken, count_at, with_tokens, without_tokens}

-- a count that the place keeps
abbrev IsFit : ℕ → Type 0
IsFit n = (0 < n) × (n < 2 ^ 32)

fit_changed : (b : Bool) (n : ℕ) (before : Option ℕ) → IsFit n → IfSome before IsFit → IfSome (cond b (Some n) before) IsFit
fit_changed true n before fits old = fits
fit_changed false n before fits old = old

fit_removed : (b : Bool) (before : Option ℕ) → IfSome before IsFit → IfSome (cond b None before) IsFit
fit_removed true before old = tt
fit_removed false before old = old

small_count : (found : Option ℕ) → IfSome found IsFit → unwrap_or found 0 < 2 ^ 32
small_count None fits = omega arith
small_count (Some n) fits = fits.1

some_found : (found : Option ℕ) (many : ℕ) → 0 < many → many ≤ unwrap_or found 0 → IsSome found
some_found None many some there = absurd (omega arith)
some_found (Some n) many some there = refl

module _ {K : Type 0} {R : K → K → Ordering} where
  counted_nothing : IsCounted R []
  counted_nothing = record { ascends = sorted_nil R; within = λ row. tt }

  pub count_small : (held : List (K × ℕ)) (row : K) → IsCounted R held → count_of R held row < 2 ^ 32
  count_small held row counted = small_count (lookup (is_at (R row)) held) (counted.within row)

module _ {K : Type 0} {R : K → K → Ordering} (o : IsTotalOrder R) where
  -- a count set
  pub counted_insert : (held : List (K × ℕ)) (row : K) (n : ℕ) → IsCounted R held → 0 < n → n < 2 ^ 32 → IsCounted R (insert_entry R held row n)
  counted_insert held row n counted some small = record {
    ascends = sorted_insert_entry o row n held counted.ascends;
    within = λ q. subst (λ found. IfSome found IsFit) (sym (lookup_insert_entry o q row n held)) (fit_changed (is_at (R row) q) n _ (some, small) (counted.within q));
  }

  -- what an insertion leaves, which may fail
  pub counted_inserted : {A E : Type 0} (result : Result A E) (old new : List (K × ℕ)) (row : K) (n : ℕ) → OnOk result (new ≡ insert_entry R old row n) → OnErr result (new ≡ old) → IsCounted R old → 0 < n → n < 2 ^ 32 → IsCounted R new
  counted_inserted (Ok a) old new row n ok err counted some small = subst (IsCounted R) (sym ok) (counted_insert old row n counted some small)
  counted_inserted (Err e) old new row n ok err counted some small = subst (IsCounted R) (sym err) counted

  pub counted_remove : (held : List (K × ℕ)) (row : K) → IsCounted R held → IsCounted R (remove_entry (is_at (R row)) held)
  counted_remove held row counted = record {
    ascends = sorted_remove_entry o row held counted.ascends;
    within = λ q. subst (λ found. IfSome found IsFit) (sym (lookup_remove_entry o q row held counted.ascends)) (fit_removed (is_at (R row) q) _ (counted.within q));
  }

  counted_lower : (held : List (K × ℕ)) (row : K) (n : ℕ) → IsCounted R held → IsSome (lookup (is_at (R row)) held) → IsFit n → IsCounted R (set_value (is_at (R row)) held n)
  counted_lower held row n counted there fits = record {
    ascends = sorted_set_value o row n held counted.ascends;
    within = λ q. subst (λ found. IfSome found IsFit) (sym (lookup_set_value o q row n held there)) (fit_changed (is_at (R row) q) n _ fits (counted.within q));
  }

  -- what a taking leaves
  pub counted_taken : (held : List (K × ℕ)) (row : K) (many : ℕ) → IsCounted R held → 0 < many → many ≤ count_of R held row → IsCounted R (taken R held row many)
  counted_taken held row many counted some there =
      let below = count_small held row counted in
      cond_both (eqb (count_of R held row) many) (remove_entry (is_at (R row)) held) (set_value (is_at (R row)) held (count_of R held row - many)) (IsCounted R)
      (λ all. counted_remove held row counted)
      (λ part. let apart = eqb-false (count_of R held row) many part in
      counted_lower held row (count_of R held row - many) counted (some_found _ many some there) (omega arith, omega arith))

  -- ---- the count of each row

  pub count_of_added : (held : List (K × ℕ)) (row q : K) (many : ℕ) → count_of R (added R held row many) q ≡ (if is_at (R row) q then count_of R held row + many else count_of R held q)
  count_of_added held row q many = ap (λ found. unwrap_or found 0) (lookup_insert_entry o q row (count_of R held row + many) held) ∙ by (is_at (R row) q)
    where
      by : (b : Bool) → unwrap_or (cond b (Some (count_of R held row + many)) (lookup (is_at (R q)) held)) 0 ≡ cond b (count_of R held row + many) (count_of R held q)
      by true = refl
      by false = refl

  pub count_of_taken : (held : List (K × ℕ)) (row q : K) (many : ℕ) → IsStrictlySortedBy R (keys_of held) → 0 < many → many ≤ count_of R held row → count_of R (taken R held row many) q ≡ (if is_at (R row) q then count_of R held row - many else count_of R held q)
  count_of_taken held row q many ascends some there =
      cond_both (eqb (count_of R held row) many) (remove_entry (is_at (R row)) held) (set_value (is_at (R row)) held (count_of R held row - many))
      (λ left. count_of R left q ≡ cond (is_at (R row) q) (count_of R held row - many) (count_of R held q))
      (λ all. let same = eqb-true (count_of R held row) many all in
      let none : 0 ≡ count_of R held row - many = omega arith in
      ap (λ found. unwrap_or found 0) (lookup_remove_entry o q row held ascends) ∙ gone (is_at (R row) q) ∙ ap (λ n. cond (is_at (R row) q) n (count_of R held q)) none)
      (λ part. ap (λ found. unwrap_or found 0) (lookup_set_value o q row (count_of R held row - many) held (some_found _ many some there)) ∙ less (is_at (R row) q))
    where
      gone : (b : Bool) → unwrap_or (cond b None (lookup (is_at (R q)) held)) 0 ≡ cond b 0 (count_of R held q)
      gone true = refl
      gone false = refl

      less : (b : Bool) → unwrap_or (cond b (Some (count_of R held row - many)) (lookup (is_at (R q)) held)) 0 ≡ cond b (count_of R held row - many) (count_of R held q)
      less true = refl
      less false = refl

-- a change of the count of one row in one place, seen at every place and row
pub count_at_changed : {K : Type 0} (R : K → K → Ordering) (marking : List (List (K × ℕ))) (place : ℕ) (changed : List (K × ℕ)) (row : K) (n : ℕ) → place < length marking
    → ((q : K) → count_of R changed q ≡ (if is_at (R row) q then n else count_at R marking place q))
    → (p : ℕ) (q : K) → count_at R (set marking place changed) p q ≡ (if eqb p place && is_at (R row) q then n else count_at R marking p q)
count_at_changed R marking place changed row n within each p q =
    ⊎_elim
    (λ here. subst (λ (i : ℕ). count_at R (set marking place changed) i q ≡ (if eqb i place && is_at (R row) q then n else count_at R marking i q)) (sym here)
    (ap (λ held. count_of R held q) (get_or-set_same marking place changed [] within)
    ∙ each q
    ∙ ap (λ b. cond (b && is_at (R row) q) n (count_at R marking place q)) (sym (eq-eqb place place refl))))
    (λ other. ap (λ held. count_of R held q) (get_or-set_other marking place p changed [] other) ∙ ap (λ b. cond (b && is_at (R row) q) n (count_at R marking p q)) (sym (ne_eqb p place other)))
    (cases_eq p place)

-- ---- markings

module _ {K : Type 0} (R : K → K → Ordering) where
  pub marking_empty : (n : ℕ) → IsMarking R (replicate n [])
  marking_empty zero = tt
  marking_empty (suc n) = (counted_nothing, marking_empty n)

  pub marking_more : (marking : List (List (K × ℕ))) → IsMarking R marking → IsMarking R (marking ++ [] ∷ [])
  marking_more [] is = (counted_nothing, tt)
  marking_more (held ∷ marking) is = (is.0, marking_more marking is.1)

  pub place_counted : (marking : List (List (K × ℕ))) (place : ℕ) → IsMarking R marking → IsCounted R (place_of marking place)
  place_counted [] place is = counted_nothing
  place_counted (held ∷ marking) zero is = is.0
  place_counted (held ∷ marking) (suc place) is = place_counted marking place is.1

  pub marking_set : (marking : List (List (K × ℕ))) (place : ℕ) (held : List (K × ℕ)) → IsMarking R marking → IsCounted R held → IsMarking R (set marking place held)
  marking_set [] place held is counted = tt
  marking_set (old ∷ marking) zero held is counted = (counted, is.1)
  marking_set (old ∷ marking) (suc place) held is counted = (is.0, marking_set marking place held is.1 counted)

  pub count_at_small : (marking : List (List (K × ℕ))) (place : ℕ) (row : K) → IsMarking R marking → count_at R marking place row < 2 ^ 32
  count_at_small marking place row is = count_small (place_of marking place) row (place_counted marking place is)

-- one giving and one taking: the marking stays counted, and the count of each row in each place
module _ {K : Type 0} {R : K → K → Ordering} (o : IsTotalOrder R) where
  pub marking_given : (marking : List (List (K × ℕ))) (place : ℕ) (row : K) (many : ℕ) → IsMarking R marking → 0 < many → count_at R marking place row + many < 2 ^ 32
      → IsMarking R (with_tokens R marking place row many)
  marking_given marking place row many is some small =
      marking_set R marking place _ is (counted_insert o (place_of marking place) row (count_at R marking place row + many) (place_counted R marking place is) (omega arith) small)

  pub marking_left : (marking : List (List (K × ℕ))) (place : ℕ) (row : K) (many : ℕ) → IsMarking R marking → 0 < many → many ≤ count_at R marking place row
      → IsMarking R (without_tokens R marking place row many)
  marking_left marking place row many is some there =
      marking_set R marking place _ is (counted_taken o (place_of marking place) row many (place_counted R marking place is) some there)

  pub count_given : (marking : List (List (K × ℕ))) (place : ℕ) (row : K) (many : ℕ) → place < length marking
      → (p : ℕ) (q : K) → count_at R (with_tokens R marking place row many) p q ≡ (if eqb p place && is_at (R row) q then count_at R marking place row + many else count_at R marking p q)
  count_given marking place row many within p q =
      count_at_changed R marking place (added R (place_of marking place) row many) row (count_at R marking place row + many) within
      (λ r. count_of_added o (place_of marking place) row r many) p q

  pub count_left : (marking : List (List (K × ℕ))) (place : ℕ) (row : K) (many : ℕ) → IsMarking R marking → place < length marking → 0 < many → many ≤ count_at R marking place row
      → (p : ℕ) (q : K) → count_at R (without_tokens R marking place row many) p q ≡ (if eqb p place && is_at (R row) q then count_at R marking place row - many else count_at R marking p q)
  count_left marking place row many is within some there p q =
      count_at_changed R marking place (taken R (place_of marking place) row many) row (count_at R marking place row - many) within
      (λ r. count_of_taken o (place_of marking place) row r many (place_counted R marking place is).ascends some there) p q

-- ---- copies

module _ {K X : Type 0} {R : K → K → Ordering} (o : IsTotalOrder R) where
  keys_between : (es rest : List (K × X)) (k : K) (v : X) → keys_of (es ++ (k, v) ∷ rest) ≡ keys_of es ++ k ∷ keys_of rest
  keys_between [] rest k v = refl
  keys_between (e ∷ es) rest k v = ap (λ keys. e.0 ∷ keys) (keys_between es rest k v)

  -- one more entry is copied
  pub copied_more : (copied rest whole new : List (K × X)) (k : K) (v : X) → IsStrictlySortedBy R (keys_of whole) → copied ++ (k, v) ∷ rest ≡ whole
      → new ≡ insert_entry R copied k v → new ++ rest ≡ whole
  copied_more copied rest whole new k v s so_far is =
      let ascends = subst (IsStrictlySortedBy R) (sym (ap keys_of so_far) ∙ keys_between copied rest k v) s in
      let last = append_entry R k v copied (past_those_before o (keys_of copied) k (keys_of rest) ascends) in
      ap (λ es. es ++ rest) (is ∙ last) ∙ append_assoc copied ((k, v) ∷ []) rest ∙ so_far
