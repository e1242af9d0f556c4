-- Where the images after a call come from.
use Rattle.std.proofs.Common.{◌≡◌, ◌⊎◌, ℕ, ◌+◌, ◌<◌, ◌≤◌, max, min, Bool, true, false, ◌&&◌, ◌||◌, cond, List, [], ◌∷◌, ◌++◌, length, map, get_or, inl, inr, refl, sym, ◌∙◌, nat_le, nat_lt, arith}
use Rattle.std.specs.List.{range_with_len}
use Rattle.std.proofs.lemmas.Bool.Decides.{nat_tests}
use Rattle.std.proofs.lemmas.List.{ext_get_or}
use Rattle.std.proofs.lemmas.List.FromFn.{get_or-map-range_with_len, length-map-range_with_len}
use Rattle.std.proofs.lemmas.List.Folds.{list_any-append}
use Rattle.std.proofs.lemmas.Bool.{and_left, and_right, or_from, cases_Bool, cond-true, cond-false, le-ltb, lt-leb, ltb-true, and_parts}
use Rattle.dbn_disk.specs.Disk.{Torn, Cut, Follows, Only}
use Rattle.dbn_disk.specs.Images.{Moment, IsImage, covers, is_covered, settled, then_call}
use Rattle.dbn_disk.specs.declared.log.Call.TheVariants.{Write, Cut as CutCall}

-- all is stable: the one image is what is held
pub settled_only : (bytes : List ℕ) → Only bytes (IsImage (settled bytes))
settled_only bytes c image = ext_get_or 0 c bytes (omega (arith, image.least, image.most)) (λ i under. image.stable i (omega (arith, image.most)) refl)

-- the bytes of one list where a test holds, and of another elsewhere
patched : (ℕ → Bool) → ℕ → List ℕ → List ℕ → List ℕ
patched test size front back = map (λ i. cond (test i) (get_or front i 0) (get_or back i 0)) (range_with_len 0 size)

length-patched : (test : ℕ → Bool) (size : ℕ) (front back : List ℕ) → length (patched test size front back) ≡ size
unfolding patched
length-patched test size front back = length-map-range_with_len (λ i. cond (test i) (get_or front i 0) (get_or back i 0)) 0 size

patched-yes : (test : ℕ → Bool) (size : ℕ) (front back : List ℕ) (i : ℕ) → i < size → test i ≡ true → get_or (patched test size front back) i 0 ≡ get_or front i 0
unfolding patched
patched-yes test size front back i under h =
    get_or-map-range_with_len (λ i. cond (test i) (get_or front i 0) (get_or back i 0)) 0 size i i 0 under (omega arith) ∙ cond-true (test i) _ _ h

patched-no : (test : ℕ → Bool) (size : ℕ) (front back : List ℕ) (i : ℕ) → i < size → test i ≡ false → get_or (patched test size front back) i 0 ≡ get_or back i 0
unfolding patched
patched-no test size front back i under h =
    get_or-map-range_with_len (λ i. cond (test i) (get_or front i 0) (get_or back i 0)) 0 size i i 0 under (omega arith) ∙ cond-false (test i) _ _ h

outside : (i at end : ℕ) → (i < at) ⊎ (end ≤ i) → covers i (at, end) ≡ false
outside i at end (inl before) = and_left (nat_le at i) (nat_lt i end) (lt-leb at i before)
outside i at end (inr behind) = and_right (nat_le at i) (nat_lt i end) (le-ltb i end behind)

still_uncovered : (ranges : List (ℕ × ℕ)) (range : ℕ × ℕ) (i : ℕ) → is_covered ranges i ≡ false → covers i range ≡ false → is_covered (ranges ++ range ∷ []) i ≡ false
still_uncovered ranges range i free off = list_any-append (covers i) ranges (range ∷ []) ∙ or_from (is_covered ranges i) (covers i range || false) free (or_from (covers i range) false off refl)

-- an image after a write is an image before it, torn in the range of the write
pub write_follows : (m : Moment) (at : ℕ) (bytes : List ℕ) (done : Bool) → IsImage m m.held → Follows (Torn at (length bytes)) (IsImage m) (IsImage (then_call m (Write at bytes done)))
write_follows m at bytes done ok c image =
    let end : ℕ = at + length bytes in
    let size : ℕ = min (length c) m.most in
    let test : ℕ → Bool = λ i. covers i (at, end) in
    let size_is = length-patched test size m.stable c in (
      patched test size m.stable c,
      record {
        least = omega (arith, size_is, image.least, ok.least, ok.most);
        most = omega (arith, size_is);
        stable = λ i under free. from_stable i under free (cases_Bool (test i));
      },
      record {
        same = λ i under out. sym (patched-no test size m.stable c i (omega (arith, size_is)) (outside i at end out));
        no_shorter = omega (arith, size_is);
        no_longer = omega (arith, size_is, image.most, ok.most);
      },
    )
  where
    from_stable : (i : ℕ) → i < m.least → is_covered m.covered i ≡ false → (covers i (at, at + length bytes) ≡ true) ⊎ (covers i (at, at + length bytes) ≡ false)
        → get_or (patched (λ k. covers k (at, at + length bytes)) (min (length c) m.most) m.stable c) i 0 ≡ get_or m.stable i 0
    from_stable i under free (inl on) = patched-yes (λ k. covers k (at, at + length bytes)) (min (length c) m.most) m.stable c i (omega (arith, image.least, ok.least, ok.most)) on
    from_stable i under free (inr off) =
        patched-no (λ k. covers k (at, at + length bytes)) (min (length c) m.most) m.stable c i (omega (arith, image.least, ok.least, ok.most)) off
        ∙ image.stable i under (still_uncovered m.covered (at, at + length bytes) i free off)

-- an image after a cut is an image before it, cut somewhere
pub cut_follows : (m : Moment) (to : ℕ) (done : Bool) → IsImage m m.held → Follows (Cut to) (IsImage m) (IsImage (then_call m (CutCall to done)))
cut_follows m to done ok c image =
    let size : ℕ = max (length c) m.least in
    let test : ℕ → Bool = λ i. nat_lt i to && nat_lt i (length c) in
    let size_is = length-patched test size c m.stable in (
      patched test size c m.stable,
      record {
        least = omega (arith, size_is);
        most = omega (arith, size_is, image.most, ok.least, ok.most);
        stable = λ i under free. from_stable i under free (cases_Bool (test i));
      },
      record {
        same = λ i before under. sym (patched-yes test size c m.stable i (omega arith) (both i before under));
        no_longer = omega (arith, size_is);
        no_shorter = omega (arith, size_is, image.least);
      },
    )
  where
    both : (i : ℕ) → i < to → i < length c → (nat_lt i to && nat_lt i (length c)) ≡ true
    both i before under = grind (arith, nat_tests)

    from_stable : (i : ℕ) → i < m.least → is_covered m.covered i ≡ false → ((nat_lt i to && nat_lt i (length c)) ≡ true) ⊎ ((nat_lt i to && nat_lt i (length c)) ≡ false)
        → get_or (patched (λ k. nat_lt k to && nat_lt k (length c)) (max (length c) m.least) c m.stable) i 0 ≡ get_or m.stable i 0
    from_stable i under free (inl on) =
        let parts = and_parts (nat_lt i to) (nat_lt i (length c)) on in
        patched-yes (λ k. nat_lt k to && nat_lt k (length c)) (max (length c) m.least) c m.stable i (omega arith) on
        ∙ image.stable i (omega (arith, ltb-true i to parts.0)) free
    from_stable i under free (inr off) = patched-no (λ k. nat_lt k to && nat_lt k (length c)) (max (length c) m.least) c m.stable i (omega arith) off
