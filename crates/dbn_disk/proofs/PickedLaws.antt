-- The image with chosen bytes is an image, and each image is made by bytes of its own.
use Rattle.std.proofs.Common.{◌≡◌, ◌⊎◌, ℕ, zero, suc, ◌+◌, ◌<◌, ◌≤◌, max, min, Bool, true, false, cond, List, [], ◌∷◌, ◌++◌, length, map, get_or, inl, inr, refl, sym, ap, subst, ◌∙◌, not, nat_lt, arith, length-append, add-one}
use Rattle.std.specs.List.{range_with_len}
use Rattle.std.proofs.lemmas.List.{ext_get_or, get_or_append_left, get_or_at}
use Rattle.std.proofs.lemmas.List.FromFn.{get_or-map-range_with_len, length-map-range_with_len, map-range_with_len_more}
use Rattle.std.proofs.lemmas.Bool.{true≢false, and_parts, and_from, not-true, not_from_false, ltb-true, lt-ltb, cases_Bool, cases_order, cond-true, cond-false}
use Rattle.dbn_disk.specs.Images.{Moment, IsImage, is_covered}
use Rattle.dbn_disk.specs.Picked.{is_fixed, free_before, image_byte, image_of, free_bytes}

-- one byte more of the image
pub image_step : (m : Moment) (loose bytes : List ℕ) (place free byte : ℕ) (fixed : Bool) → bytes ≡ map (image_byte m loose) (range_with_len 0 place) → free ≡ free_before m place → fixed ≡ is_fixed m place
    → byte ≡ cond fixed (get_or m.stable place 0) (get_or loose free 0) → bytes ++ byte ∷ [] ≡ map (image_byte m loose) (range_with_len 0 (place + 1))
image_step m loose bytes place free byte fixed so_far frees is_fixed_is byte_is =
    let last : byte ≡ image_byte m loose place = byte_is ∙ ap (λ (b : Bool). cond b (get_or m.stable place 0) (get_or loose free 0)) is_fixed_is ∙ ap (λ (k : ℕ). cond (is_fixed m place) (get_or m.stable place 0) (get_or loose k 0)) frees in
    ap (λ (l : List ℕ). l ++ byte ∷ []) so_far
    ∙ ap (λ (b : ℕ). map (image_byte m loose) (range_with_len 0 place) ++ b ∷ []) last
    ∙ sym (map-range_with_len_more (image_byte m loose) 0 place place (omega arith))

pub free_step : (m : Moment) (place free next : ℕ) (fixed : Bool) → free ≡ free_before m place → fixed ≡ is_fixed m place → next ≡ free + cond fixed 0 1 → next ≡ free_before m (place + 1)
free_step m place free next fixed frees is_fixed_is next_is =
    next_is ∙ ap (λ (k : ℕ). k + cond fixed 0 1) frees ∙ ap (λ (b : Bool). free_before m place + cond b 0 1) is_fixed_is ∙ ap (free_before m) (sym (add-one place))

pub at_most_one : (fixed : Bool) → cond fixed 0 1 ≤ 1
at_most_one true = omega arith
at_most_one false = omega arith

length-image_of : (m : Moment) (len : ℕ) (loose : List ℕ) → length (image_of m len loose) ≡ max m.least (min len m.most)
length-image_of m len loose = length-map-range_with_len (image_byte m loose) 0 (max m.least (min len m.most))

image_of-at : (m : Moment) (len : ℕ) (loose : List ℕ) (i : ℕ) → i < max m.least (min len m.most) → get_or (image_of m len loose) i 0 ≡ image_byte m loose i
image_of-at m len loose i under = get_or-map-range_with_len (image_byte m loose) 0 (max m.least (min len m.most)) i i 0 under (omega arith)

pub image_of-IsImage : (m : Moment) (len : ℕ) (loose : List ℕ) → m.least ≤ m.most → IsImage m (image_of m len loose)
image_of-IsImage m len loose order = record {
  least = omega (arith, length-image_of m len loose);
  most = omega (arith, length-image_of m len loose);
  stable = λ i under free.
      image_of-at m len loose i (omega arith) ∙ cond-true (is_fixed m i) _ _ (and_from (nat_lt i m.least) (not (is_covered m.covered i)) (lt-ltb i m.least under) (not_from_false (is_covered m.covered i) free));
}

one : (fixed : Bool) (byte : ℕ) → length (cond fixed [] (byte ∷ [])) ≡ cond fixed 0 1
one true byte = refl
one false byte = refl

length-free_bytes : (m : Moment) (c : List ℕ) (n : ℕ) → length (free_bytes m c n) ≡ free_before m n
length-free_bytes m c zero = refl
length-free_bytes m c (suc n) =
    length-append (free_bytes m c n) (cond (is_fixed m n) [] (get_or c n 0 ∷ []))
    ∙ ap (λ (k : ℕ). k + length (cond (is_fixed m n) [] (get_or c n 0 ∷ []))) (length-free_bytes m c n)
    ∙ ap (λ (k : ℕ). free_before m n + k) (one (is_fixed m n) (get_or c n 0))

one_more : (fixed : Bool) (n : ℕ) → fixed ≡ false → n < n + cond fixed 0 1
one_more true n e = absurd (true≢false e)
one_more false n e = omega arith

-- a free place counts
below : (m : Moment) (n i : ℕ) → i < n → is_fixed m i ≡ false → free_before m i < free_before m n
below m zero i under free = absurd (omega arith)
below m (suc n) i under free = by_order (λ before. below m n i before free) (cases_order i n)
  where
    by_order : (i < n → free_before m i < free_before m n) → (i ≡ n) ⊎ ((i < n) ⊎ (n < i)) → free_before m i < free_before m n + cond (is_fixed m n) 0 1
    by_order less (inl same) =
        let e : free_before m i ≡ free_before m n = ap (free_before m) same in
        omega (arith, one_more (is_fixed m n) (free_before m n) (subst (λ (k : ℕ). is_fixed m k ≡ false) same free))
    by_order less (inr (inl before)) = let h : free_before m i < free_before m n = less before in omega arith
    by_order less (inr (inr after)) = absurd (omega arith)

free_byte : (m : Moment) (c : List ℕ) (n i : ℕ) → i < n → is_fixed m i ≡ false → get_or (free_bytes m c n) (free_before m i) 0 ≡ get_or c i 0
free_byte m c zero i under free = absurd (omega arith)
free_byte m c (suc n) i under free = by_order (λ before. free_byte m c n i before free) (cases_order i n)
  where
    by_order : (i < n → get_or (free_bytes m c n) (free_before m i) 0 ≡ get_or c i 0) → (i ≡ n) ⊎ ((i < n) ⊎ (n < i)) → get_or (free_bytes m c n ++ cond (is_fixed m n) [] (get_or c n 0 ∷ [])) (free_before m i) 0 ≡ get_or c i 0
    by_order same_byte (inl same) =
        let last : is_fixed m n ≡ false = subst (λ (k : ℕ). is_fixed m k ≡ false) same free in
        ap (λ (l : List ℕ). get_or (free_bytes m c n ++ l) (free_before m i) 0) (cond-false (is_fixed m n) [] (get_or c n 0 ∷ []) last)
        ∙ get_or_at (free_bytes m c n) (get_or c n 0) [] 0 (free_before m i) (length-free_bytes m c n ∙ sym (ap (free_before m) same))
        ∙ ap (λ (k : ℕ). get_or c k 0) (sym same)
    by_order same_byte (inr (inl before)) =
        get_or_append_left (free_bytes m c n) (cond (is_fixed m n) [] (get_or c n 0 ∷ [])) 0 (free_before m i) (let h = below m n i before free in omega (arith, h, length-free_bytes m c n))
        ∙ same_byte before
    by_order same_byte (inr (inr after)) = absurd (omega arith)

pub image_of-each : (m : Moment) (c : List ℕ) (len : ℕ) (loose : List ℕ) → IsImage m c → len ≡ length c → loose ≡ free_bytes m c (length c) → image_of m len loose ≡ c
image_of-each m c len loose image len_is loose_is =
    let size : max m.least (min len m.most) ≡ length c = omega (arith, image.least, image.most) in
    ext_get_or 0 (image_of m len loose) c (length-image_of m len loose ∙ size) (λ i under.
    let within : i < max m.least (min len m.most) = omega (arith, length-image_of m len loose) in
    image_of-at m len loose i within ∙ by_kind i (omega arith) (cases_Bool (is_fixed m i)))
  where
    by_kind : (i : ℕ) → i < length c → (is_fixed m i ≡ true) ⊎ (is_fixed m i ≡ false) → image_byte m loose i ≡ get_or c i 0
    by_kind i under (inl fixed) =
        let parts = and_parts (nat_lt i m.least) (not (is_covered m.covered i)) fixed in
        cond-true (is_fixed m i) _ _ fixed ∙ sym (image.stable i (ltb-true i m.least parts.0) (not-true (is_covered m.covered i) parts.1))
    by_kind i under (inr free) =
        cond-false (is_fixed m i) _ _ free ∙ ap (λ (l : List ℕ). get_or l (free_before m i) 0) loose_is ∙ free_byte m c (length c) i under free
