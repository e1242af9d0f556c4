-- What one more row of an input adds to a node's value.
use Rattle.std.proofs.Common.{◌≡◌, ◌<◌, ◌⊎◌, inl, inr, ⊎_elim, ℕ, Bool, true, false, not, List, [], ◌∷◌, ◌++◌, map, refl, sym, ap, ◌∙◌, subst, Option, Some, None, length, take, drop, arith}
use Rattle.std.specs.Prelude.{slice_get}
use Rattle.std.specs.declared.cmp.Ordering.{Ordering}
use Rattle.std.specs.Ordering.{is_eq}
use Rattle.std.specs.Cmp.{IsTotalOrder, Equal-is, tied_itself}
use Rattle.std.specs.Cmp.Lexicographic.{slice_cmp, lists_total}
use Rattle.std.specs.FinMap.{IsAntisymmetric}
use Rattle.std.specs.List.{filter, flat_map, cons_option}
use Rattle.std.proofs.lemmas.Bool.{true≢false, and_parts, and_from}
use Rattle.std.proofs.lemmas.Option.{slice_get_cases}
use Rattle.std.proofs.Math.Seq.{take-append_seam, drop-append_seam}
use Rattle.dbn_value.specs.Members.{In}
use Rattle.dbn_value.specs.Picked.{picked}
use Rattle.dbn_value.specs.Ascending.{ascending}
use Rattle.dbn_value.specs.declared.term.Cmp.TheVariants as cmp
use Rattle.dbn_value.proofs.MemberLaws.{in_filter, filter_in, in_append, append_left, append_right, in_map, map_in, in_flat, flat_in}
use Rattle.dbn_value.proofs.AscendingLaws.{in_ascending, ascending_in, in_images, images_in}
use Rattle.dbn_nodes.specs.Tables.{has}
use Rattle.dbn_nodes.specs.Changes.{maybe}
use Rattle.dbn_nodes.specs.Values.{cells_meet, matched, joined, without}
use Rattle.dbn_nodes.specs.Stands.{firsts, seconds, PairsIn, AreOneWide}
use Rattle.dbn_nodes.proofs.ChangeLaws.{Apart, Adds, rows_exact, row_in_rows, in_row}

pub alone : {A : Type 0} (b : Bool) (x : A) → Apart (maybe b x)
alone true x = (λ none. none, tt)
alone false x = tt

pub maybe_is : {A : Type 0} (b : Bool) (x y : A) → In y (maybe b x) → (b ≡ true) × (y ≡ x)
maybe_is true x y at = ⊎_elim (λ e. (refl, e)) (λ none. absurd none) at
maybe_is false x y at = absurd at

pub in_maybe : {A : Type 0} (b : Bool) (x y : A) → b ≡ true → y ≡ x → In y (maybe b x)
in_maybe true x y e is = inl is
in_maybe false x y e is = absurd (true≢false (sym e))

-- a filter gets the row where the row passes
pub filter_adds : {A : Type 0} (t : A → Bool) (s z : List A) (r : A) → Adds s (r ∷ []) z → Adds (filter t s) (maybe (t r) r) (filter t z)
filter_adds {A} t s z r a = record {
  apart = alone (t r) r;
  fresh = λ x at was. a.fresh x (inl (maybe_is (t r) r x at).1) (in_filter t x s was).0;
  back = λ x at. let p = in_filter t x z at in ⊎_elim (λ new. ⊎_elim (λ e. inl (in_maybe (t r) r x (subst (λ y. t y ≡ true) e p.1) e)) (λ none. absurd none) new) (λ old. inr (filter_in t x s old p.1)) (a.back x p.0);
  front = λ x at. let p = maybe_is (t r) r x at in subst (λ y. In y (filter t z)) (sym p.1) (filter_in t r z (a.front r (inl refl)) p.0);
  keep = λ x at. let p = in_filter t x s at in filter_in t x z (a.keep x p.0) p.1;
}

module _ {C : Type 0} {R : C → C → Ordering} (o : IsTotalOrder R) (exact : IsAntisymmetric R) where
  -- images get the image of the row where no other row has it
  pub image_adds : (f : List C → List C) (s z : List (List C)) (r : List C) (b : Bool)
      → (b ≡ true → In (f r) (ascending (slice_cmp R) (map f s)) → ⊥) → (b ≡ false → In (f r) (ascending (slice_cmp R) (map f s)))
      → Adds s (r ∷ []) z → Adds (ascending (slice_cmp R) (map f s)) (maybe b (f r)) (ascending (slice_cmp R) (map f z))
  image_adds f s z r b none some a = record {
    apart = alone b (f r);
    fresh = λ x at was. let p = maybe_is b (f r) x at in none p.0 (subst (λ y. In y (ascending (slice_cmp R) (map f s))) p.1 was);
    back = λ x at.
        let image = in_images (lists_total o) (rows_exact o exact) f x z at in
        ⊎_elim (λ new. ⊎_elim (λ e. which b refl x (image.2 ∙ ap f e)) (λ no_row. absurd no_row) new)
        (λ old. inr (subst (λ y. In y (ascending (slice_cmp R) (map f s))) (sym image.2) (images_in (lists_total o) (rows_exact o exact) f image.0 s old)))
        (a.back image.0 image.1);
    front = λ x at. let p = maybe_is b (f r) x at in subst (λ y. In y (ascending (slice_cmp R) (map f z))) (sym p.1) (images_in (lists_total o) (rows_exact o exact) f r z (a.front r (inl refl)));
    keep = λ x at.
        let image = in_images (lists_total o) (rows_exact o exact) f x s at in
        subst (λ y. In y (ascending (slice_cmp R) (map f z))) (sym image.2) (images_in (lists_total o) (rows_exact o exact) f image.0 z (a.keep image.0 image.1));
  }
    where
      which : (c : Bool) → b ≡ c → (x : List C) → x ≡ f r → In x (maybe b (f r)) ⊎ In x (ascending (slice_cmp R) (map f s))
      which true e x is = inl (in_maybe b (f r) x e is)
      which false e x is = inr (subst (λ y. In y (ascending (slice_cmp R) (map f s))) (sym is) (some e))

  -- a union gets the row where the other input does not have it
  pub union_adds : (s z t : List (List C)) (r : List C) (b : Bool) → (b ≡ true → In r t → ⊥) → (b ≡ false → In r t) → Adds s (r ∷ []) z
      → Adds (ascending (slice_cmp R) (s ++ t)) (maybe b r) (ascending (slice_cmp R) (z ++ t))
  union_adds s z t r b none some a = record {
    apart = alone b r;
    fresh = λ x at was.
        let p = maybe_is b r x at in
        ⊎_elim (λ old. a.fresh x (inl p.1) old) (λ other. none p.0 (subst (λ y. In y t) p.1 other)) (in_append x s t (in_ascending (slice_cmp R) x (s ++ t) was));
    back = λ x at.
        ⊎_elim (λ in_z. ⊎_elim (λ new. ⊎_elim (λ e. which b refl x e) (λ no_row. absurd no_row) new) (λ old. inr (ascending_in (lists_total o) (rows_exact o exact) x (s ++ t) (append_left x s t old))) (a.back x in_z))
        (λ other. inr (ascending_in (lists_total o) (rows_exact o exact) x (s ++ t) (append_right x s t other)))
        (in_append x z t (in_ascending (slice_cmp R) x (z ++ t) at));
    front = λ x at. let p = maybe_is b r x at in ascending_in (lists_total o) (rows_exact o exact) x (z ++ t) (append_left x z t (a.front x (inl p.1)));
    keep = λ x at.
        ascending_in (lists_total o) (rows_exact o exact) x (z ++ t)
        (⊎_elim (λ old. append_left x z t (a.keep x old)) (λ other. append_right x z t other) (in_append x s t (in_ascending (slice_cmp R) x (s ++ t) at)));
  }
    where
      which : (c : Bool) → b ≡ c → (x : List C) → x ≡ r → In x (maybe b r) ⊎ In x (ascending (slice_cmp R) (s ++ t))
      which true e x is = inl (in_maybe b r x e is)
      which false e x is = inr (ascending_in (lists_total o) (rows_exact o exact) x (s ++ t) (append_right x s t (subst (λ y. In y t) (sym is) (some e))))

  -- a union of turned inputs is the same
  pub union_adds_right : (s t u : List (List C)) (r : List C) (b : Bool) → (b ≡ true → In r s → ⊥) → (b ≡ false → In r s) → Adds t (r ∷ []) u
      → Adds (ascending (slice_cmp R) (s ++ t)) (maybe b r) (ascending (slice_cmp R) (s ++ u))
  union_adds_right s t u r b none some a = record {
    apart = alone b r;
    fresh = λ x at was.
        let p = maybe_is b r x at in
        ⊎_elim (λ other. none p.0 (subst (λ y. In y s) p.1 other)) (λ old. a.fresh x (inl p.1) old) (in_append x s t (in_ascending (slice_cmp R) x (s ++ t) was));
    back = λ x at.
        ⊎_elim (λ other. inr (ascending_in (lists_total o) (rows_exact o exact) x (s ++ t) (append_left x s t other)))
        (λ in_u. ⊎_elim (λ new. ⊎_elim (λ e. which b refl x e) (λ no_row. absurd no_row) new) (λ old. inr (ascending_in (lists_total o) (rows_exact o exact) x (s ++ t) (append_right x s t old))) (a.back x in_u))
        (in_append x s u (in_ascending (slice_cmp R) x (s ++ u) at));
    front = λ x at. let p = maybe_is b r x at in ascending_in (lists_total o) (rows_exact o exact) x (s ++ u) (append_right x s u (a.front x (inl p.1)));
    keep = λ x at.
        ascending_in (lists_total o) (rows_exact o exact) x (s ++ u)
        (⊎_elim (λ other. append_left x s u other) (λ old. append_right x s u (a.keep x old)) (in_append x s t (in_ascending (slice_cmp R) x (s ++ t) at)));
  }
    where
      which : (c : Bool) → b ≡ c → (x : List C) → x ≡ r → In x (maybe b r) ⊎ In x (ascending (slice_cmp R) (s ++ t))
      which true e x is = inl (in_maybe b r x e is)
      which false e x is = inr (ascending_in (lists_total o) (rows_exact o exact) x (s ++ t) (append_left x s t (subst (λ y. In y s) (sym is) (some e))))

  -- a difference loses the row where its left input has it
  pub without_adds : (s t u : List (List C)) (r : List C) → Adds t (r ∷ []) u → Adds (without R s u) (maybe (has (slice_cmp R) s r) r) (without R s t)
  without_adds s t u r a = record {
    apart = alone (has (slice_cmp R) s r) r;
    fresh = λ x at was.
        let p = maybe_is (has (slice_cmp R) s r) r x at in
        there_not x u (in_filter (λ row. not (has (slice_cmp R) u row)) x s was).1 (subst (λ y. In y u) (sym p.1) (a.front r (inl refl)));
    back = λ x at.
        let p = in_filter (λ row. not (has (slice_cmp R) t row)) x s at in
        which (has (slice_cmp R) u x) x refl p.0 p.1;
    front = λ x at.
        let p = maybe_is (has (slice_cmp R) s r) r x at in
        filter_in (λ row. not (has (slice_cmp R) t row)) x s (subst (λ y. In y s) (sym p.1) (row_in_rows o exact r s p.0)) (absent x t (λ old. a.fresh x (inl p.1) old));
    keep = λ x at.
        let p = in_filter (λ row. not (has (slice_cmp R) u row)) x s at in
        filter_in (λ row. not (has (slice_cmp R) t row)) x s p.0 (absent x t (λ old. there_not x u p.1 (a.keep x old)));
  }
    where
      not_both : (b : Bool) → b ≡ true → not b ≡ true → ⊥
      not_both true e f = true≢false (sym f)
      not_both false e f = true≢false (sym e)

      there_not : (x : List C) (rows : List (List C)) → not (has (slice_cmp R) rows x) ≡ true → In x rows → ⊥
      there_not x rows none at = not_both (has (slice_cmp R) rows x) (in_row o exact x rows at) none

      turned : (b : Bool) → (b ≡ true → ⊥) → not b ≡ true
      turned true none = absurd (none refl)
      turned false none = refl

      absent : (x : List C) (rows : List (List C)) → (In x rows → ⊥) → not (has (slice_cmp R) rows x) ≡ true
      absent x rows none = turned (has (slice_cmp R) rows x) (λ e. none (row_in_rows o exact x rows e))

      which : (b : Bool) (x : List C) → has (slice_cmp R) u x ≡ b → In x s → not (has (slice_cmp R) t x) ≡ true → In x (maybe (has (slice_cmp R) s r) r) ⊎ In x (without R s u)
      which true x e at none =
          ⊎_elim (λ new. ⊎_elim (λ is. inl (in_maybe (has (slice_cmp R) s r) r x (in_row o exact r s (subst (λ y. In y s) is at)) is)) (λ no_row. absurd no_row) new)
          (λ old. absurd (there_not x t none old)) (a.back x (row_in_rows o exact x u e))
      which false x e at none = inr (filter_in (λ row. not (has (slice_cmp R) u row)) x s at (ap not e))

  -- ---- joins

  there : (xs : List C) (i : ℕ) → i < length xs → (x : C) × (slice_get xs i ≡ Some x)
  there xs i h = ⊎_elim (λ found. (found.0, found.2)) (λ none. let past = none.0 in absurd (omega arith)) (slice_get_cases xs i).1

  cell_same : (a b : Option C) (xs ys : List C) → cells_meet R cmp.Eq a b ≡ true → xs ≡ ys → cons_option a xs ≡ cons_option b ys
  cell_same (Some a) (Some b) xs ys e same = ap (λ z. z ∷ xs) (exact a b ((Equal-is (R a b)).0 e)) ∙ ap (λ zs. b ∷ zs) same
  cell_same (Some a) None xs ys e same = absurd (true≢false (sym e))
  cell_same None b xs ys e same = absurd (true≢false (sym e))

  abbrev head_of : C → List C → C
  head_of d [] = d
  head_of d (x ∷ xs) = x

  abbrev tail_of : List C → List C
  tail_of [] = []
  tail_of (x ∷ xs) = xs

  same_cell : (a b : Option C) (x y : C) (xs ys : List C) → a ≡ Some x → b ≡ Some y → cons_option a xs ≡ cons_option b ys → (cells_meet R cmp.Eq a b ≡ true) × (xs ≡ ys)
  same_cell (Some a) (Some b) x y xs ys e f same = (subst (λ z. is_eq (R a z) ≡ true) (ap (head_of a) same) (ap is_eq (tied_itself o a)), ap tail_of same)
  same_cell (Some a) None x y xs ys e f same = cc
  same_cell None b x y xs ys e f same = cc

  pub matched_same : (on : List (ℕ × ℕ)) (a b : List C) → matched R on a b ≡ true → picked (firsts on) a ≡ picked (seconds on) b
  matched_same [] a b e = refl
  matched_same (p ∷ on) a b e =
      let parts = and_parts (cells_meet R cmp.Eq (slice_get a p.0) (slice_get b p.1)) (matched R on a b) e in
      cell_same (slice_get a p.0) (slice_get b p.1) (picked (firsts on) a) (picked (seconds on) b) parts.0 (matched_same on a b parts.1)

  pub same_matched : (on : List (ℕ × ℕ)) (a b : List C) → PairsIn on a b → picked (firsts on) a ≡ picked (seconds on) b → matched R on a b ≡ true
  same_matched [] a b within e = refl
  same_matched (p ∷ on) a b within e =
      let first = there a p.0 (within p (inl refl)).0 in
      let second = there b p.1 (within p (inl refl)).1 in
      let both = same_cell (slice_get a p.0) (slice_get b p.1) first.0 second.0 (picked (firsts on) a) (picked (seconds on) b) first.1 second.1 e in
      and_from (cells_meet R cmp.Eq (slice_get a p.0) (slice_get b p.1)) (matched R on a b) both.0 (same_matched on a b (λ q at. within q (inr at)) both.1)

  pub in_joined : (on : List (ℕ × ℕ)) (s t : List (List C)) (x : List C) → In x (joined R on s t) → (a : List C) × (b : List C) × In a s × In b t × (matched R on a b ≡ true) × (x ≡ a ++ b)
  in_joined on s t x at =
      let flat = in_flat (λ a. map (λ b. a ++ b) (filter (matched R on a) t)) x s (in_ascending (slice_cmp R) x (flat_map (λ a. map (λ b. a ++ b) (filter (matched R on a) t)) s) at) in
      let image = in_map (λ b. flat.0 ++ b) x (filter (matched R on flat.0) t) flat.2 in
      let found = in_filter (matched R on flat.0) image.0 t image.1 in
      (flat.0, image.0, flat.1, found.0, found.1, image.2)

  pub joined_in : (on : List (ℕ × ℕ)) (s t : List (List C)) (a b : List C) → In a s → In b t → matched R on a b ≡ true → In (a ++ b) (joined R on s t)
  joined_in on s t a b at bt meets =
      ascending_in (lists_total o) (rows_exact o exact) (a ++ b) (flat_map (λ x. map (λ y. x ++ y) (filter (matched R on x) t)) s)
      (flat_in (λ x. map (λ y. x ++ y) (filter (matched R on x) t)) (a ++ b) a s at (map_in (λ y. a ++ y) b (filter (matched R on a) t) (filter_in (matched R on a) b t bt meets)))

  pub fronts : (a b c d : List C) → length a ≡ length c → a ++ b ≡ c ++ d → (a ≡ c) × (b ≡ d)
  fronts a b c d size e = (
    sym (take-append_seam a b) ∙ ap (take (length a)) e ∙ ap (λ n. take n (c ++ d)) size ∙ take-append_seam c d,
    sym (drop-append_seam a b) ∙ ap (drop (length a)) e ∙ ap (λ n. drop n (c ++ d)) size ∙ drop-append_seam c d,
  )

  map_apart : (f : List C → List C) (rows : List (List C)) → ((x y : List C) → In x rows → In y rows → f x ≡ f y → x ≡ y) → Apart rows → Apart (map f rows)
  map_apart f [] one apart = tt
  map_apart f (x ∷ rows) one apart = (
    λ at. let image = in_map f (f x) rows at in apart.0 (subst (λ y. In y rows) (sym (one x image.0 (inl refl) (inr image.1) image.2)) image.1),
    map_apart f rows (λ y z at bt e. one y z (inr at) (inr bt) e) apart.1,
  )

  pub join_left_adds : (on : List (ℕ × ℕ)) (s z t others : List (List C)) (r : List C) → AreOneWide z → Apart others
      → ((b : List C) → In b others → In b t × (matched R on r b ≡ true)) → ((b : List C) → In b t → matched R on r b ≡ true → In b others)
      → Adds s (r ∷ []) z → Adds (joined R on s t) (map (λ b. r ++ b) others) (joined R on z t)
  join_left_adds on s z t others r wide apart found all a = record {
    apart = map_apart (λ b. r ++ b) others (λ x y at bt e. (fronts r x r y refl e).1) apart;
    fresh = λ x at was.
        let image = in_map (λ b. r ++ b) x others at in
        let (l, b, ls, bt, meets, is) = in_joined on s t x was in
        let same = fronts l b r image.0 (wide l r (a.keep l ls) (a.front r (inl refl))) (sym is ∙ image.2) in
        a.fresh l (inl same.0) ls;
    back = λ x at.
        let (l, b, lz, bt, meets, is) = in_joined on z t x at in
        ⊎_elim (λ new. ⊎_elim (λ e. inl (subst (λ y. In y (map (λ c. r ++ c) others)) (sym (is ∙ ap (λ c. c ++ b) e)) (map_in (λ c. r ++ c) b others (all b bt (subst (λ c. matched R on c b ≡ true) e meets))))) (λ none. absurd none) new)
        (λ old. inr (subst (λ y. In y (joined R on s t)) (sym is) (joined_in on s t l b old bt meets))) (a.back l lz);
    front = λ x at.
        let image = in_map (λ b. r ++ b) x others at in
        let good = found image.0 image.1 in
        subst (λ y. In y (joined R on z t)) (sym image.2) (joined_in on z t r image.0 (a.front r (inl refl)) good.0 good.1);
    keep = λ x at.
        let (l, b, ls, bt, meets, is) = in_joined on s t x at in
        subst (λ y. In y (joined R on z t)) (sym is) (joined_in on z t l b (a.keep l ls) bt meets);
  }

  pub join_right_adds : (on : List (ℕ × ℕ)) (s t u others : List (List C)) (r : List C) → AreOneWide s → Apart others
      → ((b : List C) → In b others → In b s × (matched R on b r ≡ true)) → ((b : List C) → In b s → matched R on b r ≡ true → In b others)
      → Adds t (r ∷ []) u → Adds (joined R on s t) (map (λ b. b ++ r) others) (joined R on s u)
  join_right_adds on s t u others r wide apart found all a = record {
    apart = map_apart (λ b. b ++ r) others (λ x y at bt e. (fronts x r y r (wide x y (found x at).0 (found y bt).0) e).0) apart;
    fresh = λ x at was.
        let image = in_map (λ b. b ++ r) x others at in
        let (l, b, ls, bt, meets, is) = in_joined on s t x was in
        let same = fronts l b image.0 r (wide l image.0 ls (found image.0 image.1).0) (sym is ∙ image.2) in
        a.fresh b (inl same.1) bt;
    back = λ x at.
        let (l, b, ls, bu, meets, is) = in_joined on s u x at in
        ⊎_elim (λ new. ⊎_elim (λ e. inl (subst (λ y. In y (map (λ c. c ++ r) others)) (sym (is ∙ ap (λ c. l ++ c) e)) (map_in (λ c. c ++ r) l others (all l ls (subst (λ c. matched R on l c ≡ true) e meets))))) (λ none. absurd none) new)
        (λ old. inr (subst (λ y. In y (joined R on s t)) (sym is) (joined_in on s t l b ls old meets))) (a.back b bu);
    front = λ x at.
        let image = in_map (λ b. b ++ r) x others at in
        let good = found image.0 image.1 in
        subst (λ y. In y (joined R on s u)) (sym image.2) (joined_in on s u image.0 r good.0 (a.front r (inl refl)) good.1);
    keep = λ x at.
        let (l, b, ls, bt, meets, is) = in_joined on s t x at in
        subst (λ y. In y (joined R on s u)) (sym is) (joined_in on s u l b ls (a.keep b bt) meets);
  }
