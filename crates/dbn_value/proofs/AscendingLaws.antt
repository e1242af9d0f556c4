-- Sets as strictly ascending lists: membership and order after each change, and that the members determine the list.
use Rattle.std.proofs.Common.{◌≡◌, ◌⊎◌, Bool, true, false, cond, not, ◌&&◌, ◌||◌, List, [], ◌∷◌, ◌++◌, map, refl, sym, ap, ◌∙◌, subst, inl, inr, ⊎_elim}
use Rattle.std.specs.declared.cmp.Ordering.{Ordering}
use Rattle.std.specs.declared.cmp.Ordering.TheVariants.{Less, Equal, Greater}
use Rattle.std.specs.Ordering.{eq_by_cmp, is_eq, is_lt, ordering_reverse, ordering_then, match_ordering}
use Rattle.std.specs.Cmp.{IsTotalOrder, both_ways, Equal-is, tied_itself}
use Rattle.std.specs.Cmp.Lexicographic.{slice_cmp}
use Rattle.std.specs.List.{list_any, filter, flat_map, AllByRecursion}
use Rattle.std.specs.List.Sorted.{IsStrictlySortedBy}
use Rattle.std.specs.BTreeMap.{is_at}
use Rattle.std.specs.BTreeSet.{insert_key}
use Rattle.std.specs.Set.{remove_key}
use Rattle.std.proofs.lemmas.Bool.{true≢false, or_cases, or_left, or_right, and_parts, and_from, not-true, false_from_ne_true}
use Rattle.std.proofs.lemmas.Map.Keys.{sorted_head, sorted_tail}
use Rattle.std.specs.FinMap.{IsAntisymmetric}
use Rattle.std.proofs.lemmas.List.Kept.{IsStrictlySortedBy-filter}
use Rattle.dbn_value.specs.Members.{In}
use Rattle.dbn_value.specs.Ascending.{ascending, rows_over, CellsIn, IsOneToOne}
use Rattle.dbn_value.proofs.MemberLaws.{any_in, in_any, filter_all, in_filter, filter_in, in_append, append_left, append_right, recursion_at, recursion_from, in_map, map_in, in_flat, flat_in}

-- ---- a strictly ascending list, element by element

module _ {K : Type 0} (R : K → K → Ordering) where
  pub sorted_nil : IsStrictlySortedBy R []
  unfolding IsStrictlySortedBy
  sorted_nil = tt

  pub sorted_cons : (x : K) (xs : List K) → ((y : K) → In y xs → R x y ≡ Less) → IsStrictlySortedBy R xs → IsStrictlySortedBy R (x ∷ xs)
  unfolding IsStrictlySortedBy
  sorted_cons x xs below rest = (recursion_from (λ y. R x y ≡ Less) xs below, rest)

  pub sorted_one : (x : K) → IsStrictlySortedBy R (x ∷ [])
  sorted_one x = sorted_cons x [] (λ y at. absurd at) sorted_nil

  pub head_below : (x : K) (xs : List K) (y : K) → IsStrictlySortedBy R (x ∷ xs) → In y xs → R x y ≡ Less
  head_below x xs y s at = recursion_at (λ z. R x z ≡ Less) y xs (sorted_head R x xs s) at

  pub sorted_append : (xs ys : List K) → IsStrictlySortedBy R xs → IsStrictlySortedBy R ys → ((x y : K) → In x xs → In y ys → R x y ≡ Less) → IsStrictlySortedBy R (xs ++ ys)
  sorted_append [] ys s t below = t
  sorted_append (x ∷ xs) ys s t below =
      sorted_cons x (xs ++ ys)
      (λ y at. ⊎_elim (λ left. head_below x xs y s left) (λ right. below x y (inl refl) right) (in_append y xs ys at))
      (sorted_append xs ys (sorted_tail R x xs s) t (λ z y at. below z y (inr at)))

  -- ---- insertion

  pub in_insert_key : (k q : K) (xs : List K) → In q (insert_key R xs k) → (q ≡ k) ⊎ In q xs
  in_insert_key k q [] at = at
  in_insert_key k q (x ∷ xs) at =
      elim (R k x) as (λ r. In q (match_ordering r (k ∷ x ∷ xs) (x ∷ xs) (x ∷ insert_key R xs k)) → (q ≡ k) ⊎ In q (x ∷ xs)) [
        | Less ↦ λ at. at
        | Equal ↦ λ at. inr at
        | Greater ↦ λ at. ⊎_elim
            (λ here. inr (inl here))
            (λ there. ⊎_elim (λ new. inl new) (λ old. inr (inr old)) (in_insert_key k q xs there))
            at
      ] at

  -- what was there stays
  pub insert_key_old : (k q : K) (xs : List K) → In q xs → In q (insert_key R xs k)
  insert_key_old k q [] at = absurd at
  insert_key_old k q (x ∷ xs) at =
      elim (R k x) as (λ r. In q (match_ordering r (k ∷ x ∷ xs) (x ∷ xs) (x ∷ insert_key R xs k))) [
        | Less ↦ inr at
        | Equal ↦ at
        | Greater ↦ ⊎_elim (λ here. inl here) (λ there. inr (insert_key_old k q xs there)) at
      ]

  -- ---- the ascending list of the members

  pub in_ascending : (q : K) (xs : List K) → In q (ascending R xs) → In q xs
  in_ascending q [] at = at
  in_ascending q (x ∷ xs) at = ⊎_elim (λ here. inl here) (λ there. inr (in_ascending q xs there)) (in_insert_key x q (ascending R xs) at)

-- ---- laws of a total order

module _ {K : Type 0} {R : K → K → Ordering} (o : IsTotalOrder R) where
  turned : (x y : K) → R x y ≡ Greater → R y x ≡ Less
  turned x y e = o.antisymm y x ∙ ap ordering_reverse e

  -- a value isn't below itself
  pub not_below_itself : (x : K) → R x x ≡ Less → ⊥
  not_below_itself x e = true≢false (sym (ap is_lt e) ∙ ap is_lt (tied_itself o x))

  pub not_both_below : (x y : K) → R x y ≡ Less → R y x ≡ Less → ⊥
  not_both_below x y e f = not_below_itself x (o.trans x y x e f)

  -- a member passes the test for itself
  pub any_from_in : (q : K) (xs : List K) → In q xs → list_any (eq_by_cmp R q) xs ≡ true
  any_from_in q xs at = in_any (eq_by_cmp R q) q xs at (ap is_eq (tied_itself o q))

  pub sorted_insert_key : (k : K) (xs : List K) → IsStrictlySortedBy R xs → IsStrictlySortedBy R (insert_key R xs k)
  sorted_insert_key k [] s = sorted_one R k
  sorted_insert_key k (x ∷ xs) s =
      elim (R k x) as (λ r. R k x ≡ r → IsStrictlySortedBy R (match_ordering r (k ∷ x ∷ xs) (x ∷ xs) (x ∷ insert_key R xs k))) [
        | Less ↦ λ e. sorted_cons R k (x ∷ xs)
            (λ y at. ⊎_elim (λ here. subst (λ z. R k z ≡ Less) (sym here) e) (λ there. o.trans k x y e (head_below R x xs y s there)) at)
            s
        | Equal ↦ λ e. s
        | Greater ↦ λ e. sorted_cons R x (insert_key R xs k)
            (λ y at. ⊎_elim (λ new. subst (λ z. R x z ≡ Less) (sym new) (turned k x e)) (λ old. head_below R x xs y s old) (in_insert_key R k y xs at))
            (sorted_insert_key k xs (sorted_tail R x xs s))
      ] refl

  pub sorted_ascending : (xs : List K) → IsStrictlySortedBy R (ascending R xs)
  sorted_ascending [] = sorted_nil R
  sorted_ascending (x ∷ xs) = sorted_insert_key x (ascending R xs) (sorted_ascending xs)

  -- in an ascending list a removal is a filter
  pub remove_key_filter : (k : K) (xs : List K) → IsStrictlySortedBy R xs → remove_key (is_at (R k)) xs ≡ filter (λ x. not (eq_by_cmp R k x)) xs
  remove_key_filter k [] s = refl
  remove_key_filter k (x ∷ xs) s =
      let rest = remove_key_filter k xs (sorted_tail R x xs s) in
      elim (R k x) as (λ r. R k x ≡ r → cond (is_eq r) xs (x ∷ remove_key (is_at (R k)) xs) ≡ cond (not (is_eq r)) (x ∷ filter (λ x. not (eq_by_cmp R k x)) xs) (filter (λ x. not (eq_by_cmp R k x)) xs)) [
        | Less ↦ λ e. ap (λ l. x ∷ l) rest
        | Equal ↦ λ e. sym (filter_all (λ x. not (eq_by_cmp R k x)) xs (λ y at. ap (λ r. not (is_eq r)) (o.congr k x y e ∙ head_below R x xs y s at)))
        | Greater ↦ λ e. ap (λ l. x ∷ l) rest
      ] refl

  pub sorted_remove_key : (k : K) (xs : List K) → IsStrictlySortedBy R xs → IsStrictlySortedBy R (remove_key (is_at (R k)) xs)
  sorted_remove_key k xs s =
      subst (IsStrictlySortedBy R) (sym (remove_key_filter k xs s)) (IsStrictlySortedBy-filter R (λ x. not (eq_by_cmp R k x)) xs s)

  pub in_remove_key : (k q : K) (xs : List K) → IsStrictlySortedBy R xs → In q (remove_key (is_at (R k)) xs) → In q xs × (eq_by_cmp R k q ≡ false)
  in_remove_key k q xs s at =
      let found = in_filter (λ x. not (eq_by_cmp R k x)) q xs (subst (In q) (remove_key_filter k xs s) at) in
      (found.0, not-true (eq_by_cmp R k q) found.1)

  pub remove_key_other : (k q : K) (xs : List K) → IsStrictlySortedBy R xs → In q xs → eq_by_cmp R k q ≡ false → In q (remove_key (is_at (R k)) xs)
  remove_key_other k q xs s at apart =
      subst (In q) (sym (remove_key_filter k xs s)) (filter_in (λ x. not (eq_by_cmp R k x)) q xs at (ap not apart))

  -- two ascending lists with the same members are one
  pub same_members : (xs ys : List K) → IsStrictlySortedBy R xs → IsStrictlySortedBy R ys → ((q : K) → In q xs → In q ys) → ((q : K) → In q ys → In q xs) → xs ≡ ys
  same_members [] [] s t there back = refl
  same_members [] (y ∷ ys) s t there back = absurd (back y (inl refl))
  same_members (x ∷ xs) [] s t there back = absurd (there x (inl refl))
  same_members (x ∷ xs) (y ∷ ys) s t there back =
      let heads : x ≡ y =
      ⊎_elim
      (λ here. here)
      (λ later. ⊎_elim
      (λ here. sym here)
      (λ after. absurd (not_both_below y x (head_below R y ys x t later) (head_below R x xs y s after)))
      (back y (inl refl)))
      (there x (inl refl)) in
      let tails : xs ≡ ys =
      same_members xs ys (sorted_tail R x xs s) (sorted_tail R y ys t)
      (λ q at. ⊎_elim
      (λ here. absurd (not_below_itself x (subst (λ z. R x z ≡ Less) (here ∙ sym heads) (head_below R x xs q s at))))
      (λ later. later)
      (there q (inr at)))
      (λ q at. ⊎_elim
      (λ here. absurd (not_below_itself y (subst (λ z. R y z ≡ Less) (here ∙ heads) (head_below R y ys q t at))))
      (λ later. later)
      (back q (inr at))) in
      λ i. heads i ∷ tails i

  -- ---- laws of an order that ties equal values alone

  module _ (exact : IsAntisymmetric R) where
    pub is_one : (x y : K) → eq_by_cmp R x y ≡ true → x ≡ y
    is_one x y e = exact x y ((Equal-is (R x y)).0 e)

    -- what the test for q finds is q
    pub in_from_any : (q : K) (xs : List K) → list_any (eq_by_cmp R q) xs ≡ true → In q xs
    in_from_any q xs e =
        let found = any_in (eq_by_cmp R q) xs e in
        subst (λ z. In z xs) (sym (is_one q found.0 found.2)) found.1

    -- two lists with the same members answer one test alike
    pub same_any : (q : K) (xs ys : List K) → (In q xs → In q ys) → (In q ys → In q xs) → list_any (eq_by_cmp R q) xs ≡ list_any (eq_by_cmp R q) ys
    same_any q xs ys there back =
        both_ways _ _ (λ e. any_from_in q ys (there (in_from_any q xs e))) (λ e. any_from_in q xs (back (in_from_any q ys e)))

    pub same_tests : (xs ys : List K) → IsStrictlySortedBy R xs → IsStrictlySortedBy R ys → ((q : K) → list_any (eq_by_cmp R q) xs ≡ list_any (eq_by_cmp R q) ys) → xs ≡ ys
    same_tests xs ys s t alike =
        same_members xs ys s t
        (λ q at. in_from_any q ys (sym (alike q) ∙ any_from_in q xs at))
        (λ q at. in_from_any q xs (alike q ∙ any_from_in q ys at))

    pub insert_key_new : (k : K) (xs : List K) → In k (insert_key R xs k)
    insert_key_new k [] = inl refl
    insert_key_new k (x ∷ xs) =
        elim (R k x) as (λ r. R k x ≡ r → In k (match_ordering r (k ∷ x ∷ xs) (x ∷ xs) (x ∷ insert_key R xs k))) [
          | Less ↦ λ e. inl refl
          | Equal ↦ λ e. inl (exact k x e)
          | Greater ↦ λ e. inr (insert_key_new k xs)
        ] refl

    pub any_insert_key : (q k : K) (xs : List K) → list_any (eq_by_cmp R q) (insert_key R xs k) ≡ (eq_by_cmp R q k || list_any (eq_by_cmp R q) xs)
    any_insert_key q k xs =
        both_ways _ _
        (λ e. ⊎_elim
        (λ new. or_left (eq_by_cmp R q k) _ (ap (λ z. eq_by_cmp R q z) (sym new) ∙ ap is_eq (tied_itself o q)))
        (λ old. or_right (eq_by_cmp R q k) _ (any_from_in q xs old))
        (in_insert_key R k q xs (in_from_any q (insert_key R xs k) e)))
        (λ e. any_from_in q (insert_key R xs k)
        (⊎_elim
        (λ new. subst (λ z. In z (insert_key R xs k)) (sym (is_one q k new)) (insert_key_new k xs))
        (λ old. insert_key_old R k q xs (in_from_any q xs old))
        (or_cases (eq_by_cmp R q k) (list_any (eq_by_cmp R q) xs) e)))

    pub any_remove_key : (q k : K) (xs : List K) → IsStrictlySortedBy R xs → list_any (eq_by_cmp R q) (remove_key (is_at (R k)) xs) ≡ (not (eq_by_cmp R k q) && list_any (eq_by_cmp R q) xs)
    any_remove_key q k xs s =
        both_ways _ _
        (λ e. let found = in_remove_key k q xs s (in_from_any q _ e) in and_from _ _ (ap not found.1) (any_from_in q xs found.0))
        (λ e. let both = and_parts (not (eq_by_cmp R k q)) _ e in
        any_from_in q _ (remove_key_other k q xs s (in_from_any q xs both.1) (not-true _ both.0)))

    -- an insertion of a member, and a removal of what is no member, change nothing
    pub insert_key_same : (k : K) (xs : List K) → IsStrictlySortedBy R xs → In k xs → insert_key R xs k ≡ xs
    insert_key_same k xs s at =
        same_members (insert_key R xs k) xs (sorted_insert_key k xs s) s
        (λ q in_new. ⊎_elim (λ new. subst (λ z. In z xs) (sym new) at) (λ old. old) (in_insert_key R k q xs in_new))
        (λ q in_old. insert_key_old R k q xs in_old)

    pub remove_key_same : (k : K) (xs : List K) → IsStrictlySortedBy R xs → list_any (eq_by_cmp R k) xs ≡ false → remove_key (is_at (R k)) xs ≡ xs
    remove_key_same k xs s missing =
        same_members (remove_key (is_at (R k)) xs) xs (sorted_remove_key k xs s) s
        (λ q at. (in_remove_key k q xs s at).0)
        (λ q at. remove_key_other k q xs s at (false_from_ne_true _ (λ e. true≢false (sym (any_from_in k xs (subst (λ z. In z xs) (sym (is_one k q e)) at)) ∙ missing))))

    -- ---- the ascending list of the members

    pub ascending_in : (q : K) (xs : List K) → In q xs → In q (ascending R xs)
    ascending_in q [] at = at
    ascending_in q (x ∷ xs) at =
        ⊎_elim
        (λ here. subst (λ z. In z (insert_key R (ascending R xs) x)) (sym here) (insert_key_new x (ascending R xs)))
        (λ there. insert_key_old R x q (ascending R xs) (ascending_in q xs there))
        at

    pub any_ascending : (q : K) (xs : List K) → list_any (eq_by_cmp R q) (ascending R xs) ≡ list_any (eq_by_cmp R q) xs
    any_ascending q xs = same_any q (ascending R xs) xs (in_ascending R q xs) (ascending_in q xs)

    -- an ascending list with the members of xs is the ascending list of xs
    pub is_ascending : (ys xs : List K) → IsStrictlySortedBy R ys → ((q : K) → In q ys → In q xs) → ((q : K) → In q xs → In q ys) → ys ≡ ascending R xs
    is_ascending ys xs s there back =
        same_members ys (ascending R xs) s (sorted_ascending xs) (λ q at. ascending_in q xs (there q at)) (λ q at. back q (in_ascending R q xs at))

    pub ascending_sorted : (xs : List K) → IsStrictlySortedBy R xs → ascending R xs ≡ xs
    ascending_sorted xs s = sym (is_ascending xs xs s (λ q at. at) (λ q at. at))

    -- lists with the same members have one ascending list
    pub same_ascending : (xs ys : List K) → ((q : K) → In q xs → In q ys) → ((q : K) → In q ys → In q xs) → ascending R xs ≡ ascending R ys
    same_ascending xs ys there back =
        is_ascending (ascending R xs) ys (sorted_ascending xs) (λ q at. there q (in_ascending R q xs at)) (λ q at. ascending_in q xs (back q at))

    -- one more element at the end
    pub ascending_push : (x : K) (xs : List K) → ascending R (xs ++ x ∷ []) ≡ insert_key R (ascending R xs) x
    ascending_push x xs =
        sym (is_ascending (insert_key R (ascending R xs) x) (xs ++ x ∷ []) (sorted_insert_key x (ascending R xs) (sorted_ascending xs))
        (λ q at. ⊎_elim
        (λ new. append_right q xs (x ∷ []) (inl new))
        (λ old. append_left q xs (x ∷ []) (in_ascending R q xs old))
        (in_insert_key R x q (ascending R xs) at))
        (λ q at. ⊎_elim
        (λ left. insert_key_old R x q (ascending R xs) (ascending_in q xs left))
        (λ right. ⊎_elim (λ here. subst (λ z. In z (insert_key R (ascending R xs) x)) (sym here) (insert_key_new x (ascending R xs))) (λ none. absurd none) right)
        (in_append q xs (x ∷ []) at)))

    pub filter_ascending : (t : K → Bool) (xs : List K) → filter t (ascending R xs) ≡ ascending R (filter t xs)
    filter_ascending t xs =
        is_ascending (filter t (ascending R xs)) (filter t xs) (IsStrictlySortedBy-filter R t (ascending R xs) (sorted_ascending xs))
        (λ q at. let found = in_filter t q (ascending R xs) at in filter_in t q xs (in_ascending R q xs found.0) found.1)
        (λ q at. let found = in_filter t q xs at in filter_in t q (ascending R xs) (ascending_in q xs found.0) found.1)

-- ---- images

module _ {K L : Type 0} (R : K → K → Ordering) (S : L → L → Ordering) where
  pub sorted_map : (f : K → L) (xs : List K) → ((x y : K) → R x y ≡ Less → S (f x) (f y) ≡ Less) → IsStrictlySortedBy R xs → IsStrictlySortedBy S (map f xs)
  sorted_map f [] keeps s = sorted_nil S
  sorted_map f (x ∷ xs) keeps s =
      sorted_cons S (f x) (map f xs)
      (λ y at. let found = in_map f y xs at in subst (λ z. S (f x) z ≡ Less) (sym found.2) (keeps x found.0 (head_below R x xs found.0 s found.1)))
      (sorted_map f xs keeps (sorted_tail R x xs s))

module _ {K L : Type 0} {S : L → L → Ordering} (o : IsTotalOrder S) (exact : IsAntisymmetric S) where
  -- the ascending list of the images: each member is an image
  pub in_images : (f : K → L) (y : L) (xs : List K) → In y (ascending S (map f xs)) → (x : K) × In x xs × (y ≡ f x)
  in_images f y xs at = in_map f y xs (in_ascending S y (map f xs) at)

  pub images_in : (f : K → L) (x : K) (xs : List K) → In x xs → In (f x) (ascending S (map f xs))
  images_in f x xs at = ascending_in o exact (f x) (map f xs) (map_in f x xs at)

  -- what has its image there is there itself, where no other member has that image
  pub image_among : (f : K → L) (x : K) (xs : List K) → ((y : K) → In y xs → f x ≡ f y → x ≡ y) → In (f x) (ascending S (map f xs)) → In x xs
  image_among f x xs one at = let found = in_images f (f x) xs at in subst (λ z. In z xs) (sym (one found.0 found.1 found.2)) found.1

  -- and under a one-to-one map always
  pub image_only : (f : K → L) (x : K) (xs : List K) → IsOneToOne f → In (f x) (ascending S (map f xs)) → In x xs
  image_only f x xs one at = image_among f x xs (λ y there same. one x y same) at

-- ---- products

module _ {A : Type 0} where
  pub in_rows_over : (row : List A) (columns : List (List A)) → In row (rows_over columns) → CellsIn row columns
  in_rows_over row [] at = ⊎_elim (λ here. subst (λ r. CellsIn r []) (sym here) tt) (λ none. absurd none) at
  in_rows_over row (column ∷ columns) at =
      let cell = in_flat (λ cell. map (λ row. cell ∷ row) (rows_over columns)) row column at in
      let rest = in_map (λ row. cell.0 ∷ row) row (rows_over columns) cell.2 in
      subst (λ r. CellsIn r (column ∷ columns)) (sym rest.2) (cell.1, in_rows_over rest.0 columns rest.1)

  pub rows_over_in : (row : List A) (columns : List (List A)) → CellsIn row columns → In row (rows_over columns)
  rows_over_in [] [] at = inl refl
  rows_over_in [] (column ∷ columns) at = absurd at
  rows_over_in (cell ∷ cells) [] at = absurd at
  rows_over_in (cell ∷ cells) (column ∷ columns) at =
      flat_in (λ cell. map (λ row. cell ∷ row) (rows_over columns)) (cell ∷ cells) cell column at.0
      (map_in (λ row. cell ∷ row) cells (rows_over columns) (rows_over_in cells columns at.1))

module _ {A : Type 0} {R : A → A → Ordering} (o : IsTotalOrder R) where
  behind : (cell : A) (row other : List A) → slice_cmp R row other ≡ Less → slice_cmp R (cell ∷ row) (cell ∷ other) ≡ Less
  behind cell row other e = ap (λ r. ordering_then r (slice_cmp R row other)) (tied_itself o cell) ∙ e

  sorted_pairs : (column : List A) (rows : List (List A)) → IsStrictlySortedBy R column → IsStrictlySortedBy (slice_cmp R) rows → IsStrictlySortedBy (slice_cmp R) (flat_map (λ cell. map (λ row. cell ∷ row) rows) column)
  sorted_pairs [] rows s t = sorted_nil (slice_cmp R)
  sorted_pairs (cell ∷ cells) rows s t =
      sorted_append (slice_cmp R) (map (λ row. cell ∷ row) rows) (flat_map (λ cell. map (λ row. cell ∷ row) rows) cells)
      (sorted_map (slice_cmp R) (slice_cmp R) (λ row. cell ∷ row) rows (behind cell) t)
      (sorted_pairs cells rows (sorted_tail R cell cells s) t)
      (λ x y left right.
      let first = in_map (λ row. cell ∷ row) x rows left in
      let later = in_flat (λ cell. map (λ row. cell ∷ row) rows) y cells right in
      let second = in_map (λ row. later.0 ∷ row) y rows later.2 in
      subst (λ r. slice_cmp R r y ≡ Less) (sym first.2)
      (subst (λ r. slice_cmp R (cell ∷ first.0) r ≡ Less) (sym second.2)
      (ap (λ r. ordering_then r (slice_cmp R first.0 second.0)) (head_below R cell cells later.0 s later.1))))

  pub sorted_rows_over : (columns : List (List A)) → AllByRecursion (IsStrictlySortedBy R) columns → IsStrictlySortedBy (slice_cmp R) (rows_over columns)
  sorted_rows_over [] each = sorted_one (slice_cmp R) []
  sorted_rows_over (column ∷ columns) each = sorted_pairs column (rows_over columns) each.0 (sorted_rows_over columns each.1)
