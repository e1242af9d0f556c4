-- The laws of sets as finite maps, and what ties them to strictly ascending lists.
use Rattle.std.proofs.Common.{◌≡◌, ◌+◌, ◌-◌, Bool, true, false, cond, not, ◌&&◌, ◌||◌, List, [], ◌∷◌, refl, sym, ap, ◌∙◌, length, Option, Some, None, is_some}
use Rattle.std.specs.declared.cmp.Ordering.{Ordering}
use Rattle.std.specs.Ordering.{eq_by_cmp, is_eq}
use Rattle.std.specs.Cmp.{IsTotalOrder, tied_itself, eq_by_cmp_equiv}
use Rattle.std.specs.List.{list_any, filter}
use Rattle.std.specs.List.Sorted.{IsStrictlySortedBy}
use Rattle.std.specs.Map.{keys_of}
use Rattle.std.specs.BTreeMap.{is_at}
use Rattle.std.specs.BTreeSet.{insert_key}
use Rattle.std.specs.Set.{remove_key}
use Rattle.std.specs.FinMap as map
use Rattle.std.proofs.lemmas.Bool.{true≢false, and_parts, and_from, not-true}
use Rattle.std.specs.FinMap.{IsAntisymmetric}
use Rattle.std.proofs.lemmas.List.Kept.{IsStrictlySortedBy-filter}
use Rattle.std.proofs.lemmas.Map.Entries.{length-keys_of}
use Rattle.dbn_value.specs.Members.{In}
use Rattle.dbn_value.specs.Ascending.{ascending}
use Rattle.dbn_value.specs.Sets.{Set, none, has, with_row, without_row, kept, listed, size, set_of}
use Rattle.dbn_value.proofs.MemberLaws.{in_any, any_in, in_filter, filter_in}
use Rattle.dbn_value.proofs.AscendingLaws.{any_from_in, in_from_any, same_members, sorted_remove_key, in_remove_key, remove_key_other, is_one, ascending_sorted}
use Rattle.dbn_value.proofs.EntryLaws.{put_is, sorted_from_test, keys_insert_entry}

some_or : (b : Bool) (x : Option (Unit {0})) → is_some (cond b (Some tt) x) ≡ (b || is_some x)
some_or true x = refl
some_or false x = refl

none_or : (b : Bool) (x : Option (Unit {0})) → is_some (cond b None x) ≡ (not b && is_some x)
none_or true x = refl
none_or false x = refl

or_none : (b : Bool) (x : Option (Unit {0})) → is_some (cond b x None) ≡ (is_some x && b)
or_none true None = refl
or_none true (Some u) = refl
or_none false None = refl
or_none false (Some u) = refl

marked : (x y : Option (Unit {0})) → is_some x ≡ is_some y → x ≡ y
marked None None e = refl
marked None (Some u) e = absurd (true≢false (sym e))
marked (Some u) None e = absurd (true≢false e)
marked (Some u) (Some v) e = refl

-- ---- what needs no law of the order

module _ {K : Type 0} (R : K → K → Ordering) where
  pub has_none : (q : K) → has (none {R = R}) q ≡ false
  unfolding has none
  has_none q = ap is_some (map.get-empty R q)

  pub size_none : size (none {R = R}) ≡ 0
  unfolding size none
  size_none = map.len-empty R (Unit {0})

module _ {K : Type 0} {R : K → K → Ordering} where
  pub has_listed : (s : Set R) (q : K) → has s q ≡ list_any (eq_by_cmp R q) (listed s)
  unfolding has listed
  has_listed s q = map.contains_key-keys s q

  pub size_listed : (s : Set R) → size s ≡ length (listed s)
  unfolding size listed
  size_listed s = map.len-entries s ∙ sym (length-keys_of (map.entries s))

  pub sorted_listed : (s : Set R) → IsStrictlySortedBy R (listed s)
  unfolding listed
  sorted_listed s = sorted_from_test R (map.entries s) (map.entries_sorted s)

  -- a set without members
  pub none_of_size : (s : Set R) → size s ≡ 0 → s ≡ none
  unfolding size none
  none_of_size s e = map.empty_of_len s e

module _ {K : Type 0} {R : K → K → Ordering} (o : IsTotalOrder R) where
  pub has_with : (s : Set R) (r q : K) → has (with_row s r) q ≡ (eq_by_cmp R q r || has s q)
  unfolding has with_row
  has_with s r q = ap is_some (map.get-insert o s r tt q) ∙ some_or (eq_by_cmp R q r) (map.get s q)

  pub has_without : (s : Set R) (r q : K) → has (without_row s r) q ≡ (not (eq_by_cmp R q r) && has s q)
  unfolding has without_row
  has_without s r q = ap is_some (map.get-remove o s r q) ∙ none_or (eq_by_cmp R q r) (map.get s q)

  pub has_set_of : (xs : List K) (q : K) → has (set_of {R = R} xs) q ≡ list_any (eq_by_cmp R q) xs
  unfolding set_of
  has_set_of [] q = has_none R q
  has_set_of (x ∷ xs) q = has_with (set_of xs) x q ∙ ap (λ b. eq_by_cmp R q x || b) (has_set_of xs q)

  pub size_with : (s : Set R) (r : K) → size (with_row s r) ≡ cond (has s r) (size s) (size s + 1)
  unfolding size with_row has
  size_with s r = map.len-insert o s r tt

  pub size_without : (s : Set R) (r : K) → size (without_row s r) ≡ cond (has s r) (size s - 1) (size s)
  unfolding size without_row has
  size_without s r = map.len-remove o s r

  pub itself : (q : K) → eq_by_cmp R q q ≡ true
  itself q = ap is_eq (tied_itself o q)

  -- ---- the ascending list of a set

  pub listed_with : (s : Set R) (r : K) → listed (with_row s r) ≡ insert_key R (listed s) r
  unfolding listed with_row
  listed_with s r = ap keys_of (map.entries-insert o s r tt ∙ put_is R r tt (map.entries s)) ∙ keys_insert_entry R r tt (map.entries s)

  pub listed_has : (s : Set R) (q : K) → In q (listed s) → has s q ≡ true
  listed_has s q at = has_listed s q ∙ any_from_in o q (listed s) at

  module _ (exact : IsAntisymmetric R) where
    pub same_set : (s t : Set R) → ((q : K) → has s q ≡ has t q) → s ≡ t
    unfolding has
    same_set s t alike = map.same_map o exact s t (λ q. marked _ _ (alike q))

    pub has_kept : (s : Set R) (t : K → Bool) (q : K) → has (kept s t) q ≡ (has s q && t q)
    unfolding has kept
    has_kept s t q = ap is_some (map.get-retain_keys s t q (λ x e. ap t (sym (exact q x e)))) ∙ or_none (t q) (map.get s q)

    pub has_in : (s : Set R) (q : K) → has s q ≡ true → In q (listed s)
    has_in s q e = in_from_any o exact q (listed s) (sym (has_listed s q) ∙ e)

    -- a test that passes in the list passes at a member, and the other way round
    pub any_in_set : (s : Set R) (t : K → Bool) → list_any t (listed s) ≡ true → (q : K) × (has s q ≡ true) × (t q ≡ true)
    any_in_set s t e = let found = any_in t (listed s) e in (found.0, listed_has s found.0 found.1, found.2)

    pub in_set_any : (s : Set R) (t : K → Bool) (q : K) → has s q ≡ true → t q ≡ true → list_any t (listed s) ≡ true
    in_set_any s t q at e = in_any t q (listed s) (has_in s q at) e

    pub listed_set_of : (xs : List K) → listed (set_of {R = R} xs) ≡ ascending R xs
    unfolding set_of
    listed_set_of [] = no_members (listed (none {R = R})) (λ q. sym (has_listed (none {R = R}) q) ∙ has_none R q)
      where
        no_members : (ys : List K) → ((q : K) → list_any (eq_by_cmp R q) ys ≡ false) → ys ≡ []
        no_members [] h = refl
        no_members (y ∷ ys) h = absurd (true≢false (sym (ap (λ b. b || list_any (eq_by_cmp R y) ys) (itself y)) ∙ h y))
    listed_set_of (x ∷ xs) = listed_with (set_of xs) x ∙ ap (λ l. insert_key R l x) (listed_set_of xs)

    pub listed_set_of_sorted : (xs : List K) → IsStrictlySortedBy R xs → listed (set_of {R = R} xs) ≡ xs
    listed_set_of_sorted xs s = listed_set_of xs ∙ ascending_sorted o exact xs s

    pub set_of_listed : (s : Set R) → set_of (listed s) ≡ s
    set_of_listed s = same_set (set_of (listed s)) s (λ q. has_set_of (listed s) q ∙ sym (has_listed s q))

    pub same_listed : (s t : Set R) → listed s ≡ listed t → s ≡ t
    same_listed s t e = sym (set_of_listed s) ∙ ap set_of e ∙ set_of_listed t

    pub listed_kept : (s : Set R) (t : K → Bool) → listed (kept s t) ≡ filter t (listed s)
    listed_kept s t =
        same_members o (listed (kept s t)) (filter t (listed s)) (sorted_listed (kept s t)) (IsStrictlySortedBy-filter R t (listed s) (sorted_listed s))
        (λ q at. let both = and_parts (has s q) (t q) (sym (has_kept s t q) ∙ listed_has (kept s t) q at) in filter_in t q (listed s) (has_in s q both.0) both.1)
        (λ q at. let found = in_filter t q (listed s) at in has_in (kept s t) q (has_kept s t q ∙ and_from (has s q) (t q) (listed_has s q found.0) found.1))

    pub listed_without : (s : Set R) (r : K) → listed (without_row s r) ≡ remove_key (is_at (R r)) (listed s)
    listed_without s r =
        same_members o (listed (without_row s r)) (remove_key (is_at (R r)) (listed s)) (sorted_listed (without_row s r)) (sorted_remove_key o r (listed s) (sorted_listed s))
        (λ q at.
        let both = and_parts (not (eq_by_cmp R q r)) (has s q) (sym (has_without s r q) ∙ listed_has (without_row s r) q at) in
        remove_key_other o r q (listed s) (sorted_listed s) (has_in s q both.1) ((eq_by_cmp_equiv o).symm r q ∙ not-true _ both.0))
        (λ q at.
        let found = in_remove_key o r q (listed s) (sorted_listed s) at in
        has_in (without_row s r) q
        (has_without s r q ∙ and_from _ _ (ap not ((eq_by_cmp_equiv o).symm q r ∙ found.1)) (listed_has s q found.0)))

    -- ---- a change that is taken back, or changes nothing

    has_at : (s : Set R) (r q : K) (b : Bool) → has s r ≡ b → eq_by_cmp R q r ≡ true → has s q ≡ b
    has_at s r q b e same = ap (has s) (is_one o exact q r same) ∙ e

    pub with_same : (s : Set R) (r : K) → has s r ≡ true → with_row s r ≡ s
    with_same s r there =
        same_set (with_row s r) s (λ q. has_with s r q ∙ by q (eq_by_cmp R q r) refl)
      where
        by : (q : K) (b : Bool) → eq_by_cmp R q r ≡ b → (b || has s q) ≡ has s q
        by q true e = sym (has_at s r q true there e)
        by q false e = refl

    pub without_same : (s : Set R) (r : K) → has s r ≡ false → without_row s r ≡ s
    without_same s r missing =
        same_set (without_row s r) s (λ q. has_without s r q ∙ by q (eq_by_cmp R q r) refl)
      where
        by : (q : K) (b : Bool) → eq_by_cmp R q r ≡ b → (not b && has s q) ≡ has s q
        by q true e = sym (has_at s r q false missing e)
        by q false e = refl

    pub put_back : (s : Set R) (r : K) → has s r ≡ true → with_row (without_row s r) r ≡ s
    put_back s r there =
        same_set (with_row (without_row s r) r) s (λ q. has_with (without_row s r) r q ∙ ap (λ b. eq_by_cmp R q r || b) (has_without s r q) ∙ by q (eq_by_cmp R q r) refl)
      where
        by : (q : K) (b : Bool) → eq_by_cmp R q r ≡ b → (b || (not b && has s q)) ≡ has s q
        by q true e = sym (has_at s r q true there e)
        by q false e = refl

    pub taken_back : (s : Set R) (r : K) → has s r ≡ false → without_row (with_row s r) r ≡ s
    taken_back s r missing =
        same_set (without_row (with_row s r) r) s (λ q. has_without (with_row s r) r q ∙ ap (λ b. not (eq_by_cmp R q r) && b) (has_with s r q) ∙ by q (eq_by_cmp R q r) refl)
      where
        by : (q : K) (b : Bool) → eq_by_cmp R q r ≡ b → (not b && (b || has s q)) ≡ has s q
        by q true e = sym (has_at s r q false missing e)
        by q false e = refl

    kept_over : (s : Set R) (r : K) (t : K → Bool) (b : Bool) → t r ≡ b → kept (with_row s r) t ≡ cond b (with_row (kept s t) r) (kept s t)
    kept_over s r t true e =
        same_set (kept (with_row s r) t) (with_row (kept s t) r)
        (λ q. has_kept (with_row s r) t q ∙ ap (λ b. b && t q) (has_with s r q) ∙ by q (eq_by_cmp R q r) refl ∙ ap (λ b. eq_by_cmp R q r || b) (sym (has_kept s t q)) ∙ sym (has_with (kept s t) r q))
      where
        by : (q : K) (b : Bool) → eq_by_cmp R q r ≡ b → ((b || has s q) && t q) ≡ (b || (has s q && t q))
        by q true same = ap t (is_one o exact q r same) ∙ e
        by q false same = refl
    kept_over s r t false e =
        same_set (kept (with_row s r) t) (kept s t)
        (λ q. has_kept (with_row s r) t q ∙ ap (λ b. b && t q) (has_with s r q) ∙ by q (eq_by_cmp R q r) refl ∙ sym (has_kept s t q))
      where
        fails : (b : Bool) → (b && false) ≡ false
        fails true = refl
        fails false = refl

        by : (q : K) (b : Bool) → eq_by_cmp R q r ≡ b → ((b || has s q) && t q) ≡ (has s q && t q)
        by q true same = let no = ap t (is_one o exact q r same) ∙ e in no ∙ sym (ap (λ b. has s q && b) no ∙ fails (has s q))
        by q false same = refl

    pub kept_with : (s : Set R) (r : K) (t : K → Bool) → kept (with_row s r) t ≡ cond (t r) (with_row (kept s t) r) (kept s t)
    kept_with s r t = kept_over s r t (t r) refl

    -- how many members pass a test once one more is there
    pub size_kept_with : (s : Set R) (r : K) (t : K → Bool) → has s r ≡ false → size (kept (with_row s r) t) ≡ cond (t r) (size (kept s t) + 1) (size (kept s t))
    size_kept_with s r t missing = ap size (kept_with s r t) ∙ by (t r)
      where
        by : (b : Bool) → size (cond b (with_row (kept s t) r) (kept s t)) ≡ cond b (size (kept s t) + 1) (size (kept s t))
        by true =
            size_with (kept s t) r
            ∙ ap (λ b. cond b (size (kept s t)) (size (kept s t) + 1)) (has_kept s t r ∙ ap (λ b. b && t r) missing)
        by false = refl
