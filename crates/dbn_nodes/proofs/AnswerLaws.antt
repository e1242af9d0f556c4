-- The rows of a node follow from what it keeps.
use Rattle.std.proofs.Common.{◌≡◌, ◌<◌, ◌+◌, ℕ, zero, suc, inl, Bool, true, false, cond, not, ◌&&◌, ◌||◌, ◌↔◌, List, [], ◌∷◌, ◌++◌, map, refl, ap, sym, ◌∙◌, subst, length, take, get_or, nat_lt, nat_eq, arith}
use Rattle.std.proofs.lemmas.Bool.Decides.{nat_tests}
use Rattle.std.proofs.lemmas.Bool.{true≢false, and_parts, and_from, false_from_ne_true}
use Rattle.std.specs.declared.cmp.Ordering.{Ordering}
use Rattle.std.specs.Ordering.{eq_by_cmp}
use Rattle.std.specs.Cmp.{IsTotalOrder, both_ways}
use Rattle.std.specs.Cmp.Lexicographic.{slice_cmp, lists_total}
use Rattle.std.specs.FinMap.{IsAntisymmetric}
use Rattle.std.specs.BTreeSet.{insert_key}
use Rattle.std.specs.List.{list_any, filter, flat_map}
use Rattle.std.specs.List.Sorted.{IsStrictlySortedBy}
use Rattle.std.proofs.lemmas.List.{append_assoc, map-append}
use Rattle.dbn_value.specs.Members.{In}
use Rattle.dbn_value.specs.Picked.{picked}
use Rattle.dbn_value.specs.Ascending.{ascending}
use Rattle.dbn_value.proofs.ListLaws.{take_more}
use Rattle.dbn_value.proofs.MemberLaws.{any_map, in_filter, filter_in}
use Rattle.dbn_value.proofs.AscendingLaws.{sorted_ascending, same_tests, any_ascending, ascending_push}
use Rattle.dbn_nodes.specs.declared.node.Node.TheVariants as node
use Rattle.dbn_nodes.specs.declared.state.Kept.{Kept}
use Rattle.dbn_nodes.specs.Changes.{maybe}
use Rattle.dbn_nodes.specs.Tables.{choose, count_at, has, AreRowsOf}
use Rattle.dbn_nodes.specs.Values.{matched, without, projected, either}
use Rattle.dbn_nodes.specs.Stands.{firsts, IsPlain, IsSupport, IsEither, Stands, Good}
use Rattle.dbn_nodes.specs.Answering.{JoinsWith, all_pairs}
use Rattle.dbn_nodes.proofs.ChangeLaws.{rows_exact, row_in_rows, in_row, itself}
use Rattle.dbn_nodes.proofs.NodeLaws.{plain_has, left_others}
use Rattle.dbn_nodes.proofs.ShelfLaws.{some_of, of_some}

module _ {A : Type 0} where
  filter_some : (t : A → Bool) (xs : List A) → nat_lt 0 (length (filter t xs)) ≡ list_any t xs
  filter_some t [] = refl
  filter_some t (x ∷ xs) = elim (t x) as (λ b. nat_lt 0 (length (cond b (x ∷ filter t xs) (filter t xs))) ≡ (b || list_any t xs)) [ true ↦ grind (arith, nat_tests) | false ↦ filter_some t xs ]

  pub filter_append : (t : A → Bool) (xs ys : List A) → filter t (xs ++ ys) ≡ filter t xs ++ filter t ys
  filter_append t [] ys = refl
  filter_append t (x ∷ xs) ys = elim (t x) as (λ b. cond b (x ∷ filter t (xs ++ ys)) (filter t (xs ++ ys)) ≡ cond b (x ∷ filter t xs) (filter t xs) ++ filter t ys) [ true ↦ ap (λ zs. x ∷ zs) (filter_append t xs ys) | false ↦ filter_append t xs ys ]

  filter_one : (b : Bool) (x : A) → cond b (x ∷ []) [] ≡ maybe b x
  filter_one b x = refl

  -- one more row of a filter
  pub filter_step : (t : A → Bool) (xs : List A) (i : ℕ) (x : A) (was new : List A) → i < length xs → x ≡ get_or xs i x → was ≡ filter t (take i xs) → new ≡ was ++ maybe (t x) x → new ≡ filter t (take (i + 1) xs)
  filter_step t xs i x was new within is before made =
      made ∙ ap (λ ys. ys ++ maybe (t x) x) before ∙ sym (ap (filter t) (take_more xs i x within is) ∙ filter_append t (take i xs) (x ∷ []))

  pub filter_same : (t u : A → Bool) (xs : List A) → ((x : A) → t x ≡ u x) → filter t xs ≡ filter u xs
  filter_same t u [] same = refl
  filter_same t u (x ∷ xs) same = ap (λ b. cond b (x ∷ filter t xs) (filter t xs)) (same x) ∙ ap (λ ys. cond (u x) (x ∷ ys) ys) (filter_same t u xs same)

  any_append : (t : A → Bool) (xs ys : List A) → list_any t (xs ++ ys) ≡ (list_any t xs || list_any t ys)
  any_append t [] ys = refl
  any_append t (x ∷ xs) ys = elim (t x) as (λ b. (b || list_any t (xs ++ ys)) ≡ ((b || list_any t xs) || list_any t ys)) [ true ↦ refl | false ↦ any_append t xs ys ]

pub both_then : {A B D : Type 0} → A ↔ B → B ↔ D → A ↔ D
both_then x y = (λ a. y.0 (x.0 a), λ d. x.1 (y.1 d))

either_of : (a b : Bool) → nat_lt 0 (choose a 1 0 + choose b 1 0) ≡ (a || b)
either_of true true = refl
either_of true false = refl
either_of false true = refl
either_of false false = refl

module _ {C : Type 0} {R : C → C → Ordering} (o : IsTotalOrder R) (exact : IsAntisymmetric R) where
  pub project_has : (table : List (List C × List (List C × ℕ))) (cols : List ℕ) (s : List (List C)) (row : List C) → IsSupport R table cols s
      → nat_lt 0 (count_at (slice_cmp R) table [] row) ≡ has (slice_cmp R) (projected R cols s) row
  project_has table cols s row stands =
      ap (nat_lt 0) (stands [] row ∙ ap (λ b. choose b (length (filter (λ r. eq_by_cmp (slice_cmp R) row (picked cols r)) s)) 0) (itself o exact [])) ∙ filter_some (λ r. eq_by_cmp (slice_cmp R) row (picked cols r)) s
      ∙ sym (any_map (eq_by_cmp (slice_cmp R) row) (picked cols) s)
      ∙ sym (any_ascending (lists_total o) (rows_exact o exact) row (map (picked cols) s))

  pub union_has : (table : List (List C × List (List C × ℕ))) (s t : List (List C)) (row : List C) → IsEither R table s t
      → nat_lt 0 (count_at (slice_cmp R) table [] row) ≡ has (slice_cmp R) (either R s t) row
  union_has table s t row stands =
      ap (nat_lt 0) (stands [] row ∙ ap (λ b. choose b (choose (has (slice_cmp R) s row) 1 0 + choose (has (slice_cmp R) t row) 1 0) 0) (itself o exact [])) ∙ either_of (has (slice_cmp R) s row) (has (slice_cmp R) t row)
      ∙ sym (any_append (eq_by_cmp (slice_cmp R) row) s t)
      ∙ sym (any_ascending (lists_total o) (rows_exact o exact) row (s ++ t))

  -- rows of a key are those that have the same members
  same_rows : (table : List (List C × List (List C × ℕ))) (rows value : List (List C)) → IsStrictlySortedBy (slice_cmp R) value → ((row : List C) → nat_lt 0 (count_at (slice_cmp R) table [] row) ≡ has (slice_cmp R) value row)
      → AreRowsOf (slice_cmp R) table [] rows → rows ≡ value
  same_rows table rows value sorted each are = same_tests (lists_total o) (rows_exact o exact) rows value are.ascends sorted (λ q. are.members q ∙ each q)

  pub project_rows : (table : List (List C × List (List C × ℕ))) (cols : List ℕ) (s rows : List (List C)) → IsSupport R table cols s → AreRowsOf (slice_cmp R) table [] rows → rows ≡ projected R cols s
  project_rows table cols s rows stands are = same_rows table rows (projected R cols s) (sorted_ascending (lists_total o) (map (picked cols) s)) (λ row. project_has table cols s row stands) are

  pub union_rows : (table : List (List C × List (List C × ℕ))) (s t rows : List (List C)) → IsEither R table s t → AreRowsOf (slice_cmp R) table [] rows → rows ≡ either R s t
  union_rows table s t rows stands are = same_rows table rows (either R s t) (sorted_ascending (lists_total o) (s ++ t)) (λ row. union_has table s t row stands) are

  pub plain_rows : (table : List (List C × List (List C × ℕ))) (s rows : List (List C)) → IsStrictlySortedBy (slice_cmp R) s → IsPlain R table s → AreRowsOf (slice_cmp R) table [] rows → rows ≡ s
  plain_rows table s rows sorted stands are = same_rows table rows s sorted (λ row. plain_has o exact table s row stands) are

  pub diff_rows : (l r : List (List C × List (List C × ℕ))) (s t lefts rows : List (List C)) → IsStrictlySortedBy (slice_cmp R) s → IsPlain R l s → IsPlain R r t → AreRowsOf (slice_cmp R) l [] lefts
      → rows ≡ filter (λ row. not (nat_lt 0 (count_at (slice_cmp R) r [] row))) lefts → rows ≡ without R s t
  diff_rows l r s t lefts rows sorted ls rt are is =
      is ∙ ap (filter (λ row. not (nat_lt 0 (count_at (slice_cmp R) r [] row)))) (plain_rows l s lefts sorted ls are)
      ∙ filter_same (λ row. not (nat_lt 0 (count_at (slice_cmp R) r [] row))) (λ row. not (has (slice_cmp R) t row)) s (λ row. ap not (plain_has o exact r t row rt))

  -- ---- sets that grow

  pub set_step : (f : List C → List C) (rows : List (List C)) (i : ℕ) (row made : List C) (was new xs : List (List C)) → i < length rows → row ≡ get_or rows i row → made ≡ f row
      → was ≡ ascending (slice_cmp R) (xs ++ map f (take i rows)) → new ≡ insert_key (slice_cmp R) was made → new ≡ ascending (slice_cmp R) (xs ++ map f (take (i + 1) rows))
  set_step f rows i row made was new xs within is image before grown =
      grown ∙ ap (λ ks. insert_key (slice_cmp R) ks made) before ∙ ap (insert_key (slice_cmp R) (ascending (slice_cmp R) (xs ++ map f (take i rows)))) image
      ∙ sym (ascending_push (lists_total o) (rows_exact o exact) (f row) (xs ++ map f (take i rows)))
      ∙ ap (ascending (slice_cmp R)) (append_assoc xs (map f (take i rows)) (f row ∷ []) ∙ ap (λ ys. xs ++ ys) (sym (ap (map f) (take_more rows i row within is) ∙ map-append f (take i rows) (row ∷ []))))

  -- ---- joins

  flat_append : (f : List C → List (List C)) (xs ys : List (List C)) → flat_map f (xs ++ ys) ≡ flat_map f xs ++ flat_map f ys
  flat_append f [] ys = refl
  flat_append f (x ∷ xs) ys = ap (λ zs. f x ++ zs) (flat_append f xs ys) ∙ sym (append_assoc (f x) (flat_map f xs) (flat_map f ys))

  pub append_nil : (ys : List (List C)) → ys ++ [] ≡ ys
  append_nil [] = refl
  append_nil (y ∷ ys) = ap (λ zs. y ∷ zs) (append_nil ys)

  pub join_step : (on : List (ℕ × ℕ)) (table : List (List C × List (List C × ℕ))) (lefts t others : List (List C)) (i : ℕ) (row key : List C) (was new : List (List C)) → i < length lefts → row ≡ get_or lefts i row → key ≡ picked (firsts on) row
      → JoinsWith R on table lefts t → In row lefts → AreRowsOf (slice_cmp R) table key others → was ≡ ascending (slice_cmp R) (all_pairs R on (take i lefts) t)
      → ((xs : List (List C)) → was ≡ ascending (slice_cmp R) xs → new ≡ ascending (slice_cmp R) (xs ++ map (λ b. row ++ b) others)) → new ≡ ascending (slice_cmp R) (all_pairs R on (take (i + 1) lefts) t)
  join_step on table lefts t others i row key was new within is key_is joins at are before grown =
      let same : others ≡ filter (matched R on row) t = left_others o exact on table t others row joins.sorted (λ b bt. joins.within row b at bt) joins.stands (subst (λ k. AreRowsOf (slice_cmp R) table k others) key_is are) in
      grown (all_pairs R on (take i lefts) t) before
      ∙ ap (λ ys. ascending (slice_cmp R) (all_pairs R on (take i lefts) t ++ map (λ b. row ++ b) ys)) same
      ∙ ap (ascending (slice_cmp R)) (sym (ap (λ ls. all_pairs R on ls t) (take_more lefts i row within is) ∙ flat_append (λ a. map (λ b. a ++ b) (filter (matched R on a) t)) (take i lefts) (row ∷ [])
      ∙ ap (λ ys. all_pairs R on (take i lefts) t ++ ys) (append_nil (map (λ b. row ++ b) (filter (matched R on row) t)))))

  -- ---- whether a node has a row

  pub unit_has : (row : List C) → nat_eq (length row) 0 ≡ has (slice_cmp R) ([] ∷ []) row
  unit_has [] = refl
  unit_has (c ∷ row) = grind (arith, nat_tests)

  filter_has : (t : List C → Bool) (s : List (List C)) (row : List C) → has (slice_cmp R) (filter t s) row ≡ (t row && has (slice_cmp R) s row)
  filter_has t s row =
      both_ways _ _
      (λ e. let found = in_filter t row s (row_in_rows o exact row (filter t s) e) in and_from (t row) (has (slice_cmp R) s row) found.1 (in_row o exact row s found.0))
      (λ e. let parts = and_parts (t row) (has (slice_cmp R) s row) e in in_row o exact row (filter t s) (filter_in t row s (row_in_rows o exact row s parts.1) parts.0))

  turned_and : (a b : Bool) → (a && b) ≡ (b && a)
  turned_and true true = refl
  turned_and true false = refl
  turned_and false true = refl
  turned_and false false = refl

  pub diff_has : (l r : List (List C × List (List C × ℕ))) (s t : List (List C)) (row : List C) → IsPlain R l s → IsPlain R r t
      → (nat_lt 0 (count_at (slice_cmp R) l [] row) && not (nat_lt 0 (count_at (slice_cmp R) r [] row))) ≡ has (slice_cmp R) (without R s t) row
  diff_has l r s t row ls rt =
      ap (λ b. b && not (nat_lt 0 (count_at (slice_cmp R) r [] row))) (plain_has o exact l s row ls)
      ∙ ap (λ b. has (slice_cmp R) s row && not b) (plain_has o exact r t row rt)
      ∙ turned_and (has (slice_cmp R) s row) (not (has (slice_cmp R) t row))
      ∙ sym (filter_has (λ x. not (has (slice_cmp R) t x)) s row)

  -- ---- whether a node has no rows

  none_has : (rows : List (List C)) → ((row : List C) → has (slice_cmp R) rows row ≡ false) → rows ≡ []
  none_has [] none = refl
  none_has (x ∷ rows) none = absurd (true≢false (sym (in_row o exact x (x ∷ rows) (inl refl)) ∙ none x))

  not_below : (n : ℕ) → nat_lt 0 n ≡ false → n ≡ 0
  not_below zero e = refl
  not_below (suc n) e = grind (arith, nat_tests)

  key_only : (b : Bool) (n : ℕ) → n ≡ 0 → choose b n 0 ≡ 0
  key_only true n e = e
  key_only false n e = refl

  -- a table of supports is empty exactly where the value is
  support_empty : (table : List (List C × List (List C × ℕ))) (f : List C → ℕ) (value : List (List C)) → ((k p : List C) → count_at (slice_cmp R) table k p ≡ choose (eq_by_cmp (slice_cmp R) k []) (f p) 0)
      → ((row : List C) → nat_lt 0 (f row) ≡ has (slice_cmp R) value row) → ((k p : List C) → count_at (slice_cmp R) table k p ≡ 0) ↔ (value ≡ [])
  support_empty table f value stands each = (
    λ none. none_has value (λ row. sym (each row) ∙ ap (nat_lt 0) (sym (stands [] row ∙ ap (λ b. choose b (f row) 0) (itself o exact [])) ∙ none [] row)),
    λ empty k p. stands k p ∙ key_only (eq_by_cmp (slice_cmp R) k []) (f p) (not_below (f p) (each p ∙ ap (λ rows. has (slice_cmp R) rows p) empty)),
  )

  pub project_empty : (table : List (List C × List (List C × ℕ))) (cols : List ℕ) (s : List (List C)) → IsSupport R table cols s → ((k p : List C) → count_at (slice_cmp R) table k p ≡ 0) ↔ (projected R cols s ≡ [])
  project_empty table cols s stands =
      support_empty table (λ p. length (filter (λ r. eq_by_cmp (slice_cmp R) p (picked cols r)) s)) (projected R cols s) stands
      (λ row. filter_some (λ r. eq_by_cmp (slice_cmp R) row (picked cols r)) s ∙ sym (any_map (eq_by_cmp (slice_cmp R) row) (picked cols) s) ∙ sym (any_ascending (lists_total o) (rows_exact o exact) row (map (picked cols) s)))

  pub union_empty : (table : List (List C × List (List C × ℕ))) (s t : List (List C)) → IsEither R table s t → ((k p : List C) → count_at (slice_cmp R) table k p ≡ 0) ↔ (either R s t ≡ [])
  union_empty table s t stands =
      support_empty table (λ p. choose (has (slice_cmp R) s p) 1 0 + choose (has (slice_cmp R) t p) 1 0) (either R s t) stands
      (λ row. either_of (has (slice_cmp R) s row) (has (slice_cmp R) t row) ∙ sym (any_append (eq_by_cmp (slice_cmp R) row) s t) ∙ sym (any_ascending (lists_total o) (rows_exact o exact) row (s ++ t)))

  -- of a difference: each row of the left input is one of the right input
  pub diff_empty : (l r : List (List C × List (List C × ℕ))) (s t : List (List C)) → IsPlain R l s → IsPlain R r t
      → ((row : List C) → 0 < count_at (slice_cmp R) l [] row → 0 < count_at (slice_cmp R) r [] row) ↔ (without R s t ≡ [])
  diff_empty l r s t ls rt = (
    λ within. none_has (without R s t) (λ row. sym (diff_has l r s t row ls rt) ∙ denied (count_at (slice_cmp R) l [] row) (count_at (slice_cmp R) r [] row) (within row)),
    λ empty row. granted (count_at (slice_cmp R) l [] row) (count_at (slice_cmp R) r [] row) (diff_has l r s t row ls rt ∙ ap (λ rows. has (slice_cmp R) rows row) empty),
  )
    where
      denied : (m n : ℕ) → (0 < m → 0 < n) → (nat_lt 0 m && not (nat_lt 0 n)) ≡ false
      denied m n within =
          false_from_ne_true (nat_lt 0 m && not (nat_lt 0 n))
          (λ e. let parts = and_parts (nat_lt 0 m) (not (nat_lt 0 n)) e in true≢false (sym parts.1 ∙ ap not (of_some n (within (some_of m parts.0)))))

      granted : (m n : ℕ) → (nat_lt 0 m && not (nat_lt 0 n)) ≡ false → 0 < m → 0 < n
      granted m zero e some = absurd (true≢false (sym (and_from (nat_lt 0 m) (not (nat_lt 0 0)) (of_some m some) refl) ∙ e))
      granted m (suc n) e some = omega arith

  -- ---- all kinds

  pub joins_with : (l r : ℕ) (on : List (ℕ × ℕ)) (kept : Kept C) (lefts s t : List (List C)) → Good R (node.Join l r on) s t → Stands R (node.Join l r on) kept s t → lefts ≡ s → JoinsWith R on kept.rights lefts t
  joins_with l r on kept lefts s t good stands is = record {
    sorted = good.rights;
    within = λ a b at bt. good.suits.1 a b (subst (λ rows. In a rows) is at) bt;
    stands = stands.1;
  }
