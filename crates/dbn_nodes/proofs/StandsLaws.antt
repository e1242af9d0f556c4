-- What a node keeps follows a change of its inputs.
use Rattle.std.proofs.Common.{◌≡◌, ◌+◌, ◌-◌, inl, ⊎_elim, ℕ, Bool, true, false, cond, not, ◌&&◌, List, [], ◌∷◌, refl, sym, ap, ◌∙◌, subst, length, arith}
use Rattle.std.specs.declared.cmp.Ordering.{Ordering}
use Rattle.std.specs.Ordering.{eq_by_cmp}
use Rattle.std.specs.Cmp.{IsTotalOrder, both_ways, eq_by_cmp_equiv}
use Rattle.std.specs.Cmp.Lexicographic.{slice_cmp, lists_total}
use Rattle.std.specs.FinMap.{IsAntisymmetric}
use Rattle.std.specs.BTreeSet.{insert_key}
use Rattle.std.specs.List.{filter}
use Rattle.std.specs.List.Sorted.{IsStrictlySortedBy}
use Rattle.std.proofs.lemmas.Bool.{true≢false}
use Rattle.dbn_value.specs.Members.{In}
use Rattle.dbn_value.specs.Sets.{kept, listed, set_of, size, with_row}
use Rattle.dbn_value.proofs.SetLaws.{size_listed, listed_kept, listed_set_of_sorted, listed_with, size_kept_with, has_listed}
use Rattle.dbn_value.proofs.AscendingLaws.{insert_key_new, insert_key_old, in_insert_key, sorted_insert_key, same_members}
use Rattle.dbn_nodes.specs.Tables.{choose, count_at, has}
use Rattle.dbn_nodes.specs.Stands.{IsIndex}
use Rattle.dbn_nodes.proofs.ChangeLaws.{Adds, Moves, rows_exact, row_in_rows, in_row, not_row, itself, same_row}

module _ {C : Type 0} {R : C → C → Ordering} (o : IsTotalOrder R) (exact : IsAntisymmetric R) where
  pub was_there : (b : Bool) (s z : List (List C)) (r : List C) → Moves b s (r ∷ []) z → has (slice_cmp R) s r ≡ not b
  was_there true s z r a = not_row o exact r s (λ at. a.fresh r (inl refl) at)
  was_there false s z r a = in_row o exact r s (a.front r (inl refl))

  same_has : (s z : List (List C)) (q : List C) → (In q s → In q z) → (In q z → In q s) → has (slice_cmp R) z q ≡ has (slice_cmp R) s q
  same_has s z q to from = both_ways _ _ (λ e. in_row o exact q s (from (row_in_rows o exact q z e))) (λ e. in_row o exact q z (to (row_in_rows o exact q s e)))

  other : (q r : List C) → eq_by_cmp (slice_cmp R) r q ≡ false → q ≡ r → ⊥
  other q r e is = true≢false (sym (itself o exact r) ∙ ap (eq_by_cmp (slice_cmp R) r) (sym is) ∙ e)

  only : (s z : List (List C)) (q r : List C) → Adds s (r ∷ []) z → (q ≡ r → ⊥) → In q z → In q s
  only s z q r a none at = ⊎_elim (λ new. ⊎_elim (λ e. absurd (none e)) (λ no_row. absurd no_row) new) (λ old. old) (a.back q at)

  -- whether a row is there after the move
  pub is_there : (b : Bool) (s z : List (List C)) (r : List C) → Moves b s (r ∷ []) z → has (slice_cmp R) z r ≡ b
  is_there true s z r a = in_row o exact r z (a.front r (inl refl))
  is_there false s z r a = not_row o exact r z (λ at. a.fresh r (inl refl) at)

  pub others_stay : (b : Bool) (s z : List (List C)) (r q : List C) → Moves b s (r ∷ []) z → eq_by_cmp (slice_cmp R) r q ≡ false → has (slice_cmp R) z q ≡ has (slice_cmp R) s q
  others_stay true s z r q a e = same_has s z q (λ at. a.keep q at) (λ at. only s z q r a (other q r e) at)
  others_stay false s z r q a e = same_has s z q (λ at. only z s q r a (other q r e) at) (λ at. a.keep q at)

  turn : (b c : Bool) → cond (c && true) (choose b 1 0) (choose (not b && c) 1 0) ≡ choose (b && c) 1 0
  turn true true = refl
  turn true false = refl
  turn false true = refl
  turn false false = refl

  passed : (c : Bool) (m n : ℕ) → cond (c && false) m n ≡ n
  passed true m n = refl
  passed false m n = refl

  pub index_moves : (old new : List (List C × List (List C × ℕ))) (key_of : List C → List C) (b : Bool) (s z : List (List C)) (r : List C)
      → ((k q : List C) → count_at (slice_cmp R) new k q ≡ cond (eq_by_cmp (slice_cmp R) (key_of r) k && eq_by_cmp (slice_cmp R) r q) (choose b 1 0) (count_at (slice_cmp R) old k q))
      → IsIndex R old key_of s → Moves b s (r ∷ []) z → IsIndex R new key_of z
  index_moves old new key_of b s z r counts stands a k q = here (eq_by_cmp (slice_cmp R) r q) refl
    where
      here : (d : Bool) → eq_by_cmp (slice_cmp R) r q ≡ d → count_at (slice_cmp R) new k q ≡ choose (has (slice_cmp R) z q && eq_by_cmp (slice_cmp R) (key_of q) k) 1 0
      here true e =
          subst (λ x. count_at (slice_cmp R) new k x ≡ choose (has (slice_cmp R) z x && eq_by_cmp (slice_cmp R) (key_of x) k) 1 0) (same_row o exact r q e)
          (counts k r
          ∙ ap (λ d. cond (eq_by_cmp (slice_cmp R) (key_of r) k && d) (choose b 1 0) (count_at (slice_cmp R) old k r)) (itself o exact r)
          ∙ ap (λ n. cond (eq_by_cmp (slice_cmp R) (key_of r) k && true) (choose b 1 0) n) (stands k r ∙ ap (λ d. choose (d && eq_by_cmp (slice_cmp R) (key_of r) k) 1 0) (was_there b s z r a))
          ∙ turn b (eq_by_cmp (slice_cmp R) (key_of r) k)
          ∙ ap (λ d. choose (d && eq_by_cmp (slice_cmp R) (key_of r) k) 1 0) (sym (is_there b s z r a)))
      here false e =
          counts k q
          ∙ ap (λ d. cond (eq_by_cmp (slice_cmp R) (key_of r) k && d) (choose b 1 0) (count_at (slice_cmp R) old k q)) e
          ∙ passed (eq_by_cmp (slice_cmp R) (key_of r) k) (choose b 1 0) (count_at (slice_cmp R) old k q)
          ∙ stands k q
          ∙ ap (λ d. choose (d && eq_by_cmp (slice_cmp R) (key_of q) k) 1 0) (sym (others_stay b s z r q a e))

  -- counts f of rows, under the key without cells
  abbrev pub IsTally : List (List C × List (List C × ℕ)) → (List C → ℕ) → Type 0
  IsTally table f = (k q : List C) → count_at (slice_cmp R) table k q ≡ choose (eq_by_cmp (slice_cmp R) k []) (f q) 0

  pub tally_here : (table : List (List C × List (List C × ℕ))) (f : List C → ℕ) (p : List C) → IsTally table f → count_at (slice_cmp R) table [] p ≡ f p
  tally_here table f p stands = stands [] p ∙ ap (λ d. choose d (f p) 0) (itself o exact [])

  pub tally_moves : (old new : List (List C × List (List C × ℕ))) (f g : List C → ℕ) (b : Bool) (p : List C)
      → ((k q : List C) → count_at (slice_cmp R) new k q ≡ cond (eq_by_cmp (slice_cmp R) [] k && eq_by_cmp (slice_cmp R) p q) (choose b (count_at (slice_cmp R) old [] p + 1) (count_at (slice_cmp R) old [] p - 1)) (count_at (slice_cmp R) old k q))
      → IsTally old f → g p ≡ choose b (f p + 1) (f p - 1) → ((q : List C) → eq_by_cmp (slice_cmp R) p q ≡ false → g q ≡ f q) → IsTally new g
  tally_moves old new f g b p counts stands more same k q = here (eq_by_cmp (slice_cmp R) [] k) (eq_by_cmp (slice_cmp R) p q) refl refl
    where
      turned : eq_by_cmp (slice_cmp R) k [] ≡ eq_by_cmp (slice_cmp R) [] k
      turned = (eq_by_cmp_equiv (lists_total o)).symm k []

      here : (c d : Bool) → eq_by_cmp (slice_cmp R) [] k ≡ c → eq_by_cmp (slice_cmp R) p q ≡ d → count_at (slice_cmp R) new k q ≡ choose (eq_by_cmp (slice_cmp R) k []) (g q) 0
      here true true e h =
          counts k q
          ∙ ap (λ c. cond (c && eq_by_cmp (slice_cmp R) p q) (choose b (count_at (slice_cmp R) old [] p + 1) (count_at (slice_cmp R) old [] p - 1)) (count_at (slice_cmp R) old k q)) e
          ∙ ap (λ d. cond d (choose b (count_at (slice_cmp R) old [] p + 1) (count_at (slice_cmp R) old [] p - 1)) (count_at (slice_cmp R) old k q)) h
          ∙ ap (λ n. choose b (n + 1) (n - 1)) (tally_here old f p stands)
          ∙ sym more
          ∙ ap g (same_row o exact p q h)
          ∙ ap (λ c. choose c (g q) 0) (sym (turned ∙ e))
      here true false e h =
          counts k q
          ∙ ap (λ c. cond (c && eq_by_cmp (slice_cmp R) p q) (choose b (count_at (slice_cmp R) old [] p + 1) (count_at (slice_cmp R) old [] p - 1)) (count_at (slice_cmp R) old k q)) e
          ∙ ap (λ d. cond d (choose b (count_at (slice_cmp R) old [] p + 1) (count_at (slice_cmp R) old [] p - 1)) (count_at (slice_cmp R) old k q)) h
          ∙ stands k q ∙ ap (λ n. choose (eq_by_cmp (slice_cmp R) k []) n 0) (sym (same q h))
      here false d e h =
          counts k q
          ∙ ap (λ c. cond (c && eq_by_cmp (slice_cmp R) p q) (choose b (count_at (slice_cmp R) old [] p + 1) (count_at (slice_cmp R) old [] p - 1)) (count_at (slice_cmp R) old k q)) e
          ∙ stands k q
          ∙ ap (λ c. choose c (f q) 0) (turned ∙ e)
          ∙ ap (λ c. choose c (g q) 0) (sym (turned ∙ e))

  -- ---- counts of a union

  pub either_counts : (b : Bool) (s z : List (List C)) (r : List C) (m : ℕ) → Moves b s (r ∷ []) z
      → choose (has (slice_cmp R) z r) 1 0 + m ≡ choose b (choose (has (slice_cmp R) s r) 1 0 + m + 1) (choose (has (slice_cmp R) s r) 1 0 + m - 1)
  either_counts true s z r m a = rw (is_there true s z r a, was_there true s z r a) (omega arith)
  either_counts false s z r m a = rw (is_there false s z r a, was_there false s z r a) (omega arith)

  pub either_counts_right : (b : Bool) (t u : List (List C)) (r : List C) (m : ℕ) → Moves b t (r ∷ []) u
      → m + choose (has (slice_cmp R) u r) 1 0 ≡ choose b (m + choose (has (slice_cmp R) t r) 1 0 + 1) (m + choose (has (slice_cmp R) t r) 1 0 - 1)
  either_counts_right true t u r m a = rw (is_there true t u r a, was_there true t u r a) (omega arith)
  either_counts_right false t u r m a = rw (is_there false t u r a, was_there false t u r a) (omega arith)

  -- ---- counts of a projection

  pub adds_is : (s z : List (List C)) (r : List C) → IsStrictlySortedBy (slice_cmp R) s → IsStrictlySortedBy (slice_cmp R) z → Adds s (r ∷ []) z → z ≡ insert_key (slice_cmp R) s r
  adds_is s z r ss sz a =
      same_members (lists_total o) z (insert_key (slice_cmp R) s r) sz (sorted_insert_key (lists_total o) r s ss)
      (λ q at. ⊎_elim (λ new. ⊎_elim (λ e. subst (λ y. In y (insert_key (slice_cmp R) s r)) (sym e) (insert_key_new (lists_total o) (rows_exact o exact) r s)) (λ none. absurd none) new) (λ old. insert_key_old (slice_cmp R) r q s old) (a.back q at))
      (λ q at. ⊎_elim (λ e. subst (λ y. In y z) (sym e) (a.front r (inl refl))) (λ old. a.keep q old) (in_insert_key (slice_cmp R) r q s at))

  pub filter_more : (t : List C → Bool) (s z : List (List C)) (r : List C) → IsStrictlySortedBy (slice_cmp R) s → IsStrictlySortedBy (slice_cmp R) z → Adds s (r ∷ []) z
      → length (filter t z) ≡ cond (t r) (length (filter t s) + 1) (length (filter t s))
  filter_more t s z r ss sz a =
      let at_s : listed (set_of {R = slice_cmp R} s) ≡ s = listed_set_of_sorted (lists_total o) (rows_exact o exact) s ss in
      let all_of : (x : List (List C)) → IsStrictlySortedBy (slice_cmp R) x → length (filter t x) ≡ size (kept (set_of {R = slice_cmp R} x) t) =
      λ x sx. sym (size_listed (kept (set_of {R = slice_cmp R} x) t) ∙ ap length (listed_kept (lists_total o) (rows_exact o exact) (set_of {R = slice_cmp R} x) t) ∙ ap (λ l. length (filter t l)) (listed_set_of_sorted (lists_total o) (rows_exact o exact) x sx)) in
      let grown : length (filter t z) ≡ size (kept (with_row (set_of {R = slice_cmp R} s) r) t) =
      sym (size_listed (kept (with_row (set_of {R = slice_cmp R} s) r) t) ∙ ap length (listed_kept (lists_total o) (rows_exact o exact) (with_row (set_of {R = slice_cmp R} s) r) t)
      ∙ ap (λ l. length (filter t l)) (listed_with (lists_total o) (set_of {R = slice_cmp R} s) r ∙ ap (λ l. insert_key (slice_cmp R) l r) at_s ∙ sym (adds_is s z r ss sz a))) in
      grown
      ∙ size_kept_with (lists_total o) (rows_exact o exact) (set_of {R = slice_cmp R} s) r t (has_listed (set_of {R = slice_cmp R} s) r ∙ ap (λ l. has (slice_cmp R) l r) at_s ∙ not_row o exact r s (λ at. a.fresh r (inl refl) at))
      ∙ ap (λ n. cond (t r) (n + 1) n) (sym (all_of s ss))
