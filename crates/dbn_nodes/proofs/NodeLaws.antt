-- Kind by kind: what a node keeps follows a change of an input, and the events lead to the value after it.
use Rattle.std.proofs.Common.{◌≡◌, ◌≤◌, ◌+◌, ◌-◌, ◌==◌, ◌⊎◌, inl, inr, ⊎_elim, ℕ, zero, suc, Bool, true, false, cond, not, ◌&&◌, List, [], ◌∷◌, ◌++◌, map, refl, sym, ap, ◌∙◌, subst, length, nat_eq, nat_lt, arith}
use Rattle.std.specs.declared.cmp.Ordering.{Ordering}
use Rattle.std.specs.Ordering.{eq_by_cmp}
use Rattle.std.specs.Cmp.{IsTotalOrder}
use Rattle.std.specs.Cmp.Lexicographic.{slice_cmp, lists_total}
use Rattle.std.specs.FinMap.{IsAntisymmetric}
use Rattle.std.specs.List.{list_all, filter, flat_map}
use Rattle.std.specs.List.Sorted.{IsStrictlySortedBy}
use Rattle.std.proofs.lemmas.Bool.{true≢false, and_parts, and_from}
use Rattle.std.proofs.lemmas.Bool.Decides.{nat_tests}
use Rattle.std.proofs.lemmas.List.Kept.{IsStrictlySortedBy-filter}
use Rattle.std.proofs.lemmas.List.{length-append, length-map}
use Rattle.dbn_value.specs.Members.{In}
use Rattle.dbn_value.specs.Picked.{picked}
use Rattle.dbn_value.proofs.MemberLaws.{in_filter, filter_in, in_append, in_map}
use Rattle.dbn_value.proofs.AscendingLaws.{same_members, sorted_one, sorted_ascending, in_images, images_in, not_below_itself, head_below}
use Rattle.std.proofs.lemmas.Map.Keys.{sorted_tail}
use Rattle.dbn_nodes.specs.declared.event.Event.{Event}
use Rattle.dbn_nodes.specs.declared.node.ColTest.{ColTest}
use Rattle.dbn_nodes.specs.declared.node.Added.{Added}
use Rattle.dbn_nodes.specs.declared.node.Node.{Node}
use Rattle.dbn_nodes.specs.declared.node.Node.TheVariants as node
use Rattle.dbn_nodes.specs.declared.state.Kept.{Kept}
use Rattle.dbn_nodes.specs.Tables.{choose, count_at, has, AreRowsOf}
use Rattle.dbn_nodes.specs.Changes.{row_in, comes, signed, maybe}
use Rattle.dbn_nodes.specs.Values.{passes, matched, joined, without, projected, either, extended, added_cells, value_of}
use Rattle.dbn_nodes.specs.Stands.{firsts, seconds, PairsIn, AreOneWide, IsIndex, IsPlain, Stands, Good, FollowsLeft, FollowsRight, LeadOn, most_left, most_right, LeadsLeft, LeadsRight}
use Rattle.dbn_nodes.proofs.ChangeLaws.{Adds, Apart, Moves, rows_exact, row_in_rows, in_row, itself, same_row, other_row, one_moves, moved_on}
use Rattle.dbn_nodes.proofs.ValueLaws.{filter_adds, image_adds, union_adds, union_adds_right, without_adds, fronts, join_left_adds, join_right_adds, matched_same, same_matched}
use Rattle.dbn_nodes.proofs.StandsLaws.{was_there, index_moves, tally_here, tally_moves, either_counts, either_counts_right, filter_more, others_stay}

module _ {C : Type 0} {R : C → C → Ordering} (o : IsTotalOrder R) (exact : IsAntisymmetric R) where
  pub sorted_value : (n : Node C) (s t : List (List C)) → IsStrictlySortedBy (slice_cmp R) s → IsStrictlySortedBy (slice_cmp R) (value_of R n s t)
  sorted_value node.Unit s t ss = sorted_one (slice_cmp R) []
  sorted_value (node.Scan feed) s t ss = ss
  sorted_value (node.Select from tests) s t ss = IsStrictlySortedBy-filter (slice_cmp R) (λ row. list_all (passes R row) tests) s ss
  sorted_value (node.Join l r on) s t ss = sorted_ascending (lists_total o) (flat_map (λ a. map (λ b. a ++ b) (filter (matched R on a) t)) s)
  sorted_value (node.Diff l r) s t ss = IsStrictlySortedBy-filter (slice_cmp R) (λ row. not (has (slice_cmp R) t row)) s ss
  sorted_value (node.Project from cols) s t ss = sorted_ascending (lists_total o) (map (picked cols) s)
  sorted_value (node.Union l r) s t ss = sorted_ascending (lists_total o) (s ++ t)
  sorted_value (node.Extend from with) s t ss = sorted_ascending (lists_total o) (map (λ row. row ++ added_cells with row) s)

  -- a value that gets these rows with one more row of its input loses them with one row less
  moves_by : (b : Bool) (V : List (List C) → List (List C)) (P : List (List C) → Type 0) (r : List C) (rows s z : List (List C)) → P s → P z
      → ((x y : List (List C)) → P x → P y → Adds x (r ∷ []) y → Adds (V x) rows (V y)) → Moves b s (r ∷ []) z → Moves b (V s) rows (V z)
  moves_by true V P r rows s z ps pz each a = each s z ps pz a
  moves_by false V P r rows s z ps pz each a = each z s pz ps a

  row_of_signed : (b : Bool) (row : List C) → row_in (signed b row) ≡ row
  row_of_signed true row = refl
  row_of_signed false row = refl

  moved_row : (b : Bool) (v rows w : List (List C)) (r : List C) → Moves b v rows w → In r rows → In r v ⊎ In r w
  moved_row true v rows w r m at = inr (m.front r at)
  moved_row false v rows w r m at = inl (m.front r at)

  lead_on : (b : Bool) (rows : List (List C)) (was out : List (Event C)) (v w : List (List C)) (most : ℕ) → out ≡ was ++ map (signed b) rows → IsStrictlySortedBy (slice_cmp R) v → IsStrictlySortedBy (slice_cmp R) w
      → Moves b v rows w → length rows ≤ most → LeadOn R was out v w most
  lead_on b rows was out v w most is sv sw m many = record {
    leads = λ begin first. moved_on o exact b begin v rows w was out sv sw m first is;
    rows = λ x at. ⊎_elim (λ before. inl before)
        (λ new.
        let image = in_map (signed b) x rows new in
        inr (subst (λ r. In r v ⊎ In r w) (sym (ap row_in image.2 ∙ row_of_signed b image.0)) (moved_row b v rows w image.0 m image.1)))
        (in_append x was (map (signed b) rows) (subst (λ es. In x es) is at));
    few =
        let size : length out ≡ length was + length (map (signed b) rows) = ap length is ∙ length-append was (map (signed b) rows) in
        let same : length (map (signed b) rows) ≡ length rows = length-map rows (signed b) in
        omega arith;
  }

  -- nothing changes, and there are no new events
  pub stays : (v : List (List C)) (was : List (Event C)) (most : ℕ) → LeadOn R was was v v most
  stays v was most = record { leads = λ b first. first; rows = λ x at. inl at; few = omega arith }

  at_most_one : (b : Bool) (x : List C) → length (maybe b x) ≤ 1
  at_most_one true x = omega arith
  at_most_one false x = omega arith

  pub leads_left : (n : Node C) (old : Kept C) (e : Event C) (rows : List (List C)) (was out : List (Event C)) → out ≡ was ++ map (signed (comes e)) rows
      → ((s z t : List (List C)) → Good R n s t → Good R n z t → Stands R n old s t → Moves (comes e) s (row_in e ∷ []) z → length rows ≤ most_left R n (row_in e) t)
      → ((s z t : List (List C)) → Good R n s t → Good R n z t → Stands R n old s t → Moves (comes e) s (row_in e ∷ []) z → Moves (comes e) (value_of R n s t) rows (value_of R n z t))
      → LeadsLeft R n old e was out
  leads_left n old e rows was out is many each s z t gs gz st led =
      lead_on (comes e) rows was out (value_of R n s t) (value_of R n z t) (most_left R n (row_in e) t) is (sorted_value n s t gs.lefts) (sorted_value n z t gz.lefts)
      (each s z t gs gz st (one_moves o exact e s z gs.lefts led)) (many s z t gs gz st (one_moves o exact e s z gs.lefts led))

  pub leads_right : (n : Node C) (old : Kept C) (e : Event C) (sign : Bool) (rows : List (List C)) (was out : List (Event C)) → out ≡ was ++ map (signed sign) rows
      → ((s t u : List (List C)) → Good R n s t → Good R n s u → Stands R n old s t → Moves (comes e) t (row_in e ∷ []) u → length rows ≤ most_right R n (row_in e) s)
      → ((s t u : List (List C)) → Good R n s t → Good R n s u → Stands R n old s t → Moves (comes e) t (row_in e ∷ []) u → Moves sign (value_of R n s t) rows (value_of R n s u))
      → LeadsRight R n old e was out
  leads_right n old e sign rows was out is many each s t u gt gu st led =
      lead_on sign rows was out (value_of R n s t) (value_of R n s u) (most_right R n (row_in e) s) is (sorted_value n s t gt.lefts) (sorted_value n s u gu.lefts)
      (each s t u gt gu st (one_moves o exact e t u gt.rights led)) (many s t u gt gu st (one_moves o exact e t u gt.rights led))

  one_of : (b : Bool) → nat_lt 0 (choose b 1 0) ≡ b
  one_of true = refl
  one_of false = refl

  and_true : (b : Bool) → (b && true) ≡ b
  and_true true = refl
  and_true false = refl

  pub index_has : (table : List (List C × List (List C × ℕ))) (key_of : List C → List C) (s : List (List C)) (k r : List C) → IsIndex R table key_of s
      → nat_lt 0 (count_at (slice_cmp R) table k r) ≡ (has (slice_cmp R) s r && eq_by_cmp (slice_cmp R) (key_of r) k)
  index_has table key_of s k r stands = ap (nat_lt 0) (stands k r) ∙ one_of (has (slice_cmp R) s r && eq_by_cmp (slice_cmp R) (key_of r) k)

  pub plain_has : (table : List (List C × List (List C × ℕ))) (s : List (List C)) (r : List C) → IsPlain R table s → nat_lt 0 (count_at (slice_cmp R) table [] r) ≡ has (slice_cmp R) s r
  plain_has table s r stands = index_has table (λ x. []) s [] r stands ∙ ap (λ b. has (slice_cmp R) s r && b) (itself o exact []) ∙ and_true (has (slice_cmp R) s r)

  -- ---- inputs that a node does not have

  pub no_left : (old : Kept C) (e : Event C) (was : List (Event C)) → LeadsLeft R node.Unit old e was was
  no_left old e was s z t gs gz st led = stays ([] ∷ []) was 1

  -- ---- Scan and Select

  pub scan_leads : (feed : ℕ) (old : Kept C) (e : Event C) (was out : List (Event C)) → out ≡ was ++ map (signed (comes e)) (maybe true (row_in e)) → LeadsLeft R (node.Scan feed) old e was out
  scan_leads feed old e was out is = leads_left (node.Scan feed) old e (row_in e ∷ []) was out is (λ s z t gs gz st m. omega arith) (λ s z t gs gz st m. m)

  pub select_leads : (from : ℕ) (tests : List (ColTest C)) (old : Kept C) (e : Event C) (was out : List (Event C)) → out ≡ was ++ map (signed (comes e)) (maybe (list_all (passes R (row_in e)) tests) (row_in e))
      → LeadsLeft R (node.Select from tests) old e was out
  select_leads from tests old e was out is =
      leads_left (node.Select from tests) old e (maybe (list_all (passes R (row_in e)) tests) (row_in e)) was out is (λ s z t gs gz st m. at_most_one (list_all (passes R (row_in e)) tests) (row_in e))
      (λ s z t gs gz st m. moves_by (comes e) (filter (λ row. list_all (passes R row) tests)) (λ x. Unit {0}) (row_in e) (maybe (list_all (passes R (row_in e)) tests) (row_in e)) s z tt tt
      (λ x y px py a. filter_adds (λ row. list_all (passes R row) tests) x y (row_in e) a) m)

  -- ---- Diff

  pub diff_left_leads : (l r : ℕ) (old : Kept C) (e : Event C) (shown : Bool) (was out : List (Event C)) → shown ≡ not (nat_lt 0 (count_at (slice_cmp R) old.rights [] (row_in e)))
      → out ≡ was ++ map (signed (comes e)) (maybe shown (row_in e)) → LeadsLeft R (node.Diff l r) old e was out
  diff_left_leads l r old e shown was out test is =
      leads_left (node.Diff l r) old e (maybe shown (row_in e)) was out is (λ s z t gs gz st m. at_most_one shown (row_in e))
      (λ s z t gs gz st m.
      subst (λ h. Moves (comes e) (without R s t) (maybe h (row_in e)) (without R z t)) (sym (test ∙ ap not (plain_has old.rights t (row_in e) st.1)))
      (moves_by (comes e) (λ x. without R x t) (λ x. Unit {0}) (row_in e) (maybe (not (has (slice_cmp R) t (row_in e))) (row_in e)) s z tt tt
      (λ x y px py a. filter_adds (λ row. not (has (slice_cmp R) t row)) x y (row_in e) a) m))

  turned_moves : (b : Bool) (s t u : List (List C)) (r : List C) → Moves b t (r ∷ []) u → Moves (not b) (without R s t) (maybe (has (slice_cmp R) s r) r) (without R s u)
  turned_moves true s t u r a = without_adds o exact s t u r a
  turned_moves false s t u r a = without_adds o exact s u t r a

  pub diff_right_leads : (l r : ℕ) (old : Kept C) (e : Event C) (shown : Bool) (was out : List (Event C)) → shown ≡ nat_lt 0 (count_at (slice_cmp R) old.lefts [] (row_in e))
      → out ≡ was ++ map (signed (not (comes e))) (maybe shown (row_in e)) → LeadsRight R (node.Diff l r) old e was out
  diff_right_leads l r old e shown was out test is =
      leads_right (node.Diff l r) old e (not (comes e)) (maybe shown (row_in e)) was out is (λ s z t gs gz st m. at_most_one shown (row_in e))
      (λ s t u gt gu st m.
      subst (λ h. Moves (not (comes e)) (without R s t) (maybe h (row_in e)) (without R s u)) (sym (test ∙ plain_has old.lefts s (row_in e) st.0)) (turned_moves (comes e) s t u (row_in e) m))

  -- a mark follows the input
  pub mark_stands : (before after : List (List C × List (List C × ℕ))) (key_of : List C → List C) (e : Event C) (key : List C) (s z : List (List C)) → key ≡ key_of (row_in e)
      → ((k q : List C) → count_at (slice_cmp R) after k q ≡ cond (eq_by_cmp (slice_cmp R) key k && eq_by_cmp (slice_cmp R) (row_in e) q) (choose (comes e) 1 0) (count_at (slice_cmp R) before k q))
      → IsIndex R before key_of s → Moves (comes e) s (row_in e ∷ []) z → IsIndex R after key_of z
  mark_stands before after key_of e key s z is counts st m =
      index_moves o exact before after key_of (comes e) s z (row_in e)
      (subst (λ x. (k q : List C) → count_at (slice_cmp R) after k q ≡ cond (eq_by_cmp (slice_cmp R) x k && eq_by_cmp (slice_cmp R) (row_in e) q) (choose (comes e) 1 0) (count_at (slice_cmp R) before k q)) is counts)
      st m

  pub diff_left_stands : (l r : ℕ) (old new : Kept C) (e : Event C) (key : List C) → key ≡ []
      → ((k q : List C) → count_at (slice_cmp R) new.lefts k q ≡ cond (eq_by_cmp (slice_cmp R) key k && eq_by_cmp (slice_cmp R) (row_in e) q) (choose (comes e) 1 0) (count_at (slice_cmp R) old.lefts k q))
      → new.rights ≡ old.rights → FollowsLeft R (node.Diff l r) old new e
  diff_left_stands l r old new e key is counts same s z t gs gz st led =
      (mark_stands old.lefts new.lefts (λ x. []) e key s z is counts st.0 (one_moves o exact e s z gs.lefts led), subst (λ x. IsPlain R x t) (sym same) st.1)

  pub diff_right_stands : (l r : ℕ) (old new : Kept C) (e : Event C) (key : List C) → key ≡ []
      → ((k q : List C) → count_at (slice_cmp R) new.rights k q ≡ cond (eq_by_cmp (slice_cmp R) key k && eq_by_cmp (slice_cmp R) (row_in e) q) (choose (comes e) 1 0) (count_at (slice_cmp R) old.rights k q))
      → new.lefts ≡ old.lefts → FollowsRight R (node.Diff l r) old new e
  diff_right_stands l r old new e key is counts same s t u gt gu st led =
      (subst (λ x. IsPlain R x s) (sym same) st.0, mark_stands old.rights new.rights (λ x. []) e key t u is counts st.1 (one_moves o exact e t u gt.rights led))

  -- ---- Union

  which : (b h : Bool) → (choose (not b) 1 0 + choose h 1 0 == choose b 0 1) ≡ not h
  which true true = refl
  which true false = refl
  which false true = refl
  which false false = refl

  which_right : (b h : Bool) → (choose h 1 0 + choose (not b) 1 0 == choose b 0 1) ≡ not h
  which_right true true = refl
  which_right true false = refl
  which_right false true = refl
  which_right false false = refl

  not_there : (h turned : Bool) → turned ≡ not h → turned ≡ true → h ≡ true → ⊥
  not_there true turned is e f = true≢false (sym e ∙ is)
  not_there false turned is e f = true≢false (sym f)

  is_there_too : (h turned : Bool) → turned ≡ not h → turned ≡ false → h ≡ true
  is_there_too true turned is e = refl
  is_there_too false turned is e = absurd (true≢false (sym is ∙ e))

  pub union_left_leads : (l r : ℕ) (old : Kept C) (e : Event C) (turned : Bool) (was out : List (Event C)) → turned ≡ (count_at (slice_cmp R) old.supports [] (row_in e) == choose (comes e) 0 1)
      → out ≡ was ++ map (signed (comes e)) (maybe turned (row_in e)) → LeadsLeft R (node.Union l r) old e was out
  union_left_leads l r old e turned was out test is =
      leads_left (node.Union l r) old e (maybe turned (row_in e)) was out is (λ s z t gs gz st m. at_most_one turned (row_in e))
      (λ s z t gs gz st m.
      let h : Bool = has (slice_cmp R) t (row_in e) in
      let found : turned ≡ not h =
      test ∙ ap (λ n. n == choose (comes e) 0 1) (tally_here o exact old.supports (λ p. choose (has (slice_cmp R) s p) 1 0 + choose (has (slice_cmp R) t p) 1 0) (row_in e) st)
      ∙ ap (λ b. choose b 1 0 + choose h 1 0 == choose (comes e) 0 1) (was_there o exact (comes e) s z (row_in e) m) ∙ which (comes e) h in
      moves_by (comes e) (λ x. either R x t) (λ x. Unit {0}) (row_in e) (maybe turned (row_in e)) s z tt tt
      (λ x y px py a. union_adds o exact x y t (row_in e) turned (λ once at. not_there h turned found once (in_row o exact (row_in e) t at)) (λ none. row_in_rows o exact (row_in e) t (is_there_too h turned found none)) a) m)

  pub union_right_leads : (l r : ℕ) (old : Kept C) (e : Event C) (turned : Bool) (was out : List (Event C)) → turned ≡ (count_at (slice_cmp R) old.supports [] (row_in e) == choose (comes e) 0 1)
      → out ≡ was ++ map (signed (comes e)) (maybe turned (row_in e)) → LeadsRight R (node.Union l r) old e was out
  union_right_leads l r old e turned was out test is =
      leads_right (node.Union l r) old e (comes e) (maybe turned (row_in e)) was out is (λ s z t gs gz st m. at_most_one turned (row_in e))
      (λ s t u gt gu st m.
      let h : Bool = has (slice_cmp R) s (row_in e) in
      let found : turned ≡ not h =
      test ∙ ap (λ n. n == choose (comes e) 0 1) (tally_here o exact old.supports (λ p. choose (has (slice_cmp R) s p) 1 0 + choose (has (slice_cmp R) t p) 1 0) (row_in e) st)
      ∙ ap (λ b. choose h 1 0 + choose b 1 0 == choose (comes e) 0 1) (was_there o exact (comes e) t u (row_in e) m) ∙ which_right (comes e) h in
      moves_by (comes e) (λ x. either R s x) (λ x. Unit {0}) (row_in e) (maybe turned (row_in e)) t u tt tt
      (λ x y px py a. union_adds_right o exact s x y (row_in e) turned (λ once at. not_there h turned found once (in_row o exact (row_in e) s at)) (λ none. row_in_rows o exact (row_in e) s (is_there_too h turned found none)) a) m)

  pub union_left_stands : (l r : ℕ) (old new : Kept C) (e : Event C)
      → ((k q : List C) → count_at (slice_cmp R) new.supports k q ≡ cond (eq_by_cmp (slice_cmp R) [] k && eq_by_cmp (slice_cmp R) (row_in e) q) (choose (comes e) (count_at (slice_cmp R) old.supports [] (row_in e) + 1) (count_at (slice_cmp R) old.supports [] (row_in e) - 1)) (count_at (slice_cmp R) old.supports k q))
      → FollowsLeft R (node.Union l r) old new e
  union_left_stands l r old new e counts s z t gs gz st led =
      let m = one_moves o exact e s z gs.lefts led in
      tally_moves o exact old.supports new.supports (λ p. choose (has (slice_cmp R) s p) 1 0 + choose (has (slice_cmp R) t p) 1 0) (λ p. choose (has (slice_cmp R) z p) 1 0 + choose (has (slice_cmp R) t p) 1 0) (comes e) (row_in e) counts st
      (either_counts o exact (comes e) s z (row_in e) (choose (has (slice_cmp R) t (row_in e)) 1 0) m)
      (λ q apart. ap (λ b. choose b 1 0 + choose (has (slice_cmp R) t q) 1 0) (others_stay o exact (comes e) s z (row_in e) q m apart))

  pub union_right_stands : (l r : ℕ) (old new : Kept C) (e : Event C)
      → ((k q : List C) → count_at (slice_cmp R) new.supports k q ≡ cond (eq_by_cmp (slice_cmp R) [] k && eq_by_cmp (slice_cmp R) (row_in e) q) (choose (comes e) (count_at (slice_cmp R) old.supports [] (row_in e) + 1) (count_at (slice_cmp R) old.supports [] (row_in e) - 1)) (count_at (slice_cmp R) old.supports k q))
      → FollowsRight R (node.Union l r) old new e
  union_right_stands l r old new e counts s t u gt gu st led =
      let m = one_moves o exact e t u gt.rights led in
      tally_moves o exact old.supports new.supports (λ p. choose (has (slice_cmp R) s p) 1 0 + choose (has (slice_cmp R) t p) 1 0) (λ p. choose (has (slice_cmp R) s p) 1 0 + choose (has (slice_cmp R) u p) 1 0) (comes e) (row_in e) counts st
      (either_counts_right o exact (comes e) t u (row_in e) (choose (has (slice_cmp R) s (row_in e)) 1 0) m)
      (λ q apart. ap (λ b. choose (has (slice_cmp R) s q) 1 0 + choose b 1 0) (others_stay o exact (comes e) t u (row_in e) q m apart))

  -- ---- Project

  some_in : (ys : List (List C)) → nat_eq (length ys) 0 ≡ false → (y : List C) × In y ys
  some_in [] e = absurd (true≢false e)
  some_in (y ∷ ys) e = (y, inl refl)

  in_some : (ys : List (List C)) (y : List C) → In y ys → nat_eq (length ys) 0 ≡ true → ⊥
  in_some [] y at e = at
  in_some (x ∷ ys) y at e = true≢false (sym e ∙ grind (arith, nat_tests))

  picked_adds : (cols : List ℕ) (x y : List (List C)) (r : List C) (turned : Bool) → turned ≡ nat_eq (length (filter (λ q. eq_by_cmp (slice_cmp R) (picked cols r) (picked cols q)) x)) 0
      → Adds x (r ∷ []) y → Adds (projected R cols x) (maybe turned (picked cols r)) (projected R cols y)
  picked_adds cols x y r turned is a =
      image_adds o exact (picked cols) x y r turned
      (λ once at.
      let image = in_images (lists_total o) (rows_exact o exact) (picked cols) (picked cols r) x at in
      in_some (filter (λ q. eq_by_cmp (slice_cmp R) (picked cols r) (picked cols q)) x) image.0
      (filter_in (λ q. eq_by_cmp (slice_cmp R) (picked cols r) (picked cols q)) image.0 x image.1 (subst (λ p. eq_by_cmp (slice_cmp R) (picked cols r) p ≡ true) image.2 (itself o exact (picked cols r))))
      (sym is ∙ once))
      (λ none.
      let found = some_in (filter (λ q. eq_by_cmp (slice_cmp R) (picked cols r) (picked cols q)) x) (sym is ∙ none) in
      let good = in_filter (λ q. eq_by_cmp (slice_cmp R) (picked cols r) (picked cols q)) found.0 x found.1 in
      subst (λ p. In p (projected R cols x)) (sym (same_row o exact (picked cols r) (picked cols found.0) good.1)) (images_in (lists_total o) (rows_exact o exact) (picked cols) found.0 x good.0))
      a

  one_more_is_one : (n : ℕ) → (n + 1 == 1) ≡ nat_eq n 0
  one_more_is_one zero = refl
  one_more_is_one (suc n) = grind (arith, nat_tests)

  project_moves : (b : Bool) (cols : List ℕ) (s z : List (List C)) (r : List C) (turned : Bool) → IsStrictlySortedBy (slice_cmp R) s → IsStrictlySortedBy (slice_cmp R) z
      → turned ≡ (length (filter (λ q. eq_by_cmp (slice_cmp R) (picked cols r) (picked cols q)) s) == choose b 0 1)
      → Moves b s (r ∷ []) z → Moves b (projected R cols s) (maybe turned (picked cols r)) (projected R cols z)
  project_moves true cols s z r turned ss sz is a = picked_adds cols s z r turned is a
  project_moves false cols s z r turned ss sz is a =
      picked_adds cols z s r turned
      (is ∙ ap (λ n. n == 1) (filter_more o exact (λ q. eq_by_cmp (slice_cmp R) (picked cols r) (picked cols q)) z s r sz ss a
      ∙ ap (λ b. cond b (length (filter (λ q. eq_by_cmp (slice_cmp R) (picked cols r) (picked cols q)) z) + 1) (length (filter (λ q. eq_by_cmp (slice_cmp R) (picked cols r) (picked cols q)) z))) (itself o exact (picked cols r)))
      ∙ one_more_is_one (length (filter (λ q. eq_by_cmp (slice_cmp R) (picked cols r) (picked cols q)) z)))
      a

  pub project_leads : (from : ℕ) (cols : List ℕ) (old : Kept C) (e : Event C) (turned : Bool) (was out : List (Event C)) → turned ≡ (count_at (slice_cmp R) old.supports [] (picked cols (row_in e)) == choose (comes e) 0 1)
      → out ≡ was ++ map (signed (comes e)) (maybe turned (picked cols (row_in e))) → LeadsLeft R (node.Project from cols) old e was out
  project_leads from cols old e turned was out test is =
      leads_left (node.Project from cols) old e (maybe turned (picked cols (row_in e))) was out is (λ s z t gs gz st m. at_most_one turned (picked cols (row_in e)))
      (λ s z t gs gz st m. project_moves (comes e) cols s z (row_in e) turned gs.lefts gz.lefts
      (test ∙ ap (λ n. n == choose (comes e) 0 1) (tally_here o exact old.supports (λ p. length (filter (λ q. eq_by_cmp (slice_cmp R) p (picked cols q)) s)) (picked cols (row_in e)) st)) m)

  count_moves : (b : Bool) (t : List C → Bool) (s z : List (List C)) (r : List C) → IsStrictlySortedBy (slice_cmp R) s → IsStrictlySortedBy (slice_cmp R) z → Moves b s (r ∷ []) z → t r ≡ true
      → length (filter t z) ≡ choose b (length (filter t s) + 1) (length (filter t s) - 1)
  count_moves true t s z r ss sz a e = filter_more o exact t s z r ss sz a ∙ ap (λ b. cond b (length (filter t s) + 1) (length (filter t s))) e
  count_moves false t s z r ss sz a e =
      let more : length (filter t s) ≡ length (filter t z) + 1 = filter_more o exact t z s r sz ss a ∙ ap (λ b. cond b (length (filter t z) + 1) (length (filter t z))) e in
      omega arith

  count_stays : (b : Bool) (t : List C → Bool) (s z : List (List C)) (r : List C) → IsStrictlySortedBy (slice_cmp R) s → IsStrictlySortedBy (slice_cmp R) z → Moves b s (r ∷ []) z → t r ≡ false
      → length (filter t z) ≡ length (filter t s)
  count_stays true t s z r ss sz a e = filter_more o exact t s z r ss sz a ∙ ap (λ b. cond b (length (filter t s) + 1) (length (filter t s))) e
  count_stays false t s z r ss sz a e = sym (filter_more o exact t z s r sz ss a ∙ ap (λ b. cond b (length (filter t z) + 1) (length (filter t z))) e)

  pub project_stands : (from : ℕ) (cols : List ℕ) (old new : Kept C) (e : Event C)
      → ((k q : List C) → count_at (slice_cmp R) new.supports k q ≡ cond (eq_by_cmp (slice_cmp R) [] k && eq_by_cmp (slice_cmp R) (picked cols (row_in e)) q) (choose (comes e) (count_at (slice_cmp R) old.supports [] (picked cols (row_in e)) + 1) (count_at (slice_cmp R) old.supports [] (picked cols (row_in e)) - 1)) (count_at (slice_cmp R) old.supports k q))
      → FollowsLeft R (node.Project from cols) old new e
  project_stands from cols old new e counts s z t gs gz st led =
      let m = one_moves o exact e s z gs.lefts led in
      tally_moves o exact old.supports new.supports (λ p. length (filter (λ q. eq_by_cmp (slice_cmp R) p (picked cols q)) s)) (λ p. length (filter (λ q. eq_by_cmp (slice_cmp R) p (picked cols q)) z)) (comes e) (picked cols (row_in e)) counts st
      (count_moves (comes e) (λ q. eq_by_cmp (slice_cmp R) (picked cols (row_in e)) (picked cols q)) s z (row_in e) gs.lefts gz.lefts m (itself o exact (picked cols (row_in e))))
      (λ p apart. count_stays (comes e) (λ q. eq_by_cmp (slice_cmp R) p (picked cols q)) s z (row_in e) gs.lefts gz.lefts m (turned_row p (picked cols (row_in e)) apart))
    where
      turned_row : (p q : List C) → eq_by_cmp (slice_cmp R) q p ≡ false → eq_by_cmp (slice_cmp R) p q ≡ false
      turned_row p q e = other_row o exact p q (λ same. true≢false (sym (itself o exact q) ∙ ap (eq_by_cmp (slice_cmp R) q) (sym same) ∙ e))

  -- ---- Extend

  pub extend_leads : (from : ℕ) (with : Added C) (old : Kept C) (e : Event C) (was out : List (Event C)) → out ≡ was ++ map (signed (comes e)) (maybe true (row_in e ++ added_cells with (row_in e)))
      → LeadsLeft R (node.Extend from with) old e was out
  extend_leads from with old e was out is =
      leads_left (node.Extend from with) old e (maybe true (row_in e ++ added_cells with (row_in e))) was out is (λ s z t gs gz st m. at_most_one true (row_in e ++ added_cells with (row_in e)))
      (λ s z t gs gz st m. moves_by (comes e) (extended R with) AreOneWide (row_in e) (maybe true (row_in e ++ added_cells with (row_in e))) s z gs.suits gz.suits
      (λ x y px py a. image_adds o exact (λ row. row ++ added_cells with row) x y (row_in e) true
      (λ once at.
      let image = in_images (lists_total o) (rows_exact o exact) (λ row. row ++ added_cells with row) (row_in e ++ added_cells with (row_in e)) x at in
      a.fresh image.0 (inl (sym (fronts o exact (row_in e) (added_cells with (row_in e)) image.0 (added_cells with image.0) (py (row_in e) image.0 (a.front (row_in e) (inl refl)) (a.keep image.0 image.1)) image.2).0)) image.1)
      (λ none. absurd (true≢false none)) a) m)

  -- ---- Join

  pub sorted_apart : (rows : List (List C)) → IsStrictlySortedBy (slice_cmp R) rows → Apart rows
  sorted_apart [] s = tt
  sorted_apart (x ∷ rows) s = (λ at. not_below_itself (lists_total o) x (head_below (slice_cmp R) x rows x s at), sorted_apart rows (sorted_tail (slice_cmp R) x rows s))

  under_key : (table : List (List C × List (List C × ℕ))) (key_of : List C → List C) (s others : List (List C)) (key b : List C) → IsIndex R table key_of s → AreRowsOf (slice_cmp R) table key others
      → In b others → In b s × (key_of b ≡ key)
  under_key table key_of s others key b st rows at =
      let parts = and_parts (has (slice_cmp R) s b) (eq_by_cmp (slice_cmp R) (key_of b) key) (sym (sym (in_row o exact b others at) ∙ rows.members b ∙ index_has table key_of s key b st)) in
      (row_in_rows o exact b s parts.0, same_row o exact (key_of b) key parts.1)

  has_key : (table : List (List C × List (List C × ℕ))) (key_of : List C → List C) (s others : List (List C)) (key b : List C) → IsIndex R table key_of s → AreRowsOf (slice_cmp R) table key others
      → In b s → key_of b ≡ key → In b others
  has_key table key_of s others key b st rows at same =
      row_in_rows o exact b others
      (rows.members b ∙ index_has table key_of s key b st ∙ and_from (has (slice_cmp R) s b) (eq_by_cmp (slice_cmp R) (key_of b) key) (in_row o exact b s at) (subst (λ k. eq_by_cmp (slice_cmp R) (key_of b) k ≡ true) same (itself o exact (key_of b))))

  -- the rows under the key are those that match
  pub left_others : (on : List (ℕ × ℕ)) (table : List (List C × List (List C × ℕ))) (t others : List (List C)) (r : List C) → IsStrictlySortedBy (slice_cmp R) t → ((b : List C) → In b t → PairsIn on r b)
      → IsIndex R table (picked (seconds on)) t → AreRowsOf (slice_cmp R) table (picked (firsts on) r) others → others ≡ filter (matched R on r) t
  left_others on table t others r sorted within st rows =
      same_members (lists_total o) others (filter (matched R on r) t) rows.ascends (IsStrictlySortedBy-filter (slice_cmp R) (matched R on r) t sorted)
      (λ b at.
      let found = under_key table (picked (seconds on)) t others (picked (firsts on) r) b st rows at in
      filter_in (matched R on r) b t found.0 (same_matched o exact on r b (within b found.0) (sym found.1)))
      (λ b at.
      let found = in_filter (matched R on r) b t at in
      has_key table (picked (seconds on)) t others (picked (firsts on) r) b st rows found.0 (sym (matched_same o exact on r b found.1)))

  right_others : (on : List (ℕ × ℕ)) (table : List (List C × List (List C × ℕ))) (s others : List (List C)) (r : List C) → IsStrictlySortedBy (slice_cmp R) s → ((a : List C) → In a s → PairsIn on a r)
      → IsIndex R table (picked (firsts on)) s → AreRowsOf (slice_cmp R) table (picked (seconds on) r) others → others ≡ filter (λ a. matched R on a r) s
  right_others on table s others r sorted within st rows =
      same_members (lists_total o) others (filter (λ a. matched R on a r) s) rows.ascends (IsStrictlySortedBy-filter (slice_cmp R) (λ a. matched R on a r) s sorted)
      (λ a at.
      let found = under_key table (picked (firsts on)) s others (picked (seconds on) r) a st rows at in
      filter_in (λ x. matched R on x r) a s found.0 (same_matched o exact on a r (within a found.0) found.1))
      (λ a at.
      let found = in_filter (λ x. matched R on x r) a s at in
      has_key table (picked (firsts on)) s others (picked (seconds on) r) a st rows found.0 (matched_same o exact on a r found.1))

  as_many : (f : List C → List C) (others same : List (List C)) → others ≡ same → length (map f others) ≤ length same
  as_many f others same is = let size : length (map f others) ≡ length others = length-map others f in let count : length others ≡ length same = ap length is in omega arith

  pub join_left_leads : (l r : ℕ) (on : List (ℕ × ℕ)) (old : Kept C) (e : Event C) (others : List (List C)) (was out : List (Event C)) → AreRowsOf (slice_cmp R) old.rights (picked (firsts on) (row_in e)) others
      → out ≡ was ++ map (signed (comes e)) (map (λ b. row_in e ++ b) others) → LeadsLeft R (node.Join l r on) old e was out
  join_left_leads l r on old e others was out rows is =
      leads_left (node.Join l r on) old e (map (λ b. row_in e ++ b) others) was out is
      (λ s z t gs gz st m. as_many (λ b. row_in e ++ b) others (filter (matched R on (row_in e)) t) (left_others on old.rights t others (row_in e) gs.rights
      (λ b bt. ⊎_elim (λ at. gs.suits.1 (row_in e) b at bt) (λ at. gz.suits.1 (row_in e) b at bt) (moved_row (comes e) s (row_in e ∷ []) z (row_in e) m (inl refl))) st.1 rows))
      (λ s z t gs gz st m. moves_by (comes e) (λ x. joined R on x t) (λ x. AreOneWide x × ((a b : List C) → In a x → In b t → PairsIn on a b)) (row_in e) (map (λ b. row_in e ++ b) others) s z gs.suits gz.suits
      (λ x y px py a. join_left_adds o exact on x y t others (row_in e) py.0 (sorted_apart others rows.ascends)
      (λ b at. let found = under_key old.rights (picked (seconds on)) t others (picked (firsts on) (row_in e)) b st.1 rows at in
      (found.0, same_matched o exact on (row_in e) b (py.1 (row_in e) b (a.front (row_in e) (inl refl)) found.0) (sym found.1)))
      (λ b bt meets. has_key old.rights (picked (seconds on)) t others (picked (firsts on) (row_in e)) b st.1 rows bt (sym (matched_same o exact on (row_in e) b meets)))
      a) m)

  pub join_right_leads : (l r : ℕ) (on : List (ℕ × ℕ)) (old : Kept C) (e : Event C) (others : List (List C)) (was out : List (Event C)) → AreRowsOf (slice_cmp R) old.lefts (picked (seconds on) (row_in e)) others
      → out ≡ was ++ map (signed (comes e)) (map (λ b. b ++ row_in e) others) → LeadsRight R (node.Join l r on) old e was out
  join_right_leads l r on old e others was out rows is =
      leads_right (node.Join l r on) old e (comes e) (map (λ b. b ++ row_in e) others) was out is
      (λ s t u gt gu st m. as_many (λ b. b ++ row_in e) others (filter (λ a. matched R on a (row_in e)) s) (right_others on old.lefts s others (row_in e) gt.lefts
      (λ a as_left. ⊎_elim (λ at. gt.suits.1 a (row_in e) as_left at) (λ at. gu.suits.1 a (row_in e) as_left at) (moved_row (comes e) t (row_in e ∷ []) u (row_in e) m (inl refl))) st.0 rows))
      (λ s t u gt gu st m. moves_by (comes e) (λ x. joined R on s x) (λ x. AreOneWide s × ((a b : List C) → In a s → In b x → PairsIn on a b)) (row_in e) (map (λ b. b ++ row_in e) others) t u gt.suits gu.suits
      (λ x y px py a. join_right_adds o exact on s x y others (row_in e) py.0 (sorted_apart others rows.ascends)
      (λ b at. let found = under_key old.lefts (picked (firsts on)) s others (picked (seconds on) (row_in e)) b st.0 rows at in
      (found.0, same_matched o exact on b (row_in e) (py.1 b (row_in e) found.0 (a.front (row_in e) (inl refl))) found.1))
      (λ b bs meets. has_key old.lefts (picked (firsts on)) s others (picked (seconds on) (row_in e)) b st.0 rows bs (matched_same o exact on b (row_in e) meets))
      a) m)

  pub join_left_stands : (l r : ℕ) (on : List (ℕ × ℕ)) (old new : Kept C) (e : Event C) (key : List C) → key ≡ picked (firsts on) (row_in e)
      → ((k q : List C) → count_at (slice_cmp R) new.lefts k q ≡ cond (eq_by_cmp (slice_cmp R) key k && eq_by_cmp (slice_cmp R) (row_in e) q) (choose (comes e) 1 0) (count_at (slice_cmp R) old.lefts k q))
      → new.rights ≡ old.rights → FollowsLeft R (node.Join l r on) old new e
  join_left_stands l r on old new e key is counts same s z t gs gz st led =
      (mark_stands old.lefts new.lefts (picked (firsts on)) e key s z is counts st.0 (one_moves o exact e s z gs.lefts led), subst (λ x. IsIndex R x (picked (seconds on)) t) (sym same) st.1)

  pub join_right_stands : (l r : ℕ) (on : List (ℕ × ℕ)) (old new : Kept C) (e : Event C) (key : List C) → key ≡ picked (seconds on) (row_in e)
      → ((k q : List C) → count_at (slice_cmp R) new.rights k q ≡ cond (eq_by_cmp (slice_cmp R) key k && eq_by_cmp (slice_cmp R) (row_in e) q) (choose (comes e) 1 0) (count_at (slice_cmp R) old.rights k q))
      → new.lefts ≡ old.lefts → FollowsRight R (node.Join l r on) old new e
  join_right_stands l r on old new e key is counts same s t u gt gu st led =
      (subst (λ x. IsIndex R x (picked (firsts on)) s) (sym same) st.0, mark_stands old.rights new.rights (picked (seconds on)) e key t u is counts st.1 (one_moves o exact e t u gt.rights led))

  -- ---- a new node

  nothing : (b : Bool) → choose b 0 0 ≡ 0
  nothing true = refl
  nothing false = refl

  pub empty_stands : (n : Node C) (kept : Kept C) → ((k r : List C) → count_at (slice_cmp R) kept.lefts k r ≡ 0) → ((k r : List C) → count_at (slice_cmp R) kept.rights k r ≡ 0)
      → ((k r : List C) → count_at (slice_cmp R) kept.supports k r ≡ 0) → Stands R n kept [] []
  empty_stands node.Unit kept lefts rights supports = tt
  empty_stands (node.Scan feed) kept lefts rights supports = tt
  empty_stands (node.Select from tests) kept lefts rights supports = tt
  empty_stands (node.Join l r on) kept lefts rights supports = (lefts, rights)
  empty_stands (node.Diff l r) kept lefts rights supports = (lefts, rights)
  empty_stands (node.Project from cols) kept lefts rights supports = λ k p. supports k p ∙ sym (nothing (eq_by_cmp (slice_cmp R) k []))
  empty_stands (node.Union l r) kept lefts rights supports = λ k p. supports k p ∙ sym (nothing (eq_by_cmp (slice_cmp R) k []))
  empty_stands (node.Extend from with) kept lefts rights supports = tt
