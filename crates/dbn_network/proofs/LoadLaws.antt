-- How many events and steps there are at most.
use Rattle.std.proofs.Common.{◌≡◌, ◌≤◌, ◌+◌, ◌*◌, ℕ, suc, ◌⊎◌, inl, inr, ⊎_elim, Bool, true, false, cond, List, [], ◌∷◌, ◌++◌, map, refl, sym, ap, ◌∙◌, subst, length, max, le_trans, arith}
use Rattle.std.proofs.Math.Nat.{add-mul, one-mul, add-le-add, mul-le-mul_right, le-add_left, le-add_right, le-max_left, le-max_right}
use Rattle.std.specs.declared.cmp.Ordering.{Ordering}
use Rattle.std.specs.Ordering.{eq_by_cmp}
use Rattle.std.specs.Cmp.{IsTotalOrder}
use Rattle.std.specs.Cmp.Lexicographic.{slice_cmp}
use Rattle.std.specs.FinMap.{IsAntisymmetric}
use Rattle.std.specs.List.{filter}
use Rattle.std.proofs.lemmas.List.{length-append}
use Rattle.dbn_value.specs.Members.{In}
use Rattle.dbn_value.specs.Picked.{picked}
use Rattle.dbn_value.proofs.MemberLaws.{in_filter, map_in}
use Rattle.dbn_nodes.specs.declared.node.Node.{Node}
use Rattle.dbn_nodes.specs.declared.node.Node.TheVariants as node
use Rattle.dbn_nodes.specs.Values.{matched}
use Rattle.dbn_nodes.specs.Stands.{firsts, seconds, most_left, most_right}
use Rattle.dbn_nodes.proofs.ChangeLaws.{itself}
use Rattle.dbn_nodes.proofs.ValueLaws.{matched_same}
use Rattle.dbn_network.specs.declared.input.Input.TheVariants as input
use Rattle.dbn_network.specs.Inputs.{left_in, right_in}
use Rattle.dbn_network.specs.Values.{rows_from}
use Rattle.dbn_network.specs.Loads.{greatest, load_from, named_load, fan, load_in, share_left, share_right}

-- ---- rows that agree

module _ {A : Type 0} where
  -- a test that more elements pass leaves no fewer
  fewer : (p q : A → Bool) (xs : List A) → ((x : A) → In x xs → p x ≡ true → q x ≡ true) → length (filter p xs) ≤ length (filter q xs)
  fewer p q [] more = omega arith
  fewer p q (x ∷ xs) more =
      let rest : length (filter p xs) ≤ length (filter q xs) = fewer p q xs (λ y at. more y (inr at)) in
      elim (p x) as (λ b. p x ≡ b → length (cond b (x ∷ filter p xs) (filter p xs)) ≤ length (cond (q x) (x ∷ filter q xs) (filter q xs))) [
        | true ↦ λ e. subst (λ c. suc (length (filter p xs)) ≤ length (cond c (x ∷ filter q xs) (filter q xs))) (sym (more x (inl refl) e)) (omega arith)
        | false ↦ λ e. elim (q x) as (λ c. length (filter p xs) ≤ length (cond c (x ∷ filter q xs) (filter q xs))) [ true ↦ omega arith | false ↦ rest ]
      ] refl

  none_or_some : (xs : List A) → (xs ≡ []) ⊎ ((x : A) × In x xs)
  none_or_some [] = inl refl
  none_or_some (x ∷ xs) = inr (x, inl refl)

  nothing : (xs : List A) (n : ℕ) → xs ≡ [] → length xs ≤ n
  nothing xs n none = subst (λ ys. length ys ≤ n) (sym none) (omega arith)

within_greatest : (n : ℕ) (ns : List ℕ) → In n ns → n ≤ greatest ns
within_greatest n [] at = absurd at
within_greatest n (m ∷ ns) at = ⊎_elim
    (λ here. subst (λ k. k ≤ max m (greatest ns)) (sym here) (le-max_left m (greatest ns)))
    (λ later. le_trans (within_greatest n ns later) (le-max_right m (greatest ns))) at

module _ {C : Type 0} {R : C → C → Ordering} (o : IsTotalOrder R) (exact : IsAntisymmetric R) where
  -- rows that have the same cells at the columns are no more than the greatest number of such rows
  same_few : (p : List C → Bool) (cols : List ℕ) (rows : List (List C)) → ((a b : List C) → p a ≡ true → p b ≡ true → picked cols a ≡ picked cols b) → length (filter p rows) ≤ fan R cols rows
  same_few p cols rows same = ⊎_elim
      (nothing (filter p rows) (fan R cols rows))
      (λ some.
      let found = in_filter p some.0 rows some.1 in
      le_trans
      (fewer p (λ other. eq_by_cmp (slice_cmp R) (picked cols other) (picked cols some.0)) rows (λ x at passes. subst (λ key. eq_by_cmp (slice_cmp R) (picked cols x) key ≡ true) (same x some.0 passes found.1) (itself o exact (picked cols x))))
      (within_greatest _ (map (λ row. length (filter (λ other. eq_by_cmp (slice_cmp R) (picked cols other) (picked cols row)) rows)) rows)
      (map_in (λ row. length (filter (λ other. eq_by_cmp (slice_cmp R) (picked cols other) (picked cols row)) rows)) some.0 rows found.0)))
      (none_or_some (filter p rows))

  pub share_left_most : (n : Node C) (row : List C) (t : List (List C)) → most_left R n row t ≤ share_left R n t
  share_left_most node.Unit row t = omega arith
  share_left_most (node.Scan feed) row t = omega arith
  share_left_most (node.Select from tests) row t = omega arith
  share_left_most (node.Join left right on) row t = same_few (matched R on row) (seconds on) t (λ a b first second. sym (matched_same o exact on row a first) ∙ matched_same o exact on row b second)
  share_left_most (node.Diff left right) row t = omega arith
  share_left_most (node.Project from cols) row t = omega arith
  share_left_most (node.Union left right) row t = omega arith
  share_left_most (node.Extend from with) row t = omega arith

  pub share_right_most : (n : Node C) (row : List C) (s : List (List C)) → most_right R n row s ≤ share_right R n s
  share_right_most node.Unit row s = omega arith
  share_right_most (node.Scan feed) row s = omega arith
  share_right_most (node.Select from tests) row s = omega arith
  share_right_most (node.Join left right on) row s = same_few (λ a. matched R on a row) (firsts on) s (λ a b first second. matched_same o exact on a row first ∙ sym (matched_same o exact on b row second))
  share_right_most (node.Diff left right) row s = omega arith
  share_right_most (node.Project from cols) row s = omega arith
  share_right_most (node.Union left right) row s = omega arith
  share_right_most (node.Extend from with) row s = omega arith

-- ---- events through one node

once_more : (k share : ℕ) → (k + 1) * share ≡ k * share + share
once_more k share = add-mul k 1 share ∙ ap (λ m. k * share + m) (one-mul share)

pub few_more : {E : Type 0} (pre : List E) (e : E) (was mid out share most : ℕ) → mid ≤ was + length pre * share → out ≤ mid + most → most ≤ share → out ≤ was + length (pre ++ e ∷ []) * share
few_more pre e was mid out share most first second least =
    let size : length (pre ++ e ∷ []) * share ≡ length pre * share + share = ap (λ k. k * share) (length-append pre (e ∷ [])) ∙ once_more (length pre) share in
    subst (λ m. out ≤ was + m) (sym size) (summed was (length pre * share) mid out share most first second least)
  where
    summed : (a b c d f m : ℕ) → c ≤ a + b → d ≤ c + m → m ≤ f → d ≤ a + (b + f)
    summed a b c d f m x y z = omega arith

pub few_both : (one out lefts rights : ℕ) → one ≤ 0 + lefts → out ≤ one + rights → out ≤ 0 + (lefts + rights)
few_both one out lefts rights first second = omega arith

-- ---- the loads of a node

one_input : (ls rs l : ℕ) → ls ≤ l → rs ≤ 0 → ls * 1 + rs * 1 ≤ l
one_input ls rs l left right = omega arith

two_inputs : (ls rs l r : ℕ) → ls ≤ l → rs ≤ r → ls * 1 + rs * 1 ≤ l + r
two_inputs ls rs l r left right = omega arith

module _ {C : Type 0} (R : C → C → Ordering) (feed : ℕ) (f g v w : List (List (List C))) (loads : List ℕ) where
  -- events of the inputs within their loads make events of the node within its load
  pub within_load : (n : Node C) (ls rs : ℕ) → ls ≤ load_from feed loads (left_in n) → rs ≤ load_from feed loads (right_in n)
      → ls * share_left R n (rows_from f v (right_in n)) + rs * share_right R n (rows_from g w (left_in n)) ≤ load_in R feed v w loads n
  within_load node.Unit ls rs left right = one_input ls rs 0 left right
  within_load (node.Scan k) ls rs left right = one_input ls rs _ left right
  within_load (node.Select from tests) ls rs left right = one_input ls rs _ left right
  within_load (node.Join l r on) ls rs left right = add-le-add (mul-le-mul_right (fan R (seconds on) (rows_from f v (input.Earlier r))) left) (mul-le-mul_right (fan R (firsts on) (rows_from g w (input.Earlier l))) right)
  within_load (node.Diff l r) ls rs left right = two_inputs ls rs _ _ left right
  within_load (node.Project from cols) ls rs left right = one_input ls rs _ left right
  within_load (node.Union l r) ls rs left right = two_inputs ls rs _ _ left right
  within_load (node.Extend from with) ls rs left right = one_input ls rs _ left right

  -- the load of an input is that of the node that it names, or that of a scan itself
  left_named : (n : Node C) → load_from feed loads (left_in n) ≤ named_load loads (left_in n) + load_in R feed v w loads n
  left_named node.Unit = omega arith
  left_named (node.Scan k) = le-add_left (load_from feed loads (input.Feed k)) 0
  left_named (node.Select from tests) = le-add_right _ _
  left_named (node.Join l r on) = le-add_right _ _
  left_named (node.Diff l r) = le-add_right _ _
  left_named (node.Project from cols) = le-add_right _ _
  left_named (node.Union l r) = le-add_right _ _
  left_named (node.Extend from with) = le-add_right _ _

  right_named : (n : Node C) → load_from feed loads (right_in n) ≡ named_load loads (right_in n)
  right_named node.Unit = refl
  right_named (node.Scan k) = refl
  right_named (node.Select from tests) = refl
  right_named (node.Join l r on) = refl
  right_named (node.Diff l r) = refl
  right_named (node.Project from cols) = refl
  right_named (node.Union l r) = refl
  right_named (node.Extend from with) = refl

  -- the steps of a node
  pub within_steps : (n : Node C) (ls rs own : ℕ) → ls ≤ load_from feed loads (left_in n) → rs ≤ load_from feed loads (right_in n) → own ≤ load_in R feed v w loads n
      → 4 * (ls + rs) + 2 * own ≤ 8 * (named_load loads (left_in n) + named_load loads (right_in n) + load_in R feed v w loads n)
  within_steps n ls rs own left right made =
      summed ls rs own (load_from feed loads (left_in n)) (load_from feed loads (right_in n)) (named_load loads (left_in n)) (named_load loads (right_in n)) (load_in R feed v w loads n) left right made (left_named n) (right_named n)
    where
      summed : (ls rs own l r a b c : ℕ) → ls ≤ l → rs ≤ r → own ≤ c → l ≤ a + c → r ≡ b → 4 * (ls + rs) + 2 * own ≤ 8 * (a + b + c)
      summed ls rs own l r a b c x y z p q = omega arith
