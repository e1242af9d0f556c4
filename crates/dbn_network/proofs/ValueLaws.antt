-- The rows and the widths of all nodes, which are built one behind the other.
use Rattle.std.proofs.Common.{◌≡◌, ◌<◌, ◌+◌, ℕ, zero, suc, ⊎_elim, List, [], ◌∷◌, ◌++◌, refl, ap, sym, ◌∙◌, subst, length, get_or, zero-add, arith}
use Rattle.std.specs.declared.cmp.Ordering.{Ordering}
use Rattle.std.specs.Cmp.{IsTotalOrder}
use Rattle.std.specs.Cmp.Lexicographic.{slice_cmp}
use Rattle.std.specs.FinMap.{IsAntisymmetric}
use Rattle.std.specs.List.Sorted.{IsStrictlySortedBy}
use Rattle.std.proofs.lemmas.List.{get_or_append_left, length-append, get_or_past, append_assoc}
use Rattle.std.proofs.Math.Seq.{get_or-append_seam}
use Rattle.dbn_value.proofs.AscendingLaws.{sorted_nil}
use Rattle.std.proofs.lemmas.Bool.{cases_lt}
use Rattle.dbn_nodes.specs.declared.node.Node.{Node}
use Rattle.dbn_nodes.specs.declared.node.Node.TheVariants as node
use Rattle.dbn_nodes.specs.Values.{value_of}
use Rattle.dbn_nodes.proofs.NodeLaws.{sorted_value}
use Rattle.dbn_network.specs.declared.input.Input.{Input}
use Rattle.dbn_network.specs.declared.input.Input.TheVariants as input
use Rattle.dbn_network.specs.Inputs.{left_in, right_in}
use Rattle.dbn_network.specs.Values.{built, rows_at, rows_from, value_in, values}
use Rattle.dbn_network.specs.States.{width_at, width_from, width_in, wide, widths, IsThere, FitsAt}
use Rattle.dbn_network.specs.Passes.{IsWide, AreRows}
use Rattle.dbn_network.proofs.RunLaws.{value_wide}
use Rattle.dbn_network.proofs.PassLaws.{same_inside}

module _ {A N : Type 0} (make : List A → N → A) where
  pub built_more : (done : List A) (xs ys : List N) → built make done (xs ++ ys) ≡ built make (built make done xs) ys
  built_more done [] ys = refl
  built_more done (x ∷ xs) ys = built_more (done ++ make done x ∷ []) xs ys

  pub built_length : (done : List A) (xs : List N) → length (built make done xs) ≡ length done + length xs
  built_length done [] = omega arith
  built_length done (x ∷ xs) = let rest = built_length (done ++ make done x ∷ []) xs in let both = length-append done (make done x ∷ []) in omega arith

  -- what was made before stays at the front
  built_front : (done : List A) (xs : List N) → (rest : List A) × (built make done xs ≡ done ++ rest)
  built_front done [] = ([], sym (append_nil done))
    where
      append_nil : (ys : List A) → ys ++ [] ≡ ys
      append_nil [] = refl
      append_nil (y ∷ ys) = ap (λ zs. y ∷ zs) (append_nil ys)
  built_front done (x ∷ xs) =
      let more = built_front (done ++ make done x ∷ []) xs in
      (make done x ∷ more.0, more.1 ∙ append_assoc done (make done x ∷ []) more.0)

  pub built_stay : (done : List A) (xs : List N) (i : ℕ) (d : A) → i < length done → get_or (built make done xs) i d ≡ get_or done i d
  built_stay done xs i d h = let front = built_front done xs in ap (λ ys. get_or ys i d) front.1 ∙ get_or_append_left done front.0 d i h

  -- each element is what its own makes of all of them, where it looks at earlier ones alone
  pub built_each : (Early : ℕ → N → Type 0) → ((done more : List A) (n : N) → Early (length done) n → make (done ++ more) n ≡ make done n)
      → (done : List A) (xs : List N) (i : ℕ) (d : A) (x : N) → i < length xs → Early (length done + i) (get_or xs i x) → get_or (built make done xs) (length done + i) d ≡ make (built make done xs) (get_or xs i x)
  built_each Early local done [] i d x h e = absurd (omega arith)
  built_each Early local done (n ∷ xs) zero d x h e =
      let front = built_front (done ++ make done n ∷ []) xs in
      let is : built make (done ++ make done n ∷ []) xs ≡ done ++ (make done n ∷ front.0) = front.1 ∙ append_assoc done (make done n ∷ []) front.0 in
      ap (λ ys. get_or ys (length done + 0) d) is
      ∙ ap (λ k. get_or (done ++ (make done n ∷ front.0)) k d) (at_end (length done))
      ∙ get_or-append_seam done (make done n) front.0 d
      ∙ sym (local done (make done n ∷ front.0) n (subst (λ k. Early k n) (at_end (length done)) e))
      ∙ ap (λ ys. make ys n) (sym is)
    where
      at_end : (k : ℕ) → k + 0 ≡ k
      at_end k = omega arith
  built_each Early local done (n ∷ xs) (suc i) d x h e =
      let size : length (done ++ make done n ∷ []) + i ≡ length done + suc i = let both = length-append done (make done n ∷ []) in omega arith in
      ap (λ k. get_or (built make (done ++ make done n ∷ []) xs) k d) (sym size)
      ∙ built_each Early local (done ++ make done n ∷ []) xs i d x (omega arith) (subst (λ k. Early k (get_or xs i x)) (sym size) e)

module _ {C : Type 0} (R : C → C → Ordering) (f : List (List (List C))) where
  pub count_values : (nodes : List (Node C)) → length (values R f nodes) ≡ length nodes
  unfolding values
  count_values nodes = built_length (value_in R f) [] nodes ∙ zero-add (length nodes)

-- the inputs come before
abbrev pub IsEarly : {C : Type 0} → List ℕ → ℕ → Node C → Type 0
IsEarly feeds before n = IsThere (length feeds) before (left_in n) × IsThere (length feeds) before (right_in n)

module _ {C : Type 0} (R : C → C → Ordering) (f : List (List (List C))) (feeds : List ℕ) where
  rows_local : (done more : List (List (List C))) (x : Input) → IsThere (length feeds) (length done) x → rows_from f (done ++ more) x ≡ rows_from f done x
  rows_local done more input.Nothing there = refl
  rows_local done more (input.Feed k) there = refl
  rows_local done more (input.Earlier i) there = get_or_append_left done more [] i there

  value_local : (done more : List (List (List C))) (n : Node C) → IsEarly feeds (length done) n → value_in R f (done ++ more) n ≡ value_in R f done n
  value_local done more n early =
      ap (λ x. value_of R n x (rows_from f (done ++ more) (right_in n))) (rows_local done more (left_in n) early.0)
      ∙ ap (λ x. value_of R n (rows_from f done (left_in n)) x) (rows_local done more (right_in n) early.1)

  -- each node has the rows that its inputs give it
  pub each_value : (nodes : List (Node C)) (i : ℕ) (d : Node C) → i < length nodes → IsEarly feeds i (get_or nodes i d) → rows_at (values R f nodes) i ≡ value_in R f (values R f nodes) (get_or nodes i d)
  unfolding values
  each_value nodes i d h early =
      ap (λ k. rows_at (values R f nodes) k) (sym (zero-add i)) ∙ built_each (value_in R f) (IsEarly feeds) value_local [] nodes i [] d h (subst (λ k. IsEarly feeds k (get_or nodes i d)) (sym (zero-add i)) early)

width_local_from : (feeds done more : List ℕ) (x : Input) → IsThere (length feeds) (length done) x → width_from feeds (done ++ more) x ≡ width_from feeds done x
width_local_from feeds done more input.Nothing there = refl
width_local_from feeds done more (input.Feed k) there = refl
width_local_from feeds done more (input.Earlier i) there = get_or_append_left done more 0 i there

module _ {C : Type 0} (feeds : List ℕ) where
  width_local : (done more : List ℕ) (n : Node C) → IsEarly feeds (length done) n → width_in feeds (done ++ more) n ≡ width_in feeds done n
  width_local done more n early =
      ap (λ x. wide n x (width_from feeds (done ++ more) (right_in n))) (width_local_from feeds done more (left_in n) early.0)
      ∙ ap (λ x. wide n (width_from feeds done (left_in n)) x) (width_local_from feeds done more (right_in n) early.1)

  pub each_width : (nodes : List (Node C)) (i : ℕ) (d : Node C) → i < length nodes → IsEarly feeds i (get_or nodes i d) → width_at (widths feeds nodes) i ≡ width_in feeds (widths feeds nodes) (get_or nodes i d)
  unfolding widths
  each_width nodes i d h early =
      ap (λ k. width_at (widths feeds nodes) k) (sym (zero-add i)) ∙ built_each (width_in feeds) (IsEarly feeds) width_local [] nodes i 0 d h (subst (λ k. IsEarly feeds k (get_or nodes i d)) (sym (zero-add i)) early)

module _ {C : Type 0} {R : C → C → Ordering} (o : IsTotalOrder R) (exact : IsAntisymmetric R) (feeds : List ℕ) (nodes : List (Node C)) (f : List (List (List C)))
    (placed : (i : ℕ) (d : Node C) → i < length nodes → FitsAt feeds (widths feeds nodes) i (get_or nodes i d)) (fed : AreRows R feeds f) where
  pub value_at : (i : ℕ) (d : Node C) → i < length nodes → rows_at (values R f nodes) i ≡ value_in R f (values R f nodes) (get_or nodes i d)
  value_at i d h = let fits = placed i d h in each_value R f feeds nodes i d h (fits.left, fits.right)

  pub width_is : (i : ℕ) (d : Node C) → i < length nodes → width_at (widths feeds nodes) i ≡ width_in feeds (widths feeds nodes) (get_or nodes i d)
  width_is i d h = let fits = placed i d h in each_width feeds nodes i d h (fits.left, fits.right)

  abbrev IsGood : ℕ → List (List C) → Type 0
  IsGood w rows = IsStrictlySortedBy (slice_cmp R) rows × IsWide w rows

  from_good : (i : ℕ) → ((k : ℕ) → k < i → IsGood (width_at (widths feeds nodes) k) (rows_at (values R f nodes) k))
      → (x : Input) → IsThere (length feeds) i x → IsGood (width_from feeds (widths feeds nodes) x) (rows_from f (values R f nodes) x)
  from_good i below input.Nothing there = (sorted_nil (slice_cmp R), λ row at. absurd at)
  from_good i below (input.Feed k) there = (fed.ascend k, fed.wide k)
  from_good i below (input.Earlier k) there = below k there

  node_good : (n : Node C) (i : ℕ) → i < length nodes → n ≡ get_or nodes i n → ((k : ℕ) → k < i → IsGood (width_at (widths feeds nodes) k) (rows_at (values R f nodes) k))
      → IsGood (width_at (widths feeds nodes) i) (rows_at (values R f nodes) i)
  node_good n i h is below =
      let fits : FitsAt feeds (widths feeds nodes) i n = subst (FitsAt feeds (widths feeds nodes) i) (sym is) (placed i n h) in
      let left = from_good i below (left_in n) fits.left in
      let right = from_good i below (right_in n) fits.right in
      subst (λ w. IsGood w (rows_at (values R f nodes) i)) (sym (width_is i n h ∙ ap (width_in feeds (widths feeds nodes)) (sym is)))
      (subst (IsGood (width_in feeds (widths feeds nodes) n)) (sym (value_at i n h ∙ ap (value_in R f (values R f nodes)) (sym is))) (
        sorted_value o exact n (rows_from f (values R f nodes) (left_in n)) (rows_from f (values R f nodes) (right_in n)) left.0,
        value_wide o exact n (width_from feeds (widths feeds nodes) (left_in n)) (width_from feeds (widths feeds nodes) (right_in n)) (rows_from f (values R f nodes) (left_in n)) (rows_from f (values R f nodes) (right_in n))
            fits.names left.1 right.1,
      ))

  all_good : (n i : ℕ) → i < n → IsGood (width_at (widths feeds nodes) i) (rows_at (values R f nodes) i)
  all_good zero i h = absurd (omega arith)
  all_good (suc n) i h =
      ⊎_elim (λ within. let m : Node C = get_or nodes i node.Unit in node_good m i within (same_inside nodes i node.Unit m within) (λ k below. all_good n k (omega arith)))
      (λ past. subst (λ rows. IsGood (width_at (widths feeds nodes) i) rows) (sym (get_or_past (values R f nodes) i [] (let size = values_count in omega arith))) (sorted_nil (slice_cmp R), λ row at. absurd at))
      (cases_lt i (length nodes))
    where
      values_count : length (values R f nodes) ≡ length nodes
      values_count = count_values R f nodes

  -- the rows of all nodes ascend and have their widths
  pub rows_good : AreRows R (widths feeds nodes) (values R f nodes)
  rows_good = record { ascend = λ i. (all_good (suc i) i (omega arith)).0; wide = λ i. (all_good (suc i) i (omega arith)).1 }
