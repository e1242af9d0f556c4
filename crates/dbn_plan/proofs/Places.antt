-- Later nodes change no earlier rows, and a new node has the rows that the earlier ones give it.
use Rattle.std.proofs.Common.{◌≡◌, ◌<◌, ℕ, zero, suc, List, [], ◌∷◌, ◌++◌, refl, ap, sym, ◌∙◌, subst, length, get_or, Some, zero-add, arith}
use Rattle.std.specs.Prelude.{slice_get}
use Rattle.std.specs.declared.cmp.Ordering.{Ordering}
use Rattle.std.proofs.Math.Seq.{get_or-append_seam}
use Rattle.std.specs.Prelude.{slice_index_or}
use Rattle.dbn_nodes.specs.declared.node.Node.{Node}
use Rattle.dbn_nodes.specs.declared.node.Node.TheVariants as node
use Rattle.dbn_network.specs.Values.{built, rows_at, value_in, values, val}
use Rattle.dbn_network.specs.States.{width_at, width_in, widths}
use Rattle.dbn_network.proofs.ValueLaws.{built_more, built_length, built_stay, IsEarly, each_value, each_width}

module _ {C : Type 0} (R : C → C → Ordering) (feeds : List (List (List C))) where
  counted : (nodes : List (Node C)) → length (built (value_in R feeds) [] nodes) ≡ length nodes
  counted nodes = built_length (value_in R feeds) [] nodes ∙ zero-add (length nodes)

  pub val_stays : (nodes more : List (Node C)) (i : ℕ) → i < length nodes → val R i (nodes ++ more) feeds ≡ val R i nodes feeds
  unfolding values
  val_stays nodes more i h =
      let size : length (built (value_in R feeds) [] nodes) ≡ length nodes = counted nodes in
      ap (λ vs. rows_at vs i) (built_more (value_in R feeds) [] nodes more) ∙ built_stay (value_in R feeds) (built (value_in R feeds) [] nodes) more i [] (omega (arith, size, h))

  pub val_last : (nodes : List (Node C)) (n : Node C) → val R (length nodes) (nodes ++ n ∷ []) feeds ≡ value_in R feeds (values R feeds nodes) n
  unfolding values
  val_last nodes n =
      let done : List (List (List C)) = built (value_in R feeds) [] nodes in
      let size : length done ≡ length nodes = counted nodes in
      ap (λ vs. rows_at vs (length nodes)) (built_more (value_in R feeds) [] nodes (n ∷ []))
      ∙ ap (λ i. rows_at (done ++ value_in R feeds done n ∷ []) i) (sym size)
      ∙ get_or-append_seam done (value_in R feeds done n) [] []

module _ {C : Type 0} (feeds : List ℕ) where
  widths_counted : (nodes : List (Node C)) → length (built (width_in feeds) [] nodes) ≡ length nodes
  widths_counted nodes = built_length (width_in feeds) [] nodes ∙ zero-add (length nodes)

  pub count_widths : (nodes : List (Node C)) → length (widths feeds nodes) ≡ length nodes
  unfolding widths
  count_widths nodes = widths_counted nodes

  pub width_stays : (nodes more : List (Node C)) (i : ℕ) → i < length nodes → width_at (widths feeds (nodes ++ more)) i ≡ width_at (widths feeds nodes) i
  unfolding widths
  width_stays nodes more i h =
      let size : length (built (width_in feeds) [] nodes) ≡ length nodes = widths_counted nodes in
      ap (λ vs. width_at vs i) (built_more (width_in feeds) [] nodes more) ∙ built_stay (width_in feeds) (built (width_in feeds) [] nodes) more i 0 (omega (arith, size, h))

  pub width_last : (nodes : List (Node C)) (n : Node C) → width_at (widths feeds (nodes ++ n ∷ [])) (length nodes) ≡ width_in feeds (widths feeds nodes) n
  unfolding widths
  width_last nodes n =
      let done : List ℕ = built (width_in feeds) [] nodes in
      let size : length done ≡ length nodes = widths_counted nodes in
      ap (λ vs. width_at vs (length nodes)) (built_more (width_in feeds) [] nodes (n ∷ []))
      ∙ ap (λ i. width_at (done ++ width_in feeds done n ∷ []) i) (sym size)
      ∙ get_or-append_seam done (width_in feeds done n) [] 0

-- ---- a node that is there

pub there_small : {A : Type 0} (xs : List A) (i : ℕ) (x : A) → slice_get xs i ≡ Some x → i < length xs
there_small [] i x e = cc
there_small (y ∷ ys) zero x e = omega arith
there_small (y ∷ ys) (suc i) x e = let rest = there_small ys i x e in omega (arith, rest)

pub there_stays : {A : Type 0} (xs ys : List A) (i : ℕ) (x : A) → slice_get xs i ≡ Some x → slice_get (xs ++ ys) i ≡ Some x
there_stays [] ys i x e = cc
there_stays (z ∷ xs) ys zero x e = e
there_stays (z ∷ xs) ys (suc i) x e = there_stays xs ys i x e

pub there_last : {A : Type 0} (xs : List A) (x : A) → slice_get (xs ++ x ∷ []) (length xs) ≡ Some x
there_last [] x = refl
there_last (y ∷ ys) x = there_last ys x

pub get_or_there : {A : Type 0} (xs : List A) (i : ℕ) (x d : A) → slice_get xs i ≡ Some x → get_or xs i d ≡ x
get_or_there [] i x d e = cc
get_or_there (y ∷ ys) zero x d e = cc
get_or_there (y ∷ ys) (suc i) x d e = get_or_there ys i x d e

module _ {C : Type 0} (R : C → C → Ordering) (feeds : List (List (List C))) where
  pub val_unit : (nodes : List (Node C)) (i : ℕ) → slice_get nodes i ≡ Some node.Unit → val R i nodes feeds ≡ [] ∷ []
  val_unit nodes i e =
      let is : get_or nodes i node.Unit ≡ node.Unit = get_or_there nodes i node.Unit node.Unit e in
      each_value R feeds [] nodes i node.Unit (there_small nodes i node.Unit e) (subst (λ n. IsEarly [] i n) (sym is) (tt, tt)) ∙ ap (value_in R feeds (values R feeds nodes)) is

  pub val_scan : (widths : List ℕ) (nodes : List (Node C)) (i rel : ℕ) → rel < length widths → slice_get nodes i ≡ Some (node.Scan rel) → val R i nodes feeds ≡ slice_index_or feeds rel []
  val_scan widths nodes i rel h e =
      let is : get_or nodes i (node.Scan rel) ≡ node.Scan rel = get_or_there nodes i (node.Scan rel) (node.Scan rel) e in
      each_value R feeds widths nodes i (node.Scan rel) (there_small nodes i (node.Scan rel) e) (subst (λ n. IsEarly widths i n) (sym is) (h, tt)) ∙ ap (value_in R feeds (values R feeds nodes)) is

module _ {C : Type 0} (feeds : List ℕ) where
  pub width_unit : (nodes : List (Node C)) (i : ℕ) → slice_get nodes i ≡ Some node.Unit → width_at (widths feeds nodes) i ≡ 0
  width_unit nodes i e =
      let is : get_or nodes i node.Unit ≡ node.Unit = get_or_there nodes i node.Unit node.Unit e in
      each_width feeds nodes i node.Unit (there_small nodes i node.Unit e) (subst (λ n. IsEarly feeds i n) (sym is) (tt, tt)) ∙ ap (width_in feeds (widths feeds nodes)) is

  pub width_scan : (nodes : List (Node C)) (i rel : ℕ) → rel < length feeds → slice_get nodes i ≡ Some (node.Scan rel) → width_at (widths feeds nodes) i ≡ width_at feeds rel
  width_scan nodes i rel h e =
      let is : get_or nodes i (node.Scan rel) ≡ node.Scan rel = get_or_there nodes i (node.Scan rel) (node.Scan rel) e in
      each_width feeds nodes i (node.Scan rel) (there_small nodes i (node.Scan rel) e) (subst (λ n. IsEarly feeds i n) (sym is) (h, tt)) ∙ ap (width_in feeds (widths feeds nodes)) is
