-- A test of two columns is the comparison of the values that their labels have.
use Rattle.std.proofs.Common.{◌≡◌, ℕ, ℤ, true, not, List, refl, ap, sym, ◌∙◌, subst, Option, Some, None, IsSome}
use Rattle.std.specs.Prelude.{slice_get}
use Rattle.std.specs.declared.cmp.Ordering.{Ordering}
use Rattle.std.specs.Ordering.{is_eq}
use Rattle.std.specs.Cmp.{Equal-is, tied_itself, both_ways}
use Rattle.std.proofs.lemmas.Bool.{true≢false}
use Rattle.dbn_value.specs.Order.{meets, value_cmp, value_type, value_int, value_total, exact_values, ints_have_numbers, ints_by_number}
use Rattle.dbn_value.specs.declared.value.Value.{Value}
use Rattle.dbn_value.specs.declared.value.ColType.TheVariants as col
use Rattle.dbn_value.specs.declared.term.Term.{Term}
use Rattle.dbn_value.specs.declared.term.Cmp.{Cmp}
use Rattle.dbn_value.specs.declared.term.Cmp.TheVariants as cmp
use Rattle.dbn_formula.specs.Holds.{Env, value_of}
use Rattle.dbn_nodes.specs.Values.{cells_meet, passes}
use Rattle.dbn_nodes.specs.declared.node.ColTest.TheVariants as test
use Rattle.dbn_value.specs.Coding.{IsCoding}
use Rattle.dbn_plan.specs.Meaning.{Gives}
use Rattle.dbn_plan.specs.Comparing.{Comparable}
use Rattle.dbn_plan.proofs.Rows.{cell_at}

number : (o : Option ℤ) → IsSome o → (n : ℤ) × (o ≡ Some n)
number None e = absurd (true≢false (sym e))
number (Some n) e = (n, refl)

module _ {C : Type 0} {R : C → C → Ordering} {int_of : C → Option ℤ} (K : Value → Option C) (coding : IsCoding R int_of K) where
  same_tie : (v w : Value) (c d : C) → K v ≡ Some c → K w ≡ Some d → is_eq (R c d) ≡ is_eq (value_cmp v w)
  same_tie v w c d e f =
      both_ways (is_eq (R c d)) (is_eq (value_cmp v w))
      (λ tied.
      let is : c ≡ d = coding.exact c d ((Equal-is (R c d)).0 tied) in
      subst (λ z. is_eq (value_cmp v z) ≡ true) (coding.one v w d (e ∙ ap Some is) f) (ap is_eq (tied_itself value_total v)))
      (λ tied.
      let is : v ≡ w = exact_values v w ((Equal-is (value_cmp v w)).0 tied) in
      let same : Some c ≡ Some d = sym e ∙ ap K is ∙ f in
      subst (λ z. is_eq (R c z) ≡ true) (some_same c d same) (ap is_eq (tied_itself coding.total c)))
    where
      some_same : (a b : C) → Some a ≡ Some b → a ≡ b
      some_same a b p = cc

  same_order : (v w : Value) (c d : C) → K v ≡ Some c → K w ≡ Some d → value_type v ≡ col.Int → value_type w ≡ col.Int → R c d ≡ value_cmp v w
  same_order v w c d e f iv iw =
      let m = number (value_int v) ((ints_have_numbers v).0 iv) in
      let n = number (value_int w) ((ints_have_numbers w).0 iw) in
      coding.by_number c d m.0 n.0 (coding.ints v c e ∙ m.1) (coding.ints w d f ∙ n.1) ∙ sym (ints_by_number v w m.0 n.0 m.1 n.1)

  cells_compare : (k : Cmp) (v w : Value) (c d : C) → K v ≡ Some c → K w ≡ Some d → Comparable k v w → meets k (R c d) ≡ meets k (value_cmp v w)
  cells_compare cmp.Eq v w c d e f fit = same_tie v w c d e f
  cells_compare cmp.Ne v w c d e f fit = ap not (same_tie v w c d e f)
  cells_compare cmp.Lt v w c d e f fit = ap (meets cmp.Lt) (same_order v w c d e f fit.0 fit.1)
  cells_compare cmp.Le v w c d e f fit = ap (meets cmp.Le) (same_order v w c d e f fit.0 fit.1)
  cells_compare cmp.Gt v w c d e f fit = ap (meets cmp.Gt) (same_order v w c d e f fit.0 fit.1)
  cells_compare cmp.Ge v w c d e f fit = ap (meets cmp.Ge) (same_order v w c d e f fit.0 fit.1)

  pub columns_pass : (k : Cmp) (labels : List Term) (i j : ℕ) (a b : Term) (t : Env) (row : List C) → slice_get labels i ≡ Some a → slice_get labels j ≡ Some b → Gives K t labels row
      → Comparable k (value_of t a) (value_of t b) → passes R row (test.Columns k i j) ≡ meets k (value_cmp (value_of t a) (value_of t b))
  columns_pass k labels i j a b t row at_i at_j given fit =
      let c = cell_at K labels t row i a given at_i in
      let d = cell_at K labels t row j b given at_j in
      ap (λ m. cells_meet R k m (slice_get row j)) c.1 ∙ ap (cells_meet R k (Some c.0)) d.1 ∙ cells_compare k (value_of t a) (value_of t b) c.0 d.0 c.2 d.2 fit

  pub constant_pass : (k : Cmp) (labels : List Term) (i : ℕ) (a : Term) (v : Value) (cell : C) (t : Env) (row : List C) → slice_get labels i ≡ Some a → K v ≡ Some cell → Gives K t labels row
      → Comparable k (value_of t a) v → passes R row (test.Constant k i cell) ≡ meets k (value_cmp (value_of t a) v)
  constant_pass k labels i a v cell t row at_i own given fit =
      let c = cell_at K labels t row i a given at_i in
      ap (λ m. cells_meet R k m (Some cell)) c.1 ∙ cells_compare k (value_of t a) v c.0 cell c.2 own fit

  -- the same over two rows
  pub rows_meet : (labels others : List Term) (i j : ℕ) (x y : Term) (t : Env) (a b : List C) → slice_get labels i ≡ Some x → slice_get others j ≡ Some y → Gives K t labels a → Gives K t others b
      → cells_meet R cmp.Eq (slice_get a i) (slice_get b j) ≡ meets cmp.Eq (value_cmp (value_of t x) (value_of t y))
  rows_meet labels others i j x y t a b at_i at_j given_a given_b =
      let c = cell_at K labels t a i x given_a at_i in
      let d = cell_at K others t b j y given_b at_j in
      ap (λ m. cells_meet R cmp.Eq m (slice_get b j)) c.1 ∙ ap (cells_meet R cmp.Eq (Some c.0)) d.1 ∙ cells_compare cmp.Eq (value_of t x) (value_of t y) c.0 d.0 c.2 d.2 tt
