-- Loops over labels and terms.
use Rattle.std.proofs.Common.{◌≡◌, ◌<◌, ◌+◌, ◌≤◌, ℕ, zero, suc, inl, ⊎_elim, true, false, cond, List, [], ◌∷◌, ◌++◌, take, drop, refl, ap, sym, ◌∙◌, subst, Option, Some, None, length, get_or, arith}
use Rattle.std.specs.Prelude.{slice_get, ◌↔◌, IsTrue}
use Rattle.std.specs.Ordering.{is_eq}
use Rattle.std.specs.Cmp.{Equal-is, tied_itself}
use Rattle.dbn_value.specs.Order.{value_cmp, value_total, exact_values}
use Rattle.dbn_formula.proofs.VariableLaws.{var_itself, var_same, is_of_in}
use Rattle.dbn_formula.specs.Free.{variable_of}
use Rattle.dbn_value.proofs.MemberLaws.{flat_in, in_at}
use Rattle.dbn_plan.proofs.AtomLaws.{position_is, position_none}
use Rattle.std.specs.Option.{option_map}
use Rattle.std.proofs.lemmas.List.{append_assoc, drop_all, drop_more, take_more}
use Rattle.dbn_value.specs.Members.{In}
use Rattle.dbn_value.specs.declared.value.Value.{Value}
use Rattle.dbn_value.specs.declared.term.Var.{Var}
use Rattle.dbn_value.specs.declared.term.Term.{Term}
use Rattle.dbn_value.specs.declared.term.Term.TheVariants as term
use Rattle.dbn_formula.specs.Variables.{var_eq, is_in}
use Rattle.dbn_nodes.specs.declared.node.ColTest.{ColTest}
use Rattle.dbn_plan.specs.Meaning.{vars_of}
use Rattle.dbn_plan.specs.Columns.{term_eq, position, test_of, tests_after, pair_of, pairs_from, with_vars, Labelled}

-- ---- terms

term_eq_itself : (a : Term) → term_eq a a ≡ true
term_eq_itself (term.Var x) = var_itself x
term_eq_itself (term.Const v) = ap is_eq (tied_itself value_total v)

term_eq_same : (a b : Term) → term_eq a b ≡ true → a ≡ b
term_eq_same (term.Var x) (term.Var y) e = ap term.Var (var_same x y e)
term_eq_same (term.Const v) (term.Const w) e = ap term.Const (exact_values v w ((Equal-is (value_cmp v w)).0 e))
term_eq_same a b e = cc

pub term_eq_is : (a b : Term) → IsTrue (term_eq a b) ↔ (a ≡ b)
term_eq_is a b = (term_eq_same a b, (λ e. subst (λ c. term_eq a c ≡ true) e (term_eq_itself a)))

-- ---- the first column with a label

-- not among those so far
pub not_yet : (labels : List Term) (i : ℕ) (label wanted : Term) → i < length labels → label ≡ get_or labels i label → (label ≡ wanted → ⊥) → In wanted (drop i labels) → In wanted (drop (i + 1) labels)
not_yet labels i label wanted h is other at =
    ⊎_elim (λ here. absurd (other (sym here))) (λ there. there) (subst (In wanted) (drop_more labels i label h ∙ ap (λ a. a ∷ drop (i + 1) labels) (sym is)) at)

pub found_at : {A : Type 0} (xs : List A) (i : ℕ) (x y : A) → i < length xs → x ≡ get_or xs i x → x ≡ y → slice_get xs i ≡ Some y
found_at [] i x y h is same = absurd (omega (arith, h))
found_at (z ∷ xs) zero x y h is same = ap Some (sym is ∙ same)
found_at (z ∷ xs) (suc i) x y h is same = found_at xs i x y (omega (arith, h)) is same

pub none_left : (labels : List Term) (i : ℕ) (wanted : Term) → length labels ≤ i → In wanted (drop i labels) → ⊥
none_left labels i wanted h at = subst (In wanted) (drop_all i labels h) at

-- ---- the first column of a variable

abbrev pub shifted : ℕ → Option ℕ → Option ℕ
shifted n o = option_map (λ k. n + k) o

shift_twice : (n : ℕ) (o : Option ℕ) → shifted n (option_map (λ k. suc k) o) ≡ shifted (n + 1) o
shift_twice n None = refl
shift_twice n (Some k) = let e : n + suc k ≡ (n + 1) + k = omega arith in ap Some e

shift_none : (o : Option ℕ) → shifted 0 o ≡ o
shift_none None = refl
shift_none (Some k) = let e : 0 + k ≡ k = omega arith in ap Some e

pub position_start : (labels : List Term) (x : Var) → position labels x ≡ shifted 0 (position (drop 0 labels) x)
position_start labels x = sym (shift_none (position labels x))

front_is : {A : Type 0} (xs : List A) (i : ℕ) (x : A) → i < length xs → x ≡ get_or xs i x → drop i xs ≡ x ∷ drop (i + 1) xs
front_is xs i x h is = drop_more xs i x h ∙ ap (λ a. a ∷ drop (i + 1) xs) (sym is)

pub position_constant : (labels : List Term) (x : Var) (i : ℕ) (label : Term) (v : Value) → i < length labels → label ≡ get_or labels i label → label ≡ term.Const v
    → position labels x ≡ shifted i (position (drop i labels) x) → position labels x ≡ shifted (i + 1) (position (drop (i + 1) labels) x)
position_constant labels x i label v h is const e =
    e ∙ ap (λ ls. shifted i (position ls x)) (front_is labels i label h is ∙ ap (λ a. a ∷ drop (i + 1) labels) const) ∙ shift_twice i (position (drop (i + 1) labels) x)

pub position_other : (labels : List Term) (x y : Var) (i : ℕ) (label : Term) → i < length labels → label ≡ get_or labels i label → label ≡ term.Var y → var_eq x y ≡ false
    → position labels x ≡ shifted i (position (drop i labels) x) → position labels x ≡ shifted (i + 1) (position (drop (i + 1) labels) x)
position_other labels x y i label h is var other e =
    e ∙ ap (λ ls. shifted i (position ls x)) (front_is labels i label h is ∙ ap (λ a. a ∷ drop (i + 1) labels) var)
    ∙ ap (λ b. shifted i (cond b (Some 0) (option_map (λ k. suc k) (position (drop (i + 1) labels) x)))) other ∙ shift_twice i (position (drop (i + 1) labels) x)

pub position_here : (labels : List Term) (x y : Var) (i : ℕ) (label : Term) → i < length labels → label ≡ get_or labels i label → label ≡ term.Var y → var_eq x y ≡ true
    → position labels x ≡ shifted i (position (drop i labels) x) → position labels x ≡ Some i
position_here labels x y i label h is var same e =
    e ∙ ap (λ ls. shifted i (position ls x)) (front_is labels i label h is ∙ ap (λ a. a ∷ drop (i + 1) labels) var)
    ∙ ap (λ b. shifted i (cond b (Some 0) (option_map (λ k. suc k) (position (drop (i + 1) labels) x)))) same ∙ ap Some (let z : i + 0 ≡ i = omega arith in z)

pub position_end : (labels : List Term) (x : Var) (i : ℕ) → length labels ≤ i → position labels x ≡ shifted i (position (drop i labels) x) → position labels x ≡ None
position_end labels x i h e = e ∙ ap (λ ls. shifted i (position ls x)) (drop_all i labels h)

-- ---- the tests of all terms, and the pairs

module _ {C : Type 0} (K : Value → Option C) where
  first_test : (before : List Term) (a : Term) (terms : List Term) → tests_after K before (a ∷ terms) ≡ test_of K before a ++ tests_after K (before ++ a ∷ []) terms
  first_test before a terms = refl

  pub tests_step : (terms : List Term) (i : ℕ) (a : Term) (tests more : List (ColTest C)) → i < length terms → a ≡ get_or terms i a → tests ++ tests_after K (take i terms) (drop i terms) ≡ tests_after K [] terms
      → more ≡ tests ++ test_of K (take i terms) a → more ++ tests_after K (take (i + 1) terms) (drop (i + 1) terms) ≡ tests_after K [] terms
  tests_step terms i a tests more h is so e =
      ap (λ ts. ts ++ tests_after K (take (i + 1) terms) (drop (i + 1) terms)) e
      ∙ append_assoc tests (test_of K (take i terms) a) (tests_after K (take (i + 1) terms) (drop (i + 1) terms))
      ∙ ap (λ before. tests ++ (test_of K (take i terms) a ++ tests_after K before (drop (i + 1) terms))) (take_more terms i a h ∙ ap (λ b. take i terms ++ b ∷ []) (sym is))
      ∙ ap (λ ts. tests ++ ts) (sym (first_test (take i terms) a (drop (i + 1) terms)) ∙ ap (tests_after K (take i terms)) (sym (front_is terms i a h is)))
      ∙ so

  pub tests_end : (terms : List Term) (i : ℕ) (tests : List (ColTest C)) → length terms ≤ i → tests ++ tests_after K (take i terms) (drop i terms) ≡ tests_after K [] terms → tests ≡ tests_after K [] terms
  tests_end terms i tests h so = sym (append_none tests) ∙ ap (λ rest. tests ++ tests_after K (take i terms) rest) (sym (drop_all i terms h)) ∙ so
    where
      append_none : (xs : List (ColTest C)) → xs ++ [] ≡ xs
      append_none [] = refl
      append_none (x ∷ xs) = ap (λ ys. x ∷ ys) (append_none xs)

first_pair : (labels : List Term) (i : ℕ) (a : Term) (terms : List Term) → pairs_from labels i (a ∷ terms) ≡ pair_of labels i a ++ pairs_from labels (suc i) terms
first_pair labels i a terms = refl

pub pairs_step : (labels terms : List Term) (i : ℕ) (a : Term) (on more : List (ℕ × ℕ)) → i < length terms → a ≡ get_or terms i a → on ++ pairs_from labels i (drop i terms) ≡ pairs_from labels 0 terms
    → more ≡ on ++ pair_of labels i a → more ++ pairs_from labels (i + 1) (drop (i + 1) terms) ≡ pairs_from labels 0 terms
pairs_step labels terms i a on more h is so e =
    let next : i + 1 ≡ suc i = omega arith in
    ap (λ ps. ps ++ pairs_from labels (i + 1) (drop (i + 1) terms)) e
    ∙ append_assoc on (pair_of labels i a) (pairs_from labels (i + 1) (drop (i + 1) terms))
    ∙ ap (λ k. on ++ (pair_of labels i a ++ pairs_from labels k (drop (i + 1) terms))) next
    ∙ ap (λ ps. on ++ ps) (sym (first_pair labels i a (drop (i + 1) terms)) ∙ ap (pairs_from labels i) (sym (front_is terms i a h is)))
    ∙ so

pub pairs_end : (labels terms : List Term) (i : ℕ) (on : List (ℕ × ℕ)) → length terms ≤ i → on ++ pairs_from labels i (drop i terms) ≡ pairs_from labels 0 terms → on ≡ pairs_from labels 0 terms
pairs_end labels terms i on h so = sym (append_none on) ∙ ap (λ rest. on ++ pairs_from labels i rest) (sym (drop_all i terms h)) ∙ so
  where
    append_none : (xs : List (ℕ × ℕ)) → xs ++ [] ≡ xs
    append_none [] = refl
    append_none (x ∷ xs) = ap (λ ys. x ∷ ys) (append_none xs)

-- ---- the columns of all labels

pub labelled_more : (labels : List Term) (cols : List ℕ) (wanted : List Term) (c : ℕ) (a : Term) → Labelled labels cols wanted → slice_get labels c ≡ Some a → Labelled labels (cols ++ c ∷ []) (wanted ++ a ∷ [])
labelled_more labels [] [] c a so e = (e, tt)
labelled_more labels [] (w ∷ wanted) c a so e = absurd so
labelled_more labels (k ∷ cols) [] c a so e = absurd so
labelled_more labels (k ∷ cols) (w ∷ wanted) c a so e = (so.0, labelled_more labels cols wanted c a so.1 e)

-- ---- the labels of all variables

pub with_vars_step : (labels wanted more : List Term) (vars : List Var) (i : ℕ) (x : Var) → i < length vars → x ≡ get_or vars i x → with_vars wanted (drop i vars) ≡ with_vars labels vars → more ≡ with_vars wanted (x ∷ [])
    → with_vars more (drop (i + 1) vars) ≡ with_vars labels vars
with_vars_step labels wanted more vars i x h is so e =
    ap (λ ls. with_vars ls (drop (i + 1) vars)) e ∙ ap (with_vars wanted) (sym (front_is vars i x h is)) ∙ so

-- one variable: it has a label already, or gets one
pub known_stays : (labels ls : List Term) (x : Var) (i : ℕ) → ls ≡ labels → Some i ≡ position ls x → labels ≡ with_vars labels (x ∷ [])
known_stays labels ls x i e at =
    let there : slice_get labels i ≡ Some (term.Var x) = position_is labels x i (ap (λ zs. position zs x) (sym e) ∙ sym at) in
    let known : is_in x (vars_of labels) ≡ true = is_of_in x (vars_of labels) (flat_in variable_of x (term.Var x) labels (in_at labels i (term.Var x) there) (inl refl)) in
    sym (ap (λ b. cond b labels (labels ++ term.Var x ∷ [])) known)

pub new_comes : (labels ls : List Term) (x : Var) → ls ≡ labels → ◌≡◌ {A = Option ℕ} None (position ls x) → labels ++ term.Var x ∷ [] ≡ with_vars labels (x ∷ [])
new_comes labels ls x e at =
    let unknown : is_in x (vars_of labels) ≡ false = position_none labels x (ap (λ zs. position zs x) (sym e) ∙ sym at) in
    sym (ap (λ b. cond b labels (labels ++ term.Var x ∷ [])) unknown)
