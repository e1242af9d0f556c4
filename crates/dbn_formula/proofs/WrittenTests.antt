-- Tests of what is written in a formula, variant by variant.
use Rattle.std.proofs.Common.{◌≡◌, ℕ, ◌+◌, ◌++◌, ◌-◌, ◌≤◌, max, Bool, true, false, ◌&&◌, ◌==◌, List, [], ◌∷◌, map, refl, ap, sym, ◌∙◌, arith}
use Rattle.std.specs.Prelude.{nat_le, nat_lt}
use Rattle.std.specs.Cmp.{both_ways}
use Rattle.std.specs.List.{list_all, flat_map}
use Rattle.std.proofs.lemmas.Bool.{and_parts, and_from, leb-true, le-leb, ltb-true, lt-ltb}
use Rattle.std.proofs.lemmas.List.Folds.{list_all-append, list_all-map}
use Rattle.dbn_value.proofs.MemberLaws.{all_at}
use Rattle.dbn_value.specs.declared.term.Var.{Var}
use Rattle.dbn_value.specs.declared.term.Term.{Term}
use Rattle.dbn_value.specs.declared.term.Cmp.{Cmp}
use Rattle.dbn_formula.specs.Variables.{TypedVars}
use Rattle.dbn_formula.specs.Free.{variable_of}
use Rattle.dbn_formula.specs.Written.{written, relations, OfFirst, of_first, deepest, depth_of}
use Rattle.dbn_formula.specs.declared.formula.Formula.{Formula}
use Rattle.dbn_formula.specs.declared.formula.Formula.TheVariants.{Atom, Test, And, Or, Not, Implies, Exists, Forall}
use Rattle.dbn_formula.proofs.WrittenLaws.{written_atom, written_test, written_and, written_or, written_not, written_implies, written_exists, written_forall, relations_atom, relations_test, relations_and, relations_or, relations_not, relations_implies, relations_exists, relations_forall, depth_atom, depth_test, depth_and, depth_or, depth_not, depth_implies, depth_exists, depth_forall}

-- ---- depth

one_more : (d most : ℕ) → nat_le (d + 1) most ≡ (nat_lt 0 most && nat_le d (most - 1))
one_more d most =
    both_ways (nat_le (d + 1) most) (nat_lt 0 most && nat_le d (most - 1))
    (λ e. let h : d + 1 ≤ most = leb-true (d + 1) most e in and_from (nat_lt 0 most) (nat_le d (most - 1)) (lt-ltb 0 most (omega arith)) (le-leb d (most - 1) (omega arith)))
    (λ e.
    let parts = and_parts (nat_lt 0 most) (nat_le d (most - 1)) e in
    let a = ltb-true 0 most parts.0 in
    let b = leb-true d (most - 1) parts.1 in
    le-leb (d + 1) most (omega arith))

both_within : (c d most : ℕ) → nat_le (max c d) most ≡ (nat_le c most && nat_le d most)
both_within c d most =
    both_ways (nat_le (max c d) most) (nat_le c most && nat_le d most)
    (λ e. let h : max c d ≤ most = leb-true (max c d) most e in and_from (nat_le c most) (nat_le d most) (le-leb c most (omega arith)) (le-leb d most (omega arith)))
    (λ e.
    let parts = and_parts (nat_le c most) (nat_le d most) e in
    let a = leb-true c most parts.0 in
    let b = leb-true d most parts.1 in
    le-leb (max c d) most (omega arith))

two_more : (d most : ℕ) → nat_le (max d 2 + 1) most ≡ (nat_lt 2 most && nat_le d (most - 1))
two_more d most =
    both_ways (nat_le (max d 2 + 1) most) (nat_lt 2 most && nat_le d (most - 1))
    (λ e. let h : max d 2 + 1 ≤ most = leb-true (max d 2 + 1) most e in and_from (nat_lt 2 most) (nat_le d (most - 1)) (lt-ltb 2 most (omega arith)) (le-leb d (most - 1) (omega arith)))
    (λ e.
    let parts = and_parts (nat_lt 2 most) (nat_le d (most - 1)) e in
    let a = ltb-true 2 most parts.0 in
    let b = leb-true d (most - 1) parts.1 in
    le-leb (max d 2 + 1) most (omega arith))

all_within : (fs : List Formula) (most : ℕ) → nat_le (deepest (map depth_of fs)) most ≡ list_all (λ f. nat_le (depth_of f) most) fs
all_within [] most = le-leb 0 most (omega arith)
all_within (f ∷ fs) most = both_within (depth_of f) (deepest (map depth_of fs)) most ∙ ap (λ b. nat_le (depth_of f) most && b) (all_within fs most)

list_more : (fs : List Formula) (most : ℕ) → nat_le (deepest (map depth_of fs) + 1) most ≡ (nat_lt 0 most && list_all (λ f. nat_le (depth_of f) (most - 1)) fs)
list_more fs most = one_more (deepest (map depth_of fs)) most ∙ ap (λ b. nat_lt 0 most && b) (all_within fs (most - 1))

pub nests_atom : (rel : ℕ) (terms : List Term) (most : ℕ) → nat_le (depth_of (Atom rel terms)) most ≡ nat_lt 0 most
nests_atom rel terms most = ap (λ d. nat_le d most) (depth_atom rel terms)

pub nests_test : (cmp : Cmp) (left right : Term) (most : ℕ) → nat_le (depth_of (Test cmp left right)) most ≡ nat_lt 0 most
nests_test cmp left right most = ap (λ d. nat_le d most) (depth_test cmp left right)

pub nests_and : (fs : List Formula) (most : ℕ) → nat_le (depth_of (And fs)) most ≡ (nat_lt 0 most && list_all (λ f. nat_le (depth_of f) (most - 1)) fs)
nests_and fs most = ap (λ d. nat_le d most) (depth_and fs) ∙ list_more fs most

pub nests_or : (fs : List Formula) (most : ℕ) → nat_le (depth_of (Or fs)) most ≡ (nat_lt 0 most && list_all (λ f. nat_le (depth_of f) (most - 1)) fs)
nests_or fs most = ap (λ d. nat_le d most) (depth_or fs) ∙ list_more fs most

pub nests_not : (f : Formula) (most : ℕ) → nat_le (depth_of (Not f)) most ≡ (nat_lt 0 most && nat_le (depth_of f) (most - 1))
nests_not f most = ap (λ d. nat_le d most) (depth_not f) ∙ one_more (depth_of f) most

pub nests_implies : (f g : Formula) (most : ℕ) → nat_le (depth_of (Implies f g)) most ≡ (nat_lt 0 most && (nat_le (depth_of f) (most - 1) && nat_le (depth_of g) (most - 1)))
nests_implies f g most =
    ap (λ d. nat_le d most) (depth_implies f g) ∙ one_more (max (depth_of f) (depth_of g)) most
    ∙ ap (λ b. nat_lt 0 most && b) (both_within (depth_of f) (depth_of g) (most - 1))

pub nests_exists : (vars : TypedVars) (f : Formula) (most : ℕ) → nat_le (depth_of (Exists vars f)) most ≡ (nat_lt 2 most && nat_le (depth_of f) (most - 1))
nests_exists vars f most = ap (λ d. nat_le d most) (depth_exists vars f) ∙ two_more (depth_of f) most

pub nests_forall : (vars : TypedVars) (f : Formula) (most : ℕ) → nat_le (depth_of (Forall vars f)) most ≡ (nat_lt 2 most && nat_le (depth_of f) (most - 1))
nests_forall vars f most = ap (λ d. nat_le d most) (depth_forall vars f) ∙ two_more (depth_of f) most

pub ruleset depth_tests = (nests_atom, nests_test, nests_and, nests_or, nests_not, nests_implies, nests_exists, nests_forall)

-- ---- relations and marks

module _ {A B : Type 0} (p : B → Bool) (k : A → List B) where
  all_flat : (xs : List A) → list_all p (flat_map k xs) ≡ list_all (λ x. list_all p (k x)) xs
  all_flat [] = refl
  all_flat (x ∷ xs) = list_all-append p (k x) (flat_map k xs) ∙ ap (λ b. list_all p (k x) && b) (all_flat xs)

and_true : (b : Bool) → (b && true) ≡ b
and_true b = elim b as (λ v. (v && true) ≡ v) [ true ↦ refl | false ↦ refl ]

pub first_atom : (rel : ℕ) (terms : List Term) (count : ℕ) → of_first count (Atom rel terms) ≡ nat_lt rel count
unfolding of_first
first_atom rel terms count = ap (list_all (λ n. nat_lt n count)) (relations_atom rel terms) ∙ and_true (nat_lt rel count)

pub first_test : (cmp : Cmp) (left right : Term) (count : ℕ) → of_first count (Test cmp left right) ≡ true
unfolding of_first
first_test cmp left right count = ap (list_all (λ n. nat_lt n count)) (relations_test cmp left right)

pub first_and : (fs : List Formula) (count : ℕ) → of_first count (And fs) ≡ list_all (of_first count) fs
unfolding of_first
first_and fs count = ap (list_all (λ n. nat_lt n count)) (relations_and fs) ∙ all_flat (λ n. nat_lt n count) relations fs

pub first_or : (fs : List Formula) (count : ℕ) → of_first count (Or fs) ≡ list_all (of_first count) fs
unfolding of_first
first_or fs count = ap (list_all (λ n. nat_lt n count)) (relations_or fs) ∙ all_flat (λ n. nat_lt n count) relations fs

pub first_not : (f : Formula) (count : ℕ) → of_first count (Not f) ≡ of_first count f
unfolding of_first
first_not f count = ap (list_all (λ n. nat_lt n count)) (relations_not f)

pub first_implies : (f g : Formula) (count : ℕ) → of_first count (Implies f g) ≡ (of_first count f && of_first count g)
unfolding of_first
first_implies f g count = ap (list_all (λ n. nat_lt n count)) (relations_implies f g) ∙ list_all-append (λ n. nat_lt n count) (relations f) (relations g)

pub first_exists : (vars : TypedVars) (f : Formula) (count : ℕ) → of_first count (Exists vars f) ≡ of_first count f
unfolding of_first
first_exists vars f count = ap (list_all (λ n. nat_lt n count)) (relations_exists vars f)

pub first_forall : (vars : TypedVars) (f : Formula) (count : ℕ) → of_first count (Forall vars f) ≡ of_first count f
unfolding of_first
first_forall vars f count = ap (list_all (λ n. nat_lt n count)) (relations_forall vars f)

pub first_from : (f : Formula) (count : ℕ) → of_first count f ≡ true → OfFirst count f
unfolding of_first
first_from f count e = λ rel at. ltb-true rel count (all_at (λ n. nat_lt n count) rel (relations f) e at)

pub ruleset relations_tests = (first_atom, first_test, first_and, first_or, first_not, first_implies, first_exists, first_forall)

abbrev unmarked : Var → Bool
unmarked x = x.mark == 0

pub unmarked_atom : (rel : ℕ) (terms : List Term) → list_all (λ x. x.mark == 0) (written (Atom rel terms)) ≡ list_all (λ a. list_all (λ x. x.mark == 0) (variable_of a)) terms
unmarked_atom rel terms = ap (list_all unmarked) (written_atom rel terms) ∙ all_flat unmarked variable_of terms

pub unmarked_test : (cmp : Cmp) (left right : Term) → list_all (λ x. x.mark == 0) (written (Test cmp left right))
    ≡ (list_all (λ x. x.mark == 0) (variable_of left) && list_all (λ x. x.mark == 0) (variable_of right))
unmarked_test cmp left right = ap (list_all unmarked) (written_test cmp left right) ∙ list_all-append unmarked (variable_of left) (variable_of right)

pub unmarked_and : (fs : List Formula) → list_all (λ x. x.mark == 0) (written (And fs)) ≡ list_all (λ f. list_all (λ x. x.mark == 0) (written f)) fs
unmarked_and fs = ap (list_all unmarked) (written_and fs) ∙ all_flat unmarked written fs

pub unmarked_or : (fs : List Formula) → list_all (λ x. x.mark == 0) (written (Or fs)) ≡ list_all (λ f. list_all (λ x. x.mark == 0) (written f)) fs
unmarked_or fs = ap (list_all unmarked) (written_or fs) ∙ all_flat unmarked written fs

pub unmarked_not : (f : Formula) → list_all (λ x. x.mark == 0) (written (Not f)) ≡ list_all (λ x. x.mark == 0) (written f)
unmarked_not f = ap (list_all unmarked) (written_not f)

pub unmarked_implies : (f g : Formula) → list_all (λ x. x.mark == 0) (written (Implies f g)) ≡ (list_all (λ x. x.mark == 0) (written f) && list_all (λ x. x.mark == 0) (written g))
unmarked_implies f g = ap (list_all unmarked) (written_implies f g) ∙ list_all-append unmarked (written f) (written g)

quantified : (vars : TypedVars) (xs : List Var) → list_all unmarked (map (λ x. x.0) vars ++ xs) ≡ (list_all (λ x. x.0.mark == 0) vars && list_all unmarked xs)
quantified vars xs = list_all-append unmarked (map (λ x. x.0) vars) xs ∙ ap (λ b. b && list_all unmarked xs) (list_all-map unmarked (λ x. x.0) vars)

pub unmarked_exists : (vars : TypedVars) (f : Formula) → list_all (λ x. x.mark == 0) (written (Exists vars f)) ≡ (list_all (λ x. x.0.mark == 0) vars && list_all (λ x. x.mark == 0) (written f))
unmarked_exists vars f = ap (list_all unmarked) (written_exists vars f) ∙ quantified vars (written f)

pub unmarked_forall : (vars : TypedVars) (f : Formula) → list_all (λ x. x.mark == 0) (written (Forall vars f)) ≡ (list_all (λ x. x.0.mark == 0) vars && list_all (λ x. x.mark == 0) (written f))
unmarked_forall vars f = ap (list_all unmarked) (written_forall vars f) ∙ quantified vars (written f)

pub ruleset unmarked_tests = (unmarked_atom, unmarked_test, unmarked_and, unmarked_or, unmarked_not, unmarked_implies, unmarked_exists, unmarked_forall)
