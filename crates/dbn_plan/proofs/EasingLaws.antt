-- What easing does, variant by variant.
use Rattle.std.proofs.Common.{◌≡◌, ◌⊎◌, inl, inr, ℕ, Bool, true, false, not, ◌&&◌, ◌||◌, cond, ⊎_elim, ◌++◌, List, [], ◌∷◌, map, ap, sym, ◌∙◌, refl}
use Rattle.std.specs.List.{list_any, filter, flat_map}
use Rattle.std.specs.Ordering.{is_eq, ordering_then}
use Rattle.std.specs.declared.cmp.Ordering.{Ordering}
use Rattle.std.specs.declared.cmp.Ordering.TheVariants.{Less, Equal, Greater}
use Rattle.std.specs.Cmp.{Equal-is, both_tied}
use Rattle.std.specs.BTreeSet.{insert_key}
use Rattle.std.proofs.lemmas.Bool.{and_parts}
use Rattle.dbn_value.specs.declared.term.Var.{Var}
use Rattle.dbn_value.specs.declared.term.Term.TheVariants as term
use Rattle.dbn_value.specs.Variables.{var_eq, var_cmp, vars_tie, exact_vars}
use Rattle.dbn_formula.proofs.Truth.{filter_alike}
use Rattle.dbn_formula.proofs.VariableLaws.{var_same, var_itself}
use Rattle.std.proofs.lemmas.List.Folds.{flat_map-map}
use Rattle.dbn_value.specs.declared.term.Term.{Term}
use Rattle.dbn_value.specs.declared.term.Cmp.{Cmp}
use Rattle.dbn_formula.specs.Variables.{TypedVars}
use Rattle.dbn_formula.specs.declared.formula.Formula.{Formula, roll-Formula, out-Formula, out-roll-Formula, roll-out-Formula}
use Rattle.dbn_formula.specs.declared.formula.Formula.TheVariants.{Atom, Test, And, Or, Not, Implies, Exists, Forall}
use Rattle.dbn_formula.specs.declared.formula.Formula.TheVariants.{rolls-Atom, rolls-Test, rolls-And, rolls-Or, rolls-Not, rolls-Implies, rolls-Exists, rolls-Forall}
use Rattle.dbn_formula.specs.declared.formula.Formula.TheOpen.{Formula-F}
use Rattle.dbn_formula.specs.declared.formula.Formula.TheOpen as layer
use Rattle.dbn_formula.proofs.Folds.{fold_atom, fold_test, fold_and, fold_or, fold_not, fold_implies, fold_exists, fold_forall}
use Rattle.dbn_plan.specs.Easing.{Pair, same_pair, Adds, is_strict, equated_sides, equated_step, equated, sides_ruled_out, ruled_out_layer, ruled_out, left_over, part_layer, eased_part, body_layer, eased_body, form_layer, eased}

-- ---- equations

pub equated_test : (c : Cmp) (left right : Term) → equated (Test c left right) ≡ equated_sides c left right
unfolding equated
equated_test c left right = fold_test (List Pair) equated_step c left right

pub equated_and : (fs : List Formula) → equated (And fs) ≡ flat_map equated fs
unfolding equated
equated_and fs = fold_and (List Pair) equated_step fs ∙ flat_map-map (λ part. part) equated fs

pub equated_atom : (rel : ℕ) (terms : List Term) → equated (Atom rel terms) ≡ []
unfolding equated
equated_atom rel terms = fold_atom (List Pair) equated_step rel terms

pub equated_or : (fs : List Formula) → equated (Or fs) ≡ []
unfolding equated
equated_or fs = fold_or (List Pair) equated_step fs

pub equated_not : (f : Formula) → equated (Not f) ≡ []
unfolding equated
equated_not f = fold_not (List Pair) equated_step f

pub equated_implies : (f g : Formula) → equated (Implies f g) ≡ []
unfolding equated
equated_implies f g = fold_implies (List Pair) equated_step f g

pub equated_exists : (vars : TypedVars) (f : Formula) → equated (Exists vars f) ≡ []
unfolding equated
equated_exists vars f = fold_exists (List Pair) equated_step vars f

pub equated_forall : (vars : TypedVars) (f : Formula) → equated (Forall vars f) ≡ []
unfolding equated
equated_forall vars f = fold_forall (List Pair) equated_step vars f

pub equated_none : (f : Formula) → ((c : Cmp) (left right : Term) → f ≡ Test c left right → ⊥) → ((fs : List Formula) → f ≡ And fs → ⊥) → equated f ≡ []
equated_none f no_test no_and = by (out-Formula f) refl
  where
    is : (y : Formula-F Formula) → out-Formula f ≡ y → (g : Formula) → roll-Formula y ≡ g → f ≡ g
    is y e g rolls = sym (roll-out-Formula f) ∙ ap roll-Formula e ∙ rolls

    by : (y : Formula-F Formula) → out-Formula f ≡ y → equated f ≡ []
    by (layer.Atom rel terms) e = ap equated (is (layer.Atom rel terms) e (Atom rel terms) (rolls-Atom rel terms)) ∙ equated_atom rel terms
    by (layer.Test c left right) e = absurd (no_test c left right (is (layer.Test c left right) e (Test c left right) (rolls-Test c left right)))
    by (layer.And fs) e = absurd (no_and fs (is (layer.And fs) e (And fs) (rolls-And fs)))
    by (layer.Or fs) e = ap equated (is (layer.Or fs) e (Or fs) (rolls-Or fs)) ∙ equated_or fs
    by (layer.Not g) e = ap equated (is (layer.Not g) e (Not g) (rolls-Not g)) ∙ equated_not g
    by (layer.Implies g h) e = ap equated (is (layer.Implies g h) e (Implies g h) (rolls-Implies g h)) ∙ equated_implies g h
    by (layer.Exists vars g) e = ap equated (is (layer.Exists vars g) e (Exists vars g) (rolls-Exists vars g)) ∙ equated_exists vars g
    by (layer.Forall vars g) e = ap equated (is (layer.Forall vars g) e (Forall vars g) (rolls-Forall vars g)) ∙ equated_forall vars g

-- ---- an alternative

pub ruled_test : (eqs : List Pair) (c : Cmp) (left right : Term) → ruled_out eqs (Test c left right) ≡ sides_ruled_out eqs c left right
unfolding ruled_out
ruled_test eqs c left right = ap (λ f. ruled_out_layer eqs (out-Formula f)) (sym (rolls-Test c left right)) ∙ ap (ruled_out_layer eqs) (out-roll-Formula (layer.Test c left right))

pub ruled_cases : (eqs : List Pair) (f : Formula) → ((c : Cmp) × (left : Term) × (right : Term) × (f ≡ Test c left right)) ⊎ (ruled_out eqs f ≡ false)
unfolding ruled_out
ruled_cases eqs f = by (out-Formula f) refl
  where
    by : (y : Formula-F Formula) → out-Formula f ≡ y → ((c : Cmp) × (left : Term) × (right : Term) × (f ≡ Test c left right)) ⊎ (ruled_out eqs f ≡ false)
    by (layer.Test c left right) e = inl (c, left, right, sym (roll-out-Formula f) ∙ ap roll-Formula e ∙ rolls-Test c left right)
    by (layer.Atom rel terms) e = inr (ap (ruled_out_layer eqs) e)
    by (layer.And fs) e = inr (ap (ruled_out_layer eqs) e)
    by (layer.Or fs) e = inr (ap (ruled_out_layer eqs) e)
    by (layer.Not g) e = inr (ap (ruled_out_layer eqs) e)
    by (layer.Implies g h) e = inr (ap (ruled_out_layer eqs) e)
    by (layer.Exists vars g) e = inr (ap (ruled_out_layer eqs) e)
    by (layer.Forall vars g) e = inr (ap (ruled_out_layer eqs) e)

pub ruled_none : (eqs : List Pair) (f : Formula) → ((c : Cmp) (left right : Term) → f ≡ Test c left right → ⊥) → ruled_out eqs f ≡ false
ruled_none eqs f no_test = ⊎_elim (λ found. absurd (no_test found.0 found.1 found.2 found.3)) (λ e. e) (ruled_cases eqs f)

-- ---- a part

pub part_or : (eqs : List Pair) (fs : List Formula) → eased_part eqs (Or fs) ≡ Or (left_over eqs fs)
unfolding eased_part
part_or eqs fs = ap (λ f. part_layer eqs (out-Formula f)) (sym (rolls-Or fs)) ∙ ap (part_layer eqs) (out-roll-Formula (layer.Or fs))

pub part_cases : (eqs : List Pair) (f : Formula) → ((fs : List Formula) × (f ≡ Or fs)) ⊎ (eased_part eqs f ≡ f)
unfolding eased_part
part_cases eqs f = by (out-Formula f) refl
  where
    same : (y : Formula-F Formula) → out-Formula f ≡ y → part_layer eqs y ≡ roll-Formula y → eased_part eqs f ≡ f
    same y e is = ap (part_layer eqs) e ∙ is ∙ sym (ap roll-Formula e) ∙ roll-out-Formula f

    by : (y : Formula-F Formula) → out-Formula f ≡ y → ((fs : List Formula) × (f ≡ Or fs)) ⊎ (eased_part eqs f ≡ f)
    by (layer.Or fs) e = inl (fs, sym (roll-out-Formula f) ∙ ap roll-Formula e ∙ rolls-Or fs)
    by (layer.Atom rel terms) e = inr (same (layer.Atom rel terms) e refl)
    by (layer.Test c left right) e = inr (same (layer.Test c left right) e refl)
    by (layer.And fs) e = inr (same (layer.And fs) e refl)
    by (layer.Not g) e = inr (same (layer.Not g) e refl)
    by (layer.Implies g h) e = inr (same (layer.Implies g h) e refl)
    by (layer.Exists vars g) e = inr (same (layer.Exists vars g) e refl)
    by (layer.Forall vars g) e = inr (same (layer.Forall vars g) e refl)

pub part_none : (eqs : List Pair) (f : Formula) → ((fs : List Formula) → f ≡ Or fs → ⊥) → f ≡ eased_part eqs f
part_none eqs f no_or = ⊎_elim (λ found. absurd (no_or found.0 found.1)) (λ e. sym e) (part_cases eqs f)

-- ---- a conjunction

pub body_and : (fs : List Formula) → eased_body (And fs) ≡ And (map (eased_part (flat_map equated fs)) fs)
unfolding eased_body
body_and fs = ap (λ f. body_layer (out-Formula f)) (sym (rolls-And fs)) ∙ ap body_layer (out-roll-Formula (layer.And fs))

pub body_cases : (f : Formula) → ((fs : List Formula) × (f ≡ And fs)) ⊎ (eased_body f ≡ f)
unfolding eased_body
body_cases f = by (out-Formula f) refl
  where
    same : (y : Formula-F Formula) → out-Formula f ≡ y → body_layer y ≡ roll-Formula y → eased_body f ≡ f
    same y e is = ap body_layer e ∙ is ∙ sym (ap roll-Formula e) ∙ roll-out-Formula f

    by : (y : Formula-F Formula) → out-Formula f ≡ y → ((fs : List Formula) × (f ≡ And fs)) ⊎ (eased_body f ≡ f)
    by (layer.And fs) e = inl (fs, sym (roll-out-Formula f) ∙ ap roll-Formula e ∙ rolls-And fs)
    by (layer.Atom rel terms) e = inr (same (layer.Atom rel terms) e refl)
    by (layer.Test c left right) e = inr (same (layer.Test c left right) e refl)
    by (layer.Or fs) e = inr (same (layer.Or fs) e refl)
    by (layer.Not g) e = inr (same (layer.Not g) e refl)
    by (layer.Implies g h) e = inr (same (layer.Implies g h) e refl)
    by (layer.Exists vars g) e = inr (same (layer.Exists vars g) e refl)
    by (layer.Forall vars g) e = inr (same (layer.Forall vars g) e refl)

pub body_none : (f : Formula) → ((fs : List Formula) → f ≡ And fs → ⊥) → f ≡ eased_body f
body_none f no_and = ⊎_elim (λ found. absurd (no_and found.0 found.1)) (λ e. sym e) (body_cases f)

-- ---- the formula

pub eased_exists : (vars : TypedVars) (f : Formula) → eased (Exists vars f) ≡ Exists vars (eased_body f)
unfolding eased
eased_exists vars f = ap (λ g. form_layer (out-Formula g)) (sym (rolls-Exists vars f)) ∙ ap form_layer (out-roll-Formula (layer.Exists vars f))

pub eased_cases : (f : Formula) → ((vars : TypedVars) × (g : Formula) × (f ≡ Exists vars g)) ⊎ (eased f ≡ eased_body f)
unfolding eased
eased_cases f = by (out-Formula f) refl
  where
    same : (y : Formula-F Formula) → out-Formula f ≡ y → form_layer y ≡ eased_body (roll-Formula y) → eased f ≡ eased_body f
    same y e is = ap form_layer e ∙ is ∙ ap eased_body (sym (ap roll-Formula e) ∙ roll-out-Formula f)

    by : (y : Formula-F Formula) → out-Formula f ≡ y → ((vars : TypedVars) × (g : Formula) × (f ≡ Exists vars g)) ⊎ (eased f ≡ eased_body f)
    by (layer.Exists vars g) e = inl (vars, g, sym (roll-out-Formula f) ∙ ap roll-Formula e ∙ rolls-Exists vars g)
    by (layer.Atom rel terms) e = inr (same (layer.Atom rel terms) e refl)
    by (layer.Test c left right) e = inr (same (layer.Test c left right) e refl)
    by (layer.And fs) e = inr (same (layer.And fs) e refl)
    by (layer.Or fs) e = inr (same (layer.Or fs) e refl)
    by (layer.Not g) e = inr (same (layer.Not g) e refl)
    by (layer.Implies g h) e = inr (same (layer.Implies g h) e refl)
    by (layer.Forall vars g) e = inr (same (layer.Forall vars g) e refl)

pub eased_none : (f : Formula) → ((vars : TypedVars) (g : Formula) → f ≡ Exists vars g → ⊥) → eased_body f ≡ eased f
eased_none f no_exists = ⊎_elim (λ found. absurd (no_exists found.0 found.1 found.2)) (λ e. sym e) (eased_cases f)

-- ---- pairs in a set

pub pairs_same : (a b : Pair) → same_pair a b ≡ true → a ≡ b
pairs_same a b e =
    let both = and_parts (var_eq a.0 b.0) (var_eq a.1 b.1) e in
    ap (λ x. (x, a.1)) (var_same a.0 b.0 both.0) ∙ ap (λ y. (b.0, y)) (var_same a.1 b.1 both.1)

abbrev pub pair_cmp : Pair → Pair → Ordering
pair_cmp a b = ordering_then (var_cmp a.0 b.0) (var_cmp a.1 b.1)

pairs_tie : (a b : Pair) → same_pair a b ≡ is_eq (pair_cmp a b)
pairs_tie a b = both_tied (var_eq a.0 b.0) (var_eq a.1 b.1) (var_cmp a.0 b.0) (var_cmp a.1 b.1) (vars_tie a.0 b.0) (vars_tie a.1 b.1)

tied_pairs : (a b : Pair) → pair_cmp a b ≡ Equal → a ≡ b
tied_pairs a b e = pairs_same a b (pairs_tie a b ∙ (Equal-is (pair_cmp a b)).1 e)

-- whether a pair is a key
pub pair_found : (keys : List Pair) (p : Pair) → list_any (λ k. is_eq (pair_cmp p k)) keys ≡ list_any (same_pair p) keys
pair_found [] p = refl
pair_found (k ∷ keys) p = ap (λ b. b || list_any (λ j. is_eq (pair_cmp p j)) keys) (sym (pairs_tie p k)) ∙ ap (λ b. same_pair p k || b) (pair_found keys p)

or_swap : (a b c : Bool) → (a || (b || c)) ≡ (b || (a || c))
or_swap true true c = refl
or_swap true false c = refl
or_swap false b c = refl

or_same : (a c : Bool) → (a || c) ≡ (a || (a || c))
or_same true c = refl
or_same false c = refl

or_turned : (a c : Bool) → (a || c) ≡ (c || (a || false))
or_turned true true = refl
or_turned true false = refl
or_turned false true = refl
or_turned false false = refl

or_more : (a b c : Bool) → ((a || b) || c) ≡ (a || (b || c))
or_more true b c = refl
or_more false b c = refl

inserted : (keys : List Pair) (k p : Pair) → list_any (same_pair p) (insert_key pair_cmp keys k) ≡ (same_pair p k || list_any (same_pair p) keys)
inserted [] k p = refl
inserted (y ∷ ys) k p =
    elim (pair_cmp k y) as (λ r. pair_cmp k y ≡ r → list_any (same_pair p) (insert_key pair_cmp (y ∷ ys) k) ≡ (same_pair p k || list_any (same_pair p) (y ∷ ys))) [
      | Less ↦ λ e. rw e refl
      | Equal ↦ λ e. rw e (rw (tied_pairs k y e) (or_same (same_pair p y) (list_any (same_pair p) ys)))
      | Greater ↦ λ e. rw e (ap (λ b. same_pair p y || b) (inserted ys k p) ∙ or_swap (same_pair p y) (same_pair p k) (list_any (same_pair p) ys))
    ] refl

pub adds_pair : (old new : List Pair) (k : Pair) → new ≡ insert_key pair_cmp old k → Adds old new (k ∷ [])
adds_pair old new k e p = ap (list_any (same_pair p)) e ∙ inserted old k p ∙ or_turned (same_pair p k) (list_any (same_pair p) old)

or_none : (a : Bool) → a ≡ (a || false)
or_none true = refl
or_none false = refl

pub adds_none : (keys eqs : List Pair) → eqs ≡ [] → Adds keys keys eqs
adds_none keys eqs e p = or_none (list_any (same_pair p) keys) ∙ ap (λ xs. list_any (same_pair p) keys || list_any (same_pair p) xs) (sym e)

any_append : (p : Pair) (xs ys : List Pair) → list_any (same_pair p) (xs ++ ys) ≡ (list_any (same_pair p) xs || list_any (same_pair p) ys)
any_append p [] ys = refl
any_append p (x ∷ xs) ys = ap (λ b. same_pair p x || b) (any_append p xs ys) ∙ sym (or_more (same_pair p x) (list_any (same_pair p) xs) (list_any (same_pair p) ys))

pub adds_then : (a b c xs ys : List Pair) → Adds a b xs → Adds b c ys → Adds a c (xs ++ ys)
adds_then a b c xs ys first second p =
    second p ∙ ap (λ t. t || list_any (same_pair p) ys) (first p) ∙ or_more (list_any (same_pair p) a) (list_any (same_pair p) xs) (list_any (same_pair p) ys)
    ∙ ap (λ t. list_any (same_pair p) a || t) (sym (any_append p xs ys))

-- ---- only which pairs there are counts

module _ (keys eqs : List Pair) (same : (p : Pair) → list_any (same_pair p) keys ≡ list_any (same_pair p) eqs) where
  sides_alike : (c : Cmp) (left right : Term) → sides_ruled_out keys c left right ≡ sides_ruled_out eqs c left right
  sides_alike c (term.Var x) (term.Var y) = ap (λ b. is_strict c && b) (same (x, y))
  sides_alike c (term.Var x) (term.Const v) = refl
  sides_alike c (term.Const v) right = refl

  ruled_alike : (f : Formula) → ruled_out keys f ≡ ruled_out eqs f
  ruled_alike f =
      ⊎_elim
      (λ found. ap (ruled_out keys) found.3 ∙ ruled_test keys found.0 found.1 found.2 ∙ sides_alike found.0 found.1 found.2 ∙ sym (ruled_test eqs found.0 found.1 found.2) ∙ ap (ruled_out eqs) (sym found.3))
      (λ e. e ∙ sym (⊎_elim (λ found. ap (ruled_out eqs) found.3 ∙ ruled_test eqs found.0 found.1 found.2 ∙ sym (sides_alike found.0 found.1 found.2) ∙ sym (ruled_test keys found.0 found.1 found.2) ∙ ap (ruled_out keys) (sym found.3) ∙ e) (λ d. d) (ruled_cases eqs f)))
      (ruled_cases keys f)

  pub part_alike : (f : Formula) → eased_part keys f ≡ eased_part eqs f
  part_alike f =
      ⊎_elim
      (λ found. ap (eased_part keys) found.1 ∙ part_or keys found.0 ∙ ap Or (filter_alike (λ g. not (ruled_out keys g)) (λ g. not (ruled_out eqs g)) (λ g. ap not (ruled_alike g)) found.0) ∙ sym (part_or eqs found.0) ∙ ap (eased_part eqs) (sym found.1))
      (λ e. e ∙ sym (⊎_elim (λ found. ap (eased_part eqs) found.1 ∙ part_or eqs found.0 ∙ ap Or (filter_alike (λ g. not (ruled_out eqs g)) (λ g. not (ruled_out keys g)) (λ g. ap not (sym (ruled_alike g))) found.0) ∙ sym (part_or keys found.0) ∙ ap (eased_part keys) (sym found.1) ∙ e) (λ d. d) (part_cases eqs f)))
      (part_cases keys f)

  pub parts_alike : (fs : List Formula) → map (eased_part keys) fs ≡ map (eased_part eqs) fs
  parts_alike [] = refl
  parts_alike (f ∷ fs) = ap (λ g. g ∷ map (eased_part keys) fs) (part_alike f) ∙ ap (λ gs. eased_part eqs f ∷ gs) (parts_alike fs)

-- ---- copies

pub pair_copied : (old new : List Pair) (a b x y : Var) → new ≡ insert_key pair_cmp old (a, b) → a ≡ x → b ≡ y → Adds old new ((x, y) ∷ [])
pair_copied old new a b x y e p q = adds_pair old new (x, y) (e ∙ ap (λ z. insert_key pair_cmp old (z, b)) p ∙ ap (λ z. insert_key pair_cmp old (x, z)) q)

pub found_copied : (keys : List Pair) (a b x y : Var) (r : Bool) → r ≡ list_any (λ k. is_eq (pair_cmp (a, b) k)) keys → a ≡ x → b ≡ y → r ≡ list_any (same_pair (x, y)) keys
found_copied keys a b x y r e p q = e ∙ pair_found keys (a, b) ∙ ap (λ z. list_any (same_pair (z, b)) keys) p ∙ ap (λ z. list_any (same_pair (x, z)) keys) q

pub body_made : (keys : List Pair) (made fs parts : List Formula) (f : Formula) → f ≡ And fs → parts ≡ fs → made ≡ map (eased_part keys) parts → Adds [] keys (flat_map equated parts) → And made ≡ eased_body f
body_made keys made fs parts f is same e adds =
    ap And (e ∙ parts_alike keys (flat_map equated parts) adds parts) ∙ ap (λ gs. And (map (eased_part (flat_map equated gs)) gs)) same ∙ sym (body_and fs) ∙ sym (ap eased_body is)
