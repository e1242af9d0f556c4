-- Parts that wait, and what they wait for.
use Rattle.std.proofs.Common.{◌≡◌, ℕ, zero, suc, ◌+◌, ◌≤◌, ◌<◌, Bool, true, false, cond, ◌&&◌, ◌||◌, List, [], ◌∷◌, ◌++◌, length, get_or, remove, drop, refl, ap, sym, ◌∙◌, subst, arith, Option, None, Some, ⊎_elim}
use Rattle.std.specs.Option.{option_map}
use Rattle.std.specs.List.{list_all, list_any, flat_map}
use Rattle.std.proofs.lemmas.Bool.{and_parts, and_from, or_cases, false_from_ne_true}
use Rattle.std.proofs.lemmas.List.Folds.{list_all-append}
use Rattle.std.specs.Cmp.{both_ways}
use Rattle.std.proofs.lemmas.List.{drop_more}
use Rattle.dbn_value.proofs.MemberLaws.{all_at}
use Rattle.dbn_value.specs.declared.term.Var.{Var}
use Rattle.dbn_value.specs.declared.term.Term.{Term}
use Rattle.dbn_value.specs.declared.term.Term.TheVariants as term
use Rattle.dbn_value.specs.declared.term.Cmp.{Cmp}
use Rattle.dbn_value.specs.declared.term.Cmp.TheVariants as cmp
use Rattle.dbn_formula.specs.Variables.{is_in}
use Rattle.dbn_formula.specs.Free.{variable_of, occurrences}
use Rattle.dbn_formula.specs.Safe.{all_in, known, test_safe, safe}
use Rattle.dbn_formula.specs.Conjuncts.{first_safe, safe_position}
use Rattle.dbn_formula.specs.Rest.{Rests}
use Rattle.dbn_formula.specs.Waiting.{WereUnsafe, StaysUnsafe, is_among}
use Rattle.dbn_formula.specs.declared.formula.Formula.{Formula}
use Rattle.dbn_formula.specs.declared.formula.Formula.TheVariants.{Atom, Test, And, Not}
use Rattle.dbn_formula.proofs.FreeLaws.{occurrences_atom, occurrences_test}
use Rattle.dbn_formula.proofs.SafeLaws.{safe_atom, safe_test, safe_not}
use Rattle.dbn_formula.proofs.VariableLaws.{in_of_is}
use Rattle.dbn_formula.proofs.KnownLaws.{is_in_append}
use Rattle.dbn_formula.proofs.Trials.{rests_position, rests_length}

-- ---- what fresh variables don't help

or_none : (a b : Bool) → (a || b) ≡ false → (a ≡ false) × (b ≡ false)
or_none true b e = cc
or_none false b e = (refl, e)

or_false : (b : Bool) → (b || false) ≡ b
or_false true = refl
or_false false = refl

known_same : (before fresh : List Var) (a : Term) → is_among fresh a ≡ false → known (before ++ fresh) a ≡ known before a
known_same before fresh (term.Var x) e = is_in_append x before fresh ∙ ap (λ b. is_in x before || b) e ∙ or_false (is_in x before)
known_same before fresh (term.Const v) e = refl

both_same : (before fresh : List Var) (left right : Term) (t : Bool → Bool → Bool) → (is_among fresh left || is_among fresh right) ≡ false
    → t (known (before ++ fresh) left) (known (before ++ fresh) right) ≡ t (known before left) (known before right)
both_same before fresh left right t e =
    let none = or_none (is_among fresh left) (is_among fresh right) e in
    ap (λ b. t b (known (before ++ fresh) right)) (known_same before fresh left none.0) ∙ ap (t (known before left)) (known_same before fresh right none.1)

test_same : (c : Cmp) (left right : Term) (before fresh : List Var) → (is_among fresh left || is_among fresh right) ≡ false
    → test_safe c left right (before ++ fresh) ≡ test_safe c left right before
test_same cmp.Eq left right before fresh e = both_same before fresh left right (λ a b. a || b) e
test_same cmp.Ne left right before fresh e = both_same before fresh left right (λ a b. a && b) e
test_same cmp.Lt left right before fresh e = both_same before fresh left right (λ a b. a && b) e
test_same cmp.Le left right before fresh e = both_same before fresh left right (λ a b. a && b) e
test_same cmp.Gt left right before fresh e = both_same before fresh left right (λ a b. a && b) e
test_same cmp.Ge left right before fresh e = both_same before fresh left right (λ a b. a && b) e

pub neither : (r s a b : Bool) → r ≡ a → s ≡ b → r ≡ false → s ≡ false → (a || b) ≡ false
neither r s a b e h first second = ap (λ c. c || b) (sym e ∙ first) ∙ sym h ∙ second

pub test_stays : (c : Cmp) (left right : Term) (fresh : List Var) → (is_among fresh left || is_among fresh right) ≡ false → StaysUnsafe (Test c left right) fresh
test_stays c left right fresh e before here =
    safe_test c left right (before ++ fresh) ∙ test_same c left right before fresh e ∙ sym (safe_test c left right before) ∙ here

var_same_in : (a : Term) (before fresh : List Var) → is_among fresh a ≡ false → all_in (variable_of a) (before ++ fresh) ≡ all_in (variable_of a) before
var_same_in (term.Var x) before fresh e = ap (λ b. b && true) (known_same before fresh (term.Var x) e)
var_same_in (term.Const v) before fresh e = refl

all_in_append : (xs ys bound : List Var) → all_in (xs ++ ys) bound ≡ (all_in xs bound && all_in ys bound)
all_in_append xs ys bound = list_all-append (λ x. is_in x bound) xs ys

vars_same_in : (terms : List Term) (before fresh : List Var) → list_any (is_among fresh) terms ≡ false
    → all_in (flat_map variable_of terms) (before ++ fresh) ≡ all_in (flat_map variable_of terms) before
vars_same_in [] before fresh e = refl
vars_same_in (a ∷ terms) before fresh e =
    let none = or_none (is_among fresh a) (list_any (is_among fresh) terms) e in
    let rest : List Var = flat_map variable_of terms in
    all_in_append (variable_of a) rest (before ++ fresh)
    ∙ ap (λ b. b && all_in rest (before ++ fresh)) (var_same_in a before fresh none.0)
    ∙ ap (λ b. all_in (variable_of a) before && b) (vars_same_in terms before fresh none.1)
    ∙ sym (all_in_append (variable_of a) rest before)

not_same : (part : Formula) (before fresh : List Var) → all_in (occurrences part) (before ++ fresh) ≡ all_in (occurrences part) before
    → safe part (before ++ fresh) ≡ safe part before → safe (Not part) before ≡ false → safe (Not part) (before ++ fresh) ≡ false
not_same part before fresh e h here =
    safe_not part (before ++ fresh) ∙ ap (λ b. b && safe part (before ++ fresh)) e ∙ ap (λ b. all_in (occurrences part) before && b) h
    ∙ sym (safe_not part before) ∙ here

pub not_atom_stays : (rel : ℕ) (terms : List Term) (fresh : List Var) → list_any (is_among fresh) terms ≡ false → StaysUnsafe (Not (Atom rel terms)) fresh
not_atom_stays rel terms fresh e before here =
    not_same (Atom rel terms) before fresh
    (subst (λ xs. all_in xs (before ++ fresh) ≡ all_in xs before) (sym (occurrences_atom rel terms)) (vars_same_in terms before fresh e))
    (safe_atom rel terms (before ++ fresh) ∙ sym (safe_atom rel terms before)) here

pub not_test_stays : (c : Cmp) (left right : Term) (fresh : List Var) → (is_among fresh left || is_among fresh right) ≡ false → StaysUnsafe (Not (Test c left right)) fresh
not_test_stays c left right fresh e before here =
    let none = or_none (is_among fresh left) (is_among fresh right) e in
    let a : all_in (variable_of left ++ variable_of right) (before ++ fresh) ≡ all_in (variable_of left ++ variable_of right) before =
    all_in_append (variable_of left) (variable_of right) (before ++ fresh)
    ∙ ap (λ b. b && all_in (variable_of right) (before ++ fresh)) (var_same_in left before fresh none.0)
    ∙ ap (λ b. all_in (variable_of left) before && b) (var_same_in right before fresh none.1)
    ∙ sym (all_in_append (variable_of left) (variable_of right) before) in
    not_same (Test c left right) before fresh
    (subst (λ xs. all_in xs (before ++ fresh) ≡ all_in xs before) (sym (occurrences_test c left right)) a)
    (safe_test c left right (before ++ fresh) ∙ test_same c left right before fresh e ∙ sym (safe_test c left right before)) here

-- ---- the position of the first safe one

-- before it none is safe
pub unsafe_before : (fs : List Formula) (bound : List Var) (i : ℕ) (d : Formula) → i < safe_position fs bound → i < length fs → safe (get_or fs i d) bound ≡ false
unsafe_before [] bound i d h long = absurd (omega (arith, long))
unsafe_before (f ∷ fs) bound zero d h long = false_from_ne_true (safe f bound) (λ e. absurd_position (subst (λ b. 0 < cond b 0 (safe_position fs bound + 1)) e h))
  where
    absurd_position : 0 < 0 → ⊥
    absurd_position below = omega (arith, below)
unsafe_before (f ∷ fs) bound (suc i) d h long =
    elim (safe f bound) as (λ b. suc i < cond b 0 (safe_position fs bound + 1) → safe (get_or fs i d) bound ≡ false) [
      | true ↦ λ below. absurd (omega (arith, below))
      | false ↦ λ below. unsafe_before fs bound i d (omega (arith, below)) (omega (arith, long))
    ] h

-- without the first safe one the first safe one comes no earlier
pub removed_position : (fs : List Formula) (bound : List Var) (i : ℕ) → i ≡ safe_position fs bound → i ≤ safe_position (remove fs i) bound
removed_position [] bound zero e = omega arith
removed_position [] bound (suc i) e = absurd (omega (arith, e))
removed_position (f ∷ fs) bound zero e = omega arith
removed_position (f ∷ fs) bound (suc i) e =
    elim (safe f bound) as (λ b. suc i ≡ cond b 0 (safe_position fs bound + 1) → suc i ≤ cond b 0 (safe_position (remove fs i) bound + 1)) [
      | true ↦ λ h. absurd (omega (arith, h))
      | false ↦ λ h.
          let less : i ≤ safe_position (remove fs i) bound = removed_position fs bound i (omega (arith, h)) in
          omega (arith, less)
    ] e

-- where none is safe
none_position : (fs : List Formula) (bound : List Var) → first_safe fs bound ≡ None → length fs ≤ safe_position fs bound
none_position [] bound e = omega arith
none_position (f ∷ fs) bound e =
    elim (safe f bound) as (λ b. cond b (Some (f, fs)) (option_map {U = Formula × List Formula} (λ (found : Formula × List Formula). (found.0, f ∷ found.1)) (first_safe fs bound)) ≡ None → suc (length fs) ≤ cond b 0 (safe_position fs bound + 1)) [
      | true ↦ λ h. cc
      | false ↦ λ h.
          let less : length fs ≤ safe_position fs bound = none_position fs bound (none_of (first_safe fs bound) h) in
          omega (arith, less)
    ] e
  where
    none_of : (found : Option (Formula × List Formula)) → option_map {U = Formula × List Formula} (λ (g : Formula × List Formula). (g.0, f ∷ g.1)) found ≡ None → found ≡ None
    none_of None h = refl
    none_of (Some g) h = cc

-- one was taken where none was safe
pub none_were : (waiting lefts : List Formula) (given bound fresh : List Var) (now : List Formula) → first_safe waiting given ≡ None → Rests given waiting lefts
    → bound ≡ given ++ fresh → now ≡ lefts → WereUnsafe (length now) now fresh bound
none_were waiting lefts given bound fresh now none rests e is =
    let a : length waiting ≤ safe_position waiting given = none_position waiting given none in
    let b : safe_position lefts given ≡ safe_position waiting given = rests_position given waiting lefts rests in
    let c : length lefts ≡ length waiting = rests_length given waiting lefts rests in
    (given, e, subst (λ gs. length gs ≤ safe_position gs given) (sym is) (omega (arith, a, b, c)))

-- the first safe one was taken out
pub taken_were : (lefts fewer : List Formula) (given bound fresh : List Var) (i : ℕ) → i ≡ safe_position lefts given → fewer ≡ remove lefts i → bound ≡ given ++ fresh
    → WereUnsafe i fewer fresh bound
taken_were lefts fewer given bound fresh i at is e = (given, e, subst (λ gs. i ≤ safe_position gs given) (sym is) (removed_position lefts given i at))

get_ahead : (xs ys : List Formula) (i : ℕ) (d : Formula) → i < length xs → length xs ≡ length ys → drop i xs ≡ drop i ys → get_or xs i d ≡ get_or ys i d
get_ahead xs ys i d below long e =
    let same : get_or xs i d ∷ drop (i + 1) xs ≡ get_or ys i d ∷ drop (i + 1) ys = sym (drop_more xs i d below) ∙ e ∙ drop_more ys i d (omega (arith, below, long)) in
    cc

-- it was not safe either, where it has not been tried again
pub was_unsafe : (given lefts : List Formula) (i many : ℕ) (fresh last none bound : List Var) → i < length lefts → length lefts ≡ length given → drop i lefts ≡ drop i given
    → fresh ≡ none ++ last → none ≡ [] → i < many → WereUnsafe many given last bound → (before : List Var) × (bound ≡ before ++ fresh) × (safe (get_or lefts i (And [])) before ≡ false)
was_unsafe given lefts i many fresh last none bound below long ahead e n h were =
    let same : get_or lefts i (And []) ≡ get_or given i (And []) = get_ahead lefts given i (And []) below long ahead in
    let all : fresh ≡ last = e ∙ ap (λ xs. xs ++ last) n in (
      were.0,
      were.1 ∙ ap (λ xs. were.0 ++ xs) (sym all),
      ap (λ f. safe f were.0) same ∙ unsafe_before given were.0 i (And []) (omega (arith, h, were.2)) (omega (arith, below, long)),
    )

-- one more that isn't safe
pub position_next : (lefts after : List Formula) (i n : ℕ) (d : Formula) (bound : List Var) → i < length lefts → n ≡ i + safe_position (drop i lefts) bound
    → safe (get_or lefts i d) bound ≡ false → drop (i + 1) after ≡ drop (i + 1) lefts → n ≡ i + 1 + safe_position (drop (i + 1) after) bound
position_next lefts after i n d bound below e fails same =
    let a : safe_position (drop i lefts) bound ≡ safe_position (drop (i + 1) lefts) bound + 1 =
    ap (λ fs. safe_position fs bound) (drop_more lefts i d below) ∙ ap (λ b. cond b 0 (safe_position (drop (i + 1) lefts) bound + 1)) fails in
    let b : safe_position (drop (i + 1) after) bound ≡ safe_position (drop (i + 1) lefts) bound = ap (λ fs. safe_position fs bound) same in
    omega (arith, e, a, b)

-- ---- what the parts of a disjunction need

in_more : (x : Var) (xs ys : List Var) → is_in x xs ≡ true → is_in x (xs ++ ys) ≡ true
in_more x xs ys e = is_in_append x xs ys ∙ ap (λ b. b || is_in x ys) e

in_needed : (needed xs ys : List Var) (x : Var) → is_in x (xs ++ needed) ≡ true → all_in needed (xs ++ ys) ≡ true → is_in x (xs ++ ys) ≡ true
in_needed needed xs ys x e all =
    ⊎_elim
    (λ here. in_more x xs ys here)
    (λ among. all_at (λ y. is_in y (xs ++ ys)) x needed all (in_of_is x needed among))
    (or_cases (is_in x xs) (is_in x needed) (sym (is_in_append x xs needed) ∙ e))

-- one that is bound or there already
pub same_needed : (needed xs ys : List Var) (x : Var) → is_in x (xs ++ needed) ≡ true → all_in needed (xs ++ ys) ≡ (all_in needed (xs ++ ys) && is_in x (xs ++ ys))
same_needed needed xs ys x e =
    both_ways (all_in needed (xs ++ ys)) (all_in needed (xs ++ ys) && is_in x (xs ++ ys))
    (λ all. and_from (all_in needed (xs ++ ys)) (is_in x (xs ++ ys)) all (in_needed needed xs ys x e all))
    (λ both. (and_parts (all_in needed (xs ++ ys)) (is_in x (xs ++ ys)) both).0)

and_true : (b : Bool) → (b && true) ≡ b
and_true true = refl
and_true false = refl

pub all_in_push : (xs : List Var) (x : Var) (zs : List Var) → all_in (xs ++ x ∷ []) zs ≡ (all_in xs zs && is_in x zs)
all_in_push xs x zs = all_in_append xs (x ∷ []) zs ∙ ap (λ b. all_in xs zs && b) (and_true (is_in x zs))

pub pushed_needed : (needed more xs ys : List Var) (x : Var) → more ≡ needed ++ x ∷ [] → all_in more (xs ++ ys) ≡ (all_in needed (xs ++ ys) && is_in x (xs ++ ys))
pushed_needed needed more xs ys x e = ap (λ vs. all_in vs (xs ++ ys)) e ∙ all_in_push needed x (xs ++ ys)

-- one more was looked at
pub needed_next : (before after seen next : List Var) (x : Var) (zs : List Var) → all_in after zs ≡ (all_in before zs && is_in x zs) → all_in before zs ≡ all_in seen zs → next ≡ seen ++ x ∷ []
    → all_in after zs ≡ all_in next zs
needed_next before after seen next x zs step e is =
    step ∙ ap (λ b. b && is_in x zs) e ∙ sym (all_in_push seen x zs) ∙ ap (λ vs. all_in vs zs) (sym is)

-- each part binds what is needed where it binds all
pub needed_by_each : (fs : List Formula) (bound needed all : List Var) → ((more : List Var) → all_in needed (bound ++ more) ≡ all_in all (bound ++ more))
    → list_all (λ f. safe f bound && all_in needed (bound ++ occurrences f)) fs ≡ list_all (λ f. safe f bound && all_in all (bound ++ occurrences f)) fs
needed_by_each [] bound needed all same = refl
needed_by_each (f ∷ fs) bound needed all same =
    ap (λ b. (safe f bound && b) && list_all (λ g. safe g bound && all_in needed (bound ++ occurrences g)) fs) (same (occurrences f))
    ∙ ap (λ b. (safe f bound && all_in all (bound ++ occurrences f)) && b) (needed_by_each fs bound needed all same)
