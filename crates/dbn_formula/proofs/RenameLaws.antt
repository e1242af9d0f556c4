-- Renaming apart keeps what a formula means.
use Rattle.std.proofs.Common.{◌≡◌, ℕ, ◌+◌, ◌<◌, ◌≤◌, ◌⊎◌, inl, inr, ⊎_elim, Bool, true, false, cond, not, ◌&&◌, ◌||◌, ◌==◌, nat_lt, List, [], ◌∷◌, ◌++◌, map, refl, ap, sym, ◌∙◌, subst, arith, le_trans, eqb-true, eq-eqb, ltb-true, ltb-false, true≢false}
use Rattle.std.specs.Prelude.{slice_index_or}
use Rattle.std.specs.Ordering.{nat_cmp}
use Rattle.std.specs.declared.cmp.Ordering.TheVariants.{Less}
use Rattle.std.specs.Cmp.{nat_cmp_total}
use Rattle.std.specs.FinMap.{nat_cmp-IsAntisymmetric}
use Rattle.std.specs.List.{list_any, list_all, flat_map, AllByRecursion}
use Rattle.std.specs.List.Sorted.{IsStrictlySortedBy}
use Rattle.std.proofs.lemmas.Bool.Decides.{nat_tests}
use Rattle.dbn_value.specs.Members.{In}
use Rattle.dbn_value.specs.Ascending.{ascending}
use Rattle.dbn_value.proofs.MemberLaws.{append_left, append_right}
use Rattle.dbn_value.proofs.AscendingLaws.{head_below, sorted_ascending, ascending_in}
use Rattle.dbn_value.specs.declared.value.Value.{Value}
use Rattle.dbn_value.specs.declared.term.Var.{Var}
use Rattle.dbn_value.specs.declared.term.Term.{Term}
use Rattle.dbn_value.specs.declared.term.Term.TheVariants as term
use Rattle.dbn_value.specs.Order.{value_cmp}
use Rattle.dbn_formula.specs.declared.formula.Formula.{Formula}
use Rattle.dbn_formula.specs.Variables.{TypedVars, var_eq}
use Rattle.dbn_formula.specs.Holds.{Env, Domain, Instance, lookup, value_of, meets, row_eq, some_choice, every_choice, holds_over}
use Rattle.dbn_formula.specs.Apart.{Renaming, marks, term_marks, quantified_marks, unused_from, next_mark, renamed_var, renamed_term, marked, fresh, last_mark, opened, renamed_at, last_at, renamed_all, last_all, renamed}
use Rattle.dbn_formula.proofs.Induction.{induction}
use Rattle.dbn_formula.proofs.HoldsLaws.{holds_atom, holds_test, holds_and, holds_or, holds_not, holds_implies, holds_exists, holds_forall}
use Rattle.dbn_formula.proofs.ApartLaws.{marks_atom, marks_test, marks_and, marks_or, marks_not, marks_implies, marks_exists, marks_forall, renamed_atom, renamed_test, renamed_and, renamed_or, renamed_not, renamed_implies, renamed_exists, renamed_forall, last_atom, last_test, last_and, last_or, last_not, last_implies, last_exists, last_forall}
use Rattle.dbn_formula.proofs.VariableLaws.{var_itself, var_other}
use Rattle.dbn_formula.proofs.Truth.{any_alike, all_alike, everywhere}

-- ---- the marks that are given

less_is : (m n : ℕ) → nat_cmp m n ≡ Less → m < n
less_is m n e = grind (arith, nat_tests)

tail_of : (x : ℕ) (xs : List ℕ) → IsStrictlySortedBy nat_cmp (x ∷ xs) → IsStrictlySortedBy nat_cmp xs
unfolding IsStrictlySortedBy
tail_of x xs s = s.1

pub unused_above : (ms : List ℕ) (n : ℕ) → n ≤ unused_from ms n
unused_above [] n = omega arith
unused_above (m ∷ ms) n =
    elim (m == n) as (λ b. n ≤ cond b (unused_from ms (n + 1)) (cond (nat_lt m n) (unused_from ms n) n)) [
      | true ↦ let h : n + 1 ≤ unused_from ms (n + 1) = unused_above ms (n + 1) in omega arith
      | false ↦ elim (nat_lt m n) as (λ b. n ≤ cond b (unused_from ms n) n) [ true ↦ unused_above ms n | false ↦ omega arith ]
    ]

pub unused_new : (ms : List ℕ) (n : ℕ) → IsStrictlySortedBy nat_cmp ms → In (unused_from ms n) ms → ⊥
unused_new [] n s at = at
unused_new (m ∷ ms) n s at =
    elim (m == n) as (λ b. (m == n) ≡ b → In (cond b (unused_from ms (n + 1)) (cond (nat_lt m n) (unused_from ms n) n)) (m ∷ ms) → ⊥) [
      | true ↦ λ e within.
          let above : n + 1 ≤ unused_from ms (n + 1) = unused_above ms (n + 1) in
          let same : m ≡ n = eqb-true m n e in
          ⊎_elim (λ here. absurd (omega (arith, here, above, same))) (λ there. unused_new ms (n + 1) (tail_of m ms s) there) within
      | false ↦ λ e within. elim (nat_lt m n) as (λ b. nat_lt m n ≡ b → In (cond b (unused_from ms n) n) (m ∷ ms) → ⊥) [
        | true ↦ λ below at.
            let above : n ≤ unused_from ms n = unused_above ms n in
            let less : m < n = ltb-true m n below in
            ⊎_elim (λ here. absurd (omega (arith, here, above, less))) (λ there. unused_new ms n (tail_of m ms s) there) at
        | false ↦ λ below at.
            let least : n ≤ m = ltb-false m n below in
            ⊎_elim
            (λ here. absurd (true≢false (sym (eq-eqb m n (sym here)) ∙ e)))
            (λ there. let less : m < n = less_is m n (head_below nat_cmp m ms n s there) in absurd (omega (arith, least, less)))
            at
      ] refl within
    ] refl at

pub next_above : (used : List ℕ) (n : ℕ) → n < next_mark used n
next_above used n = let h : n + 1 ≤ next_mark used n = unused_above (ascending nat_cmp used) (n + 1) in omega (arith, h)

pub next_new : (used : List ℕ) (n : ℕ) → In (next_mark used n) used → ⊥
next_new used n at =
    unused_new (ascending nat_cmp used) (n + 1) (sorted_ascending nat_cmp_total used)
    (ascending_in nat_cmp_total nat_cmp-IsAntisymmetric (next_mark used n) used at)

-- ---- variables that were there before, and what a renaming keeps

-- its mark stands in the formula or was given already, where n was the last mark that was given
abbrev pub IsOld : List ℕ → ℕ → Var → Type 0
IsOld used n x = In x.mark used ⊎ (x.mark ≤ n)

pub old_grows : (used : List ℕ) (m n : ℕ) (x : Var) → m ≤ n → IsOld used m x → IsOld used n x
old_grows used m n x h old = ⊎_elim (λ at. inl at) (λ low. inr (le_trans low h)) old

-- a variable that was there before has not the next mark
pub not_next : (used : List ℕ) (n : ℕ) (x y : Var) → IsOld used n x → var_eq x (marked y (next_mark used n)) ≡ false
not_next used n x y old =
    var_other x (marked y (next_mark used n)) (λ e.
    let mark : x.mark ≡ next_mark used n = ap (λ (v : Var). v.mark) e in
    ⊎_elim
    (λ at. next_new used n (subst (λ m. In m used) mark at))
    (λ low. absurd (omega (arith, mark, low, next_above used n)))
    old)

-- each variable of the formula is renamed to one that was there before
pub record AreOld (used : List ℕ) (names : Renaming) (n : ℕ) : Type 0 where
  pub each : (z : Var) → In z.mark used → IsOld used n (renamed_var names z)

-- the renamed variables have in t the values of the variables in s
pub record Follows (used : List ℕ) (names : Renaming) (s t : Env) : Type 0 where
  pub same : (z : Var) → In z.mark used → lookup t (renamed_var names z) ≡ lookup s z

pub more_old : (used : List ℕ) (names : Renaming) (m n : ℕ) → m ≤ n → AreOld used names m → AreOld used names n
more_old used names m n h old = record { each = λ z at. old_grows used m n (renamed_var names z) h (old.each z at) }

pub one_old : (used : List ℕ) (names : Renaming) (n : ℕ) (x : Var) → AreOld used names n
    → AreOld used ((x, marked x (next_mark used n)) ∷ names) (next_mark used n)
one_old used names n x old = record {
  each = λ z at.
      elim (var_eq z x) as (λ b. IsOld used (next_mark used n) (cond b (marked x (next_mark used n)) (renamed_var names z))) [
        | true ↦ inr (omega arith)
        | false ↦ old_grows used n (next_mark used n) (renamed_var names z) (let h = next_above used n in omega (arith, h)) (old.each z at)
      ];
}

pub one_follows : (used : List ℕ) (names : Renaming) (n : ℕ) (x : Var) (v : Value) (s t : Env) → AreOld used names n → Follows used names s t
    → Follows used ((x, marked x (next_mark used n)) ∷ names) ((x, v) ∷ s) ((marked x (next_mark used n), v) ∷ t)
one_follows used names n x v s t old follows = record {
  same = λ z at.
      let m : ℕ = next_mark used n in
      elim (var_eq z x) as (λ b. lookup ((marked x m, v) ∷ t) (cond b (marked x m) (renamed_var names z)) ≡ cond b v (lookup s z)) [
        | true ↦ ap (λ b. cond b v (lookup t (marked x m))) (var_itself (marked x m))
        | false ↦ ap (λ b. cond b v (lookup t (renamed_var names z))) (not_next used n (renamed_var names z) x (old.each z at)) ∙ follows.same z at
      ];
}

pub opened_old : (used : List ℕ) (vars : TypedVars) (n : ℕ) (names : Renaming) → AreOld used names n → AreOld used (opened used vars n names) (last_mark used vars n)
opened_old used [] n names old = old
opened_old used (x ∷ vars) n names old =
    opened_old used vars (next_mark used n) ((x.0, marked x.0 (next_mark used n)) ∷ names) (one_old used names n x.0 old)

pub last_mark_above : (used : List ℕ) (vars : TypedVars) (n : ℕ) → n ≤ last_mark used vars n
last_mark_above used [] n = omega arith
last_mark_above used (x ∷ vars) n =
    let h : next_mark used n ≤ last_mark used vars (next_mark used n) = last_mark_above used vars (next_mark used n) in
    omega (arith, h, next_above used n)

-- ---- the last mark never falls

all_above : (used : List ℕ) (fs : List Formula) → AllByRecursion (λ f. (names : Renaming) (n : ℕ) → n ≤ last_at used f names n) fs
    → (names : Renaming) (n : ℕ) → n ≤ last_all used fs names n
all_above used [] each names n = omega arith
all_above used (f ∷ fs) each names n = le_trans (each.0 names n) (all_above used fs each.1 names (last_at used f names n))

pub last_above : (used : List ℕ) (f : Formula) (names : Renaming) (n : ℕ) → n ≤ last_at used f names n
last_above used = induction (λ f. (names : Renaming) (n : ℕ) → n ≤ last_at used f names n) (record {
  atom = λ rel terms names n. subst (λ m. n ≤ m) (sym (last_atom used rel terms names n)) (omega arith);
  test = λ cmp left right names n. subst (λ m. n ≤ m) (sym (last_test used cmp left right names n)) (omega arith);
  both = λ fs each names n. subst (λ m. n ≤ m) (sym (last_and used fs names n)) (all_above used fs each names n);
  either = λ fs each names n. subst (λ m. n ≤ m) (sym (last_or used fs names n)) (all_above used fs each names n);
  denial = λ f at names n. subst (λ m. n ≤ m) (sym (last_not used f names n)) (at names n);
  implication = λ f g at there names n. subst (λ m. n ≤ m) (sym (last_implies used f g names n)) (le_trans (at names n) (there names (last_at used f names n)));
  some = λ vars f at names n. subst (λ m. n ≤ m) (sym (last_exists used vars f names n)) (le_trans (last_mark_above used vars n) (at (opened used vars n names) (last_mark used vars n)));
  every = λ vars f at names n. subst (λ m. n ≤ m) (sym (last_forall used vars f names n)) (le_trans (last_mark_above used vars n) (at (opened used vars n names) (last_mark used vars n)));
})

-- ---- choices of values

pub some_renamed : (dom : Domain) (used : List ℕ) (vars : TypedVars) (p q : Env → Bool) (names : Renaming) (n : ℕ) (s t : Env) → AreOld used names n → Follows used names s t
    → ((u w : Env) → Follows used (opened used vars n names) u w → q w ≡ p u) → some_choice dom (fresh used vars n) q t ≡ some_choice dom vars p s
some_renamed dom used [] p q names n s t old follows inner = inner s t follows
some_renamed dom used (x ∷ vars) p q names n s t old follows inner =
    let m : ℕ = next_mark used n in
    any_alike (λ v. some_choice dom (fresh used vars m) q ((marked x.0 m, v) ∷ t)) (λ v. some_choice dom vars p ((x.0, v) ∷ s)) (dom x.1)
    (everywhere (λ v. some_choice dom (fresh used vars m) q ((marked x.0 m, v) ∷ t) ≡ some_choice dom vars p ((x.0, v) ∷ s))
    (λ v. some_renamed dom used vars p q ((x.0, marked x.0 m) ∷ names) m ((x.0, v) ∷ s) ((marked x.0 m, v) ∷ t)
    (one_old used names n x.0 old) (one_follows used names n x.0 v s t old follows) inner)
    (dom x.1))

pub every_renamed : (dom : Domain) (used : List ℕ) (vars : TypedVars) (p q : Env → Bool) (names : Renaming) (n : ℕ) (s t : Env) → AreOld used names n → Follows used names s t
    → ((u w : Env) → Follows used (opened used vars n names) u w → q w ≡ p u) → every_choice dom (fresh used vars n) q t ≡ every_choice dom vars p s
every_renamed dom used [] p q names n s t old follows inner = inner s t follows
every_renamed dom used (x ∷ vars) p q names n s t old follows inner =
    let m : ℕ = next_mark used n in
    all_alike (λ v. every_choice dom (fresh used vars m) q ((marked x.0 m, v) ∷ t)) (λ v. every_choice dom vars p ((x.0, v) ∷ s)) (dom x.1)
    (everywhere (λ v. every_choice dom (fresh used vars m) q ((marked x.0 m, v) ∷ t) ≡ every_choice dom vars p ((x.0, v) ∷ s))
    (λ v. every_renamed dom used vars p q ((x.0, marked x.0 m) ∷ names) m ((x.0, v) ∷ s) ((marked x.0 m, v) ∷ t)
    (one_old used names n x.0 old) (one_follows used names n x.0 v s t old follows) inner)
    (dom x.1))

-- ---- terms

-- every one of these marks is one of those in use
abbrev pub MarksIn : List ℕ → List ℕ → Type 0
MarksIn used ms = (m : ℕ) → In m ms → In m used

value_renamed : (used : List ℕ) (names : Renaming) (s t : Env) (a : Term) → Follows used names s t → MarksIn used (term_marks a) → value_of t (renamed_term names a) ≡ value_of s a
value_renamed used names s t (term.Var x) follows within = follows.same x (within x.mark (inl refl))
value_renamed used names s t (term.Const v) follows within = refl

values_renamed : (used : List ℕ) (names : Renaming) (s t : Env) (terms : List Term) → Follows used names s t → MarksIn used (flat_map term_marks terms)
    → map (value_of t) (map (renamed_term names) terms) ≡ map (value_of s) terms
values_renamed used names s t [] follows within = refl
values_renamed used names s t (a ∷ terms) follows within =
    ap (λ v. v ∷ map (value_of t) (map (renamed_term names) terms)) (value_renamed used names s t a follows (λ m at. within m (append_left m (term_marks a) (flat_map term_marks terms) at)))
    ∙ ap (λ vs. value_of s a ∷ vs) (values_renamed used names s t terms follows (λ m at. within m (append_right m (term_marks a) (flat_map term_marks terms) at)))

-- ---- formulas

module _ (dom : Domain) (db : Instance) (used : List ℕ) where
  abbrev pub Renames : Formula → Type 0
  Renames f = MarksIn used (marks f) → (names : Renaming) (n : ℕ) (s t : Env) → AreOld used names n → Follows used names s t
      → holds_over dom db (renamed_at used f names n) t ≡ holds_over dom db f s

  all_renamed : (fs : List Formula) → AllByRecursion Renames fs → MarksIn used (flat_map marks fs) → (names : Renaming) (n : ℕ) (s t : Env) → AreOld used names n → Follows used names s t
      → list_all (λ f. holds_over dom db f t) (renamed_all used fs names n) ≡ list_all (λ f. holds_over dom db f s) fs
  all_renamed [] each within names n s t old follows = refl
  all_renamed (f ∷ fs) each within names n s t old follows =
      ap (λ b. b && list_all (λ g. holds_over dom db g t) (renamed_all used fs names (last_at used f names n)))
      (each.0 (λ m at. within m (append_left m (marks f) (flat_map marks fs) at)) names n s t old follows)
      ∙ ap (λ b. holds_over dom db f s && b)
      (all_renamed fs each.1 (λ m at. within m (append_right m (marks f) (flat_map marks fs) at)) names (last_at used f names n) s t
      (more_old used names n (last_at used f names n) (last_above used f names n) old) follows)

  any_renamed : (fs : List Formula) → AllByRecursion Renames fs → MarksIn used (flat_map marks fs) → (names : Renaming) (n : ℕ) (s t : Env) → AreOld used names n → Follows used names s t
      → list_any (λ f. holds_over dom db f t) (renamed_all used fs names n) ≡ list_any (λ f. holds_over dom db f s) fs
  any_renamed [] each within names n s t old follows = refl
  any_renamed (f ∷ fs) each within names n s t old follows =
      ap (λ b. b || list_any (λ g. holds_over dom db g t) (renamed_all used fs names (last_at used f names n)))
      (each.0 (λ m at. within m (append_left m (marks f) (flat_map marks fs) at)) names n s t old follows)
      ∙ ap (λ b. holds_over dom db f s || b)
      (any_renamed fs each.1 (λ m at. within m (append_right m (marks f) (flat_map marks fs) at)) names (last_at used f names n) s t
      (more_old used names n (last_at used f names n) (last_above used f names n) old) follows)

  pub renames : (f : Formula) → Renames f
  renames = induction Renames (record {
    atom = λ rel terms within names n s t old follows.
        ap (λ g. holds_over dom db g t) (renamed_atom used rel terms names n) ∙ holds_atom dom db rel (map (renamed_term names) terms) t
        ∙ ap (λ vs. list_any (λ row. row_eq row vs) (slice_index_or db rel []))
        (values_renamed used names s t terms follows (λ m at. within m (subst (In m) (sym (marks_atom rel terms)) at)))
        ∙ sym (holds_atom dom db rel terms s);
    test = λ cmp left right within names n s t old follows.
        let here : MarksIn used (term_marks left ++ term_marks right) = λ m at. within m (subst (In m) (sym (marks_test cmp left right)) at) in
        ap (λ g. holds_over dom db g t) (renamed_test used cmp left right names n) ∙ holds_test dom db cmp (renamed_term names left) (renamed_term names right) t
        ∙ ap (λ v. meets cmp (value_cmp v (value_of t (renamed_term names right)))) (value_renamed used names s t left follows (λ m at. here m (append_left m (term_marks left) (term_marks right) at)))
        ∙ ap (λ v. meets cmp (value_cmp (value_of s left) v)) (value_renamed used names s t right follows (λ m at. here m (append_right m (term_marks left) (term_marks right) at)))
        ∙ sym (holds_test dom db cmp left right s);
    both = λ fs each within names n s t old follows.
        ap (λ g. holds_over dom db g t) (renamed_and used fs names n) ∙ holds_and dom db (renamed_all used fs names n) t
        ∙ all_renamed fs each (λ m at. within m (subst (In m) (sym (marks_and fs)) at)) names n s t old follows ∙ sym (holds_and dom db fs s);
    either = λ fs each within names n s t old follows.
        ap (λ g. holds_over dom db g t) (renamed_or used fs names n) ∙ holds_or dom db (renamed_all used fs names n) t
        ∙ any_renamed fs each (λ m at. within m (subst (In m) (sym (marks_or fs)) at)) names n s t old follows ∙ sym (holds_or dom db fs s);
    denial = λ f here within names n s t old follows.
        ap (λ g. holds_over dom db g t) (renamed_not used f names n) ∙ holds_not dom db (renamed_at used f names n) t
        ∙ ap not (here (λ m at. within m (subst (In m) (sym (marks_not f)) at)) names n s t old follows) ∙ sym (holds_not dom db f s);
    implication = λ f g here there within names n s t old follows.
        let each : MarksIn used (marks f ++ marks g) = λ m at. within m (subst (In m) (sym (marks_implies f g)) at) in
        let next : ℕ = last_at used f names n in
        ap (λ h. holds_over dom db h t) (renamed_implies used f g names n) ∙ holds_implies dom db (renamed_at used f names n) (renamed_at used g names next) t
        ∙ ap (λ b. not b || holds_over dom db (renamed_at used g names next) t) (here (λ m at. each m (append_left m (marks f) (marks g) at)) names n s t old follows)
        ∙ ap (λ b. not (holds_over dom db f s) || b)
        (there (λ m at. each m (append_right m (marks f) (marks g) at)) names next s t (more_old used names n next (last_above used f names n) old) follows)
        ∙ sym (holds_implies dom db f g s);
    some = λ vars f here within names n s t old follows.
        let each : MarksIn used (marks f) = λ m at. within m (subst (In m) (sym (marks_exists vars f)) (append_right m (quantified_marks vars) (marks f) at)) in
        let inside : Renaming = opened used vars n names in
        let next : ℕ = last_mark used vars n in
        ap (λ g. holds_over dom db g t) (renamed_exists used vars f names n) ∙ holds_exists dom db (fresh used vars n) (renamed_at used f inside next) t
        ∙ some_renamed dom used vars (holds_over dom db f) (holds_over dom db (renamed_at used f inside next)) names n s t old follows
        (λ u w lower. here each inside next u w (opened_old used vars n names old) lower)
        ∙ sym (holds_exists dom db vars f s);
    every = λ vars f here within names n s t old follows.
        let each : MarksIn used (marks f) = λ m at. within m (subst (In m) (sym (marks_forall vars f)) (append_right m (quantified_marks vars) (marks f) at)) in
        let inside : Renaming = opened used vars n names in
        let next : ℕ = last_mark used vars n in
        ap (λ g. holds_over dom db g t) (renamed_forall used vars f names n) ∙ holds_forall dom db (fresh used vars n) (renamed_at used f inside next) t
        ∙ every_renamed dom used vars (holds_over dom db f) (holds_over dom db (renamed_at used f inside next)) names n s t old follows
        (λ u w lower. here each inside next u w (opened_old used vars n names old) lower)
        ∙ sym (holds_forall dom db vars f s);
  })

-- at the start no variable is renamed
pub nothing_renamed : (used : List ℕ) → AreOld used [] 0
nothing_renamed used = record { each = λ z at. inl at }

-- a formula that is renamed apart means what it meant
pub renamed_holds : (dom : Domain) (db : Instance) (f : Formula) (env : Env) → holds_over dom db (renamed f) env ≡ holds_over dom db f env
renamed_holds dom db f env =
    renames dom db (marks f) f (λ m at. at) [] 0 env env (nothing_renamed (marks f)) (record { same = λ z at. refl })
