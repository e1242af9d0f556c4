-- Renaming apart renames the free variables, those of the whole formula to themselves, and keeps the constants.
use Rattle.std.proofs.Common.{◌≡◌, ℕ, ◌≤◌, inl, inr, ⊎_elim, Bool, true, false, cond, not, ◌||◌, List, [], ◌∷◌, ◌++◌, map, map-id, refl, ap, sym, ◌∙◌, subst, arith}
use Rattle.std.specs.List.{flat_map, AllByRecursion}
use Rattle.std.proofs.lemmas.List.{map-append}
use Rattle.std.proofs.lemmas.Bool.{or_left, or_right, or_parts}
use Rattle.dbn_value.specs.Members.{In}
use Rattle.dbn_value.proofs.MemberLaws.{in_append, append_left, append_right, in_filter}
use Rattle.dbn_value.specs.declared.term.Var.{Var}
use Rattle.dbn_value.specs.declared.term.Term.{Term}
use Rattle.dbn_value.specs.declared.term.Term.TheVariants as term
use Rattle.dbn_formula.specs.declared.formula.Formula.{Formula}
use Rattle.dbn_formula.specs.Variables.{TypedVars, var_eq, binds, firsts}
use Rattle.dbn_formula.specs.Free.{variable_of, unhidden, occurrences, free}
use Rattle.dbn_formula.specs.Answers.{constant_of, constants}
use Rattle.dbn_formula.specs.Apart.{Renaming, marks, term_marks, quantified_marks, next_mark, renamed_var, renamed_term, marked, fresh, last_mark, opened, renamed_at, last_at, renamed_all, renamed}
use Rattle.dbn_formula.proofs.Induction.{induction}
use Rattle.dbn_formula.proofs.FreeLaws.{occurrences_atom, occurrences_test, occurrences_and, occurrences_or, occurrences_not, occurrences_implies, occurrences_exists, occurrences_forall}
use Rattle.dbn_formula.proofs.ConstantsLaws.{constants_atom, constants_test, constants_and, constants_or, constants_not, constants_implies, constants_exists, constants_forall}
use Rattle.dbn_formula.proofs.ApartLaws.{marks_atom, marks_test, marks_and, marks_or, marks_not, marks_implies, marks_exists, marks_forall, renamed_atom, renamed_test, renamed_and, renamed_or, renamed_not, renamed_implies, renamed_exists, renamed_forall}
use Rattle.dbn_formula.proofs.VariableLaws.{var_itself}
use Rattle.dbn_formula.proofs.RenameLaws.{IsOld, AreOld, MarksIn, old_grows, more_old, not_next, next_above, opened_old, last_above, nothing_renamed}

-- ---- the marks of variables that occur

marks_of : List Var → List ℕ
marks_of xs = map (λ x. x.mark) xs

term_marked : (a : Term) (x : Var) → In x (variable_of a) → In x.mark (term_marks a)
term_marked (term.Var y) x at = ⊎_elim (λ here. inl (ap (λ (v : Var). v.mark) here)) (λ there. absurd there) at
term_marked (term.Const v) x at = absurd at

terms_marked : (terms : List Term) (x : Var) → In x (flat_map variable_of terms) → In x.mark (flat_map term_marks terms)
terms_marked [] x at = at
terms_marked (a ∷ terms) x at =
    ⊎_elim
    (λ here. append_left x.mark (term_marks a) (flat_map term_marks terms) (term_marked a x here))
    (λ there. append_right x.mark (term_marks a) (flat_map term_marks terms) (terms_marked terms x there))
    (in_append x (variable_of a) (flat_map variable_of terms) at)

abbrev pub AreMarked : Formula → Type 0
AreMarked f = (x : Var) → In x (occurrences f) → In x.mark (marks f)

all_marked : (fs : List Formula) → AllByRecursion AreMarked fs → (x : Var) → In x (flat_map occurrences fs) → In x.mark (flat_map marks fs)
all_marked [] each x at = at
all_marked (f ∷ fs) each x at =
    ⊎_elim
    (λ here. append_left x.mark (marks f) (flat_map marks fs) (each.0 x here))
    (λ there. append_right x.mark (marks f) (flat_map marks fs) (all_marked fs each.1 x there))
    (in_append x (occurrences f) (flat_map occurrences fs) at)

both_marked : (xs ys : List Var) (ms ns : List ℕ) (x : Var) → (In x xs → In x.mark ms) → (In x ys → In x.mark ns) → In x (xs ++ ys) → In x.mark (ms ++ ns)
both_marked xs ys ms ns x left right at =
    ⊎_elim (λ here. append_left x.mark ms ns (left here)) (λ there. append_right x.mark ms ns (right there)) (in_append x xs ys at)

-- the mark of a free variable is one of the formula's
pub are_marked : (f : Formula) → AreMarked f
are_marked = induction AreMarked (record {
  atom = λ rel terms x at. subst (In x.mark) (sym (marks_atom rel terms)) (terms_marked terms x (subst (In x) (occurrences_atom rel terms) at));
  test = λ cmp left right x at. subst (In x.mark) (sym (marks_test cmp left right))
      (both_marked (variable_of left) (variable_of right) (term_marks left) (term_marks right) x (term_marked left x) (term_marked right x) (subst (In x) (occurrences_test cmp left right) at));
  both = λ fs each x at. subst (In x.mark) (sym (marks_and fs)) (all_marked fs each x (subst (In x) (occurrences_and fs) at));
  either = λ fs each x at. subst (In x.mark) (sym (marks_or fs)) (all_marked fs each x (subst (In x) (occurrences_or fs) at));
  denial = λ f here x at. subst (In x.mark) (sym (marks_not f)) (here x (subst (In x) (occurrences_not f) at));
  implication = λ f g here there x at. subst (In x.mark) (sym (marks_implies f g))
      (both_marked (occurrences f) (occurrences g) (marks f) (marks g) x (here x) (there x) (subst (In x) (occurrences_implies f g) at));
  some = λ vars f here x at. subst (In x.mark) (sym (marks_exists vars f))
      (append_right x.mark (quantified_marks vars) (marks f) (here x (in_filter (λ y. not (binds vars y)) x (occurrences f) (subst (In x) (occurrences_exists vars f) at)).0));
  every = λ vars f here x at. subst (In x.mark) (sym (marks_forall vars f))
      (append_right x.mark (quantified_marks vars) (marks f) (here x (in_filter (λ y. not (binds vars y)) x (occurrences f) (subst (In x) (occurrences_forall vars f) at)).0));
})

-- ---- quantified variables

-- a variable that isn't quantified is renamed as outside
pub outer_name : (used : List ℕ) (vars : TypedVars) (n : ℕ) (names : Renaming) (x : Var) → binds vars x ≡ false
    → renamed_var (opened used vars n names) x ≡ renamed_var names x
outer_name used [] n names x e = refl
outer_name used (y ∷ vars) n names x e =
    let m : ℕ = next_mark used n in
    let parts = or_parts (var_eq x y.0) (binds vars x) e in
    outer_name used vars m ((y.0, marked y.0 m) ∷ names) x parts.1 ∙ ap (λ b. cond b (marked y.0 m) (renamed_var names x)) parts.0

-- a quantified one gets a fresh name
pub inner_name : (used : List ℕ) (vars : TypedVars) (n : ℕ) (names : Renaming) (x : Var) → binds vars x ≡ true
    → binds (fresh used vars n) (renamed_var (opened used vars n names) x) ≡ true
inner_name used [] n names x e = e
inner_name used (y ∷ vars) n names x e =
    let m : ℕ = next_mark used n in
    let inside : Var = renamed_var (opened used vars m ((y.0, marked y.0 m) ∷ names)) x in
    elim (binds vars x) as (λ b. binds vars x ≡ b → var_eq inside (marked y.0 m) || binds (fresh used vars m) inside ≡ true) [
      | true ↦ λ there. or_right (var_eq inside (marked y.0 m)) (binds (fresh used vars m) inside) (inner_name used vars m ((y.0, marked y.0 m) ∷ names) x there)
      | false ↦ λ there.
          let here : var_eq x y.0 ≡ true = first_of_two (var_eq x y.0) (binds vars x) e there in
          let is : inside ≡ marked y.0 m =
          outer_name used vars m ((y.0, marked y.0 m) ∷ names) x there ∙ ap (λ b. cond b (marked y.0 m) (renamed_var names x)) here in
          or_left (var_eq inside (marked y.0 m)) (binds (fresh used vars m) inside) (subst (λ v. var_eq v (marked y.0 m) ≡ true) (sym is) (var_itself (marked y.0 m)))
    ] refl
  where
    first_of_two : (a b : Bool) → a || b ≡ true → b ≡ false → a ≡ true
    first_of_two true b p q = refl
    first_of_two false b p q = sym q ∙ p

-- a variable that was there before is none of the fresh ones
pub old_not_fresh : (used : List ℕ) (vars : TypedVars) (n : ℕ) (x : Var) → IsOld used n x → binds (fresh used vars n) x ≡ false
old_not_fresh used [] n x old = refl
old_not_fresh used (y ∷ vars) n x old =
    let m : ℕ = next_mark used n in
    let below : n ≤ m = let h = next_above used n in omega (arith, h) in
    ap (λ b. b || binds (fresh used vars m) x) (not_next used n x y.0 old) ∙ old_not_fresh used vars m x (old_grows used n m x below old)

hidden_renamed : (used : List ℕ) (vars : TypedVars) (n : ℕ) (names : Renaming) (xs : List Var) → AreOld used names n → ((x : Var) → In x xs → In x.mark used)
    → unhidden (fresh used vars n) (map (renamed_var (opened used vars n names)) xs) ≡ map (renamed_var names) (unhidden vars xs)
hidden_renamed used vars n names [] old within = refl
hidden_renamed used vars n names (x ∷ xs) old within =
    let inside : Var = renamed_var (opened used vars n names) x in
    let rest : List Var = unhidden (fresh used vars n) (map (renamed_var (opened used vars n names)) xs) in
    let rest_is : rest ≡ map (renamed_var names) (unhidden vars xs) = hidden_renamed used vars n names xs old (λ y at. within y (inr at)) in
    elim (binds vars x) as (λ b. binds vars x ≡ b → cond (not (binds (fresh used vars n) inside)) (inside ∷ rest) rest ≡ map (renamed_var names) (cond (not b) (x ∷ unhidden vars xs) (unhidden vars xs))) [
      | true ↦ λ e. ap (λ b. cond (not b) (inside ∷ rest) rest) (inner_name used vars n names x e) ∙ rest_is
      | false ↦ λ e.
          let is : inside ≡ renamed_var names x = outer_name used vars n names x e in
          let apart : binds (fresh used vars n) inside ≡ false =
          ap (binds (fresh used vars n)) is ∙ old_not_fresh used vars n (renamed_var names x) (old.each x (within x (inl refl))) in
          ap (λ b. cond (not b) (inside ∷ rest) rest) apart ∙ ap (λ y. y ∷ rest) is ∙ ap (λ ys. renamed_var names x ∷ ys) rest_is
    ] refl

-- ---- formulas

term_renamed : (names : Renaming) (a : Term) → variable_of (renamed_term names a) ≡ map (renamed_var names) (variable_of a)
term_renamed names (term.Var x) = refl
term_renamed names (term.Const v) = refl

terms_renamed : (names : Renaming) (terms : List Term) → flat_map variable_of (map (renamed_term names) terms) ≡ map (renamed_var names) (flat_map variable_of terms)
terms_renamed names [] = refl
terms_renamed names (a ∷ terms) =
    ap (λ l. l ++ flat_map variable_of (map (renamed_term names) terms)) (term_renamed names a)
    ∙ ap (λ l. map (renamed_var names) (variable_of a) ++ l) (terms_renamed names terms)
    ∙ sym (map-append (renamed_var names) (variable_of a) (flat_map variable_of terms))

module _ (used : List ℕ) where
  abbrev pub RenamesFree : Formula → Type 0
  RenamesFree f = MarksIn used (marks f) → (names : Renaming) (n : ℕ) → AreOld used names n → occurrences (renamed_at used f names n) ≡ map (renamed_var names) (occurrences f)

  all_free : (fs : List Formula) → AllByRecursion RenamesFree fs → MarksIn used (flat_map marks fs) → (names : Renaming) (n : ℕ) → AreOld used names n
      → flat_map occurrences (renamed_all used fs names n) ≡ map (renamed_var names) (flat_map occurrences fs)
  all_free [] each within names n old = refl
  all_free (f ∷ fs) each within names n old =
      ap (λ l. l ++ flat_map occurrences (renamed_all used fs names (last_at used f names n))) (each.0 (λ m at. within m (append_left m (marks f) (flat_map marks fs) at)) names n old)
      ∙ ap (λ l. map (renamed_var names) (occurrences f) ++ l)
      (all_free fs each.1 (λ m at. within m (append_right m (marks f) (flat_map marks fs) at)) names (last_at used f names n) (more_old used names n (last_at used f names n) (last_above used f names n) old))
      ∙ sym (map-append (renamed_var names) (occurrences f) (flat_map occurrences fs))

  pub renames_free : (f : Formula) → RenamesFree f
  renames_free = induction RenamesFree (record {
    atom = λ rel terms within names n old.
        ap occurrences (renamed_atom used rel terms names n) ∙ occurrences_atom rel (map (renamed_term names) terms) ∙ terms_renamed names terms
        ∙ ap (map (renamed_var names)) (sym (occurrences_atom rel terms));
    test = λ cmp left right within names n old.
        ap occurrences (renamed_test used cmp left right names n) ∙ occurrences_test cmp (renamed_term names left) (renamed_term names right)
        ∙ ap (λ l. l ++ variable_of (renamed_term names right)) (term_renamed names left)
        ∙ ap (λ l. map (renamed_var names) (variable_of left) ++ l) (term_renamed names right)
        ∙ sym (map-append (renamed_var names) (variable_of left) (variable_of right))
        ∙ ap (map (renamed_var names)) (sym (occurrences_test cmp left right));
    both = λ fs each within names n old.
        ap occurrences (renamed_and used fs names n) ∙ occurrences_and (renamed_all used fs names n)
        ∙ all_free fs each (λ m at. within m (subst (In m) (sym (marks_and fs)) at)) names n old ∙ ap (map (renamed_var names)) (sym (occurrences_and fs));
    either = λ fs each within names n old.
        ap occurrences (renamed_or used fs names n) ∙ occurrences_or (renamed_all used fs names n)
        ∙ all_free fs each (λ m at. within m (subst (In m) (sym (marks_or fs)) at)) names n old ∙ ap (map (renamed_var names)) (sym (occurrences_or fs));
    denial = λ f here within names n old.
        ap occurrences (renamed_not used f names n) ∙ occurrences_not (renamed_at used f names n)
        ∙ here (λ m at. within m (subst (In m) (sym (marks_not f)) at)) names n old ∙ ap (map (renamed_var names)) (sym (occurrences_not f));
    implication = λ f g here there within names n old.
        let each : MarksIn used (marks f ++ marks g) = λ m at. within m (subst (In m) (sym (marks_implies f g)) at) in
        let next : ℕ = last_at used f names n in
        ap occurrences (renamed_implies used f g names n) ∙ occurrences_implies (renamed_at used f names n) (renamed_at used g names next)
        ∙ ap (λ l. l ++ occurrences (renamed_at used g names next)) (here (λ m at. each m (append_left m (marks f) (marks g) at)) names n old)
        ∙ ap (λ l. map (renamed_var names) (occurrences f) ++ l)
        (there (λ m at. each m (append_right m (marks f) (marks g) at)) names next (more_old used names n next (last_above used f names n) old))
        ∙ sym (map-append (renamed_var names) (occurrences f) (occurrences g)) ∙ ap (map (renamed_var names)) (sym (occurrences_implies f g));
    some = λ vars f here within names n old.
        let each : MarksIn used (marks f) = λ m at. within m (subst (In m) (sym (marks_exists vars f)) (append_right m (quantified_marks vars) (marks f) at)) in
        let inside : Renaming = opened used vars n names in
        let next : ℕ = last_mark used vars n in
        ap occurrences (renamed_exists used vars f names n) ∙ occurrences_exists (fresh used vars n) (renamed_at used f inside next)
        ∙ ap (unhidden (fresh used vars n)) (here each inside next (opened_old used vars n names old))
        ∙ hidden_renamed used vars n names (occurrences f) old (λ x at. each x.mark (are_marked f x at)) ∙ ap (map (renamed_var names)) (sym (occurrences_exists vars f));
    every = λ vars f here within names n old.
        let each : MarksIn used (marks f) = λ m at. within m (subst (In m) (sym (marks_forall vars f)) (append_right m (quantified_marks vars) (marks f) at)) in
        let inside : Renaming = opened used vars n names in
        let next : ℕ = last_mark used vars n in
        ap occurrences (renamed_forall used vars f names n) ∙ occurrences_forall (fresh used vars n) (renamed_at used f inside next)
        ∙ ap (unhidden (fresh used vars n)) (here each inside next (opened_old used vars n names old))
        ∙ hidden_renamed used vars n names (occurrences f) old (λ x at. each x.mark (are_marked f x at)) ∙ ap (map (renamed_var names)) (sym (occurrences_forall vars f));
  })

-- a formula that is renamed apart has the same free variables, in the same order
pub renamed_occurrences : (f : Formula) → occurrences (renamed f) ≡ occurrences f
renamed_occurrences f = renames_free (marks f) f (λ m at. at) [] 0 (nothing_renamed (marks f)) ∙ map-id (occurrences f)

pub renamed_free : (f : Formula) → free (renamed f) ≡ free f
renamed_free f = ap firsts (renamed_occurrences f)

-- ---- constants

terms_constants : (names : Renaming) (terms : List Term) → flat_map constant_of (map (renamed_term names) terms) ≡ flat_map constant_of terms
terms_constants names [] = refl
terms_constants names (term.Var x ∷ terms) = terms_constants names terms
terms_constants names (term.Const v ∷ terms) = ap (λ l. v ∷ l) (terms_constants names terms)

term_constants : (names : Renaming) (a : Term) → constant_of (renamed_term names a) ≡ constant_of a
term_constants names (term.Var x) = refl
term_constants names (term.Const v) = refl

module _ (used : List ℕ) where
  abbrev KeepsConstants : Formula → Type 0
  KeepsConstants f = (names : Renaming) (n : ℕ) → constants (renamed_at used f names n) ≡ constants f

  all_constants : (fs : List Formula) → AllByRecursion KeepsConstants fs → (names : Renaming) (n : ℕ) → flat_map constants (renamed_all used fs names n) ≡ flat_map constants fs
  all_constants [] each names n = refl
  all_constants (f ∷ fs) each names n =
      ap (λ l. l ++ flat_map constants (renamed_all used fs names (last_at used f names n))) (each.0 names n)
      ∙ ap (λ l. constants f ++ l) (all_constants fs each.1 names (last_at used f names n))

  keeps_constants : (f : Formula) → KeepsConstants f
  keeps_constants = induction KeepsConstants (record {
    atom = λ rel terms names n. ap constants (renamed_atom used rel terms names n) ∙ constants_atom rel (map (renamed_term names) terms) ∙ terms_constants names terms ∙ sym (constants_atom rel terms);
    test = λ cmp left right names n. ap constants (renamed_test used cmp left right names n) ∙ constants_test cmp (renamed_term names left) (renamed_term names right)
        ∙ ap (λ l. l ++ constant_of (renamed_term names right)) (term_constants names left) ∙ ap (λ l. constant_of left ++ l) (term_constants names right) ∙ sym (constants_test cmp left right);
    both = λ fs each names n. ap constants (renamed_and used fs names n) ∙ constants_and (renamed_all used fs names n) ∙ all_constants fs each names n ∙ sym (constants_and fs);
    either = λ fs each names n. ap constants (renamed_or used fs names n) ∙ constants_or (renamed_all used fs names n) ∙ all_constants fs each names n ∙ sym (constants_or fs);
    denial = λ f here names n. ap constants (renamed_not used f names n) ∙ constants_not (renamed_at used f names n) ∙ here names n ∙ sym (constants_not f);
    implication = λ f g here there names n. let next : ℕ = last_at used f names n in
        ap constants (renamed_implies used f g names n) ∙ constants_implies (renamed_at used f names n) (renamed_at used g names next)
        ∙ ap (λ l. l ++ constants (renamed_at used g names next)) (here names n) ∙ ap (λ l. constants f ++ l) (there names next) ∙ sym (constants_implies f g);
    some = λ vars f here names n. ap constants (renamed_exists used vars f names n) ∙ constants_exists (fresh used vars n) (renamed_at used f (opened used vars n names) (last_mark used vars n))
        ∙ here (opened used vars n names) (last_mark used vars n) ∙ sym (constants_exists vars f);
    every = λ vars f here names n. ap constants (renamed_forall used vars f names n) ∙ constants_forall (fresh used vars n) (renamed_at used f (opened used vars n names) (last_mark used vars n))
        ∙ here (opened used vars n names) (last_mark used vars n) ∙ sym (constants_forall vars f);
  })

pub renamed_constants : (f : Formula) → constants (renamed f) ≡ constants f
renamed_constants f = keeps_constants (marks f) f [] 0
