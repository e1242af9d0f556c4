-- A formula that is renamed apart quantifies no variable that is bound or free beside the quantifier.
use Rattle.std.proofs.Common.{◌≡◌, ℕ, ◌≤◌, inr, ⊎_elim, true, not, List, [], ◌∷◌, ◌++◌, map, refl, ap, sym, ◌∙◌, subst, arith, le_trans}
use Rattle.std.specs.List.{list_any, list_all, flat_map, AllByRecursion}
use Rattle.std.proofs.lemmas.Bool.{and_from}
use Rattle.dbn_value.specs.Members.{In}
use Rattle.dbn_value.proofs.MemberLaws.{in_append, append_left, append_right, in_map, none_from}
use Rattle.dbn_value.specs.declared.term.Var.{Var}
use Rattle.dbn_formula.specs.declared.formula.Formula.{Formula}
use Rattle.dbn_formula.specs.Variables.{TypedVars, binds}
use Rattle.dbn_formula.specs.Free.{occurrences}
use Rattle.dbn_formula.specs.Safe.{is_apart}
use Rattle.dbn_formula.specs.Apart.{Renaming, marks, quantified_marks, next_mark, renamed_var, renamed_term, fresh, last_mark, opened, renamed_at, last_at, renamed_all, renamed}
use Rattle.dbn_formula.proofs.Induction.{induction}
use Rattle.dbn_formula.proofs.SafeLaws.{apart_atom, apart_test, apart_and, apart_or, apart_not, apart_implies, apart_exists, apart_forall}
use Rattle.dbn_formula.proofs.ApartLaws.{marks_and, marks_or, marks_not, marks_implies, marks_exists, marks_forall, renamed_atom, renamed_test, renamed_and, renamed_or, renamed_not, renamed_implies, renamed_exists, renamed_forall}
use Rattle.dbn_formula.proofs.RenameLaws.{IsOld, AreOld, MarksIn, old_grows, more_old, last_mark_above, opened_old, last_above, nothing_renamed}
use Rattle.dbn_formula.proofs.RenameFree.{are_marked, old_not_fresh, renames_free}

-- every variable of the list was there before, where n was the last mark that was given
pub record AllOld (used : List ℕ) (n : ℕ) (xs : List Var) : Type 0 where
  pub each : (x : Var) → In x xs → IsOld used n x

joined : (used : List ℕ) (n : ℕ) (xs ys : List Var) → AllOld used n xs → AllOld used n ys → AllOld used n (xs ++ ys)
joined used n xs ys left right = record { each = λ x at. ⊎_elim (left.each x) (right.each x) (in_append x xs ys at) }

later : (used : List ℕ) (m n : ℕ) (xs : List Var) → m ≤ n → AllOld used m xs → AllOld used n xs
later used m n xs h old = record { each = λ x at. old_grows used m n x h (old.each x at) }

-- fresh variables are old inside their quantifier
fresh_old : (used : List ℕ) (vars : TypedVars) (n : ℕ) → AllOld used (last_mark used vars n) (map (λ x. x.0) (fresh used vars n))
fresh_old used [] n = record { each = λ x at. absurd at }
fresh_old used (y ∷ vars) n =
    let m : ℕ = next_mark used n in
    record {
      each = λ x at. ⊎_elim
          (λ here. inr (subst (λ k. k ≤ last_mark used vars m) (sym (ap (λ (v : Var). v.mark) here)) (last_mark_above used vars m)))
          (λ there. (fresh_old used vars m).each x there)
          at;
    }

none_bound : (used : List ℕ) (vars : TypedVars) (n : ℕ) (bound : List Var) → AllOld used n bound → not (list_any (binds (fresh used vars n)) bound) ≡ true
none_bound used vars n bound old = ap not (none_from (binds (fresh used vars n)) bound (λ x at. old_not_fresh used vars n x (old.each x at)))

module _ (used : List ℕ) where
  -- the free variables of the renamed formula were there before
  free_old : (f : Formula) → MarksIn used (marks f) → (names : Renaming) (n : ℕ) → AreOld used names n → AllOld used n (occurrences (renamed_at used f names n))
  free_old f within names n old = record {
    each = λ x at.
        let found = in_map (renamed_var names) x (occurrences f) (subst (In x) (renames_free used f within names n old) at) in
        subst (IsOld used n) (sym found.2) (old.each found.0 (within found.0.mark (are_marked f found.0 found.1)));
  }

  all_free_old : (fs : List Formula) → MarksIn used (flat_map marks fs) → (names : Renaming) (n k : ℕ) → AreOld used names k → k ≤ n
      → AllOld used k (flat_map occurrences (renamed_all used fs names n))
  all_free_old [] within names n k old h = record { each = λ x at. absurd at }
  all_free_old (f ∷ fs) within names n k old h =
      joined used k (occurrences (renamed_at used f names n)) (flat_map occurrences (renamed_all used fs names (last_at used f names n)))
      (record {
        each = λ x at.
            let within_f : MarksIn used (marks f) = λ m here. within m (append_left m (marks f) (flat_map marks fs) here) in
            let found = in_map (renamed_var names) x (occurrences f) (subst (In x) (renames_free used f within_f names n (more_old used names k n h old)) at) in
            subst (IsOld used k) (sym found.2) (old.each found.0 (within_f found.0.mark (are_marked f found.0 found.1)));
      })
      (all_free_old fs (λ m at. within m (append_right m (marks f) (flat_map marks fs) at)) names (last_at used f names n) k old (le_trans h (last_above used f names n)))

  abbrev IsApart : Formula → Type 0
  IsApart f = MarksIn used (marks f) → (names : Renaming) (n : ℕ) (bound : List Var) → AreOld used names n → AllOld used n bound → is_apart (renamed_at used f names n) bound ≡ true

  all_apart : (fs : List Formula) → AllByRecursion IsApart fs → MarksIn used (flat_map marks fs) → (names : Renaming) (n : ℕ) (bound : List Var) → AreOld used names n → AllOld used n bound
      → list_all (λ f. is_apart f bound) (renamed_all used fs names n) ≡ true
  all_apart [] each within names n bound old known = refl
  all_apart (f ∷ fs) each within names n bound old known =
      let next : ℕ = last_at used f names n in
      let h : n ≤ next = last_above used f names n in
      and_from (is_apart (renamed_at used f names n) bound) (list_all (λ g. is_apart g bound) (renamed_all used fs names next))
      (each.0 (λ m at. within m (append_left m (marks f) (flat_map marks fs) at)) names n bound old known)
      (all_apart fs each.1 (λ m at. within m (append_right m (marks f) (flat_map marks fs) at)) names next bound (more_old used names n next h old) (later used n next bound h known))

  pub comes_apart : (f : Formula) → IsApart f
  comes_apart = induction IsApart (record {
    atom = λ rel terms within names n bound old known. ap (λ g. is_apart g bound) (renamed_atom used rel terms names n) ∙ apart_atom rel (map (renamed_term names) terms) bound;
    test = λ cmp left right within names n bound old known. ap (λ g. is_apart g bound) (renamed_test used cmp left right names n) ∙ apart_test cmp (renamed_term names left) (renamed_term names right) bound;
    both = λ fs each within names n bound old known.
        let here : MarksIn used (flat_map marks fs) = λ m at. within m (subst (In m) (sym (marks_and fs)) at) in
        let parts : List Formula = renamed_all used fs names n in
        ap (λ g. is_apart g bound) (renamed_and used fs names n) ∙ apart_and parts bound
        ∙ all_apart fs each here names n (bound ++ flat_map occurrences parts) old
        (joined used n bound (flat_map occurrences parts) known (all_free_old fs here names n n old (omega arith)));
    either = λ fs each within names n bound old known.
        let here : MarksIn used (flat_map marks fs) = λ m at. within m (subst (In m) (sym (marks_or fs)) at) in
        let parts : List Formula = renamed_all used fs names n in
        ap (λ g. is_apart g bound) (renamed_or used fs names n) ∙ apart_or parts bound
        ∙ all_apart fs each here names n (bound ++ flat_map occurrences parts) old
        (joined used n bound (flat_map occurrences parts) known (all_free_old fs here names n n old (omega arith)));
    denial = λ f here within names n bound old known.
        ap (λ g. is_apart g bound) (renamed_not used f names n) ∙ apart_not (renamed_at used f names n) bound
        ∙ here (λ m at. within m (subst (In m) (sym (marks_not f)) at)) names n bound old known;
    implication = λ f g here there within names n bound old known.
        let each : MarksIn used (marks f ++ marks g) = λ m at. within m (subst (In m) (sym (marks_implies f g)) at) in
        let each_f : MarksIn used (marks f) = λ m at. each m (append_left m (marks f) (marks g) at) in
        let each_g : MarksIn used (marks g) = λ m at. each m (append_right m (marks f) (marks g) at) in
        let next : ℕ = last_at used f names n in
        let h : n ≤ next = last_above used f names n in
        let left : Formula = renamed_at used f names n in
        let right : Formula = renamed_at used g names next in
        let g_old : AllOld used n (occurrences right) = record {
          each = λ x at.
              let found = in_map (renamed_var names) x (occurrences g) (subst (In x) (renames_free used g each_g names next (more_old used names n next h old)) at) in
              subst (IsOld used n) (sym found.2) (old.each found.0 (each_g found.0.mark (are_marked g found.0 found.1)));
        } in
        ap (λ k. is_apart k bound) (renamed_implies used f g names n) ∙ apart_implies left right bound
        ∙ and_from (is_apart left (bound ++ occurrences right)) (is_apart right (bound ++ occurrences left))
        (here each_f names n (bound ++ occurrences right) old (joined used n bound (occurrences right) known g_old))
        (there each_g names next (bound ++ occurrences left) (more_old used names n next h old)
        (later used n next (bound ++ occurrences left) h (joined used n bound (occurrences left) known (free_old f each_f names n old))));
    some = λ vars f here within names n bound old known.
        let each : MarksIn used (marks f) = λ m at. within m (subst (In m) (sym (marks_exists vars f)) (append_right m (quantified_marks vars) (marks f) at)) in
        let inside : Renaming = opened used vars n names in
        let next : ℕ = last_mark used vars n in
        let names_in : List Var = map (λ x. x.0) (fresh used vars n) in
        ap (λ g. is_apart g bound) (renamed_exists used vars f names n) ∙ apart_exists (fresh used vars n) (renamed_at used f inside next) bound
        ∙ and_from (not (list_any (binds (fresh used vars n)) bound)) (is_apart (renamed_at used f inside next) (bound ++ names_in))
        (none_bound used vars n bound known)
        (here each inside next (bound ++ names_in) (opened_old used vars n names old)
        (joined used next bound names_in (later used n next bound (last_mark_above used vars n) known) (fresh_old used vars n)));
    every = λ vars f here within names n bound old known.
        let each : MarksIn used (marks f) = λ m at. within m (subst (In m) (sym (marks_forall vars f)) (append_right m (quantified_marks vars) (marks f) at)) in
        let inside : Renaming = opened used vars n names in
        let next : ℕ = last_mark used vars n in
        let names_in : List Var = map (λ x. x.0) (fresh used vars n) in
        ap (λ g. is_apart g bound) (renamed_forall used vars f names n) ∙ apart_forall (fresh used vars n) (renamed_at used f inside next) bound
        ∙ and_from (not (list_any (binds (fresh used vars n)) bound)) (is_apart (renamed_at used f inside next) (bound ++ names_in))
        (none_bound used vars n bound known)
        (here each inside next (bound ++ names_in) (opened_old used vars n names old)
        (joined used next bound names_in (later used n next bound (last_mark_above used vars n) known) (fresh_old used vars n)));
  })

-- nothing is bound outside the whole formula
pub renamed_apart : (f : Formula) → is_apart (renamed f) [] ≡ true
renamed_apart f = comes_apart (marks f) f (λ m at. at) [] 0 [] (nothing_renamed (marks f)) (record { each = λ x at. absurd at })
