-- The normal form and renaming apart keep a formula well typed.
use Rattle.std.proofs.Common.{◌≡◌, ℕ, inl, Bool, true, false, cond, ◌&&◌, List, [], ◌∷◌, ◌++◌, map, refl, ap, sym, ◌∙◌, subst, Option, Some}
use Rattle.std.specs.Prelude.{slice_index_or}
use Rattle.std.specs.List.{list_all, flat_map, AllByRecursion}
use Rattle.std.proofs.lemmas.List.Folds.{list_all-map}
use Rattle.dbn_value.specs.Members.{In}
use Rattle.dbn_value.proofs.MemberLaws.{append_left, append_right}
use Rattle.dbn_value.specs.declared.value.ColType.{ColType}
use Rattle.dbn_value.specs.declared.term.Var.{Var}
use Rattle.dbn_value.specs.declared.term.Term.{Term}
use Rattle.dbn_value.specs.declared.term.Term.TheVariants as term
use Rattle.dbn_value.specs.declared.term.Cmp.{Cmp}
use Rattle.dbn_value.specs.declared.term.Cmp.TheVariants as cmp
use Rattle.dbn_formula.specs.Variables.{TypedVars, var_eq}
use Rattle.dbn_formula.specs.Typing.{Shapes, entered, type_in, term_type, agree, terms_fit, sides_fit, types_fit}
use Rattle.dbn_formula.specs.Normal.{denied_cmp, normal_at}
use Rattle.dbn_formula.specs.Apart.{Renaming, marks, term_marks, quantified_marks, next_mark, renamed_var, renamed_term, marked, fresh, last_mark, opened, renamed_at, last_at, renamed_all, renamed}
use Rattle.dbn_formula.specs.declared.formula.Formula.{Formula}
use Rattle.dbn_formula.specs.declared.formula.Formula.TheVariants.{Atom, Test, And, Or, Not, Implies, Exists, Forall}
use Rattle.dbn_formula.proofs.Induction.{induction}
use Rattle.dbn_formula.proofs.Truth.{all_alike, each_of}
use Rattle.dbn_formula.proofs.VariableLaws.{var_itself}
use Rattle.dbn_formula.proofs.TypingLaws.{types_atom, types_test, types_and, types_or, types_not, types_implies, types_exists, types_forall}
use Rattle.dbn_formula.proofs.NormalLaws.{kept_atom, kept_test, kept_and, kept_or, kept_not, kept_implies, kept_exists, kept_forall, denied_atom, denied_test, denied_and, denied_or, denied_not, denied_implies, denied_exists, denied_forall}
use Rattle.dbn_formula.proofs.ApartLaws.{marks_atom, marks_test, marks_and, marks_or, marks_not, marks_implies, marks_exists, marks_forall, renamed_atom, renamed_test, renamed_and, renamed_or, renamed_not, renamed_implies, renamed_exists, renamed_forall}
use Rattle.dbn_formula.proofs.RenameLaws.{AreOld, MarksIn, more_old, not_next, one_old, opened_old, last_above, nothing_renamed}

-- ---- the normal form

sides_denied : (c : Cmp) (a b : Option ColType) → sides_fit (denied_cmp c) a b ≡ sides_fit c a b
sides_denied cmp.Eq a b = refl
sides_denied cmp.Ne a b = refl
sides_denied cmp.Lt a b = refl
sides_denied cmp.Le a b = refl
sides_denied cmp.Gt a b = refl
sides_denied cmp.Ge a b = refl

and_true : (b : Bool) → (b && true) ≡ b
and_true true = refl
and_true false = refl

module _ (rels : Shapes) where
  abbrev KeptNormal : Formula → Type 0
  KeptNormal f = (keep : Bool) (scope : TypedVars) → types_fit rels (normal_at f keep) scope ≡ types_fit rels f scope

  parts : (fs : List Formula) → AllByRecursion KeptNormal fs → (keep : Bool) (scope : TypedVars)
      → list_all (λ g. types_fit rels g scope) (map (λ f. normal_at f keep) fs) ≡ list_all (λ g. types_fit rels g scope) fs
  parts fs each keep scope =
      list_all-map (λ g. types_fit rels g scope) (λ f. normal_at f keep) fs
      ∙ all_alike (λ f. types_fit rels (normal_at f keep) scope) (λ f. types_fit rels f scope) fs (each_of (λ f known. known keep scope) fs each)

  at_test : (c : Cmp) (left right : Term) → KeptNormal (Test c left right)
  at_test c left right true scope = ap (λ g. types_fit rels g scope) (kept_test c left right)
  at_test c left right false scope =
      ap (λ g. types_fit rels g scope) (denied_test c left right) ∙ types_test rels (denied_cmp c) left right scope
      ∙ sides_denied c (term_type scope left) (term_type scope right) ∙ sym (types_test rels c left right scope)

  at_atom : (rel : ℕ) (terms : List Term) → KeptNormal (Atom rel terms)
  at_atom rel terms true scope = ap (λ g. types_fit rels g scope) (kept_atom rel terms)
  at_atom rel terms false scope = ap (λ g. types_fit rels g scope) (denied_atom rel terms) ∙ types_not rels (Atom rel terms) scope

  at_both : (fs : List Formula) → AllByRecursion KeptNormal fs → KeptNormal (And fs)
  at_both fs each true scope =
      ap (λ g. types_fit rels g scope) (kept_and fs) ∙ types_and rels (map (λ f. normal_at f true) fs) scope ∙ parts fs each true scope ∙ sym (types_and rels fs scope)
  at_both fs each false scope =
      ap (λ g. types_fit rels g scope) (denied_and fs) ∙ types_or rels (map (λ f. normal_at f false) fs) scope ∙ parts fs each false scope ∙ sym (types_and rels fs scope)

  at_either : (fs : List Formula) → AllByRecursion KeptNormal fs → KeptNormal (Or fs)
  at_either fs each true scope =
      ap (λ g. types_fit rels g scope) (kept_or fs) ∙ types_or rels (map (λ f. normal_at f true) fs) scope ∙ parts fs each true scope ∙ sym (types_or rels fs scope)
  at_either fs each false scope =
      ap (λ g. types_fit rels g scope) (denied_or fs) ∙ types_and rels (map (λ f. normal_at f false) fs) scope ∙ parts fs each false scope ∙ sym (types_or rels fs scope)

  at_denial : (f : Formula) → KeptNormal f → KeptNormal (Not f)
  at_denial f known true scope = ap (λ g. types_fit rels g scope) (kept_not f) ∙ known false scope ∙ sym (types_not rels f scope)
  at_denial f known false scope = ap (λ g. types_fit rels g scope) (denied_not f) ∙ known true scope ∙ sym (types_not rels f scope)

  two : (f g h k : Formula) (scope : TypedVars) → types_fit rels h scope ≡ types_fit rels f scope → types_fit rels k scope ≡ types_fit rels g scope
      → list_all (λ p. types_fit rels p scope) (h ∷ k ∷ []) ≡ (types_fit rels f scope && types_fit rels g scope)
  two f g h k scope p q =
      ap (λ b. b && (types_fit rels k scope && true)) p ∙ ap (λ b. types_fit rels f scope && b) (and_true (types_fit rels k scope) ∙ q)

  at_implication : (f g : Formula) → KeptNormal f → KeptNormal g → KeptNormal (Implies f g)
  at_implication f g known there true scope =
      ap (λ h. types_fit rels h scope) (kept_implies f g) ∙ types_or rels (normal_at f false ∷ normal_at g true ∷ []) scope
      ∙ two f g (normal_at f false) (normal_at g true) scope (known false scope) (there true scope) ∙ sym (types_implies rels f g scope)
  at_implication f g known there false scope =
      ap (λ h. types_fit rels h scope) (denied_implies f g) ∙ types_and rels (normal_at f true ∷ normal_at g false ∷ []) scope
      ∙ two f g (normal_at f true) (normal_at g false) scope (known true scope) (there false scope) ∙ sym (types_implies rels f g scope)

  at_some : (vars : TypedVars) (f : Formula) → KeptNormal f → KeptNormal (Exists vars f)
  at_some vars f known true scope =
      ap (λ g. types_fit rels g scope) (kept_exists vars f) ∙ types_exists rels vars (normal_at f true) scope ∙ known true (entered vars scope) ∙ sym (types_exists rels vars f scope)
  at_some vars f known false scope =
      ap (λ g. types_fit rels g scope) (denied_exists vars f) ∙ types_not rels (Exists vars (normal_at f true)) scope ∙ types_exists rels vars (normal_at f true) scope
      ∙ known true (entered vars scope) ∙ sym (types_exists rels vars f scope)

  at_every : (vars : TypedVars) (f : Formula) → KeptNormal f → KeptNormal (Forall vars f)
  at_every vars f known true scope =
      ap (λ g. types_fit rels g scope) (kept_forall vars f) ∙ types_not rels (Exists vars (normal_at f false)) scope ∙ types_exists rels vars (normal_at f false) scope
      ∙ known false (entered vars scope) ∙ sym (types_forall rels vars f scope)
  at_every vars f known false scope =
      ap (λ g. types_fit rels g scope) (denied_forall vars f) ∙ types_exists rels vars (normal_at f false) scope ∙ known false (entered vars scope) ∙ sym (types_forall rels vars f scope)

  pub normal_types : (f : Formula) → KeptNormal f
  normal_types = induction KeptNormal (record {
    atom = at_atom;
    test = at_test;
    both = at_both;
    either = at_either;
    denial = at_denial;
    implication = at_implication;
    some = at_some;
    every = at_every;
  })

-- ---- renaming apart

-- the renamed variables have the types of the variables
pub record TypesFollow (used : List ℕ) (names : Renaming) (scope renamed_scope : TypedVars) : Type 0 where
  pub same : (z : Var) → In z.mark used → type_in renamed_scope (renamed_var names z) ≡ type_in scope z

one_type : (used : List ℕ) (names : Renaming) (n : ℕ) (x : Var × ColType) (scope inner : TypedVars) → AreOld used names n → TypesFollow used names scope inner
    → TypesFollow used ((x.0, marked x.0 (next_mark used n)) ∷ names) (x ∷ scope) ((marked x.0 (next_mark used n), x.1) ∷ inner)
one_type used names n x scope inner old follows = record {
  same = λ z at.
      let m : ℕ = next_mark used n in
      elim (var_eq z x.0) as (λ b. type_in ((marked x.0 m, x.1) ∷ inner) (cond b (marked x.0 m) (renamed_var names z)) ≡ cond b (Some x.1) (type_in scope z)) [
        | true ↦ ap (λ b. cond b (Some x.1) (type_in inner (marked x.0 m))) (var_itself (marked x.0 m))
        | false ↦ ap (λ b. cond b (Some x.1) (type_in inner (renamed_var names z))) (not_next used n (renamed_var names z) x.0 (old.each z at)) ∙ follows.same z at
      ];
}

opened_types : (used : List ℕ) (vars : TypedVars) (n : ℕ) (names : Renaming) (scope inner : TypedVars) → AreOld used names n → TypesFollow used names scope inner
    → TypesFollow used (opened used vars n names) (entered vars scope) (entered (fresh used vars n) inner)
opened_types used [] n names scope inner old follows = follows
opened_types used (x ∷ vars) n names scope inner old follows =
    let m : ℕ = next_mark used n in
    opened_types used vars m ((x.0, marked x.0 m) ∷ names) (x ∷ scope) ((marked x.0 m, x.1) ∷ inner) (one_old used names n x.0 old) (one_type used names n x scope inner old follows)

term_renamed : (used : List ℕ) (names : Renaming) (scope inner : TypedVars) (a : Term) → TypesFollow used names scope inner → MarksIn used (term_marks a)
    → term_type inner (renamed_term names a) ≡ term_type scope a
term_renamed used names scope inner (term.Var x) follows within = follows.same x (within x.mark (inl refl))
term_renamed used names scope inner (term.Const v) follows within = refl

terms_renamed : (used : List ℕ) (names : Renaming) (scope inner : TypedVars) (terms : List Term) (shape : List ColType) → TypesFollow used names scope inner
    → MarksIn used (flat_map term_marks terms) → terms_fit inner (map (renamed_term names) terms) shape ≡ terms_fit scope terms shape
terms_renamed used names scope inner [] shape follows within = refl
terms_renamed used names scope inner (a ∷ terms) [] follows within = refl
terms_renamed used names scope inner (a ∷ terms) (type ∷ shape) follows within =
    ap (λ o. agree o (Some type) && terms_fit inner (map (renamed_term names) terms) shape)
    (term_renamed used names scope inner a follows (λ m at. within m (append_left m (term_marks a) (flat_map term_marks terms) at)))
    ∙ ap (λ b. agree (term_type scope a) (Some type) && b)
    (terms_renamed used names scope inner terms shape follows (λ m at. within m (append_right m (term_marks a) (flat_map term_marks terms) at)))

module _ (rels : Shapes) (used : List ℕ) where
  abbrev KeptRenamed : Formula → Type 0
  KeptRenamed f = MarksIn used (marks f) → (names : Renaming) (n : ℕ) (scope inner : TypedVars) → AreOld used names n → TypesFollow used names scope inner
      → types_fit rels (renamed_at used f names n) inner ≡ types_fit rels f scope

  all_renamed : (fs : List Formula) → AllByRecursion KeptRenamed fs → MarksIn used (flat_map marks fs) → (names : Renaming) (n : ℕ) (scope inner : TypedVars) → AreOld used names n → TypesFollow used names scope inner
      → list_all (λ f. types_fit rels f inner) (renamed_all used fs names n) ≡ list_all (λ f. types_fit rels f scope) fs
  all_renamed [] each within names n scope inner old follows = refl
  all_renamed (f ∷ fs) each within names n scope inner old follows =
      ap (λ b. b && list_all (λ g. types_fit rels g inner) (renamed_all used fs names (last_at used f names n)))
      (each.0 (λ m at. within m (append_left m (marks f) (flat_map marks fs) at)) names n scope inner old follows)
      ∙ ap (λ b. types_fit rels f scope && b)
      (all_renamed fs each.1 (λ m at. within m (append_right m (marks f) (flat_map marks fs) at)) names (last_at used f names n) scope inner
      (more_old used names n (last_at used f names n) (last_above used f names n) old) follows)

  renames_types : (f : Formula) → KeptRenamed f
  renames_types = induction KeptRenamed (record {
    atom = λ rel terms within names n scope inner old follows.
        ap (λ g. types_fit rels g inner) (renamed_atom used rel terms names n) ∙ types_atom rels rel (map (renamed_term names) terms) inner
        ∙ terms_renamed used names scope inner terms (slice_index_or rels rel []) follows (λ m at. within m (subst (In m) (sym (marks_atom rel terms)) at))
        ∙ sym (types_atom rels rel terms scope);
    test = λ c left right within names n scope inner old follows.
        let here : MarksIn used (term_marks left ++ term_marks right) = λ m at. within m (subst (In m) (sym (marks_test c left right)) at) in
        ap (λ g. types_fit rels g inner) (renamed_test used c left right names n) ∙ types_test rels c (renamed_term names left) (renamed_term names right) inner
        ∙ ap (λ o. sides_fit c o (term_type inner (renamed_term names right))) (term_renamed used names scope inner left follows (λ m at. here m (append_left m (term_marks left) (term_marks right) at)))
        ∙ ap (sides_fit c (term_type scope left)) (term_renamed used names scope inner right follows (λ m at. here m (append_right m (term_marks left) (term_marks right) at)))
        ∙ sym (types_test rels c left right scope);
    both = λ fs each within names n scope inner old follows.
        ap (λ g. types_fit rels g inner) (renamed_and used fs names n) ∙ types_and rels (renamed_all used fs names n) inner
        ∙ all_renamed fs each (λ m at. within m (subst (In m) (sym (marks_and fs)) at)) names n scope inner old follows ∙ sym (types_and rels fs scope);
    either = λ fs each within names n scope inner old follows.
        ap (λ g. types_fit rels g inner) (renamed_or used fs names n) ∙ types_or rels (renamed_all used fs names n) inner
        ∙ all_renamed fs each (λ m at. within m (subst (In m) (sym (marks_or fs)) at)) names n scope inner old follows ∙ sym (types_or rels fs scope);
    denial = λ f here within names n scope inner old follows.
        ap (λ g. types_fit rels g inner) (renamed_not used f names n) ∙ types_not rels (renamed_at used f names n) inner
        ∙ here (λ m at. within m (subst (In m) (sym (marks_not f)) at)) names n scope inner old follows ∙ sym (types_not rels f scope);
    implication = λ f g here there within names n scope inner old follows.
        let each : MarksIn used (marks f ++ marks g) = λ m at. within m (subst (In m) (sym (marks_implies f g)) at) in
        let next : ℕ = last_at used f names n in
        ap (λ h. types_fit rels h inner) (renamed_implies used f g names n) ∙ types_implies rels (renamed_at used f names n) (renamed_at used g names next) inner
        ∙ ap (λ b. b && types_fit rels (renamed_at used g names next) inner) (here (λ m at. each m (append_left m (marks f) (marks g) at)) names n scope inner old follows)
        ∙ ap (λ b. types_fit rels f scope && b)
        (there (λ m at. each m (append_right m (marks f) (marks g) at)) names next scope inner (more_old used names n next (last_above used f names n) old) follows)
        ∙ sym (types_implies rels f g scope);
    some = λ vars f here within names n scope inner old follows.
        let each : MarksIn used (marks f) = λ m at. within m (subst (In m) (sym (marks_exists vars f)) (append_right m (quantified_marks vars) (marks f) at)) in
        ap (λ g. types_fit rels g inner) (renamed_exists used vars f names n)
        ∙ types_exists rels (fresh used vars n) (renamed_at used f (opened used vars n names) (last_mark used vars n)) inner
        ∙ here each (opened used vars n names) (last_mark used vars n) (entered vars scope) (entered (fresh used vars n) inner) (opened_old used vars n names old) (opened_types used vars n names scope inner old follows)
        ∙ sym (types_exists rels vars f scope);
    every = λ vars f here within names n scope inner old follows.
        let each : MarksIn used (marks f) = λ m at. within m (subst (In m) (sym (marks_forall vars f)) (append_right m (quantified_marks vars) (marks f) at)) in
        ap (λ g. types_fit rels g inner) (renamed_forall used vars f names n)
        ∙ types_forall rels (fresh used vars n) (renamed_at used f (opened used vars n names) (last_mark used vars n)) inner
        ∙ here each (opened used vars n names) (last_mark used vars n) (entered vars scope) (entered (fresh used vars n) inner) (opened_old used vars n names old) (opened_types used vars n names scope inner old follows)
        ∙ sym (types_forall rels vars f scope);
  })

pub renamed_types : (rels : Shapes) (f : Formula) (scope : TypedVars) → types_fit rels (renamed f) scope ≡ types_fit rels f scope
renamed_types rels f scope = renames_types rels (marks f) f (λ m at. at) [] 0 scope scope (nothing_renamed (marks f)) (record { same = λ z at. refl })
