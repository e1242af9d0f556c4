-- A safe formula whose conjuncts are put in order is safe from left to right, and means what it meant.
use Rattle.std.proofs.Common.{◌≡◌, ℕ, zero, suc, ⊎_elim, Bool, true, false, not, ◌&&◌, ◌||◌, List, [], ◌∷◌, ◌++◌, map, refl, ap, sym, ◌∙◌, subst, Option, Some, None, length}
use Rattle.std.specs.Option.{option_map_or}
use Rattle.std.specs.Cmp.{both_ways}
use Rattle.std.specs.List.{list_any, list_all, flat_map, AllByRecursion}
use Rattle.std.proofs.lemmas.Bool.{and_parts, and_from, true≢false, not-true, not_from_false, false_from_ne_true}
use Rattle.dbn_value.specs.Members.{In}
use Rattle.dbn_value.proofs.MemberLaws.{any_in, in_any, all_at, all_from, fails_at, filter_all, in_append, append_left, append_right, in_map, flat_in, recursion_at}
use Rattle.dbn_value.specs.declared.term.Var.{Var}
use Rattle.dbn_value.specs.declared.term.Term.{Term}
use Rattle.dbn_value.specs.declared.term.Term.TheVariants as term
use Rattle.dbn_value.specs.declared.term.Cmp.{Cmp}
use Rattle.dbn_value.specs.declared.term.Cmp.TheVariants as cmp
use Rattle.dbn_formula.specs.Variables.{TypedVars, is_in, binds}
use Rattle.dbn_formula.specs.Holds.{Env, Domain, Instance, every_choice, holds_over}
use Rattle.dbn_formula.specs.Free.{unhidden, occurrences}
use Rattle.dbn_formula.specs.Answers.{constants}
use Rattle.dbn_formula.specs.Typing.{Shapes, entered, types_fit}
use Rattle.dbn_formula.specs.Distinct.{distinct_vars, distinct}
use Rattle.dbn_formula.specs.Safe.{all_in, known, test_safe, outside, in_turn, safe, safe_in_order, is_apart, arranged, as_level}
use Rattle.dbn_formula.specs.declared.formula.Formula.{Formula}
use Rattle.dbn_formula.specs.declared.formula.Formula.TheVariants.{Atom, Test, And, Or, Not, Implies, Exists, Forall}
use Rattle.dbn_formula.proofs.Induction.{induction}
use Rattle.dbn_formula.proofs.NormalMeaning.{some_alike}
use Rattle.dbn_formula.proofs.Truth.{all_alike, everywhere}
use Rattle.dbn_formula.proofs.HoldsLaws.{holds_and, holds_or, holds_not, holds_implies, holds_exists, holds_forall}
use Rattle.dbn_formula.proofs.FreeLaws.{occurrences_and, occurrences_or, occurrences_not, occurrences_implies, occurrences_exists, occurrences_forall}
use Rattle.dbn_formula.proofs.ConstantsLaws.{constants_and, constants_or, constants_not, constants_implies, constants_exists, constants_forall}
use Rattle.dbn_formula.proofs.TypingLaws.{types_and, types_or, types_not, types_implies, types_exists, types_forall}
use Rattle.dbn_formula.proofs.DistinctLaws.{distinct_and, distinct_or, distinct_not, distinct_implies, distinct_exists, distinct_forall}
use Rattle.dbn_formula.proofs.SafeLaws.{safe_and, safe_or, safe_not, safe_implies, safe_exists, safe_forall, safe_test, in_order_atom, in_order_test, in_order_and, in_order_or, in_order_not, in_order_implies, in_order_exists, in_order_forall, apart_atom, apart_test, apart_and, apart_or, apart_not, apart_implies, apart_exists, apart_forall, arranged_atom, arranged_test, arranged_and, arranged_or, arranged_not, arranged_implies, arranged_exists, arranged_forall}
use Rattle.dbn_formula.proofs.VariableLaws.{in_of_is, is_of_in, in_unhidden, unhidden_in}
use Rattle.dbn_formula.proofs.OrderOfParts.{first_safe, taken, order, taken_is, order_is, SplitBy, first_split, all_arranged, ordered, all_ordered, any_ordered, Alike, flat_ordered}

-- ---- an arranged formula means the same, has the same types and quantifiers, variables and constants

every_alike : (dom : Domain) (vars : TypedVars) (p q : Env → Bool) → ((env : Env) → p env ≡ q env) → (env : Env) → every_choice dom vars p env ≡ every_choice dom vars q env
every_alike dom [] p q same env = same env
every_alike dom (x ∷ vars) p q same env =
    all_alike (λ v. every_choice dom vars p ((x.0, v) ∷ env)) (λ v. every_choice dom vars q ((x.0, v) ∷ env)) (dom x.1)
    (everywhere (λ v. every_choice dom vars p ((x.0, v) ∷ env) ≡ every_choice dom vars q ((x.0, v) ∷ env)) (λ v. every_alike dom vars p q same ((x.0, v) ∷ env)) (dom x.1))

module _ (dom : Domain) (db : Instance) where
  abbrev KeepsMeaning : Formula → Type 0
  KeepsMeaning f = (bound : List Var) (env : Env) → holds_over dom db (arranged f bound) env ≡ holds_over dom db f env

  -- a part of the list keeps its meaning
  part_meaning : (fs : List Formula) → AllByRecursion KeepsMeaning fs → (env : Env) (h : Formula) → In h fs → (b : List Var) → holds_over dom db (arranged h b) env ≡ holds_over dom db h env
  part_meaning fs each env h at b = recursion_at KeepsMeaning h fs each at b env

  pub arranged_holds : (f : Formula) → KeepsMeaning f
  arranged_holds = induction KeepsMeaning (record {
    atom = λ rel terms bound env. ap (λ g. holds_over dom db g env) (arranged_atom rel terms bound);
    test = λ c left right bound env. ap (λ g. holds_over dom db g env) (arranged_test c left right bound);
    both = λ fs each bound env.
        ap (λ g. holds_over dom db g env) (arranged_and fs bound ∙ ap And (order_is (length fs) fs bound)) ∙ holds_and dom db (order (length fs) fs bound) env
        ∙ all_ordered (λ g. holds_over dom db g env) fs (order (length fs) fs bound) (ordered (length fs) fs bound) (part_meaning fs each env) ∙ sym (holds_and dom db fs env);
    either = λ fs each bound env.
        ap (λ g. holds_over dom db g env) (arranged_or fs bound) ∙ holds_or dom db (map (λ f. arranged f bound) fs) env
        ∙ any_ordered (λ g. holds_over dom db g env) fs (map (λ f. arranged f bound) fs) (all_arranged fs bound) (part_meaning fs each env) ∙ sym (holds_or dom db fs env);
    denial = λ f here bound env.
        ap (λ g. holds_over dom db g env) (arranged_not f bound) ∙ holds_not dom db (arranged f bound) env ∙ ap not (here bound env) ∙ sym (holds_not dom db f env);
    implication = λ f g here there bound env.
        ap (λ h. holds_over dom db h env) (arranged_implies f g bound) ∙ holds_implies dom db (arranged f bound) (arranged g bound) env
        ∙ ap (λ b. not b || holds_over dom db (arranged g bound) env) (here bound env) ∙ ap (λ b. not (holds_over dom db f env) || b) (there bound env) ∙ sym (holds_implies dom db f g env);
    some = λ vars f here bound env.
        let inner : Formula = arranged f (outside vars bound) in
        ap (λ g. holds_over dom db g env) (arranged_exists vars f bound) ∙ holds_exists dom db vars inner env
        ∙ some_alike dom vars (holds_over dom db inner) (holds_over dom db f) (here (outside vars bound)) env ∙ sym (holds_exists dom db vars f env);
    every = λ vars f here bound env.
        let inner : Formula = arranged f (outside vars bound) in
        ap (λ g. holds_over dom db g env) (arranged_forall vars f bound) ∙ holds_forall dom db vars inner env
        ∙ every_alike dom vars (holds_over dom db inner) (holds_over dom db f) (here (outside vars bound)) env ∙ sym (holds_forall dom db vars f env);
  })

module _ (rels : Shapes) where
  abbrev KeepsTypes : Formula → Type 0
  KeepsTypes f = (bound : List Var) (scope : TypedVars) → types_fit rels (arranged f bound) scope ≡ types_fit rels f scope

  part_types : (fs : List Formula) → AllByRecursion KeepsTypes fs → (scope : TypedVars) (h : Formula) → In h fs → (b : List Var) → types_fit rels (arranged h b) scope ≡ types_fit rels h scope
  part_types fs each scope h at b = recursion_at KeepsTypes h fs each at b scope

  pub arranged_types : (f : Formula) → KeepsTypes f
  arranged_types = induction KeepsTypes (record {
    atom = λ rel terms bound scope. ap (λ g. types_fit rels g scope) (arranged_atom rel terms bound);
    test = λ c left right bound scope. ap (λ g. types_fit rels g scope) (arranged_test c left right bound);
    both = λ fs each bound scope.
        ap (λ g. types_fit rels g scope) (arranged_and fs bound ∙ ap And (order_is (length fs) fs bound)) ∙ types_and rels (order (length fs) fs bound) scope
        ∙ all_ordered (λ g. types_fit rels g scope) fs (order (length fs) fs bound) (ordered (length fs) fs bound) (part_types fs each scope) ∙ sym (types_and rels fs scope);
    either = λ fs each bound scope.
        ap (λ g. types_fit rels g scope) (arranged_or fs bound) ∙ types_or rels (map (λ f. arranged f bound) fs) scope
        ∙ all_ordered (λ g. types_fit rels g scope) fs (map (λ f. arranged f bound) fs) (all_arranged fs bound) (part_types fs each scope) ∙ sym (types_or rels fs scope);
    denial = λ f here bound scope.
        ap (λ g. types_fit rels g scope) (arranged_not f bound) ∙ types_not rels (arranged f bound) scope ∙ here bound scope ∙ sym (types_not rels f scope);
    implication = λ f g here there bound scope.
        ap (λ h. types_fit rels h scope) (arranged_implies f g bound) ∙ types_implies rels (arranged f bound) (arranged g bound) scope
        ∙ ap (λ b. b && types_fit rels (arranged g bound) scope) (here bound scope) ∙ ap (λ b. types_fit rels f scope && b) (there bound scope) ∙ sym (types_implies rels f g scope);
    some = λ vars f here bound scope.
        ap (λ g. types_fit rels g scope) (arranged_exists vars f bound) ∙ types_exists rels vars (arranged f (outside vars bound)) scope
        ∙ here (outside vars bound) (entered vars scope) ∙ sym (types_exists rels vars f scope);
    every = λ vars f here bound scope.
        ap (λ g. types_fit rels g scope) (arranged_forall vars f bound) ∙ types_forall rels vars (arranged f (outside vars bound)) scope
        ∙ here (outside vars bound) (entered vars scope) ∙ sym (types_forall rels vars f scope);
  })

abbrev KeepsDistinct : Formula → Type 0
KeepsDistinct f = (bound : List Var) → distinct (arranged f bound) ≡ distinct f

pub arranged_distinct : (f : Formula) → KeepsDistinct f
arranged_distinct = induction KeepsDistinct (record {
  atom = λ rel terms bound. ap distinct (arranged_atom rel terms bound);
  test = λ c left right bound. ap distinct (arranged_test c left right bound);
  both = λ fs each bound.
      ap distinct (arranged_and fs bound ∙ ap And (order_is (length fs) fs bound)) ∙ distinct_and (order (length fs) fs bound)
      ∙ all_ordered distinct fs (order (length fs) fs bound) (ordered (length fs) fs bound) (λ h at. recursion_at KeepsDistinct h fs each at) ∙ sym (distinct_and fs);
  either = λ fs each bound.
      ap distinct (arranged_or fs bound) ∙ distinct_or (map (λ f. arranged f bound) fs)
      ∙ all_ordered distinct fs (map (λ f. arranged f bound) fs) (all_arranged fs bound) (λ h at. recursion_at KeepsDistinct h fs each at) ∙ sym (distinct_or fs);
  denial = λ f here bound. ap distinct (arranged_not f bound) ∙ distinct_not (arranged f bound) ∙ here bound ∙ sym (distinct_not f);
  implication = λ f g here there bound.
      ap distinct (arranged_implies f g bound) ∙ distinct_implies (arranged f bound) (arranged g bound)
      ∙ ap (λ b. b && distinct (arranged g bound)) (here bound) ∙ ap (λ b. distinct f && b) (there bound) ∙ sym (distinct_implies f g);
  some = λ vars f here bound.
      ap distinct (arranged_exists vars f bound) ∙ distinct_exists vars (arranged f (outside vars bound)) ∙ ap (λ b. distinct_vars vars && b) (here (outside vars bound)) ∙ sym (distinct_exists vars f);
  every = λ vars f here bound.
      ap distinct (arranged_forall vars f bound) ∙ distinct_forall vars (arranged f (outside vars bound)) ∙ ap (λ b. distinct_vars vars && b) (here (outside vars bound)) ∙ sym (distinct_forall vars f);
})

-- ---- members

module _ {A : Type 0} where
  pub alike_same : (xs ys : List A) → xs ≡ ys → Alike xs ys
  alike_same xs ys e = record { there = λ x at. subst (In x) e at; back = λ x at. subst (In x) (sym e) at }

  pub alike_then : (xs ys zs : List A) → Alike xs ys → Alike ys zs → Alike xs zs
  alike_then xs ys zs first second = record { there = λ x at. second.there x (first.there x at); back = λ x at. first.back x (second.back x at) }

  pub alike_append : (xs ys us vs : List A) → Alike xs us → Alike ys vs → Alike (xs ++ ys) (us ++ vs)
  alike_append xs ys us vs left right = record {
    there = λ x at. ⊎_elim (λ here. append_left x us vs (left.there x here)) (λ there. append_right x us vs (right.there x there)) (in_append x xs ys at);
    back = λ x at. ⊎_elim (λ here. append_left x xs ys (left.back x here)) (λ there. append_right x xs ys (right.back x there)) (in_append x us vs at);
  }

alike_unhidden : (vars : TypedVars) (xs ys : List Var) → Alike xs ys → Alike (unhidden vars xs) (unhidden vars ys)
alike_unhidden vars xs ys alike = record {
  there = λ x at. let found = in_unhidden vars x xs at in unhidden_in vars x ys (alike.there x found.0) found.1;
  back = λ x at. let found = in_unhidden vars x ys at in unhidden_in vars x xs (alike.back x found.0) found.1;
}

abbrev KeepsFree : Formula → Type 0
KeepsFree f = (bound : List Var) → Alike (occurrences (arranged f bound)) (occurrences f)

pub arranged_free : (f : Formula) → KeepsFree f
arranged_free = induction KeepsFree (record {
  atom = λ rel terms bound. alike_same (occurrences (arranged (Atom rel terms) bound)) (occurrences (Atom rel terms)) (ap occurrences (arranged_atom rel terms bound));
  test = λ c left right bound. alike_same (occurrences (arranged (Test c left right) bound)) (occurrences (Test c left right)) (ap occurrences (arranged_test c left right bound));
  both = λ fs each bound.
      let gs : List Formula = order (length fs) fs bound in
      subst (λ xs. Alike xs (occurrences (And fs))) (sym (ap occurrences (arranged_and fs bound ∙ ap And (order_is (length fs) fs bound)) ∙ occurrences_and gs))
      (subst (Alike (flat_map occurrences gs)) (sym (occurrences_and fs)) (flat_ordered occurrences fs gs (ordered (length fs) fs bound) (λ h at. recursion_at KeepsFree h fs each at)));
  either = λ fs each bound.
      let gs : List Formula = map (λ f. arranged f bound) fs in
      subst (λ xs. Alike xs (occurrences (Or fs))) (sym (ap occurrences (arranged_or fs bound) ∙ occurrences_or gs))
      (subst (Alike (flat_map occurrences gs)) (sym (occurrences_or fs)) (flat_ordered occurrences fs gs (all_arranged fs bound) (λ h at. recursion_at KeepsFree h fs each at)));
  denial = λ f here bound.
      subst (λ xs. Alike xs (occurrences (Not f))) (sym (ap occurrences (arranged_not f bound) ∙ occurrences_not (arranged f bound)))
      (subst (Alike (occurrences (arranged f bound))) (sym (occurrences_not f)) (here bound));
  implication = λ f g here there bound.
      subst (λ xs. Alike xs (occurrences (Implies f g))) (sym (ap occurrences (arranged_implies f g bound) ∙ occurrences_implies (arranged f bound) (arranged g bound)))
      (subst (Alike (occurrences (arranged f bound) ++ occurrences (arranged g bound))) (sym (occurrences_implies f g))
      (alike_append (occurrences (arranged f bound)) (occurrences (arranged g bound)) (occurrences f) (occurrences g) (here bound) (there bound)));
  some = λ vars f here bound.
      let inner : Formula = arranged f (outside vars bound) in
      subst (λ xs. Alike xs (occurrences (Exists vars f))) (sym (ap occurrences (arranged_exists vars f bound) ∙ occurrences_exists vars inner))
      (subst (Alike (unhidden vars (occurrences inner))) (sym (occurrences_exists vars f)) (alike_unhidden vars (occurrences inner) (occurrences f) (here (outside vars bound))));
  every = λ vars f here bound.
      let inner : Formula = arranged f (outside vars bound) in
      subst (λ xs. Alike xs (occurrences (Forall vars f))) (sym (ap occurrences (arranged_forall vars f bound) ∙ occurrences_forall vars inner))
      (subst (Alike (unhidden vars (occurrences inner))) (sym (occurrences_forall vars f)) (alike_unhidden vars (occurrences inner) (occurrences f) (here (outside vars bound))));
})

abbrev KeepsConstants : Formula → Type 0
KeepsConstants f = (bound : List Var) → Alike (constants (arranged f bound)) (constants f)

pub arranged_constants : (f : Formula) → KeepsConstants f
arranged_constants = induction KeepsConstants (record {
  atom = λ rel terms bound. alike_same (constants (arranged (Atom rel terms) bound)) (constants (Atom rel terms)) (ap constants (arranged_atom rel terms bound));
  test = λ c left right bound. alike_same (constants (arranged (Test c left right) bound)) (constants (Test c left right)) (ap constants (arranged_test c left right bound));
  both = λ fs each bound.
      let gs : List Formula = order (length fs) fs bound in
      subst (λ xs. Alike xs (constants (And fs))) (sym (ap constants (arranged_and fs bound ∙ ap And (order_is (length fs) fs bound)) ∙ constants_and gs))
      (subst (Alike (flat_map constants gs)) (sym (constants_and fs)) (flat_ordered constants fs gs (ordered (length fs) fs bound) (λ h at. recursion_at KeepsConstants h fs each at)));
  either = λ fs each bound.
      let gs : List Formula = map (λ f. arranged f bound) fs in
      subst (λ xs. Alike xs (constants (Or fs))) (sym (ap constants (arranged_or fs bound) ∙ constants_or gs))
      (subst (Alike (flat_map constants gs)) (sym (constants_or fs)) (flat_ordered constants fs gs (all_arranged fs bound) (λ h at. recursion_at KeepsConstants h fs each at)));
  denial = λ f here bound.
      subst (λ xs. Alike xs (constants (Not f))) (sym (ap constants (arranged_not f bound) ∙ constants_not (arranged f bound)))
      (subst (Alike (constants (arranged f bound))) (sym (constants_not f)) (here bound));
  implication = λ f g here there bound.
      subst (λ xs. Alike xs (constants (Implies f g))) (sym (ap constants (arranged_implies f g bound) ∙ constants_implies (arranged f bound) (arranged g bound)))
      (subst (Alike (constants (arranged f bound) ++ constants (arranged g bound))) (sym (constants_implies f g))
      (alike_append (constants (arranged f bound)) (constants (arranged g bound)) (constants f) (constants g) (here bound) (there bound)));
  some = λ vars f here bound.
      subst (λ xs. Alike xs (constants (Exists vars f))) (sym (ap constants (arranged_exists vars f bound) ∙ constants_exists vars (arranged f (outside vars bound))))
      (subst (Alike (constants (arranged f (outside vars bound)))) (sym (constants_exists vars f)) (here (outside vars bound)));
  every = λ vars f here bound.
      subst (λ xs. Alike xs (constants (Forall vars f))) (sym (ap constants (arranged_forall vars f bound) ∙ constants_forall vars (arranged f (outside vars bound))))
      (subst (Alike (constants (arranged f (outside vars bound)))) (sym (constants_forall vars f)) (here (outside vars bound)));
})

-- ---- the tests see only which variables are bound

is_in_alike : (xs ys : List Var) (x : Var) → Alike xs ys → is_in x xs ≡ is_in x ys
is_in_alike xs ys x alike =
    both_ways (is_in x xs) (is_in x ys)
    (λ e. is_of_in x ys (alike.there x (in_of_is x xs e)))
    (λ e. is_of_in x xs (alike.back x (in_of_is x ys e)))

known_alike : (xs ys : List Var) (a : Term) → Alike xs ys → known xs a ≡ known ys a
known_alike xs ys (term.Var x) alike = is_in_alike xs ys x alike
known_alike xs ys (term.Const v) alike = refl

both_alike : (xs ys : List Var) (left right : Term) → Alike xs ys → (known xs left && known xs right) ≡ (known ys left && known ys right)
both_alike xs ys left right alike = ap (λ b. b && known xs right) (known_alike xs ys left alike) ∙ ap (λ b. known ys left && b) (known_alike xs ys right alike)

test_alike : (c : Cmp) (left right : Term) (xs ys : List Var) → Alike xs ys → test_safe c left right xs ≡ test_safe c left right ys
test_alike cmp.Eq left right xs ys alike = ap (λ b. b || known xs right) (known_alike xs ys left alike) ∙ ap (λ b. known ys left || b) (known_alike xs ys right alike)
test_alike cmp.Ne left right xs ys alike = both_alike xs ys left right alike
test_alike cmp.Lt left right xs ys alike = both_alike xs ys left right alike
test_alike cmp.Le left right xs ys alike = both_alike xs ys left right alike
test_alike cmp.Gt left right xs ys alike = both_alike xs ys left right alike
test_alike cmp.Ge left right xs ys alike = both_alike xs ys left right alike

all_in_alike : (all xs ys : List Var) → Alike xs ys → all_in all xs ≡ all_in all ys
all_in_alike all xs ys alike = all_alike (λ x. is_in x xs) (λ x. is_in x ys) all (everywhere (λ x. is_in x xs ≡ is_in x ys) (λ x. is_in_alike xs ys x alike) all)

bound_alike : (vars : TypedVars) (xs ys : List Var) → Alike xs ys → list_any (binds vars) xs ≡ list_any (binds vars) ys
bound_alike vars xs ys alike =
    both_ways (list_any (binds vars) xs) (list_any (binds vars) ys)
    (λ e. let found = any_in (binds vars) xs e in in_any (binds vars) found.0 ys (alike.there found.0 found.1) found.2)
    (λ e. let found = any_in (binds vars) ys e in in_any (binds vars) found.0 xs (alike.back found.0 found.1) found.2)

abbrev pub InOrderAlike : Formula → Type 0
InOrderAlike f = (xs ys : List Var) → Alike xs ys → safe_in_order f xs ≡ safe_in_order f ys

pub alike_self : {A : Type 0} (xs : List A) → Alike xs xs
alike_self xs = record { there = λ x at. at; back = λ x at. at }

pub turn_alike : (fs : List Formula) → AllByRecursion InOrderAlike fs → (xs ys : List Var) → Alike xs ys → in_turn (map as_level fs) xs ≡ in_turn (map as_level fs) ys
turn_alike [] each xs ys alike = refl
turn_alike (f ∷ fs) each xs ys alike =
    ap (λ b. b && in_turn (map as_level fs) (xs ++ occurrences f)) (each.0 xs ys alike)
    ∙ ap (λ b. safe_in_order f ys && b) (turn_alike fs each.1 (xs ++ occurrences f) (ys ++ occurrences f) (alike_append xs (occurrences f) ys (occurrences f) alike (alike_self (occurrences f))))

or_alike : (all : List Var) (fs : List Formula) → AllByRecursion InOrderAlike fs → (xs ys : List Var) → Alike xs ys
    → list_all (λ f. safe_in_order f xs && all_in all (xs ++ occurrences f)) fs ≡ list_all (λ f. safe_in_order f ys && all_in all (ys ++ occurrences f)) fs
or_alike all [] each xs ys alike = refl
or_alike all (f ∷ fs) each xs ys alike =
    ap (λ b. (b && all_in all (xs ++ occurrences f)) && list_all (λ g. safe_in_order g xs && all_in all (xs ++ occurrences g)) fs) (each.0 xs ys alike)
    ∙ ap (λ b. (safe_in_order f ys && b) && list_all (λ g. safe_in_order g xs && all_in all (xs ++ occurrences g)) fs)
    (all_in_alike all (xs ++ occurrences f) (ys ++ occurrences f) (alike_append xs (occurrences f) ys (occurrences f) alike (alike_self (occurrences f))))
    ∙ ap (λ b. (safe_in_order f ys && all_in all (ys ++ occurrences f)) && b) (or_alike all fs each.1 xs ys alike)

pub in_order_alike : (f : Formula) → InOrderAlike f
in_order_alike = induction InOrderAlike (record {
  atom = λ rel terms xs ys alike. in_order_atom rel terms xs ∙ sym (in_order_atom rel terms ys);
  test = λ c left right xs ys alike. in_order_test c left right xs ∙ test_alike c left right xs ys alike ∙ sym (in_order_test c left right ys);
  both = λ fs each xs ys alike. in_order_and fs xs ∙ turn_alike fs each xs ys alike ∙ sym (in_order_and fs ys);
  either = λ fs each xs ys alike. in_order_or fs xs ∙ or_alike (flat_map occurrences fs) fs each xs ys alike ∙ sym (in_order_or fs ys);
  denial = λ f here xs ys alike.
      in_order_not f xs ∙ ap (λ b. b && safe_in_order f xs) (all_in_alike (occurrences f) xs ys alike) ∙ ap (λ b. all_in (occurrences f) ys && b) (here xs ys alike) ∙ sym (in_order_not f ys);
  implication = λ f g here there xs ys alike. in_order_implies f g xs ∙ sym (in_order_implies f g ys);
  some = λ vars f here xs ys alike.
      in_order_exists vars f xs ∙ ap (λ b. not b && safe_in_order f xs) (bound_alike vars xs ys alike) ∙ ap (λ b. not (list_any (binds vars) ys) && b) (here xs ys alike) ∙ sym (in_order_exists vars f ys);
  every = λ vars f here xs ys alike. in_order_forall vars f xs ∙ sym (in_order_forall vars f ys);
})

-- ---- where fewer variables are bound, a formula stays apart from them

abbrev pub Within : List Var → List Var → Type 0
Within xs ys = (x : Var) → In x xs → In x ys

pub within_more : (xs ys zs : List Var) → Within xs ys → Within (xs ++ zs) (ys ++ zs)
within_more xs ys zs within x at = ⊎_elim (λ here. append_left x ys zs (within x here)) (λ there. append_right x ys zs there) (in_append x xs zs at)

abbrev ApartLess : Formula → Type 0
ApartLess f = (xs ys : List Var) → Within xs ys → is_apart f ys ≡ true → is_apart f xs ≡ true

none_less : (vars : TypedVars) (xs ys : List Var) → Within xs ys → not (list_any (binds vars) ys) ≡ true → not (list_any (binds vars) xs) ≡ true
none_less vars xs ys within e =
    not_from_false (list_any (binds vars) xs) (false_from_ne_true (list_any (binds vars) xs) (λ some.
    let found = any_in (binds vars) xs some in
    true≢false (sym (in_any (binds vars) found.0 ys (within found.0 found.1) found.2) ∙ not-true (list_any (binds vars) ys) e)))

pub apart_less : (f : Formula) → ApartLess f
apart_less = induction ApartLess (record {
  atom = λ rel terms xs ys within e. apart_atom rel terms xs;
  test = λ c left right xs ys within e. apart_test c left right xs;
  both = λ fs each xs ys within e.
      apart_and fs xs ∙ all_from (λ f. is_apart f (xs ++ flat_map occurrences fs)) fs (λ f at.
      recursion_at ApartLess f fs each at (xs ++ flat_map occurrences fs) (ys ++ flat_map occurrences fs) (within_more xs ys (flat_map occurrences fs) within)
      (all_at (λ g. is_apart g (ys ++ flat_map occurrences fs)) f fs (sym (apart_and fs ys) ∙ e) at));
  either = λ fs each xs ys within e.
      apart_or fs xs ∙ all_from (λ f. is_apart f (xs ++ flat_map occurrences fs)) fs (λ f at.
      recursion_at ApartLess f fs each at (xs ++ flat_map occurrences fs) (ys ++ flat_map occurrences fs) (within_more xs ys (flat_map occurrences fs) within)
      (all_at (λ g. is_apart g (ys ++ flat_map occurrences fs)) f fs (sym (apart_or fs ys) ∙ e) at));
  denial = λ f here xs ys within e. apart_not f xs ∙ here xs ys within (sym (apart_not f ys) ∙ e);
  implication = λ f g here there xs ys within e.
      let parts = and_parts (is_apart f (ys ++ occurrences g)) (is_apart g (ys ++ occurrences f)) (sym (apart_implies f g ys) ∙ e) in
      apart_implies f g xs
      ∙ and_from (is_apart f (xs ++ occurrences g)) (is_apart g (xs ++ occurrences f))
      (here (xs ++ occurrences g) (ys ++ occurrences g) (within_more xs ys (occurrences g) within) parts.0)
      (there (xs ++ occurrences f) (ys ++ occurrences f) (within_more xs ys (occurrences f) within) parts.1);
  some = λ vars f here xs ys within e.
      let names : List Var = map (λ x. x.0) vars in
      let parts = and_parts (not (list_any (binds vars) ys)) (is_apart f (ys ++ names)) (sym (apart_exists vars f ys) ∙ e) in
      apart_exists vars f xs
      ∙ and_from (not (list_any (binds vars) xs)) (is_apart f (xs ++ names)) (none_less vars xs ys within parts.0) (here (xs ++ names) (ys ++ names) (within_more xs ys names within) parts.1);
  every = λ vars f here xs ys within e.
      let names : List Var = map (λ x. x.0) vars in
      let parts = and_parts (not (list_any (binds vars) ys)) (is_apart f (ys ++ names)) (sym (apart_forall vars f ys) ∙ e) in
      apart_forall vars f xs
      ∙ and_from (not (list_any (binds vars) xs)) (is_apart f (xs ++ names)) (none_less vars xs ys within parts.0) (here (xs ++ names) (ys ++ names) (within_more xs ys names within) parts.1);
})

-- ---- safe from left to right

abbrev pub IsInOrder : Formula → Type 0
IsInOrder f = (bound : List Var) → safe f bound ≡ true → is_apart f bound ≡ true → safe_in_order (arranged f bound) bound ≡ true

-- the conjuncts that are left, in the order in which they are taken
taken_in_order : (n : ℕ) (fs : List Formula) (bound all : List Var) → ((h : Formula) → In h fs → IsInOrder h) → ((h : Formula) → In h fs → is_apart h all ≡ true)
    → Within bound all → ((h : Formula) → In h fs → Within (occurrences h) all) → taken n fs bound ≡ true → in_turn (map as_level (order n fs bound)) bound ≡ true
taken_in_order zero [] bound all known are_apart within occur e = refl
taken_in_order (suc n) [] bound all known are_apart within occur e = refl
taken_in_order zero (f ∷ fs) bound all known are_apart within occur e = absurd (true≢false (sym e))
taken_in_order (suc n) (f ∷ fs) bound all known are_apart within occur e =
    after (first_safe (f ∷ fs) bound) (first_split (f ∷ fs) bound) e (λ gs more. taken_in_order n gs more all)
  where
    after : (found : Option (Formula × List Formula)) → SplitBy (f ∷ fs) bound found
        → option_map_or (λ (g : Formula × List Formula). taken n g.1 (bound ++ occurrences g.0)) found false ≡ true
        → ((gs : List Formula) (more : List Var) → ((h : Formula) → In h gs → IsInOrder h) → ((h : Formula) → In h gs → is_apart h all ≡ true)
        → Within more all → ((h : Formula) → In h gs → Within (occurrences h) all) → taken n gs more ≡ true → in_turn (map as_level (order n gs more)) more ≡ true)
        → in_turn (map as_level (option_map_or (λ (g : Formula × List Formula). arranged g.0 bound ∷ order n g.1 (bound ++ occurrences g.0)) found (map (λ g. arranged g bound) (f ∷ fs)))) bound ≡ true
    after None split e next = absurd (true≢false (sym e))
    after (Some g) split e next =
        let more : List Var = bound ++ occurrences g.0 in
        let rest : List Formula = order n g.1 more in
        let turn : in_turn (map as_level rest) more ≡ true =
        next g.1 more (λ h at. known h (split.others h at)) (λ h at. are_apart h (split.others h at))
        (λ x at. ⊎_elim (λ here. within x here) (λ there. occur g.0 split.first x there) (in_append x bound (occurrences g.0) at))
        (λ h at. occur h (split.others h at)) e in
        let first : safe_in_order (arranged g.0 bound) bound ≡ true =
        known g.0 split.first bound split.is_safe (apart_less g.0 bound all within (are_apart g.0 split.first)) in
        and_from (safe_in_order (arranged g.0 bound) bound) (in_turn (map as_level rest) (bound ++ occurrences (arranged g.0 bound))) first
        (turn_alike rest (recursion_everywhere rest) (bound ++ occurrences (arranged g.0 bound)) more
        (alike_append bound (occurrences (arranged g.0 bound)) bound (occurrences g.0) (alike_self bound) (arranged_free g.0 bound)) ∙ turn)
      where
        recursion_everywhere : (hs : List Formula) → AllByRecursion InOrderAlike hs
        recursion_everywhere [] = tt
        recursion_everywhere (h ∷ hs) = (in_order_alike h, recursion_everywhere hs)

-- no quantified variable is bound, so all stay bound inside
pub outside_all : (vars : TypedVars) (bound : List Var) → not (list_any (binds vars) bound) ≡ true → outside vars bound ≡ bound
outside_all vars bound e =
    filter_all (λ x. not (binds vars x)) bound (λ x at. not_from_false (binds vars x) (fails_at (binds vars) x bound (not-true (list_any (binds vars) bound) e) at))

pub arranged_in_order : (f : Formula) → IsInOrder f
arranged_in_order = induction IsInOrder (record {
  atom = λ rel terms bound e c. ap (λ g. safe_in_order g bound) (arranged_atom rel terms bound) ∙ in_order_atom rel terms bound;
  test = λ o left right bound e c. ap (λ g. safe_in_order g bound) (arranged_test o left right bound) ∙ in_order_test o left right bound ∙ sym (safe_test o left right bound) ∙ e;
  both = λ fs each bound e c.
      let gs : List Formula = order (length fs) fs bound in
      let all : List Var = bound ++ flat_map occurrences fs in
      ap (λ g. safe_in_order g bound) (arranged_and fs bound ∙ ap And (order_is (length fs) fs bound)) ∙ in_order_and gs bound
      ∙ taken_in_order (length fs) fs bound all (λ h at. recursion_at IsInOrder h fs each at) (λ h at. all_at (λ g. is_apart g all) h fs (sym (apart_and fs bound) ∙ c) at)
      (λ x at. append_left x bound (flat_map occurrences fs) at) (λ h at x here. append_right x bound (flat_map occurrences fs) (flat_in occurrences x h fs at here))
      (sym (taken_is (length fs) fs bound) ∙ sym (safe_and fs bound) ∙ e);
  either = λ fs each bound e c.
      let gs : List Formula = map (λ f. arranged f bound) fs in
      let all : List Var = flat_map occurrences fs in
      let same : Alike (flat_map occurrences gs) all = flat_ordered occurrences fs gs (all_arranged fs bound) (λ h at b. arranged_free h b) in
      ap (λ g. safe_in_order g bound) (arranged_or fs bound) ∙ in_order_or gs bound
      ∙ all_from (λ g. safe_in_order g bound && all_in (flat_map occurrences gs) (bound ++ occurrences g)) gs (λ g at.
      let found = in_map (λ f. arranged f bound) g fs at in
      let h : Formula = found.0 in
      let safes = and_parts (safe h bound) (all_in all (bound ++ occurrences h)) (all_at (λ k. safe k bound && all_in all (bound ++ occurrences k)) h fs (sym (safe_or fs bound) ∙ e) found.1) in
      let here : safe_in_order (arranged h bound) bound ≡ true =
      recursion_at IsInOrder h fs each found.1 bound safes.0
      (apart_less h bound (bound ++ all) (λ x within. append_left x bound all within) (all_at (λ k. is_apart k (bound ++ all)) h fs (sym (apart_or fs bound) ∙ c) found.1)) in
      let binds_all : all_in (flat_map occurrences gs) (bound ++ occurrences (arranged h bound)) ≡ true =
      all_from (λ x. is_in x (bound ++ occurrences (arranged h bound))) (flat_map occurrences gs) (λ x within.
      let known : In x (bound ++ occurrences h) = in_of_is x (bound ++ occurrences h) (all_at (λ y. is_in y (bound ++ occurrences h)) x all safes.1 (same.there x within)) in
      is_of_in x (bound ++ occurrences (arranged h bound)) (⊎_elim
      (λ old. append_left x bound (occurrences (arranged h bound)) old)
      (λ new. append_right x bound (occurrences (arranged h bound)) ((arranged_free h bound).back x new))
      (in_append x bound (occurrences h) known))) in
      subst (λ k. safe_in_order k bound && all_in (flat_map occurrences gs) (bound ++ occurrences k) ≡ true) (sym found.2)
      (and_from (safe_in_order (arranged h bound) bound) (all_in (flat_map occurrences gs) (bound ++ occurrences (arranged h bound))) here binds_all));
  denial = λ f here bound e c.
      let parts = and_parts (all_in (occurrences f) bound) (safe f bound) (sym (safe_not f bound) ∙ e) in
      let inner : Formula = arranged f bound in
      ap (λ g. safe_in_order g bound) (arranged_not f bound) ∙ in_order_not inner bound
      ∙ and_from (all_in (occurrences inner) bound) (safe_in_order inner bound)
      (all_from (λ x. is_in x bound) (occurrences inner) (λ x at. all_at (λ y. is_in y bound) x (occurrences f) parts.0 ((arranged_free f bound).there x at)))
      (here bound parts.1 (sym (apart_not f bound) ∙ c));
  implication = λ f g here there bound e c. absurd (true≢false (sym e ∙ safe_implies f g bound));
  some = λ vars f here bound e c.
      let names : List Var = map (λ x. x.0) vars in
      let parts = and_parts (not (list_any (binds vars) bound)) (is_apart f (bound ++ names)) (sym (apart_exists vars f bound) ∙ c) in
      let same : outside vars bound ≡ bound = outside_all vars bound parts.0 in
      let safe_body : safe f bound ≡ true = ap (safe f) (sym same) ∙ sym (safe_exists vars f bound) ∙ e in
      let apart_body : is_apart f bound ≡ true = apart_less f bound (bound ++ names) (λ x at. append_left x bound names at) parts.1 in
      ap (λ g. safe_in_order g bound) (arranged_exists vars f bound ∙ ap (λ b. Exists vars (arranged f b)) same) ∙ in_order_exists vars (arranged f bound) bound
      ∙ and_from (not (list_any (binds vars) bound)) (safe_in_order (arranged f bound) bound) parts.0 (here bound safe_body apart_body);
  every = λ vars f here bound e c. absurd (true≢false (sym e ∙ safe_forall vars f bound));
})
