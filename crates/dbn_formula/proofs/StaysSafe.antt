-- What is safe stays safe where more is bound, and whichever safe conjunct is taken first, the same is answered.
use Rattle.std.proofs.Common.{◌≡◌, ℕ, zero, suc, ◌⊎◌, inl, inr, ⊎_elim, true, false, cond, ◌&&◌, List, [], ◌∷◌, ◌++◌, refl, ap, sym, ◌∙◌, subst, Option, Some, None, length}
use Rattle.std.specs.Option.{option_map, option_map_or}
use Rattle.std.specs.Cmp.{both_ways}
use Rattle.std.specs.List.{flat_map}
use Rattle.std.proofs.lemmas.Bool.{and_parts, and_from, or_cases, or_left, or_right, true≢false}
use Rattle.dbn_value.specs.Members.{In}
use Rattle.dbn_value.proofs.MemberLaws.{all_at, all_from, in_append, append_left, append_right, recursion_at}
use Rattle.dbn_value.specs.declared.term.Var.{Var}
use Rattle.dbn_value.specs.declared.term.Term.{Term}
use Rattle.dbn_value.specs.declared.term.Term.TheVariants as term
use Rattle.dbn_value.specs.declared.term.Cmp.{Cmp}
use Rattle.dbn_value.specs.declared.term.Cmp.TheVariants as cmp
use Rattle.dbn_formula.specs.Variables.{TypedVars, is_in}
use Rattle.dbn_formula.specs.Free.{occurrences}
use Rattle.dbn_formula.specs.Safe.{all_in, known, test_safe, outside, safe}
use Rattle.dbn_formula.specs.Conjuncts.{first_safe, taken}
use Rattle.dbn_formula.specs.declared.formula.Formula.{Formula}
use Rattle.dbn_formula.specs.declared.formula.Formula.TheVariants.{And}
use Rattle.dbn_formula.proofs.Induction.{induction}
use Rattle.dbn_formula.proofs.VariableLaws.{in_of_is, is_of_in, in_unhidden, unhidden_in}
use Rattle.dbn_formula.proofs.OrderOfParts.{taken_is, Alike}
use Rattle.dbn_formula.proofs.Arranged.{Within, within_more, alike_append, alike_self}
use Rattle.dbn_formula.proofs.SafeLaws.{safe_atom, safe_test, safe_and, safe_or, safe_not, safe_implies, safe_exists, safe_forall}

abbrev pub Found : Type 0
Found = Formula × List Formula

-- ---- one formula taken out of a list

-- `rest` is the list without g, at one place where g stands
abbrev pub Picked : Formula → List Formula → List Formula → Type 0
Picked g [] rest = ⊥
Picked g (f ∷ fs) rest = ((g ≡ f) × (rest ≡ fs)) ⊎ ((others : List Formula) × Picked g fs others × (rest ≡ f ∷ others))

pub picked_in : (g : Formula) (fs rest : List Formula) → Picked g fs rest → In g fs
picked_in g [] rest at = absurd at
picked_in g (f ∷ fs) rest at = ⊎_elim (λ here. inl here.0) (λ there. inr (picked_in g fs there.0 there.1)) at

pub picked_others : (g : Formula) (fs rest : List Formula) → Picked g fs rest → (h : Formula) → In h rest → In h fs
picked_others g [] rest at h within = absurd at
picked_others g (f ∷ fs) rest at h within =
    ⊎_elim
    (λ here. inr (subst (In h) here.1 within))
    (λ there. ⊎_elim (λ is. inl is) (λ more. inr (picked_others g fs there.0 there.1 h more)) (subst (In h) there.2 within))
    at

pub picked_between : (before : List Formula) (f : Formula) (after : List Formula) → Picked f (before ++ f ∷ after) (before ++ after)
picked_between [] f after = inl (refl, refl)
picked_between (g ∷ before) f after = inr (before ++ after, picked_between before f after, refl)

pub picked_length : (g : Formula) (fs rest : List Formula) → Picked g fs rest → length fs ≡ suc (length rest)
picked_length g [] rest at = absurd at
picked_length g (f ∷ fs) rest at =
    ⊎_elim
    (λ here. ap (λ (gs : List Formula). suc (length gs)) (sym here.1))
    (λ there. ap suc (picked_length g fs there.0 there.1) ∙ ap (λ (gs : List Formula). suc (length gs)) (sym there.2))
    at

-- two that are taken out of one list: they are one, or each can be taken out after the other, and the same is left
abbrev InEitherOrder : Formula → Formula → List Formula → List Formula → Type 0
InEitherOrder p q ps qs = ((p ≡ q) × (ps ≡ qs)) ⊎ ((left : List Formula) × Picked q ps left × Picked p qs left)

either_order : (p q : Formula) (fs ps qs : List Formula) → Picked p fs ps → Picked q fs qs → InEitherOrder p q ps qs
either_order p q [] ps qs at there = absurd at
either_order p q (f ∷ fs) ps qs at there =
    ⊎_elim
    (λ (a : (p ≡ f) × (ps ≡ fs)). ⊎_elim
    (λ (b : (q ≡ f) × (qs ≡ fs)). inl (a.0 ∙ sym b.0, a.1 ∙ sym b.1))
    (λ (b : (others : List Formula) × Picked q fs others × (qs ≡ f ∷ others)).
    inr (b.0, subst (λ l. Picked q l b.0) (sym a.1) b.1, subst (λ l. Picked p l b.0) (sym b.2) (inl (a.0, refl))))
    there)
    (λ (a : (others : List Formula) × Picked p fs others × (ps ≡ f ∷ others)). ⊎_elim
    (λ (b : (q ≡ f) × (qs ≡ fs)). inr (a.0, subst (λ l. Picked q l a.0) (sym a.2) (inl (b.0, refl)), subst (λ l. Picked p l a.0) (sym b.1) a.1))
    (λ (b : (others : List Formula) × Picked q fs others × (qs ≡ f ∷ others)). ⊎_elim
    (λ (same : (p ≡ q) × (a.0 ≡ b.0)). inl (same.0, a.2 ∙ ap (λ l. f ∷ l) same.1 ∙ sym b.2))
    (λ (left : (left : List Formula) × Picked q a.0 left × Picked p b.0 left).
    inr (f ∷ left.0, subst (λ l. Picked q l (f ∷ left.0)) (sym a.2) (inr (left.0, left.1, refl)), subst (λ l. Picked p l (f ∷ left.0)) (sym b.2) (inr (left.0, left.2, refl))))
    (either_order p q fs a.0 b.0 a.1 b.1))
    there)
    at

-- ---- the first safe one

abbrev pub FoundIn : List Formula → List Var → Option Found → Type 0
FoundIn fs bound None = (h : Formula) → In h fs → safe h bound ≡ false
FoundIn fs bound (Some found) = (safe found.0 bound ≡ true) × Picked found.0 fs found.1

found_behind : (f : Formula) (fs : List Formula) (bound : List Var) (found : Option Found) → safe f bound ≡ false → FoundIn fs bound found
    → FoundIn (f ∷ fs) bound (option_map {U = Found} (λ (g : Found). (g.0, f ∷ g.1)) found)
found_behind f fs bound None e none = λ h at. ⊎_elim (λ is. ap (λ g. safe g bound) is ∙ e) (λ there. none h there) at
found_behind f fs bound (Some g) e found = (found.0, inr (g.1, found.1, refl))

pub first_found : (fs : List Formula) (bound : List Var) → FoundIn fs bound (first_safe fs bound)
first_found [] bound = λ h at. absurd at
first_found (f ∷ fs) bound =
    elim (safe f bound) as (λ b. safe f bound ≡ b → FoundIn (f ∷ fs) bound (cond b (Some (f, fs)) (option_map {U = Found} (λ (g : Found). (g.0, f ∷ g.1)) (first_safe fs bound)))) [
      | true ↦ λ e. (e, inl (refl, refl))
      | false ↦ λ e. found_behind f fs bound (first_safe fs bound) e (first_found fs bound)
    ] refl

-- ---- parts of which each is as safe as its twin, wherever at least these variables are bound

pub record Twin (bound : List Var) (f g : Formula) : Type 0 where
  pub as_safe : (xs ys : List Var) → Within bound xs → Alike xs ys → safe f xs ≡ safe g ys
  pub vars : Alike (occurrences f) (occurrences g)

abbrev pub AreTwins : List Var → List Formula → List Formula → Type 0
AreTwins bound [] [] = Unit {0}
AreTwins bound [] (g ∷ gs) = ⊥
AreTwins bound (f ∷ fs) [] = ⊥
AreTwins bound (f ∷ fs) (g ∷ gs) = Twin bound f g × AreTwins bound fs gs

abbrev FoundTwins : List Var → Option Found → Option Found → Type 0
FoundTwins bound None None = Unit {0}
FoundTwins bound None (Some g) = ⊥
FoundTwins bound (Some f) None = ⊥
FoundTwins bound (Some f) (Some g) = Twin bound f.0 g.0 × AreTwins bound f.1 g.1

twins_behind : (bound : List Var) (f g : Formula) (first second : Option Found) → Twin bound f g → FoundTwins bound first second
    → FoundTwins bound (option_map {U = Found} (λ (h : Found). (h.0, f ∷ h.1)) first) (option_map {U = Found} (λ (h : Found). (h.0, g ∷ h.1)) second)
twins_behind bound f g None None twin found = tt
twins_behind bound f g None (Some k) twin found = absurd found
twins_behind bound f g (Some h) None twin found = absurd found
twins_behind bound f g (Some h) (Some k) twin found = (found.0, (twin, found.1))

first_twins : (bound : List Var) (fs gs : List Formula) (xs ys : List Var) → AreTwins bound fs gs → Within bound xs → Alike xs ys
    → FoundTwins bound (first_safe fs xs) (first_safe gs ys)
first_twins bound [] [] xs ys twins within alike = tt
first_twins bound [] (g ∷ gs) xs ys twins within alike = absurd twins
first_twins bound (f ∷ fs) [] xs ys twins within alike = absurd twins
first_twins bound (f ∷ fs) (g ∷ gs) xs ys twins within alike =
    subst (λ b. FoundTwins bound (first_safe (f ∷ fs) xs) (cond b (Some (g, gs)) (option_map {U = Found} (λ (h : Found). (h.0, g ∷ h.1)) (first_safe gs ys)))) (twins.0.as_safe xs ys within alike)
    (elim (safe f xs) as (λ b. FoundTwins bound (cond b (Some (f, fs)) (option_map {U = Found} (λ (h : Found). (h.0, f ∷ h.1)) (first_safe fs xs)))
    (cond b (Some (g, gs)) (option_map {U = Found} (λ (h : Found). (h.0, g ∷ h.1)) (first_safe gs ys)))) [
      | true ↦ (twins.0, twins.1)
      | false ↦ twins_behind bound f g (first_safe fs xs) (first_safe gs ys) twins.0 (first_twins bound fs gs xs ys twins.1 within alike)
    ])

twins_after : (n : ℕ) (bound xs ys : List Var) (first second : Option Found) → FoundTwins bound first second → Within bound xs → Alike xs ys
    → ((fs gs : List Formula) (us vs : List Var) → AreTwins bound fs gs → Within bound us → Alike us vs → taken n fs us ≡ taken n gs vs)
    → option_map_or (λ (h : Found). taken n h.1 (xs ++ occurrences h.0)) first false ≡ option_map_or (λ (h : Found). taken n h.1 (ys ++ occurrences h.0)) second false
twins_after n bound xs ys None None found within alike next = refl
twins_after n bound xs ys None (Some k) found within alike next = absurd found
twins_after n bound xs ys (Some h) None found within alike next = absurd found
twins_after n bound xs ys (Some h) (Some k) found within alike next =
    next h.1 k.1 (xs ++ occurrences h.0) (ys ++ occurrences k.0) found.1 (λ x at. append_left x xs (occurrences h.0) (within x at))
    (alike_append xs (occurrences h.0) ys (occurrences k.0) alike found.0.vars)

-- all of them are taken where all of their twins are
pub taken_twins : (n : ℕ) (bound : List Var) (fs gs : List Formula) (xs ys : List Var) → AreTwins bound fs gs → Within bound xs → Alike xs ys → taken n fs xs ≡ taken n gs ys
taken_twins zero bound [] [] xs ys twins within alike = refl
taken_twins (suc n) bound [] [] xs ys twins within alike = refl
taken_twins n bound [] (g ∷ gs) xs ys twins within alike = absurd twins
taken_twins n bound (f ∷ fs) [] xs ys twins within alike = absurd twins
taken_twins zero bound (f ∷ fs) (g ∷ gs) xs ys twins within alike = refl
taken_twins (suc n) bound (f ∷ fs) (g ∷ gs) xs ys twins within alike =
    twins_after n bound xs ys (first_safe (f ∷ fs) xs) (first_safe (g ∷ gs) ys) (first_twins bound (f ∷ fs) (g ∷ gs) xs ys twins within alike) within alike
    (λ us vs more others. taken_twins n bound us vs more others)

-- ---- any safe part can be taken first

abbrev pub StaysSafe : Formula → Type 0
StaysSafe f = (xs ys : List Var) → Within xs ys → safe f xs ≡ true → safe f ys ≡ true

abbrev pub AllStaySafe : List Formula → Type 0
AllStaySafe fs = (h : Formula) → In h fs → StaysSafe h

pub own_twin : (bound : List Var) (f : Formula) → StaysSafe f → Twin bound f f
own_twin bound f stays = record {
  as_safe = λ xs ys within alike. both_ways (safe f xs) (safe f ys) (stays xs ys alike.there) (stays ys xs alike.back);
  vars = alike_self (occurrences f);
}

own_twins : (bound : List Var) (fs : List Formula) → AllStaySafe fs → AreTwins bound fs fs
own_twins bound [] stay = tt
own_twins bound (f ∷ fs) stay = (own_twin bound f (stay f (inl refl)), own_twins bound fs (λ h at. stay h (inr at)))

none_taken : (g : Formula) (fs rest : List Formula) (bound : List Var) → Picked g fs rest → taken zero fs bound ≡ false
none_taken g [] rest bound at = absurd at
none_taken g (f ∷ fs) rest bound at = refl

abbrev AnyFirst : ℕ → Type 0
AnyFirst n = (fs : List Formula) (p : Formula) (rest : List Formula) (bound : List Var) → AllStaySafe fs → Picked p fs rest → safe p bound ≡ true
    → taken (suc n) fs bound ≡ taken n rest (bound ++ occurrences p)

-- two safe parts, taken in either order
two_first : (n : ℕ) (p q : Formula) (ps qs left : List Formula) (bound : List Var) → AnyFirst n → StaysSafe p → StaysSafe q → AllStaySafe ps → AllStaySafe qs
    → Picked q ps left → Picked p qs left → safe p bound ≡ true → safe q bound ≡ true
    → taken (suc n) qs (bound ++ occurrences q) ≡ taken (suc n) ps (bound ++ occurrences p)
two_first n p q ps qs left bound next p_stays q_stays ps_stay qs_stay at_q at_p p_safe q_safe =
    let with_p : List Var = bound ++ occurrences p in
    let with_q : List Var = bound ++ occurrences q in
    next qs p left with_q qs_stay at_p (p_stays bound with_q (λ x at. append_left x bound (occurrences q) at) p_safe)
    ∙ taken_twins n [] left left (with_q ++ occurrences p) (with_p ++ occurrences q) (own_twins [] left (λ h at. ps_stay h (picked_others q ps left at_q h at)))
    (λ x at. absurd at) (turned bound (occurrences q) (occurrences p))
    ∙ sym (next ps q left with_p ps_stay at_q (q_stays bound with_p (λ x at. append_left x bound (occurrences p) at) q_safe))
  where
    half : (xs ys zs : List Var) (x : Var) → In x ((xs ++ ys) ++ zs) → In x ((xs ++ zs) ++ ys)
    half xs ys zs x at =
        ⊎_elim
        (λ front. ⊎_elim (λ a. append_left x (xs ++ zs) ys (append_left x xs zs a)) (λ b. append_right_of x b) (in_append x xs ys front))
        (λ c. append_left x (xs ++ zs) ys (append_back x c))
        (in_append x (xs ++ ys) zs at)
      where
        append_right_of : (y : Var) → In y ys → In y ((xs ++ zs) ++ ys)
        append_right_of y b = append_right y (xs ++ zs) ys b

        append_back : (y : Var) → In y zs → In y (xs ++ zs)
        append_back y c = append_right y xs zs c

    turned : (xs ys zs : List Var) → Alike ((xs ++ ys) ++ zs) ((xs ++ zs) ++ ys)
    turned xs ys zs = record { there = half xs ys zs; back = half xs zs ys }

first_after : (n : ℕ) (fs : List Formula) (p : Formula) (rest : List Formula) (bound : List Var) (found : Option Found) → FoundIn fs bound found
    → AllStaySafe fs → Picked p fs rest → safe p bound ≡ true
    → ((q : Formula) (qs left : List Formula) → Picked q fs qs → safe q bound ≡ true → Picked q rest left → Picked p qs left
    → taken n qs (bound ++ occurrences q) ≡ taken n rest (bound ++ occurrences p))
    → option_map_or (λ (h : Found). taken n h.1 (bound ++ occurrences h.0)) found false ≡ taken n rest (bound ++ occurrences p)
first_after n fs p rest bound None none stay at p_safe apart = absurd (true≢false (sym p_safe ∙ none p (picked_in p fs rest at)))
first_after n fs p rest bound (Some g) found stay at p_safe apart =
    ⊎_elim
    (λ (same : (p ≡ g.0) × (rest ≡ g.1)). ap (λ (h : Formula). taken n g.1 (bound ++ occurrences h)) (sym same.0) ∙ ap (λ (gs : List Formula). taken n gs (bound ++ occurrences p)) (sym same.1))
    (λ (left : (left : List Formula) × Picked g.0 rest left × Picked p g.1 left). apart g.0 g.1 left.0 found.1 found.0 left.1 left.2)
    (either_order p g.0 fs rest g.1 at found.1)

pub any_first : (n : ℕ) → AnyFirst n
any_first n [] p rest bound stay at e = absurd at
any_first zero (f ∷ fs) p rest bound stay at e =
    first_after zero (f ∷ fs) p rest bound (first_safe (f ∷ fs) bound) (first_found (f ∷ fs) bound) stay at e
    (λ q qs left at_q q_safe q_left p_left. none_taken p qs left (bound ++ occurrences q) p_left ∙ sym (none_taken q rest left (bound ++ occurrences p) q_left))
any_first (suc n) (f ∷ fs) p rest bound stay at e =
    first_after (suc n) (f ∷ fs) p rest bound (first_safe (f ∷ fs) bound) (first_found (f ∷ fs) bound) stay at e
    (λ q qs left at_q q_safe q_left p_left.
    two_first n p q rest qs left bound (any_first n) (stay p (picked_in p (f ∷ fs) rest at)) (stay q (picked_in q (f ∷ fs) qs at_q))
    (λ h within. stay h (picked_others p (f ∷ fs) rest at h within)) (λ h within. stay h (picked_others q (f ∷ fs) qs at_q h within)) q_left p_left e q_safe)

-- ---- where more is bound, still all are taken

more_after : (n : ℕ) (fs : List Formula) (xs ys : List Var) (found : Option Found) → FoundIn fs xs found → AllStaySafe fs → Within xs ys
    → option_map_or (λ (h : Found). taken n h.1 (xs ++ occurrences h.0)) found false ≡ true
    → ((gs : List Formula) (us vs : List Var) → AllStaySafe gs → Within us vs → taken n gs us ≡ true → taken n gs vs ≡ true)
    → taken (suc n) fs ys ≡ true
more_after n fs xs ys None none stay within e next = absurd (true≢false (sym e))
more_after n fs xs ys (Some g) found stay within e next =
    any_first n fs g.0 g.1 ys stay found.1 (stay g.0 (picked_in g.0 fs g.1 found.1) xs ys within found.0)
    ∙ next g.1 (xs ++ occurrences g.0) (ys ++ occurrences g.0) (λ h at. stay h (picked_others g.0 fs g.1 found.1 h at)) (within_more xs ys (occurrences g.0) within) e

pub taken_more : (n : ℕ) (fs : List Formula) (xs ys : List Var) → AllStaySafe fs → Within xs ys → taken n fs xs ≡ true → taken n fs ys ≡ true
taken_more zero [] xs ys stay within e = refl
taken_more (suc n) [] xs ys stay within e = refl
taken_more zero (f ∷ fs) xs ys stay within e = absurd (true≢false (sym e))
taken_more (suc n) (f ∷ fs) xs ys stay within e =
    more_after n (f ∷ fs) xs ys (first_safe (f ∷ fs) xs) (first_found (f ∷ fs) xs) stay within e (taken_more n)

-- ---- the tests of one formula

is_in_more : (xs ys : List Var) (x : Var) → Within xs ys → is_in x xs ≡ true → is_in x ys ≡ true
is_in_more xs ys x within e = is_of_in x ys (within x (in_of_is x xs e))

known_more : (xs ys : List Var) (a : Term) → Within xs ys → known xs a ≡ true → known ys a ≡ true
known_more xs ys (term.Var x) within e = is_in_more xs ys x within e
known_more xs ys (term.Const v) within e = refl

both_more : (xs ys : List Var) (left right : Term) → Within xs ys → (known xs left && known xs right) ≡ true → (known ys left && known ys right) ≡ true
both_more xs ys left right within e =
    let parts = and_parts (known xs left) (known xs right) e in
    and_from (known ys left) (known ys right) (known_more xs ys left within parts.0) (known_more xs ys right within parts.1)

test_more : (c : Cmp) (left right : Term) (xs ys : List Var) → Within xs ys → test_safe c left right xs ≡ true → test_safe c left right ys ≡ true
test_more cmp.Eq left right xs ys within e =
    ⊎_elim
    (λ a. or_left (known ys left) (known ys right) (known_more xs ys left within a))
    (λ b. or_right (known ys left) (known ys right) (known_more xs ys right within b))
    (or_cases (known xs left) (known xs right) e)
test_more cmp.Ne left right xs ys within e = both_more xs ys left right within e
test_more cmp.Lt left right xs ys within e = both_more xs ys left right within e
test_more cmp.Le left right xs ys within e = both_more xs ys left right within e
test_more cmp.Gt left right xs ys within e = both_more xs ys left right within e
test_more cmp.Ge left right xs ys within e = both_more xs ys left right within e

pub all_in_more : (all xs ys : List Var) → Within xs ys → all_in all xs ≡ true → all_in all ys ≡ true
all_in_more all xs ys within e = all_from (λ x. is_in x ys) all (λ x at. is_in_more xs ys x within (all_at (λ y. is_in y xs) x all e at))

pub outside_more : (vars : TypedVars) (xs ys : List Var) → Within xs ys → Within (outside vars xs) (outside vars ys)
outside_more vars xs ys within x at = let found = in_unhidden vars x xs at in unhidden_in vars x ys (within x found.0) found.1

-- ---- what is safe stays safe

pub safe_all : (fs : List Formula) (bound : List Var) → safe (And fs) bound ≡ taken (length fs) fs bound
safe_all fs bound = safe_and fs bound ∙ taken_is (length fs) fs bound

pub stays_safe : (f : Formula) → StaysSafe f
stays_safe = induction StaysSafe (record {
  atom = λ rel terms xs ys within e. safe_atom rel terms ys;
  test = λ c left right xs ys within e. safe_test c left right ys ∙ test_more c left right xs ys within (sym (safe_test c left right xs) ∙ e);
  both = λ fs each xs ys within e.
      safe_all fs ys ∙ taken_more (length fs) fs xs ys (λ h at. recursion_at StaysSafe h fs each at) within (sym (safe_all fs xs) ∙ e);
  either = λ fs each xs ys within e.
      let all : List Var = flat_map occurrences fs in
      safe_or fs ys ∙ all_from (λ f. safe f ys && all_in all (ys ++ occurrences f)) fs (λ f at.
      let parts = and_parts (safe f xs) (all_in all (xs ++ occurrences f)) (all_at (λ g. safe g xs && all_in all (xs ++ occurrences g)) f fs (sym (safe_or fs xs) ∙ e) at) in
      and_from (safe f ys) (all_in all (ys ++ occurrences f)) (recursion_at StaysSafe f fs each at xs ys within parts.0)
      (all_in_more all (xs ++ occurrences f) (ys ++ occurrences f) (within_more xs ys (occurrences f) within) parts.1));
  denial = λ f here xs ys within e.
      let parts = and_parts (all_in (occurrences f) xs) (safe f xs) (sym (safe_not f xs) ∙ e) in
      safe_not f ys ∙ and_from (all_in (occurrences f) ys) (safe f ys) (all_in_more (occurrences f) xs ys within parts.0) (here xs ys within parts.1);
  implication = λ f g here there xs ys within e. absurd (true≢false (sym e ∙ safe_implies f g xs));
  some = λ vars f here xs ys within e.
      safe_exists vars f ys ∙ here (outside vars xs) (outside vars ys) (outside_more vars xs ys within) (sym (safe_exists vars f xs) ∙ e);
  every = λ vars f here xs ys within e. absurd (true≢false (sym e ∙ safe_forall vars f xs));
})

-- the same as one conjunction and another
pub pick_first : (g : Formula) (fs rest : List Formula) (bound : List Var) → Picked g fs rest → safe g bound ≡ true → safe (And fs) bound ≡ safe (And rest) (bound ++ occurrences g)
pick_first g fs rest bound at e =
    safe_all fs bound ∙ ap (λ (n : ℕ). taken n fs bound) (picked_length g fs rest at)
    ∙ any_first (length rest) fs g rest bound (λ h within. stays_safe h) at e ∙ sym (safe_all rest (bound ++ occurrences g))

pub safe_first : (before : List Formula) (f : Formula) (after : List Formula) (bound : List Var) → safe f bound ≡ true
    → safe (And (before ++ f ∷ after)) bound ≡ safe (And (before ++ after)) (bound ++ occurrences f)
safe_first before f after bound e = pick_first f (before ++ f ∷ after) (before ++ after) bound (picked_between before f after) e
