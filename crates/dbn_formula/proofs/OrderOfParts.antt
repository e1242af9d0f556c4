-- Conjuncts in the order in which the safety test takes them, said of formulas.
use Rattle.std.proofs.Common.{◌≡◌, ℕ, zero, suc, ◌⊎◌, inl, inr, ⊎_elim, Bool, true, false, cond, List, [], ◌∷◌, ◌++◌, map, refl, ap, sym, ◌∙◌, subst, Option, Some, None}
use Rattle.std.specs.Option.{option_map, option_map_or}
use Rattle.std.specs.List.{list_all, list_any, flat_map}
use Rattle.std.specs.Cmp.{both_ways}
use Rattle.dbn_value.specs.Members.{In}
use Rattle.dbn_value.proofs.MemberLaws.{any_in, in_any, all_at, all_from, in_map, map_in, in_flat, flat_in}
use Rattle.dbn_value.specs.declared.term.Var.{Var}
use Rattle.dbn_formula.specs.Free.{occurrences}
pub use Rattle.dbn_formula.specs.Conjuncts.{first_safe, taken, order}
use Rattle.dbn_formula.specs.Safe.{Level, first_fit, all_taken, in_order, safe, arranged, as_level}
use Rattle.dbn_formula.specs.declared.formula.Formula.{Formula}

-- ---- the same as over levels

abbrev as_levels : Formula × List Formula → Level × List Level
as_levels found = (as_level found.0, map as_level found.1)

behind : (f : Formula) (found : Option (Formula × List Formula))
    → option_map (λ (l : Level × List Level). (l.0, as_level f ∷ l.1)) (option_map as_levels found) ≡ option_map as_levels (option_map (λ (g : Formula × List Formula). (g.0, f ∷ g.1)) found)
behind f None = refl
behind f (Some g) = refl

first_is : (fs : List Formula) (bound : List Var) → first_fit (map as_level fs) bound ≡ option_map as_levels (first_safe fs bound)
first_is [] bound = refl
first_is (f ∷ fs) bound =
    elim (safe f bound) as (λ b. cond b (Some (as_level f, map as_level fs)) (option_map (λ (l : Level × List Level). (l.0, as_level f ∷ l.1)) (first_fit (map as_level fs) bound))
    ≡ option_map as_levels (cond b (Some (f, fs)) (option_map (λ (g : Formula × List Formula). (g.0, f ∷ g.1)) (first_safe fs bound)))) [
      | true ↦ refl
      | false ↦ ap (option_map (λ (l : Level × List Level). (l.0, as_level f ∷ l.1))) (first_is fs bound) ∙ behind f (first_safe fs bound)
    ]

taken_after : (n : ℕ) (bound : List Var) (found : Option (Formula × List Formula))
    → ((fs : List Formula) (more : List Var) → all_taken n (map as_level fs) more ≡ taken n fs more)
    → option_map_or (λ (l : Level × List Level). all_taken n l.1 (bound ++ l.0.vars)) (option_map as_levels found) false
    ≡ option_map_or (λ (g : Formula × List Formula). taken n g.1 (bound ++ occurrences g.0)) found false
taken_after n bound None next = refl
taken_after n bound (Some g) next = next g.1 (bound ++ occurrences g.0)

pub taken_is : (n : ℕ) (fs : List Formula) (bound : List Var) → all_taken n (map as_level fs) bound ≡ taken n fs bound
taken_is zero [] bound = refl
taken_is (suc n) [] bound = refl
taken_is zero (f ∷ fs) bound = refl
taken_is (suc n) (f ∷ fs) bound =
    ap (λ o. option_map_or (λ (l : Level × List Level). all_taken n l.1 (bound ++ l.0.vars)) o false) (first_is (f ∷ fs) bound)
    ∙ taken_after n bound (first_safe (f ∷ fs) bound) (taken_is n)

makes_is : (fs : List Formula) (bound : List Var) → map (λ (p : Level). p.make bound) (map as_level fs) ≡ map (λ g. arranged g bound) fs
makes_is [] bound = refl
makes_is (f ∷ fs) bound = ap (λ l. arranged f bound ∷ l) (makes_is fs bound)

order_after : (n : ℕ) (bound : List Var) (found : Option (Formula × List Formula)) (others : List Formula)
    → ((fs : List Formula) (more : List Var) → in_order n (map as_level fs) more ≡ order n fs more)
    → option_map_or (λ (l : Level × List Level). l.0.make bound ∷ in_order n l.1 (bound ++ l.0.vars)) (option_map as_levels found) others
    ≡ option_map_or (λ (g : Formula × List Formula). arranged g.0 bound ∷ order n g.1 (bound ++ occurrences g.0)) found others
order_after n bound None others next = refl
order_after n bound (Some g) others next = ap (λ l. arranged g.0 bound ∷ l) (next g.1 (bound ++ occurrences g.0))

pub order_is : (n : ℕ) (fs : List Formula) (bound : List Var) → in_order n (map as_level fs) bound ≡ order n fs bound
order_is zero [] bound = refl
order_is (suc n) [] bound = refl
order_is zero (f ∷ fs) bound = makes_is (f ∷ fs) bound
order_is (suc n) (f ∷ fs) bound =
    ap (λ o. option_map_or (λ (l : Level × List Level). l.0.make bound ∷ in_order n l.1 (bound ++ l.0.vars)) o (map (λ (p : Level). p.make bound) (map as_level (f ∷ fs)))) (first_is (f ∷ fs) bound)
    ∙ ap (option_map_or (λ (l : Level × List Level). l.0.make bound ∷ in_order n l.1 (bound ++ l.0.vars)) (option_map as_levels (first_safe (f ∷ fs) bound))) (makes_is (f ∷ fs) bound)
    ∙ order_after n bound (first_safe (f ∷ fs) bound) (map (λ g. arranged g bound) (f ∷ fs)) (order_is n)

-- ---- what is taken first

pub record Split (fs : List Formula) (bound : List Var) (g : Formula) (rest : List Formula) : Type 0 where
  pub is_safe : safe g bound ≡ true
  pub parts : (h : Formula) → In h fs → (h ≡ g) ⊎ In h rest
  pub first : In g fs
  pub others : (h : Formula) → In h rest → In h fs

abbrev pub SplitBy : List Formula → List Var → Option (Formula × List Formula) → Type 0
SplitBy fs bound None = Unit {0}
SplitBy fs bound (Some found) = Split fs bound found.0 found.1

split_behind : (f : Formula) (fs : List Formula) (bound : List Var) (found : Option (Formula × List Formula)) → SplitBy fs bound found
    → SplitBy (f ∷ fs) bound (option_map (λ (g : Formula × List Formula). (g.0, f ∷ g.1)) found)
split_behind f fs bound None split = tt
split_behind f fs bound (Some g) split = record {
  is_safe = split.is_safe;
  parts = λ h at. ⊎_elim (λ here. inr (inl here)) (λ there. ⊎_elim (λ is. inl is) (λ more. inr (inr more)) (split.parts h there)) at;
  first = inr split.first;
  others = λ h at. ⊎_elim (λ here. inl here) (λ there. inr (split.others h there)) at;
}

pub first_split : (fs : List Formula) (bound : List Var) → SplitBy fs bound (first_safe fs bound)
first_split [] bound = tt
first_split (f ∷ fs) bound =
    elim (safe f bound) as (λ b. safe f bound ≡ b → SplitBy (f ∷ fs) bound (cond b (Some (f, fs)) (option_map (λ (g : Formula × List Formula). (g.0, f ∷ g.1)) (first_safe fs bound)))) [
      | true ↦ λ e. record { is_safe = e; parts = λ h at. at; first = inl refl; others = λ h at. inr at }
      | false ↦ λ e. split_behind f fs bound (first_safe fs bound) (first_split fs bound)
    ] refl

-- ---- the parts of an arranged list are the arranged parts

pub record Ordered (fs gs : List Formula) : Type 0 where
  pub from : (g : Formula) → In g gs → (h : Formula) × (b : List Var) × In h fs × (g ≡ arranged h b)
  pub to : (h : Formula) → In h fs → (b : List Var) × In (arranged h b) gs

pub all_arranged : (fs : List Formula) (bound : List Var) → Ordered fs (map (λ g. arranged g bound) fs)
all_arranged fs bound = record {
  from = λ g at. let found = in_map (λ h. arranged h bound) g fs at in (found.0, bound, found.1, found.2);
  to = λ h at. (bound, map_in (λ g. arranged g bound) h fs at);
}

one_more : (fs : List Formula) (bound : List Var) (g : Formula) (rest gs : List Formula) → Split fs bound g rest → Ordered rest gs → Ordered fs (arranged g bound ∷ gs)
one_more fs bound g rest gs split ordered = record {
  from = λ h at. ⊎_elim
      (λ here. (g, bound, split.first, here))
      (λ there. let found = ordered.from h there in (found.0, found.1, split.others found.0 found.2, found.3))
      at;
  to = λ h at. ⊎_elim
      (λ here. (bound, inl (ap (λ k. arranged k bound) here)))
      (λ there. let found = ordered.to h there in (found.0, inr found.1))
      (split.parts h at);
}

ordered_after : (n : ℕ) (fs : List Formula) (bound : List Var) (found : Option (Formula × List Formula)) → SplitBy fs bound found
    → ((gs : List Formula) (more : List Var) → Ordered gs (order n gs more))
    → Ordered fs (option_map_or (λ (g : Formula × List Formula). arranged g.0 bound ∷ order n g.1 (bound ++ occurrences g.0)) found (map (λ g. arranged g bound) fs))
ordered_after n fs bound None split next = all_arranged fs bound
ordered_after n fs bound (Some g) split next = one_more fs bound g.0 g.1 (order n g.1 (bound ++ occurrences g.0)) split (next g.1 (bound ++ occurrences g.0))

pub ordered : (n : ℕ) (fs : List Formula) (bound : List Var) → Ordered fs (order n fs bound)
ordered zero [] bound = record { from = λ g at. absurd at; to = λ h at. absurd at }
ordered (suc n) [] bound = record { from = λ g at. absurd at; to = λ h at. absurd at }
ordered zero (f ∷ fs) bound = all_arranged (f ∷ fs) bound
ordered (suc n) (f ∷ fs) bound = ordered_after n (f ∷ fs) bound (first_safe (f ∷ fs) bound) (first_split (f ∷ fs) bound) (ordered n)

-- ---- tests and lists of such parts

pub all_ordered : (t : Formula → Bool) (fs gs : List Formula) → Ordered fs gs → ((h : Formula) → In h fs → (b : List Var) → t (arranged h b) ≡ t h) → list_all t gs ≡ list_all t fs
all_ordered t fs gs ordered same =
    both_ways (list_all t gs) (list_all t fs)
    (λ e. all_from t fs (λ h at. let found = ordered.to h at in sym (same h at found.0) ∙ all_at t (arranged h found.0) gs e found.1))
    (λ e. all_from t gs (λ g at. let found = ordered.from g at in ap t found.3 ∙ same found.0 found.2 found.1 ∙ all_at t found.0 fs e found.2))

pub any_ordered : (t : Formula → Bool) (fs gs : List Formula) → Ordered fs gs → ((h : Formula) → In h fs → (b : List Var) → t (arranged h b) ≡ t h) → list_any t gs ≡ list_any t fs
any_ordered t fs gs ordered same =
    both_ways (list_any t gs) (list_any t fs)
    (λ e. let some = any_in t gs e in let found = ordered.from some.0 some.1 in in_any t found.0 fs found.2 (sym (same found.0 found.2 found.1) ∙ sym (ap t found.3) ∙ some.2))
    (λ e. let some = any_in t fs e in let found = ordered.to some.0 some.1 in in_any t (arranged some.0 found.0) gs found.1 (same some.0 some.1 found.0 ∙ some.2))

-- two lists have the same members
pub record Alike {A : Type 0} (xs ys : List A) : Type 0 where
  pub there : (x : A) → In x xs → In x ys
  pub back : (x : A) → In x ys → In x xs

pub flat_ordered : {A : Type 0} (k : Formula → List A) (fs gs : List Formula) → Ordered fs gs → ((h : Formula) → In h fs → (b : List Var) → Alike (k (arranged h b)) (k h)) → Alike (flat_map k gs) (flat_map k fs)
flat_ordered k fs gs ordered same = record {
  there = λ x at.
      let some = in_flat k x gs at in
      let found = ordered.from some.0 some.1 in
      flat_in k x found.0 fs found.2 ((same found.0 found.2 found.1).there x (subst (λ g. In x (k g)) found.3 some.2));
  back = λ x at.
      let some = in_flat k x fs at in
      let found = ordered.to some.0 some.1 in
      flat_in k x (arranged some.0 found.0) gs found.1 ((same some.0 some.1 found.0).back x some.2);
}
