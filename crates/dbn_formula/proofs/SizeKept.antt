-- Renaming apart and arranging keep the size of a formula.
use Rattle.std.proofs.Common.{◌≡◌, ℕ, zero, suc, ◌+◌, ◌++◌, ◌*◌, ◌≤◌, max, inl, inr, true, false, cond, List, [], ◌∷◌, map, refl, ap, sym, ◌∙◌, subst, Option, Some, None, length, arith}
use Rattle.std.specs.Option.{option_map, option_map_or}
use Rattle.std.specs.List.{AllByRecursion}
use Rattle.std.proofs.lemmas.List.{length-map}
use Rattle.dbn_value.specs.Members.{In}
use Rattle.dbn_value.proofs.MemberLaws.{recursion_at}
use Rattle.dbn_value.specs.declared.term.Var.{Var}
use Rattle.dbn_value.specs.declared.term.Term.{Term}
use Rattle.dbn_value.specs.declared.term.Cmp.{Cmp}
use Rattle.dbn_formula.specs.Variables.{TypedVars}
use Rattle.dbn_formula.specs.Free.{occurrences}
use Rattle.dbn_formula.specs.Size.{total, size}
use Rattle.dbn_formula.specs.Normal.{normal}
use Rattle.dbn_formula.specs.Apart.{Renaming, marks, next_mark, renamed_term, fresh, last_mark, opened, renamed_at, last_at, renamed_all, renamed}
use Rattle.dbn_formula.specs.Safe.{outside, safe, arranged}
use Rattle.dbn_formula.specs.Solutions.{solvable}
use Rattle.dbn_formula.specs.declared.formula.Formula.{Formula}
use Rattle.dbn_formula.specs.declared.formula.Formula.TheVariants.{Atom, Test, And, Or, Not, Implies, Exists, Forall}
use Rattle.dbn_formula.proofs.Induction.{induction}
use Rattle.dbn_formula.proofs.SizeLaws.{size_atom, size_test, size_and, size_or, size_not, size_implies, size_exists, size_forall}
use Rattle.dbn_formula.proofs.NormalSize.{small}
use Rattle.dbn_formula.proofs.ApartLaws.{renamed_atom, renamed_test, renamed_and, renamed_or, renamed_not, renamed_implies, renamed_exists, renamed_forall}
use Rattle.dbn_formula.proofs.SafeLaws.{arranged_atom, arranged_test, arranged_and, arranged_or, arranged_not, arranged_implies, arranged_exists, arranged_forall}
use Rattle.dbn_formula.proofs.OrderOfParts.{first_safe, order, order_is, SplitBy, first_split}

-- ---- renaming apart

fresh_length : (used : List ℕ) (vars : TypedVars) (n : ℕ) → length (fresh used vars n) ≡ length vars
fresh_length used [] n = refl
fresh_length used (x ∷ vars) n = ap suc (fresh_length used vars (next_mark used n))

module _ (used : List ℕ) where
  abbrev KeptRenamed : Formula → Type 0
  KeptRenamed f = (names : Renaming) (n : ℕ) → size (renamed_at used f names n) ≡ size f

  all_renamed : (fs : List Formula) → AllByRecursion KeptRenamed fs → (names : Renaming) (n : ℕ) → total (map size (renamed_all used fs names n)) ≡ total (map size fs)
  all_renamed [] each names n = refl
  all_renamed (f ∷ fs) each names n =
      ap (λ k. k + total (map size (renamed_all used fs names (last_at used f names n)))) (each.0 names n)
      ∙ ap (λ k. size f + k) (all_renamed fs each.1 names (last_at used f names n))

  renames_size : (f : Formula) → KeptRenamed f
  renames_size = induction KeptRenamed (record {
    atom = λ rel terms names n. ap size (renamed_atom used rel terms names n) ∙ size_atom rel (map (renamed_term names) terms)
        ∙ ap (λ k. 1 + k) (length-map terms (renamed_term names)) ∙ sym (size_atom rel terms);
    test = λ c left right names n. ap size (renamed_test used c left right names n) ∙ size_test c (renamed_term names left) (renamed_term names right) ∙ sym (size_test c left right);
    both = λ fs each names n. ap size (renamed_and used fs names n) ∙ size_and (renamed_all used fs names n) ∙ ap (λ k. 1 + k) (all_renamed fs each names n) ∙ sym (size_and fs);
    either = λ fs each names n. ap size (renamed_or used fs names n) ∙ size_or (renamed_all used fs names n) ∙ ap (λ k. 1 + k) (all_renamed fs each names n) ∙ sym (size_or fs);
    denial = λ f here names n. ap size (renamed_not used f names n) ∙ size_not (renamed_at used f names n) ∙ ap (λ k. 1 + k) (here names n) ∙ sym (size_not f);
    implication = λ f g here there names n. let next : ℕ = last_at used f names n in
        ap size (renamed_implies used f g names n) ∙ size_implies (renamed_at used f names n) (renamed_at used g names next)
        ∙ ap (λ k. 1 + k + size (renamed_at used g names next)) (here names n) ∙ ap (λ k. 1 + size f + k) (there names next) ∙ sym (size_implies f g);
    some = λ vars f here names n. let inner : Formula = renamed_at used f (opened used vars n names) (last_mark used vars n) in
        ap size (renamed_exists used vars f names n) ∙ size_exists (fresh used vars n) inner
        ∙ ap (λ k. max 1 k + size inner) (fresh_length used vars n) ∙ ap (λ k. max 1 (length vars) + k) (here (opened used vars n names) (last_mark used vars n)) ∙ sym (size_exists vars f);
    every = λ vars f here names n. let inner : Formula = renamed_at used f (opened used vars n names) (last_mark used vars n) in
        ap size (renamed_forall used vars f names n) ∙ size_forall (fresh used vars n) inner
        ∙ ap (λ k. max 1 k + size inner) (fresh_length used vars n) ∙ ap (λ k. max 1 (length vars) + k) (here (opened used vars n names) (last_mark used vars n)) ∙ sym (size_forall vars f);
  })

pub renamed_size : (f : Formula) → size (renamed f) ≡ size f
renamed_size f = renames_size (marks f) f [] 0

-- ---- arranging

-- one that is taken and the others are as great as all
abbrev SumBy : List Formula → Option (Formula × List Formula) → Type 0
SumBy fs None = Unit {0}
SumBy fs (Some found) = total (map size fs) ≡ size found.0 + total (map size found.1)

sum_behind : (f : Formula) (fs : List Formula) (found : Option (Formula × List Formula)) → SumBy fs found
    → SumBy (f ∷ fs) (option_map (λ (g : Formula × List Formula). (g.0, f ∷ g.1)) found)
sum_behind f fs None sum = tt
sum_behind f fs (Some g) sum = ap (λ k. size f + k) sum ∙ turned (size f) (size g.0) (total (map size g.1))
  where
    turned : (a b c : ℕ) → a + (b + c) ≡ b + (a + c)
    turned a b c = omega arith

first_sum : (fs : List Formula) (bound : List Var) → SumBy fs (first_safe fs bound)
first_sum [] bound = tt
first_sum (f ∷ fs) bound =
    elim (safe f bound) as (λ b. SumBy (f ∷ fs) (cond b (Some (f, fs)) (option_map (λ (g : Formula × List Formula). (g.0, f ∷ g.1)) (first_safe fs bound)))) [
      | true ↦ refl
      | false ↦ sum_behind f fs (first_safe fs bound) (first_sum fs bound)
    ]

-- each part of the list keeps its size
abbrev AllKeep : List Formula → Type 0
AllKeep fs = (f : Formula) → In f fs → (bound : List Var) → size (arranged f bound) ≡ size f

each_sum : (fs : List Formula) (bound : List Var) → AllKeep fs → total (map size (map (λ g. arranged g bound) fs)) ≡ total (map size fs)
each_sum [] bound keep = refl
each_sum (f ∷ fs) bound keep =
    ap (λ k. k + total (map size (map (λ g. arranged g bound) fs))) (keep f (inl refl) bound)
    ∙ ap (λ k. size f + k) (each_sum fs bound (λ g at. keep g (inr at)))

order_after : (n : ℕ) (fs : List Formula) (bound : List Var) (found : Option (Formula × List Formula)) → SumBy fs found → SplitBy fs bound found → AllKeep fs
    → ((gs : List Formula) (more : List Var) → AllKeep gs → total (map size (order n gs more)) ≡ total (map size gs))
    → total (map size (option_map_or (λ (g : Formula × List Formula). arranged g.0 bound ∷ order n g.1 (bound ++ occurrences g.0)) found (map (λ g. arranged g bound) fs))) ≡ total (map size fs)
order_after n fs bound None sum split keep next = each_sum fs bound keep
order_after n fs bound (Some g) sum split keep next =
    ap (λ k. k + total (map size (order n g.1 (bound ++ occurrences g.0)))) (keep g.0 split.first bound)
    ∙ ap (λ k. size g.0 + k) (next g.1 (bound ++ occurrences g.0) (λ h at. keep h (split.others h at)))
    ∙ sym sum

order_sum : (n : ℕ) (fs : List Formula) (bound : List Var) → AllKeep fs → total (map size (order n fs bound)) ≡ total (map size fs)
order_sum zero [] bound keep = refl
order_sum (suc n) [] bound keep = refl
order_sum zero (f ∷ fs) bound keep = each_sum (f ∷ fs) bound keep
order_sum (suc n) (f ∷ fs) bound keep = order_after n (f ∷ fs) bound (first_safe (f ∷ fs) bound) (first_sum (f ∷ fs) bound) (first_split (f ∷ fs) bound) keep (order_sum n)

abbrev KeptArranged : Formula → Type 0
KeptArranged f = (bound : List Var) → size (arranged f bound) ≡ size f

pub arranged_size : (f : Formula) → KeptArranged f
arranged_size = induction KeptArranged (record {
  atom = λ rel terms bound. ap size (arranged_atom rel terms bound);
  test = λ c left right bound. ap size (arranged_test c left right bound);
  both = λ fs each bound.
      ap size (arranged_and fs bound ∙ ap And (order_is (length fs) fs bound)) ∙ size_and (order (length fs) fs bound)
      ∙ ap (λ k. 1 + k) (order_sum (length fs) fs bound (λ h at. recursion_at KeptArranged h fs each at)) ∙ sym (size_and fs);
  either = λ fs each bound.
      ap size (arranged_or fs bound) ∙ size_or (map (λ f. arranged f bound) fs)
      ∙ ap (λ k. 1 + k) (each_sum fs bound (λ h at. recursion_at KeptArranged h fs each at)) ∙ sym (size_or fs);
  denial = λ f here bound. ap size (arranged_not f bound) ∙ size_not (arranged f bound) ∙ ap (λ k. 1 + k) (here bound) ∙ sym (size_not f);
  implication = λ f g here there bound.
      ap size (arranged_implies f g bound) ∙ size_implies (arranged f bound) (arranged g bound)
      ∙ ap (λ k. 1 + k + size (arranged g bound)) (here bound) ∙ ap (λ k. 1 + size f + k) (there bound) ∙ sym (size_implies f g);
  some = λ vars f here bound. ap size (arranged_exists vars f bound) ∙ size_exists vars (arranged f (outside vars bound))
      ∙ ap (λ k. max 1 (length vars) + k) (here (outside vars bound)) ∙ sym (size_exists vars f);
  every = λ vars f here bound. ap size (arranged_forall vars f bound) ∙ size_forall vars (arranged f (outside vars bound))
      ∙ ap (λ k. max 1 (length vars) + k) (here (outside vars bound)) ∙ sym (size_forall vars f);
})

pub solvable_small : (f : Formula) → size (solvable f) ≤ 3 * size f
solvable_small f = subst (λ n. n ≤ 3 * size f) (sym (arranged_size (renamed (normal f)) [] ∙ renamed_size (normal f))) (small f true)
