-- Lists of references to variables that grow, and what is hidden.
use Rattle.std.proofs.Common.{append_assoc, ◌≡◌, ℕ, ◌+◌, ◌<◌, Bool, true, false, not, cond, ◌||◌, List, [], ◌∷◌, ◌++◌, Bor, map, take, length, get_or, refl, ap, sym, ◌∙◌, append-nil}
use Rattle.std.specs.List.{filter}
use Rattle.std.proofs.lemmas.List.{map-append, take_more}
use Rattle.std.proofs.lemmas.List.Elements.{filter-append}
use Rattle.dbn_value.specs.declared.term.Var.{Var}
use Rattle.dbn_formula.specs.Variables.{TypedVars, var_eq, is_in, binds, firsts, with_first}
use Rattle.dbn_formula.specs.Free.{unhidden}
use Rattle.dbn_formula.proofs.Firsts.{firsts_more}

pub ruleset viewed = (map-append, append_assoc, append-nil)

pub binds_is_in : (vars : TypedVars) (x : Var) → is_in x (map (λ y. y.0) vars) ≡ binds vars x
binds_is_in [] x = refl
binds_is_in (y ∷ vars) x = ap (λ b. var_eq x y.0 || b) (binds_is_in vars x)

-- one reference more that was looked at
module _ {R : Type 0} (v : R → Var) where
  pub viewed_more : (xs : List R) (i : ℕ) (x : R) → i < length xs → x ≡ get_or xs i x → map v (take (i + 1) xs) ≡ map v (take i xs) ++ v x ∷ []
  viewed_more xs i x below e = ap (map v) (take_more xs i x below) ∙ map-append v (take i xs) (get_or xs i x ∷ []) ∙ ap (λ y. map v (take i xs) ++ v y ∷ []) (sym e)

  pub firsts_viewed : (xs : List R) (i : ℕ) (x : R) → i < length xs → x ≡ get_or xs i x → firsts (map v (take (i + 1) xs)) ≡ with_first (firsts (map v (take i xs))) (v x)
  unfolding with_first
  firsts_viewed xs i x below e = ap firsts (viewed_more xs i x below e) ∙ firsts_more (v x) (map v (take i xs))

  -- it is kept or not
  pub kept_more : (vars : TypedVars) (given : List Var) (out more inner : List R) (i : ℕ) (x : R) (b : Bool)
      → i < length inner → x ≡ get_or inner i x → b ≡ is_in (v x) (map (λ y. y.0) vars)
      → map v out ≡ given ++ unhidden vars (map v (take i inner)) → more ≡ cond b out (out ++ x ∷ [])
      → map v more ≡ given ++ unhidden vars (map v (take (i + 1) inner))
  kept_more vars given out more inner i x b below e hides before grown =
      ap (map v) grown ∙ by b (hides ∙ binds_is_in vars (v x))
      ∙ ap (λ ys. given ++ ys) (sym (filter-append (λ y. not (binds vars y)) (map v (take i inner)) (v x ∷ [])))
      ∙ ap (λ ys. given ++ unhidden vars ys) (sym (viewed_more inner i x below e))
    where
      by : (c : Bool) → c ≡ binds vars (v x) → map v (cond c out (out ++ x ∷ [])) ≡ given ++ (unhidden vars (map v (take i inner)) ++ cond (not (binds vars (v x))) (v x ∷ []) [])
      by true p = before ∙ ap (λ ys. given ++ ys) (sym (append-nil (unhidden vars (map v (take i inner))))) ∙ ap (λ d. given ++ (unhidden vars (map v (take i inner)) ++ cond (not d) (v x ∷ []) [])) p
      by false p =
          map-append v out (x ∷ []) ∙ ap (λ ys. ys ++ v x ∷ []) before
          ∙ append_assoc given (unhidden vars (map v (take i inner))) (v x ∷ [])
          ∙ ap (λ d. given ++ (unhidden vars (map v (take i inner)) ++ cond (not d) (v x ∷ []) [])) p
