-- The first occurrences in a list with one more variable.
use Rattle.std.proofs.Common.{◌≡◌, Bool, true, false, cond, not, ◌||◌, List, [], ◌∷◌, ◌++◌, refl, ap, sym, ◌∙◌}
use Rattle.std.specs.List.{filter}
use Rattle.std.proofs.lemmas.List.{append-nil}
use Rattle.std.proofs.lemmas.List.Elements.{filter-append}
use Rattle.std.proofs.lemmas.Bool.{or_left, or_right, or_from, false_from_ne_true}
use Rattle.dbn_value.specs.declared.term.Var.{Var}
use Rattle.dbn_formula.specs.Variables.{var_eq, is_in, firsts}
use Rattle.dbn_formula.proofs.VariableLaws.{var_same, var_alike, var_turned}

-- x among the others than y is x among all, unless it is y
kept : (x y : Var) (xs : List Var) → var_eq y x ≡ false → is_in x (filter (λ z. not (var_eq y z)) xs) ≡ is_in x xs
kept x y [] e = refl
kept x y (z ∷ zs) e =
    elim (var_eq y z) as (λ b. var_eq y z ≡ b → is_in x (cond (not b) (z ∷ filter (λ w. not (var_eq y w)) zs) (filter (λ w. not (var_eq y w)) zs)) ≡ is_in x (z ∷ zs)) [
      | true ↦ λ same. kept x y zs e ∙ ap (λ b. b || is_in x zs) (sym (other same))
      | false ↦ λ differs. ap (λ b. var_eq x z || b) (kept x y zs e)
    ] refl
  where
    other : var_eq y z ≡ true → var_eq x z ≡ false
    other same = false_from_ne_true (var_eq x z) (λ f. clash (sym (var_alike y x (var_same y z same ∙ sym (var_same x z f))) ∙ e))
      where
        clash : true ≡ false → ⊥
        clash g = cc

pub turned : (x y : Var) → var_eq y x ≡ var_eq x y
turned x y =
    elim (var_eq y x) as (λ b. var_eq y x ≡ b → b ≡ var_eq x y) [
      | true ↦ λ e. sym (var_turned y x e)
      | false ↦ λ e. sym (false_from_ne_true (var_eq x y) (λ f. clash (sym (var_turned x y f) ∙ e)))
    ] refl
  where
    clash : true ≡ false → ⊥
    clash g = cc

-- the first occurrences of the rest that aren't y
abbrev others : Var → List Var → List Var
others y xs = filter (λ z. not (var_eq y z)) xs

-- one more variable behind y and others, by whether it is among the rest and whether it is y
behind : (x y : Var) (xs : List Var) (b c : Bool) → is_in x xs ≡ b → var_eq y x ≡ c
    → (y ∷ others y (cond b xs (xs ++ x ∷ []))) ≡ cond (is_in x (y ∷ others y xs)) (y ∷ others y xs) ((y ∷ others y xs) ++ x ∷ [])
behind x y xs true true p q =
    sym (ap (λ u. cond u (y ∷ others y xs) ((y ∷ others y xs) ++ x ∷ [])) (or_left (var_eq x y) (is_in x (others y xs)) (sym (turned x y) ∙ q)))
behind x y xs true false p q =
    sym (ap (λ u. cond u (y ∷ others y xs) ((y ∷ others y xs) ++ x ∷ [])) (or_right (var_eq x y) (is_in x (others y xs)) (kept x y xs q ∙ p)))
behind x y xs false true p q =
    ap (λ zs. y ∷ zs)
    (filter-append (λ z. not (var_eq y z)) xs (x ∷ [])
    ∙ ap (λ u. others y xs ++ cond (not u) (x ∷ []) []) q
    ∙ append-nil (others y xs))
    ∙ sym (ap (λ u. cond u (y ∷ others y xs) ((y ∷ others y xs) ++ x ∷ [])) (or_left (var_eq x y) (is_in x (others y xs)) (sym (turned x y) ∙ q)))
behind x y xs false false p q =
    ap (λ zs. y ∷ zs) (filter-append (λ z. not (var_eq y z)) xs (x ∷ []) ∙ ap (λ u. others y xs ++ cond (not u) (x ∷ []) []) q)
    ∙ sym (ap (λ u. cond u (y ∷ others y xs) ((y ∷ others y xs) ++ x ∷ []))
    (or_from (var_eq x y) (is_in x (others y xs)) (sym (turned x y) ∙ q) (kept x y xs q ∙ p)))

pub firsts_more : (x : Var) (xs : List Var) → firsts (xs ++ x ∷ []) ≡ cond (is_in x (firsts xs)) (firsts xs) (firsts xs ++ x ∷ [])
firsts_more x [] = refl
firsts_more x (y ∷ ys) = ap (λ zs. y ∷ others y zs) (firsts_more x ys) ∙ behind x y (firsts ys) (is_in x (firsts ys)) (var_eq y x) refl refl
