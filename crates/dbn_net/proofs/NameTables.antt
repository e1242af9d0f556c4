-- Tables of names.
use Rattle.std.proofs.Common.{◌≡◌, ℕ, ◌+◌, Bool, true, cond, not, ◌||◌, List, [], ◌∷◌, ◌++◌, map, refl, sym, ap, ◌∙◌, Some, None, length}
use Rattle.std.specs.Prelude.{nat_lt}
use Rattle.std.specs.List.{list_any, position, prefix_len}
use Rattle.std.proofs.lemmas.List.{map-append, length-map}
use Rattle.std.proofs.lemmas.Bool.{not-true}
use Rattle.dbn_value.specs.Names.{name_eq}

prefix_map : {A B : Type 0} (t : B → Bool) (v : A → B) (xs : List A) → prefix_len (λ y. not (t y)) (map v xs) ≡ prefix_len (λ x. not (t (v x))) xs
prefix_map t v [] = refl
prefix_map t v (x ∷ xs) = ap (λ n. cond (not (t (v x))) (1 + n) 0) (prefix_map t v xs)

pub position_map : {A B : Type 0} (t : B → Bool) (v : A → B) (xs : List A) → position t (map v xs) ≡ position (λ x. t (v x)) xs
position_map t v xs =
    ap (λ n. cond (nat_lt n (length (map v xs))) (Some n) None) (prefix_map t v xs)
    ∙ ap (λ k. cond (nat_lt (prefix_len (λ x. not (t (v x))) xs) k) (Some (prefix_len (λ x. not (t (v x))) xs)) None) (length-map xs v)

pub any_map : {A B : Type 0} (t : B → Bool) (v : A → B) (xs : List A) → list_any t (map v xs) ≡ list_any (λ x. t (v x)) xs
any_map t v [] = refl
any_map t v (x ∷ xs) = ap (λ b. t (v x) || b) (any_map t v xs)

abbrev pub if_new : {V : Type 0} → Bool → List V → V → List V
if_new b vs k = cond b vs (vs ++ k ∷ [])

-- a name that is new comes behind the others
pub enters : {V : Type 0} (v : V → List ℕ) (vs : List V) (k : V) → not (list_any (name_eq (v k)) (map v vs)) ≡ true
    → map v (if_new (list_any (λ y. name_eq (v k) (v y)) vs) vs k) ≡ map v vs ++ v k ∷ []
enters v vs k e = ap (λ b. map v (if_new b vs k)) (sym (any_map (name_eq (v k)) v vs) ∙ not-true _ e) ∙ map-append v vs (k ∷ [])
