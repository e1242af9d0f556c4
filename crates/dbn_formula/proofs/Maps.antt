-- Laws of lists that std lacks.
use Rattle.std.proofs.Common.{◌≡◌, List, [], ◌∷◌, ◌++◌, map, refl, ap, ◌∙◌}
use Rattle.std.specs.List.{flat_map, AllByRecursion}

pub map-map : {A B C : Type 0} (g : B → C) (f : A → B) (xs : List A) → map g (map f xs) ≡ map (λ x. g (f x)) xs
map-map g f [] = refl
map-map g f (x ∷ xs) = ap (λ ys. g (f x) ∷ ys) (map-map g f xs)

pub flat_alike : {A B : Type 0} (p q : B → List A) (fs : List B) → AllByRecursion (λ f. p f ≡ q f) fs → flat_map p fs ≡ flat_map q fs
flat_alike p q [] each = refl
flat_alike p q (f ∷ fs) each = ap (λ xs. xs ++ flat_map p fs) each.0 ∙ ap (λ ys. q f ++ ys) (flat_alike p q fs each.1)

pub maps_alike : {B C : Type 0} (p q : B → C) (fs : List B) → AllByRecursion (λ f. p f ≡ q f) fs → map p fs ≡ map q fs
maps_alike p q [] each = refl
maps_alike p q (f ∷ fs) each = ap (λ g. g ∷ map p fs) each.0 ∙ ap (λ gs. q f ∷ gs) (maps_alike p q fs each.1)
