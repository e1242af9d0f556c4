-- Laws of lists all of whose elements meet something.
use Rattle.std.proofs.Common.{◌≡◌, zero, suc, List, [], ◌∷◌, map, refl, arith}
use Rattle.std.specs.List.{All}

pub all_tail : {A : Type 0} (P : A → Type 0) (x : A) (xs : List A) → All P (x ∷ xs) → All P xs
all_tail P x xs all k d less = all (suc k) d (omega (arith, less))

pub all_cons : {A : Type 0} (P : A → Type 0) (x : A) (xs : List A) → P x → All P xs → All P (x ∷ xs)
all_cons P x xs here rest zero d less = here
all_cons P x xs here rest (suc k) d less = rest k d (omega (arith, less))

-- two functions that agree on what meets it
pub map_where : {A B : Type 0} (P : A → Type 0) (f g : A → B) → ((x : A) → P x → f x ≡ g x) → (xs : List A) → All P xs → map f xs ≡ map g xs
map_where P f g same [] all = refl
map_where P f g same (x ∷ xs) all = (λ i. same x (all 0 x (omega arith)) i ∷ map_where P f g same xs (all_tail P x xs all) i)

pub all_head : {A : Type 0} (P : A → Type 0) (x : A) (xs : List A) → All P (x ∷ xs) → P x
all_head P x xs all = all 0 x (omega arith)
