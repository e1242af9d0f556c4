-- Names of what stands in a list of a net.
use Rattle.std.proofs.Common.{◌≡◌, ℕ, ◌<◌, zero, suc, List, [], ◌∷◌, map, ap, ◌∙◌, Some, None, length}
use Rattle.std.specs.Prelude.{slice_get, slice_index_or}
use Rattle.dbn_net.proofs.PositionLaws.{there}

-- what is made of the n-th one
pub mapped_at : {A B : Type 0} (f : A → B) (xs : List A) (n : ℕ) (x : A) (d : B) → slice_get xs n ≡ Some x → slice_index_or (map f xs) n d ≡ f x
mapped_at f [] n x d is = absurd cc
mapped_at f (y ∷ xs) zero x d is = let same : y ≡ x = cc in ap f same
mapped_at f (y ∷ xs) (suc n) x d is = mapped_at f xs n x d is

-- there is an n-th one
pub not_none : {A : Type 0} (xs : List A) (n : ℕ) → n < length xs → None ≡ slice_get xs n → ⊥
not_none xs n less none = let x = there xs n less in let e : None ≡ Some x.0 = none ∙ x.1 in absurd cc
