-- Lists that are turned round.
use Rattle.std.proofs.Common.{◌≡◌, List, [], ◌∷◌, ◌++◌, reverse, ap, sym, ◌∙◌}
use Rattle.std.proofs.lemmas.List.{reverse-append}

-- the last item comes first
pub last_first : {A : Type 0} (xs ys : List A) (x : A) → xs ≡ ys ++ x ∷ [] → reverse xs ≡ x ∷ reverse ys
last_first xs ys x e = ap reverse e ∙ reverse-append ys (x ∷ [])

pub none_first : {A : Type 0} (xs : List A) → xs ≡ [] → reverse xs ≡ []
none_first xs e = ap reverse e

pub ruleset queue_laws = (last_first, none_first)
