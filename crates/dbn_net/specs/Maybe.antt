-- Values that may be missing.
use Rattle.std.specs.Prelude.{Bool, if◌then◌else◌, List, [], ◌∷◌, ◌++◌, Option, Some, None}

infixl 10 ◌>>=◌
abbrev pub ◌>>=◌ : {A B : Type 0} → Option A → (A → Option B) → Option B
None >>= f = None
(Some x) >>= f = f x

-- what is made of all of them, or nothing where one gives nothing
abbrev pub each : {A B : Type 0} → (A → Option B) → List A → Option (List B)
each f [] = Some []
each f (x ∷ xs) = f x >>= λ y. each f xs >>= λ ys. Some (y ∷ ys)

-- the same of those that are left, behind what was made of the others
abbrev pub each_from : {A B : Type 0} → (A → Option B) → List B → List A → Option (List B)
each_from f made xs = each f xs >>= λ ys. Some (made ++ ys)

-- all of them, or nothing where one is missing
abbrev pub all_known : {A : Type 0} → List (Option A) → Option (List A)
all_known [] = Some []
all_known (o ∷ os) = o >>= λ x. all_known os >>= λ xs. Some (x ∷ xs)

-- a list with one item or more
abbrev pub some : {A : Type 0} → List A → Option (List A)
some [] = None
some (x ∷ xs) = Some (x ∷ xs)

-- what is made of a value that may be left out
abbrev pub if_given : {A B : Type 0} → (A → Option B) → Option A → Option (Option B)
if_given f None = Some None
if_given f (Some x) = f x >>= λ y. Some (Some y)

-- the first that is there
abbrev pub or_else : {A : Type 0} → Option A → Option A → Option A
or_else None b = b
or_else (Some x) b = Some x

-- the value where the test passes
abbrev pub only_if : {A : Type 0} → Bool → A → Option A
only_if b x = if b then Some x else None
