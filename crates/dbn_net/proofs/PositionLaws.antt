-- Where the n-th declaration of a kind stands.
use Rattle.std.proofs.Common.{◌≡◌, ℕ, ◌<◌, zero, suc, List, [], ◌∷◌, map, refl, sym, ap, subst, ◌∙◌, Option, Some, None, arith, length}
use Rattle.std.specs.Prelude.{slice_get}
use Rattle.std.specs.List.{filter_map, cons_option}
use Rattle.std.specs.Option.{option_map}
use Rattle.dbn_net.specs.declared.decl.Decl.{Decl}
use Rattle.dbn_net.specs.Positions.{next, positions}
use Rattle.dbn_net.proofs.Maybes.{some_is}

get_map : {A B : Type 0} (g : A → B) (xs : List A) (n : ℕ) → slice_get (map g xs) n ≡ option_map g (slice_get xs n)
get_map g [] n = refl
get_map g (x ∷ xs) zero = refl
get_map g (x ∷ xs) (suc n) = get_map g xs n

pub declared_at : {A : Type 0} (f : Decl → Option A) (net : List Decl) (n : ℕ) → n < length (filter_map f net)
    → (i : ℕ) × (slice_get (positions f net) n ≡ Some i) × (d : Decl) × (slice_get net i ≡ Some d) × (f d ≡ slice_get (filter_map f net) n)
declared_at f [] n less = absurd (omega (arith, less))
declared_at {A} f (d ∷ net) n less = by (f d) refl n less (λ k below. declared_at f net k below)
  where
    by : (o : Option A) → f d ≡ o → (n : ℕ) → n < length (cons_option o (filter_map f net))
        → ((k : ℕ) → k < length (filter_map f net)
        → (i : ℕ) × (slice_get (positions f net) k ≡ Some i) × (c : Decl) × (slice_get net i ≡ Some c) × (f c ≡ slice_get (filter_map f net) k))
        → (i : ℕ) × (slice_get (cons_option (option_map (λ a. 0) o) (map next (positions f net))) n ≡ Some i) × (c : Decl) × (slice_get (d ∷ net) i ≡ Some c) × (f c ≡ slice_get (cons_option o (filter_map f net)) n)
    by None e n less later =
        let found = later n less in
        (suc found.0, get_map next (positions f net) n ∙ ap (option_map next) found.1, found.2, found.3, found.4)
    by (Some a) e zero less later = (0, refl, d, refl, e)
    by (Some a) e (suc n) less later =
        let found = later n (omega (arith, less)) in
        (suc found.0, get_map next (positions f net) n ∙ ap (option_map next) found.1, found.2, found.3, found.4)

pub there : {A : Type 0} (xs : List A) (n : ℕ) → n < length xs → (x : A) × (slice_get xs n ≡ Some x)
there [] n less = absurd (omega (arith, less))
there (x ∷ xs) zero less = (x, refl)
there (x ∷ xs) (suc n) less = there xs n (omega (arith, less))

-- the n-th place of a kept table is that of a declaration
pub stands : {A : Type 0} (f : Decl → Option A) (net whole : List Decl) (at : List ℕ) (n : ℕ) → at ≡ positions f net → net ≡ whole → n < length (filter_map f whole)
    → (i : ℕ) × (slice_get at n ≡ Some i) × (d : Decl) × (slice_get net i ≡ Some d)
stands f net whole at n kept same less =
    let found = declared_at f net n (subst (λ ds. n < length (filter_map f ds)) (sym same) less) in
    (found.0, ap (λ l. slice_get l n) kept ∙ found.1, found.2, found.3)

-- the declaration there is the n-th of its kind
pub stands_for : {A : Type 0} (f : Decl → Option A) (net whole : List Decl) (at : List ℕ) (n : ℕ) (d : Decl) → at ≡ positions f net → net ≡ whole → n < length (filter_map f whole)
    → ((i : ℕ) → slice_get at n ≡ Some i → slice_get net i ≡ Some d) → f d ≡ slice_get (filter_map f whole) n
stands_for f net whole at n d kept same less gives =
    let found = declared_at f net n (subst (λ ds. n < length (filter_map f ds)) (sym same) less) in
    let is : Some d ≡ Some found.2 = sym (gives found.0 (ap (λ l. slice_get l n) kept ∙ found.1)) ∙ found.3 in
    ap f (some_is d found.2 is) ∙ found.4 ∙ ap (λ ds. slice_get (filter_map f ds) n) same
