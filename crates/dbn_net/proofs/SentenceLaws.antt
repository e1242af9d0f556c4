-- What the loops over columns and variables make.
use Rattle.std.proofs.Common.{◌≡◌, ℕ, ◌+◌, ◌<◌, zero, suc, List, [], ◌∷◌, ◌++◌, map, drop, length, refl, sym, ap, subst, ◌∙◌, ◌⊎◌, ⊎_elim, None, arith, append_assoc}
use Rattle.std.proofs.lemmas.List.{map-append}
use Rattle.dbn_value.specs.Text.{is_name, IsName}
use Rattle.dbn_formula.specs.Variables.{TypedVars}
use Rattle.dbn_value.specs.declared.value.ColType.{ColType}
use Rattle.dbn_value.specs.declared.term.Term.TheVariants as term
use Rattle.dbn_net.specs.Tables.{types_of}
use Rattle.dbn_net.specs.Sentences.{same_at, columns_from, partner, paired_var, paired_terms}

pub types_joined : (xs ys : TypedVars) → types_of xs ++ types_of ys ≡ types_of (xs ++ ys)
types_joined xs ys = sym (map-append (λ x. x.1) xs ys)

-- the letters of the two rows are names
pub x_is_name : IsName (120 ∷ [])
unfolding is_name
x_is_name = refl

pub y_is_name : IsName (121 ∷ [])
unfolding is_name
y_is_name = refl

-- ---- one column after the other

drop_suc : {A : Type 0} (xs : List A) (n : ℕ) → n < length xs → (x : A) × (drop n xs ≡ x ∷ drop (suc n) xs)
drop_suc [] n less = absurd (omega (arith, less))
drop_suc (x ∷ xs) zero less = (x, refl)
drop_suc (x ∷ xs) (suc n) less = drop_suc xs n (omega (arith, less))

drop_next : {A : Type 0} (xs : List A) (n : ℕ) → n < length xs → (x : A) × (drop n xs ≡ x ∷ drop (n + 1) xs)
drop_next xs n less =
    let found = drop_suc xs n less in
    let one : suc n ≡ n + 1 = omega arith in
    (found.0, subst (λ k. drop n xs ≡ found.0 ∷ drop k xs) one found.1)

-- the first of what is left goes over to what was made
pub moved : {A : Type 0} (made : List A) (x : A) (rest later whole : List A) → rest ≡ x ∷ later → made ++ rest ≡ whole → (made ++ x ∷ []) ++ later ≡ whole
moved made x rest later whole step before = append_assoc made (x ∷ []) later ∙ ap (λ l. made ++ l) (sym step) ∙ before

pub same_step : (shape : List ColType) (n : ℕ) → n < length shape → map same_at (columns_from n (drop n shape)) ≡ same_at n ∷ map same_at (columns_from (n + 1) (drop (n + 1) shape))
same_step shape n less = ap (λ l. map same_at (columns_from n l)) (drop_next shape n less).1

pub paired_step : (fields to_fields : List ℕ) (shape : List ColType) (n : ℕ) → n < length shape
    → paired_terms fields to_fields n (drop n shape) ≡ term.Var (paired_var (partner fields to_fields n) n) ∷ paired_terms fields to_fields (n + 1) (drop (n + 1) shape)
paired_step fields to_fields shape n less = ap (paired_terms fields to_fields n) (drop_next shape n less).1

pub partner_done : (fields to_fields : List ℕ) (column : ℕ) → (length fields ≡ 0) ⊎ (length to_fields ≡ 0) → partner fields to_fields column ≡ None
partner_done [] to_fields column done = refl
partner_done (f ∷ fields) [] column done = refl
partner_done (f ∷ fields) (g ∷ to_fields) column done = ⊎_elim (λ e. absurd (omega (arith, e))) (λ e. absurd (omega (arith, e))) done
