-- Conjuncts in the order in which the safety test takes them, said of formulas.
use Rattle.std.specs.Prelude.{ℕ, zero, suc, Bool, true, false, cond, ◌+◌, if◌then◌else◌, List, [], ◌∷◌, ◌++◌, map, length, Option, Some, None}
use Rattle.std.specs.Option.{option_map, option_map_or}
use Rattle.dbn_value.specs.declared.term.Var.{Var}
use Rattle.dbn_formula.specs.Free.{occurrences}
use Rattle.dbn_formula.specs.Safe.{safe, arranged}
use Rattle.dbn_formula.specs.declared.formula.Formula.{Formula}

-- the first formula that is safe for what is bound, and the others
abbrev pub first_safe : List Formula → List Var → Option (Formula × List Formula)
first_safe [] bound = None
first_safe (f ∷ fs) bound = cond (safe f bound) (Some (f, fs)) (option_map (λ found. (found.0, f ∷ found.1)) (first_safe fs bound))

-- all get taken in so many turns
abbrev pub taken : ℕ → List Formula → List Var → Bool
taken n [] bound = true
taken zero (f ∷ fs) bound = false
taken (suc n) (f ∷ fs) bound = option_map_or (λ found. taken n found.1 (bound ++ occurrences found.0)) (first_safe (f ∷ fs) bound) false

-- the order in which they are taken
abbrev pub order : ℕ → List Formula → List Var → List Formula
order n [] bound = []
order zero (f ∷ fs) bound = map (λ g. arranged g bound) (f ∷ fs)
order (suc n) (f ∷ fs) bound =
    option_map_or (λ found. arranged found.0 bound ∷ order n found.1 (bound ++ occurrences found.0)) (first_safe (f ∷ fs) bound) (map (λ g. arranged g bound) (f ∷ fs))

-- the first position of a safe one; the length where there is none
abbrev pub safe_position : List Formula → List Var → ℕ
safe_position [] bound = 0
safe_position (f ∷ fs) bound = if safe f bound then 0 else safe_position fs bound + 1

-- ---- the same as two lists

abbrev pub led : Formula → List Formula × List Formula → List Formula × List Formula
led f found = (f ∷ found.0, found.1)

-- those that get taken, one after the other, and those that are left when none of them is safe
abbrev pub turns : ℕ → List Formula → List Var → List Formula × List Formula
turns n [] bound = ([], [])
turns zero (f ∷ fs) bound = ([], f ∷ fs)
turns (suc n) (f ∷ fs) bound =
    option_map_or (λ found. led found.0 (turns n found.1 (bound ++ occurrences found.0))) (first_safe (f ∷ fs) bound) ([], f ∷ fs)

-- the same where some were taken already, and these others are looked at
unfoldable pub turns_after : List Formula → List Formula → List Var → List Formula × List Formula
turns_after before fs bound = (before ++ (turns (length fs) fs bound).0, (turns (length fs) fs bound).1)

-- the taken ones, each arranged for what was bound before it, and then the others
abbrev pub arranged_along : List Formula → List Formula → List Var → List Formula
arranged_along [] left bound = map (λ g. arranged g bound) left
arranged_along (f ∷ fs) left bound = arranged f bound ∷ arranged_along fs left (bound ++ occurrences f)
