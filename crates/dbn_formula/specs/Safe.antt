-- Which formulas are safe: each free variable is bound by an atom or an equation, whatever the domain is.
use Rattle.std.specs.Prelude.{ℕ, zero, suc, Bool, true, false, not, ◌&&◌, ◌||◌, if◌then◌else◌, List, [], ◌∷◌, ◌++◌, map, length, Option, Some, None}
use Rattle.std.specs.Option.{option_map, option_map_or}
use Rattle.std.specs.List.{flat_map, list_any, list_all}
use Rattle.dbn_value.specs.declared.term.Var.{Var}
use Rattle.dbn_value.specs.declared.term.Term.{Term}
use Rattle.dbn_value.specs.declared.term.Term.TheVariants as term
use Rattle.dbn_value.specs.declared.term.Cmp.{Cmp}
use Rattle.dbn_value.specs.declared.term.Cmp.TheVariants as cmp
use Rattle.dbn_formula.specs.Variables.{TypedVars, is_in, binds}
use Rattle.dbn_formula.specs.Free.{unhidden, occurrences_step, occurrences}
use Rattle.dbn_formula.specs.Normal.{normal}
use Rattle.dbn_formula.specs.Apart.{renamed}
use Rattle.dbn_formula.specs.declared.formula.Formula.{Formula}
use Rattle.dbn_formula.specs.declared.formula.Formula.TheVariants.{Atom, Test, And, Or, Not, Implies, Exists, Forall}
use Rattle.dbn_formula.specs.declared.formula.Formula.TheOpen.{Formula-F}
use Rattle.dbn_formula.specs.declared.formula.Formula.TheOpen as layer
use Rattle.dbn_formula.specs.declared.formula.Formula.TheFolds.{fold-Formula, map-Formula}

-- ---- what the test needs of each part

-- `bound` is the list of variables that are bound already
pub record Level : Type 0 where
  -- the free variables in reading order, as often as they occur
  pub vars : List Var
  -- safe, with conjuncts taken in any order
  pub fit : (bound : List Var) → Bool
  -- safe with conjuncts taken from left to right, and no quantified variable is bound already
  pub safe_in_order : (bound : List Var) → Bool
  -- no quantified variable is bound already or free beside its quantifier
  pub is_apart : (bound : List Var) → Bool
  -- the same formula with conjuncts in the order in which the test takes them
  pub make : (bound : List Var) → Formula

abbrev pub all_in : List Var → List Var → Bool
all_in xs bound = list_all (λ x. is_in x bound) xs

-- a constant, or a variable that is bound
abbrev pub known : List Var → Term → Bool
known bound (term.Var x) = is_in x bound
known bound (term.Const v) = true

-- an equation needs one side, another comparison both
abbrev pub test_safe : Cmp → Term → Term → List Var → Bool
test_safe cmp.Eq left right bound = known bound left || known bound right
test_safe cmp.Ne left right bound = known bound left && known bound right
test_safe cmp.Lt left right bound = known bound left && known bound right
test_safe cmp.Le left right bound = known bound left && known bound right
test_safe cmp.Gt left right bound = known bound left && known bound right
test_safe cmp.Ge left right bound = known bound left && known bound right

-- the variables that stay bound inside the quantifier
abbrev pub outside : TypedVars → List Var → List Var
outside vars bound = unhidden vars bound

abbrev pub all_vars : List Level → List Var
all_vars parts = flat_map (λ part. part.vars) parts

-- ---- `and`: again and again the first conjunct that is safe for what is bound so far

-- the first safe part, and the others
abbrev pub first_fit : List Level → List Var → Option (Level × List Level)
first_fit [] bound = None
first_fit (part ∷ parts) bound =
    if part.fit bound then Some (part, parts) else option_map (λ found. (found.0, part ∷ found.1)) (first_fit parts bound)

-- all get taken, in as many turns as there are parts
abbrev pub all_taken : ℕ → List Level → List Var → Bool
all_taken n [] bound = true
all_taken zero (part ∷ parts) bound = false
all_taken (suc n) (part ∷ parts) bound =
    option_map_or (λ found. all_taken n found.1 (bound ++ found.0.vars)) (first_fit (part ∷ parts) bound) false

-- the parts in the order in which they are taken; where none is safe the others follow as they stand
abbrev pub in_order : ℕ → List Level → List Var → List Formula
in_order n [] bound = []
in_order zero (part ∷ parts) bound = map (λ p. p.make bound) (part ∷ parts)
in_order (suc n) (part ∷ parts) bound =
    option_map_or (λ found. found.0.make bound ∷ in_order n found.1 (bound ++ found.0.vars)) (first_fit (part ∷ parts) bound)
    (map (λ p. p.make bound) (part ∷ parts))

-- from left to right
abbrev pub in_turn : List Level → List Var → Bool
in_turn [] bound = true
in_turn (part ∷ parts) bound = part.safe_in_order bound && in_turn parts (bound ++ part.vars)

-- each part is safe, and binds what the others bind
abbrev pub or_safe : (Level → Bool) → List Level → List Var → Bool
or_safe part_safe parts bound = list_all (λ part. part_safe part && all_in (all_vars parts) (bound ++ part.vars)) parts

-- ---- the table

abbrev pub vars_step : Formula-F Level → List Var
vars_step f = occurrences_step (map-Formula Level (List Var) (λ part. part.vars) f)

abbrev pub fit_step : Formula-F Level → List Var → Bool
fit_step (layer.Atom rel terms) bound = true
fit_step (layer.Test cmp left right) bound = test_safe cmp left right bound
fit_step (layer.And parts) bound = all_taken (length parts) parts bound
fit_step (layer.Or parts) bound = or_safe (λ part. part.fit bound) parts bound
fit_step (layer.Not part) bound = all_in part.vars bound && part.fit bound
fit_step (layer.Implies left right) bound = false
fit_step (layer.Exists vars body) bound = body.fit (outside vars bound)
fit_step (layer.Forall vars body) bound = false

abbrev pub in_order_step : Formula-F Level → List Var → Bool
in_order_step (layer.Atom rel terms) bound = true
in_order_step (layer.Test cmp left right) bound = test_safe cmp left right bound
in_order_step (layer.And parts) bound = in_turn parts bound
in_order_step (layer.Or parts) bound = or_safe (λ part. part.safe_in_order bound) parts bound
in_order_step (layer.Not part) bound = all_in part.vars bound && part.safe_in_order bound
in_order_step (layer.Implies left right) bound = false
in_order_step (layer.Exists vars body) bound = not (list_any (binds vars) bound) && body.safe_in_order bound
in_order_step (layer.Forall vars body) bound = false

abbrev pub apart_step : Formula-F Level → List Var → Bool
apart_step (layer.Atom rel terms) bound = true
apart_step (layer.Test cmp left right) bound = true
apart_step (layer.And parts) bound = list_all (λ part. part.is_apart (bound ++ all_vars parts)) parts
apart_step (layer.Or parts) bound = list_all (λ part. part.is_apart (bound ++ all_vars parts)) parts
apart_step (layer.Not part) bound = part.is_apart bound
apart_step (layer.Implies left right) bound = left.is_apart (bound ++ right.vars) && right.is_apart (bound ++ left.vars)
apart_step (layer.Exists vars body) bound = not (list_any (binds vars) bound) && body.is_apart (bound ++ map (λ x. x.0) vars)
apart_step (layer.Forall vars body) bound = not (list_any (binds vars) bound) && body.is_apart (bound ++ map (λ x. x.0) vars)

abbrev pub make_step : Formula-F Level → List Var → Formula
make_step (layer.Atom rel terms) bound = Atom rel terms
make_step (layer.Test cmp left right) bound = Test cmp left right
make_step (layer.And parts) bound = And (in_order (length parts) parts bound)
make_step (layer.Or parts) bound = Or (map (λ part. part.make bound) parts)
make_step (layer.Not part) bound = Not (part.make bound)
make_step (layer.Implies left right) bound = Implies (left.make bound) (right.make bound)
make_step (layer.Exists vars body) bound = Exists vars (body.make (outside vars bound))
make_step (layer.Forall vars body) bound = Forall vars (body.make (outside vars bound))

abbrev pub level_step : Formula-F Level → Level
level_step f = record { vars = vars_step f; fit = fit_step f; safe_in_order = in_order_step f; is_apart = apart_step f; make = make_step f }

unfoldable pub level_of : Formula → Level
level_of f = fold-Formula Level level_step f

-- ---- each of them by name; `vars` is `occurrences`

-- the safety test on a normal formula that is renamed apart
unfoldable pub safe : Formula → List Var → Bool
safe f bound = (level_of f).fit bound

unfoldable pub safe_in_order : Formula → List Var → Bool
safe_in_order f bound = (level_of f).safe_in_order bound

unfoldable pub is_apart : Formula → List Var → Bool
is_apart f bound = (level_of f).is_apart bound

unfoldable pub arranged : Formula → List Var → Formula
arranged f bound = (level_of f).make bound

-- all of them again as one record
abbrev pub as_level : Formula → Level
as_level f = record { vars = occurrences f; fit = safe f; safe_in_order = safe_in_order f; is_apart = is_apart f; make = arranged f }

-- ---- what is accepted

abbrev pub query_safe : Formula → Bool
query_safe f = safe (renamed (normal f)) []

abbrev pub sentence_safe : Formula → Bool
sentence_safe f = safe (renamed (normal (Not f))) []
