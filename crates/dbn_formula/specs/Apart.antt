-- Renaming apart: each quantified variable, in reading order, gets the next number from 1 on that is no mark of the formula.
use Rattle.std.specs.Prelude.{ℕ, ◌+◌, ◌==◌, nat_lt, if◌then◌else◌, List, [], ◌∷◌, ◌++◌, map}
use Rattle.std.specs.Ordering.{nat_cmp}
use Rattle.std.specs.List.{flat_map}
use Rattle.dbn_value.specs.Ascending.{ascending}
use Rattle.dbn_value.specs.declared.term.Var.{Var}
use Rattle.dbn_value.specs.declared.term.Term.{Term}
use Rattle.dbn_value.specs.declared.term.Term.TheVariants as term
use Rattle.dbn_formula.specs.Variables.{TypedVars, var_eq}
use Rattle.dbn_formula.specs.declared.formula.Formula.{Formula}
use Rattle.dbn_formula.specs.declared.formula.Formula.TheVariants.{Atom, Test, And, Or, Not, Implies, Exists, Forall}
use Rattle.dbn_formula.specs.declared.formula.Formula.TheOpen.{Formula-F}
use Rattle.dbn_formula.specs.declared.formula.Formula.TheOpen as layer
use Rattle.dbn_formula.specs.declared.formula.Formula.TheFolds.{fold-Formula}

-- ---- marks

abbrev pub term_marks : Term → List ℕ
term_marks (term.Var x) = x.mark ∷ []
term_marks (term.Const v) = []

abbrev pub quantified_marks : TypedVars → List ℕ
quantified_marks vars = map (λ x. x.0.mark) vars

abbrev pub marks_step : Formula-F (List ℕ) → List ℕ
marks_step (layer.Atom rel terms) = flat_map term_marks terms
marks_step (layer.Test cmp left right) = term_marks left ++ term_marks right
marks_step (layer.And parts) = flat_map (λ part. part) parts
marks_step (layer.Or parts) = flat_map (λ part. part) parts
marks_step (layer.Not part) = part
marks_step (layer.Implies left right) = left ++ right
marks_step (layer.Exists vars body) = quantified_marks vars ++ body
marks_step (layer.Forall vars body) = quantified_marks vars ++ body

-- the marks of all variables, those of quantifiers too
unfoldable pub marks : Formula → List ℕ
marks f = fold-Formula (List ℕ) marks_step f

-- the first number from n on that is none of the ascending numbers
abbrev pub unused_from : List ℕ → ℕ → ℕ
unused_from [] n = n
unused_from (m ∷ ms) n = if m == n then unused_from ms (n + 1) else if nat_lt m n then unused_from ms n else n

-- the first number above n that is no mark
abbrev pub next_mark : List ℕ → ℕ → ℕ
next_mark used n = unused_from (ascending nat_cmp used) (n + 1)

-- ---- renaming

-- what each variable is renamed to; the first entry of a variable counts
abbrev pub Renaming : Type 0
Renaming = List (Var × Var)

abbrev pub renamed_var : Renaming → Var → Var
renamed_var [] x = x
renamed_var (entry ∷ names) x = if var_eq x entry.0 then entry.1 else renamed_var names x

abbrev pub renamed_term : Renaming → Term → Term
renamed_term names (term.Var x) = term.Var (renamed_var names x)
renamed_term names (term.Const v) = term.Const v

abbrev pub marked : Var → ℕ → Var
marked x mark = record { name = x.name; mark = mark }

-- the variables of a quantifier with their new marks, where n was the last mark that was given
abbrev pub fresh : List ℕ → TypedVars → ℕ → TypedVars
fresh used [] n = []
fresh used (x ∷ vars) n = let m = next_mark used n in (marked x.0 m, x.1) ∷ fresh used vars m

-- the last mark that is given then
abbrev pub last_mark : List ℕ → TypedVars → ℕ → ℕ
last_mark used [] n = n
last_mark used (x ∷ vars) n = last_mark used vars (next_mark used n)

-- the renaming inside the quantifier: one variable is entered after the other, the newest first
abbrev pub opened : List ℕ → TypedVars → ℕ → Renaming → Renaming
opened used [] n names = names
opened used (x ∷ vars) n names = let m = next_mark used n in opened used vars m ((x.0, marked x.0 m) ∷ names)

-- a renamed formula, and the last mark that was given in it
pub record Renamed : Type 0 where
  pub formula : Formula
  pub last : ℕ

pub record RenamedList : Type 0 where
  pub formulas : List Formula
  pub last : ℕ

-- one part after the other
abbrev pub each_renamed : List (Renaming → ℕ → Renamed) → Renaming → ℕ → RenamedList
each_renamed [] names n = record { formulas = []; last = n }
each_renamed (part ∷ parts) names n =
    let made = part names n in
    let rest = each_renamed parts names made.last in
    record { formulas = made.formula ∷ rest.formulas; last = rest.last }

abbrev pub rename_step : List ℕ → Formula-F (Renaming → ℕ → Renamed) → Renaming → ℕ → Renamed
rename_step used (layer.Atom rel terms) names n = record { formula = Atom rel (map (renamed_term names) terms); last = n }
rename_step used (layer.Test cmp left right) names n = record { formula = Test cmp (renamed_term names left) (renamed_term names right); last = n }
rename_step used (layer.And parts) names n = let made = each_renamed parts names n in record { formula = And made.formulas; last = made.last }
rename_step used (layer.Or parts) names n = let made = each_renamed parts names n in record { formula = Or made.formulas; last = made.last }
rename_step used (layer.Not part) names n = let made = part names n in record { formula = Not made.formula; last = made.last }
rename_step used (layer.Implies left right) names n =
    let first = left names n in
    let second = right names first.last in
    record { formula = Implies first.formula second.formula; last = second.last }
rename_step used (layer.Exists vars body) names n =
    let made = body (opened used vars n names) (last_mark used vars n) in
    record { formula = Exists (fresh used vars n) made.formula; last = made.last }
rename_step used (layer.Forall vars body) names n =
    let made = body (opened used vars n names) (last_mark used vars n) in
    record { formula = Forall (fresh used vars n) made.formula; last = made.last }

unfoldable pub rename_at : List ℕ → Formula → Renaming → ℕ → Renamed
rename_at used f names n = fold-Formula (Renaming → ℕ → Renamed) (rename_step used) f names n

unfoldable pub renamed_at : List ℕ → Formula → Renaming → ℕ → Formula
renamed_at used f names n = (rename_at used f names n).formula

unfoldable pub last_at : List ℕ → Formula → Renaming → ℕ → ℕ
last_at used f names n = (rename_at used f names n).last

-- the same of a list of formulas
abbrev pub renamed_all : List ℕ → List Formula → Renaming → ℕ → List Formula
renamed_all used [] names n = []
renamed_all used (f ∷ fs) names n = renamed_at used f names n ∷ renamed_all used fs names (last_at used f names n)

abbrev pub last_all : List ℕ → List Formula → Renaming → ℕ → ℕ
last_all used [] names n = n
last_all used (f ∷ fs) names n = last_all used fs names (last_at used f names n)

abbrev pub renamed : Formula → Formula
renamed f = renamed_at (marks f) f [] 0
