-- Which formulas are well typed, under a scope of typed variables and over relations of given shapes.
use Rattle.std.specs.Prelude.{Bool, true, not, ◌&&◌, ◌==◌, if◌then◌else◌, List, [], ◌∷◌, length, Option, Some, None, slice_index_or}
use Rattle.std.specs.List.{list_all}
use Rattle.dbn_value.specs.Order.{value_type}
use Rattle.dbn_value.specs.declared.value.ColType.{ColType}
use Rattle.dbn_value.specs.declared.value.ColType.TheVariants as col
use Rattle.dbn_value.specs.declared.term.Var.{Var}
use Rattle.dbn_value.specs.declared.term.Term.{Term}
use Rattle.dbn_value.specs.declared.term.Term.TheVariants as term
use Rattle.dbn_value.specs.declared.term.Cmp.{Cmp}
use Rattle.dbn_value.specs.declared.term.Cmp.TheVariants as cmp
use Rattle.dbn_formula.specs.Variables.{TypedVars, var_eq, type_eq, binds}
use Rattle.dbn_formula.specs.Free.{occurrences}
use Rattle.dbn_formula.specs.declared.formula.Formula.{Formula}
use Rattle.dbn_formula.specs.declared.formula.Formula.TheOpen.{Formula-F}
use Rattle.dbn_formula.specs.declared.formula.Formula.TheOpen as layer
use Rattle.dbn_formula.specs.declared.formula.Formula.TheFolds.{fold-Formula}
use Rattle.dbn_formula.specs.declared.typing.TypeFault.{TypeFault}
use Rattle.dbn_formula.specs.declared.typing.TypeFault.TheVariants.{Arity, TypeClash, Unbound}

abbrev pub Shapes : Type 0
Shapes = List (List ColType)

-- ---- numbers of terms

abbrev pub arity_step : Shapes → Formula-F Bool → Bool
arity_step rels (layer.Atom rel terms) = length terms == length (slice_index_or rels rel [])
arity_step rels (layer.Test cmp left right) = true
arity_step rels (layer.And parts) = list_all (λ part. part) parts
arity_step rels (layer.Or parts) = list_all (λ part. part) parts
arity_step rels (layer.Not part) = part
arity_step rels (layer.Implies left right) = left && right
arity_step rels (layer.Exists vars body) = body
arity_step rels (layer.Forall vars body) = body

-- each atom has as many terms as its relation has columns
unfoldable pub arity_fits : Shapes → Formula → Bool
arity_fits rels f = fold-Formula Bool (arity_step rels) f

-- ---- types

-- the scope inside a quantifier: its variables are entered one after the other, the newest first
abbrev pub entered : TypedVars → TypedVars → TypedVars
entered [] scope = scope
entered (x ∷ vars) scope = entered vars (x ∷ scope)

-- the type of the variable, by its first entry
abbrev pub type_in : TypedVars → Var → Option ColType
type_in [] x = None
type_in (entry ∷ scope) x = if var_eq x entry.0 then Some entry.1 else type_in scope x

-- the type of the variable inside a quantifier, where it has the type `found` outside
abbrev pub type_under : TypedVars → Var → Option ColType → Option ColType
type_under [] x found = found
type_under (entry ∷ vars) x found = type_under vars x (if var_eq x entry.0 then Some entry.1 else found)

abbrev pub term_type : TypedVars → Term → Option ColType
term_type scope (term.Var x) = type_in scope x
term_type scope (term.Const v) = Some (value_type v)

-- where both have a type it is one
abbrev pub agree : Option ColType → Option ColType → Bool
agree (Some a) (Some b) = type_eq a b
agree None b = true
agree (Some a) None = true

-- each term that has a type has that of its column
abbrev pub terms_fit : TypedVars → List Term → List ColType → Bool
terms_fit scope [] shape = true
terms_fit scope (t ∷ terms) [] = true
terms_fit scope (t ∷ terms) (type ∷ shape) = agree (term_type scope t) (Some type) && terms_fit scope terms shape

-- the sides of a comparison that have a type have one type, and it is int where they are compared by order
abbrev pub sides_fit : Cmp → Option ColType → Option ColType → Bool
sides_fit cmp.Eq a b = agree a b
sides_fit cmp.Ne a b = agree a b
sides_fit cmp.Lt a b = agree a (Some col.Int) && agree b (Some col.Int)
sides_fit cmp.Le a b = agree a (Some col.Int) && agree b (Some col.Int)
sides_fit cmp.Gt a b = agree a (Some col.Int) && agree b (Some col.Int)
sides_fit cmp.Ge a b = agree a (Some col.Int) && agree b (Some col.Int)

abbrev pub types_step : Shapes → Formula-F (TypedVars → Bool) → TypedVars → Bool
types_step rels (layer.Atom rel terms) scope = terms_fit scope terms (slice_index_or rels rel [])
types_step rels (layer.Test cmp left right) scope = sides_fit cmp (term_type scope left) (term_type scope right)
types_step rels (layer.And parts) scope = list_all (λ part. part scope) parts
types_step rels (layer.Or parts) scope = list_all (λ part. part scope) parts
types_step rels (layer.Not part) scope = part scope
types_step rels (layer.Implies left right) scope = left scope && right scope
types_step rels (layer.Exists vars body) scope = body (entered vars scope)
types_step rels (layer.Forall vars body) scope = body (entered vars scope)

-- each term that has a type where it stands has the type of its position; a variable without one is left to the next test
unfoldable pub types_fit : Shapes → Formula → TypedVars → Bool
types_fit rels f scope = fold-Formula (TypedVars → Bool) (types_step rels) f scope

-- ---- bound variables

-- each variable is in the scope or quantified where it stands
abbrev pub all_bound : Formula → TypedVars → Bool
all_bound f scope = list_all (binds scope) (occurrences f)

-- the first kind of fault, in this order, that stands anywhere in the formula
abbrev pub type_fault : Shapes → Formula → TypedVars → Option TypeFault
type_fault rels f scope =
    if not (arity_fits rels f) then Some Arity else if not (types_fit rels f scope) then Some TypeClash else if not (all_bound f scope) then Some Unbound else None
