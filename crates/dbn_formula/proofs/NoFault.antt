-- A formula without a fault of types: what that says, and what it follows from.
use Rattle.std.proofs.Common.{◌≡◌, Bool, true, false, not, List, refl, ap, Some, None, if◌then◌else◌}
use Rattle.std.specs.List.{list_all}
use Rattle.dbn_value.specs.Members.{In}
use Rattle.dbn_value.proofs.MemberLaws.{all_at}
use Rattle.dbn_value.specs.declared.term.Var.{Var}
use Rattle.dbn_formula.specs.Variables.{TypedVars, binds}
use Rattle.dbn_formula.specs.Holds.{Env, Domain, Instance, lookup, holds_over}
use Rattle.dbn_formula.specs.Free.{occurrences}
use Rattle.dbn_formula.specs.Typing.{Shapes, arity_fits, types_fit, all_bound, type_fault}
use Rattle.dbn_formula.specs.declared.typing.TypeFault.TheVariants.{Arity, TypeClash, Unbound}
use Rattle.dbn_formula.specs.declared.formula.Formula.{Formula}
use Rattle.dbn_formula.proofs.Depends.{depends}

three : (arity types bound : Bool) → (if not arity then Some Arity else if not types then Some TypeClash else if not bound then Some Unbound else None) ≡ None
    → (arity ≡ true) × (types ≡ true) × (bound ≡ true)
three true true true e = (refl, refl, refl)
three true true false e = cc
three true false bound e = cc
three false types bound e = cc

none : (arity types bound : Bool) → arity ≡ true → types ≡ true → bound ≡ true
    → (if not arity then Some Arity else if not types then Some TypeClash else if not bound then Some Unbound else None) ≡ None
none true true true a t b = refl
none true true false a t b = cc
none true false bound a t b = cc
none false types bound a t b = cc

pub no_fault : (rels : Shapes) (f : Formula) (scope : TypedVars) → type_fault rels f scope ≡ None → (arity_fits rels f ≡ true) × (types_fit rels f scope ≡ true) × (all_bound f scope ≡ true)
no_fault rels f scope e = three (arity_fits rels f) (types_fit rels f scope) (all_bound f scope) e

pub fault_none : (rels : Shapes) (f : Formula) (scope : TypedVars) → arity_fits rels f ≡ true → types_fit rels f scope ≡ true → all_bound f scope ≡ true → type_fault rels f scope ≡ None
fault_none rels f scope a t b = none (arity_fits rels f) (types_fit rels f scope) (all_bound f scope) a t b

-- no variable outside the scope is asked for
pub typed_closed : (rels : Shapes) (f : Formula) (scope : TypedVars) (x : Var) → type_fault rels f scope ≡ None → In x (occurrences f) → binds scope x ≡ true
typed_closed rels f scope x e at = all_at (binds scope) x (occurrences f) (no_fault rels f scope e).2 at

pub scope_decides : (dom : Domain) (db : Instance) (rels : Shapes) (f : Formula) (scope : TypedVars) (s t : Env) → type_fault rels f scope ≡ None
    → ((x : Var) → binds scope x ≡ true → lookup s x ≡ lookup t x) → holds_over dom db f s ≡ holds_over dom db f t
scope_decides dom db rels f scope s t e same = depends dom db f s t (λ x at. same x (typed_closed rels f scope x e at))
