-- Tests of terms: all variables of a list, the columns of a call, all variables of a transition.
use Rattle.std.proofs.Common.{◌≡◌, ℕ, ◌<◌, ◌≤◌, Bool, ◌&&◌, List, [], ◌∷◌, ◌++◌, map, refl, sym, ap, subst, ◌∙◌, Some, Result, IfOk, length, arith, zero, suc}
use Rattle.std.specs.Prelude.{slice_get, slice_index_or}
use Rattle.std.specs.List.{list_all, flat_map}
use Rattle.std.proofs.lemmas.List.Folds.{list_all-append}
use Rattle.dbn_formula.specs.Variables.{TypedVars, is_in, firsts}
use Rattle.dbn_formula.specs.Free.{occurrences, free}
use Rattle.dbn_formula.specs.declared.formula.Formula.{Formula}
use Rattle.dbn_formula.proofs.VariableLaws.{in_of_is, is_of_in, in_firsts, firsts_in}
use Rattle.dbn_value.specs.declared.term.Var.{Var}
use Rattle.std.specs.Cmp.{both_ways}
use Rattle.dbn_instance.specs.declared.fact.Action.{Action}
use Rattle.dbn_net.specs.declared.decl.Decl.{Decl}
use Rattle.dbn_net.specs.Tables.{actions, action_shapes, columns, types_of}
use Rattle.dbn_reader.proofs.ResolvedLaws.{got}

pub all_flat : {A B : Type 0} (t : B → Bool) (f : A → List B) (xs : List A) → list_all t (flat_map f xs) ≡ list_all (λ x. list_all t (f x)) xs
all_flat t f [] = refl
all_flat t f (x ∷ xs) = list_all-append t (f x) (flat_map f xs) ∙ ap (λ b. list_all t (f x) && b) (all_flat t f xs)

pub action_columns : (net : List Decl) (n : ℕ) (a : Action) → slice_get (actions net) n ≡ Some a → columns (action_shapes net) n ≡ types_of a.params
action_columns net n a e = got (λ (b : Action). types_of b.params) (actions net) n a [] e

past : {A B : Type 0} (f : A → B) (xs : List A) (n : ℕ) (d : B) → length xs ≤ n → slice_index_or (map f xs) n d ≡ d
past f [] n d h = refl
past f (x ∷ xs) zero d h = absurd (omega arith)
past f (x ∷ xs) (suc n) d h = past f xs n d (omega arith)

pub no_columns : (net : List Decl) (n : ℕ) → length (actions net) ≤ n → columns (action_shapes net) n ≡ []
no_columns net n h = past (λ (b : Action). types_of b.params) (actions net) n [] h

pub ruleset action_laws = (action_columns, no_columns)

-- a variable is among the first occurrences exactly where it occurs
pub among_firsts : (x : Var) (xs : List Var) → is_in x (firsts xs) ≡ is_in x xs
among_firsts x xs =
    both_ways (is_in x (firsts xs)) (is_in x xs)
    (λ e. is_of_in x xs (in_firsts x xs (in_of_is x (firsts xs) e)))
    (λ e. is_of_in x (firsts xs) (firsts_in x xs (in_of_is x xs e)))

pub all_among : (xs : List Var) (vars : TypedVars) → list_all (λ x. is_in x.0 (firsts xs)) vars ≡ list_all (λ x. is_in x.0 xs) vars
all_among xs [] = refl
all_among xs (x ∷ vars) =
    ap (λ b. b && list_all (λ y. is_in y.0 (firsts xs)) vars) (among_firsts x.0 xs) ∙ ap (λ b. is_in x.0 xs && b) (all_among xs vars)

-- what is used, by the free variables
pub free_are_used : {E : Type 0} (result : Result Bool E) (vars : TypedVars) (used : List Var) (body : Formula) → used ≡ free body
    → IfOk result (λ ok. ok ≡ list_all (λ x. is_in x.0 used) vars) → IfOk result (λ ok. ok ≡ list_all (λ x. is_in x.0 (occurrences body)) vars)
free_are_used result vars used body e told =
    subst (λ (b : Bool). IfOk result (λ ok. ok ≡ b)) (ap (λ (us : List Var). list_all (λ x. is_in x.0 us) vars) e ∙ all_among (occurrences body) vars) told
