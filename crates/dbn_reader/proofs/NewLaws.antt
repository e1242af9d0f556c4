-- Names that are new, by the numbers of names; the three tests of duplicates; the names of a transition's variables.
use Rattle.std.proofs.Common.{◌≡◌, ℕ, suc, ◌+◌, Bool, true, false, not, cond, ◌&&◌, ◌||◌, nat_lt, List, [], ◌∷◌, map, length, refl, sym, ap, ◌∙◌, Some, None, arith}
use Rattle.std.specs.List.{list_any, prefix_len}
use Rattle.std.specs.Option.{is_none}
use Rattle.std.proofs.lemmas.Bool.Decides.{nat_tests}
use borrow.Author.Tests.{lt-ltb}
use Rattle.dbn_value.specs.Names.{name_eq}
use Rattle.dbn_value.specs.declared.value.ColType.{ColType}
use Rattle.dbn_value.specs.declared.term.Var.{Var}
use Rattle.dbn_net.specs.declared.decl.Decl.{Decl}
use Rattle.dbn_net.specs.declared.written.Written.{Written}
use Rattle.dbn_net.specs.declared.written.Written.TheVariants as written
use Rattle.dbn_net.specs.declared.written.WrittenTransition.{WrittenTransition}
use Rattle.dbn_net.specs.Forms.{Name}
use Rattle.dbn_net.specs.Naming.{number_of, bound_of}
use Rattle.dbn_net.specs.Judging.{Begun, is_new, once, var_names, scope_names, bound_vars, quantifies_once, no_duplicate}
use Rattle.dbn_net.proofs.Scoped.{bound_vars_are}
use Rattle.dbn_formula.proofs.Maps.{map-map}
use Rattle.dbn_reader.specs.Duplicates.{is_new_name, is_new_row, lists_once}

step : (a b : ℕ) → nat_lt (1 + a) (suc b) ≡ nat_lt a b
step a b = grind (arith, nat_tests)

-- an element is found before the end exactly where one passes
found_within : {A : Type 0} (p : A → Bool) (xs : List A) → nat_lt (prefix_len (λ x. not (p x)) xs) (length xs) ≡ list_any p xs
found_within p [] = refl
found_within p (x ∷ xs) =
    elim (p x) as (λ b. nat_lt (cond (not b) (1 + prefix_len (λ y. not (p y)) xs) 0) (suc (length xs)) ≡ (b || list_any p xs)) [
      | true ↦ lt-ltb 0 (suc (length xs)) (omega arith)
      | false ↦ step (prefix_len (λ y. not (p y)) xs) (length xs) ∙ found_within p xs
    ]

none_if : (b : Bool) (n : ℕ) → is_none (cond b (Some n) None) ≡ not b
none_if true n = refl
none_if false n = refl

-- a name is new exactly where it has no number
pub new_if : (names : List Name) (name : Name) → is_none (number_of names name) ≡ is_new names name
new_if names name =
    none_if (nat_lt (prefix_len (λ x. not (name_eq name x)) names) (length names)) (prefix_len (λ x. not (name_eq name x)) names)
    ∙ ap not (found_within (name_eq name) names)

pub twice_not : (b : Bool) → not (not b) ≡ b
twice_not true = refl
twice_not false = refl

pub ruleset new_laws = (new_if, twice_not)

pub same_names : (names : List Name) → map (λ (n : Name). n) names ≡ names
same_names [] = refl
same_names (n ∷ names) = ap (λ ns. n ∷ ns) (same_names names)

pub ruleset name_laws = (same_names)

and_true : (a : Bool) → (a && true) ≡ a
and_true true = refl
and_true false = refl

and_both : (a b c : Bool) → (a && b && c) ≡ (a && (b && c))
and_both true b c = refl
and_both false b c = refl

pub three_tests : (net : List Decl) (begun : Begun) (w : Written) → no_duplicate net begun w ≡ (is_new_name net w && (is_new_row net begun w && lists_once w))
three_tests net begun (written.Relation name fields) = refl
three_tests net begun (written.Key rel fields) = refl
three_tests net begun (written.Foreign rel fields to to_fields) = refl
three_tests net begun (written.Always name body) = refl
three_tests net begun (written.Query name vars body) = and_both (is_new_name net (written.Query name vars body)) (once (scope_names vars)) (quantifies_once body)
three_tests net begun (written.Action name params deletes adds) = refl
three_tests net begun (written.Control name shape) = sym (and_true (is_new_name net (written.Control name shape)))
three_tests net begun (written.View name query) = sym (and_true (is_new_name net (written.View name query)))
three_tests net begun (written.Transition r) = refl
three_tests net begun (written.Fact rel row) = sym (and_true (is_new_row net begun (written.Fact rel row)))
three_tests net begun (written.Token place many row) = sym (and_true (is_new_row net begun (written.Token place many row)))

-- the names of all variables of a transition
pub bound_names : (net : List Decl) (r : WrittenTransition) → scope_names (bound_of net r.inputs) ≡ var_names (bound_vars r.inputs)
bound_names net r = sym (map-map (λ (x : Var). x.name) (λ (x : Var × ColType). x.0) (bound_of net r.inputs)) ∙ ap var_names (bound_vars_are net r.inputs)
