-- Formulas with numbers, variant by variant, with the parts of a list in place; the columns of a relation.
use Rattle.std.proofs.Common.{◌≡◌, ℕ, zero, suc, List, [], ◌∷◌, map, refl, sym, ap, ◌∙◌, Option, Some}
use Rattle.std.specs.Prelude.{slice_get, slice_index_or}
use Rattle.std.specs.Option.{option_map, option_map_or}
use Rattle.std.specs.List.{position}
use Rattle.dbn_value.specs.Names.{name_eq}
use Rattle.dbn_value.specs.declared.value.ColType.{ColType}
use Rattle.dbn_value.proofs.ListLaws.{position_map}
use Rattle.dbn_formula.specs.declared.formula.Formula.{Formula}
use Rattle.dbn_formula.specs.declared.formula.Formula.TheVariants as formula
use Rattle.dbn_net.specs.declared.written.WrittenFormula.{WrittenFormula}
use Rattle.dbn_net.specs.declared.written.WrittenFormula.TheVariants.{And, Or}
use Rattle.dbn_net.specs.declared.decl.Decl.{Decl}
use Rattle.dbn_net.specs.declared.decl.Decl.TheVariants.{Relation}
use Rattle.dbn_net.specs.declared.decl.Decl.TheVariants as decl
use Rattle.dbn_net.specs.Maybe.{◌>>=◌, each, all_known}
use Rattle.dbn_net.specs.Forms.{Name}
use Rattle.dbn_net.specs.Tables.{Table, relation_in, relations, field_names}
use Rattle.dbn_net.specs.Naming.{number_of, resolved_formula}
use Rattle.dbn_net.proofs.Maybes.{some_is}
use Rattle.dbn_net.proofs.WrittenFormulaLaws.{resolved_atom, resolved_test, resolved_and, resolved_or, resolved_not, resolved_implies, resolved_exists, resolved_forall}

known_each : {A B : Type 0} (f : A → Option B) (xs : List A) → all_known (map f xs) ≡ each f xs
known_each f [] = refl
known_each f (x ∷ xs) = ap (λ o. f x >>= λ y. o >>= λ ys. Some (y ∷ ys)) (known_each f xs)

pub and_resolved : (names : List Name) (ps : List WrittenFormula) → resolved_formula names (And ps) ≡ option_map formula.And (each (resolved_formula names) ps)
and_resolved names ps = resolved_and names ps ∙ ap (option_map formula.And) (known_each (resolved_formula names) ps)

pub or_resolved : (names : List Name) (ps : List WrittenFormula) → resolved_formula names (Or ps) ≡ option_map formula.Or (each (resolved_formula names) ps)
or_resolved names ps = resolved_or names ps ∙ ap (option_map formula.Or) (known_each (resolved_formula names) ps)

pub ruleset resolved_laws = (resolved_atom, resolved_test, and_resolved, or_resolved, resolved_not, resolved_implies, resolved_exists, resolved_forall)

pub position_of_field : (fields : List (Name × ColType)) (name : Name) → number_of (map (λ f. f.0) fields) name ≡ position (λ (f : Name × ColType). name_eq name f.0) fields
position_of_field fields name = position_map (name_eq name) (λ (f : Name × ColType). f.0) fields

-- the columns of the relation that stands there
pub got : {A B : Type 0} (f : A → B) (xs : List A) (n : ℕ) (x : A) (d : B) → slice_get xs n ≡ Some x → slice_index_or (map f xs) n d ≡ f x
got f [] n x d e = absurd cc
got f (z ∷ xs) zero x d e = ap f (some_is z x e)
got f (z ∷ xs) (suc n) x d e = got f xs n x d e

pub fields_there : (net : List Decl) (n : ℕ) (name : Name) (fields : List (Name × ColType)) → relation_in (Relation name fields) ≡ slice_get (relations net) n
    → field_names net n ≡ map (λ f. f.0) fields
fields_there net n name fields e = got (λ (r : Table). map (λ (f : Name × ColType). f.0) r.fields) (relations net) n (record { name = name; fields = fields }) [] (sym e)

pub relation_in_is : (d : Decl) (r : Table) → relation_in d ≡ Some r → d ≡ Relation r.name r.fields
relation_in_is (Relation name fields) r e = ap (λ (t : Table). Relation t.name t.fields) (some_is (record { name = name; fields = fields }) r e)
relation_in_is (decl.Key rel fields) r e = absurd cc
relation_in_is (decl.Foreign rel fields to to_fields) r e = absurd cc
relation_in_is (decl.Always name body) r e = absurd cc
relation_in_is (decl.Query name vars body) r e = absurd cc
relation_in_is (decl.Act a) r e = absurd cc
relation_in_is (decl.Site p) r e = absurd cc
relation_in_is (decl.Trans t) r e = absurd cc
