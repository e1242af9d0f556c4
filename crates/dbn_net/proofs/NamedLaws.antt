-- Naming undoes resolving: names and numbers of names.
use Rattle.std.proofs.Common.{◌≡◌, ℕ, ◌<◌, List, [], ◌∷◌, map, sym, ap, ◌∙◌, Some, length}
use Rattle.std.specs.Prelude.{get_or}
use Rattle.std.proofs.lemmas.List.Quantifiers.{position-Some}
use Rattle.std.proofs.lemmas.Slice.Eq.{bytes_eq-Decides}
use Rattle.dbn_value.specs.Names.{name_eq}
use Rattle.dbn_net.specs.declared.decl.Decl.{Decl}
use Rattle.dbn_net.specs.declared.decl.Decl.TheVariants as decl
use Rattle.dbn_net.specs.declared.written.Written.TheVariants as written
use Rattle.dbn_net.specs.Maybe.{◌>>=◌, each}
use Rattle.dbn_net.specs.Forms.{Name}
use Rattle.dbn_net.specs.Tables.{relation_names, field_names}
use Rattle.dbn_net.specs.Naming.{number_of, name_at, fields_of, resolved_key, named}
use Rattle.dbn_net.proofs.Maybes.{some_is, first_found}

pub number_within : (names : List Name) (name : Name) (n : ℕ) → number_of names name ≡ Some n → n < length names
number_within names name n e = (position-Some (name_eq name) names n [] e).0

pub name_again : (names : List Name) (name : Name) (n : ℕ) → number_of names name ≡ Some n → name_at names n ≡ name
name_again names name n e = sym ((bytes_eq-Decides name (get_or names n [])).0 (position-Some (name_eq name) names n [] e).1)

pub names_again : (names all : List Name) (ns : List ℕ) → each (number_of names) all ≡ Some ns → map (name_at names) ns ≡ all
names_again names [] ns e = ap (map (name_at names)) (sym (some_is [] ns e))
names_again names (x ∷ xs) ns e =
    let (n, is, rest) = first_found (number_of names x) (λ k. each (number_of names) xs >>= λ ks. Some (k ∷ ks)) ns e in
    let (ks, are, made) = first_found (each (number_of names) xs) (λ ks. Some (n ∷ ks)) ns rest in
    ap (map (name_at names)) (sym (some_is (n ∷ ks) ns made)) ∙ ap (λ y. y ∷ map (name_at names) ks) (name_again names x n is) ∙ ap (λ ys. x ∷ ys) (names_again names xs ks are)

pub key_again : (net : List Decl) (rel : Name) (fields : List Name) (d : Decl) → resolved_key net rel fields ≡ Some d → named net d ≡ written.Key rel fields
key_again net rel fields d e =
    let (n, a, rest) = first_found (number_of (relation_names net) rel) (λ k. fields_of net k fields >>= λ ks. Some (decl.Key k ks)) d e in
    let (ns, b, made) = first_found (fields_of net n fields) (λ ks. Some (decl.Key n ks)) d rest in
    ap (named net) (sym (some_is (decl.Key n ns) d made))
    ∙ (λ i. written.Key (name_again (relation_names net) rel n a i) (names_again (field_names net n) fields ns b i))
