-- A good state has the relations and the places of its net.
use Rattle.std.proofs.Common.{◌≡◌, ℕ, ◌+◌, ◌≤◌, List, [], ◌∷◌, map, refl, ap, ◌∙◌, arith, length}
use Rattle.std.proofs.lemmas.List.{length-map}
use Rattle.dbn_value.specs.declared.value.Value.{Value}
use Rattle.dbn_formula.specs.Typing.{Shapes}
use Rattle.dbn_net.specs.declared.decl.Place.{Place}
use Rattle.dbn_net.specs.declared.decl.Decl.{Decl}
use Rattle.dbn_net.specs.declared.snapshot.Snapshot.{Snapshot}
use Rattle.dbn_net.specs.Tables.{relation_shape, relation_shapes, relations, places}
use Rattle.dbn_net.specs.Values.{Marking}
use Rattle.dbn_net.specs.Good.{RowsFit, TokensFit, Good}

rows_length : (db : List (List (List Value))) (rels : Shapes) → RowsFit db rels → length db ≤ length rels
rows_length [] [] fit = omega arith
rows_length [] (shape ∷ rels) fit = absurd fit
rows_length (rows ∷ db) [] fit = absurd fit
rows_length (rows ∷ db) (shape ∷ rels) fit = let less : length db ≤ length rels = rows_length db rels fit.1 in omega (arith, less)

tokens_length : (tokens : Marking) (sites : List Place) → TokensFit tokens sites → length tokens ≤ length sites
tokens_length [] [] fit = omega arith
tokens_length [] (site ∷ sites) fit = absurd fit
tokens_length (held ∷ tokens) [] fit = absurd fit
tokens_length (held ∷ tokens) (site ∷ sites) fit = let less : length tokens ≤ length sites = tokens_length tokens sites fit.1 in omega (arith, less)

pub good_relations : (net : List Decl) (s : Snapshot) → Good net s → length s.instance ≤ length (relations net)
good_relations net s good =
    let less : length s.instance ≤ length (relation_shapes net) = rows_length s.instance (relation_shapes net) good.facts_fit in
    let same : length (relation_shapes net) ≡ length (relations net) = length-map (relations net) relation_shape in
    omega (arith, less, same)

pub good_places : (net : List Decl) (s : Snapshot) → Good net s → length s.marking ≤ length (places net)
good_places net s good = tokens_length s.marking (places net) good.tokens_fit
