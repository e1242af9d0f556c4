-- What is printed of a net and a good snapshot is read again as the same net and state.
use Rattle.std.proofs.Common.{◌≡◌, ℕ, suc, true, List, [], ◌∷◌, ◌++◌, refl, sym, ap, ◌∙◌, length}
use Rattle.std.specs.Prelude.{Ok}
use Rattle.std.specs.List.{flat_map, AllByRecursion}
use Rattle.std.proofs.lemmas.Bool.{and_parts, and_from}
use Rattle.std.proofs.lemmas.List.{length-map}
use Rattle.dbn_value.specs.declared.value.Value.{Value}
use Rattle.dbn_value.specs.declared.value.ColType.{ColType}
use Rattle.dbn_sexp.specs.Printing.{on_lines, HasAtoms, text}
use Rattle.dbn_sexp.specs.Reading as sexps
use Rattle.dbn_formula.specs.Holds.{Instance}
use Rattle.dbn_net.specs.declared.snapshot.Snapshot.{Snapshot}
use Rattle.dbn_net.specs.declared.decl.Place.{Place}
use Rattle.dbn_net.specs.declared.decl.Decl.{Decl}
use Rattle.dbn_net.specs.Tables.{relations, places, relation_shape, relation_shapes}
use Rattle.dbn_net.specs.WellFormed.{WellFormed}
use Rattle.dbn_net.specs.Values.{Marking, id_below, ids_below, rule_values, token_values}
use Rattle.dbn_net.specs.Texts.{printed, canonical_list, ReadsAgain}
use Rattle.dbn_net.specs.Good.{RowsFit, TokensFit, Good}
use Rattle.dbn_formula.specs.Answers.{values_in}
use Rattle.dbn_sexp.proofs.PrintLaws.{reads_text}
use Rattle.dbn_net.proofs.RoundNames.{known_names, all_fit}
use Rattle.dbn_net.proofs.RoundPlaces.{known_places, all_counted}
use Rattle.dbn_net.proofs.RoundWhole.{Rebuilds}
use Rattle.dbn_net.proofs.RoundDepth.{canonical_within}
use Rattle.dbn_net.proofs.RoundNext.{RowsBelow, CountedBelow}
use Rattle.dbn_net.proofs.RoundTransitions.{rules_below}
use Rattle.dbn_net.proofs.RoundText.{text_again}

rows_long : (facts : Instance) (shapes : List (List ColType)) → RowsFit facts shapes → length shapes ≡ length facts
rows_long [] [] fit = refl
rows_long [] (s ∷ shapes) fit = absurd fit
rows_long (rows ∷ facts) [] fit = absurd fit
rows_long (rows ∷ facts) (s ∷ shapes) fit = ap suc (rows_long facts shapes fit.1)

tokens_long : (tokens : Marking) (sites : List Place) → TokensFit tokens sites → length sites ≡ length tokens
tokens_long [] [] fit = refl
tokens_long [] (s ∷ sites) fit = absurd fit
tokens_long (held ∷ tokens) [] fit = absurd fit
tokens_long (held ∷ tokens) (s ∷ sites) fit = ap suc (tokens_long tokens sites fit.1)

pub rebuilds : (net : List Decl) (s : Snapshot) → WellFormed net → Good net s → Rebuilds net s.instance s.marking
rebuilds net s ok good = record {
  net = ok;
  relations_are = sym (length-map (relations net) relation_shape) ∙ rows_long s.instance (relation_shapes net) good.facts_fit;
  places_are = tokens_long s.marking (places net) good.tokens_fit;
  facts_fit = all_fit net [] (relations net) s.instance refl good.facts_fit good.facts_ascend (known_names [] net ok);
  tokens_fit = all_counted net [] (places net) s.marking refl good.tokens_fit good.tokens_counted (known_places [] net ok);
}

split : (n : ℕ) (xs ys : List Value) → ids_below n (xs ++ ys) ≡ true → (ids_below n xs ≡ true) × (ids_below n ys ≡ true)
split n [] ys e = (refl, e)
split n (x ∷ xs) ys e =
    let p = and_parts (id_below n x) (ids_below n (xs ++ ys)) e in
    let rest = split n xs ys p.1 in
    (and_from (id_below n x) (ids_below n xs) p.0 rest.0, rest.1)

each_value : (n : ℕ) (row : List Value) → ids_below n row ≡ true → AllByRecursion (λ v. id_below n v ≡ true) row
each_value n [] e = tt
each_value n (v ∷ row) e = let p = and_parts (id_below n v) (ids_below n row) e in (p.0, each_value n row p.1)

each_row : (n : ℕ) (rows : List (List Value)) → ids_below n (flat_map (λ row. row) rows) ≡ true → RowsBelow n rows
each_row n [] e = tt
each_row n (row ∷ rows) e = let p = split n row (flat_map (λ r. r) rows) e in (each_value n row p.0, each_row n rows p.1)

each_relation : (n : ℕ) (db : Instance) → ids_below n (values_in db) ≡ true → AllByRecursion (RowsBelow n) db
each_relation n [] e = tt
each_relation n (rows ∷ db) e = let p = split n (flat_map (λ r. r) rows) (values_in db) e in (each_row n rows p.0, each_relation n db p.1)

each_counted : (n : ℕ) (held : List (List Value × ℕ)) → ids_below n (flat_map (λ c. c.0) held) ≡ true → CountedBelow n held
each_counted n [] e = tt
each_counted n (c ∷ held) e = let p = split n c.0 (flat_map (λ d. d.0) held) e in (each_value n c.0 p.0, each_counted n held p.1)

each_place : (n : ℕ) (marking : Marking) → ids_below n (token_values marking) ≡ true → AllByRecursion (CountedBelow n) marking
each_place n [] e = tt
each_place n (held ∷ marking) e = let p = split n (flat_map (λ c. c.0) held) (token_values marking) e in (each_counted n held p.0, each_place n marking p.1)

-- what is printed of a good snapshot is read again
pub good_again : (bytes : List ℕ) (net : List Decl) (s : Snapshot)
    → sexps.reads 64 bytes ≡ Ok (on_lines 1 (canonical_list net s.instance s.marking))
    → WellFormed net → Good net s → ReadsAgain bytes net s.instance s.marking s.next
good_again bytes net s printed ok good =
    let outer = split s.next (values_in s.instance ++ token_values s.marking) (rule_values net) good.ids in
    let inner = split s.next (values_in s.instance) (token_values s.marking) outer.0 in
    text_again bytes net s.instance s.marking s.next printed (rebuilds net s ok good) good.holds
    (rules_below s.next [] net outer.1) (each_relation s.next s.instance inner.0) (each_place s.next s.marking inner.1)

-- the same without a call
pub canonical_again : (net : List Decl) (s : Snapshot) → HasAtoms (canonical_list net s.instance s.marking) → WellFormed net → Good net s
    → ReadsAgain (text (canonical_list net s.instance s.marking)) net s.instance s.marking s.next
canonical_again net s form ok good =
    good_again (text (canonical_list net s.instance s.marking)) net s
    (reads_text 64 (canonical_list net s.instance s.marking) form (canonical_within net s.instance s.marking ok)) ok good
