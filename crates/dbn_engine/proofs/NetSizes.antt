-- How many transitions a net has, and how long their rows are.
use Rattle.std.proofs.Common.{◌≡◌, ℕ, zero, suc, ◌+◌, ◌<◌, ◌≤◌, ◌^◌, ◌&&◌, List, [], ◌∷◌, ◌++◌, map, length, refl, sym, ap, subst, ◌∙◌, Option, Some, None, arith, length-append, append_assoc, append-nil}
use Rattle.std.specs.Prelude.{slice_get, nat_le}
use Rattle.std.specs.Option.{option_map, option_map_or}
use Rattle.std.proofs.lemmas.Bool.{and_parts, leb-true, ltb-true}
use Rattle.std.proofs.lemmas.List.{length-map}
use Rattle.std.proofs.lemmas.List.Elements.{filter_map-append}
use Rattle.std.proofs.lemmas.Option.{slice_get-map}
use Rattle.dbn_value.specs.Order.{value_type}
use Rattle.dbn_value.specs.declared.value.Value.{Value}
use Rattle.dbn_value.specs.declared.value.ColType.{ColType}
use Rattle.dbn_value.specs.declared.term.Var.{Var}
use Rattle.dbn_formula.specs.Solutions.{HasShape}
use Rattle.dbn_net.specs.declared.rules.Transition.{Transition}
use Rattle.dbn_net.specs.declared.written.WrittenTransition.{WrittenTransition}
use Rattle.dbn_net.specs.declared.written.Written.{Written}
use Rattle.dbn_net.specs.declared.written.Written.TheVariants as written
use Rattle.dbn_net.specs.declared.decl.Decl.{Decl}
use Rattle.dbn_net.specs.declared.decl.Decl.TheVariants.{Relation, Key, Foreign, Always, Query, Act, Site, Trans}
use Rattle.dbn_net.specs.declared.decl.Entry.TheVariants.{Part}
use Rattle.dbn_net.specs.Tables.{transition_in, transitions, shape_of, shapes}
use Rattle.dbn_net.specs.Naming.{transition, written_transition, named}
use Rattle.dbn_net.specs.Enabled.{shape_at}
use Rattle.dbn_net.specs.Judging.{short_names, short_lists, few_of_kind, bound_vars, is_small}
use Rattle.dbn_net.specs.WellFormed.{Passes, AllPass, WellFormed}
use Rattle.dbn_net.proofs.Maybes.{mapped_found}
use Rattle.dbn_net.proofs.LiftLaws.{stood, judged_there, fits_at}
use Rattle.dbn_net.proofs.MadeLaws.{was_made}
use Rattle.dbn_net.proofs.Scoped.{bound_vars_are}

-- ---- few transitions

counted_more : (before : List Decl) (d : Decl) (n : ℕ) → length (transitions (d ∷ [])) ≡ n → length (transitions (before ++ d ∷ [])) ≡ length (transitions before) + n
counted_more before d n one = ap length (filter_map-append transition_in before (d ∷ [])) ∙ length-append (transitions before) (transitions (d ∷ [])) ∙ ap (λ k. length (transitions before) + k) one

same_count : (before : List Decl) (d : Decl) → length (transitions (d ∷ [])) ≡ 0 → length (transitions before) ≤ 65535 → length (transitions (before ++ d ∷ [])) ≤ 65535
same_count before d none few = let size = counted_more before d 0 none in omega arith

one_counted : (before : List Decl) (d : Decl) → Passes before d → length (transitions before) ≤ 65535 → length (transitions (before ++ d ∷ [])) ≤ 65535
one_counted before (Relation name fields) p few = same_count before (Relation name fields) refl few
one_counted before (Key rel fields) p few = same_count before (Key rel fields) refl few
one_counted before (Foreign rel fields to to_fields) p few = same_count before (Foreign rel fields to to_fields) refl few
one_counted before (Always name body) p few = same_count before (Always name body) refl few
one_counted before (Query name vars body) p few = same_count before (Query name vars body) refl few
one_counted before (Act a) p few = same_count before (Act a) refl few
one_counted before (Site place) p few = same_count before (Site place) refl few
one_counted before (Trans t) p few =
    let w : Written = named before (Trans t) in
    let test = (and_parts (short_names w && short_lists w) (few_of_kind before w) (judged_there before (Trans t) p).limits).1 in
    let less : length (transitions before) < 65535 = ltb-true (length (transitions before)) 65535 test in
    let size = counted_more before (Trans t) 1 refl in
    omega arith

all_counted : (before net : List Decl) → AllPass before net → length (transitions before) ≤ 65535 → length (transitions (before ++ net)) ≤ 65535
all_counted before [] all few = subst (λ (l : List Decl). length (transitions l) ≤ 65535) (sym (append-nil before)) few
all_counted before (d ∷ net) all few =
    subst (λ (l : List Decl). length (transitions l) ≤ 65535) (append_assoc before (d ∷ []) net) (all_counted (before ++ d ∷ []) net all.1 (one_counted before d all.0 few))

-- the number of a transition has two bytes
pub few_transitions : (net : List Decl) → WellFormed net → (t : ℕ) → t < length (transitions net) → t < 2 ^ 16
few_transitions net ok t within =
    let none : length (transitions []) ≤ 65535 = omega arith in
    let few : length (transitions net) ≤ 65535 = all_counted [] net ok none in
    omega arith

-- ---- short rows

abbrev variable : Var × ColType → Var
variable x = x.0

trans_is : (a b : Transition) → Part (Trans a) ≡ Part (Trans b) → a ≡ b
trans_is a b e = cc

short_shape : (before : List Decl) (t : Transition) → Passes before (Trans t) → length (shape_of t) ≤ 80
short_shape before t p =
    let j = judged_there before (Trans t) p in
    let r : WrittenTransition = written_transition before t in
    let w : Written = written.Transition r in
    let small = (and_parts (short_names w) (short_lists w) (and_parts (short_names w && short_lists w) (few_of_kind before w) j.limits).0).1 in
    let sizes = and_parts (nat_le (length (bound_vars r.inputs)) 64 && is_small r.asked) (is_small r.fresh) small in
    let halves = and_parts (nat_le (length (bound_vars r.inputs)) 64) (is_small r.asked) sizes.0 in
    let bound : length (bound_vars r.inputs) ≤ 64 = leb-true (length (bound_vars r.inputs)) 64 halves.0 in
    let asked : length t.asked ≤ 16 = leb-true (length t.asked) 16 halves.1 in
    let (u, is, made) = mapped_found (λ (x : Transition). Part (Trans x)) (transition before r) (Part (Trans t)) j.is in
    let m = was_made before r t (is ∙ ap Some (trans_is u t made)) in
    let own : length t.bound ≡ length (bound_vars r.inputs) = sym (length-map t.bound variable) ∙ ap (λ vars. length (map variable vars)) m.bound ∙ ap length (bound_vars_are before r.inputs) in
    let size : length (shape_of t) ≡ length t.bound + length t.asked = length-map (t.bound ++ t.asked) (λ x. x.1) ∙ length-append t.bound t.asked in
    omega arith

short_found : (net : List Decl) (n : ℕ) (row : List Value) (found : Option Transition) → WellFormed net → slice_get (transitions net) n ≡ found → HasShape row (option_map_or shape_of found []) → length row ≤ 80
short_found net n row None ok is shape = let size : length row ≡ 0 = sym (length-map row value_type) ∙ ap length shape in omega arith
short_found net n row (Some t) ok is shape =
    let s = stood [] net (Trans t) ok (fits_at net n t ok is).declared in
    let few : length (shape_of t) ≤ 80 = short_shape ([] ++ s.front) t s.passes in
    let size : length row ≡ length (shape_of t) = sym (length-map row value_type) ∙ ap length shape in
    omega arith

-- a row of a transition has 80 values at most
pub short_rows : (net : List Decl) (n : ℕ) (row : List Value) → WellFormed net → HasShape row (shape_at net n) → length row ≤ 80
short_rows net n row ok shape = short_found net n row (slice_get (transitions net) n) ok refl shape

-- ---- shapes

there_is : {A : Type 0} (xs : List A) (n : ℕ) → n < length xs → slice_get xs n ≡ None → ⊥
there_is [] n within e = omega arith
there_is (x ∷ xs) zero within e = cc
there_is (x ∷ xs) (suc n) within e = there_is xs n (omega arith) e

shape_found : (net : List Decl) (n : ℕ) (row : List Value) (found : Option Transition) → slice_get (transitions net) n ≡ found → n < length (transitions net) → HasShape row (option_map_or shape_of found [])
    → slice_get (shapes net) n ≡ Some (map value_type row)
shape_found net n row None is within shape = absurd (there_is (transitions net) n within is)
shape_found net n row (Some t) is within shape = slice_get-map shape_of (transitions net) n ∙ ap (option_map shape_of) is ∙ ap Some (sym shape)

-- what is of the types of its transition has the shape of the net
pub shape_there : (net : List Decl) (n : ℕ) (row : List Value) → n < length (transitions net) → HasShape row (shape_at net n) → slice_get (shapes net) n ≡ Some (map value_type row)
shape_there net n row within shape = shape_found net n row (slice_get (transitions net) n) refl within shape
