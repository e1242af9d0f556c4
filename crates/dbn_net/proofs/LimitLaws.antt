-- The limits of a net.
use Rattle.std.proofs.Common.{◌≡◌, ℕ, ◌+◌, ◌<◌, ◌≤◌, zero, suc, true, ◌&&◌, List, [], ◌∷◌, ◌++◌, map, refl, sym, ap, subst, ◌∙◌, inl, inr, Option, Some, None, arith, length, length-append, append-nil, append_assoc}
use Rattle.std.specs.Prelude.{slice_get, slice_index_or, nat_le, nat_lt}
use Rattle.std.specs.List.{filter_map}
use Rattle.std.proofs.lemmas.Bool.{and_parts, ltb-true, leb-true}
use Rattle.std.proofs.lemmas.List.{length-map}
use Rattle.dbn_value.specs.Members.{In}
use Rattle.dbn_value.specs.Order.{value_type}
use Rattle.dbn_value.specs.declared.value.Value.{Value}
use Rattle.dbn_value.specs.declared.value.ColType.{ColType}
use Rattle.dbn_value.specs.declared.term.Var.{Var}
use Rattle.dbn_value.proofs.MemberLaws.{in_at}
use Rattle.dbn_formula.specs.Distinct.{distinct_vars}
use Rattle.dbn_formula.specs.Typing.{Shapes}
use Rattle.dbn_formula.specs.Solutions.{HasShape}
use Rattle.dbn_instance.specs.declared.fact.Action.{Action}
use Rattle.dbn_net.specs.declared.violation.Named.{Named}
use Rattle.dbn_net.specs.declared.written.WrittenTransition.{WrittenTransition}
use Rattle.dbn_net.specs.declared.rules.Transition.{Transition}
use Rattle.dbn_net.specs.declared.decl.Place.{Place}
use Rattle.dbn_net.specs.declared.decl.Place.TheVariants as place
use Rattle.dbn_net.specs.declared.decl.Decl.{Decl}
use Rattle.dbn_net.specs.declared.decl.Decl.TheVariants.{Relation, Key, Foreign, Always, Query, Act, Site, Trans}
use Rattle.dbn_net.specs.Tables.{Table, Question, relation_in, query_in, action_in, place_in, transition_in, relations, queries, actions, places, transitions, columns, types_of, relation_shape, relation_shapes, query_shapes, action_shapes, place_shape, place_shapes, given, shape_of}
use Rattle.dbn_net.specs.Naming.{named, written_transition}
use Rattle.dbn_net.specs.Judging.{bound_vars, is_small, short_lists, few_of_kind}
use Rattle.dbn_net.specs.Sentences.{sentence_in, labelled_sentences}
use Rattle.dbn_net.specs.WellFormed.{Passes, AllPass, WellFormed}
use Rattle.dbn_net.specs.Limits.{IsSmallNet, HasFewColumns, HasFewVariables}
use Rattle.dbn_net.proofs.Maybes.{some_is}
use Rattle.dbn_net.proofs.Listed.{in_filter_map}
use Rattle.dbn_net.proofs.Scoped.{bound_vars_are, once_distinct}
use Rattle.dbn_net.proofs.LiftLaws.{Stood, stood, judged_there, made_there, question_is, action_in_is, site_in_is, transition_in_is}
use Rattle.dbn_net.proofs.AddLaws.{grow, filter_grow}

-- ---- what a declaration passed

few_there : (before : List Decl) (d : Decl) → Passes before d → few_of_kind before (named before d) ≡ true
few_there before d p = (and_parts _ _ (judged_there before d p).limits).1

short_there : (before : List Decl) (d : Decl) → Passes before d → short_lists (named before d) ≡ true
short_there before d p = (and_parts _ _ (and_parts _ _ (judged_there before d p).limits).0).1

-- ---- how many of a kind

module _ {A : Type 0} (f : Decl → Option A) (few : (before : List Decl) (d : Decl) (x : A) → Passes before d → f d ≡ Some x → nat_lt (length (filter_map f before)) 65535 ≡ true) where
  one_more_of : (before : List Decl) (d : Decl) → Passes before d → length (filter_map f before) ≤ 65535 → length (filter_map f (before ++ d ∷ [])) ≤ 65535
  one_more_of before d p le = subst (λ l. length l ≤ 65535) (sym (filter_grow f before d)) (by (f d) refl)
    where
      by : (o : Option A) → f d ≡ o → length (grow (filter_map f before) o) ≤ 65535
      by None e = le
      by (Some x) e =
          let less : length (filter_map f before) < 65535 = ltb-true (length (filter_map f before)) 65535 (few before d x p e) in
          let size : length (filter_map f before ++ x ∷ []) ≡ length (filter_map f before) + 1 = length-append (filter_map f before) (x ∷ []) in
          omega (arith, less, size)

  kind_within : (before net : List Decl) → AllPass before net → length (filter_map f before) ≤ 65535 → length (filter_map f (before ++ net)) ≤ 65535
  kind_within before [] all le = subst (λ ds. length (filter_map f ds) ≤ 65535) (sym (append-nil before)) le
  kind_within before (d ∷ net) all le =
      subst (λ ds. length (filter_map f ds) ≤ 65535) (append_assoc before (d ∷ []) net)
      (kind_within (before ++ d ∷ []) net all.1 (one_more_of before d all.0 le))

relation_is : (d : Decl) (r : Table) → relation_in d ≡ Some r → d ≡ Relation r.name r.fields
relation_is (Relation name fields) r is = ap (λ (t : Table). Relation t.name t.fields) (some_is (record { name = name; fields = fields }) r is)
relation_is (Key rel fields) r is = absurd cc
relation_is (Foreign rel fields to to_fields) r is = absurd cc
relation_is (Always name body) r is = absurd cc
relation_is (Query name vars body) r is = absurd cc
relation_is (Act a) r is = absurd cc
relation_is (Site p) r is = absurd cc
relation_is (Trans t) r is = absurd cc

few_relations : (before : List Decl) (d : Decl) (r : Table) → Passes before d → relation_in d ≡ Some r → nat_lt (length (relations before)) 65535 ≡ true
few_relations before d r p is = few_there before (Relation r.name r.fields) (subst (Passes before) (relation_is d r is) p)

few_queries : (before : List Decl) (d : Decl) (q : Question) → Passes before d → query_in d ≡ Some q → nat_lt (length (queries before)) 65535 ≡ true
few_queries before d q p is = few_there before (Query q.name q.vars q.body) (subst (Passes before) (question_is d q is) p)

few_actions : (before : List Decl) (d : Decl) (a : Action) → Passes before d → action_in d ≡ Some a → nat_lt (length (actions before)) 65535 ≡ true
few_actions before d a p is = few_there before (Act a) (subst (Passes before) (action_in_is d a is) p)

few_sites : (before : List Decl) (s : Place) → Passes before (Site s) → nat_lt (length (places before)) 65535 ≡ true
few_sites before (place.Control name shape) p = few_there before (Site (place.Control name shape)) p
few_sites before (place.View name query) p = few_there before (Site (place.View name query)) p

few_places : (before : List Decl) (d : Decl) (s : Place) → Passes before d → place_in d ≡ Some s → nat_lt (length (places before)) 65535 ≡ true
few_places before d s p is = few_sites before s (subst (Passes before) (site_in_is d s is) p)

few_transitions : (before : List Decl) (d : Decl) (t : Transition) → Passes before d → transition_in d ≡ Some t → nat_lt (length (transitions before)) 65535 ≡ true
few_transitions before d t p is = few_there before (Trans t) (subst (Passes before) (transition_in_is d t is) p)

-- how many sentences there are doesn't depend on the columns
pub sentences_as_many : (rels others : Shapes) (net : List Decl) → length (filter_map (sentence_in rels) net) ≡ length (filter_map (sentence_in others) net)
sentences_as_many rels others [] = refl
sentences_as_many rels others (Relation name fields ∷ net) = sentences_as_many rels others net
sentences_as_many rels others (Key rel fields ∷ net) = ap suc (sentences_as_many rels others net)
sentences_as_many rels others (Foreign rel fields to to_fields ∷ net) = ap suc (sentences_as_many rels others net)
sentences_as_many rels others (Always name body ∷ net) = ap suc (sentences_as_many rels others net)
sentences_as_many rels others (Query name vars body ∷ net) = sentences_as_many rels others net
sentences_as_many rels others (Act a ∷ net) = sentences_as_many rels others net
sentences_as_many rels others (Site p ∷ net) = sentences_as_many rels others net
sentences_as_many rels others (Trans t ∷ net) = sentences_as_many rels others net

few_sentences : (before : List Decl) (d : Decl) (s : Named) → Passes before d → sentence_in [] d ≡ Some s → nat_lt (length (filter_map (sentence_in []) before)) 65535 ≡ true
few_sentences before d s p is = ap (λ n. nat_lt n 65535) (sentences_as_many [] (relation_shapes before) before) ∙ by d p is
  where
    by : (d : Decl) → Passes before d → sentence_in [] d ≡ Some s → nat_lt (length (labelled_sentences before)) 65535 ≡ true
    by (Key rel fields) p is = few_there before (Key rel fields) p
    by (Foreign rel fields to to_fields) p is = few_there before (Foreign rel fields to to_fields) p
    by (Always name body) p is = few_there before (Always name body) p
    by (Relation name fields) p is = absurd cc
    by (Query name vars body) p is = absurd cc
    by (Act a) p is = absurd cc
    by (Site q) p is = absurd cc
    by (Trans t) p is = absurd cc

pub net_small : (net : List Decl) → WellFormed net → IsSmallNet net
net_small net ok = record {
  of_relations = kind_within relation_in few_relations [] net ok (omega arith);
  of_sentences = subst (λ n. n ≤ 65535) (sentences_as_many [] (relation_shapes net) net) (kind_within (sentence_in []) few_sentences [] net ok (omega arith));
  of_queries = kind_within query_in few_queries [] net ok (omega arith);
  of_actions = kind_within action_in few_actions [] net ok (omega arith);
  of_places = kind_within place_in few_places [] net ok (omega arith);
  of_transitions = kind_within transition_in few_transitions [] net ok (omega arith);
}

-- ---- how many columns

index_within : {A : Type 0} (g : A → List ColType) (xs : List A) (n : ℕ) → ((x : A) → In x xs → length (g x) ≤ 16) → length (slice_index_or (map g xs) n []) ≤ 16
index_within g [] n all = omega arith
index_within g (x ∷ xs) zero all = all x (inl refl)
index_within g (x ∷ xs) (suc n) all = index_within g xs n (λ y at. all y (inr at))

-- a declaration of the net, behind those before it
stood_of : {A : Type 0} (f : Decl → Option A) (back : A → Decl) → ((d : Decl) (x : A) → f d ≡ Some x → d ≡ back x) → (net : List Decl) → WellFormed net → (x : A) → In x (filter_map f net) → Stood [] net (back x)
stood_of f back is net ok x at =
    let found = in_filter_map f x net at in
    stood [] net (back x) ok (subst (λ d. In d net) (is found.0 x found.2) found.1)

relation_columns : (net : List Decl) → WellFormed net → (n : ℕ) → length (columns (relation_shapes net) n) ≤ 16
relation_columns net ok n =
    index_within relation_shape (relations net) n
    (λ r at.
    let s = stood_of relation_in (λ (t : Table). Relation t.name t.fields) relation_is net ok r at in
    let small : length r.fields ≤ 16 = leb-true (length r.fields) 16 (short_there s.front (Relation r.name r.fields) s.passes) in
    subst (λ k. k ≤ 16) (sym (length-map r.fields (λ f. f.1))) small)

query_columns : (net : List Decl) → WellFormed net → (n : ℕ) → length (columns (query_shapes net) n) ≤ 16
query_columns net ok n =
    index_within (λ (q : Question). types_of q.vars) (queries net) n
    (λ q at.
    let s = stood_of query_in (λ (r : Question). Query r.name r.vars r.body) question_is net ok q at in
    let small : length q.vars ≤ 16 = leb-true (length q.vars) 16 (short_there s.front (Query q.name q.vars q.body) s.passes) in
    subst (λ k. k ≤ 16) (sym (length-map q.vars (λ x. x.1))) small)

action_columns : (net : List Decl) → WellFormed net → (n : ℕ) → length (columns (action_shapes net) n) ≤ 16
action_columns net ok n =
    index_within (λ (a : Action). types_of a.params) (actions net) n
    (λ a at.
    let s = stood_of action_in Act action_in_is net ok a at in
    let small : length a.params ≤ 16 = leb-true (length a.params) 16 (short_there s.front (Act a) s.passes) in
    subst (λ k. k ≤ 16) (sym (length-map a.params (λ x. x.1))) small)

site_columns : (net front : List Decl) → WellFormed net → (p : Place) → Passes front (Site p) → length (place_shape (query_shapes net) p) ≤ 16
site_columns net front ok (place.Control name shape) p = leb-true (length shape) 16 (short_there front (Site (place.Control name shape)) p)
site_columns net front ok (place.View name query) p = query_columns net ok query

place_columns : (net : List Decl) → WellFormed net → (n : ℕ) → length (columns (place_shapes net) n) ≤ 16
place_columns net ok n =
    index_within (place_shape (query_shapes net)) (places net) n
    (λ p at. let s = stood_of place_in Site site_in_is net ok p at in site_columns net s.front ok p s.passes)

pub columns_few : (net : List Decl) → WellFormed net → HasFewColumns net
columns_few net ok = record {
  of_relation = relation_columns net ok;
  of_query = query_columns net ok;
  of_action = action_columns net ok;
  of_place = place_columns net ok;
}

-- ---- how many variables

variables_there : (front : List Decl) (t : Transition) → Passes front (Trans t) → HasFewVariables t
variables_there front t p =
    let r : WrittenTransition = written_transition front t in
    let made = made_there front t p in
    let all = and_parts (nat_le (length (bound_vars r.inputs)) 64 && is_small r.asked) (is_small r.fresh) (short_there front (Trans t) p) in
    let both = and_parts (nat_le (length (bound_vars r.inputs)) 64) (is_small r.asked) all.0 in
    let many : length t.bound ≡ length (bound_vars r.inputs) =
    sym (length-map t.bound (λ (x : Var × ColType). x.0)) ∙ ap length (ap (map (λ (x : Var × ColType). x.0)) made.bound ∙ bound_vars_are front r.inputs) in
    record {
      of_bound = subst (λ n. n ≤ 64) (sym many) (leb-true (length (bound_vars r.inputs)) 64 both.0);
      of_asked = leb-true (length t.asked) 16 both.1;
      of_fresh = leb-true (length t.fresh) 16 all.1;
    }

pub variables_few : (net : List Decl) (n : ℕ) (t : Transition) → WellFormed net → slice_get (transitions net) n ≡ Some t → HasFewVariables t
variables_few net n t ok is =
    let s = stood_of transition_in Trans transition_in_is net ok t (in_at (transitions net) n t is) in
    variables_there s.front t s.passes

pub row_short : (net : List Decl) (n : ℕ) (t : Transition) (row : List Value) → WellFormed net → slice_get (transitions net) n ≡ Some t → HasShape row (shape_of t) → length row ≤ 80
row_short net n t row ok is shape =
    let few = variables_few net n t ok is in
    let size : length row ≡ length t.bound + length t.asked =
    sym (length-map row value_type) ∙ ap length shape ∙ length-map (given t) (λ x. x.1) ∙ length-append t.bound t.asked in
    let a = few.of_bound in
    let b = few.of_asked in
    omega (arith, size, a, b)

-- ---- parameters

pub params_once : (net : List Decl) (n : ℕ) (a : Action) → WellFormed net → slice_get (actions net) n ≡ Some a → distinct_vars a.params ≡ true
params_once net n a ok is =
    let s = stood_of action_in Act action_in_is net ok a (in_at (actions net) n a is) in
    once_distinct [] a.params (and_parts _ _ (judged_there s.front (Act a) s.passes).once).1
