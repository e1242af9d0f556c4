-- What the declarations before a transition, a query or an action give it, the whole net gives it.
use Rattle.std.proofs.Common.{◌≡◌, ℕ, ◌+◌, ◌<◌, zero, suc, Bool, true, false, ◌&&◌, List, [], ◌∷◌, ◌++◌, map, refl, sym, ap, subst, ◌∙◌, ⊎_elim, Option, Some, None, arith, length, length-append, append-nil, append_assoc}
use Rattle.std.specs.Prelude.{slice_get, nat_lt}
use Rattle.std.specs.List.{list_all, filter_map}
use Rattle.std.specs.Option.{option_map_or}
use Rattle.std.proofs.lemmas.Bool.{and_parts, and_from, ltb-true, lt-ltb}
use Rattle.std.proofs.lemmas.List.{map-append, length-map}
use Rattle.std.proofs.lemmas.List.Elements.{filter_map-append}
use Rattle.dbn_value.specs.Members.{In}
use Rattle.dbn_value.specs.declared.value.ColType.{ColType}
use Rattle.dbn_value.specs.declared.term.Term.{Term}
use Rattle.dbn_value.proofs.MemberLaws.{all_at, all_from, in_at}
use Rattle.dbn_formula.specs.Variables.{TypedVars, is_in}
use Rattle.dbn_formula.specs.Free.{occurrences}
use Rattle.dbn_formula.specs.Typing.{Shapes, arity_fits, types_fit, terms_fit, all_bound, type_fault}
use Rattle.dbn_formula.specs.Written.{OfFirst}
use Rattle.dbn_formula.specs.Solutions.{AcceptsQuery, AcceptsSentence}
use Rattle.dbn_formula.specs.declared.formula.Formula.{Formula}
use Rattle.dbn_formula.proofs.MoreRelations.{fault_more}
use Rattle.dbn_formula.proofs.NoFault.{fault_none}
use Rattle.dbn_formula.proofs.WrittenTests.{first_from}
use Rattle.dbn_formula.proofs.VariableLaws.{bound_in, in_of_is}
use Rattle.dbn_instance.specs.declared.fact.Action.{Action}
use Rattle.dbn_instance.specs.declared.fact.FactPattern.{FactPattern}
use Rattle.dbn_net.specs.declared.written.WrittenFormula.{WrittenFormula}
use Rattle.dbn_net.specs.declared.written.WrittenAtom.{WrittenAtom}
use Rattle.dbn_net.specs.declared.rules.Arc.{Arc}
use Rattle.dbn_net.specs.declared.rules.Pattern.{Pattern}
use Rattle.dbn_net.specs.declared.rules.Read.{Read}
use Rattle.dbn_net.specs.declared.rules.Call.{Call}
use Rattle.dbn_net.specs.declared.rules.Transition.{Transition}
use Rattle.dbn_net.specs.declared.decl.Place.{Place}
use Rattle.dbn_net.specs.declared.decl.Place.TheVariants as place
use Rattle.dbn_net.specs.declared.decl.Decl.{Decl}
use Rattle.dbn_net.specs.declared.decl.Decl.TheVariants.{Relation, Key, Foreign, Always, Query, Act, Site, Trans}
use Rattle.dbn_net.specs.declared.decl.Entry.TheVariants.{Part}
use Rattle.dbn_net.specs.Maybe.{each}
use Rattle.dbn_net.specs.Forms.{Name}
use Rattle.dbn_net.specs.Tables.{Question, relation_in, query_in, action_in, place_in, transition_in, relations, queries, actions, places, transitions, relation_names, query_names, columns, types_of, relation_shape, relation_shapes, query_shapes, action_shapes, place_shape, place_shapes, scope_of, is_control, is_view, has_place}
use Rattle.dbn_net.specs.Naming.{number_of, name_at, resolved_formula, named_formula, transition, written_transition, fact_pattern, written_fact, resolved_action, named}
use Rattle.dbn_net.specs.Judging.{Begun, all_patterns, all_facts, all_terms, as_many, terms_bound, arcs_counted, transition_once}
use Rattle.dbn_net.specs.WellFormed.{Passes, AllPass, WellFormed, terms_in, guard_in, transition_typed, arcs_known, transition_known, transition_scoped, facts_known, action_fits, Fits}
use Rattle.dbn_net.proofs.Maybes.{some_is, first_found, mapped_found}
use Rattle.dbn_net.proofs.NamedLaws.{number_within}
use Rattle.dbn_net.proofs.JudgedLaws.{Judged, judged_is}
use Rattle.dbn_net.proofs.Listed.{each_all, given_all, in_filter_map, index_kept, get_kept}
use Rattle.dbn_net.proofs.MadeLaws.{Made, was_made, numbers_known, below_mapped, written_formula_known, guard_arity}
use Rattle.dbn_net.proofs.Scoped.{scoped, once_distinct}

-- ---- a declaration of the net passed behind those before it

pub record Stood (before net : List Decl) (d : Decl) : Type 0 where
  pub front : List Decl
  pub rest : List Decl
  pub is : net ≡ front ++ d ∷ rest
  pub passes : Passes (before ++ front) d
  pub all : AllPass before front

pub stood : (before net : List Decl) (d : Decl) → AllPass before net → In d net → Stood before net d
stood before [] d all at = absurd at
stood before (e ∷ net) d all at =
    ⊎_elim
    (λ here. record {
      front = [];
      rest = net;
      is = ap (λ x. x ∷ net) (sym here);
      passes = subst (λ b. Passes b d) (sym (append-nil before)) (subst (Passes before) (sym here) all.0);
      all = tt;
    })
    (λ later. more (stood (before ++ e ∷ []) net d all.1 later))
    at
  where
    more : Stood (before ++ e ∷ []) net d → Stood before (e ∷ net) d
    more s = record {
      front = e ∷ s.front;
      rest = s.rest;
      is = ap (λ l. e ∷ l) s.is;
      passes = subst (λ b. Passes b d) (append_assoc before (e ∷ []) s.front) s.passes;
      all = (all.0, s.all);
    }

abbrev pub no_begun : Begun
no_begun = record { facts = []; tokens = [] }

pub judged_there : (before : List Decl) (d : Decl) → Passes before d → Judged before no_begun (named before d) (Part d)
judged_there before d p = judged_is before no_begun (named before d) (Part d) (p.tests no_begun)

part_is : (x y : Decl) → Part x ≡ Part y → x ≡ y
part_is x y e = cc

-- ---- lists of a longer net

below_more : {A : Type 0} (f : Decl → Option A) (xs ys : List Decl) (n : ℕ) → nat_lt n (length (filter_map f xs)) ≡ true → nat_lt n (length (filter_map f (xs ++ ys))) ≡ true
below_more f xs ys n below =
    let less : n < length (filter_map f xs) = ltb-true n (length (filter_map f xs)) below in
    let size : length (filter_map f (xs ++ ys)) ≡ length (filter_map f xs) + length (filter_map f ys) = ap length (filter_map-append f xs ys) ∙ length-append (filter_map f xs) (filter_map f ys) in
    lt-ltb n (length (filter_map f (xs ++ ys))) (omega (arith, less, size))

mapped_more : {A B : Type 0} (f : Decl → Option A) (g : A → B) (xs ys : List Decl) → map g (filter_map f (xs ++ ys)) ≡ map g (filter_map f xs) ++ map g (filter_map f ys)
mapped_more f g xs ys = ap (map g) (filter_map-append f xs ys) ∙ map-append g (filter_map f xs) (filter_map f ys)

mapped_kept : {A : Type 0} (f : Decl → Option A) (g : A → List ColType) (xs ys : List Decl) (n : ℕ) → nat_lt n (length (filter_map f xs)) ≡ true
    → columns (map g (filter_map f (xs ++ ys))) n ≡ columns (map g (filter_map f xs)) n
mapped_kept f g xs ys n below =
    let less : n < length (filter_map f xs) = ltb-true n (length (filter_map f xs)) below in
    ap (λ l. columns l n) (mapped_more f g xs ys)
    ∙ index_kept (map g (filter_map f xs)) (map g (filter_map f ys)) n [] (subst (λ k. n < k) (sym (length-map (filter_map f xs) g)) less)

pub relations_kept : (xs ys : List Decl) (n : ℕ) → nat_lt n (length (relations xs)) ≡ true → columns (relation_shapes (xs ++ ys)) n ≡ columns (relation_shapes xs) n
relations_kept xs ys n below = mapped_kept relation_in relation_shape xs ys n below

actions_kept : (xs ys : List Decl) (n : ℕ) → nat_lt n (length (actions xs)) ≡ true → columns (action_shapes (xs ++ ys)) n ≡ columns (action_shapes xs) n
actions_kept xs ys n below = mapped_kept action_in (λ a. types_of a.params) xs ys n below

queries_kept : (xs ys : List Decl) (n : ℕ) → nat_lt n (length (queries xs)) ≡ true → columns (query_shapes (xs ++ ys)) n ≡ columns (query_shapes xs) n
queries_kept xs ys n below = mapped_kept query_in (λ q. types_of q.vars) xs ys n below

-- ---- places: each view's query is declared, so the columns of a place stay

abbrev pub place_known : List Decl → Place → Bool
place_known net (place.Control name shape) = true
place_known net (place.View name query) = nat_lt query (length (queries net))

place_more : (xs ys : List Decl) (site : Place) → place_known xs site ≡ true → place_known (xs ++ ys) site ≡ true
place_more xs ys (place.Control name shape) known = refl
place_more xs ys (place.View name query) known = below_more query_in xs ys query known

view_is : (a b : Name) (n m : ℕ) → Part (Site (place.View a n)) ≡ Part (Site (place.View b m)) → n ≡ m
view_is a b n m e = cc

pub site_known : (front : List Decl) (site : Place) → Passes front (Site site) → place_known front site ≡ true
site_known front (place.Control name shape) p = refl
site_known front (place.View name query) p =
    let j = judged_there front (Site (place.View name query)) p in
    let (n, is, made) = mapped_found (λ k. Part (Site (place.View name k))) (number_of (query_names front) (name_at (query_names front) query)) (Part (Site (place.View name query))) j.is in
    ap (λ k. nat_lt k (length (queries front))) (sym (view_is name name n query made))
    ∙ below_mapped (λ q. q.name) (queries front) n (number_within (query_names front) (name_at (query_names front) query) n is)

pub site_in_is : (d : Decl) (site : Place) → place_in d ≡ Some site → d ≡ Site site
site_in_is (Site p) site is = ap Site (some_is p site is)
site_in_is (Relation name fields) site is = absurd cc
site_in_is (Key rel fields) site is = absurd cc
site_in_is (Foreign rel fields to to_fields) site is = absurd cc
site_in_is (Always name body) site is = absurd cc
site_in_is (Query name vars body) site is = absurd cc
site_in_is (Act a) site is = absurd cc
site_in_is (Trans t) site is = absurd cc

pub sites_known : (net : List Decl) → WellFormed net → list_all (place_known net) (places net) ≡ true
sites_known net ok =
    all_from (place_known net) (places net)
    (λ site at.
    let found = in_filter_map place_in site net at in
    let s = stood [] net (Site site) ok (subst (λ d. In d net) (site_in_is found.0 site found.2) found.1) in
    subst (λ ds. place_known ds site ≡ true) (sym s.is) (place_more s.front (Site site ∷ s.rest) site (site_known s.front site s.passes)))

pub shape_more : (xs ys : List Decl) (site : Place) → place_known xs site ≡ true → place_shape (query_shapes (xs ++ ys)) site ≡ place_shape (query_shapes xs) site
shape_more xs ys (place.Control name shape) known = refl
shape_more xs ys (place.View name query) known = queries_kept xs ys query known

pub has_within : (is : Place → Bool) (sites : List Place) (n : ℕ) → has_place is sites n ≡ true → (site : Place) × (slice_get sites n ≡ Some site)
has_within is sites n has = by (slice_get sites n) refl has
  where
    by : (o : Option Place) → slice_get sites n ≡ o → option_map_or is o false ≡ true → (site : Place) × (slice_get sites n ≡ Some site)
    by None e has = absurd cc
    by (Some site) e has = (site, e)

sites_kept : (xs ys : List Decl) (sites more : List Place) (n : ℕ) (site : Place) → list_all (place_known xs) sites ≡ true → slice_get sites n ≡ Some site
    → columns (map (place_shape (query_shapes (xs ++ ys))) (sites ++ more)) n ≡ columns (map (place_shape (query_shapes xs)) sites) n
sites_kept xs ys [] more n site known at = absurd cc
sites_kept xs ys (p ∷ sites) more zero site known at = shape_more xs ys p (and_parts (place_known xs p) (list_all (place_known xs) sites) known).0
sites_kept xs ys (p ∷ sites) more (suc n) site known at = sites_kept xs ys sites more n site (and_parts (place_known xs p) (list_all (place_known xs) sites) known).1 at

pub places_kept : (xs ys : List Decl) (is : Place → Bool) (n : ℕ) → list_all (place_known xs) (places xs) ≡ true → has_place is (places xs) n ≡ true
    → columns (place_shapes (xs ++ ys)) n ≡ columns (place_shapes xs) n
places_kept xs ys is n known has =
    let there = has_within is (places xs) n has in
    ap (λ sites. columns (map (place_shape (query_shapes (xs ++ ys))) sites) n) (filter_map-append place_in xs ys)
    ∙ sites_kept xs ys (places xs) (places ys) n there.0 known there.1

has_more : (is : Place → Bool) (xs ys : List Decl) (n : ℕ) → has_place is (places xs) n ≡ true → has_place is (places (xs ++ ys)) n ≡ true
has_more is xs ys n has =
    let there = has_within is (places xs) n has in
    ap (λ sites. has_place is sites n) (filter_map-append place_in xs ys)
    ∙ ap (λ o. option_map_or is o false) (get_kept (places xs) (places ys) n there.0 there.1 ∙ sym there.1)
    ∙ has

-- ---- transitions

module _ (xs ys : List Decl) where
  arcs_more : (arcs : List Arc) → arcs_known xs arcs ≡ true → arcs_known (xs ++ ys) arcs ≡ true
  arcs_more arcs known =
      all_from (λ (a : Arc). has_place is_control (places (xs ++ ys)) a.place) arcs
      (λ a at. has_more is_control xs ys a.place (all_at (λ (b : Arc). has_place is_control (places xs) b.place) a arcs known at))

  reads_more : (reads : List Read) → list_all (λ r. has_place is_view (places xs) r.view) reads ≡ true → list_all (λ r. has_place is_view (places (xs ++ ys)) r.view) reads ≡ true
  reads_more reads known =
      all_from (λ (r : Read). has_place is_view (places (xs ++ ys)) r.view) reads
      (λ r at. has_more is_view xs ys r.view (all_at (λ (q : Read). has_place is_view (places xs) q.view) r reads known at))

  call_more : (call : Option Call) → option_map_or (λ c. nat_lt c.action (length (actions xs))) call true ≡ true → option_map_or (λ c. nat_lt c.action (length (actions (xs ++ ys)))) call true ≡ true
  call_more None known = refl
  call_more (Some c) known = below_more action_in xs ys c.action known

  pub known_more : (t : Transition) → transition_known xs t ≡ true → transition_known (xs ++ ys) t ≡ true
  known_more t known =
      let ke = and_parts _ _ known in
      let kd = and_parts _ _ ke.0 in
      let kc = and_parts _ _ kd.0 in
      let kb = and_parts _ _ kc.0 in
      and_from _ _ (and_from _ _ (and_from _ _ (and_from _ _ (arcs_more t.ins kb.0) (reads_more t.reads kb.1)) (call_more t.call kc.1)) (arcs_more t.outs kd.1)) (arcs_more t.backs ke.1)

  module _ (sites : list_all (place_known xs) (places xs) ≡ true) (test : List Term → List ColType → Bool) where
    arcs_kept : (arcs : List Arc) → arcs_known xs arcs ≡ true → all_patterns test (place_shapes xs) arcs ≡ true → all_patterns test (place_shapes (xs ++ ys)) arcs ≡ true
    arcs_kept arcs known passed =
        all_from (λ (a : Arc). list_all (λ (p : Pattern). test p.terms (columns (place_shapes (xs ++ ys)) a.place)) a.patterns) arcs
        (λ a at.
        subst (λ shape. list_all (λ (p : Pattern). test p.terms shape) a.patterns ≡ true)
        (sym (places_kept xs ys is_control a.place sites (all_at (λ (b : Arc). has_place is_control (places xs) b.place) a arcs known at)))
        (all_at (λ (b : Arc). list_all (λ (p : Pattern). test p.terms (columns (place_shapes xs) b.place)) b.patterns) a arcs passed at))

    reads_kept : (reads : List Read) → list_all (λ r. has_place is_view (places xs) r.view) reads ≡ true
        → list_all (λ r. test r.terms (columns (place_shapes xs) r.view)) reads ≡ true → list_all (λ r. test r.terms (columns (place_shapes (xs ++ ys)) r.view)) reads ≡ true
    reads_kept reads known passed =
        all_from (λ (r : Read). test r.terms (columns (place_shapes (xs ++ ys)) r.view)) reads
        (λ r at.
        subst (λ shape. test r.terms shape ≡ true)
        (sym (places_kept xs ys is_view r.view sites (all_at (λ (q : Read). has_place is_view (places xs) q.view) r reads known at)))
        (all_at (λ (q : Read). test q.terms (columns (place_shapes xs) q.view)) r reads passed at))

    call_kept : (call : Option Call) → option_map_or (λ c. nat_lt c.action (length (actions xs))) call true ≡ true
        → option_map_or (λ c. test c.args (columns (action_shapes xs) c.action)) call true ≡ true → option_map_or (λ c. test c.args (columns (action_shapes (xs ++ ys)) c.action)) call true ≡ true
    call_kept None known passed = refl
    call_kept (Some c) known passed = ap (test c.args) (actions_kept xs ys c.action known) ∙ passed

  pub terms_more : (sites : list_all (place_known xs) (places xs) ≡ true) (before after : List Term → List ColType → Bool) (t : Transition)
      → transition_known xs t ≡ true → all_terms before after xs t ≡ true → all_terms before after (xs ++ ys) t ≡ true
  terms_more sites before after t known passed =
      let ke = and_parts _ _ known in
      let kd = and_parts _ _ ke.0 in
      let kc = and_parts _ _ kd.0 in
      let kb = and_parts _ _ kc.0 in
      let te = and_parts _ _ passed in
      let td = and_parts _ _ te.0 in
      let tc = and_parts _ _ td.0 in
      let tb = and_parts _ _ tc.0 in
      and_from _ _ (and_from _ _ (and_from _ _ (and_from _ _
      (arcs_kept sites before t.ins kb.0 tb.0) (reads_kept sites before t.reads kb.1 tb.1)) (call_kept sites after t.call kc.1 tc.1)) (arcs_kept sites after t.outs kd.1 td.1)) (arcs_kept sites after t.backs ke.1 te.1)

-- ---- three tests as one

abbrev three : (p q r : List Term → List ColType → Bool) → List Term → List ColType → Bool
three p q r terms shape = p terms shape && q terms shape && r terms shape

module _ (p q r : List Term → List ColType → Bool) where
  arcs_joined : (sites : Shapes) (arcs : List Arc) → all_patterns p sites arcs ≡ true → all_patterns q sites arcs ≡ true → all_patterns r sites arcs ≡ true → all_patterns (three p q r) sites arcs ≡ true
  arcs_joined sites arcs a b c =
      all_from (λ (x : Arc). list_all (λ (z : Pattern). three p q r z.terms (columns sites x.place)) x.patterns) arcs
      (λ x at. all_from (λ (z : Pattern). three p q r z.terms (columns sites x.place)) x.patterns
      (λ z there. and_from _ _ (and_from _ _
      (all_at (λ (y : Pattern). p y.terms (columns sites x.place)) z x.patterns (all_at (λ (y : Arc). list_all (λ (k : Pattern). p k.terms (columns sites y.place)) y.patterns) x arcs a at) there)
      (all_at (λ (y : Pattern). q y.terms (columns sites x.place)) z x.patterns (all_at (λ (y : Arc). list_all (λ (k : Pattern). q k.terms (columns sites y.place)) y.patterns) x arcs b at) there))
      (all_at (λ (y : Pattern). r y.terms (columns sites x.place)) z x.patterns (all_at (λ (y : Arc). list_all (λ (k : Pattern). r k.terms (columns sites y.place)) y.patterns) x arcs c at) there)))

  reads_joined : (sites : Shapes) (reads : List Read) → list_all (λ x. p x.terms (columns sites x.view)) reads ≡ true → list_all (λ x. q x.terms (columns sites x.view)) reads ≡ true
      → list_all (λ x. r x.terms (columns sites x.view)) reads ≡ true → list_all (λ x. three p q r x.terms (columns sites x.view)) reads ≡ true
  reads_joined sites reads a b c =
      all_from (λ (x : Read). three p q r x.terms (columns sites x.view)) reads
      (λ x at. and_from _ _ (and_from _ _ (all_at (λ (y : Read). p y.terms (columns sites y.view)) x reads a at) (all_at (λ (y : Read). q y.terms (columns sites y.view)) x reads b at))
      (all_at (λ (y : Read). r y.terms (columns sites y.view)) x reads c at))

  call_joined : (shapes : Shapes) (call : Option Call) → option_map_or (λ x. p x.args (columns shapes x.action)) call true ≡ true → option_map_or (λ x. q x.args (columns shapes x.action)) call true ≡ true
      → option_map_or (λ x. r x.args (columns shapes x.action)) call true ≡ true → option_map_or (λ x. three p q r x.args (columns shapes x.action)) call true ≡ true
  call_joined shapes None a b c = refl
  call_joined shapes (Some x) a b c = and_from _ _ (and_from _ _ a b) c

  facts_joined : (rels : Shapes) (ps : List FactPattern) → all_facts p rels ps ≡ true → all_facts q rels ps ≡ true → all_facts r rels ps ≡ true → all_facts (three p q r) rels ps ≡ true
  facts_joined rels ps a b c =
      all_from (λ (x : FactPattern). three p q r x.terms (columns rels x.rel)) ps
      (λ x at. and_from _ _ (and_from _ _ (all_at (λ (y : FactPattern). p y.terms (columns rels y.rel)) x ps a at) (all_at (λ (y : FactPattern). q y.terms (columns rels y.rel)) x ps b at))
      (all_at (λ (y : FactPattern). r y.terms (columns rels y.rel)) x ps c at))

terms_joined : (p q r u v w : List Term → List ColType → Bool) (net : List Decl) (t : Transition) → all_terms p u net t ≡ true → all_terms q v net t ≡ true → all_terms r w net t ≡ true
    → all_terms (three p q r) (three u v w) net t ≡ true
terms_joined p q r u v w net t a b c =
    let ae = and_parts _ _ a in
    let ad = and_parts _ _ ae.0 in
    let ac = and_parts _ _ ad.0 in
    let ab = and_parts _ _ ac.0 in
    let be = and_parts _ _ b in
    let bd = and_parts _ _ be.0 in
    let bc = and_parts _ _ bd.0 in
    let bb = and_parts _ _ bc.0 in
    let ce = and_parts _ _ c in
    let cd = and_parts _ _ ce.0 in
    let cm = and_parts _ _ cd.0 in
    let cb = and_parts _ _ cm.0 in
    and_from _ _ (and_from _ _ (and_from _ _ (and_from _ _
    (arcs_joined p q r (place_shapes net) t.ins ab.0 bb.0 cb.0)
    (reads_joined p q r (place_shapes net) t.reads ab.1 bb.1 cb.1))
    (call_joined u v w (action_shapes net) t.call ac.1 bc.1 cm.1))
    (arcs_joined u v w (place_shapes net) t.outs ad.1 bd.1 cd.1))
    (arcs_joined u v w (place_shapes net) t.backs ae.1 be.1 ce.1)

-- ---- what a net gives each of its transitions

trans_is : (t u : Transition) → Part (Trans t) ≡ Part (Trans u) → t ≡ u
trans_is t u e = cc

pub transition_in_is : (d : Decl) (t : Transition) → transition_in d ≡ Some t → d ≡ Trans t
transition_in_is (Trans u) t is = ap Trans (some_is u t is)
transition_in_is (Relation name fields) t is = absurd cc
transition_in_is (Key rel fields) t is = absurd cc
transition_in_is (Foreign rel fields to to_fields) t is = absurd cc
transition_in_is (Always name body) t is = absurd cc
transition_in_is (Query name vars body) t is = absurd cc
transition_in_is (Act a) t is = absurd cc
transition_in_is (Site p) t is = absurd cc

pub made_there : (front : List Decl) (t : Transition) → Passes front (Trans t) → Made front (written_transition front t) t
made_there front t p =
    let j = judged_there front (Trans t) p in
    let (u, is, made) = mapped_found (λ x. Part (Trans x)) (transition front (written_transition front t)) (Part (Trans t)) j.is in
    was_made front (written_transition front t) t (is ∙ ap Some (trans_is u t made))

guard_joined : (scope : TypedVars) (guard : Option Formula) → option_map_or (arity_fits []) guard true ≡ true → option_map_or (λ g. types_fit [] g scope) guard true ≡ true
    → option_map_or (λ g. all_bound g scope) guard true ≡ true → guard_in scope guard ≡ true
guard_joined scope None a b c = refl
guard_joined scope (Some g) a b c = and_from _ _ (and_from _ _ a b) c

typed_there : (front : List Decl) (t : Transition) → Passes front (Trans t) → all_terms (terms_in t.bound) (terms_in (scope_of t)) front t ≡ true
typed_there front t p =
    let passed = (judged_there front (Trans t) p).passed in
    terms_joined as_many (terms_fit t.bound) (terms_bound t.bound) as_many (terms_fit (scope_of t)) (terms_bound (scope_of t)) front t
    passed.arity (and_parts _ _ passed.typed).0 (and_parts _ _ passed.bound).0

guard_there : (front : List Decl) (t : Transition) → Passes front (Trans t) → guard_in t.bound t.guard ≡ true
guard_there front t p =
    let passed = (judged_there front (Trans t) p).passed in
    guard_joined t.bound t.guard (given_all (resolved_formula []) (arity_fits []) (guard_arity []) (written_transition front t).guard t.guard (made_there front t p).guard)
    (and_parts _ _ passed.typed).1 (and_parts _ _ passed.bound).1

scoped_there : (front : List Decl) (t : Transition) → Passes front (Trans t) → transition_scoped t ≡ true
scoped_there front t p =
    let j = judged_there front (Trans t) p in
    scoped front (written_transition front t) t (made_there front t p) (and_parts _ (transition_once (written_transition front t)) j.once).1

-- ---- actions

act_is : (a b : Action) → Part (Act a) ≡ Part (Act b) → a ≡ b
act_is a b e = cc

fact_known : (net : List Decl) (g : WrittenAtom) (p : FactPattern) → fact_pattern (relation_names net) g ≡ Some p → nat_lt p.rel (length (relations net)) ≡ true
fact_known net g p e =
    let (n, is, made) = mapped_found (λ k. record { rel = k; terms = g.terms }) (number_of (relation_names net) g.name) p e in
    ap (λ (q : FactPattern). nat_lt q.rel (length (relations net))) (sym made) ∙ below_mapped (λ r. r.name) (relations net) n (number_within (relation_names net) g.name n is)

adds_known : (front : List Decl) (a : Action) → Passes front (Act a) → facts_known front a.adds ≡ true
adds_known front a p =
    let j = judged_there front (Act a) p in
    let (d, is, made) = mapped_found Part (resolved_action front a.name a.params (map (written_fact front) a.deletes) (map (written_fact front) a.adds)) (Part (Act a)) j.is in
    let (gone, b, rest) = first_found (each (fact_pattern (relation_names front)) (map (written_fact front) a.deletes)) _ d is in
    let (new, c, last) = first_found (each (fact_pattern (relation_names front)) (map (written_fact front) a.adds)) _ d rest in
    let whole : Action = record { name = a.name; params = a.params; deletes = gone; adds = new } in
    let same : new ≡ a.adds = ap (λ (b : Action). b.adds) (act_is whole a (ap Part (some_is (Act whole) d last) ∙ made)) in
    subst (λ l. facts_known front l ≡ true) same
    (each_all (fact_pattern (relation_names front)) (λ q. nat_lt q.rel (length (relations front))) (fact_known front) (map (written_fact front) a.adds) new c)

adds_typed : (front : List Decl) (a : Action) → Passes front (Act a) → all_facts (terms_in a.params) (relation_shapes front) a.adds ≡ true
adds_typed front a p =
    let passed = (judged_there front (Act a) p).passed in
    facts_joined as_many (terms_fit a.params) (terms_bound a.params) (relation_shapes front) a.adds
    (and_parts _ _ passed.arity).1 (and_parts _ _ passed.typed).1 (and_parts _ _ passed.bound).1

facts_more : (xs ys : List Decl) (ps : List FactPattern) → facts_known xs ps ≡ true → facts_known (xs ++ ys) ps ≡ true
facts_more xs ys ps known =
    all_from (λ (p : FactPattern). nat_lt p.rel (length (relations (xs ++ ys)))) ps
    (λ p at. below_more relation_in xs ys p.rel (all_at (λ (q : FactPattern). nat_lt q.rel (length (relations xs))) p ps known at))

facts_kept : (xs ys : List Decl) (test : List Term → List ColType → Bool) (ps : List FactPattern) → facts_known xs ps ≡ true
    → all_facts test (relation_shapes xs) ps ≡ true → all_facts test (relation_shapes (xs ++ ys)) ps ≡ true
facts_kept xs ys test ps known passed =
    all_from (λ (p : FactPattern). test p.terms (columns (relation_shapes (xs ++ ys)) p.rel)) ps
    (λ p at.
    subst (λ shape. test p.terms shape ≡ true)
    (sym (relations_kept xs ys p.rel (all_at (λ (q : FactPattern). nat_lt q.rel (length (relations xs))) p ps known at)))
    (all_at (λ (q : FactPattern). test q.terms (columns (relation_shapes xs) q.rel)) p ps passed at))

pub action_in_is : (d : Decl) (a : Action) → action_in d ≡ Some a → d ≡ Act a
action_in_is (Act b) a is = ap Act (some_is b a is)
action_in_is (Relation name fields) a is = absurd cc
action_in_is (Key rel fields) a is = absurd cc
action_in_is (Foreign rel fields to to_fields) a is = absurd cc
action_in_is (Always name body) a is = absurd cc
action_in_is (Query name vars body) a is = absurd cc
action_in_is (Site p) a is = absurd cc
action_in_is (Trans t) a is = absurd cc

pub acts_at : (net : List Decl) → WellFormed net → (n : ℕ) (a : Action) → slice_get (actions net) n ≡ Some a → action_fits net a ≡ true
acts_at net ok n a is =
    let found = in_filter_map action_in a net (in_at (actions net) n a is) in
    let s = stood [] net (Act a) ok (subst (λ d. In d net) (action_in_is found.0 a found.2) found.1) in
    let known = adds_known s.front a s.passes in
    subst (λ ds. action_fits ds a ≡ true) (sym s.is)
    (and_from _ _ (facts_more s.front (Act a ∷ s.rest) a.adds known)
    (facts_kept s.front (Act a ∷ s.rest) (terms_in a.params) a.adds known (adds_typed s.front a s.passes)))

-- ---- what a net gives each of its transitions

pub fits_at : (net : List Decl) (n : ℕ) (t : Transition) → WellFormed net → slice_get (transitions net) n ≡ Some t → Fits net t
fits_at net n t ok is =
    let found = in_filter_map transition_in t net (in_at (transitions net) n t is) in
    let declared : In (Trans t) net = subst (λ d. In d net) (transition_in_is found.0 t found.2) found.1 in
    let s = stood [] net (Trans t) ok declared in
    let known = numbers_known s.front (written_transition s.front t) t (made_there s.front t s.passes) in
    let counted = (judged_there s.front (Trans t) s.passes).passed.counted in
    let ins_outs = and_parts (arcs_counted t.ins && arcs_counted t.outs) (arcs_counted t.backs) counted in
    let ins = and_parts (arcs_counted t.ins) (arcs_counted t.outs) ins_outs.0 in
    record {
      known = subst (λ ds. transition_known ds t ≡ true) (sym s.is) (known_more s.front (Trans t ∷ s.rest) t known);
      typed = subst (λ ds. transition_typed ds t ≡ true) (sym s.is)
          (and_from _ _ (terms_more s.front (Trans t ∷ s.rest) (sites_known s.front s.all) (terms_in t.bound) (terms_in (scope_of t)) t known (typed_there s.front t s.passes))
          (guard_there s.front t s.passes));
      scoped = scoped_there s.front t s.passes;
      declared = declared;
      acts = acts_at net ok;
      ins = ins.0;
      outs = ins.1;
      backs = ins_outs.1;
    }

-- ---- queries and sentences are accepted over all relations of the net

formula_known : (front : List Decl) (p : WrittenFormula) (f : Formula) → resolved_formula (relation_names front) p ≡ Some f → OfFirst (length (relation_shapes front)) f
formula_known front p f is =
    subst (λ n. OfFirst n f) (length-map (relations front) (λ r. r.name) ∙ sym (length-map (relations front) relation_shape))
    (first_from f (length (relation_names front)) (written_formula_known (relation_names front) p f is))

fault_kept : (xs ys : List Decl) (f : Formula) (scope : TypedVars) → OfFirst (length (relation_shapes xs)) f → arity_fits (relation_shapes xs) f ≡ true → types_fit (relation_shapes xs) f scope ≡ true
    → all_bound f scope ≡ true → type_fault (relation_shapes (xs ++ ys)) f scope ≡ None
fault_kept xs ys f scope first a b c =
    ap (λ rels. type_fault rels f scope) (mapped_more relation_in relation_shape xs ys)
    ∙ fault_more (relation_shapes xs) (relation_shapes ys) f scope first
    ∙ fault_none (relation_shapes xs) f scope a b c

query_is : (a b : Name) (vars others : TypedVars) (f g : Formula) → Part (Query a vars f) ≡ Part (Query b others g) → f ≡ g
query_is a b vars others f g e = cc

query_there : (front ys : List Decl) (name : Name) (vars : TypedVars) (body : Formula) → Passes front (Query name vars body) → AcceptsQuery (relation_shapes (front ++ ys)) vars body
query_there front ys name vars body p =
    let j = judged_there front (Query name vars body) p in
    let (f, is, made) = mapped_found (λ g. Part (Query name vars g)) (resolved_formula (relation_names front) (named_formula (relation_names front) body)) (Part (Query name vars body)) j.is in
    let known = subst (OfFirst (length (relation_shapes front))) (query_is name name vars vars f body made) (formula_known front (named_formula (relation_names front) body) f is) in
    let bound = and_parts (all_bound body vars) (list_all (λ x. is_in x.0 (occurrences body)) vars) j.passed.bound in
    let once_all = and_parts _ _ (and_parts _ _ j.once).0 in
    record {
      typed = fault_kept front ys body vars known j.passed.arity j.passed.typed bound.0;
      once = once_distinct [] vars once_all.1;
      all_free = λ x b.
          let entry = bound_in vars x b in
          subst (λ z. In z (occurrences body)) (sym entry.2) (in_of_is entry.0.0 (occurrences body) (all_at (λ y. is_in y.0 (occurrences body)) entry.0 vars bound.1 entry.1));
      is_safe = j.passed.safe;
    }

always_is : (a b : Name) (f g : Formula) → Part (Always a f) ≡ Part (Always b g) → f ≡ g
always_is a b f g e = cc

always_there : (front ys : List Decl) (name : Name) (body : Formula) → Passes front (Always name body) → AcceptsSentence (relation_shapes (front ++ ys)) body
always_there front ys name body p =
    let j = judged_there front (Always name body) p in
    let (f, is, made) = mapped_found (λ g. Part (Always name g)) (resolved_formula (relation_names front) (named_formula (relation_names front) body)) (Part (Always name body)) j.is in
    let known = subst (OfFirst (length (relation_shapes front))) (always_is name name f body made) (formula_known front (named_formula (relation_names front) body) f is) in
    record { typed = fault_kept front ys body [] known j.passed.arity j.passed.typed j.passed.bound; is_safe = j.passed.safe }

pub question_is : (d : Decl) (q : Question) → query_in d ≡ Some q → d ≡ Query q.name q.vars q.body
question_is (Query name vars body) q is = ap (λ (r : Question). Query r.name r.vars r.body) (some_is (record { name = name; vars = vars; body = body }) q is)
question_is (Relation name fields) q is = absurd cc
question_is (Key rel fields) q is = absurd cc
question_is (Foreign rel fields to to_fields) q is = absurd cc
question_is (Always name body) q is = absurd cc
question_is (Act a) q is = absurd cc
question_is (Site p) q is = absurd cc
question_is (Trans t) q is = absurd cc

pub accepted_at : (net : List Decl) (n : ℕ) (q : Question) → WellFormed net → slice_get (queries net) n ≡ Some q → AcceptsQuery (relation_shapes net) q.vars q.body
accepted_at net n q ok is =
    let found = in_filter_map query_in q net (in_at (queries net) n q is) in
    let s = stood [] net (Query q.name q.vars q.body) ok (subst (λ d. In d net) (question_is found.0 q found.2) found.1) in
    subst (λ ds. AcceptsQuery (relation_shapes ds) q.vars q.body) (sym s.is) (query_there s.front (Query q.name q.vars q.body ∷ s.rest) q.name q.vars q.body s.passes)

pub always_at : (net : List Decl) (name : Name) (body : Formula) → WellFormed net → In (Always name body) net → AcceptsSentence (relation_shapes net) body
always_at net name body ok at =
    let s = stood [] net (Always name body) ok at in
    subst (λ ds. AcceptsSentence (relation_shapes ds) body) (sym s.is) (always_there s.front (Always name body ∷ s.rest) name body s.passes)
