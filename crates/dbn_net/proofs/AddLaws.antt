-- One more declaration at the end of a net: each table of its kind grows by one, and all others stay.
use Rattle.std.proofs.Common.{◌≡◌, ℕ, suc, true, List, [], ◌∷◌, ◌++◌, map, refl, sym, ap, subst, ◌∙◌, inl, inr, ⊎_elim, Option, Some, None, length, append-nil, append_assoc, arith}
use Rattle.std.specs.Prelude.{nat_lt, ◌≤◌, ◌^◌, max}
use Rattle.std.specs.List.{filter_map, cons_option, list_all}
use Rattle.std.specs.Option.{option_map}
use Rattle.std.proofs.lemmas.Bool.{and_parts}
use Rattle.std.proofs.lemmas.List.{map-append}
use Rattle.std.proofs.lemmas.List.Elements.{filter_map-append}
use Rattle.std.proofs.lemmas.Grind.{flat_map-append}
use Rattle.dbn_value.specs.Members.{In}
use Rattle.dbn_value.specs.declared.value.ColType.{ColType}
use Rattle.dbn_value.proofs.MemberLaws.{all_at, all_from, in_append}
use Rattle.dbn_formula.specs.Typing.{Shapes}
use Rattle.dbn_net.specs.declared.violation.Label.TheVariants as label
use Rattle.dbn_net.specs.declared.tables.Head.{Head}
use Rattle.dbn_net.specs.declared.tables.Kind.{Kind}
use Rattle.dbn_net.specs.declared.tables.Noted.{Noted}
use Rattle.dbn_net.specs.declared.tables.Tables.{Tables}
use Rattle.dbn_net.specs.declared.decl.Place.{Place}
use Rattle.dbn_net.specs.declared.decl.Place.TheVariants as place
use Rattle.dbn_net.specs.declared.decl.Decl.{Decl}
use Rattle.dbn_net.specs.declared.decl.Decl.TheVariants.{Relation, Key, Foreign, Always, Query, Act, Site, Trans}
use Rattle.dbn_net.specs.declared.decl.Entry.TheVariants.{Part}
use Rattle.dbn_net.specs.Forms.{Name}
use Rattle.dbn_net.specs.Tables.{relation_in, always_in, query_in, action_in, place_in, transition_in, relations, places, relation_names, field_names, place_name, types_of, relation_shape, relation_shapes, query_shapes, place_shape, shape_of}
use Rattle.dbn_net.specs.Positions.{next, positions}
use Rattle.dbn_net.specs.Naming.{number_of, name_at, fields_of, resolved_key, resolved_foreign}
use Rattle.dbn_net.specs.Judging.{is_new}
use Rattle.dbn_net.specs.Sentences.{labelled, key_sentence, foreign_sentence, sentence_in, labelled_sentences, denied, violations}
use Rattle.dbn_net.specs.WellFormed.{Passes, WellFormed}
use Rattle.dbn_net.specs.Values.{decl_constants, rule_values, past_ids}
use Rattle.dbn_net.specs.Kept.{Kept, headed, line_of, noted_of, with_head, with_noted, is_new_line}
use Rattle.dbn_net.proofs.Maybes.{some_is, first_found, mapped_found}
use Rattle.dbn_net.proofs.NamedLaws.{number_within}
use Rattle.dbn_net.proofs.MadeLaws.{below_mapped}
use Rattle.dbn_net.proofs.BackLaws.{one_more}
use Rattle.dbn_net.proofs.NextLaws.{past_append}
use Rattle.dbn_net.proofs.LiftLaws.{stood, judged_there, relations_kept, place_known, site_known, sites_known, site_in_is, shape_more}

-- ---- one more at the end, if there is one

abbrev pub grow : {A : Type 0} → List A → Option A → List A
grow xs None = xs
grow xs (Some x) = xs ++ x ∷ []

pub filter_grow : {A : Type 0} (f : Decl → Option A) (net : List Decl) (d : Decl) → filter_map f (net ++ d ∷ []) ≡ grow (filter_map f net) (f d)
filter_grow {A} f net d = filter_map-append f net (d ∷ []) ∙ by (f d)
  where
    by : (o : Option A) → filter_map f net ++ cons_option o [] ≡ grow (filter_map f net) o
    by None = append-nil (filter_map f net)
    by (Some a) = refl

pub map_grow : {A B : Type 0} (g : A → B) (xs : List A) (o : Option A) → map g (grow xs o) ≡ grow (map g xs) (option_map g o)
map_grow g xs None = refl
map_grow g xs (Some x) = map-append g xs (x ∷ [])

positions_grow : {A : Type 0} (f : Decl → Option A) (net : List Decl) (d : Decl) → positions f (net ++ d ∷ []) ≡ grow (positions f net) (option_map (λ a. length net) (f d))
positions_grow {A} f [] d = by (f d)
  where
    by : (o : Option A) → cons_option {X = ℕ} (option_map (λ a. 0) o) [] ≡ grow [] (option_map (λ a. 0) o)
    by None = refl
    by (Some a) = refl
positions_grow {A} f (e ∷ net) d = ap (λ l. cons_option (option_map (λ a. 0) (f e)) (map next l)) (positions_grow f net d) ∙ by (f e) (f d)
  where
    by : (o p : Option A)
        → cons_option (option_map (λ a. 0) o) (map next (grow (positions f net) (option_map (λ a. length net) p)))
        ≡ grow (cons_option (option_map (λ a. 0) o) (map next (positions f net))) (option_map (λ a. suc (length net)) p)
    by None None = refl
    by None (Some a) = map-append next (positions f net) (length net ∷ [])
    by (Some b) None = refl
    by (Some b) (Some a) = ap (λ l. 0 ∷ l) (map-append next (positions f net) (length net ∷ []))

filter_map_same : {A : Type 0} (f g : Decl → Option A) (xs : List Decl) → ((x : Decl) → In x xs → f x ≡ g x) → filter_map f xs ≡ filter_map g xs
filter_map_same f g [] same = refl
filter_map_same f g (x ∷ xs) same = (λ i. cons_option (same x (inl refl) i) (filter_map_same f g xs (λ y at. same y (inr at)) i))

-- ---- the tables of one kind

abbrev grow_kind : Kind → ℕ → Option Head → Kind
grow_kind k n None = k
grow_kind k n (Some h) = with_head k n h

module _ {A : Type 0} (f : Decl → Option A) (name : A → Name) (shape : A → List ColType) where
  record KindIs (k : Kind) (net : List Decl) : Type 0 where
    at : k.at ≡ positions f net
    names : k.names ≡ map name (filter_map f net)
    types : k.types ≡ map shape (filter_map f net)

  abbrev head_of : A → Head
  head_of a = headed (name a) (shape a)

  at_grown : (k : Kind) (n : ℕ) (o : Option A) → (grow_kind k n (option_map head_of o)).at ≡ grow k.at (option_map (λ a. n) o)
  at_grown k n None = refl
  at_grown k n (Some a) = refl

  names_grown : (k : Kind) (n : ℕ) (o : Option A) → (grow_kind k n (option_map head_of o)).names ≡ grow k.names (option_map name o)
  names_grown k n None = refl
  names_grown k n (Some a) = refl

  types_grown : (k : Kind) (n : ℕ) (o : Option A) → (grow_kind k n (option_map head_of o)).types ≡ grow k.types (option_map shape o)
  types_grown k n None = refl
  types_grown k n (Some a) = refl

  kind_more : (k : Kind) (net : List Decl) (d : Decl) → KindIs k net → KindIs (grow_kind k (length net) (option_map head_of (f d))) (net ++ d ∷ [])
  kind_more k net d is = record {
    at = at_grown k (length net) (f d) ∙ ap (λ l. grow l (option_map (λ a. length net) (f d))) is.at ∙ sym (positions_grow f net d);
    names = names_grown k (length net) (f d) ∙ ap (λ l. grow l (option_map name (f d))) is.names ∙ sym (map_grow name (filter_map f net) (f d)) ∙ sym (ap (map name) (filter_grow f net d));
    types = types_grown k (length net) (f d) ∙ ap (λ l. grow l (option_map shape (f d))) is.types ∙ sym (map_grow shape (filter_map f net) (f d)) ∙ sym (ap (map shape) (filter_grow f net d));
  }

-- ---- places: each view's query was declared before it

same_shapes : (xs ys : List Decl) (sites : List Place) → list_all (place_known xs) sites ≡ true → map (place_shape (query_shapes (xs ++ ys))) sites ≡ map (place_shape (query_shapes xs)) sites
same_shapes xs ys [] known = refl
same_shapes xs ys (p ∷ sites) known =
    let parts = and_parts (place_known xs p) (list_all (place_known xs) sites) known in
    (λ i. shape_more xs ys p parts.0 i ∷ same_shapes xs ys sites parts.1 i)

known_grown : (net : List Decl) (sites : List Place) (o : Option Place) → list_all (place_known net) sites ≡ true → ((p : Place) → o ≡ Some p → place_known net p ≡ true)
    → list_all (place_known net) (grow sites o) ≡ true
known_grown net sites None known new = known
known_grown net sites (Some p) known new =
    all_from (place_known net) (sites ++ p ∷ [])
    (λ s at. ⊎_elim (λ old. all_at (place_known net) s sites known old)
    (λ last. ⊎_elim (λ here. subst (λ q. place_known net q ≡ true) (sym here) (new p refl)) (λ none. absurd none) last)
    (in_append s sites (p ∷ []) at))

places_more : (net : List Decl) (d : Decl) → WellFormed net → Passes net d
    → map (place_shape (query_shapes net)) (places (net ++ d ∷ [])) ≡ map (place_shape (query_shapes (net ++ d ∷ []))) (places (net ++ d ∷ []))
places_more net d ok p =
    sym (same_shapes net (d ∷ []) (places (net ++ d ∷ []))
    (ap (list_all (place_known net)) (filter_grow place_in net d)
    ∙ known_grown net (places net) (place_in d) (sites_known net ok)
    (λ site is. site_known net site (subst (Passes net) (site_in_is d site is) p))))

-- ---- sentences: each relation of a key or foreign key was declared before it

key_is : (n m : ℕ) (fs gs : List ℕ) → Part (Key n fs) ≡ Part (Key m gs) → n ≡ m
key_is n m fs gs e = cc

pub foreign_from : (n m k l : ℕ) (fs gs hs ks : List ℕ) → Part (Foreign n fs m gs) ≡ Part (Foreign k hs l ks) → n ≡ k
foreign_from n m k l fs gs hs ks e = cc

pub foreign_to : (n m k l : ℕ) (fs gs hs ks : List ℕ) → Part (Foreign n fs m gs) ≡ Part (Foreign k hs l ks) → m ≡ l
foreign_to n m k l fs gs hs ks e = cc

name_below : (net : List Decl) (name : Name) (n : ℕ) → number_of (relation_names net) name ≡ Some n → nat_lt n (length (relations net)) ≡ true
name_below net name n is = below_mapped (λ r. r.name) (relations net) n (number_within (relation_names net) name n is)

pub key_known : (net : List Decl) (rel : ℕ) (fields : List ℕ) → Passes net (Key rel fields) → nat_lt rel (length (relations net)) ≡ true
key_known net rel fields p =
    let name : Name = name_at (relation_names net) rel in
    let names : List Name = map (name_at (field_names net rel)) fields in
    let (d, is, made) = mapped_found Part (resolved_key net name names) (Part (Key rel fields)) (judged_there net (Key rel fields) p).is in
    let (n, a, e1) = first_found (number_of (relation_names net) name) _ d is in
    let (fs, b, e2) = first_found (fields_of net n names) (λ gs. Some (Key n gs)) d e1 in
    ap (λ k. nat_lt k (length (relations net))) (sym (key_is n rel fs fields (ap Part (some_is (Key n fs) d e2) ∙ made))) ∙ name_below net name n a

pub foreign_known : (net : List Decl) (rel to : ℕ) (fields to_fields : List ℕ) → Passes net (Foreign rel fields to to_fields)
    → (nat_lt rel (length (relations net)) ≡ true) × (nat_lt to (length (relations net)) ≡ true)
foreign_known net rel to fields to_fields p =
    let name : Name = name_at (relation_names net) rel in
    let names : List Name = map (name_at (field_names net rel)) fields in
    let to_name : Name = name_at (relation_names net) to in
    let to_names : List Name = map (name_at (field_names net to)) to_fields in
    let (d, is, made) = mapped_found Part (resolved_foreign net name names to_name to_names) (Part (Foreign rel fields to to_fields)) (judged_there net (Foreign rel fields to to_fields) p).is in
    let (n, a, e1) = first_found (number_of (relation_names net) name) _ d is in
    let (fs, b, e2) = first_found (fields_of net n names) _ d e1 in
    let (m, c, e3) = first_found (number_of (relation_names net) to_name) _ d e2 in
    let (gs, f, e4) = first_found (fields_of net m to_names) (λ hs. Some (Foreign n fs m hs)) d e3 in
    let same : Part (Foreign n fs m gs) ≡ Part (Foreign rel fields to to_fields) = ap Part (some_is (Foreign n fs m gs) d e4) ∙ made in (
      ap (λ k. nat_lt k (length (relations net))) (sym (foreign_from n m rel to fs gs fields to_fields same)) ∙ name_below net name n a,
      ap (λ k. nat_lt k (length (relations net))) (sym (foreign_to n m rel to fs gs fields to_fields same)) ∙ name_below net to_name m c,
    )

pub sentence_same : (net ys : List Decl) (d : Decl) → Passes net d → sentence_in (relation_shapes (net ++ ys)) d ≡ sentence_in (relation_shapes net) d
sentence_same net ys (Key rel fields) p =
    ap (λ shape. Some (labelled (label.Key rel) (key_sentence shape rel fields))) (relations_kept net ys rel (key_known net rel fields p))
sentence_same net ys (Foreign rel fields to to_fields) p =
    let known = foreign_known net rel to fields to_fields p in
    (λ i. Some (labelled (label.Foreign rel to) (foreign_sentence (relations_kept net ys rel known.0 i) (relations_kept net ys to known.1 i) rel fields to to_fields)))
sentence_same net ys (Relation name fields) p = refl
sentence_same net ys (Always name body) p = refl
sentence_same net ys (Query name vars body) p = refl
sentence_same net ys (Act a) p = refl
sentence_same net ys (Site s) p = refl
sentence_same net ys (Trans t) p = refl

old_same : (net ys : List Decl) (e : Decl) → WellFormed net → In e net → sentence_in (relation_shapes (net ++ ys)) e ≡ sentence_in (relation_shapes net) e
old_same net ys e ok at =
    let s = stood [] net e ok at in
    subst (λ ds. sentence_in (relation_shapes (ds ++ ys)) e ≡ sentence_in (relation_shapes ds) e) (sym s.is)
    (ap (λ ds. sentence_in (relation_shapes ds) e) (append_assoc s.front (e ∷ s.rest) ys)
    ∙ sentence_same s.front ((e ∷ s.rest) ++ ys) e s.passes
    ∙ sym (sentence_same s.front (e ∷ s.rest) e s.passes))

pub denials_more : (net : List Decl) (d : Decl) → WellFormed net → Passes net d
    → violations (net ++ d ∷ []) ≡ grow (violations net) (option_map denied (sentence_in (relation_shapes net) d))
denials_more net d ok p =
    ap (map denied)
    (filter_map_same (sentence_in (relation_shapes (net ++ d ∷ []))) (sentence_in (relation_shapes net)) (net ++ d ∷ [])
    (λ e at. ⊎_elim (λ old. old_same net (d ∷ []) e ok old)
    (λ last. ⊎_elim (λ here. subst (λ x. sentence_in (relation_shapes (net ++ d ∷ [])) x ≡ sentence_in (relation_shapes net) x) (sym here) (sentence_same net (d ∷ []) d p)) (λ none. absurd none) last)
    (in_append e net (d ∷ []) at))
    ∙ filter_grow (sentence_in (relation_shapes net)) net d)
    ∙ map_grow denied (labelled_sentences net) (sentence_in (relation_shapes net) d)

-- ---- values

pub rules_past : (net : List Decl) (d : Decl) → past_ids (rule_values (net ++ d ∷ [])) ≡ max (past_ids (rule_values net)) (past_ids (decl_constants d))
rules_past net d =
    ap past_ids (flat_map-append decl_constants net (d ∷ []) ∙ ap (λ l. rule_values net ++ l) (append-nil (decl_constants d)))
    ∙ past_append (rule_values net) (decl_constants d)

both_within : (a b n : ℕ) → a ≤ n → b ≤ n → max a b ≤ n
both_within a b n first second = omega (arith, first, second)

-- ---- all tables

abbrev grown : Tables → ℕ → Shapes → Shapes → Decl → Tables
grown t n rels asks d = record {
  relations = grow_kind t.relations n (option_map (λ r. headed r.name (relation_shape r)) (relation_in d));
  queries = grow_kind t.queries n (option_map (λ q. headed q.name (types_of q.vars)) (query_in d));
  actions = grow_kind t.actions n (option_map (λ a. headed a.name (types_of a.params)) (action_in d));
  places = grow_kind t.places n (option_map (λ p. headed (place_name p) (place_shape asks p)) (place_in d));
  transitions = grow_kind t.transitions n (option_map (λ u. headed u.name (shape_of u)) (transition_in d));
  always = grow t.always (always_in d);
  denials = grow t.denials (option_map denied (sentence_in rels d));
  past = max t.past (past_ids (decl_constants d));
}

line_grown : (t : Tables) (n : ℕ) (rels asks : Shapes) (d : Decl) → grown t n rels asks d ≡ with_noted t n (noted_of rels asks d)
unfolding noted_of with_noted
line_grown t n rels asks (Relation name fields) = refl
line_grown t n rels asks (Key rel fields) = refl
line_grown t n rels asks (Foreign rel fields to to_fields) = refl
line_grown t n rels asks (Always name body) = refl
line_grown t n rels asks (Query name vars body) = refl
line_grown t n rels asks (Act a) = refl
line_grown t n rels asks (Site p) = refl
line_grown t n rels asks (Trans u) = refl

kept_grown : (net : List Decl) (t : Tables) (d : Decl) → Kept net t → Passes net d → past_ids (decl_constants d) ≤ 2 ^ 62 → Kept (net ++ d ∷ []) (grown t (length net) (relation_shapes net) (query_shapes net) d)
kept_grown net t d kept p small =
    let r = kind_more relation_in (λ a. a.name) relation_shape t.relations net d (record { at = kept.relations_at; names = kept.relations_named; types = kept.relations_typed }) in
    let q = kind_more query_in (λ a. a.name) (λ a. types_of a.vars) t.queries net d (record { at = kept.queries_at; names = kept.queries_named; types = kept.queries_typed }) in
    let a = kind_more action_in (λ x. x.name) (λ x. types_of x.params) t.actions net d (record { at = kept.actions_at; names = kept.actions_named; types = kept.actions_typed }) in
    let s = kind_more place_in place_name (place_shape (query_shapes net)) t.places net d (record { at = kept.places_at; names = kept.places_named; types = kept.places_typed }) in
    let u = kind_more transition_in (λ x. x.name) shape_of t.transitions net d (record { at = kept.transitions_at; names = kept.transitions_named; types = kept.transitions_typed }) in
    record {
      relations_at = r.at;
      relations_named = r.names;
      relations_typed = r.types;
      queries_at = q.at;
      queries_named = q.names;
      queries_typed = q.types;
      actions_at = a.at;
      actions_named = a.names;
      actions_typed = a.types;
      places_at = s.at;
      places_named = s.names;
      places_typed = s.types ∙ places_more net d kept.well_formed p;
      transitions_at = u.at;
      transitions_named = u.names;
      transitions_typed = u.types;
      always_named = ap (λ l. grow l (always_in d)) kept.always_named ∙ sym (filter_grow always_in net d);
      denied = ap (λ l. grow l (option_map denied (sentence_in (relation_shapes net) d))) kept.denied ∙ sym (denials_more net d kept.well_formed p);
      past = ap (λ n. max n (past_ids (decl_constants d))) kept.past ∙ sym (rules_past net d);
      past_small = both_within t.past (past_ids (decl_constants d)) (2 ^ 62) kept.past_small small;
      well_formed = one_more [] net d kept.well_formed p;
    }

pub kept_more : (net : List Decl) (t : Tables) (d : Decl) → Kept net t → Passes net d → past_ids (decl_constants d) ≤ 2 ^ 62
    → Kept (net ++ d ∷ []) (with_noted t (length net) (noted_of t.relations.types t.queries.types d))
kept_more net t d kept p small =
    subst (λ rels. Kept (net ++ d ∷ []) (with_noted t (length net) (noted_of rels t.queries.types d))) (sym kept.relations_typed)
    (subst (λ asks. Kept (net ++ d ∷ []) (with_noted t (length net) (noted_of (relation_shapes net) asks d))) (sym kept.queries_typed)
    (subst (Kept (net ++ d ∷ [])) (line_grown t (length net) (relation_shapes net) (query_shapes net) d) (kept_grown net t d kept p small)))

noted_past : (rels asks : Shapes) (d : Decl) (m : Noted) → m ≡ noted_of rels asks d → m.past ≡ past_ids (decl_constants d)
unfolding noted_of
noted_past rels asks d m is = ap (λ (n : Noted). n.past) is

-- the tables behind a declaration that was pushed, by what the steps say of them
pub kept_added : (net more : List Decl) (t after : Tables) (n : ℕ) (m : Noted) (d : Decl) → Kept net t → Passes net d → n ≡ length net
    → m ≡ noted_of t.relations.types t.queries.types d → m.past ≤ 2 ^ 62 → more ≡ net ++ d ∷ [] → after ≡ with_noted t n m → Kept more after
kept_added net more t after n m d kept p place is small pushed entered =
    let within : past_ids (decl_constants d) ≤ 2 ^ 62 = subst (λ k. k ≤ 2 ^ 62) (noted_past t.relations.types t.queries.types d m is) small in
    subst (λ ds. Kept ds after) (sym pushed)
    (subst (Kept (net ++ d ∷ [])) (sym (entered ∙ (λ i. with_noted t (place i) (is i)))) (kept_more net t d kept p within))

pub kept_same : (net back : List Decl) (t after : Tables) → Kept net t → back ≡ net → after ≡ t → Kept back after
kept_same net back t after kept same unchanged = subst (λ ds. Kept ds after) (sym same) (subst (Kept net) (sym unchanged) kept)

-- ---- a name that passed is new

pub new_line : (net : List Decl) (t : Tables) (rels asks : Shapes) (d : Decl) → Kept net t → Passes net d → is_new_line t (line_of rels asks d) ≡ true
new_line net t rels asks (Relation name fields) kept p =
    ap (λ names. is_new names name) kept.relations_named ∙ (and_parts _ _ (judged_there net (Relation name fields) p).once).0
new_line net t rels asks (Key rel fields) kept p = refl
new_line net t rels asks (Foreign rel fields to to_fields) kept p = refl
new_line net t rels asks (Always name body) kept p =
    ap (λ names. is_new names name) kept.always_named ∙ (and_parts _ _ (judged_there net (Always name body) p).once).0
new_line net t rels asks (Query name vars body) kept p =
    ap (λ names. is_new names name) kept.queries_named ∙ (and_parts _ _ (and_parts _ _ (judged_there net (Query name vars body) p).once).0).0
new_line net t rels asks (Act a) kept p =
    ap (λ names. is_new names a.name) kept.actions_named ∙ (and_parts _ _ (judged_there net (Act a) p).once).0
new_line net t rels asks (Site (place.Control name shape)) kept p =
    ap (λ names. is_new names name) kept.places_named ∙ (judged_there net (Site (place.Control name shape)) p).once
new_line net t rels asks (Site (place.View name query)) kept p =
    ap (λ names. is_new names name) kept.places_named ∙ (judged_there net (Site (place.View name query)) p).once
new_line net t rels asks (Trans u) kept p =
    ap (λ names. is_new names u.name) kept.transitions_named ∙ (and_parts _ _ (judged_there net (Trans u) p).once).0

pub new_entered : (net : List Decl) (t : Tables) (rels asks : Shapes) (m : Noted) (d : Decl) → Kept net t → Passes net d → m ≡ noted_of rels asks d → is_new_line t m.line ≡ true
unfolding noted_of
new_entered net t rels asks m d kept p is = ap (λ (n : Noted). is_new_line t n.line) is ∙ new_line net t rels asks d kept p
