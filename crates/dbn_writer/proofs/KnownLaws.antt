-- What has passed behind a net is known there.
use Rattle.std.proofs.Common.{◌≡◌, ℕ, ◌<◌, ◌≤◌, ◌^◌, Bool, true, List, [], map, sym, ap, subst, ◌∙◌, Option, Some, None, arith, length}
use Rattle.std.specs.Prelude.{nat_lt, nat_le}
use Rattle.std.specs.List.{list_all, All}
use Rattle.std.specs.Option.{option_map_or}
use Rattle.std.proofs.lemmas.Bool.{and_parts, ltb-true, lt-ltb, leb-true}
use Rattle.std.proofs.lemmas.List.{length-map}
use Rattle.std.proofs.lemmas.List.Sums.{AllPass-from_list_all}
use Rattle.dbn_formula.specs.Variables.{TypedVars}
use Rattle.dbn_formula.specs.Written.{of_first}
use Rattle.dbn_formula.specs.declared.formula.Formula.{Formula}
use Rattle.dbn_instance.specs.declared.fact.Action.{Action}
use Rattle.dbn_instance.specs.declared.fact.FactPattern.{FactPattern}
use Rattle.dbn_net.specs.declared.rules.Arc.{Arc}
use Rattle.dbn_net.specs.declared.rules.Pattern.{Pattern}
use Rattle.dbn_net.specs.declared.rules.Read.{Read}
use Rattle.dbn_net.specs.declared.rules.Call.{Call}
use Rattle.dbn_net.specs.declared.rules.Transition.{Transition}
use Rattle.dbn_net.specs.declared.written.WrittenAtom.{WrittenAtom}
use Rattle.dbn_net.specs.declared.decl.Place.{Place}
use Rattle.dbn_net.specs.declared.decl.Place.TheVariants as place
use Rattle.dbn_net.specs.declared.decl.Decl.{Decl}
use Rattle.dbn_net.specs.declared.decl.Decl.TheVariants.{Relation, Key, Foreign, Always, Query, Act, Site, Trans}
use Rattle.dbn_net.specs.declared.decl.Entry.TheVariants.{Part}
use Rattle.dbn_net.specs.Maybe.{each}
use Rattle.dbn_net.specs.Forms.{Name}
use Rattle.dbn_net.specs.Tables.{relations, queries, actions, places, relation_names, field_names, is_control, is_view, has_place}
use Rattle.dbn_net.specs.Naming.{number_of, name_at, fields_of, resolved_key, resolved_foreign, resolved_formula, named_formula, fact_pattern, written_fact, resolved_action, transition, written_transition}
use Rattle.dbn_net.specs.Judging.{is_count, arcs_counted}
use Rattle.dbn_net.specs.WellFormed.{Passes, arcs_known}
use Rattle.dbn_net.proofs.Maybes.{some_is, first_found, mapped_found}
use Rattle.dbn_net.proofs.NamedLaws.{number_within}
use Rattle.dbn_net.proofs.Listed.{each_all, given_all, get_within}
use Rattle.dbn_net.proofs.MadeLaws.{Made, was_made, numbers_known, below_mapped, written_formula_known}
use Rattle.dbn_net.proofs.LiftLaws.{judged_there, site_known, has_within}
use Rattle.dbn_writer.specs.Known.{FieldsKnown, FormulaKnown, FactsKnown, PlaceKnown, ArcKnown, GuardKnown, CallKnown, TransitionKnown, Known}

-- ---- lists of what passes a test

each_is : {A : Type 0} (p : A → Bool) (Q : A → Type 0) → ((x : A) → p x ≡ true → Q x) → (xs : List A) → list_all p xs ≡ true → All Q xs
each_is p Q by xs e k d less = by _ (AllPass-from_list_all p xs e k d less)

within : (net : List Decl) (name : Name) (n : ℕ) → number_of (relation_names net) name ≡ Some n → n < length (relations net)
within net name n is = subst (λ k. n < k) (length-map (relations net) (λ r. r.name)) (number_within (relation_names net) name n is)

-- ---- keys and foreign keys

number_less : (names : List Name) (name : Name) (n : ℕ) → number_of names name ≡ Some n → nat_lt n (length names) ≡ true
number_less names name n is = lt-ltb n (length names) (number_within names name n is)

fields_within : (net : List Decl) (n : ℕ) (names : List Name) (fields : List ℕ) → fields_of net n names ≡ Some fields → All (λ k. k < length (field_names net n)) fields
fields_within net n names fields e =
    each_is (λ k. nat_lt k (length (field_names net n))) (λ k. k < length (field_names net n)) (λ k less. ltb-true k (length (field_names net n)) less) fields
    (each_all (number_of (field_names net n)) (λ k. nat_lt k (length (field_names net n))) (λ name k is. number_less (field_names net n) name k is) names fields e)

key_rel : (n m : ℕ) (fs gs : List ℕ) → Part (Key n fs) ≡ Part (Key m gs) → n ≡ m
key_rel n m fs gs e = cc

key_columns : (n m : ℕ) (fs gs : List ℕ) → Part (Key n fs) ≡ Part (Key m gs) → fs ≡ gs
key_columns n m fs gs e = cc

side_known : (net : List Decl) (n m : ℕ) (fs gs : List ℕ) (name : Name) (names : List Name) → number_of (relation_names net) name ≡ Some n → fields_of net n names ≡ Some fs
    → n ≡ m → fs ≡ gs → FieldsKnown net m gs
side_known net n m fs gs name names is are same alike =
    subst (λ k. FieldsKnown net k gs) same (subst (FieldsKnown net n) alike (record { relation = within net name n is; columns = fields_within net n names fs are }))

key_known : (net : List Decl) (rel : ℕ) (fields : List ℕ) → Passes net (Key rel fields) → FieldsKnown net rel fields
key_known net rel fields p =
    let name : Name = name_at (relation_names net) rel in
    let names : List Name = map (name_at (field_names net rel)) fields in
    let (d, is, made) = mapped_found Part (resolved_key net name names) (Part (Key rel fields)) (judged_there net (Key rel fields) p).is in
    let (n, a, e1) = first_found (number_of (relation_names net) name) _ d is in
    let (fs, b, e2) = first_found (fields_of net n names) (λ gs. Some (Key n gs)) d e1 in
    let same : Part (Key n fs) ≡ Part (Key rel fields) = ap Part (some_is (Key n fs) d e2) ∙ made in
    side_known net n rel fs fields name names a b (key_rel n rel fs fields same) (key_columns n rel fs fields same)

foreign_from : (n m k l : ℕ) (fs gs hs ks : List ℕ) → Part (Foreign n fs m gs) ≡ Part (Foreign k hs l ks) → n ≡ k
foreign_from n m k l fs gs hs ks e = cc

foreign_columns : (n m k l : ℕ) (fs gs hs ks : List ℕ) → Part (Foreign n fs m gs) ≡ Part (Foreign k hs l ks) → fs ≡ hs
foreign_columns n m k l fs gs hs ks e = cc

foreign_to : (n m k l : ℕ) (fs gs hs ks : List ℕ) → Part (Foreign n fs m gs) ≡ Part (Foreign k hs l ks) → m ≡ l
foreign_to n m k l fs gs hs ks e = cc

foreign_others : (n m k l : ℕ) (fs gs hs ks : List ℕ) → Part (Foreign n fs m gs) ≡ Part (Foreign k hs l ks) → gs ≡ ks
foreign_others n m k l fs gs hs ks e = cc

foreign_known : (net : List Decl) (rel to : ℕ) (fields others : List ℕ) → Passes net (Foreign rel fields to others) → FieldsKnown net rel fields × FieldsKnown net to others
foreign_known net rel to fields others p =
    let name : Name = name_at (relation_names net) rel in
    let names : List Name = map (name_at (field_names net rel)) fields in
    let to_name : Name = name_at (relation_names net) to in
    let to_names : List Name = map (name_at (field_names net to)) others in
    let (d, is, made) = mapped_found Part (resolved_foreign net name names to_name to_names) (Part (Foreign rel fields to others)) (judged_there net (Foreign rel fields to others) p).is in
    let (n, a, e1) = first_found (number_of (relation_names net) name) _ d is in
    let (fs, b, e2) = first_found (fields_of net n names) _ d e1 in
    let (m, c, e3) = first_found (number_of (relation_names net) to_name) _ d e2 in
    let (gs, f, e4) = first_found (fields_of net m to_names) (λ hs. Some (Foreign n fs m hs)) d e3 in
    let same : Part (Foreign n fs m gs) ≡ Part (Foreign rel fields to others) = ap Part (some_is (Foreign n fs m gs) d e4) ∙ made in (
      side_known net n rel fs fields name names a b (foreign_from n m rel to fs gs fields others same) (foreign_columns n m rel to fs gs fields others same),
      side_known net m to gs others to_name to_names c f (foreign_to n m rel to fs gs fields others same) (foreign_others n m rel to fs gs fields others same),
    )

-- ---- formulas

formula_known : (net : List Decl) (f g : Formula) → resolved_formula (relation_names net) (named_formula (relation_names net) f) ≡ Some g → g ≡ f → FormulaKnown net f
formula_known net f g is same =
    subst (FormulaKnown net) same
    (subst (λ n. of_first n g ≡ true) (length-map (relations net) (λ r. r.name)) (written_formula_known (relation_names net) (named_formula (relation_names net) f) g is))

always_body : (a b : Name) (f g : Formula) → Part (Always a f) ≡ Part (Always b g) → f ≡ g
always_body a b f g e = cc

always_known : (net : List Decl) (name : Name) (body : Formula) → Passes net (Always name body) → FormulaKnown net body
always_known net name body p =
    let (g, is, made) = mapped_found (λ f. Part (Always name f)) (resolved_formula (relation_names net) (named_formula (relation_names net) body)) (Part (Always name body)) (judged_there net (Always name body) p).is in
    formula_known net body g is (always_body name name g body made)

query_body : (a b : Name) (vs ws : TypedVars) (f g : Formula) → Part (Query a vs f) ≡ Part (Query b ws g) → f ≡ g
query_body a b vs ws f g e = cc

query_known : (net : List Decl) (name : Name) (vars : TypedVars) (body : Formula) → Passes net (Query name vars body) → FormulaKnown net body
query_known net name vars body p =
    let (g, is, made) = mapped_found (λ f. Part (Query name vars f)) (resolved_formula (relation_names net) (named_formula (relation_names net) body)) (Part (Query name vars body)) (judged_there net (Query name vars body) p).is in
    formula_known net body g is (query_body name name vars vars g body made)

-- ---- actions

act_is : (a b : Action) → Part (Act a) ≡ Part (Act b) → a ≡ b
act_is a b e = cc

fact_known : (net : List Decl) (g : WrittenAtom) (p : FactPattern) → fact_pattern (relation_names net) g ≡ Some p → nat_lt p.rel (length (relations net)) ≡ true
fact_known net g p e =
    let (n, is, made) = mapped_found (λ k. record { rel = k; terms = g.terms }) (number_of (relation_names net) g.name) p e in
    ap (λ (q : FactPattern). nat_lt q.rel (length (relations net))) (sym made) ∙ below_mapped (λ r. r.name) (relations net) n (number_within (relation_names net) g.name n is)

facts_known : (net : List Decl) (gs : List WrittenAtom) (ps : List FactPattern) → each (fact_pattern (relation_names net)) gs ≡ Some ps → FactsKnown net ps
facts_known net gs ps e =
    each_is (λ p. nat_lt p.rel (length (relations net))) (λ p. p.rel < length (relations net)) (λ p less. ltb-true p.rel (length (relations net)) less) ps
    (each_all (fact_pattern (relation_names net)) (λ p. nat_lt p.rel (length (relations net))) (fact_known net) gs ps e)

action_known : (net : List Decl) (a : Action) → Passes net (Act a) → FactsKnown net a.deletes × FactsKnown net a.adds
action_known net a p =
    let (d, is, made) = mapped_found Part (resolved_action net a.name a.params (map (written_fact net) a.deletes) (map (written_fact net) a.adds)) (Part (Act a)) (judged_there net (Act a) p).is in
    let (gone, b, rest) = first_found (each (fact_pattern (relation_names net)) (map (written_fact net) a.deletes)) _ d is in
    let (new, c, last) = first_found (each (fact_pattern (relation_names net)) (map (written_fact net) a.adds)) _ d rest in
    let whole : Action = record { name = a.name; params = a.params; deletes = gone; adds = new } in
    let same : whole ≡ a = act_is whole a (ap Part (some_is (Act whole) d last) ∙ made) in
    subst (λ (b : Action). FactsKnown net b.deletes × FactsKnown net b.adds) same
    (facts_known net (map (written_fact net) a.deletes) gone b, facts_known net (map (written_fact net) a.adds) new c)

-- ---- places

place_known : (net : List Decl) (site : Place) → Passes net (Site site) → PlaceKnown net site
place_known net (place.Control name shape) p = tt
place_known net (place.View name query) p = ltb-true query (length (queries net)) (site_known net (place.View name query) p)

-- ---- transitions

site_within : (is : Place → Bool) (net : List Decl) (n : ℕ) → has_place is (places net) n ≡ true → n < length (places net)
site_within is net n has = let there = has_within is (places net) n has in get_within (places net) n there.0 there.1

small : (n : ℕ) → is_count n ≡ true → n < 2 ^ 32
small n e = let most : n ≤ 4294967295 = leb-true n 4294967295 (and_parts (nat_le 1 n) (nat_le n 4294967295) e).1 in omega (arith, most)

arcs_in : (net : List Decl) (arcs : List Arc) → arcs_known net arcs ≡ true → arcs_counted arcs ≡ true → All (ArcKnown net) arcs
arcs_in net arcs known counted k d less = record {
  place = site_within is_control net _ (AllPass-from_list_all (λ (a : Arc). has_place is_control (places net) a.place) arcs known k d less);
  counts = each_is (λ (p : Pattern). is_count p.many) (λ p. p.many < 2 ^ 32) (λ p e. small p.many e) _ (AllPass-from_list_all (λ (a : Arc). list_all (λ (p : Pattern). is_count p.many) a.patterns) arcs counted k d less);
}

guard_is : (guard : Option Formula) → option_map_or (of_first 0) guard true ≡ true → GuardKnown guard
guard_is None e = tt
guard_is (Some g) e = e

call_is : (net : List Decl) (call : Option Call) → option_map_or (λ c. nat_lt c.action (length (actions net))) call true ≡ true → CallKnown net call
call_is net None e = tt
call_is net (Some c) e = ltb-true c.action (length (actions net)) e

trans_is : (t u : Transition) → Part (Trans t) ≡ Part (Trans u) → t ≡ u
trans_is t u e = cc

made_there : (net : List Decl) (t : Transition) → Passes net (Trans t) → Made net (written_transition net t) t
made_there net t p =
    let (u, is, made) = mapped_found (λ x. Part (Trans x)) (transition net (written_transition net t)) (Part (Trans t)) (judged_there net (Trans t) p).is in
    was_made net (written_transition net t) t (is ∙ ap Some (trans_is u t made))

transition_known : (net : List Decl) (t : Transition) → Passes net (Trans t) → TransitionKnown net t
transition_known net t p =
    let made = made_there net t p in
    let known = numbers_known net (written_transition net t) t made in
    let ke = and_parts _ _ known in
    let kd = and_parts _ _ ke.0 in
    let kc = and_parts _ _ kd.0 in
    let kb = and_parts _ _ kc.0 in
    let counted = (judged_there net (Trans t) p).passed.counted in
    let ca = and_parts _ _ counted in
    let cb = and_parts _ _ ca.0 in
    record {
      ins = arcs_in net t.ins kb.0 cb.0;
      reads = each_is (λ (r : Read). has_place is_view (places net) r.view) (λ r. r.view < length (places net)) (λ r e. site_within is_view net r.view e) t.reads kb.1;
      guard = guard_is t.guard (given_all (resolved_formula []) (of_first 0) (λ q f e. written_formula_known [] q f e) (written_transition net t).guard t.guard made.guard);
      call = call_is net t.call kc.1;
      outs = arcs_in net t.outs kd.1 cb.1;
      backs = arcs_in net t.backs ke.1 ca.1;
    }

-- ---- all kinds

pub passes_known : (net : List Decl) (d : Decl) → Passes net d → Known net d
passes_known net (Relation name fields) p = tt
passes_known net (Key rel fields) p = key_known net rel fields p
passes_known net (Foreign rel fields to others) p = foreign_known net rel to fields others p
passes_known net (Always name body) p = always_known net name body p
passes_known net (Query name vars body) p = query_known net name vars body p
passes_known net (Act a) p = action_known net a p
passes_known net (Site site) p = place_known net site p
passes_known net (Trans t) p = transition_known net t p
