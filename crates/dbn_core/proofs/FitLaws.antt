-- A firing leaves facts and tokens of their shapes.
use Rattle.std.proofs.Common.{◌≡◌, ℕ, ◌+◌, ◌<◌, zero, suc, Bool, true, false, if◌then◌else◌, List, [], ◌∷◌, ◌++◌, map, refl, sym, ap, ◌∙◌, subst, inl, Option, Some, None, arith, length}
use Rattle.std.specs.Prelude.{slice_get, slice_index_or, nat_lt}
use Rattle.std.specs.Option.{option_map_or}
use Rattle.std.proofs.lemmas.Bool.{and_parts, ltb-true, lt-ltb}
use Rattle.std.proofs.lemmas.List.{length-map, length-append}
use Rattle.std.proofs.lemmas.List.Elements.{filter_map-append}
use Rattle.dbn_value.specs.Members.{In}
use Rattle.dbn_value.specs.Order.{value_cmp, rows_total}
use Rattle.std.specs.Cmp.{IsTotalOrder}
use Rattle.std.specs.Cmp.Lexicographic.{slice_cmp}
use Rattle.dbn_value.specs.Scope.{Env, value_of}
use Rattle.dbn_value.specs.declared.value.Value.{Value}
use Rattle.dbn_value.proofs.MemberLaws.{in_map, in_flat, in_at, all_at, all_from, all_elements_from, recursion_at, recursion_from}
use Rattle.dbn_formula.specs.Holds.{Instance}
use Rattle.dbn_formula.specs.Typing.{Shapes}
use Rattle.dbn_formula.specs.Distinct.{distinct_vars}
use Rattle.dbn_formula.specs.Variables.{TypedVars}
use Rattle.dbn_formula.specs.Solutions.{HasShape, HasShapes}
use Rattle.dbn_instance.specs.Facts.{AreInRange}
use Rattle.dbn_instance.specs.Grounding.{grounded, grounded_fact}
use Rattle.dbn_instance.specs.declared.fact.FactPattern.{FactPattern}
use Rattle.dbn_instance.specs.declared.fact.Fact.{Fact}
use Rattle.dbn_instance.specs.declared.fact.Action.{Action}
use Rattle.dbn_instance.proofs.FactLaws.{length_after_action}
use Rattle.dbn_net.specs.declared.decl.Decl.{Decl}
use Rattle.dbn_net.specs.declared.decl.Decl.TheVariants.{Act}
use Rattle.dbn_net.specs.declared.decl.Entry.TheVariants.{Part}
use Rattle.dbn_net.specs.declared.decl.Place.{Place}
use Rattle.dbn_net.specs.declared.decl.Place.TheVariants.{Control, View}
use Rattle.dbn_net.specs.declared.rules.Arc.{Arc}
use Rattle.dbn_net.specs.declared.rules.Call.{Call}
use Rattle.dbn_net.specs.declared.rules.Transition.{Transition}
use Rattle.dbn_net.specs.declared.want.Want.{Want}
use Rattle.dbn_net.specs.Tables.{relation_in, relations, relation_names, action_in, actions, transitions, places, columns, types_of, relation_shapes, action_shapes, place_shape, place_shapes, query_shapes, shape_of, scope_of, is_control, has_place}
use Rattle.dbn_net.specs.Values.{Marking}
use Rattle.dbn_net.specs.Maybe.{each}
use Rattle.dbn_net.specs.Naming.{number_of, fact_pattern, written_fact, resolved_action}
use Rattle.dbn_net.specs.Judging.{all_patterns, all_facts}
use Rattle.dbn_net.specs.Wants.{bound_token, bound_tokens, wants}
use Rattle.dbn_net.specs.Enabled.{bound_env}
use Rattle.dbn_net.specs.Good.{RowsFit, PlaceFits, TokensFit}
use Rattle.dbn_net.specs.WellFormed.{WellFormed, Passes, Fits, terms_in, arcs_known, facts_known, transition_typed}
use Rattle.dbn_net.proofs.Maybes.{some_is, first_found, mapped_found}
use Rattle.dbn_net.proofs.NamedLaws.{number_within}
use Rattle.dbn_net.proofs.Listed.{each_all, in_filter_map}
use Rattle.dbn_net.proofs.LiftLaws.{Stood, stood, judged_there, action_in_is, fits_at}
use Rattle.dbn_net.proofs.Scoped.{once_distinct}
use Rattle.dbn_core.specs.Standing.{Stands}
use Rattle.dbn_core.specs.Moves.{taken_all, given_all}
use Rattle.dbn_core.specs.Fire.{fire_env, performed, called, produced, moved}
use Rattle.dbn_core.proofs.MoveLaws.{taken_length, given_length}
use Rattle.dbn_core.proofs.KeptLaws.{AllIn, AllTokens, all_after, all_given, all_taken, all_wants}
use Rattle.dbn_core.proofs.ShapedLaws.{IsTyped, row_shaped, fire_typed, tokens_shaped, facts_shaped}

-- ---- what a net gives a transition

act_is : (a b : Action) → Part (Act a) ≡ Part (Act b) → a ≡ b
act_is a b e = cc

below_names : (net : List Decl) (n : ℕ) → n < length (relation_names net) → nat_lt n (length (relations net)) ≡ true
below_names net n less = lt-ltb n (length (relations net)) (subst (λ k. n < k) (length-map (relations net) (λ r. r.name)) less)

known_more : (xs ys : List Decl) (ps : List FactPattern) → facts_known xs ps ≡ true → facts_known (xs ++ ys) ps ≡ true
known_more xs ys ps known =
    all_from (λ (p : FactPattern). nat_lt p.rel (length (relations (xs ++ ys)))) ps
    (λ p at.
    let less : p.rel < length (relations xs) = ltb-true p.rel (length (relations xs)) (all_at (λ (q : FactPattern). nat_lt q.rel (length (relations xs))) p ps known at) in
    let size : length (relations (xs ++ ys)) ≡ length (relations xs) + length (relations ys) =
    ap length (filter_map-append relation_in xs ys) ∙ length-append (relations xs) (relations ys) in
    lt-ltb p.rel (length (relations (xs ++ ys))) (omega (arith, less, size)))

deletes_known : (front : List Decl) (a : Action) → Passes front (Act a) → facts_known front a.deletes ≡ true
deletes_known front a p =
    let j = judged_there front (Act a) p in
    let (d, is, made) = mapped_found Part (resolved_action front a.name a.params (map (written_fact front) a.deletes) (map (written_fact front) a.adds)) (Part (Act a)) j.is in
    let (gone, b, rest) = first_found (each (fact_pattern (relation_names front)) (map (written_fact front) a.deletes)) _ d is in
    let (new, c, last) = first_found (each (fact_pattern (relation_names front)) (map (written_fact front) a.adds)) _ d rest in
    let whole : Action = record { name = a.name; params = a.params; deletes = gone; adds = new } in
    let same : gone ≡ a.deletes = ap (λ (b : Action). b.deletes) (act_is whole a (ap Part (some_is (Act whole) d last) ∙ made)) in
    subst (λ l. facts_known front l ≡ true) same
    (each_all (fact_pattern (relation_names front)) (λ q. nat_lt q.rel (length (relations front)))
    (λ g q e.
    let (n, named, was) = mapped_found (λ k. record { rel = k; terms = g.terms }) (number_of (relation_names front) g.name) q e in
    ap (λ (x : FactPattern). nat_lt x.rel (length (relations front))) (sym was) ∙ below_names front n (number_within (relation_names front) g.name n named))
    (map (written_fact front) a.deletes) gone b)

-- an action of the net, behind the declarations that stand before it
action_stood : (net : List Decl) → WellFormed net → (n : ℕ) (a : Action) → slice_get (actions net) n ≡ Some a → Stood [] net (Act a)
action_stood net ok n a is =
    let found = in_filter_map action_in a net (in_at (actions net) n a is) in
    stood [] net (Act a) ok (subst (λ d. In d net) (action_in_is found.0 a found.2) found.1)

params_once : (net : List Decl) → WellFormed net → (n : ℕ) (a : Action) → slice_get (actions net) n ≡ Some a → distinct_vars a.params ≡ true
params_once net ok n a is = let s = action_stood net ok n a is in once_distinct [] a.params (and_parts _ _ (judged_there s.front (Act a) s.passes).once).1

deletes_at : (net : List Decl) → WellFormed net → (n : ℕ) (a : Action) → slice_get (actions net) n ≡ Some a → facts_known net a.deletes ≡ true
deletes_at net ok n a is =
    let s = action_stood net ok n a is in
    subst (λ ds. facts_known ds a.deletes ≡ true) (sym s.is) (known_more s.front (Act a ∷ s.rest) a.deletes (deletes_known s.front a s.passes))

pub stands_at : (net : List Decl) (n : ℕ) (t : Transition) → WellFormed net → slice_get (transitions net) n ≡ Some t → Stands net t
stands_at net n t ok is = record { fits = fits_at net n t ok is; once = params_once net ok; deletes = deletes_at net ok }

pub scope_once : (net : List Decl) (t : Transition) → Fits net t → distinct_vars (scope_of t) ≡ true
scope_once net t fits = (and_parts (distinct_vars (scope_of t)) _ fits.scoped).0

-- ---- the two ways to say that rows fit

abbrev OfShape : Shapes → ℕ → List Value → Type 0
OfShape rels rel row = HasShape row (columns rels rel)

fit_to : (db : Instance) (rels : Shapes) → RowsFit db rels → AllIn (OfShape rels) db
fit_to [] rels fits rel row at = absurd at
fit_to (rows ∷ db) [] fits rel row at = absurd fits
fit_to (rows ∷ db) (shape ∷ rels) fits zero row at = recursion_at (λ r. HasShape r shape) row rows fits.0 at
fit_to (rows ∷ db) (shape ∷ rels) fits (suc rel) row at = fit_to db rels fits.1 rel row at

fit_from : (db : Instance) (rels : Shapes) → length db ≡ length rels → AllIn (OfShape rels) db → RowsFit db rels
fit_from [] [] same all = tt
fit_from [] (shape ∷ rels) same all = absurd cc
fit_from (rows ∷ db) [] same all = absurd cc
fit_from (rows ∷ db) (shape ∷ rels) same all =
    let rest : length db ≡ length rels = cc in
    (recursion_from (λ r. HasShape r shape) rows (λ row at. all zero row at), fit_from db rels rest (λ rel row at. all (suc rel) row at))

pub has_shapes : (db : Instance) (rels : Shapes) → RowsFit db rels → HasShapes rels db
has_shapes db rels fits = record { each = fit_to db rels fits }

pub rows_length : (db : Instance) (rels : Shapes) → RowsFit db rels → length db ≡ length rels
rows_length [] [] fits = refl
rows_length [] (shape ∷ rels) fits = absurd fits
rows_length (rows ∷ db) [] fits = absurd fits
rows_length (rows ∷ db) (shape ∷ rels) fits = ap suc (rows_length db rels fits.1)

abbrev Takes : Place → List Value → Type 0
Takes (Control name shape) row = HasShape row shape
Takes (View name query) row = ⊥

-- the place with this number holds tokens of this shape
abbrev SiteTakes : List Place → ℕ → List Value → Type 0
SiteTakes [] n row = ⊥
SiteTakes (site ∷ sites) zero row = Takes site row
SiteTakes (site ∷ sites) (suc n) row = SiteTakes sites n row

place_to : (held : List (List Value × ℕ)) (site : Place) → PlaceFits held site → (c : List Value × ℕ) → In c held → Takes site c.0
place_to held (Control name shape) fits c at = recursion_at (λ (d : List Value × ℕ). HasShape d.0 shape) c held fits at
place_to held (View name query) fits c at = subst (λ h. In c h) fits at

place_from : (held : List (List Value × ℕ)) (site : Place) → ((c : List Value × ℕ) → In c held → Takes site c.0) → PlaceFits held site
place_from held (Control name shape) all = recursion_from (λ (d : List Value × ℕ). HasShape d.0 shape) held all
place_from [] (View name query) all = refl
place_from (c ∷ held) (View name query) all = absurd (all c (inl refl))

tokens_to : (marking : Marking) (sites : List Place) → TokensFit marking sites → AllTokens (SiteTakes sites) marking
tokens_to [] sites fits n c at = absurd at
tokens_to (held ∷ marking) [] fits n c at = absurd fits
tokens_to (held ∷ marking) (site ∷ sites) fits zero c at = place_to held site fits.0 c at
tokens_to (held ∷ marking) (site ∷ sites) fits (suc n) c at = tokens_to marking sites fits.1 n c at

tokens_from : (marking : Marking) (sites : List Place) → length marking ≡ length sites → AllTokens (SiteTakes sites) marking → TokensFit marking sites
tokens_from [] [] same all = tt
tokens_from [] (site ∷ sites) same all = absurd cc
tokens_from (held ∷ marking) [] same all = absurd cc
tokens_from (held ∷ marking) (site ∷ sites) same all =
    let rest : length marking ≡ length sites = cc in
    (place_from held site (λ c at. all zero c at), tokens_from marking sites rest (λ n c at. all (suc n) c at))

pub tokens_length : (marking : Marking) (sites : List Place) → TokensFit marking sites → length marking ≡ length sites
tokens_length [] [] fits = refl
tokens_length [] (site ∷ sites) fits = absurd fits
tokens_length (held ∷ marking) [] fits = absurd fits
tokens_length (held ∷ marking) (site ∷ sites) fits = ap suc (tokens_length marking sites fits.1)

-- ---- facts

module _ (Q : ℕ → List Value → Type 0) (net : List Decl) (env : Env) where
  -- what holds of each fact, and of those that the action adds, holds after it
  acted_all : (c : Call) (found : Option Action) (db : Instance) → AllIn Q db
      → ((a : Action) → found ≡ Some a → (f : Fact Value) → In f (grounded a.params (map (value_of env) c.args) a.adds) → Q f.rel f.row)
      → AllIn Q (option_map_or (λ a. performed a (map (value_of env) c.args) db) found db)
  acted_all c None db all new = all
  acted_all c (Some a) db all new = all_after Q (grounded a.params (map (value_of env) c.args) a.deletes) (grounded a.params (map (value_of env) c.args) a.adds) db all (new a refl)

  pub called_all : (call : Option Call) (db : Instance) → AllIn Q db
      → ((c : Call) (a : Action) → call ≡ Some c → slice_get (actions net) c.action ≡ Some a → (f : Fact Value) → In f (grounded a.params (map (value_of env) c.args) a.adds) → Q f.rel f.row)
      → AllIn Q (called net env call db)
  called_all None db all new = all
  called_all (Some c) db all new = acted_all c (slice_get (actions net) c.action) db all (λ a is f at. new c a refl is f at)

acted_length : (env : Env) (c : Call) (found : Option Action) (db : Instance) → length (option_map_or (λ a. performed a (map (value_of env) c.args) db) found db) ≡ length db
acted_length env c None db = refl
acted_length env c (Some a) db = length_after_action value_cmp (grounded a.params (map (value_of env) c.args) a.deletes) (grounded a.params (map (value_of env) c.args) a.adds) db

pub called_length : (net : List Decl) (env : Env) (call : Option Call) (db : Instance) → length (called net env call db) ≡ length db
called_length net env None db = refl
called_length net env (Some c) db = acted_length env c (slice_get (actions net) c.action) db

mapped_at : {A B : Type 0} (f : A → B) (d : B) (xs : List A) (n : ℕ) (x : A) → slice_get xs n ≡ Some x → slice_index_or (map f xs) n d ≡ f x
mapped_at f d [] n x is = absurd cc
mapped_at f d (y ∷ xs) zero x is = let same : y ≡ x = cc in ap f same
mapped_at f d (y ∷ xs) (suc n) x is = mapped_at f d xs n x is

call_typed : (net : List Decl) (t : Transition) → transition_typed net t ≡ true → (c : Call) → t.call ≡ Some c → terms_in (scope_of t) c.args (columns (action_shapes net) c.action) ≡ true
call_typed net t typed c is =
    let f = and_parts _ _ (and_parts _ _ typed).0 in
    let e = and_parts _ _ f.0 in
    let d = and_parts _ _ e.0 in
    subst (λ (o : Option Call). option_map_or (λ c. terms_in (scope_of t) c.args (columns (action_shapes net) c.action)) o true ≡ true) is d.1

-- facts of an action have the shapes of their relations, whether the result is consistent or not
pub acted_fits : (net : List Decl) (t : Transition) (env : Env) (db : Instance) → Stands net t → IsTyped (scope_of t) env → RowsFit db (relation_shapes net)
    → RowsFit (called net env t.call db) (relation_shapes net)
acted_fits net t env db stands typed before =
    fit_from (called net env t.call db) (relation_shapes net) (called_length net env t.call db ∙ rows_length db (relation_shapes net) before)
    (called_all (OfShape (relation_shapes net)) net env t.call db (fit_to db (relation_shapes net) before)
    (λ c a call is f at.
    let args : HasShape (map (value_of env) c.args) (columns (action_shapes net) c.action) =
    row_shaped (scope_of t) env typed c.args (columns (action_shapes net) c.action) (call_typed net t stands.fits.typed c call) in
    facts_shaped (relation_shapes net) a.params (map (value_of env) c.args) a.adds (stands.once c.action a is)
    (subst (λ types. HasShape (map (value_of env) c.args) types) (mapped_at (λ (b : Action). types_of b.params) [] (actions net) c.action a is) args)
    (and_parts (facts_known net a.adds) (all_facts (terms_in a.params) (relation_shapes net) a.adds) (stands.fits.acts c.action a is)).1 f at))

pub facts_fit_after : (net : List Decl) (t : Transition) (env : Env) (db : Instance) (b : Bool) → Stands net t → IsTyped (scope_of t) env → RowsFit db (relation_shapes net)
    → RowsFit (if b then called net env t.call db else db) (relation_shapes net)
facts_fit_after net t env db true stands typed before = acted_fits net t env db stands typed before
facts_fit_after net t env db false stands typed before = before

-- the facts of known patterns are of relations that the instance has
pub in_range : (net : List Decl) (params : TypedVars) (args : List Value) (ps : List FactPattern) (db : Instance) → length db ≡ length (relations net) → facts_known net ps ≡ true
    → AreInRange db (grounded params args ps)
in_range net params args ps db same known =
    all_elements_from (λ (f : Fact Value). f.rel < length db) (grounded params args ps)
    (λ f at.
    let found = in_map (grounded_fact params args) f ps at in
    let less : found.0.rel < length (relations net) = ltb-true _ _ (all_at (λ (p : FactPattern). nat_lt p.rel (length (relations net))) found.0 ps known found.1) in
    subst (λ (g : Fact Value). g.rel < length db) (sym found.2) (subst (λ n. found.0.rel < n) (sym same) less))

-- ---- tokens

rows_order : IsTotalOrder (slice_cmp value_cmp)
rows_order = rows_total

site_takes : (queries : Shapes) (sites : List Place) (n : ℕ) (row : List Value) → has_place is_control sites n ≡ true → HasShape row (columns (map (place_shape queries) sites) n) → SiteTakes sites n row
site_takes queries [] n row has shape = absurd cc
site_takes queries (Control name shape ∷ sites) zero row has fits = fits
site_takes queries (View name query ∷ sites) zero row has fits = absurd cc
site_takes queries (site ∷ sites) (suc n) row has fits = site_takes queries sites n row has fits

pub tokens_known : (net : List Decl) (env : Env) (arcs : List Arc) → arcs_known net arcs ≡ true → (w : Want Value) → In w (bound_tokens env arcs) → has_place is_control (places net) w.place ≡ true
tokens_known net env arcs known w at =
    let in_arc = in_flat (λ (arc : Arc). map (bound_token env arc.place) arc.patterns) w arcs at in
    let found = in_map (bound_token env in_arc.0.place) w in_arc.0.patterns in_arc.2 in
    subst (λ (v : Want Value). has_place is_control (places net) v.place ≡ true) (sym found.2) (all_at (λ (arc : Arc). has_place is_control (places net) arc.place) in_arc.0 arcs known in_arc.1)

pub produced_known : (net : List Decl) (t : Transition) → Fits net t → (committed : Bool) → arcs_known net (produced t committed) ≡ true
produced_known net t fits true = (and_parts _ _ (and_parts _ _ fits.known).0).1
produced_known net t fits false = (and_parts _ _ fits.known).1

produced_typed : (net : List Decl) (t : Transition) → Fits net t → (committed : Bool) → all_patterns (terms_in (scope_of t)) (place_shapes net) (produced t committed) ≡ true
produced_typed net t fits true = (and_parts _ _ (and_parts _ _ (and_parts _ _ fits.typed).0).0).1
produced_typed net t fits false = (and_parts _ _ (and_parts _ _ fits.typed).0).1

pub tokens_fit_after : (net : List Decl) (t : Transition) (marking : Marking) (row : List Value) (next : ℕ) (committed : Bool) → Fits net t → HasShape row (shape_of t) → TokensFit marking (places net)
    → TokensFit (moved t (bound_env t row) (fire_env t row next) committed marking) (places net)
tokens_fit_after net t marking row next committed fits shape before =
    let env : Env = fire_env t row next in
    let left : Marking = taken_all value_cmp (wants (bound_env t row) t.ins) marking in
    tokens_from (given_all value_cmp (wants env (produced t committed)) left) (places net)
    (given_length value_cmp rows_order (wants env (produced t committed)) left ∙ taken_length value_cmp rows_order (wants (bound_env t row) t.ins) marking ∙ tokens_length marking (places net) before)
    (all_given (SiteTakes (places net)) (wants env (produced t committed)) left
    (all_taken (SiteTakes (places net)) (wants (bound_env t row) t.ins) marking (tokens_to marking (places net) before))
    (all_wants (SiteTakes (places net)) env (produced t committed)
    (λ v at. site_takes (query_shapes net) (places net) v.place v.row (tokens_known net env (produced t committed) (produced_known net t fits committed) v at)
    (tokens_shaped (place_shapes net) (scope_of t) env (produced t committed) (fire_typed t row next (scope_once net t fits) shape) (produced_typed net t fits committed) v at))))
