-- What places show: views have queries, and all rows have the columns of their place.
use Rattle.std.proofs.Common.{◌≡◌, ℕ, ◌<◌, zero, suc, List, [], ◌∷◌, ◌++◌, map, refl, sym, ap, ◌∙◌, subst, ⊎_elim, Option, Some, None, length, arith, ◌+◌, ◌≤◌}
use Rattle.std.proofs.lemmas.List.{length-map, length-append}
use Rattle.dbn_value.specs.Order.{value_type, row_cmp}
use Rattle.dbn_value.specs.declared.term.Var.{Var}
use Rattle.std.specs.Prelude.{slice_get}
use Rattle.std.specs.List.{list_all, flat_map, AllByRecursion}
use Rattle.std.specs.List.Sorted.{IsStrictlySortedBy}
use Rattle.dbn_value.proofs.AscendingLaws.{sorted_nil}
use Rattle.dbn_core.proofs.FitLaws.{tokens_length}
use Rattle.std.specs.Map.{keys_of}
use Rattle.std.specs.Option.{option_map_or}
use Rattle.std.proofs.lemmas.Bool.{and_parts, ltb-true}
use Rattle.dbn_value.specs.Members.{In}
use Rattle.dbn_value.specs.declared.value.Value.{Value}
use Rattle.dbn_value.specs.declared.value.ColType.{ColType}
use Rattle.dbn_value.proofs.MemberLaws.{all_at, in_at, in_map, in_flat, in_append, recursion_at, recursion_from}
use Rattle.dbn_formula.specs.Holds.{Instance}
use Rattle.dbn_formula.specs.Answers.{answers, constants, values_in}
use Rattle.dbn_formula.specs.Typing.{Shapes}
use Rattle.dbn_formula.specs.Solutions.{HasShape}
use Rattle.dbn_formula.proofs.AnswersLaws.{in_answers, sorted_answers}
use Rattle.dbn_marking.specs.Counts.{place_of}
use Rattle.dbn_net.specs.declared.decl.Decl.{Decl}
use Rattle.dbn_net.specs.declared.decl.Place.{Place}
use Rattle.dbn_net.specs.declared.decl.Place.TheVariants.{Control, View}
use Rattle.dbn_net.specs.declared.rules.Arc.{Arc}
use Rattle.dbn_net.specs.declared.rules.Read.{Read}
use Rattle.dbn_net.specs.declared.rules.Pattern.{Pattern}
use Rattle.dbn_net.specs.declared.rules.Transition.{Transition}
use Rattle.dbn_net.specs.Forms.{Name}
use Rattle.dbn_net.specs.declared.decl.Decl.TheVariants.{Relation, Key, Foreign, Always, Query, Act, Site, Trans}
use Rattle.dbn_formula.specs.Variables.{TypedVars}
use Rattle.dbn_formula.specs.declared.formula.Formula.{Formula}
use Rattle.dbn_net.proofs.PositionLaws.{there}
use Rattle.dbn_net.proofs.Listed.{get_within}
use Rattle.dbn_net.specs.Tables.{shape_of, Question, query_in, is_control, is_view, has_place, queries, places, columns, types_of, query_shapes, place_shape, place_shapes}
use Rattle.dbn_net.specs.Values.{Marking}
use Rattle.dbn_net.specs.Enabled.{viewed, view_rows}
use Rattle.dbn_net.specs.Good.{PlaceFits, TokensFit}
use Rattle.dbn_net.specs.WellFormed.{WellFormed, Fits, terms_in}
use Rattle.dbn_net.proofs.LiftLaws.{place_known, sites_known, has_within}
use Rattle.dbn_formula.specs.Typing.{type_fault}
use Rattle.dbn_formula.specs.Solutions.{HasShapes}
use Rattle.dbn_formula.specs.declared.formula.Formula.TheVariants.{And}
use Rattle.dbn_slow.specs.Clauses.{Clause, pattern_clause, arc_clauses, read_clause, clauses, atoms_from, shown_rows, candidates, IsJoined}
use Rattle.dbn_slow.proofs.ListingLaws.{ClauseFits, mapped_at, shape_of_cells, query_typed, query_shapes as rows_typed}

-- the query of a view is one of the net
pub query_within : (net : List Decl) (n query : ℕ) (name : Name) → WellFormed net → slice_get (places net) n ≡ Some (View name query) → query < length (queries net)
query_within net n query name ok is = ltb-true query (length (queries net)) (all_at (place_known net) (View name query) (places net) (sites_known net ok) (in_at (places net) n (View name query) is))

answers_shape : (net : List Decl) (db : Instance) (n : ℕ) (found : Option Question) (row : List Value) → slice_get (queries net) n ≡ found
    → In row (option_map_or (λ q. answers q.body q.vars db) found []) → HasShape row (columns (query_shapes net) n)
answers_shape net db n None row is at = absurd at
answers_shape net db n (Some q) row is at =
    subst (λ shape. HasShape row shape) (sym (mapped_at (λ (q : Question). types_of q.vars) [] (queries net) n q is))
    (shape_of_cells (values_in db ++ constants q.body) q.vars row (in_answers q.body q.vars db row at).0)

viewed_shape : (net : List Decl) (db : Instance) (site : Place) (row : List Value) → In row (viewed net db site) → HasShape row (place_shape (query_shapes net) site)
viewed_shape net db (Control name shape) row at = absurd at
viewed_shape net db (View name query) row at = answers_shape net db query (slice_get (queries net) query) row refl at

found_shape : (net : List Decl) (db : Instance) (n : ℕ) (found : Option Place) (row : List Value) → slice_get (places net) n ≡ found
    → In row (option_map_or (viewed net db) found []) → HasShape row (columns (place_shapes net) n)
found_shape net db n None row is at = absurd at
found_shape net db n (Some site) row is at =
    subst (λ shape. HasShape row shape) (sym (mapped_at (place_shape (query_shapes net)) [] (places net) n site is)) (viewed_shape net db site row at)

pub view_shape : (net : List Decl) (db : Instance) (n : ℕ) (row : List Value) → In row (view_rows net db n) → HasShape row (columns (place_shapes net) n)
view_shape net db n row at = found_shape net db n (slice_get (places net) n) row refl at

key_shape : (queries : Shapes) (held : List (List Value × ℕ)) (site : Place) (row : List Value) → PlaceFits held site → In row (keys_of held) → HasShape row (place_shape queries site)
key_shape queries held (Control name shape) row fits at =
    let found = in_map (λ (c : List Value × ℕ). c.0) row held at in
    subst (λ r. HasShape r shape) (sym found.2) (recursion_at (λ (c : List Value × ℕ). HasShape c.0 shape) found.0 held fits found.1)
key_shape queries held (View name query) row fits at = absurd (subst (λ h. In row (keys_of h)) fits at)

token_shape : (queries : Shapes) (marking : Marking) (sites : List Place) (n : ℕ) (row : List Value) → TokensFit marking sites → In row (keys_of (place_of marking n)) → HasShape row (columns (map (place_shape queries) sites) n)
token_shape queries [] sites n row fits at = absurd at
token_shape queries (held ∷ marking) [] n row fits at = absurd fits
token_shape queries (held ∷ marking) (site ∷ sites) zero row fits at = key_shape queries held site row fits.0 at
token_shape queries (held ∷ marking) (site ∷ sites) (suc n) row fits at = token_shape queries marking sites n row fits.1 at

-- the clauses of a transition fit
pub clauses_fit : (net : List Decl) (t : Transition) (db : Instance) (marking : Marking) → Fits net t → TokensFit marking (places net) → (c : Clause) → In c (clauses net t db marking) → ClauseFits t.bound c
clauses_fit net t db marking fits tokens c at =
    let e = and_parts _ _ (and_parts _ _ (and_parts _ _ (and_parts _ _ fits.typed).0).0).0 in
    let typed = and_parts _ _ e.0 in
    ⊎_elim
    (λ token.
    let arc = in_flat (arc_clauses net marking) c t.ins token in
    let p = in_map (pattern_clause net marking arc.0.place) c arc.0.patterns arc.2 in
    subst (ClauseFits t.bound) (sym p.2) (record {
      terms = all_at (λ (q : Pattern). terms_in t.bound q.terms (columns (place_shapes net) arc.0.place)) p.0 arc.0.patterns
          (all_at (λ (a : Arc). list_all (λ (q : Pattern). terms_in t.bound q.terms (columns (place_shapes net) a.place)) a.patterns) arc.0 t.ins typed.0 arc.1) p.1;
      rows = λ row among. token_shape (query_shapes net) marking (places net) arc.0.place row tokens among;
    }))
    (λ answer.
    let r = in_map (read_clause net db) c t.reads answer in
    subst (ClauseFits t.bound) (sym r.2) (record {
      terms = all_at (λ (q : Read). terms_in t.bound q.terms (columns (place_shapes net) q.view)) r.0 t.reads typed.1 r.1;
      rows = λ row among. view_shape net db r.0.view row among;
    }))
    (in_append c (flat_map (arc_clauses net marking) t.ins) (map (read_clause net db) t.reads) at)

query_is : (d : Decl) (q : Question) → query_in d ≡ Some q → d ≡ Query q.name q.vars q.body
query_is (Query name vars body) q e = let same : record { name = name; vars = vars; body = body } ≡ q = cc in ap (λ (r : Question). Query r.name r.vars r.body) same
query_is (Relation name fields) q e = absurd cc
query_is (Key rel fields) q e = absurd cc
query_is (Foreign rel fields to to_fields) q e = absurd cc
query_is (Always name body) q e = absurd cc
query_is (Act a) q e = absurd cc
query_is (Site site) q e = absurd cc
query_is (Trans t) q e = absurd cc

-- a number of a query has a query
pub no_other : (net : List Decl) (n : ℕ) (d : Decl) → n < length (queries net) → query_in d ≡ slice_get (queries net) n → ((name : Name) (vars : TypedVars) (body : Formula) → d ≡ Query name vars body → ⊥) → ⊥
no_other net n d less is other = let some = there (queries net) n less in other some.0.name some.0.vars some.0.body (query_is d some.0 (is ∙ some.1))

-- the place of a read is one of the net
pub read_within : (net : List Decl) (t : Transition) (r : Read) → Fits net t → In r t.reads → r.view < length (places net)
read_within net t r fits at =
    let reads = (and_parts _ _ (and_parts _ _ (and_parts _ _ (and_parts _ _ fits.known).0).0).0).1 in
    let site = has_within is_view (places net) r.view (all_at (λ (q : Read). has_place is_view (places net) q.view) r t.reads reads at) in
    get_within (places net) r.view site.0 site.1

-- a row of a transition has a value for each bound variable
pub bound_within : (t : Transition) (row : List Value) → HasShape row (shape_of t) → length t.bound ≤ length row
bound_within t row fits =
    let long : length row ≡ length t.bound + length t.asked =
    sym (length-map row value_type) ∙ ap length fits ∙ length-map (t.bound ++ t.asked) (λ (x : Var × ColType). x.1) ∙ length-append t.bound t.asked in
    omega (arith, long)

-- the query that was put together is typed over the rows that are shown
pub query_fits : (net : List Decl) (t : Transition) (db : Instance) (marking : Marking) (atoms : List Formula) (shown : Instance) → Fits net t → TokensFit marking (places net)
    → IsJoined (clauses net t db marking) atoms shown → (rels : Shapes) × (type_fault rels (And atoms) t.bound ≡ None) × HasShapes rels shown
query_fits net t db marking atoms shown fits tokens joined =
    let each = clauses_fit net t db marking fits tokens in
    let rels : Shapes = map (λ (c : Clause). c.shape) (clauses net t db marking) in (
      rels,
      subst (λ fs. type_fault rels (And fs) t.bound ≡ None) (sym joined.atoms_are) (query_typed t.bound (clauses net t db marking) each),
      subst (HasShapes rels) (sym joined.shown_are) (rows_typed t.bound (clauses net t db marking) each),
    )

pub candidates_are : (net : List Decl) (t : Transition) (db : Instance) (marking : Marking) (atoms : List Formula) (shown : Instance) → IsJoined (clauses net t db marking) atoms shown
    → answers (And atoms) t.bound shown ≡ candidates net t db marking
candidates_are net t db marking atoms shown joined =
    ap (λ fs. answers (And fs) t.bound shown) joined.atoms_are ∙ ap (λ rows. answers (And (atoms_from 0 (clauses net t db marking))) t.bound rows) joined.shown_are

-- ---- numbers in range, and rows that ascend

pub arcs_within : (net : List Decl) (t : Transition) (marking : Marking) → Fits net t → TokensFit marking (places net) → AllByRecursion (λ (arc : Arc). arc.place < length marking) t.ins
arcs_within net t marking fits tokens =
    let ins = (and_parts _ _ (and_parts _ _ (and_parts _ _ (and_parts _ _ fits.known).0).0).0).0 in
    recursion_from (λ (arc : Arc). arc.place < length marking) t.ins
    (λ arc at.
    let site = has_within is_control (places net) arc.place (all_at (λ (a : Arc). has_place is_control (places net) a.place) arc t.ins ins at) in
    subst (λ n. arc.place < n) (sym (tokens_length marking (places net) tokens)) (get_within (places net) arc.place site.0 site.1))

pub reads_within : (net : List Decl) (t : Transition) → Fits net t → AllByRecursion (λ (r : Read). r.view < length (places net)) t.reads
reads_within net t fits = recursion_from (λ (r : Read). r.view < length (places net)) t.reads (λ r at. read_within net t r fits at)

answers_ascend : (db : Instance) (found : Option Question) → IsStrictlySortedBy row_cmp (option_map_or (λ q. answers q.body q.vars db) found [])
answers_ascend db None = sorted_nil row_cmp
answers_ascend db (Some q) = sorted_answers q.body q.vars db

found_ascend : (net : List Decl) (db : Instance) (found : Option Place) → IsStrictlySortedBy row_cmp (option_map_or (viewed net db) found [])
found_ascend net db None = sorted_nil row_cmp
found_ascend net db (Some (Control name shape)) = sorted_nil row_cmp
found_ascend net db (Some (View name query)) = answers_ascend db (slice_get (queries net) query)

pub view_sorted : (net : List Decl) (db : Instance) (n : ℕ) → IsStrictlySortedBy row_cmp (view_rows net db n)
view_sorted net db n = found_ascend net db (slice_get (places net) n)

-- a row that meets each clause has a value of its type for each bound variable
pub candidate_shape : (net : List Decl) (t : Transition) (db : Instance) (marking : Marking) (row : List Value) → In row (candidates net t db marking) → HasShape row (types_of t.bound)
candidate_shape net t db marking row at =
    let cs = clauses net t db marking in
    shape_of_cells (values_in (shown_rows cs) ++ constants (And (atoms_from 0 cs))) t.bound row (in_answers (And (atoms_from 0 cs)) t.bound (shown_rows cs) row at).0
