-- What is known stays known in a longer net, and is named there by the same names.
use Rattle.std.proofs.Common.{◌≡◌, ℕ, ◌+◌, ◌<◌, ◌≤◌, true, List, [], ◌∷◌, ◌++◌, map, refl, sym, ap, subst, ◌∙◌, Option, Some, None, arith, length, length-append, append_assoc}
use Rattle.std.specs.Prelude.{nat_lt, slice_index_or}
use Rattle.std.specs.List.{list_all, filter_map, All, AllByRecursion}
use Rattle.std.specs.Option.{option_map}
use Rattle.std.proofs.lemmas.Bool.{and_parts, ltb-true, lt-ltb}
use Rattle.std.proofs.lemmas.List.{map-append, length-map}
use Rattle.std.proofs.lemmas.List.Elements.{filter_map-append}
use Rattle.dbn_value.proofs.MemberLaws.{all_from}
use Rattle.dbn_formula.specs.Written.{relations as formula_relations, of_first}
use Rattle.dbn_formula.specs.declared.formula.Formula.{Formula}
use Rattle.dbn_formula.proofs.Induction.{Steps, induction}
use Rattle.dbn_formula.proofs.WrittenTests.{first_from, first_atom, first_and, first_or, first_not, first_implies, first_exists, first_forall}
use Rattle.dbn_instance.specs.declared.fact.FactPattern.{FactPattern}
use Rattle.dbn_net.specs.declared.written.WrittenFormula.TheVariants as written_formula
use Rattle.dbn_net.specs.declared.written.Written.TheVariants as written
use Rattle.dbn_net.specs.declared.rules.Arc.{Arc}
use Rattle.dbn_net.specs.declared.rules.Read.{Read}
use Rattle.dbn_net.specs.declared.rules.Call.{Call}
use Rattle.dbn_net.specs.declared.decl.Place.{Place}
use Rattle.dbn_net.specs.declared.decl.Place.TheVariants as place
use Rattle.dbn_net.specs.declared.decl.Decl.{Decl}
use Rattle.dbn_net.specs.declared.decl.Decl.TheVariants.{Relation, Key, Foreign, Always, Query, Act, Site, Trans}
use Rattle.dbn_net.specs.Forms.{Name}
use Rattle.dbn_net.specs.Tables.{relation_in, query_in, action_in, place_in, relations, queries, actions, places, relation_names, query_names, action_names, place_names, place_name, field_names}
use Rattle.dbn_net.specs.Naming.{name_at, named_formula, written_arc, written_pattern, written_read, written_call, mixed, written_fact, named}
use Rattle.dbn_net.specs.WellFormed.{AllPass, WellFormed, written_from}
use Rattle.dbn_net.proofs.WrittenFormulaLaws.{named_atom, named_test, named_and, named_or, named_not, named_implies, named_exists, named_forall}
use Rattle.dbn_net.proofs.Listed.{index_kept}
use Rattle.dbn_writer.specs.Known.{FieldsKnown, FormulaKnown, FactsKnown, PlaceKnown, ArcKnown, CallKnown, Known}
use Rattle.dbn_writer.proofs.Lists.{all_cons, map_where}
use Rattle.dbn_writer.proofs.KnownLaws.{passes_known}

-- ---- formulas

module _ (names more : List Name) where
  abbrev Stays : Formula → Type 0
  Stays f = of_first (length names) f ≡ true → named_formula (names ++ more) f ≡ named_formula names f

  all_stay : (fs : List Formula) → AllByRecursion Stays fs → list_all (of_first (length names)) fs ≡ true → map (named_formula (names ++ more)) fs ≡ map (named_formula names) fs
  all_stay [] all e = refl
  all_stay (f ∷ fs) all e =
      let p = and_parts (of_first (length names) f) (list_all (of_first (length names)) fs) e in
      (λ i. all.0 p.0 i ∷ all_stay fs all.1 p.1 i)

  stay_steps : Steps Stays
  stay_steps = record {
    atom = λ n terms e.
        named_atom (names ++ more) n terms
        ∙ ap (λ r. written_formula.Atom r terms) (index_kept names more n [] (ltb-true n (length names) (sym (first_atom n terms (length names)) ∙ e)))
        ∙ sym (named_atom names n terms);
    test = λ c a b e. named_test (names ++ more) c a b ∙ sym (named_test names c a b);
    both = λ fs all e. named_and (names ++ more) fs ∙ ap written_formula.And (all_stay fs all (sym (first_and fs (length names)) ∙ e)) ∙ sym (named_and names fs);
    either = λ fs all e. named_or (names ++ more) fs ∙ ap written_formula.Or (all_stay fs all (sym (first_or fs (length names)) ∙ e)) ∙ sym (named_or names fs);
    denial = λ f stays e. named_not (names ++ more) f ∙ ap written_formula.Not (stays (sym (first_not f (length names)) ∙ e)) ∙ sym (named_not names f);
    implication = λ f g left right e.
        let p = and_parts (of_first (length names) f) (of_first (length names) g) (sym (first_implies f g (length names)) ∙ e) in
        named_implies (names ++ more) f g ∙ (λ i. written_formula.Implies (left p.0 i) (right p.1 i)) ∙ sym (named_implies names f g);
    some = λ vars f stays e. named_exists (names ++ more) vars f ∙ ap (written_formula.Exists vars) (stays (sym (first_exists vars f (length names)) ∙ e)) ∙ sym (named_exists names vars f);
    every = λ vars f stays e. named_forall (names ++ more) vars f ∙ ap (written_formula.Forall vars) (stays (sym (first_forall vars f (length names)) ∙ e)) ∙ sym (named_forall names vars f);
  }

  named_stays : (f : Formula) → Stays f
  named_stays f e = induction Stays stay_steps f e

-- a guard, which names no relation, is named by any names
pub guard_named : (names : List Name) (g : Formula) → of_first 0 g ≡ true → named_formula names g ≡ named_formula [] g
guard_named names g e = named_stays [] names g e

pub first_more : (f : Formula) (n m : ℕ) → n ≤ m → of_first n f ≡ true → of_first m f ≡ true
unfolding of_first
first_more f n m le e = all_from (λ rel. nat_lt rel m) (formula_relations f) (λ rel at. let less : rel < n = first_from f n e rel at in lt-ltb rel m (omega (arith, less, le)))

-- ---- lists of a longer net

more_of : {A : Type 0} (f : Decl → Option A) (xs ys : List Decl) (n : ℕ) → n < length (filter_map f xs) → n < length (filter_map f (xs ++ ys))
more_of f xs ys n less =
    let size : length (filter_map f (xs ++ ys)) ≡ length (filter_map f xs) + length (filter_map f ys) = ap length (filter_map-append f xs ys) ∙ length-append (filter_map f xs) (filter_map f ys) in
    omega (arith, less, size)

kept : {A B : Type 0} (f : Decl → Option A) (g : A → List B) (xs ys : List Decl) (n : ℕ) → n < length (filter_map f xs)
    → slice_index_or (map g (filter_map f (xs ++ ys))) n [] ≡ slice_index_or (map g (filter_map f xs)) n []
kept f g xs ys n less =
    ap (λ l. slice_index_or l n []) (ap (map g) (filter_map-append f xs ys) ∙ map-append g (filter_map f xs) (filter_map f ys))
    ∙ index_kept (map g (filter_map f xs)) (map g (filter_map f ys)) n [] (subst (λ k. n < k) (sym (length-map (filter_map f xs) g)) less)

module _ (xs ys : List Decl) where
  relation_kept : (n : ℕ) → n < length (relations xs) → name_at (relation_names (xs ++ ys)) n ≡ name_at (relation_names xs) n
  relation_kept n less = kept relation_in (λ r. r.name) xs ys n less

  fields_kept : (n : ℕ) → n < length (relations xs) → field_names (xs ++ ys) n ≡ field_names xs n
  fields_kept n less = kept relation_in (λ r. map (λ f. f.0) r.fields) xs ys n less

  query_kept : (n : ℕ) → n < length (queries xs) → name_at (query_names (xs ++ ys)) n ≡ name_at (query_names xs) n
  query_kept n less = kept query_in (λ q. q.name) xs ys n less

  action_kept : (n : ℕ) → n < length (actions xs) → name_at (action_names (xs ++ ys)) n ≡ name_at (action_names xs) n
  action_kept n less = kept action_in (λ a. a.name) xs ys n less

  place_kept : (n : ℕ) → n < length (places xs) → name_at (place_names (xs ++ ys)) n ≡ name_at (place_names xs) n
  place_kept n less = kept place_in place_name xs ys n less

  -- ---- what is known stays known

  fields_more : (rel : ℕ) (fields : List ℕ) → FieldsKnown xs rel fields → FieldsKnown (xs ++ ys) rel fields
  fields_more rel fields known = record {
    relation = more_of relation_in xs ys rel known.relation;
    columns = λ k d less. subst (λ names. slice_index_or fields k d < length names) (sym (fields_kept rel known.relation)) (known.columns k d less);
  }

  formula_more : (f : Formula) → FormulaKnown xs f → FormulaKnown (xs ++ ys) f
  formula_more f known =
      let size : length (relations (xs ++ ys)) ≡ length (relations xs) + length (relations ys) = ap length (filter_map-append relation_in xs ys) ∙ length-append (relations xs) (relations ys) in
      first_more f (length (relations xs)) (length (relations (xs ++ ys))) (omega (arith, size)) known

  facts_more : (ps : List FactPattern) → FactsKnown xs ps → FactsKnown (xs ++ ys) ps
  facts_more ps known k d less = more_of relation_in xs ys _ (known k d less)

  site_more : (site : Place) → PlaceKnown xs site → PlaceKnown (xs ++ ys) site
  site_more (place.Control name shape) known = tt
  site_more (place.View name query) known = more_of query_in xs ys query known

  arcs_more : (arcs : List Arc) → All (ArcKnown xs) arcs → All (ArcKnown (xs ++ ys)) arcs
  arcs_more arcs known k d less = let arc = known k d less in record { place = more_of place_in xs ys _ arc.place; counts = arc.counts }

  call_more : (call : Option Call) → CallKnown xs call → CallKnown (xs ++ ys) call
  call_more None known = tt
  call_more (Some c) known = more_of action_in xs ys c.action known

  known_more : (d : Decl) → Known xs d → Known (xs ++ ys) d
  known_more (Relation name fields) known = tt
  known_more (Key rel fields) known = fields_more rel fields known
  known_more (Foreign rel fields to others) known = (fields_more rel fields known.0, fields_more to others known.1)
  known_more (Always name body) known = formula_more body known
  known_more (Query name vars body) known = formula_more body known
  known_more (Act a) known = (facts_more a.deletes known.0, facts_more a.adds known.1)
  known_more (Site site) known = site_more site known
  known_more (Trans t) known = record {
    ins = arcs_more t.ins known.ins;
    reads = λ k d less. more_of place_in xs ys _ (known.reads k d less);
    guard = known.guard;
    call = call_more t.call known.call;
    outs = arcs_more t.outs known.outs;
    backs = arcs_more t.backs known.backs;
  }

  -- ---- and is named by the same names

  side_named : (rel : ℕ) (fields : List ℕ) → FieldsKnown xs rel fields → map (name_at (field_names (xs ++ ys) rel)) fields ≡ map (name_at (field_names xs rel)) fields
  side_named rel fields known = ap (λ names. map (name_at names) fields) (fields_kept rel known.relation)

  formula_named : (f : Formula) → FormulaKnown xs f → named_formula (relation_names (xs ++ ys)) f ≡ named_formula (relation_names xs) f
  formula_named f known =
      ap (λ names. named_formula names f) (ap (map (λ r. r.name)) (filter_map-append relation_in xs ys) ∙ map-append (λ r. r.name) (relations xs) (relations ys))
      ∙ named_stays (relation_names xs) (relation_names ys) f (subst (λ n. of_first n f ≡ true) (sym (length-map (relations xs) (λ r. r.name))) known)

  facts_named : (ps : List FactPattern) → FactsKnown xs ps → map (written_fact (xs ++ ys)) ps ≡ map (written_fact xs) ps
  facts_named ps known =
      map_where (λ (p : FactPattern). p.rel < length (relations xs)) (written_fact (xs ++ ys)) (written_fact xs)
      (λ p less. ap (λ name. record { name = name; terms = p.terms }) (relation_kept p.rel less)) ps known

  arcs_named : (arcs : List Arc) → All (ArcKnown xs) arcs → map (written_arc (xs ++ ys)) arcs ≡ map (written_arc xs) arcs
  arcs_named arcs known =
      map_where (ArcKnown xs) (written_arc (xs ++ ys)) (written_arc xs)
      (λ a arc. ap (λ name. record { place = name; patterns = map written_pattern a.patterns }) (place_kept a.place arc.place)) arcs known

  reads_named : (reads : List Read) → All (λ r. r.view < length (places xs)) reads → map (written_read (xs ++ ys)) reads ≡ map (written_read xs) reads
  reads_named reads known =
      map_where (λ (r : Read). r.view < length (places xs)) (written_read (xs ++ ys)) (written_read xs)
      (λ r less. ap (λ name. record { name = name; terms = r.terms }) (place_kept r.view less)) reads known

  call_named : (call : Option Call) → CallKnown xs call → option_map (written_call (xs ++ ys)) call ≡ option_map (written_call xs) call
  call_named None known = refl
  call_named (Some c) known = ap (λ name. Some (record { name = name; terms = c.args })) (action_kept c.action known)

  named_more : (d : Decl) → Known xs d → named (xs ++ ys) d ≡ named xs d
  named_more (Relation name fields) known = refl
  named_more (Key rel fields) known = (λ i. written.Key (relation_kept rel known.relation i) (side_named rel fields known i))
  named_more (Foreign rel fields to others) known =
      (λ i. written.Foreign (relation_kept rel known.0.relation i) (side_named rel fields known.0 i) (relation_kept to known.1.relation i) (side_named to others known.1 i))
  named_more (Always name body) known = ap (written.Always name) (formula_named body known)
  named_more (Query name vars body) known = ap (written.Query name vars) (formula_named body known)
  named_more (Act a) known = (λ i. written.Action a.name a.params (facts_named a.deletes known.0 i) (facts_named a.adds known.1 i))
  named_more (Site (place.Control name shape)) known = refl
  named_more (Site (place.View name query)) known = ap (written.View name) (query_kept query known)
  named_more (Trans t) known =
      (λ i. written.Transition (record {
        name = t.name;
        inputs = mixed t.mixture (arcs_named t.ins known.ins i) (reads_named t.reads known.reads i);
        guard = option_map (named_formula []) t.guard;
        asked = t.asked;
        fresh = t.fresh;
        call = call_named t.call known.call i;
        outs = arcs_named t.outs known.outs i;
        backs = arcs_named t.backs known.backs i;
      }))

-- ---- the whole net

pub all_known : (whole before rest : List Decl) → whole ≡ before ++ rest → AllPass before rest → All (Known whole) rest
all_known whole before [] is all = λ k d less. absurd (omega (arith, less))
all_known whole before (d ∷ rest) is all =
    all_cons (Known whole) d rest (subst (λ net. Known net d) (sym is) (known_more before (d ∷ rest) d (passes_known before d all.0)))
    (all_known whole (before ++ d ∷ []) rest (is ∙ sym (append_assoc before (d ∷ []) rest)) all.1)

written_is : (whole before rest : List Decl) → whole ≡ before ++ rest → AllPass before rest → written_from before rest ≡ map (named whole) rest
written_is whole before [] is all = refl
written_is whole before (d ∷ rest) is all =
    let first : named before d ≡ named whole d = sym (named_more before (d ∷ rest) d (passes_known before d all.0)) ∙ ap (λ net. named net d) (sym is) in
    let later = written_is whole (before ++ d ∷ []) rest (is ∙ sym (append_assoc before (d ∷ []) rest)) all.1 in
    (λ i. first i ∷ later i)

-- each declaration is written with the names of the whole net
pub written_whole : (net : List Decl) → WellFormed net → written_from [] net ≡ map (named net) net
written_whole net ok = written_is net [] net refl ok
