-- A transition, an action and a view with numbers are written with their names again.
use Rattle.std.proofs.Common.{◌≡◌, ℕ, ℤ, pos, negsuc, Bool, true, List, [], ◌∷◌, map, refl, sym, ap, ◌∙◌, Some}
use Rattle.std.specs.Prelude.{slice_get}
use Rattle.std.specs.List.{list_all}
use Rattle.std.proofs.lemmas.Bool.{and_parts}
use Rattle.dbn_value.specs.declared.value.ColType.{ColType}
use Rattle.dbn_value.specs.declared.term.Var.{Var}
use Rattle.dbn_instance.specs.declared.fact.FactPattern.{FactPattern}
use Rattle.dbn_net.specs.declared.written.WrittenAtom.{WrittenAtom}
use Rattle.dbn_net.specs.declared.written.WrittenPattern.{WrittenPattern}
use Rattle.dbn_net.specs.declared.written.WrittenArc.{WrittenArc}
use Rattle.dbn_net.specs.declared.written.WrittenInput.{WrittenInput}
use Rattle.dbn_net.specs.declared.written.WrittenInput.TheVariants as input
use Rattle.dbn_net.specs.declared.written.WrittenTransition.{WrittenTransition}
use Rattle.dbn_net.specs.declared.written.Written.TheVariants as written
use Rattle.dbn_net.specs.declared.rules.Arc.{Arc}
use Rattle.dbn_net.specs.declared.rules.Read.{Read}
use Rattle.dbn_net.specs.declared.rules.Call.{Call}
use Rattle.dbn_net.specs.declared.rules.Transition.{Transition}
use Rattle.dbn_net.specs.declared.decl.Place.{Place}
use Rattle.dbn_net.specs.declared.decl.Decl.{Decl}
use Rattle.dbn_net.specs.declared.decl.Decl.TheVariants as decl
use Rattle.dbn_net.specs.Maybe.{◌>>=◌, each, if_given, only_if}
use Rattle.dbn_net.specs.Forms.{Name}
use Rattle.dbn_net.specs.Tables.{relation_names, action_names, place_names, places, is_control, is_view}
use Rattle.dbn_net.specs.Naming.{number_of, name_at, site_if, control_number, view_number, resolved_formula, named_formula, count, pattern, written_pattern, arc, written_arc, read, written_read, call, written_call, is_in_clause, ins_of, reads_of, mixed, bound_of, transition, written_transition, fact_pattern, written_fact, resolved_action, named}
use Rattle.dbn_net.specs.Judging.{is_count, arcs_counted}
use Rattle.dbn_net.proofs.Maybes.{some_is, first_found, if_found, mapped_found, each_again, always_true, given_again}
use Rattle.dbn_net.proofs.NamedLaws.{name_again}
use Rattle.dbn_net.proofs.NamedFormulas.{formula_again}

site_same : (is : Place → Bool) (sites : List Place) (n m : ℕ) → site_if is sites n ≡ Some m → n ≡ m
site_same is sites n m e =
    let (site, at, rest) = first_found (slice_get sites n) (λ s. only_if (is s) n) m e in
    some_is n m (if_found (is site) (Some n) m rest).1

site_again : (is : Place → Bool) (net : List Decl) (name : Name) (m : ℕ) → (number_of (place_names net) name >>= site_if is (places net)) ≡ Some m → name_at (place_names net) m ≡ name
site_again is net name m e =
    let (n, at, rest) = first_found (number_of (place_names net) name) (site_if is (places net)) m e in
    ap (name_at (place_names net)) (sym (site_same is (places net) n m rest)) ∙ name_again (place_names net) name n at

-- ---- patterns and arcs

many_again : (z : ℤ) → is_count (count z) ≡ true → pos (count z) ≡ z
many_again (pos n) e = refl
many_again (negsuc n) e = absurd cc

written_patterns_again : (hs : List WrittenPattern) → list_all (λ p. is_count p.many) (map pattern hs) ≡ true → map written_pattern (map pattern hs) ≡ hs
written_patterns_again [] e = refl
written_patterns_again (h ∷ hs) e =
    let both = and_parts (is_count (count h.many)) (list_all (λ p. is_count p.many) (map pattern hs)) e in
    ap (λ z. record { many = z; terms = h.terms } ∷ map written_pattern (map pattern hs)) (many_again h.many both.0) ∙ ap (λ l. h ∷ l) (written_patterns_again hs both.1)

abbrev counted : Arc → Bool
counted a = list_all (λ p. is_count p.many) a.patterns

arc_again : (net : List Decl) (p : WrittenArc) (a : Arc) → arc net p ≡ Some a → counted a ≡ true → written_arc net a ≡ p
arc_again net p a e all =
    let (n, is, made) = mapped_found (λ k. record { place = k; patterns = map pattern p.patterns }) (control_number net p.place) a e in
    let fits : list_all (λ q. is_count q.many) (map pattern p.patterns) ≡ true = ap counted made ∙ all in
    ap (written_arc net) (sym made) ∙ (λ i. record { place = site_again is_control net p.place n is i; patterns = written_patterns_again p.patterns fits i })

read_again : (net : List Decl) (g : WrittenAtom) (r : Read) → read net g ≡ Some r → true ≡ true → written_read net r ≡ g
read_again net g r e t =
    let (n, is, made) = mapped_found (λ k. record { view = k; terms = g.terms }) (view_number net g.name) r e in
    ap (written_read net) (sym made) ∙ ap (λ x. record { name = x; terms = g.terms }) (site_again is_view net g.name n is)

call_again : (net : List Decl) (g : WrittenAtom) (c : Call) → call net g ≡ Some c → written_call net c ≡ g
call_again net g c e =
    let (n, is, made) = mapped_found (λ k. record { action = k; args = g.terms }) (number_of (action_names net) g.name) c e in
    ap (written_call net) (sym made) ∙ ap (λ x. record { name = x; terms = g.terms }) (name_again (action_names net) g.name n is)

mixed_again : (inputs : List WrittenInput) → mixed (map is_in_clause inputs) (ins_of inputs) (reads_of inputs) ≡ inputs
mixed_again [] = refl
mixed_again (input.In p ∷ inputs) = ap (λ l. input.In p ∷ l) (mixed_again inputs)
mixed_again (input.Read g ∷ inputs) = ap (λ l. input.Read g ∷ l) (mixed_again inputs)

-- ---- whole

pub transition_again : (net : List Decl) (r : WrittenTransition) (t : Transition) → transition net r ≡ Some t
    → arcs_counted t.ins ≡ true → arcs_counted t.outs ≡ true → arcs_counted t.backs ≡ true → written_transition net t ≡ r
transition_again net r t e c_in c_out c_back =
    let (ins, a, e1) = first_found (each (arc net) (ins_of r.inputs)) _ t e in
    let (reads, b, e2) = first_found (each (read net) (reads_of r.inputs)) _ t e1 in
    let (guard, c, e3) = first_found (if_given (resolved_formula []) r.guard) _ t e2 in
    let (called, d, e4) = first_found (if_given (call net) r.call) _ t e3 in
    let (outs, f, e5) = first_found (each (arc net) r.outs) _ t e4 in
    let (backs, g, e6) = first_found (each (arc net) r.backs) _ t e5 in
    let made : Transition = record { name = r.name; ins = ins; reads = reads; mixture = map is_in_clause r.inputs; guard = guard; asked = r.asked; fresh = r.fresh; call = called; outs = outs; backs = backs; bound = bound_of net r.inputs } in
    let same : made ≡ t = some_is made t e6 in
    let inputs : mixed (map is_in_clause r.inputs) (map (written_arc net) ins) (map (written_read net) reads) ≡ r.inputs =
    ap (λ l. mixed (map is_in_clause r.inputs) l (map (written_read net) reads)) (each_again (arc net) (written_arc net) counted (arc_again net) (ins_of r.inputs) ins a (ap (λ u. arcs_counted u.ins) same ∙ c_in))
    ∙ ap (mixed (map is_in_clause r.inputs) (ins_of r.inputs)) (each_again (read net) (written_read net) (λ x. true) (read_again net) (reads_of r.inputs) reads b (always_true reads))
    ∙ mixed_again r.inputs in
    ap (written_transition net) (sym same)
    ∙ (λ i. record {
      name = r.name;
      inputs = inputs i;
      guard = given_again (resolved_formula []) (named_formula []) (formula_again []) r.guard guard c i;
      asked = r.asked;
      fresh = r.fresh;
      call = given_again (call net) (written_call net) (call_again net) r.call called d i;
      outs = each_again (arc net) (written_arc net) counted (arc_again net) r.outs outs f (ap (λ u. arcs_counted u.outs) same ∙ c_out) i;
      backs = each_again (arc net) (written_arc net) counted (arc_again net) r.backs backs g (ap (λ u. arcs_counted u.backs) same ∙ c_back) i;
    })

written_atom_again : (names : List Name) (g : WrittenAtom) (p : FactPattern) → fact_pattern names g ≡ Some p → true ≡ true → record { name = name_at names p.rel; terms = p.terms } ≡ g
written_atom_again names g p e t =
    let (n, is, made) = mapped_found (λ k. record { rel = k; terms = g.terms }) (number_of names g.name) p e in
    ap (λ q. record { name = name_at names q.rel; terms = q.terms }) (sym made) ∙ ap (λ x. record { name = x; terms = g.terms }) (name_again names g.name n is)

pub action_again : (net : List Decl) (name : Name) (params : List (Var × ColType)) (deletes adds : List WrittenAtom) (d : Decl) → resolved_action net name params deletes adds ≡ Some d
    → named net d ≡ written.Action name params deletes adds
action_again net name params deletes adds d e =
    let (ds, a, rest) = first_found (each (fact_pattern (relation_names net)) deletes) _ d e in
    let (es, b, made) = first_found (each (fact_pattern (relation_names net)) adds) _ d rest in
    ap (named net) (sym (some_is (decl.Act (record { name = name; params = params; deletes = ds; adds = es })) d made))
    ∙ (λ i. written.Action name params
    (each_again (fact_pattern (relation_names net)) (written_fact net) (λ x. true) (written_atom_again (relation_names net)) deletes ds a (always_true ds) i)
    (each_again (fact_pattern (relation_names net)) (written_fact net) (λ x. true) (written_atom_again (relation_names net)) adds es b (always_true es) i))
