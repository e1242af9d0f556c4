-- What a transition that was made from names is made of, and that its numbers are in range.
use Rattle.std.proofs.Common.{◌≡◌, ℕ, ◌<◌, Bool, true, false, ◌&&◌, List, [], ◌∷◌, map, refl, sym, ap, subst, ◌∙◌, Option, Some, None, length}
use Rattle.std.specs.Prelude.{slice_get, nat_lt}
use Rattle.std.specs.List.{list_all, AllByRecursion}
use Rattle.std.specs.Option.{option_map_or}
use Rattle.std.proofs.lemmas.Bool.{and_from, lt-ltb}
use Rattle.std.proofs.lemmas.List.{length-map}
use Rattle.dbn_formula.specs.Typing.{Shapes, arity_fits}
use Rattle.dbn_formula.specs.Written.{of_first}
use Rattle.dbn_formula.specs.declared.formula.Formula.{Formula}
use Rattle.dbn_formula.specs.declared.formula.Formula.TheVariants as formula
use Rattle.dbn_formula.proofs.TypingLaws.{arity_test, arity_and, arity_or, arity_not, arity_implies, arity_exists, arity_forall}
use Rattle.dbn_formula.proofs.WrittenTests.{first_atom, first_test, first_and, first_or, first_not, first_implies, first_exists, first_forall}
use Rattle.dbn_net.specs.declared.written.WrittenFormula.{WrittenFormula}
use Rattle.dbn_net.specs.declared.written.WrittenAtom.{WrittenAtom}
use Rattle.dbn_net.specs.declared.written.WrittenArc.{WrittenArc}
use Rattle.dbn_net.specs.declared.written.WrittenTransition.{WrittenTransition}
use Rattle.dbn_net.specs.declared.rules.Arc.{Arc}
use Rattle.dbn_net.specs.declared.rules.Read.{Read}
use Rattle.dbn_net.specs.declared.rules.Call.{Call}
use Rattle.dbn_net.specs.declared.rules.Transition.{Transition}
use Rattle.dbn_net.specs.declared.decl.Place.{Place}
use Rattle.dbn_net.specs.declared.decl.Decl.{Decl}
use Rattle.dbn_net.specs.Maybe.{◌>>=◌, each, all_known, if_given, only_if}
use Rattle.dbn_net.specs.Forms.{Name}
use Rattle.dbn_net.specs.Tables.{actions, action_names, places, place_names, is_control, is_view, has_place}
use Rattle.dbn_net.specs.Naming.{number_of, site_if, control_number, view_number, resolved_formula, pattern, arc, read, call, is_in_clause, ins_of, reads_of, bound_of, transition}
use Rattle.dbn_net.specs.WellFormed.{transition_known}
use Rattle.dbn_net.proofs.Maybes.{some_is, first_found, if_found, mapped_found}
use Rattle.dbn_net.proofs.WrittenFormulaFolds.{Steps, induction}
use Rattle.dbn_net.proofs.WrittenFormulaLaws.{resolved_atom, resolved_test, resolved_and, resolved_or, resolved_not, resolved_implies, resolved_exists, resolved_forall}
use Rattle.dbn_net.proofs.NamedLaws.{number_within}
use Rattle.dbn_net.proofs.Listed.{each_all, given_all}

-- ---- the parts

pub record Made (net : List Decl) (r : WrittenTransition) (t : Transition) : Type 0 where
  pub ins : each (arc net) (ins_of r.inputs) ≡ Some t.ins
  pub reads : each (read net) (reads_of r.inputs) ≡ Some t.reads
  pub guard : if_given (resolved_formula []) r.guard ≡ Some t.guard
  pub call : if_given (call net) r.call ≡ Some t.call
  pub outs : each (arc net) r.outs ≡ Some t.outs
  pub backs : each (arc net) r.backs ≡ Some t.backs
  pub bound : t.bound ≡ bound_of net r.inputs
  pub asked : t.asked ≡ r.asked
  pub fresh : t.fresh ≡ r.fresh

pub was_made : (net : List Decl) (r : WrittenTransition) (t : Transition) → transition net r ≡ Some t → Made net r t
was_made net r t e =
    let (ins, a, e1) = first_found (each (arc net) (ins_of r.inputs)) _ t e in
    let (reads, b, e2) = first_found (each (read net) (reads_of r.inputs)) _ t e1 in
    let (guard, c, e3) = first_found (if_given (resolved_formula []) r.guard) _ t e2 in
    let (called, d, e4) = first_found (if_given (call net) r.call) _ t e3 in
    let (outs, f, e5) = first_found (each (arc net) r.outs) _ t e4 in
    let (backs, g, e6) = first_found (each (arc net) r.backs) _ t e5 in
    let made : Transition = record { name = r.name; ins = ins; reads = reads; mixture = map is_in_clause r.inputs; guard = guard; asked = r.asked; fresh = r.fresh; call = called; outs = outs; backs = backs; bound = bound_of net r.inputs } in
    let same : made ≡ t = some_is made t e6 in
    subst (Made net r) same (record { ins = a; reads = b; guard = c; call = d; outs = f; backs = g; bound = refl; asked = refl; fresh = refl })

-- ---- numbers

pub site_has : (is : Place → Bool) (sites : List Place) (o : Option ℕ) (m : ℕ) → (o >>= site_if is sites) ≡ Some m → has_place is sites m ≡ true
site_has is sites o m e =
    let (n, at, rest) = first_found o (site_if is sites) m e in
    let (site, here, kept) = first_found (slice_get sites n) (λ s. only_if (is s) n) m rest in
    let both = if_found (is site) (Some n) m kept in
    ap (λ k. has_place is sites k) (sym (some_is n m both.1)) ∙ ap (λ s. option_map_or is s false) here ∙ both.0

arc_known : (net : List Decl) (p : WrittenArc) (a : Arc) → arc net p ≡ Some a → has_place is_control (places net) a.place ≡ true
arc_known net p a e =
    let (n, is, made) = mapped_found (λ k. record { place = k; patterns = map pattern p.patterns }) (control_number net p.place) a e in
    ap (λ (b : Arc). has_place is_control (places net) b.place) (sym made) ∙ site_has is_control (places net) (number_of (place_names net) p.place) n is

read_known : (net : List Decl) (g : WrittenAtom) (r : Read) → read net g ≡ Some r → has_place is_view (places net) r.view ≡ true
read_known net g r e =
    let (n, is, made) = mapped_found (λ k. record { view = k; terms = g.terms }) (view_number net g.name) r e in
    ap (λ (q : Read). has_place is_view (places net) q.view) (sym made) ∙ site_has is_view (places net) (number_of (place_names net) g.name) n is

pub below_mapped : {A B : Type 0} (f : A → B) (xs : List A) (n : ℕ) → n < length (map f xs) → nat_lt n (length xs) ≡ true
below_mapped f xs n less = lt-ltb n (length xs) (subst (λ k. n < k) (length-map xs f) less)

call_known : (net : List Decl) (g : WrittenAtom) (c : Call) → call net g ≡ Some c → nat_lt c.action (length (actions net)) ≡ true
call_known net g c e =
    let (n, is, made) = mapped_found (λ k. record { action = k; args = g.terms }) (number_of (action_names net) g.name) c e in
    ap (λ (d : Call). nat_lt d.action (length (actions net))) (sym made) ∙ below_mapped (λ a. a.name) (actions net) n (number_within (action_names net) g.name n is)

pub numbers_known : (net : List Decl) (r : WrittenTransition) (t : Transition) → Made net r t → transition_known net t ≡ true
numbers_known net r t made =
    and_from _ _ (and_from _ _ (and_from _ _ (and_from _ _
    (each_all (arc net) (λ a. has_place is_control (places net) a.place) (arc_known net) (ins_of r.inputs) t.ins made.ins)
    (each_all (read net) (λ q. has_place is_view (places net) q.view) (read_known net) (reads_of r.inputs) t.reads made.reads))
    (given_all (call net) (λ c. nat_lt c.action (length (actions net))) (call_known net) r.call t.call made.call))
    (each_all (arc net) (λ a. has_place is_control (places net) a.place) (arc_known net) r.outs t.outs made.outs))
    (each_all (arc net) (λ a. has_place is_control (places net) a.place) (arc_known net) r.backs t.backs made.backs)

-- ---- formulas: their relations are among the names; a guard, which may name none, has no atom

module _ (names : List Name) where
  abbrev IsKnown : WrittenFormula → Type 0
  IsKnown p = (f : Formula) → resolved_formula names p ≡ Some f → of_first (length names) f ≡ true

  all_first : (ps : List WrittenFormula) → AllByRecursion IsKnown ps → (fs : List Formula) → all_known (map (resolved_formula names) ps) ≡ Some fs → list_all (of_first (length names)) fs ≡ true
  all_first [] all fs e = ap (list_all (of_first (length names))) (sym (some_is [] fs e))
  all_first (p ∷ ps) all fs e =
      let (f, is, rest) = first_found (resolved_formula names p) (λ y. all_known (map (resolved_formula names) ps) >>= λ ys. Some (y ∷ ys)) fs e in
      let (gs, are, made) = first_found (all_known (map (resolved_formula names) ps)) (λ ys. Some (f ∷ ys)) fs rest in
      ap (list_all (of_first (length names))) (sym (some_is (f ∷ gs) fs made)) ∙ ap (λ b. b && list_all (of_first (length names)) gs) (all.0 f is) ∙ all_first ps all.1 gs are

  known_steps : Steps IsKnown
  known_steps = record {
    atom = λ rel terms f e.
        let (n, is, made) = mapped_found (λ k. formula.Atom k terms) (number_of names rel) f (sym (resolved_atom names rel terms) ∙ e) in
        ap (of_first (length names)) (sym made) ∙ first_atom n terms (length names) ∙ lt-ltb n (length names) (number_within names rel n is);
    test = λ c a b f e. ap (of_first (length names)) (sym (some_is (formula.Test c a b) f (sym (resolved_test names c a b) ∙ e))) ∙ first_test c a b (length names);
    both = λ ps all f e.
        let (fs, are, made) = mapped_found formula.And (all_known (map (resolved_formula names) ps)) f (sym (resolved_and names ps) ∙ e) in
        ap (of_first (length names)) (sym made) ∙ first_and fs (length names) ∙ all_first ps all fs are;
    either = λ ps all f e.
        let (fs, are, made) = mapped_found formula.Or (all_known (map (resolved_formula names) ps)) f (sym (resolved_or names ps) ∙ e) in
        ap (of_first (length names)) (sym made) ∙ first_or fs (length names) ∙ all_first ps all fs are;
    denial = λ p known f e.
        let (g, is, made) = mapped_found formula.Not (resolved_formula names p) f (sym (resolved_not names p) ∙ e) in
        ap (of_first (length names)) (sym made) ∙ first_not g (length names) ∙ known g is;
    implication = λ p q left right f e.
        let (g, is, rest) = first_found (resolved_formula names p) (λ x. resolved_formula names q >>= λ y. Some (formula.Implies x y)) f (sym (resolved_implies names p q) ∙ e) in
        let (h, was, made) = first_found (resolved_formula names q) (λ y. Some (formula.Implies g y)) f rest in
        ap (of_first (length names)) (sym (some_is (formula.Implies g h) f made)) ∙ first_implies g h (length names)
        ∙ ap (λ b. b && of_first (length names) h) (left g is) ∙ right h was;
    some = λ vars p known f e.
        let (g, is, made) = mapped_found (formula.Exists vars) (resolved_formula names p) f (sym (resolved_exists names vars p) ∙ e) in
        ap (of_first (length names)) (sym made) ∙ first_exists vars g (length names) ∙ known g is;
    every = λ vars p known f e.
        let (g, is, made) = mapped_found (formula.Forall vars) (resolved_formula names p) f (sym (resolved_forall names vars p) ∙ e) in
        ap (of_first (length names)) (sym made) ∙ first_forall vars g (length names) ∙ known g is;
  }

  pub written_formula_known : (p : WrittenFormula) (f : Formula) → resolved_formula names p ≡ Some f → of_first (length names) f ≡ true
  written_formula_known p f e = induction IsKnown known_steps p f e

module _ (rels : Shapes) where
  abbrev HasArity : WrittenFormula → Type 0
  HasArity p = (f : Formula) → resolved_formula [] p ≡ Some f → arity_fits rels f ≡ true

  all_arity : (ps : List WrittenFormula) → AllByRecursion HasArity ps → (fs : List Formula) → all_known (map (resolved_formula []) ps) ≡ Some fs → list_all (arity_fits rels) fs ≡ true
  all_arity [] all fs e = ap (list_all (arity_fits rels)) (sym (some_is [] fs e))
  all_arity (p ∷ ps) all fs e =
      let (f, is, rest) = first_found (resolved_formula [] p) (λ y. all_known (map (resolved_formula []) ps) >>= λ ys. Some (y ∷ ys)) fs e in
      let (gs, are, made) = first_found (all_known (map (resolved_formula []) ps)) (λ ys. Some (f ∷ ys)) fs rest in
      ap (list_all (arity_fits rels)) (sym (some_is (f ∷ gs) fs made)) ∙ ap (λ b. b && list_all (arity_fits rels) gs) (all.0 f is) ∙ all_arity ps all.1 gs are

  no_name : (n : ℕ) → None ≡ Some n → ⊥
  no_name n e = cc

  arity_steps : Steps HasArity
  arity_steps = record {
    atom = λ rel terms f e.
        let (n, is, made) = mapped_found (λ k. formula.Atom k terms) (number_of [] rel) f (sym (resolved_atom [] rel terms) ∙ e) in
        absurd (no_name n is);
    test = λ c a b f e. ap (arity_fits rels) (sym (some_is (formula.Test c a b) f (sym (resolved_test [] c a b) ∙ e))) ∙ arity_test rels c a b;
    both = λ ps all f e.
        let (fs, are, made) = mapped_found formula.And (all_known (map (resolved_formula []) ps)) f (sym (resolved_and [] ps) ∙ e) in
        ap (arity_fits rels) (sym made) ∙ arity_and rels fs ∙ all_arity ps all fs are;
    either = λ ps all f e.
        let (fs, are, made) = mapped_found formula.Or (all_known (map (resolved_formula []) ps)) f (sym (resolved_or [] ps) ∙ e) in
        ap (arity_fits rels) (sym made) ∙ arity_or rels fs ∙ all_arity ps all fs are;
    denial = λ p fits f e.
        let (g, is, made) = mapped_found formula.Not (resolved_formula [] p) f (sym (resolved_not [] p) ∙ e) in
        ap (arity_fits rels) (sym made) ∙ arity_not rels g ∙ fits g is;
    implication = λ p q left right f e.
        let (g, is, rest) = first_found (resolved_formula [] p) (λ x. resolved_formula [] q >>= λ y. Some (formula.Implies x y)) f (sym (resolved_implies [] p q) ∙ e) in
        let (h, was, made) = first_found (resolved_formula [] q) (λ y. Some (formula.Implies g y)) f rest in
        ap (arity_fits rels) (sym (some_is (formula.Implies g h) f made)) ∙ arity_implies rels g h ∙ ap (λ b. b && arity_fits rels h) (left g is) ∙ right h was;
    some = λ vars p fits f e.
        let (g, is, made) = mapped_found (formula.Exists vars) (resolved_formula [] p) f (sym (resolved_exists [] vars p) ∙ e) in
        ap (arity_fits rels) (sym made) ∙ arity_exists rels vars g ∙ fits g is;
    every = λ vars p fits f e.
        let (g, is, made) = mapped_found (formula.Forall vars) (resolved_formula [] p) f (sym (resolved_forall [] vars p) ∙ e) in
        ap (arity_fits rels) (sym made) ∙ arity_forall rels vars g ∙ fits g is;
  }

  pub guard_arity : (p : WrittenFormula) (f : Formula) → resolved_formula [] p ≡ Some f → arity_fits rels f ≡ true
  guard_arity p f e = induction HasArity arity_steps p f e
