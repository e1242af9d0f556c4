-- The ids of a declaration as it is written are below where those of its constants are.
use Rattle.std.proofs.Common.{◌≡◌, ℕ, Bool, true, false, List, [], ◌∷◌, ◌++◌, map, refl, sym, ap, ◌∙◌, Option, Some, None, pos, codes}
use Rattle.std.specs.List.{flat_map, AllByRecursion}
use Rattle.std.specs.Option.{option_map, option_map_or}
use Rattle.std.proofs.lemmas.Bool.{and_parts, and_from}
use Rattle.dbn_value.specs.declared.value.Value.{Value}
use Rattle.dbn_value.specs.declared.value.Value.TheVariants as value
use Rattle.dbn_value.specs.declared.value.ColType.{ColType}
use Rattle.dbn_value.specs.declared.term.Var.{Var}
use Rattle.dbn_value.specs.declared.term.Term.{Term}
use Rattle.dbn_value.specs.declared.term.Term.TheVariants as term
use Rattle.dbn_sexp.specs.declared.sexp.Sexp.{Sexp}
use Rattle.dbn_formula.specs.Variables.{TypedVars}
use Rattle.dbn_formula.specs.Answers.{constant_of, constants}
use Rattle.dbn_formula.specs.declared.formula.Formula.{Formula}
use Rattle.dbn_formula.proofs.Induction.{Steps, induction}
use Rattle.dbn_formula.proofs.ConstantsLaws.{constants_atom, constants_test, constants_and, constants_or, constants_not, constants_implies, constants_exists, constants_forall}
use Rattle.dbn_instance.specs.declared.fact.FactPattern.{FactPattern}
use Rattle.dbn_net.specs.declared.written.WrittenAtom.{WrittenAtom}
use Rattle.dbn_net.specs.declared.rules.Pattern.{Pattern}
use Rattle.dbn_net.specs.declared.rules.Arc.{Arc}
use Rattle.dbn_net.specs.declared.rules.Read.{Read}
use Rattle.dbn_net.specs.declared.rules.Call.{Call}
use Rattle.dbn_net.specs.declared.rules.Transition.{Transition}
use Rattle.dbn_net.specs.declared.decl.Place.TheVariants as place
use Rattle.dbn_net.specs.declared.decl.Decl.{Decl}
use Rattle.dbn_net.specs.declared.decl.Decl.TheVariants as decl
use Rattle.dbn_net.specs.Forms.{Name}
use Rattle.dbn_net.specs.Printing.{word, constant, form, term_sexp, typed_sexp, typed_variable_sexp, scope_sexp, variable_sexp, type_sexp, names_sexp, formula_sexp, comparison_word, written_atom_parts, written_atom_sexp, written_pattern_sexp, written_arc_parts, input_sexp, guard_sexps, ask_sexps, fresh_sexps, call_sexps, written_transition_parts, sexp_of}
use Rattle.dbn_net.specs.Tables.{relation_names}
use Rattle.dbn_net.specs.Naming.{name_at, named_formula, written_pattern, written_arc, written_read, written_call, mixed, written_transition, written_fact, named}
use Rattle.dbn_net.specs.Values.{id_below, ids_below, constants_of, arc_constants, fact_constants, transition_constants, decl_constants, rule_values}
use Rattle.dbn_net.specs.WellFormed.{written_from}
use Rattle.dbn_net.proofs.WrittenFormulaLaws.{sexp_atom, sexp_test, sexp_and, sexp_or, sexp_not, sexp_implies, sexp_exists, sexp_forall, named_atom, named_test, named_and, named_or, named_not, named_implies, named_exists, named_forall}
use Rattle.dbn_net.proofs.RoundNext.{item_below, AllBelow, list_below, word_below, constant_below, append_below}

module _ (n : ℕ) where
  -- ---- lists of values

  split : (xs ys : List Value) → ids_below n (xs ++ ys) ≡ true → (ids_below n xs ≡ true) × (ids_below n ys ≡ true)
  split [] ys e = (refl, e)
  split (x ∷ xs) ys e =
      let p = and_parts (id_below n x) (ids_below n (xs ++ ys)) e in
      let rest = split xs ys p.1 in
      (and_from (id_below n x) (ids_below n xs) p.0 rest.0, rest.1)

  -- each part of a mapped list, where each of its parts is below
  mapped : {A : Type 0} (f : A → List Value) (g : A → Sexp) → ((x : A) → ids_below n (f x) ≡ true → item_below n (g x).item ≡ true)
      → (xs : List A) → ids_below n (flat_map f xs) ≡ true → AllBelow n (map g xs)
  mapped f g each [] e = tt
  mapped f g each (x ∷ xs) e = let p = split (f x) (flat_map f xs) e in (each x p.0, mapped f g each xs p.1)

  -- what has no constants at all
  plain : {A : Type 0} (g : A → Sexp) → ((x : A) → item_below n (g x).item ≡ true) → (xs : List A) → AllBelow n (map g xs)
  plain g each [] = tt
  plain g each (x ∷ xs) = (each x, plain g each xs)

  -- ---- parts

  term_below : (t : Term) → ids_below n (constant_of t) ≡ true → item_below n (term_sexp t).item ≡ true
  term_below (term.Var x) e = word_below n x.name
  term_below (term.Const v) e = constant_below n v (and_parts (id_below n v) true e).0

  terms_below : (terms : List Term) → ids_below n (flat_map constant_of terms) ≡ true → AllBelow n (map term_sexp terms)
  terms_below terms e = mapped constant_of term_sexp term_below terms e

  typed_below : (x : Name × ColType) → item_below n (typed_sexp x).item ≡ true
  typed_below x = list_below n (word x.0 ∷ type_sexp x.1 ∷ []) (word_below n x.0, (word_below n _, tt))

  scope_below : (vars : TypedVars) → item_below n (scope_sexp vars).item ≡ true
  scope_below vars = list_below n (map typed_variable_sexp vars) (plain typed_variable_sexp (λ x. typed_below (x.0.name, x.1)) vars)

  form_below : (w : Name) (parts : List Sexp) → AllBelow n parts → item_below n (form w parts).item ≡ true
  form_below w parts all = list_below n (word w ∷ parts) (word_below n w, all)

  -- ---- formulas

  module _ (names : List Name) where
    abbrev IsBelow : Formula → Type 0
    IsBelow f = ids_below n (constants f) ≡ true → item_below n (formula_sexp (named_formula names f)).item ≡ true

    all_formulas : (fs : List Formula) → AllByRecursion IsBelow fs → ids_below n (flat_map constants fs) ≡ true → AllBelow n (map formula_sexp (map (named_formula names) fs))
    all_formulas [] all e = tt
    all_formulas (f ∷ fs) all e = let p = split (constants f) (flat_map constants fs) e in (all.0 p.0, all_formulas fs all.1 p.1)

    below_as : (one other : Sexp) → one ≡ other → item_below n other.item ≡ true → item_below n one.item ≡ true
    below_as one other same e = ap (λ (s : Sexp). item_below n s.item) same ∙ e

    steps : Steps IsBelow
    steps = record {
      atom = λ rel terms e. below_as _ _ (ap formula_sexp (named_atom names rel terms) ∙ sexp_atom (name_at names rel) terms)
          (form_below (name_at names rel) (map term_sexp terms) (terms_below terms (ap (ids_below n) (sym (constants_atom rel terms)) ∙ e)));
      test = λ c left right e.
          let p = split (constant_of left) (constant_of right) (ap (ids_below n) (sym (constants_test c left right)) ∙ e) in
          below_as _ _ (ap formula_sexp (named_test names c left right) ∙ sexp_test c left right)
          (form_below (comparison_word c) (term_sexp left ∷ term_sexp right ∷ []) (term_below left p.0, (term_below right p.1, tt)));
      both = λ fs all e. below_as _ _ (ap formula_sexp (named_and names fs) ∙ sexp_and (map (named_formula names) fs))
          (form_below (codes "and") (map formula_sexp (map (named_formula names) fs)) (all_formulas fs all (ap (ids_below n) (sym (constants_and fs)) ∙ e)));
      either = λ fs all e. below_as _ _ (ap formula_sexp (named_or names fs) ∙ sexp_or (map (named_formula names) fs))
          (form_below (codes "or") (map formula_sexp (map (named_formula names) fs)) (all_formulas fs all (ap (ids_below n) (sym (constants_or fs)) ∙ e)));
      denial = λ f part e. below_as _ _ (ap formula_sexp (named_not names f) ∙ sexp_not (named_formula names f))
          (form_below (codes "not") (formula_sexp (named_formula names f) ∷ []) (part (ap (ids_below n) (sym (constants_not f)) ∙ e), tt));
      implication = λ f g one two e.
          let p = split (constants f) (constants g) (ap (ids_below n) (sym (constants_implies f g)) ∙ e) in
          below_as _ _ (ap formula_sexp (named_implies names f g) ∙ sexp_implies (named_formula names f) (named_formula names g))
          (form_below (codes "implies") (formula_sexp (named_formula names f) ∷ formula_sexp (named_formula names g) ∷ []) (one p.0, (two p.1, tt)));
      some = λ vars f part e. below_as _ _ (ap formula_sexp (named_exists names vars f) ∙ sexp_exists vars (named_formula names f))
          (form_below (codes "exists") (scope_sexp vars ∷ formula_sexp (named_formula names f) ∷ []) (scope_below vars, (part (ap (ids_below n) (sym (constants_exists vars f)) ∙ e), tt)));
      every = λ vars f part e. below_as _ _ (ap formula_sexp (named_forall names vars f) ∙ sexp_forall vars (named_formula names f))
          (form_below (codes "forall") (scope_sexp vars ∷ formula_sexp (named_formula names f) ∷ []) (scope_below vars, (part (ap (ids_below n) (sym (constants_forall vars f)) ∙ e), tt)));
    }

    pub formula_below : (f : Formula) → ids_below n (constants f) ≡ true → item_below n (formula_sexp (named_formula names f)).item ≡ true
    formula_below f e = induction IsBelow steps f e

  -- ---- transitions

  written_atom_below : (g : WrittenAtom) → ids_below n (constants_of g.terms) ≡ true → AllBelow n (written_atom_parts g)
  written_atom_below g e = (word_below n g.name, terms_below g.terms e)

  written_pattern_below : (p : Pattern) → ids_below n (constants_of p.terms) ≡ true → item_below n (written_pattern_sexp (written_pattern p)).item ≡ true
  written_pattern_below p e = list_below n (constant (value.Int (pos p.many)) ∷ map term_sexp p.terms) (constant_below n (value.Int (pos p.many)) refl, terms_below p.terms e)

  written_patterns_below : (ps : List Pattern) → ids_below n (flat_map (λ p. constants_of p.terms) ps) ≡ true → AllBelow n (map written_pattern_sexp (map written_pattern ps))
  written_patterns_below [] e = tt
  written_patterns_below (p ∷ ps) e = let q = split (constants_of p.terms) (flat_map (λ x. constants_of x.terms) ps) e in (written_pattern_below p q.0, written_patterns_below ps q.1)

  module _ (net : List Decl) where
    arc_below : (a : Arc) → ids_below n (flat_map (λ p. constants_of p.terms) a.patterns) ≡ true → AllBelow n (written_arc_parts (written_arc net a))
    arc_below a e = (word_below n _, written_patterns_below a.patterns e)

    arcs_below : (w : Name) (arcs : List Arc) → ids_below n (arc_constants arcs) ≡ true → AllBelow n (map (λ p. form w (written_arc_parts p)) (map (written_arc net) arcs))
    arcs_below w [] e = tt
    arcs_below w (a ∷ arcs) e =
        let p = split (flat_map (λ q. constants_of q.terms) a.patterns) (arc_constants arcs) e in
        (form_below w (written_arc_parts (written_arc net a)) (arc_below a p.0), arcs_below w arcs p.1)

    inputs_below : (flags : List Bool) (arcs : List Arc) (reads : List Read) → ids_below n (arc_constants arcs) ≡ true → ids_below n (flat_map (λ r. constants_of r.terms) reads) ≡ true
        → AllBelow n (map input_sexp (mixed flags (map (written_arc net) arcs) (map (written_read net) reads)))
    inputs_below [] arcs reads a b = tt
    inputs_below (true ∷ flags) [] reads a b = inputs_below flags [] reads a b
    inputs_below (true ∷ flags) (x ∷ arcs) reads a b =
        let p = split (flat_map (λ q. constants_of q.terms) x.patterns) (arc_constants arcs) a in
        (form_below (codes "in") (written_arc_parts (written_arc net x)) (arc_below x p.0), inputs_below flags arcs reads p.1 b)
    inputs_below (false ∷ flags) arcs [] a b = inputs_below flags arcs [] a b
    inputs_below (false ∷ flags) arcs (r ∷ reads) a b =
        let p = split (constants_of r.terms) (flat_map (λ q. constants_of q.terms) reads) b in
        (form_below (codes "read") (written_atom_parts (written_read net r)) (written_atom_below (written_read net r) p.0), inputs_below flags arcs reads a p.1)

    guard_below : (guard : Option Formula) → ids_below n (option_map_or constants guard []) ≡ true → AllBelow n (guard_sexps (option_map (named_formula []) guard))
    guard_below None e = tt
    guard_below (Some g) e = (form_below (codes "guard") (formula_sexp (named_formula [] g) ∷ []) (formula_below [] g e, tt), tt)

    ask_below : (vars : TypedVars) → AllBelow n (ask_sexps vars)
    ask_below [] = tt
    ask_below (x ∷ vars) = (form_below (codes "ask") (map typed_variable_sexp (x ∷ vars)) (plain typed_variable_sexp (λ y. typed_below (y.0.name, y.1)) (x ∷ vars)), tt)

    fresh_below : (vars : List Var) → AllBelow n (fresh_sexps vars)
    fresh_below [] = tt
    fresh_below (x ∷ vars) = (form_below (codes "fresh") (map variable_sexp (x ∷ vars)) (plain variable_sexp (λ y. word_below n y.name) (x ∷ vars)), tt)

    call_below : (call : Option Call) → ids_below n (option_map_or (λ c. constants_of c.args) call []) ≡ true → AllBelow n (call_sexps (option_map (written_call net) call))
    call_below None e = tt
    call_below (Some c) e = (form_below (codes "do") (written_atom_parts (written_call net c)) (written_atom_below (written_call net c) e), tt)

    transition_below : (t : Transition) → ids_below n (transition_constants t) ≡ true → AllBelow n (written_transition_parts (written_transition net t))
    transition_below t e =
        let p5 = split (arc_constants t.ins ++ flat_map (λ r. constants_of r.terms) t.reads ++ option_map_or constants t.guard [] ++ option_map_or (λ c. constants_of c.args) t.call [] ++ arc_constants t.outs) (arc_constants t.backs) e in
        let p4 = split (arc_constants t.ins ++ flat_map (λ r. constants_of r.terms) t.reads ++ option_map_or constants t.guard [] ++ option_map_or (λ c. constants_of c.args) t.call []) (arc_constants t.outs) p5.0 in
        let p3 = split (arc_constants t.ins ++ flat_map (λ r. constants_of r.terms) t.reads ++ option_map_or constants t.guard []) (option_map_or (λ c. constants_of c.args) t.call []) p4.0 in
        let p2 = split (arc_constants t.ins ++ flat_map (λ r. constants_of r.terms) t.reads) (option_map_or constants t.guard []) p3.0 in
        let p1 = split (arc_constants t.ins) (flat_map (λ r. constants_of r.terms) t.reads) p2.0 in (
          word_below n t.name,
          append_below n _ _ (append_below n _ _ (append_below n _ _ (append_below n _ _ (append_below n _ _ (append_below n _ _
              (inputs_below t.mixture t.ins t.reads p1.0 p1.1) (guard_below t.guard p2.1)) (ask_below t.asked)) (fresh_below t.fresh)) (call_below t.call p3.1)) (arcs_below (codes "out") t.outs p4.1)) (arcs_below (codes "back") t.backs p5.1),
        )

    facts_below : (ps : List FactPattern) → ids_below n (fact_constants ps) ≡ true → AllBelow n (map written_atom_sexp (map (written_fact net) ps))
    facts_below [] e = tt
    facts_below (p ∷ ps) e =
        let q = split (constants_of p.terms) (fact_constants ps) e in
        (list_below n (written_atom_parts (written_fact net p)) (written_atom_below (written_fact net p) q.0), facts_below ps q.1)

    names_below : (names : List Name) → item_below n (names_sexp names).item ≡ true
    names_below names = list_below n (map word names) (plain word (word_below n) names)

    pub decl_below : (d : Decl) → ids_below n (decl_constants d) ≡ true → item_below n (sexp_of (named net d)).item ≡ true
    decl_below (decl.Relation name fields) e = form_below (codes "relation") (word name ∷ map typed_sexp fields) (word_below n name, plain typed_sexp typed_below fields)
    decl_below (decl.Key rel fields) e = form_below (codes "key") (word _ ∷ map word _) (word_below n _, plain word (word_below n) _)
    decl_below (decl.Foreign rel fields to to_fields) e =
        form_below (codes "foreign") (word _ ∷ names_sexp _ ∷ word _ ∷ names_sexp _ ∷ []) (word_below n _, (names_below _, (word_below n _, (names_below _, tt))))
    decl_below (decl.Always name body) e = form_below (codes "always") (word name ∷ formula_sexp _ ∷ []) (word_below n name, (formula_below (relation_names net) body e, tt))
    decl_below (decl.Query name vars body) e =
        form_below (codes "query") (word name ∷ scope_sexp vars ∷ formula_sexp _ ∷ []) (word_below n name, (scope_below vars, (formula_below (relation_names net) body e, tt)))
    decl_below (decl.Act a) e =
        let p = split (fact_constants a.deletes) (fact_constants a.adds) e in
        form_below (codes "action") (word a.name ∷ scope_sexp a.params ∷ form (codes "delete") (map written_atom_sexp (map (written_fact net) a.deletes)) ∷ form (codes "add") (map written_atom_sexp (map (written_fact net) a.adds)) ∷ []) (
          word_below n a.name,
          (
            scope_below a.params,
            (
              form_below (codes "delete") (map written_atom_sexp (map (written_fact net) a.deletes)) (facts_below a.deletes p.0),
              (form_below (codes "add") (map written_atom_sexp (map (written_fact net) a.adds)) (facts_below a.adds p.1), tt),
            ),
          ),
        )
    decl_below (decl.Site (place.Control name shape)) e = form_below (codes "place") (word name ∷ map type_sexp shape) (word_below n name, plain type_sexp (λ t. word_below n _) shape)
    decl_below (decl.Site (place.View name query)) e = form_below (codes "view") (word name ∷ word _ ∷ []) (word_below n name, (word_below n _, tt))
    decl_below (decl.Trans t) e = form_below (codes "transition") (written_transition_parts (written_transition net t)) (transition_below t e)

  -- the declarations of a net, each as it is written behind those before it
  pub rules_below : (before net : List Decl) → ids_below n (rule_values net) ≡ true → AllBelow n (map sexp_of (written_from before net))
  rules_below before [] e = tt
  rules_below before (d ∷ net) e =
      let p = split (decl_constants d) (rule_values net) e in
      (decl_below before d p.0, rules_below (before ++ d ∷ []) net p.1)
