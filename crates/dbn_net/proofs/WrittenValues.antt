-- The constants of a declaration are words of its text, and its first free id is that of its text.
use Rattle.std.proofs.Common.{◌≡◌, ℕ, ◌≤◌, List, [], ◌∷◌, ◌++◌, map, refl, sym, ap, ◌∙◌, subst, ⊎_elim, Option, Some, None, ℤ, codes, arith}
use Rattle.std.specs.List.{flat_map, AllByRecursion}
use Rattle.std.specs.Option.{option_map, option_map_or}
use Rattle.std.proofs.lemmas.Grind.{flat_map-append}
use Rattle.dbn_value.specs.Members.{In}
use Rattle.dbn_value.specs.declared.value.Value.{Value}
use Rattle.dbn_value.specs.declared.value.Value.TheVariants as value
use Rattle.dbn_value.specs.declared.term.Term.{Term}
use Rattle.dbn_value.specs.declared.term.Term.TheVariants as term
use Rattle.dbn_value.proofs.MemberLaws.{all_at, all_from, in_append, append_left, append_right}
use Rattle.dbn_sexp.specs.declared.sexp.Sexp.{Sexp}
use Rattle.dbn_sexp.specs.declared.sexp.Item.{Item}
use Rattle.dbn_sexp.specs.declared.sexp.Item.TheVariants as item
use Rattle.dbn_sexp.specs.Printing.{atoms}
use Rattle.dbn_sexp.proofs.TreeLaws.{atoms_name, atoms_const, atoms_list}
use Rattle.dbn_formula.specs.Answers.{constant_of, constants}
use Rattle.dbn_formula.specs.declared.formula.Formula.{Formula}
use Rattle.dbn_formula.proofs.Induction.{Steps, induction}
use Rattle.dbn_formula.proofs.ConstantsLaws.{constants_atom, constants_test, constants_and, constants_or, constants_not, constants_implies, constants_exists, constants_forall}
use Rattle.dbn_instance.specs.declared.fact.FactPattern.{FactPattern}
use Rattle.dbn_net.specs.declared.written.WrittenAtom.{WrittenAtom}
use Rattle.dbn_net.specs.declared.written.WrittenArc.{WrittenArc}
use Rattle.dbn_net.specs.declared.written.WrittenPattern.{WrittenPattern}
use Rattle.dbn_net.specs.declared.written.WrittenInput.{WrittenInput}
use Rattle.dbn_net.specs.declared.written.WrittenInput.TheVariants as input
use Rattle.dbn_net.specs.declared.written.WrittenTransition.{WrittenTransition}
use Rattle.dbn_net.specs.declared.written.Written.TheVariants as written
use Rattle.dbn_net.specs.declared.rules.Pattern.{Pattern}
use Rattle.dbn_net.specs.declared.rules.Arc.{Arc}
use Rattle.dbn_net.specs.declared.rules.Read.{Read}
use Rattle.dbn_net.specs.declared.rules.Call.{Call}
use Rattle.dbn_net.specs.declared.rules.Transition.{Transition}
use Rattle.dbn_net.specs.declared.decl.Decl.{Decl}
use Rattle.dbn_net.specs.declared.decl.Decl.TheVariants as decl
use Rattle.dbn_net.specs.Forms.{Name}
use Rattle.dbn_net.specs.Printing.{word, constant, list, form, term_sexp, scope_sexp, formula_sexp, comparison_word, written_atom_parts, written_atom_sexp, written_pattern_sexp, written_arc_parts, input_sexp, guard_sexps, ask_sexps, fresh_sexps, call_sexps, written_transition_parts, sexp_of}
use Rattle.dbn_net.specs.Tables.{relation_names}
use Rattle.dbn_net.specs.Naming.{control_number, view_number, name_at, named_formula, pattern, arc, read, ins_of, reads_of, written_pattern, written_arc, written_call, written_transition, written_fact, named}
use Rattle.dbn_net.specs.Values.{id_below, constants_of, arc_constants, fact_constants, transition_constants, decl_constants, past_ids}
use Rattle.dbn_net.specs.WellFormed.{Passes}
use Rattle.dbn_net.specs.Texts.{value_in, values_of}
use Rattle.dbn_net.proofs.AtomLaws.{value_name, value_const}
use Rattle.dbn_net.proofs.Maybes.{mapped_found}
use Rattle.dbn_net.proofs.Listed.{each_flat}
use Rattle.dbn_net.proofs.MadeLaws.{Made}
use Rattle.dbn_net.proofs.LiftLaws.{made_there}
use Rattle.dbn_net.proofs.NextLaws.{past_all}
use Rattle.dbn_net.proofs.RoundNext.{past_within}
use Rattle.dbn_net.proofs.RoundTransitions.{decl_below}
use Rattle.dbn_net.proofs.WrittenFormulaLaws.{sexp_atom, sexp_test, sexp_and, sexp_or, sexp_not, sexp_implies, sexp_exists, sexp_forall, named_atom, named_test, named_and, named_or, named_not, named_implies, named_exists, named_forall}

-- ---- the constants that are words of items

abbrev pub item_values : Item → List Value
item_values i = flat_map value_in (atoms i)

abbrev pub list_values : List Sexp → List Value
list_values parts = flat_map (λ one. item_values one.item) parts

flat_flat : {A B C : Type 0} (f : B → List C) (g : A → List B) (xs : List A) → flat_map f (flat_map g xs) ≡ flat_map (λ x. flat_map f (g x)) xs
flat_flat f g [] = refl
flat_flat f g (x ∷ xs) = flat_map-append f (g x) (flat_map g xs) ∙ ap (λ l. flat_map f (g x) ++ l) (flat_flat f g xs)

pub values_listed : (parts : List Sexp) → values_of parts ≡ list_values parts
values_listed parts = flat_flat value_in (λ (one : Sexp). atoms one.item) parts

pub word_values : (name : Name) → item_values (word name).item ≡ []
word_values name = ap (flat_map value_in) (atoms_name name) ∙ ap (λ l. l ++ []) (value_name name)

pub constant_values : (v : Value) → item_values (constant v).item ≡ v ∷ []
constant_values v = ap (flat_map value_in) (atoms_const v) ∙ ap (λ l. l ++ []) (value_const v)

pub parts_values : (parts : List Sexp) → item_values (item.List parts) ≡ list_values parts
parts_values parts = ap (flat_map value_in) (atoms_list parts) ∙ values_listed parts

row_values : (row : List Value) → list_values (map constant row) ≡ row
row_values [] = refl
row_values (v ∷ row) = ap (λ l. l ++ list_values (map constant row)) (constant_values v) ∙ ap (λ l. v ∷ l) (row_values row)

form_values : (w : Name) (parts : List Sexp) → item_values (form w parts).item ≡ list_values parts
form_values w parts = parts_values (word w ∷ parts) ∙ ap (λ l. l ++ list_values parts) (word_values w)

pub fact_values : (name : Name) (row : List Value) → item_values (sexp_of (written.Fact name row)).item ≡ row
fact_values name row =
    form_values (codes "fact") (word name ∷ map constant row) ∙ ap (λ l. l ++ list_values (map constant row)) (word_values name) ∙ row_values row

pub token_values_are : (name : Name) (many : ℤ) (row : List Value) → item_values (sexp_of (written.Token name many row)).item ≡ value.Int many ∷ row
token_values_are name many row =
    form_values (codes "token") (word name ∷ constant (value.Int many) ∷ map constant row)
    ∙ ap (λ l. l ++ list_values (constant (value.Int many) ∷ map constant row)) (word_values name)
    ∙ ap (λ l. l ++ list_values (map constant row)) (constant_values (value.Int many))
    ∙ ap (λ l. value.Int many ∷ l) (row_values row)

-- ---- each constant of a declaration is one of them

module _ (v : Value) where
  abbrev Has : Sexp → Type 0
  Has one = In v (item_values one.item)

  abbrev HaveOne : List Sexp → Type 0
  HaveOne parts = In v (list_values parts)

  in_list : (parts : List Sexp) → HaveOne parts → Has (list parts)
  in_list parts at = subst (λ l. In v l) (sym (parts_values parts)) at

  in_first : (one : Sexp) (parts : List Sexp) → Has one → HaveOne (one ∷ parts)
  in_first one parts at = append_left v (item_values one.item) (list_values parts) at

  in_rest : (one : Sexp) (parts : List Sexp) → HaveOne parts → HaveOne (one ∷ parts)
  in_rest one parts at = append_right v (item_values one.item) (list_values parts) at

  in_form : (w : Name) (parts : List Sexp) → HaveOne parts → Has (form w parts)
  in_form w parts at = in_list (word w ∷ parts) (in_rest (word w) parts at)

  in_left : (xs ys : List Sexp) → HaveOne xs → HaveOne (xs ++ ys)
  in_left xs ys at = subst (λ l. In v l) (sym (flat_map-append (λ (one : Sexp). item_values one.item) xs ys)) (append_left v (list_values xs) (list_values ys) at)

  in_right : (xs ys : List Sexp) → HaveOne ys → HaveOne (xs ++ ys)
  in_right xs ys at = subst (λ l. In v l) (sym (flat_map-append (λ (one : Sexp). item_values one.item) xs ys)) (append_right v (list_values xs) (list_values ys) at)

  in_mapped : {A : Type 0} (f : A → List Value) (g : A → Sexp) → ((x : A) → In v (f x) → Has (g x)) → (xs : List A) → In v (flat_map f xs) → HaveOne (map g xs)
  in_mapped f g each [] at = absurd at
  in_mapped f g each (x ∷ xs) at =
      ⊎_elim (λ here. in_first (g x) (map g xs) (each x here)) (λ later. in_rest (g x) (map g xs) (in_mapped f g each xs later)) (in_append v (f x) (flat_map f xs) at)

  in_term : (t : Term) → In v (constant_of t) → Has (term_sexp t)
  in_term (term.Var x) at = absurd at
  in_term (term.Const w) at = subst (λ l. In v l) (sym (constant_values w)) at

  in_terms : (terms : List Term) → In v (flat_map constant_of terms) → HaveOne (map term_sexp terms)
  in_terms terms at = in_mapped constant_of term_sexp in_term terms at

  -- ---- formulas

  module _ (names : List Name) where
    abbrev IsWritten : Formula → Type 0
    IsWritten f = In v (constants f) → Has (formula_sexp (named_formula names f))

    all_written : (fs : List Formula) → AllByRecursion IsWritten fs → In v (flat_map constants fs) → HaveOne (map formula_sexp (map (named_formula names) fs))
    all_written [] all at = absurd at
    all_written (f ∷ fs) all at =
        ⊎_elim (λ here. in_first (formula_sexp (named_formula names f)) (map formula_sexp (map (named_formula names) fs)) (all.0 here))
        (λ later. in_rest (formula_sexp (named_formula names f)) (map formula_sexp (map (named_formula names) fs)) (all_written fs all.1 later))
        (in_append v (constants f) (flat_map constants fs) at)

    written_as : (one other : Sexp) → one ≡ other → Has other → Has one
    written_as one other same at = subst Has (sym same) at

    written_steps : Steps IsWritten
    written_steps = record {
      atom = λ rel terms at. written_as _ _ (ap formula_sexp (named_atom names rel terms) ∙ sexp_atom (name_at names rel) terms)
          (in_form (name_at names rel) (map term_sexp terms) (in_terms terms (subst (λ l. In v l) (constants_atom rel terms) at)));
      test = λ c left right at. written_as _ _ (ap formula_sexp (named_test names c left right) ∙ sexp_test c left right)
          (in_form (comparison_word c) (term_sexp left ∷ term_sexp right ∷ [])
          (⊎_elim (λ l. in_first (term_sexp left) (term_sexp right ∷ []) (in_term left l)) (λ r. in_rest (term_sexp left) (term_sexp right ∷ []) (in_first (term_sexp right) [] (in_term right r)))
          (in_append v (constant_of left) (constant_of right) (subst (λ l. In v l) (constants_test c left right) at))));
      both = λ fs all at. written_as _ _ (ap formula_sexp (named_and names fs) ∙ sexp_and (map (named_formula names) fs))
          (in_form (codes "and") (map formula_sexp (map (named_formula names) fs)) (all_written fs all (subst (λ l. In v l) (constants_and fs) at)));
      either = λ fs all at. written_as _ _ (ap formula_sexp (named_or names fs) ∙ sexp_or (map (named_formula names) fs))
          (in_form (codes "or") (map formula_sexp (map (named_formula names) fs)) (all_written fs all (subst (λ l. In v l) (constants_or fs) at)));
      denial = λ f part at. written_as _ _ (ap formula_sexp (named_not names f) ∙ sexp_not (named_formula names f))
          (in_form (codes "not") (formula_sexp (named_formula names f) ∷ []) (in_first (formula_sexp (named_formula names f)) [] (part (subst (λ l. In v l) (constants_not f) at))));
      implication = λ f g one two at. written_as _ _ (ap formula_sexp (named_implies names f g) ∙ sexp_implies (named_formula names f) (named_formula names g))
          (in_form (codes "implies") (formula_sexp (named_formula names f) ∷ formula_sexp (named_formula names g) ∷ [])
          (⊎_elim (λ l. in_first (formula_sexp (named_formula names f)) (formula_sexp (named_formula names g) ∷ []) (one l))
          (λ r. in_rest (formula_sexp (named_formula names f)) (formula_sexp (named_formula names g) ∷ []) (in_first (formula_sexp (named_formula names g)) [] (two r)))
          (in_append v (constants f) (constants g) (subst (λ l. In v l) (constants_implies f g) at))));
      some = λ vars f part at. written_as _ _ (ap formula_sexp (named_exists names vars f) ∙ sexp_exists vars (named_formula names f))
          (in_form (codes "exists") (scope_sexp vars ∷ formula_sexp (named_formula names f) ∷ [])
          (in_rest (scope_sexp vars) (formula_sexp (named_formula names f) ∷ []) (in_first (formula_sexp (named_formula names f)) [] (part (subst (λ l. In v l) (constants_exists vars f) at)))));
      every = λ vars f part at. written_as _ _ (ap formula_sexp (named_forall names vars f) ∙ sexp_forall vars (named_formula names f))
          (in_form (codes "forall") (scope_sexp vars ∷ formula_sexp (named_formula names f) ∷ [])
          (in_rest (scope_sexp vars) (formula_sexp (named_formula names f) ∷ []) (in_first (formula_sexp (named_formula names f)) [] (part (subst (λ l. In v l) (constants_forall vars f) at)))));
    }

    in_formula : (f : Formula) → In v (constants f) → Has (formula_sexp (named_formula names f))
    in_formula f at = induction IsWritten written_steps f at

  -- ---- transitions

  abbrev pattern_values : WrittenPattern → List Value
  pattern_values h = constants_of h.terms

  in_pattern : (h : WrittenPattern) → In v (pattern_values h) → Has (written_pattern_sexp h)
  in_pattern h at = in_list (constant (value.Int h.many) ∷ map term_sexp h.terms) (in_rest (constant (value.Int h.many)) (map term_sexp h.terms) (in_terms h.terms at))

  abbrev part_values : WrittenArc → List Value
  part_values p = flat_map pattern_values p.patterns

  in_arc : (w : Name) (p : WrittenArc) → In v (part_values p) → Has (form w (written_arc_parts p))
  in_arc w p at =
      in_form w (written_arc_parts p) (in_rest (word p.place) (map written_pattern_sexp p.patterns) (in_mapped pattern_values written_pattern_sexp in_pattern p.patterns at))

  abbrev atom_values : WrittenAtom → List Value
  atom_values g = constants_of g.terms

  in_atom_parts : (g : WrittenAtom) → In v (atom_values g) → HaveOne (written_atom_parts g)
  in_atom_parts g at = in_rest (word g.name) (map term_sexp g.terms) (in_terms g.terms at)

  ins_in : (inputs : List WrittenInput) → In v (flat_map part_values (ins_of inputs)) → HaveOne (map input_sexp inputs)
  ins_in [] at = absurd at
  ins_in (input.In p ∷ inputs) at =
      ⊎_elim (λ here. in_first (input_sexp (input.In p)) (map input_sexp inputs) (in_arc (codes "in") p here))
      (λ later. in_rest (input_sexp (input.In p)) (map input_sexp inputs) (ins_in inputs later))
      (in_append v (part_values p) (flat_map part_values (ins_of inputs)) at)
  ins_in (input.Read g ∷ inputs) at = in_rest (input_sexp (input.Read g)) (map input_sexp inputs) (ins_in inputs at)

  reads_in : (inputs : List WrittenInput) → In v (flat_map atom_values (reads_of inputs)) → HaveOne (map input_sexp inputs)
  reads_in [] at = absurd at
  reads_in (input.Read g ∷ inputs) at =
      ⊎_elim (λ here. in_first (input_sexp (input.Read g)) (map input_sexp inputs) (in_form (codes "read") (written_atom_parts g) (in_atom_parts g here)))
      (λ later. in_rest (input_sexp (input.Read g)) (map input_sexp inputs) (reads_in inputs later))
      (in_append v (atom_values g) (flat_map atom_values (reads_of inputs)) at)
  reads_in (input.In p ∷ inputs) at = in_rest (input_sexp (input.In p)) (map input_sexp inputs) (reads_in inputs at)

  module _ (net : List Decl) where
    given_patterns : (ps : List Pattern) → In v (flat_map (λ p. constants_of p.terms) ps) → HaveOne (map written_pattern_sexp (map written_pattern ps))
    given_patterns [] at = absurd at
    given_patterns (p ∷ ps) at =
        ⊎_elim (λ here. in_first (written_pattern_sexp (written_pattern p)) (map written_pattern_sexp (map written_pattern ps)) (in_pattern (written_pattern p) here))
        (λ later. in_rest (written_pattern_sexp (written_pattern p)) (map written_pattern_sexp (map written_pattern ps)) (given_patterns ps later))
        (in_append v (constants_of p.terms) (flat_map (λ q. constants_of q.terms) ps) at)

    given_arc : (w : Name) (a : Arc) → In v (flat_map (λ p. constants_of p.terms) a.patterns) → Has (form w (written_arc_parts (written_arc net a)))
    given_arc w a at =
        in_form w (written_arc_parts (written_arc net a))
        (in_rest (word (written_arc net a).place) (map written_pattern_sexp (map written_pattern a.patterns)) (given_patterns a.patterns at))

    given_arcs : (w : Name) (arcs : List Arc) → In v (arc_constants arcs) → HaveOne (map (λ p. form w (written_arc_parts p)) (map (written_arc net) arcs))
    given_arcs w [] at = absurd at
    given_arcs w (a ∷ arcs) at =
        ⊎_elim (λ here. in_first (form w (written_arc_parts (written_arc net a))) (map (λ p. form w (written_arc_parts p)) (map (written_arc net) arcs)) (given_arc w a here))
        (λ later. in_rest (form w (written_arc_parts (written_arc net a))) (map (λ p. form w (written_arc_parts p)) (map (written_arc net) arcs)) (given_arcs w arcs later))
        (in_append v (flat_map (λ p. constants_of p.terms) a.patterns) (arc_constants arcs) at)

    in_guard : (guard : Option Formula) → In v (option_map_or constants guard []) → HaveOne (guard_sexps (option_map (named_formula []) guard))
    in_guard None at = absurd at
    in_guard (Some g) at =
        in_first (form (codes "guard") (formula_sexp (named_formula [] g) ∷ [])) []
        (in_form (codes "guard") (formula_sexp (named_formula [] g) ∷ []) (in_first (formula_sexp (named_formula [] g)) [] (in_formula [] g at)))

    in_call : (call : Option Call) → In v (option_map_or (λ c. constants_of c.args) call []) → HaveOne (call_sexps (option_map (written_call net) call))
    in_call None at = absurd at
    in_call (Some c) at =
        in_first (form (codes "do") (written_atom_parts (written_call net c))) []
        (in_form (codes "do") (written_atom_parts (written_call net c)) (in_atom_parts (written_call net c) at))

    arc_values_are : (p : WrittenArc) (a : Arc) → arc net p ≡ Some a → flat_map (λ q. constants_of q.terms) a.patterns ≡ part_values p
    arc_values_are p a e =
        let (n, is, made) = mapped_found (λ k. record { place = k; patterns = map pattern p.patterns }) (control_number net p.place) a e in
        ap (λ (b : Arc). flat_map (λ q. constants_of q.terms) b.patterns) (sym made) ∙ patterns_are p.patterns
      where
        patterns_are : (hs : List WrittenPattern) → flat_map (λ q. constants_of q.terms) (map pattern hs) ≡ flat_map pattern_values hs
        patterns_are [] = refl
        patterns_are (h ∷ hs) = ap (λ l. constants_of h.terms ++ l) (patterns_are hs)

    read_values_are : (g : WrittenAtom) (r : Read) → read net g ≡ Some r → constants_of r.terms ≡ atom_values g
    read_values_are g r e =
        let (n, is, made) = mapped_found (λ k. record { view = k; terms = g.terms }) (view_number net g.name) r e in
        ap (λ (q : Read). constants_of q.terms) (sym made)

    in_transition : (t : Transition) → Made net (written_transition net t) t → In v (transition_constants t) → HaveOne (written_transition_parts (written_transition net t))
    in_transition t made at = in_rest (word t.name) all_clauses (by at)
      where
        r : WrittenTransition
        r = written_transition net t

        inputs : List Sexp
        inputs = map input_sexp r.inputs

        guards : List Sexp
        guards = guard_sexps r.guard

        asks : List Sexp
        asks = ask_sexps r.asked

        draws : List Sexp
        draws = fresh_sexps r.fresh

        calls : List Sexp
        calls = call_sexps r.call

        outs : List Sexp
        outs = map (λ p. form (codes "out") (written_arc_parts p)) r.outs

        backs : List Sexp
        backs = map (λ p. form (codes "back") (written_arc_parts p)) r.backs

        all_clauses : List Sexp
        all_clauses = inputs ++ guards ++ asks ++ draws ++ calls ++ outs ++ backs

        taken : List Value
        taken = arc_constants t.ins ++ flat_map (λ q. constants_of q.terms) t.reads

        judged_ : List Value
        judged_ = option_map_or constants t.guard []

        called : List Value
        called = option_map_or (λ c. constants_of c.args) t.call []

        of_taken : In v taken → HaveOne inputs
        of_taken there =
            ⊎_elim
            (λ a. ins_in r.inputs (subst (λ l. In v l) (each_flat (arc net) (λ (b : Arc). flat_map (λ q. constants_of q.terms) b.patterns) part_values arc_values_are (ins_of r.inputs) t.ins made.ins) a))
            (λ b. reads_in r.inputs (subst (λ l. In v l) (each_flat (read net) (λ (q : Read). constants_of q.terms) atom_values read_values_are (reads_of r.inputs) t.reads made.reads) b))
            (in_append v (arc_constants t.ins) (flat_map (λ q. constants_of q.terms) t.reads) there)

        of_given : In v (taken ++ judged_) → HaveOne (inputs ++ guards)
        of_given there =
            ⊎_elim (λ a. in_left inputs guards (of_taken a)) (λ b. in_right inputs guards (in_guard t.guard b)) (in_append v taken judged_ there)

        of_called : In v (taken ++ judged_ ++ called) → HaveOne (inputs ++ guards ++ asks ++ draws ++ calls)
        of_called there =
            ⊎_elim
            (λ a. in_left (inputs ++ guards ++ asks ++ draws) calls (in_left (inputs ++ guards ++ asks) draws (in_left (inputs ++ guards) asks (of_given a))))
            (λ b. in_right (inputs ++ guards ++ asks ++ draws) calls (in_call t.call b))
            (in_append v (taken ++ judged_) called there)

        of_outs : In v (taken ++ judged_ ++ called ++ arc_constants t.outs) → HaveOne (inputs ++ guards ++ asks ++ draws ++ calls ++ outs)
        of_outs there =
            ⊎_elim (λ a. in_left (inputs ++ guards ++ asks ++ draws ++ calls) outs (of_called a))
            (λ b. in_right (inputs ++ guards ++ asks ++ draws ++ calls) outs (given_arcs (codes "out") t.outs b))
            (in_append v (taken ++ judged_ ++ called) (arc_constants t.outs) there)

        by : In v (taken ++ judged_ ++ called ++ arc_constants t.outs ++ arc_constants t.backs) → HaveOne all_clauses
        by there =
            ⊎_elim (λ a. in_left (inputs ++ guards ++ asks ++ draws ++ calls ++ outs) backs (of_outs a))
            (λ b. in_right (inputs ++ guards ++ asks ++ draws ++ calls ++ outs) backs (given_arcs (codes "back") t.backs b))
            (in_append v (taken ++ judged_ ++ called ++ arc_constants t.outs) (arc_constants t.backs) there)

    in_facts : (ps : List FactPattern) → In v (fact_constants ps) → HaveOne (map written_atom_sexp (map (written_fact net) ps))
    in_facts [] at = absurd at
    in_facts (p ∷ ps) at =
        ⊎_elim
        (λ here. in_first (written_atom_sexp (written_fact net p)) (map written_atom_sexp (map (written_fact net) ps))
        (in_list (written_atom_parts (written_fact net p)) (in_atom_parts (written_fact net p) here)))
        (λ later. in_rest (written_atom_sexp (written_fact net p)) (map written_atom_sexp (map (written_fact net) ps)) (in_facts ps later))
        (in_append v (constants_of p.terms) (fact_constants ps) at)

    in_body : (body : Formula) → In v (constants body) → HaveOne (formula_sexp (named_formula (relation_names net) body) ∷ [])
    in_body body at = in_first (formula_sexp (named_formula (relation_names net) body)) [] (in_formula (relation_names net) body at)

    pub in_decl : (d : Decl) → Passes net d → In v (decl_constants d) → Has (sexp_of (named net d))
    in_decl (decl.Relation name fields) p at = absurd at
    in_decl (decl.Key rel fields) p at = absurd at
    in_decl (decl.Foreign rel fields to to_fields) p at = absurd at
    in_decl (decl.Always name body) p at =
        in_form (codes "always") (word name ∷ formula_sexp (named_formula (relation_names net) body) ∷ [])
        (in_rest (word name) (formula_sexp (named_formula (relation_names net) body) ∷ []) (in_body body at))
    in_decl (decl.Query name vars body) p at =
        in_form (codes "query") (word name ∷ scope_sexp vars ∷ formula_sexp (named_formula (relation_names net) body) ∷ [])
        (in_rest (word name) (scope_sexp vars ∷ formula_sexp (named_formula (relation_names net) body) ∷ [])
        (in_rest (scope_sexp vars) (formula_sexp (named_formula (relation_names net) body) ∷ []) (in_body body at)))
    in_decl (decl.Act a) p at =
        let gone : Sexp = form (codes "delete") (map written_atom_sexp (map (written_fact net) a.deletes)) in
        let new : Sexp = form (codes "add") (map written_atom_sexp (map (written_fact net) a.adds)) in
        in_form (codes "action") (word a.name ∷ scope_sexp a.params ∷ gone ∷ new ∷ [])
        (in_rest (word a.name) (scope_sexp a.params ∷ gone ∷ new ∷ [])
        (in_rest (scope_sexp a.params) (gone ∷ new ∷ [])
        (⊎_elim
        (λ l. in_first gone (new ∷ []) (in_form (codes "delete") (map written_atom_sexp (map (written_fact net) a.deletes)) (in_facts a.deletes l)))
        (λ r. in_rest gone (new ∷ []) (in_first new [] (in_form (codes "add") (map written_atom_sexp (map (written_fact net) a.adds)) (in_facts a.adds r))))
        (in_append v (fact_constants a.deletes) (fact_constants a.adds) at))))
    in_decl (decl.Site s) p at = absurd at
    in_decl (decl.Trans t) p at =
        in_form (codes "transition") (written_transition_parts (written_transition net t)) (in_transition t (made_there net t p) at)

-- ---- ids

pub past_contained : (xs ys : List Value) → ((v : Value) → In v xs → In v ys) → past_ids xs ≤ past_ids ys
past_contained xs ys all =
    past_within (past_ids ys) xs (all_from (id_below (past_ids ys)) xs (λ v at. all_at (id_below (past_ids ys)) v ys (past_all ys) (all v at)))

both_ways : (a b : ℕ) → a ≤ b → b ≤ a → a ≡ b
both_ways a b up down = omega (arith, up, down)

pub past_same : (xs ys : List Value) → ((v : Value) → In v xs → In v ys) → ((v : Value) → In v ys → In v xs) → past_ids xs ≡ past_ids ys
past_same xs ys there back = both_ways (past_ids xs) (past_ids ys) (past_contained xs ys there) (past_contained ys xs back)

-- the first id behind those of a declaration is that behind the ids of its text
pub decl_past : (net : List Decl) (d : Decl) → Passes net d → past_ids (item_values (sexp_of (named net d)).item) ≡ past_ids (decl_constants d)
decl_past net d p =
    both_ways (past_ids (item_values (sexp_of (named net d)).item)) (past_ids (decl_constants d))
    (past_within (past_ids (decl_constants d)) (item_values (sexp_of (named net d)).item) (decl_below (past_ids (decl_constants d)) net d (past_all (decl_constants d))))
    (past_contained (decl_constants d) (item_values (sexp_of (named net d)).item) (λ v at. in_decl v net d p at))
