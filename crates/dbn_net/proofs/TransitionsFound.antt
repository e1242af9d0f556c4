-- What is read as the clauses of a transition is printed as they were, apart from the lines.
use Rattle.std.proofs.Common.{◌≡◌, ℕ, ◌<◌, ◌≤◌, Bool, true, false, ◌&&◌, ◌==◌, if◌then◌else◌, List, [], ◌∷◌, ◌++◌, map, refl, sym, ap, ◌∙◌, ⊎_elim, Some, None, codes, arith, append-nil, append_assoc}
use Rattle.std.specs.Prelude.{nat_lt}
use Rattle.std.proofs.lemmas.Bool.{and_parts, or_cases, ltb-true, eqb-true}
use Rattle.std.proofs.lemmas.List.{map-append}
use Rattle.dbn_sexp.specs.declared.sexp.Sexp.{Sexp}
use Rattle.dbn_net.specs.declared.written.WrittenTransition.{WrittenTransition}
use Rattle.dbn_net.specs.declared.written.WrittenClause.{WrittenClause}
use Rattle.dbn_net.specs.declared.written.WrittenClause.TheVariants.{Inputs, Guards, Asks, Draws, Calls, Puts, Returns}
use Rattle.dbn_net.specs.Forms.{clause_in, rank, repeats, follows, with_clause, clause_step, clauses_from}
use Rattle.dbn_net.specs.Printing.{no_lines, word, form, variable_sexp, typed_variable_sexp, formula_sexp, written_atom_parts, written_arc_parts, input_sexp, guard_sexps, ask_sexps, fresh_sexps, call_sexps, written_transition_parts}
use Rattle.dbn_net.proofs.Maybes.{some_is, first_found, if_found}

abbrev pub clause_sexp : WrittenClause → Sexp
clause_sexp (Inputs m) = input_sexp m
clause_sexp (Guards g) = form (codes "guard") (formula_sexp g ∷ [])
clause_sexp (Asks vars) = form (codes "ask") (map typed_variable_sexp vars)
clause_sexp (Draws xs) = form (codes "fresh") (map variable_sexp xs)
clause_sexp (Calls g) = form (codes "do") (written_atom_parts g)
clause_sexp (Puts p) = form (codes "out") (written_arc_parts p)
clause_sexp (Returns p) = form (codes "back") (written_arc_parts p)

-- `ask` and `fresh` have one variable or more
abbrev pub IsProper : WrittenClause → Type 0
IsProper (Asks []) = ⊥
IsProper (Draws []) = ⊥
IsProper c = Unit {0}

-- behind a clause of this rank the later parts are empty
pub record Ranked (last : ℕ) (r : WrittenTransition) : Type 0 where
  pub guard : last < 1 → r.guard ≡ None
  pub asked : last < 2 → r.asked ≡ []
  pub fresh : last < 3 → r.fresh ≡ []
  pub call : last < 4 → r.call ≡ None
  pub outs : last < 5 → r.outs ≡ []
  pub backs : last < 6 → r.backs ≡ []

up_to : (last next : ℕ) → follows last next ≡ true → last ≤ next
up_to last next e =
    ⊎_elim (λ a. let below : last < next = ltb-true last next a in omega (arith, below))
    (λ b. let same : last ≡ next = eqb-true last next (and_parts (last == next) (repeats next) b).0 in omega (arith, same))
    (or_cases (nat_lt last next) (last == next && repeats next) e)

once : (last next : ℕ) → repeats next ≡ false → follows last next ≡ true → last < next
once last next single e =
    ⊎_elim (λ a. ltb-true last next a)
    (λ b. absurd (clash (repeats next) (and_parts (last == next) (repeats next) b).1 single))
    (or_cases (nat_lt last next) (last == next && repeats next) e)
  where
    clash : (b : Bool) → b ≡ true → b ≡ false → ⊥
    clash b t f = cc

-- empty parts behind
nil2 : (p : List Sexp) → p ++ [] ++ [] ≡ p
nil2 p = append-nil (p ++ []) ∙ append-nil p

nil3 : (p : List Sexp) → p ++ [] ++ [] ++ [] ≡ p
nil3 p = append-nil (p ++ [] ++ []) ∙ nil2 p

nil4 : (p : List Sexp) → p ++ [] ++ [] ++ [] ++ [] ≡ p
nil4 p = append-nil (p ++ [] ++ [] ++ []) ∙ nil3 p

nil5 : (p : List Sexp) → p ++ [] ++ [] ++ [] ++ [] ++ [] ≡ p
nil5 p = append-nil (p ++ [] ++ [] ++ [] ++ []) ∙ nil4 p

nil6 : (p : List Sexp) → p ++ [] ++ [] ++ [] ++ [] ++ [] ++ [] ≡ p
nil6 p = append-nil (p ++ [] ++ [] ++ [] ++ [] ++ []) ∙ nil5 p

one_more : (last : ℕ) (r : WrittenTransition) (c : WrittenClause) → Ranked last r → follows last (rank c) ≡ true → IsProper c
    → written_transition_parts (with_clause r c) ≡ written_transition_parts r ++ clause_sexp c ∷ []
one_more last r (Inputs m) k f p =
    let le : last ≤ 0 = up_to last 0 f in
    let a : r.guard ≡ None = k.guard (omega (arith, le)) in
    let b : r.asked ≡ [] = k.asked (omega (arith, le)) in
    let g : r.fresh ≡ [] = k.fresh (omega (arith, le)) in
    let c : r.call ≡ None = k.call (omega (arith, le)) in
    let d : r.outs ≡ [] = k.outs (omega (arith, le)) in
    let e : r.backs ≡ [] = k.backs (omega (arith, le)) in
    simp (a, b, g, c, d, e, map-append) (ap (λ l. word r.name ∷ l) (nil6 (map input_sexp r.inputs ++ input_sexp m ∷ []) ∙ ap (λ l. l ++ input_sexp m ∷ []) (sym (nil6 (map input_sexp r.inputs)))))
one_more last r (Guards g) k f p =
    let lt : last < 1 = once last 1 refl f in
    let a : r.guard ≡ None = k.guard lt in
    let q : r.asked ≡ [] = k.asked (omega (arith, lt)) in
    let b : r.fresh ≡ [] = k.fresh (omega (arith, lt)) in
    let c : r.call ≡ None = k.call (omega (arith, lt)) in
    let d : r.outs ≡ [] = k.outs (omega (arith, lt)) in
    let e : r.backs ≡ [] = k.backs (omega (arith, lt)) in
    let x : Sexp = clause_sexp (Guards g) in
    simp (a, q, b, c, d, e) (ap (λ l. word r.name ∷ l) (nil5 (map input_sexp r.inputs ++ x ∷ []) ∙ ap (λ l. l ++ x ∷ []) (sym (nil6 (map input_sexp r.inputs)))))
one_more last r (Asks []) k f p = absurd p
one_more last r (Asks (x ∷ xs)) k f p =
    let lt : last < 2 = once last 2 refl f in
    let q : r.asked ≡ [] = k.asked lt in
    let b : r.fresh ≡ [] = k.fresh (omega (arith, lt)) in
    let c : r.call ≡ None = k.call (omega (arith, lt)) in
    let d : r.outs ≡ [] = k.outs (omega (arith, lt)) in
    let e : r.backs ≡ [] = k.backs (omega (arith, lt)) in
    let y : Sexp = clause_sexp (Asks (x ∷ xs)) in
    let p : List Sexp = map input_sexp r.inputs ++ guard_sexps r.guard in
    simp (q, b, c, d, e) (ap (λ l. word r.name ∷ l) (nil4 (p ++ y ∷ []) ∙ ap (λ l. l ++ y ∷ []) (sym (nil5 p))))
one_more last r (Draws []) k f p = absurd p
one_more last r (Draws (x ∷ xs)) k f p =
    let lt : last < 3 = once last 3 refl f in
    let b : r.fresh ≡ [] = k.fresh lt in
    let c : r.call ≡ None = k.call (omega (arith, lt)) in
    let d : r.outs ≡ [] = k.outs (omega (arith, lt)) in
    let e : r.backs ≡ [] = k.backs (omega (arith, lt)) in
    let y : Sexp = clause_sexp (Draws (x ∷ xs)) in
    let p : List Sexp = map input_sexp r.inputs ++ guard_sexps r.guard ++ ask_sexps r.asked in
    simp (b, c, d, e) (ap (λ l. word r.name ∷ l) (nil3 (p ++ y ∷ []) ∙ ap (λ l. l ++ y ∷ []) (sym (nil4 p))))
one_more last r (Calls g) k f p =
    let lt : last < 4 = once last 4 refl f in
    let c : r.call ≡ None = k.call lt in
    let d : r.outs ≡ [] = k.outs (omega (arith, lt)) in
    let e : r.backs ≡ [] = k.backs (omega (arith, lt)) in
    let y : Sexp = clause_sexp (Calls g) in
    let p : List Sexp = map input_sexp r.inputs ++ guard_sexps r.guard ++ ask_sexps r.asked ++ fresh_sexps r.fresh in
    simp (c, d, e) (ap (λ l. word r.name ∷ l) (nil2 (p ++ y ∷ []) ∙ ap (λ l. l ++ y ∷ []) (sym (nil3 p))))
one_more last r (Puts q) k f p =
    let le : last ≤ 5 = up_to last 5 f in
    let e : r.backs ≡ [] = k.backs (omega (arith, le)) in
    let y : Sexp = clause_sexp (Puts q) in
    let p : List Sexp = map input_sexp r.inputs ++ guard_sexps r.guard ++ ask_sexps r.asked ++ fresh_sexps r.fresh ++ call_sexps r.call in
    let o : List Sexp = map (λ z. form (codes "out") (written_arc_parts z)) r.outs in
    simp (e, map-append) (ap (λ l. word r.name ∷ l) (append-nil (p ++ (o ++ y ∷ [])) ∙ sym (append_assoc p o (y ∷ [])) ∙ ap (λ l. l ++ y ∷ []) (sym (append-nil (p ++ o)))))
one_more last r (Returns q) k f p =
    let y : Sexp = clause_sexp (Returns q) in
    let p : List Sexp = map input_sexp r.inputs ++ guard_sexps r.guard ++ ask_sexps r.asked ++ fresh_sexps r.fresh ++ call_sexps r.call ++ map (λ z. form (codes "out") (written_arc_parts z)) r.outs in
    let o : List Sexp = map (λ z. form (codes "back") (written_arc_parts z)) r.backs in
    simp map-append (ap (λ l. word r.name ∷ l) (sym (append_assoc p o (y ∷ []))))

ranked_on : (last : ℕ) (r : WrittenTransition) (c : WrittenClause) → Ranked last r → follows last (rank c) ≡ true → Ranked (rank c) (with_clause r c)
ranked_on last r (Inputs m) k f = let le : last ≤ 0 = up_to last 0 f in
    record { guard = λ l. k.guard (omega (arith, le)); asked = λ l. k.asked (omega (arith, le)); fresh = λ l. k.fresh (omega (arith, le)); call = λ l. k.call (omega (arith, le)); outs = λ l. k.outs (omega (arith, le)); backs = λ l. k.backs (omega (arith, le)) }
ranked_on last r (Guards g) k f = let le : last ≤ 1 = up_to last 1 f in
    record { guard = λ l. absurd (omega (arith, l)); asked = λ l. k.asked (omega (arith, le)); fresh = λ l. k.fresh (omega (arith, le)); call = λ l. k.call (omega (arith, le)); outs = λ l. k.outs (omega (arith, le)); backs = λ l. k.backs (omega (arith, le)) }
ranked_on last r (Asks xs) k f = let le : last ≤ 2 = up_to last 2 f in
    record { guard = λ l. absurd (omega (arith, l)); asked = λ l. absurd (omega (arith, l)); fresh = λ l. k.fresh (omega (arith, le)); call = λ l. k.call (omega (arith, le)); outs = λ l. k.outs (omega (arith, le)); backs = λ l. k.backs (omega (arith, le)) }
ranked_on last r (Draws xs) k f = let le : last ≤ 3 = up_to last 3 f in
    record { guard = λ l. absurd (omega (arith, l)); asked = λ l. absurd (omega (arith, l)); fresh = λ l. absurd (omega (arith, l)); call = λ l. k.call (omega (arith, le)); outs = λ l. k.outs (omega (arith, le)); backs = λ l. k.backs (omega (arith, le)) }
ranked_on last r (Calls g) k f = let le : last ≤ 4 = up_to last 4 f in
    record { guard = λ l. absurd (omega (arith, l)); asked = λ l. absurd (omega (arith, l)); fresh = λ l. absurd (omega (arith, l)); call = λ l. absurd (omega (arith, l)); outs = λ l. k.outs (omega (arith, le)); backs = λ l. k.backs (omega (arith, le)) }
ranked_on last r (Puts q) k f = let le : last ≤ 5 = up_to last 5 f in
    record { guard = λ l. absurd (omega (arith, l)); asked = λ l. absurd (omega (arith, l)); fresh = λ l. absurd (omega (arith, l)); call = λ l. absurd (omega (arith, l)); outs = λ l. absurd (omega (arith, l)); backs = λ l. k.backs (omega (arith, le)) }
ranked_on last r (Returns q) k f =
    record { guard = λ l. absurd (omega (arith, l)); asked = λ l. absurd (omega (arith, l)); fresh = λ l. absurd (omega (arith, l)); call = λ l. absurd (omega (arith, l)); outs = λ l. absurd (omega (arith, l)); backs = λ l. absurd (omega (arith, l)) }

-- the transition that clauses make is printed as they are
pub clauses_printed : ((one : Sexp) (c : WrittenClause) → clause_in one ≡ Some c → (clause_sexp c ≡ no_lines one) × IsProper c)
    → (last : ℕ) (r : WrittenTransition) (parts : List Sexp) (made : WrittenTransition) → Ranked last r → clauses_from (last, r) parts ≡ Some made
    → written_transition_parts made ≡ written_transition_parts r ++ map no_lines parts
clauses_printed found last r [] made k e = ap written_transition_parts (sym (some_is r made e)) ∙ sym (append-nil (written_transition_parts r))
clauses_printed found last r (one ∷ parts) made k e =
    let (next, step, rest) = first_found (clause_step (last, r) one) (λ s. clauses_from s parts) made e in
    let (c, is, fits) = first_found (clause_in one) (λ d. if follows last (rank d) then Some (rank d, with_clause r d) else None) next step in
    let (f, same) = if_found (follows last (rank c)) (Some (rank c, with_clause r c)) next fits in
    let proper = found one c is in
    clauses_printed found (rank c) (with_clause r c) parts made (ranked_on last r c k f) (ap (λ s. clauses_from s parts) (some_is (rank c, with_clause r c) next same) ∙ rest)
    ∙ ap (λ l. l ++ map no_lines parts) (one_more last r c k f proper.1)
    ∙ append_assoc (written_transition_parts r) (clause_sexp c ∷ []) (map no_lines parts)
    ∙ ap (λ x. written_transition_parts r ++ x ∷ map no_lines parts) proper.0
