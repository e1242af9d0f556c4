-- Each name of a well-formed net is plain and short, and is found at its number.
use Rattle.std.proofs.Common.{◌≡◌, ℕ, zero, suc, ◌+◌, ◌<◌, Some, true, ◌&&◌, List, [], ◌∷◌, ◌++◌, map, refl, sym, ap, subst, ◌∙◌, arith, length, codes, append-nil, append_assoc, length-append}
use Rattle.std.specs.Prelude.{nat_le}
use Rattle.std.specs.List.{list_all, flat_map}
use Rattle.std.proofs.lemmas.Bool.{and_parts}
use Rattle.std.proofs.lemmas.List.{map-append, length-map}
use Rattle.std.proofs.lemmas.List.Elements.{filter_map-append}
use Rattle.dbn_value.specs.Text.{is_identifier}
use Rattle.dbn_sexp.specs.declared.sexp.Sexp.{Sexp}
use Rattle.dbn_sexp.specs.declared.sexp.Item.{Item}
use Rattle.dbn_sexp.specs.declared.sexp.Item.TheVariants as item
use Rattle.dbn_sexp.specs.Printing.{atoms}
use Rattle.dbn_sexp.proofs.TreeLaws.{atoms_name, atoms_list}
use Rattle.dbn_sexp.proofs.PartLaws.{word_name}
use Rattle.dbn_net.specs.declared.written.WrittenTransition.{WrittenTransition}
use Rattle.dbn_net.specs.declared.written.Written.{Written}
use Rattle.dbn_net.specs.declared.written.Written.TheVariants as written
use Rattle.dbn_net.specs.declared.rules.Transition.{Transition}
use Rattle.dbn_net.specs.declared.decl.Decl.{Decl}
use Rattle.dbn_net.specs.declared.decl.Decl.TheVariants as decl
use Rattle.dbn_net.specs.declared.decl.Entry.TheVariants.{Part}
use Rattle.dbn_net.specs.Maybe.{◌>>=◌, only_if}
use Rattle.dbn_net.specs.Forms.{Name, name_in, transition_of, declaration_in}
use Rattle.dbn_net.specs.Printing.{word, written_transition_parts, sexp_of}
use Rattle.dbn_net.specs.Tables.{Table, transition_in, relations, places, transitions, relation_names, place_names, transition_names, place_name}
use Rattle.dbn_net.specs.Naming.{written_transition}
use Rattle.dbn_net.specs.Judging.{is_short, short_names, short_lists, few_of_kind, is_new}
use Rattle.dbn_net.specs.WellFormed.{AllPass, WellFormed}
use Rattle.dbn_net.proofs.Maybes.{first_found, if_found}
use Rattle.dbn_net.proofs.AtomLaws.{short_name}
use Rattle.dbn_net.proofs.JudgedLaws.{judged_is}
use Rattle.dbn_net.proofs.BackLaws.{IsPlain, declared_parts}
use Rattle.dbn_net.proofs.LiftLaws.{no_begun}
use Rattle.dbn_net.proofs.RoundFacts.{Known}
use Rattle.dbn_net.proofs.RoundNames.{AllKnown, known_at, known_names}
use Rattle.dbn_net.proofs.RoundPlaces.{known_places}

-- ---- a transition's name

written_transition_plain : (r : WrittenTransition) (w : Written) → declaration_in (sexp_of (written.Transition r)) ≡ Some w → IsPlain r.name
written_transition_plain r w e =
    let parts : transition_of (written_transition_parts r) ≡ Some w = sym (declared_parts (codes "transition") (written_transition_parts r)) ∙ e in
    let found = first_found (name_in (word r.name)) _ w parts in
    let kept : only_if (is_identifier r.name) r.name ≡ Some found.0 = ap (λ o. o >>= λ n. only_if (is_identifier n) n) (sym (word_name 0 r.name)) ∙ found.1 in
    (if_found (is_identifier r.name) (Some r.name) found.0 kept).0

-- the second word of a declaration is short
second_short : (w name : Name) (parts : List Sexp) → list_all is_short (atoms (item.List (word w ∷ word name ∷ parts))) ≡ true → nat_le (length w) 64 ≡ true → nat_le (length name) 64 ≡ true
second_short w name parts e head =
    let rest : List Item = flat_map (λ one. atoms one.item) parts in
    let flat : (nat_le (length name) 64 && list_all is_short rest) ≡ true =
    ap (λ b. b && list_all is_short rest) (sym (short_name name))
    ∙ ap (λ l. list_all is_short (l ++ rest)) (sym (atoms_name name))
    ∙ ap (λ b. b && list_all is_short (atoms (word name).item ++ rest)) (sym (short_name w ∙ head))
    ∙ ap (λ l. list_all is_short (l ++ (atoms (word name).item ++ rest))) (sym (atoms_name w))
    ∙ ap (list_all is_short) (sym (atoms_list (word w ∷ word name ∷ parts)))
    ∙ e in
    (and_parts (nat_le (length name) 64) (list_all is_short rest) flat).0

-- ---- all transitions

names_append : (xs ys : List Decl) → transition_names (xs ++ ys) ≡ transition_names xs ++ transition_names ys
names_append xs ys = ap (map (λ (t : Transition). t.name)) (filter_map-append transition_in xs ys) ∙ map-append (λ (t : Transition). t.name) (transitions xs) (transitions ys)

past : (before : List Decl) (d : Decl) (decls : List Decl) → transition_names (d ∷ []) ≡ []
    → AllKnown (transition_names ((before ++ d ∷ []) ++ decls)) (length (transition_names (before ++ d ∷ []))) (transition_names decls)
    → AllKnown (transition_names (before ++ d ∷ decls)) (length (transition_names before)) (transition_names decls)
past before d decls none known =
    let same : transition_names (before ++ d ∷ []) ≡ transition_names before = names_append before (d ∷ []) ∙ ap (λ l. transition_names before ++ l) none ∙ append-nil (transition_names before) in
    subst (λ n. AllKnown (transition_names (before ++ d ∷ decls)) n (transition_names decls)) (ap length same)
    (subst (λ w. AllKnown (transition_names w) (length (transition_names (before ++ d ∷ []))) (transition_names decls)) (append_assoc before (d ∷ []) decls) known)

pub known_transitions : (before decls : List Decl) → AllPass before decls → AllKnown (transition_names (before ++ decls)) (length (transition_names before)) (transition_names decls)
known_transitions before [] all = tt
known_transitions before (decl.Trans t ∷ decls) all =
    let d : Decl = decl.Trans t in
    let r : WrittenTransition = written_transition before t in
    let w : Written = written.Transition r in
    let passed = judged_is before no_begun w (Part d) (all.0.tests no_begun) in
    let short = (and_parts (short_names w) (short_lists w) (and_parts (short_names w && short_lists w) (few_of_kind before w) passed.limits).0).0 in
    let new = (and_parts (is_new (transition_names before) t.name) _ passed.once).0 in
    let whole : transition_names (before ++ d ∷ decls) ≡ transition_names before ++ t.name ∷ transition_names decls = names_append before (d ∷ decls) in
    let longer : length (transition_names (before ++ d ∷ [])) ≡ length (transition_names before) + 1 = ap length (names_append before (d ∷ [])) ∙ length-append (transition_names before) (t.name ∷ []) in (
      subst (λ w. Known w (length (transition_names before))) (sym whole)
          (known_at (transition_names before) t.name (transition_names decls) (written_transition_plain r w all.0.shape) (second_short (codes "transition") t.name _ short refl) new),
      subst (λ n. AllKnown (transition_names (before ++ d ∷ decls)) n (transition_names decls)) longer
          (subst (λ w. AllKnown (transition_names w) (length (transition_names (before ++ d ∷ []))) (transition_names decls)) (append_assoc before (d ∷ []) decls) (known_transitions (before ++ d ∷ []) decls all.1)),
    )
known_transitions before (decl.Relation a b ∷ decls) all = past before (decl.Relation a b) decls refl (known_transitions (before ++ decl.Relation a b ∷ []) decls all.1)
known_transitions before (decl.Key a b ∷ decls) all = past before (decl.Key a b) decls refl (known_transitions (before ++ decl.Key a b ∷ []) decls all.1)
known_transitions before (decl.Foreign a b c e ∷ decls) all = past before (decl.Foreign a b c e) decls refl (known_transitions (before ++ decl.Foreign a b c e ∷ []) decls all.1)
known_transitions before (decl.Always a b ∷ decls) all = past before (decl.Always a b) decls refl (known_transitions (before ++ decl.Always a b ∷ []) decls all.1)
known_transitions before (decl.Query a b c ∷ decls) all = past before (decl.Query a b c) decls refl (known_transitions (before ++ decl.Query a b c ∷ []) decls all.1)
known_transitions before (decl.Act a ∷ decls) all = past before (decl.Act a) decls refl (known_transitions (before ++ decl.Act a ∷ []) decls all.1)
known_transitions before (decl.Site p ∷ decls) all = past before (decl.Site p) decls refl (known_transitions (before ++ decl.Site p ∷ []) decls all.1)

-- ---- the one at a number

known_in : (whole : List Name) (from : ℕ) (names : List Name) (n : ℕ) → AllKnown whole from names → n < length names → Known whole (from + n)
known_in whole from [] n known within = absurd (omega arith)
known_in whole from (x ∷ names) zero known within = subst (Known whole) (omega arith) known.0
known_in whole from (x ∷ names) (suc n) known within = subst (Known whole) (omega arith) (known_in whole (from + 1) names n known.1 (omega arith))

known_below : (names : List Name) (n : ℕ) → AllKnown names 0 names → n < length names → Known names n
known_below names n known within =
    let same : 0 + n ≡ n = omega arith in
    subst (Known names) same (known_in names 0 names n known within)

module _ (net : List Decl) (fits : WellFormed net) (n : ℕ) where
  pub transition_known : n < length (transitions net) → Known (transition_names net) n
  transition_known within =
      known_below (transition_names net) n (known_transitions [] net fits) (subst (λ k. n < k) (sym (length-map (transitions net) (λ (t : Transition). t.name))) within)

  pub place_known : n < length (places net) → Known (place_names net) n
  place_known within = known_below (place_names net) n (known_places [] net fits) (subst (λ k. n < k) (sym (length-map (places net) place_name)) within)

  pub relation_known : n < length (relations net) → Known (relation_names net) n
  relation_known within = known_below (relation_names net) n (known_names [] net fits) (subst (λ k. n < k) (sym (length-map (relations net) (λ (r : Table). r.name))) within)
