-- A declaration that was read and judged may follow the net.
use Rattle.std.proofs.Common.{◌≡◌, ◌≤◌, true, ◌&&◌, List, sym, ap, subst, ◌∙◌, Some}
use Rattle.std.specs.Prelude.{Ok}
use Rattle.std.proofs.lemmas.Bool.{and_parts}
use Rattle.dbn_sexp.specs.declared.sexp.Sexp.{Sexp}
use Rattle.dbn_sexp.specs.Printing.{nesting}
use Rattle.dbn_net.specs.declared.written.Written.{Written}
use Rattle.dbn_net.specs.declared.written.Written.TheVariants as written
use Rattle.dbn_net.specs.declared.decl.Place.TheVariants as place
use Rattle.dbn_net.specs.declared.decl.Decl.{Decl}
use Rattle.dbn_net.specs.declared.decl.Decl.TheVariants as decl
use Rattle.dbn_net.specs.declared.decl.Entry.TheVariants.{Part, Fact, Tokens}
use Rattle.dbn_net.specs.Forms.{Name, declaration_in}
use Rattle.dbn_net.specs.Printing.{no_lines, sexp_of}
use Rattle.dbn_net.specs.Tables.{relation_names, query_names, field_names}
use Rattle.dbn_net.specs.Naming.{number_of, control_number, count, resolved_formula, fields_of, resolved_key, resolved_foreign, resolved_action, transition, resolved, named}
use Rattle.dbn_net.specs.Judging.{Begun, arcs_counted, is_counted, judged}
use Rattle.dbn_net.specs.WellFormed.{Passes}
use Rattle.dbn_net.proofs.Maybes.{some_is, first_found, mapped_found}
use Rattle.dbn_net.proofs.LinesLaws.{declaration_alike}
use Rattle.dbn_sexp.proofs.LinesLaws.{nesting_alike}
use Rattle.dbn_net.proofs.DeclaredAgain.{declaration_found}
use Rattle.dbn_net.proofs.NamedLaws.{name_again, names_again, key_again}
use Rattle.dbn_net.proofs.NamedFormulas.{formula_again}
use Rattle.dbn_net.proofs.NamedTransitions.{transition_again, action_again}
use Rattle.dbn_net.proofs.JudgedLaws.{judged_is, same_tests}

part_is : (x y : Decl) → Part x ≡ Part y → x ≡ y
part_is x y e = cc

foreign_again : (net : List Decl) (rel : Name) (fields : List Name) (to : Name) (to_fields : List Name) (d : Decl) → resolved_foreign net rel fields to to_fields ≡ Some d → named net d ≡ written.Foreign rel fields to to_fields
foreign_again net rel fields to to_fields d e =
    let (n, a, e1) = first_found (number_of (relation_names net) rel) _ d e in
    let (fs, b, e2) = first_found (fields_of net n fields) _ d e1 in
    let (m, c, e3) = first_found (number_of (relation_names net) to) _ d e2 in
    let (gs, f, made) = first_found (fields_of net m to_fields) (λ hs. Some (decl.Foreign n fs m hs)) d e3 in
    ap (named net) (sym (some_is (decl.Foreign n fs m gs) d made))
    ∙ (λ i. written.Foreign (name_again (relation_names net) rel n a i) (names_again (field_names net n) fields fs b i) (name_again (relation_names net) to m c i) (names_again (field_names net m) to_fields gs f i))

-- naming undoes resolving
pub named_again : (net : List Decl) (w : Written) (d : Decl) → resolved net w ≡ Some (Part d) → is_counted (Part d) ≡ true → named net d ≡ w
named_again net (written.Relation name fields) d e c = ap (named net) (sym (part_is (decl.Relation name fields) d (some_is (Part (decl.Relation name fields)) (Part d) e)))
named_again net (written.Key rel fields) d e c = let (x, is, made) = mapped_found Part (resolved_key net rel fields) (Part d) e in ap (named net) (sym (part_is x d made)) ∙ key_again net rel fields x is
named_again net (written.Foreign rel fields to to_fields) d e c = let (x, is, made) = mapped_found Part (resolved_foreign net rel fields to to_fields) (Part d) e in ap (named net) (sym (part_is x d made)) ∙ foreign_again net rel fields to to_fields x is
named_again net (written.Always name body) d e c =
    let (f, is, made) = mapped_found (λ g. Part (decl.Always name g)) (resolved_formula (relation_names net) body) (Part d) e in
    ap (named net) (sym (part_is (decl.Always name f) d made)) ∙ ap (written.Always name) (formula_again (relation_names net) body f is)
named_again net (written.Query name vars body) d e c =
    let (f, is, made) = mapped_found (λ g. Part (decl.Query name vars g)) (resolved_formula (relation_names net) body) (Part d) e in
    ap (named net) (sym (part_is (decl.Query name vars f) d made)) ∙ ap (written.Query name vars) (formula_again (relation_names net) body f is)
named_again net (written.Action name params deletes adds) d e c =
    let (x, is, made) = mapped_found Part (resolved_action net name params deletes adds) (Part d) e in ap (named net) (sym (part_is x d made)) ∙ action_again net name params deletes adds x is
named_again net (written.Control name shape) d e c = ap (named net) (sym (part_is (decl.Site (place.Control name shape)) d (some_is (Part (decl.Site (place.Control name shape))) (Part d) e)))
named_again net (written.View name query) d e c =
    let (n, is, made) = mapped_found (λ k. Part (decl.Site (place.View name k))) (number_of (query_names net) query) (Part d) e in
    ap (named net) (sym (part_is (decl.Site (place.View name n)) d made)) ∙ ap (written.View name) (name_again (query_names net) query n is)
named_again net (written.Transition r) d e c =
    let (t, is, made) = mapped_found (λ u. Part (decl.Trans u)) (transition net r) (Part d) e in
    let ok : is_counted (Part (decl.Trans t)) ≡ true = ap is_counted made ∙ c in
    let p = and_parts (arcs_counted t.ins && arcs_counted t.outs) (arcs_counted t.backs) ok in
    let q = and_parts (arcs_counted t.ins) (arcs_counted t.outs) p.0 in
    ap (named net) (sym (part_is (decl.Trans t) d made)) ∙ ap written.Transition (transition_again net r t is q.0 q.1 p.1)
named_again net (written.Fact rel row) d e c = let (n, is, made) = mapped_found (λ k. Fact k row) (number_of (relation_names net) rel) (Part d) e in absurd cc
named_again net (written.Token place many row) d e c = let (n, is, made) = mapped_found (λ k. Tokens k (count many) row) (control_number net place) (Part d) e in absurd cc

pub passes_read : (before : List Decl) (begun : Begun) (one : Sexp) (w : Written) (d : Decl)
    → declaration_in one ≡ Some w → judged before begun w ≡ Ok (Part d) → nesting one.item ≤ 64
    → sexp_of w ≡ no_lines one → named before d ≡ w → Passes before d
passes_read before begun one w d read tests nests printed again = record {
  shape = subst (λ x. declaration_in (sexp_of x) ≡ Some x) (sym again) (ap declaration_in printed ∙ declaration_alike 0 one ∙ read);
  tests = λ other. subst (λ x. judged before other x ≡ Ok (Part d)) (sym again) (same_tests before begun other w d tests);
  nests = subst (λ x. nesting (sexp_of x).item ≤ 64) (sym again) (subst (λ k. k ≤ 64) (sym (ap (λ x. nesting x.item) printed ∙ nesting_alike 0 one.item)) nests);
}

-- what the reader has read and judged may be added
pub read_passes : (before : List Decl) (begun : Begun) (one : Sexp) (w : Written) (d : Decl)
    → declaration_in one ≡ Some w → judged before begun w ≡ Ok (Part d) → nesting one.item ≤ 64 → Passes before d
read_passes before begun one w d read tests nests =
    let j = judged_is before begun w (Part d) tests in
    passes_read before begun one w d read tests nests (declaration_found one w read) (named_again before w d j.is j.passed.counted)
