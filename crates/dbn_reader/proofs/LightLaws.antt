-- What is read of a short text is light: each pattern and each declaration of tokens is a list of its own in the text, and names
-- 4,294,967,295 tokens at most.
use Rattle.std.proofs.Common.{◌≡◌, ℕ, ℤ, pos, zero, suc, ◌+◌, ◌*◌, ◌<◌, ◌≤◌, ◌^◌, Bool, true, false, ◌&&◌, List, [], ◌∷◌, ◌++◌, map, length, refl, sym, ap, subst, ◌∙◌, inl, inr, ⊎_elim, Option, Some, None, codes, arith}
use Rattle.std.specs.Prelude.{Result, Ok, Err, slice_index_or, slice_set, nat_le}
use Rattle.std.specs.declared.cmp.Ordering.{Ordering}
use Rattle.std.specs.declared.cmp.Ordering.TheVariants.{Less, Equal, Greater}
use Rattle.std.specs.Ordering.{match_ordering}
use Rattle.std.specs.List.{sum_by, list_all, AllByRecursion, zip}
use Rattle.std.specs.BTreeMap.{insert_entry}
use Rattle.std.proofs.lemmas.Bool.{and_parts, leb-true}
use Rattle.std.proofs.lemmas.List.{length-map}
use Rattle.std.proofs.lemmas.List.Sums.{sum_by-cons, sum_by-append}
use Rattle.dbn_value.specs.Members.{In}
use Rattle.dbn_value.specs.Order.{row_cmp}
use Rattle.dbn_value.specs.declared.value.Value.{Value}
use Rattle.dbn_value.specs.declared.value.Value.TheVariants as value
use Rattle.dbn_value.proofs.MemberLaws.{in_append}
use Rattle.dbn_sexp.specs.declared.sexp.Sexp.{Sexp}
use Rattle.dbn_sexp.specs.declared.sexp.Item.{Item}
use Rattle.dbn_sexp.specs.declared.sexp.Item.TheVariants as item
use Rattle.dbn_sexp.specs.Printing.{on_line}
use Rattle.dbn_sexp.specs.Parts.{list_in}
use Rattle.dbn_sexp.proofs.PartLaws.{list_found}
use Rattle.dbn_sexp.specs.Reading as sexps
use Rattle.dbn_sexp.proofs.TreeLaws.{Steps, induction, line_name, line_const, line_list}
use Rattle.dbn_marking.specs.Counts.{place_of, count_of, count_at, added, with_tokens}
use Rattle.dbn_net.specs.declared.written.WrittenPattern.{WrittenPattern}
use Rattle.dbn_net.specs.declared.written.WrittenArc.{WrittenArc}
use Rattle.dbn_net.specs.declared.written.WrittenInput.{WrittenInput}
use Rattle.dbn_net.specs.declared.written.WrittenInput.TheVariants as input
use Rattle.dbn_net.specs.declared.written.WrittenTransition.{WrittenTransition}
use Rattle.dbn_net.specs.declared.written.Written.{Written}
use Rattle.dbn_net.specs.declared.written.Written.TheVariants as written
use Rattle.dbn_net.specs.declared.rules.Pattern.{Pattern}
use Rattle.dbn_net.specs.declared.rules.Arc.{Arc}
use Rattle.dbn_net.specs.declared.rules.Transition.{Transition}
use Rattle.dbn_net.specs.declared.decl.Decl.{Decl}
use Rattle.dbn_net.specs.declared.decl.Decl.TheVariants.{Relation, Key, Foreign, Always, Query, Act, Site, Trans}
use Rattle.dbn_net.specs.declared.decl.Entry.{Entry}
use Rattle.dbn_net.specs.declared.decl.Entry.TheVariants.{Part, Fact, Tokens}
use Rattle.dbn_net.specs.Maybe.{◌>>=◌, each, if_given}
use Rattle.dbn_net.specs.Forms.{with_word, declared, declaration_in}
use Rattle.dbn_net.specs.Printing.{on_no_line, no_lines, word, form, term_sexp, written_pattern_sexp, written_arc_parts, input_sexp, guard_sexps, ask_sexps, fresh_sexps, call_sexps, written_transition_parts, sexp_of}
use Rattle.dbn_net.specs.Naming.{control_number, pattern, arc, read, call, ins_of, reads_of, bound_of, is_in_clause, resolved_formula, transition, written_transition, resolved}
use Rattle.dbn_net.specs.Judging.{Begun, judged, is_count, arcs_counted}
use Rattle.dbn_net.specs.Sentences.{sentences}
use Rattle.dbn_net.specs.Values.{Marking}
use Rattle.dbn_net.specs.Texts.{Fault, State, Start, nothing, more_tokens, with_entry, read_one, read_each, and_then, first_broken, next_of, tested, finished, read_list, reads}
use Rattle.dbn_net.proofs.Maybes.{some_is, first_found, mapped_found}
use Rattle.dbn_net.proofs.JudgedLaws.{judged_is}
use Rattle.dbn_net.proofs.PassesLaws.{named_again}
use Rattle.dbn_net.proofs.WrittenFormulaLaws.{declaration_is}
use Rattle.dbn_net.proofs.DeclaredAgain.{declaration_found}
use Rattle.dbn_net.proofs.RoundText.{reads_is}
use Rattle.dbn_reader.specs.Light.{tokens_named, tokens_moved, tokens_in, tokens_held, IsLight}
use Rattle.dbn_reader.specs.Reading.{read_entry}
use Rattle.dbn_reader.proofs.ListsLaws.{lists, all_lists, lists_name, lists_const, lists_list, lists_append, lists_within}
use Rattle.dbn_reader.proofs.ReadingLaws.{one_read, was_read, numbered, state_is}

-- the greatest number of tokens of a pattern
abbrev most : ℕ
most = 4294967295

-- ---- lists do not see lines

lined_each : (line : ℕ) (parts : List Sexp) → AllByRecursion (λ one. lists (on_line line one.item) ≡ lists one.item) parts
    → all_lists (map (λ one. record { line = line; item = on_line line one.item }) parts) ≡ all_lists parts
lined_each line [] all = refl
lined_each line (one ∷ parts) all = (λ i. all.0 i + lined_each line parts all.1 i)

lists_lined : (line : ℕ) (one : Item) → lists (on_line line one) ≡ lists one
lists_lined line one = induction (λ i. lists (on_line line i) ≡ lists i) (record {
  name = λ name. ap lists (line_name line name);
  const = λ v. ap lists (line_const line v);
  list = λ parts all. ap lists (line_list line parts) ∙ lists_list _ ∙ ap suc (lined_each line parts all) ∙ sym (lists_list parts);
}) one

-- what is declared has as many lists as its S-expression
printed_lists : (one : Sexp) (w : Written) → declaration_in one ≡ Some w → lists (sexp_of w).item ≡ lists one.item
printed_lists one w is = ap (λ (x : Sexp). lists x.item) (declaration_found one w is) ∙ lists_lined 0 one.item

-- ---- patterns are lists

abbrev written_size : List WrittenArc → ℕ
written_size arcs = sum_by (λ p. length p.patterns) arcs

abbrev size : List Arc → ℕ
size arcs = sum_by (λ a. length a.patterns) arcs

some_lists : (parts : List Sexp) → all_lists parts ≤ lists (item.List parts)
some_lists parts = let e : lists (item.List parts) ≡ suc (all_lists parts) = lists_list parts in omega (arith, e)

patterns_listed : (hs : List WrittenPattern) → length hs ≤ all_lists (map written_pattern_sexp hs)
patterns_listed [] = omega arith
patterns_listed (h ∷ hs) =
    let one : lists (written_pattern_sexp h).item ≡ suc (all_lists (on_no_line (item.Const (value.Int h.many)) ∷ map term_sexp h.terms)) = lists_list (on_no_line (item.Const (value.Int h.many)) ∷ map term_sexp h.terms) in
    let rest : length hs ≤ all_lists (map written_pattern_sexp hs) = patterns_listed hs in
    omega (arith, one, rest)

arc_listed : (kind : List ℕ) (p : WrittenArc) → length p.patterns ≤ lists (form kind (written_arc_parts p)).item
arc_listed kind p =
    let inside : length p.patterns ≤ all_lists (map written_pattern_sexp p.patterns) = patterns_listed p.patterns in
    let whole : all_lists (word kind ∷ written_arc_parts p) ≤ lists (form kind (written_arc_parts p)).item = some_lists (word kind ∷ written_arc_parts p) in
    omega (arith, inside, whole)

arcs_listed : (kind : List ℕ) (ps : List WrittenArc) → written_size ps ≤ all_lists (map (λ p. form kind (written_arc_parts p)) ps)
arcs_listed kind [] = omega arith
arcs_listed kind (p ∷ ps) =
    let one : length p.patterns ≤ lists (form kind (written_arc_parts p)).item = arc_listed kind p in
    let rest : written_size ps ≤ all_lists (map (λ q. form kind (written_arc_parts q)) ps) = arcs_listed kind ps in
    let sums : written_size (p ∷ ps) ≡ length p.patterns + written_size ps = sum_by-cons (λ (q : WrittenArc). length q.patterns) p ps in
    omega (arith, one, rest, sums)

inputs_listed : (inputs : List WrittenInput) → written_size (ins_of inputs) ≤ all_lists (map input_sexp inputs)
inputs_listed [] = omega arith
inputs_listed (input.In p ∷ inputs) =
    let one : length p.patterns ≤ lists (form (codes "in") (written_arc_parts p)).item = arc_listed (codes "in") p in
    let rest : written_size (ins_of inputs) ≤ all_lists (map input_sexp inputs) = inputs_listed inputs in
    let sums : written_size (p ∷ ins_of inputs) ≡ length p.patterns + written_size (ins_of inputs) = sum_by-cons (λ (q : WrittenArc). length q.patterns) p (ins_of inputs) in
    omega (arith, one, rest, sums)
inputs_listed (input.Read g ∷ inputs) =
    let rest : written_size (ins_of inputs) ≤ all_lists (map input_sexp inputs) = inputs_listed inputs in
    omega (arith, rest)

-- the lists of the parts of a transition, one after the other
parts_lists : (a : Sexp) (ins guards asks freshes calls outs backs : List Sexp)
    → all_lists ins + all_lists outs + all_lists backs ≤ all_lists (a ∷ ins ++ guards ++ asks ++ freshes ++ calls ++ outs ++ backs)
parts_lists a ins guards asks freshes calls outs backs =
    let e1 = lists_append (a ∷ ins) guards in
    let e2 = lists_append (a ∷ ins ++ guards) asks in
    let e3 = lists_append (a ∷ ins ++ guards ++ asks) freshes in
    let e4 = lists_append (a ∷ ins ++ guards ++ asks ++ freshes) calls in
    let e5 = lists_append (a ∷ ins ++ guards ++ asks ++ freshes ++ calls) outs in
    let e6 = lists_append (a ∷ ins ++ guards ++ asks ++ freshes ++ calls ++ outs) backs in
    omega (arith, e1, e2, e3, e4, e5, e6)

abbrev all_size : WrittenTransition → ℕ
all_size r = written_size (ins_of r.inputs) + written_size r.outs + written_size r.backs

transition_listed : (r : WrittenTransition) → all_size r ≤ lists (sexp_of (written.Transition r)).item
transition_listed r =
    let ins : written_size (ins_of r.inputs) ≤ all_lists (map input_sexp r.inputs) = inputs_listed r.inputs in
    let outs : written_size r.outs ≤ all_lists (map (λ p. form (codes "out") (written_arc_parts p)) r.outs) = arcs_listed (codes "out") r.outs in
    let backs : written_size r.backs ≤ all_lists (map (λ p. form (codes "back") (written_arc_parts p)) r.backs) = arcs_listed (codes "back") r.backs in
    let parts = parts_lists (word r.name) (map input_sexp r.inputs) (guard_sexps r.guard) (ask_sexps r.asked) (fresh_sexps r.fresh) (call_sexps r.call)
    (map (λ p. form (codes "out") (written_arc_parts p)) r.outs) (map (λ p. form (codes "back") (written_arc_parts p)) r.backs) in
    let whole : all_lists (word (codes "transition") ∷ written_transition_parts r) ≤ lists (sexp_of (written.Transition r)).item = some_lists (word (codes "transition") ∷ written_transition_parts r) in
    omega (arith, ins, outs, backs, parts, whole)

-- ---- arcs name as many patterns as they were written with

arcs_sized : (net : List Decl) (ps : List WrittenArc) (arcs : List Arc) → each (arc net) ps ≡ Some arcs → size arcs ≡ written_size ps
arcs_sized net [] arcs e = ap size (sym (some_is [] arcs e))
arcs_sized net (p ∷ ps) arcs e =
    let (a, is, rest) = first_found (arc net p) (λ b. each (arc net) ps >>= λ bs. Some (b ∷ bs)) arcs e in
    let (others, are, made) = first_found (each (arc net) ps) (λ bs. Some (a ∷ bs)) arcs rest in
    let (n, at, same) = mapped_found (λ k. record { place = k; patterns = map pattern p.patterns }) (control_number net p.place) a is in
    let one : length a.patterns ≡ length p.patterns = ap (λ (b : Arc). length b.patterns) (sym same) ∙ length-map p.patterns pattern in
    let more : size others ≡ written_size ps = arcs_sized net ps others are in
    ap size (sym (some_is (a ∷ others) arcs made))
    ∙ sum_by-cons (λ (b : Arc). length b.patterns) a others ∙ (λ i. one i + more i)
    ∙ sym (sum_by-cons (λ (q : WrittenArc). length q.patterns) p ps)

patterns_few : (ps : List Pattern) → list_all (λ p. is_count p.many) ps ≡ true → sum_by (λ p. p.many) ps ≤ length ps * most
patterns_few [] e = omega arith
patterns_few (p ∷ ps) e =
    let both = and_parts (is_count p.many) (list_all (λ q. is_count q.many) ps) e in
    let one : p.many ≤ 4294967295 = leb-true p.many 4294967295 (and_parts (nat_le 1 p.many) (nat_le p.many 4294967295) both.0).1 in
    let rest : sum_by (λ q. q.many) ps ≤ length ps * 4294967295 = patterns_few ps both.1 in
    let sums : sum_by (λ (q : Pattern). q.many) (p ∷ ps) ≡ p.many + sum_by (λ (q : Pattern). q.many) ps = sum_by-cons (λ (q : Pattern). q.many) p ps in
    omega (arith, one, rest, sums)

arcs_few : (arcs : List Arc) → arcs_counted arcs ≡ true → tokens_named arcs ≤ size arcs * most
arcs_few [] e = omega arith
arcs_few (a ∷ arcs) e =
    let both = and_parts (list_all (λ (p : Pattern). is_count p.many) a.patterns) (arcs_counted arcs) e in
    let one : sum_by (λ (p : Pattern). p.many) a.patterns ≤ length a.patterns * 4294967295 = patterns_few a.patterns both.0 in
    let rest : tokens_named arcs ≤ size arcs * 4294967295 = arcs_few arcs both.1 in
    let sums : tokens_named (a ∷ arcs) ≡ sum_by (λ (p : Pattern). p.many) a.patterns + tokens_named arcs = sum_by-cons (λ (b : Arc). sum_by (λ (p : Pattern). p.many) b.patterns) a arcs in
    let sizes : size (a ∷ arcs) ≡ length a.patterns + size arcs = sum_by-cons (λ (b : Arc). length b.patterns) a arcs in
    omega (arith, one, rest, sums, sizes)

-- a transition with numbers has the patterns that were written
transition_sized : (net : List Decl) (r : WrittenTransition) (t : Transition) → transition net r ≡ Some t → size t.ins + size t.outs + size t.backs ≡ all_size r
transition_sized net r t e =
    let (ins, a, e1) = first_found (each (arc net) (ins_of r.inputs)) _ t e in
    let (reads, b, e2) = first_found (each (read net) (reads_of r.inputs)) _ t e1 in
    let (guard, c, e3) = first_found (if_given (resolved_formula []) r.guard) _ t e2 in
    let (called, d, e4) = first_found (if_given (call net) r.call) _ t e3 in
    let (outs, f, e5) = first_found (each (arc net) r.outs) _ t e4 in
    let (backs, g, e6) = first_found (each (arc net) r.backs) _ t e5 in
    let made : Transition = record { name = r.name; ins = ins; reads = reads; mixture = map is_in_clause r.inputs; guard = guard; asked = r.asked; fresh = r.fresh; call = called; outs = outs; backs = backs; bound = bound_of net r.inputs } in
    let same : made ≡ t = some_is made t e6 in
    ap (λ (u : Transition). size u.ins + size u.outs + size u.backs) (sym same)
    ∙ (λ i. arcs_sized net (ins_of r.inputs) ins a i + arcs_sized net r.outs outs f i + arcs_sized net r.backs backs g i)

transition_few : (t : Transition) → arcs_counted t.ins ≡ true → arcs_counted t.outs ≡ true → arcs_counted t.backs ≡ true → tokens_moved t ≤ (size t.ins + size t.outs + size t.backs) * most
transition_few t a b c =
    let ins : tokens_named t.ins ≤ size t.ins * 4294967295 = arcs_few t.ins a in
    let outs : tokens_named t.outs ≤ size t.outs * 4294967295 = arcs_few t.outs b in
    let backs : tokens_named t.backs ≤ size t.backs * 4294967295 = arcs_few t.backs c in
    omega (arith, ins, outs, backs)

trans_is : (t u : Transition) → Part (Trans t) ≡ Part (Trans u) → t ≡ u
trans_is t u e = cc

-- a transition that is read names tokens by its lists
trans_light : (net : List Decl) (begun : Begun) (one : Sexp) (w : Written) (t : Transition) → declaration_in one ≡ Some w → judged net begun w ≡ Ok (Part (Trans t))
    → tokens_moved t ≤ lists one.item * most
trans_light net begun one w t shape tests =
    let j = judged_is net begun w (Part (Trans t)) tests in
    let r : WrittenTransition = written_transition net t in
    let again : written.Transition r ≡ w = named_again net w (Trans t) j.is j.passed.counted in
    let (u, at, made) = mapped_found (λ v. Part (Trans v)) (transition net r) (Part (Trans t)) (subst (λ x. resolved net x ≡ Some (Part (Trans t))) (sym again) j.is) in
    let p = and_parts (arcs_counted t.ins && arcs_counted t.outs) (arcs_counted t.backs) j.passed.counted in
    let q = and_parts (arcs_counted t.ins) (arcs_counted t.outs) p.0 in
    let few : tokens_moved t ≤ (size t.ins + size t.outs + size t.backs) * 4294967295 = transition_few t q.0 q.1 p.1 in
    let sized : size t.ins + size t.outs + size t.backs ≡ all_size r = transition_sized net r t (at ∙ ap Some (trans_is u t made)) in
    let listed : all_size r ≤ lists (sexp_of (written.Transition r)).item = transition_listed r in
    let same : lists (sexp_of (written.Transition r)).item ≡ lists one.item = ap (λ x. lists (sexp_of x).item) again ∙ printed_lists one w shape in
    omega (arith, few, sized, listed, same)

-- ---- tokens

inserted_light : (es : List (List Value × ℕ)) (row : List Value) (v : ℕ) → tokens_in (insert_entry row_cmp es row v) ≤ tokens_in es + v
inserted_light [] row v = let sums : tokens_in ((row, v) ∷ []) ≡ v + tokens_in [] = sum_by-cons (λ (c : List Value × ℕ). c.1) (row, v) [] in omega (arith, sums)
inserted_light (e ∷ es) row v =
    by (row_cmp row e.0) (sum_by-cons (λ (c : List Value × ℕ). c.1) (row, v) (e ∷ es)) (sum_by-cons (λ (c : List Value × ℕ). c.1) (e.0, v) es)
    (sum_by-cons (λ (c : List Value × ℕ). c.1) e (insert_entry row_cmp es row v)) (sum_by-cons (λ (c : List Value × ℕ). c.1) e es) (inserted_light es row v)
  where
    by : (r : Ordering) → tokens_in ((row, v) ∷ e ∷ es) ≡ v + tokens_in (e ∷ es) → tokens_in ((e.0, v) ∷ es) ≡ v + tokens_in es
        → tokens_in (e ∷ insert_entry row_cmp es row v) ≡ e.1 + tokens_in (insert_entry row_cmp es row v) → tokens_in (e ∷ es) ≡ e.1 + tokens_in es
        → tokens_in (insert_entry row_cmp es row v) ≤ tokens_in es + v
        → tokens_in (match_ordering r ((row, v) ∷ e ∷ es) ((e.0, v) ∷ es) (e ∷ insert_entry row_cmp es row v)) ≤ tokens_in (e ∷ es) + v
    by Less a b c d rest = omega (arith, a)
    by Equal a b c d rest = omega (arith, b, d)
    by Greater a b c d rest = omega (arith, c, d, rest)

set_light : (marking : Marking) (n : ℕ) (new : List (List Value × ℕ)) (many : ℕ) → tokens_in new ≤ tokens_in (slice_index_or marking n []) + many
    → tokens_held (slice_set marking n new) ≤ tokens_held marking + many
set_light [] n new many le = omega arith
set_light (held ∷ marking) zero new many le =
    let a : tokens_held (new ∷ marking) ≡ tokens_in new + tokens_held marking = sum_by-cons tokens_in new marking in
    let b : tokens_held (held ∷ marking) ≡ tokens_in held + tokens_held marking = sum_by-cons tokens_in held marking in
    omega (arith, a, b, le)
set_light (held ∷ marking) (suc n) new many le =
    let a : tokens_held (held ∷ slice_set marking n new) ≡ tokens_in held + tokens_held (slice_set marking n new) = sum_by-cons tokens_in held (slice_set marking n new) in
    let b : tokens_held (held ∷ marking) ≡ tokens_in held + tokens_held marking = sum_by-cons tokens_in held marking in
    let rest : tokens_held (slice_set marking n new) ≤ tokens_held marking + many = set_light marking n new many le in
    omega (arith, a, b, rest)

given_light : (marking : Marking) (n : ℕ) (row : List Value) (many : ℕ) → count_at row_cmp marking n row ≡ 0 → tokens_held (with_tokens row_cmp marking n row many) ≤ tokens_held marking + many
given_light marking n row many none =
    let count : count_of row_cmp (place_of marking n) row + many ≡ many = ap (λ k. k + many) none ∙ zero_more many in
    set_light marking n (added row_cmp (place_of marking n) row many) many
    (subst (λ k. tokens_in (insert_entry row_cmp (place_of marking n) row k) ≤ tokens_in (place_of marking n) + many) (sym count) (inserted_light (place_of marking n) row many))
  where
    zero_more : (m : ℕ) → 0 + m ≡ m
    zero_more m = omega arith

held_more : (d : Decl) (marking : Marking) → tokens_held (more_tokens d marking) ≡ tokens_held marking
held_more (Site p) marking =
    let a : tokens_held (marking ++ [] ∷ []) ≡ tokens_held marking + tokens_held ([] ∷ []) = sum_by-append tokens_in marking ([] ∷ []) in
    let b : tokens_held ([] ∷ []) ≡ 0 = refl in
    omega (arith, a, b)
held_more (Relation name fields) marking = refl
held_more (Key rel fields) marking = refl
held_more (Foreign rel fields to to_fields) marking = refl
held_more (Always name body) marking = refl
held_more (Query name vars body) marking = refl
held_more (Act a) marking = refl
held_more (Trans t) marking = refl

-- ---- one declaration after the other

-- so many lists were read
record IsLightBy (n : ℕ) (s : State) : Type 0 where
  moved : (t : Transition) → In (Trans t) s.decls → tokens_moved t ≤ n * most
  held : tokens_held s.begun.tokens ≤ n * most

one_list : (one : Sexp) (w : Written) → declaration_in one ≡ Some w → 1 ≤ lists one.item
one_list one w is =
    let (parts, at, rest) = first_found (list_in one) (with_word declared) w (sym (declaration_is one) ∙ is) in
    let here : lists one.item ≡ suc (all_lists parts) = ap lists (list_found one parts at) ∙ lists_list parts in
    omega (arith, here)

more_light : (n k : ℕ) (m : ℕ) → m ≤ n * most → m ≤ (n + k) * most
more_light n k m le = let l : m ≤ n * 4294967295 = le in omega (arith, l)

last_light : (n k : ℕ) (m : ℕ) → m ≤ k * most → m ≤ (n + k) * most
last_light n k m le = let l : m ≤ k * 4294967295 = le in omega (arith, l)

entry_light : (n line : ℕ) (s : State) (one : Sexp) (e : Entry) (w : Written) → IsLightBy n s → declaration_in one ≡ Some w → judged s.decls s.begun w ≡ Ok e
    → IsLightBy (n + lists one.item) (with_entry line s e)
entry_light n line s one (Part d) w light shape tests = record {
  moved = λ t at. ⊎_elim
      (λ old. more_light n (lists one.item) (tokens_moved t) (light.moved t old))
      (λ new. last_light n (lists one.item) (tokens_moved t)
      (trans_light s.decls s.begun one w t shape (subst (λ x. judged s.decls s.begun w ≡ Ok (Part x)) (sym (alone (Trans t) d new)) tests)))
      (in_append (Trans t) s.decls (d ∷ []) at);
  held = more_light n (lists one.item) (tokens_held (more_tokens d s.begun.tokens)) (subst (λ m. m ≤ n * most) (sym (held_more d s.begun.tokens)) light.held);
}
  where
    alone : (x y : Decl) → In x (y ∷ []) → x ≡ y
    alone x y (inl here) = here
    alone x y (inr there) = absurd there
entry_light n line s one (Fact rel row) w light shape tests = record {
  moved = λ t at. more_light n (lists one.item) (tokens_moved t) (light.moved t at);
  held = more_light n (lists one.item) (tokens_held s.begun.tokens) light.held;
}
entry_light n line s one (Tokens place many row) w light shape tests =
    let j = judged_is s.decls s.begun w (Tokens place many row) tests in
    let new : count_at row_cmp s.begun.tokens place row ≡ 0 = (numbered s.decls s.begun w (Tokens place many row) j.is).1 j.once in
    let small : many ≤ 4294967295 = leb-true many 4294967295 (and_parts (nat_le 1 many) (nat_le many 4294967295) j.passed.counted).1 in
    let given : tokens_held (with_tokens row_cmp s.begun.tokens place row many) ≤ tokens_held s.begun.tokens + many = given_light s.begun.tokens place row many new in
    let some : 1 ≤ lists one.item = one_list one w shape in
    let before : tokens_held s.begun.tokens ≤ n * 4294967295 = light.held in
    record {
      moved = λ t at. more_light n (lists one.item) (tokens_moved t) (light.moved t at);
      held = omega (arith, small, given, some, before);
    }

read_light : (n : ℕ) (s next : State) (one : Sexp) → IsLightBy n s → read_one s one ≡ Ok next → IsLightBy (n + lists one.item) next
read_light n s next one light is = by (read_entry s one) refl (sym (one_read s one) ∙ is)
  where
    by : (r : Result Entry Fault) → read_entry s one ≡ r → and_then r (λ e. Ok (with_entry one.line s e)) ≡ Ok next → IsLightBy (n + lists one.item) next
    by (Err x) at e = absurd cc
    by (Ok x) at e = let was = was_read s one x at in subst (IsLightBy (n + lists one.item)) (state_is (with_entry one.line s x) next e) (entry_light n one.line s one x was.written light was.shape was.tests)

then_read : (r : Result State Fault) (rest : List Sexp) (last : State) → and_then r (λ next. read_each next rest) ≡ Ok last → (mid : State) × (r ≡ Ok mid) × (read_each mid rest ≡ Ok last)
then_read (Ok mid) rest last e = (mid, refl, e)
then_read (Err x) rest last e = absurd cc

each_light : (n : ℕ) (list : List Sexp) (s last : State) → IsLightBy n s → read_each s list ≡ Ok last → IsLightBy (n + all_lists list) last
each_light n [] s last light e = let zero_more : n ≡ n + 0 = omega arith in subst (λ k. IsLightBy k last) zero_more (subst (IsLightBy n) (state_is s last e) light)
each_light n (one ∷ list) s last light e =
    let (mid, first, later) = then_read (read_one s one) list last e in
    let sums : n + lists one.item + all_lists list ≡ n + (lists one.item + all_lists list) = omega arith in
    subst (λ k. IsLightBy k last) sums (each_light (n + lists one.item) list mid last (read_light n s mid one light first) later)

-- ---- the whole text

few_lists : (bytes list m : ℕ) → 2 * list ≤ bytes → bytes ≤ 2 ^ 31 → m ≤ list * most → m ≤ 2 ^ 62
few_lists bytes list m twice short le =
    let l : m ≤ list * 4294967295 = le in
    let half : list ≤ 1073741824 = omega (arith, twice, short) in
    omega (arith, l, half)

start_is : (x y : Start) → ◌≡◌ {A = Result Start Fault} (Ok x) (Ok y) → x ≡ y
start_is x y e = cc

started : (list : List Sexp) (s : State) (start : Start) (o : Option ℕ) → tested list s o ≡ Ok start → (start.decls ≡ s.decls) × (start.tokens ≡ s.begun.tokens)
started list s start None e = let same : record { decls = s.decls; facts = s.begun.facts; tokens = s.begun.tokens; next = next_of list } ≡ start = start_is _ start e in (ap (λ (x : Start). x.decls) (sym same), ap (λ (x : Start). x.tokens) (sym same))
started list s start (Some line) e = absurd cc

-- what a text of at most 2^31 bytes is read as is light
pub text_light : (bytes : List ℕ) (start : Start) → length bytes ≤ 2 ^ 31 → reads bytes ≡ Ok start → IsLight start.decls start.tokens
text_light bytes start short e = by (sexps.reads 64 bytes) refl (sym (reads_is bytes) ∙ e)
  where
    last : (list : List Sexp) (s : State) → sexps.reads 64 bytes ≡ Ok list → read_each nothing list ≡ Ok s → finished list s ≡ Ok start → IsLight start.decls start.tokens
    last list s is each e =
        let light = each_light 0 list nothing s (record { moved = λ t at. absurd at; held = omega arith }) each in
        let same = started list s start (first_broken s.begun.facts (zip s.lines (sentences s.decls))) e in
        let twice : 2 * all_lists list ≤ length bytes = lists_within 64 bytes list is in
        let zero_more : 0 + all_lists list ≡ all_lists list = omega arith in
        record {
          moved = λ t at. few_lists (length bytes) (all_lists list) (tokens_moved t) twice short
              (subst (λ k. tokens_moved t ≤ k * most) zero_more (light.moved t (subst (λ ds. In (Trans t) ds) same.0 at)));
          held = few_lists (length bytes) (all_lists list) (tokens_held start.tokens) twice short
              (subst (λ m. tokens_held m ≤ all_lists list * most) (sym same.1) (subst (λ k. tokens_held s.begun.tokens ≤ k * most) zero_more light.held));
        }

    each : (list : List Sexp) (r : Result State Fault) → sexps.reads 64 bytes ≡ Ok list → read_each nothing list ≡ r → and_then r (finished list) ≡ Ok start → IsLight start.decls start.tokens
    each list (Ok s) is at e = last list s is at e
    each list (Err x) is at e = absurd cc

    by : (r : Result (List Sexp) sexps.Fault) → sexps.reads 64 bytes ≡ r → read_list r ≡ Ok start → IsLight start.decls start.tokens
    by (Err x) is e = absurd cc
    by (Ok list) is e = each list (read_each nothing list) is refl e
