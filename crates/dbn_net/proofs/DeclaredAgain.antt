-- What is read as a declaration is printed as it was, apart from the lines.
use Rattle.std.proofs.Common.{◌≡◌, ℕ, ℤ, Bool, true, false, if◌then◌else◌, List, [], ◌∷◌, map, refl, sym, ap, subst, ◌∙◌, ⊎_elim, Option, Some, None, codes, option_map}
use Rattle.dbn_value.specs.declared.value.Value.{Value}
use Rattle.dbn_value.specs.declared.value.Value.TheVariants as value
use Rattle.dbn_value.specs.declared.value.ColType.{ColType}
use Rattle.dbn_value.specs.declared.term.Var.{Var}
use Rattle.dbn_sexp.specs.declared.sexp.Sexp.{Sexp}
use Rattle.dbn_net.specs.declared.written.WrittenFormula.{WrittenFormula}
use Rattle.dbn_net.specs.declared.written.WrittenAtom.{WrittenAtom}
use Rattle.dbn_net.specs.declared.written.WrittenPattern.{WrittenPattern}
use Rattle.dbn_net.specs.declared.written.WrittenArc.{WrittenArc}
use Rattle.dbn_net.specs.declared.written.WrittenInput.TheVariants as input
use Rattle.dbn_net.specs.declared.written.WrittenTransition.{WrittenTransition}
use Rattle.dbn_net.specs.declared.written.WrittenClause.{WrittenClause}
use Rattle.dbn_net.specs.declared.written.WrittenClause.TheVariants.{Inputs, Guards, Asks, Draws, Calls, Puts, Returns}
use Rattle.dbn_net.specs.declared.written.Written.{Written}
use Rattle.dbn_net.specs.declared.written.Written.TheVariants as written
use Rattle.dbn_net.specs.Maybe.{◌>>=◌, each, some, only_if}
use Rattle.dbn_sexp.specs.Parts.{constant_in, list_in}
use Rattle.dbn_net.specs.Forms.{is_word, name_in, variable_in, term_in, type_in, typed_in, typed_variable_in, scope_in, is_connective, int_of, int_in, written_atom_of, written_atom_in, written_pattern_of, written_pattern_in, written_arc_of, is_guard, body_in, guard_of, clause_of, clause_in, bare_transition, clauses_from, relation_of, key_of, fields_in, side_of, referring_of, foreign_of, always_of, query_of, effect_of, effect_in, action_of, control_of, view_of, transition_of, fact_of, token_of, declared, declaration_in}
use Rattle.dbn_net.specs.Printing.{no_lines, word, constant, form, term_sexp, type_sexp, typed_sexp, variable_sexp, typed_variable_sexp, scope_sexp, names_sexp, formula_sexp, written_atom_parts, written_atom_sexp, written_pattern_sexp, written_arc_parts, written_transition_parts, sexp_of}
use Rattle.dbn_net.proofs.Maybes.{some_is, first_found, if_found, if_either, mapped_found, some_same}
use Rattle.dbn_net.proofs.WrittenFormulaLaws.{declaration_is}
use Rattle.dbn_net.proofs.Found.{word_is, constant_found, name_found, list_printed, each_found, Headed, headed, form_printed}
use Rattle.dbn_net.proofs.ParsedAgain.{variable_found, term_found, type_found, typed_found, typed_variable_found, scope_found, formula_found, always_parts, query_parts}
use Rattle.dbn_net.proofs.TransitionsFound.{clause_sexp, IsProper, Ranked, clauses_printed}

abbrev Printed : List Sexp → List Sexp → Type 0
Printed printed parts = printed ≡ map no_lines parts

first_two : (a b : Sexp) (x y : Sexp) → a ≡ no_lines x → b ≡ no_lines y → (a ∷ b ∷ []) ≡ map no_lines (x ∷ y ∷ [])
first_two a b x y p q = ap (λ u. u ∷ b ∷ []) p ∙ ap (λ u. no_lines x ∷ u ∷ []) q

headed_list : (a : Sexp) (as' : List Sexp) (x : Sexp) (xs : List Sexp) → a ≡ no_lines x → as' ≡ map no_lines xs → (a ∷ as') ≡ map no_lines (x ∷ xs)
headed_list a as' x xs p q = ap (λ u. u ∷ as') p ∙ ap (λ us. no_lines x ∷ us) q

-- ---- atoms and patterns

written_atom_shown : (parts : List Sexp) (g : WrittenAtom) → written_atom_of parts ≡ Some g → Printed (written_atom_parts g) parts
written_atom_shown [] g e = absurd cc
written_atom_shown (r ∷ parts) g e =
    let (name, is, rest) = first_found (name_in r) (λ n. each term_in parts >>= λ ts. Some (record { name = n; terms = ts })) g e in
    let (terms, are, made) = first_found (each term_in parts) (λ ts. Some (record { name = name; terms = ts })) g rest in
    ap written_atom_parts (sym (some_is (record { name = name; terms = terms }) g made))
    ∙ headed_list (word name) (map term_sexp terms) r parts (name_found r name is) (each_found term_in term_sexp term_found parts terms are)

written_atom_found : (one : Sexp) (g : WrittenAtom) → written_atom_in one ≡ Some g → written_atom_sexp g ≡ no_lines one
written_atom_found one g e =
    let (parts, is, read) = first_found (list_in one) written_atom_of g e in
    list_printed one parts (written_atom_parts g) is (written_atom_shown parts g read)

int_is : (v : Value) (z : ℤ) → int_of v ≡ Some z → value.Int z ≡ v
int_is (value.Int n) z e = ap value.Int (sym (some_is n z e))
int_is (value.Text b) z e = absurd cc
int_is (value.Id n) z e = absurd cc

int_found : (one : Sexp) (z : ℤ) → int_in one ≡ Some z → constant (value.Int z) ≡ no_lines one
int_found one z e =
    let (v, is, made) = first_found (constant_in one) int_of z e in
    ap constant (int_is v z made) ∙ constant_found one v is

written_pattern_shown : (parts : List Sexp) (h : WrittenPattern) → written_pattern_of parts ≡ Some h → Printed (constant (value.Int h.many) ∷ map term_sexp h.terms) parts
written_pattern_shown [] h e = absurd cc
written_pattern_shown (m ∷ parts) h e =
    let (many, is, rest) = first_found (int_in m) (λ n. each term_in parts >>= λ ts. Some (record { many = n; terms = ts })) h e in
    let (terms, are, made) = first_found (each term_in parts) (λ ts. Some (record { many = many; terms = ts })) h rest in
    ap (λ x. constant (value.Int x.many) ∷ map term_sexp x.terms) (sym (some_is (record { many = many; terms = terms }) h made))
    ∙ headed_list (constant (value.Int many)) (map term_sexp terms) m parts (int_found m many is) (each_found term_in term_sexp term_found parts terms are)

written_pattern_found : (one : Sexp) (h : WrittenPattern) → written_pattern_in one ≡ Some h → written_pattern_sexp h ≡ no_lines one
written_pattern_found one h e =
    let (parts, is, read) = first_found (list_in one) written_pattern_of h e in
    list_printed one parts (constant (value.Int h.many) ∷ map term_sexp h.terms) is (written_pattern_shown parts h read)

some_each : {B : Type 0} (f : Sexp → Option B) (p : B → Sexp) → ((one : Sexp) (y : B) → f one ≡ Some y → p y ≡ no_lines one)
    → (parts : List Sexp) (ys : List B) → (each f parts >>= some) ≡ Some ys → Printed (map p ys) parts
some_each f p found parts ys e =
    let (zs, are, made) = first_found (each f parts) some ys e in
    ap (map p) (sym (some_same zs ys made)) ∙ each_found f p found parts zs are

written_arc_shown : (parts : List Sexp) (q : WrittenArc) → written_arc_of parts ≡ Some q → Printed (written_arc_parts q) parts
written_arc_shown [] q e = absurd cc
written_arc_shown (p ∷ parts) q e =
    let (place, is, rest) = first_found (name_in p) (λ n. each written_pattern_in parts >>= some >>= λ hs. Some (record { place = n; patterns = hs })) q e in
    let (patterns, are, made) = first_found (each written_pattern_in parts >>= some) (λ hs. Some (record { place = place; patterns = hs })) q rest in
    ap written_arc_parts (sym (some_is (record { place = place; patterns = patterns }) q made))
    ∙ headed_list (word place) (map written_pattern_sexp patterns) p parts (name_found p place is) (some_each written_pattern_in written_pattern_sexp written_pattern_found parts patterns are)

-- ---- clauses

record ClauseShown (w : List ℕ) (parts : List Sexp) (c : WrittenClause) : Type 0 where
  pub printed : List Sexp
  pub is : clause_sexp c ≡ form w printed
  pub same : Printed printed parts
  pub proper : IsProper c

proper_asks : (xs ys : List (Var × ColType)) → some xs ≡ Some ys → IsProper (Asks ys)
proper_asks [] ys e = absurd cc
proper_asks (x ∷ xs) [] e = absurd cc
proper_asks (x ∷ xs) (y ∷ ys) e = tt

proper_draws : (xs ys : List Var) → some xs ≡ Some ys → IsProper (Draws ys)
proper_draws [] ys e = absurd cc
proper_draws (x ∷ xs) [] e = absurd cc
proper_draws (x ∷ xs) (y ∷ ys) e = tt

guard_shown : (w : List ℕ) (parts : List Sexp) (c : WrittenClause) → w ≡ codes "guard" → guard_of parts ≡ Some c → ClauseShown w parts c
guard_shown w [] c k e = absurd cc
guard_shown w (g ∷ []) c k e =
    let (p, is, rest) = first_found (body_in g) (λ q. only_if (is_guard q) (Guards q)) c e in
    let made = if_found (is_guard p) (Some (Guards p)) c rest in
    proved p (formula_found 64 g p is) (some_is (Guards p) c made.1)
  where
    proved : (p : WrittenFormula) → formula_sexp p ≡ no_lines g → Guards p ≡ c → ClauseShown w (g ∷ []) c
    proved p same made = subst (ClauseShown w (g ∷ [])) made (record { printed = formula_sexp p ∷ []; is = ap (λ v. form v (formula_sexp p ∷ [])) (sym k); same = ap (λ x. x ∷ []) same; proper = tt })
guard_shown w (g ∷ h ∷ parts) c k e = absurd cc

clause_shown : (w : List ℕ) (parts : List Sexp) (c : WrittenClause) → clause_of w parts ≡ Some c → ClauseShown w parts c
clause_shown w parts c e =
    ⊎_elim (λ a. let (p, is, made) = mapped_found (λ q. Inputs (input.In q)) (written_arc_of parts) c a.1 in
    subst (ClauseShown w parts) made (record { printed = written_arc_parts p; is = ap (λ v. form v (written_arc_parts p)) (sym (word_is w (codes "in") a.0)); same = written_arc_shown parts p is; proper = tt })) (λ a.
    ⊎_elim (λ b. let (g, is, made) = mapped_found (λ q. Inputs (input.Read q)) (written_atom_of parts) c b.1 in
    subst (ClauseShown w parts) made (record { printed = written_atom_parts g; is = ap (λ v. form v (written_atom_parts g)) (sym (word_is w (codes "read") b.0)); same = written_atom_shown parts g is; proper = tt })) (λ b.
    ⊎_elim (λ d. guard_shown w parts c (word_is w (codes "guard") d.0) d.1) (λ d.
    ⊎_elim (λ n. let (xs, is, made) = mapped_found Asks (each typed_variable_in parts >>= some) c n.1 in
    let (ys, are, kept) = first_found (each typed_variable_in parts) some xs is in
    subst (ClauseShown w parts) made (record { printed = map typed_variable_sexp xs; is = ap (λ v. form v (map typed_variable_sexp xs)) (sym (word_is w (codes "ask") n.0)); same = some_each typed_variable_in typed_variable_sexp typed_variable_found parts xs is; proper = proper_asks ys xs kept })) (λ n.
    ⊎_elim (λ f. let (xs, is, made) = mapped_found Draws (each variable_in parts >>= some) c f.1 in
    let (ys, are, kept) = first_found (each variable_in parts) some xs is in
    subst (ClauseShown w parts) made (record { printed = map variable_sexp xs; is = ap (λ v. form v (map variable_sexp xs)) (sym (word_is w (codes "fresh") f.0)); same = some_each variable_in variable_sexp variable_found parts xs is; proper = proper_draws ys xs kept })) (λ f.
    ⊎_elim (λ h. let (g, is, made) = mapped_found Calls (written_atom_of parts) c h.1 in
    subst (ClauseShown w parts) made (record { printed = written_atom_parts g; is = ap (λ v. form v (written_atom_parts g)) (sym (word_is w (codes "do") h.0)); same = written_atom_shown parts g is; proper = tt })) (λ h.
    ⊎_elim (λ j. let (p, is, made) = mapped_found Puts (written_arc_of parts) c j.1 in
    subst (ClauseShown w parts) made (record { printed = written_arc_parts p; is = ap (λ v. form v (written_arc_parts p)) (sym (word_is w (codes "out") j.0)); same = written_arc_shown parts p is; proper = tt })) (λ j.
    let last = if_found (is_word w (codes "back")) (option_map Returns (written_arc_of parts)) c j.1 in
    let (p, is, made) = mapped_found Returns (written_arc_of parts) c last.1 in
    subst (ClauseShown w parts) made (record { printed = written_arc_parts p; is = ap (λ v. form v (written_arc_parts p)) (sym (word_is w (codes "back") last.0)); same = written_arc_shown parts p is; proper = tt }))
    (if_either (is_word w (codes "out")) _ _ c h.1))
    (if_either (is_word w (codes "do")) _ _ c f.1))
    (if_either (is_word w (codes "fresh")) _ _ c n.1))
    (if_either (is_word w (codes "ask")) _ _ c d.1))
    (if_either (is_word w (codes "guard")) _ _ c b.1))
    (if_either (is_word w (codes "read")) _ _ c a.1))
    (if_either (is_word w (codes "in")) _ _ c e)

pub clause_found : (one : Sexp) (c : WrittenClause) → clause_in one ≡ Some c → (clause_sexp c ≡ no_lines one) × IsProper c
clause_found one c e =
    let h : Headed clause_of one c = headed clause_of one c e in
    let s : ClauseShown h.word h.parts c = clause_shown h.word h.parts c h.is_read in
    (s.is ∙ form_printed clause_of one c h s.printed s.same, s.proper)

bare_ranked : (name : List ℕ) → Ranked 0 (bare_transition name)
bare_ranked name = record { guard = λ l. refl; asked = λ l. refl; fresh = λ l. refl; call = λ l. refl; outs = λ l. refl; backs = λ l. refl }

pub transition_parts : (parts : List Sexp) (w : Written) → transition_of parts ≡ Some w → (r : WrittenTransition) × (w ≡ written.Transition r) × Printed (written_transition_parts r) parts
transition_parts [] w e = absurd cc
transition_parts (t ∷ parts) w e =
    let (name, is, rest) = first_found (name_in t) (λ n. clauses_from (0, bare_transition n) parts >>= λ r. Some (written.Transition r)) w e in
    let (r, was, made) = first_found (clauses_from (0, bare_transition name) parts) (λ x. Some (written.Transition x)) w rest in (
      r,
      sym (some_is (written.Transition r) w made),
      clauses_printed clause_found 0 (bare_transition name) parts r (bare_ranked name) was ∙ ap (λ x. x ∷ map no_lines parts) (name_found t name is),
    )

-- ---- the other shapes

record Shows (w : List ℕ) (parts : List Sexp) (x : Written) : Type 0 where
  pub printed : List Sexp
  pub is : sexp_of x ≡ form w printed
  pub same : Printed printed parts

-- a declaration that is printed with this word
by_word : (w k : List ℕ) (parts : List Sexp) (y x : Written) (printed : List Sexp) → is_word w k ≡ true → sexp_of y ≡ form k printed → y ≡ x → Printed printed parts → Shows w parts x
by_word w k parts y x printed word as' made same = record { printed = printed; is = ap sexp_of (sym made) ∙ as' ∙ ap (λ v. form v printed) (sym (word_is w k word)); same = same }

relation_shows : (w : List ℕ) (parts : List Sexp) (x : Written) → is_word w (codes "relation") ≡ true → relation_of parts ≡ Some x → Shows w parts x
relation_shows w [] x k e = absurd cc
relation_shows w (r ∷ parts) x k e =
    let (name, is, rest) = first_found (name_in r) (λ n. each typed_in parts >>= λ fs. if is_connective n then None else Some (written.Relation n fs)) x e in
    let (fields, are, last) = first_found (each typed_in parts) (λ fs. if is_connective name then None else Some (written.Relation name fs)) x rest in
    by_word w (codes "relation") (r ∷ parts) (written.Relation name fields) x (word name ∷ map typed_sexp fields) k refl (other (is_connective name) (written.Relation name fields) x last)
    (headed_list (word name) (map typed_sexp fields) r parts (name_found r name is) (each_found typed_in typed_sexp typed_found parts fields are))
  where
    other : (b : Bool) (y x : Written) → (if b then None else Some y) ≡ Some x → y ≡ x
    other true y x e = absurd cc
    other false y x e = some_is y x e

key_shows : (w : List ℕ) (parts : List Sexp) (x : Written) → is_word w (codes "key") ≡ true → key_of parts ≡ Some x → Shows w parts x
key_shows w [] x k e = absurd cc
key_shows w (r ∷ parts) x k e =
    let (rel, is, rest) = first_found (name_in r) (λ n. each name_in parts >>= some >>= λ fs. Some (written.Key n fs)) x e in
    let (fields, are, made) = first_found (each name_in parts >>= some) (λ fs. Some (written.Key rel fs)) x rest in
    by_word w (codes "key") (r ∷ parts) (written.Key rel fields) x (word rel ∷ map word fields) k refl (some_is (written.Key rel fields) x made)
    (headed_list (word rel) (map word fields) r parts (name_found r rel is) (some_each name_in word name_found parts fields are))

fields_found : (one : Sexp) (fs : List (List ℕ)) → fields_in one ≡ Some fs → names_sexp fs ≡ no_lines one
fields_found one fs e =
    let (gs, rest, kept) = first_found (list_in one >>= each name_in) some fs e in
    let (parts, is, read) = first_found (list_in one) (each name_in) gs rest in
    ap names_sexp (sym (some_same gs fs kept)) ∙ list_printed one parts (map word gs) is (each_found name_in word name_found parts gs read)

side_found : (r fs : Sexp) (a : List ℕ × List (List ℕ)) → side_of r fs ≡ Some a → (word a.0 ≡ no_lines r) × (names_sexp a.1 ≡ no_lines fs)
side_found r fs a e =
    let (rel, is, rest) = first_found (name_in r) (λ n. fields_in fs >>= λ gs. Some (n, gs)) a e in
    let (fields, are, made) = first_found (fields_in fs) (λ gs. Some (rel, gs)) a rest in
    (ap (λ b. word b.0) (sym (some_is (rel, fields) a made)) ∙ name_found r rel is, ap (λ b. names_sexp b.1) (sym (some_is (rel, fields) a made)) ∙ fields_found fs fields are)

referring_shows : (w : List ℕ) (r fs : Sexp) (a : List ℕ × List (List ℕ)) (parts : List Sexp) (x : Written) → is_word w (codes "foreign") ≡ true → side_of r fs ≡ Some a → referring_of a parts ≡ Some x → Shows w (r ∷ fs ∷ parts) x
referring_shows w r fs a [] x k first e = absurd cc
referring_shows w r fs a (s ∷ []) x k first e = absurd cc
referring_shows w r fs a (s ∷ gs ∷ []) x k first e =
    let (b, is, made) = first_found (side_of s gs) (λ c. Some (written.Foreign a.0 a.1 c.0 c.1)) x e in
    let p = side_found r fs a first in
    let q = side_found s gs b is in
    by_word w (codes "foreign") (r ∷ fs ∷ s ∷ gs ∷ []) (written.Foreign a.0 a.1 b.0 b.1) x (word a.0 ∷ names_sexp a.1 ∷ word b.0 ∷ names_sexp b.1 ∷ []) k refl (some_is (written.Foreign a.0 a.1 b.0 b.1) x made)
    (headed_list (word a.0) (names_sexp a.1 ∷ word b.0 ∷ names_sexp b.1 ∷ []) r (fs ∷ s ∷ gs ∷ []) p.0
    (headed_list (names_sexp a.1) (word b.0 ∷ names_sexp b.1 ∷ []) fs (s ∷ gs ∷ []) p.1 (first_two (word b.0) (names_sexp b.1) s gs q.0 q.1)))
referring_shows w r fs a (s ∷ gs ∷ t ∷ parts) x k first e = absurd cc

foreign_shows : (w : List ℕ) (parts : List Sexp) (x : Written) → is_word w (codes "foreign") ≡ true → foreign_of parts ≡ Some x → Shows w parts x
foreign_shows w [] x k e = absurd cc
foreign_shows w (r ∷ []) x k e = absurd cc
foreign_shows w (r ∷ fs ∷ parts) x k e =
    let (a, is, rest) = first_found (side_of r fs) (λ b. referring_of b parts) x e in
    referring_shows w r fs a parts x k is rest

control_shows : (w : List ℕ) (parts : List Sexp) (x : Written) → is_word w (codes "place") ≡ true → control_of parts ≡ Some x → Shows w parts x
control_shows w [] x k e = absurd cc
control_shows w (p ∷ parts) x k e =
    let (name, is, rest) = first_found (name_in p) (λ n. each type_in parts >>= λ s. Some (written.Control n s)) x e in
    let (shape, are, made) = first_found (each type_in parts) (λ s. Some (written.Control name s)) x rest in
    by_word w (codes "place") (p ∷ parts) (written.Control name shape) x (word name ∷ map type_sexp shape) k refl (some_is (written.Control name shape) x made)
    (headed_list (word name) (map type_sexp shape) p parts (name_found p name is) (each_found type_in type_sexp type_found parts shape are))

view_shows : (w : List ℕ) (parts : List Sexp) (x : Written) → is_word w (codes "view") ≡ true → view_of parts ≡ Some x → Shows w parts x
view_shows w [] x k e = absurd cc
view_shows w (v ∷ []) x k e = absurd cc
view_shows w (v ∷ q ∷ []) x k e =
    let (name, is, rest) = first_found (name_in v) (λ n. name_in q >>= λ m. Some (written.View n m)) x e in
    let (query, was, made) = first_found (name_in q) (λ m. Some (written.View name m)) x rest in
    by_word w (codes "view") (v ∷ q ∷ []) (written.View name query) x (word name ∷ word query ∷ []) k refl (some_is (written.View name query) x made)
    (first_two (word name) (word query) v q (name_found v name is) (name_found q query was))
view_shows w (v ∷ q ∷ p ∷ parts) x k e = absurd cc

token_shows : (w : List ℕ) (parts : List Sexp) (x : Written) → is_word w (codes "token") ≡ true → token_of parts ≡ Some x → Shows w parts x
token_shows w [] x k e = absurd cc
token_shows w (p ∷ []) x k e = absurd cc
token_shows w (p ∷ m ∷ parts) x k e =
    let (place, is, rest) = first_found (name_in p) (λ n. int_in m >>= λ z. each constant_in parts >>= λ vs. Some (written.Token n z vs)) x e in
    let (many, was, last) = first_found (int_in m) (λ z. each constant_in parts >>= λ vs. Some (written.Token place z vs)) x rest in
    let (row, are, made) = first_found (each constant_in parts) (λ vs. Some (written.Token place many vs)) x last in
    by_word w (codes "token") (p ∷ m ∷ parts) (written.Token place many row) x (word place ∷ constant (value.Int many) ∷ map constant row) k refl (some_is (written.Token place many row) x made)
    (headed_list (word place) (constant (value.Int many) ∷ map constant row) p (m ∷ parts) (name_found p place is)
    (headed_list (constant (value.Int many)) (map constant row) m parts (int_found m many was) (each_found constant_in constant constant_found parts row are)))

effect_found : (kind : List ℕ) (one : Sexp) (gs : List WrittenAtom) → effect_in kind one ≡ Some gs → form kind (map written_atom_sexp gs) ≡ no_lines one
effect_found kind one gs e =
    let h : Headed (effect_of kind) one gs = headed (effect_of kind) one gs e in
    let (is, read) = if_found (is_word h.word kind) (each written_atom_in h.parts) gs h.is_read in
    ap (λ v. form v (map written_atom_sexp gs)) (sym (word_is h.word kind is))
    ∙ form_printed (effect_of kind) one gs h (map written_atom_sexp gs) (each_found written_atom_in written_atom_sexp written_atom_found h.parts gs read)

action_shows : (w : List ℕ) (parts : List Sexp) (x : Written) → is_word w (codes "action") ≡ true → action_of parts ≡ Some x → Shows w parts x
action_shows w [] x k e = absurd cc
action_shows w (a ∷ []) x k e = absurd cc
action_shows w (a ∷ b ∷ []) x k e = absurd cc
action_shows w (a ∷ b ∷ c ∷ []) x k e = absurd cc
action_shows w (a ∷ b ∷ c ∷ d ∷ []) x k e =
    let (name, is, e1) = first_found (name_in a) _ x e in
    let (params, are, e2) = first_found (scope_in b) _ x e1 in
    let (deletes, go, e3) = first_found (effect_in (codes "delete") c) _ x e2 in
    let (adds, come, made) = first_found (effect_in (codes "add") d) (λ es. Some (written.Action name params deletes es)) x e3 in
    let gone : Sexp = form (codes "delete") (map written_atom_sexp deletes) in
    let new : Sexp = form (codes "add") (map written_atom_sexp adds) in
    by_word w (codes "action") (a ∷ b ∷ c ∷ d ∷ []) (written.Action name params deletes adds) x (word name ∷ scope_sexp params ∷ gone ∷ new ∷ []) k refl (some_is (written.Action name params deletes adds) x made)
    (headed_list (word name) (scope_sexp params ∷ gone ∷ new ∷ []) a (b ∷ c ∷ d ∷ []) (name_found a name is)
    (headed_list (scope_sexp params) (gone ∷ new ∷ []) b (c ∷ d ∷ []) (scope_found b params are)
    (first_two gone new c d (effect_found (codes "delete") c deletes go) (effect_found (codes "add") d adds come))))
action_shows w (a ∷ b ∷ c ∷ d ∷ f ∷ parts) x k e = absurd cc

always_shows : (w : List ℕ) (parts : List Sexp) (x : Written) → is_word w (codes "always") ≡ true → always_of parts ≡ Some x → Shows w parts x
always_shows w parts x k e =
    let (name, body, is, same) = always_parts parts x e in
    by_word w (codes "always") parts (written.Always name body) x (word name ∷ formula_sexp body ∷ []) k refl (sym is) same

query_shows : (w : List ℕ) (parts : List Sexp) (x : Written) → is_word w (codes "query") ≡ true → query_of parts ≡ Some x → Shows w parts x
query_shows w parts x k e =
    let (name, vars, body, is, same) = query_parts parts x e in
    by_word w (codes "query") parts (written.Query name vars body) x (word name ∷ scope_sexp vars ∷ formula_sexp body ∷ []) k refl (sym is) same

transition_shows : (w : List ℕ) (parts : List Sexp) (x : Written) → is_word w (codes "transition") ≡ true → transition_of parts ≡ Some x → Shows w parts x
transition_shows w parts x k e =
    let (r, is, same) = transition_parts parts x e in
    by_word w (codes "transition") parts (written.Transition r) x (written_transition_parts r) k refl (sym is) same

fact_parts : (parts : List Sexp) (x : Written) → fact_of parts ≡ Some x
    → (rel : List ℕ) × (row : List Value) × (x ≡ written.Fact rel row) × ((word rel ∷ map constant row) ≡ map no_lines parts)
fact_parts [] x e = absurd cc
fact_parts (r ∷ parts) x e =
    let (rel, is, rest) = first_found (name_in r) (λ n. each constant_in parts >>= λ vs. Some (written.Fact n vs)) x e in
    let (row, are, made) = first_found (each constant_in parts) (λ vs. Some (written.Fact rel vs)) x rest in (
      rel,
      row,
      sym (some_is (written.Fact rel row) x made),
      headed_list (word rel) (map constant row) r parts (name_found r rel is) (each_found constant_in constant constant_found parts row are),
    )

fact_shows : (w : List ℕ) (parts : List Sexp) (x : Written) → is_word w (codes "fact") ≡ true → fact_of parts ≡ Some x → Shows w parts x
fact_shows w parts x k e =
    let (rel, row, is, same) = fact_parts parts x e in
    by_word w (codes "fact") parts (written.Fact rel row) x (word rel ∷ map constant row) k refl (sym is) same

-- one word of the chain
choose : (w k : List ℕ) (parts : List Sexp) (x : Written) (here rest : Option Written) → (is_word w k ≡ true → here ≡ Some x → Shows w parts x) → (rest ≡ Some x → Shows w parts x)
    → (if is_word w k then here else rest) ≡ Some x → Shows w parts x
choose w k parts x here rest f g e = ⊎_elim (λ a. f a.0 a.1) (λ b. g b.1) (if_either (is_word w k) here rest x e)

none_shows : (w : List ℕ) (parts : List Sexp) (x : Written) → None ≡ Some x → Shows w parts x
none_shows w parts x e = absurd cc

declared_shows : (w : List ℕ) (parts : List Sexp) (x : Written) → declared w parts ≡ Some x → Shows w parts x
declared_shows w parts x e =
    choose w (codes "relation") parts x (relation_of parts) _ (relation_shows w parts x)
    (choose w (codes "key") parts x (key_of parts) _ (key_shows w parts x)
    (choose w (codes "foreign") parts x (foreign_of parts) _ (foreign_shows w parts x)
    (choose w (codes "always") parts x (always_of parts) _ (always_shows w parts x)
    (choose w (codes "query") parts x (query_of parts) _ (query_shows w parts x)
    (choose w (codes "action") parts x (action_of parts) _ (action_shows w parts x)
    (choose w (codes "place") parts x (control_of parts) _ (control_shows w parts x)
    (choose w (codes "view") parts x (view_of parts) _ (view_shows w parts x)
    (choose w (codes "transition") parts x (transition_of parts) _ (transition_shows w parts x)
    (choose w (codes "fact") parts x (fact_of parts) _ (fact_shows w parts x)
    (choose w (codes "token") parts x (token_of parts) None (token_shows w parts x) (none_shows w parts x))))))))))) e

pub declaration_found : (one : Sexp) (x : Written) → declaration_in one ≡ Some x → sexp_of x ≡ no_lines one
declaration_found one x e =
    let h : Headed declared one x = headed declared one x (sym (declaration_is one) ∙ e) in
    let s : Shows h.word h.parts x = declared_shows h.word h.parts x h.is_read in
    s.is ∙ form_printed declared one x h s.printed s.same
