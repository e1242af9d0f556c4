-- One declaration of a net text after the other: what was judged may be taken up, and what was read so far leads to the whole.
use Rattle.std.proofs.Common.{◌≡◌, ℕ, ◌+◌, ◌<◌, ◌≤◌, ◌^◌, zero, suc, true, List, [], ◌∷◌, ◌++◌, refl, sym, ap, subst, ◌∙◌, Option, Some, None, arith, length, drop, get_or}
use Rattle.std.specs.Prelude.{Result, Ok, Err, nat_le, slice_get, slice_index_or}
use Rattle.std.proofs.lemmas.Bool.{and_parts, eqb-true, leb-true}
use Rattle.std.proofs.lemmas.List.{length-map, drop_all}
use Rattle.dbn_value.specs.Members.{In}
use Rattle.dbn_value.specs.Order.{row_cmp}
use Rattle.dbn_value.specs.declared.value.Value.{Value}
use Rattle.dbn_value.proofs.MemberLaws.{recursion_at}
use Rattle.dbn_sexp.specs.declared.sexp.Sexp.{Sexp}
use Rattle.dbn_sexp.specs.Printing.{nesting, IsWithinDepth}
use Rattle.dbn_sexp.specs.Reading as sexps
use Rattle.dbn_formula.specs.Holds.{Instance}
use Rattle.dbn_formula.specs.Typing.{Shapes}
use Rattle.dbn_formula.specs.Solutions.{HasShape, HasShapes}
use Rattle.dbn_marking.specs.Counts.{count_at}
use Rattle.dbn_net.specs.declared.fault.NetKind.{NetKind}
use Rattle.dbn_net.specs.declared.fault.NetKind.TheVariants as kinds
use Rattle.dbn_net.specs.declared.written.Written.{Written}
use Rattle.dbn_net.specs.declared.written.Written.TheVariants as written
use Rattle.dbn_net.specs.declared.decl.Place.{Place}
use Rattle.dbn_net.specs.declared.decl.Place.TheVariants as place
use Rattle.dbn_net.specs.declared.decl.Decl.{Decl}
use Rattle.dbn_net.specs.declared.decl.Decl.TheVariants.{Relation, Always, Query, Site, Trans}
use Rattle.dbn_net.specs.declared.decl.Entry.{Entry}
use Rattle.dbn_net.specs.declared.decl.Entry.TheVariants.{Part, Fact, Tokens}
use Rattle.dbn_net.specs.Maybe.{only_if}
use Rattle.dbn_net.specs.Forms.{Name, declaration_in}
use Rattle.dbn_net.specs.Tables.{relations, places, relation_names, query_names, place_names, relation_shape, relation_shapes, is_control}
use Rattle.dbn_net.specs.Naming.{number_of, site_if, control_number, count, resolved_formula, resolved_key, resolved_foreign, resolved_action, transition, resolved}
use Rattle.dbn_net.specs.Judging.{Begun, judged, is_count, no_duplicate, token_is_new}
use Rattle.dbn_net.specs.Good.{RowsFit, TokensFit}
use Rattle.dbn_net.specs.Values.{Marking}
use Rattle.dbn_net.specs.Texts.{Fault, fault, State, Start, nothing, with_entry, taken_up, read_shape, read_one, read_each, and_then, finished, read_list, reads}
use Rattle.dbn_net.proofs.Maybes.{some_is, first_found, if_found, mapped_found}
use Rattle.dbn_net.proofs.JudgedLaws.{Judged, judged_is}
use Rattle.dbn_net.proofs.PassesLaws.{read_passes}
use Rattle.dbn_net.proofs.RoundText.{reads_is}
use Rattle.dbn_net.proofs.StartLaws.{nothing_sound, sound_step}
use Rattle.dbn_reader.specs.declared.fault.NetFault.{NetFault}
use Rattle.dbn_reader.specs.declared.fault.NetFault.TheVariants.{Bad, Memory}
use Rattle.dbn_reader.specs.Reading.{Fails, listed, on_line, entry_of, read_entry, IsReached, AreNewTokens, MayStand}
use Rattle.dbn_reader.proofs.NumberLaws.{place_within, relation_within}

-- ---- reading is judging and taking up

taken_read : (line : ℕ) (s : State) (r : Result Entry NetKind) → taken_up line s r ≡ and_then (on_line line r) (λ e. Ok (with_entry line s e))
taken_read line s (Ok e) = refl
taken_read line s (Err k) = refl

shape_read : (line : ℕ) (s : State) (o : Option Written) → read_shape line s o ≡ and_then (entry_of line s o) (λ e. Ok (with_entry line s e))
shape_read line s None = refl
shape_read line s (Some w) = taken_read line s (judged s.decls s.begun w)

pub one_read : (s : State) (one : Sexp) → read_one s one ≡ and_then (read_entry s one) (λ e. Ok (with_entry one.line s e))
one_read s one = shape_read one.line s (declaration_in one)

abbrev okay : Entry → Result Entry Fault
okay e = Ok e

abbrev listed_so : List Sexp → Result (List Sexp) Fault
listed_so list = Ok list

abbrev listed_fault : ℕ → NetKind → Result (List Sexp) Fault
listed_fault line kind = fault line kind

abbrev start_fault : ℕ → NetKind → Result Start Fault
start_fault line kind = fault line kind

abbrev judged_so : Entry → Result Entry NetKind
judged_so e = Ok e

entry_is : (e f : Entry) → okay e ≡ okay f → e ≡ f
entry_is e f is = cc

pub state_is : (s t : State) → ◌≡◌ {A = Result State Fault} (Ok s) (Ok t) → s ≡ t
state_is s t e = cc

line_passed : (line : ℕ) (r : Result Entry NetKind) (e : Entry) → on_line line r ≡ okay e → r ≡ judged_so e
line_passed line (Ok f) e is = ap judged_so (entry_is f e is)
line_passed line (Err k) e is = absurd cc

-- what an entry was read of
pub record WasRead (s : State) (one : Sexp) (e : Entry) : Type 0 where
  pub written : Written
  pub shape : declaration_in one ≡ Some written
  pub tests : judged s.decls s.begun written ≡ Ok e

shape_found : (line : ℕ) (s : State) (o : Option Written) (e : Entry) → entry_of line s o ≡ Ok e → (w : Written) × (o ≡ Some w) × (judged s.decls s.begun w ≡ Ok e)
shape_found line s None e is = absurd cc
shape_found line s (Some w) e is = (w, refl, line_passed line (judged s.decls s.begun w) e is)

pub was_read : (s : State) (one : Sexp) (e : Entry) → read_entry s one ≡ Ok e → WasRead s one e
was_read s one e is = let (w, shape, tests) = shape_found one.line s (declaration_in one) e is in record { written = w; shape = shape; tests = tests }

list_is : (xs ys : List Sexp) → listed_so xs ≡ listed_so ys → xs ≡ ys
list_is xs ys e = cc

fault_is : (a b : Fault) → ◌≡◌ {A = Result (List Sexp) Fault} (Err a) (Err b) → a ≡ b
fault_is a b e = cc

abbrev failed : Fault → Result Start Fault
failed f = Err f

fault_moved : (n line : ℕ) (kind : NetKind) → listed_fault n kinds.Syntax ≡ listed_fault line kind → start_fault n kinds.Syntax ≡ start_fault line kind
fault_moved n line kind e = ap failed (fault_is (record { line = n; kind = kinds.Syntax }) (record { line = line; kind = kind }) e)

-- ---- numbers of facts and tokens

control_within : (net : List Decl) (name : Name) (n : ℕ) → control_number net name ≡ Some n → n < length (places net)
control_within net name n is =
    let (m, named, kept) = first_found (number_of (place_names net) name) (site_if is_control (places net)) n is in
    let (site, there, only) = first_found (slice_get (places net) m) (λ site. only_if (is_control site) m) n kept in
    subst (λ k. k < length (places net)) (some_is m n (if_found (is_control site) (Some m) n only).1) (place_within net name m named)

-- a fact is of a relation that there is, and tokens are of a place that there is, and new there where nothing is declared twice
abbrev pub Numbered : List Decl → Begun → Written → Entry → Type 0
Numbered net begun w (Part d) = Unit {0}
Numbered net begun w (Fact rel row) = rel < length (relations net)
Numbered net begun w (Tokens n many row) = (n < length (places net)) × (no_duplicate net begun w ≡ true → count_at row_cmp begun.tokens n row ≡ 0)

pub numbered : (net : List Decl) (begun : Begun) (w : Written) (e : Entry) → resolved net w ≡ Some e → Numbered net begun w e
numbered net begun (written.Relation name fields) e is = subst (Numbered net begun (written.Relation name fields)) (some_is (Part (Relation name fields)) e is) tt
numbered net begun (written.Key rel fields) e is =
    let (x, at, made) = mapped_found Part (resolved_key net rel fields) e is in subst (Numbered net begun (written.Key rel fields)) made tt
numbered net begun (written.Foreign rel fields to to_fields) e is =
    let (x, at, made) = mapped_found Part (resolved_foreign net rel fields to to_fields) e is in
    subst (Numbered net begun (written.Foreign rel fields to to_fields)) made tt
numbered net begun (written.Always name body) e is =
    let (f, at, made) = mapped_found (λ g. Part (Always name g)) (resolved_formula (relation_names net) body) e is in
    subst (Numbered net begun (written.Always name body)) made tt
numbered net begun (written.Query name vars body) e is =
    let (f, at, made) = mapped_found (λ g. Part (Query name vars g)) (resolved_formula (relation_names net) body) e is in
    subst (Numbered net begun (written.Query name vars body)) made tt
numbered net begun (written.Action name params deletes adds) e is =
    let (x, at, made) = mapped_found Part (resolved_action net name params deletes adds) e is in
    subst (Numbered net begun (written.Action name params deletes adds)) made tt
numbered net begun (written.Control name shape) e is =
    subst (Numbered net begun (written.Control name shape)) (some_is (Part (Site (place.Control name shape))) e is) tt
numbered net begun (written.View name query) e is =
    let (n, at, made) = mapped_found (λ k. Part (Site (place.View name k))) (number_of (query_names net) query) e is in
    subst (Numbered net begun (written.View name query)) made tt
numbered net begun (written.Transition r) e is =
    let (t, at, made) = mapped_found (λ u. Part (Trans u)) (transition net r) e is in subst (Numbered net begun (written.Transition r)) made tt
numbered net begun (written.Fact name row) e is =
    let (n, at, made) = mapped_found (λ k. Fact k row) (number_of (relation_names net) name) e is in
    subst (Numbered net begun (written.Fact name row)) made (relation_within net name n at)
numbered net begun (written.Token name many row) e is =
    let (n, at, made) = mapped_found (λ k. Tokens k (count many) row) (control_number net name) e is in
    subst (Numbered net begun (written.Token name many row)) made (
      control_within net name n at,
      λ once. eqb-true (count_at row_cmp begun.tokens n row) 0 (sym (ap (token_is_new begun row) at) ∙ once),
    )

counted_some : (n : ℕ) → is_count n ≡ true → 0 < n
counted_some n e = let p = and_parts (nat_le 1 n) (nat_le n 4294967295) e in let least : 1 ≤ n = leb-true 1 n p.0 in omega (arith, least)

counted_small : (n : ℕ) → is_count n ≡ true → n < 2 ^ 32
counted_small n e = let p = and_parts (nat_le 1 n) (nat_le n 4294967295) e in let most : n ≤ 4294967295 = leb-true n 4294967295 p.1 in omega (arith, most)

rows_length : (db : Instance) (rels : Shapes) → RowsFit db rels → length db ≡ length rels
rows_length [] [] fit = refl
rows_length [] (shape ∷ rels) fit = absurd fit
rows_length (rows ∷ db) [] fit = absurd fit
rows_length (rows ∷ db) (shape ∷ rels) fit = ap suc (rows_length db rels fit.1)

tokens_length : (tokens : Marking) (sites : List Place) → TokensFit tokens sites → length tokens ≡ length sites
tokens_length [] [] fit = refl
tokens_length [] (site ∷ sites) fit = absurd fit
tokens_length (held ∷ tokens) [] fit = absurd fit
tokens_length (held ∷ tokens) (site ∷ sites) fit = ap suc (tokens_length tokens sites fit.1)

-- ---- what holds of each state

pub facts_length : (s : State) → IsReached s → length s.begun.facts ≡ length (relations s.decls)
facts_length s reached = rows_length s.begun.facts (relation_shapes s.decls) reached.1.facts_fit ∙ length-map (relations s.decls) relation_shape

pub places_length : (s : State) → IsReached s → length s.begun.tokens ≡ length (places s.decls)
places_length s reached = tokens_length s.begun.tokens (places s.decls) reached.1.tokens_fit

shapes_of : (db : Instance) (rels : Shapes) → RowsFit db rels → (rel : ℕ) (row : List Value) → In row (slice_index_or db rel []) → HasShape row (slice_index_or rels rel [])
shapes_of [] rels fit rel row at = absurd at
shapes_of (rows ∷ db) [] fit rel row at = absurd fit
shapes_of (rows ∷ db) (shape ∷ rels) fit zero row at = recursion_at (λ r. HasShape r shape) row rows fit.0 at
shapes_of (rows ∷ db) (shape ∷ rels) fit (suc rel) row at = shapes_of db rels fit.1 rel row at

pub has_shapes : (s : State) → IsReached s → HasShapes (relation_shapes s.decls) s.begun.facts
has_shapes s reached = record { each = shapes_of s.begun.facts (relation_shapes s.decls) reached.1.facts_fit }

pub nothing_reached : IsReached nothing
nothing_reached = ([], nothing_sound)

-- each declaration that is read leads on
pub reached_on : (s next : State) (one : Sexp) → IsReached s → nesting one.item ≤ 64 → read_one s one ≡ Ok next → IsReached next
reached_on s next one reached depth is = (reached.0 ++ one ∷ [], sound_step reached.0 s next one reached.1 depth is)

-- ---- what is declared may be taken up

stands : (s : State) (one : Sexp) (e : Entry) (w : Written) → IsReached s → nesting one.item ≤ 64 → declaration_in one ≡ Some w → judged s.decls s.begun w ≡ Ok e
    → Judged s.decls s.begun w e → Numbered s.decls s.begun w e → MayStand s e
stands s one (Part d) w reached depth shape tests j at = read_passes s.decls s.begun one w d shape tests depth
stands s one (Fact rel row) w reached depth shape tests j at = subst (λ k. rel < k) (sym (facts_length s reached)) at
stands s one (Tokens n many row) w reached depth shape tests j at = record {
  place = subst (λ k. n < k) (sym (places_length s reached)) at.0;
  some = counted_some many j.passed.counted;
  small = counted_small many j.passed.counted;
  new = at.1 j.once;
}

pub may_stand : (s : State) (one : Sexp) (e : Entry) → IsReached s → nesting one.item ≤ 64 → read_entry s one ≡ Ok e → MayStand s e
may_stand s one e reached depth is =
    let r = was_read s one e is in
    let j = judged_is s.decls s.begun r.written e r.tests in
    stands s one e r.written reached depth r.shape r.tests j (numbered s.decls s.begun r.written e j.is)

-- ---- all of them

pub read_on : (s : State) (one : Sexp) (e : Entry) → read_entry s one ≡ Ok e → read_one s one ≡ Ok (with_entry one.line s e)
read_on s one e is = one_read s one ∙ ap (λ r. and_then r (λ x. Ok (with_entry one.line s x))) is

-- one turn of reading
pub turn : (s next : State) (one : Sexp) (e : Entry) → IsReached s → nesting one.item ≤ 64 → read_entry s one ≡ Ok e → next ≡ with_entry one.line s e → (read_one s one ≡ Ok next) × IsReached next
turn s next one e reached depth is same =
    let read : read_one s one ≡ Ok next = read_on s one e is ∙ ap (λ t. Ok t) (sym same) in
    (read, reached_on s next one reached depth read)

fails_behind : (error : NetFault) (line : ℕ) (s : State) (r : Result Entry Fault) → Fails error r → Fails error (and_then r (λ e. Ok (with_entry line s e)))
fails_behind (Bad n kind) line s r fails = ap (λ x. and_then x (λ e. Ok (with_entry line s e))) fails
fails_behind Memory line s r fails = tt

pub one_fails : (s : State) (one : Sexp) (error : NetFault) → Fails error (read_entry s one) → Fails error (read_one s one)
one_fails s one error fails = subst (Fails error) (sym (one_read s one)) (fails_behind error one.line s (read_entry s one) fails)

first_of : (list : List Sexp) (i : ℕ) (one : Sexp) → i < length list → one ≡ get_or list i one → drop i list ≡ one ∷ drop (i + 1) list
first_of [] i one less is = absurd (omega (arith, less))
first_of (x ∷ list) zero one less is = ap (λ y. y ∷ list) (sym is)
first_of (x ∷ list) (suc i) one less is =
    let e : suc (i + 1) ≡ suc i + 1 = omega arith in first_of list i one (omega (arith, less)) is ∙ ap (λ n. one ∷ drop n (x ∷ list)) e

-- the state that the first of a list were read as, and what is left
pub record IsPartRead (list : List Sexp) (i : ℕ) (s : State) : Type 0 where
  pub same : read_each nothing list ≡ read_each s (drop i list)
  pub reached : IsReached s
  pub within : IsWithinDepth 64 (drop i list)

pub none_read : (list : List Sexp) (s : State) → s ≡ nothing → IsWithinDepth 64 list → IsPartRead list 0 s
none_read list s is within = record { same = ap (λ t. read_each t list) (sym is); reached = subst IsReached (sym is) nothing_reached; within = within }

pub next_depth : (list : List Sexp) (i : ℕ) (one : Sexp) (s : State) → i < length list → one ≡ get_or list i one → IsPartRead list i s → nesting one.item ≤ 64
next_depth list i one s less is part = (subst (IsWithinDepth 64) (first_of list i one less is) part.within).0

pub one_more_read : (list : List Sexp) (i : ℕ) (one : Sexp) (s next : State) → i < length list → one ≡ get_or list i one → IsPartRead list i s
    → read_one s one ≡ Ok next → IsReached next → IsPartRead list (i + 1) next
one_more_read list i one s next less is part read reached = record {
  same = part.same ∙ ap (read_each s) (first_of list i one less is) ∙ ap (λ r. and_then r (λ t. read_each t (drop (i + 1) list))) read;
  reached = reached;
  within = (subst (IsWithinDepth 64) (first_of list i one less is) part.within).1;
}

fails_on : (error : NetFault) (r : Result State Fault) (rest : List Sexp) → Fails error r → Fails error (and_then r (λ t. read_each t rest))
fails_on (Bad line kind) r rest fails = ap (λ x. and_then x (λ t. read_each t rest)) fails
fails_on Memory r rest fails = tt

pub fault_read : (list : List Sexp) (i : ℕ) (one : Sexp) (s : State) (error : NetFault) → i < length list → one ≡ get_or list i one → IsPartRead list i s
    → Fails error (read_one s one) → Fails error (read_each nothing list)
fault_read list i one s error less is part fails =
    subst (Fails error) (sym (part.same ∙ ap (read_each s) (first_of list i one less is))) (fails_on error (read_one s one) (drop (i + 1) list) fails)

pub all_read : (list : List Sexp) (i : ℕ) (s : State) → length list ≤ i → IsPartRead list i s → read_each nothing list ≡ Ok s
all_read list i s le part = part.same ∙ ap (read_each s) (drop_all i list le)

-- ---- the whole text

pub text_fails : (bytes : List ℕ) (error : NetFault) → Fails error (listed (sexps.reads 64 bytes)) → Fails error (reads bytes)
text_fails bytes error fails = subst (Fails error) (sym (reads_is bytes)) (by error (sexps.reads 64 bytes) fails)
  where
    by : (error : NetFault) (r : Result (List Sexp) sexps.Fault) → Fails error (listed r) → Fails error (read_list r)
    by Memory r fails = tt
    by (Bad line kind) (Ok list) fails = absurd cc
    by (Bad line kind) (Err e) fails = fault_moved e.line line kind fails

list_reads : (bytes : List ℕ) (list : List Sexp) → listed (sexps.reads 64 bytes) ≡ Ok list → reads bytes ≡ and_then (read_each nothing list) (finished list)
list_reads bytes list is = reads_is bytes ∙ by (sexps.reads 64 bytes) is
  where
    by : (r : Result (List Sexp) sexps.Fault) → listed r ≡ Ok list → read_list r ≡ and_then (read_each nothing list) (finished list)
    by (Ok l) is = ap (λ xs. and_then (read_each nothing xs) (finished xs)) (list_is l list is)
    by (Err e) is = absurd cc

each_fails : (list : List Sexp) (error : NetFault) → Fails error (read_each nothing list) → Fails error (and_then (read_each nothing list) (finished list))
each_fails list (Bad line kind) fails = ap (λ r. and_then r (finished list)) fails
each_fails list Memory fails = tt

pub list_fails : (bytes : List ℕ) (list : List Sexp) (error : NetFault) → listed (sexps.reads 64 bytes) ≡ Ok list → Fails error (read_each nothing list) → Fails error (reads bytes)
list_fails bytes list error is fails = subst (Fails error) (sym (list_reads bytes list is)) (each_fails list error fails)

pub list_read : (bytes : List ℕ) (list : List Sexp) (s : State) → listed (sexps.reads 64 bytes) ≡ Ok list → read_each nothing list ≡ Ok s → reads bytes ≡ finished list s
list_read bytes list s is each = list_reads bytes list is ∙ ap (λ r. and_then r (finished list)) each
