-- The canonical text is read again as the same net, facts and tokens.
use Rattle.std.proofs.Common.{◌≡◌, ℕ, ◌+◌, ◌≤◌, true, if◌then◌else◌, List, [], ◌∷◌, ◌++◌, map, refl, sym, ap, subst, ◌∙◌, Option, Some, None}
use Rattle.std.specs.Prelude.{Result, Ok, Err}
use Rattle.std.specs.List.{list_all, flat_map, AllByRecursion, zip}
use Rattle.std.proofs.lemmas.Bool.{and_parts}
use Rattle.dbn_sexp.specs.declared.sexp.Sexp.{Sexp}
use Rattle.dbn_sexp.specs.Printing.{on_lines}
use Rattle.dbn_sexp.specs.Reading as sexps
use Rattle.dbn_formula.specs.Holds.{Instance}
use Rattle.dbn_formula.specs.Answers.{holds}
use Rattle.dbn_formula.specs.declared.formula.Formula.{Formula}
use Rattle.dbn_net.specs.declared.fault.NetKind.{NetKind}
use Rattle.dbn_net.specs.declared.written.Written.{Written}
use Rattle.dbn_net.specs.declared.decl.Decl.{Decl}
use Rattle.dbn_net.specs.declared.decl.Entry.{Entry}
use Rattle.dbn_net.specs.declared.decl.Entry.TheVariants.{Part, Fact, Tokens}
use Rattle.dbn_net.specs.Forms.{declaration_in}
use Rattle.dbn_net.specs.Printing.{sexp_of}
use Rattle.dbn_net.specs.Sentences.{sentences, consistent}
use Rattle.dbn_net.specs.Judging.{judged}
use Rattle.dbn_net.specs.WellFormed.{written_from}
use Rattle.dbn_net.specs.Values.{Marking, past_ids}
use Rattle.dbn_net.specs.Texts.{State, Fault, nothing, sentence_lines, with_entry, taken_up, read_shape, read_one, read_each, and_then, first_broken, value_in, next_of, tested, finished, read_list, reads, printed, canonical_list, ReadsAgain}
use Rattle.dbn_sexp.proofs.LinesLaws.{lined}
use Rattle.dbn_net.proofs.LinesLaws.{declaration_alike}
use Rattle.dbn_sexp.proofs.LinesLaws.{atoms_again}
use Rattle.dbn_net.proofs.RoundFacts.{at, read_on}
use Rattle.dbn_net.proofs.RoundWhole.{declared_lines, Rebuilds, whole_again}
use Rattle.dbn_net.proofs.RoundNext.{AllBelow, RowsBelow, CountedBelow, canonical_next}

-- ---- on other lines

abbrev with_lines : State → List ℕ → State
with_lines s ls = record { decls = s.decls; begun = s.begun; lines = ls }

abbrev okay : State → Result State Fault
okay s = Ok s

ok_is : (x y : State) → okay x ≡ okay y → x ≡ y
ok_is x y e = cc

abbrev entry_lines : ℕ → List ℕ → Entry → List ℕ
entry_lines n ls (Part d) = ls ++ sentence_lines n d
entry_lines n ls (Fact rel row) = ls
entry_lines n ls (Tokens place many row) = ls

entry_moved : (line n : ℕ) (s : State) (ls : List ℕ) (e : Entry) → with_entry n (with_lines s ls) e ≡ with_lines (with_entry line s e) (entry_lines n ls e)
entry_moved line n s ls (Part d) = refl
entry_moved line n s ls (Fact rel row) = refl
entry_moved line n s ls (Tokens place many row) = refl

taken_moved : (line n : ℕ) (s t : State) (ls : List ℕ) (r : Result Entry NetKind) → taken_up line s r ≡ Ok t → (ms : List ℕ) × (taken_up n (with_lines s ls) r ≡ Ok (with_lines t ms))
taken_moved line n s t ls (Err k) e = absurd cc
taken_moved line n s t ls (Ok x) e =
    (entry_lines n ls x, ap Ok (entry_moved line n s ls x ∙ ap (λ u. with_lines u (entry_lines n ls x)) (ok_is (with_entry line s x) t e)))

shape_moved : (line n : ℕ) (s t : State) (ls : List ℕ) (o : Option Written) → read_shape line s o ≡ Ok t → (ms : List ℕ) × (read_shape n (with_lines s ls) o ≡ Ok (with_lines t ms))
shape_moved line n s t ls None e = absurd cc
shape_moved line n s t ls (Some w) e = taken_moved line n s t ls (judged s.decls s.begun w) e

one_moved : (n : ℕ) (one : Sexp) (s t : State) (ls : List ℕ) → read_one s one ≡ Ok t → (ms : List ℕ) × (read_one (with_lines s ls) (lined n one) ≡ Ok (with_lines t ms))
one_moved n one s t ls e =
    let moved = shape_moved one.line n s t ls (declaration_in one) e in
    (moved.0, ap (read_shape n (with_lines s ls)) (declaration_alike n one) ∙ moved.1)

first_ok : (list : List Sexp) (r : Result State Fault) (t : State) → read_on list r ≡ Ok t → (u : State) × (r ≡ Ok u) × (read_each u list ≡ Ok t)
first_ok list (Ok u) t e = (u, refl, e)
first_ok list (Err k) t e = absurd cc

pub lines_again : (n : ℕ) (list : List Sexp) (s t : State) (ls : List ℕ) → read_each s list ≡ Ok t → (ms : List ℕ) × (read_each (with_lines s ls) (on_lines n list) ≡ Ok (with_lines t ms))
lines_again n [] s t ls e = (ls, ap (λ u. Ok (with_lines u ls)) (ok_is s t e))
lines_again n (one ∷ list) s t ls e =
    let (u, first, rest) = first_ok list (read_one s one) t e in
    let moved = one_moved n one s u ls first in
    let later = lines_again (n + 1) list u t moved.0 rest in
    (later.0, ap (read_on (on_lines (n + 1) list)) moved.1 ∙ later.1)

-- ---- no sentence is broken

none_broken : (db : Instance) (ls : List ℕ) (fs : List Formula) → list_all (λ f. holds f db []) fs ≡ true → first_broken db (zip ls fs) ≡ None
none_broken db [] fs e = refl
none_broken db (l ∷ ls) [] e = refl
none_broken db (l ∷ ls) (f ∷ fs) e =
    let parts = and_parts (holds f db []) (list_all (λ g. holds g db []) fs) e in
    ap (λ b. if b then first_broken db (zip ls fs) else Some l) parts.0 ∙ none_broken db ls fs parts.1

pub reads_is : (bytes : List ℕ) → reads bytes ≡ read_list (sexps.reads 64 bytes)
unfolding reads
reads_is bytes = refl

pub text_again : (bytes : List ℕ) (decls : List Decl) (facts : Instance) (tokens : Marking) (next : ℕ)
    → sexps.reads 64 bytes ≡ Ok (on_lines 1 (canonical_list decls facts tokens))
    → Rebuilds decls facts tokens
    → list_all (λ f. holds f facts []) (sentences decls) ≡ true
    → AllBelow next (map sexp_of (written_from [] decls)) → AllByRecursion (RowsBelow next) facts → AllByRecursion (CountedBelow next) tokens
    → ReadsAgain bytes decls facts tokens next
text_again bytes decls facts tokens next printed r consistent rules rows held =
    let list : List Sexp = canonical_list decls facts tokens in
    let again = lines_again 1 list nothing (at decls (declared_lines decls) facts tokens) [] (whole_again decls facts tokens r) in
    let same : next_of (on_lines 1 list) ≡ next_of list = ap (λ l. past_ids (flat_map value_in l)) (atoms_again 1 list) in
    record {
      start = next_of (on_lines 1 list);
      is = reads_is bytes ∙ ap read_list printed ∙ ap (λ x. and_then x (finished (on_lines 1 list))) again.1
          ∙ ap (tested (on_lines 1 list) (at decls again.0 facts tokens)) (none_broken facts again.0 (sentences decls) consistent);
      within = subst (λ n. n ≤ next) (sym same) (canonical_next decls facts tokens next rules rows held);
    }
