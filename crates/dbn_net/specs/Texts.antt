-- The net and the start snapshot that a text is read as, or its first fault; and the one text of a net and a state.
use Rattle.std.specs.Prelude.{◌≡◌, ℕ, ◌+◌, ◌≤◌, if◌then◌else◌, List, [], ◌∷◌, ◌++◌, map, Option, Some, None, Result, Ok, Err}
use Rattle.std.specs.List.{flat_map, zip}
use Rattle.dbn_value.specs.Order.{value_cmp, row_cmp}
use Rattle.dbn_value.specs.declared.value.Value.{Value}
use Rattle.dbn_sexp.specs.declared.sexp.Item.{Item, out-Item}
use Rattle.dbn_sexp.specs.declared.sexp.Item.TheOpen as atom
use Rattle.dbn_sexp.specs.declared.sexp.Sexp.{Sexp}
use Rattle.dbn_sexp.specs.Printing.{atoms, text}
use Rattle.dbn_sexp.specs.Reading as sexps
use Rattle.dbn_formula.specs.Holds.{Instance}
use Rattle.dbn_formula.specs.Answers.{holds}
use Rattle.dbn_formula.specs.declared.formula.Formula.{Formula}
use Rattle.dbn_instance.specs.Facts.{with_fact}
use Rattle.dbn_marking.specs.Counts.{with_tokens}
use Rattle.dbn_net.specs.declared.fault.NetKind.{NetKind}
use Rattle.dbn_net.specs.declared.fault.NetKind.TheVariants as kind
use Rattle.dbn_net.specs.declared.written.Written.{Written}
use Rattle.dbn_net.specs.declared.decl.Decl.{Decl}
use Rattle.dbn_net.specs.declared.decl.Decl.TheVariants as decl
use Rattle.dbn_net.specs.declared.decl.Entry.{Entry}
use Rattle.dbn_net.specs.declared.decl.Entry.TheVariants.{Part, Fact, Tokens}
use Rattle.dbn_net.specs.Forms.{declaration_in}
use Rattle.dbn_net.specs.Printing.{sexp_of}
use Rattle.dbn_net.specs.Naming.{named_entry}
use Rattle.dbn_net.specs.Sentences.{sentences}
use Rattle.dbn_net.specs.Judging.{Begun, judged}
use Rattle.dbn_net.specs.WellFormed.{written_from}
use Rattle.dbn_net.specs.Values.{Marking, past_ids}

-- ---- reading

pub record Fault : Type 0 where
  pub line : ℕ
  pub kind : NetKind

abbrev pub fault : {A : Type 0} → ℕ → NetKind → Result A Fault
fault line kind = Err (record { line = line; kind = kind })

-- what was read so far, with the lines of the sentences
pub record State : Type 0 where
  pub decls : List Decl
  pub begun : Begun
  pub lines : List ℕ

abbrev pub nothing : State
nothing = record { decls = []; begun = record { facts = []; tokens = [] }; lines = [] }

-- a relation begins without rows
abbrev pub more_facts : Decl → List (List (List Value)) → List (List (List Value))
more_facts (decl.Relation name fields) facts = facts ++ [] ∷ []
more_facts d facts = facts

-- a place begins without tokens
abbrev pub more_tokens : Decl → Marking → Marking
more_tokens (decl.Site p) tokens = tokens ++ [] ∷ []
more_tokens d tokens = tokens

abbrev pub sentence_lines : ℕ → Decl → List ℕ
sentence_lines line (decl.Key rel fields) = line ∷ []
sentence_lines line (decl.Foreign rel fields to to_fields) = line ∷ []
sentence_lines line (decl.Always name body) = line ∷ []
sentence_lines line d = []

-- with what stands on a line
abbrev pub with_entry : ℕ → State → Entry → State
with_entry line s (Part d) = record {
  decls = s.decls ++ d ∷ [];
  begun = record { facts = more_facts d s.begun.facts; tokens = more_tokens d s.begun.tokens };
  lines = s.lines ++ sentence_lines line d;
}
with_entry line s (Fact rel row) = record {
  decls = s.decls;
  begun = record { facts = with_fact value_cmp s.begun.facts (record { rel = rel; row = row }); tokens = s.begun.tokens };
  lines = s.lines;
}
with_entry line s (Tokens place many row) = record {
  decls = s.decls;
  begun = record { facts = s.begun.facts; tokens = with_tokens row_cmp s.begun.tokens place row many };
  lines = s.lines;
}

abbrev pub taken_up : ℕ → State → Result Entry NetKind → Result State Fault
taken_up line s (Ok e) = Ok (with_entry line s e)
taken_up line s (Err kind) = fault line kind

abbrev pub read_shape : ℕ → State → Option Written → Result State Fault
read_shape line s None = fault line kind.Declaration
read_shape line s (Some w) = taken_up line s (judged s.decls s.begun w)

-- one declaration
abbrev pub read_one : State → Sexp → Result State Fault
read_one s one = read_shape one.line s (declaration_in one)

-- all of them, up to the first fault
abbrev pub and_then : {A B : Type 0} → Result A Fault → (A → Result B Fault) → Result B Fault
and_then (Ok x) f = f x
and_then (Err e) f = Err e

abbrev pub read_each : State → List Sexp → Result State Fault
read_each s [] = Ok s
read_each s (one ∷ list) = and_then (read_one s one) (λ next. read_each next list)

-- the line of the first sentence that doesn't hold
abbrev pub first_broken : Instance → List (ℕ × Formula) → Option ℕ
first_broken db [] = None
first_broken db (one ∷ list) = if holds one.1 db [] then first_broken db list else Some one.0

-- what a text is read as
pub record Start : Type 0 where
  pub decls : List Decl
  pub facts : List (List (List Value))
  pub tokens : Marking
  pub next : ℕ

abbrev pub atom_values : atom.Item-F Item Sexp → List Value
atom_values (atom.Name name) = []
atom_values (atom.Const value) = value ∷ []
atom_values (atom.List parts) = []

unfoldable pub value_in : Item → List Value
value_in one = atom_values (out-Item one)

-- the constants that are words of the list
abbrev pub values_of : List Sexp → List Value
values_of list = flat_map value_in (flat_map (λ one. atoms one.item) list)

-- one more than the greatest id that is a word of the list
abbrev pub next_of : List Sexp → ℕ
next_of list = past_ids (values_of list)

abbrev pub tested : List Sexp → State → Option ℕ → Result Start Fault
tested list s None = Ok (record { decls = s.decls; facts = s.begun.facts; tokens = s.begun.tokens; next = next_of list })
tested list s (Some line) = fault line kind.Inconsistent

-- last, the initial facts are tested
abbrev pub finished : List Sexp → State → Result Start Fault
finished list s = tested list s (first_broken s.begun.facts (zip s.lines (sentences s.decls)))

abbrev pub read_list : Result (List Sexp) sexps.Fault → Result Start Fault
read_list (Err e) = fault e.line kind.Syntax
read_list (Ok list) = and_then (read_each nothing list) (finished list)

-- the net and the start snapshot of a text, or the line and the kind of its first fault
unfoldable pub reads : List ℕ → Result Start Fault
reads bytes = read_list (sexps.reads 64 bytes)

-- ---- writing

-- the facts by relation and row
abbrev pub facts_from : ℕ → List (List (List Value)) → List Entry
facts_from n [] = []
facts_from n (rows ∷ facts) = map (Fact n) rows ++ facts_from (n + 1) facts

-- the tokens by place and row
abbrev pub tokens_from : ℕ → Marking → List Entry
tokens_from n [] = []
tokens_from n (held ∷ tokens) = map (λ counted. Tokens n counted.1 counted.0) held ++ tokens_from (n + 1) tokens

abbrev pub printed : List Decl → List Entry → List Sexp
printed net entries = map (λ e. sexp_of (named_entry net e)) entries

-- each declaration with the names of those before it, and then the facts and the tokens
abbrev pub canonical_list : List Decl → List (List (List Value)) → Marking → List Sexp
canonical_list net facts tokens = map sexp_of (written_from [] net) ++ (printed net (facts_from 0 facts) ++ printed net (tokens_from 0 tokens))

unfoldable pub canonical : List Decl → List (List (List Value)) → Marking → List ℕ
canonical net facts tokens = text (canonical_list net facts tokens)

-- the text is read as the net with these facts and tokens, with a first id that isn't above
pub record ReadsAgain (bytes : List ℕ) (net : List Decl) (facts : List (List (List Value))) (tokens : Marking) (next : ℕ) : Type 0 where
  pub start : ℕ
  pub is : reads bytes ≡ Ok (record { decls = net; facts = facts; tokens = tokens; next = start })
  pub within : start ≤ next
