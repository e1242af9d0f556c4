-- What the calls that read a net text return, against what the text is read as.
use Rattle.std.specs.Prelude.{◌≡◌, ℕ, ◌<◌, ◌^◌, List, length, Option, Some, None, Result, Ok, Err}
use Rattle.dbn_value.specs.Order.{row_cmp}
use Rattle.dbn_value.specs.declared.value.Value.{Value}
use Rattle.dbn_sexp.specs.declared.sexp.Sexp.{Sexp}
use Rattle.dbn_sexp.specs.Reading as sexps
use Rattle.dbn_marking.specs.Counts.{count_at}
use Rattle.dbn_net.specs.declared.fault.NetKind.{NetKind}
use Rattle.dbn_net.specs.declared.fault.NetKind.TheVariants as kind
use Rattle.dbn_net.specs.declared.written.Written.{Written}
use Rattle.dbn_net.specs.declared.decl.Decl.{Decl}
use Rattle.dbn_net.specs.declared.decl.Entry.{Entry}
use Rattle.dbn_net.specs.declared.decl.Entry.TheVariants.{Part, Fact, Tokens}
use Rattle.dbn_net.specs.declared.snapshot.Snapshot.{Snapshot}
use Rattle.dbn_net.specs.Forms.{declaration_in}
use Rattle.dbn_net.specs.Judging.{judged}
use Rattle.dbn_net.specs.WellFormed.{Passes}
use Rattle.dbn_net.specs.Texts.{Fault, fault, State, Start}
use Rattle.dbn_net.specs.Starts.{IsSound}
use Rattle.dbn_reader.specs.declared.fault.NetFault.{NetFault}
use Rattle.dbn_reader.specs.declared.fault.NetFault.TheVariants.{Bad, Memory}
use Rattle.dbn_reader.specs.declared.reading.Reading.{Reading}

-- ---- results

-- an error is the fault that reading gives, or want of memory
abbrev pub Fails : {A : Type 0} → NetFault → Result A Fault → Type 0
Fails (Bad line kind) read = read ≡ fault line kind
Fails Memory read = Unit {0}

abbrev pub Gives : {A : Type 0} → Result A NetFault → Result A Fault → Type 0
Gives (Ok x) read = read ≡ Ok x
Gives (Err error) read = Fails error read

-- the same of a call that leads from a state to another one
abbrev pub Leads : {A U : Type 0} → Result U NetFault → A → Result A Fault → Type 0
Leads (Ok u) state read = read ≡ Ok state
Leads (Err error) state read = Fails error read

-- what is started with: a net with its first snapshot
abbrev pub start_of : List Decl → Snapshot → Start
start_of net s = record { decls = net; facts = s.instance; tokens = s.marking; next = s.next }

-- the net and the snapshot of a call are those that are read
abbrev pub Starts : Result (List Decl × Snapshot) NetFault → Result Start Fault → Type 0
Starts (Ok made) read = read ≡ Ok (start_of made.0 made.1)
Starts (Err error) read = Fails error read

-- ---- parts of reading

-- the S-expressions of the text
abbrev pub listed : Result (List Sexp) sexps.Fault → Result (List Sexp) Fault
listed (Ok list) = Ok list
listed (Err e) = fault e.line kind.Syntax

-- a fault of a declaration, on its line
abbrev pub on_line : {A : Type 0} → ℕ → Result A NetKind → Result A Fault
on_line line (Ok x) = Ok x
on_line line (Err kind) = fault line kind

abbrev pub entry_of : ℕ → State → Option Written → Result Entry Fault
entry_of line s None = fault line kind.Declaration
entry_of line s (Some w) = on_line line (judged s.decls s.begun w)

-- what one S-expression declares behind what was read so far
abbrev pub read_entry : State → Sexp → Result Entry Fault
read_entry s one = entry_of one.line s (declaration_in one)

-- ---- the state of the reader

abbrev pub state_of : Reading → State
state_of r = record { decls = r.net; begun = record { facts = r.facts; tokens = r.tokens }; lines = r.lines }

-- the same of a call that makes a reading
abbrev pub Reaches : Result Reading NetFault → Result State Fault → Type 0
Reaches (Ok r) read = read ≡ Ok (state_of r)
Reaches (Err error) read = Fails error read

-- some list was read as it
abbrev pub IsReached : State → Type 0
IsReached s = (list : List Sexp) × IsSound list s

-- tokens of a row that isn't there, as many as a place may have
pub record AreNewTokens (s : State) (n many : ℕ) (row : List Value) : Type 0 where
  pub place : n < length s.begun.tokens
  pub some : 0 < many
  pub small : many < 2 ^ 32
  pub new : count_at row_cmp s.begun.tokens n row ≡ 0

-- what is asked of a declaration that is taken up
abbrev pub MayStand : State → Entry → Type 0
MayStand s (Part d) = Passes s.decls d
MayStand s (Fact rel row) = rel < length s.begun.facts
MayStand s (Tokens place many row) = AreNewTokens s place many row
