-- What a call of the reader returns, against what reading gives.
use Rattle.std.specs.Prelude.{◌≡◌, ℕ, reverse, Option, Result, Ok, Err}
use Rattle.std.specs.Option.{option_map_or}
use Rattle.dbn_sexp.specs.declared.fault.SexpFault.{SexpFault}
use Rattle.dbn_sexp.specs.declared.fault.SexpFault.TheVariants.{Bad, Memory}
use Rattle.dbn_sexp.specs.declared.fault.SexpKind.TheVariants.{BadToken}
use Rattle.dbn_sexp.specs.declared.reading.Reader.{Reader}
use Rattle.dbn_sexp.specs.declared.sexp.Item.{Item}
use Rattle.dbn_sexp.specs.Reading.{Fault, State, fault}

-- an error is the fault that reading gives, or want of memory
abbrev pub Fails : {A : Type 0} → SexpFault → Result A Fault → Type 0
Fails (Bad line kind) read = read ≡ fault line kind
Fails Memory read = Unit {0}

abbrev pub Gives : {A : Type 0} → Result A SexpFault → Result A Fault → Type 0
Gives (Ok x) read = read ≡ Ok x
Gives (Err error) read = Fails error read

-- the same of a call that leads from a state to another one
abbrev pub Leads : {A U : Type 0} → Result U SexpFault → A → Result A Fault → Type 0
Leads (Ok u) state read = read ≡ Ok state
Leads (Err error) state read = Fails error read

-- the same of a call that makes a name or a constant
abbrev pub GivesItem : ℕ → Result Item SexpFault → Option Item → Type 0
GivesItem line result read = Gives result (option_map_or (λ one. Ok one) read (fault line BadToken))

-- the state that a reader holds: it has the outermost list first
abbrev pub state_of : Reader → State
state_of reader = record { open_lists = reverse reader.open_lists; items = reader.items }
