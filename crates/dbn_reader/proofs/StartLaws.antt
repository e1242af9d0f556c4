-- What a call that reads a text returns is good and light.
use Rattle.std.proofs.Common.{◌≡◌, ℕ, ◌≤◌, ◌^◌, List, sym, subst, length}
use Rattle.std.specs.Prelude.{Result, Ok, Err, IfOk, IfErr}
use Rattle.dbn_net.specs.declared.decl.Decl.{Decl}
use Rattle.dbn_net.specs.declared.snapshot.Snapshot.{Snapshot}
use Rattle.dbn_net.specs.Good.{Good}
use Rattle.dbn_net.specs.Texts.{Start, Fault, reads}
use Rattle.dbn_net.specs.Starts.{first_snapshot}
use Rattle.dbn_net.proofs.StartLaws.{text_good}
use Rattle.dbn_reader.specs.declared.fault.NetFault.{NetFault}
use Rattle.dbn_reader.specs.Light.{IsLight}
use Rattle.dbn_reader.specs.Reading.{Fails, Starts, start_of}
use Rattle.dbn_reader.proofs.LightLaws.{text_light}

-- a snapshot without firings is the first one
first_is : (net : List Decl) (s : Snapshot) → s.fired ≡ 0 → first_snapshot (start_of net s) ≡ s
first_is net s none = λ i. record { instance = s.instance; marking = s.marking; next = s.next; fired = sym none i }

pub good_read : (bytes : List ℕ) (result : Result (List Decl × Snapshot) NetFault) → Starts result (reads bytes) → IfOk result (λ r. r.1.fired ≡ 0) → IfOk result (λ r. Good r.0 r.1)
good_read bytes (Ok made) is none = subst (Good made.0) (first_is made.0 made.1 none) (text_good bytes (start_of made.0 made.1) is).good
good_read bytes (Err error) is none = tt

pub light_read : (bytes : List ℕ) (result : Result (List Decl × Snapshot) NetFault) → Starts result (reads bytes) → length bytes ≤ 2 ^ 31 → IfOk result (λ r. IsLight r.0 r.1.marking)
light_read bytes (Ok made) is short = text_light bytes (start_of made.0 made.1) short is
light_read bytes (Err error) is short = tt

-- the two clauses of a call that reads
pub start_read : (result : Result (List Decl × Snapshot) NetFault) (read : Result Start Fault) → Starts result read → IfOk result (λ r. read ≡ Ok (start_of r.0 r.1))
start_read (Ok made) read is = is
start_read (Err error) read is = tt

pub fault_read : (result : Result (List Decl × Snapshot) NetFault) (read : Result Start Fault) → Starts result read → IfErr result (λ why. Fails why read)
fault_read (Ok made) read is = tt
fault_read (Err error) read is = is
