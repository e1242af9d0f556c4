-- Going through a file from gate to gate.
use Rattle.std.specs.Prelude.{ℕ, zero, suc, ◌+◌, false, true, List, [], ◌∷◌, length, drop, Option, None, Some}
use Rattle.dbn_journal.specs.Records.{Found, RecordList, gate_in, no_records, one_more_record, records_from}
use Rattle.dbn_journal.specs.Records.Found.{Shut, Held, Torn}
use Rattle.dbn_journal.specs.declared.gate.Gate.{Gate}
use Rattle.dbn_journal.specs.declared.gate.Gate.TheVariants.{Shut as ShutGate, Held as HeldGate, Torn as TornGate}

-- the records from this place on, by what was found at the gate there: none, or one and those from the next gate on
abbrev pub records_by : ℕ → Gate → List ℕ → RecordList
records_by place ShutGate file = no_records place false
records_by place (HeldGate body after) file = one_more_record body (records_from after file)
records_by place TornGate file = no_records place true

-- the place behind a whole record
abbrev pub next_place : Found → (ℕ → Option ℕ) → Option ℕ
next_place Shut next = None
next_place (Held body) next = next (length body)
next_place Torn next = None

-- the place of the gate behind so many records, from a gate at this place on, where there are that many
abbrev pub place_after : ℕ → ℕ → List ℕ → Option ℕ
place_after zero place file = Some place
place_after (suc records) place file = next_place (gate_in (drop place file)) (λ size. place_after records (place + 5 + size) file)

-- the body of a whole record, and those behind it
abbrev pub front_bodies : Found → (ℕ → List (List ℕ)) → List (List ℕ)
front_bodies Shut next = []
front_bodies (Held body) next = body ∷ next (length body)
front_bodies Torn next = []

-- the bodies of so many records, from a gate at this place on
abbrev pub bodies_before : ℕ → ℕ → List ℕ → List (List ℕ)
bodies_before zero place file = []
bodies_before (suc records) place file = front_bodies (gate_in (drop place file)) (λ size. bodies_before records (place + 5 + size) file)

-- these bodies, and then those of the list
abbrev pub prepended : List (List ℕ) → RecordList → RecordList
prepended [] list = list
prepended (body ∷ bodies) list = one_more_record body (prepended bodies list)
