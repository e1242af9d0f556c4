-- A net with a snapshot of it, and the state of a run over a folder or in memory.
use Rattle.std.specs.Prelude.{ℕ, List, Option, Some, length}
use Rattle.dbn_net.specs.declared.decl.Decl.{Decl}
use Rattle.dbn_net.specs.declared.snapshot.Snapshot.{Snapshot}
use Rattle.dbn_keeper.specs.Files.{Store, place_behind}
use Rattle.dbn_keeper.specs.Keeping.{KeeperState}
use Rattle.dbn_keeper.specs.declared.opening.Form.{Form}

pub record Situation : Type 0 where
  pub net : List Decl
  pub snapshot : Snapshot

abbrev pub situation : List Decl → Snapshot → Situation
situation net snapshot = record { net = net; snapshot = snapshot }

-- the state of a run, which goes on with each command
pub record RunState : Type 0 where
  pub now : Situation
  -- the form of the bodies
  pub form : Form
  -- the place of the shut gate behind the records
  pub place : ℕ
  pub generation : ℕ
  -- how many records there are
  pub records : ℕ
  -- the most bytes of a file, where there is a folder
  pub cap : Option ℕ

-- the run over a keeper that is at its end
abbrev pub run_state : Situation → KeeperState → RunState
run_state now keeper = record { now = now; form = keeper.form; place = keeper.place; generation = keeper.generation; records = keeper.records; cap = keeper.cap }

-- the run over the store of a folder
abbrev pub run_over : ℕ → Situation → Store → RunState
run_over cap now store = record {
  now = now;
  form = store.form;
  place = place_behind (length store.bodies) store;
  generation = store.generation;
  records = length store.bodies;
  cap = Some cap;
}
