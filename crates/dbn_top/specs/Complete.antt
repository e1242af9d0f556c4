-- A call of which all is in order, and in which nothing failed.
use Rattle.std.specs.Prelude.{◌≡◌, ℕ, ◌≤◌, false, length, Option, None, Some, IsTrue}
use Rattle.dbn_model.specs.Causes.{Rose}
use Rattle.dbn_io.specs.declared.limits.Limits.{Limits}
use Rattle.dbn_keeper.specs.Creating.{is_made, is_allowed}
use Rattle.dbn_keeper.specs.Files.{folder}
use Rattle.dbn_store.specs.States.{Situation, RunState}
use Rattle.dbn_engine.specs.Steps.{text_at}
use Rattle.dbn_top.specs.declared.verb.Verb.{Verb}
use Rattle.dbn_top.specs.declared.verb.Verb.TheVariants.{Check, Try, New, Run, Dump, Demo}
use Rattle.dbn_top.specs.Calls.{Call, Given}
use Rattle.dbn_top.specs.Starts.{accepted_in, found}
use Rattle.dbn_top.specs.Starts.Found.{Runs}

-- the net is accepted
abbrev pub HasNet : Limits → Given → Type 0
HasNet limits given = (s : Situation) × (accepted_in limits given.net ≡ Some s)

-- the two files stand for a state
abbrev pub HasRun : Limits → Given → Type 0
HasRun limits given = (r : RunState) × (found limits given.a given.b ≡ Runs r)

-- the commands are within the limit
abbrev pub HasShort : Limits → Given → Type 0
HasShort limits given = length given.commands ≤ limits.input_bytes

-- the net is accepted, no file is open, and the new file fits
abbrev pub HasRoom : Limits → Given → Type 0
HasRoom limits given = (s : Situation) × (accepted_in limits given.net ≡ Some s) × (is_made (folder given.a given.b) ≡ false) × IsTrue (is_allowed limits.net_bytes limits.file_bytes (length (text_at s)))

-- the words name a verb, and what it reads is as it has to be
abbrev pub IsInOrder : Limits → Option Verb → Given → Type 0
IsInOrder limits None given = ⊥
IsInOrder limits (Some Check) given = HasNet limits given
IsInOrder limits (Some Try) given = HasNet limits given × HasShort limits given
IsInOrder limits (Some New) given = HasRoom limits given
IsInOrder limits (Some (Run every)) given = HasRun limits given × HasShort limits given
IsInOrder limits (Some Dump) given = HasRun limits given
IsInOrder limits (Some (Demo size)) given = Unit {0}

-- no count of faults rose, with those of both disks before the call and after it
pub record NoneRose (call : Call) (a a_after b b_after : ℕ) : Type 0 where
  pub net : Rose call.net.faults call.net.faults_after → ⊥
  pub commands : Rose call.commands.faults call.commands.faults_after → ⊥
  pub out : Rose call.out.faults call.out.faults_after → ⊥
  pub first : Rose a a_after → ⊥
  pub second : Rose b b_after → ⊥
