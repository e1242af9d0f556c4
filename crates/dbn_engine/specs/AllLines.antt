-- A run over all lines of a source: what was written, how it ended, and what a crash leaves.
use Rattle.std.specs.Prelude.{◌≡◌, ◌⊎◌, ℕ, ◌+◌, ◌≤◌, Bool, true, false, cond, nat_lt, List, [], ◌++◌, length, take, Option, Some, IsTrue}
use Rattle.std.specs.Io.KnownBytes.{Appends, Consumes}
use Rattle.dbn_model.specs.Causes.{Rose}
use Rattle.dbn_model.specs.Lines.{due_lines, whole_lines}
use Rattle.dbn_model.specs.Runs.{text_of, state_after, replies, answered}
use Rattle.dbn_keeper.specs.Files.{Store, Folder}
use Rattle.dbn_keeper.specs.Files.Folder.{Holds}
use Rattle.dbn_keeper.specs.Keeping.{NoneFalls, RoseIn}
use Rattle.dbn_store.specs.States.{RunState}
use Rattle.dbn_engine.specs.Steps.{step}
use Rattle.dbn_engine.specs.Serving.{EngineState, StandsFor}
use Rattle.dbn_engine.specs.declared.run_end.RunEnd.{RunEnd}
use Rattle.dbn_engine.specs.declared.run_end.RunEnd.TheVariants.{Done, ReadFault, WriteFault, DiskFault, InputLimit, Memory}

-- all lines that are due were answered
abbrev pub is_whole : RunEnd → Bool
is_whole Done = true
is_whole ReadFault = false
is_whole WriteFault = false
is_whole DiskFault = false
is_whole InputLimit = true
is_whole Memory = false

-- it ended between two lines
abbrev pub is_between : RunEnd → Bool
is_between Done = true
is_between ReadFault = true
is_between WriteFault = false
is_between DiskFault = false
is_between InputLimit = true
is_between Memory = false

-- the end of a run in which nothing fails, over these bytes, of which at most so many are taken
abbrev pub due_end : ℕ → List ℕ → RunEnd
due_end most all = cond (nat_lt most (length all)) InputLimit Done

-- how many bytes may have been taken
abbrev pub MayTake : RunEnd → ℕ → ℕ → Type 0
MayTake Done most count = count ≤ most
MayTake ReadFault most count = count ≤ most
MayTake WriteFault most count = count ≤ most
MayTake DiskFault most count = count ≤ most
MayTake InputLimit most count = count ≡ most + 1
MayTake Memory most count = count ≤ most

-- so many bytes were taken
abbrev pub Takes : RunEnd → ℕ → Option (List ℕ) → Option (List ℕ) → Type 0
Takes ended most left left_after = (taken : List ℕ) × Consumes left left_after taken × MayTake ended most (length taken)

-- a run over the lines that are due
abbrev pub text_due : EngineState → ℕ → List ℕ → List ℕ
text_due e most all = text_of (step e.terms) e.run (due_lines most all)

-- the state after the first n of them
abbrev pub state_at : EngineState → ℕ → List ℕ → ℕ → RunState
state_at e most all n = state_after (step e.terms) e.run (take n (due_lines most all))

-- the greatest number of replies that lie whole within so many bytes of the text
abbrev pub answered_in : EngineState → ℕ → List ℕ → ℕ → ℕ
answered_in e most all count = answered (replies (step e.terms) e.run (due_lines most all)) count

-- after how many lines the folder may stand, where so many were answered
abbrev pub StandsAfter : RunEnd → ℕ → ℕ → Type 0
StandsAfter Done count n = n ≡ count
StandsAfter ReadFault count n = n ≡ count
StandsAfter WriteFault count n = n ≡ count + 1
StandsAfter DiskFault count n = (n ≡ count) ⊎ (n ≡ count + 1)
StandsAfter InputLimit count n = n ≡ count
StandsAfter Memory count n = (n ≡ count) ⊎ (n ≡ count + 1)

-- a run over a source that had all of these bytes, from the engine `old` to the engine `new`. A front of the replies to the lines
-- that are due was written. A source that failed leaves the replies to the lines that end within the bytes taken, and a disk
-- that failed leaves whole replies. A crash now leaves a folder that stands for a front of the lines with every answered one.
pub record Serves (ended : RunEnd) (most : ℕ) (all : List ℕ) (old new : EngineState) (left left_after out out_after : Option (List ℕ)) : Type 0 where
  pub written : List ℕ
  pub rest : List ℕ
  pub wrote : Appends out out_after written
  pub front : text_due old most all ≡ written ++ rest
  pub whole : is_whole ended ≡ true → (ended ≡ due_end most all) × (rest ≡ [])
  pub read : ended ≡ ReadFault → (taken : List ℕ) × Consumes left left_after taken × (written ≡ text_of (step old.terms) old.run (whole_lines taken))
  pub disk : ended ≡ DiskFault → (n : ℕ) × (written ≡ text_of (step old.terms) old.run (take n (due_lines most all)))
  pub run : is_whole ended ≡ true → new.run ≡ state_after (step old.terms) old.run (due_lines most all)
  pub stands : (store : Store) → old.keeper.held ≡ Some (Holds store) → IsTrue old.keeper.honest → (f : Folder) → new.keeper.image f
      → (n : ℕ) × StandsAfter ended (answered_in old most all (length written)) n × StandsFor (state_at old most all n).now f

-- the count doesn't fall; it rose where the run ended for it, and stays otherwise
pub record HasCountOf (blamed ended : RunEnd) (before now : ℕ) : Type 0 where
  pub later : before ≤ now
  pub failed : ended ≡ blamed → Rose before now
  pub kept : (ended ≡ blamed → ⊥) → now ≡ before

-- the same of the counts of the disks
pub record HasCountsOf (ended : RunEnd) (before now : List ℕ) : Type 0 where
  pub later : NoneFalls before now
  pub failed : ended ≡ DiskFault → RoseIn before now
  pub kept : (ended ≡ DiskFault → ⊥) → now ≡ before
