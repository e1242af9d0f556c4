-- What a call on a disk in memory leaves beside its answer.
use Rattle.std.specs.Prelude.{◌≡◌, List, [], Result}
use Rattle.dbn_io.specs.Causes.{is_failed}
use Rattle.dbn_io.specs.Memory.{after_call, fails_next}
use Rattle.dbn_io.specs.declared.trouble.Trouble.{Trouble}
use Rattle.dbn_disk.specs.MemState.{MemState}
use Rattle.dbn_disk.specs.declared.log.Call.{Call}

-- the call is counted, it failed exactly where that was planned, and these are the calls recorded then
pub record Counted {T : Type 0} (old new : MemState) (calls : List Call) (result : Result T Trouble) : Type 0 where
  pub failed : is_failed result ≡ fails_next old.plan
  pub plan : new.plan ≡ after_call old.plan
  pub recorded : new.calls ≡ calls
  pub first : new.first ≡ old.first
  -- where no call is to fail there is no fault
  pub no_faults : old.plan.fails ≡ [] → new.plan.faults ≡ old.plan.faults
