-- What is known of the objects in memory, whose calls fail as they were told to.
use Rattle.std.specs.Prelude.{ℕ, ◌+◌, ◌-◌, ◌^◌, min, Bool, cond, ◌==◌, List}
use Rattle.std.specs.List.{list_any}

-- the numbers of the calls that are to fail, how many calls there were, and how many of them failed
pub record Plan : Type 0 where
  pub fails : List ℕ
  pub calls : ℕ
  pub faults : ℕ

-- one more, up to the last value of a u64
abbrev pub one_more : ℕ → ℕ
one_more count = min (count + 1) (2 ^ 64 - 1)

-- the next call is to fail
abbrev pub fails_next : Plan → Bool
fails_next plan = list_any (λ call. call == plan.calls) plan.fails

abbrev pub after_call : Plan → Plan
after_call plan = record { fails = plan.fails; calls = one_more plan.calls; faults = cond (fails_next plan) (one_more plan.faults) plan.faults }

-- before the first call
abbrev pub begun : List ℕ → Plan
begun fails = record { fails = fails; calls = 0; faults = 0 }

-- a source in memory: the bytes left, and its calls
pub record MemoryLeft : Type 0 where
  pub left : List ℕ
  pub plan : Plan

-- a sink in memory: the bytes taken, and its calls
pub record MemoryTaken : Type 0 where
  pub taken : List ℕ
  pub plan : Plan
