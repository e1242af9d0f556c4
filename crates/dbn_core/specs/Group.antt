-- Groups of firings: all members are fired one after the other, or none is.
use Rattle.std.specs.Prelude.{◌≡◌, ℕ, ◌+◌, ◌<◌, List, [], ◌∷◌, ◌++◌, length, Result, Ok, Err}
use Rattle.std.specs.List.{AllByRecursion}
use Rattle.dbn_value.specs.declared.member.Member.{Member}
use Rattle.dbn_formula.specs.Solutions.{HasShape}
use Rattle.dbn_net.specs.declared.decl.Decl.{Decl}
use Rattle.dbn_net.specs.declared.snapshot.Snapshot.{Snapshot}
use Rattle.dbn_net.specs.Tables.{transitions}
use Rattle.dbn_net.specs.Enabled.{shape_at}
use Rattle.dbn_core.specs.declared.outcome.Fired.{Fired}
use Rattle.dbn_core.specs.declared.outcome.Refusal.{Refusal}
use Rattle.dbn_core.specs.Fire.{Firing, fire_at}

-- its transition is one of the net, and its row has the types of that one
pub record IsMember (net : List Decl) (m : Member) : Type 0 where
  pub within : m.t < length (transitions net)
  pub shape : HasShape m.row (shape_at net m.t)

abbrev pub AreMembers : List Decl → List Member → Type 0
AreMembers net members = AllByRecursion (IsMember net) members

-- the firings with the last snapshot, or the number of the first member that is refused, with the reason
abbrev pub Grouping : Type 0
Grouping = Result (List Fired × Snapshot) (ℕ × Refusal)

abbrev pub told_first : Fired → Grouping → Grouping
told_first f (Ok all) = Ok (f ∷ all.0, all.1)
told_first f (Err why) = Err why

-- the other members are fired in the snapshot after the first one, whose number is n
abbrev pub and_then : ℕ → (Snapshot → Grouping) → Firing → Grouping
and_then n rest (Ok made) = told_first made.0 (rest made.1)
and_then n rest (Err why) = Err (n, why)

abbrev pub group_from : ℕ → List Decl → List Member → Snapshot → Grouping
group_from n net [] s = Ok ([], s)
group_from n net (m ∷ members) s = and_then n (λ next. group_from (n + 1) net members next) (fire_at net s m.t m.row)

-- the members one after the other, counted from 0
abbrev pub group : List Decl → Snapshot → List Member → Grouping
group net s members = group_from 0 net members s

-- the members before number i fire one after the other, and that one is refused behind them
pub record Refuses (net : List Decl) (s : Snapshot) (members : List Member) (i : ℕ) (why : Refusal) : Type 0 where
  pub front : List Member
  pub member : Member
  pub behind : List Member
  pub parts : members ≡ front ++ member ∷ behind
  pub number : length front ≡ i
  pub fired : List Fired
  pub mid : Snapshot
  pub before : group net s front ≡ Ok (fired, mid)
  pub refused : fire_at net mid member.t member.row ≡ Err why
