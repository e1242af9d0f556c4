-- What obeying a command leaves, before its reply is written.
use Rattle.std.specs.Prelude.{◌≡◌, ℕ, ◌+◌, ◌<◌, ◌^◌, Bool, ◌&&◌, nat_le, nat_lt, List, length, Some}
use Rattle.dbn_value.specs.declared.member.Member.{Member}
use Rattle.dbn_net.specs.declared.decl.Decl.{Decl}
use Rattle.dbn_net.specs.Tables.{shapes}
use Rattle.dbn_net.specs.Good.{Good}
use Rattle.dbn_net.specs.WellFormed.{WellFormed}
use Rattle.dbn_keeper.specs.Keeping.{KeeperState, is_within}
use Rattle.dbn_keeper.specs.declared.opening.Form.{Form}
use Rattle.dbn_store.specs.States.{Situation, run_state}
use Rattle.dbn_store.specs.Folders.{members_in}
use Rattle.dbn_engine.specs.Steps.{Terms, Answer, body_of}
use Rattle.dbn_engine.specs.Serving.{Joined, Brings, StandsForEither}
use Rattle.dbn_engine.specs.declared.answered.Answered.{Answered}
use Rattle.dbn_engine.specs.declared.run_terms.RunTerms.{RunTerms}

abbrev pub terms_of : RunTerms → Terms
terms_of terms = record { net_bytes = terms.net_bytes; every = terms.every }

-- a well-formed net, and a good snapshot of it
pub record IsSound (s : Situation) : Type 0 where
  pub net : WellFormed s.net
  pub snapshot : Good s.net s.snapshot

-- the bytes are the body of the members, and read as them
pub record IsBody (net : List Decl) (form : Form) (members : List Member) (bytes : List ℕ) : Type 0 where
  pub is : bytes ≡ body_of form members
  pub short : length bytes < 2 ^ 32
  pub reads : members_in form (shapes net) bytes ≡ Some members

-- a checkpoint with a text of this size may be made
abbrev pub fits_in : ℕ → KeeperState → ℕ → Bool
fits_in net_bytes keeper size = nat_le size net_bytes && (is_within keeper.cap (34 + size) && nat_lt keeper.generation (2 ^ 62))

-- the answer that is due was made, and the core and the keeper stand for the state behind it
pub record Obeyed (due : Answer) (core_live : Bool) (now : Situation) (keeper : KeeperState) (made : Answered) : Type 0 where
  pub reply : made.reply ≡ due.reply
  pub recorded : made.recorded ≡ due.recorded
  pub next : run_state now keeper ≡ due.next
  pub joined : Joined core_live now keeper

-- a crash leaves the situation before the command or the one behind it
abbrev pub Changes : Answer → Situation → KeeperState → KeeperState → Type 0
Changes due before old new = Brings old new (StandsForEither before due.next.now)
