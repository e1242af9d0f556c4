-- What a folder stands for: the net of its base, and the snapshot after the bodies, one group after the other.
use Rattle.std.specs.Prelude.{ℕ, ◌+◌, nat_le, Bool, cond, List, [], ◌∷◌, length, Option, Some, None, Result, Ok, Err}
use Rattle.std.specs.Option.{option_map}
use Rattle.dbn_value.specs.declared.member.Member.{Member}
use Rattle.dbn_net.specs.declared.decl.Decl.{Decl}
use Rattle.dbn_net.specs.declared.snapshot.Snapshot.{Snapshot}
use Rattle.dbn_net.specs.Tables.{shapes}
use Rattle.dbn_net.specs.Texts.{Start, Fault, reads}
use Rattle.dbn_codec.specs.Bodies.{Shapes}
use Rattle.dbn_codec.specs.Reading.{read_body, read_group}
use Rattle.dbn_keeper.specs.Files.{Store, Folder}
use Rattle.dbn_keeper.specs.Files.Folder.{NotMade, NotAStore, Holds}
use Rattle.dbn_keeper.specs.declared.base.Base.{Base}
use Rattle.dbn_keeper.specs.declared.opening.Form.{Form}
use Rattle.dbn_keeper.specs.declared.opening.Form.TheVariants.{One, Two}
use Rattle.dbn_core.specs.Group.{Grouping, group}
use Rattle.dbn_store.specs.States.{Situation, situation}

-- ---- before the records

-- the facts and tokens of the text, with the two numbers of the base
abbrev pub first_snapshot : Base → Start → Snapshot
first_snapshot base start = record { instance = start.facts; marking = start.tokens; next = base.next; fired = base.fired }

abbrev pub started : Base → Result Start Fault → Option Situation
started base (Ok start) = cond (nat_le start.next base.next) (Some (situation start.decls (first_snapshot base start))) None
started base (Err fault) = None

-- none where the text is no accepted net, or the next id is below the first one of the text
abbrev pub start_of : Base → Option Situation
start_of base = started base (reads base.text)

-- ---- the records

-- the members whose body of this form the bytes are
abbrev pub members_in : Form → Shapes → List ℕ → Option (List Member)
members_in One shapes body = option_map (λ member. member ∷ []) (read_body shapes body)
members_in Two shapes body = read_group shapes body

abbrev pub after_group : Grouping → Option Snapshot
after_group (Ok all) = Some all.1
after_group (Err why) = None

abbrev pub after_members : List Decl → Snapshot → Option (List Member) → Option Snapshot
after_members net s None = None
after_members net s (Some members) = after_group (group net s members)

-- the snapshot after the members of a body; none where it is no body of the net, or its group is refused
abbrev pub after_body : Form → List Decl → Snapshot → List ℕ → Option Snapshot
after_body form net s body = after_members net s (members_in form (shapes net) body)

-- ---- the folder

pub data Opened : Type 0 where
  -- no file is open
  IsNotMade : Opened
  -- there is something else
  IsNoStore : Opened
  -- what stands at the gate of this place is damaged
  IsDamaged : ℕ → Opened
  Stands : Situation → Opened

abbrev pub gone_on : ℕ → (Snapshot → Opened) → Option Snapshot → Opened
gone_on place next None = IsDamaged place
gone_on place next (Some s) = next s

-- the bodies one after the other, of which the first one's gate has this place, up to a shut or a torn gate
abbrev pub replayed : Form → List Decl → ℕ → List (List ℕ) → Bool → Snapshot → Opened
replayed form net place [] torn s = cond torn (IsDamaged place) (Stands (situation net s))
replayed form net place (body ∷ bodies) torn s = gone_on place (replayed form net (place + 5 + length body) bodies torn) (after_body form net s body)

abbrev pub opened_from : Store → Option Situation → Opened
opened_from store None = IsNoStore
opened_from store (Some s) = replayed store.form s.net (33 + length store.base.text) store.bodies store.torn s.snapshot

-- what a folder stands for
abbrev pub opened : Folder → Opened
opened NotMade = IsNotMade
opened NotAStore = IsNoStore
opened (Holds store) = opened_from store (start_of store.base)

abbrev pub situation_in : Opened → Option Situation
situation_in IsNotMade = None
situation_in IsNoStore = None
situation_in (IsDamaged place) = None
situation_in (Stands s) = Some s

-- the net and the snapshot that a folder stands for
abbrev pub meaning : Folder → Option Situation
meaning f = situation_in (opened f)
