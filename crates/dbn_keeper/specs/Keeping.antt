-- All that a keeper means, and what its calls may do to it.
use Rattle.std.specs.Prelude.{◌≡◌, ◌⊎◌, ℕ, ◌+◌, ◌<◌, ◌≤◌, ◌^◌, Bool, true, false, cond, ◌&&◌, nat_le, nat_lt, List, [], ◌∷◌, length, drop, get_or, Option, None, Some, is_some, Result, IsErrOf, IsTrue}
use Rattle.dbn_model.specs.Causes.{Rose}
use Rattle.dbn_io.specs.declared.trouble.Trouble.{Trouble}
use Rattle.dbn_io.specs.declared.trouble.Trouble.TheVariants.{Failed}
use Rattle.dbn_keeper.specs.Files.{Store, Folder, place_behind}
use Rattle.dbn_keeper.specs.Files.Folder.{Holds}
use Rattle.dbn_keeper.specs.declared.base.Base.{Base}
use Rattle.dbn_keeper.specs.declared.base.Step.{Step}
use Rattle.dbn_keeper.specs.declared.base.Step.TheVariants.{End, Body, Damaged}
use Rattle.dbn_keeper.specs.declared.opening.Form.{Form}

-- all that a keeper means at one moment
pub record KeeperState : Type 1 where
  pub form : Form
  pub base : Base
  pub generation : ℕ
  -- no checkpoint goes past this generation
  pub last : ℕ
  -- the most bytes of a file
  pub cap : Option ℕ
  pub live : Bool
  -- how many bodies were handed out or appended, and the place of the gate behind them
  pub records : ℕ
  pub place : ℕ
  -- there are no more bodies
  pub at_end : Bool
  -- what it holds, where that is told
  pub held : Option Folder
  -- the bytes of each of its files, where they are told
  pub bytes : List (Option (List ℕ))
  pub honest : Bool
  -- a crash now may leave files that stand for this
  pub image : Folder → Type 0
  -- a crash since that moment may have left these files, each at a moment of its own
  pub since : List ℕ → Folder → Type 0
  -- a moment not before the one at which it was found or made, since which it began no checkpoint
  pub steady : List ℕ → Type 0
  -- the clock of each file, and its count of faults
  pub moment : List ℕ
  pub faults : List ℕ

-- no number falls
abbrev pub NoneFalls : List ℕ → List ℕ → Type 0
NoneFalls old new = (i : ℕ) → get_or old i 0 ≤ get_or new i 0

-- one of the counts rose
abbrev pub RoseIn : List ℕ → List ℕ → Type 0
RoseIn old new = ((i : ℕ) × Rose (get_or old i 0) (get_or new i 0))

-- no count falls, and a failure comes only where one rose, and always where one rose
pub record HasCauseIn {T : Type 0} (before now : List ℕ) (result : Result T Trouble) : Type 0 where
  pub later : NoneFalls before now
  pub failed : IsErrOf result Failed → RoseIn before now
  pub kept : (IsErrOf result Failed → ⊥) → now ≡ before

-- every call: what is told stays told, what is honest stays honest, and the bounds stay
pub record Keeps (old new : KeeperState) : Type 0 where
  pub told : is_some new.held ≡ is_some old.held
  pub honest : new.honest ≡ old.honest
  pub cap : new.cap ≡ old.cap
  pub last : new.last ≡ old.last

-- the form, the base and the generation stay
pub record SameHeader (old new : KeeperState) : Type 0 where
  pub form : new.form ≡ old.form
  pub base : new.base ≡ old.base
  pub generation : new.generation ≡ old.generation

-- the law of images: one of now is one since each earlier moment, and since now there are no others
pub record IsSound (s : KeeperState) : Type 0 where
  pub now : (t : List ℕ) (f : Folder) → NoneFalls t s.moment → s.image f → s.since t f
  pub only_now : (f : Folder) → s.since s.moment f → s.image f

-- the law of a live keeper: it holds one store, and each image now is that store
pub record IsSettled (s : KeeperState) : Type 0 where
  pub held : (f : Folder) → s.held ≡ Some f → ((bodies : List (List ℕ)) × (torn : Bool) × (f ≡ Holds (record { form = s.form; base = s.base; generation = s.generation; bodies = bodies; torn = torn })))
  pub image : (f g : Folder) → s.held ≡ Some f → IsTrue s.honest → s.image g → g ≡ f
  pub steady : (f : Folder) → s.held ≡ Some f → IsTrue s.honest → s.steady s.moment
  -- so many of its bodies were handed out or appended, and the gate behind them has this place
  pub counted : (store : Store) → s.held ≡ Some (Holds store) → s.records ≤ length store.bodies
  pub reached : (store : Store) → s.held ≡ Some (Holds store) → s.place ≡ place_behind s.records store
  -- at the end these are all, and a shut gate ends them
  pub ended : (store : Store) → s.held ≡ Some (Holds store) → IsTrue s.at_end → (store.torn ≡ false) × (length store.bodies ≡ s.records)
  -- told or not
  pub numbers : (s.base.fired ≤ 2 ^ 62) × (s.base.next ≤ 2 ^ 62)
  pub placed : s.at_end ≡ false → s.place < 2 ^ 64

-- what stands behind some of the bodies, by the bodies from there on
abbrev pub step_at : List (List ℕ) → Bool → ℕ → Step
step_at [] torn place = cond torn (Damaged place) End
step_at (body ∷ bodies) torn place = Body body place

-- what stands behind so many bodies of a store
abbrev pub next_step : Store → ℕ → ℕ → Step
next_step store records place = step_at (drop records store.bodies) store.torn place

-- one body of this size more
pub record Steps (old new : KeeperState) (size : ℕ) : Type 0 where
  pub place : new.place ≡ old.place + 5 + size
  pub records : new.records ≡ old.records + 1

-- no body more
pub record Stays (old new : KeeperState) : Type 0 where
  pub place : new.place ≡ old.place
  pub records : new.records ≡ old.records

-- where a step leaves the keeper, told or not
abbrev pub Follows : KeeperState → KeeperState → Step → Type 0
Follows old new End = Stays old new × (new.at_end ≡ true)
Follows old new (Body body place) = Steps old new (length body) × (place ≡ old.place) × (new.at_end ≡ false)
Follows old new (Damaged place) = Stays old new × (place ≡ old.place) × (new.at_end ≡ false)

-- what is held, the bytes of each file and all images are as before
pub record SameFiles (old new : KeeperState) : Type 0 where
  pub held : new.held ≡ old.held
  pub bytes : new.bytes ≡ old.bytes
  pub moment : IsTrue old.honest → new.moment ≡ old.moment
  pub image : IsTrue old.honest → (f : Folder) → new.image f → old.image f
  pub since : IsTrue old.honest → (t : List ℕ) (f : Folder) → new.since t f → old.since t f
  pub steady : IsTrue old.honest → (t : List ℕ) → old.steady t → new.steady t

-- so many bytes are no more than the cap
abbrev pub is_within : Option ℕ → ℕ → Bool
is_within None size = true
is_within (Some cap) size = nat_le size cap

-- a body of this size, and the gates at both its ends, end within the cap
abbrev pub has_room : KeeperState → ℕ → Bool
has_room s size = is_within s.cap (s.place + 6 + size)

-- a new file with a text of this size ends within the cap, and there is a generation for it
abbrev pub has_fit : KeeperState → ℕ → Bool
has_fit s size = is_within s.cap (34 + size) && nat_lt s.generation s.last

-- since each moment since which no checkpoint began, a crash leaves nothing new but files that stand for P
pub record BringsOnly (old new : KeeperState) (P : Folder → Type 0) : Type 0 where
  pub later : NoneFalls old.moment new.moment
  pub only : (t : List ℕ) (f : Folder) → old.steady t → new.since t f → old.since t f ⊎ P f
