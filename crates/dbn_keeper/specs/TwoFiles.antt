-- A keeper over two files, of which one is chosen.
use Rattle.std.specs.Prelude.{◌≡◌, ℕ, ◌<◌, ◌≤◌, ◌^◌, Bool, true, false, cond, ◌&&◌, nat_le, nat_lt, List, [], ◌∷◌, get_or, Option, None, Some, IsTrue}
use Rattle.dbn_disk.specs.Disk.{DiskState, Only}
use Rattle.dbn_journal.specs.Records.{IsShutAt}
use Rattle.dbn_journal.specs.Walk.{place_after}
use Rattle.dbn_keeper.specs.Files.{Folder, folder, opening_of, has_base, base_of, first_gate}
use Rattle.dbn_keeper.specs.declared.opening.Opening.TheVariants.{NotOpen, Foreign, Marked}
use Rattle.dbn_keeper.specs.declared.opening.Opening.{Opening}
use Rattle.dbn_keeper.specs.declared.opening.Form.{Form}
use Rattle.dbn_keeper.specs.Keeping.{KeeperState}
use Rattle.dbn_keeper.specs.declared.base.Base.{Base}

-- what the chosen file and the other one stand for; they may be exchanged
abbrev pub pair_of : Bool → List ℕ → List ℕ → Folder
pair_of true x y = folder y x
pair_of false x y = folder x y

-- a file that says this is not chosen beside one of this generation
abbrev pub gives_way : Bool → ℕ → Opening → Bool
gives_way swapped generation NotOpen = true
gives_way swapped generation Foreign = false
gives_way swapped generation (Marked form other) = cond swapped (nat_lt other generation) (nat_le other generation)

-- what is known of the chosen file: its header, and that so many records stand before the gate at this place
pub record IsChosen (form : Form) (base : Base) (generation place records : ℕ) (file : List ℕ) : Type 0 where
  pub opening : opening_of file ≡ Marked form generation
  pub header : has_base file ≡ true
  pub base_is : base_of file ≡ base
  pub walked : place_after records (first_gate file) file ≡ Some place

-- what a keeper has in memory
pub record Cursor : Type 0 where
  pub form : Form
  pub base : Base
  pub generation : ℕ
  pub last : ℕ
  pub cap : Option ℕ
  pub live : Bool
  pub records : ℕ
  pub place : ℕ
  pub at_end : Bool
  -- the second file is chosen
  pub swapped : Bool

-- the numbers of the first file and of the second one
abbrev pub pair_list : Bool → ℕ → ℕ → List ℕ
pair_list true chosen other = other ∷ chosen ∷ []
pair_list false chosen other = chosen ∷ other ∷ []

-- the bytes of the first file and of the second one
abbrev pub pair_bytes : Bool → Option (List ℕ) → Option (List ℕ) → List (Option (List ℕ))
pair_bytes true chosen other = other ∷ chosen ∷ []
pair_bytes false chosen other = chosen ∷ other ∷ []

abbrev pub chosen_in : Bool → List ℕ → ℕ
chosen_in swapped list = get_or list (cond swapped 1 0) 0

abbrev pub other_in : Bool → List ℕ → ℕ
other_in swapped list = get_or list (cond swapped 0 1) 0

abbrev pub both_held : Bool → Option (List ℕ) → Option (List ℕ) → Option Folder
both_held swapped (Some x) (Some y) = Some (pair_of swapped x y)
both_held swapped (Some x) None = None
both_held swapped None other = None

-- since that moment the chosen file was of its generation, and the other one gave way
pub record IsSteady (swapped : Bool) (form : Form) (generation : ℕ) (chosen other : DiskState) (t : List ℕ) : Type 0 where
  pub chosen_time : chosen_in swapped t ≤ chosen.clock
  pub other_time : other_in swapped t ≤ other.clock
  pub opening : (x : List ℕ) → chosen.since (chosen_in swapped t) x → opening_of x ≡ Marked form generation
  pub other_opening : (y : List ℕ) → other.since (other_in swapped t) y → gives_way swapped generation (opening_of y) ≡ true

abbrev pub two_state : Cursor → DiskState → DiskState → KeeperState
two_state k chosen other = record {
  form = k.form;
  base = k.base;
  generation = k.generation;
  last = k.last;
  cap = k.cap;
  live = k.live;
  records = k.records;
  place = k.place;
  at_end = k.at_end;
  held = both_held k.swapped chosen.content other.content;
  bytes = pair_bytes k.swapped chosen.content other.content;
  honest = chosen.honest && other.honest;
  image = λ f. ((x : List ℕ) × (y : List ℕ) × chosen.image x × other.image y × (pair_of k.swapped x y ≡ f));
  since = λ t f. ((x : List ℕ) × (y : List ℕ) × chosen.since (chosen_in k.swapped t) x × other.since (other_in k.swapped t) y × (pair_of k.swapped x y ≡ f));
  steady = IsSteady k.swapped k.form k.generation chosen other;
  moment = pair_list k.swapped chosen.clock other.clock;
  faults = pair_list k.swapped chosen.faults other.faults;
}

-- what a live keeper knows
pub record IsTwo (k : Cursor) (chosen other : DiskState) : Type 0 where
  pub chosen_file : (x : List ℕ) → chosen.content ≡ Some x → IsChosen k.form k.base k.generation k.place k.records x
  pub other_file : (y : List ℕ) → other.content ≡ Some y → gives_way k.swapped k.generation (opening_of y) ≡ true
  pub shut : (x : List ℕ) → chosen.content ≡ Some x → IsTrue k.at_end → IsShutAt k.place x
  pub chosen_settled : (x : List ℕ) → chosen.content ≡ Some x → IsTrue chosen.honest → Only x chosen.image
  pub other_settled : (y : List ℕ) → other.content ≡ Some y → IsTrue other.honest → Only y other.image
  pub fired : k.base.fired ≤ 2 ^ 62
  pub next : k.base.next ≤ 2 ^ 62
  pub few : k.records ≤ k.place
  pub sized : k.place < 2 ^ 64
