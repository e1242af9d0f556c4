-- A keeper over two files: what it has in memory, and which of its disks has nothing pending.
use Rattle.std.specs.Prelude.{◌≡◌, ℕ, ◌^◌, Bool, false, List, Some, IsTrue}
use Rattle.dbn_disk.specs.Disk.{DiskState, Only}
use Rattle.dbn_keeper.specs.TwoFiles.{Cursor}
use Rattle.dbn_keeper.specs.declared.base.Base.{Base}
use Rattle.dbn_keeper.specs.declared.opening.Form.{Form}

-- the last generation is 2^62, and the cap is that of its files
abbrev pub two_cursor : Form → Base → ℕ → ℕ → Bool → ℕ → ℕ → Bool → Bool → Cursor
two_cursor form base generation file_bytes live records place at_end swapped = record {
  form = form;
  base = base;
  generation = generation;
  last = 2 ^ 62;
  cap = Some file_bytes;
  live = live;
  records = records;
  place = place;
  at_end = at_end;
  swapped = swapped;
}

-- nothing is pending: a crash leaves what is held
abbrev pub IsStable : DiskState → Type 0
IsStable disk = (b : List ℕ) → disk.content ≡ Some b → IsTrue disk.honest → Only b disk.image

-- nothing is pending on the chosen disk while a file is made on the other one, and otherwise on the other one
pub record OneRests (making : Bool) (chosen other : DiskState) : Type 0 where
  pub chosen_rests : IsTrue making → IsStable chosen
  pub other_rests : making ≡ false → IsStable other
