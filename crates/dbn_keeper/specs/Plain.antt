-- A keeper over one file is one over two, of which the second is no disk.
use Rattle.std.proofs.Common.{◌≡◌, ℕ, Bool, true, false, List, [], Some, IsTrue}
use Rattle.dbn_disk.specs.Disk.{DiskState, IsSound}
use Rattle.dbn_keeper.specs.TwoFiles.{Cursor}
use Rattle.dbn_keeper.specs.declared.base.Base.{Base}
use Rattle.dbn_keeper.specs.declared.opening.Form.{Form}

-- nothing, at each moment
abbrev pub no_disk : DiskState
no_disk = record { content = Some []; image = λ c. c ≡ []; since = λ t c. c ≡ []; clock = 0; honest = true; faults = 0 }

some_list : (a b : List ℕ) → Some a ≡ Some b → b ≡ a
some_list a b e = cc

pub no_disk_sound : IsTrue true → IsSound no_disk
no_disk_sound honest = record { held = λ b e. some_list [] b e; now = λ t c before image. image; only_now = λ c since. since }

abbrev pub plain_cursor : Form → Base → ℕ → ℕ → ℕ → Bool → ℕ → ℕ → Bool → Cursor
plain_cursor form base generation last file_bytes live records place at_end = record {
  form = form;
  base = base;
  generation = generation;
  last = last;
  cap = Some file_bytes;
  live = live;
  records = records;
  place = place;
  at_end = at_end;
  swapped = false;
}
