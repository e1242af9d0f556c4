-- On one of two disks nothing is pending.
use Rattle.std.proofs.Common.{◌≡◌, ◌⊎◌, ℕ, Bool, true, false, List, IsTrue, inl, inr, refl, sym, ap, subst, ◌∙◌}
use Rattle.std.proofs.lemmas.Bool.{false≢true, true≢false}
use Rattle.dbn_disk.specs.Disk.{DiskState, Still}
use Rattle.dbn_keeper.specs.Creating.{IsNoneOrNew}
use Rattle.dbn_keeper.specs.Files.{folder}
use Rattle.dbn_keeper.specs.Files.Folder.{NotMade}
use Rattle.dbn_keeper.specs.declared.base.Base.{Base}
use Rattle.dbn_keeper.specs.TwoFiles.{Cursor, IsTwo, pair_of}
use Rattle.dbn_twofile.specs.Resting.{IsStable, OneRests}

-- after a look at the chosen file
pub rests_looked : (making : Bool) (c c' o : DiskState) → c'.content ≡ c.content → (IsTrue c.honest → Still c c') → c'.honest ≡ c.honest → OneRests making c o → OneRests making c' o
rests_looked making c c' o same still honest rests = record {
  chosen_rests = λ m b told fair x here. rests.chosen_rests m b (sym same ∙ told) (subst IsTrue honest fair) x ((still (subst IsTrue honest fair)).image x here);
  other_rests = rests.other_rests;
}

-- from a live keeper on, while the chosen file is written, and while the other one is
pub other_rests : (k : Cursor) (c c' o : DiskState) → IsTwo k c o → OneRests false c' o
other_rests k c c' o two = record { chosen_rests = λ m. absurd (false≢true m); other_rests = λ m. two.other_settled }

pub chosen_rests : (k : Cursor) (c o o' : DiskState) → IsTwo k c o → OneRests true c o'
chosen_rests k c o o' two = record { chosen_rests = λ m. two.chosen_settled; other_rests = λ m. absurd (true≢false m) }

-- after a checkpoint the chosen file of before is the other one
pub made_rests : (k : Cursor) (c o o' : DiskState) → IsTwo k c o → OneRests false o' c
made_rests k c o o' two = record { chosen_rests = λ m. absurd (false≢true m); other_rests = λ m. two.chosen_settled }

pub one_stable : (making : Bool) (c o : DiskState) → OneRests making c o → IsStable c ⊎ IsStable o
one_stable true c o rests = inl (rests.chosen_rests refl)
one_stable false c o rests = inr (rests.other_rests refl)

pub one_stable_turned : (making : Bool) (c o : DiskState) → OneRests making c o → IsStable o ⊎ IsStable c
one_stable_turned true c o rests = inr (rests.chosen_rests refl)
one_stable_turned false c o rests = inl (rests.other_rests refl)

-- each pair of images of the disks is one of the keeper
pub images_plain : (swapped : Bool) (c o : DiskState) (x y : List ℕ) → swapped ≡ false → c.image x → o.image y → ((u : List ℕ) × (v : List ℕ) × c.image u × o.image v × (pair_of swapped u v ≡ folder x y))
images_plain swapped c o x y is image_x image_y = (x, y, image_x, image_y, ap (λ (s : Bool). pair_of s x y) is)

pub images_turned : (swapped : Bool) (c o : DiskState) (x y : List ℕ) → swapped ≡ true → o.image x → c.image y → ((u : List ℕ) × (v : List ℕ) × c.image u × o.image v × (pair_of swapped u v ≡ folder x y))
images_turned swapped c o x y is image_x image_y = (y, x, image_y, image_x, ap (λ (s : Bool). pair_of s y x) is)

-- the two files are as before
pub same_pair : (base : Base) (x y u v : List ℕ) → u ≡ x → v ≡ y → folder x y ≡ NotMade → IsNoneOrNew base (folder u v)
same_pair base x y u v first second none = inl (ap (λ (l : List ℕ). folder l v) first ∙ ap (folder x) second ∙ none)
