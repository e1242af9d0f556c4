-- A keeper over two files keeps the laws of a keeper.
use Rattle.std.proofs.Common.{◌≡◌, ℕ, zero, suc, ◌+◌, ◌<◌, ◌≤◌, ◌^◌, Bool, true, false, ◌&&◌, nat_lt, nat_le, List, ◌∷◌, ◌++◌, length, take, drop, Option, Some, IsTrue, refl, sym, ap, subst, ◌∙◌, arith, length-append}
use Rattle.std.proofs.lemmas.Bool.{and_parts, ltb-true}
use Rattle.std.proofs.lemmas.List.{take_at, length-take, length-drop}
use Rattle.dbn_disk.specs.Disk.{DiskState, IsSound}
use Rattle.dbn_journal.specs.Records.{Found, RecordList, records_from, gate_in}
use Rattle.dbn_journal.specs.Records.Found.{Shut, Held, Torn}
use Rattle.dbn_journal.specs.Walk.{next_place, place_after, front_bodies, bodies_before, prepended}
use Rattle.dbn_journal.proofs.Walks.{so_many, prepended-bodies}
use Rattle.dbn_keeper.specs.Files.{Store, opening_of, first_gate, base_of, number32, space}
use Rattle.dbn_keeper.specs.Files.Folder.{Holds}
use Rattle.dbn_keeper.specs.Keeping.{NoneFalls, IsSound as IsSoundKeeper, IsSettled}
use Rattle.dbn_keeper.specs.TwoFiles.{pair_of, gives_way, IsChosen, Cursor, both_held, pair_list, chosen_in, other_in, two_state, IsTwo}
use Rattle.dbn_keeper.specs.declared.base.Base.{Base}
use Rattle.dbn_keeper.specs.declared.opening.Form.{Form}
use Rattle.dbn_keeper.specs.Choosing.{beside, store_here}
use Rattle.dbn_keeper.specs.Appending.{told_both, at_end_here, store_of}

pub chosen_of_pair : (swapped : Bool) (c o : ℕ) → chosen_in swapped (pair_list swapped c o) ≡ c
chosen_of_pair true c o = refl
chosen_of_pair false c o = refl

pub other_of_pair : (swapped : Bool) (c o : ℕ) → other_in swapped (pair_list swapped c o) ≡ o
other_of_pair true c o = refl
other_of_pair false c o = refl

pub chosen_before : (swapped : Bool) (t : List ℕ) (c o : ℕ) → NoneFalls t (pair_list swapped c o) → chosen_in swapped t ≤ c
chosen_before true t c o before = before 1
chosen_before false t c o before = before 0

pub other_before : (swapped : Bool) (t : List ℕ) (c o : ℕ) → NoneFalls t (pair_list swapped c o) → other_in swapped t ≤ o
other_before true t c o before = before 0
other_before false t c o before = before 1

pub two_sound : (k : Cursor) (chosen other : DiskState) → IsTrue (chosen.honest && other.honest) → (IsTrue chosen.honest → IsSound chosen) → (IsTrue other.honest → IsSound other) → IsSoundKeeper (two_state k chosen other)
two_sound k chosen other honest first second =
    let both = and_parts chosen.honest other.honest honest in
    record {
      now = λ t f before image. (
        image.0,
        image.1,
        (first both.0).now (chosen_in k.swapped t) image.0 (chosen_before k.swapped t chosen.clock other.clock before) image.2,
        (second both.1).now (other_in k.swapped t) image.1 (other_before k.swapped t chosen.clock other.clock before) image.3,
        image.4,
      );
      only_now = λ f since. (
        since.0,
        since.1,
        (first both.0).only_now since.0 (subst (λ (t : ℕ). chosen.since t since.0) (chosen_of_pair k.swapped chosen.clock other.clock) since.2),
        (second both.1).only_now since.1 (subst (λ (t : ℕ). other.since t since.1) (other_of_pair k.swapped chosen.clock other.clock) since.3),
        since.4,
      );
    }

some_same : (a b : ℕ) → Some a ≡ Some b → a ≡ b
some_same a b e = cc

held_next : (g : Found) (next : ℕ → Option ℕ) (end : ℕ) → next_place g next ≡ Some end → ((body : List ℕ) × (g ≡ Held body) × (next (length body) ≡ Some end))
held_next Shut next end e = cc
held_next Torn next end e = cc
held_next (Held body) next end e = (body, refl, e)

-- the place of a gate, by the bodies before it
place_is : (records place end : ℕ) (file : List ℕ) → place_after records place file ≡ Some end → end ≡ place + space (bodies_before records place file)
place_is zero place end file walked = let e : place ≡ end = some_same place end walked in omega (arith, e)
place_is (suc records) place end file walked =
    let first = held_next (gate_in (drop place file)) (λ size. place_after records (place + 5 + size) file) end walked in
    let more : end ≡ place + 5 + length first.0 + space (bodies_before records (place + 5 + length first.0) file) = place_is records (place + 5 + length first.0) end file first.2 in
    let bodies : space (bodies_before (suc records) place file) ≡ space (first.0 ∷ bodies_before records (place + 5 + length first.0) file) =
    ap (λ (g : Found). space (front_bodies g (λ size. bodies_before records (place + 5 + size) file))) first.1 in
    omega (arith, more, bodies)

-- the first gate stands behind the text
text_first : (form : Form) (base : Base) (generation place records : ℕ) (file : List ℕ) → IsChosen form base generation place records file → first_gate file ≡ 33 + length base.text
text_first form base generation place records file chosen =
    let inside : first_gate file < length file = ltb-true (first_gate file) (length file) (and_parts (nat_lt (first_gate file) (length file)) (nat_le (base_of file).fired (2 ^ 62) && nat_le (base_of file).next (2 ^ 62)) chosen.header).0 in
    let text : length base.text ≡ length (base_of file).text = ap (λ (b : Base). length b.text) (sym chosen.base_is) in
    omega (arith, inside, text, length-take (number32 29 (take 33 file)) (drop 33 file), length-drop 33 file)

held_same : (a b : Store) → Holds a ≡ Holds b → a ≡ b
held_same a b e = cc

pub two_settled : (k : Cursor) (chosen other : DiskState) → IsTwo k chosen other → (IsTrue chosen.honest → IsSound chosen) → (IsTrue other.honest → IsSound other) → IsSettled (two_state k chosen other)
two_settled k chosen other two first second = record {
  held = λ f told.
      let both = told_both k.swapped chosen.content other.content f told in
      let file = two.chosen_file both.0 both.2 in
      let list : RecordList = prepended (bodies_before k.records (first_gate both.0) both.0) (records_from k.place both.0) in
      (list.bodies, list.torn, sym both.4 ∙ beside k.swapped k.form k.generation both.0 both.1 file.opening (two.other_file both.1 both.3) ∙ store_here k.form k.base k.generation k.place k.records both.0 file);
  image = λ f g told honest image.
      let both = told_both k.swapped chosen.content other.content f told in
      let fair = and_parts chosen.honest other.honest honest in
      sym image.4 ∙ ap (λ (x : List ℕ). pair_of k.swapped x image.1) (two.chosen_settled both.0 both.2 fair.0 image.0 image.2)
      ∙ ap (pair_of k.swapped both.0) (two.other_settled both.1 both.3 fair.1 image.1 image.3) ∙ both.4;
  steady = λ f told honest.
      let both = told_both k.swapped chosen.content other.content f told in
      let fair = and_parts chosen.honest other.honest honest in
      record {
        chosen_time = let e = chosen_of_pair k.swapped chosen.clock other.clock in omega (arith, e);
        other_time = let e = other_of_pair k.swapped chosen.clock other.clock in omega (arith, e);
        opening = λ x since.
            let image : chosen.image x = (first fair.0).only_now x (subst (λ (t : ℕ). chosen.since t x) (chosen_of_pair k.swapped chosen.clock other.clock) since) in
            ap opening_of (two.chosen_settled both.0 both.2 fair.0 x image) ∙ (two.chosen_file both.0 both.2).opening;
        other_opening = λ y since.
            let image : other.image y = (second fair.1).only_now y (subst (λ (t : ℕ). other.since t y) (other_of_pair k.swapped chosen.clock other.clock) since) in
            ap (λ (l : List ℕ). gives_way k.swapped k.generation (opening_of l)) (two.other_settled both.1 both.3 fair.1 y image) ∙ two.other_file both.1 both.3;
      };
  counted = λ z told.
      let both = told_both k.swapped chosen.content other.content (Holds z) told in
      let many = so_many k.records (first_gate both.0) k.place both.0 (two.chosen_file both.0 both.2).walked in
      let all : length z.bodies ≡ length (bodies_before k.records (first_gate both.0) both.0 ++ (records_from k.place both.0).bodies) = ap length (bodies_are z told) in
      omega (arith, many, all, length-append (bodies_before k.records (first_gate both.0) both.0) (records_from k.place both.0).bodies);
  reached = λ z told.
      let both = told_both k.swapped chosen.content other.content (Holds z) told in
      let file = two.chosen_file both.0 both.2 in
      let front : List (List ℕ) = bodies_before k.records (first_gate both.0) both.0 in
      let many : length front ≡ k.records = so_many k.records (first_gate both.0) k.place both.0 file.walked in
      let before : take k.records z.bodies ≡ front = ap (take k.records) (bodies_are z told) ∙ take_at front (records_from k.place both.0).bodies k.records many in
      let base_same : z.base ≡ k.base = ap (λ (s : Store). s.base) (store_is z told) in
      let first : first_gate both.0 ≡ 33 + length k.base.text = text_first k.form k.base k.generation k.place k.records both.0 file in
      place_is k.records (first_gate both.0) k.place both.0 file.walked
      ∙ ap (λ (n : ℕ). n + space front) first
      ∙ sym (ap (λ (b : Base). 33 + length b.text + space (take k.records z.bodies)) base_same ∙ ap (λ (l : List (List ℕ)). 33 + length k.base.text + space l) before);
  ended = λ z told end.
      let both = told_both k.swapped chosen.content other.content (Holds z) told in (
        ap (λ (s : Store). s.torn) (ended_store z told end),
        ap (λ (s : Store). length s.bodies) (ended_store z told end) ∙ so_many k.records (first_gate both.0) k.place both.0 (two.chosen_file both.0 both.2).walked,
      );
  numbers = (two.fired, two.next);
  placed = λ e. two.sized;
}
  where
    list_of : List ℕ → RecordList
    list_of file = prepended (bodies_before k.records (first_gate file) file) (records_from k.place file)

    store_is : (z : Store) (told : both_held k.swapped chosen.content other.content ≡ Some (Holds z))
        → z ≡ store_of k.form k.base k.generation (list_of (told_both k.swapped chosen.content other.content (Holds z) told).0).bodies (list_of (told_both k.swapped chosen.content other.content (Holds z) told).0).torn
    store_is z told =
        let both = told_both k.swapped chosen.content other.content (Holds z) told in
        let file = two.chosen_file both.0 both.2 in
        held_same z _ (sym both.4 ∙ beside k.swapped k.form k.generation both.0 both.1 file.opening (two.other_file both.1 both.3) ∙ store_here k.form k.base k.generation k.place k.records both.0 file)

    bodies_are : (z : Store) (told : both_held k.swapped chosen.content other.content ≡ Some (Holds z))
        → z.bodies ≡ bodies_before k.records (first_gate (told_both k.swapped chosen.content other.content (Holds z) told).0) (told_both k.swapped chosen.content other.content (Holds z) told).0
        ++ (records_from k.place (told_both k.swapped chosen.content other.content (Holds z) told).0).bodies
    bodies_are z told =
        let both = told_both k.swapped chosen.content other.content (Holds z) told in
        ap (λ (s : Store). s.bodies) (store_is z told) ∙ prepended-bodies (bodies_before k.records (first_gate both.0) both.0) (records_from k.place both.0)

    ended_store : (z : Store) (told : both_held k.swapped chosen.content other.content ≡ Some (Holds z)) → IsTrue k.at_end
        → z ≡ store_of k.form k.base k.generation (bodies_before k.records (first_gate (told_both k.swapped chosen.content other.content (Holds z) told).0) (told_both k.swapped chosen.content other.content (Holds z) told).0) false
    ended_store z told ended =
        let both = told_both k.swapped chosen.content other.content (Holds z) told in
        let file = two.chosen_file both.0 both.2 in
        held_same z _ (sym both.4 ∙ beside k.swapped k.form k.generation both.0 both.1 file.opening (two.other_file both.1 both.3) ∙ at_end_here k.form k.base k.generation k.place k.records both.0 file (two.shut both.0 both.2 ended))
