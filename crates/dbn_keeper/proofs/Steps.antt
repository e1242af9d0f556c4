-- The calls of a keeper over two files.
use Rattle.std.proofs.Common.{◌≡◌, ◌⊎◌, ℕ, zero, suc, ◌+◌, ◌<◌, ◌≤◌, ◌^◌, Bool, true, false, ◌&&◌, List, ◌++◌, length, take, Option, None, Some, IsTrue, refl, sym, ap, subst, ◌∙◌, arith, ⊎_elim}
use Rattle.std.specs.Option.{option_map}
use Rattle.std.proofs.lemmas.List.{drop_at}
use Rattle.std.proofs.lemmas.Bool.{and_parts}
use Rattle.dbn_disk.specs.Disk.{DiskState, Still, LeavesOnly, IsSound, Only}
use Rattle.dbn_journal.specs.Records.{Found, RecordList, records_from, appended, IsShutAt, IsBeforeOrAfter}
use Rattle.dbn_journal.specs.Records.Found.{Shut, Held, Torn}
use Rattle.dbn_journal.specs.Walk.{place_after, bodies_before, prepended}
use Rattle.dbn_journal.specs.Heads.{gate_of}
use Rattle.dbn_journal.specs.declared.gate.Gate.TheVariants.{Shut as ShutGate, Held as HeldGate}
use Rattle.dbn_journal.proofs.Walks.{so_many, held_there, shut_behind, prepended-bodies, prepended-torn}
use Rattle.dbn_keeper.specs.Files.{Store, opening_of, first_gate, with_body}
use Rattle.dbn_keeper.specs.Files.Folder.{Holds}
use Rattle.dbn_keeper.specs.declared.base.Base.{Base}
use Rattle.dbn_keeper.specs.declared.base.Step.{Step}
use Rattle.dbn_keeper.specs.declared.opening.Form.{Form}
use Rattle.dbn_keeper.specs.declared.opening.Opening.TheVariants.{Marked}
use Rattle.dbn_keeper.specs.Keeping.{NoneFalls, SameFiles, BringsOnly, next_step, step_at}
use Rattle.dbn_keeper.specs.TwoFiles.{pair_of, gives_way, IsChosen, Cursor, both_held, pair_list, pair_bytes, chosen_in, other_in, IsSteady, two_state, IsTwo}
use Rattle.dbn_keeper.specs.Choosing.{beside, store_here, chosen_same}
use Rattle.dbn_keeper.specs.Appending.{told_both, append_brings, at_end_here, with_it, chosen_after, appended_front, appended_held, store_of}

pub none_falls : (swapped : Bool) (c o c' o' : ℕ) → c ≤ c' → o ≤ o' → NoneFalls (pair_list swapped c o) (pair_list swapped c' o')
none_falls true c o c' o' first second zero = second
none_falls true c o c' o' first second (suc zero) = first
none_falls true c o c' o' first second (suc (suc i)) = omega arith
none_falls false c o c' o' first second zero = first
none_falls false c o c' o' first second (suc zero) = second
none_falls false c o c' o' first second (suc (suc i)) = omega arith

-- a look at the chosen file
pub looked : (k k' : Cursor) (c c' o : DiskState) → k'.swapped ≡ k.swapped → k'.form ≡ k.form → k'.generation ≡ k.generation → c'.content ≡ c.content → (IsTrue c.honest → Still c c') → SameFiles (two_state k c o) (two_state k' c' o)
looked k k' c c' o swapped form generation same still = record {
  held = ap (λ (s : Bool). both_held s c'.content o.content) swapped ∙ ap (λ (l : Option (List ℕ)). both_held k.swapped l o.content) same;
  bytes = ap (λ (s : Bool). pair_bytes s c'.content o.content) swapped ∙ ap (λ (l : Option (List ℕ)). pair_bytes k.swapped l o.content) same;
  moment = λ honest. ap (λ (s : Bool). pair_list s c'.clock o.clock) swapped ∙ ap (λ (n : ℕ). pair_list k.swapped n o.clock) (still (and_parts c.honest o.honest honest).0).clock;
  image = λ honest f image. subst (λ (s : Bool). ((x : List ℕ) × (y : List ℕ) × c'.image x × o.image y × (pair_of s x y ≡ f)) → ((x : List ℕ) × (y : List ℕ) × c.image x × o.image y × (pair_of k.swapped x y ≡ f))) (sym swapped)
      (λ i. (i.0, i.1, (still (and_parts c.honest o.honest honest).0).image i.0 i.2, i.3, i.4)) image;
  since = λ honest t f since. subst (λ (s : Bool). ((x : List ℕ) × (y : List ℕ) × c'.since (chosen_in s t) x × o.since (other_in s t) y × (pair_of s x y ≡ f)) → ((x : List ℕ) × (y : List ℕ) × c.since (chosen_in k.swapped t) x × o.since (other_in k.swapped t) y × (pair_of k.swapped x y ≡ f))) (sym swapped)
      (λ i. (i.0, i.1, (still (and_parts c.honest o.honest honest).0).since (chosen_in k.swapped t) i.0 i.2, i.3, i.4)) since;
  steady = λ honest t steady. subst (λ (s : Bool). IsSteady s k'.form k'.generation c' o t) (sym swapped) (subst (λ (f : Form). IsSteady k.swapped f k'.generation c' o t) (sym form) (subst (λ (g : ℕ). IsSteady k.swapped k.form g c' o t) (sym generation) (record {
    chosen_time = let e = (still (and_parts c.honest o.honest honest).0).clock in omega (arith, e, steady.chosen_time);
    other_time = steady.other_time;
    opening = λ x since. steady.opening x ((still (and_parts c.honest o.honest honest).0).since (chosen_in k.swapped t) x since);
    other_opening = steady.other_opening;
  })));
}

-- what a gate says
pub is_shut_gate : (place : ℕ) (found : Found) → ShutGate ≡ gate_of place found → found ≡ Shut
is_shut_gate place Shut e = refl
is_shut_gate place (Held body) e = cc
is_shut_gate place Torn e = cc

pub is_held_gate : (place after : ℕ) (body : List ℕ) (found : Found) → HeldGate body after ≡ gate_of place found → found ≡ Held body
is_held_gate place after body Shut e = cc
is_held_gate place after body (Held other) e = let same : body ≡ other = cc in ap Held (sym same)
is_held_gate place after body Torn e = cc

held_store : (a b : Store) → Holds a ≡ Holds b → a ≡ b
held_store a b e = cc

-- the store that a live keeper holds
pub store_is : (k : Cursor) (c o : DiskState) → IsTwo k c o → (z : Store) (x y : List ℕ) → c.content ≡ Some x → o.content ≡ Some y → pair_of k.swapped x y ≡ Holds z → (list : RecordList) → records_from k.place x ≡ list
    → z ≡ store_of k.form k.base k.generation (bodies_before k.records (first_gate x) x ++ list.bodies) list.torn
store_is k c o two z x y told_x told_y pair list is =
    let known = two.chosen_file x told_x in
    let front : List (List ℕ) = bodies_before k.records (first_gate x) x in
    held_store z (store_of k.form k.base k.generation (front ++ list.bodies) list.torn)
    (sym pair ∙ beside k.swapped k.form k.generation x y known.opening (two.other_file y told_y) ∙ store_here k.form k.base k.generation k.place k.records x known
    ∙ ap (λ (l : RecordList). Holds (store_of k.form k.base k.generation (prepended front l).bodies (prepended front l).torn)) is
    ∙ ap (λ (l : List (List ℕ)). Holds (store_of k.form k.base k.generation l (prepended front list).torn)) (prepended-bodies front list)
    ∙ ap (λ (t : Bool). Holds (store_of k.form k.base k.generation (front ++ list.bodies) t)) (prepended-torn front list))

-- the next step is what stands at the place
pub step_here : (k : Cursor) (c o : DiskState) → IsTwo k c o → (z : Store) → both_held k.swapped c.content o.content ≡ Some (Holds z) → (step : Step)
    → ((x : List ℕ) → c.content ≡ Some x → step ≡ step_at (records_from k.place x).bodies (records_from k.place x).torn k.place) → step ≡ next_step z k.records k.place
step_here k c o two z told step here =
    let b = told_both k.swapped c.content o.content (Holds z) told in
    let list : RecordList = records_from k.place b.0 in
    here b.0 b.2
    ∙ sym (ap (λ (s : Store). next_step s k.records k.place) (store_is k c o two z b.0 b.1 b.2 b.3 b.4 list refl)
    ∙ ap (λ (l : List (List ℕ)). step_at l list.torn k.place) (drop_at (bodies_before k.records (first_gate b.0) b.0) list.bodies k.records (so_many k.records (first_gate b.0) k.place b.0 (two.chosen_file b.0 b.2).walked)))

-- the records from the place on say the step
pub step_is : (place : ℕ) (x : List ℕ) (list : RecordList) → records_from place x ≡ list → step_at list.bodies list.torn place ≡ step_at (records_from place x).bodies (records_from place x).torn place
step_is place x list e = ap (λ (l : RecordList). step_at l.bodies l.torn place) (sym e)

-- what a live keeper knows after a step
module _ (k k' : Cursor) (c c' o : DiskState) (form : k'.form ≡ k.form) (base : k'.base ≡ k.base) (generation : k'.generation ≡ k.generation) (swapped : k'.swapped ≡ k.swapped) (same : c'.content ≡ c.content) (still : IsTrue c.honest → Still c c') (honest : c'.honest ≡ c.honest) (two : IsTwo k c o) where
  pub two_after : k'.records ≤ k'.place → k'.place < 2 ^ 64 → ((x : List ℕ) → c.content ≡ Some x → place_after k'.records (first_gate x) x ≡ Some k'.place) → ((x : List ℕ) → c.content ≡ Some x → IsTrue k'.at_end → IsShutAt k'.place x) → IsTwo k' c' o
  two_after few sized walked shut = record {
    chosen_file = λ x told.
        let known = two.chosen_file x (sym same ∙ told) in
        record {
          opening = known.opening ∙ ap (λ (f : Form). Marked f k.generation) (sym form) ∙ ap (Marked k'.form) (sym generation);
          header = known.header;
          base_is = known.base_is ∙ sym base;
          walked = walked x (sym same ∙ told);
        };
    other_file = λ y told. ap (λ (s : Bool). gives_way s k'.generation (opening_of y)) swapped ∙ ap (λ (g : ℕ). gives_way k.swapped g (opening_of y)) generation ∙ two.other_file y told;
    shut = λ x told ended. shut x (sym same ∙ told) ended;
    chosen_settled = λ x told fair image here. two.chosen_settled x (sym same ∙ told) (subst IsTrue honest fair) image ((still (subst IsTrue honest fair)).image image here);
    other_settled = two.other_settled;
    fired = let e : k'.base.fired ≡ k.base.fired = ap (λ (b : Base). b.fired) base in omega (arith, e, two.fired);
    next = let e : k'.base.next ≡ k.base.next = ap (λ (b : Base). b.next) base in omega (arith, e, two.next);
    few = few;
    sized = sized;
  }

-- after an append
told_appended : (old new : Option (List ℕ)) (place : ℕ) (body x' : List ℕ) → new ≡ option_map (appended place body) old → new ≡ Some x' → ((x : List ℕ) × (old ≡ Some x) × (x' ≡ appended place body x))
told_appended None new place body x' value told = cc
told_appended (Some x) new place body x' value told = let same : Some x' ≡ Some (appended place body x) = sym told ∙ value in (x, refl, some_list x' (appended place body x) same)
  where
    some_list : (a b : List ℕ) → Some a ≡ Some b → a ≡ b
    some_list a b e = cc

module _ (k k' : Cursor) (c c' o : DiskState) (body : List ℕ) (form : k'.form ≡ k.form) (base : k'.base ≡ k.base) (generation : k'.generation ≡ k.generation) (swapped : k'.swapped ≡ k.swapped) (place : k'.place ≡ k.place + 5 + length body) (records : k'.records ≡ k.records + 1) (ended : IsTrue k.at_end)
    (value : c'.content ≡ option_map (appended k.place body) c.content) (honest : c'.honest ≡ c.honest) (durable : (b : List ℕ) → c.content ≡ Some b → IsTrue c.honest → Only (appended k.place body b) c'.image) (small : length body < 2 ^ 32) (sized : k'.place < 2 ^ 64) (two : IsTwo k c o) where
  chosen_appended : (x : List ℕ) → c.content ≡ Some x → IsChosen k'.form k'.base k'.generation k'.place k'.records (appended k.place body x)
  chosen_appended x told =
      let known = two.chosen_file x told in
      let shut = two.shut x told ended in
      let long : k.place ≤ length x = omega (arith, shut.there) in
      let after = chosen_after k.form k.base k.generation k.place k.records x (appended k.place body x) body known (appended_front k.place body x long) (appended_held k.place body x) small in
      record {
        opening = after.opening ∙ ap (λ (f : Form). Marked f k.generation) (sym form) ∙ ap (Marked k'.form) (sym generation);
        header = after.header;
        base_is = after.base_is ∙ sym base;
        walked = ap (λ (n : ℕ). place_after n (first_gate (appended k.place body x)) (appended k.place body x)) (let e : k'.records ≡ suc k.records = omega (arith, records) in e) ∙ after.walked ∙ ap Some (sym place);
      }

  pub two_appended : IsTwo k' c' o
  two_appended = record {
    chosen_file = λ x' told. let old = told_appended c.content c'.content k.place body x' value told in subst (IsChosen k'.form k'.base k'.generation k'.place k'.records) (sym old.2) (chosen_appended old.0 old.1);
    other_file = λ y told. ap (λ (s : Bool). gives_way s k'.generation (opening_of y)) swapped ∙ ap (λ (g : ℕ). gives_way k.swapped g (opening_of y)) generation ∙ two.other_file y told;
    shut = λ x' told _.
        let old = told_appended c.content c'.content k.place body x' value told in
        let shut = two.shut old.0 old.1 ended in
        let there = shut_behind k.place body (appended k.place body old.0) (appended_held k.place body old.0) in
        subst (IsShutAt k'.place) (sym old.2) (subst (λ (p : ℕ). IsShutAt p (appended k.place body old.0)) (sym place) there);
    chosen_settled = λ x' told fair image here.
        let old = told_appended c.content c'.content k.place body x' value told in
        durable old.0 old.1 (subst IsTrue honest fair) image here ∙ sym old.2;
    other_settled = two.other_settled;
    fired = let e : k'.base.fired ≡ k.base.fired = ap (λ (b : Base). b.fired) base in omega (arith, e, two.fired);
    next = let e : k'.base.next ≡ k.base.next = ap (λ (b : Base). b.next) base in omega (arith, e, two.next);
    few = omega (arith, two.few, place, records);
    sized = sized;
  }

  pub held_appended : (z : Store) → both_held k.swapped c.content o.content ≡ Some (Holds z) → both_held k'.swapped c'.content o.content ≡ Some (Holds (with_body body z))
  held_appended z told =
      let b = told_both k.swapped c.content o.content (Holds z) told in
      let x : List ℕ = b.0 in
      let known = two.chosen_file x b.2 in
      let shut = two.shut x b.2 ended in
      let long : k.place ≤ length x = omega (arith, shut.there) in
      let new_x : List ℕ = appended k.place body x in
      let z_is : z ≡ store_of k.form k.base k.generation (bodies_before k.records (first_gate x) x) false =
      held_store z _ (sym b.4 ∙ beside k.swapped k.form k.generation x b.1 known.opening (two.other_file b.1 b.3) ∙ at_end_here k.form k.base k.generation k.place k.records x known shut) in
      ap (λ (s : Bool). both_held s c'.content o.content) swapped
      ∙ ap (λ (l : Option (List ℕ)). both_held k.swapped l o.content) (value ∙ ap (option_map (appended k.place body)) b.2)
      ∙ ap (λ (l : Option (List ℕ)). both_held k.swapped (Some new_x) l) b.3
      ∙ ap Some (beside k.swapped k.form k.generation new_x b.1 ((chosen_appended x b.2).opening ∙ ap (λ (f : Form). Marked f k'.generation) form ∙ ap (Marked k.form) generation) (two.other_file b.1 b.3)
      ∙ with_it k.form k.base k.generation k.place k.records x new_x body known (appended_front k.place body x long) (appended_held k.place body x) small
      ∙ ap (λ (s : Store). Holds (with_body body s)) (sym z_is))

-- the clocks
pub later_chosen : (swapped swapped' : Bool) (c o c' : ℕ) → swapped' ≡ swapped → c ≤ c' → NoneFalls (pair_list swapped c o) (pair_list swapped' c' o)
later_chosen swapped swapped' c o c' same later = subst (λ (s : Bool). NoneFalls (pair_list swapped c o) (pair_list s c' o)) (sym same) (none_falls swapped c o c' o later (omega arith))

-- since a steady moment
pub steady_appended : (k k' : Cursor) (c c' o : DiskState) (body : List ℕ) → IsTwo k c o → k'.swapped ≡ k.swapped → k'.form ≡ k.form → k'.generation ≡ k.generation → IsTrue k.at_end → (x : List ℕ) → c.content ≡ Some x → IsTrue c.honest → length body < 2 ^ 32 → LeavesOnly c c' (IsBeforeOrAfter c.image k.place body)
    → (t : List ℕ) → IsSteady k.swapped k.form k.generation c o t → IsSteady k'.swapped k'.form k'.generation c' o t
steady_appended k k' c c' o body two swapped form generation ended x told honest small work t steady = subst (λ (s : Bool). IsSteady s k'.form k'.generation c' o t) (sym swapped) (subst (λ (f : Form). IsSteady k.swapped f k'.generation c' o t) (sym form) (subst (λ (g : ℕ). IsSteady k.swapped k.form g c' o t) (sym generation) (record {
  chosen_time = omega (arith, steady.chosen_time, work.later);
  other_time = steady.other_time;
  opening = λ y since. ⊎_elim (λ past. steady.opening y past) (λ (now : IsBeforeOrAfter c.image k.place body y).
      let known = two.chosen_file x told in
      let front : take k.place y ≡ take k.place x = now.front ∙ ap (take k.place) (two.chosen_settled x told honest now.from now.image) in
      let there : k.place < length y = ⊎_elim (λ shut. shut.there) (λ held. omega (arith, held_there k.place body y held)) now.gate in
      (chosen_same k.form k.base k.generation k.place k.records x y known front there).0.opening) (work.before (chosen_in k.swapped t) y steady.chosen_time since);
  other_opening = steady.other_opening;
})))

-- the clause of an append on crashes
pub append_clause : (k k' : Cursor) (c c' o : DiskState) (body : List ℕ) (z : Store) → IsTwo k c o → k'.swapped ≡ k.swapped → IsTrue k.at_end → (IsTrue c.honest → IsSound c) → length body < 2 ^ 32
    → both_held k.swapped c.content o.content ≡ Some (Holds z) → IsTrue (c.honest && o.honest) → ((b : List ℕ) → c.content ≡ Some b → IsTrue c.honest → LeavesOnly c c' (IsBeforeOrAfter c.image k.place body))
    → BringsOnly (two_state k c o) (two_state k' c' o) (λ f. (f ≡ Holds z) ⊎ (f ≡ Holds (with_body body z)))
append_clause k k' c c' o body z two swapped ended sound small told honest work =
    let fair = and_parts c.honest o.honest honest in
    let b = told_both k.swapped c.content o.content (Holds z) told in
    record {
      later = later_chosen k.swapped k'.swapped c.clock o.clock c'.clock swapped (work b.0 b.2 fair.0).later;
      only = append_brings k k' c c' o body z two swapped ended (sound fair.0) small told fair.0 (λ x told_x. work x told_x fair.0);
    }

pub append_steady : (k k' : Cursor) (c c' o : DiskState) (body : List ℕ) (z : Store) → IsTwo k c o → k'.swapped ≡ k.swapped → k'.form ≡ k.form → k'.generation ≡ k.generation → IsTrue k.at_end → length body < 2 ^ 32
    → both_held k.swapped c.content o.content ≡ Some (Holds z) → IsTrue (c.honest && o.honest) → ((b : List ℕ) → c.content ≡ Some b → IsTrue c.honest → LeavesOnly c c' (IsBeforeOrAfter c.image k.place body))
    → (t : List ℕ) → IsSteady k.swapped k.form k.generation c o t → IsSteady k'.swapped k'.form k'.generation c' o t
append_steady k k' c c' o body z two swapped form generation ended small told honest work =
    let fair = and_parts c.honest o.honest honest in
    let b = told_both k.swapped c.content o.content (Holds z) told in
    steady_appended k k' c c' o body two swapped form generation ended b.0 b.2 fair.0 small (work b.0 b.2 fair.0)
