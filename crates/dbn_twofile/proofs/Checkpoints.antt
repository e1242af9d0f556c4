-- A checkpoint of a keeper over two files.
use Rattle.std.proofs.Common.{◌≡◌, ◌⊎◌, ℕ, ◌+◌, ◌<◌, ◌≤◌, ◌^◌, Bool, true, false, not, ◌&&◌, List, length, Option, Some, is_some, IsTrue, inl, inr, refl, sym, ap, subst, ◌∙◌, arith, ⊎_elim}
use Rattle.std.proofs.lemmas.Bool.{and_parts, lt-ltb, le-leb}
use Rattle.dbn_disk.specs.Disk.{DiskState, LeavesOnly, IsSound, Only}
use Rattle.dbn_journal.specs.Records.{IsShutAt}
use Rattle.dbn_journal.specs.Making.{is_open}
use Rattle.dbn_journal.specs.Walk.{place_after}
use Rattle.dbn_keeper.specs.Creating.{IsMaking}
use Rattle.dbn_keeper.specs.Files.{Store, Folder, opening_of, first_gate, new_store, file_of}
use Rattle.dbn_keeper.specs.Files.Folder.{Holds}
use Rattle.dbn_keeper.specs.Keeping.{NoneFalls, BringsOnly}
use Rattle.dbn_keeper.specs.TwoFiles.{pair_of, gives_way, IsChosen, Cursor, both_held, pair_list, chosen_in, other_in, IsSteady, two_state, IsTwo}
use Rattle.dbn_keeper.specs.Choosing.{beside, exchanged, closed_opening}
use Rattle.dbn_keeper.specs.Appending.{told_both}
use Rattle.dbn_keeper.specs.Headers.{new_chosen, new_shut}
use Rattle.dbn_keeper.specs.declared.base.Base.{Base}
use Rattle.dbn_keeper.specs.declared.opening.Form.{Form}
use Rattle.dbn_keeper.specs.declared.opening.Form.TheVariants.{Two}
use Rattle.dbn_keeper.specs.declared.opening.Opening.TheVariants.{Marked}
use Rattle.dbn_keeper.proofs.Makings.{was_told, same_some, new_beside}
use Rattle.dbn_keeper.proofs.Steps.{none_falls}

other_swapped : (s : Bool) (t : List ℕ) → chosen_in (not s) t ≡ other_in s t
other_swapped true t = refl
other_swapped false t = refl

chosen_swapped : (s : Bool) (t : List ℕ) → other_in (not s) t ≡ chosen_in s t
chosen_swapped true t = refl
chosen_swapped false t = refl

older_gives_way : (s : Bool) (form : Form) (g g' : ℕ) → g < g' → gives_way s g' (Marked form g) ≡ true
older_gives_way true form g g' less = lt-ltb g g' less
older_gives_way false form g g' less = le-leb g g' (omega (arith, less))

module _ (k : Cursor) (c o : DiskState) (base : Base) (g : ℕ) (next_generation : g ≡ k.generation + 1) (most : g ≤ 2 ^ 62) (fired : base.fired ≤ 2 ^ 62) (next : base.next ≤ 2 ^ 62) (small : length base.text < 2 ^ 32) (two : IsTwo k c o) where
  -- the new file beside one of the old generation
  new_counts : (s : Bool) (x : List ℕ) → opening_of x ≡ Marked k.form k.generation → pair_of s x (file_of g base) ≡ Holds (new_store g base)
  new_counts s x old =
      sym (exchanged s x (file_of g base))
      ∙ new_beside (not s) g base x (omega (arith, next_generation)) most fired next small (ap (gives_way (not s) g) old ∙ older_gives_way (not s) k.form k.generation g (omega (arith, next_generation)))

  pub making_brings : (o' : DiskState) (x y : List ℕ) → c.content ≡ Some x → o.content ≡ Some y → IsTrue c.honest → IsTrue o.honest → (IsTrue o.honest → IsSound o) → LeavesOnly o o' (IsMaking y (file_of g base))
      → (t : List ℕ) (f : Folder) → IsSteady k.swapped k.form k.generation c o t → (u v : List ℕ) → c.since (chosen_in k.swapped t) u → o'.since (other_in k.swapped t) v → pair_of k.swapped u v ≡ f
      → (two_state k c o).since t f ⊎ (f ≡ Holds (new_store g base))
  making_brings o' x y told_x told_y fair_x fair_y sound work t f steady u v since_u since_v pair =
      ⊎_elim (λ past. inl (u, v, since_u, past, pair)) (λ making. ⊎_elim (λ (same : v ≡ y). inl (u, y, since_u, still_there, sym (ap (pair_of k.swapped u) same) ∙ pair))
      (λ rest. ⊎_elim
      (λ (shut : is_open v ≡ false). inl (
        u,
        y,
        since_u,
        still_there,
        beside k.swapped k.form k.generation u y (steady.opening u since_u) (two.other_file y told_y)
            ∙ sym (beside k.swapped k.form k.generation u v (steady.opening u since_u) (ap (gives_way k.swapped k.generation) (closed_opening v shut))) ∙ pair,
      ))
      (λ (new : v ≡ file_of g base). inr (sym pair ∙ ap (pair_of k.swapped u) new ∙ new_counts k.swapped u (steady.opening u since_u))) rest) making)
      (work.before (other_in k.swapped t) v steady.other_time since_v)
    where
      still_there : o.since (other_in k.swapped t) y
      still_there = (sound fair_y).now (other_in k.swapped t) y steady.other_time ((sound fair_y).held y told_y)

  -- what is known after it
  pub two_made : (k' : Cursor) (o' : DiskState) → k'.form ≡ Two → k'.base ≡ base → k'.generation ≡ g → k'.place ≡ 33 + length base.text → k'.records ≡ 0 → k'.swapped ≡ not k.swapped → is_some o'.content ≡ is_some o.content → o'.honest ≡ o.honest
      → ((b : List ℕ) → o.content ≡ Some b → o'.content ≡ Some (file_of g base)) → ((b : List ℕ) → o.content ≡ Some b → IsTrue o.honest → Only (file_of g base) o'.image) → IsTwo k' o' c
  two_made k' o' form base_is generation place records swapped told_same honest value durable = record {
    chosen_file = λ x told. let old = was_told o.content o'.content x told_same told in
        let is : file_of g base ≡ x = same_some _ _ (sym (value old.0 old.1) ∙ told) in
        let made = new_chosen g base (omega (arith, next_generation)) most fired next small in
        subst (IsChosen k'.form k'.base k'.generation k'.place k'.records) is (record {
          opening = made.opening ∙ ap (λ (f : Form). Marked f g) (sym form) ∙ ap (Marked k'.form) (sym generation);
          header = made.header;
          base_is = made.base_is ∙ sym base_is;
          walked = ap (λ (n : ℕ). place_after n (first_gate (file_of g base)) (file_of g base)) records ∙ made.walked ∙ ap Some (sym place);
        });
    other_file = λ y told. ap (λ (s : Bool). gives_way s k'.generation (opening_of y)) swapped ∙ ap (λ (n : ℕ). gives_way (not k.swapped) n (opening_of y)) generation
        ∙ ap (gives_way (not k.swapped) g) (two.chosen_file y told).opening ∙ older_gives_way (not k.swapped) k.form k.generation g (omega (arith, next_generation));
    shut = λ x told _. let old = was_told o.content o'.content x told_same told in
        let is : file_of g base ≡ x = same_some _ _ (sym (value old.0 old.1) ∙ told) in
        subst (IsShutAt k'.place) is (subst (λ (p : ℕ). IsShutAt p (file_of g base)) (sym place) (new_shut g base (omega (arith, next_generation)) most fired next small));
    chosen_settled = λ x told fair image here. let old = was_told o.content o'.content x told_same told in
        durable old.0 old.1 (subst IsTrue honest fair) image here ∙ same_some _ _ (sym (value old.0 old.1) ∙ told);
    other_settled = two.chosen_settled;
    fired = let e : k'.base.fired ≡ base.fired = ap (λ (b : Base). b.fired) base_is in omega (arith, e, fired);
    next = let e : k'.base.next ≡ base.next = ap (λ (b : Base). b.next) base_is in omega (arith, e, next);
    few = omega (arith, records);
    sized = omega (arith, place, small);
  }

  pub held_made : (s : Bool) (o' : DiskState) (z : Store) → s ≡ not k.swapped → both_held k.swapped c.content o.content ≡ Some (Holds z) → ((b : List ℕ) → o.content ≡ Some b → o'.content ≡ Some (file_of g base)) → both_held s o'.content c.content ≡ Some (Holds (new_store g base))
  held_made s o' z swapped told value =
      let b = told_both k.swapped c.content o.content (Holds z) told in
      ap (λ (u : Bool). both_held u o'.content c.content) swapped ∙ ap (λ (l : Option (List ℕ)). both_held (not k.swapped) l c.content) (value b.1 b.3) ∙ ap (both_held (not k.swapped) (Some (file_of g base))) b.2
      ∙ ap Some (exchanged k.swapped b.0 (file_of g base) ∙ new_counts k.swapped b.0 (two.chosen_file b.0 b.2).opening)

-- what a crash leaves: after an error, and after it
module _ (k : Cursor) (c o o' : DiskState) (base : Base) (g : ℕ) (next_generation : g ≡ k.generation + 1) (most : g ≤ 2 ^ 62) (fired : base.fired ≤ 2 ^ 62) (next : base.next ≤ 2 ^ 62) (small : length base.text < 2 ^ 32) (two : IsTwo k c o)
    (sound : IsTrue o.honest → IsSound o) (z : Store) (told : both_held k.swapped c.content o.content ≡ Some (Holds z)) (honest : IsTrue (c.honest && o.honest)) (work : (b : List ℕ) → o.content ≡ Some b → IsTrue o.honest → LeavesOnly o o' (IsMaking b (file_of g base))) where
  pub making_clause : (k' : Cursor) → k'.swapped ≡ k.swapped → BringsOnly (two_state k c o) (two_state k' c o') (λ f. f ≡ Holds (new_store g base))
  making_clause k' swapped =
      let fair = and_parts c.honest o.honest honest in
      let b = told_both k.swapped c.content o.content (Holds z) told in
      record {
        later = subst (λ (s : Bool). NoneFalls (pair_list k.swapped c.clock o.clock) (pair_list s c.clock o'.clock)) (sym swapped) (none_falls k.swapped c.clock o.clock c.clock o'.clock (omega arith) (work b.1 b.3 fair.1).later);
        only = λ t f steady since.
            let here = subst (λ (s : Bool). ((x : List ℕ) × (y : List ℕ) × c.since (chosen_in s t) x × o'.since (other_in s t) y × (pair_of s x y ≡ f))) swapped since in
            making_brings k c o base g next_generation most fired next small two o' b.0 b.1 b.2 b.3 fair.0 fair.1 sound (work b.1 b.3 fair.1) t f steady here.0 here.1 here.2 here.3 here.4;
      }

  pub made_clause : (k' : Cursor) → k'.swapped ≡ not k.swapped → BringsOnly (two_state k c o) (two_state k' o' c) (λ f. f ≡ Holds (new_store g base))
  made_clause k' swapped =
      let fair = and_parts c.honest o.honest honest in
      let b = told_both k.swapped c.content o.content (Holds z) told in
      record {
        later = subst (λ (s : Bool). NoneFalls (pair_list k.swapped c.clock o.clock) (pair_list s o'.clock c.clock)) (sym swapped) (turned k.swapped c.clock o.clock o'.clock (work b.1 b.3 fair.1).later);
        only = λ t f steady since.
            let here = subst (λ (s : Bool). ((x : List ℕ) × (y : List ℕ) × o'.since (chosen_in s t) x × c.since (other_in s t) y × (pair_of s x y ≡ f))) swapped since in
            making_brings k c o base g next_generation most fired next small two o' b.0 b.1 b.2 b.3 fair.0 fair.1 sound (work b.1 b.3 fair.1) t f steady here.1 here.0
            (subst (λ (n : ℕ). c.since n here.1) (chosen_swapped k.swapped t) here.3) (subst (λ (n : ℕ). o'.since n here.0) (other_swapped k.swapped t) here.2)
            (sym (exchanged k.swapped here.1 here.0) ∙ here.4);
      }
    where
      turned : (s : Bool) (m n n' : ℕ) → n ≤ n' → NoneFalls (pair_list s m n) (pair_list (not s) n' m)
      turned true m n n' le = none_falls false n m n' m le (omega arith)
      turned false m n n' le = none_falls true n m n' m le (omega arith)
