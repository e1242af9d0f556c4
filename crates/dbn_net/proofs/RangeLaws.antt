-- The ids that are read of a text are in the range of ids.
use Rattle.std.proofs.Common.{◌≡◌, ℕ, ◌≤◌, ◌^◌, Bool, true, false, cond, List, [], ◌∷◌, ◌++◌, Option, Some, None, refl, subst, length}
use Rattle.std.specs.Prelude.{Result, Ok, Err, nat_le}
use Rattle.std.specs.Option.{option_map, option_map_or}
use Rattle.std.proofs.lemmas.Bool.{lt-ltb}
use Rattle.dbn_value.specs.Text.{is_name}
use Rattle.dbn_value.specs.Spelling.{value_of_bytes, IsValue}
use Rattle.dbn_value.specs.declared.value.Value.{Value}
use Rattle.dbn_value.specs.declared.value.Value.TheVariants as value
use Rattle.dbn_value.proofs.Spellings.{spells}
use Rattle.dbn_sexp.specs.declared.fault.SexpKind.TheVariants.{BadToken, Deep}
use Rattle.dbn_sexp.specs.declared.reading.Frame.{Frame}
use Rattle.dbn_sexp.specs.declared.sexp.Sexp.{Sexp}
use Rattle.dbn_sexp.specs.declared.sexp.Item.{Item}
use Rattle.dbn_sexp.specs.declared.sexp.Item.TheVariants as item
use Rattle.dbn_sexp.specs.Tokens.{Kind, Open, Close, Atom, Token, tokens}
use Rattle.dbn_sexp.specs.Reading.{Fault, State, ◌>>=◌, fault, sexp, with_item, item_of, added, opened, closed, after, step, ended, start, reads_from, reads}
use Rattle.dbn_net.specs.Values.{id_below}
use Rattle.dbn_net.specs.Texts.{next_of}
use Rattle.dbn_net.proofs.RoundNext.{item_below, AllBelow, next_within, list_below, word_below, constant_below, append_below}

-- where each id that bytes spell is below n
module _ (n : ℕ) (small : (bytes : List ℕ) (v : Value) → value_of_bytes bytes ≡ Some v → id_below n v ≡ true) where
  -- the items so far of all open lists
  abbrev StaysBelow : List Frame → List Sexp → Type 0
  StaysBelow [] items = AllBelow n items
  StaysBelow (frame ∷ frames) items = AllBelow n items × StaysBelow frames frame.before

  added_below : (frames : List Frame) (items : List Sexp) (one : Sexp) → item_below n one.item ≡ true → StaysBelow frames items → StaysBelow frames (items ++ one ∷ [])
  added_below [] items one h stays = append_below n items (one ∷ []) stays (h, tt)
  added_below (frame ∷ frames) items one h stays = (append_below n items (one ∷ []) stays.0 (h, tt), stays.1)

  closed_below : (line : ℕ) (frames : List Frame) (items : List Sexp) (state : State) → StaysBelow frames items → closed line frames items ≡ Ok state → StaysBelow state.open_lists state.items
  closed_below line [] items state stays e = cc
  closed_below line (frame ∷ frames) items state stays e =
      let next : State = record { open_lists = frames; items = frame.before ++ sexp frame.line (item.List items) ∷ [] } in
      let same : next ≡ state = cc in
      subst (λ (s : State). StaysBelow s.open_lists s.items) same (added_below frames frame.before (sexp frame.line (item.List items)) (list_below n items stays.0) stays.1)

  abbrev deeper : ℕ → State → State
  deeper line state = record { open_lists = record { line = line; before = state.items } ∷ state.open_lists; items = [] }

  opened_below : (depth line : ℕ) (state next : State) → StaysBelow state.open_lists state.items → opened depth line state ≡ Ok next → StaysBelow next.open_lists next.items
  opened_below depth line state next stays e = by (nat_le depth (length state.open_lists)) e
    where
      by : (t : Bool) → cond t (fault line Deep) (Ok (deeper line state)) ≡ Ok next → StaysBelow next.open_lists next.items
      by true q = cc
      by false q =
          let same : deeper line state ≡ next = cc in
          subst (λ (s : State). StaysBelow s.open_lists s.items) same (tt, stays)

  atom_below : (bytes : List ℕ) (one : Item) → item_of bytes ≡ Some one → item_below n one ≡ true
  unfolding item_of
  atom_below bytes one e = by (is_name bytes) (value_of_bytes bytes) refl e
    where
      by : (t : Bool) (v : Option Value) → value_of_bytes bytes ≡ v → cond t (Some (item.Name bytes)) (option_map item.Const v) ≡ Some one → item_below n one ≡ true
      by true v p e = let same : item.Name bytes ≡ one = cc in subst (λ i. item_below n i ≡ true) same (word_below n bytes)
      by false (Some v) p e = let same : item.Const v ≡ one = cc in subst (λ i. item_below n i ≡ true) same (constant_below n v (small bytes v p))
      by false None p e = cc

  atom_stays : (line : ℕ) (bytes : List ℕ) (state next : State) → StaysBelow state.open_lists state.items → added line bytes state ≡ Ok next → StaysBelow next.open_lists next.items
  atom_stays line bytes state next stays e = by (item_of bytes) refl e
    where
      by : (o : Option Item) → item_of bytes ≡ o → option_map_or (λ one. Ok (with_item (sexp line one) state)) o (fault line BadToken) ≡ Ok next → StaysBelow next.open_lists next.items
      by None p q = cc
      by (Some one) p q =
          let same : with_item (sexp line one) state ≡ next = cc in
          subst (λ (s : State). StaysBelow s.open_lists s.items) same (added_below state.open_lists state.items (sexp line one) (atom_below bytes one p) stays)

  step_below : (depth line : ℕ) (kind : Kind) (state next : State) → StaysBelow state.open_lists state.items → step depth line kind state ≡ Ok next → StaysBelow next.open_lists next.items
  step_below depth line Open state next stays e = opened_below depth line state next stays e
  step_below depth line Close state next stays e = closed_below line state.open_lists state.items next stays e
  step_below depth line (Atom bytes) state next stays e = atom_stays line bytes state next stays e

  then_below : (r : Result State Fault) (f : State → Result State Fault) (next : State)
      → ((mid : State) → r ≡ Ok mid → f mid ≡ Ok next → StaysBelow next.open_lists next.items) → (r >>= f) ≡ Ok next → StaysBelow next.open_lists next.items
  then_below (Ok mid) f next h e = h mid refl e
  then_below (Err x) f next h e = cc

  after_below : (depth : ℕ) (ts : List Token) (state next : State) → StaysBelow state.open_lists state.items → after depth ts state ≡ Ok next → StaysBelow next.open_lists next.items
  unfolding after
  after_below depth [] state next stays e = let same : state ≡ next = cc in subst (λ (s : State). StaysBelow s.open_lists s.items) same stays
  after_below depth (t ∷ ts) state next stays e =
      then_below (step depth t.line t.kind state) (after depth ts) next
      (λ mid p q. after_below depth ts mid next (step_below depth t.line t.kind state mid stays p) q)
      e

  ended_below : (frames : List Frame) (items list : List Sexp) → StaysBelow frames items → ended frames items ≡ Ok list → AllBelow n list
  ended_below [] items list stays e = let same : items ≡ list = cc in subst (AllBelow n) same stays
  ended_below (frame ∷ []) items list stays e = cc
  ended_below (frame ∷ next ∷ frames) items list stays e = never next frames e
    where
      never : (next : Frame) (frames : List Frame) → ended (next ∷ frames) items ≡ Ok list → AllBelow n list
      never next [] e = cc
      never next (more ∷ frames) e = never more frames e

  read_below : (depth : ℕ) (bytes : List ℕ) (list : List Sexp) → reads depth bytes ≡ Ok list → AllBelow n list
  unfolding reads_from
  read_below depth bytes list e = by (after depth (tokens 1 0 bytes) start) refl e
    where
      by : (r : Result State Fault) → after depth (tokens 1 0 bytes) start ≡ r → (r >>= λ last. ended last.open_lists last.items) ≡ Ok list → AllBelow n list
      by (Err f) p q = cc
      by (Ok last) p q = ended_below last.open_lists last.items list (after_below depth (tokens 1 0 bytes) start last tt p) q

value_small : (v : Value) → IsValue v → id_below (2 ^ 62) v ≡ true
value_small (value.Int i) is = refl
value_small (value.Text bytes) is = refl
value_small (value.Id i) is = lt-ltb i (2 ^ 62) is

-- the first id behind those of a text that was read
pub next_small : (depth : ℕ) (bytes : List ℕ) (list : List Sexp) → reads depth bytes ≡ Ok list → next_of list ≤ 2 ^ 62
next_small depth bytes list e = next_within (2 ^ 62) list (read_below (2 ^ 62) (λ bs v is. value_small v (spells bs v is).1) depth bytes list e)
