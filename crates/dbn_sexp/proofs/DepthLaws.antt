-- What is read stays within the depth.
use Rattle.std.proofs.Common.{◌≡◌, ℕ, suc, ◌+◌, ◌≤◌, ◌<◌, Bool, true, false, cond, List, [], ◌∷◌, ◌++◌, map, length, Option, Some, None, refl, sym, ap, subst, ◌∙◌, arith}
use Rattle.std.specs.Prelude.{Result, Ok, Err, IfOk, nat_le}
use Rattle.std.specs.Option.{option_map, option_map_or}
use Rattle.std.specs.List.{AllByRecursion}
use Rattle.std.proofs.lemmas.Bool.{leb-false}
use Rattle.dbn_value.specs.Text.{is_name}
use Rattle.dbn_value.specs.Spelling.{value_of_bytes}
use Rattle.dbn_value.specs.declared.value.Value.{Value}
use Rattle.dbn_sexp.specs.Gives.{Gives}
use Rattle.dbn_sexp.specs.declared.fault.SexpFault.{SexpFault}
use Rattle.dbn_sexp.specs.declared.fault.SexpKind.TheVariants.{BadToken, Deep}
use Rattle.dbn_sexp.specs.declared.reading.Frame.{Frame}
use Rattle.dbn_sexp.specs.declared.sexp.Sexp.{Sexp}
use Rattle.dbn_sexp.specs.declared.sexp.Item.{Item}
use Rattle.dbn_sexp.specs.declared.sexp.Item.TheVariants as item
use Rattle.dbn_sexp.specs.Tokens.{Kind, Open, Close, Atom, Token, tokens}
use Rattle.dbn_sexp.specs.Reading.{Fault, State, ◌>>=◌, fault, sexp, with_item, item_of, added, opened, closed, after, step, ended, start, reads_from, reads}
use Rattle.dbn_sexp.specs.Printing.{largest, nesting, IsWithinDepth}
use Rattle.dbn_sexp.proofs.TreeLaws.{nesting_name, nesting_const, nesting_list}

-- inside so many lists
abbrev Deepens : ℕ → ℕ → List Sexp → Type 0
Deepens depth inside list = AllByRecursion (λ one. nesting one.item + inside ≤ depth) list

abbrev Stays : ℕ → List Frame → List Sexp → Type 0
Stays depth [] items = Deepens depth 0 items
Stays depth (frame ∷ frames) items = (suc (length frames) ≤ depth) × Deepens depth (suc (length frames)) items × Stays depth frames frame.before

largest_in : (depth inside : ℕ) (list : List Sexp) → inside ≤ depth → Deepens depth inside list → largest (map (λ one. nesting one.item) list) + inside ≤ depth
largest_in depth inside [] h all = omega arith
largest_in depth inside (one ∷ list) h all = omega (arith, all.0, largest_in depth inside list h all.1)

one_more : (depth inside : ℕ) (list : List Sexp) (one : Sexp) → Deepens depth inside list → nesting one.item + inside ≤ depth → Deepens depth inside (list ++ one ∷ [])
one_more depth inside [] one all h = (h, tt)
one_more depth inside (x ∷ list) one all h = (all.0, one_more depth inside list one all.1 h)

added_stays : (depth : ℕ) (frames : List Frame) (items : List Sexp) (one : Sexp) → nesting one.item + length frames ≤ depth → Stays depth frames items → Stays depth frames (items ++ one ∷ [])
added_stays depth [] items one h stays = one_more depth 0 items one stays h
added_stays depth (frame ∷ frames) items one h stays = (stays.0, one_more depth (suc (length frames)) items one stays.1 h, stays.2)

frames_fit : (depth : ℕ) (frames : List Frame) (items : List Sexp) → Stays depth frames items → length frames ≤ depth
frames_fit depth [] items stays = omega arith
frames_fit depth (frame ∷ frames) items stays = stays.0

closed_stays : (depth line : ℕ) (frames : List Frame) (items : List Sexp) (state : State) → Stays depth frames items → closed line frames items ≡ Ok state → Stays depth state.open_lists state.items
closed_stays depth line [] items state stays e = cc
closed_stays depth line (frame ∷ frames) items state stays e =
    let inner = largest_in depth (suc (length frames)) items stays.0 stays.1 in
    let here : nesting (item.List items) ≡ largest (map (λ one. nesting one.item) items) + 1 = nesting_list items in
    let within : nesting (item.List items) + length frames ≤ depth = omega (arith, inner, here) in
    let next : State = record { open_lists = frames; items = frame.before ++ sexp frame.line (item.List items) ∷ [] } in
    let same : next ≡ state = cc in
    subst (λ (s : State). Stays depth s.open_lists s.items) same (added_stays depth frames frame.before (sexp frame.line (item.List items)) within stays.2)

abbrev deeper : ℕ → State → State
deeper line state = record { open_lists = record { line = line; before = state.items } ∷ state.open_lists; items = [] }

opened_stays : (depth line : ℕ) (state next : State) → Stays depth state.open_lists state.items → opened depth line state ≡ Ok next → Stays depth next.open_lists next.items
opened_stays depth line state next stays e = by (nat_le depth (length state.open_lists)) refl e where
  by : (t : Bool) → nat_le depth (length state.open_lists) ≡ t → cond t (fault line Deep) (Ok (deeper line state)) ≡ Ok next → Stays depth next.open_lists next.items
  by true p q = cc
  by false p q =
      let room : length state.open_lists < depth = leb-false depth (length state.open_lists) p in
      let same : deeper line state ≡ next = cc in
      subst (λ (s : State). Stays depth s.open_lists s.items) same (omega (arith, room), tt, stays)

atom_nests : (bytes : List ℕ) (one : Item) → item_of bytes ≡ Some one → nesting one ≡ 0
unfolding item_of
atom_nests bytes one e = by (is_name bytes) (value_of_bytes bytes) e where
  by : (t : Bool) (v : Option Value) → cond t (Some (item.Name bytes)) (option_map item.Const v) ≡ Some one → nesting one ≡ 0
  by true v e = let same : item.Name bytes ≡ one = cc in ap nesting (sym same) ∙ nesting_name bytes
  by false (Some v) e = let same : item.Const v ≡ one = cc in ap nesting (sym same) ∙ nesting_const v
  by false None e = cc

atom_stays : (depth line : ℕ) (bytes : List ℕ) (state next : State) → Stays depth state.open_lists state.items → added line bytes state ≡ Ok next → Stays depth next.open_lists next.items
atom_stays depth line bytes state next stays e = by (item_of bytes) refl e where
  by : (o : Option Item) → item_of bytes ≡ o → option_map_or (λ one. Ok (with_item (sexp line one) state)) o (fault line BadToken) ≡ Ok next → Stays depth next.open_lists next.items
  by None p q = cc
  by (Some one) p q =
      let flat : nesting one ≡ 0 = atom_nests bytes one p in
      let same : with_item (sexp line one) state ≡ next = cc in
      subst (λ (s : State). Stays depth s.open_lists s.items) same
      (added_stays depth state.open_lists state.items (sexp line one) (omega (arith, flat, frames_fit depth state.open_lists state.items stays)) stays)

step_stays : (depth line : ℕ) (kind : Kind) (state next : State) → Stays depth state.open_lists state.items → step depth line kind state ≡ Ok next → Stays depth next.open_lists next.items
step_stays depth line Open state next stays e = opened_stays depth line state next stays e
step_stays depth line Close state next stays e = closed_stays depth line state.open_lists state.items next stays e
step_stays depth line (Atom bytes) state next stays e = atom_stays depth line bytes state next stays e

then_stays : (depth : ℕ) (r : Result State Fault) (f : State → Result State Fault) (next : State)
    → ((mid : State) → r ≡ Ok mid → f mid ≡ Ok next → Stays depth next.open_lists next.items) → (r >>= f) ≡ Ok next → Stays depth next.open_lists next.items
then_stays depth (Ok mid) f next h e = h mid refl e
then_stays depth (Err x) f next h e = cc

after_stays : (depth : ℕ) (ts : List Token) (state next : State) → Stays depth state.open_lists state.items → after depth ts state ≡ Ok next → Stays depth next.open_lists next.items
unfolding after
after_stays depth [] state next stays e = let same : state ≡ next = cc in subst (λ (s : State). Stays depth s.open_lists s.items) same stays
after_stays depth (t ∷ ts) state next stays e =
    then_stays depth (step depth t.line t.kind state) (after depth ts) next
    (λ mid p q. after_stays depth ts mid next (step_stays depth t.line t.kind state mid stays p) q)
    e

ended_stays : (depth : ℕ) (frames : List Frame) (items list : List Sexp) → Stays depth frames items → ended frames items ≡ Ok list → IsWithinDepth depth list
ended_stays depth [] items list stays e = let same : items ≡ list = cc in subst (λ l. IsWithinDepth depth l) same (plain items stays) where
  plain : (all : List Sexp) → Deepens depth 0 all → IsWithinDepth depth all
  plain [] h = tt
  plain (one ∷ all) h = (omega (arith, h.0), plain all h.1)
ended_stays depth (frame ∷ []) items list stays e = cc
ended_stays depth (frame ∷ next ∷ frames) items list stays e = never next frames e where
  never : (next : Frame) (frames : List Frame) → ended (next ∷ frames) items ≡ Ok list → IsWithinDepth depth list
  never next [] e = cc
  never next (more ∷ frames) e = never more frames e

-- what is read nests within the depth
pub read_within : (depth : ℕ) (bytes : List ℕ) (list : List Sexp) → reads depth bytes ≡ Ok list → IsWithinDepth depth list
unfolding reads_from
read_within depth bytes list e = by (after depth (tokens 1 0 bytes) start) refl e where
  by : (r : Result State Fault) → after depth (tokens 1 0 bytes) start ≡ r → (r >>= λ last. ended last.open_lists last.items) ≡ Ok list → IsWithinDepth depth list
  by (Err f) p q = cc
  by (Ok last) p q = ended_stays depth last.open_lists last.items list (after_stays depth (tokens 1 0 bytes) start last tt p) q

-- the same of what a call gives
pub gives_within : (depth : ℕ) (bytes : List ℕ) (result : Result (List Sexp) SexpFault) → Gives result (reads depth bytes) → IfOk result (λ list. IsWithinDepth depth list)
gives_within depth bytes (Ok list) e = read_within depth bytes list e
gives_within depth bytes (Err error) e = tt
