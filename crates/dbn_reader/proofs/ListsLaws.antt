-- Each list of a text has two parentheses of its own: it takes two bytes.
use Rattle.std.proofs.Common.{◌≡◌, ℕ, zero, suc, ◌+◌, ◌*◌, ◌≤◌, Bool, true, false, cond, List, [], ◌∷◌, ◌++◌, map, length, take, Option, Some, None, refl, sym, ap, subst, ◌∙◌, arith, length-append}
use Rattle.std.specs.Prelude.{Result, Ok, Err, nat_le, sum}
use Rattle.std.specs.Option.{option_map, option_map_or}
use Rattle.std.specs.List.{sum_by}
use Rattle.std.proofs.lemmas.List.Sums.{sum_by_push}
use Rattle.dbn_value.specs.declared.value.Value.{Value}
use Rattle.dbn_value.specs.Text.{is_name}
use Rattle.dbn_value.specs.Spelling.{value_of_bytes}
use Rattle.dbn_sexp.specs.declared.reading.Frame.{Frame}
use Rattle.dbn_sexp.specs.declared.sexp.Sexp.{Sexp}
use Rattle.dbn_sexp.specs.declared.sexp.Sexp.{roll-Sexp}
use Rattle.dbn_sexp.specs.declared.sexp.Item.{Item, roll-Item}
use Rattle.dbn_sexp.specs.declared.sexp.Item.TheVariants as item
use Rattle.dbn_sexp.specs.declared.sexp.Item.TheOpen as layer
use Rattle.dbn_sexp.specs.declared.sexp.Item.TheFolds.{fold-Item, fold-Sexp, fold_out-Sexp, fold-roll-Item}
use Rattle.dbn_sexp.specs.declared.fault.SexpKind.TheVariants.{BadToken, Deep}
use Rattle.dbn_sexp.specs.Tokens.{Kind, Open, Close, Atom, Token, is_blank, line_after, more, token_of, tokens}
use Rattle.dbn_sexp.specs.Reading.{Fault, State, ◌>>=◌, fault, sexp, with_item, item_of, constant_of, added, opened, closed, after, step, ended, start, reads_from, reads}

-- ---- how many lists stand in an item, itself counted

abbrev total : List ℕ → ℕ
total [] = 0
total (n ∷ ns) = n + total ns

abbrev lists_step : layer.Item-F ℕ ℕ → ℕ
lists_step (layer.Name name) = 0
lists_step (layer.Const value) = 0
lists_step (layer.List parts) = suc (total parts)

unfoldable pub lists : Item → ℕ
lists one = fold-Item ℕ ℕ lists_step (λ part. part.item) one

abbrev pub all_lists : List Sexp → ℕ
all_lists [] = 0
all_lists (one ∷ list) = lists one.item + all_lists list

pub lists_name : (name : List ℕ) → lists (item.Name name) ≡ 0
unfolding lists
lists_name name =
    ap (fold-Item ℕ ℕ lists_step (λ part. part.item)) (sym (item.rolls-Name name)) ∙ fold-roll-Item ℕ ℕ lists_step (λ part. part.item) (layer.Name name)

pub lists_const : (v : Value) → lists (item.Const v) ≡ 0
unfolding lists
lists_const v =
    ap (fold-Item ℕ ℕ lists_step (λ part. part.item)) (sym (item.rolls-Const v)) ∙ fold-roll-Item ℕ ℕ lists_step (λ part. part.item) (layer.Const v)

total_lists : (list : List Sexp) → total (map (fold-Sexp ℕ ℕ lists_step (λ part. part.item)) list) ≡ all_lists list
unfolding lists
total_lists [] = refl
total_lists (one ∷ list) = (λ i. fold_out-Sexp ℕ ℕ lists_step (λ part. part.item) one i + total_lists list i)

pub lists_list : (parts : List Sexp) → lists (item.List parts) ≡ suc (all_lists parts)
unfolding lists
lists_list parts =
    ap (fold-Item ℕ ℕ lists_step (λ part. part.item)) (sym (item.rolls-List parts)) ∙ fold-roll-Item ℕ ℕ lists_step (λ part. part.item) (layer.List parts)
    ∙ ap suc (total_lists parts)

pub lists_append : (xs ys : List Sexp) → all_lists (xs ++ ys) ≡ all_lists xs + all_lists ys
lists_append [] ys = omega arith
lists_append (x ∷ xs) ys = let rest : all_lists (xs ++ ys) ≡ all_lists xs + all_lists ys = lists_append xs ys in omega (arith, rest)

lists_one : (xs : List Sexp) (one : Sexp) → all_lists (xs ++ one ∷ []) ≡ all_lists xs + lists one.item
lists_one xs one = let both : all_lists (xs ++ one ∷ []) ≡ all_lists xs + (lists one.item + 0) = lists_append xs (one ∷ []) in omega (arith, both)

-- ---- while a text is read, each token adds one at most: twice the lists, and one for each that is open

abbrev weight : List Frame → List Sexp → ℕ
weight [] items = 2 * all_lists items
weight (frame ∷ frames) items = 2 * all_lists items + (1 + weight frames frame.before)

abbrev weight_of : State → ℕ
weight_of s = weight s.open_lists s.items

abbrev okay : State → Result State Fault
okay s = Ok s

state_is : (s t : State) → okay s ≡ okay t → s ≡ t
state_is s t e = cc

weight_more : (frames : List Frame) (items : List Sexp) (one : Sexp) → weight frames (items ++ one ∷ []) ≡ weight frames items + 2 * lists one.item
weight_more [] items one = let e = lists_one items one in omega (arith, e)
weight_more (frame ∷ frames) items one = let e = lists_one items one in omega (arith, e)

closed_weighs : (line : ℕ) (frames : List Frame) (items : List Sexp) (next : State) → closed line frames items ≡ Ok next → weight_of next ≤ weight frames items + 1
closed_weighs line [] items next e = absurd cc
closed_weighs line (frame ∷ frames) items next e =
    let made : State = record { open_lists = frames; items = frame.before ++ sexp frame.line (item.List items) ∷ [] } in
    let same : made ≡ next = state_is made next e in
    let behind : weight frames (frame.before ++ sexp frame.line (item.List items) ∷ []) ≡ weight frames frame.before + 2 * lists (item.List items) =
    weight_more frames frame.before (sexp frame.line (item.List items)) in
    let here : lists (item.List items) ≡ suc (all_lists items) = lists_list items in
    subst (λ s. weight_of s ≤ weight (frame ∷ frames) items + 1) same (omega (arith, behind, here))

opened_weighs : (depth line : ℕ) (s next : State) → opened depth line s ≡ Ok next → weight_of next ≤ weight_of s + 1
opened_weighs depth line s next e = by (nat_le depth (length s.open_lists)) e
  where
    deeper : State
    deeper = record { open_lists = record { line = line; before = s.items } ∷ s.open_lists; items = [] }

    by : (t : Bool) → cond t (fault line Deep) (Ok (record { open_lists = record { line = line; before = s.items } ∷ s.open_lists; items = [] })) ≡ Ok next → weight_of next ≤ weight_of s + 1
    by true q = absurd cc
    by false q =
        subst (λ u. weight_of u ≤ weight_of s + 1) (state_is (record { open_lists = record { line = line; before = s.items } ∷ s.open_lists; items = [] }) next q) (omega arith)

atom_flat : (bytes : List ℕ) (one : Item) → item_of bytes ≡ Some one → lists one ≡ 0
unfolding item_of
atom_flat bytes one e = by (is_name bytes) (value_of_bytes bytes) e
  where
    by : (t : Bool) (v : Option Value) → cond t (Some (item.Name bytes)) (option_map item.Const v) ≡ Some one → lists one ≡ 0
    by true v e = let same : item.Name bytes ≡ one = cc in ap lists (sym same) ∙ lists_name bytes
    by false (Some v) e = let same : item.Const v ≡ one = cc in ap lists (sym same) ∙ lists_const v
    by false None e = absurd cc

added_weighs : (line : ℕ) (bytes : List ℕ) (s next : State) → added line bytes s ≡ Ok next → weight_of next ≤ weight_of s + 1
added_weighs line bytes s next e = by (item_of bytes) refl e
  where
    by : (o : Option Item) → item_of bytes ≡ o → option_map_or (λ one. Ok (with_item (sexp line one) s)) o (fault line BadToken) ≡ Ok next → weight_of next ≤ weight_of s + 1
    by None p q = absurd cc
    by (Some one) p q =
        let more : weight s.open_lists (s.items ++ sexp line one ∷ []) ≡ weight s.open_lists s.items + 2 * lists one = weight_more s.open_lists s.items (sexp line one) in
        let flat : lists one ≡ 0 = atom_flat bytes one p in
        subst (λ u. weight_of u ≤ weight_of s + 1) (state_is (with_item (sexp line one) s) next q) (omega (arith, more, flat))

step_weighs : (depth line : ℕ) (kind : Kind) (s next : State) → step depth line kind s ≡ Ok next → weight_of next ≤ weight_of s + 1
step_weighs depth line Open s next e = opened_weighs depth line s next e
step_weighs depth line Close s next e = closed_weighs line s.open_lists s.items next e
step_weighs depth line (Atom bytes) s next e = added_weighs line bytes s next e

then_found : (r : Result State Fault) (f : State → Result State Fault) (next : State) → (r >>= f) ≡ Ok next → (mid : State) × (r ≡ Ok mid) × (f mid ≡ Ok next)
then_found (Ok mid) f next e = (mid, refl, e)
then_found (Err x) f next e = absurd cc

after_weighs : (depth : ℕ) (ts : List Token) (s next : State) → after depth ts s ≡ Ok next → weight_of next ≤ weight_of s + length ts
unfolding after
after_weighs depth [] s next e = subst (λ u. weight_of u ≤ weight_of s + 0) (state_is s next e) (omega arith)
after_weighs depth (t ∷ ts) s next e =
    let (mid, p, q) = then_found (step depth t.line t.kind s) (after depth ts) next e in
    let first : weight_of mid ≤ weight_of s + 1 = step_weighs depth t.line t.kind s mid p in
    let rest : weight_of next ≤ weight_of mid + length ts = after_weighs depth ts mid next q in
    omega (arith, first, rest)

-- ---- no more tokens than bytes

token_alone : (line b : ℕ) (bytes : List ℕ) → length (token_of line b bytes) ≤ 1
unfolding token_of
token_alone line b bytes = grind arith

tokens_within : (line skip : ℕ) (bytes : List ℕ) → length (tokens line skip bytes) ≤ length bytes
unfolding tokens
tokens_within line skip [] = omega arith
tokens_within line zero (b ∷ bytes) =
    let one : length (token_of line b (b ∷ take (more b bytes) bytes)) ≤ 1 = token_alone line b (b ∷ take (more b bytes) bytes) in
    let rest : length (tokens (line_after line b) (more b bytes) bytes) ≤ length bytes = tokens_within (line_after line b) (more b bytes) bytes in
    let both = length-append (token_of line b (b ∷ take (more b bytes) bytes)) (tokens (line_after line b) (more b bytes) bytes) in
    omega (arith, one, rest, both)
tokens_within line (suc skip) (b ∷ bytes) = let rest = tokens_within (line_after line b) skip bytes in omega (arith, rest)

-- ---- the whole text

ended_weighs : (frames : List Frame) (items list : List Sexp) → ended frames items ≡ Ok list → 2 * all_lists list ≤ weight frames items
ended_weighs [] items list e = let same : items ≡ list = cc in subst (λ l. 2 * all_lists l ≤ 2 * all_lists items) same (omega arith)
ended_weighs (frame ∷ []) items list e = absurd cc
ended_weighs (frame ∷ next ∷ frames) items list e = absurd (never next frames e)
  where
    never : (next : Frame) (frames : List Frame) → ended (next ∷ frames) items ≡ Ok list → ⊥
    never next [] e = absurd cc
    never next (more ∷ frames) e = never more frames e

pub lists_within : (depth : ℕ) (bytes : List ℕ) (list : List Sexp) → reads depth bytes ≡ Ok list → 2 * all_lists list ≤ length bytes
unfolding reads_from
lists_within depth bytes list e = by (after depth (tokens 1 0 bytes) start) refl e
  where
    by : (r : Result State Fault) → after depth (tokens 1 0 bytes) start ≡ r → (r >>= λ last. ended last.open_lists last.items) ≡ Ok list → 2 * all_lists list ≤ length bytes
    by (Err f) p q = absurd cc
    by (Ok last) p q =
        let ended_at : 2 * all_lists list ≤ weight_of last = ended_weighs last.open_lists last.items list q in
        let read : weight_of last ≤ 0 + length (tokens 1 0 bytes) = after_weighs depth (tokens 1 0 bytes) start last p in
        let few : length (tokens 1 0 bytes) ≤ length bytes = tokens_within 1 0 bytes in
        omega (arith, ended_at, read, few)
