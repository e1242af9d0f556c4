-- The text of a list is read as the list, with the lines counted anew.
use Rattle.std.proofs.Common.{◌≡◌, ℕ, ◌+◌, ◌≤◌, ◌<◌, true, cond, List, [], ◌∷◌, ◌++◌, map, length, refl, sym, ap, ◌∙◌, arith, append_assoc, append-nil}
use Rattle.std.specs.Prelude.{Ok, Some}
use Rattle.std.specs.Option.{option_map, option_map_or}
use Rattle.std.specs.List.{flat_map, AllByRecursion}
use Rattle.std.proofs.lemmas.Bool.{lt-leb}
use Rattle.std.proofs.lemmas.Grind.{flat_map-append}
use Rattle.dbn_value.specs.Text.{IsName}
use Rattle.dbn_value.specs.Spelling.{spelling, value_of_bytes, IsValue}
use Rattle.dbn_value.specs.declared.value.Value.{Value}
use Rattle.dbn_value.proofs.Spellings.{reads_back}
use Rattle.dbn_sexp.specs.declared.fault.SexpKind.TheVariants.{BadToken, Deep}
use Rattle.dbn_sexp.specs.declared.sexp.Sexp.{Sexp}
use Rattle.dbn_sexp.specs.declared.sexp.Item.{Item}
use Rattle.dbn_sexp.specs.declared.sexp.Item.TheVariants as item
use Rattle.dbn_sexp.specs.Tokens.{Token, Kind, Open, Close, Atom, ends_word, tokens, token_of, more}
use Rattle.dbn_sexp.specs.Reading.{State, ◌>>=◌, fault, sexp, with_item, item_of, opened, after, step, ended, reads_from, reads}
use Rattle.dbn_sexp.specs.Printing.{spaced, item_text, text, largest, nesting, atoms, IsAtom, HasAtoms, IsWithinDepth, on_line, on_lines}
use Rattle.dbn_sexp.proofs.TreeLaws.{induction, text_name, text_const, text_list, spaced_parts, nesting_list, atoms_name, atoms_const, atoms_list, line_name, line_const, line_list}
use Rattle.dbn_sexp.proofs.AtomLaws.{AreOneToken, name_token, value_token, no_name, tokens_one}

after_cons : (depth line : ℕ) (kind : Kind) (ts : List Token) (state : State)
    → after depth (record { line = line; kind = kind } ∷ ts) state ≡ step depth line kind state >>= after depth ts
unfolding after
after_cons depth line kind ts state = refl

-- what is read behind an item: bytes that begin with one that ends a word
abbrev Ends : List ℕ → Type 0
Ends [] = ⊥
Ends (c ∷ rest) = ends_word c ≡ true

-- ---- one token

space : (line : ℕ) (bytes : List ℕ) → tokens line 0 (32 ∷ bytes) ≡ tokens line 0 bytes
unfolding tokens token_of more
space line bytes = refl

next_line : (line : ℕ) (bytes : List ℕ) → tokens line 0 (10 ∷ bytes) ≡ tokens (line + 1) 0 bytes
unfolding tokens token_of more
next_line line bytes = refl

open_first : (line : ℕ) (bytes : List ℕ) → tokens line 0 (40 ∷ bytes) ≡ record { line = line; kind = Open } ∷ tokens line 0 bytes
unfolding tokens token_of more
open_first line bytes = refl

close_first : (line : ℕ) (bytes : List ℕ) → tokens line 0 (41 ∷ bytes) ≡ record { line = line; kind = Close } ∷ tokens line 0 bytes
unfolding tokens token_of more
close_first line bytes = refl

name_is : (name : List ℕ) → IsName name → item_of name ≡ Some (item.Name name)
unfolding item_of
name_is name h = ap (λ t. cond t (Some (item.Name name)) (option_map item.Const (value_of_bytes name))) h

const_is : (value : Value) → IsValue value → item_of (spelling value) ≡ Some (item.Const value)
unfolding item_of
const_is value h =
    ap (λ t. cond t (Some (item.Name (spelling value))) (option_map item.Const (value_of_bytes (spelling value)))) (no_name value h)
    ∙ ap (option_map item.Const) (reads_back value h)

atom_read : (depth line : ℕ) (bytes rest : List ℕ) (one : Item) (state : State) → AreOneToken bytes → item_of bytes ≡ Some one → Ends rest
    → after depth (tokens line 0 (bytes ++ rest)) state ≡ after depth (tokens line 0 rest) (with_item (sexp line one) state)
atom_read depth line bytes [] one state token is ends = absurd ends
atom_read depth line bytes (c ∷ rest) one state token is ends =
    ap (λ ts. after depth ts state) (tokens_one line bytes c rest token ends)
    ∙ after_cons depth line (Atom bytes) (tokens line 0 (c ∷ rest)) state
    ∙ ap (λ o. option_map_or (λ found. Ok (with_item (sexp line found) state)) o (fault line BadToken) >>= after depth (tokens line 0 (c ∷ rest))) is

-- ---- items

-- an item is read where its text stands
abbrev IsRead : Item → Type 0
IsRead one =
    (depth line : ℕ) (rest : List ℕ) (state : State) → Ends rest → AllByRecursion IsAtom (atoms one) → nesting one + length state.open_lists ≤ depth
    → after depth (tokens line 0 (item_text one ++ rest)) state ≡ after depth (tokens line 0 rest) (with_item (sexp line (on_line line one)) state)

read_name : (name : List ℕ) → IsRead (item.Name name)
read_name name depth line rest state ends form within =
    let good = (rw (atoms_name name) at form).0 in
    ap (λ t. after depth (tokens line 0 (t ++ rest)) state) (text_name name)
    ∙ atom_read depth line name rest (item.Name name) state (name_token name good) (name_is name good) ends
    ∙ ap (λ o. after depth (tokens line 0 rest) (with_item (sexp line o) state)) (sym (line_name line name))

read_const : (value : Value) → IsRead (item.Const value)
read_const value depth line rest state ends form within =
    let good = (rw (atoms_const value) at form).0 in
    ap (λ t. after depth (tokens line 0 (t ++ rest)) state) (text_const value)
    ∙ atom_read depth line (spelling value) rest (item.Const value) state (value_token value good) (const_is value good) ends
    ∙ ap (λ o. after depth (tokens line 0 rest) (with_item (sexp line o) state)) (sym (line_const line value))

abbrev behind : List Sexp → List ℕ
behind list = flat_map (λ part. 32 ∷ item_text part.item) list

abbrev lined : ℕ → List Sexp → List Sexp
lined line list = map (λ one. record { line = line; item = on_line line one.item }) list

abbrev with_items : List Sexp → State → State
with_items list state = record { open_lists = state.open_lists; items = state.items ++ list }

ends_behind : (list : List Sexp) (rest : List ℕ) → Ends rest → Ends (behind list ++ rest)
ends_behind [] rest ends = ends
ends_behind (one ∷ list) rest ends = refl

all_front : {X : Type 0} (P : X → Type 0) (xs ys : List X) → AllByRecursion P (xs ++ ys) → AllByRecursion P xs × AllByRecursion P ys
all_front P [] ys all = (tt, all)
all_front P (x ∷ xs) ys all = let parts = all_front P xs ys all.1 in ((all.0, parts.0), parts.1)

first_deep : (one : Sexp) (list : List Sexp) (n depth : ℕ) → largest (map (λ part. nesting part.item) (one ∷ list)) + n ≤ depth → nesting one.item + n ≤ depth
first_deep one list n depth h = omega arith

rest_deep : (one : Sexp) (list : List Sexp) (n depth : ℕ) → largest (map (λ part. nesting part.item) (one ∷ list)) + n ≤ depth → largest (map (λ part. nesting part.item) list) + n ≤ depth
rest_deep one list n depth h = omega arith

read_behind : (list : List Sexp) → AllByRecursion (λ one. IsRead one.item) list → (depth line : ℕ) (rest : List ℕ) (state : State) → Ends rest → HasAtoms list
    → largest (map (λ part. nesting part.item) list) + length state.open_lists ≤ depth
    → after depth (tokens line 0 (behind list ++ rest)) state ≡ after depth (tokens line 0 rest) (with_items (lined line list) state)
read_behind [] all depth line rest state ends form within =
    ap (λ items. after depth (tokens line 0 rest) (record { open_lists = state.open_lists; items = items })) (sym (append-nil state.items))
read_behind (one ∷ list) all depth line rest state ends form within =
    let parts = all_front IsAtom (atoms one.item) (flat_map (λ part. atoms part.item) list) form in
    let next : State = with_item (sexp line (on_line line one.item)) state in
    ap (λ t. after depth (tokens line 0 (32 ∷ t)) state) (append_assoc (item_text one.item) (behind list) rest)
    ∙ ap (λ ts. after depth ts state) (space line (item_text one.item ++ (behind list ++ rest)))
    ∙ all.0 depth line (behind list ++ rest) state (ends_behind list rest ends) parts.0 (first_deep one list (length state.open_lists) depth within)
    ∙ read_behind list all.1 depth line rest next ends parts.1 (rest_deep one list (length state.open_lists) depth within)
    ∙ ap (λ items. after depth (tokens line 0 rest) (record { open_lists = state.open_lists; items = items }))
    (append_assoc state.items (sexp line (on_line line one.item) ∷ []) (lined line list))

read_spaced : (list : List Sexp) → AllByRecursion (λ one. IsRead one.item) list → (depth line : ℕ) (rest : List ℕ) (state : State) → Ends rest → HasAtoms list
    → largest (map (λ part. nesting part.item) list) + length state.open_lists ≤ depth
    → after depth (tokens line 0 (spaced (map (λ one. item_text one.item) list) ++ rest)) state ≡ after depth (tokens line 0 rest) (with_items (lined line list) state)
read_spaced [] all depth line rest state ends form within =
    ap (λ items. after depth (tokens line 0 rest) (record { open_lists = state.open_lists; items = items })) (sym (append-nil state.items))
read_spaced (one ∷ list) all depth line rest state ends form within =
    let parts = all_front IsAtom (atoms one.item) (flat_map (λ part. atoms part.item) list) form in
    let next : State = with_item (sexp line (on_line line one.item)) state in
    ap (λ t. after depth (tokens line 0 (t ++ rest)) state) (spaced_parts one list)
    ∙ ap (λ t. after depth (tokens line 0 t) state) (append_assoc (item_text one.item) (behind list) rest)
    ∙ all.0 depth line (behind list ++ rest) state (ends_behind list rest ends) parts.0 (first_deep one list (length state.open_lists) depth within)
    ∙ read_behind list all.1 depth line rest next ends parts.1 (rest_deep one list (length state.open_lists) depth within)
    ∙ ap (λ items. after depth (tokens line 0 rest) (record { open_lists = state.open_lists; items = items }))
    (append_assoc state.items (sexp line (on_line line one.item) ∷ []) (lined line list))

abbrev inner : ℕ → State → State
inner line state = record { open_lists = record { line = line; before = state.items } ∷ state.open_lists; items = [] }

opens : (depth line : ℕ) (state : State) → length state.open_lists < depth → opened depth line state ≡ Ok (inner line state)
opens depth line state h = ap (λ t. cond t (fault line Deep) (Ok (inner line state))) (lt-leb depth (length state.open_lists) h)

read_list : (list : List Sexp) → AllByRecursion (λ one. IsRead one.item) list → IsRead (item.List list)
read_list list all depth line rest state ends form within =
    let here : nesting (item.List list) ≡ largest (map (λ part. nesting part.item) list) + 1 = nesting_list list in
    let inside : largest (map (λ part. nesting part.item) list) + length (inner line state).open_lists ≤ depth = omega (arith, within, here) in
    let shallow : length state.open_lists < depth = omega (arith, within, here) in
    let form_inside : HasAtoms list = rw (atoms_list list) at form in
    let texts : List ℕ = spaced (map (λ one. item_text one.item) list) in
    ap (λ t. after depth (tokens line 0 (t ++ rest)) state) (text_list list)
    ∙ ap (λ t. after depth (tokens line 0 t) state) (append_assoc (40 ∷ texts) (41 ∷ []) rest)
    ∙ ap (λ ts. after depth ts state) (open_first line (texts ++ 41 ∷ rest))
    ∙ after_cons depth line Open (tokens line 0 (texts ++ 41 ∷ rest)) state
    ∙ ap (λ r. r >>= after depth (tokens line 0 (texts ++ 41 ∷ rest))) (opens depth line state shallow)
    ∙ read_spaced list all depth line (41 ∷ rest) (inner line state) refl form_inside inside
    ∙ ap (λ ts. after depth ts (with_items (lined line list) (inner line state))) (close_first line rest)
    ∙ after_cons depth line Close (tokens line 0 rest) (with_items (lined line list) (inner line state))
    ∙ ap (λ o. after depth (tokens line 0 rest) (with_item (sexp line o) state)) (sym (line_list line list))

read_item : (one : Item) → IsRead one
read_item = induction IsRead (record { name = read_name; const = read_const; list = read_list })

-- ---- lines

read_lines : (list : List Sexp) (depth line : ℕ) (items : List Sexp) → HasAtoms list → IsWithinDepth depth list
    → after depth (tokens line 0 (text list)) (record { open_lists = []; items = items }) ≡ Ok (record { open_lists = []; items = items ++ on_lines line list })
unfolding tokens after
read_lines [] depth line items form within = ap (λ all. Ok (record { open_lists = []; items = all })) (sym (append-nil items))
read_lines (one ∷ list) depth line items form within =
    let parts = all_front IsAtom (atoms one.item) (flat_map (λ part. atoms part.item) list) form in
    let state : State = record { open_lists = []; items = items } in
    let first : Sexp = sexp line (on_line line one.item) in
    let shallow : nesting one.item + 0 ≤ depth = omega (arith, within.0) in
    ap (λ t. after depth (tokens line 0 t) state) (append_assoc (item_text one.item) (10 ∷ []) (text list))
    ∙ read_item one.item depth line (10 ∷ text list) state refl parts.0 shallow
    ∙ ap (λ ts. after depth ts (with_item first state)) (next_line line (text list))
    ∙ read_lines list depth (line + 1) (items ++ first ∷ []) parts.1 within.1
    ∙ ap (λ all. Ok (record { open_lists = []; items = all })) (append_assoc items (first ∷ []) (on_lines (line + 1) list))

-- the text of a list of names and values is read as the list, where the depth allows its nesting
pub reads_text : (depth : ℕ) (list : List Sexp) → HasAtoms list → IsWithinDepth depth list → reads depth (text list) ≡ Ok (on_lines 1 list)
unfolding reads_from
reads_text depth list form within = ap (λ r. r >>= λ last. ended last.open_lists last.items) (read_lines list depth 1 [] form within)

-- the same of bytes that are the text
pub reads_bytes : (list : List Sexp) (bytes : List ℕ) → bytes ≡ text list → HasAtoms list → (depth : ℕ) → IsWithinDepth depth list → reads depth bytes ≡ Ok (on_lines 1 list)
reads_bytes list bytes is form depth within = ap (reads depth) is ∙ reads_text depth list form within

-- the text of a list, part by part
pub list_text : (out opened_ inside all : List ℕ) (one : Item) (list : List Sexp) → one ≡ item.List list
    → opened_ ≡ out ++ 40 ∷ [] → inside ≡ opened_ ++ spaced (map (λ part. item_text part.item) list) → all ≡ inside ++ 41 ∷ []
    → all ≡ out ++ item_text one
list_text out opened_ inside all one list is p q r =
    let texts : List ℕ = spaced (map (λ part. item_text part.item) list) in
    r ∙ ap (λ x. x ++ 41 ∷ []) (q ∙ ap (λ x. x ++ texts) p) ∙ append_assoc (out ++ 40 ∷ []) texts (41 ∷ []) ∙ append_assoc out (40 ∷ []) (texts ++ 41 ∷ [])
    ∙ sym (ap (λ o. out ++ item_text o) is ∙ ap (λ t. out ++ t) (text_list list))

-- the text of two lists is the two texts
pub text_append : (xs ys : List Sexp) → text (xs ++ ys) ≡ text xs ++ text ys
text_append xs ys = flat_map-append (λ (one : Sexp). item_text one.item ++ 10 ∷ []) xs ys
