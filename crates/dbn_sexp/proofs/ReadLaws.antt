-- Reading goes on piece by piece: after a token, a comment or a blank, the rest is read from the line that was reached.
use Rattle.std.proofs.Common.{◌≡◌, ℕ, zero, suc, ◌+◌, Bool, true, false, cond, List, [], ◌∷◌, ◌++◌, take, drop, get_or, ◌<◌, length, reverse, refl, sym, ap, ◌∙◌, arith, add-zero, one-add}
use Rattle.std.proofs.lemmas.Grind.{reverse_onto}
use Rattle.std.specs.Prelude.{Result, Ok, Err}
use Rattle.std.specs.List.{count_by}
use Rattle.std.proofs.lemmas.List.Sums.{sum_by-cons}
use Rattle.dbn_sexp.specs.declared.reading.Frame.{Frame}
use Rattle.dbn_sexp.specs.declared.sexp.Sexp.{Sexp}
use Rattle.dbn_sexp.specs.Tokens.{Kind, Token, is_line_feed, line_after, tokens, token_of, more, piece_len}
use Rattle.dbn_sexp.specs.Reading.{Fault, State, ◌>>=◌, after, step, ended, fault, reads_from}
use Rattle.dbn_sexp.specs.Gives.{Fails}
use Rattle.dbn_sexp.specs.declared.fault.SexpFault.{SexpFault}
use Rattle.dbn_sexp.specs.declared.fault.SexpFault.TheVariants.{Bad, Memory}
use Rattle.dbn_sexp.specs.declared.fault.SexpKind.TheVariants.{Unclosed}

line_more_at : (test : Bool) (line n : ℕ) → cond test (line + 1) line + n ≡ line + (cond test 1 0 + n)
line_more_at true line n = omega arith
line_more_at false line n = omega arith

line_more : (line b : ℕ) (bytes : List ℕ) → line_after line b + count_by is_line_feed bytes ≡ line + count_by is_line_feed (b ∷ bytes)
line_more line b bytes =
    line_more_at (is_line_feed b) line (count_by is_line_feed bytes) ∙ ap (λ n. line + n) (sym (sum_by-cons (λ c. cond (is_line_feed c) 1 0) b bytes))

-- bytes that are skipped count for the line alone
tokens_skip : (line skip : ℕ) (bytes : List ℕ) → tokens line skip bytes ≡ tokens (line + count_by is_line_feed (take skip bytes)) 0 (drop skip bytes)
unfolding tokens
tokens_skip line zero [] = refl
tokens_skip line (suc skip) [] = refl
tokens_skip line zero (b ∷ bytes) = ap (λ n. tokens n 0 (b ∷ bytes)) (sym (add-zero line))
tokens_skip line (suc skip) (b ∷ bytes) =
    tokens_skip (line_after line b) skip bytes
    ∙ ap (λ n. tokens n 0 (drop skip bytes)) (line_more line b (take skip bytes))

bind_ok : {A : Type 0} (r : Result A Fault) → (r >>= λ x. Ok x) ≡ r
bind_ok (Ok x) = refl
bind_ok (Err e) = refl

bind_assoc : {A B C : Type 0} (r : Result A Fault) (f : A → Result B Fault) (g : B → Result C Fault) → (r >>= f) >>= g ≡ r >>= (λ x. f x >>= g)
bind_assoc (Ok x) f g = refl
bind_assoc (Err e) f g = refl

bind_same : {A B : Type 0} (r : Result A Fault) (f g : A → Result B Fault) → ((x : A) → f x ≡ g x) → (r >>= f) ≡ (r >>= g)
bind_same (Ok x) f g same = same x
bind_same (Err e) f g same = refl

pub after_none : (depth : ℕ) (state : State) → after depth [] state ≡ Ok state
unfolding after
after_none depth state = refl

-- one token after a state
pub after_one : (depth line : ℕ) (kind : Kind) (state : State) → after depth (record { line = line; kind = kind } ∷ []) state ≡ step depth line kind state
unfolding after
after_one depth line kind state = bind_ok (step depth line kind state)

pub ruleset after_laws = (after_none, after_one)

pub after-append : (depth : ℕ) (xs ys : List Token) (state : State) → after depth (xs ++ ys) state ≡ after depth xs state >>= after depth ys
unfolding after
after-append depth [] ys state = refl
after-append depth (x ∷ xs) ys state =
    bind_same (step depth x.line x.kind state) (after depth (xs ++ ys)) (λ s. after depth xs s >>= after depth ys) (after-append depth xs ys)
    ∙ sym (bind_assoc (step depth x.line x.kind state) (after depth xs) (after depth ys))

-- the bytes of the piece that stands first
abbrev pub first_piece : ℕ → List ℕ → List ℕ
first_piece b bytes = b ∷ take (more b bytes) bytes

pub tokens_piece : (line b : ℕ) (bytes : List ℕ)
    → tokens line 0 (b ∷ bytes) ≡ token_of line b (first_piece b bytes) ++ tokens (line + count_by is_line_feed (first_piece b bytes)) 0 (drop (more b bytes) bytes)
unfolding tokens
tokens_piece line b bytes =
    ap (λ rest. token_of line b (first_piece b bytes) ++ rest)
    (tokens_skip (line_after line b) (more b bytes) bytes ∙ ap (λ n. tokens n 0 (drop (more b bytes) bytes)) (line_more line b (take (more b bytes) bytes)))

reads_piece : (depth line b : ℕ) (bytes : List ℕ) (state : State)
    → reads_from depth line (b ∷ bytes) state
    ≡ after depth (token_of line b (first_piece b bytes)) state >>= reads_from depth (line + count_by is_line_feed (first_piece b bytes)) (drop (more b bytes) bytes)
unfolding reads_from
reads_piece depth line b bytes state =
    let rest : List Token = tokens (line + count_by is_line_feed (first_piece b bytes)) 0 (drop (more b bytes) bytes) in
    ap (λ all. after depth all state >>= λ last. ended last.open_lists last.items) (tokens_piece line b bytes)
    ∙ ap (λ r. r >>= λ last. ended last.open_lists last.items) (after-append depth (token_of line b (first_piece b bytes)) rest state)
    ∙ bind_assoc (after depth (token_of line b (first_piece b bytes)) state) (after depth rest) (λ last. ended last.open_lists last.items)

-- the same, where the bytes were split behind the piece
reads_split : (depth line : ℕ) (rest : List ℕ) (state : State) → 0 < length rest
    → reads_from depth line rest state
    ≡ after depth (token_of line (get_or rest 0 0) (take (piece_len rest) rest)) state
    >>= reads_from depth (line + count_by is_line_feed (take (piece_len rest) rest)) (drop (piece_len rest) rest)
reads_split depth line [] state some = absurd (omega (arith, some))
reads_split depth line (b ∷ tail) state some = rw one-add (reads_piece depth line b tail state)

-- a piece that is taken leads on
pub reads_on : (depth lines feeds : ℕ) (rest piece behind : List ℕ) (old new : State)
    → 0 < length rest → piece ≡ take (piece_len rest) rest → behind ≡ drop (piece_len rest) rest → feeds ≡ count_by is_line_feed piece
    → after depth (token_of (lines + 1) (get_or rest 0 0) piece) old ≡ Ok new
    → reads_from depth (lines + feeds + 1) behind new ≡ reads_from depth (lines + 1) rest old
reads_on depth lines feeds rest piece behind old new some front back count taken =
    let place : lines + feeds + 1 ≡ lines + 1 + count_by is_line_feed piece = omega (arith, count) in
    let whole = rw (← front, ← back) at (reads_split depth (lines + 1) rest old some) in
    ap (λ n. reads_from depth n behind new) place
    ∙ sym (whole ∙ ap (λ r. r >>= reads_from depth (lines + 1 + count_by is_line_feed piece) behind) taken)

-- a piece that isn't taken is the fault of all
pub reads_stop : (depth line : ℕ) (rest piece : List ℕ) (old : State) (error : SexpFault)
    → 0 < length rest → piece ≡ take (piece_len rest) rest
    → Fails error (after depth (token_of line (get_or rest 0 0) piece) old)
    → Fails error (reads_from depth line rest old)
reads_stop depth line rest piece old Memory some front fails = tt
reads_stop depth line rest piece old (Bad place kind) some front fails =
    let whole = rw (← front) at (reads_split depth line rest old some) in
    whole ∙ ap (λ r. r >>= reads_from depth (line + count_by is_line_feed piece) (drop (piece_len rest) rest)) fails

-- at the end of the bytes
pub reads_end : (depth line : ℕ) (rest : List ℕ) (state : State) → length rest < 1 → reads_from depth line rest state ≡ ended state.open_lists state.items
unfolding reads_from tokens after
reads_end depth line [] state none = refl
reads_end depth line (b ∷ rest) state none = absurd (omega (arith, none))

ended_last : (frames : List Frame) (outermost : Frame) (items : List Sexp) → ended (frames ++ outermost ∷ []) items ≡ fault outermost.line Unclosed
ended_last [] outermost items = refl
ended_last (frame ∷ []) outermost items = refl
ended_last (frame ∷ next ∷ frames) outermost items = ended_last (next ∷ frames) outermost items

-- where lists are open, the line is that of the outermost one
pub ended_open : (frames : List Frame) (outermost : Frame) (items : List Sexp) → 0 < length frames → outermost ≡ get_or frames 0 outermost
    → ended (reverse frames) items ≡ fault outermost.line Unclosed
ended_open [] outermost items some first = absurd (omega (arith, some))
ended_open (frame ∷ frames) outermost items some first =
    ap (λ all. ended all items) (reverse_onto frames frame []) ∙ ended_last (reverse frames) frame items ∙ ap (λ (f : Frame). fault f.line Unclosed) (sym first)
