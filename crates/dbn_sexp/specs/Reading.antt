-- The S-expressions of a text, or its first fault.
use Rattle.std.specs.Prelude.{ℕ, if◌then◌else◌, nat_le, List, [], ◌∷◌, ◌++◌, length, Option, Some, Result, Ok, Err}
use Rattle.std.specs.Option.{option_map, option_map_or}
use Rattle.dbn_value.specs.Text.{is_name}
use Rattle.dbn_value.specs.Spelling.{value_of_bytes}
use Rattle.dbn_sexp.specs.declared.fault.SexpKind.{SexpKind}
use Rattle.dbn_sexp.specs.declared.fault.SexpKind.TheVariants.{Unclosed, Unopened, BadToken, Deep}
use Rattle.dbn_sexp.specs.declared.reading.Frame.{Frame}
use Rattle.dbn_sexp.specs.declared.sexp.Sexp.{Sexp}
use Rattle.dbn_sexp.specs.declared.sexp.Item.{Item}
use Rattle.dbn_sexp.specs.declared.sexp.Item.TheVariants as item
use Rattle.dbn_sexp.specs.Tokens.{Kind, Open, Close, Atom, Token, tokens}

pub record Fault : Type 0 where
  pub line : ℕ
  pub kind : SexpKind

abbrev pub fault : {A : Type 0} → ℕ → SexpKind → Result A Fault
fault line kind = Err (record { line = line; kind = kind })

abbrev pub constant_of : List ℕ → Option Item
constant_of bytes = option_map item.Const (value_of_bytes bytes)

-- a word or a text is a name or an operator, or the spelling of a value
unfoldable pub item_of : List ℕ → Option Item
item_of bytes = if is_name bytes then Some (item.Name bytes) else constant_of bytes

-- the lists that are open, the innermost first, and the items so far of the innermost one
pub record State : Type 0 where
  pub open_lists : List Frame
  pub items : List Sexp

abbrev pub sexp : ℕ → Item → Sexp
sexp line one = record { line = line; item = one }

abbrev pub with_item : Sexp → State → State
with_item one state = record { open_lists = state.open_lists; items = state.items ++ one ∷ [] }

-- the innermost open list is closed, and becomes an item of the list around it
abbrev pub closed : ℕ → List Frame → List Sexp → Result State Fault
closed line [] items = fault line Unopened
closed line (frame ∷ frames) items = Ok (record { open_lists = frames; items = frame.before ++ sexp frame.line (item.List items) ∷ [] })

abbrev pub opened : ℕ → ℕ → State → Result State Fault
opened depth line state =
    if nat_le depth (length state.open_lists) then fault line Deep
    else Ok (record { open_lists = record { line = line; before = state.items } ∷ state.open_lists; items = [] })

-- a name or a constant is one more item
abbrev pub added : ℕ → List ℕ → State → Result State Fault
added line bytes state = option_map_or (λ one. Ok (with_item (sexp line one) state)) (item_of bytes) (fault line BadToken)

-- one token of a line
abbrev pub step : ℕ → ℕ → Kind → State → Result State Fault
step depth line Open state = opened depth line state
step depth line Close state = closed line state.open_lists state.items
step depth line (Atom bytes) state = added line bytes state

infixl 10 ◌>>=◌
abbrev pub ◌>>=◌ : {A B : Type 0} → Result A Fault → (A → Result B Fault) → Result B Fault
(Ok x) >>= f = f x
(Err e) >>= f = Err e

-- all tokens, one after the other, up to the first fault
unfoldable pub after : ℕ → List Token → State → Result State Fault
after depth [] state = Ok state
after depth (token ∷ more) state = step depth token.line token.kind state >>= after depth more

-- at the end no list may be open; else the line is that of the outermost one
abbrev pub ended : List Frame → List Sexp → Result (List Sexp) Fault
ended [] items = Ok items
ended (frame ∷ []) items = fault frame.line Unclosed
ended (frame ∷ outer ∷ frames) items = ended (outer ∷ frames) items

-- the list that bytes from a line on are read as, in a state, where no `(` may stand inside `depth` open lists
unfoldable pub reads_from : ℕ → ℕ → List ℕ → State → Result (List Sexp) Fault
reads_from depth line bytes state = after depth (tokens line 0 bytes) state >>= λ last. ended last.open_lists last.items

abbrev pub start : State
start = record { open_lists = []; items = [] }

-- the list that a text is read as, or its first fault
abbrev pub reads : ℕ → List ℕ → Result (List Sexp) Fault
reads depth bytes = reads_from depth 1 bytes start
