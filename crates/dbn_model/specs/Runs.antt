-- A run over a list of lines, for any machine: a step from a state and a line to a reply's text and the next state.
use Rattle.std.specs.Prelude.{◌≡◌, ℕ, suc, ◌-◌, List, [], ◌∷◌, ◌++◌, length, cond, nat_le}

pub record Step (State : Type 0) : Type 0 where
  pub reply : List ℕ
  pub next : State

-- the replies to all lines, one after the other
abbrev pub text_of : {State Line : Type 0} → (State → Line → Step State) → State → List Line → List ℕ
text_of step state [] = []
text_of step state (line ∷ lines) = (step state line).reply ++ text_of step (step state line).next lines

-- the state after all lines
abbrev pub state_after : {State Line : Type 0} → (State → Line → Step State) → State → List Line → State
state_after step state [] = state
state_after step state (line ∷ lines) = state_after step (step state line).next lines

-- the replies, one by one
abbrev pub replies : {State Line : Type 0} → (State → Line → Step State) → State → List Line → List (List ℕ)
replies step state [] = []
replies step state (line ∷ lines) = (step state line).reply ∷ replies step (step state line).next lines

-- how many replies lie whole within the first `count` bytes of them all, an empty one too
abbrev pub answered : List (List ℕ) → ℕ → ℕ
answered [] count = 0
answered (reply ∷ others) count = cond (nat_le (length reply) count) (suc (answered others (count - length reply))) 0

-- a line without a reply changes nothing
abbrev pub IsSilentWhereBlank : {State Line : Type 0} → (State → Line → Step State) → Type 0
IsSilentWhereBlank {State} {Line} step = (state : State) (line : Line) → (step state line).reply ≡ [] → (step state line).next ≡ state
