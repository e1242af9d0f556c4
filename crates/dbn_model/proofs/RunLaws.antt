-- Laws of runs: a run over a list of lines and then over more lines is the run over both.
use Rattle.std.proofs.Common.{◌≡◌, ℕ, zero, suc, ◌+◌, ◌-◌, ◌<◌, ◌≤◌, true, false, cond, List, [], ◌∷◌, ◌++◌, length, take, refl, sym, ap, ◌∙◌, arith, append_assoc, length-append}
use Rattle.std.specs.Prelude.{nat_le}
use Rattle.std.specs.List.{concat}
use Rattle.std.proofs.lemmas.Bool.{le-leb, lt-leb}
use Rattle.std.proofs.lemmas.Bool.Decides.{nat_tests}
use Rattle.std.proofs.Math.Seq.{take-append-add}
use Rattle.dbn_model.specs.Runs.{Step, text_of, state_after, replies, answered, IsSilentWhereBlank}

-- the text of a run over two lists is that of the first, and then that of the second from the state between
pub text-append : {State Line : Type 0} (step : State → Line → Step State) (state : State) (xs ys : List Line)
    → text_of step state (xs ++ ys) ≡ text_of step state xs ++ text_of step (state_after step state xs) ys
text-append step state [] ys = refl
text-append step state (x ∷ xs) ys =
    ap (λ l. (step state x).reply ++ l) (text-append step (step state x).next xs ys)
    ∙ sym (append_assoc (step state x).reply (text_of step (step state x).next xs) (text_of step (state_after step (step state x).next xs) ys))

-- so is the state
pub state-append : {State Line : Type 0} (step : State → Line → Step State) (state : State) (xs ys : List Line)
    → state_after step state (xs ++ ys) ≡ state_after step (state_after step state xs) ys
state-append step state [] ys = refl
state-append step state (x ∷ xs) ys = state-append step (step state x).next xs ys

-- the text of the first lines is a front of the text of all
pub text-front : {State Line : Type 0} (step : State → Line → Step State) (state : State) (xs ys : List Line)
    → (rest : List ℕ) × (text_of step state (xs ++ ys) ≡ text_of step state xs ++ rest)
text-front step state xs ys = (text_of step (state_after step state xs) ys, text-append step state xs ys)

-- The replies one by one.

pub text-concat : {State Line : Type 0} (step : State → Line → Step State) (state : State) (lines : List Line)
    → text_of step state lines ≡ concat (replies step state lines)
text-concat step state [] = refl
text-concat step state (line ∷ lines) = ap (λ l. (step state line).reply ++ l) (text-concat step (step state line).next lines)

pub length-replies : {State Line : Type 0} (step : State → Line → Step State) (state : State) (lines : List Line)
    → length (replies step state lines) ≡ length lines
length-replies step state [] = refl
length-replies step state (line ∷ lines) = ap suc (length-replies step (step state line).next lines)

-- the replies to the first lines
pub take-replies : {State Line : Type 0} (step : State → Line → Step State) (state : State) (n : ℕ) (lines : List Line)
    → take n (replies step state lines) ≡ replies step state (take n lines)
take-replies step state zero lines = refl
take-replies step state (suc n) [] = refl
take-replies step state (suc n) (line ∷ lines) = ap (λ l. (step state line).reply ∷ l) (take-replies step (step state line).next n lines)

-- the text of the first lines
pub text-take : {State Line : Type 0} (step : State → Line → Step State) (state : State) (n : ℕ) (lines : List Line)
    → text_of step state (take n lines) ≡ concat (take n (replies step state lines))
text-take step state n lines = text-concat step state (take n lines) ∙ ap concat (sym (take-replies step state n lines))

-- the state after the first lines, of which there are as many and more
pub state-take : {State Line : Type 0} (step : State → Line → Step State) (state : State) (lines more : List Line) (n : ℕ)
    → state_after step state (take (length lines + n) (lines ++ more)) ≡ state_after step (state_after step state lines) (take n more)
state-take step state lines more n = ap (state_after step state) (take-append-add lines more n) ∙ state-append step state lines (take n more)

-- How many lines are answered.

-- a first reply that lies whole within the bytes
pub answered-first : (reply : List ℕ) (others : List (List ℕ)) (count : ℕ) → length reply ≤ count
    → answered (reply ∷ others) count ≡ suc (answered others (count - length reply))
answered-first reply others count within = ap (λ b. cond b (suc (answered others (count - length reply))) 0) (le-leb (length reply) count within)

-- a first reply of which something is missing
pub answered-none : (reply : List ℕ) (others : List (List ℕ)) (count : ℕ) → count < length reply → answered (reply ∷ others) count ≡ 0
answered-none reply others count over = ap (λ b. cond b (suc (answered others (count - length reply))) 0) (lt-leb (length reply) count over)

-- no more than there are
pub answered-most : (all : List (List ℕ)) (count : ℕ) → answered all count ≤ length all
answered-most [] count = omega arith
answered-most (reply ∷ others) count =
    let rest : answered others (count - length reply) ≤ length others = answered-most others (count - length reply) in
    elim (nat_le (length reply) count) as (λ test. cond test (suc (answered others (count - length reply))) 0 ≤ suc (length others)) [
      | true ↦ omega arith
      | false ↦ omega arith
    ]

-- they lie within the bytes
pub answered-fits : (all : List (List ℕ)) (count : ℕ) → length (concat (take (answered all count) all)) ≤ count
answered-fits [] count = omega arith
answered-fits (reply ∷ others) count =
    let rest : length (concat (take (answered others (count - length reply)) others)) ≤ count - length reply = answered-fits others (count - length reply) in
    elim (nat_le (length reply) count) as (λ test. nat_le (length reply) count ≡ test
    → length (concat (take (cond test (suc (answered others (count - length reply))) 0) (reply ∷ others))) ≤ count) [
      | true ↦ λ test. first_fits reply (concat (take (answered others (count - length reply)) others)) count test rest
      | false ↦ λ test. omega arith
    ] refl
  where
    first_fits : (reply others : List ℕ) (count : ℕ) → nat_le (length reply) count ≡ true → length others ≤ count - length reply → length (reply ++ others) ≤ count
    first_fits reply others count test rest =
        let within : length reply ≤ count = grind (arith, nat_tests) in
        omega (arith, length-append reply others)

-- no greater number of replies does
pub answered-greatest : (all : List (List ℕ)) (count n : ℕ) → n ≤ length all → length (concat (take n all)) ≤ count → n ≤ answered all count
answered-greatest all count zero some fits = omega arith
answered-greatest [] count (suc n) some fits = absurd (omega arith)
answered-greatest (reply ∷ others) count (suc n) some fits =
    let size : length (reply ++ concat (take n others)) ≡ length reply + length (concat (take n others)) = length-append reply (concat (take n others)) in
    let within : length reply ≤ count = omega (arith, size) in
    let rest : n ≤ answered others (count - length reply) = answered-greatest others (count - length reply) n (omega arith) (omega (arith, size)) in
    let first : answered (reply ∷ others) count ≡ suc (answered others (count - length reply)) = answered-first reply others count within in
    omega arith

-- where all replies to the first lines lie within the bytes, the others are counted from there
pub answered-append : {State Line : Type 0} (step : State → Line → Step State) (state : State) (lines more : List Line) (count : ℕ)
    → answered (replies step state (lines ++ more)) (length (text_of step state lines) + count) ≡ length lines + answered (replies step (state_after step state lines) more) count
answered-append step state [] more count =
    let none : 0 + count ≡ count = omega arith in
    ap (answered (replies step state more)) none ∙ omega arith
answered-append step state (line ∷ lines) more count =
    let reply = (step state line).reply in
    let next = (step state line).next in
    let size : length (reply ++ text_of step next lines) ≡ length reply + length (text_of step next lines) = length-append reply (text_of step next lines) in
    let less : length (reply ++ text_of step next lines) + count - length reply ≡ length (text_of step next lines) + count = omega (arith, size) in
    answered-first reply (replies step next (lines ++ more)) (length (reply ++ text_of step next lines) + count) (omega (arith, size))
    ∙ ap (λ n. suc (answered (replies step next (lines ++ more)) n)) less
    ∙ ap suc (answered-append step next lines more count)
    ∙ omega arith

-- all lines are answered where all of the text is written
pub answered-all : {State Line : Type 0} (step : State → Line → Step State) (state : State) (lines : List Line)
    → answered (replies step state lines) (length (text_of step state lines)) ≡ length lines
answered-all step state [] = refl
answered-all step state (line ∷ lines) =
    let reply = (step state line).reply in
    let next = (step state line).next in
    let size : length (reply ++ text_of step next lines) ≡ length reply + length (text_of step next lines) = length-append reply (text_of step next lines) in
    let less : length (reply ++ text_of step next lines) - length reply ≡ length (text_of step next lines) = omega (arith, size) in
    answered-first reply (replies step next lines) (length (reply ++ text_of step next lines)) (omega (arith, size))
    ∙ ap (λ n. suc (answered (replies step next lines) n)) less
    ∙ ap suc (answered-all step next lines)

-- where nothing of the next reply that has bytes was written, the lines that are answered changed nothing
pub answered-blank : {State Line : Type 0} (step : State → Line → Step State) (state : State) (lines : List Line) → IsSilentWhereBlank step
    → state_after step state (take (answered (replies step state lines) 0) lines) ≡ state
answered-blank step state [] silent = refl
answered-blank {State = State} step state (line ∷ lines) silent = by_reply (step state line).reply refl (answered-blank step (step state line).next lines silent)
  where
    next : State
    next = (step state line).next

    by_reply : (reply : List ℕ) → (step state line).reply ≡ reply → state_after step next (take (answered (replies step next lines) 0) lines) ≡ next
        → state_after step state (take (answered (replies step state (line ∷ lines)) 0) (line ∷ lines)) ≡ state
    by_reply [] is rest =
        ap (λ l. state_after step state (take (answered (l ∷ replies step next lines) 0) (line ∷ lines))) is
        ∙ rest ∙ silent state line is
    by_reply (byte ∷ bytes) is rest =
        ap (λ l. state_after step state (take (answered (l ∷ replies step next lines) 0) (line ∷ lines))) is
        ∙ ap (λ n. state_after step state (take n (line ∷ lines))) (answered-none (byte ∷ bytes) (replies step next lines) 0 (omega arith))
