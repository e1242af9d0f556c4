-- Reading one after the other, as a loop does, and the walk over the bytes of a line.
use Rattle.std.proofs.Common.{◌≡◌, ℕ, ◌-◌, ◌+◌, ◌≤◌, ◌<◌, true, false, List, [], ◌∷◌, ◌++◌, map, length, get_or, take, drop, Result, Ok, Err, refl, sym, ap, ◌∙◌, append_assoc, arith}
use Rattle.std.specs.List.{filter}
use Rattle.std.proofs.lemmas.List.{append-nil, drop_more, take_more, take_all, length-drop, get_or-drop}
use Rattle.std.proofs.Math.ListN.{drop_of_length-le}
use Rattle.dbn_command.specs.declared.fault.LineFault.{LineFault}
use Rattle.dbn_command.specs.declared.fault.LineFault.TheVariants.{Line, Unknown, Shape, Memory}
use Rattle.dbn_command.specs.declared.tokens.Place.{Place}
use Rattle.dbn_command.specs.Gives.{◌>>=◌, each, Fails}
use Rattle.dbn_command.specs.Tokens.{after, separates, has_bytes, tokens}
use Rattle.dbn_command.proofs.TokenLaws.{tokens_from, token_ends, token_goes_on, walk_ends}

-- what was read before, and what is still read
abbrev pub with_front : {A : Type 0} → List A → Result (List A) LineFault → Result (List A) LineFault
with_front front read = read >>= λ xs. Ok (front ++ xs)

pub nothing_before : {A : Type 0} (read : Result (List A) LineFault) → with_front [] read ≡ read
nothing_before (Ok xs) = refl
nothing_before (Err e) = refl

one_more : {A : Type 0} (front : List A) (x : A) (read : Result (List A) LineFault) → with_front front (read >>= λ xs. Ok (x ∷ xs)) ≡ with_front (front ++ x ∷ []) read
one_more front x (Ok xs) = ap Ok (sym (append_assoc front (x ∷ []) xs))
one_more front x (Err e) = refl

fault_before : {A B : Type 0} (e : LineFault) (read : Result A LineFault) (f : A → Result (List B) LineFault) (front : List B) (all : Result (List B) LineFault) → Fails e read → with_front front (read >>= f) ≡ all → Fails e all
fault_before Memory read f front all h so_far = tt
fault_before Line read f front all h so_far = sym so_far ∙ ap (λ r. with_front front (r >>= f)) h
fault_before (Unknown name) read f front all h so_far = sym so_far ∙ ap (λ r. with_front front (r >>= f)) h
fault_before Shape read f front all h so_far = sym so_far ∙ ap (λ r. with_front front (r >>= f)) h

module _ {A B : Type 0} (read : A → Result B LineFault) (all : Result (List B) LineFault) (front : List B) (xs : List A) (x : A) (ys : List A) (is : xs ≡ x ∷ ys) where
  pub taken_more : (y : B) → read x ≡ Ok y → with_front front (each read xs) ≡ all → with_front (front ++ y ∷ []) (each read ys) ≡ all
  unfolding each
  taken_more y h so_far =
      let step : with_front front (each read xs) ≡ with_front (front ++ y ∷ []) (each read ys) =
      ap (λ l. with_front front (each read l)) is
      ∙ ap (λ r. with_front front (r >>= λ first. each read ys >>= λ others. Ok (first ∷ others))) h
      ∙ one_more front y (each read ys) in
      sym step ∙ so_far

  pub taken_stops : (e : LineFault) → Fails e (read x) → with_front front (each read xs) ≡ all → Fails e all
  unfolding each
  taken_stops e h so_far =
      fault_before e (read x) (λ first. each read ys >>= λ others. Ok (first ∷ others)) front all h
      (ap (λ l. with_front front (each read l)) (sym is) ∙ so_far)

pub nothing_left : {A : Type 0} (xs : List A) → length xs ≡ 0 → xs ≡ []
nothing_left [] e = refl
nothing_left (x ∷ xs) e = absurd (omega (arith, e))

pub taken_all : {A B : Type 0} (read : A → Result B LineFault) (all : Result (List B) LineFault) (front : List B) (xs : List A) → xs ≡ [] → with_front front (each read xs) ≡ all → all ≡ Ok front
unfolding each
taken_all read all front xs none so_far = sym so_far ∙ ap (λ l. with_front front (each read l)) none ∙ ap Ok (append-nil front)

module _ {X A B : Type 0} (read : A → Result B LineFault) (view : X → A) (all : Result (List B) LineFault) (front : List B) (xs : List X) (i : ℕ) where
  seen : (d : X) → i < length xs → map view (drop i xs) ≡ view (get_or xs i d) ∷ map view (drop (i + 1) xs)
  seen d lt = ap (map view) (drop_more xs i d lt)

  pub each_more : (d : X) (y : B) → i < length xs → read (view (get_or xs i d)) ≡ Ok y
      → with_front front (each read (map view (drop i xs))) ≡ all → with_front (front ++ y ∷ []) (each read (map view (drop (i + 1) xs))) ≡ all
  each_more d y lt h = taken_more read all front (map view (drop i xs)) (view (get_or xs i d)) (map view (drop (i + 1) xs)) (seen d lt) y h

  pub each_stops : (e : LineFault) (d : X) → i < length xs → Fails e (read (view (get_or xs i d))) → with_front front (each read (map view (drop i xs))) ≡ all → Fails e all
  each_stops e d lt h = taken_stops read all front (map view (drop i xs)) (view (get_or xs i d)) (map view (drop (i + 1) xs)) (seen d lt) e h

  pub each_done : length xs ≤ i → with_front front (each read (map view (drop i xs))) ≡ all → all ≡ Ok front
  each_done le = taken_all read all front (map view (drop i xs)) (ap (map view) (drop_of_length-le xs le))

-- ---- the walk over a line: `found` are the tokens before, and the last part so far begins at `start`

abbrev pub so_far : List ℕ → ℕ → ℕ → List ℕ
so_far line start i = take (i - start) (drop start line)

abbrev pub Walks : List ℕ → List (List ℕ) → Place → ℕ → ℕ → Type 0
Walks line found place start i = (found ++ tokens_from place (so_far line start i) (drop i line) ≡ tokens line) × (start ≤ i)

module _ (line : List ℕ) (found : List (List ℕ)) (place : Place) (start i d : ℕ) (within : i < length line) (walks : Walks line found place start i) where
  abbrev byte : ℕ
  byte = get_or line i d

  abbrev front : List ℕ
  front = so_far line start i

  left : drop i line ≡ byte ∷ drop (i + 1) line
  left = drop_more line i d within

  -- a part ends before the byte
  pub part_ends : (more : List (List ℕ)) → separates place byte ≡ true → more ≡ found ++ filter has_bytes (front ∷ []) → Walks line more (after place byte) (i + 1) (i + 1)
  part_ends more e is =
      let nothing : (i + 1) - (i + 1) ≡ 0 = omega arith in
      let none : so_far line (i + 1) (i + 1) ≡ [] = ap (λ n. take n (drop (i + 1) line)) nothing in
      let later : List (List ℕ) = tokens_from (after place byte) [] (drop (i + 1) line) in (
        ap (λ w. more ++ tokens_from (after place byte) w (drop (i + 1) line)) none
            ∙ ap (λ l. l ++ later) is
            ∙ append_assoc found (filter has_bytes (front ∷ [])) later
            ∙ ap (λ l. found ++ l) (sym (token_ends place front byte (drop (i + 1) line) e))
            ∙ ap (λ l. found ++ tokens_from place front l) (sym left)
            ∙ walks.0,
        omega arith,
      )

  -- the byte belongs to the part
  pub part_goes_on : separates place byte ≡ false → Walks line found (after place byte) start (i + 1)
  part_goes_on e =
      let one : (i + 1) - start ≡ (i - start) + 1 = omega (arith, walks.1) in
      let there : start + (i - start) ≡ i = omega (arith, walks.1) in
      let same : get_or (drop start line) (i - start) d ≡ byte = get_or-drop start line (i - start) d ∙ ap (λ n. get_or line n d) there in
      let here : i - start < length (drop start line) = omega (arith, walks.1, length-drop start line) in
      let longer : so_far line start (i + 1) ≡ front ++ byte ∷ [] =
      ap (λ n. take n (drop start line)) one ∙ take_more (drop start line) (i - start) d here ∙ ap (λ b. front ++ b ∷ []) same in (
        ap (λ w. found ++ tokens_from (after place byte) w (drop (i + 1) line)) longer
            ∙ ap (λ l. found ++ l) (sym (token_goes_on place front byte (drop (i + 1) line) e))
            ∙ ap (λ l. found ++ tokens_from place front l) (sym left)
            ∙ walks.0,
        omega (arith, walks.1),
      )

-- the last part
pub walk_done : (line : List ℕ) (found more : List (List ℕ)) (place : Place) (start i : ℕ) → length line ≤ i → Walks line found place start i
    → more ≡ found ++ filter has_bytes (drop start line ∷ []) → more ≡ tokens line
walk_done line found more place start i past walks is =
    let whole : so_far line start i ≡ drop start line = take_all (i - start) (drop start line) (omega (arith, length-drop start line)) in
    is
    ∙ ap (λ w. found ++ filter has_bytes (w ∷ [])) (sym whole)
    ∙ ap (λ l. found ++ l) (sym (walk_ends place (so_far line start i)))
    ∙ ap (λ l. found ++ tokens_from place (so_far line start i) l) (sym (drop_of_length-le line past))
    ∙ walks.0
