-- Laws of the lines that end with a line feed, and of the bytes behind them.
use Rattle.std.proofs.Common.{◌≡◌, ℕ, ◌+◌, ◌-◌, ◌<◌, ◌≤◌, true, false, List, [], ◌∷◌, ◌++◌, length, take, cond, refl, sym, ap, ◌∙◌, arith, map, append-nil, length-append}
use Rattle.std.specs.Prelude.{◌==◌, nat_lt}
use Rattle.std.specs.List.{All, onto_first}
use Rattle.std.proofs.lemmas.List.{map-append}
use Rattle.std.proofs.lemmas.List.Splits.{slice_split_at, slice_split_none, length-slice_split}
use Rattle.std.proofs.lemmas.Bool.Decides.{nat_tests}
use Rattle.std.proofs.Math.Seq.{take-append-add}
use Rattle.dbn_model.specs.Lines.{parts, lines, line_of, whole_lines, last_part, all_but_last, last_of, due_lines, without_empty_end}
use Rattle.dbn_model.proofs.LineLaws.{kept}

some_part : (bytes : List ℕ) → 0 < length (parts bytes)
some_part bytes = omega (arith, length-slice_split (λ byte. byte == 10) bytes)

-- a first part before others

but_last-first : (part : List ℕ) (others : List (List ℕ)) → 0 < length others → all_but_last (part ∷ others) ≡ part ∷ all_but_last others
but_last-first part [] some = absurd (omega arith)
but_last-first part (next ∷ others) some = refl

last-first : (part : List ℕ) (others : List (List ℕ)) → 0 < length others → last_of (part ∷ others) ≡ last_of others
last-first part [] some = absurd (omega arith)
last-first part (next ∷ others) some = refl

-- parts before others

more : (xs ys : List (List ℕ)) → 0 < length ys → 0 < length (xs ++ ys)
more xs ys some = omega (arith, length-append xs ys)

but_last-append : (xs ys : List (List ℕ)) → 0 < length ys → all_but_last (xs ++ ys) ≡ xs ++ all_but_last ys
but_last-append [] ys some = refl
but_last-append (x ∷ xs) ys some = but_last-first x (xs ++ ys) (more xs ys some) ∙ ap (λ l. x ∷ l) (but_last-append xs ys some)

last-append : (xs ys : List (List ℕ)) → 0 < length ys → last_of (xs ++ ys) ≡ last_of ys
last-append [] ys some = refl
last-append (x ∷ xs) ys some = last-first x (xs ++ ys) (more xs ys some) ∙ last-append xs ys some

without-append : (xs ys : List (List ℕ)) → 0 < length ys → without_empty_end (xs ++ ys) ≡ xs ++ without_empty_end ys
without-append [] ys some = refl
without-append (x ∷ xs) ys some = kept x (xs ++ ys) (more xs ys some) ∙ ap (λ l. x ∷ l) (without-append xs ys some)

-- one more byte before the first part
onto-append : (byte : ℕ) (others : List (List ℕ)) (bytes : List ℕ) → 0 < length others → (byte == 10) ≡ false
    → onto_first byte (all_but_last others ++ parts (last_of others ++ bytes)) ≡ all_but_last (onto_first byte others) ++ parts (last_of (onto_first byte others) ++ bytes)
onto-append byte [] bytes some test = absurd (omega arith)
onto-append byte (part ∷ []) bytes some test = sym (ap (λ b. cond b ([] ∷ parts (part ++ bytes)) (onto_first byte (parts (part ++ bytes)))) test)
onto-append byte (part ∷ next ∷ others) bytes some test = refl

-- the parts of two texts, one after the other
pub parts-append : (xs ys : List ℕ) → parts (xs ++ ys) ≡ all_but_last (parts xs) ++ parts (last_part xs ++ ys)
parts-append [] ys = refl
parts-append (byte ∷ xs) ys =
    elim (byte == 10) as (λ test. (byte == 10) ≡ test
    → cond test ([] ∷ parts (xs ++ ys)) (onto_first byte (parts (xs ++ ys)))
    ≡ all_but_last (cond test ([] ∷ parts xs) (onto_first byte (parts xs))) ++ parts (last_of (cond test ([] ∷ parts xs) (onto_first byte (parts xs))) ++ ys)) [
      | true ↦ λ test.
          ap (λ l. [] ∷ l) (parts-append xs ys)
          ∙ sym (ap (λ l. l ++ parts (last_of ([] ∷ parts xs) ++ ys)) (but_last-first [] (parts xs) (some_part xs))
          ∙ ap (λ l. ([] ∷ all_but_last (parts xs)) ++ parts (l ++ ys)) (last-first [] (parts xs) (some_part xs)))
      | false ↦ λ test. ap (onto_first byte) (parts-append xs ys) ∙ onto-append byte (parts xs) ys (some_part xs) test
    ] refl

-- the whole lines of the first text come first, and then the lines of what is left of it and of the second
pub lines-append : (xs ys : List ℕ) → lines (xs ++ ys) ≡ whole_lines xs ++ lines (last_part xs ++ ys)
lines-append xs ys =
    ap (λ l. map line_of (without_empty_end l)) (parts-append xs ys)
    ∙ ap (map line_of) (without-append (all_but_last (parts xs)) (parts (last_part xs ++ ys)) (some_part (last_part xs ++ ys)))
    ∙ map-append line_of (all_but_last (parts xs)) (without_empty_end (parts (last_part xs ++ ys)))

pub whole-append : (xs ys : List ℕ) → whole_lines (xs ++ ys) ≡ whole_lines xs ++ whole_lines (last_part xs ++ ys)
whole-append xs ys =
    ap (λ l. map line_of (all_but_last l)) (parts-append xs ys)
    ∙ ap (map line_of) (but_last-append (all_but_last (parts xs)) (parts (last_part xs ++ ys)) (some_part (last_part xs ++ ys)))
    ∙ map-append line_of (all_but_last (parts xs)) (all_but_last (parts (last_part xs ++ ys)))

pub part-append : (xs ys : List ℕ) → last_part (xs ++ ys) ≡ last_part (last_part xs ++ ys)
part-append xs ys =
    ap last_of (parts-append xs ys)
    ∙ last-append (all_but_last (parts xs)) (parts (last_part xs ++ ys)) (some_part (last_part xs ++ ys))

-- the lines of a text are its whole lines, and one more where bytes stand behind them
pub lines-whole : (bytes : List ℕ) → lines bytes ≡ whole_lines bytes ++ lines (last_part bytes)
lines-whole bytes =
    ap lines (sym (append-nil bytes)) ∙ lines-append bytes []
    ∙ ap (λ l. whole_lines bytes ++ lines l) (append-nil (last_part bytes))

-- a text without a line feed has no whole line

pub whole-none : (raw : List ℕ) → All (λ byte. (byte == 10) ≡ false) raw → whole_lines raw ≡ []
whole-none raw unbroken = ap (λ l. map line_of (all_but_last l)) (slice_split_none (λ byte. byte == 10) raw unbroken)

pub part-all : (raw : List ℕ) → All (λ byte. (byte == 10) ≡ false) raw → last_part raw ≡ raw
part-all raw unbroken = ap last_of (slice_split_none (λ byte. byte == 10) raw unbroken)

-- a line and its line feed

pub whole-one : (raw : List ℕ) → All (λ byte. (byte == 10) ≡ false) raw → whole_lines (raw ++ 10 ∷ []) ≡ line_of raw ∷ []
whole-one raw unbroken = ap (λ l. map line_of (all_but_last l)) (slice_split_at (λ byte. byte == 10) raw 10 [] unbroken refl)

pub part-none : (raw : List ℕ) → All (λ byte. (byte == 10) ≡ false) raw → last_part (raw ++ 10 ∷ []) ≡ []
part-none raw unbroken = ap last_of (slice_split_at (λ byte. byte == 10) raw 10 [] unbroken refl)

-- The lines that are due.

pub due-all : (most : ℕ) (bytes : List ℕ) → length bytes ≤ most → due_lines most bytes ≡ lines bytes
due-all most bytes within =
    let test : nat_lt most (length bytes) ≡ false = grind (arith, nat_tests) in
    ap (λ b. cond b (whole_lines (take most bytes)) (lines bytes)) test

pub due-over : (most : ℕ) (bytes : List ℕ) → most < length bytes → due_lines most bytes ≡ whole_lines (take most bytes)
due-over most bytes over =
    let test : nat_lt most (length bytes) ≡ true = grind (arith, nat_tests) in
    ap (λ b. cond b (whole_lines (take most bytes)) (lines bytes)) test

-- bytes that end with a line feed: their lines, and then those that are due of the rest
pub due-part : (most : ℕ) (used rest : List ℕ) → last_part used ≡ [] → length used ≤ most
    → due_lines most (used ++ rest) ≡ whole_lines used ++ due_lines (most - length used) rest
due-part most used rest whole within =
    elim (nat_lt (most - length used) (length rest)) as (λ test. nat_lt (most - length used) (length rest) ≡ test
    → due_lines most (used ++ rest) ≡ whole_lines used ++ cond test (whole_lines (take (most - length used) rest)) (lines rest)) [
      | true ↦ λ test.
          let over : most < length (used ++ rest) = over_both most used rest within test in
          let most_is : length used + (most - length used) ≡ most = omega arith in
          due-over most (used ++ rest) over
          ∙ ap (λ n. whole_lines (take n (used ++ rest))) (sym most_is)
          ∙ ap whole_lines (take-append-add used rest (most - length used))
          ∙ whole-append used (take (most - length used) rest)
          ∙ ap (λ l. whole_lines used ++ whole_lines (l ++ take (most - length used) rest)) whole
      | false ↦ λ test.
          due-all most (used ++ rest) (within_both most used rest within test)
          ∙ lines-append used rest
          ∙ ap (λ l. whole_lines used ++ lines (l ++ rest)) whole
    ] refl
  where
    over_both : (most : ℕ) (used rest : List ℕ) → length used ≤ most → nat_lt (most - length used) (length rest) ≡ true → most < length (used ++ rest)
    over_both most used rest within test =
        let over : most - length used < length rest = grind (arith, nat_tests) in
        omega (arith, length-append used rest)

    within_both : (most : ℕ) (used rest : List ℕ) → length used ≤ most → nat_lt (most - length used) (length rest) ≡ false → length (used ++ rest) ≤ most
    within_both most used rest within test =
        let below : length rest ≤ most - length used = grind (arith, nat_tests) in
        omega (arith, length-append used rest)
