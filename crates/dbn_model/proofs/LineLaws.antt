-- Laws of lines: the first line of a text, and the lines of the rest.
use Rattle.std.proofs.Common.{◌≡◌, ℕ, suc, ◌+◌, ◌<◌, ◌≤◌, Bool, true, false, List, [], ◌∷◌, ◌++◌, length, get_or, take, drop, cond, Some, None, refl, sym, ap, subst, ◌∙◌, arith, map}
use Rattle.std.specs.Prelude.{position, ◌==◌, nat_lt, ◌≢◌}
use Rattle.std.specs.List.{All, slice_split}
use Rattle.std.proofs.lemmas.List.Splits.{slice_split_at, slice_split_none, length-slice_split}
use Rattle.std.proofs.lemmas.List.{get_or-take, length-take}
use Rattle.std.proofs.lemmas.List.Elements.{All-from_get_or}
use Rattle.std.proofs.lemmas.List.Quantifiers.{position-Some}
use Rattle.std.proofs.Math.Seq.{split_at}
use Rattle.std.proofs.lemmas.List.Sums.{fails_before_first}
use Rattle.std.proofs.lemmas.Grind.{common_steps}
use Rattle.std.proofs.lemmas.Bool.Decides.{nat_tests}
use Rattle.dbn_model.specs.Lines.{Line, Text, Long, lines, line_of, without_empty_end, without_return}

-- a part before others is kept
pub kept : (part : List ℕ) (parts : List (List ℕ)) → 0 < length parts → without_empty_end (part ∷ parts) ≡ part ∷ without_empty_end parts
kept part [] some = absurd (omega arith)
kept [] (next ∷ parts) some = refl
kept (byte ∷ part) (next ∷ parts) some = refl

-- the line before a line feed, in which none stands, and then the lines of what stands after it
pub lines-first : (raw rest : List ℕ) → All (λ byte. (byte == 10) ≡ false) raw → lines (raw ++ 10 ∷ rest) ≡ line_of raw ∷ lines rest
lines-first raw rest unbroken =
    let some : 0 < length (slice_split (λ byte. byte == 10) rest) = omega (arith, length-slice_split (λ byte. byte == 10) rest) in
    ap (λ l. map line_of (without_empty_end l)) (slice_split_at (λ byte. byte == 10) raw 10 rest unbroken refl)
    ∙ ap (map line_of) (kept raw (slice_split (λ byte. byte == 10) rest) some)

-- a text without a line feed is its one line
pub lines-only : (raw : List ℕ) → All (λ byte. (byte == 10) ≡ false) raw → 0 < length raw → lines raw ≡ line_of raw ∷ []
lines-only [] unbroken some = absurd (omega arith)
lines-only (byte ∷ bytes) unbroken some = ap (λ l. map line_of (without_empty_end l)) (slice_split_none (λ b. b == 10) (byte ∷ bytes) unbroken)

-- one carriage return is dropped where it stands last
pub without_return-last : (front : List ℕ) (last : ℕ) → without_return (front ++ last ∷ []) ≡ cond (last == 13) front (front ++ last ∷ [])
without_return-last [] last = refl
without_return-last (byte ∷ []) last = behind (last == 13)
  where
    behind : (test : Bool) → byte ∷ cond test [] (last ∷ []) ≡ cond test (byte ∷ []) (byte ∷ last ∷ [])
    behind true = refl
    behind false = refl
without_return-last (byte ∷ next ∷ front) last = ap (λ l. byte ∷ l) (without_return-last (next ∷ front) last) ∙ behind (last == 13)
  where
    behind : (test : Bool) → byte ∷ cond test (next ∷ front) (next ∷ front ++ last ∷ []) ≡ cond test (byte ∷ next ∷ front) (byte ∷ next ∷ front ++ last ∷ [])
    behind true = refl
    behind false = refl

-- the line of bytes that end with a carriage return
pub line_of-return : (raw front : List ℕ) (last : ℕ) → length raw ≤ 65536 → raw ≡ front ++ last ∷ [] → last ≡ 13 → Text front ≡ line_of raw
line_of-return raw front last short split is =
    let test : nat_lt 65536 (length raw) ≡ false = grind (arith, nat_tests) in
    let dropped : without_return raw ≡ front = ap without_return split ∙ without_return-last front last ∙ ap (λ n. cond (n == 13) front (front ++ n ∷ [])) is in
    sym (ap (λ b. cond b Long (Text (without_return raw))) test ∙ ap Text dropped)

-- the line of bytes that end with another byte
pub line_of-plain : (raw front : List ℕ) (last : ℕ) → length raw ≤ 65536 → raw ≡ front ++ last ∷ [] → last ≢ 13 → Text raw ≡ line_of raw
line_of-plain raw front last short split other =
    let test : nat_lt 65536 (length raw) ≡ false = grind (arith, nat_tests) in
    let is : (last == 13) ≡ false = grind (arith, nat_tests) in
    let whole : without_return raw ≡ raw = ap without_return split ∙ without_return-last front last ∙ ap (λ b. cond b front (front ++ last ∷ [])) is ∙ sym split in
    sym (ap (λ b. cond b Long (Text (without_return raw))) test ∙ ap Text whole)

-- a text in which no line feed is found has none
unbroken-none : (bytes : List ℕ) → position (λ byte. byte == 10) bytes ≡ None → All (λ byte. (byte == 10) ≡ false) bytes
unbroken-none bytes none k e inside = fails_before_first (λ byte. byte == 10) bytes k e (grind (arith, common_steps))

-- the first line of a text without a line feed, and the lines of the rest, of which there are none
pub first-whole : (bytes rest : List ℕ) (line : Line) → position (λ byte. byte == 10) bytes ≡ None → 0 < length bytes → length rest ≡ 0 → line ≡ line_of bytes → lines bytes ≡ line ∷ lines rest
first-whole bytes [] line none some empty is = lines-only bytes (unbroken-none bytes none) some ∙ ap (λ l. l ∷ []) (sym is)
first-whole bytes (byte ∷ rest) line none some empty is = absurd (omega arith)

-- no line feed stands before the one that is found first
unbroken-before : (bytes : List ℕ) (end : ℕ) → position (λ byte. byte == 10) bytes ≡ Some end → All (λ byte. (byte == 10) ≡ false) (take end bytes)
unbroken-before bytes end found =
    let at = position-Some (λ byte. byte == 10) bytes end 0 found in
    All-from_get_or (λ byte. (byte == 10) ≡ false) (take end bytes) 0
    (λ i inside. let below : i < end = omega (arith, inside, length-take end bytes) in subst (λ byte. (byte == 10) ≡ false) (sym (get_or-take end bytes i 0 below)) (at.2 i below))

-- a text around the line feed that is found first
around : (bytes : List ℕ) (end : ℕ) → position (λ byte. byte == 10) bytes ≡ Some end → bytes ≡ take end bytes ++ 10 ∷ drop (end + 1) bytes
around bytes end found =
    let at = position-Some (λ byte. byte == 10) bytes end 0 found in
    let feed : get_or bytes end 0 ≡ 10 = grind (arith, nat_tests, at.1) in
    let next : suc end ≡ end + 1 = omega arith in
    split_at bytes end 0 at.0 ∙ ap (λ byte. take end bytes ++ byte ∷ drop (suc end) bytes) feed ∙ ap (λ n. take end bytes ++ 10 ∷ drop n bytes) next

-- the first line of a text, and the lines of what stands after its line feed
pub first-split : (bytes front rest : List ℕ) (end : ℕ) (line : Line) → position (λ byte. byte == 10) bytes ≡ Some end → front ≡ take end bytes → rest ≡ drop (end + 1) bytes → line ≡ line_of front → lines bytes ≡ line ∷ lines rest
first-split bytes front rest end line found is_front is_rest is =
    ap lines (around bytes end found) ∙ lines-first (take end bytes) (drop (end + 1) bytes) (unbroken-before bytes end found)
    ∙ ap (λ l. line_of l ∷ lines (drop (end + 1) bytes)) (sym is_front) ∙ ap (λ l. line_of front ∷ lines l) (sym is_rest) ∙ ap (λ l. l ∷ lines rest) (sym is)
