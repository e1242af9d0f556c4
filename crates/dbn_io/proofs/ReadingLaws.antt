-- Reading lines: where the loop over the pieces stands, and what follows for each answer.
use Rattle.std.proofs.Common.{◌≡◌, ℕ, ◌+◌, ◌<◌, Bool, true, false, not, ◌==◌, List, [], ◌∷◌, ◌++◌, length, take, Contains, Option, None, Some, Ok, Err, refl, sym, ap, subst, ◌∙◌, arith, append_assoc, append-nil, length-append}
use Rattle.std.specs.Io.KnownBytes.{Consumes, Keeps, IsAtEnd, prepend_known}
use Rattle.std.proofs.KnownBytes.{Consumes-nil, Consumes-trans, Consumes-kept}
use Rattle.std.proofs.Math.Seq.{take-append_seam}
use Rattle.std.proofs.lemmas.List.Elements.{All-append, All-nil}
use Rattle.dbn_model.specs.Lines as text
use Rattle.dbn_io.specs.Window.{Window, allowed, to_come, Unbroken, Moves}
use Rattle.dbn_io.specs.Reading.{Gives, Holds, Loses, Fills, given, is_end}
use Rattle.dbn_io.specs.LineSoFar.{Holds as HoldsLine, Moved}
use Rattle.dbn_io.specs.declared.lines.Line.{Line}
use Rattle.dbn_io.specs.declared.take.ReadStop.{ReadStop}
use Rattle.dbn_io.specs.declared.take.ReadStop.TheVariants.{Failed, Over, Memory}
use Rattle.dbn_model.proofs.LastPartLaws.{whole-one, part-none}

-- the first of the bytes that are held come first
part-first : (held part rest : List ℕ) (left : Option (List ℕ)) → held ≡ part ++ rest → Consumes (prepend_known held left) (prepend_known rest left) part
part-first held part rest None e = tt
part-first held part rest (Some bytes) e = ap (λ l. l ++ bytes) e ∙ append_assoc part rest bytes

pub held-first : (held : List ℕ) (left : Option (List ℕ)) → Consumes (prepend_known held left) left held
held-first held None = tt
held-first held (Some bytes) = refl

-- a piece that was read is held
piece-held : (none held : List ℕ) (left new : Option (List ℕ)) → none ≡ [] → Consumes left new held → Consumes (prepend_known none left) (prepend_known held new) []
piece-held none held None new e h = tt
piece-held none held (Some bytes) None e h = absurd h
piece-held none held (Some bytes) (Some rest) e h = ap (λ l. l ++ bytes) e ∙ h

-- where nothing is held, what is to come is what is left
none-held : (none bytes : List ℕ) (left new : Option (List ℕ)) → none ≡ [] → Consumes left new bytes → Consumes (prepend_known none left) new bytes
none-held none bytes None new e h = tt
none-held none bytes (Some all) None e h = absurd h
none-held none bytes (Some all) (Some rest) e h = ap (λ l. l ++ all) e ∙ h

none-held-keeps : (none : List ℕ) (left new : Option (List ℕ)) → none ≡ [] → Keeps left new → Keeps (prepend_known none left) new
none-held-keeps none None new e k = tt
none-held-keeps none (Some all) None e k = absurd k
none-held-keeps none (Some all) (Some rest) e k = k ∙ sym (ap (λ l. l ++ all) e)

none-to-come : (none other : List ℕ) (left new : Option (List ℕ)) → none ≡ [] → other ≡ [] → Keeps left new → Keeps (prepend_known none left) (prepend_known other new)
none-to-come none other None new e f k = tt
none-to-come none other (Some all) None e f k = absurd k
none-to-come none other (Some all) (Some rest) e f k = ap (λ l. l ++ rest) f ∙ k ∙ sym (ap (λ l. l ++ all) e)

end-to-come : (none : List ℕ) (new : Option (List ℕ)) → none ≡ [] → IsAtEnd new → IsAtEnd (prepend_known none new)
end-to-come none None e end = tt
end-to-come none (Some rest) e end = ap (λ l. l ++ rest) e ∙ end

-- a line feed in bytes ends a line in them
pub feed-breaks : (bytes : List ℕ) → Contains bytes 10 → Unbroken bytes → ⊥
feed-breaks bytes has unbroken = let test = rw has.2 at (unbroken has.0 10 has.1) in cc

-- the bytes of the next line that came so far are kept, and they were used of the bytes to come
pub record ReadSoFar (kept : List ℕ) (is_long : Bool) (before now : Window) (old left : Option (List ℕ)) : Type 0 where
  pub bytes : List ℕ
  pub unbroken : Unbroken bytes
  pub holds : HoldsLine kept is_long bytes
  pub used : Consumes (to_come before old) (to_come now left) bytes
  pub count : length bytes + allowed now ≡ allowed before

pub read-nothing : (kept : List ℕ) (is_long : Bool) (before : Window) (old : Option (List ℕ)) → HoldsLine kept is_long [] → ReadSoFar kept is_long before before old old
read-nothing kept is_long before old holds = record {
  bytes = [];
  unbroken = All-nil (λ byte. (byte == 10) ≡ false);
  holds = holds;
  used = Consumes-nil (to_come before old);
  count = omega arith;
}

-- all bytes that were held belong to the line, and the next piece was read
pub read-more : (kept : List ℕ) (is_long : Bool) (kept' : List ℕ) (is_long' : Bool) (before mid moved now : Window) (old left new : Option (List ℕ)) (part : List ℕ)
    → ReadSoFar kept is_long before mid old left → Moves false mid moved part → moved.unread ≡ mid.unread → Moved kept is_long kept' is_long' part
    → Fills (Ok true) moved.unread now left new → ReadSoFar kept' is_long' before now old new
read-more kept is_long kept' is_long' before mid moved now old left new part so_far moves unread more filled = record {
  bytes = so_far.bytes ++ part;
  unbroken = All-append (λ byte. (byte == 10) ≡ false) so_far.bytes part so_far.unbroken more.unbroken;
  holds = more.holds so_far.bytes so_far.holds;
  used = subst (λ (l : List ℕ). Consumes (to_come before old) (to_come now new) l) (append-nil (so_far.bytes ++ part))
      (Consumes-trans (to_come before old) (to_come moved left) (to_come now new) (so_far.bytes ++ part) []
      (Consumes-trans (to_come before old) (to_come mid left) (to_come moved left) so_far.bytes part so_far.used
      (part-first mid.held part moved.held left (moves.0 ∙ sym (ap (λ l. part ++ l) moves.1 ∙ append-nil part))))
      (piece-held moved.held now.held left new moves.1 filled.0));
  count = omega (arith, length-append so_far.bytes part, ap length moves.0, ap length moves.1, so_far.count, filled.2);
}

-- the line feed came
pub line-found : (kept : List ℕ) (is_long : Bool) (kept' : List ℕ) (is_long' : Bool) (before mid now : Window) (old left : Option (List ℕ)) (part : List ℕ) (line : Line)
    → ReadSoFar kept is_long before mid old left → Moves true mid now part → now.unread ≡ mid.unread → now.at_end ≡ false → Moved kept is_long kept' is_long' part
    → ((bytes : List ℕ) → HoldsLine kept' is_long' bytes → given line ≡ text.line_of bytes ∷ []) → is_end line ≡ false → Gives line before now old left
line-found kept is_long kept' is_long' before mid now old left part line so_far moves unread going more gives not_end =
    let bytes : List ℕ = so_far.bytes ++ part in
    let used : Consumes (to_come before old) (prepend_known (10 ∷ now.held) left) bytes =
    Consumes-trans (to_come before old) (to_come mid left) (prepend_known (10 ∷ now.held) left) so_far.bytes part so_far.used
    (part-first mid.held part (10 ∷ now.held) left moves) in
    let unbroken : Unbroken bytes = All-append (λ byte. (byte == 10) ≡ false) so_far.bytes part so_far.unbroken more.unbroken in
    let count : length (bytes ++ 10 ∷ []) + allowed now ≡ allowed before =
    omega (arith, length-append bytes (10 ∷ []), length-append so_far.bytes part, ap length moves, length-append part (10 ∷ now.held), so_far.count) in
    let lines : Holds false (bytes ++ 10 ∷ []) (given line) =
    (gives bytes (more.holds so_far.bytes so_far.holds) ∙ sym (whole-one bytes unbroken), part-none bytes unbroken) in
    record {
      own = bytes ++ 10 ∷ [];
      used = Consumes-trans (to_come before old) (prepend_known (10 ∷ now.held) left) (to_come now left) bytes (10 ∷ []) used
          (part-first (10 ∷ now.held) (10 ∷ []) now.held left refl);
      count = count;
      lines = subst (λ (end : Bool). Holds end (bytes ++ 10 ∷ []) (given line)) (sym going) lines;
      some = λ _. omega (arith, length-append bytes (10 ∷ []), count);
      end = λ is. absurd (cc (going, is));
      last = λ is. absurd (cc (not_end, is));
    }

-- the end came, behind a last line or none
pub line-last : (kept : List ℕ) (is_long : Bool) (kept' : List ℕ) (is_long' : Bool) (before mid moved now : Window) (old left new : Option (List ℕ)) (part : List ℕ) (line : Line)
    → ReadSoFar kept is_long before mid old left → Moves false mid moved part → moved.unread ≡ mid.unread → Moved kept is_long kept' is_long' part
    → Fills (Ok false) moved.unread now left new
    → ((bytes : List ℕ) → Unbroken bytes → HoldsLine kept' is_long' bytes → (given line ≡ text.lines bytes) × (is_end line ≡ false → 0 < length bytes))
    → Gives line before now old new
line-last kept is_long kept' is_long' before mid moved now old left new part line so_far moves unread more filled gives =
    let bytes : List ℕ = so_far.bytes ++ part in
    let used : Consumes (to_come before old) (to_come now new) bytes =
    Consumes-kept (to_come before old) (to_come moved left) (to_come now new) bytes
    (Consumes-trans (to_come before old) (to_come mid left) (to_come moved left) so_far.bytes part so_far.used
    (part-first mid.held part moved.held left (moves.0 ∙ sym (ap (λ l. part ++ l) moves.1 ∙ append-nil part))))
    (none-to-come moved.held now.held left new moves.1 filled.2 filled.0) in
    let unbroken : Unbroken bytes = All-append (λ byte. (byte == 10) ≡ false) so_far.bytes part so_far.unbroken more.unbroken in
    let says : (given line ≡ text.lines bytes) × (is_end line ≡ false → 0 < length bytes) = gives bytes unbroken (more.holds so_far.bytes so_far.holds) in
    let count : length bytes + allowed now ≡ allowed before =
    omega (arith, length-append so_far.bytes part, ap length moves.0, ap length filled.2, filled.3, so_far.count) in
    record {
      own = bytes;
      used = used;
      count = count;
      lines = subst (λ (end : Bool). Holds end bytes (given line)) (sym filled.4) says.0;
      some = λ not_end. omega (arith, says.1 not_end, count);
      end = λ _. (filled.2, filled.1);
      last = λ _. filled.4;
    }

-- an error came where the next piece was to be read
pub line-lost : (kept : List ℕ) (is_long : Bool) (kept' : List ℕ) (is_long' : Bool) (before mid moved now : Window) (old left new : Option (List ℕ)) (part : List ℕ) (why : ReadStop)
    → ReadSoFar kept is_long before mid old left → Moves false mid moved part → moved.unread ≡ mid.unread → Moved kept is_long kept' is_long' part
    → Fills (Err why) moved.unread now left new → Loses why before old new
line-lost kept is_long kept' is_long' before mid moved now old left new part why so_far moves unread more filled =
    let bytes : List ℕ = so_far.bytes ++ part in
    let used : Consumes (to_come before old) (to_come moved left) bytes =
    Consumes-trans (to_come before old) (to_come mid left) (to_come moved left) so_far.bytes part so_far.used
    (part-first mid.held part moved.held left (moves.0 ∙ sym (ap (λ l. part ++ l) moves.1 ∙ append-nil part))) in
    let unbroken : Unbroken bytes = All-append (λ byte. (byte == 10) ≡ false) so_far.bytes part so_far.unbroken more.unbroken in
    let count : length bytes + moved.unread ≡ allowed before =
    omega (arith, length-append so_far.bytes part, ap length moves.0, so_far.count) in
    lost before moved now old left new bytes why used unbroken moves.1 count filled
  where
    lost : (before moved now : Window) (old left new : Option (List ℕ)) (bytes : List ℕ) (why : ReadStop) → Consumes (to_come before old) (to_come moved left) bytes → Unbroken bytes → moved.held ≡ []
        → length bytes + moved.unread ≡ allowed before → Fills (Err why) moved.unread now left new → Loses why before old new
    lost before moved now old left new bytes Failed used unbroken none count filled =
        (bytes, Consumes-kept (to_come before old) (to_come moved left) new bytes used (none-held-keeps moved.held left new none filled), (unbroken, omega (arith, count)))
    lost before moved now old left new bytes Memory used unbroken none count filled =
        (bytes, Consumes-kept (to_come before old) (to_come moved left) new bytes used (none-held-keeps moved.held left new none filled), omega (arith, count))
    lost before moved now old left new bytes Over used unbroken none count filled =
        let all : length bytes ≡ allowed before = omega (arith, count, filled.0) in (
          bytes ++ filled.1.0 ∷ [],
          Consumes-trans (to_come before old) (to_come moved left) new bytes (filled.1.0 ∷ []) used (none-held moved.held (filled.1.0 ∷ []) left new none filled.1.1),
          (
            subst (λ (l : List ℕ). Unbroken l) (sym (ap (λ k. take k (bytes ++ filled.1.0 ∷ [])) (sym all) ∙ take-append_seam bytes (filled.1.0 ∷ []))) unbroken,
            omega (arith, length-append bytes (filled.1.0 ∷ []), all),
          ),
        )

-- memory was wanting for the bytes that are held
pub line-dropped : (kept : List ℕ) (is_long : Bool) (before mid : Window) (old left : Option (List ℕ)) → ReadSoFar kept is_long before mid old left → Loses Memory before old left
line-dropped kept is_long before mid old left so_far = (
  so_far.bytes ++ mid.held,
  Consumes-trans (to_come before old) (to_come mid left) left so_far.bytes mid.held so_far.used (held-first mid.held left),
  omega (arith, length-append so_far.bytes mid.held, so_far.count),
)

-- a test and its opposite
pub not-true : (test : Bool) → not test ≡ true → test ≡ false
not-true true e = sym e
not-true false e = refl

pub not-false : (test : Bool) → not test ≡ false → test ≡ true
not-false true e = refl
not-false false e = sym e
