-- Reading on: from what one answer says to what all of them say.
use Rattle.std.proofs.Common.{◌≡◌, ℕ, ◌+◌, ◌-◌, ◌<◌, ◌≤◌, Bool, true, false, IsTrue, IsFalse, List, [], ◌++◌, length, take, Option, None, Some, Result, Ok, Err, refl, sym, ap, subst, ◌∙◌, arith, append-nil, length-append}
use Rattle.std.specs.Prelude.{IfOk, IfErr}
use Rattle.std.specs.Io.KnownBytes.{Consumes, Keeps, IsAtEnd, prepend_known}
use Rattle.std.proofs.KnownBytes.{Consumes-trans}
use Rattle.std.proofs.lemmas.List.{take-append-le}
use Rattle.std.proofs.Math.Seq.{take-append-add}
use Rattle.dbn_model.specs.Lines as text
use Rattle.dbn_model.proofs.LastPartLaws.{lines-append, whole-append, part-append, whole-none, due-all, due-over, due-part}
use Rattle.dbn_io.proofs.ReadingLaws.{held-first}
use Rattle.dbn_io.specs.Window.{Window, allowed, to_come}
use Rattle.dbn_io.specs.Reading.{Reading, Gives, Holds, Loses, MayLose, HasRead, HasReadAll, HasStopped, AreFirst, GivesNext, given}
use Rattle.dbn_io.specs.declared.lines.Line.{Line}
use Rattle.dbn_io.specs.declared.lines.Line.TheVariants.{Bytes, Long, End}
use Rattle.dbn_io.specs.declared.take.ReadStop.{ReadStop}
use Rattle.dbn_io.specs.declared.take.ReadStop.TheVariants.{Failed, Over, Memory}

-- the lines of bytes that end with a line feed, and those of the bytes behind them
holds-append : (end : Bool) (xs ys : List ℕ) (first more : List text.Line) → Holds false xs first → Holds end ys more → Holds end (xs ++ ys) (first ++ more)
holds-append false xs ys first more whole rest = (
  ap (λ l. l ++ more) whole.0 ∙ ap (λ l. text.whole_lines xs ++ l) rest.0
      ∙ ap (λ l. text.whole_lines xs ++ text.whole_lines (l ++ ys)) (sym whole.1) ∙ sym (whole-append xs ys),
  part-append xs ys ∙ ap (λ l. text.last_part (l ++ ys)) whole.1 ∙ rest.1,
)
holds-append true xs ys first more whole rest =
    ap (λ l. l ++ more) whole.0 ∙ ap (λ l. text.whole_lines xs ++ l) rest
    ∙ ap (λ l. text.whole_lines xs ++ text.lines (l ++ ys)) (sym whole.1) ∙ sym (lines-append xs ys)

-- all bytes are those that were used and those that are left
rest-of : (initial to : Option (List ℕ)) (used all : List ℕ) → Consumes initial to used → initial ≡ Some all → (rest : List ℕ) × (all ≡ used ++ rest) × (to ≡ Some rest)
rest-of None to used all h e = absurd (cc)
rest-of (Some bytes) None used all h e = absurd h
rest-of (Some bytes) (Some rest) used all h e = let same : bytes ≡ all = cc in (rest, sym same ∙ h, refl)

none-left : (left : Option (List ℕ)) (rest : List ℕ) → IsAtEnd left → left ≡ Some rest → rest ≡ []
none-left None rest end e = cc
none-left (Some bytes) rest end e = let same : bytes ≡ rest = cc in sym same ∙ end

-- nothing held is to come first
left-to-come : (held : List ℕ) (left : Option (List ℕ)) → held ≡ [] → Keeps (prepend_known held left) left
left-to-come held None e = tt
left-to-come held (Some bytes) e = sym (ap (λ l. l ++ bytes) e)

to-come-left : (held : List ℕ) (left : Option (List ℕ)) → held ≡ [] → prepend_known held left ≡ left
to-come-left held None e = refl
to-come-left held (Some bytes) e = ap (λ l. Some (l ++ bytes)) e

-- the lines of the bytes used are the first of those that are due
due-first : (end : Bool) (most : ℕ) (used rest : List ℕ) (lines : List text.Line) → Holds end used lines → (IsTrue end → rest ≡ []) → length used ≤ most
    → (more : List text.Line) × (text.due_lines most (used ++ rest) ≡ lines ++ more)
due-first false most used rest lines holds none within =
    (text.due_lines (most - length used) rest, due-part most used rest holds.1 within ∙ ap (λ l. l ++ text.due_lines (most - length used) rest) (sym holds.0))
due-first true most used rest lines holds none within =
    ([], ap (λ l. text.due_lines most (used ++ l)) (none refl) ∙ ap (text.due_lines most) (append-nil used) ∙ due-all most used within ∙ sym holds ∙ sym (append-nil lines))

first-of : (end : Bool) (most : ℕ) (initial to : Option (List ℕ)) (used : List ℕ) (lines : List text.Line) → Consumes initial to used → Holds end used lines → (IsTrue end → IsAtEnd to) → length used ≤ most
    → AreFirst most initial lines
first-of end most initial to used lines taken holds at_end within all is =
    let rest = rest-of initial to used all taken is in
    let first = due-first end most used rest.0 lines holds (λ e. none-left to rest.0 (at_end e) rest.2) within in
    (first.0, ap (text.due_lines most) rest.1 ∙ first.1)

at-end-to-come : (held : List ℕ) (left : Option (List ℕ)) → held ≡ [] → IsAtEnd left → IsAtEnd (prepend_known held left)
at-end-to-come held None e end = tt
at-end-to-come held (Some rest) e end = ap (λ l. l ++ rest) e ∙ end

-- nothing is read yet
pub read-none : (most : ℕ) (initial : Option (List ℕ)) (reader : Reading) → reader.window.held ≡ [] → reader.window.unread ≡ most → IsFalse reader.window.at_end → HasRead most initial initial reader []
read-none most initial reader none unread going =
    let taken : Consumes initial (to_come reader.window initial) [] = nothing initial (to_come reader.window initial) (to-come-left reader.window.held initial none) in
    record {
      used = [];
      taken = taken;
      count = omega (arith, ap length none, unread);
      holds = subst (λ (end : Bool). Holds end [] []) (sym going) (refl, refl);
      end = λ is. absurd (cc (going, is));
      first = first-of false most initial (to_come reader.window initial) [] [] taken (refl, refl) (λ is. absurd (cc is)) (omega arith);
    }
  where
    nothing : (old new : Option (List ℕ)) → new ≡ old → Consumes old new []
    nothing None new e = tt
    nothing (Some bytes) None e = absurd (cc)
    nothing (Some bytes) (Some rest) e = cc

-- one more answer was given
read-more : (most : ℕ) (initial old new : Option (List ℕ)) (reader reader' : Reading) (line : Line) (lines : List text.Line)
    → HasRead most initial old reader lines → IsFalse reader.window.at_end → Gives line reader.window reader'.window old new → HasRead most initial new reader' (lines ++ given line)
read-more most initial old new reader reader' line lines so_far going gives =
    let whole : Holds false so_far.used lines = subst (λ (end : Bool). Holds end so_far.used lines) going so_far.holds in
    let taken : Consumes initial (to_come reader'.window new) (so_far.used ++ gives.own) =
    Consumes-trans initial (to_come reader.window old) (to_come reader'.window new) so_far.used gives.own so_far.taken gives.used in
    let count : length (so_far.used ++ gives.own) + allowed reader'.window ≡ most = omega (arith, length-append so_far.used gives.own, so_far.count, gives.count) in
    let holds : Holds reader'.window.at_end (so_far.used ++ gives.own) (lines ++ given line) =
    holds-append reader'.window.at_end so_far.used gives.own lines (given line) whole gives.lines in
    record {
      used = so_far.used ++ gives.own;
      taken = taken;
      count = count;
      holds = holds;
      end = gives.end;
      first = first-of reader'.window.at_end most initial (to_come reader'.window new) (so_far.used ++ gives.own) (lines ++ given line) taken holds
          (λ e. at-end-to-come reader'.window.held new (gives.end e).0 (gives.end e).1) (omega (arith, count));
    }

-- the source is at its end
pub read-all : (most : ℕ) (initial left : Option (List ℕ)) (reader : Reading) (lines : List text.Line) → HasRead most initial left reader lines → IsTrue reader.window.at_end → HasReadAll most initial left lines
read-all most initial left reader lines so_far ended =
    let at_end : (reader.window.held ≡ []) × IsAtEnd left = so_far.end ended in
    let count : length so_far.used ≤ most = omega (arith, so_far.count) in
    let all_lines : lines ≡ text.lines so_far.used = subst (λ (end : Bool). Holds end so_far.used lines) ended so_far.holds in
    let taken : Consumes initial left so_far.used = subst (λ (to : Option (List ℕ)). Consumes initial to so_far.used) (to-come-left reader.window.held left at_end.0) so_far.taken in
    record {
      bytes = so_far.used;
      taken = taken;
      count = count;
      end = at_end.1;
      are_all = all_lines;
      due = λ all is.
          let rest = rest-of initial left so_far.used all taken is in
          let whole : all ≡ so_far.used = rest.1 ∙ ap (λ l. so_far.used ++ l) (none-left left rest.0 at_end.1 rest.2) ∙ append-nil so_far.used in
          (all_lines ∙ sym (due-all most so_far.used count) ∙ ap (text.due_lines most) (sym whole), omega (arith, ap length whole, count));
    }

-- a line was given, or the end
pub read-next : (most : ℕ) (initial old new : Option (List ℕ)) (reader reader' : Reading) (line : Line) (lines : List text.Line)
    → HasRead most initial old reader lines → IsFalse reader.window.at_end → Gives line reader.window reader'.window old new → GivesNext line most initial new reader' lines
read-next most initial old new reader reader' (Bytes bytes) lines so_far going gives = read-more most initial old new reader reader' (Bytes bytes) lines so_far going gives
read-next most initial old new reader reader' Long lines so_far going gives = read-more most initial old new reader reader' Long lines so_far going gives
read-next most initial old new reader reader' End lines so_far going gives =
    read-all most initial new reader' lines
    (subst (λ (l : List text.Line). HasRead most initial new reader' l) (append-nil lines) (read-more most initial old new reader reader' End lines so_far going gives))
    (gives.last refl)

-- an error came
pub read-stopped : (why : ReadStop) (most : ℕ) (initial old new : Option (List ℕ)) (reader : Reading) (lines : List text.Line)
    → HasRead most initial old reader lines → IsFalse reader.window.at_end → Loses why reader.window old new → HasStopped why most initial new lines
read-stopped why most initial old new reader lines so_far going loses =
    let whole : Holds false so_far.used lines = subst (λ (end : Bool). Holds end so_far.used lines) going so_far.holds in
    let taken : Consumes initial new (so_far.used ++ loses.0) =
    Consumes-trans initial (to_come reader.window old) new so_far.used loses.0 so_far.taken loses.1 in
    stop why loses.0 (so_far.used ++ loses.0) taken whole loses.2 refl
  where
    stop : (why : ReadStop) (lost bytes : List ℕ) → Consumes initial new bytes → Holds false so_far.used lines → MayLose why (allowed reader.window) lost → bytes ≡ so_far.used ++ lost → HasStopped why most initial new lines
    stop Failed lost bytes taken whole may is = record {
      bytes = bytes;
      taken = taken;
      count = omega (arith, so_far.count, ap length is, length-append so_far.used lost, may.1);
      up_to = whole.0 ∙ sym (append-nil (text.whole_lines so_far.used)) ∙ ap (λ l. text.whole_lines so_far.used ++ l) (sym (whole-none lost may.0))
          ∙ ap (λ l. text.whole_lines so_far.used ++ text.whole_lines (l ++ lost)) (sym whole.1) ∙ sym (whole-append so_far.used lost) ∙ ap text.whole_lines (sym is);
      first = so_far.first;
    }
    stop Memory lost bytes taken whole may is = record {
      bytes = bytes;
      taken = taken;
      count = omega (arith, so_far.count, ap length is, length-append so_far.used lost, may);
      up_to = tt;
      first = so_far.first;
    }
    stop Over lost bytes taken whole may is =
        let size : length bytes ≡ most + 1 = omega (arith, so_far.count, ap length is, length-append so_far.used lost, may.1) in
        let within : lines ≡ text.whole_lines (take most bytes) =
        whole.0 ∙ sym (append-nil (text.whole_lines so_far.used)) ∙ ap (λ l. text.whole_lines so_far.used ++ l) (sym (whole-none (take (allowed reader.window) lost) may.0))
        ∙ ap (λ l. text.whole_lines so_far.used ++ text.whole_lines (l ++ take (allowed reader.window) lost)) (sym whole.1)
        ∙ sym (whole-append so_far.used (take (allowed reader.window) lost))
        ∙ ap text.whole_lines (sym (take-append-add so_far.used lost (allowed reader.window)))
        ∙ ap (λ n. text.whole_lines (take n (so_far.used ++ lost))) so_far.count
        ∙ ap (λ l. text.whole_lines (take most l)) (sym is) in
        record {
          bytes = bytes;
          taken = taken;
          count = size;
          up_to = (
            within,
            λ all all_is.
                let rest = rest-of initial new bytes all taken all_is in
                let over : most < length all = omega (arith, size, ap length rest.1, length-append bytes rest.0) in (
                  within ∙ ap text.whole_lines (sym (take-append-le most bytes rest.0 (omega (arith, size))) ∙ ap (take most) (sym rest.1)) ∙ sym (due-over most all over),
                  over,
                ),
          );
          first = so_far.first;
        }

-- no more bytes than are allowed were taken so far
pub taken-so-far : (most : ℕ) (initial left : Option (List ℕ)) (reader : Reading) (lines : List text.Line) → HasRead most initial left reader lines
    → (bytes : List ℕ) × Consumes initial left bytes × (length bytes ≤ most)
taken-so-far most initial left reader lines so_far = (
  so_far.used ++ reader.window.held,
  Consumes-trans initial (to_come reader.window left) left so_far.used reader.window.held so_far.taken (held-first reader.window.held left),
  omega (arith, length-append so_far.used reader.window.held, so_far.count),
)

-- The same of a result.

pub given-next : (result : Result Line ReadStop) (most : ℕ) (initial old new : Option (List ℕ)) (reader reader' : Reading) (before now : Window) (lines : List text.Line)
    → reader.window ≡ before → reader'.window ≡ now → HasRead most initial old reader lines → IsFalse before.at_end
    → IfOk result (λ line. Gives line before now old new) → IfOk result (λ line. GivesNext line most initial new reader' lines)
given-next (Err why) most initial old new reader reader' before now lines e e' so_far going gives = tt
given-next (Ok line) most initial old new reader reader' before now lines e e' so_far going gives =
    read-next most initial old new reader reader' line lines so_far (ap (λ w. w.at_end) e ∙ going)
    (subst (λ (w : Window). Gives line w reader'.window old new) (sym e) (subst (λ (w : Window). Gives line before w old new) (sym e') gives))

pub stopped-next : (result : Result Line ReadStop) (most : ℕ) (initial old new : Option (List ℕ)) (reader : Reading) (before : Window) (lines : List text.Line)
    → reader.window ≡ before → HasRead most initial old reader lines → IsFalse before.at_end
    → IfErr result (λ why. Loses why before old new) → IfErr result (λ why. HasStopped why most initial new lines)
stopped-next (Ok line) most initial old new reader before lines e so_far going loses = tt
stopped-next (Err why) most initial old new reader before lines e so_far going loses =
    read-stopped why most initial old new reader lines so_far (ap (λ w. w.at_end) e ∙ going) (subst (λ (w : Window). Loses why w old new) (sym e) loses)
