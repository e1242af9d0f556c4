-- The records of a file, from gate to gate.
use Rattle.std.proofs.Common.{◌≡◌, ◌⊎◌, ℕ, zero, suc, ◌+◌, ◌<◌, ◌≤◌, ◌^◌, Bool, true, false, cond, ◌==◌, nat_lt, List, [], ◌∷◌, ◌++◌, length, take, drop, get_or, Option, Some, inl, inr, refl, sym, ap, subst, ◌∙◌, arith, length-append, length-drop, take-append-drop, append_assoc, eq-eqb, ⊎_elim}
use Rattle.std.proofs.lemmas.List.{take_at, drop_at, drop-drop, length-take, take-take, drop-take, drop_more, get_or-drop}
use Rattle.std.specs.Int.{w32, to_be_bytes, from_be_bytes}
use Rattle.std.proofs.lemmas.Nat.{from_be_bytes-to_be_bytes_4}
use Rattle.std.proofs.lemmas.Bool.{lt-ltb, ltb-true, ne_eqb, cond-true, cond-false, false≢true, cases_Bool}
use Rattle.dbn_disk.specs.Disk.{DiskState, LeavesOnly}
use Rattle.dbn_disk.proofs.Going.{leaves_more}
use Rattle.dbn_journal.specs.Records.{Found, RecordList, open_gate, body_in, sized_body_in, gate_in, from_gate, one_more_record, no_records, records_within, records_from, behind, IsShutAt, IsHeldAt, AgreeUpTo, IsBeforeOrAfter, with_record, StandsForEither}
use Rattle.dbn_journal.specs.Records.Found.{Shut, Held, Torn}
use Rattle.dbn_journal.specs.Walk.{records_by, next_place, place_after, front_bodies, bodies_before, prepended}
use Rattle.dbn_journal.specs.Heads.{gate_of, head_in, found_by}
use Rattle.dbn_journal.specs.declared.gate.Gate.{Gate}
use Rattle.dbn_journal.specs.declared.head.Head.{Head}
use Rattle.dbn_journal.specs.declared.head.Head.TheVariants.{Shut as ShutHead, Held as HeldHead, Torn as TornHead}
use Rattle.dbn_journal.proofs.Finds.{found_is}

pub front_of : (m n : ℕ) (y x : List ℕ) → m ≤ n → take n y ≡ take n x → take m y ≡ take m x
front_of m n y x le same = sym (take-take m n y le) ∙ ap (take m) same ∙ take-take m n x le

-- a part of two lists with the same front
pub middle_of : (at m : ℕ) (y x : List ℕ) → take (at + m) y ≡ take (at + m) x → take m (drop at y) ≡ take m (drop at x)
middle_of at m y x same = sym (drop-take at m y) ∙ ap (drop at) same ∙ drop-take at m x

from_gate-same : (g : Found) (place : ℕ) (f h : ℕ → RecordList) → ((body : List ℕ) → f (length body) ≡ h (length body)) → from_gate g place f ≡ from_gate g place h
from_gate-same Shut place f h same = refl
from_gate-same Torn place f h same = refl
from_gate-same (Held body) place f h same = ap (one_more_record body) (same body)

-- a bound above the number of bytes changes nothing
enough : (m n place : ℕ) (bytes : List ℕ) → length bytes ≤ m → length bytes ≤ n → records_within m place bytes ≡ records_within n place bytes
enough zero zero place bytes a b = refl
enough zero (suc n) place [] a b = refl
enough zero (suc n) place (x ∷ xs) a b = absurd (omega (arith, a))
enough (suc m) zero place [] a b = refl
enough (suc m) zero place (x ∷ xs) a b = absurd (omega (arith, b))
enough (suc m) (suc n) place bytes a b = from_gate-same (gate_in bytes) place (λ size. records_within m (place + 5 + size) (drop (5 + size) bytes)) (λ size. records_within n (place + 5 + size) (drop (5 + size) bytes))
    (λ body. enough m n (place + 5 + length body) (drop (5 + length body) bytes) (omega (arith, a, length-drop (5 + length body) bytes)) (omega (arith, b, length-drop (5 + length body) bytes)))

-- the bytes behind a record
behind_record : (place size : ℕ) (file : List ℕ) → drop (5 + size) (drop place file) ≡ drop (place + 5 + size) file
behind_record place size file = drop-drop (5 + size) place file ∙ ap (λ (k : ℕ). drop k file) (let e : place + (5 + size) ≡ place + 5 + size = omega arith in e)

-- the records from a gate on, by what stands there
pub from_here : (place : ℕ) (file : List ℕ) → records_from place file ≡ from_gate (gate_in (drop place file)) place (λ size. records_from (place + 5 + size) file)
from_here place file = enough (length file) (suc (length file)) place (drop place file) (omega (arith, length-drop place file)) (omega (arith, length-drop place file))
    ∙ from_gate-same (gate_in (drop place file)) place (λ size. records_within (length file) (place + 5 + size) (drop (5 + size) (drop place file))) (λ size. records_from (place + 5 + size) file)
    (λ body. ap (records_within (length file) (place + 5 + length body)) (behind_record place (length body) file))

by_found : (g : Found) (place : ℕ) (file : List ℕ) → from_gate g place (λ size. records_from (place + 5 + size) file) ≡ records_by place (gate_of place g) file
by_found Shut place file = refl
by_found (Held body) place file = refl
by_found Torn place file = refl

-- and by what a look at it gives
pub by_gate : (place : ℕ) (file : List ℕ) (gate : Gate) → gate ≡ gate_of place (gate_in (drop place file)) → records_from place file ≡ records_by place gate file
by_gate place file gate is = from_here place file ∙ by_found (gate_in (drop place file)) place file ∙ sym (ap (λ (g : Gate). records_by place g file) is)

some_same : (a b : ℕ) → Some a ≡ Some b → a ≡ b
some_same a b e = cc

next_held : (g : Found) (next : ℕ → Option ℕ) (end : ℕ) → next_place g next ≡ Some end → ((body : List ℕ) × (g ≡ Held body) × (next (length body) ≡ Some end))
next_held Shut next end e = cc
next_held Torn next end e = cc
next_held (Held body) next end e = (body, refl, e)

-- the records of a file are those before a place and those from there on
pub split : (records place end : ℕ) (file : List ℕ) → place_after records place file ≡ Some end → records_from place file ≡ prepended (bodies_before records place file) (records_from end file)
split zero place end file walked = ap (λ (p : ℕ). records_from p file) (some_same place end walked)
split (suc records) place end file walked =
    let first = next_held (gate_in (drop place file)) (λ size. place_after records (place + 5 + size) file) end walked in
    from_here place file
    ∙ ap (λ (g : Found). from_gate g place (λ size. records_from (place + 5 + size) file)) first.1
    ∙ ap (one_more_record first.0) (split records (place + 5 + length first.0) end file first.2)
    ∙ sym (ap (λ (g : Found). prepended (front_bodies g (λ size. bodies_before records (place + 5 + size) file)) (records_from end file)) first.1)

pub so_many : (records place end : ℕ) (file : List ℕ) → place_after records place file ≡ Some end → length (bodies_before records place file) ≡ records
so_many zero place end file walked = refl
so_many (suc records) place end file walked =
    let first = next_held (gate_in (drop place file)) (λ size. place_after records (place + 5 + size) file) end walked in
    ap (λ (g : Found). length (front_bodies g (λ size. bodies_before records (place + 5 + size) file))) first.1
    ∙ ap suc (so_many records (place + 5 + length first.0) end file first.2)

pub goes_on : (records place end : ℕ) (file : List ℕ) → place_after records place file ≡ Some end → place ≤ end
goes_on zero place end file walked = let e : place ≡ end = some_same place end walked in omega (arith, e)
goes_on (suc records) place end file walked =
    let first = next_held (gate_in (drop place file)) (λ size. place_after records (place + 5 + size) file) end walked in
    omega (arith, goes_on records (place + 5 + length first.0) end file first.2)

-- one record more
pub walked_on : (records place end : ℕ) (file body : List ℕ) → place_after records place file ≡ Some end → gate_in (drop end file) ≡ Held body → place_after (suc records) place file ≡ Some (end + 5 + length body)
walked_on zero place end file body walked here =
    let same : place ≡ end = some_same place end walked in
    ap (λ (p : ℕ). next_place (gate_in (drop p file)) (λ size. Some (p + 5 + size))) same ∙ ap (λ (g : Found). next_place g (λ size. Some (end + 5 + size))) here
walked_on (suc records) place end file body walked here =
    let first = next_held (gate_in (drop place file)) (λ size. place_after records (place + 5 + size) file) end walked in
    ap (λ (g : Found). next_place g (λ size. place_after (suc records) (place + 5 + size) file)) first.1
    ∙ walked_on records (place + 5 + length first.0) end file body first.2 here

to_end_by : (g : Found) (place : ℕ) (file : List ℕ) (next : ℕ → RecordList) → gate_in (drop place file) ≡ g
    → ((body : List ℕ) → place_after (length (next (length body)).bodies) (place + 5 + length body) file ≡ Some (next (length body)).end)
    → place_after (length (from_gate g place next).bodies) place file ≡ Some (from_gate g place next).end
to_end_by Shut place file next is more = refl
to_end_by Torn place file next is more = refl
to_end_by (Held body) place file next is more = ap (λ (g : Found). next_place g (λ size. place_after (length (next (length body)).bodies) (place + 5 + size) file)) is ∙ more body

to_end_within : (most place : ℕ) (file : List ℕ) → place_after (length (records_within most place (drop place file)).bodies) place file ≡ Some (records_within most place (drop place file)).end
to_end_within zero place file = refl
to_end_within (suc most) place file =
    to_end_by (gate_in (drop place file)) place file (λ size. records_within most (place + 5 + size) (drop (5 + size) (drop place file))) refl (λ body.
    subst (λ (l : List ℕ). place_after (length (records_within most (place + 5 + length body) l).bodies) (place + 5 + length body) file ≡ Some (records_within most (place + 5 + length body) l).end)
    (sym (behind_record place (length body) file)) (to_end_within most (place + 5 + length body) file))

-- behind all the records stands the gate that ends them
pub to_end : (place : ℕ) (file : List ℕ) → place_after (length (records_from place file).bodies) place file ≡ Some (records_from place file).end
to_end place file = to_end_within (length file) place file

held_same : (a b : List ℕ) → Held a ≡ Held b → a ≡ b
held_same a b e = cc

-- the size of a body that is held
body_held : (size : ℕ) (rest body : List ℕ) → body_in size rest ≡ Held body → (size < length rest) × (take size rest ≡ body) × (length body ≡ size)
body_held size rest body e = by_size (cases_Bool (nat_lt size (length rest)))
  where
    by_size : (nat_lt size (length rest) ≡ true) ⊎ (nat_lt size (length rest) ≡ false) → (size < length rest) × (take size rest ≡ body) × (length body ≡ size)
    by_size (inr over) = let torn : Torn ≡ Held body = sym (cond-false (nat_lt size (length rest)) (Held (take size rest)) Torn over) ∙ e in cc
    by_size (inl fits) =
        let long : size < length rest = ltb-true size (length rest) fits in
        let is : take size rest ≡ body = held_same (take size rest) body (sym (cond-true (nat_lt size (length rest)) (Held (take size rest)) Torn fits) ∙ e) in
        (long, is, ap length (sym is) ∙ omega (arith, length-take size rest, long))

body_whole : (size : ℕ) (rest body : List ℕ) → size < length rest → take size rest ≡ body → body_in size rest ≡ Held body
body_whole size rest body long is = cond-true (nat_lt size (length rest)) (Held (take size rest)) Torn (lt-ltb size (length rest) long) ∙ ap Held is

-- a record is the same in a file with the same bytes up to its next gate, and one byte more
by_head : (h : Head) (rest other body : List ℕ) → found_by h rest ≡ Held body → take (length body) other ≡ take (length body) rest → length body < length other → found_by h other ≡ Held body
by_head ShutHead rest other body e same long = cc
by_head TornHead rest other body e same long = cc
by_head (HeldHead size) rest other body e same long =
    let held = body_held size rest body e in
    body_whole size other body (omega (arith, held.2, long)) (ap (λ (n : ℕ). take n other) (sym held.2) ∙ same ∙ ap (λ (n : ℕ). take n rest) held.2 ∙ held.1)

pub gate_same : (x y body : List ℕ) → gate_in x ≡ Held body → take (5 + length body) y ≡ take (5 + length body) x → 5 + length body < length y → gate_in y ≡ Held body
gate_same x y body held same long =
    found_is y ∙ ap (λ (l : List ℕ). found_by (head_in l) (drop 5 y)) (front_of 5 (5 + length body) y x (omega arith) same)
    ∙ by_head (head_in (take 5 x)) (drop 5 x) (drop 5 y) body (sym (found_is x) ∙ held) (middle_of 5 (length body) y x same) (omega (arith, long, length-drop 5 y))

-- the records before a place are those of each file with the same bytes up to it, and a byte there
pub same_before : (records place end : ℕ) (file c : List ℕ) → place_after records place file ≡ Some end → take end c ≡ take end file → end < length c
    → (place_after records place c ≡ Some end) × (bodies_before records place c ≡ bodies_before records place file)
same_before zero place end file c walked same long = (walked, refl)
same_before (suc records) place end file c walked same long =
    let first = next_held (gate_in (drop place file)) (λ size. place_after records (place + 5 + size) file) end walked in
    let body : List ℕ = first.0 in
    let before : place + 5 + length body ≤ end = goes_on records (place + 5 + length body) end file first.2 in
    let here : gate_in (drop place c) ≡ Held body =
    gate_same (drop place file) (drop place c) body first.1 (middle_of place (5 + length body) c file (front_of (place + (5 + length body)) end c file (omega (arith, before)) same)) (omega (arith, before, long, length-drop place c)) in
    let more = same_before records (place + 5 + length body) end file c first.2 same long in (
      ap (λ (g : Found). next_place g (λ size. place_after records (place + 5 + size) c)) here ∙ more.0,
      ap (λ (g : Found). front_bodies g (λ size. bodies_before records (place + 5 + size) c)) here
          ∙ ap (λ (l : List (List ℕ)). body ∷ l) more.1
          ∙ sym (ap (λ (g : Found). front_bodies g (λ size. bodies_before records (place + 5 + size) file)) first.1),
    )

pub shut_here : (place : ℕ) (c : List ℕ) → IsShutAt place c → gate_in (drop place c) ≡ Shut
shut_here place c shut = ap gate_in (drop_more c place 0 shut.there) ∙ cond-false _ _ _ (ne_eqb (get_or c place 0) open_gate shut.shut)

-- where a shut gate is found, one stands
pub shut_there : (place : ℕ) (x : List ℕ) → gate_in (drop place x) ≡ Shut → IsShutAt place x
shut_there place x e = from_first (drop place x) refl e
  where
    in_body : (t : Bool) (body : List ℕ) → cond t (Held body) Torn ≡ Shut → ⊥
    in_body true body e = let held : Held body ≡ Shut = e in cc
    in_body false body e = let torn : Torn ≡ Shut = e in cc

    sized : (rest : List ℕ) → sized_body_in rest ≡ Shut → ⊥
    sized [] e = let torn : Torn ≡ Shut = e in cc
    sized (a ∷ []) e = let torn : Torn ≡ Shut = e in cc
    sized (a ∷ b ∷ []) e = let torn : Torn ≡ Shut = e in cc
    sized (a ∷ b ∷ c ∷ []) e = let torn : Torn ≡ Shut = e in cc
    sized (a ∷ b ∷ c ∷ d ∷ rest) e = in_body (nat_lt (from_be_bytes w32 (a ∷ b ∷ c ∷ d ∷ [])) (length rest)) (take (from_be_bytes w32 (a ∷ b ∷ c ∷ d ∷ [])) rest) e

    other : (t : Bool) (rest : List ℕ) → cond t (sized_body_in rest) Shut ≡ Shut → t ≡ true → ⊥
    other true rest e same = sized rest e
    other false rest e same = absurd (false≢true same)

    from_first : (l : List ℕ) → drop place x ≡ l → gate_in l ≡ Shut → IsShutAt place x
    from_first [] is e = let torn : Torn ≡ Shut = e in cc
    from_first (gate ∷ rest) is e =
        let here : get_or x place 0 ≡ gate = ap (λ (i : ℕ). get_or x i 0) (let z : place ≡ place + 0 = omega arith in z) ∙ sym (get_or-drop place x 0 0) ∙ ap (λ (l : List ℕ). get_or l 0 0) is in
        record {
          there = let long : length (drop place x) ≡ suc (length rest) = ap length is in omega (arith, long, length-drop place x);
          shut = λ same. other (gate == open_gate) rest e (eq-eqb gate open_gate (sym here ∙ same));
        }

pub none_from : (place : ℕ) (c : List ℕ) → IsShutAt place c → records_from place c ≡ no_records place false
none_from place c shut = from_here place c ∙ ap (λ (g : Found). from_gate g place (λ size. records_from (place + 5 + size) c)) (shut_here place c shut)

-- a record with a shut gate behind it
module _ (place : ℕ) (body c : List ℕ) (held : IsHeldAt place body c) where
  abbrev more : List ℕ
  more = drop (6 + length body) (drop place c)

  written_here : drop place c ≡ open_gate ∷ (to_be_bytes w32 (length body) ++ (body ++ 0 ∷ more))
  written_here =
      sym (take-append-drop (6 + length body) (drop place c)) ∙ ap (λ (l : List ℕ). l ++ more) held
      ∙ ap (λ (l : List ℕ). open_gate ∷ l) (append_assoc (to_be_bytes w32 (length body)) (body ++ 0 ∷ []) more ∙ ap (λ (l : List ℕ). to_be_bytes w32 (length body) ++ l) (append_assoc body (0 ∷ []) more))

  pub held_there : place + 5 + length body < length c
  held_there =
      let four : length (to_be_bytes w32 (length body)) ≡ 4 = refl in
      let long : length (take (6 + length body) (drop place c)) ≡ length (open_gate ∷ behind body) = ap length held in
      omega (arith, long, four, length-append (to_be_bytes w32 (length body)) (body ++ 0 ∷ []), length-append body (0 ∷ []), length-take (6 + length body) (drop place c), length-drop place c)

  pub held_here : length body < 2 ^ 32 → gate_in (drop place c) ≡ Held body
  held_here small =
      ap gate_in written_here
      ∙ ap (λ (size : ℕ). body_in size (body ++ 0 ∷ more)) (from_be_bytes-to_be_bytes_4 (length body) small)
      ∙ body_whole (length body) (body ++ 0 ∷ more) body (omega (arith, length-append body (0 ∷ more))) (take_at body (0 ∷ more) (length body) refl)

  shut_next : drop (place + 5 + length body) c ≡ 0 ∷ more
  shut_next =
      let four : length (to_be_bytes w32 (length body)) ≡ 4 = refl in
      let front : List ℕ = open_gate ∷ (to_be_bytes w32 (length body) ++ body) in
      sym (behind_record place (length body) c)
      ∙ ap (drop (5 + length body)) (written_here ∙ ap (λ (l : List ℕ). open_gate ∷ l) (sym (append_assoc (to_be_bytes w32 (length body)) body (0 ∷ more))))
      ∙ drop_at front (0 ∷ more) (5 + length body) (omega (arith, four, length-append (to_be_bytes w32 (length body)) body))

  pub shut_behind : IsShutAt (place + 5 + length body) c
  shut_behind = shut_there (place + 5 + length body) c (ap gate_in shut_next)

  pub one_from : length body < 2 ^ 32 → records_from place c ≡ record { bodies = body ∷ []; end = place + 5 + length body; torn = false }
  one_from small =
      from_here place c ∙ ap (λ (g : Found). from_gate g place (λ size. records_from (place + 5 + size) c)) (held_here small) ∙ ap (one_more_record body) (none_from (place + 5 + length body) c shut_behind)

pub prepended-bodies : (front : List (List ℕ)) (list : RecordList) → (prepended front list).bodies ≡ front ++ list.bodies
prepended-bodies [] list = refl
prepended-bodies (body ∷ front) list = ap (λ (l : List (List ℕ)). body ∷ l) (prepended-bodies front list)

pub prepended-torn : (front : List (List ℕ)) (list : RecordList) → (prepended front list).torn ≡ list.torn
prepended-torn [] list = refl
prepended-torn (body ∷ front) list = prepended-torn front list

pub prepended-end : (front : List (List ℕ)) (list : RecordList) → (prepended front list).end ≡ list.end
prepended-end [] list = refl
prepended-end (body ∷ front) list = prepended-end front list

prepended-more : (front : List (List ℕ)) (end : ℕ) (body : List ℕ) → prepended front (record { bodies = body ∷ []; end = end + 5 + length body; torn = false }) ≡ with_record body (prepended front (no_records end false))
prepended-more [] end body = refl
prepended-more (first ∷ front) end body = ap (one_more_record first) (prepended-more front end body)

-- where so many records and then a shut gate stand, there are no others
pub ends_here : (records place end : ℕ) (file : List ℕ) → place_after records place file ≡ Some end → IsShutAt end file → records_from place file ≡ prepended (bodies_before records place file) (no_records end false)
ends_here records place end file walked shut = split records place end file walked ∙ ap (prepended (bodies_before records place file)) (none_from end file shut)

-- a file with the same bytes up to the shut gate that ends the records, and there a shut gate or one record more
module _ (first end : ℕ) (b c body : List ℕ) (ends : (records_from first b).end ≡ end) (shut : IsShutAt end b) (same : take end c ≡ take end b) where
  abbrev old : RecordList
  old = records_from first b

  abbrev bodies : List (List ℕ)
  bodies = bodies_before (length old.bodies) first b

  old_is : old ≡ prepended bodies (no_records end false)
  old_is = ends_here (length old.bodies) first end b (to_end first b ∙ ap Some ends) shut

  there : end < length c → (place_after (length old.bodies) first c ≡ Some end) × (bodies_before (length old.bodies) first c ≡ bodies)
  there long = same_before (length old.bodies) first end b c (to_end first b ∙ ap Some ends) same long

  without : IsShutAt end c → records_from first c ≡ old
  without here =
      ends_here (length old.bodies) first end c (there here.there).0 here ∙ ap (λ (l : List (List ℕ)). prepended l (no_records end false)) (there here.there).1 ∙ sym old_is

  with_it : length body < 2 ^ 32 → IsHeldAt end body c → records_from first c ≡ with_record body old
  with_it small held =
      let on = there (omega (arith, held_there end body c held)) in
      split (length old.bodies) first end c on.0
      ∙ ap (λ (l : List (List ℕ)). prepended l (records_from end c)) on.1
      ∙ ap (prepended bodies) (one_from end body c held small)
      ∙ prepended-more bodies end body
      ∙ ap (with_record body) (sym old_is)

  pub stands_after : length body < 2 ^ 32 → IsShutAt end c ⊎ IsHeldAt end body c → StandsForEither first (records_from first b) body c
  stands_after small gate = ⊎_elim (λ here. inl (without here)) (λ held. inr (with_it small held)) gate

-- so is each file that an append may leave
pub leaves_records : (old new : DiskState) (end : ℕ) (body b : List ℕ) → LeavesOnly old new (IsBeforeOrAfter old.image end body) → length body < 2 ^ 32 → IsShutAt end b → AgreeUpTo end b old.image
    → (first : ℕ) → (records_from first b).end ≡ end → LeavesOnly old new (StandsForEither first (records_from first b) body)
leaves_records old new end body b work small shut agree first ends =
    leaves_more old new (StandsForEither first (records_from first b) body) (IsBeforeOrAfter old.image end body) work (λ c image.
    stands_after first end b c body ends shut (image.front ∙ agree image.from image.image) small image.gate)
