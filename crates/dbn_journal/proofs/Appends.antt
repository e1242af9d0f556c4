-- What a crash leaves in each of the two steps of an append.
use Rattle.std.proofs.Common.{◌≡◌, ◌≢◌, ◌⊎◌, ℕ, zero, suc, ◌+◌, ◌-◌, ◌<◌, ◌≤◌, List, [], ◌∷◌, ◌++◌, length, take, drop, get_or, Option, Some, inl, inr, refl, sym, ap, subst, ◌∙◌, arith, length-append, length-drop}
use Rattle.std.specs.Option.{option_map}
use Rattle.std.specs.Int.{w32, to_be_bytes}
use Rattle.std.proofs.lemmas.List.{ext_get_or, length-take, get_or-take, get_or-drop}
use Rattle.std.proofs.lemmas.Bool.{cases_lt, cases_eq, cases_order}
use Rattle.dbn_disk.specs.Disk.{DiskState, Torn, Only, LeavesOnly, IsSound, written}
use Rattle.dbn_disk.specs.SoundLaws.{length-written, written_outside, written_inside}
use Rattle.dbn_disk.proofs.Going.{started, leaves_on, leaves_more}
use Rattle.dbn_journal.specs.Records.{open_gate, behind, appended, IsShutAt, IsHeldAt, IsBeforeOrAfter}

-- two lists with the same first bytes
pub take_same : (n : ℕ) (xs ys : List ℕ) → n ≤ length xs → n ≤ length ys → ((i : ℕ) → i < n → get_or xs i 0 ≡ get_or ys i 0) → take n xs ≡ take n ys
take_same n xs ys long long' same =
    ext_get_or 0 (take n xs) (take n ys) (omega (arith, length-take n xs, length-take n ys)) (λ i under.
    let within : i < n = omega (arith, length-take n xs) in
    get_or-take n xs i 0 within ∙ same i within ∙ sym (get_or-take n ys i 0 within))

-- a torn write behind a place leaves what stands up to it
pub front_stays : (place at n : ℕ) (old new : List ℕ) → place ≤ at → place ≤ length old → Torn at n old new → take place new ≡ take place old
front_stays place at n old new before long torn =
    take_same place new old (omega (arith, torn.no_shorter)) long (λ i under. torn.same i (omega arith) (inl (omega arith)))

pub shut_stays : (place at n : ℕ) (old new : List ℕ) → place < at → Torn at n old new → IsShutAt place old → IsShutAt place new
shut_stays place at n old new before torn shut = record {
  there = omega (arith, shut.there, torn.no_shorter);
  shut = λ e. shut.shut (sym (torn.same place shut.there (inl before)) ∙ e);
}

pub length-behind : (body : List ℕ) → length (behind body) ≡ 5 + length body
length-behind body =
    let four : length (to_be_bytes w32 (length body)) ≡ 4 = refl in
    omega (arith, four, length-append (to_be_bytes w32 (length body)) (body ++ 0 ∷ []), length-append body (0 ∷ []))

-- a record whose bytes stand at a place
pub held_at : (place : ℕ) (body c : List ℕ) → place + 6 + length body ≤ length c → get_or c place 0 ≡ open_gate → ((j : ℕ) → j < length (behind body) → get_or c (place + 1 + j) 0 ≡ get_or (behind body) j 0) → IsHeldAt place body c
held_at place body c long gate rest =
    ext_get_or 0 (take (6 + length body) (drop place c)) (open_gate ∷ behind body) (omega (arith, length-take (6 + length body) (drop place c), length-drop place c, length-behind body)) (λ i under.
    let within : i < 6 + length body = omega (arith, length-take (6 + length body) (drop place c)) in
    get_or-take (6 + length body) (drop place c) i 0 within ∙ get_or-drop place c i 0 ∙ by_index i within)
  where
    by_index : (i : ℕ) → i < 6 + length body → get_or c (place + i) 0 ≡ get_or (open_gate ∷ behind body) i 0
    by_index zero within = ap (λ (k : ℕ). get_or c k 0) (let e : place + 0 ≡ place = omega arith in e) ∙ gate
    by_index (suc j) within = ap (λ (k : ℕ). get_or c k 0) (let e : place + suc j ≡ place + 1 + j = omega arith in e) ∙ rest j (omega (arith, length-behind body))

-- the file with the length, the body and a shut gate behind the gate, which is still shut
abbrev pub staged : ℕ → List ℕ → List ℕ → List ℕ
staged place body b = written (place + 1) (behind body) b

-- a torn write of the gate leaves it shut, or the record stands there whole
pub gate_torn : (place : ℕ) (body b c : List ℕ) → Torn place 1 (staged place body b) c → IsShutAt place c ⊎ IsHeldAt place body c
gate_torn place body b c torn = by_gate (cases_eq (get_or c place 0) open_gate)
  where
    by_gate : (get_or c place 0 ≡ open_gate) ⊎ (get_or c place 0 ≢ open_gate) → IsShutAt place c ⊎ IsHeldAt place body c
    by_gate (inr other) = inl (record { there = omega (arith, torn.no_shorter, length-written (place + 1) (behind body) b); shut = other })
    by_gate (inl is_open) =
        let long = length-written (place + 1) (behind body) b in
        inr (held_at place body c (omega (arith, torn.no_shorter, long, length-behind body)) is_open (λ j under.
        torn.same (place + 1 + j) (omega (arith, long)) (inr (omega arith)) ∙ written_inside (place + 1) (behind body) b j under))

-- two writes are one
pub opened_staged : (place : ℕ) (body b : List ℕ) → written place (open_gate ∷ []) (staged place body b) ≡ appended place body b
opened_staged place body b =
    ext_get_or 0 _ _ (omega (arith, length-written place (open_gate ∷ []) (staged place body b), length-written (place + 1) (behind body) b, length-written place (open_gate ∷ behind body) b))
    (λ i under. by_order i (cases_order i place))
  where
    behind_gate : (i : ℕ) → place < i → get_or (written (place + 1) (behind body) b) i 0 ≡ get_or (appended place body b) i 0
    behind_gate i after = by_place (cases_lt (i - place - 1) (length (behind body)))
      where
        j : ℕ
        j = i - place - 1

        by_place : (i - place - 1 < length (behind body)) ⊎ (length (behind body) ≤ i - place - 1) → get_or (written (place + 1) (behind body) b) i 0 ≡ get_or (appended place body b) i 0
        by_place (inl inside) =
            ap (λ (k : ℕ). get_or (written (place + 1) (behind body) b) k 0) (let e : i ≡ place + 1 + (i - place - 1) = omega arith in e)
            ∙ written_inside (place + 1) (behind body) b (i - place - 1) inside
            ∙ sym (written_inside place (open_gate ∷ behind body) b (suc (i - place - 1)) (omega arith))
            ∙ ap (λ (k : ℕ). get_or (appended place body b) k 0) (let e : place + suc (i - place - 1) ≡ i = omega arith in e)
        by_place (inr outside) = written_outside (place + 1) (behind body) b i (inr (omega arith)) ∙ sym (written_outside place (open_gate ∷ behind body) b i (inr (omega arith)))

    by_order : (i : ℕ) → (i ≡ place) ⊎ ((i < place) ⊎ (place < i)) → get_or (written place (open_gate ∷ []) (staged place body b)) i 0 ≡ get_or (appended place body b) i 0
    by_order i (inl same) =
        ap (λ (k : ℕ). get_or (written place (open_gate ∷ []) (staged place body b)) k 0) (let e : i ≡ place + 0 = omega arith in e)
        ∙ written_inside place (open_gate ∷ []) (staged place body b) 0 (omega arith)
        ∙ sym (written_inside place (open_gate ∷ behind body) b 0 (omega arith))
        ∙ ap (λ (k : ℕ). get_or (appended place body b) k 0) (let e : place + 0 ≡ i = omega arith in e)
    by_order i (inr (inl before)) =
        written_outside place (open_gate ∷ []) (staged place body b) i (inl before)
        ∙ written_outside (place + 1) (behind body) b i (inl (omega arith))
        ∙ sym (written_outside place (open_gate ∷ behind body) b i (inl before))
    by_order i (inr (inr after)) = written_outside place (open_gate ∷ []) (staged place body b) i (inr (omega arith)) ∙ behind_gate i after

pub staged_content : (old mid : Option (List ℕ)) (place : ℕ) (rest body b : List ℕ) → mid ≡ option_map (written (place + 1) rest) old → old ≡ Some b → rest ≡ behind body → mid ≡ Some (staged place body b)
staged_content old mid place rest body b value told is = value ∙ ap (option_map (written (place + 1) rest)) told ∙ ap (λ (l : List ℕ). Some (written (place + 1) l b)) is

pub opened_content : (mid new : Option (List ℕ)) (place : ℕ) (body b : List ℕ) → new ≡ option_map (written place (open_gate ∷ [])) mid → mid ≡ Some (staged place body b) → new ≡ Some (appended place body b)
opened_content mid new place body b value told = value ∙ ap (option_map (written place (open_gate ∷ []))) told ∙ ap Some (opened_staged place body b)

-- the calls of an append
module _ (old mid new : DiskState) (place : ℕ) (body b : List ℕ) (sound : IsSound old) (told : old.content ≡ Some b) (shut : (c : List ℕ) → old.image c → IsShutAt place c) where
  pub at_start : LeavesOnly old old (IsBeforeOrAfter old.image place body)
  at_start = started old (IsBeforeOrAfter old.image place body) sound (λ c image. record { from = c; image = image; front = refl; gate = inl (shut c image) })

  pub with_staged : (n : ℕ) → LeavesOnly old mid (λ c. ((d : List ℕ) × old.image d × Torn (place + 1) n d c)) → LeavesOnly old mid (IsBeforeOrAfter old.image place body)
  with_staged n work =
      leaves_more old mid (IsBeforeOrAfter old.image place body) (λ c. ((d : List ℕ) × old.image d × Torn (place + 1) n d c)) work (λ c torn. record {
        from = torn.0;
        image = torn.1;
        front = front_stays place (place + 1) n torn.0 c (omega arith) (omega (arith, (shut torn.0 torn.1).there)) torn.2;
        gate = inl (shut_stays place (place + 1) n torn.0 c (omega arith) torn.2 (shut torn.0 torn.1));
      })

  pub with_gate : LeavesOnly old mid (IsBeforeOrAfter old.image place body) → Only (staged place body b) mid.image → LeavesOnly mid new (λ c. ((d : List ℕ) × mid.image d × Torn place 1 d c)) → LeavesOnly old new (IsBeforeOrAfter old.image place body)
  with_gate first only work =
      leaves_on old mid new (IsBeforeOrAfter old.image place body) (λ c. ((d : List ℕ) × mid.image d × Torn place 1 d c)) first work (λ c torn. last c (subst (λ (d : List ℕ). Torn place 1 d c) (only torn.0 torn.1) torn.2))
    where
      last : (c : List ℕ) → Torn place 1 (staged place body b) c → IsBeforeOrAfter old.image place body c
      last c torn =
          let there = (shut b (sound.held b told)).there in
          record {
            from = b;
            image = sound.held b told;
            front = front_stays place place 1 (staged place body b) c (omega arith) (omega (arith, length-written (place + 1) (behind body) b)) torn
                ∙ take_same place (staged place body b) b (omega (arith, length-written (place + 1) (behind body) b)) (omega arith) (λ i under. written_outside (place + 1) (behind body) b i (inl (omega arith)));
            gate = gate_torn place body b c torn;
          }
