-- A disk in memory keeps the law of an honest disk.
use Rattle.std.proofs.Common.{◌≡◌, ◌⊎◌, ℕ, ◌+◌, ◌-◌, ◌<◌, ◌≤◌, max, true, false, ◌||◌, List, [], ◌∷◌, ◌++◌, length, take, drop, get_or, inl, inr, refl, sym, ap, subst, ◌∙◌, nat_le, nat_lt, arith, length-append, length-drop}
use Rattle.std.proofs.lemmas.List.{get_or-replicate, get_or_past, length-take, length-replicate, get_or_append_left, get_or-append_right, get_or-take, get_or-drop, take_all}
use Rattle.std.proofs.lemmas.List.Folds.{list_any-append}
use Rattle.std.proofs.lemmas.Bool.{cases_lt, and_cases, or_parts, leb-false, ltb-false}
use Rattle.dbn_disk.specs.Disk.{IsSound, zeros, padded, written}
use Rattle.dbn_disk.specs.Images.{Moment, IsImage, covers, is_covered, settled, then_call, after_calls}
use Rattle.dbn_disk.specs.MemState.{MemState, present, disk_state}
use Rattle.dbn_disk.specs.declared.log.Call.{Call}
use Rattle.dbn_disk.specs.declared.log.Call.TheVariants.{Write, Cut, Sync}

pub length-padded : (n : ℕ) (held : List ℕ) → length (padded n held) ≡ max (length held) n
length-padded n held = omega (arith, length-append held (zeros (n - length held)), length-replicate {A = ℕ} (n - length held) 0)

pub length-written : (at : ℕ) (bytes held : List ℕ) → length (written at bytes held) ≡ max (length held) (at + length bytes)
length-written at bytes held =
    let wide : List ℕ = padded (at + length bytes) held in
    let behind : List ℕ = drop (at + length bytes) wide in
    omega (arith, length-append (take at wide) (bytes ++ behind), length-append bytes behind, length-take at wide, length-drop (at + length bytes) wide, length-padded (at + length bytes) held)

padded-at : (n : ℕ) (held : List ℕ) (i : ℕ) → get_or (padded n held) i 0 ≡ get_or held i 0
padded-at n held i = by_place (cases_lt i (length held))
  where
    zero_at : (k j : ℕ) → get_or (zeros k) j 0 ≡ 0
    zero_at k j = by_length (cases_lt j k)
      where
        by_length : (j < k) ⊎ (k ≤ j) → get_or (zeros k) j 0 ≡ 0
        by_length (inl under) = get_or-replicate {A = ℕ} k j 0 0 under
        by_length (inr past) = get_or_past (zeros k) j 0 (omega (arith, length-replicate {A = ℕ} k 0))

    by_place : (i < length held) ⊎ (length held ≤ i) → get_or (padded n held) i 0 ≡ get_or held i 0
    by_place (inl under) = get_or_append_left held (zeros (n - length held)) 0 i under
    by_place (inr past) = get_or-append_right held (zeros (n - length held)) (length held) i 0 refl past ∙ zero_at (n - length held) (i - length held) ∙ sym (get_or_past held i 0 past)

-- a write changes no byte outside its range
pub written_outside : (at : ℕ) (bytes held : List ℕ) (i : ℕ) → (i < at) ⊎ (at + length bytes ≤ i) → get_or (written at bytes held) i 0 ≡ get_or held i 0
written_outside at bytes held i (inl before) =
    let wide : List ℕ = padded (at + length bytes) held in
    get_or_append_left (take at wide) (bytes ++ drop (at + length bytes) wide) 0 i (omega (arith, length-take at wide, length-padded (at + length bytes) held))
    ∙ get_or-take at wide i 0 before
    ∙ padded-at (at + length bytes) held i
written_outside at bytes held i (inr behind) =
    let wide : List ℕ = padded (at + length bytes) held in
    let rest : List ℕ = drop (at + length bytes) wide in
    get_or-append_right (take at wide) (bytes ++ rest) at i 0 (omega (arith, length-take at wide, length-padded (at + length bytes) held)) (omega arith)
    ∙ get_or-append_right bytes rest (length bytes) (i - at) 0 refl (omega arith)
    ∙ get_or-drop (at + length bytes) wide (i - at - length bytes) 0
    ∙ ap (λ (k : ℕ). get_or wide k 0) (let e : at + length bytes + (i - at - length bytes) ≡ i = omega arith in e)
    ∙ padded-at (at + length bytes) held i

-- and puts its bytes there
pub written_inside : (at : ℕ) (bytes held : List ℕ) (i : ℕ) → i < length bytes → get_or (written at bytes held) (at + i) 0 ≡ get_or bytes i 0
written_inside at bytes held i under =
    let wide : List ℕ = padded (at + length bytes) held in
    let rest : List ℕ = drop (at + length bytes) wide in
    get_or-append_right (take at wide) (bytes ++ rest) at (at + i) 0 (omega (arith, length-take at wide, length-padded (at + length bytes) held)) (omega arith)
    ∙ ap (λ (k : ℕ). get_or (bytes ++ rest) k 0) (let e : at + i - at ≡ i = omega arith in e)
    ∙ get_or_append_left bytes rest 0 i under

-- a place that a further range doesn't cover
pub uncovered : (ranges : List (ℕ × ℕ)) (from to i : ℕ) → is_covered (ranges ++ (from, to) ∷ []) i ≡ false → (is_covered ranges i ≡ false) × ((i < from) ⊎ (to ≤ i))
uncovered ranges from to i free =
    let parts = or_parts (is_covered ranges i) (covers i (from, to) || false) (sym (list_any-append (covers i) ranges ((from, to) ∷ [])) ∙ free) in
    let last = or_parts (covers i (from, to)) false parts.1 in
    (parts.0, outside (and_cases (nat_le from i) (nat_lt i to) last.0))
  where
    outside : (nat_le from i ≡ false) ⊎ (nat_lt i to ≡ false) → (i < from) ⊎ (to ≤ i)
    outside (inl below) = inl (leb-false from i below)
    outside (inr above) = inr (ltb-false i to above)

pub settled_image : (bytes : List ℕ) → IsImage (settled bytes) bytes
settled_image bytes = record { least = omega arith; most = omega arith; stable = λ i under free. refl }

-- what is held stays an image
step_image : (m : Moment) (call : Call) → IsImage m m.held → IsImage (then_call m call) (then_call m call).held
step_image m (Write at bytes true) ok = record {
  least = omega (arith, ok.least, length-written at bytes m.held);
  most = omega (arith, ok.most, length-written at bytes m.held);
  stable = λ i under free.
      let parts = uncovered m.covered at (at + length bytes) i free in
      written_outside at bytes m.held i parts.1 ∙ ok.stable i under parts.0;
}
step_image m (Write at bytes false) ok = record {
  least = ok.least;
  most = omega (arith, ok.most);
  stable = λ i under free. ok.stable i under (uncovered m.covered at (at + length bytes) i free).0;
}
step_image m (Cut to true) ok = record {
  least = omega (arith, ok.least, length-take to m.held);
  most = omega (arith, ok.most, length-take to m.held);
  stable = λ i under free. get_or-take to m.held i 0 (omega arith) ∙ ok.stable i (omega arith) free;
}
step_image m (Cut to false) ok = record {
  least = omega (arith, ok.least);
  most = ok.most;
  stable = λ i under free. ok.stable i (omega arith) free;
}
step_image m Sync ok = settled_image m.held

pub held_is_image : (m : Moment) (calls : List Call) → IsImage m m.held → IsImage (after_calls m calls) (after_calls m calls).held
held_is_image m [] ok = ok
held_is_image m (call ∷ calls) ok = held_is_image (then_call m call) calls (step_image m call ok)

pub present_image : (m : MemState) → IsImage (present m) (present m).held
present_image m = held_is_image (settled m.first) m.calls (settled_image m.first)

is_at : (m : MemState) (t : ℕ) (c : List ℕ) → length m.calls ≡ t → IsImage (after_calls (settled m.first) (take t m.calls)) c → IsImage (present m) c
is_at m t c e image = subst (λ (calls : List Call). IsImage (after_calls (settled m.first) calls) c) (take_all t m.calls (omega arith)) image

pub is_sound : (m : MemState) → IsSound (disk_state m)
is_sound m = record {
  held = λ b told. let e : (present m).held ≡ b = cc in subst (IsImage (present m)) e (present_image m);
  now = λ t c le image. record {
    at = length m.calls;
    from = le;
    in_time = omega arith;
    image = subst (λ (calls : List Call). IsImage (after_calls (settled m.first) calls) c) (sym (take_all (length m.calls) m.calls (omega arith))) image;
  };
  only_now = λ c was. is_at m was.at c (omega (arith, was.from, was.in_time)) was.image;
}
