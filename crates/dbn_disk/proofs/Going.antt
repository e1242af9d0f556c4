-- How work of several calls goes on: what a crash at any moment of it leaves.
use Rattle.std.proofs.Common.{ℕ, List, inl, inr, sym, subst, arith, ⊎_elim}
use Rattle.dbn_disk.specs.Disk.{DiskState, LeavesOnly, Elapses, Still, IsSound}

-- before the first call
pub started : (old : DiskState) (P : List ℕ → Type 0) → IsSound old → ((c : List ℕ) → old.image c → P c) → LeavesOnly old old P
started old P sound here = record {
  later = omega arith;
  each = λ c since. here c (sound.only_now c since);
  before = λ t c le since. inl since;
  keeps = λ t c le since. since;
}

-- one call
pub called : (old new : DiskState) (P : List ℕ → Type 0) → IsSound old → Elapses old new → ((c : List ℕ) → old.image c → P c) → ((c : List ℕ) → new.image c → P c) → LeavesOnly old new P
called old new P sound time here there = record {
  later = time.later;
  each = λ c since. ⊎_elim (λ past. here c (sound.only_now c past)) (there c) (time.nothing_else old.clock c (omega arith) since);
  before = λ t c le since. ⊎_elim (λ past. inl past) (λ now. inr (there c now)) (time.nothing_else t c le since);
  keeps = time.keeps;
}

-- more work
pub leaves_on : (old mid new : DiskState) (P Q : List ℕ → Type 0) → LeavesOnly old mid P → LeavesOnly mid new Q → ((c : List ℕ) → Q c → P c) → LeavesOnly old new P
leaves_on old mid new P Q first second more = record {
  later = omega (arith, first.later, second.later);
  each = λ c since. ⊎_elim (first.each c) (more c) (second.before old.clock c first.later since);
  before = λ t c le since. ⊎_elim (first.before t c le) (λ q. inr (more c q)) (second.before t c (omega (arith, le, first.later)) since);
  keeps = λ t c le since. second.keeps t c (omega (arith, le, first.later)) (first.keeps t c le since);
}

-- a weaker claim
pub leaves_more : (old new : DiskState) (P Q : List ℕ → Type 0) → LeavesOnly old new Q → ((c : List ℕ) → Q c → P c) → LeavesOnly old new P
leaves_more old new P Q work more = record {
  later = work.later;
  each = λ c since. more c (work.each c since);
  before = λ t c le since. ⊎_elim (λ past. inl past) (λ q. inr (more c q)) (work.before t c le since);
  keeps = work.keeps;
}

-- calls before it that change no image
pub after_still : (old mid new : DiskState) (P : List ℕ → Type 0) → Still old mid → LeavesOnly mid new P → LeavesOnly old new P
after_still old mid new P still work = record {
  later = omega (arith, still.clock, work.later);
  each = λ c since. work.each c (subst (λ (t : ℕ). new.since t c) (sym still.clock) since);
  before = λ t c le since. ⊎_elim (λ past. inl (still.since t c past)) (λ p. inr p) (work.before t c (omega (arith, le, still.clock)) since);
  keeps = λ t c le since. work.keeps t c (omega (arith, le, still.clock)) (still.since_back t c since);
}
