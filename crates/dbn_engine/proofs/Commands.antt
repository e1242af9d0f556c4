-- From what the parts of a command do to what obeying it leaves.
use Rattle.std.proofs.Common.{◌≡◌, ◌⊎◌, ℕ, ◌+◌, ◌≤◌, ◌^◌, Bool, true, false, cond, ◌&&◌, nat_le, nat_lt, List, [], ◌∷◌, length, Option, None, Some, Result, Ok, Err, IsTrue, inl, inr, refl, sym, ap, subst, ◌∙◌, ⊎_elim, arith}
use Rattle.std.proofs.lemmas.Bool.{and_parts, leb-true, false≢true}
use Rattle.std.specs.Option.{option_map_or}
use Rattle.dbn_value.specs.declared.value.Value.{Value}
use Rattle.dbn_value.specs.declared.member.Member.{Member}
use Rattle.dbn_net.specs.declared.decl.Decl.{Decl}
use Rattle.dbn_net.specs.declared.snapshot.Snapshot.{Snapshot}
use Rattle.dbn_codec.specs.Bodies.{member_of}
use Rattle.dbn_keeper.specs.Files.{Store, Folder, new_store, with_body}
use Rattle.dbn_keeper.specs.Files.Folder.{Holds}
use Rattle.dbn_keeper.specs.Keeping.{KeeperState, IsSettled, BringsOnly, Keeps, SameHeader, Steps, is_within, has_fit}
use Rattle.dbn_keeper.specs.declared.base.Base.{Base}
use Rattle.dbn_keeper.specs.declared.opening.Form.{Form}
use Rattle.dbn_keeper.specs.declared.opening.Form.TheVariants.{Two}
use Rattle.dbn_core.specs.declared.outcome.Fired.{Fired}
use Rattle.dbn_core.specs.declared.outcome.Refusal.{Refusal}
use Rattle.dbn_core.specs.Fire.{fire_at, refusal_at}
use Rattle.dbn_core.specs.Group.{and_then, group_from, group}
use Rattle.dbn_command.specs.Lines.{asked}
use Rattle.dbn_command.specs.declared.command.Command.{Command}
use Rattle.dbn_command.specs.declared.fault.LineFault.{LineFault}
use Rattle.dbn_command.specs.declared.reply.Reply.{Reply}
use Rattle.dbn_command.specs.declared.reply.Reply.TheVariants as reply
use Rattle.dbn_store.specs.States.{Situation, situation, RunState, run_state}
use Rattle.dbn_store.specs.Folders.{opened, situation_in, meaning}
use Rattle.dbn_store.specs.Folders.Opened.{Stands}
use Rattle.dbn_store.proofs.Replays.{base_stands}
use Rattle.dbn_net.specs.Texts.{ReadsAgain}
use Rattle.dbn_engine.specs.Steps.{Terms, Answer, tended, stays, answers, has_room, recorded, body_of, text_at, may_keep, checkpointed, kept, refused, why_of, fired, group_lines, fire_made, fire_ready, fire_answer, is_too_old, group_made, group_sized, group_answer, checkpoint_reply, checkpoint_answer}
use Rattle.dbn_engine.specs.Serving.{Joined, StandsFor, Brings}
use Rattle.dbn_engine.specs.Obeying.{IsBody, Obeyed, Changes, fits_in}
use Rattle.dbn_engine.specs.declared.answered.Answered.{Answered}
use Rattle.dbn_engine.proofs.Firings.{Adds, either_stands, held_before, same_folder}

abbrev pub answered : Option Reply → Bool → Answered
answered said recorded = record { reply = said; recorded = recorded }

-- ---- nothing changes

pub no_work : (keeper : KeeperState) (P : Folder → Type 0) → Brings keeper keeper P
no_work keeper P store told honest = record { later = λ i. omega arith; only = λ t f steady since. inl since }

pub same_state : (net net' : List Decl) (s s' : Snapshot) → net' ≡ net → s' ≡ s → situation net' s' ≡ situation net s
same_state net net' s s' a b = ap (λ n. situation n s') a ∙ ap (situation net) b

pub joined_same : (live live' : Bool) (s t : Situation) (keeper : KeeperState) → Joined live s keeper → t ≡ s → live' ≡ true → Joined live' t keeper
joined_same live live' s t keeper joined same lives = record {
  core = lives;
  keeper_live = joined.keeper_live;
  end = joined.end;
  last = joined.last;
  same = λ store told. joined.same store told ∙ ap Stands (sym same);
}

-- a reply, or none, and nothing recorded
pub nothing_done : (due : Answer) (live live' : Bool) (s t : Situation) (keeper : KeeperState) (said : Option Reply) (made : Answered) → due ≡ stays (run_state s keeper) said → made ≡ record { reply = said; recorded = false }
    → Joined live s keeper → t ≡ s → live' ≡ true → Obeyed due live' t keeper made
nothing_done due live live' s t keeper said made is answer joined same lives = record {
  reply = ap (λ (a : Answered). a.reply) answer ∙ ap (λ (a : Answer). a.reply) (sym is);
  recorded = ap (λ (a : Answered). a.recorded) answer ∙ ap (λ (a : Answer). a.recorded) (sym is);
  next = ap (λ (x : Situation). run_state x keeper) same ∙ ap (λ (a : Answer). a.next) (sym is);
  joined = joined_same live live' s t keeper joined same lives;
}

pub unrecorded : (made : Answered) (said : Option Reply) (P : Type 0) → made ≡ record { reply = said; recorded = false } → made.recorded ≡ true → P
unrecorded made said P is e = absurd (false≢true (sym (ap (λ (a : Answered). a.recorded) is) ∙ e))

-- what a line asks for, with the net and the folder told otherwise
pub asked_is : (net net' : List Decl) (folder folder' : Bool) (bytes : List ℕ) (o : Result Command LineFault) → net' ≡ net → folder' ≡ folder → asked net' folder' bytes ≡ o → asked net folder bytes ≡ o
asked_is net net' folder folder' bytes o a b is = sym (ap (λ n. asked n folder' bytes) a ∙ ap (λ f. asked net f bytes) b) ∙ is

-- ---- a record more

abbrev run_of : Situation → Form → ℕ → ℕ → ℕ → Option ℕ → RunState
run_of now form place generation records cap = record { now = now; form = form; place = place; generation = generation; records = records; cap = cap }

same_run : (now now' : Situation) (form form' : Form) (place place' generation generation' records records' : ℕ) (cap cap' : Option ℕ) → now ≡ now' → form ≡ form' → place ≡ place' → generation ≡ generation' → records ≡ records' → cap ≡ cap'
    → run_of now form place generation records cap ≡ run_of now' form' place' generation' records' cap'
same_run now now' form form' place place' generation generation' records records' cap cap' a b c d e f =
    ap (λ x. run_of x form place generation records cap) a ∙ ap (λ x. run_of now' x place generation records cap) b ∙ ap (λ x. run_of now' form' x generation records cap) c
    ∙ ap (λ x. run_of now' form' place' x records cap) d ∙ ap (λ x. run_of now' form' place' generation' x cap) e ∙ ap (run_of now' form' place' generation' records') f

pub recorded_done : (due : Answer) (live : Bool) (s t : Situation) (old new : KeeperState) (body : List ℕ) (after : Snapshot) (said : Reply) (made : Answered)
    → due ≡ record { reply = Some said; next = recorded (run_state s old) (length body) after; recorded = true } → made ≡ record { reply = Some said; recorded = true }
    → t ≡ situation s.net after → Joined live t new → SameHeader old new → Steps old new (length body) → Keeps old new → Obeyed due live t new made
recorded_done due live s t old new body after said made is answer same joined header steps keeps = record {
  reply = ap (λ (a : Answered). a.reply) answer ∙ ap (λ (a : Answer). a.reply) (sym is);
  recorded = ap (λ (a : Answered). a.recorded) answer ∙ ap (λ (a : Answer). a.recorded) (sym is);
  next = same_run t (situation s.net after) new.form old.form new.place (old.place + 5 + length body) new.generation old.generation new.records (old.records + 1) new.cap old.cap
      same header.form steps.place header.generation steps.records keeps.cap
      ∙ ap (λ (a : Answer). a.next) (sym is);
  joined = joined;
}

pub recorded_changes : (due : Answer) (live : Bool) (s : Situation) (old new : KeeperState) (body : List ℕ) (after : Snapshot) → Joined live s old → IsSettled old → Adds old.form s body after → due.next.now ≡ situation s.net after
    → ((store : Store) → old.held ≡ Some (Holds store) → IsTrue old.honest → BringsOnly old new (λ f. (f ≡ Holds store) ⊎ (f ≡ Holds (with_body body store)))) → Changes due s old new
recorded_changes due live s old new body after joined settled adds is work = either_stands old new s due.next.now body after settled joined.same adds is work

-- the body of a net and a form that are told otherwise
pub body_at : (net net' : List Decl) (form form' : Form) (members : List Member) (bytes : List ℕ) → net' ≡ net → form' ≡ form → IsBody net' form' members bytes → IsBody net form members bytes
body_at net net' form form' members bytes a b body = subst (λ f. IsBody net f members bytes) b (subst (λ n. IsBody n form' members bytes) a body)

-- ---- a firing

pub one_adds : (form : Form) (s : Situation) (m : Member) (bytes : List ℕ) (f : Fired) (after : Snapshot) → IsBody s.net form (m ∷ []) bytes → fire_at s.net s.snapshot m.t m.row ≡ Ok (f, after) → Adds form s bytes after
one_adds form s m bytes f after body fires = record {
  members = m ∷ [];
  reads = body.reads;
  all = f ∷ [];
  fires = ap (and_then 0 (λ next. group_from 1 s.net [] next)) fires;
}

module _ (r : RunState) (t : ℕ) (row : List Value) (bytes : List ℕ) (body : IsBody r.now.net r.form (member_of t row ∷ []) bytes) (ready : refusal_at r.now.net r.now.snapshot t row ≡ None) where
  with_room : (room : Bool) → has_room r (length bytes) ≡ room → fire_answer r t row ≡ cond room (fire_made r t (length bytes) (fire_at r.now.net r.now.snapshot t row)) (answers r reply.StoreFull)
  with_room room is =
      ap (fire_ready r t row) ready
      ∙ ap (λ (l : List ℕ). cond (has_room r (length l)) (fire_made r t (length l) (fire_at r.now.net r.now.snapshot t row)) (answers r reply.StoreFull)) (sym body.is)
      ∙ ap (λ (b : Bool). cond b (fire_made r t (length bytes) (fire_at r.now.net r.now.snapshot t row)) (answers r reply.StoreFull)) is

  pub fire_full : has_room r (length bytes) ≡ false → fire_answer r t row ≡ answers r reply.StoreFull
  fire_full room = with_room false room

  pub fire_refused : (why : Refusal) → has_room r (length bytes) ≡ true → fire_at r.now.net r.now.snapshot t row ≡ Err why → fire_answer r t row ≡ answers r (refused why)
  fire_refused why room fires = with_room true room ∙ ap (fire_made r t (length bytes)) fires

  pub fire_fired : (f : Fired) (after : Snapshot) → has_room r (length bytes) ≡ true → fire_at r.now.net r.now.snapshot t row ≡ Ok (f, after)
      → fire_answer r t row ≡ record { reply = Some (fired t after.fired f); next = recorded r (length bytes) after; recorded = true }
  fire_fired f after room fires = with_room true room ∙ ap (fire_made r t (length bytes)) fires

-- ---- a group

pub all_add : (form : Form) (s : Situation) (members : List Member) (bytes : List ℕ) (all : List Fired) (after : Snapshot) → IsBody s.net form members bytes → group s.net s.snapshot members ≡ Ok (all, after) → Adds form s bytes after
all_add form s members bytes all after body fires = record { members = members; reads = body.reads; all = all; fires = fires }

pub group_old : (r : RunState) (members : List Member) → is_too_old r.form members ≡ true → group_answer r members ≡ answers r reply.OldStore
group_old r members old = ap (λ (b : Bool). cond b (answers r reply.OldStore) (group_sized r members (length (body_of r.form members)))) old

module _ (r : RunState) (members : List Member) (bytes : List ℕ) (body : IsBody r.now.net r.form members bytes) (young : is_too_old r.form members ≡ false) where
  group_with_room : (room : Bool) → has_room r (length bytes) ≡ room → group_answer r members ≡ cond room (group_made r members (length bytes) (group r.now.net r.now.snapshot members)) (answers r reply.StoreFull)
  group_with_room room is =
      ap (λ (b : Bool). cond b (answers r reply.OldStore) (group_sized r members (length (body_of r.form members)))) young
      ∙ ap (λ (l : List ℕ). cond (has_room r (length l)) (group_made r members (length l) (group r.now.net r.now.snapshot members)) (answers r reply.StoreFull)) (sym body.is)
      ∙ ap (λ (b : Bool). cond b (group_made r members (length bytes) (group r.now.net r.now.snapshot members)) (answers r reply.StoreFull)) is

  pub group_full : has_room r (length bytes) ≡ false → group_answer r members ≡ answers r reply.StoreFull
  group_full room = group_with_room false room

  pub group_refused : (i : ℕ) (why : Refusal) → has_room r (length bytes) ≡ true → group r.now.net r.now.snapshot members ≡ Err (i, why) → group_answer r members ≡ answers r (reply.Member (i + 1) (why_of why))
  group_refused i why room fires = group_with_room true room ∙ ap (group_made r members (length bytes)) fires

  pub group_fired : (all : List Fired) (after : Snapshot) → has_room r (length bytes) ≡ true → group r.now.net r.now.snapshot members ≡ Ok (all, after)
      → group_answer r members ≡ record { reply = Some (reply.Group (group_lines r.now.snapshot.fired members all)); next = recorded r (length bytes) after; recorded = true }
  group_fired all after room fires = group_with_room true room ∙ ap (group_made r members (length bytes)) fires

-- ---- a checkpoint

pub brings_new : (old new : KeeperState) (base : Base) (s : Situation) → opened (Holds (new_store (old.generation + 1) base)) ≡ Stands s
    → ((store : Store) → old.held ≡ Some (Holds store) → IsTrue old.honest → BringsOnly old new (λ f. f ≡ Holds (new_store (old.generation + 1) base))) → Brings old new (StandsFor s)
brings_new old new base s stands work store told honest = record {
  later = (work store told honest).later;
  only = λ t f steady since. ⊎_elim (λ past. inl past) (λ e. inr (ap meaning e ∙ ap situation_in stands)) ((work store told honest).only t f steady since);
}

pub joined_new : (live : Bool) (s : Situation) (old new : KeeperState) (base : Base) → Joined live s old → IsSettled old → opened (Holds (new_store (old.generation + 1) base)) ≡ Stands s
    → ((store : Store) → old.held ≡ Some (Holds store) → new.held ≡ Some (Holds (new_store (old.generation + 1) base))) → (new.live ≡ true) × (new.at_end ≡ true) → Keeps old new → Joined live s new
joined_new live s old new base joined settled stands value lives keeps = record {
  core = joined.core;
  keeper_live = lives.0;
  end = lives.1;
  last = keeps.last ∙ joined.last;
  same = λ store told.
      let before = held_before old new (Holds store) settled keeps.told told in
      ap opened (same_folder (Holds store) (Holds (new_store (old.generation + 1) base)) (sym told ∙ value before.0 before.1)) ∙ stands;
}

-- the text of the base decides
pub may_is : (net_bytes : ℕ) (s : Situation) (keeper : KeeperState) (text : List ℕ) (b : Bool) → text ≡ text_at s → fits_in net_bytes keeper (length text) ≡ b → may_keep net_bytes (run_state s keeper) ≡ b
may_is net_bytes s keeper text b same is = ap (λ (l : List ℕ). fits_in net_bytes keeper (length l)) (sym same) ∙ is

pub fit_is : (net_bytes : ℕ) (keeper : KeeperState) (size : ℕ) → keeper.last ≡ 2 ^ 62 → fits_in net_bytes keeper size ≡ true → has_fit keeper size ≡ true
fit_is net_bytes keeper size last is =
    ap (λ n. is_within keeper.cap (34 + size) && nat_lt keeper.generation n) last ∙ (and_parts (nat_le size net_bytes) (is_within keeper.cap (34 + size) && nat_lt keeper.generation (2 ^ 62)) is).1

pub size_is : (net_bytes : ℕ) (keeper : KeeperState) (size : ℕ) → net_bytes ≤ 2 ^ 31 → fits_in net_bytes keeper size ≡ true → size ≤ 2 ^ 31
size_is net_bytes keeper size bound is =
    let within : size ≤ net_bytes = leb-true size net_bytes (and_parts (nat_le size net_bytes) (is_within keeper.cap (34 + size) && nat_lt keeper.generation (2 ^ 62)) is).0 in
    omega arith

pub kept_not : (net_bytes : ℕ) (r : RunState) → may_keep net_bytes r ≡ false → r ≡ kept net_bytes r
kept_not net_bytes r may = sym (ap (λ (b : Bool). cond b (checkpointed r (length (text_at r.now))) r) may)

pub kept_is : (net_bytes : ℕ) (s : Situation) (old new : KeeperState) (base : Base) → may_keep net_bytes (run_state s old) ≡ true → base.text ≡ text_at s
    → (new.form ≡ Two) × (new.base ≡ base) × (new.generation ≡ old.generation + 1) → (new.records ≡ 0) × (new.place ≡ 33 + length base.text) → Keeps old new → run_state s new ≡ kept net_bytes (run_state s old)
kept_is net_bytes s old new base may text header place keeps =
    same_run s s new.form Two new.place (33 + length (text_at s)) new.generation (old.generation + 1) new.records 0 new.cap old.cap refl header.0 (place.1 ∙ ap (λ (l : List ℕ). 33 + length l) text) header.2 place.0 keeps.cap
    ∙ sym (ap (λ (b : Bool). cond b (checkpointed (run_state s old) (length (text_at s))) (run_state s old)) may)

pub kept_changes : (net_bytes : ℕ) (s : Situation) (old new : KeeperState) → Brings old new (StandsFor s) → Changes (checkpoint_answer net_bytes (run_state s old)) s old new
kept_changes net_bytes s old new work store told honest = record {
  later = (work store told honest).later;
  only = λ t f steady since. ⊎_elim (λ past. inl past) (λ e. inr (inl e)) ((work store told honest).only t f steady since);
}

pub kept_done : (net_bytes : ℕ) (live : Bool) (s : Situation) (old new : KeeperState) (may : Bool) (said : Reply) (made : Answered) → may_keep net_bytes (run_state s old) ≡ may → said ≡ checkpoint_reply (run_state s old) may
    → made ≡ record { reply = Some said; recorded = false } → run_state s new ≡ kept net_bytes (run_state s old) → Joined live s new → Obeyed (checkpoint_answer net_bytes (run_state s old)) live s new made
kept_done net_bytes live s old new may said made is same answer next joined = record {
  reply = ap (λ (a : Answered). a.reply) answer ∙ ap Some (same ∙ ap (checkpoint_reply (run_state s old)) (sym is));
  recorded = ap (λ (a : Answered). a.recorded) answer;
  next = next;
  joined = joined;
}

-- a base of a good state
pub base_is_of : (generation : ℕ) (base : Base) (net net' : List Decl) (s s' : Snapshot) (bytes : List ℕ) → net' ≡ net → s' ≡ s → ReadsAgain bytes net' s'.instance s'.marking s'.next → base.text ≡ bytes → base.next ≡ s'.next → base.fired ≡ s'.fired
    → opened (Holds (new_store generation base)) ≡ Stands (situation net s)
base_is_of generation base net net' s s' bytes a b reads text next fired =
    base_stands generation base net' s' (subst (λ (l : List ℕ). ReadsAgain l net' s'.instance s'.marking s'.next) (sym text) reads) next fired ∙ ap Stands (same_state net net' s s' a b)

-- ---- a checkpoint that is due

abbrev pub is_due_at : Option ℕ → ℕ → Bool
is_due_at every records = option_map_or (λ most. nat_le most records) every false

pub due_not : (terms : Terms) (r : RunState) (due : Bool) → due ≡ is_due_at terms.every r.records → due ≡ false → r ≡ tended terms r
due_not terms r due is none = sym (ap (λ (b : Bool). cond b (kept terms.net_bytes r) r) (sym is ∙ none))

pub due_is : (terms : Terms) (r : RunState) (due : Bool) → due ≡ is_due_at terms.every r.records → due ≡ true → kept terms.net_bytes r ≡ tended terms r
due_is terms r due is some = sym (ap (λ (b : Bool). cond b (kept terms.net_bytes r) r) (sym is ∙ some))
