-- A firing or a group more in the core, and a body more in the keeper.
use Rattle.std.proofs.Common.{◌≡◌, ◌⊎◌, ℕ, Bool, true, cond, List, [], ◌∷◌, length, None, Some, Ok, is_some, IsTrue, inl, inr, sym, ap, subst, ◌∙◌, ⊎_elim}
use Rattle.dbn_value.specs.declared.value.Value.{Value}
use Rattle.dbn_value.specs.declared.member.Member.{Member}
use Rattle.dbn_net.specs.declared.snapshot.Snapshot.{Snapshot}
use Rattle.dbn_net.specs.Tables.{shapes}
use Rattle.dbn_codec.specs.Bodies.{member_of}
use Rattle.dbn_keeper.specs.Files.{Store, Folder, with_body}
use Rattle.dbn_keeper.specs.Files.Folder.{Holds}
use Rattle.dbn_keeper.specs.Keeping.{KeeperState, IsSettled, IsSound, BringsOnly, Keeps}
use Rattle.dbn_keeper.specs.declared.opening.Form.{Form}
use Rattle.dbn_keeper.proofs.Crashes.{brings_both, since_live, now_live}
use Rattle.dbn_core.specs.declared.outcome.Fired.{Fired}
use Rattle.dbn_core.specs.Fire.{fire_at, refusal_at}
use Rattle.dbn_core.specs.Group.{group}
use Rattle.dbn_store.specs.States.{Situation, situation, RunState}
use Rattle.dbn_store.specs.Folders.{members_in, opened, situation_in, meaning}
use Rattle.dbn_store.specs.Folders.Opened.{Stands}
use Rattle.dbn_store.proofs.Replays.{store_more}
use Rattle.dbn_command.specs.declared.reply.Reply.TheVariants as reply
use Rattle.dbn_engine.specs.Steps.{answers, has_room, body_of, fire_made, fire_ready, fire_answer}
use Rattle.dbn_engine.proofs.Told.{was_told}
use Rattle.dbn_engine.specs.Serving.{Joined, StandsFor, StandsForEither, Brings, StaysSteady, AllStandNow, EitherSince, EitherNow}

-- ---- what is told

pub same_folder : (a b : Folder) → Some a ≡ Some b → a ≡ b
same_folder a b e = cc

same_store : (a b : Store) → Some (Holds a) ≡ Some (Holds b) → a ≡ b
same_store a b e = cc

-- a store of a live keeper has its form
pub has_form : (keeper : KeeperState) (store : Store) → IsSettled keeper → keeper.held ≡ Some (Holds store) → store.form ≡ keeper.form
has_form keeper store settled told =
    let is = settled.held (Holds store) told in
    let same : store ≡ record { form = keeper.form; base = keeper.base; generation = keeper.generation; bodies = is.0; torn = is.1 } = same_store _ _ (ap Some is.2) in
    ap (λ (s : Store). s.form) same

-- what a live keeper held before, where something is told now
pub held_before : (old new : KeeperState) (f : Folder) → IsSettled old → is_some new.held ≡ is_some old.held → new.held ≡ Some f → ((store : Store) × (old.held ≡ Some (Holds store)))
held_before old new f settled same told =
    let before = was_told old.held new.held f same told in
    let store = settled.held before.0 before.1 in
    (record { form = old.form; base = old.base; generation = old.generation; bodies = store.0; torn = store.1 }, before.1 ∙ ap Some store.2)

-- ---- a group more

-- the body of the members, and the snapshot that they leave
pub record Adds (form : Form) (s : Situation) (body : List ℕ) (after : Snapshot) : Type 0 where
  pub members : List Member
  pub reads : members_in form (shapes s.net) body ≡ Some members
  pub all : List Fired
  pub fires : group s.net s.snapshot members ≡ Ok (all, after)

pub more_opened : (keeper : KeeperState) (store : Store) (s : Situation) (body : List ℕ) (after : Snapshot) → IsSettled keeper → keeper.held ≡ Some (Holds store) → opened (Holds store) ≡ Stands s → Adds keeper.form s body after
    → opened (Holds (with_body body store)) ≡ Stands (situation s.net after)
more_opened keeper store s body after settled told stands adds =
    store_more store s body adds.members adds.all after stands (ap (λ (f : Form). members_in f (shapes s.net) body) (has_form keeper store settled told) ∙ adds.reads) adds.fires

-- during an append each image stands for the situation before or after it
pub either_stands : (old new : KeeperState) (s t : Situation) (body : List ℕ) (after : Snapshot) → IsSettled old → ((store : Store) → old.held ≡ Some (Holds store) → opened (Holds store) ≡ Stands s) → Adds old.form s body after
    → t ≡ situation s.net after → ((store : Store) → old.held ≡ Some (Holds store) → IsTrue old.honest → BringsOnly old new (λ f. (f ≡ Holds store) ⊎ (f ≡ Holds (with_body body store)))) → Brings old new (StandsForEither s t)
either_stands old new s t body after settled stands adds is work store told honest = record {
  later = (work store told honest).later;
  only = λ t0 f steady since. ⊎_elim (λ past. inl past) (λ either. inr (⊎_elim
      (λ e. inl (ap meaning e ∙ ap situation_in (stands store told)))
      (λ e. inr (ap meaning e ∙ ap situation_in (more_opened old store s body after settled told (stands store told) adds) ∙ ap Some (sym is))) either))
      ((work store told honest).only t0 f steady since);
}

-- behind it the keeper stands for the snapshot of the core
pub joined_more : (live live' : Bool) (s t : Situation) (old new : KeeperState) (body : List ℕ) (after : Snapshot) → Joined live s old → IsSettled old → Adds old.form s body after → t ≡ situation s.net after → live' ≡ true
    → (new.live ≡ true) × (new.at_end ≡ true) → Keeps old new → ((store : Store) → old.held ≡ Some (Holds store) → new.held ≡ Some (Holds (with_body body store))) → Joined live' t new
joined_more live live' s t old new body after joined settled adds is core_live lives keeps value = record {
  core = core_live;
  keeper_live = lives.0;
  end = lives.1;
  last = keeps.last ∙ joined.last;
  same = λ store told.
      let before = held_before old new (Holds store) settled keeps.told told in
      ap opened (same_folder (Holds store) (Holds (with_body body before.0)) (sym told ∙ value before.0 before.1))
      ∙ more_opened old before.0 s body after settled before.1 (joined.same before.0 before.1) adds ∙ ap Stands (sym is);
}

-- each image of a live keeper stands for the situation of the core
pub now_stands : (live : Bool) (s : Situation) (old new : KeeperState) → Joined live s new → IsSettled new → Keeps old new → AllStandNow old new s
now_stands live s old new joined settled keeps store told honest f image =
    let after = was_told new.held old.held (Holds store) (sym keeps.told) told in
    let is = settled.held after.0 after.1 in
    let here : Store = record { form = new.form; base = new.base; generation = new.generation; bodies = is.0; torn = is.1 } in
    ap meaning (settled.image after.0 f after.1 (subst IsTrue (sym keeps.honest) honest) image ∙ is.2) ∙ ap situation_in (joined.same here (after.1 ∙ ap Some is.2))

-- ---- the answer to a firing that is made

pub fire_is : (r : RunState) (t : ℕ) (row : List Value) (f : Fired) (after : Snapshot) → refusal_at r.now.net r.now.snapshot t row ≡ None → has_room r (length (body_of r.form (member_of t row ∷ []))) ≡ true → fire_at r.now.net r.now.snapshot t row ≡ Ok (f, after)
    → fire_answer r t row ≡ fire_made r t (length (body_of r.form (member_of t row ∷ []))) (Ok (f, after))
fire_is r t row f after ready room fires =
    let size = length (body_of r.form (member_of t row ∷ [])) in
    ap (fire_ready r t row) ready ∙ ap (λ (b : Bool). cond b (fire_made r t size (fire_at r.now.net r.now.snapshot t row)) (answers r reply.StoreFull)) room ∙ ap (fire_made r t size) fires

-- ---- a checkpoint behind it

pub then_kept : (old mid new : KeeperState) (s t : Situation) → IsSettled mid → Keeps old mid → Brings old mid (StandsForEither s t) → StaysSteady old mid → Brings mid new (StandsFor t) → Brings old new (StandsForEither s t)
then_kept old mid new s t settled keeps first steady second store told honest =
    let now = was_told mid.held old.held (Holds store) (sym keeps.told) told in
    let is = settled.held now.0 now.1 in
    brings_both old mid new (StandsForEither s t) (StandsFor t) (StandsForEither s t) (first store told honest)
    (second (record { form = mid.form; base = mid.base; generation = mid.generation; bodies = is.0; torn = is.1 }) (now.1 ∙ ap Some is.2) (subst IsTrue (sym keeps.honest) honest)) (steady store told honest) (λ f e. e) (λ f e. inr e)

-- ---- from the start of a call on

pub either_since : (live : Bool) (old new : KeeperState) (s t : Situation) → Joined live s old → IsSettled old → (IsTrue old.honest → IsSound old) → Brings old new (StandsForEither s t) → EitherSince old new s t
either_since live old new s t joined settled sound work store told honest f since =
    since_live old new store (StandsForEither s t) settled (sound honest) told honest (work store told honest) (inl (ap situation_in (joined.same store told))) f since

pub either_now : (live : Bool) (old new : KeeperState) (s t : Situation) → Joined live s old → IsSettled old → (IsTrue old.honest → IsSound old) → (IsTrue new.honest → IsSound new) → new.honest ≡ old.honest → Brings old new (StandsForEither s t) → EitherNow old new s t
either_now live old new s t joined settled sound sound_new same work store told honest f image =
    now_live old new store (StandsForEither s t) settled (sound honest) (sound_new (subst IsTrue (sym same) honest)) told honest (work store told honest) (inl (ap situation_in (joined.same store told))) f image

-- where the situation stays, that is the one
pub both_one : (old new : KeeperState) (s t : Situation) → t ≡ s → EitherNow old new s t → AllStandNow old new t
both_one old new s t same either store told honest f image = ⊎_elim (λ e. e ∙ ap Some (sym same)) (λ e. e) (either store told honest f image)
