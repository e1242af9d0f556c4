-- One body more, and one body on.
use Rattle.std.proofs.Common.{◌≡◌, ℕ, ◌+◌, ◌≤◌, nat_le, Bool, true, false, cond, List, [], ◌∷◌, ◌++◌, length, drop, Option, None, Some, Ok, refl, sym, ap, subst, ◌∙◌, arith}
use Rattle.std.proofs.lemmas.Bool.{le-leb}
use Rattle.std.proofs.lemmas.List.{drop-drop}
use Rattle.dbn_value.specs.declared.member.Member.{Member}
use Rattle.dbn_net.specs.declared.decl.Decl.{Decl}
use Rattle.dbn_net.specs.declared.snapshot.Snapshot.{Snapshot}
use Rattle.dbn_net.specs.Tables.{shapes}
use Rattle.dbn_net.specs.Texts.{Start, ReadsAgain, reads}
use Rattle.dbn_keeper.specs.Files.{Store, new_store, with_body}
use Rattle.dbn_keeper.specs.Files.Folder.{Holds}
use Rattle.dbn_keeper.specs.Keeping.{KeeperState, Steps, SameHeader, step_at, next_step}
use Rattle.dbn_keeper.specs.declared.base.Base.{Base}
use Rattle.dbn_keeper.specs.declared.base.Step.{Step}
use Rattle.dbn_keeper.specs.declared.base.Step.TheVariants.{End, Body, Damaged}
use Rattle.dbn_keeper.specs.declared.opening.Form.{Form}
use Rattle.dbn_core.specs.declared.outcome.Fired.{Fired}
use Rattle.dbn_core.specs.Group.{group}
use Rattle.dbn_store.specs.States.{Situation, situation}
use Rattle.dbn_store.specs.Folders.{started, start_of, members_in, after_group, after_members, after_body, Opened, gone_on, replayed, opened_from, opened}
use Rattle.dbn_store.specs.Folders.Opened.{IsNoStore, IsDamaged, Stands}
use Rattle.dbn_store.specs.Opening.{rest_of}

same_situation : (s t : Situation) → Stands s ≡ Stands t → s ≡ t
same_situation s t e = cc

-- ---- one body more at the end

last_more : (form : Form) (net : List Decl) (place : ℕ) (s : Snapshot) (t : Situation) (body : List ℕ) (after : Snapshot) → situation net s ≡ t → after_body form t.net t.snapshot body ≡ Some after
    → replayed form net place (body ∷ []) false s ≡ Stands (situation t.net after)
last_more form net place s t body after same fires =
    let fired : after_body form net s body ≡ Some after = ap (λ (x : Situation). after_body form x.net x.snapshot body) same ∙ fires in
    ap (gone_on place (replayed form net (place + 5 + length body) [] false)) fired ∙ ap (λ (x : Situation). Stands (situation x.net after)) same

pub replayed_more : (form : Form) (net : List Decl) (place : ℕ) (bodies : List (List ℕ)) (torn : Bool) (s : Snapshot) (t : Situation) (body : List ℕ) (after : Snapshot)
    → replayed form net place bodies torn s ≡ Stands t → after_body form t.net t.snapshot body ≡ Some after → replayed form net place (bodies ++ body ∷ []) false s ≡ Stands (situation t.net after)
replayed_more form net place [] true s t body after e fires = cc
replayed_more form net place [] false s t body after e fires = last_more form net place s t body after (same_situation (situation net s) t e) fires
replayed_more form net place (first ∷ bodies) torn s t body after e fires =
    by_first (after_body form net s first) (λ next. replayed_more form net (place + 5 + length first) bodies torn next t body after) e
  where
    by_first : (o : Option Snapshot) → ((next : Snapshot) → replayed form net (place + 5 + length first) bodies torn next ≡ Stands t → after_body form t.net t.snapshot body ≡ Some after → replayed form net (place + 5 + length first) (bodies ++ body ∷ []) false next ≡ Stands (situation t.net after))
        → gone_on place (replayed form net (place + 5 + length first) bodies torn) o ≡ Stands t → gone_on place (replayed form net (place + 5 + length first) (bodies ++ body ∷ []) false) o ≡ Stands (situation t.net after)
    by_first None more e = cc
    by_first (Some next) more e = more next e fires

opened_more : (store : Store) (o : Option Situation) (t : Situation) (body : List ℕ) (after : Snapshot) → opened_from store o ≡ Stands t → after_body store.form t.net t.snapshot body ≡ Some after
    → opened_from (with_body body store) o ≡ Stands (situation t.net after)
opened_more store None t body after e fires = cc
opened_more store (Some s) t body after e fires = replayed_more store.form s.net (33 + length store.base.text) store.bodies store.torn s.snapshot t body after e fires

-- the members of the body fire
pub body_fires : (form : Form) (net : List Decl) (s : Snapshot) (body : List ℕ) (members : List Member) (all : List Fired) (after : Snapshot) → members_in form (shapes net) body ≡ Some members → group net s members ≡ Ok (all, after)
    → after_body form net s body ≡ Some after
body_fires form net s body members all after reads fires = ap (after_members net s) reads ∙ ap after_group fires

pub store_more : (store : Store) (s : Situation) (body : List ℕ) (members : List Member) (all : List Fired) (after : Snapshot) → opened (Holds store) ≡ Stands s → members_in store.form (shapes s.net) body ≡ Some members → group s.net s.snapshot members ≡ Ok (all, after)
    → opened (Holds (with_body body store)) ≡ Stands (situation s.net after)
store_more store s body members all after stands reads fires = opened_more store (start_of store.base) s body after stands (body_fires store.form s.net s.snapshot body members all after reads fires)

-- ---- a new base

new_started : (base : Base) (net : List Decl) (s : Snapshot) (first : ℕ) → first ≤ s.next → base.next ≡ s.next → base.fired ≡ s.fired
    → started base (Ok (record { decls = net; facts = s.instance; tokens = s.marking; next = first })) ≡ Some (situation net s)
new_started base net s first within next fired =
    let test : nat_le first base.next ≡ true = ap (nat_le first) next ∙ le-leb first s.next within in
    let numbers : situation net (record { instance = s.instance; marking = s.marking; next = base.next; fired = base.fired }) ≡ situation net s =
    ap (λ (n : ℕ). situation net (record { instance = s.instance; marking = s.marking; next = n; fired = base.fired })) next ∙ ap (λ (n : ℕ). situation net (record { instance = s.instance; marking = s.marking; next = s.next; fired = n })) fired in
    ap (λ (b : Bool). cond b (Some (situation net (record { instance = s.instance; marking = s.marking; next = base.next; fired = base.fired }))) None) test ∙ ap Some numbers

pub base_starts : (base : Base) (net : List Decl) (s : Snapshot) → ReadsAgain base.text net s.instance s.marking s.next → base.next ≡ s.next → base.fired ≡ s.fired → start_of base ≡ Some (situation net s)
base_starts base net s text next fired = ap (started base) text.is ∙ new_started base net s text.start text.within next fired

pub base_stands : (generation : ℕ) (base : Base) (net : List Decl) (s : Snapshot) → ReadsAgain base.text net s.instance s.marking s.next → base.next ≡ s.next → base.fired ≡ s.fired
    → opened (Holds (new_store generation base)) ≡ Stands (situation net s)
base_stands generation base net s text next fired = ap (opened_from (new_store generation base)) (base_starts base net s text next fired)

-- ---- one body on

on_by_list : (form : Form) (net : List Decl) (l : List (List ℕ)) (place p : ℕ) (torn : Bool) (body : List ℕ) (s after : Snapshot) → Body body p ≡ step_at l torn place → after_body form net s body ≡ Some after
    → replayed form net place l torn s ≡ replayed form net (place + 5 + length body) (drop 1 l) torn after
on_by_list form net [] place p true body s after e fires = cc
on_by_list form net [] place p false body s after e fires = cc
on_by_list form net (first ∷ l) place p torn body s after e fires =
    let same : body ≡ first = cc in
    ap (λ (b : List ℕ). gone_on place (replayed form net (place + 5 + length b) l torn) (after_body form net s b)) (sym same)
    ∙ ap (gone_on place (replayed form net (place + 5 + length body) l torn)) fires

pub one_on : (old new : KeeperState) (store : Store) (p : ℕ) (body : List ℕ) (s t : Situation) → SameHeader old new → Steps old new (length body) → Body body p ≡ next_step store old.records old.place
    → t.net ≡ s.net → after_body old.form s.net s.snapshot body ≡ Some t.snapshot → rest_of old store s ≡ rest_of new store t
one_on old new store p body s t header steps e net fires =
    on_by_list old.form s.net (drop old.records store.bodies) old.place p store.torn body s.snapshot t.snapshot e fires
    ∙ ap (λ (l : List (List ℕ)). replayed old.form s.net (old.place + 5 + length body) l store.torn t.snapshot) (drop-drop 1 old.records store.bodies ∙ ap (λ (n : ℕ). drop n store.bodies) (sym steps.records))
    ∙ ap (λ (n : ℕ). replayed old.form s.net n (drop new.records store.bodies) store.torn t.snapshot) (sym steps.place)
    ∙ ap (λ (f : Form). replayed f s.net new.place (drop new.records store.bodies) store.torn t.snapshot) (sym header.form)
    ∙ ap (λ (d : List Decl). replayed new.form d new.place (drop new.records store.bodies) store.torn t.snapshot) (sym net)

-- the end, or the damage
pub ends_by_list : (form : Form) (net : List Decl) (l : List (List ℕ)) (place : ℕ) (torn : Bool) (s : Snapshot) → End ≡ step_at l torn place → replayed form net place l torn s ≡ Stands (situation net s)
ends_by_list form net [] place true s e = cc
ends_by_list form net [] place false s e = refl
ends_by_list form net (first ∷ l) place torn s e = cc

pub damaged_by_list : (form : Form) (net : List Decl) (l : List (List ℕ)) (place p : ℕ) (torn : Bool) (s : Snapshot) → Damaged p ≡ step_at l torn place → replayed form net place l torn s ≡ IsDamaged p
damaged_by_list form net [] place p true s e = let same : place ≡ p = cc in ap IsDamaged same
damaged_by_list form net [] place p false s e = cc
damaged_by_list form net (first ∷ l) place p torn s e = cc

-- a body that doesn't fire
pub stops_by_list : (form : Form) (net : List Decl) (l : List (List ℕ)) (place p : ℕ) (torn : Bool) (body : List ℕ) (s : Snapshot) → Body body p ≡ step_at l torn place → after_body form net s body ≡ None
    → replayed form net place l torn s ≡ IsDamaged p
stops_by_list form net [] place p true body s e none = cc
stops_by_list form net [] place p false body s e none = cc
stops_by_list form net (first ∷ l) place p torn body s e none =
    let same : body ≡ first = cc in
    let here : place ≡ p = cc in
    ap (λ (b : List ℕ). gone_on place (replayed form net (place + 5 + length b) l torn) (after_body form net s b)) (sym same)
    ∙ ap (gone_on place (replayed form net (place + 5 + length body) l torn)) none ∙ ap IsDamaged here

-- ---- two steps one after the other

pub same_header_on : (old mid new : KeeperState) → SameHeader old mid → SameHeader mid new → SameHeader old new
same_header_on old mid new first second = record { form = second.form ∙ first.form; base = second.base ∙ first.base; generation = second.generation ∙ first.generation }
