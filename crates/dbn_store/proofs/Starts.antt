-- The core that a base begins with, and what its replay says of the store.
use Rattle.std.proofs.Common.{◌≡◌, ℕ, ◌+◌, ◌≤◌, ◌<◌, ◌^◌, nat_le, Bool, true, false, cond, List, [], length, drop, Option, None, Some, Ok, Err, refl, sym, ap, ◌∙◌, arith}
use Rattle.std.specs.Prelude.{IsErrOf}
use Rattle.std.proofs.lemmas.Bool.{le-leb, lt-leb}
use Rattle.dbn_net.specs.declared.decl.Decl.{Decl}
use Rattle.dbn_net.specs.declared.snapshot.Snapshot.{Snapshot}
use Rattle.dbn_net.specs.Values.{all_values}
use Rattle.dbn_net.specs.Good.{Good}
use Rattle.dbn_net.specs.Texts.{reads}
use Rattle.dbn_net.proofs.NextLaws.{below_later}
use Rattle.dbn_keeper.specs.Files.{Store, Folder, space, place_behind}
use Rattle.dbn_keeper.specs.Files.Folder.{Holds}
use Rattle.dbn_keeper.specs.Keeping.{KeeperState, IsSettled}
use Rattle.dbn_keeper.specs.declared.base.Base.{Base}
use Rattle.dbn_keeper.specs.declared.opening.Form.{Form}
use Rattle.dbn_store.specs.States.{Situation, situation}
use Rattle.dbn_store.specs.Folders.{started, start_of, Opened, replayed, opened_from, opened}
use Rattle.dbn_store.specs.Folders.Opened.{IsNoStore, IsDamaged, Stands}
use Rattle.dbn_store.specs.Opening.{rest_of, Says}
use Rattle.dbn_store.specs.declared.fault.StoreFault.{StoreFault}
use Rattle.dbn_store.specs.declared.fault.StoreFault.TheVariants.{NotAStore, Damaged, Failed, Memory}

abbrev pub begun : Snapshot → Base → Snapshot
begun at base = record { instance = at.instance; marking = at.marking; next = base.next; fired = base.fired }

abbrev pub WasRead : Base → List Decl → Snapshot → Type 0
WasRead base net at = reads base.text ≡ Ok (record { decls = net; facts = at.instance; tokens = at.marking; next = at.next })

-- with a greater next id a good snapshot stays good
pub begun_good : (net : List Decl) (at : Snapshot) (base : Base) → Good net at → at.next ≤ base.next → (base.fired ≤ 2 ^ 62) × (base.next ≤ 2 ^ 62) → Good net (begun at base)
begun_good net at base good later numbers = record {
  facts_ascend = good.facts_ascend;
  facts_fit = good.facts_fit;
  tokens_counted = good.tokens_counted;
  tokens_fit = good.tokens_fit;
  holds = good.holds;
  ids = below_later at.next base.next (all_values net at.instance at.marking) later good.ids;
  next_within = numbers.1;
  fired_within = numbers.0;
}

-- the base begins with it
pub begins : (base : Base) (net : List Decl) (at : Snapshot) → WasRead base net at → at.next ≤ base.next → start_of base ≡ Some (situation net (begun at base))
begins base net at read later =
    ap (started base) read ∙ ap (λ (b : Bool). cond b (Some (situation net (begun at base))) None) (le-leb at.next base.next later)

pub begins_not : (base : Base) (net : List Decl) (at : Snapshot) → WasRead base net at → base.next < at.next → start_of base ≡ None
begins_not base net at read less =
    ap (started base) read ∙ ap (λ (b : Bool). cond b (Some (situation net (begun at base))) None) (lt-leb at.next base.next less)

same_store : (a b : Store) → Some (Holds a) ≡ Some (Holds b) → a ≡ b
same_store a b e = cc

-- the store that a live keeper holds has its base and its form
pub held_is : (keeper : KeeperState) (store : Store) → IsSettled keeper → keeper.held ≡ Some (Holds store) → (store.base ≡ keeper.base) × (store.form ≡ keeper.form)
held_is keeper store settled told =
    let is = settled.held (Holds store) told in
    let same : store ≡ record { form = keeper.form; base = keeper.base; generation = keeper.generation; bodies = is.0; torn = is.1 } = same_store _ _ (ap Some is.2) in
    (ap (λ (s : Store). s.base) same, ap (λ (s : Store). s.form) same)

-- before the first body the rest is all
pub all_rest : (keeper : KeeperState) (store : Store) (s : Situation) → IsSettled keeper → keeper.held ≡ Some (Holds store) → keeper.records ≡ 0 → start_of keeper.base ≡ Some s → opened (Holds store) ≡ rest_of keeper store s
all_rest keeper store s settled told none start =
    let is = held_is keeper store settled told in
    let place : keeper.place ≡ 33 + length store.base.text = settled.reached store told ∙ ap (λ (n : ℕ). place_behind n store) none ∙ omega arith in
    let bodies : store.bodies ≡ drop keeper.records store.bodies = ap (λ (n : ℕ). drop n store.bodies) (sym none) in
    ap (opened_from store) (ap start_of is.0 ∙ start)
    ∙ ap (λ (f : Form). replayed f s.net (33 + length store.base.text) store.bodies store.torn s.snapshot) is.1
    ∙ ap (λ (n : ℕ). replayed keeper.form s.net n store.bodies store.torn s.snapshot) (sym place)
    ∙ ap (λ (l : List (List ℕ)). replayed keeper.form s.net keeper.place l store.torn s.snapshot) bodies

pub no_start : (keeper : KeeperState) (store : Store) → IsSettled keeper → keeper.held ≡ Some (Holds store) → start_of keeper.base ≡ None → opened (Holds store) ≡ IsNoStore
no_start keeper store settled told none = ap (opened_from store) (ap start_of (held_is keeper store settled told).0 ∙ none)

pub same_start : (net net' : List Decl) (s s' : Snapshot) → net ≡ net' → s ≡ s' → situation net s ≡ situation net' s'
same_start net net' s s' nets snapshots = ap (λ (d : List Decl). situation d s) nets ∙ ap (situation net') snapshots

-- what replaying answers is what opening answers
pub says_err : {X : Type 0} (view : X → Situation) (why : StoreFault) (found : Opened) → (IsErrOf {T = Unit {0}} {E = StoreFault} (Err why) NotAStore → ⊥)
    → ((p : ℕ) → IsErrOf {T = Unit {0}} {E = StoreFault} (Err why) (Damaged p) → found ≡ IsDamaged p) → Says view (Err why) found
says_err view NotAStore found never damaged = absurd (never refl)
says_err view (Damaged place) found never damaged = damaged place refl
says_err view Failed found never damaged = tt
says_err view Memory found never damaged = tt
