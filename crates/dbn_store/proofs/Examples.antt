-- Small stores, and what they stand for, computed.
use Rattle.std.proofs.Common.{◌≡◌, ℕ, ◌∙◌, ap, Bool, true, false, List, [], ◌∷◌, codes, Option, None, Some, refl}
use Rattle.dbn_value.specs.declared.member.Member.{Member}
use Rattle.dbn_net.specs.declared.rules.Pattern.{Pattern}
use Rattle.dbn_net.specs.declared.rules.Transition.{Transition}
use Rattle.dbn_net.specs.declared.decl.Place.TheVariants.{Control}
use Rattle.dbn_net.specs.declared.decl.Decl.{Decl}
use Rattle.dbn_net.specs.declared.decl.Decl.TheVariants.{Site, Trans}
use Rattle.dbn_net.specs.declared.snapshot.Snapshot.{Snapshot}
use Rattle.dbn_net.specs.Tables.{shapes}
use Rattle.dbn_codec.specs.Reading.{row_at, member_at, members_at, read_body, read_group}
use Rattle.dbn_keeper.specs.Files.{Store}
use Rattle.dbn_keeper.specs.Files.Folder.{NotMade, NotAStore}
use Rattle.dbn_keeper.specs.declared.base.Base.{Base}
use Rattle.dbn_keeper.specs.declared.opening.Form.{Form}
use Rattle.dbn_keeper.specs.declared.opening.Form.TheVariants.{One, Two}
use Rattle.dbn_store.specs.States.{Situation, situation}
use Rattle.dbn_store.specs.Folders.{Opened, opened_from, opened, members_in}
use Rattle.dbn_store.specs.Folders.Opened.{IsNotMade, IsNoStore, IsDamaged, Stands}

-- a place with one token, and a transition that takes one
abbrev token : Pattern
token = record { many = 1; terms = [] }

abbrev go : Transition
go = record {
  name = codes "go";
  ins = record { place = 0; patterns = token ∷ [] } ∷ [];
  reads = [];
  mixture = true ∷ [];
  guard = None;
  asked = [];
  fresh = [];
  call = None;
  outs = [];
  backs = [];
  bound = [];
}

abbrev net : List Decl
net = Site (Control (codes "P") []) ∷ Trans go ∷ []

abbrev before : Situation
before = situation net (record { instance = []; marking = (([], 1) ∷ []) ∷ []; next = 0; fired = 0 })

abbrev after : Situation
after = situation net (record { instance = []; marking = [] ∷ []; next = 0; fired = 1 })

-- its text has 49 bytes, so the first gate has place 82
base : Base
base = record { fired = 0; next = 0; text = codes "(place P)\n(transition go (in P (1)))\n(token P 1)\n" }

store : Form → List (List ℕ) → Bool → Store
store form bodies torn = record { form = form; base = base; generation = 1; bodies = bodies; torn = torn }

-- the number of the transition; and behind the number of members
abbrev old_body : List ℕ
old_body = 0 ∷ 0 ∷ []

abbrev new_body : List ℕ
new_body = 0 ∷ 1 ∷ 0 ∷ 0 ∷ []

nothing : (opened NotMade ≡ IsNotMade) × (opened NotAStore ≡ IsNoStore)
nothing = (refl, refl)

no_net : opened_from (store Two [] false) None ≡ IsNoStore
no_net = refl

no_record : opened_from (store Two [] false) (Some before) ≡ Stands before
unfolding store
no_record = refl

one_record : (opened_from (store One (old_body ∷ []) false) (Some before) ≡ Stands after) × (opened_from (store Two (new_body ∷ []) false) (Some before) ≡ Stands after)
unfolding store base read_body read_group row_at member_at members_at
one_record = (refl, refl)

-- torn behind a record of four bytes; no body of the other form; a group that is refused
damaged : (opened_from (store Two (new_body ∷ []) true) (Some before) ≡ IsDamaged 91) × (opened_from (store One (new_body ∷ []) false) (Some before) ≡ IsDamaged 82)
    × (opened_from (store Two (new_body ∷ new_body ∷ []) false) (Some before) ≡ IsDamaged 91)
unfolding store base read_body read_group row_at member_at members_at
damaged = (refl, refl, refl)
