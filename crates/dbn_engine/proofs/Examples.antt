-- Answers to firings and groups of a small net, computed.
use Rattle.std.proofs.Common.{◌≡◌, ℕ, true, false, List, [], ◌∷◌, codes, None, Some, refl}
use Rattle.dbn_value.specs.declared.member.Member.{Member}
use Rattle.dbn_net.specs.declared.rules.Pattern.{Pattern}
use Rattle.dbn_net.specs.declared.rules.Transition.{Transition}
use Rattle.dbn_net.specs.declared.decl.Place.TheVariants.{Control}
use Rattle.dbn_net.specs.declared.decl.Decl.{Decl}
use Rattle.dbn_net.specs.declared.decl.Decl.TheVariants.{Site, Trans}
use Rattle.dbn_codec.specs.Bodies.{member_bytes, group_body}
use Rattle.dbn_keeper.specs.declared.opening.Form.{Form}
use Rattle.dbn_keeper.specs.declared.opening.Form.TheVariants.{One, Two}
use Rattle.dbn_command.specs.declared.reply.Reply.TheVariants as reply
use Rattle.dbn_command.specs.declared.reply.MemberWhy.TheVariants as why
use Rattle.dbn_store.specs.States.{Situation, situation, RunState}
use Rattle.dbn_engine.specs.Steps.{answers, fire_answer, group_answer, is_due}

abbrev token : Pattern
token = record { many = 1; terms = [] }

-- it takes a token from the one place
abbrev go : Transition
go = record {
  name = codes "go";
  ins = record { place = 0; patterns = token ∷ [] } ∷ [];
  reads = [];
  mixture = true ∷ [];
  guard = None;
  asked = [];
  fresh = [];
  call = None;
  outs = [];
  backs = [];
  bound = [];
}

abbrev net : List Decl
net = Site (Control (codes "P") []) ∷ Trans go ∷ []

abbrev before : Situation
before = situation net (record { instance = []; marking = (([], 1) ∷ []) ∷ []; next = 0; fired = 0 })

abbrev after : Situation
after = situation net (record { instance = []; marking = [] ∷ []; next = 0; fired = 1 })

-- a store with this number of records, whose next gate has this place, and files of at most so many bytes
abbrev run : Situation → Form → ℕ → ℕ → ℕ → RunState
run now form place records cap = record { now = now; form = form; place = place; generation = 1; records = records; cap = Some cap }

abbrev member : Member
member = record { t = 0; row = [] }

-- the body has four bytes, and its record ends behind the next gate
fires : fire_answer (run before Two 82 0 92) 0 [] ≡ record { reply = Some (reply.Committed 0 1 0); next = run after Two 91 1 92; recorded = true }
unfolding member_bytes group_body
fires = refl

no_room : fire_answer (run before Two 82 0 91) 0 [] ≡ answers (run before Two 82 0 91) reply.StoreFull
unfolding member_bytes group_body
no_room = refl

-- in form one it has two
fires_in_form_one : fire_answer (run before One 82 0 90) 0 [] ≡ record { reply = Some (reply.Committed 0 1 0); next = run after One 89 1 90; recorded = true }
unfolding member_bytes group_body
fires_in_form_one = refl

-- what isn't enabled is refused before the room is looked at
refused_first : fire_answer (run after Two 91 1 91) 0 [] ≡ answers (run after Two 91 1 91) reply.Disabled
refused_first = refl

old_store : group_answer (run before One 82 0 1000) (member ∷ member ∷ []) ≡ answers (run before One 82 0 1000) reply.OldStore
old_store = refl

second_member : group_answer (run before Two 82 0 1000) (member ∷ member ∷ []) ≡ answers (run before Two 82 0 1000) (reply.Member 2 why.Disabled)
unfolding member_bytes group_body
second_member = refl

due : (is_due None (run after Two 91 1 92) ≡ false) × (is_due (Some 2) (run after Two 91 1 92) ≡ false) × (is_due (Some 1) (run after Two 91 1 92) ≡ true)
due = (refl, refl, refl)
