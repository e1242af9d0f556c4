-- Firings and groups, computed on small nets.
use Rattle.std.proofs.Common.{◌≡◌, ℕ, ◌∙◌, pos, Bool, true, false, List, [], ◌∷◌, refl, ap, Some, None, Ok, Err, codes}
use Rattle.std.specs.List.{list_all}
use Rattle.std.specs.Option.{option_map_or}
use Rattle.dbn_value.specs.declared.value.Value.{Value}
use Rattle.dbn_value.specs.declared.value.Value.TheVariants.{Int, Id}
use Rattle.dbn_value.specs.declared.value.ColType.TheVariants as col
use Rattle.dbn_value.specs.declared.term.Var.{Var}
use Rattle.dbn_value.specs.declared.term.Term.TheVariants as term
use Rattle.dbn_value.specs.declared.member.Member.{Member}
use Rattle.dbn_formula.specs.declared.formula.Formula.{Formula}
use Rattle.dbn_formula.specs.declared.formula.Formula.TheVariants.{Atom, Implies, Forall}
use Rattle.dbn_formula.specs.Answers.{holds}
use Rattle.dbn_formula.proofs.HoldsLaws.{holds_laws}
use Rattle.dbn_formula.proofs.ConstantsLaws.{constants_laws}
use Rattle.dbn_instance.specs.declared.fact.Action.{Action}
use Rattle.dbn_net.specs.declared.rules.Pattern.{Pattern}
use Rattle.dbn_net.specs.declared.rules.Arc.{Arc}
use Rattle.dbn_net.specs.declared.rules.Transition.{Transition}
use Rattle.dbn_net.specs.declared.decl.Place.TheVariants.{Control}
use Rattle.dbn_net.specs.declared.decl.Decl.{Decl}
use Rattle.dbn_net.specs.declared.decl.Decl.TheVariants.{Relation, Foreign, Act, Site, Trans}
use Rattle.dbn_net.specs.declared.snapshot.Snapshot.{Snapshot}
use Rattle.dbn_net.specs.Sentences.{first_var, sentences, consistent}
use Rattle.dbn_core.specs.declared.outcome.Fired.{Fired}
use Rattle.dbn_core.specs.declared.outcome.Outcome.TheVariants.{Committed, RolledBack}
use Rattle.dbn_core.specs.declared.outcome.Refusal.TheVariants.{Disabled, UnknownId, FreshEnd, FiringEnd, CountLimit}
use Rattle.dbn_core.specs.Fire.{Firing, fire, fire_at, fire_in, fire_env, commits, refusal, refusal_at}
use Rattle.dbn_core.specs.Group.{group}

abbrev x : Var
x = record { name = codes "x"; mark = 0 }

abbrev int : ℕ → Value
int n = Int (pos n)

abbrev token : Pattern
token = record { many = 1; terms = [] }

abbrev of_x : ℕ → Arc
of_x place = record { place = place; patterns = record { many = 1; terms = term.Var x ∷ [] } ∷ [] }

abbrev member : ℕ → List Value → Member
member t row = record { t = t; row = row }

-- ---- one token

abbrev go : Transition
go = record {
  name = codes "go";
  ins = record { place = 0; patterns = token ∷ [] } ∷ [];
  reads = [];
  mixture = true ∷ [];
  guard = None;
  asked = [];
  fresh = [];
  call = None;
  outs = [];
  backs = [];
  bound = [];
}

abbrev one_token : List Decl
one_token = Site (Control (codes "P") []) ∷ Trans go ∷ []

abbrev started : Snapshot
started = record { instance = []; marking = (([], 1) ∷ []) ∷ []; next = 0; fired = 0 }

abbrev ended : Snapshot
ended = record { instance = []; marking = [] ∷ []; next = 0; fired = 1 }

abbrev committed : Fired
committed = record { outcome = Committed; first = 0; many = 0 }

goes : fire_at one_token started 0 [] ≡ Ok (committed, ended)
goes = refl

goes_once : fire_at one_token ended 0 [] ≡ Err Disabled
goes_once = refl

group_of_one : group one_token started (member 0 [] ∷ []) ≡ Ok (committed ∷ [], ended)
group_of_one = refl

second_member : group one_token started (member 0 [] ∷ member 0 [] ∷ []) ≡ Err (1, Disabled)
second_member = refl

last_firing : refusal_at one_token (record { instance = []; marking = (([], 1) ∷ []) ∷ []; next = 0; fired = 4611686018427387904 }) 0 [] ≡ Some FiringEnd
last_firing = refl

-- ---- counts: from Q to P

abbrev up : Transition
up = record {
  name = codes "up";
  ins = record { place = 1; patterns = token ∷ [] } ∷ [];
  reads = [];
  mixture = true ∷ [];
  guard = None;
  asked = [];
  fresh = [];
  call = None;
  outs = record { place = 0; patterns = token ∷ [] } ∷ [];
  backs = [];
  bound = [];
}

abbrev counts : List Decl
counts = Site (Control (codes "P") []) ∷ Site (Control (codes "Q") []) ∷ Trans up ∷ []

abbrev held : ℕ → Snapshot
held n = record { instance = []; marking = (([], n) ∷ []) ∷ (([], 1) ∷ []) ∷ []; next = 0; fired = 0 }

full : fire_at counts (held 4294967295) 0 [] ≡ Err (CountLimit 0)
full = refl

nearly_full : fire_at counts (held 4294967294) 0 [] ≡ Ok (committed, record { instance = []; marking = (([], 4294967295) ∷ []) ∷ [] ∷ []; next = 0; fired = 1 })
nearly_full = refl

-- ---- asked and fresh ids

abbrev refer : Transition
refer = record {
  name = codes "refer";
  ins = record { place = 0; patterns = token ∷ [] } ∷ [];
  reads = [];
  mixture = true ∷ [];
  guard = None;
  asked = (x, col.Id) ∷ [];
  fresh = record { name = codes "n"; mark = 0 } ∷ [];
  call = None;
  outs = record { place = 1; patterns = record { many = 1; terms = term.Var x ∷ term.Var (record { name = codes "n"; mark = 0 }) ∷ [] } ∷ [] } ∷ [];
  backs = [];
  bound = [];
}

abbrev ids : List Decl
ids = Site (Control (codes "Ask") []) ∷ Site (Control (codes "Ref") (col.Id ∷ col.Id ∷ [])) ∷ Trans refer ∷ []

abbrev below : ℕ → Snapshot
below next = record { instance = []; marking = (([], 1) ∷ []) ∷ [] ∷ []; next = next; fired = 0 }

known_id : fire_at ids (below 5) 0 (Id 4 ∷ []) ≡ Ok (record { outcome = Committed; first = 5; many = 1 }, record { instance = []; marking = [] ∷ ((Id 4 ∷ Id 5 ∷ [], 1) ∷ []) ∷ []; next = 6; fired = 1 })
known_id = refl

next_id : fire_at ids (below 5) 0 (Id 5 ∷ []) ≡ Err UnknownId
next_id = refl

no_more_ids : refusal_at ids (below 4611686018427387904) 0 (Id 4 ∷ []) ≡ Some FreshEnd
no_more_ids = refl

-- ---- an action: each row of R is to have one of S

abbrev put : Action
put = record { name = codes "put"; params = (x, col.Int) ∷ []; deletes = []; adds = record { rel = 0; terms = term.Var x ∷ [] } ∷ [] }

abbrev bring : Transition
bring = record {
  name = codes "bring";
  ins = of_x 0 ∷ [];
  reads = [];
  mixture = true ∷ [];
  guard = None;
  asked = [];
  fresh = [];
  call = Some (record { action = 0; args = term.Var x ∷ [] });
  outs = of_x 1 ∷ [];
  backs = of_x 2 ∷ [];
  bound = (x, col.Int) ∷ [];
}

abbrev referring : List Decl
referring =
    Relation (codes "R") ((codes "x", col.Int) ∷ []) ∷ Relation (codes "S") ((codes "x", col.Int) ∷ []) ∷ Foreign 0 (0 ∷ []) 1 (0 ∷ [])
    ∷ Act put ∷ Site (Control (codes "P") (col.Int ∷ [])) ∷ Site (Control (codes "Q") (col.Int ∷ [])) ∷ Site (Control (codes "B") (col.Int ∷ []))
    ∷ Trans bring ∷ []

abbrev partnered : Formula
partnered = Forall ((first_var 0, col.Int) ∷ []) (Implies (Atom 0 (term.Var (first_var 0) ∷ [])) (Atom 1 (term.Var (first_var 0) ∷ [])))

one_sentence : sentences referring ≡ partnered ∷ []
one_sentence = refl

consistent_by : (db : List (List (List Value))) (b : Bool) → list_all (λ s. holds s db []) (partnered ∷ []) ≡ b → consistent referring db ≡ b
consistent_by db b is = ap (list_all (λ s. holds s db [])) one_sentence ∙ is

abbrev holding : Snapshot
holding = record { instance = [] ∷ ((int 5 ∷ []) ∷ []) ∷ []; marking = ((int 5 ∷ [], 1) ∷ (int 6 ∷ [], 1) ∷ []) ∷ [] ∷ [] ∷ []; next = 0; fired = 0 }

fires_as : (row : List Value) (b : Bool) (made : Firing) → commits referring (fire_env bring row 0) bring.call holding.instance ≡ b → refusal referring bring holding row ≡ None
    → fire_in referring bring holding row (fire_env bring row 0) b ≡ made → fire referring bring holding row ≡ made
fires_as row b made commit go is =
    ap (λ o. option_map_or (λ why. Err why) o (fire_in referring bring holding row (fire_env bring row 0) (commits referring (fire_env bring row 0) bring.call holding.instance))) go
    ∙ ap (λ c. fire_in referring bring holding row (fire_env bring row 0) c) commit ∙ is

commits_five : fire referring bring holding (int 5 ∷ [])
    ≡ Ok (committed, record { instance = ((int 5 ∷ []) ∷ []) ∷ ((int 5 ∷ []) ∷ []) ∷ []; marking = ((int 6 ∷ [], 1) ∷ []) ∷ ((int 5 ∷ [], 1) ∷ []) ∷ [] ∷ []; next = 0; fired = 1 })
commits_five = fires_as (int 5 ∷ []) true _ (consistent_by (((int 5 ∷ []) ∷ []) ∷ ((int 5 ∷ []) ∷ []) ∷ []) true (simp (holds_laws, constants_laws) refl)) refl refl

rolls_back_six : fire referring bring holding (int 6 ∷ [])
    ≡ Ok (record { outcome = RolledBack; first = 0; many = 0 }, record { instance = [] ∷ ((int 5 ∷ []) ∷ []) ∷ []; marking = ((int 5 ∷ [], 1) ∷ []) ∷ [] ∷ ((int 6 ∷ [], 1) ∷ []) ∷ []; next = 0; fired = 1 })
rolls_back_six = fires_as (int 6 ∷ []) false _ (consistent_by (((int 6 ∷ []) ∷ []) ∷ ((int 5 ∷ []) ∷ []) ∷ []) false (simp (holds_laws, constants_laws) refl)) refl refl
