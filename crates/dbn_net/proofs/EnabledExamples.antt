-- Sentences, enabled rows and bindings, computed on small nets.
use Rattle.std.proofs.Common.{◌≡◌, ℕ, pos, true, false, List, [], ◌∷◌, refl, Some, None, codes}
use Rattle.dbn_value.specs.declared.value.Value.{Value}
use Rattle.dbn_value.specs.declared.value.Value.TheVariants.{Int, Text, Id}
use Rattle.dbn_value.specs.declared.value.ColType.TheVariants as col
use Rattle.dbn_value.specs.declared.term.Var.{Var}
use Rattle.dbn_value.specs.declared.term.Term.TheVariants as term
use Rattle.dbn_value.specs.declared.term.Cmp.TheVariants as cmp
use Rattle.dbn_formula.specs.declared.formula.Formula.{Formula}
use Rattle.dbn_formula.specs.declared.formula.Formula.TheVariants.{Atom, Test, And, Not, Implies, Exists, Forall}
use Rattle.dbn_formula.proofs.HoldsLaws.{holds_laws, holds_test}
use Rattle.dbn_formula.proofs.ConstantsLaws.{constants_laws}
use Rattle.dbn_net.specs.declared.rules.Pattern.{Pattern}
use Rattle.dbn_net.specs.declared.rules.Transition.{Transition}
use Rattle.dbn_net.specs.declared.decl.Place.TheVariants.{Control, View}
use Rattle.dbn_net.specs.declared.decl.Decl.{Decl}
use Rattle.dbn_net.specs.declared.decl.Decl.TheVariants.{Relation, Key, Foreign, Always, Query, Site, Trans}
use Rattle.dbn_net.specs.Sentences.{first_var, second_var, sentences}
use Rattle.dbn_net.specs.Values.{Marking, next_after}
use Rattle.dbn_net.specs.Enabled.{shown, bound_env, guard_holds, enabled, bindings}

abbrev named : ℕ → Var
named letter = record { name = letter ∷ []; mark = 0 }

abbrev e : Var
e = named 101

abbrev t : Var
t = named 116

abbrev u : Var
u = named 117

abbrev x : Var
x = named 120

abbrev y : Var
y = named 121

abbrev int : ℕ → Value
int n = Int (pos n)

abbrev ann : Value
ann = Text (codes "Ann")

abbrev bob : Value
bob = Text (codes "Bob")

abbrev one : Var → Pattern
one v = record { many = 1; terms = term.Var v ∷ [] }

-- ---- two patterns on one place are summed

abbrev two : Transition
two = record {
  name = codes "two";
  ins = record { place = 0; patterns = one x ∷ one y ∷ [] } ∷ [];
  reads = [];
  mixture = true ∷ [];
  guard = None;
  asked = [];
  fresh = [];
  call = None;
  outs = [];
  backs = [];
  bound = (x, col.Int) ∷ (y, col.Int) ∷ [];
}

abbrev pair : List Decl
pair = Site (Control (codes "P") (col.Int ∷ [])) ∷ Trans two ∷ []

one_token : enabled pair two [] (((int 5 ∷ [], 1) ∷ []) ∷ []) (int 5 ∷ int 5 ∷ []) ≡ false
one_token = refl

two_tokens : enabled pair two [] (((int 5 ∷ [], 2) ∷ []) ∷ []) (int 5 ∷ int 5 ∷ []) ≡ true
two_tokens = refl

two_rows : bindings pair two [] (((int 5 ∷ [], 1) ∷ (int 7 ∷ [], 1) ∷ []) ∷ []) ≡ (int 5 ∷ int 7 ∷ []) ∷ (int 7 ∷ int 5 ∷ []) ∷ []
two_rows = refl

-- ---- a guard

abbrev up : Transition
up = record {
  name = codes "up";
  ins = record { place = 0; patterns = one x ∷ one y ∷ [] } ∷ [];
  reads = [];
  mixture = true ∷ [];
  guard = Some (Test cmp.Lt (term.Var x) (term.Var y));
  asked = [];
  fresh = [];
  call = None;
  outs = record { place = 1; patterns = one y ∷ [] } ∷ [];
  backs = [];
  bound = (x, col.Int) ∷ (y, col.Int) ∷ [];
}

abbrev below : Formula
below = Test cmp.Lt (term.Var x) (term.Var y)

ordered : guard_holds below (bound_env up (int 2 ∷ int 3 ∷ [])) ≡ true
ordered = holds_test (λ type. []) [] cmp.Lt (term.Var x) (term.Var y) (bound_env up (int 2 ∷ int 3 ∷ []))

turned : guard_holds below (bound_env up (int 3 ∷ int 2 ∷ [])) ≡ false
turned = holds_test (λ type. []) [] cmp.Lt (term.Var x) (term.Var y) (bound_env up (int 3 ∷ int 2 ∷ []))

-- ---- asked values play no part

abbrev note : Transition
note = record {
  name = codes "note";
  ins = record { place = 0; patterns = one x ∷ [] } ∷ [];
  reads = [];
  mixture = true ∷ [];
  guard = None;
  asked = (y, col.Text) ∷ [];
  fresh = [];
  call = None;
  outs = [];
  backs = [];
  bound = (x, col.Int) ∷ [];
}

abbrev asking : List Decl
asking = Site (Control (codes "Ask") (col.Int ∷ [])) ∷ Trans note ∷ []

abbrev asks : Marking
asks = ((int 1 ∷ [], 2) ∷ (int 2 ∷ [], 1) ∷ []) ∷ []

asked_row : enabled asking note [] asks (int 1 ∷ Text (codes "yes") ∷ []) ≡ true
asked_row = refl

bound_rows : bindings asking note [] asks ≡ (int 1 ∷ []) ∷ (int 2 ∷ []) ∷ []
bound_rows = refl

-- ---- a place with as many tokens as there may be: what a firing puts out is no part of being enabled

abbrev no_terms : Pattern
no_terms = record { many = 1; terms = [] }

abbrev lift : Transition
lift = record {
  name = codes "lift";
  ins = record { place = 1; patterns = no_terms ∷ [] } ∷ [];
  reads = [];
  mixture = true ∷ [];
  guard = None;
  asked = [];
  fresh = [];
  call = None;
  outs = record { place = 0; patterns = no_terms ∷ [] } ∷ [];
  backs = [];
  bound = [];
}

abbrev full : List Decl
full = Site (Control (codes "P") []) ∷ Site (Control (codes "Q") []) ∷ Trans lift ∷ []

full_enabled : enabled full lift [] ((([], 4294967295) ∷ []) ∷ (([], 1) ∷ []) ∷ []) [] ≡ true
full_enabled = refl

full_bound : bindings full lift [] ((([], 4294967295) ∷ []) ∷ (([], 1) ∷ []) ∷ []) ≡ [] ∷ []
full_bound = refl

-- ---- tickets: keys, foreign keys, a sentence, and idle agents by a view

abbrev idle : Formula
idle = And (Atom 0 (term.Var e ∷ []) ∷ Not (Exists ((t, col.Id) ∷ []) (Atom 2 (term.Var t ∷ term.Var e ∷ []))) ∷ [])

-- no agent has two tickets
abbrev busy : Formula
busy =
    Forall ((t, col.Id) ∷ (u, col.Id) ∷ (e, col.Text) ∷ [])
    (Implies (And (Atom 2 (term.Var t ∷ term.Var e ∷ []) ∷ Atom 2 (term.Var u ∷ term.Var e ∷ []) ∷ [])) (Test cmp.Eq (term.Var t) (term.Var u)))

abbrev assign : Transition
assign = record {
  name = codes "assign";
  ins = record { place = 0; patterns = one t ∷ [] } ∷ [];
  reads = record { view = 1; terms = term.Var e ∷ [] } ∷ [];
  mixture = true ∷ false ∷ [];
  guard = None;
  asked = [];
  fresh = [];
  call = None;
  outs = [];
  backs = [];
  bound = (t, col.Id) ∷ (e, col.Text) ∷ [];
}

abbrev tickets : List Decl
tickets =
    Relation (codes "Emp") ((codes "e", col.Text) ∷ []) ∷ Relation (codes "Ticket") ((codes "t", col.Id) ∷ (codes "d", col.Text) ∷ [])
    ∷ Relation (codes "Resp") ((codes "t", col.Id) ∷ (codes "e", col.Text) ∷ [])
    ∷ Key 1 (0 ∷ []) ∷ Key 2 (0 ∷ []) ∷ Foreign 2 (0 ∷ []) 1 (0 ∷ []) ∷ Foreign 2 (1 ∷ []) 0 (0 ∷ [])
    ∷ Always (codes "busy") busy ∷ Query (codes "idle") ((e, col.Text) ∷ []) idle
    ∷ Site (Control (codes "Wait") (col.Id ∷ [])) ∷ Site (View (codes "Idle") 0) ∷ Trans assign ∷ []

-- two rows with one ticket have one text
abbrev by_ticket : ℕ → Formula
by_ticket rel =
    Forall ((first_var 0, col.Id) ∷ (first_var 1, col.Text) ∷ (second_var 0, col.Id) ∷ (second_var 1, col.Text) ∷ [])
    (Implies
    (And (Atom rel (term.Var (first_var 0) ∷ term.Var (first_var 1) ∷ []) ∷ Test cmp.Eq (term.Var (first_var 0)) (term.Var (second_var 0)) ∷ Atom rel (term.Var (second_var 0) ∷ term.Var (second_var 1) ∷ []) ∷ []))
    (And (Test cmp.Eq (term.Var (first_var 0)) (term.Var (second_var 0)) ∷ Test cmp.Eq (term.Var (first_var 1)) (term.Var (second_var 1)) ∷ [])))

-- what an agent has is a ticket
abbrev of_ticket : Formula
of_ticket =
    Forall ((first_var 0, col.Id) ∷ (first_var 1, col.Text) ∷ [])
    (Implies (Atom 2 (term.Var (first_var 0) ∷ term.Var (first_var 1) ∷ []))
    (Exists ((second_var 1, col.Text) ∷ []) (Atom 1 (term.Var (first_var 0) ∷ term.Var (second_var 1) ∷ []))))

-- each agent is an employee
abbrev of_agent : Formula
of_agent =
    Forall ((first_var 0, col.Id) ∷ (first_var 1, col.Text) ∷ [])
    (Implies (Atom 2 (term.Var (first_var 0) ∷ term.Var (first_var 1) ∷ [])) (Atom 0 (term.Var (first_var 1) ∷ [])))

ticket_sentences : sentences tickets ≡ by_ticket 1 ∷ by_ticket 2 ∷ of_ticket ∷ of_agent ∷ busy ∷ []
ticket_sentences = refl

abbrev ann_busy : List (List (List Value))
ann_busy = ((ann ∷ []) ∷ (bob ∷ []) ∷ []) ∷ [] ∷ ((Id 0 ∷ ann ∷ []) ∷ []) ∷ []

abbrev waiting : Marking
waiting = ((Id 3 ∷ [], 1) ∷ []) ∷ [] ∷ []

idle_shown : shown tickets ann_busy waiting 1 ≡ (bob ∷ [], 1) ∷ []
idle_shown = simp (holds_laws, constants_laws) refl

assigned : bindings tickets assign ann_busy waiting ≡ (Id 3 ∷ bob ∷ []) ∷ []
assigned = simp (holds_laws, constants_laws) refl

next_id : next_after tickets ann_busy waiting ≡ 4
next_id = simp constants_laws refl

-- two tickets wait and nobody is busy: each pair, texts in the order of their bytes
abbrev zoe : Value
zoe = Text (codes "Zoe")

abbrev eva : Value
eva = Text (195 ∷ 137 ∷ 118 ∷ 97 ∷ [])

abbrev both_idle : List (List (List Value))
both_idle = ((zoe ∷ []) ∷ (eva ∷ []) ∷ []) ∷ [] ∷ [] ∷ []

abbrev two_waiting : Marking
two_waiting = ((Id 0 ∷ [], 1) ∷ (Id 1 ∷ [], 1) ∷ []) ∷ [] ∷ []

each_pair : bindings tickets assign both_idle two_waiting
    ≡ (Id 0 ∷ zoe ∷ []) ∷ (Id 0 ∷ eva ∷ []) ∷ (Id 1 ∷ zoe ∷ []) ∷ (Id 1 ∷ eva ∷ []) ∷ []
each_pair = simp (holds_laws, constants_laws) refl
