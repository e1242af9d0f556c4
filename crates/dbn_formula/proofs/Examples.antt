-- The definitions, computed on small formulas.
use Rattle.std.proofs.Common.{◌≡◌, ℕ, true, false, [], ◌∷◌, refl, sym, ap, ◌∙◌, subst, inl, ⊎_elim, Some, None}
use Rattle.std.specs.Prelude.{pos}
use Rattle.dbn_value.specs.declared.value.Value.{Value}
use Rattle.dbn_value.specs.declared.value.Value.TheVariants.{Int, Text, Id}
use Rattle.dbn_value.specs.declared.value.ColType.TheVariants as col
use Rattle.dbn_value.specs.declared.term.Var.{Var}
use Rattle.dbn_value.specs.declared.term.Term.TheVariants as term
use Rattle.dbn_value.specs.declared.term.Cmp.TheVariants as cmp
use Rattle.dbn_formula.specs.declared.formula.Formula.{Formula}
use Rattle.dbn_formula.specs.declared.formula.Formula.TheVariants.{Atom, Test, And, Or, Not, Implies, Exists, Forall}
use Rattle.dbn_formula.specs.declared.typing.TypeFault.TheVariants.{Arity, TypeClash, Unbound}
use Rattle.dbn_formula.specs.Variables.{TypedVars}
use Rattle.dbn_value.specs.Members.{In}
use Rattle.dbn_formula.specs.Holds.{Instance}
use Rattle.dbn_formula.specs.Answers.{domain, answers}
use Rattle.dbn_formula.specs.Normal.{normal}
use Rattle.dbn_formula.specs.Free.{occurrences, free}
use Rattle.dbn_formula.specs.Size.{size}
use Rattle.dbn_formula.specs.Typing.{Shapes, type_fault}
use Rattle.dbn_formula.specs.Apart.{renamed}
use Rattle.dbn_formula.specs.Safe.{safe, arranged, query_safe, sentence_safe}
use Rattle.dbn_formula.specs.Solve.{chosen, solutions_over}
use Rattle.dbn_formula.specs.Solutions.{solvable, solutions, AcceptsQuery, AcceptsSentence}
use Rattle.dbn_formula.specs.Written.{written, relations, depth_of}
use Rattle.dbn_formula.proofs.HoldsLaws.{holds_laws}
use Rattle.dbn_formula.proofs.ConstantsLaws.{constants_laws}
use Rattle.dbn_formula.proofs.NormalLaws.{normal_laws}
use Rattle.dbn_formula.proofs.FreeLaws.{occurrences_laws}
use Rattle.dbn_formula.proofs.SizeLaws.{size_laws}
use Rattle.dbn_formula.proofs.TypingLaws.{typing_laws}
use Rattle.dbn_formula.proofs.ApartLaws.{apart_laws}
use Rattle.dbn_formula.proofs.SafeLaws.{safe_laws}
use Rattle.dbn_formula.proofs.SolveLaws.{solve_laws}
use Rattle.dbn_formula.proofs.WrittenLaws.{written_laws, relations_laws, depth_laws}
use Rattle.dbn_formula.proofs.VariableLaws.{bound_in}

-- variables of one letter, with mark 0 as in the text of a net, and renamed ones
abbrev named : ℕ → ℕ → Var
named letter mark = record { name = letter ∷ []; mark = mark }

abbrev e : Var
e = named 101 0

abbrev s : Var
s = named 115 0

abbrev t : Var
t = named 116 0

abbrev u : Var
u = named 117 0

abbrev x : Var
x = named 120 0

abbrev y : Var
y = named 121 0

abbrev int : ℕ → Value
int n = Int (pos n)

-- ---- and (R x) (not (R x)): no row

abbrev none : Formula
none = And (Atom 0 (term.Var x ∷ []) ∷ Not (Atom 0 (term.Var x ∷ [])) ∷ [])

none_answers : answers none ((x, col.Int) ∷ []) (((int 5 ∷ []) ∷ []) ∷ []) ≡ []
none_answers = simp (holds_laws, constants_laws) refl

none_free : free none ≡ x ∷ []
none_free = simp occurrences_laws refl

none_safe : safe none [] ≡ true
none_safe = simp (safe_laws, occurrences_laws) refl

-- ---- Emp 0, Skill 1, Has 2: who has all skills

abbrev all : Formula
all =
    And
    (Atom 0 (term.Var e ∷ [])
    ∷ Not (Exists ((s, col.Text) ∷ []) (And (Atom 1 (term.Var s ∷ []) ∷ Not (Atom 2 (term.Var e ∷ term.Var s ∷ [])) ∷ [])))
    ∷ [])

abbrev ann : Value
ann = Text (65 ∷ 110 ∷ 110 ∷ [])

abbrev saw : Value
saw = Text (115 ∷ 97 ∷ 119 ∷ [])

abbrev glue : Value
glue = Text (103 ∷ 108 ∷ 117 ∷ 101 ∷ [])

all_answers : answers all ((e, col.Text) ∷ []) (((ann ∷ []) ∷ []) ∷ ((saw ∷ []) ∷ []) ∷ ((ann ∷ saw ∷ []) ∷ []) ∷ []) ≡ (ann ∷ []) ∷ []
all_answers = simp (holds_laws, constants_laws) refl

all_lost : answers all ((e, col.Text) ∷ []) (((ann ∷ []) ∷ []) ∷ ((glue ∷ []) ∷ (saw ∷ []) ∷ []) ∷ ((ann ∷ saw ∷ []) ∷ []) ∷ []) ≡ []
all_lost = simp (holds_laws, constants_laws) refl

all_free : free all ≡ e ∷ []
all_free = simp occurrences_laws refl

all_typed : type_fault ((col.Text ∷ []) ∷ (col.Text ∷ []) ∷ (col.Text ∷ col.Text ∷ []) ∷ []) all ((e, col.Text) ∷ []) ≡ None
all_typed = simp (typing_laws, occurrences_laws) refl

all_safe : safe all [] ≡ true
all_safe = simp (safe_laws, occurrences_laws) refl

-- ---- exists y (R x y): the first column

abbrev firsts : Formula
firsts = Exists ((y, col.Int) ∷ []) (Atom 0 (term.Var x ∷ term.Var y ∷ []))

firsts_answers : answers firsts ((x, col.Int) ∷ []) (((int 1 ∷ int 2 ∷ []) ∷ (int 1 ∷ int 3 ∷ []) ∷ []) ∷ []) ≡ (int 1 ∷ []) ∷ []
firsts_answers = simp (holds_laws, constants_laws) refl

firsts_renamed : renamed firsts ≡ Exists ((named 121 1, col.Int) ∷ []) (Atom 0 (term.Var x ∷ term.Var (named 121 1) ∷ []))
firsts_renamed = simp apart_laws refl

-- as it is solved
abbrev firsts_apart : Formula
firsts_apart = Exists ((named 121 1, col.Int) ∷ []) (Atom 0 (term.Var x ∷ term.Var (named 121 1) ∷ []))

firsts_normal : normal firsts ≡ firsts
firsts_normal = simp normal_laws refl

firsts_arranged : arranged firsts_apart [] ≡ firsts_apart
firsts_arranged = simp (safe_laws, occurrences_laws) refl

firsts_solvable : solvable firsts ≡ firsts_apart
firsts_solvable = ap (λ f. arranged (renamed f) []) firsts_normal ∙ ap (λ f. arranged f []) firsts_renamed ∙ firsts_arranged

abbrev two_rows : Instance
two_rows = ((int 1 ∷ int 2 ∷ []) ∷ (int 3 ∷ int 4 ∷ []) ∷ []) ∷ []

-- each row gives a solution, which forgets the quantified variable
firsts_solved : solutions firsts two_rows ≡ ((x, int 1) ∷ []) ∷ ((x, int 3) ∷ []) ∷ []
unfolding chosen
firsts_solved = ap (λ f. solutions_over (domain firsts two_rows) two_rows f []) firsts_solvable ∙ simp (solve_laws, constants_laws) refl

firsts_apart_safe : safe firsts_apart [] ≡ true
firsts_apart_safe = simp (safe_laws, occurrences_laws) refl

firsts_safe : query_safe firsts ≡ true
firsts_safe = ap (λ f. safe (renamed f) []) firsts_normal ∙ ap (λ f. safe f []) firsts_renamed ∙ firsts_apart_safe

firsts_typed : type_fault ((col.Int ∷ col.Int ∷ []) ∷ []) firsts ((x, col.Int) ∷ []) ≡ None
firsts_typed = simp (typing_laws, occurrences_laws) refl

firsts_occur : occurrences firsts ≡ x ∷ []
firsts_occur = simp occurrences_laws refl

firsts_accepted : AcceptsQuery ((col.Int ∷ col.Int ∷ []) ∷ []) ((x, col.Int) ∷ []) firsts
firsts_accepted = record {
  typed = firsts_typed;
  once = refl;
  all_free = λ z b. let entry = bound_in ((x, col.Int) ∷ []) z b in
      subst (In z) (sym firsts_occur) (inl (entry.2 ∙ ⊎_elim (λ here. ap (λ v. v.0) here) (λ none. absurd none) entry.1));
  is_safe = firsts_safe;
}

-- ---- exists x y (R x y): a quantifier of two variables

abbrev pairs : Formula
pairs = Exists ((x, col.Int) ∷ (y, col.Int) ∷ []) (Atom 0 (term.Var x ∷ term.Var y ∷ []))

pairs_renamed : renamed pairs ≡ Exists ((named 120 1, col.Int) ∷ (named 121 2, col.Int) ∷ []) (Atom 0 (term.Var (named 120 1) ∷ term.Var (named 121 2) ∷ []))
pairs_renamed = simp apart_laws refl

pairs_free : free pairs ≡ []
pairs_free = simp occurrences_laws refl

pairs_size : size pairs ≡ 5
pairs_size = simp size_laws refl

pairs_some : answers pairs [] two_rows ≡ [] ∷ []
pairs_some = simp (holds_laws, constants_laws) refl

pairs_none : answers pairs [] ([] ∷ []) ≡ []
pairs_none = simp (holds_laws, constants_laws) refl

pairs_written : written pairs ≡ x ∷ y ∷ x ∷ y ∷ []
pairs_written = simp written_laws refl

pairs_relations : relations pairs ≡ 0 ∷ []
pairs_relations = simp relations_laws refl

-- (exists ((x int) (y int)) (R x y))
pairs_depth : depth_of pairs ≡ 3
pairs_depth = simp depth_laws refl

-- ---- Emp 0, Ticket 1, Resp 2: idle agents, and that a busy one has one ticket

abbrev idle : Formula
idle = And (Atom 0 (term.Var e ∷ []) ∷ Not (Exists ((t, col.Id) ∷ []) (Atom 2 (term.Var t ∷ term.Var e ∷ []))) ∷ [])

abbrev bob : Value
bob = Text (66 ∷ 111 ∷ 98 ∷ [])

idle_answers : answers idle ((e, col.Text) ∷ []) (((ann ∷ []) ∷ (bob ∷ []) ∷ []) ∷ [] ∷ ((Id 0 ∷ ann ∷ []) ∷ []) ∷ []) ≡ (bob ∷ []) ∷ []
idle_answers = simp (holds_laws, constants_laws) refl

idle_free : free idle ≡ e ∷ []
idle_free = simp occurrences_laws refl

idle_typed : type_fault ((col.Text ∷ []) ∷ (col.Id ∷ col.Text ∷ []) ∷ (col.Id ∷ col.Text ∷ []) ∷ []) idle ((e, col.Text) ∷ []) ≡ None
idle_typed = simp (typing_laws, occurrences_laws) refl

idle_safe : safe idle [] ≡ true
idle_safe = simp (safe_laws, occurrences_laws) refl

abbrev busy_vars : TypedVars
busy_vars = (t, col.Id) ∷ (u, col.Id) ∷ (e, col.Text) ∷ []

abbrev busy : Formula
busy =
    Forall busy_vars
    (Implies (And (Atom 2 (term.Var t ∷ term.Var e ∷ []) ∷ Atom 2 (term.Var u ∷ term.Var e ∷ []) ∷ [])) (Test cmp.Eq (term.Var t) (term.Var u)))

abbrev twice : Formula
twice =
    Exists busy_vars
    (And (And (Atom 2 (term.Var t ∷ term.Var e ∷ []) ∷ Atom 2 (term.Var u ∷ term.Var e ∷ []) ∷ []) ∷ Test cmp.Ne (term.Var t) (term.Var u) ∷ []))

busy_normal : normal busy ≡ Not twice
busy_normal = simp normal_laws refl

busy_denied : normal (Not busy) ≡ twice
busy_denied = simp normal_laws refl

busy_size : size busy ≡ 14
busy_size = simp size_laws refl

twice_safe : safe twice [] ≡ true
twice_safe = simp (safe_laws, occurrences_laws) refl

busy_free : free busy ≡ []
busy_free = simp occurrences_laws refl

busy_typed : type_fault ((col.Text ∷ []) ∷ (col.Id ∷ col.Text ∷ []) ∷ (col.Id ∷ col.Text ∷ []) ∷ []) busy [] ≡ None
busy_typed = simp (typing_laws, occurrences_laws) refl

busy_lost : answers busy [] ([] ∷ [] ∷ ((Id 0 ∷ ann ∷ []) ∷ (Id 1 ∷ ann ∷ []) ∷ []) ∷ []) ≡ []
busy_lost = simp (holds_laws, constants_laws) refl

busy_kept : answers busy [] ([] ∷ [] ∷ ((Id 0 ∷ ann ∷ []) ∷ (Id 1 ∷ bob ∷ []) ∷ []) ∷ []) ≡ [] ∷ []
busy_kept = simp (holds_laws, constants_laws) refl

abbrev twice_apart : Formula
twice_apart =
    Exists ((named 116 1, col.Id) ∷ (named 117 2, col.Id) ∷ (named 101 3, col.Text) ∷ [])
    (And
    (And (Atom 2 (term.Var (named 116 1) ∷ term.Var (named 101 3) ∷ []) ∷ Atom 2 (term.Var (named 117 2) ∷ term.Var (named 101 3) ∷ []) ∷ [])
    ∷ Test cmp.Ne (term.Var (named 116 1)) (term.Var (named 117 2))
    ∷ []))

twice_renamed : renamed twice ≡ twice_apart
twice_renamed = simp apart_laws refl

twice_apart_safe : safe twice_apart [] ≡ true
twice_apart_safe = simp (safe_laws, occurrences_laws) refl

busy_safe : sentence_safe busy ≡ true
busy_safe = ap (λ f. safe (renamed f) []) busy_denied ∙ ap (λ f. safe f []) twice_renamed ∙ twice_apart_safe

busy_accepted : AcceptsSentence ((col.Text ∷ []) ∷ (col.Id ∷ col.Text ∷ []) ∷ (col.Id ∷ col.Text ∷ []) ∷ []) busy
busy_accepted = record { typed = busy_typed; is_safe = busy_safe }

-- ---- what isn't safe

-- a part of `or` that leaves a variable of another part without a value
unsafe_or : safe (Or (Atom 0 (term.Var x ∷ []) ∷ Atom 1 (term.Var x ∷ term.Var y ∷ []) ∷ [])) [] ≡ false
unsafe_or = simp (safe_laws, occurrences_laws) refl

-- exists x (not (R x))
unsafe_denial : safe (Exists ((x, col.Int) ∷ []) (Not (Atom 0 (term.Var x ∷ [])))) [] ≡ false
unsafe_denial = simp (safe_laws, occurrences_laws) refl

-- nor is it as a sentence: its denial is tested, renamed apart
abbrev lone : Formula
lone = Exists ((x, col.Int) ∷ []) (Not (Atom 0 (term.Var x ∷ [])))

lone_denied : normal (Not lone) ≡ Not lone
lone_denied = simp normal_laws refl

abbrev lone_apart : Formula
lone_apart = Not (Exists ((named 120 1, col.Int) ∷ []) (Not (Atom 0 (term.Var (named 120 1) ∷ []))))

lone_renamed : renamed (Not lone) ≡ lone_apart
lone_renamed = simp apart_laws refl

lone_tested : safe lone_apart [] ≡ false
lone_tested = simp (safe_laws, occurrences_laws) refl

lone_refused : sentence_safe lone ≡ false
lone_refused = ap (λ f. safe (renamed f) []) lone_denied ∙ ap (λ f. safe f []) lone_renamed ∙ lone_tested

-- an equation between two variables of which none is bound
unsafe_equation : safe (Test cmp.Eq (term.Var x) (term.Var y)) [] ≡ false
unsafe_equation = simp safe_laws refl

-- a conjunct that is taken later
late_denial : safe (And (Not (Atom 0 (term.Var x ∷ [])) ∷ Atom 1 (term.Var x ∷ []) ∷ [])) [] ≡ true
late_denial = simp (safe_laws, occurrences_laws) refl

late_arranged : arranged (And (Not (Atom 0 (term.Var x ∷ [])) ∷ Atom 1 (term.Var x ∷ []) ∷ [])) [] ≡ And (Atom 1 (term.Var x ∷ []) ∷ Not (Atom 0 (term.Var x ∷ [])) ∷ [])
late_arranged = simp (safe_laws, occurrences_laws) refl

-- ---- a quantified variable that isn't free below still needs a value

abbrev vacuous : Formula
vacuous = And (Atom 0 (term.Var x ∷ []) ∷ Exists ((t, col.Text) ∷ []) (Atom 0 (term.Var x ∷ [])) ∷ [])

vacuous_none : answers vacuous ((x, col.Int) ∷ []) (((int 5 ∷ []) ∷ []) ∷ [] ∷ []) ≡ []
vacuous_none = simp (holds_laws, constants_laws) refl

vacuous_some : answers vacuous ((x, col.Int) ∷ []) (((int 5 ∷ []) ∷ []) ∷ ((ann ∷ []) ∷ []) ∷ []) ≡ (int 5 ∷ []) ∷ []
vacuous_some = simp (holds_laws, constants_laws) refl

-- ---- faults of types: the first in the order of kinds, wherever it stands

abbrev rels : Shapes
rels = (col.Int ∷ []) ∷ []

abbrev unbound_part : Formula
unbound_part = Atom 0 (term.Var y ∷ [])

abbrev clash_part : Formula
clash_part = Test cmp.Lt (term.Var x) (term.Const ann)

abbrev arity_part : Formula
arity_part = Atom 0 []

first_arity : type_fault rels (And (unbound_part ∷ clash_part ∷ arity_part ∷ [])) ((x, col.Int) ∷ []) ≡ Some Arity
first_arity = simp (typing_laws, occurrences_laws) refl

first_clash : type_fault rels (And (unbound_part ∷ clash_part ∷ [])) ((x, col.Int) ∷ []) ≡ Some TypeClash
first_clash = simp (typing_laws, occurrences_laws) refl

first_unbound : type_fault rels (Or (unbound_part ∷ [])) ((x, col.Int) ∷ []) ≡ Some Unbound
first_unbound = simp (typing_laws, occurrences_laws) refl

-- ---- an inner quantifier hides a variable of an outer one

abbrev hiding : Formula
hiding = And (Atom 0 (term.Var y ∷ []) ∷ Exists ((x, col.Int) ∷ []) (And (Atom 0 (term.Var x ∷ []) ∷ Exists ((x, col.Int) ∷ []) (Atom 0 (term.Var x ∷ [])) ∷ [])) ∷ Atom 0 (term.Var x ∷ []) ∷ [])

hiding_free : free hiding ≡ y ∷ x ∷ []
hiding_free = simp occurrences_laws refl

hiding_renamed :
    renamed hiding
    ≡ And
    (Atom 0 (term.Var y ∷ [])
    ∷ Exists ((named 120 1, col.Int) ∷ [])
    (And (Atom 0 (term.Var (named 120 1) ∷ []) ∷ Exists ((named 120 2, col.Int) ∷ []) (Atom 0 (term.Var (named 120 2) ∷ [])) ∷ []))
    ∷ Atom 0 (term.Var x ∷ [])
    ∷ [])
hiding_renamed = simp apart_laws refl

-- 1 and 2 are marks of the formula
marks_skipped : renamed (Exists ((x, col.Int) ∷ []) (Atom 0 (term.Var x ∷ term.Var (named 120 1) ∷ term.Var (named 121 2) ∷ [])))
    ≡ Exists ((named 120 3, col.Int) ∷ []) (Atom 0 (term.Var (named 120 3) ∷ term.Var (named 120 1) ∷ term.Var (named 121 2) ∷ []))
marks_skipped = simp apart_laws refl
