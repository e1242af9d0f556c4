-- Declarations as S-expressions: the way back from what is read. All stand on line 0.
use Rattle.std.specs.Prelude.{List, [], ◌∷◌, ◌++◌, map, Option, Some, None, codes}
use Rattle.dbn_value.specs.declared.value.Value.{Value}
use Rattle.dbn_value.specs.declared.value.Value.TheVariants as value
use Rattle.dbn_value.specs.declared.value.ColType.{ColType}
use Rattle.dbn_value.specs.declared.value.ColType.TheVariants as col
use Rattle.dbn_value.specs.declared.term.Var.{Var}
use Rattle.dbn_value.specs.declared.term.Term.{Term}
use Rattle.dbn_value.specs.declared.term.Term.TheVariants as term
use Rattle.dbn_value.specs.declared.term.Cmp.{Cmp}
use Rattle.dbn_value.specs.declared.term.Cmp.TheVariants as cmp
use Rattle.dbn_sexp.specs.declared.sexp.Sexp.{Sexp}
use Rattle.dbn_sexp.specs.declared.sexp.Item.{Item}
use Rattle.dbn_sexp.specs.declared.sexp.Item.TheVariants as item
use Rattle.dbn_sexp.specs.Printing.{on_line}
use Rattle.dbn_net.specs.declared.written.WrittenFormula.{WrittenFormula}
use Rattle.dbn_net.specs.declared.written.WrittenFormula.TheOpen.{WrittenFormula-F}
use Rattle.dbn_net.specs.declared.written.WrittenFormula.TheOpen as layer
use Rattle.dbn_net.specs.declared.written.WrittenFormula.TheFolds.{fold-WrittenFormula}
use Rattle.dbn_net.specs.declared.written.WrittenAtom.{WrittenAtom}
use Rattle.dbn_net.specs.declared.written.WrittenPattern.{WrittenPattern}
use Rattle.dbn_net.specs.declared.written.WrittenArc.{WrittenArc}
use Rattle.dbn_net.specs.declared.written.WrittenInput.{WrittenInput}
use Rattle.dbn_net.specs.declared.written.WrittenInput.TheVariants.{In, Read}
use Rattle.dbn_net.specs.declared.written.WrittenTransition.{WrittenTransition}
use Rattle.dbn_net.specs.declared.written.Written.{Written}
use Rattle.dbn_net.specs.declared.written.Written.TheVariants.{Relation, Key, Foreign, Always, Query, Action, Control, View, Transition, Fact, Token}
use Rattle.dbn_net.specs.Forms.{Name}

-- ---- parts

abbrev pub on_no_line : Item → Sexp
on_no_line one = record { line = 0; item = one }

-- the same with all lines 0
abbrev pub no_lines : Sexp → Sexp
no_lines one = on_no_line (on_line 0 one.item)

abbrev pub word : Name → Sexp
word name = on_no_line (item.Name name)

abbrev pub constant : Value → Sexp
constant v = on_no_line (item.Const v)

abbrev pub list : List Sexp → Sexp
list parts = on_no_line (item.List parts)

-- a list with a first word
abbrev pub form : Name → List Sexp → Sexp
form first parts = list (word first ∷ parts)

abbrev pub variable_sexp : Var → Sexp
variable_sexp x = word x.name

abbrev pub term_sexp : Term → Sexp
term_sexp (term.Var x) = variable_sexp x
term_sexp (term.Const v) = constant v

abbrev pub type_word : ColType → Name
type_word col.Int = codes "int"
type_word col.Text = codes "text"
type_word col.Id = codes "id"

abbrev pub type_sexp : ColType → Sexp
type_sexp type = word (type_word type)

abbrev pub typed_sexp : Name × ColType → Sexp
typed_sexp x = list (word x.0 ∷ type_sexp x.1 ∷ [])

abbrev pub typed_variable_sexp : Var × ColType → Sexp
typed_variable_sexp x = typed_sexp (x.0.name, x.1)

abbrev pub scope_sexp : List (Var × ColType) → Sexp
scope_sexp vars = list (map typed_variable_sexp vars)

abbrev pub names_sexp : List Name → Sexp
names_sexp names = list (map word names)

-- ---- formulas

abbrev pub comparison_word : Cmp → Name
comparison_word cmp.Eq = codes "="
comparison_word cmp.Ne = codes "!="
comparison_word cmp.Lt = codes "<"
comparison_word cmp.Le = codes "<="
comparison_word cmp.Gt = codes ">"
comparison_word cmp.Ge = codes ">="

abbrev pub formula_step : WrittenFormula-F Sexp → Sexp
formula_step (layer.Atom rel terms) = form rel (map term_sexp terms)
formula_step (layer.Test cmp left right) = form (comparison_word cmp) (term_sexp left ∷ term_sexp right ∷ [])
formula_step (layer.And parts) = form (codes "and") parts
formula_step (layer.Or parts) = form (codes "or") parts
formula_step (layer.Not part) = form (codes "not") (part ∷ [])
formula_step (layer.Implies left right) = form (codes "implies") (left ∷ right ∷ [])
formula_step (layer.Exists vars body) = form (codes "exists") (scope_sexp vars ∷ body ∷ [])
formula_step (layer.Forall vars body) = form (codes "forall") (scope_sexp vars ∷ body ∷ [])

unfoldable pub formula_sexp : WrittenFormula → Sexp
formula_sexp p = fold-WrittenFormula Sexp formula_step p

-- ---- clauses

abbrev pub written_atom_parts : WrittenAtom → List Sexp
written_atom_parts g = word g.name ∷ map term_sexp g.terms

abbrev pub written_atom_sexp : WrittenAtom → Sexp
written_atom_sexp g = list (written_atom_parts g)

abbrev pub written_pattern_sexp : WrittenPattern → Sexp
written_pattern_sexp h = list (constant (value.Int h.many) ∷ map term_sexp h.terms)

abbrev pub written_arc_parts : WrittenArc → List Sexp
written_arc_parts p = word p.place ∷ map written_pattern_sexp p.patterns

abbrev pub input_sexp : WrittenInput → Sexp
input_sexp (In p) = form (codes "in") (written_arc_parts p)
input_sexp (Read g) = form (codes "read") (written_atom_parts g)

abbrev pub guard_sexps : Option WrittenFormula → List Sexp
guard_sexps None = []
guard_sexps (Some p) = form (codes "guard") (formula_sexp p ∷ []) ∷ []

abbrev pub ask_sexps : List (Var × ColType) → List Sexp
ask_sexps [] = []
ask_sexps (x ∷ vars) = form (codes "ask") (map typed_variable_sexp (x ∷ vars)) ∷ []

abbrev pub fresh_sexps : List Var → List Sexp
fresh_sexps [] = []
fresh_sexps (x ∷ vars) = form (codes "fresh") (map variable_sexp (x ∷ vars)) ∷ []

abbrev pub call_sexps : Option WrittenAtom → List Sexp
call_sexps None = []
call_sexps (Some g) = form (codes "do") (written_atom_parts g) ∷ []

-- the name and the clauses
abbrev pub written_transition_parts : WrittenTransition → List Sexp
written_transition_parts r =
    word r.name
    ∷ map input_sexp r.inputs
    ++ guard_sexps r.guard
    ++ ask_sexps r.asked
    ++ fresh_sexps r.fresh
    ++ call_sexps r.call
    ++ map (λ p. form (codes "out") (written_arc_parts p)) r.outs
    ++ map (λ p. form (codes "back") (written_arc_parts p)) r.backs

-- ---- declarations

abbrev pub sexp_of : Written → Sexp
sexp_of (Relation name fields) = form (codes "relation") (word name ∷ map typed_sexp fields)
sexp_of (Key rel fields) = form (codes "key") (word rel ∷ map word fields)
sexp_of (Foreign rel fields to to_fields) = form (codes "foreign") (word rel ∷ names_sexp fields ∷ word to ∷ names_sexp to_fields ∷ [])
sexp_of (Always name body) = form (codes "always") (word name ∷ formula_sexp body ∷ [])
sexp_of (Query name vars body) = form (codes "query") (word name ∷ scope_sexp vars ∷ formula_sexp body ∷ [])
sexp_of (Action name params deletes adds) =
    form (codes "action")
    (word name ∷ scope_sexp params ∷ form (codes "delete") (map written_atom_sexp deletes) ∷ form (codes "add") (map written_atom_sexp adds) ∷ [])
sexp_of (Control name shape) = form (codes "place") (word name ∷ map type_sexp shape)
sexp_of (View name query) = form (codes "view") (word name ∷ word query ∷ [])
sexp_of (Transition r) = form (codes "transition") (written_transition_parts r)
sexp_of (Fact rel row) = form (codes "fact") (word rel ∷ map constant row)
sexp_of (Token place many row) = form (codes "token") (word place ∷ constant (value.Int many) ∷ map constant row)
