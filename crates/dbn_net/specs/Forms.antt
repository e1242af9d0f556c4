-- The declarations that S-expressions are. `X_in` reads one S-expression, `X_of` the parts of a list; each gives nothing where
-- it is none. `word` is the first name of a list, which tells what the list is.
use Rattle.std.specs.Prelude.{ℕ, zero, suc, ℤ, Bool, true, false, ◌&&◌, ◌||◌, ◌==◌, nat_lt, if◌then◌else◌, List, [], ◌∷◌, ◌++◌, Option, Some, None, codes, bytes_eq}
use Rattle.std.specs.Option.{option_map}
use Rattle.std.specs.List.{list_all}
use Rattle.dbn_value.specs.Text.{is_identifier}
use Rattle.dbn_value.specs.declared.value.Value.{Value}
use Rattle.dbn_value.specs.declared.value.Value.TheVariants as value
use Rattle.dbn_value.specs.declared.value.ColType.{ColType}
use Rattle.dbn_value.specs.declared.value.ColType.TheVariants as col
use Rattle.dbn_value.specs.declared.term.Var.{Var}
use Rattle.dbn_value.specs.declared.term.Term.{Term}
use Rattle.dbn_value.specs.declared.term.Term.TheVariants as term
use Rattle.dbn_value.specs.declared.term.Cmp.{Cmp}
use Rattle.dbn_value.specs.declared.term.Cmp.TheVariants as cmp
use Rattle.dbn_sexp.specs.declared.sexp.Sexp.{Sexp}
use Rattle.dbn_net.specs.declared.written.WrittenFormula.{WrittenFormula}
use Rattle.dbn_net.specs.declared.written.WrittenFormula.TheVariants as written_formula
use Rattle.dbn_net.specs.declared.written.WrittenFormula.TheOpen.{WrittenFormula-F}
use Rattle.dbn_net.specs.declared.written.WrittenFormula.TheOpen as layer
use Rattle.dbn_net.specs.declared.written.WrittenFormula.TheFolds.{fold-WrittenFormula}
use Rattle.dbn_net.specs.declared.written.WrittenAtom.{WrittenAtom}
use Rattle.dbn_net.specs.declared.written.WrittenPattern.{WrittenPattern}
use Rattle.dbn_net.specs.declared.written.WrittenArc.{WrittenArc}
use Rattle.dbn_net.specs.declared.written.WrittenInput.TheVariants as input
use Rattle.dbn_net.specs.declared.written.WrittenTransition.{WrittenTransition}
use Rattle.dbn_net.specs.declared.written.WrittenClause.{WrittenClause}
use Rattle.dbn_net.specs.declared.written.WrittenClause.TheVariants.{Inputs, Guards, Asks, Draws, Calls, Puts, Returns}
use Rattle.dbn_net.specs.declared.written.Written.{Written}
use Rattle.dbn_net.specs.declared.written.Written.TheVariants as written
use Rattle.dbn_net.specs.Maybe.{◌>>=◌, each, some, or_else, only_if}
use Rattle.dbn_sexp.specs.Parts.{word_in, constant_in, list_in}

abbrev pub Name : Type 0
Name = List ℕ

-- ---- words, names, terms and types

abbrev pub is_word : Name → Name → Bool
is_word word other = bytes_eq word other

-- what is read of the parts behind the first name
abbrev pub with_word : {A : Type 0} → (Name → List Sexp → Option A) → List Sexp → Option A
with_word read [] = None
with_word read (head ∷ parts) = word_in head >>= λ word. read word parts

-- a name that is no operator
abbrev pub name_in : Sexp → Option Name
name_in one = word_in one >>= λ name. only_if (is_identifier name) name

-- variables of a text have the mark 0
abbrev pub variable : Name → Var
variable name = record { name = name; mark = 0 }

abbrev pub variable_in : Sexp → Option Var
variable_in one = name_in one >>= λ name. Some (variable name)

abbrev pub term_in : Sexp → Option Term
term_in one = or_else (variable_in one >>= λ x. Some (term.Var x)) (constant_in one >>= λ v. Some (term.Const v))

abbrev pub type_of : Name → Option ColType
type_of word =
    if is_word word (codes "int") then Some col.Int
    else if is_word word (codes "text") then Some col.Text
    else if is_word word (codes "id") then Some col.Id
    else None

abbrev pub type_in : Sexp → Option ColType
type_in one = word_in one >>= type_of

-- (f type)
abbrev pub typed_of : List Sexp → Option (Name × ColType)
typed_of (a ∷ b ∷ []) = name_in a >>= λ name. type_in b >>= λ type. Some (name, type)
typed_of parts = None

abbrev pub typed_in : Sexp → Option (Name × ColType)
typed_in one = list_in one >>= typed_of

abbrev pub typed_variable_in : Sexp → Option (Var × ColType)
typed_variable_in one = typed_in one >>= λ x. Some (variable x.0, x.1)

-- ((x type)..)
abbrev pub scope_in : Sexp → Option (List (Var × ColType))
scope_in one = list_in one >>= each typed_variable_in

-- ((x type)..+)
abbrev pub some_scope_in : Sexp → Option (List (Var × ColType))
some_scope_in one = scope_in one >>= some

abbrev pub int_of : Value → Option ℤ
int_of (value.Int n) = Some n
int_of (value.Text bytes) = None
int_of (value.Id n) = None

abbrev pub int_in : Sexp → Option ℤ
int_in one = constant_in one >>= int_of

-- ---- formulas

abbrev pub is_connective : Name → Bool
is_connective word =
    is_word word (codes "and") || is_word word (codes "or") || is_word word (codes "not")
    || is_word word (codes "implies") || is_word word (codes "exists") || is_word word (codes "forall")

abbrev pub comparison_of : Name → Option Cmp
comparison_of word =
    if is_word word (codes "=") then Some cmp.Eq
    else if is_word word (codes "!=") then Some cmp.Ne
    else if is_word word (codes "<") then Some cmp.Lt
    else if is_word word (codes "<=") then Some cmp.Le
    else if is_word word (codes ">") then Some cmp.Gt
    else if is_word word (codes ">=") then Some cmp.Ge
    else None

abbrev pub test_of : Cmp → List Sexp → Option WrittenFormula
test_of c (a ∷ b ∷ []) = term_in a >>= λ left. term_in b >>= λ right. Some (written_formula.Test c left right)
test_of c parts = None

abbrev pub atom_of : Name → List Sexp → Option WrittenFormula
atom_of word parts = if is_identifier word then option_map (written_formula.Atom word) (each term_in parts) else None

abbrev pub compared_or_atom : Option Cmp → Name → List Sexp → Option WrittenFormula
compared_or_atom None word parts = atom_of word parts
compared_or_atom (Some c) word parts = test_of c parts

-- `read` reads a part
abbrev pub one_of : (Sexp → Option WrittenFormula) → List Sexp → Option WrittenFormula
one_of read (a ∷ []) = read a
one_of read parts = None

abbrev pub two_of : (Sexp → Option WrittenFormula) → List Sexp → Option (WrittenFormula × WrittenFormula)
two_of read (a ∷ b ∷ []) = read a >>= λ p. read b >>= λ q. Some (p, q)
two_of read parts = None

abbrev pub quantified_of : (Sexp → Option WrittenFormula) → List Sexp → Option (List (Var × ColType) × WrittenFormula)
quantified_of read (a ∷ b ∷ []) = some_scope_in a >>= λ vars. read b >>= λ p. Some (vars, p)
quantified_of read parts = None

abbrev pub connected : (Sexp → Option WrittenFormula) → Name → List Sexp → Option WrittenFormula
connected read word parts =
    if is_word word (codes "and") then option_map written_formula.And (each read parts)
    else if is_word word (codes "or") then option_map written_formula.Or (each read parts)
    else if is_word word (codes "not") then option_map written_formula.Not (one_of read parts)
    else if is_word word (codes "implies") then option_map (λ q. written_formula.Implies q.0 q.1) (two_of read parts)
    else if is_word word (codes "exists") then option_map (λ q. written_formula.Exists q.0 q.1) (quantified_of read parts)
    else option_map (λ q. written_formula.Forall q.0 q.1) (quantified_of read parts)

abbrev pub formula_of : (Sexp → Option WrittenFormula) → Name → List Sexp → Option WrittenFormula
formula_of read word parts = if is_connective word then connected read word parts else compared_or_atom (comparison_of word) word parts

-- a formula that nests no deeper; a text nests at most 64 deep
unfoldable pub formula_in : ℕ → Sexp → Option WrittenFormula
formula_in zero one = None
formula_in (suc depth) one = list_in one >>= with_word (formula_of (formula_in depth))

abbrev pub body_in : Sexp → Option WrittenFormula
body_in one = formula_in 64 one

-- ---- clauses of a transition

-- R t.. , V t.. , a t..
abbrev pub written_atom_of : List Sexp → Option WrittenAtom
written_atom_of [] = None
written_atom_of (a ∷ parts) = name_in a >>= λ name. each term_in parts >>= λ terms. Some (record { name = name; terms = terms })

abbrev pub written_atom_in : Sexp → Option WrittenAtom
written_atom_in one = list_in one >>= written_atom_of

-- (n t..)
abbrev pub written_pattern_of : List Sexp → Option WrittenPattern
written_pattern_of [] = None
written_pattern_of (a ∷ parts) = int_in a >>= λ many. each term_in parts >>= λ terms. Some (record { many = many; terms = terms })

abbrev pub written_pattern_in : Sexp → Option WrittenPattern
written_pattern_in one = list_in one >>= written_pattern_of

-- P (n t..)..+
abbrev pub written_arc_of : List Sexp → Option WrittenArc
written_arc_of [] = None
written_arc_of (a ∷ parts) = name_in a >>= λ place. each written_pattern_in parts >>= some >>= λ patterns. Some (record { place = place; patterns = patterns })

-- comparisons, `and`, `or`, `not` and `implies` alone
abbrev pub guard_step : WrittenFormula-F Bool → Bool
guard_step (layer.Atom rel terms) = false
guard_step (layer.Test cmp left right) = true
guard_step (layer.And parts) = list_all (λ part. part) parts
guard_step (layer.Or parts) = list_all (λ part. part) parts
guard_step (layer.Not part) = part
guard_step (layer.Implies left right) = left && right
guard_step (layer.Exists vars body) = false
guard_step (layer.Forall vars body) = false

unfoldable pub is_guard : WrittenFormula → Bool
is_guard p = fold-WrittenFormula Bool guard_step p

abbrev pub guard_of : List Sexp → Option WrittenClause
guard_of (a ∷ []) = body_in a >>= λ p. only_if (is_guard p) (Guards p)
guard_of parts = None

abbrev pub clause_of : Name → List Sexp → Option WrittenClause
clause_of word parts =
    if is_word word (codes "in") then option_map (λ p. Inputs (input.In p)) (written_arc_of parts)
    else if is_word word (codes "read") then option_map (λ g. Inputs (input.Read g)) (written_atom_of parts)
    else if is_word word (codes "guard") then guard_of parts
    else if is_word word (codes "ask") then option_map Asks (each typed_variable_in parts >>= some)
    else if is_word word (codes "fresh") then option_map Draws (each variable_in parts >>= some)
    else if is_word word (codes "do") then option_map Calls (written_atom_of parts)
    else if is_word word (codes "out") then option_map Puts (written_arc_of parts)
    else if is_word word (codes "back") then option_map Returns (written_arc_of parts)
    else None

abbrev pub clause_in : Sexp → Option WrittenClause
clause_in one = list_in one >>= with_word clause_of

-- `in` and `read` in any mixture, then one `guard`, one `ask`, one `fresh` and one `do` at most, then `out`, then `back`
abbrev pub rank : WrittenClause → ℕ
rank (Inputs m) = 0
rank (Guards p) = 1
rank (Asks vars) = 2
rank (Draws vars) = 3
rank (Calls g) = 4
rank (Puts p) = 5
rank (Returns p) = 6

-- clauses of this rank may stand more than once
abbrev pub repeats : ℕ → Bool
repeats n = n == 0 || nat_lt 4 n

abbrev pub follows : ℕ → ℕ → Bool
follows last next = nat_lt last next || (last == next && repeats next)

abbrev pub with_clause : WrittenTransition → WrittenClause → WrittenTransition
with_clause r (Inputs m) = record r { inputs = r.inputs ++ m ∷ [] }
with_clause r (Guards p) = record r { guard = Some p }
with_clause r (Asks vars) = record r { asked = vars }
with_clause r (Draws vars) = record r { fresh = vars }
with_clause r (Calls g) = record r { call = Some g }
with_clause r (Puts p) = record r { outs = r.outs ++ p ∷ [] }
with_clause r (Returns p) = record r { backs = r.backs ++ p ∷ [] }

-- a transition without clauses
abbrev pub bare_transition : Name → WrittenTransition
bare_transition name = record { name = name; inputs = []; guard = None; asked = []; fresh = []; call = None; outs = []; backs = [] }

-- the rank of the last clause and the transition so far, with one more clause
abbrev pub clause_step : ℕ × WrittenTransition → Sexp → Option (ℕ × WrittenTransition)
clause_step state one = clause_in one >>= λ c. if follows state.0 (rank c) then Some (rank c, with_clause state.1 c) else None

abbrev pub clauses_from : ℕ × WrittenTransition → List Sexp → Option WrittenTransition
clauses_from state [] = Some state.1
clauses_from state (one ∷ parts) = clause_step state one >>= λ next. clauses_from next parts

-- ---- declarations

-- R (f type)..
abbrev pub relation_of : List Sexp → Option Written
relation_of [] = None
relation_of (a ∷ parts) = name_in a >>= λ name. each typed_in parts >>= λ fields. if is_connective name then None else Some (written.Relation name fields)

-- R f..+
abbrev pub key_of : List Sexp → Option Written
key_of [] = None
key_of (a ∷ parts) = name_in a >>= λ rel. each name_in parts >>= some >>= λ fields. Some (written.Key rel fields)

-- (f..+)
abbrev pub fields_in : Sexp → Option (List Name)
fields_in one = list_in one >>= each name_in >>= some

-- R (f..+)
abbrev pub side_of : Sexp → Sexp → Option (Name × List Name)
side_of a b = name_in a >>= λ rel. fields_in b >>= λ fields. Some (rel, fields)

abbrev pub referring_of : Name × List Name → List Sexp → Option Written
referring_of from (a ∷ b ∷ []) = side_of a b >>= λ to. Some (written.Foreign from.0 from.1 to.0 to.1)
referring_of from parts = None

-- R (f..+) S (g..+)
abbrev pub foreign_of : List Sexp → Option Written
foreign_of (a ∷ b ∷ parts) = side_of a b >>= λ from. referring_of from parts
foreign_of parts = None

-- c formula
abbrev pub always_of : List Sexp → Option Written
always_of (a ∷ b ∷ []) = name_in a >>= λ name. body_in b >>= λ body. Some (written.Always name body)
always_of parts = None

-- q ((x type)..) formula
abbrev pub query_of : List Sexp → Option Written
query_of (a ∷ b ∷ c ∷ []) = name_in a >>= λ name. scope_in b >>= λ vars. body_in c >>= λ body. Some (written.Query name vars body)
query_of parts = None

-- (delete (R t..)..) or (add (R t..)..)
abbrev pub effect_of : Name → Name → List Sexp → Option (List WrittenAtom)
effect_of kind word parts = if is_word word kind then each written_atom_in parts else None

abbrev pub effect_in : Name → Sexp → Option (List WrittenAtom)
effect_in kind one = list_in one >>= with_word (effect_of kind)

-- a ((p type)..) (delete (R t..)..) (add (R t..)..)
abbrev pub action_of : List Sexp → Option Written
action_of (a ∷ b ∷ c ∷ d ∷ []) =
    name_in a >>= λ name. scope_in b >>= λ params. effect_in (codes "delete") c >>= λ deletes. effect_in (codes "add") d >>= λ adds. Some (written.Action name params deletes adds)
action_of parts = None

-- P type..
abbrev pub control_of : List Sexp → Option Written
control_of [] = None
control_of (a ∷ parts) = name_in a >>= λ name. each type_in parts >>= λ shape. Some (written.Control name shape)

-- V q
abbrev pub view_of : List Sexp → Option Written
view_of (a ∷ b ∷ []) = name_in a >>= λ name. name_in b >>= λ query. Some (written.View name query)
view_of parts = None

-- T clause..
abbrev pub transition_of : List Sexp → Option Written
transition_of [] = None
transition_of (a ∷ parts) = name_in a >>= λ name. clauses_from (0, bare_transition name) parts >>= λ rule. Some (written.Transition rule)

-- R v..
abbrev pub fact_of : List Sexp → Option Written
fact_of [] = None
fact_of (a ∷ parts) = name_in a >>= λ rel. each constant_in parts >>= λ row. Some (written.Fact rel row)

-- P n v..
abbrev pub token_of : List Sexp → Option Written
token_of (a ∷ b ∷ parts) = name_in a >>= λ place. int_in b >>= λ many. each constant_in parts >>= λ row. Some (written.Token place many row)
token_of parts = None

abbrev pub declared : Name → List Sexp → Option Written
declared word parts =
    if is_word word (codes "relation") then relation_of parts
    else if is_word word (codes "key") then key_of parts
    else if is_word word (codes "foreign") then foreign_of parts
    else if is_word word (codes "always") then always_of parts
    else if is_word word (codes "query") then query_of parts
    else if is_word word (codes "action") then action_of parts
    else if is_word word (codes "place") then control_of parts
    else if is_word word (codes "view") then view_of parts
    else if is_word word (codes "transition") then transition_of parts
    else if is_word word (codes "fact") then fact_of parts
    else if is_word word (codes "token") then token_of parts
    else None

-- the declaration that an S-expression is
unfoldable pub declaration_in : Sexp → Option Written
declaration_in one = list_in one >>= with_word declared
