-- The names in the printed form of a declaration are short exactly where those in its parts are.
use Rattle.std.proofs.Common.{◌≡◌, Bool, true, false, ◌&&◌, List, [], ◌∷◌, ◌++◌, map, length, refl, sym, ap, ◌∙◌, Option, Some, None, codes}
use Rattle.std.specs.List.{list_all}
use Rattle.std.specs.Option.{option_map_or}
use Rattle.std.proofs.lemmas.List.{length-map}
use Rattle.std.proofs.lemmas.List.Folds.{list_all-append, list_all-map}
use Rattle.dbn_value.specs.declared.value.Value.{Value}
use Rattle.dbn_value.specs.declared.value.Value.TheVariants as value
use Rattle.dbn_value.specs.declared.value.ColType.{ColType}
use Rattle.dbn_value.specs.declared.value.ColType.TheVariants as col
use Rattle.dbn_value.specs.declared.term.Term.{Term}
use Rattle.dbn_value.specs.declared.term.Term.TheVariants as term
use Rattle.dbn_value.specs.declared.term.Var.{Var}
use Rattle.dbn_value.specs.declared.term.Cmp.{Cmp}
use Rattle.dbn_value.specs.declared.term.Cmp.TheVariants as cmp
use Rattle.dbn_sexp.specs.declared.sexp.Sexp.{Sexp}
use Rattle.dbn_sexp.specs.Printing.{atoms}
use Rattle.dbn_sexp.proofs.TreeLaws.{atoms_name, atoms_const, atoms_list}
use Rattle.dbn_formula.specs.Variables.{TypedVars}
use Rattle.dbn_net.specs.declared.decl.Decl.{Decl}
use Rattle.dbn_net.specs.declared.written.WrittenFormula.{WrittenFormula}
use Rattle.dbn_net.specs.declared.written.WrittenFormula.TheVariants.{Atom, Test, And, Or, Not, Implies, Exists, Forall}
use Rattle.dbn_net.specs.declared.written.WrittenAtom.{WrittenAtom}
use Rattle.dbn_net.specs.declared.written.WrittenPattern.{WrittenPattern}
use Rattle.dbn_net.specs.declared.written.WrittenArc.{WrittenArc}
use Rattle.dbn_net.specs.declared.written.WrittenInput.{WrittenInput}
use Rattle.dbn_net.specs.declared.written.WrittenInput.TheVariants as input
use Rattle.dbn_net.specs.declared.written.WrittenTransition.{WrittenTransition}
use Rattle.dbn_net.specs.declared.written.Written.{Written}
use Rattle.dbn_net.specs.declared.written.Written.TheVariants as written
use Rattle.dbn_net.specs.Forms.{Name}
use Rattle.dbn_net.specs.Naming.{bound_of}
use Rattle.dbn_net.specs.Judging.{is_short, scope_names, var_names, bound_vars}
use Rattle.dbn_net.specs.Judging as judging
use Rattle.dbn_net.specs.Printing.{word, constant, list, form, term_sexp, type_sexp, typed_sexp, typed_variable_sexp, scope_sexp, names_sexp, comparison_word, formula_sexp, written_atom_parts, written_atom_sexp, written_pattern_sexp, written_arc_parts, input_sexp, guard_sexps, ask_sexps, fresh_sexps, call_sexps, variable_sexp, written_transition_parts, sexp_of}
use Rattle.dbn_net.proofs.AtomLaws.{short_const}
use Rattle.dbn_net.proofs.AtomLaws as shorts
use Rattle.dbn_net.proofs.Maybes.{always_true}
use Rattle.dbn_net.proofs.Scoped.{bound_vars_are}
use Rattle.dbn_net.proofs.WrittenFormulaLaws.{sexp_atom, sexp_test, sexp_and, sexp_or, sexp_not, sexp_implies, sexp_exists, sexp_forall}
use Rattle.dbn_reader.specs.Short.{short_name, short_names, short_sexp, short_term, short_terms, short_formula, short_atom, short_pattern, short_arc, short_input, short_transition, short_written}
use Rattle.dbn_reader.proofs.TermLaws.{all_flat}

-- ---- tests joined

and_true : (a : Bool) → (a && true) ≡ a
and_true true = refl
and_true false = refl

and_three : (a b c : Bool) → (a && (b && c)) ≡ (a && b && c)
and_three true b c = refl
and_three false b c = refl

and_four : (a b c d : Bool) → (a && (b && c && d)) ≡ (a && b && c && d)
and_four true b c d = refl
and_four false b c d = refl

-- ---- S-expressions

sexp_word : (name : Name) → short_sexp (word name) ≡ short_name name
unfolding short_sexp
sexp_word name = ap (list_all is_short) (atoms_name name) ∙ ap (λ b. b && true) (shorts.short_name name) ∙ and_true (short_name name)

sexp_constant : (v : Value) → short_sexp (constant v) ≡ true
unfolding short_sexp
sexp_constant v = ap (list_all is_short) (atoms_const v) ∙ ap (λ b. b && true) (short_const v)

sexp_list : (parts : List Sexp) → short_sexp (list parts) ≡ list_all short_sexp parts
unfolding short_sexp
sexp_list parts = ap (list_all is_short) (atoms_list parts) ∙ all_flat is_short (λ (one : Sexp). atoms one.item) parts

sexp_form : (first : Name) (parts : List Sexp) → short_name first ≡ true → short_sexp (form first parts) ≡ list_all short_sexp parts
sexp_form first parts e = sexp_list (word first ∷ parts) ∙ ap (λ b. b && list_all short_sexp parts) (sexp_word first ∙ e)

more : (a : Sexp) (parts : List Sexp) (x y : Bool) → short_sexp a ≡ x → list_all short_sexp parts ≡ y → list_all short_sexp (a ∷ parts) ≡ (x && y)
more a parts x y p q = ap (λ b. b && list_all short_sexp parts) p ∙ ap (λ b. x && b) q

one : (a : Sexp) (x : Bool) → short_sexp a ≡ x → list_all short_sexp (a ∷ []) ≡ x
one a x p = more a [] x true p refl ∙ and_true x

two : (a b : Sexp) (x y : Bool) → short_sexp a ≡ x → short_sexp b ≡ y → list_all short_sexp (a ∷ b ∷ []) ≡ (x && y)
two a b x y p q = more a (b ∷ []) x y p (one b y q)

three : (a b c : Sexp) (x y z : Bool) → short_sexp a ≡ x → short_sexp b ≡ y → short_sexp c ≡ z → list_all short_sexp (a ∷ b ∷ c ∷ []) ≡ (x && y && z)
three a b c x y z p q r = more a (b ∷ c ∷ []) x (y && z) p (two b c y z q r) ∙ and_three x y z

four : (a b c d : Sexp) (x y z w : Bool) → short_sexp a ≡ x → short_sexp b ≡ y → short_sexp c ≡ z → short_sexp d ≡ w
    → list_all short_sexp (a ∷ b ∷ c ∷ d ∷ []) ≡ (x && y && z && w)
four a b c d x y z w p q r s = more a (b ∷ c ∷ d ∷ []) x (y && z && w) p (three b c d y z w q r s) ∙ and_four x y z w

-- the parts are short exactly where the test passes
record Says (parts : List Sexp) (b : Bool) : Type 0 where
  is : list_all short_sexp parts ≡ b

says : (parts : List Sexp) (b : Bool) → list_all short_sexp parts ≡ b → Says parts b
says parts b e = record { is = e }

joined : {ps qs : List Sexp} {x y : Bool} → Says ps x → Says qs y → Says (ps ++ qs) (x && y)
joined {ps = ps} {qs = qs} {x = x} {y = y} p q = record { is = list_all-append short_sexp ps qs ∙ ap (λ b. b && list_all short_sexp qs) p.is ∙ ap (λ b. x && b) q.is }

listed : {A : Type 0} (f : A → Sexp) (t : A → Bool) → ((x : A) → short_sexp (f x) ≡ t x) → (xs : List A) → list_all short_sexp (map f xs) ≡ list_all t xs
listed f t same [] = refl
listed f t same (x ∷ xs) = more (f x) (map f xs) (t x) (list_all t xs) (same x) (listed f t same xs)

-- ---- names, terms and types

term_short : (t : Term) → short_sexp (term_sexp t) ≡ short_term t
term_short (term.Var x) = sexp_word x.name
term_short (term.Const v) = sexp_constant v

terms_short : (terms : List Term) → list_all short_sexp (map term_sexp terms) ≡ short_terms terms
terms_short terms = listed term_sexp short_term term_short terms

type_short : (type : ColType) → short_sexp (type_sexp type) ≡ true
type_short col.Int = sexp_word (codes "int")
type_short col.Text = sexp_word (codes "text")
type_short col.Id = sexp_word (codes "id")

types_short : (shape : List ColType) → list_all short_sexp (map type_sexp shape) ≡ true
types_short shape = listed type_sexp (λ type. true) type_short shape ∙ always_true shape

row_short : (row : List Value) → list_all short_sexp (map constant row) ≡ true
row_short row = listed constant (λ v. true) sexp_constant row ∙ always_true row

typed_short : (x : Name × ColType) → short_sexp (typed_sexp x) ≡ short_name x.0
typed_short x = sexp_list (word x.0 ∷ type_sexp x.1 ∷ []) ∙ two (word x.0) (type_sexp x.1) (short_name x.0) true (sexp_word x.0) (type_short x.1) ∙ and_true (short_name x.0)

names_short : (names : List Name) → list_all short_sexp (map word names) ≡ short_names names
names_short names = listed word short_name sexp_word names

fields_short : (fields : List (Name × ColType)) → list_all short_sexp (map typed_sexp fields) ≡ short_names (map (λ f. f.0) fields)
fields_short fields = listed typed_sexp (λ f. short_name f.0) typed_short fields ∙ sym (list_all-map short_name (λ (f : Name × ColType). f.0) fields)

vars_short : (vars : TypedVars) → list_all short_sexp (map typed_variable_sexp vars) ≡ short_names (scope_names vars)
vars_short vars =
    listed typed_variable_sexp (λ x. short_name x.0.name) (λ x. typed_short (x.0.name, x.1)) vars ∙ sym (list_all-map short_name (λ (x : Var × ColType). x.0.name) vars)

fresh_short : (vars : List Var) → list_all short_sexp (map variable_sexp vars) ≡ short_names (var_names vars)
fresh_short vars = listed variable_sexp (λ x. short_name x.name) (λ x. sexp_word x.name) vars ∙ sym (list_all-map short_name (λ (x : Var). x.name) vars)

scope_short : (vars : TypedVars) → short_sexp (scope_sexp vars) ≡ short_names (scope_names vars)
scope_short vars = sexp_list (map typed_variable_sexp vars) ∙ vars_short vars

-- ---- formulas

comparison_short : (c : Cmp) → short_name (comparison_word c) ≡ true
comparison_short cmp.Eq = refl
comparison_short cmp.Ne = refl
comparison_short cmp.Lt = refl
comparison_short cmp.Le = refl
comparison_short cmp.Gt = refl
comparison_short cmp.Ge = refl

pub atom_formula : (rel : Name) (terms : List Term) → short_formula (Atom rel terms) ≡ (short_name rel && short_terms terms)
unfolding short_formula
atom_formula rel terms =
    ap short_sexp (sexp_atom rel terms) ∙ sexp_list (word rel ∷ map term_sexp terms)
    ∙ more (word rel) (map term_sexp terms) (short_name rel) (short_terms terms) (sexp_word rel) (terms_short terms)

pub test_formula : (c : Cmp) (left right : Term) → short_formula (Test c left right) ≡ (short_term left && short_term right)
unfolding short_formula
test_formula c left right =
    ap short_sexp (sexp_test c left right) ∙ sexp_form (comparison_word c) (term_sexp left ∷ term_sexp right ∷ []) (comparison_short c)
    ∙ two (term_sexp left) (term_sexp right) (short_term left) (short_term right) (term_short left) (term_short right)

pub and_formula : (ps : List WrittenFormula) → short_formula (And ps) ≡ list_all short_formula ps
unfolding short_formula
and_formula ps = ap short_sexp (sexp_and ps) ∙ sexp_form (codes "and") (map formula_sexp ps) refl ∙ listed formula_sexp short_formula (λ p. refl) ps

pub or_formula : (ps : List WrittenFormula) → short_formula (Or ps) ≡ list_all short_formula ps
unfolding short_formula
or_formula ps = ap short_sexp (sexp_or ps) ∙ sexp_form (codes "or") (map formula_sexp ps) refl ∙ listed formula_sexp short_formula (λ p. refl) ps

pub not_formula : (p : WrittenFormula) → short_formula (Not p) ≡ short_formula p
unfolding short_formula
not_formula p = ap short_sexp (sexp_not p) ∙ sexp_form (codes "not") (formula_sexp p ∷ []) refl ∙ one (formula_sexp p) (short_sexp (formula_sexp p)) refl

pub implies_formula : (p q : WrittenFormula) → short_formula (Implies p q) ≡ (short_formula p && short_formula q)
unfolding short_formula
implies_formula p q =
    ap short_sexp (sexp_implies p q) ∙ sexp_form (codes "implies") (formula_sexp p ∷ formula_sexp q ∷ []) refl
    ∙ two (formula_sexp p) (formula_sexp q) (short_sexp (formula_sexp p)) (short_sexp (formula_sexp q)) refl refl

pub exists_formula : (vars : TypedVars) (p : WrittenFormula) → short_formula (Exists vars p) ≡ (short_names (scope_names vars) && short_formula p)
unfolding short_formula
exists_formula vars p =
    ap short_sexp (sexp_exists vars p) ∙ sexp_form (codes "exists") (scope_sexp vars ∷ formula_sexp p ∷ []) refl
    ∙ two (scope_sexp vars) (formula_sexp p) (short_names (scope_names vars)) (short_sexp (formula_sexp p)) (scope_short vars) refl

pub forall_formula : (vars : TypedVars) (p : WrittenFormula) → short_formula (Forall vars p) ≡ (short_names (scope_names vars) && short_formula p)
unfolding short_formula
forall_formula vars p =
    ap short_sexp (sexp_forall vars p) ∙ sexp_form (codes "forall") (scope_sexp vars ∷ formula_sexp p ∷ []) refl
    ∙ two (scope_sexp vars) (formula_sexp p) (short_names (scope_names vars)) (short_sexp (formula_sexp p)) (scope_short vars) refl

pub ruleset formula_laws = (atom_formula, test_formula, and_formula, or_formula, not_formula, implies_formula, exists_formula, forall_formula)

formula_short : (p : WrittenFormula) → short_sexp (formula_sexp p) ≡ short_formula p
unfolding short_formula
formula_short p = refl

-- ---- clauses

atom_parts : (g : WrittenAtom) → list_all short_sexp (written_atom_parts g) ≡ short_atom g
atom_parts g = more (word g.name) (map term_sexp g.terms) (short_name g.name) (short_terms g.terms) (sexp_word g.name) (terms_short g.terms)

atom_short : (g : WrittenAtom) → short_sexp (written_atom_sexp g) ≡ short_atom g
atom_short g = sexp_list (written_atom_parts g) ∙ atom_parts g

pattern_short : (h : WrittenPattern) → short_sexp (written_pattern_sexp h) ≡ short_pattern h
pattern_short h =
    sexp_list (constant (value.Int h.many) ∷ map term_sexp h.terms)
    ∙ more (constant (value.Int h.many)) (map term_sexp h.terms) true (short_terms h.terms) (sexp_constant (value.Int h.many)) (terms_short h.terms)

arc_parts : (p : WrittenArc) → list_all short_sexp (written_arc_parts p) ≡ short_arc p
arc_parts p =
    more (word p.place) (map written_pattern_sexp p.patterns) (short_name p.place) (list_all short_pattern p.patterns) (sexp_word p.place)
    (listed written_pattern_sexp short_pattern pattern_short p.patterns)

input_short : (m : WrittenInput) → short_sexp (input_sexp m) ≡ short_input m
input_short (input.In p) = sexp_form (codes "in") (written_arc_parts p) refl ∙ arc_parts p
input_short (input.Read g) = sexp_form (codes "read") (written_atom_parts g) refl ∙ atom_parts g

guard_short : (guard : Option WrittenFormula) → list_all short_sexp (guard_sexps guard) ≡ option_map_or short_formula guard true
guard_short None = refl
guard_short (Some p) =
    one (form (codes "guard") (formula_sexp p ∷ [])) (short_formula p)
    (sexp_form (codes "guard") (formula_sexp p ∷ []) refl ∙ one (formula_sexp p) (short_formula p) (formula_short p))

ask_short : (vars : TypedVars) → list_all short_sexp (ask_sexps vars) ≡ short_names (scope_names vars)
ask_short [] = refl
ask_short (x ∷ vars) =
    one (form (codes "ask") (map typed_variable_sexp (x ∷ vars))) (short_names (scope_names (x ∷ vars)))
    (sexp_form (codes "ask") (map typed_variable_sexp (x ∷ vars)) refl ∙ vars_short (x ∷ vars))

drawn_short : (vars : List Var) → list_all short_sexp (fresh_sexps vars) ≡ short_names (var_names vars)
drawn_short [] = refl
drawn_short (x ∷ vars) =
    one (form (codes "fresh") (map variable_sexp (x ∷ vars))) (short_names (var_names (x ∷ vars)))
    (sexp_form (codes "fresh") (map variable_sexp (x ∷ vars)) refl ∙ fresh_short (x ∷ vars))

call_short : (call : Option WrittenAtom) → list_all short_sexp (call_sexps call) ≡ option_map_or short_atom call true
call_short None = refl
call_short (Some g) = one (form (codes "do") (written_atom_parts g)) (short_atom g) (sexp_form (codes "do") (written_atom_parts g) refl ∙ atom_parts g)

outs_short : (arcs : List WrittenArc) → list_all short_sexp (map (λ p. form (codes "out") (written_arc_parts p)) arcs) ≡ list_all short_arc arcs
outs_short arcs = listed (λ p. form (codes "out") (written_arc_parts p)) short_arc (λ p. sexp_form (codes "out") (written_arc_parts p) refl ∙ arc_parts p) arcs

backs_short : (arcs : List WrittenArc) → list_all short_sexp (map (λ p. form (codes "back") (written_arc_parts p)) arcs) ≡ list_all short_arc arcs
backs_short arcs = listed (λ p. form (codes "back") (written_arc_parts p)) short_arc (λ p. sexp_form (codes "back") (written_arc_parts p) refl ∙ arc_parts p) arcs

transition_short : (r : WrittenTransition) → list_all short_sexp (written_transition_parts r) ≡ short_transition r
transition_short r =
    let first = says (word r.name ∷ map input_sexp r.inputs) (short_name r.name && list_all short_input r.inputs)
    (more (word r.name) (map input_sexp r.inputs) (short_name r.name) (list_all short_input r.inputs) (sexp_word r.name) (listed input_sexp short_input input_short r.inputs)) in
    let guard = says (guard_sexps r.guard) (option_map_or short_formula r.guard true) (guard_short r.guard) in
    let asked = says (ask_sexps r.asked) (short_names (scope_names r.asked)) (ask_short r.asked) in
    let fresh = says (fresh_sexps r.fresh) (short_names (var_names r.fresh)) (drawn_short r.fresh) in
    let call = says (call_sexps r.call) (option_map_or short_atom r.call true) (call_short r.call) in
    let outs = says (map (λ p. form (codes "out") (written_arc_parts p)) r.outs) (list_all short_arc r.outs) (outs_short r.outs) in
    let backs = says (map (λ p. form (codes "back") (written_arc_parts p)) r.backs) (list_all short_arc r.backs) (backs_short r.backs) in
    (joined (joined (joined (joined (joined (joined first guard) asked) fresh) call) outs) backs).is

-- ---- declarations

declared_short : (w : Written) → short_sexp (sexp_of w) ≡ short_written w
declared_short (written.Relation name fields) =
    sexp_form (codes "relation") (word name ∷ map typed_sexp fields) refl
    ∙ more (word name) (map typed_sexp fields) (short_name name) (short_names (map (λ f. f.0) fields)) (sexp_word name) (fields_short fields)
declared_short (written.Key rel fields) =
    sexp_form (codes "key") (word rel ∷ map word fields) refl ∙ more (word rel) (map word fields) (short_name rel) (short_names fields) (sexp_word rel) (names_short fields)
declared_short (written.Foreign rel fields to to_fields) =
    sexp_form (codes "foreign") (word rel ∷ names_sexp fields ∷ word to ∷ names_sexp to_fields ∷ []) refl
    ∙ four (word rel) (names_sexp fields) (word to) (names_sexp to_fields) (short_name rel) (short_names fields) (short_name to) (short_names to_fields)
    (sexp_word rel) (sexp_list (map word fields) ∙ names_short fields) (sexp_word to) (sexp_list (map word to_fields) ∙ names_short to_fields)
declared_short (written.Always name body) =
    sexp_form (codes "always") (word name ∷ formula_sexp body ∷ []) refl ∙ two (word name) (formula_sexp body) (short_name name) (short_formula body) (sexp_word name) (formula_short body)
declared_short (written.Query name vars body) =
    sexp_form (codes "query") (word name ∷ scope_sexp vars ∷ formula_sexp body ∷ []) refl
    ∙ three (word name) (scope_sexp vars) (formula_sexp body) (short_name name) (short_names (scope_names vars)) (short_formula body)
    (sexp_word name) (scope_short vars) (formula_short body)
declared_short (written.Action name params deletes adds) =
    let gone = form (codes "delete") (map written_atom_sexp deletes) in
    let new = form (codes "add") (map written_atom_sexp adds) in
    sexp_form (codes "action") (word name ∷ scope_sexp params ∷ gone ∷ new ∷ []) refl
    ∙ four (word name) (scope_sexp params) gone new (short_name name) (short_names (scope_names params)) (list_all short_atom deletes) (list_all short_atom adds)
    (sexp_word name) (scope_short params)
    (sexp_form (codes "delete") (map written_atom_sexp deletes) refl ∙ listed written_atom_sexp short_atom atom_short deletes)
    (sexp_form (codes "add") (map written_atom_sexp adds) refl ∙ listed written_atom_sexp short_atom atom_short adds)
declared_short (written.Control name shape) =
    sexp_form (codes "place") (word name ∷ map type_sexp shape) refl
    ∙ more (word name) (map type_sexp shape) (short_name name) true (sexp_word name) (types_short shape)
    ∙ and_true (short_name name)
declared_short (written.View name query) =
    sexp_form (codes "view") (word name ∷ word query ∷ []) refl ∙ two (word name) (word query) (short_name name) (short_name query) (sexp_word name) (sexp_word query)
declared_short (written.Transition r) = sexp_form (codes "transition") (written_transition_parts r) refl ∙ transition_short r
declared_short (written.Fact rel row) =
    sexp_form (codes "fact") (word rel ∷ map constant row) refl ∙ more (word rel) (map constant row) (short_name rel) true (sexp_word rel) (row_short row) ∙ and_true (short_name rel)
declared_short (written.Token place many row) =
    sexp_form (codes "token") (word place ∷ constant (value.Int many) ∷ map constant row) refl
    ∙ more (word place) (constant (value.Int many) ∷ map constant row) (short_name place) true (sexp_word place)
    (more (constant (value.Int many)) (map constant row) true true (sexp_constant (value.Int many)) (row_short row))
    ∙ and_true (short_name place)

pub names_in_parts : (w : Written) → judging.short_names w ≡ short_written w
unfolding short_sexp
names_in_parts w = declared_short w

pub ruleset written_laws = (names_in_parts)

-- ---- lists

pub bound_length : (net : List Decl) (inputs : List WrittenInput) → length (bound_of net inputs) ≡ length (bound_vars inputs)
bound_length net inputs = sym (length-map (bound_of net inputs) (λ (x : Var × ColType). x.0)) ∙ ap length (bound_vars_are net inputs)
