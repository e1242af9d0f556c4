-- What is read as a formula, an `always` or a query is printed as it was, apart from the lines.
use Rattle.std.proofs.Common.{◌≡◌, ℕ, zero, suc, Bool, true, false, ◌||◌, if◌then◌else◌, List, [], ◌∷◌, map, refl, sym, ap, ◌∙◌, ⊎_elim, Option, Some, None, codes}
use Rattle.std.specs.Option.{option_map}
use Rattle.dbn_value.specs.Text.{is_identifier}
use Rattle.dbn_value.specs.declared.value.ColType.{ColType}
use Rattle.dbn_value.specs.declared.value.ColType.TheVariants as col
use Rattle.dbn_value.specs.declared.term.Var.{Var}
use Rattle.dbn_value.specs.declared.term.Term.{Term}
use Rattle.dbn_value.specs.declared.term.Term.TheVariants as term
use Rattle.dbn_value.specs.declared.term.Cmp.{Cmp}
use Rattle.dbn_value.specs.declared.term.Cmp.TheVariants as cmp
use Rattle.dbn_sexp.specs.declared.sexp.Sexp.{Sexp}
use Rattle.dbn_net.specs.declared.written.WrittenFormula.{WrittenFormula}
use Rattle.dbn_net.specs.declared.written.WrittenFormula.TheVariants as written_formula
use Rattle.dbn_net.specs.declared.written.Written.{Written}
use Rattle.dbn_net.specs.declared.written.Written.TheVariants as written
use Rattle.dbn_net.specs.Maybe.{◌>>=◌, each, some}
use Rattle.dbn_sexp.specs.Parts.{word_in, constant_in, list_in}
use Rattle.dbn_net.specs.Forms.{is_word, name_in, variable, variable_in, term_in, type_of, type_in, typed_of, typed_in, typed_variable_in, scope_in, some_scope_in, is_connective, comparison_of, test_of, atom_of, compared_or_atom, two_of, quantified_of, connected, formula_of, formula_in, body_in, always_of, query_of}
use Rattle.dbn_net.specs.Printing.{no_lines, word, form, term_sexp, type_word, type_sexp, typed_sexp, scope_sexp, comparison_word, formula_sexp}
use Rattle.dbn_net.proofs.Maybes.{some_is, first_found, if_found, if_either, mapped_found, or_found, some_same}
use Rattle.dbn_net.proofs.WrittenFormulaLaws.{formula_too_deep, sexp_atom, sexp_test, sexp_or, sexp_implies, sexp_exists, sexp_forall}
use Rattle.dbn_net.proofs.Found.{word_is, word_printed, constant_found, name_found, list_printed, each_found, Shown, from_parts, two_found, and_found, not_found}

-- ---- parts

pub variable_found : (one : Sexp) (x : Var) → variable_in one ≡ Some x → word x.name ≡ no_lines one
variable_found one x e =
    let (name, is, made) = first_found (name_in one) (λ n. Some (variable n)) x e in
    ap (λ y. word y.name) (sym (some_is (variable name) x made)) ∙ name_found one name is

pub term_found : (one : Sexp) (t : Term) → term_in one ≡ Some t → term_sexp t ≡ no_lines one
term_found one t e =
    ⊎_elim
    (λ left. let (x, is, made) = first_found (variable_in one) (λ y. Some (term.Var y)) t left in ap term_sexp (sym (some_is (term.Var x) t made)) ∙ variable_found one x is)
    (λ right. let (v, is, made) = first_found (constant_in one) (λ w. Some (term.Const w)) t right in ap term_sexp (sym (some_is (term.Const v) t made)) ∙ constant_found one v is)
    (or_found (variable_in one >>= λ x. Some (term.Var x)) (constant_in one >>= λ v. Some (term.Const v)) t e)

type_named : (w : List ℕ) (t : ColType) → type_of w ≡ Some t → type_word t ≡ w
type_named w t e =
    ⊎_elim (λ a. ap type_word (sym (some_is col.Int t a.1)) ∙ sym (word_is w (codes "int") a.0))
    (λ b. ⊎_elim (λ a. ap type_word (sym (some_is col.Text t a.1)) ∙ sym (word_is w (codes "text") a.0))
    (λ c. let last = if_found (is_word w (codes "id")) (Some col.Id) t c.1 in ap type_word (sym (some_is col.Id t last.1)) ∙ sym (word_is w (codes "id") last.0))
    (if_either (is_word w (codes "text")) (Some col.Text) (if is_word w (codes "id") then Some col.Id else None) t b.1))
    (if_either (is_word w (codes "int")) (Some col.Int) (if is_word w (codes "text") then Some col.Text else if is_word w (codes "id") then Some col.Id else None) t e)

pub type_found : (one : Sexp) (t : ColType) → type_in one ≡ Some t → type_sexp t ≡ no_lines one
type_found one t e =
    let (w, is, made) = first_found (word_in one) type_of t e in
    ap word (type_named w t made) ∙ word_printed one w is

typed_parts : (parts : List Sexp) (x : List ℕ × ColType) → typed_of parts ≡ Some x → (word x.0 ∷ type_sexp x.1 ∷ []) ≡ map no_lines parts
typed_parts [] x e = absurd cc
typed_parts (a ∷ []) x e = absurd cc
typed_parts (a ∷ b ∷ []) x e =
    let (name, is, rest) = first_found (name_in a) (λ n. type_in b >>= λ c. Some (n, c)) x e in
    let (type, was, made) = first_found (type_in b) (λ c. Some (name, c)) x rest in
    ap (λ y. word y.0 ∷ type_sexp y.1 ∷ []) (sym (some_is (name, type) x made))
    ∙ ap (λ y. y ∷ type_sexp type ∷ []) (name_found a name is) ∙ ap (λ y. no_lines a ∷ y ∷ []) (type_found b type was)
typed_parts (a ∷ b ∷ c ∷ parts) x e = absurd cc

pub typed_found : (one : Sexp) (x : List ℕ × ColType) → typed_in one ≡ Some x → typed_sexp x ≡ no_lines one
typed_found one x e =
    let (parts, is, read) = first_found (list_in one) typed_of x e in
    list_printed one parts (word x.0 ∷ type_sexp x.1 ∷ []) is (typed_parts parts x read)

pub typed_variable_found : (one : Sexp) (x : Var × ColType) → typed_variable_in one ≡ Some x → typed_sexp (x.0.name, x.1) ≡ no_lines one
typed_variable_found one x e =
    let (y, is, made) = first_found (typed_in one) (λ z. Some (variable z.0, z.1)) x e in
    ap (λ z. typed_sexp (z.0.name, z.1)) (sym (some_is (variable y.0, y.1) x made)) ∙ typed_found one y is

pub scope_found : (one : Sexp) (vars : List (Var × ColType)) → scope_in one ≡ Some vars → scope_sexp vars ≡ no_lines one
scope_found one vars e =
    let (parts, is, read) = first_found (list_in one) (each typed_variable_in) vars e in
    list_printed one parts (map (λ x. typed_sexp (x.0.name, x.1)) vars) is (each_found typed_variable_in (λ x. typed_sexp (x.0.name, x.1)) typed_variable_found parts vars read)

some_scope_found : (one : Sexp) (vars : List (Var × ColType)) → some_scope_in one ≡ Some vars → scope_sexp vars ≡ no_lines one
some_scope_found one vars e =
    let (xs, is, made) = first_found (scope_in one) some vars e in
    ap scope_sexp (sym (some_same xs vars made)) ∙ scope_found one xs is

-- ---- comparisons and atoms

compared : (w k : List ℕ) (x c : Cmp) (o : Option Cmp) → comparison_word x ≡ k → (o ≡ Some c → comparison_word c ≡ w) → (if is_word w k then Some x else o) ≡ Some c → comparison_word c ≡ w
compared w k x c o same rest e =
    ⊎_elim (λ a. ap comparison_word (sym (some_is x c a.1)) ∙ same ∙ sym (word_is w k a.0)) (λ b. rest b.1) (if_either (is_word w k) (Some x) o c e)

comparison_found : (w : List ℕ) (c : Cmp) → comparison_of w ≡ Some c → comparison_word c ≡ w
comparison_found w c e =
    compared w (codes "=") cmp.Eq c _ refl
    (compared w (codes "!=") cmp.Ne c _ refl
    (compared w (codes "<") cmp.Lt c _ refl
    (compared w (codes "<=") cmp.Le c _ refl
    (compared w (codes ">") cmp.Gt c _ refl
    (compared w (codes ">=") cmp.Ge c None refl (λ n. absurd (no_some c n))))))) e
  where
    no_some : (c : Cmp) → None ≡ Some c → ⊥
    no_some c n = absurd cc

test_parts : (w : List ℕ) (c : Cmp) (parts : List Sexp) (p : WrittenFormula) → comparison_word c ≡ w → test_of c parts ≡ Some p → Shown w parts p
test_parts w c [] p is e = absurd cc
test_parts w c (a ∷ []) p is e = absurd cc
test_parts w c (a ∷ b ∷ []) p is e =
    let (l, left, rest) = first_found (term_in a) (λ x. term_in b >>= λ y. Some (written_formula.Test c x y)) p e in
    let (r, right, made) = first_found (term_in b) (λ y. Some (written_formula.Test c l y)) p rest in
    record {
      printed = term_sexp l ∷ term_sexp r ∷ [];
      is = ap formula_sexp (sym (some_is (written_formula.Test c l r) p made)) ∙ sexp_test c l r ∙ ap (λ k. form k (term_sexp l ∷ term_sexp r ∷ [])) is;
      same = ap (λ y. y ∷ term_sexp r ∷ []) (term_found a l left) ∙ ap (λ y. no_lines a ∷ y ∷ []) (term_found b r right);
    }
test_parts w c (a ∷ b ∷ d ∷ parts) p is e = absurd cc

atom_parts : (w : List ℕ) (parts : List Sexp) (p : WrittenFormula) → atom_of w parts ≡ Some p → Shown w parts p
atom_parts w parts p e =
    let (plain, rest) = if_found (is_identifier w) (option_map (written_formula.Atom w) (each term_in parts)) p e in
    let (terms, are, made) = mapped_found (written_formula.Atom w) (each term_in parts) p rest in
    record {
      printed = map term_sexp terms;
      is = ap formula_sexp (sym made) ∙ sexp_atom w terms;
      same = each_found term_in term_sexp term_found parts terms are;
    }

compared_or_parts : (o : Option Cmp) (w : List ℕ) (parts : List Sexp) (p : WrittenFormula) → comparison_of w ≡ o → compared_or_atom o w parts ≡ Some p → Shown w parts p
compared_or_parts None w parts p is e = atom_parts w parts p e
compared_or_parts (Some c) w parts p is e = test_parts w c parts p (comparison_found w c is) e

-- ---- connectives and quantifiers

module _ (read : Sexp → Option WrittenFormula) (found : (one : Sexp) (p : WrittenFormula) → read one ≡ Some p → formula_sexp p ≡ no_lines one) where
  quantified_parts : (parts : List Sexp) (q : List (Var × ColType) × WrittenFormula) → quantified_of read parts ≡ Some q → (scope_sexp q.0 ∷ formula_sexp q.1 ∷ []) ≡ map no_lines parts
  quantified_parts [] q e = absurd cc
  quantified_parts (a ∷ []) q e = absurd cc
  quantified_parts (a ∷ b ∷ []) q e =
      let (vars, is, rest) = first_found (some_scope_in a) (λ xs. read b >>= λ p. Some (xs, p)) q e in
      let (p, was, made) = first_found (read b) (λ y. Some (vars, y)) q rest in
      ap (λ y. scope_sexp y.0 ∷ formula_sexp y.1 ∷ []) (sym (some_is (vars, p) q made))
      ∙ ap (λ y. y ∷ formula_sexp p ∷ []) (some_scope_found a vars is) ∙ ap (λ y. no_lines a ∷ y ∷ []) (found b p was)
  quantified_parts (a ∷ b ∷ c ∷ parts) q e = absurd cc

  or_parts : (w : List ℕ) (parts : List Sexp) (p : WrittenFormula) → is_word w (codes "or") ≡ true → option_map written_formula.Or (each read parts) ≡ Some p → Shown w parts p
  or_parts w parts p word e =
      let (ps, are, made) = mapped_found written_formula.Or (each read parts) p e in
      record {
        printed = map formula_sexp ps;
        is = ap formula_sexp (sym made) ∙ sexp_or ps ∙ ap (λ k. form k (map formula_sexp ps)) (sym (word_is w (codes "or") word));
        same = each_found read formula_sexp found parts ps are;
      }

  implies_parts : (w : List ℕ) (parts : List Sexp) (p : WrittenFormula) → is_word w (codes "implies") ≡ true → option_map (λ q. written_formula.Implies q.0 q.1) (two_of read parts) ≡ Some p → Shown w parts p
  implies_parts w parts p word e =
      let (q, are, made) = mapped_found (λ q. written_formula.Implies q.0 q.1) (two_of read parts) p e in
      record {
        printed = formula_sexp q.0 ∷ formula_sexp q.1 ∷ [];
        is = ap formula_sexp (sym made) ∙ sexp_implies q.0 q.1 ∙ ap (λ k. form k (formula_sexp q.0 ∷ formula_sexp q.1 ∷ [])) (sym (word_is w (codes "implies") word));
        same = two_found read found parts q are;
      }

  exists_parts : (w : List ℕ) (parts : List Sexp) (p : WrittenFormula) → is_word w (codes "exists") ≡ true → option_map (λ q. written_formula.Exists q.0 q.1) (quantified_of read parts) ≡ Some p → Shown w parts p
  exists_parts w parts p word e =
      let (q, are, made) = mapped_found (λ q. written_formula.Exists q.0 q.1) (quantified_of read parts) p e in
      record {
        printed = scope_sexp q.0 ∷ formula_sexp q.1 ∷ [];
        is = ap formula_sexp (sym made) ∙ sexp_exists q.0 q.1 ∙ ap (λ k. form k (scope_sexp q.0 ∷ formula_sexp q.1 ∷ [])) (sym (word_is w (codes "exists") word));
        same = quantified_parts parts q are;
      }

  forall_parts : (w : List ℕ) (parts : List Sexp) (p : WrittenFormula) → is_word w (codes "forall") ≡ true → option_map (λ q. written_formula.Forall q.0 q.1) (quantified_of read parts) ≡ Some p → Shown w parts p
  forall_parts w parts p word e =
      let (q, are, made) = mapped_found (λ q. written_formula.Forall q.0 q.1) (quantified_of read parts) p e in
      record {
        printed = scope_sexp q.0 ∷ formula_sexp q.1 ∷ [];
        is = ap formula_sexp (sym made) ∙ sexp_forall q.0 q.1 ∙ ap (λ k. form k (scope_sexp q.0 ∷ formula_sexp q.1 ∷ [])) (sym (word_is w (codes "forall") word));
        same = quantified_parts parts q are;
      }

  last_word : (a b c d e f : Bool) → (a || b || c || d || e || f) ≡ true → a ≡ false → b ≡ false → c ≡ false → d ≡ false → e ≡ false → f ≡ true
  last_word false false false false false f is _ _ _ _ _ = is
  last_word true b c d e f is n _ _ _ _ = absurd cc
  last_word false true c d e f is _ n _ _ _ = absurd cc
  last_word false false true d e f is _ _ n _ _ = absurd cc
  last_word false false false true e f is _ _ _ n _ = absurd cc
  last_word false false false false true f is _ _ _ _ n = absurd cc

  connected_parts : (w : List ℕ) (parts : List Sexp) (p : WrittenFormula) → is_connective w ≡ true → connected read w parts ≡ Some p → Shown w parts p
  connected_parts w parts p is e =
      ⊎_elim (λ a. and_found read found w parts p a.0 a.1) (λ a.
      ⊎_elim (λ b. or_parts w parts p b.0 b.1) (λ b.
      ⊎_elim (λ c. not_found read found w parts p c.0 c.1) (λ c.
      ⊎_elim (λ d. implies_parts w parts p d.0 d.1) (λ d.
      ⊎_elim (λ x. exists_parts w parts p x.0 x.1) (λ x.
      forall_parts w parts p
      (last_word (is_word w (codes "and")) (is_word w (codes "or")) (is_word w (codes "not")) (is_word w (codes "implies")) (is_word w (codes "exists")) (is_word w (codes "forall")) is a.0 b.0 c.0 d.0 x.0) x.1)
      (if_either (is_word w (codes "exists")) _ _ p d.1))
      (if_either (is_word w (codes "implies")) _ _ p c.1))
      (if_either (is_word w (codes "not")) _ _ p b.1))
      (if_either (is_word w (codes "or")) _ _ p a.1))
      (if_either (is_word w (codes "and")) _ _ p e)

  formula_parts : (w : List ℕ) (parts : List Sexp) (p : WrittenFormula) → formula_of read w parts ≡ Some p → Shown w parts p
  formula_parts w parts p e =
      ⊎_elim (λ a. connected_parts w parts p a.0 a.1) (λ b. compared_or_parts (comparison_of w) w parts p refl b.1)
      (if_either (is_connective w) (connected read w parts) (compared_or_atom (comparison_of w) w parts) p e)

pub formula_found : (depth : ℕ) (one : Sexp) (p : WrittenFormula) → formula_in depth one ≡ Some p → formula_sexp p ≡ no_lines one
formula_found zero one p e = absurd (none_is p (sym (formula_too_deep one) ∙ e))
  where
    none_is : (p : WrittenFormula) → None ≡ Some p → ⊥
    none_is p n = absurd cc
formula_found (suc depth) one p e = from_parts depth (formula_parts (formula_in depth) (formula_found depth)) one p e

-- ---- sentences and queries

pub always_parts : (parts : List Sexp) (w : Written) → always_of parts ≡ Some w
    → (name : List ℕ) × (body : WrittenFormula) × (w ≡ written.Always name body) × ((word name ∷ formula_sexp body ∷ []) ≡ map no_lines parts)
always_parts [] w e = absurd cc
always_parts (c ∷ []) w e = absurd cc
always_parts (c ∷ f ∷ []) w e =
    let (name, is, rest) = first_found (name_in c) (λ n. body_in f >>= λ b. Some (written.Always n b)) w e in
    let (body, was, made) = first_found (body_in f) (λ b. Some (written.Always name b)) w rest in (
      name,
      body,
      sym (some_is (written.Always name body) w made),
      ap (λ y. y ∷ formula_sexp body ∷ []) (name_found c name is) ∙ ap (λ y. no_lines c ∷ y ∷ []) (formula_found 64 f body was),
    )
always_parts (c ∷ f ∷ g ∷ parts) w e = absurd cc

pub query_parts : (parts : List Sexp) (w : Written) → query_of parts ≡ Some w
    → (name : List ℕ) × (vars : List (Var × ColType)) × (body : WrittenFormula) × (w ≡ written.Query name vars body) × ((word name ∷ scope_sexp vars ∷ formula_sexp body ∷ []) ≡ map no_lines parts)
query_parts [] w e = absurd cc
query_parts (c ∷ []) w e = absurd cc
query_parts (c ∷ d ∷ []) w e = absurd cc
query_parts (c ∷ d ∷ f ∷ []) w e =
    let (name, is, rest) = first_found (name_in c) (λ n. scope_in d >>= λ xs. body_in f >>= λ b. Some (written.Query n xs b)) w e in
    let (vars, are, last) = first_found (scope_in d) (λ xs. body_in f >>= λ b. Some (written.Query name xs b)) w rest in
    let (body, was, made) = first_found (body_in f) (λ b. Some (written.Query name vars b)) w last in (
      name,
      vars,
      body,
      sym (some_is (written.Query name vars body) w made),
      ap (λ y. y ∷ scope_sexp vars ∷ formula_sexp body ∷ []) (name_found c name is) ∙ ap (λ y. no_lines c ∷ y ∷ formula_sexp body ∷ []) (scope_found d vars are)
          ∙ ap (λ y. no_lines c ∷ no_lines d ∷ y ∷ []) (formula_found 64 f body was),
    )
query_parts (c ∷ d ∷ f ∷ g ∷ parts) w e = absurd cc
