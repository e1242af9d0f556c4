-- What is read is printed as it was, apart from the lines: words, names, constants, lists with a first word.
use Rattle.std.proofs.Common.{◌≡◌, ℕ, suc, true, List, [], ◌∷◌, map, sym, ap, ◌∙◌, Option, Some, codes}
use Rattle.std.specs.Option.{option_map}
use Rattle.std.proofs.lemmas.Slice.Eq.{bytes_eq-Decides}
use Rattle.dbn_value.specs.Text.{is_identifier}
use Rattle.dbn_value.specs.declared.value.Value.{Value}
use Rattle.dbn_sexp.specs.declared.sexp.Sexp.{Sexp}
use Rattle.dbn_sexp.specs.Printing.{on_line}
use Rattle.dbn_sexp.proofs.TreeLaws.{line_name, line_const, line_list}
use Rattle.dbn_net.specs.declared.written.WrittenFormula.{WrittenFormula}
use Rattle.dbn_net.specs.declared.written.WrittenFormula.TheVariants as written_formula
use Rattle.dbn_net.specs.Maybe.{◌>>=◌, each, only_if}
use Rattle.dbn_sexp.specs.Parts.{word_in, constant_in, list_in}
use Rattle.dbn_net.specs.Forms.{Name, is_word, with_word, name_in, one_of, two_of, formula_of, formula_in}
use Rattle.dbn_net.specs.Printing.{on_no_line, no_lines, word, constant, list, form, formula_sexp}
use Rattle.dbn_net.proofs.Maybes.{some_is, first_found, if_found, mapped_found}
use Rattle.dbn_sexp.proofs.PartLaws.{word_found, constant_is, list_found}
use Rattle.dbn_net.proofs.WrittenFormulaLaws.{formula_deeper, sexp_and, sexp_not}

pub word_is : (w k : Name) → is_word w k ≡ true → w ≡ k
word_is w k e = (bytes_eq-Decides w k).0 e

pub word_printed : (one : Sexp) (w : Name) → word_in one ≡ Some w → word w ≡ no_lines one
word_printed one w e = ap on_no_line (sym (line_name 0 w) ∙ ap (on_line 0) (sym (word_found one w e)))

pub constant_found : (one : Sexp) (v : Value) → constant_in one ≡ Some v → constant v ≡ no_lines one
constant_found one v e = ap on_no_line (sym (line_const 0 v) ∙ ap (on_line 0) (sym (constant_is one v e)))

pub name_found : (one : Sexp) (name : Name) → name_in one ≡ Some name → word name ≡ no_lines one
name_found one name e =
    let (w, is, rest) = first_found (word_in one) (λ n. only_if (is_identifier n) n) name e in
    ap word (sym (some_is w name (if_found (is_identifier w) (Some w) name rest).1)) ∙ word_printed one w is

pub list_printed : (one : Sexp) (parts printed : List Sexp) → list_in one ≡ Some parts → printed ≡ map no_lines parts → list printed ≡ no_lines one
list_printed one parts printed is same =
    ap list same ∙ ap on_no_line (sym (line_list 0 parts) ∙ ap (on_line 0) (sym (list_found one parts is)))

pub each_found : {B : Type 0} (f : Sexp → Option B) (p : B → Sexp) → ((one : Sexp) (y : B) → f one ≡ Some y → p y ≡ no_lines one)
    → (parts : List Sexp) (ys : List B) → each f parts ≡ Some ys → map p ys ≡ map no_lines parts
each_found f p found [] ys e = ap (map p) (sym (some_is [] ys e))
each_found f p found (one ∷ parts) ys e =
    let (y, is, rest) = first_found (f one) (λ z. each f parts >>= λ zs. Some (z ∷ zs)) ys e in
    let (zs, are, made) = first_found (each f parts) (λ zs. Some (y ∷ zs)) ys rest in
    ap (map p) (sym (some_is (y ∷ zs) ys made)) ∙ ap (λ w. w ∷ map p zs) (found one y is) ∙ ap (λ ws. no_lines one ∷ ws) (each_found f p found parts zs are)

-- ---- a list with a first word

-- what was read of the parts behind the first word
pub record Headed {A : Type 0} (read : Name → List Sexp → Option A) (one : Sexp) (x : A) : Type 0 where
  pub word : Name
  pub parts : List Sexp
  pub head : Sexp
  pub is_list : list_in one ≡ Some (head ∷ parts)
  pub is_word : word_in head ≡ Some word
  pub is_read : read word parts ≡ Some x

pub headed : {A : Type 0} (read : Name → List Sexp → Option A) (one : Sexp) (x : A) → (list_in one >>= with_word read) ≡ Some x → Headed read one x
headed {A} read one x e =
    let (parts, is, rest) = first_found (list_in one) (with_word read) x e in
    by parts is rest
  where
    by : (parts : List Sexp) → list_in one ≡ Some parts → with_word read parts ≡ Some x → Headed read one x
    by [] is rest = absurd cc
    by (head ∷ parts) is rest =
        let (w, was, made) = first_found (word_in head) (λ word. read word parts) x rest in
        record { word = w; parts = parts; head = head; is_list = is; is_word = was; is_read = made }

pub form_printed : {A : Type 0} (read : Name → List Sexp → Option A) (one : Sexp) (x : A) (h : Headed read one x) (printed : List Sexp)
    → printed ≡ map no_lines h.parts → form h.word printed ≡ no_lines one
form_printed read one x h printed same =
    list_printed one (h.head ∷ h.parts) (word h.word ∷ printed) h.is_list
    (ap (λ y. y ∷ printed) (word_printed h.head h.word h.is_word) ∙ ap (λ ys. no_lines h.head ∷ ys) same)

-- ---- formulas

pub record Shown (w : Name) (parts : List Sexp) (p : WrittenFormula) : Type 0 where
  pub printed : List Sexp
  pub is : formula_sexp p ≡ form w printed
  pub same : printed ≡ map no_lines parts

pub from_parts : (depth : ℕ) → ((w : Name) (parts : List Sexp) (p : WrittenFormula) → formula_of (formula_in depth) w parts ≡ Some p → Shown w parts p)
    → (one : Sexp) (p : WrittenFormula) → formula_in (suc depth) one ≡ Some p → formula_sexp p ≡ no_lines one
from_parts depth shown one p e =
    let h : Headed (formula_of (formula_in depth)) one p = headed (formula_of (formula_in depth)) one p (sym (formula_deeper depth one) ∙ e) in
    let s : Shown h.word h.parts p = shown h.word h.parts p h.is_read in
    s.is ∙ form_printed (formula_of (formula_in depth)) one p h s.printed s.same

module _ (read : Sexp → Option WrittenFormula) (found : (one : Sexp) (p : WrittenFormula) → read one ≡ Some p → formula_sexp p ≡ no_lines one) where
  pub two_found : (parts : List Sexp) (q : WrittenFormula × WrittenFormula) → two_of read parts ≡ Some q → (formula_sexp q.0 ∷ formula_sexp q.1 ∷ []) ≡ map no_lines parts
  two_found [] q e = absurd cc
  two_found (a ∷ []) q e = absurd cc
  two_found (a ∷ b ∷ []) q e =
      let (l, left, rest) = first_found (read a) (λ x. read b >>= λ y. Some (x, y)) q e in
      let (r, right, made) = first_found (read b) (λ y. Some (l, y)) q rest in
      ap (λ z. formula_sexp z.0 ∷ formula_sexp z.1 ∷ []) (sym (some_is (l, r) q made))
      ∙ ap (λ y. y ∷ formula_sexp r ∷ []) (found a l left) ∙ ap (λ y. no_lines a ∷ y ∷ []) (found b r right)
  two_found (a ∷ b ∷ c ∷ parts) q e = absurd cc

  one_found : (parts : List Sexp) (p : WrittenFormula) → one_of read parts ≡ Some p → (formula_sexp p ∷ []) ≡ map no_lines parts
  one_found [] p e = absurd cc
  one_found (a ∷ []) p e = ap (λ y. y ∷ []) (found a p e)
  one_found (a ∷ b ∷ parts) p e = absurd cc

  pub and_found : (w : Name) (parts : List Sexp) (p : WrittenFormula) → is_word w (codes "and") ≡ true → option_map written_formula.And (each read parts) ≡ Some p → Shown w parts p
  and_found w parts p first e =
      let (ps, are, made) = mapped_found written_formula.And (each read parts) p e in
      record {
        printed = map formula_sexp ps;
        is = ap formula_sexp (sym made) ∙ sexp_and ps ∙ ap (λ k. form k (map formula_sexp ps)) (sym (word_is w (codes "and") first));
        same = each_found read formula_sexp found parts ps are;
      }

  pub not_found : (w : Name) (parts : List Sexp) (p : WrittenFormula) → is_word w (codes "not") ≡ true → option_map written_formula.Not (one_of read parts) ≡ Some p → Shown w parts p
  not_found w parts p first e =
      let (q, is, made) = mapped_found written_formula.Not (one_of read parts) p e in
      record {
        printed = formula_sexp q ∷ [];
        is = ap formula_sexp (sym made) ∙ sexp_not q ∙ ap (λ k. form k (formula_sexp q ∷ [])) (sym (word_is w (codes "not") first));
        same = one_found parts q is;
      }
