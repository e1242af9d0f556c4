-- Facts and tokens that are printed are read as they were; declarations of a net are read behind those before them.
use Rattle.std.proofs.Common.{◌≡◌, ℤ, true, List, [], ◌∷◌, ◌++◌, map, refl, sym, ap, subst, ◌∙◌, Some, codes, append-nil, append_assoc}
use Rattle.std.specs.Prelude.{Ok}
use Rattle.dbn_value.specs.Text.{is_identifier}
use Rattle.dbn_value.specs.declared.value.Value.{Value}
use Rattle.dbn_value.specs.declared.value.Value.TheVariants as value
use Rattle.dbn_sexp.specs.declared.sexp.Sexp.{Sexp}
use Rattle.dbn_net.specs.declared.written.Written.{Written}
use Rattle.dbn_net.specs.declared.written.Written.TheVariants as written
use Rattle.dbn_net.specs.declared.decl.Decl.{Decl}
use Rattle.dbn_net.specs.declared.decl.Entry.TheVariants.{Part}
use Rattle.dbn_net.specs.Maybe.{◌>>=◌, each, only_if}
use Rattle.dbn_sexp.specs.Parts.{constant_in}
use Rattle.dbn_net.specs.Forms.{Name, with_word, name_in, int_of, int_in, declared, declaration_in}
use Rattle.dbn_net.specs.Printing.{word, constant, form, sexp_of}
use Rattle.dbn_net.specs.Naming.{named}
use Rattle.dbn_net.specs.WellFormed.{Passes, AllPass, written_from}
use Rattle.dbn_net.specs.Texts.{State, with_entry, taken_up, read_shape, read_one, read_each, and_then}
use Rattle.dbn_sexp.proofs.PartLaws.{word_name, constant_const, list_list}
use Rattle.dbn_net.proofs.WrittenFormulaLaws.{declaration_is}

-- a name that is no operator
abbrev pub IsPlain : Name → Type 0
IsPlain name = is_identifier name ≡ true

pub declared_parts : (w : Name) (parts : List Sexp) → declaration_in (form w parts) ≡ declared w parts
declared_parts w parts =
    declaration_is (form w parts) ∙ ap (λ o. o >>= with_word declared) (list_list 0 (word w ∷ parts)) ∙ ap (λ o. o >>= λ k. declared k parts) (word_name 0 w)

pub name_back : (name : Name) → IsPlain name → name_in (word name) ≡ Some name
name_back name plain = ap (λ o. o >>= λ n. only_if (is_identifier n) n) (word_name 0 name) ∙ ap (λ b. only_if b name) plain

pub constants_back : (row : List Value) → each constant_in (map constant row) ≡ Some row
constants_back [] = refl
constants_back (v ∷ row) =
    ap (λ o. o >>= λ y. each constant_in (map constant row) >>= λ ys. Some (y ∷ ys)) (constant_const 0 v) ∙ ap (λ o. o >>= λ ys. Some (v ∷ ys)) (constants_back row)

pub fact_back : (name : Name) (row : List Value) → IsPlain name → declaration_in (sexp_of (written.Fact name row)) ≡ Some (written.Fact name row)
fact_back name row plain =
    declared_parts (codes "fact") (word name ∷ map constant row)
    ∙ ap (λ o. o >>= λ rel. each constant_in (map constant row) >>= λ vs. Some (written.Fact rel vs)) (name_back name plain)
    ∙ ap (λ o. o >>= λ vs. Some (written.Fact name vs)) (constants_back row)

pub token_back : (name : Name) (many : ℤ) (row : List Value) → IsPlain name → declaration_in (sexp_of (written.Token name many row)) ≡ Some (written.Token name many row)
token_back name many row plain =
    declared_parts (codes "token") (word name ∷ constant (value.Int many) ∷ map constant row)
    ∙ ap (λ o. o >>= λ place. int_in (constant (value.Int many)) >>= λ n. each constant_in (map constant row) >>= λ vs. Some (written.Token place n vs)) (name_back name plain)
    ∙ ap (λ o. (o >>= int_of) >>= λ n. each constant_in (map constant row) >>= λ vs. Some (written.Token name n vs)) (constant_const 0 (value.Int many))
    ∙ ap (λ o. o >>= λ vs. Some (written.Token name many vs)) (constants_back row)

-- ---- declarations of a net

no_line : (w : Written) → (sexp_of w).line ≡ 0
no_line (written.Relation a b) = refl
no_line (written.Key a b) = refl
no_line (written.Foreign a b c d) = refl
no_line (written.Always a b) = refl
no_line (written.Query a b c) = refl
no_line (written.Action a b c d) = refl
no_line (written.Control a b) = refl
no_line (written.View a b) = refl
no_line (written.Transition r) = refl
no_line (written.Fact a b) = refl
no_line (written.Token a b c) = refl

one_again : (s : State) (d : Decl) → Passes s.decls d → read_one s (sexp_of (named s.decls d)) ≡ Ok (with_entry 0 s (Part d))
one_again s d p =
    ap (λ n. read_shape n s (declaration_in (sexp_of (named s.decls d)))) (no_line (named s.decls d))
    ∙ ap (read_shape 0 s) p.shape
    ∙ ap (taken_up 0 s) (p.tests s.begun)

-- what stands behind the declarations
abbrev pub behind : State → List Decl → State
behind s [] = s
behind s (d ∷ net) = behind (with_entry 0 s (Part d)) net

pub declarations_again : (s : State) (net : List Decl) → AllPass s.decls net → read_each s (map sexp_of (written_from s.decls net)) ≡ Ok (behind s net)
declarations_again s [] all = refl
declarations_again s (d ∷ net) all =
    ap (λ r. and_then r (λ next. read_each next (map sexp_of (written_from (s.decls ++ d ∷ []) net)))) (one_again s d all.0)
    ∙ declarations_again (with_entry 0 s (Part d)) net all.1

-- one more declaration
pub one_more : (before net : List Decl) (d : Decl) → AllPass before net → Passes (before ++ net) d → AllPass before (net ++ d ∷ [])
one_more before [] d all p = (subst (λ b. Passes b d) (append-nil before) p, tt)
one_more before (e ∷ net) d all p = (all.0, one_more (before ++ e ∷ []) net d all.1 (subst (λ b. Passes b d) (sym (append_assoc before (e ∷ []) net)) p))
