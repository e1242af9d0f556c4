-- What small net texts are read as.
use Rattle.std.proofs.Common.{◌≡◌, ℕ, List, [], ◌∷◌, refl, codes, replicate, pos}
use Rattle.std.specs.Prelude.{Result, Ok}
use Rattle.dbn_value.specs.declared.value.Value.TheVariants.{Int, Text, Id}
use Rattle.dbn_sexp.specs.declared.sexp.Sexp.{Sexp}
use Rattle.dbn_sexp.specs.declared.sexp.Item.TheVariants as item
use Rattle.dbn_sexp.proofs.TreeLaws.{atoms_laws}
use Rattle.dbn_formula.proofs.HoldsLaws.{holds_laws}
use Rattle.dbn_formula.proofs.NormalLaws.{normal_laws}
use Rattle.dbn_formula.proofs.FreeLaws.{occurrences_laws}
use Rattle.dbn_formula.proofs.TypingLaws.{typing_laws}
use Rattle.dbn_formula.proofs.ApartLaws.{apart_laws}
use Rattle.dbn_formula.proofs.SafeLaws.{safe_laws}
use Rattle.dbn_net.specs.declared.fault.NetKind.TheVariants as kind
use Rattle.dbn_net.specs.Maybe.{◌>>=◌}
use Rattle.dbn_sexp.specs.Parts.{list_in}
use Rattle.dbn_net.specs.Forms.{Name, formula_in, formula_of, with_word}
use Rattle.dbn_net.specs.Printing.{word, constant}
use Rattle.dbn_net.specs.Texts.{Start, Fault, fault, read_list}
use Rattle.dbn_sexp.proofs.PartLaws.{part_laws}
use Rattle.dbn_net.proofs.WrittenFormulaLaws.{declaration_is, formula_deeper, sexp_laws, guard_laws, quantifies_laws, resolved_laws}
use Rattle.dbn_net.proofs.AtomLaws.{short_laws}

-- ---- texts as lists, one declaration a line

abbrev read : List Sexp → Result Start Fault
read list = read_list (Ok list)

abbrev w : Name → Sexp
w name = word name

abbrev n : ℕ → Sexp
n k = constant (Int (pos k))

abbrev l : List Sexp → Sexp
l parts = record { line = 0; item = item.List parts }

abbrev at : ℕ → List Sexp → Sexp
at line parts = record { line = line; item = item.List parts }

deeper : (one : Sexp) → formula_in 64 one ≡ (list_in one >>= with_word (formula_of (formula_in 63)))
deeper one = formula_deeper 63 one

deeper_63 : (one : Sexp) → formula_in 63 one ≡ (list_in one >>= with_word (formula_of (formula_in 62)))
deeper_63 one = formula_deeper 62 one

-- ---- ten nets that are refused, each for its own kind

connective : read (at 1 (w (codes "relation") ∷ w (codes "and") ∷ l (w (codes "x") ∷ w (codes "int") ∷ []) ∷ []) ∷ []) ≡ fault 1 kind.Declaration
connective = simp (declaration_is, part_laws) refl

abbrev place_p : Sexp
place_p = at 1 (w (codes "place") ∷ w (codes "P") ∷ [])

abbrev place_int : Sexp
place_int = at 1 (w (codes "place") ∷ w (codes "P") ∷ w (codes "int") ∷ [])

unknown : read (place_int ∷ at 2 (w (codes "transition") ∷ w (codes "t") ∷ l (w (codes "in") ∷ w (codes "P") ∷ l (n 1 ∷ constant (Id 0) ∷ []) ∷ []) ∷ l (w (codes "out") ∷ w (codes "Q") ∷ l (n 0 ∷ []) ∷ []) ∷ []) ∷ []) ≡ fault 2 kind.Unknown
unknown = simp (declaration_is, part_laws, atoms_laws, short_laws) refl

duplicate : read (place_p ∷ at 2 (w (codes "token") ∷ w (codes "P") ∷ n 1 ∷ []) ∷ at 3 (w (codes "token") ∷ w (codes "P") ∷ n 2 ∷ []) ∷ []) ≡ fault 3 kind.Duplicate
duplicate = simp (declaration_is, part_laws, atoms_laws, short_laws) refl

arity : read (at 1 (w (codes "relation") ∷ w (codes "R") ∷ l (w (codes "x") ∷ w (codes "int") ∷ []) ∷ []) ∷ at 2 (w (codes "fact") ∷ w (codes "R") ∷ n 1 ∷ n 2 ∷ []) ∷ []) ≡ fault 2 kind.Arity
arity = simp (declaration_is, part_laws, atoms_laws, short_laws) refl

type_clash : read (place_int ∷ at 2 (w (codes "transition") ∷ w (codes "t") ∷ l (w (codes "in") ∷ w (codes "P") ∷ l (n 1 ∷ w (codes "x") ∷ []) ∷ []) ∷ l (w (codes "guard") ∷ l (w (codes "=") ∷ w (codes "x") ∷ constant (Text (codes "a")) ∷ []) ∷ []) ∷ []) ∷ []) ≡ fault 2 kind.TypeClash
type_clash = simp (declaration_is, part_laws, atoms_laws, short_laws, deeper, guard_laws, sexp_laws, resolved_laws, typing_laws) refl

abbrev query_on : Sexp → Sexp
query_on body = at 1 (w (codes "query") ∷ w (codes "q") ∷ l (l (w (codes "x") ∷ w (codes "int") ∷ []) ∷ []) ∷ body ∷ [])

unbound : read (query_on (l (w (codes "or") ∷ [])) ∷ []) ≡ fault 1 kind.Unbound
unbound = simp (declaration_is, part_laws, atoms_laws, short_laws, deeper, sexp_laws, quantifies_laws, resolved_laws, typing_laws, occurrences_laws) refl

not_safe : read (query_on (l (w (codes "=") ∷ w (codes "x") ∷ w (codes "x") ∷ [])) ∷ []) ≡ fault 1 kind.Unsafe
not_safe = simp (declaration_is, part_laws, atoms_laws, short_laws, deeper, sexp_laws, quantifies_laws, resolved_laws, typing_laws, occurrences_laws, normal_laws, apart_laws, safe_laws) refl

count : read (place_p ∷ at 2 (w (codes "token") ∷ w (codes "P") ∷ n 0 ∷ []) ∷ []) ≡ fault 2 kind.Count
count = simp (declaration_is, part_laws, atoms_laws, short_laws) refl

inconsistent : read (at 1 (w (codes "always") ∷ w (codes "a") ∷ l (w (codes "or") ∷ []) ∷ []) ∷ []) ≡ fault 1 kind.Inconsistent
inconsistent = simp (declaration_is, part_laws, atoms_laws, short_laws, deeper, sexp_laws, quantifies_laws, resolved_laws, typing_laws, occurrences_laws, normal_laws, apart_laws, safe_laws, holds_laws) refl

limit : read (at 1 (w (codes "place") ∷ w (replicate 65 80) ∷ []) ∷ []) ≡ fault 1 kind.Limit
limit = simp (declaration_is, part_laws, atoms_laws, short_laws) refl

-- ---- asked variables

abbrev asking : Sexp → Sexp → Sexp
asking ask out = at 2 (w (codes "transition") ∷ w (codes "t") ∷ l (w (codes "in") ∷ w (codes "P") ∷ l (n 1 ∷ w (codes "x") ∷ []) ∷ []) ∷ ask ∷ out ∷ [])

abbrev ask_y : Sexp
ask_y = l (w (codes "ask") ∷ l (w (codes "y") ∷ w (codes "text") ∷ []) ∷ [])

abbrev out_y : Sexp
out_y = l (w (codes "out") ∷ w (codes "P") ∷ l (n 1 ∷ w (codes "y") ∷ []) ∷ [])

-- an asked variable has its declared type
asked_clash : read (place_int ∷ asking ask_y out_y ∷ []) ≡ fault 2 kind.TypeClash
asked_clash = simp (declaration_is, part_laws, atoms_laws, short_laws) refl

-- it has a name of its own
asked_twice : read (place_int ∷ asking (l (w (codes "ask") ∷ l (w (codes "x") ∷ w (codes "int") ∷ []) ∷ [])) out_y ∷ []) ≡ fault 2 kind.Duplicate
asked_twice = simp (declaration_is, part_laws, atoms_laws, short_laws) refl

-- `ask` stands before `out`
asked_late : read (place_int ∷ asking out_y ask_y ∷ []) ≡ fault 2 kind.Declaration
asked_late = simp (declaration_is, part_laws, atoms_laws, short_laws) refl
