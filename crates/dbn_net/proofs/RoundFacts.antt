-- Facts that are written in the order of a good instance rebuild it.
use Rattle.std.proofs.Common.{◌≡◌, ℕ, ◌+◌, true, false, not, ◌&&◌, List, [], ◌∷◌, ◌++◌, map, refl, sym, ap, subst, ◌∙◌, Option, Some, None, length, codes, append-nil, append_assoc, length-append}
use Rattle.std.specs.Prelude.{Result, Ok, Err, nat_le, slice_set}
use Rattle.std.specs.List.{list_any, list_all, flat_map, AllByRecursion}
use Rattle.std.specs.List.Sorted.{IsStrictlySortedBy}
use Rattle.std.specs.Cmp.Lexicographic.{slice_cmp}
use Rattle.std.specs.BTreeMap.{is_at}
use Rattle.std.specs.BTreeSet.{insert_key}
use Rattle.std.proofs.Math.Seq.{get_or-append_seam, set-append_seam}
use Rattle.std.proofs.lemmas.List.{map-append}
use Rattle.dbn_value.specs.Order.{value_cmp, rows_total}
use Rattle.dbn_value.specs.declared.value.Value.{Value}
use Rattle.dbn_sexp.specs.declared.sexp.Sexp.{Sexp}
use Rattle.dbn_sexp.specs.Printing.{atoms}
use Rattle.dbn_sexp.proofs.TreeLaws.{atoms_name, atoms_const, atoms_list}
use Rattle.dbn_formula.specs.Holds.{Instance}
use Rattle.dbn_instance.specs.Facts.{has_fact, with_fact}
use Rattle.dbn_net.specs.declared.fault.NetKind.TheVariants as kind
use Rattle.dbn_net.specs.declared.written.Written.TheVariants as written
use Rattle.dbn_net.specs.declared.decl.Decl.{Decl}
use Rattle.dbn_net.specs.declared.decl.Entry.{Entry}
use Rattle.dbn_net.specs.declared.decl.Entry.TheVariants.{Fact}
use Rattle.dbn_net.specs.Forms.{Name}
use Rattle.dbn_net.specs.Printing.{word, constant, sexp_of}
use Rattle.dbn_net.specs.Tables.{relation_names, relation_shapes, columns}
use Rattle.dbn_net.specs.Naming.{number_of, name_at, named_entry}
use Rattle.dbn_net.specs.Judging.{Begun, is_short, short_names, no_duplicate, fact_is_new, as_many, row_fits, unless, judged, judged_resolved, judged_entry}
use Rattle.dbn_net.specs.Values.{Marking}
use Rattle.dbn_net.specs.Texts.{State, Fault, with_entry, taken_up, read_shape, read_one, read_each, and_then, facts_from, printed}
use Rattle.dbn_net.proofs.AtomLaws.{short_name, short_const}
use Rattle.dbn_net.proofs.BackLaws.{IsPlain, fact_back}
use Rattle.dbn_net.proofs.Appended.{append_key, not_there, past_those_before}

-- a state of reading
abbrev pub at : List Decl → List ℕ → Instance → Marking → State
at decls lines facts tokens = record { decls = decls; begun = record { facts = facts; tokens = tokens }; lines = lines }

-- the names with numbers: plain, short and each found at its number
pub record Known (names : List Name) (n : ℕ) : Type 0 where
  pub plain : IsPlain (name_at names n)
  pub short : nat_le (length (name_at names n)) 64 ≡ true
  pub number : number_of names (name_at names n) ≡ Some n

pub all_short : (row : List Value) → list_all is_short (flat_map (λ one. atoms one.item) (map constant row)) ≡ true
all_short [] = refl
all_short (v ∷ row) = ap (λ l. list_all is_short (l ++ flat_map (λ one. atoms one.item) (map constant row))) (atoms_const v) ∙ ap (λ b. b && list_all is_short (flat_map (λ one. atoms one.item) (map constant row))) (short_const v) ∙ all_short row

pub fact_short : (name : Name) (row : List Value) → nat_le (length name) 64 ≡ true → short_names (written.Fact name row) ≡ true
fact_short name row short =
    ap (list_all is_short) (atoms_list (word (codes "fact") ∷ word name ∷ map constant row))
    ∙ ap (λ l. list_all is_short (l ++ (atoms (word name).item ++ flat_map (λ one. atoms one.item) (map constant row)))) (atoms_name (codes "fact"))
    ∙ ap (λ b. b && list_all is_short (atoms (word name).item ++ flat_map (λ one. atoms one.item) (map constant row))) (short_name (codes "fact"))
    ∙ ap (λ l. list_all is_short (l ++ flat_map (λ one. atoms one.item) (map constant row))) (atoms_name name)
    ∙ ap (λ b. b && list_all is_short (flat_map (λ one. atoms one.item) (map constant row))) (short_name name)
    ∙ ap (λ b. b && list_all is_short (flat_map (λ one. atoms one.item) (map constant row))) short
    ∙ all_short row

-- one fact
pub record FactFits (decls : List Decl) (rel : ℕ) (row : List Value) : Type 0 where
  pub arity : as_many row (columns (relation_shapes decls) rel) ≡ true
  pub typed : row_fits row (columns (relation_shapes decls) rel) ≡ true

pub fact_judged : (decls : List Decl) (begun : Begun) (rel : ℕ) (row : List Value) → Known (relation_names decls) rel → FactFits decls rel row
    → has_fact value_cmp begun.facts (record { rel = rel; row = row }) ≡ false
    → judged decls begun (written.Fact (name_at (relation_names decls) rel) row) ≡ Ok (Fact rel row)
fact_judged decls begun rel row known fits fresh =
    let name : Name = name_at (relation_names decls) rel in
    ap (λ b. unless (b && true && true) kind.Limit (unless (no_duplicate decls begun (written.Fact name row)) kind.Duplicate (judged_resolved decls (resolved_fact (number_of (relation_names decls) name))))) (fact_short name row known.short)
    ∙ ap (λ n. unless (fact_is_new begun row n) kind.Duplicate (judged_resolved decls (resolved_fact n))) known.number
    ∙ ap (λ b. unless (not b) kind.Duplicate (judged_entry decls (Fact rel row))) fresh
    ∙ ap (λ b. unless b kind.Arity (unless (row_fits row (columns (relation_shapes decls) rel)) kind.TypeClash (Ok (Fact rel row)))) fits.arity
    ∙ ap (λ b. unless b kind.TypeClash (Ok (Fact rel row))) fits.typed
  where
    resolved_fact : Option ℕ → Option Entry
    resolved_fact None = None
    resolved_fact (Some n) = Some (Fact n row)

pub fact_again : (decls : List Decl) (lines : List ℕ) (facts : Instance) (tokens : Marking) (rel : ℕ) (row : List Value) → Known (relation_names decls) rel → FactFits decls rel row
    → has_fact value_cmp facts (record { rel = rel; row = row }) ≡ false
    → read_one (at decls lines facts tokens) (sexp_of (named_entry decls (Fact rel row))) ≡ Ok (with_entry 0 (at decls lines facts tokens) (Fact rel row))
fact_again decls lines facts tokens rel row known fits fresh =
    ap (read_shape 0 (at decls lines facts tokens)) (fact_back (name_at (relation_names decls) rel) row known.plain)
    ∙ ap (taken_up 0 (at decls lines facts tokens)) (fact_judged decls (record { facts = facts; tokens = tokens }) rel row known fits fresh)

-- a fact greater than those of its relation comes behind them
fact_last : (front : Instance) (done : List (List Value)) (rest : Instance) (row : List Value) (rows : List (List Value)) → IsStrictlySortedBy (slice_cmp value_cmp) (done ++ row ∷ rows)
    → with_fact value_cmp (front ++ done ∷ rest) (record { rel = length front; row = row }) ≡ front ++ (done ++ row ∷ []) ∷ rest
fact_last front done rest row rows s =
    ap (λ l. slice_set (front ++ done ∷ rest) (length front) (insert_key (slice_cmp value_cmp) l row)) (get_or-append_seam front done rest [])
    ∙ ap (slice_set (front ++ done ∷ rest) (length front)) (append_key (slice_cmp value_cmp) row done (past_those_before rows_total done row rows s))
    ∙ set-append_seam front done rest (done ++ row ∷ [])

fact_new : (front : Instance) (done : List (List Value)) (rest : Instance) (row : List Value) (rows : List (List Value)) → IsStrictlySortedBy (slice_cmp value_cmp) (done ++ row ∷ rows)
    → has_fact value_cmp (front ++ done ∷ rest) (record { rel = length front; row = row }) ≡ false
fact_new front done rest row rows s =
    ap (list_any (is_at (slice_cmp value_cmp row))) (get_or-append_seam front done rest [])
    ∙ not_there (slice_cmp value_cmp) row done (past_those_before rows_total done row rows s)

-- reading goes on
abbrev pub read_on : List Sexp → Result State Fault → Result State Fault
read_on list r = and_then r (λ next. read_each next list)

-- the rows of one relation
pub rows_again : (decls : List Decl) (lines : List ℕ) (tokens : Marking) (front : Instance) (rest : Instance) (done rows : List (List Value))
    → Known (relation_names decls) (length front) → IsStrictlySortedBy (slice_cmp value_cmp) (done ++ rows) → AllByRecursion (FactFits decls (length front)) rows
    → read_each (at decls lines (front ++ done ∷ rest) tokens) (printed decls (map (Fact (length front)) rows)) ≡ Ok (at decls lines (front ++ (done ++ rows) ∷ rest) tokens)
rows_again decls lines tokens front rest done [] known s fits = ap (λ l. Ok (at decls lines (front ++ l ∷ rest) tokens)) (sym (append-nil done))
rows_again decls lines tokens front rest done (row ∷ rows) known s fits =
    ap (read_on (printed decls (map (Fact (length front)) rows)))
    (fact_again decls lines (front ++ done ∷ rest) tokens (length front) row known fits.0 (fact_new front done rest row rows s)
    ∙ ap (λ fs. Ok (at decls lines fs tokens)) (fact_last front done rest row rows s))
    ∙ rows_again decls lines tokens front rest (done ++ row ∷ []) rows known (subst (IsStrictlySortedBy (slice_cmp value_cmp)) (sym (append_assoc done (row ∷ []) rows)) s) fits.1
    ∙ ap (λ l. Ok (at decls lines (front ++ l ∷ rest) tokens)) (append_assoc done (row ∷ []) rows)

-- reading goes on behind the first of two lists
pub read_behind : (s : State) (xs ys : List Sexp) → read_each s (xs ++ ys) ≡ read_on ys (read_each s xs)
read_behind s [] ys = refl
read_behind s (x ∷ xs) ys = by (λ t. read_behind t xs ys) (read_one s x)
  where
    by : ((t : State) → read_each t (xs ++ ys) ≡ read_on ys (read_each t xs)) → (r : Result State Fault) → read_on (xs ++ ys) r ≡ read_on ys (read_on xs r)
    by later (Ok t) = later t
    by later (Err e) = refl

-- as many empty lists
abbrev pub blank : {A B : Type 0} → List B → List (List A)
blank xs = map (λ x. []) xs

abbrev pub AllFit : List Decl → ℕ → Instance → Type 0
AllFit decls rel [] = Unit {0}
AllFit decls rel (rows ∷ facts) = Known (relation_names decls) rel × IsStrictlySortedBy (slice_cmp value_cmp) rows × AllByRecursion (FactFits decls rel) rows × AllFit decls (rel + 1) facts

-- the facts by relation and row
pub facts_again : (decls : List Decl) (lines : List ℕ) (tokens : Marking) (front facts : Instance) → AllFit decls (length front) facts
    → read_each (at decls lines (front ++ blank facts) tokens) (printed decls (facts_from (length front) facts)) ≡ Ok (at decls lines (front ++ facts) tokens)
facts_again decls lines tokens front [] fit = refl
facts_again decls lines tokens front (rows ∷ facts) (known, s, fits, fit) =
    let longer : length (front ++ rows ∷ []) ≡ length front + 1 = length-append front (rows ∷ []) in
    ap (read_each (at decls lines (front ++ [] ∷ blank facts) tokens)) (map-append (λ e. sexp_of (named_entry decls e)) (map (Fact (length front)) rows) (facts_from (length front + 1) facts))
    ∙ read_behind (at decls lines (front ++ [] ∷ blank facts) tokens) (printed decls (map (Fact (length front)) rows)) (printed decls (facts_from (length front + 1) facts))
    ∙ ap (read_on (printed decls (facts_from (length front + 1) facts))) (rows_again decls lines tokens front (blank facts) [] rows known s fits)
    ∙ ap (λ fs. read_each (at decls lines fs tokens) (printed decls (facts_from (length front + 1) facts))) (sym (append_assoc front (rows ∷ []) (blank facts)))
    ∙ ap (λ n. read_each (at decls lines ((front ++ rows ∷ []) ++ blank facts) tokens) (printed decls (facts_from n facts))) (sym longer)
    ∙ facts_again decls lines tokens (front ++ rows ∷ []) facts (subst (λ n. AllFit decls n facts) (sym longer) fit)
    ∙ ap (λ fs. Ok (at decls lines fs tokens)) (append_assoc front (rows ∷ []) facts)
