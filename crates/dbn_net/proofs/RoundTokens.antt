-- Tokens that are written in the order of a good marking rebuild it.
use Rattle.std.proofs.Common.{◌≡◌, ℕ, ◌+◌, pos, true, ◌&&◌, ◌==◌, List, [], ◌∷◌, ◌++◌, map, refl, sym, ap, subst, ◌∙◌, Some, arith, length, codes, append-nil, append_assoc, length-append}
use Rattle.std.specs.Prelude.{Ok, nat_le, slice_set}
use Rattle.std.specs.List.{list_all, flat_map, AllByRecursion}
use Rattle.std.specs.Option.{option_map, unwrap_or}
use Rattle.std.specs.List.Sorted.{IsStrictlySortedBy}
use Rattle.std.specs.Cmp.Lexicographic.{slice_cmp}
use Rattle.std.specs.declared.cmp.Ordering.{Ordering}
use Rattle.std.specs.BTreeMap.{insert_entry}
use Rattle.std.specs.Map.{keys_of}
use Rattle.std.proofs.Math.Seq.{get_or-append_seam, set-append_seam}
use Rattle.std.proofs.lemmas.List.{map-append}
use Rattle.dbn_value.specs.Order.{value_cmp, rows_total}
use Rattle.dbn_value.specs.declared.value.Value.{Value}
use Rattle.dbn_value.specs.declared.value.Value.TheVariants as value
use Rattle.dbn_sexp.specs.declared.sexp.Sexp.{Sexp}
use Rattle.dbn_sexp.specs.Printing.{atoms}
use Rattle.dbn_sexp.proofs.TreeLaws.{atoms_name, atoms_const, atoms_list}
use Rattle.dbn_formula.specs.Holds.{Instance}
use Rattle.dbn_marking.specs.Counts.{count_of, count_at, added, with_tokens}
use Rattle.dbn_net.specs.declared.fault.NetKind.TheVariants as kind
use Rattle.dbn_net.specs.declared.written.Written.TheVariants as written
use Rattle.dbn_net.specs.declared.decl.Decl.{Decl}
use Rattle.dbn_net.specs.declared.decl.Entry.{Entry}
use Rattle.dbn_net.specs.declared.decl.Entry.TheVariants.{Tokens}
use Rattle.dbn_net.specs.Forms.{Name}
use Rattle.dbn_net.specs.Printing.{word, constant, sexp_of}
use Rattle.dbn_net.specs.Tables.{place_names, place_shapes, columns}
use Rattle.dbn_net.specs.Naming.{name_at, control_number, named_entry}
use Rattle.dbn_net.specs.Judging.{Begun, is_short, short_names, token_is_new, as_many, row_fits, is_count, unless, judged, judged_resolved}
use Rattle.dbn_net.specs.Values.{Marking}
use Rattle.dbn_net.specs.Texts.{with_entry, taken_up, read_shape, read_one, read_each, tokens_from, printed}
use Rattle.dbn_net.proofs.AtomLaws.{short_name, short_const}
use Rattle.dbn_net.proofs.BackLaws.{token_back}
use Rattle.dbn_net.proofs.Appended.{append_entry, no_entry, past_those_before}
use Rattle.dbn_net.proofs.RoundFacts.{at, Known, all_short, read_on, read_behind, blank}

abbrev row_order : List Value → List Value → Ordering
row_order = slice_cmp value_cmp

token_short : (name : Name) (many : ℕ) (row : List Value) → nat_le (length name) 64 ≡ true → short_names (written.Token name (pos many) row) ≡ true
token_short name many row short =
    ap (list_all is_short) (atoms_list (word (codes "token") ∷ word name ∷ constant (value.Int (pos many)) ∷ map constant row))
    ∙ ap (λ l. list_all is_short (l ++ (atoms (word name).item ++ (atoms (constant (value.Int (pos many))).item ++ flat_map (λ one. atoms one.item) (map constant row))))) (atoms_name (codes "token"))
    ∙ ap (λ b. b && list_all is_short (atoms (word name).item ++ (atoms (constant (value.Int (pos many))).item ++ flat_map (λ one. atoms one.item) (map constant row)))) (short_name (codes "token"))
    ∙ ap (λ l. list_all is_short (l ++ (atoms (constant (value.Int (pos many))).item ++ flat_map (λ one. atoms one.item) (map constant row)))) (atoms_name name)
    ∙ ap (λ b. b && list_all is_short (atoms (constant (value.Int (pos many))).item ++ flat_map (λ one. atoms one.item) (map constant row))) (short_name name)
    ∙ ap (λ b. b && list_all is_short (atoms (constant (value.Int (pos many))).item ++ flat_map (λ one. atoms one.item) (map constant row))) short
    ∙ ap (λ l. list_all is_short (l ++ flat_map (λ one. atoms one.item) (map constant row))) (atoms_const (value.Int (pos many)))
    ∙ ap (λ b. b && list_all is_short (flat_map (λ one. atoms one.item) (map constant row))) (short_const (value.Int (pos many)))
    ∙ all_short row

-- so many tokens of a row of a control place
pub record TokenFits (decls : List Decl) (place : ℕ) (counted : List Value × ℕ) : Type 0 where
  pub known : Known (place_names decls) place
  pub control : control_number decls (name_at (place_names decls) place) ≡ Some place
  pub arity : as_many counted.0 (columns (place_shapes decls) place) ≡ true
  pub typed : row_fits counted.0 (columns (place_shapes decls) place) ≡ true
  pub count : is_count counted.1 ≡ true

pub token_judged : (decls : List Decl) (begun : Begun) (place : ℕ) (counted : List Value × ℕ) → TokenFits decls place counted
    → count_at row_order begun.tokens place counted.0 ≡ 0
    → judged decls begun (written.Token (name_at (place_names decls) place) (pos counted.1) counted.0) ≡ Ok (Tokens place counted.1 counted.0)
token_judged decls begun place counted fits fresh =
    let name : Name = name_at (place_names decls) place in
    let e : Entry = Tokens place counted.1 counted.0 in
    ap (λ b. unless (b && true && true) kind.Limit (unless (token_is_new begun counted.0 (control_number decls name)) kind.Duplicate (judged_resolved decls (option_map (λ n. Tokens n counted.1 counted.0) (control_number decls name))))) (token_short name counted.1 counted.0 fits.known.short)
    ∙ ap (λ n. unless (token_is_new begun counted.0 n) kind.Duplicate (judged_resolved decls (option_map (λ k. Tokens k counted.1 counted.0) (control_number decls name)))) fits.control
    ∙ ap (λ n. unless (n == 0) kind.Duplicate (judged_resolved decls (option_map (λ k. Tokens k counted.1 counted.0) (control_number decls name)))) fresh
    ∙ ap (λ o. judged_resolved decls (option_map (λ k. Tokens k counted.1 counted.0) o)) fits.control
    ∙ ap (λ b. unless b kind.Arity (unless (row_fits counted.0 (columns (place_shapes decls) place)) kind.TypeClash (unless (is_count counted.1) kind.Count (Ok e)))) fits.arity
    ∙ ap (λ b. unless b kind.TypeClash (unless (is_count counted.1) kind.Count (Ok e))) fits.typed
    ∙ ap (λ b. unless b kind.Count (Ok e)) fits.count

pub token_again : (decls : List Decl) (lines : List ℕ) (facts : Instance) (tokens : Marking) (place : ℕ) (counted : List Value × ℕ) → TokenFits decls place counted
    → count_at row_order tokens place counted.0 ≡ 0
    → read_one (at decls lines facts tokens) (sexp_of (named_entry decls (Tokens place counted.1 counted.0))) ≡ Ok (with_entry 0 (at decls lines facts tokens) (Tokens place counted.1 counted.0))
token_again decls lines facts tokens place counted fits fresh =
    ap (read_shape 0 (at decls lines facts tokens)) (token_back (name_at (place_names decls) place) (pos counted.1) counted.0 fits.known.plain)
    ∙ ap (taken_up 0 (at decls lines facts tokens)) (token_judged decls (record { facts = facts; tokens = tokens }) place counted fits fresh)

-- ---- the tokens of a place, in order

keys_at : (done : List (List Value × ℕ)) (c : List Value × ℕ) (rows : List (List Value × ℕ)) → IsStrictlySortedBy row_order (keys_of (done ++ c ∷ rows))
    → IsStrictlySortedBy row_order (keys_of done ++ c.0 ∷ keys_of rows)
keys_at done c rows s = subst (IsStrictlySortedBy row_order) (map-append (λ e. e.0) done (c ∷ rows)) s

none_yet : (front : Marking) (done : List (List Value × ℕ)) (rest : Marking) (c : List Value × ℕ) (rows : List (List Value × ℕ)) → IsStrictlySortedBy row_order (keys_of (done ++ c ∷ rows))
    → count_at row_order (front ++ done ∷ rest) (length front) c.0 ≡ 0
none_yet front done rest c rows s =
    ap (λ l. count_of row_order l c.0) (get_or-append_seam front done rest [])
    ∙ ap (λ o. unwrap_or o 0) (no_entry row_order c.0 done (past_those_before rows_total (keys_of done) c.0 (keys_of rows) (keys_at done c rows s)))

token_last : (front : Marking) (done : List (List Value × ℕ)) (rest : Marking) (c : List Value × ℕ) (rows : List (List Value × ℕ)) → IsStrictlySortedBy row_order (keys_of (done ++ c ∷ rows))
    → with_tokens row_order (front ++ done ∷ rest) (length front) c.0 c.1 ≡ front ++ (done ++ c ∷ []) ∷ rest
token_last front done rest c rows s =
    let past = past_those_before rows_total (keys_of done) c.0 (keys_of rows) (keys_at done c rows s) in
    let none_and : 0 + c.1 ≡ c.1 = omega arith in
    ap (λ l. slice_set (front ++ done ∷ rest) (length front) (added row_order l c.0 c.1)) (get_or-append_seam front done rest [])
    ∙ ap (λ o. slice_set (front ++ done ∷ rest) (length front) (insert_entry row_order done c.0 (unwrap_or o 0 + c.1))) (no_entry row_order c.0 done past)
    ∙ ap (λ n. slice_set (front ++ done ∷ rest) (length front) (insert_entry row_order done c.0 n)) none_and
    ∙ ap (slice_set (front ++ done ∷ rest) (length front)) (append_entry row_order c.0 c.1 done past)
    ∙ set-append_seam front done rest (done ++ c ∷ [])

pub place_again : (decls : List Decl) (lines : List ℕ) (facts : Instance) (front rest : Marking) (done rows : List (List Value × ℕ))
    → IsStrictlySortedBy row_order (keys_of (done ++ rows)) → AllByRecursion (TokenFits decls (length front)) rows
    → read_each (at decls lines facts (front ++ done ∷ rest)) (printed decls (map (λ r. Tokens (length front) r.1 r.0) rows)) ≡ Ok (at decls lines facts (front ++ (done ++ rows) ∷ rest))
place_again decls lines facts front rest done [] s fits = ap (λ l. Ok (at decls lines facts (front ++ l ∷ rest))) (sym (append-nil done))
place_again decls lines facts front rest done (c ∷ rows) s fits =
    ap (read_on (printed decls (map (λ r. Tokens (length front) r.1 r.0) rows)))
    (token_again decls lines facts (front ++ done ∷ rest) (length front) c fits.0 (none_yet front done rest c rows s)
    ∙ ap (λ ts. Ok (at decls lines facts ts)) (token_last front done rest c rows s))
    ∙ place_again decls lines facts front rest (done ++ c ∷ []) rows (subst (λ l. IsStrictlySortedBy row_order (keys_of l)) (sym (append_assoc done (c ∷ []) rows)) s) fits.1
    ∙ ap (λ l. Ok (at decls lines facts (front ++ l ∷ rest))) (append_assoc done (c ∷ []) rows)

abbrev pub AllCounted : List Decl → ℕ → Marking → Type 0
AllCounted decls place [] = Unit {0}
AllCounted decls place (rows ∷ tokens) = IsStrictlySortedBy row_order (keys_of rows) × AllByRecursion (TokenFits decls place) rows × AllCounted decls (place + 1) tokens

-- the tokens by place and row
pub tokens_again : (decls : List Decl) (lines : List ℕ) (facts : Instance) (front tokens : Marking) → AllCounted decls (length front) tokens
    → read_each (at decls lines facts (front ++ blank tokens)) (printed decls (tokens_from (length front) tokens)) ≡ Ok (at decls lines facts (front ++ tokens))
tokens_again decls lines facts front [] fit = refl
tokens_again decls lines facts front (rows ∷ tokens) (s, fits, fit) =
    let longer : length (front ++ rows ∷ []) ≡ length front + 1 = length-append front (rows ∷ []) in
    let these : List Sexp = printed decls (map (λ r. Tokens (length front) r.1 r.0) rows) in
    ap (read_each (at decls lines facts (front ++ [] ∷ blank tokens))) (map-append (λ e. sexp_of (named_entry decls e)) (map (λ r. Tokens (length front) r.1 r.0) rows) (tokens_from (length front + 1) tokens))
    ∙ read_behind (at decls lines facts (front ++ [] ∷ blank tokens)) these (printed decls (tokens_from (length front + 1) tokens))
    ∙ ap (read_on (printed decls (tokens_from (length front + 1) tokens))) (place_again decls lines facts front (blank tokens) [] rows s fits)
    ∙ ap (λ ts. read_each (at decls lines facts ts) (printed decls (tokens_from (length front + 1) tokens))) (sym (append_assoc front (rows ∷ []) (blank tokens)))
    ∙ ap (λ n. read_each (at decls lines facts ((front ++ rows ∷ []) ++ blank tokens)) (printed decls (tokens_from n tokens))) (sym longer)
    ∙ tokens_again decls lines facts (front ++ rows ∷ []) tokens (subst (λ n. AllCounted decls n tokens) (sym longer) fit)
    ∙ ap (λ ts. Ok (at decls lines facts ts)) (append_assoc front (rows ∷ []) tokens)
