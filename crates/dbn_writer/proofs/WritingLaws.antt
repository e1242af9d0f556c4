-- Lines that are added one after the other.
use Rattle.std.proofs.Common.{◌≡◌, ℕ, ◌<◌, ◌+◌, ◌^◌, pos, cond, List, [], ◌∷◌, ◌++◌, map, sym, ap, subst, ◌∙◌, Some, arith, length, get_or, take, drop, append-nil, append_assoc}
use Rattle.std.specs.Option.{IfSome}
use Rattle.std.specs.List.{All, AllByRecursion}
use Rattle.std.specs.List.Sorted.{IsStrictlySortedBy}
use Rattle.std.specs.Cmp.Lexicographic.{slice_cmp}
use Rattle.std.specs.Ordering.{is_eq}
use Rattle.std.specs.Map.{lookup, keys_of}
use Rattle.std.specs.BTreeMap.{is_at}
use Rattle.std.proofs.lemmas.List.{map-append, take_more, drop_more}
use Rattle.std.proofs.lemmas.Grind.{flat_map-append}
use Rattle.dbn_value.specs.Order.{value_cmp, rows_total}
use Rattle.dbn_value.proofs.EntryLaws.{is_at_itself}
use Rattle.dbn_value.specs.declared.value.Value.{Value}
use Rattle.dbn_sexp.specs.declared.sexp.Sexp.{Sexp}
use Rattle.dbn_sexp.specs.Printing.{item_text, atoms, text, IsAtom}
use Rattle.dbn_sexp.proofs.PrintLaws.{text_append, reads_bytes}
use Rattle.dbn_formula.specs.Holds.{Instance}
use Rattle.dbn_formula.proofs.Maps.{map-map}
use Rattle.dbn_instance.specs.Facts.{rows_of}
use Rattle.dbn_marking.specs.Counts.{place_of, IsCounted}
use Rattle.dbn_net.specs.declared.written.Written.TheVariants as written
use Rattle.dbn_net.specs.declared.decl.Decl.{Decl}
use Rattle.dbn_net.specs.declared.decl.Entry.TheVariants.{Fact, Tokens}
use Rattle.dbn_net.specs.Tables.{relation_names, place_names}
use Rattle.dbn_net.specs.Naming.{name_at, named, named_entry}
use Rattle.dbn_net.specs.Printing.{sexp_of}
use Rattle.dbn_net.specs.WellFormed.{WellFormed}
use Rattle.dbn_net.specs.Values.{Marking}
use Rattle.dbn_net.specs.declared.snapshot.Snapshot.{Snapshot}
use Rattle.dbn_net.specs.Good.{Good}
use Rattle.dbn_net.specs.Texts.{facts_from, tokens_from, printed, canonical_list, canonical, ReadsAgain}
use Rattle.dbn_net.proofs.Appended.{IsPast, past_those_before}
use Rattle.dbn_net.proofs.RoundDepth.{canonical_within}
use Rattle.dbn_net.proofs.RoundGood.{good_again}
use Rattle.dbn_writer.proofs.Lists.{all_cons}
use Rattle.dbn_writer.specs.Writing.{Adds}
use Rattle.dbn_writer.proofs.NamedMore.{written_whole}

all_append : {A : Type 0} (P : A → Type 0) (xs ys : List A) → AllByRecursion P xs → AllByRecursion P ys → AllByRecursion P (xs ++ ys)
all_append P [] ys a b = b
all_append P (x ∷ xs) ys a b = (a.0, all_append P xs ys a.1 b)

pub adds_none : (bytes : List ℕ) → Adds bytes bytes []
adds_none bytes = record { lines = sym (append-nil bytes); atoms = tt }

pub adds_then : (a b c : List ℕ) (xs ys : List Sexp) → Adds a b xs → Adds b c ys → Adds a c (xs ++ ys)
adds_then a b c xs ys f g = record {
  lines = g.lines ∙ ap (λ l. l ++ text ys) f.lines ∙ append_assoc a (text xs) (text ys) ∙ ap (λ l. a ++ l) (sym (text_append xs ys));
  atoms = subst (AllByRecursion IsAtom) (sym (flat_map-append (λ (one : Sexp). atoms one.item) xs ys)) (all_append IsAtom _ _ f.atoms g.atoms);
}

pub adds_one : (a b : List ℕ) (one : Sexp) → b ≡ (a ++ item_text one.item) ++ 10 ∷ [] → AllByRecursion IsAtom (atoms one.item) → Adds a b (one ∷ [])
adds_one a b one is form = record {
  lines = is ∙ append_assoc a (item_text one.item) (10 ∷ []) ∙ ap (λ l. a ++ l) (sym (append-nil (item_text one.item ++ 10 ∷ [])));
  atoms = subst (AllByRecursion IsAtom) (sym (append-nil (atoms one.item))) form;
}

-- the element at a place, behind those before it
pub adds_more : {A : Type 0} (f : A → Sexp) (xs : List A) (i : ℕ) (x : A) (one : Sexp) (a b c : List ℕ) → i < length xs → x ≡ get_or xs i x → one ≡ f x
    → Adds a b (map f (take i xs)) → Adds b c (one ∷ []) → Adds a c (map f (take (i + 1) xs))
adds_more f xs i x one a b c less here is before last =
    let more : map f (take (i + 1) xs) ≡ map f (take i xs) ++ one ∷ [] =
    ap (map f) (take_more xs i x less) ∙ map-append f (take i xs) (get_or xs i x ∷ []) ∙ ap (λ y. map f (take i xs) ++ y ∷ []) (ap f (sym here) ∙ sym is) in
    subst (Adds a c) (sym more) (adds_then a b c (map f (take i xs)) (one ∷ []) before last)

-- all bytes that the lines of what is left lead to
abbrev pub Leads : List ℕ → List ℕ → List Sexp → List Sexp → Type 0
Leads before now left whole = (all : List ℕ) → Adds now all left → Adds before all whole

pub leads_on : (before now after : List ℕ) (lines left whole : List Sexp) → Leads before now (lines ++ left) whole → Adds now after lines → Leads before after left whole
leads_on before now after lines left whole leads adds all rest = leads all (adds_then now after all lines left adds rest)

pub leads_end : (before now : List ℕ) (left whole : List Sexp) → left ≡ [] → Leads before now left whole → Adds before now whole
leads_end before now left whole none leads = leads now (subst (Adds now now) (sym none) (adds_none now))

-- ---- facts and tokens

pub facts_step : (net : List Decl) (facts : Instance) (n : ℕ) → n < length facts
    → printed net (facts_from n (drop n facts)) ≡ map (λ row. sexp_of (written.Fact (name_at (relation_names net) n) row)) (rows_of facts n) ++ printed net (facts_from (n + 1) (drop (n + 1) facts))
facts_step net facts n less =
    ap (λ l. printed net (facts_from n l)) (drop_more facts n [] less)
    ∙ map-append (λ e. sexp_of (named_entry net e)) (map (Fact n) (rows_of facts n)) (facts_from (n + 1) (drop (n + 1) facts))
    ∙ ap (λ l. l ++ printed net (facts_from (n + 1) (drop (n + 1) facts))) (map-map (λ e. sexp_of (named_entry net e)) (Fact n) (rows_of facts n))

pub tokens_step : (net : List Decl) (tokens : Marking) (n : ℕ) → n < length tokens
    → printed net (tokens_from n (drop n tokens)) ≡ map (λ c. sexp_of (written.Token (name_at (place_names net) n) (pos c.1) c.0)) (place_of tokens n) ++ printed net (tokens_from (n + 1) (drop (n + 1) tokens))
tokens_step net tokens n less =
    ap (λ l. printed net (tokens_from n l)) (drop_more tokens n [] less)
    ∙ map-append (λ e. sexp_of (named_entry net e)) (map (λ c. Tokens n c.1 c.0) (place_of tokens n)) (tokens_from (n + 1) (drop (n + 1) tokens))
    ∙ ap (λ l. l ++ printed net (tokens_from (n + 1) (drop (n + 1) tokens))) (map-map (λ e. sexp_of (named_entry net e)) (λ c. Tokens n c.1 c.0) (place_of tokens n))

-- ---- counts

found_there : (done : List (List Value × ℕ)) (c : List Value × ℕ) (rows : List (List Value × ℕ)) → IsPast (slice_cmp value_cmp) c.0 (keys_of done) → lookup (is_at (slice_cmp value_cmp c.0)) (done ++ c ∷ rows) ≡ Some c.1
found_there [] c rows past = ap (λ b. cond b (Some c.1) (lookup (is_at (slice_cmp value_cmp c.0)) rows)) (is_at_itself rows_total c.0)
found_there (d ∷ done) c rows past = ap (λ r. cond (is_eq r) (Some d.1) (lookup (is_at (slice_cmp value_cmp c.0)) (done ++ c ∷ rows))) past.0 ∙ found_there done c rows past.1

small_from : (done rows : List (List Value × ℕ)) → IsCounted (slice_cmp value_cmp) (done ++ rows) → All (λ c. c.1 < 2 ^ 32) rows
small_from done [] counted = λ k d less. absurd (omega (arith, less))
small_from done (c ∷ rows) counted =
    let sorted : IsStrictlySortedBy (slice_cmp value_cmp) (keys_of done ++ c.0 ∷ keys_of rows) = subst (IsStrictlySortedBy (slice_cmp value_cmp)) (map-append (λ e. e.0) done (c ∷ rows)) counted.ascends in
    let there : lookup (is_at (slice_cmp value_cmp c.0)) (done ++ c ∷ rows) ≡ Some c.1 = found_there done c rows (past_those_before rows_total (keys_of done) c.0 (keys_of rows) sorted) in
    let fit : (0 < c.1) × (c.1 < 2 ^ 32) = subst (λ o. IfSome o (λ n. (0 < n) × (n < 2 ^ 32))) there (counted.within c.0) in
    all_cons (λ (e : List Value × ℕ). e.1 < 2 ^ 32) c rows fit.1 (small_from (done ++ c ∷ []) rows (subst (IsCounted (slice_cmp value_cmp)) (sym (append_assoc done (c ∷ []) rows)) counted))

pub small_counts : (rows : List (List Value × ℕ)) → IsCounted (slice_cmp value_cmp) rows → All (λ c. c.1 < 2 ^ 32) rows
small_counts rows counted = small_from [] rows counted

-- ---- the whole text

pub list_is : (net : List Decl) (facts : Instance) (tokens : Marking) → WellFormed net
    → canonical_list net facts tokens ≡ map (λ d. sexp_of (named net d)) net ++ (printed net (facts_from 0 facts) ++ printed net (tokens_from 0 tokens))
list_is net facts tokens ok =
    ap (λ l. l ++ (printed net (facts_from 0 facts) ++ printed net (tokens_from 0 tokens)))
    (ap (map sexp_of) (written_whole net ok) ∙ map-map sexp_of (named net) net)

pub adds_whole : (net : List Decl) (facts : Instance) (tokens : Marking) (a b c : List ℕ) → WellFormed net
    → Adds [] a (map (λ d. sexp_of (named net d)) net) → Adds a b (printed net (facts_from 0 facts)) → Adds b c (printed net (tokens_from 0 tokens))
    → Adds [] c (canonical_list net facts tokens)
adds_whole net facts tokens a b c ok first second third =
    subst (Adds [] c) (sym (list_is net facts tokens ok))
    (adds_then [] a c (map (λ d. sexp_of (named net d)) net) (printed net (facts_from 0 facts) ++ printed net (tokens_from 0 tokens)) first
    (adds_then a b c (printed net (facts_from 0 facts)) (printed net (tokens_from 0 tokens)) second third))

-- the lines of all three parts
pub whole_text : (net : List Decl) (at : Snapshot) (decls : List Decl) (start first second third bytes : List ℕ) → WellFormed net → decls ≡ net → start ≡ [] → bytes ≡ third
    → Adds start first (map (λ d. sexp_of (named net d)) decls) → Adds first second (printed net (facts_from 0 at.instance)) → Adds second third (printed net (tokens_from 0 at.marking))
    → Adds [] bytes (canonical_list net at.instance at.marking)
whole_text net at decls start first second third bytes ok same none is a b c =
    subst (λ bs. Adds [] bs (canonical_list net at.instance at.marking)) (sym is)
    (adds_whole net at.instance at.marking first second third ok
    (subst (λ bs. Adds bs first (map (λ d. sexp_of (named net d)) net)) none (subst (λ ds. Adds start first (map (λ d. sexp_of (named net d)) ds)) same a)) b c)

pub text_is : (net : List Decl) (facts : Instance) (tokens : Marking) (bytes : List ℕ) → Adds [] bytes (canonical_list net facts tokens) → bytes ≡ canonical net facts tokens
unfolding canonical
text_is net facts tokens bytes adds = adds.lines

pub text_again : (bytes : List ℕ) (net : List Decl) (s : Snapshot) → Adds [] bytes (canonical_list net s.instance s.marking) → WellFormed net → Good net s
    → ReadsAgain bytes net s.instance s.marking s.next
text_again bytes net s adds ok good =
    good_again bytes net s (reads_bytes (canonical_list net s.instance s.marking) bytes adds.lines adds.atoms 64 (canonical_within net s.instance s.marking ok)) ok good
