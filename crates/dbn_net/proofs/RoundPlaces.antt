-- The same for places and tokens.
use Rattle.std.proofs.Common.{◌≡◌, ℕ, ◌+◌, ◌<◌, ◌^◌, true, cond, ◌&&◌, List, [], ◌∷◌, ◌++◌, map, refl, sym, ap, subst, ◌∙◌, Some, arith, length, codes, append-nil, append_assoc, length-append}
use Rattle.std.specs.Prelude.{nat_le, slice_get, slice_index_or}
use Rattle.std.specs.List.{list_all, flat_map, AllByRecursion}
use Rattle.std.specs.Option.{IfSome}
use Rattle.std.specs.List.Sorted.{IsStrictlySortedBy}
use Rattle.std.specs.Cmp.Lexicographic.{slice_cmp}
use Rattle.std.specs.Ordering.{is_eq}
use Rattle.std.specs.BTreeMap.{is_at}
use Rattle.std.specs.Map.{lookup, keys_of}
use Rattle.std.proofs.Math.Seq.{get_or-append_seam}
use Rattle.std.proofs.lemmas.Bool.{and_parts, and_from, le-leb}
use Rattle.std.proofs.lemmas.List.{map-append, length-map}
use Rattle.std.proofs.lemmas.List.Elements.{filter_map-append}
use Rattle.dbn_value.specs.Order.{value_cmp, rows_total}
use Rattle.dbn_value.specs.declared.value.Value.{Value}
use Rattle.dbn_value.specs.declared.value.ColType.{ColType}
use Rattle.dbn_value.proofs.EntryLaws.{is_at_itself}
use Rattle.dbn_sexp.specs.declared.sexp.Sexp.{Sexp}
use Rattle.dbn_sexp.specs.declared.sexp.Item.{Item}
use Rattle.dbn_sexp.specs.declared.sexp.Item.TheVariants as item
use Rattle.dbn_sexp.specs.Printing.{atoms}
use Rattle.dbn_sexp.proofs.TreeLaws.{atoms_name, atoms_list}
use Rattle.dbn_formula.specs.Solutions.{HasShape}
use Rattle.dbn_marking.specs.Counts.{IsCounted}
use Rattle.dbn_net.specs.declared.written.Written.{Written}
use Rattle.dbn_net.specs.declared.written.Written.TheVariants as written
use Rattle.dbn_net.specs.declared.decl.Place.{Place}
use Rattle.dbn_net.specs.declared.decl.Place.TheVariants as place
use Rattle.dbn_net.specs.declared.decl.Decl.{Decl}
use Rattle.dbn_net.specs.declared.decl.Decl.TheVariants as decl
use Rattle.dbn_net.specs.declared.decl.Entry.TheVariants.{Part}
use Rattle.dbn_net.specs.Maybe.{◌>>=◌, each, only_if}
use Rattle.dbn_net.specs.Forms.{Name, name_in, type_in, control_of, view_of, declaration_in}
use Rattle.dbn_net.specs.Printing.{word, type_sexp, sexp_of}
use Rattle.dbn_net.specs.Tables.{place_in, places, place_name, place_names, query_shapes, place_shape, place_shapes, columns, is_control}
use Rattle.dbn_net.specs.Naming.{name_at, site_if, control_number, named}
use Rattle.dbn_net.specs.Judging.{is_short, short_names, short_lists, few_of_kind, is_new, is_count}
use Rattle.dbn_net.specs.WellFormed.{AllPass}
use Rattle.dbn_net.specs.Values.{Marking}
use Rattle.dbn_net.specs.Good.{PlaceFits, TokensFit}
use Rattle.dbn_net.proofs.Maybes.{first_found, if_found}
use Rattle.dbn_net.proofs.AtomLaws.{short_name}
use Rattle.dbn_net.proofs.JudgedLaws.{judged_is}
use Rattle.dbn_sexp.proofs.PartLaws.{word_name}
use Rattle.dbn_net.proofs.BackLaws.{IsPlain, declared_parts}
use Rattle.dbn_value.specs.Text.{is_identifier}
use Rattle.dbn_net.proofs.Appended.{IsPast, past_those_before}
use Rattle.dbn_net.proofs.LiftLaws.{no_begun}
use Rattle.dbn_net.proofs.RoundFacts.{at, Known}
use Rattle.dbn_net.proofs.RoundTokens.{TokenFits, AllCounted}
use Rattle.dbn_net.proofs.RoundShapes.{shape_fits, shape_arity}
use Rattle.dbn_net.proofs.RoundNames.{AllKnown, known_at}

place_plain : (name : Name) (shape : List ColType) (w : Written) → declaration_in (sexp_of (written.Control name shape)) ≡ Some w → IsPlain name
place_plain name shape w e =
    let parts : control_of (word name ∷ map type_sexp shape) ≡ Some w = sym (declared_parts (codes "place") (word name ∷ map type_sexp shape)) ∙ e in
    let found = first_found (name_in (word name)) (λ n. each type_in (map type_sexp shape) >>= λ s. Some (written.Control n s)) w parts in
    let kept : only_if (is_identifier name) name ≡ Some found.0 = ap (λ o. o >>= λ n. only_if (is_identifier n) n) (sym (word_name 0 name)) ∙ found.1 in
    (if_found (is_identifier name) (Some name) found.0 kept).0

view_plain : (name query : Name) (w : Written) → declaration_in (sexp_of (written.View name query)) ≡ Some w → IsPlain name
view_plain name query w e =
    let parts : view_of (word name ∷ word query ∷ []) ≡ Some w = sym (declared_parts (codes "view") (word name ∷ word query ∷ [])) ∙ e in
    let found = first_found (name_in (word name)) (λ n. name_in (word query) >>= λ q. Some (written.View n q)) w parts in
    let kept : only_if (is_identifier name) name ≡ Some found.0 = ap (λ o. o >>= λ n. only_if (is_identifier n) n) (sym (word_name 0 name)) ∙ found.1 in
    (if_found (is_identifier name) (Some name) found.0 kept).0

first_short : (w name : Name) (parts : List Sexp) → list_all is_short (atoms (item.List (word w ∷ word name ∷ parts))) ≡ true → nat_le (length w) 64 ≡ true → nat_le (length name) 64 ≡ true
first_short w name parts e head =
    let rest : List Item = flat_map (λ one. atoms one.item) parts in
    let flat : (nat_le (length name) 64 && list_all is_short rest) ≡ true =
    ap (λ b. b && list_all is_short rest) (sym (short_name name))
    ∙ ap (λ l. list_all is_short (l ++ rest)) (sym (atoms_name name))
    ∙ ap (λ b. b && list_all is_short (atoms (word name).item ++ rest)) (sym (short_name w ∙ head))
    ∙ ap (λ l. list_all is_short (l ++ (atoms (word name).item ++ rest))) (sym (atoms_name w))
    ∙ ap (list_all is_short) (sym (atoms_list (word w ∷ word name ∷ parts)))
    ∙ e in
    (and_parts (nat_le (length name) 64) (list_all is_short rest) flat).0

names_append : (xs ys : List Decl) → place_names (xs ++ ys) ≡ place_names xs ++ place_names ys
names_append xs ys = ap (map place_name) (filter_map-append place_in xs ys) ∙ map-append place_name (places xs) (places ys)

past : (before : List Decl) (d : Decl) (decls : List Decl) → place_names (d ∷ []) ≡ []
    → AllKnown (place_names ((before ++ d ∷ []) ++ decls)) (length (place_names (before ++ d ∷ []))) (place_names decls)
    → AllKnown (place_names (before ++ d ∷ decls)) (length (place_names before)) (place_names decls)
past before d decls none known =
    let same : place_names (before ++ d ∷ []) ≡ place_names before = names_append before (d ∷ []) ∙ ap (λ l. place_names before ++ l) none ∙ append-nil (place_names before) in
    subst (λ n. AllKnown (place_names (before ++ d ∷ decls)) n (place_names decls)) (ap length same)
    (subst (λ w. AllKnown (place_names w) (length (place_names (before ++ d ∷ []))) (place_names decls)) (append_assoc before (d ∷ []) decls) known)

site_known : (before decls : List Decl) (p : Place) → IsPlain (place_name p) → nat_le (length (place_name p)) 64 ≡ true → is_new (place_names before) (place_name p) ≡ true
    → AllKnown (place_names ((before ++ decl.Site p ∷ []) ++ decls)) (length (place_names (before ++ decl.Site p ∷ []))) (place_names decls)
    → AllKnown (place_names (before ++ decl.Site p ∷ decls)) (length (place_names before)) (place_names (decl.Site p ∷ decls))
site_known before decls p plain short new later =
    let d : Decl = decl.Site p in
    let whole : place_names (before ++ d ∷ decls) ≡ place_names before ++ place_name p ∷ place_names decls = names_append before (d ∷ decls) in
    let longer : length (place_names (before ++ d ∷ [])) ≡ length (place_names before) + 1 = ap length (names_append before (d ∷ [])) ∙ length-append (place_names before) (place_name p ∷ []) in (
      subst (λ w. Known w (length (place_names before))) (sym whole) (known_at (place_names before) (place_name p) (place_names decls) plain short new),
      subst (λ n. AllKnown (place_names (before ++ d ∷ decls)) n (place_names decls)) longer
          (subst (λ w. AllKnown (place_names w) (length (place_names (before ++ d ∷ []))) (place_names decls)) (append_assoc before (d ∷ []) decls) later),
    )

pub known_places : (before decls : List Decl) → AllPass before decls → AllKnown (place_names (before ++ decls)) (length (place_names before)) (place_names decls)
known_places before [] all = tt
known_places before (decl.Site (place.Control name shape) ∷ decls) all =
    let w : Written = written.Control name shape in
    let passed = judged_is before no_begun w (Part (decl.Site (place.Control name shape))) (all.0.tests no_begun) in
    let short = (and_parts (short_names w) (short_lists w) (and_parts (short_names w && short_lists w) (few_of_kind before w) passed.limits).0).0 in
    site_known before decls (place.Control name shape) (place_plain name shape w all.0.shape) (first_short (codes "place") name (map type_sexp shape) short refl) passed.once
    (known_places (before ++ decl.Site (place.Control name shape) ∷ []) decls all.1)
known_places before (decl.Site (place.View name query) ∷ decls) all =
    let w : Written = named before (decl.Site (place.View name query)) in
    let passed = judged_is before no_begun w (Part (decl.Site (place.View name query))) (all.0.tests no_begun) in
    let short = (and_parts (short_names w) (short_lists w) (and_parts (short_names w && short_lists w) (few_of_kind before w) passed.limits).0).0 in
    site_known before decls (place.View name query) (view_plain name _ w all.0.shape) (first_short (codes "view") name (word _ ∷ []) short refl) passed.once
    (known_places (before ++ decl.Site (place.View name query) ∷ []) decls all.1)
known_places before (decl.Relation a b ∷ decls) all = past before (decl.Relation a b) decls refl (known_places (before ++ decl.Relation a b ∷ []) decls all.1)
known_places before (decl.Key a b ∷ decls) all = past before (decl.Key a b) decls refl (known_places (before ++ decl.Key a b ∷ []) decls all.1)
known_places before (decl.Foreign a b c e ∷ decls) all = past before (decl.Foreign a b c e) decls refl (known_places (before ++ decl.Foreign a b c e ∷ []) decls all.1)
known_places before (decl.Always a b ∷ decls) all = past before (decl.Always a b) decls refl (known_places (before ++ decl.Always a b ∷ []) decls all.1)
known_places before (decl.Query a b c ∷ decls) all = past before (decl.Query a b c) decls refl (known_places (before ++ decl.Query a b c ∷ []) decls all.1)
known_places before (decl.Act a ∷ decls) all = past before (decl.Act a) decls refl (known_places (before ++ decl.Act a ∷ []) decls all.1)
known_places before (decl.Trans t ∷ decls) all = past before (decl.Trans t) decls refl (known_places (before ++ decl.Trans t ∷ []) decls all.1)

-- ---- tokens of a good snapshot

get_seam : {X : Type 0} (front : List X) (x : X) (rest : List X) → slice_get (front ++ x ∷ rest) (length front) ≡ Some x
get_seam [] x rest = refl
get_seam (y ∷ front) x rest = get_seam front x rest

found_there : (done : List (List Value × ℕ)) (c : List Value × ℕ) (rows : List (List Value × ℕ)) → IsPast (slice_cmp value_cmp) c.0 (keys_of done) → lookup (is_at (slice_cmp value_cmp c.0)) (done ++ c ∷ rows) ≡ Some c.1
found_there [] c rows past = ap (λ b. cond b (Some c.1) (lookup (is_at (slice_cmp value_cmp c.0)) rows)) (is_at_itself rows_total c.0)
found_there (d ∷ done) c rows past = ap (λ r. cond (is_eq r) (Some d.1) (lookup (is_at (slice_cmp value_cmp c.0)) (done ++ c ∷ rows))) past.0 ∙ found_there done c rows past.1

count_is : (n : ℕ) → (0 < n) × (n < 2 ^ 32) → is_count n ≡ true
count_is n (some, small) = and_from (nat_le 1 n) (nat_le n 4294967295) (le-leb 1 n (omega (arith, some))) (le-leb n 4294967295 (omega (arith, small)))

each_counted : (decls : List Decl) (at : ℕ) (shape : List ColType) → Known (place_names decls) at → control_number decls (name_at (place_names decls) at) ≡ Some at → columns (place_shapes decls) at ≡ shape
    → (done rows : List (List Value × ℕ)) → IsCounted (slice_cmp value_cmp) (done ++ rows) → AllByRecursion (λ c. HasShape c.0 shape) rows → AllByRecursion (TokenFits decls at) rows
each_counted decls at shape known control is done [] counted all = tt
each_counted decls at shape known control is done (c ∷ rows) counted all =
    let has : HasShape c.0 (columns (place_shapes decls) at) = subst (HasShape c.0) (sym is) all.0 in
    let sorted : IsStrictlySortedBy (slice_cmp value_cmp) (keys_of done ++ c.0 ∷ keys_of rows) = subst (IsStrictlySortedBy (slice_cmp value_cmp)) (map-append (λ e. e.0) done (c ∷ rows)) counted.ascends in
    let there : lookup (is_at (slice_cmp value_cmp c.0)) (done ++ c ∷ rows) ≡ Some c.1 = found_there done c rows (past_those_before rows_total (keys_of done) c.0 (keys_of rows) sorted) in
    let fit : (0 < c.1) × (c.1 < 2 ^ 32) = subst (λ o. IfSome o (λ n. (0 < n) × (n < 2 ^ 32))) there (counted.within c.0) in (
      record { known = known; control = control; arity = shape_arity c.0 (columns (place_shapes decls) at) has; typed = shape_fits c.0 (columns (place_shapes decls) at) has; count = count_is c.1 fit },
      each_counted decls at shape known control is (done ++ c ∷ []) rows (subst (IsCounted (slice_cmp value_cmp)) (sym (append_assoc done (c ∷ []) rows)) counted) all.1,
    )

control_at : (decls : List Decl) (front : List Place) (name : Name) (shape : List ColType) (todo : List Place) → places decls ≡ front ++ place.Control name shape ∷ todo → Known (place_names decls) (length front)
    → control_number decls (name_at (place_names decls) (length front)) ≡ Some (length front)
control_at decls front name shape todo e known =
    ap (λ o. o >>= site_if is_control (places decls)) known.number
    ∙ ap (λ l. site_if is_control l (length front)) e
    ∙ ap (λ o. o >>= λ site. only_if (is_control site) (length front)) (get_seam front (place.Control name shape) todo)

pub all_counted : (decls : List Decl) (front todo : List Place) (tokens : Marking) → places decls ≡ front ++ todo
    → TokensFit tokens todo → AllByRecursion (IsCounted (slice_cmp value_cmp)) tokens → AllKnown (place_names decls) (length front) (map place_name todo) → AllCounted decls (length front) tokens
all_counted decls front [] [] e fit counted known = tt
all_counted decls front [] (rows ∷ tokens) e fit counted known = absurd fit
all_counted decls front (p ∷ todo) [] e fit counted known = tt
all_counted decls front (p ∷ todo) (rows ∷ tokens) e fit counted known =
    let longer : length (front ++ p ∷ []) ≡ length front + 1 = length-append front (p ∷ []) in (
      counted.0.ascends,
      here p e fit.0,
      subst (λ n. AllCounted decls n tokens) longer
          (all_counted decls (front ++ p ∷ []) todo tokens (e ∙ sym (append_assoc front (p ∷ []) todo)) fit.1 counted.1
          (subst (λ n. AllKnown (place_names decls) n (map place_name todo)) (sym longer) known.1)),
    )
  where
    here : (q : Place) → places decls ≡ front ++ q ∷ todo → PlaceFits rows q → AllByRecursion (TokenFits decls (length front)) rows
    here (place.Control name shape) e fit =
        let shapes : place_shapes decls ≡ map (place_shape (query_shapes decls)) front ++ shape ∷ map (place_shape (query_shapes decls)) todo =
        ap (map (place_shape (query_shapes decls))) e ∙ map-append (place_shape (query_shapes decls)) front (place.Control name shape ∷ todo) in
        let at : columns (place_shapes decls) (length front) ≡ shape =
        ap (λ n. slice_index_or (place_shapes decls) n []) (sym (length-map front (place_shape (query_shapes decls))))
        ∙ ap (λ l. slice_index_or l (length (map (place_shape (query_shapes decls)) front)) []) shapes
        ∙ get_or-append_seam (map (place_shape (query_shapes decls)) front) shape (map (place_shape (query_shapes decls)) todo) [] in
        each_counted decls (length front) shape known.0 (control_at decls front name shape todo e known.0) at [] rows counted.0 fit
    here (place.View name query) e fit = subst (AllByRecursion (TokenFits decls (length front))) (sym fit) tt
