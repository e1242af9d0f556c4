-- Each name of a well-formed net is found at its number; what a good snapshot gives for facts.
use Rattle.std.proofs.Common.{◌≡◌, ℕ, ◌+◌, ◌<◌, Bool, true, false, cond, not, ◌&&◌, ◌||◌, if◌then◌else◌, List, [], ◌∷◌, ◌++◌, map, refl, sym, ap, subst, ◌∙◌, Some, None, arith, length, codes, append-nil, append_assoc, length-append}
use Rattle.std.specs.Prelude.{nat_le, nat_lt, slice_index_or}
use Rattle.std.specs.List.{list_any, list_all, flat_map, AllByRecursion, position, prefix_len}
use Rattle.std.proofs.Math.Seq.{get_or-append_seam}
use Rattle.std.proofs.lemmas.Bool.{and_parts, true≢false, lt-ltb}
use Rattle.std.proofs.lemmas.List.{map-append, length-map}
use Rattle.std.proofs.lemmas.List.Elements.{filter_map-append}
use Rattle.std.proofs.lemmas.Slice.Eq.{bytes_eq-Decides}
use Rattle.dbn_value.specs.Names.{name_eq}
use Rattle.dbn_value.specs.Order.{value_cmp}
use Rattle.dbn_value.specs.declared.value.Value.{Value}
use Rattle.dbn_value.specs.declared.value.ColType.{ColType}
use Rattle.dbn_sexp.specs.declared.sexp.Item.{Item}
use Rattle.dbn_sexp.specs.Printing.{atoms}
use Rattle.dbn_sexp.proofs.TreeLaws.{atoms_name, atoms_list}
use Rattle.dbn_formula.specs.Holds.{Instance}
use Rattle.dbn_formula.specs.Solutions.{HasShape}
use Rattle.dbn_instance.specs.Facts.{IsInstance}
use Rattle.dbn_net.specs.declared.written.Written.{Written}
use Rattle.dbn_net.specs.declared.written.Written.TheVariants as written
use Rattle.dbn_net.specs.declared.decl.Decl.{Decl}
use Rattle.dbn_net.specs.declared.decl.Decl.TheVariants as decl
use Rattle.dbn_net.specs.declared.decl.Entry.TheVariants.{Part}
use Rattle.dbn_net.specs.Maybe.{◌>>=◌, each, only_if}
use Rattle.dbn_net.specs.Forms.{Name, is_connective, name_in, typed_in, relation_of, declaration_in}
use Rattle.dbn_net.specs.Printing.{word, typed_sexp, sexp_of}
use Rattle.dbn_net.specs.Tables.{Table, relation_in, relations, relation_names, relation_shape, relation_shapes, columns}
use Rattle.dbn_net.specs.Naming.{number_of, name_at}
use Rattle.dbn_net.specs.Judging.{is_short, short_names, short_lists, few_of_kind, is_new}
use Rattle.dbn_net.specs.WellFormed.{AllPass}
use Rattle.dbn_net.specs.Good.{RowsFit}
use Rattle.dbn_net.proofs.Maybes.{first_found, if_found}
use Rattle.dbn_net.proofs.AtomLaws.{short_name}
use Rattle.dbn_net.proofs.JudgedLaws.{judged_is}
use Rattle.dbn_sexp.proofs.PartLaws.{word_name}
use Rattle.dbn_net.proofs.BackLaws.{IsPlain, declared_parts}
use Rattle.dbn_value.specs.Text.{is_identifier}
use Rattle.dbn_net.proofs.LiftLaws.{no_begun}
use Rattle.dbn_net.proofs.RoundFacts.{Known, FactFits, AllFit}
use Rattle.dbn_net.proofs.RoundShapes.{shape_fits, shape_arity}

-- ---- the first at which a test passes

or_none : (a b : Bool) → (a || b) ≡ false → (a ≡ false) × (b ≡ false)
or_none true b e = absurd (true≢false e)
or_none false b e = (refl, e)

not_none : (b : Bool) → not b ≡ true → b ≡ false
not_none true e = sym e
not_none false e = refl

first_at : {X : Type 0} (p : X → Bool) (front : List X) (x : X) (rest : List X) → list_any p front ≡ false → p x ≡ true
    → prefix_len (λ y. not (p y)) (front ++ x ∷ rest) ≡ length front
first_at p [] x rest none is = ap (λ b. cond (not b) (1 + prefix_len (λ y. not (p y)) rest) 0) is
first_at p (y ∷ front) x rest none is =
    let parts = or_none (p y) (list_any p front) none in
    let later : prefix_len (λ z. not (p z)) (front ++ x ∷ rest) ≡ length front = first_at p front x rest parts.1 is in
    ap (λ b. cond (not b) (1 + prefix_len (λ z. not (p z)) (front ++ x ∷ rest)) 0) parts.0 ∙ omega (arith, later)

pub position_at : {X : Type 0} (p : X → Bool) (front : List X) (x : X) (rest : List X) → list_any p front ≡ false → p x ≡ true
    → position p (front ++ x ∷ rest) ≡ Some (length front)
position_at p front x rest none is =
    let long : length (front ++ x ∷ rest) ≡ length front + length (x ∷ rest) = length-append front (x ∷ rest) in
    let inside : length front < length (front ++ x ∷ rest) = omega (arith, long) in
    ap (λ n. cond (nat_lt n (length (front ++ x ∷ rest))) (Some n) None) (first_at p front x rest none is)
    ∙ ap (λ b. cond b (Some (length front)) None) (lt-ltb (length front) (length (front ++ x ∷ rest)) inside)

-- a relation's name
relation_plain : (name : Name) (fields : List (Name × ColType)) (w : Written) → declaration_in (sexp_of (written.Relation name fields)) ≡ Some w → IsPlain name
relation_plain name fields w e =
    let parts : relation_of (word name ∷ map typed_sexp fields) ≡ Some w = sym (declared_parts (codes "relation") (word name ∷ map typed_sexp fields)) ∙ e in
    let found = first_found (name_in (word name)) (λ n. each typed_in (map typed_sexp fields) >>= λ fs. if is_connective n then None else Some (written.Relation n fs)) w parts in
    let kept : only_if (is_identifier name) name ≡ Some found.0 = ap (λ o. o >>= λ n. only_if (is_identifier n) n) (sym (word_name 0 name)) ∙ found.1 in
    (if_found (is_identifier name) (Some name) found.0 kept).0

relation_short : (name : Name) (fields : List (Name × ColType)) → short_names (written.Relation name fields) ≡ true → nat_le (length name) 64 ≡ true
relation_short name fields e =
    let rest : List Item = flat_map (λ one. atoms one.item) (map typed_sexp fields) in
    let flat : (nat_le (length name) 64 && list_all is_short rest) ≡ true =
    ap (λ b. b && list_all is_short rest) (sym (short_name name))
    ∙ ap (λ l. list_all is_short (l ++ rest)) (sym (atoms_name name))
    ∙ ap (λ b. b && list_all is_short (atoms (word name).item ++ rest)) (sym (short_name (codes "relation")))
    ∙ ap (λ l. list_all is_short (l ++ (atoms (word name).item ++ rest))) (sym (atoms_name (codes "relation")))
    ∙ ap (list_all is_short) (sym (atoms_list (word (codes "relation") ∷ word name ∷ map typed_sexp fields)))
    ∙ e in
    (and_parts (nat_le (length name) 64) (list_all is_short rest) flat).0

-- ---- all names

names_append : (xs ys : List Decl) → relation_names (xs ++ ys) ≡ relation_names xs ++ relation_names ys
names_append xs ys = ap (map (λ (r : Table). r.name)) (filter_map-append relation_in xs ys) ∙ map-append (λ (r : Table). r.name) (relations xs) (relations ys)

abbrev pub AllKnown : List Name → ℕ → List Name → Type 0
AllKnown whole n [] = Unit {0}
AllKnown whole n (x ∷ xs) = Known whole n × AllKnown whole (n + 1) xs

pub known_at : (front : List Name) (x : Name) (rest : List Name) → IsPlain x → nat_le (length x) 64 ≡ true → is_new front x ≡ true → Known (front ++ x ∷ rest) (length front)
known_at front x rest plain short new =
    let here : name_at (front ++ x ∷ rest) (length front) ≡ x = get_or-append_seam front x rest [] in
    record {
      plain = subst IsPlain (sym here) plain;
      short = ap (λ y. nat_le (length y) 64) here ∙ short;
      number = ap (number_of (front ++ x ∷ rest)) here ∙ position_at (name_eq x) front x rest (not_none (list_any (name_eq x) front) new) ((bytes_eq-Decides x x).1 refl);
    }

-- behind a declaration that is no relation
past : (before : List Decl) (d : Decl) (decls : List Decl) → relation_names (d ∷ []) ≡ []
    → AllKnown (relation_names ((before ++ d ∷ []) ++ decls)) (length (relation_names (before ++ d ∷ []))) (relation_names decls)
    → AllKnown (relation_names (before ++ d ∷ decls)) (length (relation_names before)) (relation_names decls)
past before d decls none known =
    let same : relation_names (before ++ d ∷ []) ≡ relation_names before = names_append before (d ∷ []) ∙ ap (λ l. relation_names before ++ l) none ∙ append-nil (relation_names before) in
    subst (λ n. AllKnown (relation_names (before ++ d ∷ decls)) n (relation_names decls)) (ap length same)
    (subst (λ w. AllKnown (relation_names w) (length (relation_names (before ++ d ∷ []))) (relation_names decls)) (append_assoc before (d ∷ []) decls) known)

pub known_names : (before decls : List Decl) → AllPass before decls → AllKnown (relation_names (before ++ decls)) (length (relation_names before)) (relation_names decls)
known_names before [] all = tt
known_names before (decl.Relation name fields ∷ decls) all =
    let d : Decl = decl.Relation name fields in
    let passed = judged_is before no_begun (written.Relation name fields) (Part d) (all.0.tests no_begun) in
    let few : Bool = few_of_kind before (written.Relation name fields) in
    let lists : Bool = short_lists (written.Relation name fields) in
    let short = (and_parts (short_names (written.Relation name fields)) lists (and_parts (short_names (written.Relation name fields) && lists) few passed.limits).0).0 in
    let new = (and_parts (is_new (relation_names before) name) _ passed.once).0 in
    let whole : relation_names (before ++ d ∷ decls) ≡ relation_names before ++ name ∷ relation_names decls = names_append before (d ∷ decls) in
    let longer : length (relation_names (before ++ d ∷ [])) ≡ length (relation_names before) + 1 = ap length (names_append before (d ∷ [])) ∙ length-append (relation_names before) (name ∷ []) in (
      subst (λ w. Known w (length (relation_names before))) (sym whole)
          (known_at (relation_names before) name (relation_names decls) (relation_plain name fields (written.Relation name fields) all.0.shape) (relation_short name fields short) new),
      subst (λ n. AllKnown (relation_names (before ++ d ∷ decls)) n (relation_names decls)) longer
          (subst (λ w. AllKnown (relation_names w) (length (relation_names (before ++ d ∷ []))) (relation_names decls)) (append_assoc before (d ∷ []) decls) (known_names (before ++ d ∷ []) decls all.1)),
    )
known_names before (decl.Key a b ∷ decls) all = past before (decl.Key a b) decls refl (known_names (before ++ decl.Key a b ∷ []) decls all.1)
known_names before (decl.Foreign a b c e ∷ decls) all = past before (decl.Foreign a b c e) decls refl (known_names (before ++ decl.Foreign a b c e ∷ []) decls all.1)
known_names before (decl.Always a b ∷ decls) all = past before (decl.Always a b) decls refl (known_names (before ++ decl.Always a b ∷ []) decls all.1)
known_names before (decl.Query a b c ∷ decls) all = past before (decl.Query a b c) decls refl (known_names (before ++ decl.Query a b c ∷ []) decls all.1)
known_names before (decl.Act a ∷ decls) all = past before (decl.Act a) decls refl (known_names (before ++ decl.Act a ∷ []) decls all.1)
known_names before (decl.Site p ∷ decls) all = past before (decl.Site p) decls refl (known_names (before ++ decl.Site p ∷ []) decls all.1)
known_names before (decl.Trans t ∷ decls) all = past before (decl.Trans t) decls refl (known_names (before ++ decl.Trans t ∷ []) decls all.1)

-- ---- facts of a good snapshot

each_fits : (decls : List Decl) (rel : ℕ) (shape : List ColType) → columns (relation_shapes decls) rel ≡ shape → (rows : List (List Value)) → AllByRecursion (λ row. HasShape row shape) rows → AllByRecursion (FactFits decls rel) rows
each_fits decls rel shape is [] all = tt
each_fits decls rel shape is (row ∷ rows) all =
    let has : HasShape row (columns (relation_shapes decls) rel) = subst (HasShape row) (sym is) all.0 in
    (record { arity = shape_arity row (columns (relation_shapes decls) rel) has; typed = shape_fits row (columns (relation_shapes decls) rel) has }, each_fits decls rel shape is rows all.1)

pub all_fit : (decls : List Decl) (front todo : List Table) (facts : Instance) → relations decls ≡ front ++ todo
    → RowsFit facts (map relation_shape todo) → IsInstance value_cmp facts → AllKnown (relation_names decls) (length front) (map (λ r. r.name) todo) → AllFit decls (length front) facts
all_fit decls front [] [] e fit is known = tt
all_fit decls front [] (rows ∷ facts) e fit is known = absurd fit
all_fit decls front (r ∷ todo) [] e fit is known = tt
all_fit decls front (r ∷ todo) (rows ∷ facts) e fit is known =
    let shapes : relation_shapes decls ≡ map relation_shape front ++ relation_shape r ∷ map relation_shape todo = ap (map relation_shape) e ∙ map-append relation_shape front (r ∷ todo) in
    let here : columns (relation_shapes decls) (length front) ≡ relation_shape r =
    ap (λ n. slice_index_or (relation_shapes decls) n []) (sym (length-map front relation_shape)) ∙ ap (λ l. slice_index_or l (length (map relation_shape front)) []) shapes
    ∙ get_or-append_seam (map relation_shape front) (relation_shape r) (map relation_shape todo) [] in
    let longer : length (front ++ r ∷ []) ≡ length front + 1 = length-append front (r ∷ []) in (
      known.0,
      is.0,
      each_fits decls (length front) (relation_shape r) here rows fit.0,
      subst (λ n. AllFit decls n facts) longer
          (all_fit decls (front ++ r ∷ []) todo facts (e ∙ sym (append_assoc front (r ∷ []) todo)) fit.1 is.1
          (subst (λ n. AllKnown (relation_names decls) n (map (λ q. q.name) todo)) (sym longer) known.1)),
    )
