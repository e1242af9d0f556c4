-- Looking rows up by the values of the terms that have one finds each row that matches.
use Rattle.std.specs.Borrow.{Bor}
use Rattle.std.proofs.Common.{◌≡◌, inl, Bool, true, false, cond, not, ◌||◌, if◌then◌else◌, List, [], ◌∷◌, ◌++◌, map, refl, ap, sym, ◌∙◌}
use Rattle.std.proofs.lemmas.Bool.{true≢false}
use Rattle.std.specs.Cmp.{tied_itself}
use Rattle.std.specs.Ordering.{is_eq}
use Rattle.std.specs.List.{filter, flat_map, list_any}
use Rattle.dbn_value.specs.Members.{In}
use Rattle.dbn_value.specs.Order.{rows_total}
use Rattle.dbn_value.specs.declared.value.Value.{Value}
use Rattle.dbn_value.specs.declared.term.Term.{Term}
use Rattle.dbn_formula.specs.Holds.{Env, value_of}
use Rattle.dbn_formula.specs.Solve.{is_empty, has_value, matched}
use Rattle.dbn_formula.proofs.Choices.{KeepsValues}
use Rattle.dbn_formula.proofs.Environments.{value_kept, matched_sound}
use Rattle.dbn_scratch.specs.Indexes.{key_of, has_key, shown, Entries, rows_under, IsIndex}

nothing_in : {A : Type 0} (xs : List A) → ((x : A) → In x xs → ⊥) → xs ≡ []
nothing_in [] none = refl
nothing_in (x ∷ xs) none = absurd (none x (inl refl))

-- the terms that have a value, and what they stand for
abbrev pub marks_in : Env → List Term → List Bool
marks_in env terms = map (has_value env) terms

abbrev pub values_in : Env → List Term → List Value
values_in env terms = map (value_of env) terms

-- an environment that keeps the values gives the marked terms the same cells
same_cells : (terms : List Term) (env g : Env) → KeepsValues env g → key_of (marks_in env terms) (values_in g terms) ≡ key_of (marks_in env terms) (values_in env terms)
same_cells [] env g keeps = refl
same_cells (t ∷ terms) env g keeps =
    elim (has_value env t) as (λ b. has_value env t ≡ b
    → (if b then value_of g t ∷ key_of (marks_in env terms) (values_in g terms) else key_of (marks_in env terms) (values_in g terms))
    ≡ (if b then value_of env t ∷ key_of (marks_in env terms) (values_in env terms) else key_of (marks_in env terms) (values_in env terms))) [
      | true ↦ λ e. ap (λ v. v ∷ key_of (marks_in env terms) (values_in g terms)) (value_kept t env g keeps e) ∙ ap (λ vs. value_of env t ∷ vs) (same_cells terms env g keeps)
      | false ↦ λ e. same_cells terms env g keeps
    ] refl

-- a row with other cells there doesn't match
unmatched : (terms : List Term) (env : Env) (row : List Value) → has_key (marks_in env terms) (key_of (marks_in env terms) (values_in env terms)) row ≡ false → matched terms row env ≡ []
unmatched terms env row differ = nothing_in (matched terms row env) none
  where
    none : (g : Env) → In g (matched terms row env) → ⊥
    none g at =
        let found = matched_sound terms row env g at in
        let same : key_of (marks_in env terms) row ≡ key_of (marks_in env terms) (values_in env terms) =
        ap (key_of (marks_in env terms)) (sym found.values) ∙ same_cells terms env g found.step.keeps in
        let tie : has_key (marks_in env terms) (key_of (marks_in env terms) row) row ≡ true = ap is_eq (tied_itself rows_total (key_of (marks_in env terms) row)) in
        true≢false (sym tie ∙ ap (λ key. has_key (marks_in env terms) key row) same ∙ differ)

-- keeping what matches after a look-up is keeping what matches
pub looked_up : (terms : List Term) (env : Env) (rows : List (List Value))
    → flat_map (λ row. matched terms row env) (filter (has_key (marks_in env terms) (key_of (marks_in env terms) (values_in env terms))) rows) ≡ flat_map (λ row. matched terms row env) rows
looked_up terms env [] = refl
looked_up terms env (row ∷ rows) =
    elim (has_key (marks_in env terms) (key_of (marks_in env terms) (values_in env terms)) row) as (λ b. has_key (marks_in env terms) (key_of (marks_in env terms) (values_in env terms)) row ≡ b
    → flat_map (λ r. matched terms r env) (cond b (row ∷ filter (has_key (marks_in env terms) (key_of (marks_in env terms) (values_in env terms))) rows) (filter (has_key (marks_in env terms) (key_of (marks_in env terms) (values_in env terms))) rows))
    ≡ matched terms row env ++ flat_map (λ r. matched terms r env) rows) [
      | true ↦ λ e. ap (λ es. matched terms row env ++ es) (looked_up terms env rows)
      | false ↦ λ e. looked_up terms env rows ∙ ap (λ es. es ++ flat_map (λ r. matched terms r env) rows) (sym (unmatched terms env row e))
    ] refl

-- the rows that an index has for the terms match as all rows do
pub index_matches : (terms : List Term) (env : Env) (marks seen : List Bool) (rows found : List (List Value)) (entries : Entries) → marks ≡ marks_in env terms → seen ≡ marks → IsIndex rows marks entries
    → found ≡ rows_under entries (key_of seen (values_in env terms)) → flat_map (λ row. matched terms row env) found ≡ flat_map (λ row. matched terms row env) rows
index_matches terms env marks seen rows found entries is looked right e =
    ap (flat_map (λ row. matched terms row env)) (e ∙ ap (λ ms. rows_under entries (key_of ms (values_in env terms))) looked ∙ right (key_of marks (values_in env terms)))
    ∙ ap (λ ms. flat_map (λ row. matched terms row env) (filter (has_key ms (key_of ms (values_in env terms))) rows)) is
    ∙ looked_up terms env rows

-- ---- rows as they are kept

some_shown : (f : List Value → List Env) (rows : List (Bor (List Value))) → list_any (λ r. not (is_empty (f r.now))) rows ≡ not (is_empty (flat_map f (shown rows)))
some_shown f [] = refl
some_shown f (r ∷ rows) = ap (λ b. not (is_empty (f r.now)) || b) (some_shown f rows) ∙ both (f r.now) (flat_map f (shown rows))
  where
    both : (xs ys : List Env) → (not (is_empty xs) || not (is_empty ys)) ≡ not (is_empty (xs ++ ys))
    both [] ys = refl
    both (x ∷ xs) ys = refl

flat_shown : (f : List Value → List Env) (rows : List (Bor (List Value))) → flat_map (λ r. f r.now) rows ≡ flat_map f (shown rows)
flat_shown f [] = refl
flat_shown f (r ∷ rows) = ap (λ es. f r.now ++ es) (flat_shown f rows)

-- what matches among rows that were found is what matches among all rows
pub matches_found : (f : List Value → List Env) (seen kept : List (Bor (List Value))) (rows : List (List Value)) → seen ≡ kept → flat_map f (shown kept) ≡ flat_map f rows → flat_map (λ r. f r.now) seen ≡ flat_map f rows
matches_found f seen kept rows e found = flat_shown f seen ∙ ap (λ (rs : List (Bor (List Value))). flat_map f (shown rs)) e ∙ found

pub some_found : (f : List Value → List Env) (seen kept : List (Bor (List Value))) (rows : List (List Value)) → seen ≡ kept → flat_map f (shown kept) ≡ flat_map f rows
    → list_any (λ r. not (is_empty (f r.now))) seen ≡ not (is_empty (flat_map f rows))
some_found f seen kept rows e found = some_shown f seen ∙ ap (λ (rs : List (Bor (List Value))). not (is_empty (flat_map f (shown rs)))) e ∙ ap (λ (es : List Env). not (is_empty es)) found
