-- What each kind of node makes of rows that mean something.
use Rattle.std.proofs.Common.{◌≡◌, ℕ, inl, ⊎_elim, Bool, true, false, cond, not, ◌&&◌, ◌||◌, List, [], ◌∷◌, ◌++◌, map, refl, ap, sym, ◌∙◌, subst, Option, Some}
use Rattle.std.specs.Prelude.{slice_get}
use Rattle.std.specs.declared.cmp.Ordering.{Ordering}
use Rattle.std.specs.Ordering.{eq_by_cmp, is_eq}
use Rattle.std.specs.Cmp.{IsTotalOrder, Equal-is, tied_itself}
use Rattle.std.specs.Cmp.Lexicographic.{slice_cmp, lists_total}
use Rattle.std.specs.FinMap.{IsAntisymmetric, slice_cmp-IsAntisymmetric}
use Rattle.std.specs.List.{list_any, list_all, filter, flat_map}
use Rattle.std.proofs.lemmas.Bool.{true≢false, and_parts, and_from, or_cases, or_left, or_right, not-true, not_from_false, false_from_ne_true}
use Rattle.dbn_value.specs.Members.{In}
use Rattle.dbn_value.specs.Picked.{picked}
use Rattle.dbn_value.proofs.MemberLaws.{any_in, in_any, all_at, all_from, in_filter, filter_in, in_append, append_left, append_right, in_map, map_in, in_flat, flat_in}
use Rattle.dbn_value.proofs.AscendingLaws.{in_ascending, ascending_in, in_images, images_in}
use Rattle.dbn_value.specs.declared.value.Value.{Value}
use Rattle.dbn_value.specs.declared.term.Var.{Var}
use Rattle.dbn_value.specs.declared.term.Term.{Term}
use Rattle.dbn_value.specs.declared.term.Term.TheVariants as term
use Rattle.dbn_formula.specs.Variables.{var_eq, is_in}
use Rattle.dbn_formula.specs.Holds.{Env, Agree, lookup, value_of}
use Rattle.dbn_formula.proofs.VariableLaws.{var_same, var_itself, in_of_is, is_of_in}
use Rattle.dbn_nodes.specs.Values.{matched, joined, without, projected, either, extended, added_cells, passes, cells_meet}
use Rattle.dbn_nodes.specs.declared.node.ColTest.{ColTest}
use Rattle.dbn_nodes.specs.declared.node.Added.{Added}
use Rattle.dbn_value.specs.declared.term.Cmp.TheVariants as cmp
use Rattle.dbn_plan.specs.Meaning.{Gives, Means, LooksAt, vars_of}
use Rattle.dbn_plan.proofs.Rows.{some-injective, gives_alike, gives_one, gives_both, gives_agree, gives_picked, cell_at, Labelled}

-- each pair is two columns with the label of one variable, and each variable that both inputs have is among the pairs
pub record Pairs (on : List (ℕ × ℕ)) (labels others : List Term) : Type 0 where
  pub each : (pair : ℕ × ℕ) → In pair on → (x : Var) × (slice_get labels pair.0 ≡ Some (term.Var x)) × (slice_get others pair.1 ≡ Some (term.Var x))
  pub all : (x : Var) → In x (vars_of labels) → In x (vars_of others) → (pair : ℕ × ℕ) × In pair on × (slice_get labels pair.0 ≡ Some (term.Var x)) × (slice_get others pair.1 ≡ Some (term.Var x))

module _ {C : Type 0} {R : C → C → Ordering} (o : IsTotalOrder R) (exact : IsAntisymmetric R) (K : Value → Option C) (one : (v w : Value) (c : C) → K v ≡ Some c → K w ≡ Some c → v ≡ w) where
  rows_exact : IsAntisymmetric (slice_cmp R)
  rows_exact = slice_cmp-IsAntisymmetric exact

  -- only the test's values count
  pub means_alike : (rows : List (List C)) (labels : List Term) (p q : Env → Bool) → ((t : Env) → p t ≡ q t) → Means K rows labels p → Means K rows labels q
  means_alike rows labels p q same means = record {
    each = λ row at. let found = means.each row at in (found.0, found.1, sym (same found.0) ∙ found.2);
    all = λ t e. means.all t (same t ∙ e);
  }

  pub unit_means : Means K ([] ∷ []) [] (λ t. true)
  unit_means = record {
    each = λ row at. ⊎_elim (λ here. ([], ap (map Some) (sym here), refl)) (λ there. absurd there) at;
    all = λ t e. ([], refl, inl refl);
  }

  -- ---- Select

  pub select_means : (rows : List (List C)) (labels : List Term) (p q : Env → Bool) (tests : List (ColTest C)) → Means K rows labels p
      → ((t : Env) (row : List C) → Gives K t labels row → p t ≡ true → list_all (passes R row) tests ≡ q t)
      → Means K (filter (λ row. list_all (passes R row) tests) rows) labels (λ t. p t && q t)
  select_means rows labels p q tests means is = record {
    each = λ row at.
        let within = in_filter (λ r. list_all (passes R r) tests) row rows at in
        let found = means.each row within.0 in
        (found.0, found.1, and_from (p found.0) (q found.0) found.2 (sym (is found.0 row found.1 found.2) ∙ within.1));
    all = λ t e.
        let parts = and_parts (p t) (q t) e in
        let found = means.all t parts.0 in
        (found.0, found.1, filter_in (λ r. list_all (passes R r) tests) found.0 rows found.2 (is t found.0 found.1 parts.0 ∙ parts.1));
  }

  -- ---- Diff

  pub row_in : (row : List C) (rows : List (List C)) → list_any (eq_by_cmp (slice_cmp R) row) rows ≡ true → In row rows
  row_in row rows e =
      let found = any_in (eq_by_cmp (slice_cmp R) row) rows e in
      subst (λ r. In r rows) (sym (rows_exact row found.0 ((Equal-is (slice_cmp R row found.0)).0 found.2))) found.1

  pub in_row : (row : List C) (rows : List (List C)) → In row rows → list_any (eq_by_cmp (slice_cmp R) row) rows ≡ true
  in_row row rows at = in_any (eq_by_cmp (slice_cmp R) row) row rows at (ap is_eq (tied_itself (lists_total o) row))

  pub diff_means : (ls rs : List (List C)) (labels : List Term) (p q : Env → Bool) → Means K ls labels p → Means K rs labels q → LooksAt (vars_of labels) q
      → Means K (without R ls rs) labels (λ t. p t && not (q t))
  diff_means ls rs labels p q left right looks = record {
    each = λ row at.
        let within = in_filter (λ r. not (list_any (eq_by_cmp (slice_cmp R) r) rs)) row ls at in
        let found = left.each row within.0 in
        let t : Env = found.0 in (
          t,
          found.1,
          and_from (p t) (not (q t)) found.2 (not_from_false (q t) (false_from_ne_true (q t) (λ e.
              let other = right.all t e in
              let is : row ≡ other.0 = gives_one K labels t row other.0 found.1 other.1 in
              true≢false (sym (in_row row rs (subst (λ r. In r rs) (sym is) other.2)) ∙ not-true (list_any (eq_by_cmp (slice_cmp R) row) rs) within.1)))),
        );
    all = λ t e.
        let parts = and_parts (p t) (not (q t)) e in
        let found = left.all t parts.0 in
        let row : List C = found.0 in (
          row,
          found.1,
          filter_in (λ r. not (list_any (eq_by_cmp (slice_cmp R) r) rs)) row ls found.2 (not_from_false (list_any (eq_by_cmp (slice_cmp R) row) rs)
              (false_from_ne_true (list_any (eq_by_cmp (slice_cmp R) row) rs) (λ there.
              let other = right.each row (row_in row rs there) in
              true≢false (sym other.2 ∙ looks other.0 t (gives_agree K one labels other.0 t row other.1 found.1) ∙ not-true (q t) parts.1)))),
        );
  }

  -- ---- Union

  pub union_means : (ls rs : List (List C)) (labels : List Term) (p q : Env → Bool) → Means K ls labels p → Means K rs labels q → Means K (either R ls rs) labels (λ t. p t || q t)
  union_means ls rs labels p q left right = record {
    each = λ row at.
        ⊎_elim
        (λ here. let found = left.each row here in (found.0, found.1, or_left (p found.0) (q found.0) found.2))
        (λ there. let found = right.each row there in (found.0, found.1, or_right (p found.0) (q found.0) found.2))
        (in_append row ls rs (in_ascending (slice_cmp R) row (ls ++ rs) at));
    all = λ t e.
        ⊎_elim
        (λ here. let found = left.all t here in (found.0, found.1, ascending_in (lists_total o) rows_exact found.0 (ls ++ rs) (append_left found.0 ls rs found.2)))
        (λ there. let found = right.all t there in (found.0, found.1, ascending_in (lists_total o) rows_exact found.0 (ls ++ rs) (append_right found.0 ls rs found.2)))
        (or_cases (p t) (q t) e);
  }

  -- ---- Project

  -- each row of the wanted labels comes from an environment that agrees with it on them
  pub project_means : (rows : List (List C)) (labels wanted : List Term) (cols : List ℕ) (p q : Env → Bool) → Means K rows labels p → Labelled labels cols wanted
      → ((t : Env) → p t ≡ true → q t ≡ true) → ((t : Env) → q t ≡ true → (s : Env) × Agree (vars_of wanted) s t × (p s ≡ true))
      → Means K (projected R cols rows) wanted q
  project_means rows labels wanted cols p q means at there back = record {
    each = λ row within.
        let image = in_images (lists_total o) rows_exact (picked cols) row rows within in
        let found = means.each image.0 image.1 in
        (found.0, subst (Gives K found.0 wanted) (sym image.2) (gives_picked K labels cols wanted found.0 image.0 at found.1), there found.0 found.2);
    all = λ t e.
        let from = back t e in
        let found = means.all from.0 from.2 in (
          picked cols found.0,
          gives_alike K wanted from.0 t (picked cols found.0) from.1 (gives_picked K labels cols wanted from.0 found.0 at found.1),
          images_in (lists_total o) rows_exact (picked cols) found.0 rows found.2,
        );
  }

  -- ---- Extend

  pub entry_agrees : (x : Var) (v : Value) (t : Env) (xs : List Var) → is_in x xs ≡ false → Agree xs t ((x, v) ∷ t)
  entry_agrees x v t xs none y at =
      let other : var_eq y x ≡ false = false_from_ne_true (var_eq y x) (λ e. true≢false (sym (is_of_in x xs (subst (λ z. In z xs) (var_same y x e) at)) ∙ none)) in
      sym (ap (λ b. cond b v (lookup t y)) other)

  -- a last column for a new variable, whose value is that of a term that the row knows
  pub extend_means : (rows : List (List C)) (labels : List Term) (p : Env → Bool) (x : Var) (a : Term) (with : Added C) → Means K rows labels p → LooksAt (vars_of labels) p
      → is_in x (vars_of labels) ≡ false
      → ((s t : Env) → Agree (vars_of labels) s t → value_of s a ≡ value_of t a)
      → ((t : Env) (row : List C) → Gives K t labels row → (c : C) × (added_cells with row ≡ c ∷ []) × (K (value_of t a) ≡ Some c))
      → (q : Env → Bool) → ((t : Env) → q t ≡ true → lookup t x ≡ value_of t a) → ((t : Env) → lookup t x ≡ value_of t a → q t ≡ true)
      → Means K (extended R with rows) (labels ++ term.Var x ∷ []) (λ t. p t && q t)
  extend_means rows labels p x a with means looks none still cell q equal alike = record {
    each = λ row at.
        let image = in_images (lists_total o) rows_exact (λ r. r ++ added_cells with r) row rows at in
        let found = means.each image.0 image.1 in
        let s : Env = found.0 in
        let t : Env = (x, value_of s a) ∷ s in
        let same : Agree (vars_of labels) s t = entry_agrees x (value_of s a) s (vars_of labels) none in
        let has = cell s image.0 found.1 in
        let own : lookup t x ≡ value_of s a = ap (λ b. cond b (value_of s a) (lookup s x)) (var_itself x) in (
          t,
          subst (Gives K t (labels ++ term.Var x ∷ [])) (sym (image.2 ∙ ap (λ cells. image.0 ++ cells) has.1))
              (gives_both K labels (term.Var x ∷ []) t image.0 (has.0 ∷ []) (gives_alike K labels s t image.0 same found.1) (ap (λ v. K v ∷ []) own ∙ ap (λ c. c ∷ []) has.2)),
          and_from (p t) (q t) (sym (looks s t same) ∙ found.2) (alike t (own ∙ still s t same)),
        );
    all = λ t e.
        let parts = and_parts (p t) (q t) e in
        let found = means.all t parts.0 in
        let has = cell t found.0 found.1 in (
          found.0 ++ has.0 ∷ [],
          gives_both K labels (term.Var x ∷ []) t found.0 (has.0 ∷ []) found.1 (ap (λ v. K v ∷ []) (equal t parts.1) ∙ ap (λ c. c ∷ []) has.2),
          subst (λ r. In r (extended R with rows)) (ap (λ cells. found.0 ++ cells) has.1) (images_in (lists_total o) rows_exact (λ r. r ++ added_cells with r) found.0 rows found.2),
        );
  }

  -- ---- Join

  -- the values of s for these variables, and those of t for all others
  abbrev pub over : List Var → Env → Env → Env
  over xs s t = map (λ x. (x, lookup s x)) xs ++ t

  pub over_own : (xs : List Var) (s t : Env) → Agree xs (over xs s t) s
  over_own [] s t x at = absurd at
  over_own (y ∷ xs) s t x at =
      elim (var_eq x y) as (λ b. var_eq x y ≡ b → cond b (lookup s y) (lookup (over xs s t) x) ≡ lookup s x) [
        | true ↦ λ e. ap (lookup s) (sym (var_same x y e))
        | false ↦ λ e. over_own xs s t x (⊎_elim (λ here. absurd (true≢false (sym (subst (λ z. var_eq x z ≡ true) here (var_itself x)) ∙ e))) (λ there. there) at)
      ] refl

  pub over_other : (xs : List Var) (s t : Env) (x : Var) → is_in x xs ≡ false → lookup (over xs s t) x ≡ lookup t x
  over_other [] s t x e = refl
  over_other (y ∷ xs) s t x e =
      elim (var_eq x y) as (λ b. var_eq x y ≡ b → cond b (lookup s y) (lookup (over xs s t) x) ≡ lookup t x) [
        | true ↦ λ here. absurd (true≢false (sym (ap (λ b. b || is_in x xs) here) ∙ e))
        | false ↦ λ here. over_other xs s t x (sym (ap (λ b. b || is_in x xs) here) ∙ e)
      ] refl

  same_cells : (c d : C) → c ≡ d → is_eq (R c d) ≡ true
  same_cells c d e = subst (λ z. is_eq (R c z) ≡ true) e (ap is_eq (tied_itself o c))

  pub matched_from : (on : List (ℕ × ℕ)) (labels others : List Term) (t : Env) (a b : List C) → Pairs on labels others → Gives K t labels a → Gives K t others b → matched R on a b ≡ true
  matched_from on labels others t a b pairs left right = all_from (λ pair. cells_meet R cmp.Eq (slice_get a pair.0) (slice_get b pair.1)) on (λ pair at.
      let named = pairs.each pair at in
      let c = cell_at K labels t a pair.0 (term.Var named.0) left named.1 in
      let d = cell_at K others t b pair.1 (term.Var named.0) right named.2 in
      ap (λ m. cells_meet R cmp.Eq m (slice_get b pair.1)) c.1 ∙ ap (cells_meet R cmp.Eq (Some c.0)) d.1 ∙ same_cells c.0 d.0 (some-injective c.0 d.0 (sym c.2 ∙ d.2)))

  pub matched_agree : (on : List (ℕ × ℕ)) (labels others : List Term) (s t : Env) (a b : List C) → Pairs on labels others → Gives K s labels a → Gives K t others b → matched R on a b ≡ true
      → (x : Var) → In x (vars_of labels) → In x (vars_of others) → lookup s x ≡ lookup t x
  matched_agree on labels others s t a b pairs left right met x here there =
      let found = pairs.all x here there in
      let c = cell_at K labels s a found.0.0 (term.Var x) left found.2 in
      let d = cell_at K others t b found.0.1 (term.Var x) right found.3 in
      let test = all_at (λ pair. cells_meet R cmp.Eq (slice_get a pair.0) (slice_get b pair.1)) found.0 on met found.1 in
      let tied : is_eq (R c.0 d.0) ≡ true = sym (ap (λ m. cells_meet R cmp.Eq m (slice_get b found.0.1)) c.1 ∙ ap (cells_meet R cmp.Eq (Some c.0)) d.1) ∙ test in
      let same : c.0 ≡ d.0 = exact c.0 d.0 ((Equal-is (R c.0 d.0)).0 tied) in
      one (lookup s x) (lookup t x) d.0 (c.2 ∙ ap Some same) d.2

  and_three : (a b c : Bool) → (a && (b && c)) ≡ ((a && b) && c)
  and_three true b c = refl
  and_three false b c = refl

  matched_both : (on more : List (ℕ × ℕ)) (a b : List C) → matched R (on ++ more) a b ≡ (matched R on a b && matched R more a b)
  matched_both [] more a b = refl
  matched_both (pair ∷ on) more a b =
      ap (λ c. cells_meet R cmp.Eq (slice_get a pair.0) (slice_get b pair.1) && c) (matched_both on more a b)
      ∙ and_three (cells_meet R cmp.Eq (slice_get a pair.0) (slice_get b pair.1)) (matched R on a b) (matched R more a b)

  -- more pairs say what r says
  pub join_where_means : (ls rs : List (List C)) (labels others : List Term) (on more : List (ℕ × ℕ)) (p q r : Env → Bool) → Means K ls labels p → Means K rs others q
      → LooksAt (vars_of labels) p → LooksAt (vars_of others) q → Pairs on labels others
      → ((t : Env) (a b : List C) → Gives K t labels a → Gives K t others b → matched R more a b ≡ r t)
      → Means K (joined R (on ++ more) ls rs) (labels ++ others) (λ t. (p t && q t) && r t)
  join_where_means ls rs labels others on more p q r left right looks_p looks_q pairs says = record {
    each = λ row at.
        let one_left = in_flat (λ a. map (λ b. a ++ b) (filter (matched R (on ++ more) a) rs)) row ls (in_ascending (slice_cmp R) row (flat_map (λ a. map (λ b. a ++ b) (filter (matched R (on ++ more) a) rs)) ls) at) in
        let a : List C = one_left.0 in
        let one_right = in_map (λ b. a ++ b) row (filter (matched R (on ++ more) a) rs) one_left.2 in
        let b : List C = one_right.0 in
        let within = in_filter (matched R (on ++ more) a) b rs one_right.1 in
        let met = and_parts (matched R on a b) (matched R more a b) (sym (matched_both on more a b) ∙ within.1) in
        let here = left.each a one_left.1 in
        let there = right.each b within.0 in
        let s : Env = here.0 in
        let t : Env = there.0 in
        let u : Env = over (vars_of labels) s t in
        let u_s : Agree (vars_of labels) s u = λ x at. sym (over_own (vars_of labels) s t x at) in
        let u_t : Agree (vars_of others) t u = λ x at.
        elim (is_in x (vars_of labels)) as (λ c. is_in x (vars_of labels) ≡ c → lookup t x ≡ lookup u x) [
          | true ↦ λ e.
              let known : In x (vars_of labels) = in_of_is x (vars_of labels) e in
              sym (matched_agree on labels others s t a b pairs here.1 there.1 met.0 x known at) ∙ u_s x known
          | false ↦ λ e. sym (over_other (vars_of labels) s t x e)
        ] refl in
        let u_a : Gives K u labels a = gives_alike K labels s u a u_s here.1 in
        let u_b : Gives K u others b = gives_alike K others t u b u_t there.1 in (
          u,
          subst (Gives K u (labels ++ others)) (sym one_right.2) (gives_both K labels others u a b u_a u_b),
          and_from (p u && q u) (r u) (and_from (p u) (q u) (sym (looks_p s u u_s) ∙ here.2) (sym (looks_q t u u_t) ∙ there.2)) (sym (says u a b u_a u_b) ∙ met.1),
        );
    all = λ t e.
        let whole = and_parts (p t && q t) (r t) e in
        let parts = and_parts (p t) (q t) whole.0 in
        let here = left.all t parts.0 in
        let there = right.all t parts.1 in
        let a : List C = here.0 in
        let b : List C = there.0 in (
          a ++ b,
          gives_both K labels others t a b here.1 there.1,
          ascending_in (lists_total o) rows_exact (a ++ b) (flat_map (λ a. map (λ b. a ++ b) (filter (matched R (on ++ more) a) rs)) ls)
              (flat_in (λ a. map (λ b. a ++ b) (filter (matched R (on ++ more) a) rs)) (a ++ b) a ls here.2
              (map_in (λ b. a ++ b) b (filter (matched R (on ++ more) a) rs) (filter_in (matched R (on ++ more) a) b rs there.2 (matched_both on more a b ∙ and_from (matched R on a b) (matched R more a b) (matched_from on labels others t a b pairs here.1 there.1) (says t a b here.1 there.1 ∙ whole.1))))),
        );
  }

  pub join_means : (ls rs : List (List C)) (labels others : List Term) (on : List (ℕ × ℕ)) (p q : Env → Bool) → Means K ls labels p → Means K rs others q
      → LooksAt (vars_of labels) p → LooksAt (vars_of others) q → Pairs on labels others
      → Means K (joined R on ls rs) (labels ++ others) (λ t. p t && q t)
  join_means ls rs labels others on p q left right looks_p looks_q pairs = record {
    each = λ row at.
        let one_left = in_flat (λ a. map (λ b. a ++ b) (filter (matched R on a) rs)) row ls (in_ascending (slice_cmp R) row (flat_map (λ a. map (λ b. a ++ b) (filter (matched R on a) rs)) ls) at) in
        let a : List C = one_left.0 in
        let one_right = in_map (λ b. a ++ b) row (filter (matched R on a) rs) one_left.2 in
        let b : List C = one_right.0 in
        let within = in_filter (matched R on a) b rs one_right.1 in
        let here = left.each a one_left.1 in
        let there = right.each b within.0 in
        let s : Env = here.0 in
        let t : Env = there.0 in
        let u : Env = over (vars_of labels) s t in
        let u_s : Agree (vars_of labels) s u = λ x at. sym (over_own (vars_of labels) s t x at) in
        let u_t : Agree (vars_of others) t u = λ x at.
        elim (is_in x (vars_of labels)) as (λ c. is_in x (vars_of labels) ≡ c → lookup t x ≡ lookup u x) [
          | true ↦ λ e.
              let known : In x (vars_of labels) = in_of_is x (vars_of labels) e in
              sym (matched_agree on labels others s t a b pairs here.1 there.1 within.1 x known at) ∙ u_s x known
          | false ↦ λ e. sym (over_other (vars_of labels) s t x e)
        ] refl in (
          u,
          subst (Gives K u (labels ++ others)) (sym one_right.2) (gives_both K labels others u a b (gives_alike K labels s u a u_s here.1) (gives_alike K others t u b u_t there.1)),
          and_from (p u) (q u) (sym (looks_p s u u_s) ∙ here.2) (sym (looks_q t u u_t) ∙ there.2),
        );
    all = λ t e.
        let parts = and_parts (p t) (q t) e in
        let here = left.all t parts.0 in
        let there = right.all t parts.1 in
        let a : List C = here.0 in
        let b : List C = there.0 in (
          a ++ b,
          gives_both K labels others t a b here.1 there.1,
          ascending_in (lists_total o) rows_exact (a ++ b) (flat_map (λ a. map (λ b. a ++ b) (filter (matched R on a) rs)) ls)
              (flat_in (λ a. map (λ b. a ++ b) (filter (matched R on a) rs)) (a ++ b) a ls here.2
              (map_in (λ b. a ++ b) b (filter (matched R on a) rs) (filter_in (matched R on a) b rs there.2 (matched_from on labels others t a b pairs here.1 there.1)))),
        );
  }
