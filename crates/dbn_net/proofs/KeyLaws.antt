-- What the sentence of a key says of rows.
use Rattle.std.proofs.Common.{◌≡◌, ℕ, ◌+◌, ◌<◌, zero, suc, Bool, true, not, ◌||◌, List, [], ◌∷◌, ◌++◌, map, refl, sym, ap, ◌∙◌, subst, inl, inr, ⊎_elim, arith, length}
use Rattle.std.specs.Prelude.{slice_get, slice_index_or, ◌↔◌}
use Rattle.std.specs.List.{list_all, list_any, flat_map}
use Rattle.std.specs.Option.{unwrap_or}
use Rattle.std.specs.Ordering.{is_eq}
use Rattle.dbn_value.specs.Members.{In}
use Rattle.dbn_value.specs.Ascending.{CellsIn}
use Rattle.dbn_value.specs.Order.{value_cmp}
use Rattle.dbn_value.specs.declared.value.Value.{Value}
use Rattle.dbn_value.specs.declared.value.ColType.{ColType}
use Rattle.dbn_value.specs.declared.term.Var.{Var}
use Rattle.dbn_value.specs.declared.term.Cmp.TheVariants as cmp
use Rattle.dbn_value.specs.declared.term.Term.TheVariants as term
use Rattle.dbn_value.proofs.MemberLaws.{all_at, all_from, in_map, map_in, in_append, append_left, append_right, flat_in}
use Rattle.dbn_formula.specs.declared.formula.Formula.{Formula}
use Rattle.dbn_formula.specs.declared.formula.Formula.TheVariants.{Atom, And, Implies}
use Rattle.dbn_formula.specs.Holds.{Env, Domain, Instance, lookup, value_of, row_eq, holds_over, every_choice}
use Rattle.dbn_formula.specs.Answers.{bind, domain, holds, values_in}
use Rattle.dbn_formula.specs.Typing.{Shapes}
use Rattle.dbn_formula.specs.Solutions.{HasShape, HasShapes}
use Rattle.dbn_formula.proofs.HoldsLaws.{holds_atom, holds_test, holds_and, holds_implies, holds_forall}
use Rattle.dbn_formula.proofs.SolutionLaws.{bind_other, maps_at, maps_from}
use Rattle.dbn_net.specs.Tables.{columns}
use Rattle.dbn_net.specs.Sentences.{first_var, second_var, row_vars, first_row, second_row, as_terms, same_at, columns_from, key_sentence}
use Rattle.dbn_net.specs.Keys.{cells_at, IsRowOf, IsKey}
use Rattle.dbn_net.proofs.RowCells.{unbound, cell, every_out, every_in, every_twice, cells_typed, typed_cells, not_bound, cell_is, terms_are, atom_in, in_atom, cells_equal, rows_equal, as_long, implied, implies, equal_values, values_equal}

-- a row's values are values of the instance
pub in_instance : (db : Instance) (rel : ℕ) (row : List Value) → IsRowOf db rel row → (v : Value) → In v row → In v (values_in db)
in_instance [] rel row at v within = absurd at
in_instance (rows ∷ db) zero row at v within = append_left v (flat_map (λ r. r) rows) (values_in db) (flat_in (λ r. r) v row rows at within)
in_instance (rows ∷ db) (suc rel) row at v within = append_right v (flat_map (λ r. r) rows) (values_in db) (in_instance db rel row at v within)

pub row_choice : (f : Formula) (rels : Shapes) (db : Instance) (fits : HasShapes rels db) (var : ℕ → Var) (rel : ℕ) (row : List Value) → IsRowOf db rel row
    → CellsIn row (map (λ x. domain f db x.1) (row_vars var 0 (columns rels rel)))
row_choice f rels db fits var rel row at = typed_cells f db var 0 (columns rels rel) row (fits.each rel row at) (in_instance db rel row at)

columns_in : (n m k : ℕ) (shape : List ColType) → m ≡ n + k → k < length shape → In m (columns_from n shape)
columns_in n m k [] is less = absurd (omega (arith, less))
columns_in n m zero (type ∷ shape) is less = inl (omega (arith, is))
columns_in n m (suc k) (type ∷ shape) is less = inr (columns_in (n + 1) m k shape (omega (arith, is)) (omega (arith, less)))

pub x_not_y : ◌≡◌ {A = ℕ} 120 121 → ⊥
x_not_y e = omega (arith, e)

y_not_x : ◌≡◌ {A = ℕ} 121 120 → ⊥
y_not_x e = omega (arith, e)

module _ (shape : List ColType) (rel : ℕ) (fields : List ℕ) (dom : Domain) (db : Instance) where
  -- the first row and then the second one, bound
  abbrev first_env : List Value → Env
  first_env a = bind (first_row shape) a []

  abbrev both_env : List Value → List Value → Env
  both_env a b = bind (second_row shape) b (first_env a)

  abbrev body : Formula
  body = Implies (And (Atom rel (as_terms (first_row shape)) ∷ map same_at fields ++ Atom rel (as_terms (second_row shape)) ∷ [])) (And (map same_at (columns_from 0 shape)))

  first_cell : (a b : List Value) (n : ℕ) → HasShape a shape → lookup (both_env a b) (first_var n) ≡ cell a n
  first_cell a b n fits =
      bind_other (second_row shape) b (first_env a) (first_var n) (not_bound 120 121 x_not_y 0 n shape)
      ∙ cell_is 120 0 shape a [] n n fits (omega arith)

  second_cell : (a b : List Value) (n : ℕ) → HasShape b shape → lookup (both_env a b) (second_var n) ≡ cell b n
  second_cell a b n fits =
      cell_is 121 0 shape b (first_env a) n n fits (omega arith)
      ∙ ap (unwrap_or (slice_get b n)) (bind_other (first_row shape) a [] (second_var n) (not_bound 121 120 y_not_x 0 n shape))

  module _ (a b : List Value) (fits_a : HasShape a shape) (fits_b : HasShape b shape) where
    abbrev true_here : Formula → Bool
    true_here f = holds_over dom db f (both_env a b)

    first_terms : map (value_of (both_env a b)) (as_terms (first_row shape)) ≡ a
    first_terms = terms_are 120 0 shape a (both_env a b) fits_a (λ m k is. first_cell a b m fits_a ∙ ap (cell a) (let same : m ≡ k = omega (arith, is) in same))

    second_terms : map (value_of (both_env a b)) (as_terms (second_row shape)) ≡ b
    second_terms = terms_are 121 0 shape b (both_env a b) fits_b (λ m k is. second_cell a b m fits_b ∙ ap (cell b) (let same : m ≡ k = omega (arith, is) in same))

    first_atom : true_here (Atom rel (as_terms (first_row shape))) ≡ list_any (λ r. row_eq r a) (slice_index_or db rel [])
    first_atom = holds_atom dom db rel (as_terms (first_row shape)) (both_env a b) ∙ ap (λ t. list_any (λ r. row_eq r t) (slice_index_or db rel [])) first_terms

    second_atom : true_here (Atom rel (as_terms (second_row shape))) ≡ list_any (λ r. row_eq r b) (slice_index_or db rel [])
    second_atom = holds_atom dom db rel (as_terms (second_row shape)) (both_env a b) ∙ ap (λ t. list_any (λ r. row_eq r t) (slice_index_or db rel [])) second_terms

    test_is : (n : ℕ) → true_here (same_at n) ≡ is_eq (value_cmp (cell a n) (cell b n))
    test_is n =
        holds_test dom db cmp.Eq (term.Var (first_var n)) (term.Var (second_var n)) (both_env a b)
        ∙ (λ i. is_eq (value_cmp (first_cell a b n fits_a i) (second_cell a b n fits_b i)))

    same_to : (n : ℕ) → true_here (same_at n) ≡ true → cell a n ≡ cell b n
    same_to n e = equal_values (cell a n) (cell b n) (sym (test_is n) ∙ e)

    same_from : (n : ℕ) → cell a n ≡ cell b n → true_here (same_at n) ≡ true
    same_from n e = test_is n ∙ values_equal (cell a n) (cell b n) e

    all_to : (ns : List ℕ) → list_all true_here (map same_at ns) ≡ true → (n : ℕ) → In n ns → cell a n ≡ cell b n
    all_to ns e n at = same_to n (all_at true_here (same_at n) (map same_at ns) e (map_in same_at n ns at))

    all_same_from : (ns : List ℕ) → ((n : ℕ) → In n ns → cell a n ≡ cell b n) → list_all true_here (map same_at ns) ≡ true
    all_same_from ns each =
        all_from true_here (map same_at ns) (λ f at. let found = in_map same_at f ns at in subst (λ g. true_here g ≡ true) (sym found.2) (same_from found.0 (each found.0 found.1)))

    abbrev parts : List Formula
    parts = Atom rel (as_terms (first_row shape)) ∷ map same_at fields ++ Atom rel (as_terms (second_row shape)) ∷ []

    body_is : true_here body ≡ (not (list_all true_here parts) || list_all true_here (map same_at (columns_from 0 shape)))
    body_is =
        holds_implies dom db (And parts) (And (map same_at (columns_from 0 shape))) (both_env a b)
        ∙ (λ i. not (holds_and dom db parts (both_env a b) i) || holds_and dom db (map same_at (columns_from 0 shape)) (both_env a b) i)

    long : length a ≡ length b
    long = as_long a shape fits_a ∙ sym (as_long b shape fits_b)

    -- two rows of the relation that agree on the fields meet the premise
    premise_from : IsRowOf db rel a → IsRowOf db rel b → cells_at fields a ≡ cells_at fields b → list_all true_here parts ≡ true
    premise_from at_a at_b agree =
        all_from true_here parts
        (λ f at. ⊎_elim
        (λ first. subst (λ g. true_here g ≡ true) (sym first) (first_atom ∙ in_atom (slice_index_or db rel []) a at_a))
        (λ later. ⊎_elim
        (λ test. let found = in_map same_at f fields test in
        subst (λ g. true_here g ≡ true) (sym found.2) (same_from found.0 (ap (λ o. unwrap_or o unbound) (maps_at (slice_get a) (slice_get b) fields found.0 agree found.1))))
        (λ last. ⊎_elim (λ here. subst (λ g. true_here g ≡ true) (sym here) (second_atom ∙ in_atom (slice_index_or db rel []) b at_b)) (λ none. absurd none) last)
        (in_append f (map same_at fields) (Atom rel (as_terms (second_row shape)) ∷ []) later))
        at)

    premise_to : list_all true_here parts ≡ true → IsRowOf db rel a × IsRowOf db rel b × (cells_at fields a ≡ cells_at fields b)
    premise_to e =
        let at : (f : Formula) → In f parts → true_here f ≡ true = λ f among. all_at true_here f parts e among in (
          atom_in (slice_index_or db rel []) a (sym first_atom ∙ at (Atom rel (as_terms (first_row shape))) (inl refl)),
          atom_in (slice_index_or db rel []) b
              (sym second_atom ∙ at (Atom rel (as_terms (second_row shape))) (inr (append_right (Atom rel (as_terms (second_row shape))) (map same_at fields) (Atom rel (as_terms (second_row shape)) ∷ []) (inl refl)))),
          maps_from (slice_get a) (slice_get b) fields
              (λ n among. cells_equal a b n long
              (same_to n (at (same_at n) (inr (append_left (same_at n) (map same_at fields) (Atom rel (as_terms (second_row shape)) ∷ []) (map_in same_at n fields among)))))),
        )

    equal_to : list_all true_here (map same_at (columns_from 0 shape)) ≡ true → a ≡ b
    equal_to e =
        rows_equal a b long (λ n less. all_to (columns_from 0 shape) e n (columns_in 0 n n shape (omega arith) (let all = as_long a shape fits_a in omega (arith, less, all))))

    equal_from : a ≡ b → list_all true_here (map same_at (columns_from 0 shape)) ≡ true
    equal_from e = all_same_from (columns_from 0 shape) (λ n at. ap (λ r. cell r n) e)

-- the sentence of a key over its two rows
pub key_out : (shape : List ColType) (rel : ℕ) (fields : List ℕ) (db : Instance) → holds (key_sentence shape rel fields) db [] ≡ true → (a b : List Value)
    → HasShape a shape → HasShape b shape
    → CellsIn a (map (λ x. domain (key_sentence shape rel fields) db x.1) (first_row shape)) → CellsIn b (map (λ x. domain (key_sentence shape rel fields) db x.1) (second_row shape))
    → IsRowOf db rel a → IsRowOf db rel b → cells_at fields a ≡ cells_at fields b → a ≡ b
key_out shape rel fields db e a b fits_a fits_b cells_a cells_b at_a at_b agree =
    let dom : Domain = domain (key_sentence shape rel fields) db in
    let test : Env → Bool = holds_over dom db (body shape rel fields dom db) in
    let chosen : every_choice dom (first_row shape) (every_choice dom (second_row shape) test) [] ≡ true =
    sym (every_twice dom (first_row shape) (second_row shape) test []) ∙ sym (holds_forall dom db (first_row shape ++ second_row shape) (body shape rel fields dom db) []) ∙ e in
    let both = every_out dom (second_row shape) test (bind (first_row shape) a []) (every_out dom (first_row shape) (every_choice dom (second_row shape) test) [] chosen a cells_a) b cells_b in
    equal_to shape rel fields dom db a b fits_a fits_b
    (implies _ _ (sym (body_is shape rel fields dom db a b fits_a fits_b) ∙ both) (premise_from shape rel fields dom db a b fits_a fits_b at_a at_b agree))

pub key_in : (shape : List ColType) (rel : ℕ) (fields : List ℕ) (db : Instance) → IsKey db rel fields → holds (key_sentence shape rel fields) db [] ≡ true
key_in shape rel fields db key =
    let f : Formula = key_sentence shape rel fields in
    let dom : Domain = domain f db in
    let test : Env → Bool = holds_over dom db (body shape rel fields dom db) in
    holds_forall dom db (first_row shape ++ second_row shape) (body shape rel fields dom db) []
    ∙ every_twice dom (first_row shape) (second_row shape) test []
    ∙ every_in dom (first_row shape) (every_choice dom (second_row shape) test) []
    (λ a cells_a. every_in dom (second_row shape) test (bind (first_row shape) a [])
    (λ b cells_b.
    let fits_a = cells_typed f db first_var 0 shape a cells_a in
    let fits_b = cells_typed f db second_var 0 shape b cells_b in
    body_is shape rel fields dom db a b fits_a fits_b
    ∙ implied _ _ (λ premise.
    let known = premise_to shape rel fields dom db a b fits_a fits_b premise in
    equal_from shape rel fields dom db a b fits_a fits_b (key a b known.0 known.1 known.2))))

-- the sentence of a key holds exactly where the columns are a key
pub key_says : (rels : Shapes) (db : Instance) (rel : ℕ) (fields : List ℕ) → HasShapes rels db → (holds (key_sentence (columns rels rel) rel fields) db [] ≡ true) ↔ IsKey db rel fields
key_says rels db rel fields fits =
    let shape : List ColType = columns rels rel in (
      λ e a b at_a at_b agree.
          key_out shape rel fields db e a b (fits.each rel a at_a) (fits.each rel b at_b)
          (row_choice (key_sentence shape rel fields) rels db fits first_var rel a at_a) (row_choice (key_sentence shape rel fields) rels db fits second_var rel b at_b) at_a at_b agree,
      λ key. key_in shape rel fields db key,
    )
