-- Reading a declaration does not see lines.
use Rattle.std.proofs.Common.{◌≡◌, ℕ, zero, suc, List, [], ◌∷◌, map, refl, sym, ap, ◌∙◌, Option, Some, None, codes, if◌then◌else◌}
use Rattle.std.specs.Option.{option_map}
use Rattle.dbn_value.specs.Text.{is_identifier}
use Rattle.dbn_value.specs.declared.term.Cmp.{Cmp}
use Rattle.dbn_sexp.specs.declared.sexp.Sexp.{Sexp}
use Rattle.dbn_sexp.proofs.LinesLaws.{lined, word_alike, constant_alike, list_alike}
use Rattle.dbn_net.specs.declared.written.WrittenFormula.{WrittenFormula}
use Rattle.dbn_net.specs.declared.written.WrittenTransition.{WrittenTransition}
use Rattle.dbn_net.specs.declared.written.Written.TheVariants as written
use Rattle.dbn_net.specs.Maybe.{◌>>=◌, each, some, only_if}
use Rattle.dbn_sexp.specs.Parts.{word_in, constant_in, list_in}
use Rattle.dbn_net.specs.Forms.{with_word, name_in, variable, variable_in, term_in, type_of, type_in, typed_of, typed_in, typed_variable_in, scope_in, int_of, int_in, comparison_of, test_of, atom_of, compared_or_atom, one_of, two_of, quantified_of, connected, formula_of, formula_in, written_atom_of, written_atom_in, written_pattern_of, written_pattern_in, written_arc_of, guard_of, clause_of, clause_in, rank, follows, with_clause, bare_transition, clause_step, clauses_from, relation_of, key_of, fields_in, side_of, referring_of, foreign_of, always_of, query_of, effect_of, effect_in, action_of, control_of, view_of, transition_of, fact_of, token_of, declared, declaration_in}
use Rattle.dbn_net.proofs.WrittenFormulaLaws.{declaration_is, formula_too_deep, formula_deeper}

abbrev pub Alike : {A : Type 0} → (Sexp → Option A) → ℕ → Type 0
Alike f n = (one : Sexp) → f (lined n one) ≡ f one

abbrev pub ListsAlike : {A : Type 0} → (List Sexp → Option A) → ℕ → Type 0
ListsAlike g n = (parts : List Sexp) → g (map (lined n) parts) ≡ g parts

module _ (n : ℕ) where
  module _ {A : Type 0} where
    on_lists : (g : List Sexp → Option A) → ListsAlike g n → (o : Option (List Sexp)) → (option_map (map (lined n)) o >>= g) ≡ (o >>= g)
    on_lists g alike None = refl
    on_lists g alike (Some parts) = alike parts

    -- what goes on with the parts of a list
    pub through_list : (g : List Sexp → Option A) → ListsAlike g n → (one : Sexp) → (list_in (lined n one) >>= g) ≡ (list_in one >>= g)
    through_list g alike one = ap (λ o. o >>= g) (list_alike n one) ∙ on_lists g alike (list_in one)

    pub each_alike : (f : Sexp → Option A) → Alike f n → ListsAlike (each f) n
    each_alike f alike [] = refl
    each_alike f alike (one ∷ parts) =
        ap (λ o. o >>= λ y. each f (map (lined n) parts) >>= λ ys. Some (y ∷ ys)) (alike one)
        ∙ ap (λ o. f one >>= λ y. o >>= λ ys. Some (y ∷ ys)) (each_alike f alike parts)

    pub word_first : (read : List ℕ → List Sexp → Option A) → ((w : List ℕ) → ListsAlike (read w) n) → ListsAlike (with_word read) n
    word_first read alike [] = refl
    word_first read alike (head ∷ parts) =
        ap (λ o. o >>= λ w. read w (map (lined n) parts)) (word_alike n head)
        ∙ by (word_in head)
      where
        by : (o : Option (List ℕ)) → (o >>= λ w. read w (map (lined n) parts)) ≡ (o >>= λ w. read w parts)
        by None = refl
        by (Some w) = alike w parts

  -- ---- parts

  pub term_alike : Alike term_in n
  term_alike one = rw (word_alike n one, constant_alike n one) refl

  typed_lists : ListsAlike typed_of n
  typed_lists [] = refl
  typed_lists (a ∷ []) = refl
  typed_lists (a ∷ b ∷ []) = rw (word_alike n a, word_alike n b) refl
  typed_lists (a ∷ b ∷ c ∷ parts) = refl

  pub typed_alike : Alike typed_in n
  typed_alike one = through_list typed_of typed_lists one

  typed_variable_alike : Alike typed_variable_in n
  typed_variable_alike one = ap (λ o. o >>= λ x. Some (variable x.0, x.1)) (typed_alike one)

  pub scope_alike : Alike scope_in n
  scope_alike one = through_list (each typed_variable_in) (each_alike typed_variable_in typed_variable_alike) one

  pub name_alike : Alike name_in n
  name_alike one = ap (λ o. o >>= λ name. only_if (is_identifier name) name) (word_alike n one)

  int_alike : Alike int_in n
  int_alike one = ap (λ o. o >>= int_of) (constant_alike n one)

  type_alike : Alike type_in n
  type_alike one = ap (λ o. o >>= type_of) (word_alike n one)

  written_atom_lists : ListsAlike written_atom_of n
  written_atom_lists [] = refl
  written_atom_lists (r ∷ parts) = rw (word_alike n r, each_alike term_in term_alike parts) refl

  written_atom_alike : Alike written_atom_in n
  written_atom_alike one = through_list written_atom_of written_atom_lists one

  written_pattern_lists : ListsAlike written_pattern_of n
  written_pattern_lists [] = refl
  written_pattern_lists (m ∷ parts) = rw (constant_alike n m, each_alike term_in term_alike parts) refl

  written_pattern_alike : Alike written_pattern_in n
  written_pattern_alike one = through_list written_pattern_of written_pattern_lists one

  written_arc_lists : ListsAlike written_arc_of n
  written_arc_lists [] = refl
  written_arc_lists (p ∷ parts) = rw (word_alike n p, each_alike written_pattern_in written_pattern_alike parts) refl

  -- ---- formulas

  test_lists : (c : Cmp) → ListsAlike (test_of c) n
  test_lists c [] = refl
  test_lists c (a ∷ []) = refl
  test_lists c (a ∷ b ∷ []) = rw (term_alike a, term_alike b) refl
  test_lists c (a ∷ b ∷ d ∷ parts) = refl

  atom_lists : (w : List ℕ) → ListsAlike (atom_of w) n
  atom_lists w parts = rw (each_alike term_in term_alike parts) refl

  module _ (read : Sexp → Option WrittenFormula) (alike : Alike read n) where
    one_lists : ListsAlike (one_of read) n
    one_lists [] = refl
    one_lists (a ∷ []) = alike a
    one_lists (a ∷ b ∷ parts) = refl

    two_lists : ListsAlike (two_of read) n
    two_lists [] = refl
    two_lists (a ∷ []) = refl
    two_lists (a ∷ b ∷ []) = rw (alike a, alike b) refl
    two_lists (a ∷ b ∷ d ∷ parts) = refl

    quantified_lists : ListsAlike (quantified_of read) n
    quantified_lists [] = refl
    quantified_lists (a ∷ []) = refl
    quantified_lists (a ∷ b ∷ []) = rw (scope_alike a, alike b) refl
    quantified_lists (a ∷ b ∷ d ∷ parts) = refl

    connected_lists : (w : List ℕ) → ListsAlike (connected read w) n
    connected_lists w parts = rw (each_alike read alike parts, one_lists parts, two_lists parts, quantified_lists parts) refl

    compared_lists : (o : Option Cmp) (w : List ℕ) → ListsAlike (compared_or_atom o w) n
    compared_lists None w parts = atom_lists w parts
    compared_lists (Some c) w parts = test_lists c parts

    formula_lists : (w : List ℕ) → ListsAlike (formula_of read w) n
    formula_lists w parts = rw (connected_lists w parts, compared_lists (comparison_of w) w parts) refl

  pub formula_alike : (depth : ℕ) → Alike (formula_in depth) n
  formula_alike zero one = formula_too_deep (lined n one) ∙ sym (formula_too_deep one)
  formula_alike (suc depth) one =
      formula_deeper depth (lined n one)
      ∙ through_list (with_word (formula_of (formula_in depth))) (word_first (formula_of (formula_in depth)) (formula_lists (formula_in depth) (formula_alike depth))) one
      ∙ sym (formula_deeper depth one)

  -- ---- clauses

  guard_lists : ListsAlike guard_of n
  guard_lists [] = refl
  guard_lists (g ∷ []) = rw (formula_alike 64 g) refl
  guard_lists (g ∷ h ∷ parts) = refl

  variable_alike : Alike variable_in n
  variable_alike one = ap (λ o. o >>= λ name. Some (variable name)) (name_alike one)

  clause_lists : (w : List ℕ) → ListsAlike (clause_of w) n
  clause_lists w parts = rw (written_arc_lists parts, written_atom_lists parts, guard_lists parts, each_alike typed_variable_in typed_variable_alike parts, each_alike variable_in variable_alike parts) refl

  clause_alike : Alike clause_in n
  clause_alike one = through_list (with_word clause_of) (word_first clause_of clause_lists) one

  clauses_alike : (state : ℕ × WrittenTransition) → ListsAlike (clauses_from state) n
  clauses_alike state [] = refl
  clauses_alike state (one ∷ parts) =
      ap (λ o. (o >>= λ c. if follows state.0 (rank c) then Some (rank c, with_clause state.1 c) else None) >>= λ next. clauses_from next (map (lined n) parts)) (clause_alike one)
      ∙ by (λ next. clauses_alike next parts) (clause_step state one)
    where
      by : ((next : ℕ × WrittenTransition) → clauses_from next (map (lined n) parts) ≡ clauses_from next parts) → (o : Option (ℕ × WrittenTransition))
          → (o >>= λ next. clauses_from next (map (lined n) parts)) ≡ (o >>= λ next. clauses_from next parts)
      by later None = refl
      by later (Some next) = later next

  -- ---- declarations

  relation_lists : ListsAlike relation_of n
  relation_lists [] = refl
  relation_lists (r ∷ parts) = rw (word_alike n r, each_alike typed_in typed_alike parts) refl

  key_lists : ListsAlike key_of n
  key_lists [] = refl
  key_lists (r ∷ parts) = rw (word_alike n r, each_alike name_in name_alike parts) refl

  fields_alike : Alike fields_in n
  fields_alike one = ap (λ o. o >>= some) (through_list (each name_in) (each_alike name_in name_alike) one)

  side_alike : (r fs : Sexp) → side_of (lined n r) (lined n fs) ≡ side_of r fs
  side_alike r fs = rw (name_alike r, fields_alike fs) refl

  referring_lists : (a : List ℕ × List (List ℕ)) → ListsAlike (referring_of a) n
  referring_lists a [] = refl
  referring_lists a (s ∷ []) = refl
  referring_lists a (s ∷ gs ∷ []) = ap (λ o. o >>= λ b. Some (written.Foreign a.0 a.1 b.0 b.1)) (side_alike s gs)
  referring_lists a (s ∷ gs ∷ p ∷ parts) = refl

  foreign_lists : ListsAlike foreign_of n
  foreign_lists [] = refl
  foreign_lists (r ∷ []) = refl
  foreign_lists (r ∷ fs ∷ parts) = ap (λ o. o >>= λ a. referring_of a (map (lined n) parts)) (side_alike r fs) ∙ by (side_of r fs)
    where
      by : (o : Option (List ℕ × List (List ℕ))) → (o >>= λ a. referring_of a (map (lined n) parts)) ≡ (o >>= λ a. referring_of a parts)
      by None = refl
      by (Some a) = referring_lists a parts

  always_lists : ListsAlike always_of n
  always_lists [] = refl
  always_lists (c ∷ []) = refl
  always_lists (c ∷ f ∷ []) = rw (name_alike c, formula_alike 64 f) refl
  always_lists (c ∷ f ∷ p ∷ parts) = refl

  query_lists : ListsAlike query_of n
  query_lists [] = refl
  query_lists (q ∷ []) = refl
  query_lists (q ∷ xs ∷ []) = refl
  query_lists (q ∷ xs ∷ f ∷ []) = rw (name_alike q, scope_alike xs, formula_alike 64 f) refl
  query_lists (q ∷ xs ∷ f ∷ p ∷ parts) = refl

  effect_lists : (kind w : List ℕ) → ListsAlike (effect_of kind w) n
  effect_lists kind w parts = rw (each_alike written_atom_in written_atom_alike parts) refl

  effect_alike : (kind : List ℕ) → Alike (effect_in kind) n
  effect_alike kind one = through_list (with_word (effect_of kind)) (word_first (effect_of kind) (effect_lists kind)) one

  action_lists : ListsAlike action_of n
  action_lists [] = refl
  action_lists (a ∷ []) = refl
  action_lists (a ∷ b ∷ []) = refl
  action_lists (a ∷ b ∷ c ∷ []) = refl
  action_lists (a ∷ b ∷ c ∷ d ∷ []) = rw (name_alike a, scope_alike b, effect_alike (codes "delete") c, effect_alike (codes "add") d) refl
  action_lists (a ∷ b ∷ c ∷ d ∷ e ∷ parts) = refl

  control_lists : ListsAlike control_of n
  control_lists [] = refl
  control_lists (p ∷ parts) = rw (name_alike p, each_alike type_in type_alike parts) refl

  view_lists : ListsAlike view_of n
  view_lists [] = refl
  view_lists (v ∷ []) = refl
  view_lists (v ∷ q ∷ []) = rw (name_alike v, name_alike q) refl
  view_lists (v ∷ q ∷ p ∷ parts) = refl

  transition_lists : ListsAlike transition_of n
  transition_lists [] = refl
  transition_lists (t ∷ parts) = ap (λ o. o >>= λ name. clauses_from (0, bare_transition name) (map (lined n) parts) >>= λ rule. Some (written.Transition rule)) (name_alike t) ∙ by (name_in t)
    where
      by : (o : Option (List ℕ)) → (o >>= λ name. clauses_from (0, bare_transition name) (map (lined n) parts) >>= λ rule. Some (written.Transition rule))
          ≡ (o >>= λ name. clauses_from (0, bare_transition name) parts >>= λ rule. Some (written.Transition rule))
      by None = refl
      by (Some name) = ap (λ o. o >>= λ rule. Some (written.Transition rule)) (clauses_alike (0, bare_transition name) parts)

  fact_lists : ListsAlike fact_of n
  fact_lists [] = refl
  fact_lists (r ∷ parts) = rw (name_alike r, each_alike constant_in (constant_alike n) parts) refl

  token_lists : ListsAlike token_of n
  token_lists [] = refl
  token_lists (p ∷ []) = refl
  token_lists (p ∷ m ∷ parts) = rw (name_alike p, int_alike m, each_alike constant_in (constant_alike n) parts) refl

  declared_lists : (w : List ℕ) → ListsAlike (declared w) n
  declared_lists w parts =
      rw (relation_lists parts, key_lists parts, foreign_lists parts, always_lists parts, query_lists parts, action_lists parts, control_lists parts, view_lists parts, transition_lists parts, fact_lists parts, token_lists parts) refl

  pub declaration_alike : (one : Sexp) → declaration_in (lined n one) ≡ declaration_in one
  declaration_alike one =
      declaration_is (lined n one) ∙ through_list (with_word declared) (word_first declared declared_lists) one ∙ sym (declaration_is one)
