-- What the sentence of a foreign key says of rows.
use Rattle.std.proofs.Common.{◌≡◌, ℕ, ◌+◌, ◌<◌, zero, suc, Bool, true, false, cond, ◌||◌, ◌==◌, if◌then◌else◌, List, [], ◌∷◌, ◌++◌, map, refl, sym, ap, ◌∙◌, subst, inl, inr, Option, Some, None, arith, length}
use Rattle.std.specs.Prelude.{slice_get, slice_index_or}
use Rattle.std.specs.List.{list_any}
use Rattle.std.specs.Option.{unwrap_or}
use Rattle.std.proofs.lemmas.Bool.{eqb-true, eq-eqb, false_from_ne_true}
use Rattle.dbn_value.specs.Members.{In}
use Rattle.dbn_value.specs.Ascending.{CellsIn}
use Rattle.dbn_value.specs.Order.{value_type}
use Rattle.dbn_value.specs.declared.value.Value.{Value}
use Rattle.dbn_value.specs.declared.value.ColType.{ColType}
use Rattle.dbn_value.specs.declared.term.Term.TheVariants as term
use Rattle.dbn_formula.specs.declared.formula.Formula.{Formula}
use Rattle.dbn_formula.specs.declared.formula.Formula.TheVariants.{Atom, Implies}
use Rattle.dbn_formula.specs.Variables.{TypedVars, binds, var_eq}
use Rattle.dbn_formula.specs.Holds.{Env, Domain, Instance, lookup, value_of, row_eq, holds_over, some_choice}
use Rattle.dbn_formula.specs.Answers.{bind, domain, holds, values_in}
use Rattle.dbn_formula.specs.Typing.{Shapes}
use Rattle.dbn_formula.specs.Solutions.{HasShape, HasShapes}
use Rattle.dbn_formula.proofs.HoldsLaws.{holds_atom, holds_implies, holds_exists, holds_forall}
use Rattle.dbn_formula.proofs.SolutionLaws.{bind_other}
use Rattle.dbn_formula.proofs.VariableLaws.{var_itself}
use Rattle.dbn_net.specs.Tables.{columns}
use Rattle.dbn_net.specs.Sentences.{first_var, second_var, first_row, as_terms, partner, paired_var, paired_terms, own_var, own_vars, some_of, foreign_sentence}
use Rattle.dbn_net.specs.Keys.{cells_at, IsForeignKey}
use Rattle.dbn_net.proofs.Listed.{heads, tails}
use Rattle.dbn_net.proofs.Maybes.{some_is}
use Rattle.dbn_net.proofs.RowCells.{unbound, cell, every_out, every_in, some_out, some_in, domain_in, cells_typed, other_column, other_letter, cell_is, terms_are, atom_in, in_atom, as_long, implied, implies}
use Rattle.dbn_net.proofs.KeyLaws.{in_instance, row_choice, x_not_y}

-- ---- paired columns

-- what holds of each pair
abbrev pub AllPairs : (ℕ → ℕ → Type 0) → List ℕ → List ℕ → Type 0
AllPairs P [] [] = Unit {0}
AllPairs P [] (g ∷ gs) = ⊥
AllPairs P (f ∷ fs) [] = ⊥
AllPairs P (f ∷ fs) (g ∷ gs) = P f g × AllPairs P fs gs

abbrev pub Apart : List ℕ → Type 0
Apart [] = Unit {0}
Apart (g ∷ gs) = (In g gs → ⊥) × Apart gs

pairs_map : (P Q : ℕ → ℕ → Type 0) → ((f g : ℕ) → P f g → Q f g) → (fs gs : List ℕ) → AllPairs P fs gs → AllPairs Q fs gs
pairs_map P Q to [] [] all = tt
pairs_map P Q to [] (g ∷ gs) all = absurd all
pairs_map P Q to (f ∷ fs) [] all = absurd all
pairs_map P Q to (f ∷ fs) (g ∷ gs) all = (to f g all.0, pairs_map P Q to fs gs all.1)

-- the first column of a pair is the partner of the second one
record Paired (fs gs : List ℕ) (f g : ℕ) : Type 0 where
  partners : partner fs gs g ≡ Some f
  first_in : In f fs
  second_in : In g gs

pair_later : (f g : ℕ) (fs gs : List ℕ) → (In g gs → ⊥) → (h k : ℕ) → Paired fs gs h k → Paired (f ∷ fs) (g ∷ gs) h k
pair_later f g fs gs new h k p = record {
  partners = ap (λ b. if b then Some f else partner fs gs k) (false_from_ne_true (g == k) (λ e. new (subst (λ z. In z gs) (sym (eqb-true g k e)) p.second_in))) ∙ p.partners;
  first_in = inr p.first_in;
  second_in = inr p.second_in;
}

pairs : (fs gs : List ℕ) → length fs ≡ length gs → Apart gs → AllPairs (Paired fs gs) fs gs
pairs [] [] long apart = tt
pairs [] (g ∷ gs) long apart = absurd (omega (arith, long))
pairs (f ∷ fs) [] long apart = absurd (omega (arith, long))
pairs (f ∷ fs) (g ∷ gs) long apart = (
  record { partners = ap (λ b. if b then Some f else partner fs gs g) (eq-eqb g g refl); first_in = inl refl; second_in = inl refl },
  pairs_map (Paired fs gs) (Paired (f ∷ fs) (g ∷ gs)) (pair_later f g fs gs apart.0) fs gs (pairs fs gs (omega (arith, long)) apart.1),
)

cells_from : (a b : List Value) (fs gs : List ℕ) → AllPairs (λ f g. slice_get a f ≡ slice_get b g) fs gs → cells_at fs a ≡ cells_at gs b
cells_from a b [] [] all = refl
cells_from a b [] (g ∷ gs) all = absurd all
cells_from a b (f ∷ fs) [] all = absurd all
cells_from a b (f ∷ fs) (g ∷ gs) all = (λ i. all.0 i ∷ cells_from a b fs gs all.1 i)

partner_cell : (a b : List Value) (fs gs : List ℕ) (m f : ℕ) → cells_at fs a ≡ cells_at gs b → partner fs gs m ≡ Some f → slice_get a f ≡ slice_get b m
partner_cell a b [] gs m f same is = absurd cc
partner_cell a b (h ∷ fs) [] m f same is = absurd cc
partner_cell a b (h ∷ fs) (g ∷ gs) m f same is =
    by (g == m) refl is (λ found. partner_cell a b fs gs m f (tails (slice_get a h) (slice_get b g) (cells_at fs a) (cells_at gs b) same) found)
  where
    by : (t : Bool) → (g == m) ≡ t → (if t then Some h else partner fs gs m) ≡ Some f → (partner fs gs m ≡ Some f → slice_get a f ≡ slice_get b m) → slice_get a f ≡ slice_get b m
    by true e found later =
        subst (λ k. slice_get a k ≡ slice_get b m) (some_is h f found)
        (subst (λ k. slice_get a h ≡ slice_get b k) (eqb-true g m e) (heads (slice_get a h) (slice_get b g) (cells_at fs a) (cells_at gs b) same))
    by false e found later = later found

there : (row : List Value) (n : ℕ) → n < length row → slice_get row n ≡ Some (cell row n)
there [] n less = absurd (omega (arith, less))
there (v ∷ row) zero less = refl
there (v ∷ row) (suc n) less = there row n (omega (arith, less))

-- ---- the columns of the second row that have no partner

module _ (fs gs : List ℕ) where
  abbrev own_cell : Option ℕ → Value → List Value
  own_cell (Some f) v = []
  own_cell None v = v ∷ []

  abbrev own_cells : ℕ → List Value → List Value
  own_cells n [] = []
  own_cells n (v ∷ row) = own_cell (partner fs gs n) v ++ own_cells (n + 1) row

  not_first : (n m : ℕ) (shape : List ColType) → binds (own_vars fs gs n shape) (first_var m) ≡ false
  not_first n m [] = refl
  not_first n m (type ∷ shape) = by (partner fs gs n) (not_first (n + 1) m shape)
    where
      by : (o : Option ℕ) → binds (own_vars fs gs (n + 1) shape) (first_var m) ≡ false → binds (own_var o n type ++ own_vars fs gs (n + 1) shape) (first_var m) ≡ false
      by (Some f) rest = rest
      by None rest = ap (λ b. b || binds (own_vars fs gs (n + 1) shape) (first_var m)) (other_letter 120 121 m n x_not_y) ∙ rest

  not_earlier : (n m : ℕ) (shape : List ColType) → m < n → binds (own_vars fs gs n shape) (second_var m) ≡ false
  not_earlier n m [] less = refl
  not_earlier n m (type ∷ shape) less = by (partner fs gs n) (not_earlier (n + 1) m shape (omega (arith, less)))
    where
      by : (o : Option ℕ) → binds (own_vars fs gs (n + 1) shape) (second_var m) ≡ false → binds (own_var o n type ++ own_vars fs gs (n + 1) shape) (second_var m) ≡ false
      by (Some f) rest = rest
      by None rest = ap (λ b. b || binds (own_vars fs gs (n + 1) shape) (second_var m)) (other_column 121 121 m n (λ e. omega (arith, e, less))) ∙ rest

  -- a column without a partner has its own cell
  own_is : (n : ℕ) (shape : List ColType) (row : List Value) (env : Env) (m k : ℕ) → HasShape row shape → m ≡ n + k → k < length row → partner fs gs m ≡ None
      → lookup (bind (own_vars fs gs n shape) (own_cells n row) env) (second_var m) ≡ cell row k
  own_is n [] [] env m k fits is less none = absurd (omega (arith, less))
  own_is n [] (v ∷ row) env m k fits is less none = absurd cc
  own_is n (type ∷ shape) [] env m k fits is less none = absurd cc
  own_is n (type ∷ shape) (v ∷ row) env m zero fits is less none =
      let same : m ≡ n = omega (arith, is) in
      by (partner fs gs n) (ap (partner fs gs) (sym same) ∙ none)
    where
      by : (o : Option ℕ) → o ≡ None
          → lookup (bind (own_var o n type ++ own_vars fs gs (n + 1) shape) (own_cell o v ++ own_cells (n + 1) row) env) (second_var m) ≡ v
      by (Some f) e = absurd cc
      by None e =
          let same : m ≡ n = omega (arith, is) in
          bind_other (own_vars fs gs (n + 1) shape) (own_cells (n + 1) row) ((second_var n, v) ∷ env) (second_var m) (not_earlier (n + 1) m shape (omega (arith, same)))
          ∙ ap (λ b. cond b v (lookup env (second_var m))) (ap (λ j. var_eq (second_var m) (second_var j)) (sym same) ∙ var_itself (second_var m))
  own_is n (type ∷ shape) (v ∷ row) env m (suc k) fits is less none =
      by (partner fs gs n)
      (λ e. own_is (n + 1) shape row e m k (tails (value_type v) type (map value_type row) shape fits) (omega (arith, is)) (omega (arith, less)) none)
    where
      by : (o : Option ℕ) → ((e : Env) → lookup (bind (own_vars fs gs (n + 1) shape) (own_cells (n + 1) row) e) (second_var m) ≡ cell row k)
          → lookup (bind (own_var o n type ++ own_vars fs gs (n + 1) shape) (own_cell o v ++ own_cells (n + 1) row) env) (second_var m) ≡ cell row k
      by (Some f) rest = rest env
      by None rest = rest ((second_var n, v) ∷ env)

  own_choice : (f : Formula) (db : Instance) (n : ℕ) (shape : List ColType) (row : List Value) → HasShape row shape → ((v : Value) → In v row → In v (values_in db))
      → CellsIn (own_cells n row) (map (λ x. domain f db x.1) (own_vars fs gs n shape))
  own_choice f db n [] [] fits known = tt
  own_choice f db n [] (v ∷ row) fits known = absurd cc
  own_choice f db n (type ∷ shape) [] fits known = absurd cc
  own_choice f db n (type ∷ shape) (v ∷ row) fits known =
      by (partner fs gs n)
      (subst (λ t. In v (domain f db t)) (heads (value_type v) type (map value_type row) shape fits) (domain_in f db v (known v (inl refl))))
      (own_choice f db (n + 1) shape row (tails (value_type v) type (map value_type row) shape fits) (λ w at. known w (inr at)))
    where
      by : (o : Option ℕ) → In v (domain f db type) → CellsIn (own_cells (n + 1) row) (map (λ x. domain f db x.1) (own_vars fs gs (n + 1) shape))
          → CellsIn (own_cell o v ++ own_cells (n + 1) row) (map (λ x. domain f db x.1) (own_var o n type ++ own_vars fs gs (n + 1) shape))
      by (Some f) here rest = rest
      by None here rest = (here, rest)

  -- the row that the paired terms stand for
  pairs_are : (n : ℕ) (shape : List ColType) (row : List Value) (env : Env) → HasShape row shape
      → ((m k : ℕ) → m ≡ n + k → k < length row → lookup env (paired_var (partner fs gs m) m) ≡ cell row k) → map (value_of env) (paired_terms fs gs n shape) ≡ row
  pairs_are n [] [] env fits each = refl
  pairs_are n [] (v ∷ row) env fits each = absurd cc
  pairs_are n (type ∷ shape) [] env fits each = absurd cc
  pairs_are n (type ∷ shape) (v ∷ row) env fits each =
      let here : n ≡ n + 0 = omega arith in
      (λ i. each n 0 here (omega arith) i ∷ pairs_are (n + 1) shape row env (tails (value_type v) type (map value_type row) shape fits) (λ m k is less. each m (suc k) (omega (arith, is)) (omega (arith, less))) i)

  pair_at : (n : ℕ) (shape : List ColType) (env : Env) (m k : ℕ) → m ≡ n + k → k < length shape
      → slice_get (map (value_of env) (paired_terms fs gs n shape)) k ≡ Some (lookup env (paired_var (partner fs gs m) m))
  pair_at n [] env m k is less = absurd (omega (arith, less))
  pair_at n (type ∷ shape) env m zero is less =
      let same : n ≡ m = omega (arith, is) in
      ap (λ j. Some (lookup env (paired_var (partner fs gs j) j))) same
  pair_at n (type ∷ shape) env m (suc k) is less = pair_at (n + 1) shape env m k (omega (arith, is)) (omega (arith, less))

some_is_choice : (dom : Domain) (db : Instance) (vars : TypedVars) (body : Formula) (env : Env) → holds_over dom db (some_of vars body) env ≡ some_choice dom vars (holds_over dom db body) env
some_is_choice dom db [] body env = refl
some_is_choice dom db (x ∷ vars) body env = holds_exists dom db (x ∷ vars) body env

-- ---- the sentence

module _ (rels : Shapes) (rel : ℕ) (fs : List ℕ) (to : ℕ) (gs : List ℕ) (db : Instance) (fits : HasShapes rels db) where
  abbrev shape : List ColType
  shape = columns rels rel

  abbrev to_shape : List ColType
  to_shape = columns rels to

  abbrev sentence : Formula
  sentence = foreign_sentence shape to_shape rel fs to gs

  abbrev dom : Domain
  dom = domain sentence db

  abbrev premise : Formula
  premise = Atom rel (as_terms (first_row shape))

  abbrev there_is : Formula
  there_is = some_of (own_vars fs gs 0 to_shape) (Atom to (paired_terms fs gs 0 to_shape))

  abbrev first_env : List Value → Env
  first_env a = bind (first_row shape) a []

  abbrev both_env : List Value → List Value → Env
  both_env a c = bind (own_vars fs gs 0 to_shape) c (first_env a)

  first_cell : (a c : List Value) (n : ℕ) → HasShape a shape → lookup (both_env a c) (first_var n) ≡ cell a n
  first_cell a c n typed =
      bind_other (own_vars fs gs 0 to_shape) c (first_env a) (first_var n) (not_first fs gs 0 n to_shape)
      ∙ cell_is 120 0 shape a [] n n typed (omega arith)

  premise_is : (a : List Value) → HasShape a shape → holds_over dom db premise (first_env a) ≡ list_any (λ r. row_eq r a) (slice_index_or db rel [])
  premise_is a typed =
      holds_atom dom db rel (as_terms (first_row shape)) (first_env a)
      ∙ ap (λ t. list_any (λ r. row_eq r t) (slice_index_or db rel []))
      (terms_are 120 0 shape a (first_env a) typed (λ m k is. cell_is 120 0 shape a [] m k typed is))

  abbrev found : List Value → List Value → List Value
  found a c = map (value_of (both_env a c)) (paired_terms fs gs 0 to_shape)

  there_is_choice : (a : List Value) → holds_over dom db there_is (first_env a) ≡ some_choice dom (own_vars fs gs 0 to_shape) (holds_over dom db (Atom to (paired_terms fs gs 0 to_shape))) (first_env a)
  there_is_choice a = some_is_choice dom db (own_vars fs gs 0 to_shape) (Atom to (paired_terms fs gs 0 to_shape)) (first_env a)

  atom_is : (a c : List Value) → holds_over dom db (Atom to (paired_terms fs gs 0 to_shape)) (both_env a c) ≡ list_any (λ r. row_eq r (found a c)) (slice_index_or db to [])
  atom_is a c = holds_atom dom db to (paired_terms fs gs 0 to_shape) (both_env a c)

  found_agrees : (a c : List Value) → HasShape a shape → length fs ≡ length gs → Apart gs → ((f : ℕ) → In f fs → f < length shape) → ((g : ℕ) → In g gs → g < length to_shape)
      → cells_at fs a ≡ cells_at gs (found a c)
  found_agrees a c typed long apart within to_within =
      cells_from a (found a c) fs gs
      (pairs_map (Paired fs gs) (λ f g. slice_get a f ≡ slice_get (found a c) g)
      (λ f g p.
      let less : f < length a = (let all = as_long a shape typed in let small = within f p.first_in in omega (arith, all, small)) in
      there a f less ∙ ap Some (sym (first_cell a c f typed))
      ∙ sym (pair_at fs gs 0 to_shape (both_env a c) g g (omega arith) (to_within g p.second_in) ∙ ap (λ o. Some (lookup (both_env a c) (paired_var o g))) p.partners))
      fs gs (pairs fs gs long apart))

  -- where the sentence holds, each row has a partner
  pub foreign_out : length fs ≡ length gs → Apart gs → ((f : ℕ) → In f fs → f < length shape) → ((g : ℕ) → In g gs → g < length to_shape)
      → holds sentence db [] ≡ true → IsForeignKey db rel fs to gs
  foreign_out long apart within to_within e a at =
      let typed : HasShape a shape = fits.each rel a at in
      let chosen = every_out dom (first_row shape) (holds_over dom db (Implies premise there_is)) [] (sym (holds_forall dom db (first_row shape) (Implies premise there_is) []) ∙ e)
      a (row_choice sentence rels db fits first_var rel a at) in
      let inside : holds_over dom db there_is (first_env a) ≡ true =
      implies _ _ (sym (holds_implies dom db premise there_is (first_env a)) ∙ chosen) (premise_is a typed ∙ in_atom (slice_index_or db rel []) a at) in
      let choice = some_out dom (own_vars fs gs 0 to_shape) (holds_over dom db (Atom to (paired_terms fs gs 0 to_shape))) (first_env a) (sym (there_is_choice a) ∙ inside) in
      (found a choice.0, atom_in (slice_index_or db to []) (found a choice.0) (sym (atom_is a choice.0) ∙ choice.2), found_agrees a choice.0 typed long apart within to_within)

  -- the row that the paired terms stand for, where the others are those of a row that agrees
  found_is : (a b : List Value) → HasShape a shape → HasShape b to_shape → cells_at fs a ≡ cells_at gs b → found a (own_cells fs gs 0 b) ≡ b
  found_is a b typed to_typed same =
      pairs_are fs gs 0 to_shape b (both_env a (own_cells fs gs 0 b)) to_typed (λ m k is less. by m k is less (partner fs gs m) refl)
    where
      by : (m k : ℕ) → m ≡ 0 + k → k < length b → (o : Option ℕ) → partner fs gs m ≡ o → lookup (both_env a (own_cells fs gs 0 b)) (paired_var o m) ≡ cell b k
      by m k is less (Some f) e =
          first_cell a (own_cells fs gs 0 b) f typed
          ∙ ap (λ o. unwrap_or o unbound) (partner_cell a b fs gs m f same e)
          ∙ ap (cell b) (let one : m ≡ k = omega (arith, is) in one)
      by m k is less None e = own_is fs gs 0 to_shape b (first_env a) m k to_typed is less e

  pub foreign_in : IsForeignKey db rel fs to gs → holds sentence db [] ≡ true
  foreign_in key =
      holds_forall dom db (first_row shape) (Implies premise there_is) []
      ∙ every_in dom (first_row shape) (holds_over dom db (Implies premise there_is)) []
      (λ a cells.
      let typed : HasShape a shape = cells_typed sentence db first_var 0 shape a cells in
      holds_implies dom db premise there_is (first_env a)
      ∙ implied _ _ (λ e.
      let other = key a (atom_in (slice_index_or db rel []) a (sym (premise_is a typed) ∙ e)) in
      let to_typed : HasShape other.0 to_shape = fits.each to other.0 other.1 in
      there_is_choice a
      ∙ some_in dom (own_vars fs gs 0 to_shape) (holds_over dom db (Atom to (paired_terms fs gs 0 to_shape))) (first_env a) (own_cells fs gs 0 other.0)
      (own_choice fs gs sentence db 0 to_shape other.0 to_typed (in_instance db to other.0 other.1))
      (atom_is a (own_cells fs gs 0 other.0)
      ∙ ap (λ r. list_any (λ s. row_eq s r) (slice_index_or db to [])) (found_is a other.0 typed to_typed other.2)
      ∙ in_atom (slice_index_or db to []) other.0 other.1)))
