-- Each sentence of a net is closed and well typed over its relations, and so is its denial.
use Rattle.std.proofs.Common.{◌≡◌, ℕ, ◌+◌, ◌<◌, ◌≤◌, zero, suc, Bool, true, false, cond, not, List, [], ◌∷◌, ◌++◌, map, refl, sym, ap, ◌∙◌, subst, inl, inr, ⊎_elim, Option, Some, None, arith, length, append-nil, eqb}
use Rattle.std.specs.Prelude.{slice_get, slice_index_or, nat_lt}
use Rattle.std.specs.List.{list_all, flat_map, cons_option}
use Rattle.std.proofs.lemmas.Bool.{and_parts, and_from, true≢false, eq-eqb, eqb-true, ltb-true, lt-ltb}
use Rattle.std.proofs.lemmas.List.{length-map}
use Rattle.dbn_value.specs.Members.{In}
use Rattle.dbn_value.specs.declared.value.ColType.{ColType}
use Rattle.dbn_value.specs.declared.term.Var.{Var}
use Rattle.dbn_value.specs.declared.term.Term.{Term}
use Rattle.dbn_value.specs.declared.term.Term.TheVariants as term
use Rattle.dbn_value.specs.declared.term.Cmp.TheVariants as cmp
use Rattle.dbn_value.proofs.MemberLaws.{all_at, all_from, none_from, in_map, in_flat, in_append, append_left, append_right}
use Rattle.dbn_formula.specs.Variables.{TypedVars, var_eq, type_eq, binds}
use Rattle.dbn_formula.specs.Free.{variable_of, occurrences, free}
use Rattle.dbn_formula.specs.Normal.{normal}
use Rattle.dbn_formula.specs.Distinct.{distinct_vars}
use Rattle.dbn_formula.specs.Typing.{Shapes, type_in, agree, entered, arity_fits, types_fit, terms_fit, type_fault}
use Rattle.dbn_formula.specs.declared.formula.Formula.{Formula}
use Rattle.dbn_formula.specs.declared.formula.Formula.TheVariants.{Atom, Test, And, Not, Implies, Forall}
use Rattle.dbn_formula.proofs.VariableLaws.{var_other, type_same, type_itself, in_bound, in_unhidden}
use Rattle.dbn_formula.proofs.Choices.{entered_own, entered_other}
use Rattle.dbn_formula.proofs.TypingLaws.{arity_atom, arity_test, arity_and, arity_not, arity_implies, arity_exists, arity_forall, types_atom, types_test, types_and, types_not, types_implies, types_exists, types_forall}
use Rattle.dbn_formula.proofs.FreeLaws.{occurrences_atom, occurrences_test, occurrences_and, occurrences_not, occurrences_implies, occurrences_exists, occurrences_forall}
use Rattle.dbn_formula.proofs.ArityKept.{normal_arity}
use Rattle.dbn_formula.proofs.TypesKept.{normal_types}
use Rattle.dbn_formula.proofs.NoFault.{no_fault, fault_none}
use Rattle.dbn_formula.proofs.NormalFree.{kept as free_kept}
use Rattle.dbn_net.specs.declared.decl.Decl.{Decl}
use Rattle.dbn_net.specs.declared.decl.Decl.TheVariants.{Relation, Key, Foreign, Always, Query, Act, Site, Trans}
use Rattle.dbn_net.specs.declared.decl.Entry.TheVariants.{Part}
use Rattle.dbn_net.specs.declared.violation.Named.{Named}
use Rattle.dbn_net.specs.Forms.{Name}
use Rattle.dbn_net.specs.Naming.{number_of, name_at, fields_of, resolved_key, resolved_foreign}
use Rattle.dbn_net.specs.WellFormed.{Passes, WellFormed}
use Rattle.dbn_net.specs.Tables.{Table, relations, relation_names, field_names, relation_shape, relation_shapes, columns, types_of}
use Rattle.dbn_net.specs.Judging.{types_eq, picked_types}
use Rattle.dbn_net.specs.Sentences.{column_var, first_var, second_var, row_vars, first_row, second_row, as_terms, same_at, columns_from, key_sentence, partner, paired_var, paired_terms, own_var, own_vars, some_of, foreign_sentence, sentence_in, labelled_sentences, sentences, denied, violations}
use Rattle.dbn_net.proofs.Maybes.{some_is, first_found, mapped_found}
use Rattle.dbn_net.proofs.Listed.{each_all, heads, in_filter_map}
use Rattle.dbn_net.proofs.NamedLaws.{number_within}
use Rattle.dbn_net.proofs.LiftLaws.{stood, judged_there, relations_kept, always_at}
use Rattle.dbn_net.proofs.AddLaws.{key_known, foreign_known}

-- ---- the variables of a row

types_are : (var : ℕ → Var) (n : ℕ) (shape : List ColType) → types_of (row_vars var n shape) ≡ shape
types_are var n [] = refl
types_are var n (type ∷ shape) = ap (λ types. type ∷ types) (types_are var (n + 1) shape)

-- a variable with a greater number than all
record IsColumn (var : ℕ → Var) (n : ℕ) (x : Var) : Type 0 where
  number : ℕ
  from : n ≤ number
  is : x ≡ var number

row_member : (var : ℕ → Var) (n : ℕ) (shape : List ColType) (y : Var × ColType) → In y (row_vars var n shape) → IsColumn var n y.0
row_member var n [] y at = absurd at
row_member var n (type ∷ shape) y at =
    ⊎_elim
    (λ here. record { number = n; from = omega arith; is = ap (λ (z : Var × ColType). z.0) here })
    (λ later. let found = row_member var (n + 1) shape y later in let up : n + 1 ≤ found.number = found.from in record { number = found.number; from = omega (arith, up); is = found.is })
    at

other_number : (l n m : ℕ) → n + 1 ≤ m → var_eq (column_var l n) (column_var l m) ≡ false
other_number l n m less = var_other (column_var l n) (column_var l m) (λ same. let e : n ≡ m = ap (λ (v : Var). v.mark) same in absurd (omega (arith, less, e)))

letters : (l k n m : ℕ) → column_var l n ≡ column_var k m → l ≡ k
letters l k n m same = heads l k [] [] (ap (λ (v : Var). v.name) same)

x_and_y : ◌≡◌ {A = ℕ} 120 121 → ⊥
x_and_y e = absurd (omega (arith, e))

-- a row's variables are all different, also in front of others that are none of them
distinct_row : (l n : ℕ) (shape : List ColType) (more : TypedVars) → distinct_vars more ≡ true → ((m : ℕ) (y : Var × ColType) → In y more → var_eq (column_var l m) y.0 ≡ false)
    → distinct_vars (row_vars (column_var l) n shape ++ more) ≡ true
distinct_row l n [] more once apart = once
distinct_row l n (type ∷ shape) more once apart =
    and_from (not (binds (row_vars (column_var l) (n + 1) shape ++ more) (column_var l n))) (distinct_vars (row_vars (column_var l) (n + 1) shape ++ more))
    (ap not (none_from (λ (y : Var × ColType). var_eq (column_var l n) y.0) (row_vars (column_var l) (n + 1) shape ++ more)
    (λ y at. ⊎_elim
    (λ own. let c = row_member (column_var l) (n + 1) shape y own in subst (λ x. var_eq (column_var l n) x ≡ false) (sym c.is) (other_number l n c.number c.from))
    (λ other. apart n y other)
    (in_append y (row_vars (column_var l) (n + 1) shape) more at))))
    (distinct_row l (n + 1) shape more once apart)

second_apart : (shape : List ColType) (m : ℕ) (y : Var × ColType) → In y (second_row shape) → var_eq (column_var 120 m) y.0 ≡ false
second_apart shape m y at =
    let c = row_member second_var 0 shape y at in
    subst (λ x. var_eq (column_var 120 m) x ≡ false) (sym c.is) (var_other (column_var 120 m) (second_var c.number) (λ same. x_and_y (letters 120 121 m c.number same)))

one_row : (l : ℕ) (shape : List ColType) → distinct_vars (row_vars (column_var l) 0 shape) ≡ true
one_row l shape = subst (λ vars. distinct_vars vars ≡ true) (append-nil (row_vars (column_var l) 0 shape)) (distinct_row l 0 shape [] refl (λ m y at. absurd at))

two_rows : (shape : List ColType) → distinct_vars (first_row shape ++ second_row shape) ≡ true
two_rows shape = distinct_row 120 0 shape (second_row shape) (one_row 121 shape) (second_apart shape)

-- the variables of one column of two rows
record AtColumn (v w : ℕ → Var) (n m : ℕ) (shape : List ColType) : Type 0 where
  type : ColType
  first : In (v (n + m), type) (row_vars v n shape)
  second : In (w (n + m), type) (row_vars w n shape)

at_column : (v w : ℕ → Var) (n m : ℕ) (shape : List ColType) → m < length shape → AtColumn v w n m shape
at_column v w n m [] less = absurd (omega (arith, less))
at_column v w n zero (type ∷ shape) less =
    let same : n + 0 ≡ n = omega arith in
    record { type = type; first = inl (ap (λ k. (v k, type)) same); second = inl (ap (λ k. (w k, type)) same) }
at_column v w n (suc m) (type ∷ shape) less =
    let later = at_column v w (n + 1) m shape (omega (arith, less)) in
    let same : n + 1 + m ≡ n + suc m = omega arith in
    record {
      type = later.type;
      first = inr (subst (λ k. In (v k, later.type) (row_vars v (n + 1) shape)) same later.first);
      second = inr (subst (λ k. In (w k, later.type) (row_vars w (n + 1) shape)) same later.second);
    }

column_within : (n : ℕ) (shape : List ColType) (m : ℕ) → In m (columns_from n shape) → (k : ℕ) × (m ≡ n + k) × (k < length shape)
column_within n [] m at = absurd at
column_within n (type ∷ shape) m at =
    ⊎_elim
    (λ here. let e : m ≡ n + 0 = omega (arith, here) in (0, e, omega arith))
    (λ later.
    let found = column_within (n + 1) shape m later in
    let is : m ≡ n + 1 + found.0 = found.1 in
    let less : found.0 < length shape = found.2 in
    let e : m ≡ n + suc found.0 = omega (arith, is) in
    (suc found.0, e, omega (arith, less)))
    at

-- ---- formulas that are typed in a scope, and whose variables meet B

record IsTyped (rels : Shapes) (scope : TypedVars) (B : Var → Type 0) (f : Formula) : Type 0 where
  arity : arity_fits rels f ≡ true
  types : types_fit rels f scope ≡ true
  bound : (x : Var) → In x (occurrences f) → B x

module _ (rels : Shapes) (scope : TypedVars) (B : Var → Type 0) where
  typed_and : (fs : List Formula) → ((f : Formula) → In f fs → IsTyped rels scope B f) → IsTyped rels scope B (And fs)
  typed_and fs each = record {
    arity = arity_and rels fs ∙ all_from (arity_fits rels) fs (λ f at. (each f at).arity);
    types = types_and rels fs scope ∙ all_from (λ f. types_fit rels f scope) fs (λ f at. (each f at).types);
    bound = λ x at.
        let found = in_flat occurrences x fs (subst (λ xs. In x xs) (occurrences_and fs) at) in
        (each found.0 found.1).bound x found.2;
  }

  typed_implies : (f g : Formula) → IsTyped rels scope B f → IsTyped rels scope B g → IsTyped rels scope B (Implies f g)
  typed_implies f g left right = record {
    arity = arity_implies rels f g ∙ and_from _ _ left.arity right.arity;
    types = types_implies rels f g scope ∙ and_from _ _ left.types right.types;
    bound = λ x at.
        ⊎_elim (λ l. left.bound x l) (λ r. right.bound x r)
        (in_append x (occurrences f) (occurrences g) (subst (λ xs. In x xs) (occurrences_implies f g) at));
  }

  own_terms : (sub : TypedVars) → ((y : Var × ColType) → In y sub → type_in scope y.0 ≡ Some y.1) → terms_fit scope (as_terms sub) (types_of sub) ≡ true
  own_terms [] own = refl
  own_terms (y ∷ sub) own =
      and_from (agree (type_in scope y.0) (Some y.1)) (terms_fit scope (as_terms sub) (types_of sub))
      (ap (λ o. agree o (Some y.1)) (own y (inl refl)) ∙ type_itself y.1) (own_terms sub (λ z at. own z (inr at)))

  term_var : (sub : TypedVars) (x : Var) → In x (flat_map variable_of (as_terms sub)) → (y : Var × ColType) × In y sub × (x ≡ y.0)
  term_var sub x at =
      let found = in_flat variable_of x (as_terms sub) at in
      let from = in_map (λ (y : Var × ColType). term.Var y.0) found.0 sub found.1 in
      (from.0, from.1, by from.0.0 (subst (λ a. In x (variable_of a)) from.2 found.2))
    where
      by : (z : Var) → In x (z ∷ []) → x ≡ z
      by z (inl here) = here
      by z (inr there) = absurd there

  typed_atom : (rel : ℕ) (sub : TypedVars) → types_of sub ≡ columns rels rel → ((y : Var × ColType) → In y sub → type_in scope y.0 ≡ Some y.1)
      → ((y : Var × ColType) → In y sub → B y.0) → IsTyped rels scope B (Atom rel (as_terms sub))
  typed_atom rel sub same own bound = record {
    arity = arity_atom rels rel (as_terms sub) ∙ eq-eqb _ _ (length-map sub (λ y. term.Var y.0) ∙ sym (length-map sub (λ y. y.1)) ∙ ap length same);
    types = types_atom rels rel (as_terms sub) scope ∙ subst (λ shape. terms_fit scope (as_terms sub) shape ≡ true) same (own_terms sub own);
    bound = λ x at.
        let found = term_var sub x (subst (λ xs. In x xs) (occurrences_atom rel (as_terms sub)) at) in
        subst B (sym found.2) (bound found.0 found.1);
  }

  -- two variables of one type
  typed_same : (x y : Var) (type : ColType) → type_in scope x ≡ Some type → type_in scope y ≡ Some type → B x → B y → IsTyped rels scope B (Test cmp.Eq (term.Var x) (term.Var y))
  typed_same x y type tx ty bx by' = record {
    arity = arity_test rels cmp.Eq (term.Var x) (term.Var y);
    types = types_test rels cmp.Eq (term.Var x) (term.Var y) scope ∙ ap (λ o. agree o (type_in scope y)) tx ∙ ap (λ o. agree (Some type) o) ty ∙ type_itself type;
    bound = λ z at. by z (subst (λ xs. In z xs) (occurrences_test cmp.Eq (term.Var x) (term.Var y)) at);
  }
    where
      by : (z : Var) → In z (x ∷ y ∷ []) → B z
      by z (inl here) = subst B (sym here) bx
      by z (inr (inl here)) = subst B (sym here) by'
      by z (inr (inr there)) = absurd there

-- a formula whose variables are all quantified in front of it
closed : (rels : Shapes) (vars : TypedVars) (f : Formula) → IsTyped rels (entered vars []) (λ x. binds vars x ≡ true) f → type_fault rels (Forall vars f) [] ≡ None
closed rels vars f typed =
    fault_none rels (Forall vars f) [] (arity_forall rels vars f ∙ typed.arity) (types_forall rels vars f [] ∙ typed.types)
    (all_from (binds []) (occurrences (Forall vars f))
    (λ x at.
    let hidden = in_unhidden vars x (occurrences f) (subst (λ xs. In x xs) (occurrences_forall vars f) at) in
    absurd (true≢false (sym (typed.bound x hidden.0) ∙ hidden.1))))

-- ---- keys

key_typed : (rels : Shapes) (rel : ℕ) (fields : List ℕ) → ((n : ℕ) → In n fields → n < length (columns rels rel)) → type_fault rels (key_sentence (columns rels rel) rel fields) [] ≡ None
key_typed rels rel fields within = closed rels vars body (typed_implies rels scope B (And front) (And back) (typed_and rels scope B front each_front) (typed_and rels scope B back each_back))
  where
    shape : List ColType
    shape = columns rels rel

    vars : TypedVars
    vars = first_row shape ++ second_row shape

    scope : TypedVars
    scope = entered vars []

    front : List Formula
    front = Atom rel (as_terms (first_row shape)) ∷ map same_at fields ++ Atom rel (as_terms (second_row shape)) ∷ []

    back : List Formula
    back = map same_at (columns_from 0 shape)

    body : Formula
    body = Implies (And front) (And back)

    B : Var → Type 0
    B x = binds vars x ≡ true

    own : (y : Var × ColType) → In y vars → type_in scope y.0 ≡ Some y.1
    own y at = entered_own vars [] y (two_rows shape) at

    in_first : (y : Var × ColType) → In y (first_row shape) → In y vars
    in_first y at = append_left y (first_row shape) (second_row shape) at

    in_second : (y : Var × ColType) → In y (second_row shape) → In y vars
    in_second y at = append_right y (first_row shape) (second_row shape) at

    same_typed : (m : ℕ) → m < length shape → IsTyped rels scope B (same_at m)
    same_typed m less =
        let c = at_column first_var second_var 0 m shape less in
        let is : 0 + m ≡ m = omega arith in
        subst (λ k. IsTyped rels scope B (same_at k)) is
        (typed_same rels scope B (first_var (0 + m)) (second_var (0 + m)) c.type
        (own (first_var (0 + m), c.type) (in_first (first_var (0 + m), c.type) c.first))
        (own (second_var (0 + m), c.type) (in_second (second_var (0 + m), c.type) c.second))
        (in_bound vars (first_var (0 + m), c.type) (in_first (first_var (0 + m), c.type) c.first))
        (in_bound vars (second_var (0 + m), c.type) (in_second (second_var (0 + m), c.type) c.second)))

    first_atom : IsTyped rels scope B (Atom rel (as_terms (first_row shape)))
    first_atom = typed_atom rels scope B rel (first_row shape) (types_are first_var 0 shape) (λ y at. own y (in_first y at)) (λ y at. in_bound vars y (in_first y at))

    second_atom : IsTyped rels scope B (Atom rel (as_terms (second_row shape)))
    second_atom = typed_atom rels scope B rel (second_row shape) (types_are second_var 0 shape) (λ y at. own y (in_second y at)) (λ y at. in_bound vars y (in_second y at))

    each_front : (f : Formula) → In f front → IsTyped rels scope B f
    each_front f (inl here) = subst (IsTyped rels scope B) (sym here) first_atom
    each_front f (inr later) =
        ⊎_elim
        (λ test. let found = in_map same_at f fields test in subst (IsTyped rels scope B) (sym found.2) (same_typed found.0 (within found.0 found.1)))
        (λ atom. last atom)
        (in_append f (map same_at fields) (Atom rel (as_terms (second_row shape)) ∷ []) later)
      where
        last : In f (Atom rel (as_terms (second_row shape)) ∷ []) → IsTyped rels scope B f
        last (inl here) = subst (IsTyped rels scope B) (sym here) second_atom
        last (inr there) = absurd there

    each_back : (f : Formula) → In f back → IsTyped rels scope B f
    each_back f at =
        let found = in_map same_at f (columns_from 0 shape) at in
        let column = column_within 0 shape found.0 found.1 in
        let is : found.0 ≡ 0 + column.0 = column.1 in
        let less : column.0 < length shape = column.2 in
        subst (IsTyped rels scope B) (sym found.2) (same_typed found.0 (omega (arith, is, less)))

-- ---- foreign keys

-- paired columns have one type
record IsPaired (shape to_shape : List ColType) (f column : ℕ) : Type 0 where
  type : ColType
  there : slice_get shape f ≡ Some type
  here : slice_get to_shape column ≡ Some type

got : {A : Type 0} (xs : List A) (n : ℕ) → n < length xs → (x : A) × (slice_get xs n ≡ Some x)
got [] n less = absurd (omega (arith, less))
got (x ∷ xs) zero less = (x, refl)
got (x ∷ xs) (suc n) less = got xs n (omega (arith, less))

some_same : {A : Type 0} (a b : A) → Some a ≡ Some b → a ≡ b
some_same a b e = cc

partner_paired : (shape to_shape : List ColType) (fields to_fields : List ℕ) (column f : ℕ) → ((n : ℕ) → In n fields → n < length shape) → ((n : ℕ) → In n to_fields → n < length to_shape)
    → types_eq (picked_types shape fields) (picked_types to_shape to_fields) ≡ true → partner fields to_fields column ≡ Some f → IsPaired shape to_shape f column
partner_paired shape to_shape [] to_fields column f within to_within same is = absurd cc
partner_paired shape to_shape (h ∷ fields) [] column f within to_within same is = absurd cc
partner_paired shape to_shape (h ∷ fields) (g ∷ to_fields) column f within to_within same is =
    let a = got shape h (within h (inl refl)) in
    let b = got to_shape g (to_within g (inl refl)) in
    let both = and_parts (type_eq a.0 b.0) (types_eq (picked_types shape fields) (picked_types to_shape to_fields))
    (sym (ap (λ o. types_eq (cons_option o (picked_types shape fields)) (cons_option (slice_get to_shape g) (picked_types to_shape to_fields))) a.1
    ∙ ap (λ o. types_eq (a.0 ∷ picked_types shape fields) (cons_option o (picked_types to_shape to_fields))) b.1) ∙ same) in
    by (eqb g column) refl is a.0 a.1 (b.1 ∙ ap (λ t. Some t) (sym (type_same a.0 b.0 both.0)))
    (λ rest. partner_paired shape to_shape fields to_fields column f (λ n at. within n (inr at)) (λ n at. to_within n (inr at)) both.1 rest)
  where
    by : (t : Bool) → eqb g column ≡ t → cond t (Some h) (partner fields to_fields column) ≡ Some f → (type : ColType) → slice_get shape h ≡ Some type → slice_get to_shape g ≡ Some type
        → (partner fields to_fields column ≡ Some f → IsPaired shape to_shape f column) → IsPaired shape to_shape f column
    by true test found type left right rest =
        let h_is : h ≡ f = some_same h f found in
        let g_is : g ≡ column = eqb-true g column test in
        record { type = type; there = subst (λ n. slice_get shape n ≡ Some type) h_is left; here = subst (λ n. slice_get to_shape n ≡ Some type) g_is right }
    by false test found type left right rest = rest found

-- the variables of the second row that have no partner
own_member : (fields to_fields : List ℕ) (n : ℕ) (shape : List ColType) (y : Var × ColType) → In y (own_vars fields to_fields n shape) → IsColumn second_var n y.0
own_member fields to_fields n [] y at = absurd at
own_member fields to_fields n (type ∷ shape) y at =
    ⊎_elim
    (λ own. by (partner fields to_fields n) own)
    (λ later. let found = own_member fields to_fields (n + 1) shape y later in let up : n + 1 ≤ found.number = found.from in record { number = found.number; from = omega (arith, up); is = found.is })
    (in_append y (own_var (partner fields to_fields n) n type) (own_vars fields to_fields (n + 1) shape) at)
  where
    by : (o : Option ℕ) → In y (own_var o n type) → IsColumn second_var n y.0
    by None (inl here) = record { number = n; from = omega arith; is = ap (λ (z : Var × ColType). z.0) here }
    by None (inr there) = absurd there
    by (Some f) there = absurd there

distinct_own : (fields to_fields : List ℕ) (n : ℕ) (shape : List ColType) → distinct_vars (own_vars fields to_fields n shape) ≡ true
distinct_own fields to_fields n [] = refl
distinct_own fields to_fields n (type ∷ shape) = by (partner fields to_fields n) (distinct_own fields to_fields (n + 1) shape)
  where
    by : (o : Option ℕ) → distinct_vars (own_vars fields to_fields (n + 1) shape) ≡ true → distinct_vars (own_var o n type ++ own_vars fields to_fields (n + 1) shape) ≡ true
    by (Some f) rest = rest
    by None rest =
        and_from (not (binds (own_vars fields to_fields (n + 1) shape) (second_var n))) (distinct_vars (own_vars fields to_fields (n + 1) shape))
        (ap not (none_from (λ (y : Var × ColType). var_eq (second_var n) y.0) (own_vars fields to_fields (n + 1) shape)
        (λ y at. let c = own_member fields to_fields (n + 1) shape y at in subst (λ x. var_eq (second_var n) x ≡ false) (sym c.is) (other_number 121 n c.number c.from))))
        rest

-- where a term of the second row is from
record From (fields to_fields : List ℕ) (n : ℕ) (shape : List ColType) (a : Term) : Type 0 where
  column : ℕ
  is : a ≡ term.Var (paired_var (partner fields to_fields column) column)
  mine : partner fields to_fields column ≡ None → (type : ColType) × In (second_var column, type) (own_vars fields to_fields n shape)

term_from : (fields to_fields : List ℕ) (n : ℕ) (shape : List ColType) (a : Term) → In a (paired_terms fields to_fields n shape) → From fields to_fields n shape a
term_from fields to_fields n [] a at = absurd at
term_from fields to_fields n (type ∷ shape) a at =
    ⊎_elim
    (λ here. record {
      column = n;
      is = here;
      mine = λ none. (
        type,
        append_left (second_var n, type) (own_var (partner fields to_fields n) n type) (own_vars fields to_fields (n + 1) shape)
            (subst (λ o. In (second_var n, type) (own_var o n type)) (sym none) (inl refl)),
      );
    })
    (λ later.
    let from = term_from fields to_fields (n + 1) shape a later in
    record {
      column = from.column;
      is = from.is;
      mine = λ none. let m = from.mine none in (m.0, append_right (second_var from.column, m.0) (own_var (partner fields to_fields n) n type) (own_vars fields to_fields (n + 1) shape) m.1);
    })
    at

-- a formula behind `exists` over the variables, if there are any
some_of_typed : (rels : Shapes) (scope : TypedVars) (B : Var → Type 0) (vars : TypedVars) (f : Formula) → arity_fits rels f ≡ true → types_fit rels f (entered vars scope) ≡ true
    → ((x : Var) → In x (occurrences f) → binds vars x ≡ false → B x) → IsTyped rels scope B (some_of vars f)
some_of_typed rels scope B [] f arity types bound = record { arity = arity; types = types; bound = λ x at. bound x at refl }
some_of_typed rels scope B (y ∷ vars) f arity types bound = record {
  arity = arity_exists rels (y ∷ vars) f ∙ arity;
  types = types_exists rels (y ∷ vars) f scope ∙ types;
  bound = λ x at.
      let hidden = in_unhidden (y ∷ vars) x (occurrences f) (subst (λ xs. In x xs) (occurrences_exists (y ∷ vars) f) at) in
      bound x hidden.0 hidden.1;
}

foreign_typed : (rels : Shapes) (rel : ℕ) (fields : List ℕ) (to : ℕ) (to_fields : List ℕ) → ((n : ℕ) → In n fields → n < length (columns rels rel)) → ((n : ℕ) → In n to_fields → n < length (columns rels to))
    → types_eq (picked_types (columns rels rel) fields) (picked_types (columns rels to) to_fields) ≡ true
    → type_fault rels (foreign_sentence (columns rels rel) (columns rels to) rel fields to to_fields) [] ≡ None
foreign_typed rels rel fields to to_fields within to_within same = closed rels vars (Implies (Atom rel (as_terms vars)) (some_of own inner)) (typed_implies rels scope B (Atom rel (as_terms vars)) (some_of own inner) outer_atom whole)
  where
    shape : List ColType
    shape = columns rels rel

    to_shape : List ColType
    to_shape = columns rels to

    vars : TypedVars
    vars = first_row shape

    scope : TypedVars
    scope = entered vars []

    own : TypedVars
    own = own_vars fields to_fields 0 to_shape

    inside : TypedVars
    inside = entered own scope

    inner : Formula
    inner = Atom to (paired_terms fields to_fields 0 to_shape)

    B : Var → Type 0
    B x = binds vars x ≡ true

    typed_first : (y : Var × ColType) → In y vars → type_in scope y.0 ≡ Some y.1
    typed_first y at = entered_own vars [] y (one_row 120 shape) at

    outer_atom : IsTyped rels scope B (Atom rel (as_terms vars))
    outer_atom = typed_atom rels scope B rel vars (types_are first_var 0 shape) typed_first (λ y at. in_bound vars y at)

    not_own : (m : ℕ) → binds own (first_var m) ≡ false
    not_own m =
        none_from (λ (y : Var × ColType). var_eq (first_var m) y.0) own
        (λ y at. let c = own_member fields to_fields 0 to_shape y at in
        subst (λ x. var_eq (first_var m) x ≡ false) (sym c.is) (var_other (first_var m) (second_var c.number) (λ e. x_and_y (letters 120 121 m c.number e))))

    first_at : (f : ℕ) (type : ColType) → slice_get shape f ≡ Some type → In (first_var f, type) vars
    first_at f type is = subst (λ k. In (first_var k, type) vars) zero_more (go 0 f shape is)
      where
        zero_more : 0 + f ≡ f
        zero_more = omega arith

        go : (n f : ℕ) (shape : List ColType) → slice_get shape f ≡ Some type → In (first_var (n + f), type) (row_vars first_var n shape)
        go n f [] e = absurd cc
        go n zero (t ∷ shape) e = let k : n + 0 ≡ n = omega arith in inl (ap (λ j. (first_var j, type)) k ∙ ap (λ u. (first_var n, u)) (sym (some_same t type e)))
        go n (suc f) (t ∷ shape) e = let k : n + 1 + f ≡ n + suc f = omega arith in inr (subst (λ j. In (first_var j, type) (row_vars first_var (n + 1) shape)) k (go (n + 1) f shape e))

    -- the term of a column: its partner in the first row, or a variable of its own
    term_typed : (column : ℕ) (type : ColType) (o : Option ℕ) → partner fields to_fields column ≡ o → slice_get to_shape column ≡ Some type → (o ≡ None → In (second_var column, type) own)
        → agree (type_in inside (paired_var o column)) (Some type) ≡ true
    term_typed column type (Some f) is at mine =
        let p = partner_paired shape to_shape fields to_fields column f within to_within same is in
        let one : p.type ≡ type = some_same p.type type (sym p.here ∙ at) in
        ap (λ t. agree t (Some type)) (entered_other own scope (first_var f) (not_own f) ∙ typed_first (first_var f, p.type) (first_at f p.type p.there))
        ∙ ap (λ t. type_eq t type) one ∙ type_itself type
    term_typed column type None is at mine =
        ap (λ t. agree t (Some type)) (entered_own own scope (second_var column, type) (distinct_own fields to_fields 0 to_shape) (mine refl)) ∙ type_itself type

    terms_typed : (n : ℕ) (part : List ColType) → ((k : ℕ) → slice_get part k ≡ slice_get to_shape (n + k)) → ((y : Var × ColType) → In y (own_vars fields to_fields n part) → In y own)
        → terms_fit inside (paired_terms fields to_fields n part) part ≡ true
    terms_typed n [] at mine = refl
    terms_typed n (type ∷ part) at mine =
        let k : n + 0 ≡ n = omega arith in
        and_from (agree (type_in inside (paired_var (partner fields to_fields n) n)) (Some type)) (terms_fit inside (paired_terms fields to_fields (n + 1) part) part)
        (term_typed n type (partner fields to_fields n) refl (ap (slice_get to_shape) (sym k) ∙ sym (at 0))
        (λ none. mine (second_var n, type) (append_left (second_var n, type) (own_var (partner fields to_fields n) n type) (own_vars fields to_fields (n + 1) part)
        (subst (λ o. In (second_var n, type) (own_var o n type)) (sym none) (inl refl)))))
        (terms_typed (n + 1) part
        (λ j. let more : n + suc j ≡ n + 1 + j = omega arith in at (suc j) ∙ ap (slice_get to_shape) more)
        (λ y there. mine y (append_right y (own_var (partner fields to_fields n) n type) (own_vars fields to_fields (n + 1) part) there)))

    terms_long : (n : ℕ) (part : List ColType) → length (paired_terms fields to_fields n part) ≡ length part
    terms_long n [] = refl
    terms_long n (type ∷ part) = ap suc (terms_long (n + 1) part)

    partner_in : (fs gs : List ℕ) (column f : ℕ) → partner fs gs column ≡ Some f → In f fs
    partner_in [] gs column f is = absurd cc
    partner_in (h ∷ fs) [] column f is = absurd cc
    partner_in (h ∷ fs) (g ∷ gs) column f is = by (eqb g column) is (λ rest. partner_in fs gs column f rest)
      where
        by : (t : Bool) → cond t (Some h) (partner fs gs column) ≡ Some f → (partner fs gs column ≡ Some f → In f fs) → In f (h ∷ fs)
        by true found rest = inl (sym (some_same h f found))
        by false found rest = inr (rest found)

    inner_bound : (x : Var) → In x (occurrences inner) → binds own x ≡ false → B x
    inner_bound x at free =
        let found = in_flat variable_of x (paired_terms fields to_fields 0 to_shape) (subst (λ xs. In x xs) (occurrences_atom to (paired_terms fields to_fields 0 to_shape)) at) in
        let from = term_from fields to_fields 0 to_shape found.0 found.1 in
        by from.column (partner fields to_fields from.column) refl (subst (λ a. In x (variable_of a)) from.is found.2) from.mine
      where
        by : (column : ℕ) (o : Option ℕ) → partner fields to_fields column ≡ o → In x (paired_var o column ∷ []) → (o ≡ None → (type : ColType) × In (second_var column, type) own) → B x
        by column o is (inr there) mine = absurd there
        by column (Some f) is (inl here) mine =
            let t = got shape f (within f (partner_in fields to_fields column f is)) in
            subst B (sym here) (in_bound vars (first_var f, t.0) (first_at f t.0 t.1))
        by column None is (inl here) mine =
            let m = mine refl in
            absurd (true≢false (sym (in_bound own (second_var column, m.0) m.1) ∙ ap (binds own) (sym here) ∙ free))

    whole : IsTyped rels scope B (some_of own inner)
    whole = some_of_typed rels scope B own inner
        (arity_atom rels to (paired_terms fields to_fields 0 to_shape) ∙ eq-eqb _ _ (terms_long 0 to_shape))
        (types_atom rels to (paired_terms fields to_fields 0 to_shape) inside ∙ terms_typed 0 to_shape (λ k. let same : 0 + k ≡ k = omega arith in ap (slice_get to_shape) (sym same)) (λ y at. at))
        inner_bound

-- ---- the sentences of a net

fields_long : (rels : List Table) (n : ℕ) → length (slice_index_or (map (λ r. map (λ f. f.0) r.fields) rels) n []) ≡ length (slice_index_or (map relation_shape rels) n [])
fields_long [] n = refl
fields_long (r ∷ rels) zero = length-map r.fields (λ f. f.0) ∙ sym (length-map r.fields (λ f. f.1))
fields_long (r ∷ rels) (suc n) = fields_long rels n

fields_within : (net : List Decl) (n : ℕ) (names : List Name) (fs : List ℕ) → fields_of net n names ≡ Some fs → (k : ℕ) → In k fs → k < length (columns (relation_shapes net) n)
fields_within net n names fs e k at =
    subst (λ m. k < m) (fields_long (relations net) n)
    (ltb-true k (length (field_names net n))
    (all_at (λ j. nat_lt j (length (field_names net n))) k fs
    (each_all (number_of (field_names net n)) (λ j. nat_lt j (length (field_names net n))) (λ x j is. lt-ltb j (length (field_names net n)) (number_within (field_names net n) x j is)) names fs e) at))

key_parts : (n k : ℕ) (fs gs : List ℕ) → Part (Key n fs) ≡ Part (Key k gs) → (n ≡ k) × (fs ≡ gs)
key_parts n k fs gs e = (cc, cc)

key_columns : (front : List Decl) (rel : ℕ) (fields : List ℕ) → Passes front (Key rel fields) → (k : ℕ) → In k fields → k < length (columns (relation_shapes front) rel)
key_columns front rel fields p =
    let name : Name = name_at (relation_names front) rel in
    let names : List Name = map (name_at (field_names front rel)) fields in
    let (d, is, made) = mapped_found Part (resolved_key front name names) (Part (Key rel fields)) (judged_there front (Key rel fields) p).is in
    let (n, a, e1) = first_found (number_of (relation_names front) name) _ d is in
    let (fs, b, e2) = first_found (fields_of front n names) (λ gs. Some (Key n gs)) d e1 in
    let same = key_parts n rel fs fields (ap Part (some_is (Key n fs) d e2) ∙ made) in
    subst (λ gs. (k : ℕ) → In k gs → k < length (columns (relation_shapes front) rel)) same.1
    (subst (λ m. (k : ℕ) → In k fs → k < length (columns (relation_shapes front) m)) same.0 (fields_within front n names fs b))

foreign_parts : (n m k l : ℕ) (fs gs hs ks : List ℕ) → Part (Foreign n fs m gs) ≡ Part (Foreign k hs l ks) → (n ≡ k) × (fs ≡ hs) × (m ≡ l) × (gs ≡ ks)
foreign_parts n m k l fs gs hs ks e = (cc, cc, cc, cc)

both_columns : (front : List Decl) (rel to n m : ℕ) (fields to_fields fs gs : List ℕ) → (n ≡ rel) × (fs ≡ fields) × (m ≡ to) × (gs ≡ to_fields)
    → ((k : ℕ) → In k fs → k < length (columns (relation_shapes front) n)) → ((k : ℕ) → In k gs → k < length (columns (relation_shapes front) m))
    → ((k : ℕ) → In k fields → k < length (columns (relation_shapes front) rel)) × ((k : ℕ) → In k to_fields → k < length (columns (relation_shapes front) to))
both_columns front rel to n m fields to_fields fs gs same left right = (
  subst (λ hs. (k : ℕ) → In k hs → k < length (columns (relation_shapes front) rel)) same.1
      (subst (λ j. (k : ℕ) → In k fs → k < length (columns (relation_shapes front) j)) same.0 left),
  subst (λ hs. (k : ℕ) → In k hs → k < length (columns (relation_shapes front) to)) same.3
      (subst (λ j. (k : ℕ) → In k gs → k < length (columns (relation_shapes front) j)) same.2 right),
)

foreign_columns : (front : List Decl) (rel : ℕ) (fields : List ℕ) (to : ℕ) (to_fields : List ℕ) → Passes front (Foreign rel fields to to_fields)
    → ((k : ℕ) → In k fields → k < length (columns (relation_shapes front) rel)) × ((k : ℕ) → In k to_fields → k < length (columns (relation_shapes front) to))
foreign_columns front rel fields to to_fields p =
    let name : Name = name_at (relation_names front) rel in
    let names : List Name = map (name_at (field_names front rel)) fields in
    let to_name : Name = name_at (relation_names front) to in
    let to_names : List Name = map (name_at (field_names front to)) to_fields in
    let (d, is, made) = mapped_found Part (resolved_foreign front name names to_name to_names) (Part (Foreign rel fields to to_fields)) (judged_there front (Foreign rel fields to to_fields) p).is in
    let (n, a, e1) = first_found (number_of (relation_names front) name) _ d is in
    let (fs, b, e2) = first_found (fields_of front n names) _ d e1 in
    let (m, c, e3) = first_found (number_of (relation_names front) to_name) _ d e2 in
    let (gs, f, e4) = first_found (fields_of front m to_names) (λ hs. Some (Foreign n fs m hs)) d e3 in
    let same = foreign_parts n m rel to fs gs fields to_fields (ap Part (some_is (Foreign n fs m gs) d e4) ∙ made) in
    both_columns front rel to n m fields to_fields fs gs same (fields_within front n names fs b) (fields_within front m to_names gs f)

sentence_there : (front ys : List Decl) (d : Decl) (s : Named) → Passes front d → ((name : Name) (body : Formula) → d ≡ Always name body → type_fault (relation_shapes (front ++ ys)) body [] ≡ None) → sentence_in (relation_shapes (front ++ ys)) d ≡ Some s → type_fault (relation_shapes (front ++ ys)) s.item [] ≡ None
sentence_there front ys (Key rel fields) s p always is =
    let kept = relations_kept front ys rel (key_known front rel fields p) in
    subst (λ (z : Named). type_fault (relation_shapes (front ++ ys)) z.item [] ≡ None) (some_is _ s is)
    (key_typed (relation_shapes (front ++ ys)) rel fields (subst (λ shape. (k : ℕ) → In k fields → k < length shape) (sym kept) (key_columns front rel fields p)))
sentence_there front ys (Foreign rel fields to to_fields) s p always is =
    let known = foreign_known front rel to fields to_fields p in
    let kept = relations_kept front ys rel known.0 in
    let to_kept = relations_kept front ys to known.1 in
    let within = foreign_columns front rel fields to to_fields p in
    let same = (judged_there front (Foreign rel fields to to_fields) p).passed.typed in
    subst (λ (z : Named). type_fault (relation_shapes (front ++ ys)) z.item [] ≡ None) (some_is _ s is)
    (foreign_typed (relation_shapes (front ++ ys)) rel fields to to_fields
    (subst (λ shape. (k : ℕ) → In k fields → k < length shape) (sym kept) within.0)
    (subst (λ shape. (k : ℕ) → In k to_fields → k < length shape) (sym to_kept) within.1)
    (ap (λ shape. types_eq (picked_types shape fields) (picked_types (columns (relation_shapes (front ++ ys)) to) to_fields)) kept
    ∙ ap (λ shape. types_eq (picked_types (columns (relation_shapes front) rel) fields) (picked_types shape to_fields)) to_kept ∙ same))
sentence_there front ys (Relation name fields) s p always is = absurd cc
sentence_there front ys (Always name body) s p always is =
    subst (λ (z : Named). type_fault (relation_shapes (front ++ ys)) z.item [] ≡ None) (some_is _ s is) (always name body refl)
sentence_there front ys (Query name vars body) s p always is = absurd cc
sentence_there front ys (Act a) s p always is = absurd cc
sentence_there front ys (Site site) s p always is = absurd cc
sentence_there front ys (Trans t) s p always is = absurd cc

denial_typed : (rels : Shapes) (f : Formula) → type_fault rels f [] ≡ None → type_fault rels (normal (Not f)) [] ≡ None
denial_typed rels f ok =
    let all = no_fault rels f [] ok in
    fault_none rels (normal (Not f)) []
    (normal_arity rels (Not f) true ∙ arity_not rels f ∙ all.0)
    (normal_types rels (Not f) true [] ∙ types_not rels f [] ∙ all.1)
    (ap (list_all (binds [])) (free_kept (Not f) true ∙ occurrences_not f) ∙ all.2)

sentence_typed : (net : List Decl) (d : Decl) (s : Named) → WellFormed net → In d net → sentence_in (relation_shapes net) d ≡ Some s → type_fault (relation_shapes net) s.item [] ≡ None
sentence_typed net d s ok at is =
    let st = stood [] net d ok at in
    subst (λ ds. type_fault (relation_shapes ds) s.item [] ≡ None) (sym st.is)
    (sentence_there st.front (d ∷ st.rest) d s st.passes
    (λ name body same. subst (λ ds. type_fault (relation_shapes ds) body [] ≡ None) st.is (always_at net name body ok (subst (λ e. In e net) same at)).typed)
    (subst (λ ds. sentence_in (relation_shapes ds) d ≡ Some s) st.is is))

-- each violation of a net is closed and well typed
pub violation_typed : (net : List Decl) → WellFormed net → (v : Named) → In v (violations net) → type_fault (relation_shapes net) v.item [] ≡ None
violation_typed net ok v at =
    let sentence = in_map denied v (labelled_sentences net) at in
    let from = in_filter_map (sentence_in (relation_shapes net)) sentence.0 net sentence.1 in
    subst (λ (z : Named). type_fault (relation_shapes net) z.item [] ≡ None) (sym sentence.2)
    (denial_typed (relation_shapes net) sentence.0.item (sentence_typed net from.0 sentence.0 ok from.1 from.2))

-- each sentence of a net is closed and well typed
pub sentence_is_typed : (net : List Decl) (f : Formula) → WellFormed net → In f (sentences net) → type_fault (relation_shapes net) f [] ≡ None
sentence_is_typed net f ok at =
    let sentence = in_map (λ (s : Named). s.item) f (labelled_sentences net) at in
    let from = in_filter_map (sentence_in (relation_shapes net)) sentence.0 net sentence.1 in
    subst (λ (g : Formula). type_fault (relation_shapes net) g [] ≡ None) (sym sentence.2) (sentence_typed net from.0 sentence.0 ok from.1 from.2)
