-- Indexes as they grow: one more row under a key, one more row of the relation, one more spot.
use Rattle.std.specs.Global.{Vec}
use Rattle.std.specs.Borrow.{Bor}
use Rattle.std.specs.Prelude.{IsSome, IfSome, slice_index_or}
use Rattle.std.proofs.Common.{arith, ◌≡◌, ◌⊎◌, inl, inr, ℕ, Bool, true, false, cond, if◌then◌else◌, List, [], ◌∷◌, ◌++◌, map, length, Option, Some, None, refl, ap, sym, ◌∙◌, subst, append-nil, append_assoc}
use Rattle.std.specs.Ordering.{nat_cmp, bool_cmp}
use Rattle.std.specs.Cmp.{Equal-is}
use Rattle.std.specs.Cmp.Lexicographic.{slice_cmp}
use Rattle.std.specs.FinMap.{IsAntisymmetric, nat_cmp-IsAntisymmetric, slice_cmp-IsAntisymmetric}
use Rattle.std.specs.List.{filter}
use Rattle.std.specs.Map.{lookup, set_value}
use Rattle.std.specs.BTreeMap.{BTreeMap, is_at}
use Rattle.std.proofs.lemmas.List.{map-append}
use Rattle.std.proofs.lemmas.Map.Lookups.{exact_pairs}
use Rattle.dbn_value.specs.Order.{row_cmp, rows_total, exact_rows}
use Rattle.dbn_value.specs.declared.value.Value.{Value}
use Rattle.dbn_value.proofs.EntryLaws.{lookup_set_value}
use Rattle.dbn_scratch.specs.Indexes.{key_of, has_key, shown, Entries, rows_in, rows_under, IsIndex, Spot, spot_cmp, IsKept, AreKept}

-- an element that is wanted, between those before and those behind it
between : {A : Type 0} (front : List A) (b : Bool) (x : A) (rest : List A) → (front ++ (if b then x ∷ [] else [])) ++ rest ≡ front ++ cond b (x ∷ rest) rest
between front true x rest = append_assoc front (x ∷ []) rest
between front false x rest = append_assoc front [] rest

-- ---- keys

-- no mark or no cell is left
pub key_ended : (marks : List Bool) (row cells whole : List Value) → (length marks ≡ 0) ⊎ (length row ≡ 0) → cells ++ key_of marks row ≡ whole → cells ≡ whole
key_ended [] row cells whole end e = sym (append-nil cells) ∙ e
key_ended (mark ∷ marks) [] cells whole end e = sym (append-nil cells) ∙ e
key_ended (mark ∷ marks) (v ∷ row) cells whole (inl end) e = absurd (omega arith)
key_ended (mark ∷ marks) (v ∷ row) cells whole (inr end) e = absurd (omega arith)

pub values_ended : {T : Type 0} (value : T → Value) (marks : List Bool) (terms : List T) (cells whole : List Value) → (length marks ≡ 0) ⊎ (length terms ≡ 0) → cells ++ key_of marks (map value terms) ≡ whole → cells ≡ whole
values_ended value [] terms cells whole end e = sym (append-nil cells) ∙ e
values_ended value (mark ∷ marks) [] cells whole end e = sym (append-nil cells) ∙ e
values_ended value (mark ∷ marks) (t ∷ terms) cells whole (inl end) e = absurd (omega arith)
values_ended value (mark ∷ marks) (t ∷ terms) cells whole (inr end) e = absurd (omega arith)

-- ---- one more row under a key

put_under : (old new : Entries) (key : List Value) (after : Vec (Bor (List Value))) (row : List Value)
    → ((q : List Value) → lookup (is_at (row_cmp q)) new ≡ cond (is_at (row_cmp key) q) (Some after) (lookup (is_at (row_cmp q)) old))
    → shown after.items ≡ rows_under old key ++ row ∷ []
    → (k : List Value) → rows_under new k ≡ rows_under old k ++ (if is_at (row_cmp key) k then row ∷ [] else [])
put_under old new key after row put grown k = ap rows_in (put k) ∙ here (is_at (row_cmp key) k) refl
  where
    here : (b : Bool) → is_at (row_cmp key) k ≡ b → rows_in (cond b (Some after) (lookup (is_at (row_cmp k)) old)) ≡ rows_under old k ++ (if b then row ∷ [] else [])
    here true e = grown ∙ ap (λ q. rows_under old q ++ row ∷ []) (exact_rows key k ((Equal-is (row_cmp key k)).0 e))
    here false e = sym (append-nil (rows_under old k))

-- the key is there
pub put_more : (old new : Entries) (key : List Value) (rows after : Vec (Bor (List Value))) (row : Bor (List Value))
    → lookup (is_at (row_cmp key)) old ≡ Some rows → new ≡ set_value (is_at (row_cmp key)) old after → after.items ≡ rows.items ++ row ∷ []
    → (k : List Value) → rows_under new k ≡ rows_under old k ++ (if is_at (row_cmp key) k then row.now ∷ [] else [])
put_more old new key rows after row was is grown =
    put_under old new key after row.now
    (λ q. ap (lookup (is_at (row_cmp q))) is ∙ lookup_set_value rows_total q key after old (subst IsSome (sym was) refl))
    (ap shown grown ∙ map-append (λ (r : Bor (List Value)). r.now) rows.items (row ∷ []) ∙ ap (λ found. rows_in found ++ row.now ∷ []) (sym was))

-- it is new
pub put_first : (old new : Entries) (key : List Value) (one : Vec (Bor (List Value))) (row : Bor (List Value))
    → lookup (is_at (row_cmp key)) old ≡ None
    → ((q : List Value) → lookup (is_at (row_cmp q)) new ≡ cond (is_at (row_cmp key) q) (Some one) (lookup (is_at (row_cmp q)) old)) → one.items ≡ row ∷ []
    → (k : List Value) → rows_under new k ≡ rows_under old k ++ (if is_at (row_cmp key) k then row.now ∷ [] else [])
put_first old new key one row was put is = put_under old new key one row.now put (ap shown is ∙ ap (λ found. rows_in found ++ row.now ∷ []) (sym was))

-- ---- one more row of the relation

pub row_put : (marks : List Bool) (old new : Entries) (key row : List Value) (rest all : List (List Value)) → key ≡ key_of marks row
    → ((k : List Value) → rows_under old k ++ filter (has_key marks k) (row ∷ rest) ≡ filter (has_key marks k) all)
    → ((k : List Value) → rows_under new k ≡ rows_under old k ++ (if is_at (row_cmp key) k then row ∷ [] else []))
    → (k : List Value) → rows_under new k ++ filter (has_key marks k) rest ≡ filter (has_key marks k) all
row_put marks old new key row rest all is before put k =
    ap (λ front. front ++ filter (has_key marks k) rest) (put k ∙ ap (λ q. rows_under old k ++ (if is_at (row_cmp q) k then row ∷ [] else [])) is)
    ∙ between (rows_under old k) (has_key marks k row) row (filter (has_key marks k) rest)
    ∙ before k

-- ---- one more spot

exact_bools : IsAntisymmetric bool_cmp
exact_bools false false e = refl
exact_bools true true e = refl
exact_bools x y e = cc

-- spots that tie are of the same relation, by the same marks
module _ (db : List (List (List Value))) where
  same_spot : (a b : Spot) (kept : Option (BTreeMap (List Value) (Vec (Bor (List Value))))) → is_at (spot_cmp a) b ≡ true → IsKept db a kept → IsKept db b kept
  same_spot a b kept e is =
      let both : (a.0, a.1.items) ≡ (b.0, b.1.items) =
      exact_pairs nat_cmp (slice_cmp bool_cmp) nat_cmp-IsAntisymmetric (slice_cmp-IsAntisymmetric exact_bools) (a.0, a.1.items) (b.0, b.1.items) ((Equal-is (spot_cmp a b)).0 e) in
      subst (λ (s : ℕ × List Bool). IfSome kept (λ index. IsIndex (slice_index_or db s.0 []) s.1 index.entries)) both is

  pub kept_put : (old new : List (Spot × Option (BTreeMap (List Value) (Vec (Bor (List Value)))))) (spot : Spot) (kept : Option (BTreeMap (List Value) (Vec (Bor (List Value)))))
      → ((q : Spot) → lookup (is_at (spot_cmp q)) new ≡ cond (is_at (spot_cmp spot) q) (Some kept) (lookup (is_at (spot_cmp q)) old))
      → IsKept db spot kept → AreKept db old → AreKept db new
  kept_put old new spot kept put is before q = subst (λ found. IfSome found (IsKept db q)) (sym (put q)) (here (is_at (spot_cmp spot) q) refl)
    where
      here : (b : Bool) → is_at (spot_cmp spot) q ≡ b → IfSome (cond b (Some kept) (lookup (is_at (spot_cmp q)) old)) (IsKept db q)
      here true e = same_spot spot q kept e is
      here false e = before q

  -- what is made of the rows of the relation there
  pub kept_made : (spot : Spot) (kept : Option (BTreeMap (List Value) (Vec (Bor (List Value))))) (rows : List (List Value)) (marks : List Bool)
      → IfSome kept (λ index. IsIndex rows marks index.entries) → rows ≡ slice_index_or db spot.0 [] → marks ≡ spot.1.items → IsKept db spot kept
  kept_made spot kept rows marks made of by =
      subst (λ rs. IfSome kept (λ index. IsIndex rs spot.1.items index.entries)) of (subst (λ ms. IfSome kept (λ index. IsIndex rows ms index.entries)) by made)

  pub kept_found : (entries : List (Spot × Option (BTreeMap (List Value) (Vec (Bor (List Value)))))) (spot : Spot) (index : BTreeMap (List Value) (Vec (Bor (List Value))))
      → AreKept db entries → lookup (is_at (spot_cmp spot)) entries ≡ Some (Some index) → IsIndex (slice_index_or db spot.0 []) spot.1.items index.entries
  kept_found entries spot index kept e = subst (λ found. IfSome found (IsKept db spot)) e (kept spot)
