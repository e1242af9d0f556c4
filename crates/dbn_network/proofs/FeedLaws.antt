-- One event of a feed in its table.
use Rattle.std.proofs.Common.{◌≡◌, ◌<◌, ◌+◌, ℕ, zero, suc, ◌⊎◌, inl, inr, true, false, cond, List, [], ◌∷◌, ◌++◌, refl, ap, sym, ◌∙◌, subst, length, take, get_or, map, nat_lt, Some, arith}
use Rattle.std.proofs.lemmas.Bool.{true≢false}
use Rattle.std.specs.Prelude.{slice_set}
use Rattle.std.specs.declared.cmp.Ordering.{Ordering}
use Rattle.std.specs.Ordering.{eq_by_cmp}
use Rattle.std.specs.Option.{unwrap_or}
use Rattle.std.specs.Cmp.{IsTotalOrder}
use Rattle.std.specs.Cmp.Lexicographic.{slice_cmp, lists_total}
use Rattle.std.specs.FinMap.{IsAntisymmetric}
use Rattle.std.specs.Map.{lookup, keys_of}
use Rattle.std.specs.BTreeMap.{is_at}
use Rattle.std.specs.BTreeSet.{insert_key}
use Rattle.std.specs.Set.{remove_key}
use Rattle.std.specs.List.{filter}
use Rattle.std.specs.List.Sorted.{IsStrictlySortedBy}
use Rattle.std.proofs.lemmas.List.{length-map, append_assoc, map-append, map-set}
use Rattle.dbn_value.specs.Members.{In}
use Rattle.dbn_value.specs.declared.value.ColType.{ColType}
use Rattle.dbn_value.proofs.ListLaws.{take_more}
use Rattle.dbn_value.proofs.MemberLaws.{in_filter, filter_in}
use Rattle.dbn_value.proofs.AscendingLaws.{in_ascending, ascending_in, sorted_ascending, sorted_nil, same_members}
use Rattle.dbn_nodes.specs.declared.event.Event.{Event}
use Rattle.dbn_nodes.specs.declared.event.Event.TheVariants as event
use Rattle.dbn_nodes.specs.Tables.{shelf_count, shelf_at, count_at}
use Rattle.dbn_nodes.specs.Changes.{Leads}
use Rattle.dbn_nodes.specs.Stands.{IsPlain}
use Rattle.dbn_nodes.proofs.ChangeLaws.{rows_exact, row_in_rows, in_row, same_row}
use Rattle.dbn_nodes.proofs.NodeLaws.{plain_has}
use Rattle.dbn_instance.specs.Facts.{changed, Fits as FitsNow}
use Rattle.dbn_network.specs.Values.{rows_at}
use Rattle.dbn_network.specs.States.{change_at}
use Rattle.dbn_network.specs.Holding.{held_rows, feeds_of, IsNetwork}

abbrev pub Table : Type 0 → Type 0
Table C = List (List C × List (List C × ℕ))

-- the rows after an event
abbrev pub after : {C : Type 0} → (C → C → Ordering) → List (List C) → Event C → List (List C)
after R s (event.Plus row) = insert_key (slice_cmp R) s row
after R s (event.Minus row) = remove_key (is_at (slice_cmp R row)) s

module _ {C : Type 0} {R : C → C → Ordering} (o : IsTotalOrder R) (exact : IsAntisymmetric R) where
  counted_key : (shelf : List (List C × ℕ)) (row : List C) → nat_lt 0 (shelf_count (slice_cmp R) shelf row) ≡ true → In row (keys_of shelf)
  counted_key [] row e = absurd (true≢false (sym e))
  counted_key (x ∷ shelf) row e =
      elim (eq_by_cmp (slice_cmp R) row x.0) as (λ b. eq_by_cmp (slice_cmp R) row x.0 ≡ b → nat_lt 0 (unwrap_or (cond b (Some x.1) (lookup (is_at (slice_cmp R row)) shelf)) 0) ≡ true → (row ≡ x.0) ⊎ In row (keys_of shelf))
      [ true ↦ λ is h. inl (same_row o exact row x.0 is) | false ↦ λ is h. inr (counted_key shelf row h) ] refl e

  -- the rows of a table are those that it stands for
  pub held_is : (table : Table C) (s : List (List C)) → IsPlain R table s → IsStrictlySortedBy (slice_cmp R) s → held_rows R table ≡ s
  held_is table s plain sorted =
      same_members (lists_total o) (held_rows R table) s (sorted_ascending (lists_total o) (filter (λ row. nat_lt 0 (count_at (slice_cmp R) table [] row)) (keys_of (shelf_at (slice_cmp R) table [])))) sorted
      (λ q at.
      let found = in_filter (λ row. nat_lt 0 (count_at (slice_cmp R) table [] row)) q (keys_of (shelf_at (slice_cmp R) table [])) (in_ascending (slice_cmp R) q _ at) in
      row_in_rows o exact q s (sym (plain_has o exact table s q plain) ∙ found.1))
      (λ q at.
      let counted : nat_lt 0 (count_at (slice_cmp R) table [] q) ≡ true = plain_has o exact table s q plain ∙ in_row o exact q s at in
      ascending_in (lists_total o) (rows_exact o exact) q _ (filter_in (λ row. nat_lt 0 (count_at (slice_cmp R) table [] row)) q (keys_of (shelf_at (slice_cmp R) table [])) (counted_key (shelf_at (slice_cmp R) table []) q counted) counted))

  pub held_sorted : (table : Table C) → IsStrictlySortedBy (slice_cmp R) (held_rows R table)
  held_sorted table = sorted_ascending (lists_total o) (filter (λ row. nat_lt 0 (count_at (slice_cmp R) table [] row)) (keys_of (shelf_at (slice_cmp R) table [])))

  pub feed_sorted : (tables : List (Table C)) (k : ℕ) → IsStrictlySortedBy (slice_cmp R) (rows_at (feeds_of R tables) k)
  feed_sorted [] k = sorted_nil (slice_cmp R)
  feed_sorted (table ∷ tables) zero = held_sorted table
  feed_sorted (table ∷ tables) (suc k) = feed_sorted tables k

  pub fits_leads : (f : List (List (List C))) (feed : ℕ) (e : Event C) → FitsNow R f (change_at feed e) → Leads R (rows_at f feed) (e ∷ []) (after R (rows_at f feed) e)
  fits_leads f feed (event.Plus row) fits = (fits, refl)
  fits_leads f feed (event.Minus row) fits = (fits, refl)

  pub changed_is : (f : List (List (List C))) (feed : ℕ) (e : Event C) → changed R f (change_at feed e) ≡ slice_set f feed (after R (rows_at f feed) e)
  changed_is f feed (event.Plus row) = refl
  changed_is f feed (event.Minus row) = refl

  map_set : (tables : List (Table C)) (feed : ℕ) (table : Table C) → feeds_of R (slice_set tables feed table) ≡ slice_set (feeds_of R tables) feed (held_rows R table)
  map_set tables feed table = map-set (held_rows R) tables feed table

  -- the table of the feed after the event
  pub record Noted (tables : List (Table C)) (feed : ℕ) (e : Event C) (table : Table C) : Type 0 where
    pub plain : IsPlain R table (after R (rows_at (feeds_of R tables) feed) e)
    pub rows : held_rows R table ≡ after R (rows_at (feeds_of R tables) feed) e
    pub feeds : feeds_of R (slice_set tables feed table) ≡ changed R (feeds_of R tables) (change_at feed e)

  pub noted : (tables : List (Table C)) (feed : ℕ) (e : Event C) (table : Table C) → IsPlain R table (after R (rows_at (feeds_of R tables) feed) e) → IsStrictlySortedBy (slice_cmp R) (after R (rows_at (feeds_of R tables) feed) e)
      → Noted tables feed e table
  noted tables feed e table plain sorted =
      let rows : held_rows R table ≡ after R (rows_at (feeds_of R tables) feed) e = held_is table (after R (rows_at (feeds_of R tables) feed) e) plain sorted in
      record {
        plain = plain;
        rows = rows;
        feeds = map_set tables feed table ∙ ap (slice_set (feeds_of R tables) feed) rows ∙ sym (changed_is (feeds_of R tables) feed e);
      }

-- one thing more for one element more
pub things_more : {A B : Type 0} (b : B) (xs : List A) (i : ℕ) (x : A) (begin was new : List B) → i < length xs → x ≡ get_or xs i x → was ≡ begin ++ map (λ y. b) (take i xs) → new ≡ was ++ b ∷ [] → new ≡ begin ++ map (λ y. b) (take (i + 1) xs)
things_more b xs i x begin was new within is before made =
    made ∙ ap (λ ys. ys ++ b ∷ []) before ∙ append_assoc begin (map (λ y. b) (take i xs)) (b ∷ [])
    ∙ ap (λ ys. begin ++ ys) (sym (ap (map (λ y. b)) (take_more xs i x within is) ∙ map-append (λ y. b) (take i xs) (x ∷ [])))

pub same_at : {A B : Type 0} (b : B) (xs : List A) (k : ℕ) → get_or (map (λ x. b) xs) k b ≡ b
same_at b [] k = refl
same_at b (x ∷ xs) zero = refl
same_at b (x ∷ xs) (suc k) = same_at b xs k

module _ {C : Type 0} (R : C → C → Ordering) where
  pub no_rows : {A : Type 0} (xs : List A) → feeds_of R (map (λ x. []) xs) ≡ map (λ x. []) xs
  no_rows [] = refl
  no_rows (x ∷ xs) = ap (λ f. [] ∷ f) (no_rows xs)

  -- the network without nodes, over feeds without rows
  pub no_nodes : (shapes : List (List ColType)) → IsNetwork R shapes [] (map (λ shape. []) shapes)
  no_nodes shapes = record {
    size = length-map shapes (λ shape. []);
    fed = λ k. subst (λ f. IsPlain R (get_or (map (λ shape. []) shapes) k []) (rows_at f k)) (sym (no_rows shapes))
        (subst (λ t. IsPlain R t (rows_at (map (λ shape. []) shapes) k)) (sym (same_at [] shapes k)) (subst (λ rows. IsPlain R [] rows) (sym (same_at [] shapes k)) (λ key row. refl)));
    shaped = λ k row at. absurd (subst (λ rows. In row rows) (ap (λ f. rows_at f k) (no_rows shapes) ∙ same_at [] shapes k) at);
    placed = λ i d h. absurd (omega arith);
    read = λ i d h. absurd (omega arith);
    stand = λ i d h. absurd (omega arith);
  }
