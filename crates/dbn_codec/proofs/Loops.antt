-- Reading parts one after the other, as a loop does.
use Rattle.std.proofs.Common.{◌≡◌, ℕ, suc, ◌-◌, ◌+◌, ◌≤◌, ◌<◌, List, [], ◌∷◌, ◌++◌, length, get_or, drop, Option, Some, None, refl, sym, ap, ◌∙◌, append_assoc, arith}
use Rattle.std.proofs.lemmas.List.{append-nil, drop_more}
use Rattle.std.proofs.Math.ListN.{drop_of_length-le}
use Rattle.dbn_value.specs.declared.value.ColType.{ColType}
use Rattle.dbn_value.specs.declared.value.Value.{Value}
use Rattle.dbn_value.specs.declared.member.Member.{Member}
use Rattle.dbn_codec.specs.declared.unread.Unread.{Unread}
use Rattle.dbn_codec.specs.declared.unread.Unread.TheVariants.{NoBody, Memory}
use Rattle.dbn_codec.specs.Bodies.{Shapes}
use Rattle.dbn_codec.specs.Reading.{◌>>=◌, Fails, value_at, row_at, member_at, members_at}

-- what was read before, and what is still read
abbrev pub with_front : {A : Type 0} → List A → Option (List A × List ℕ) → Option (List A × List ℕ)
with_front front read = read >>= λ x. Some (front ++ x.0, x.1)

pub nothing_before : {A : Type 0} (read : Option (List A × List ℕ)) → with_front [] read ≡ read
nothing_before (Some x) = refl
nothing_before None = refl

one_more : {A : Type 0} (front : List A) (x : A) (read : Option (List A × List ℕ)) → with_front front (read >>= λ y. Some (x ∷ y.0, y.1)) ≡ with_front (front ++ x ∷ []) read
one_more front x (Some y) = ap (λ (xs : List _). Some (xs, y.1)) (simp append_assoc)
one_more front x None = refl

pub at_end : {A : Type 0} (front : List A) (bytes : List ℕ) (all : Option (List A × List ℕ)) → with_front front (Some ([], bytes)) ≡ all → all ≡ Some (front, bytes)
at_end {A} front bytes all e = sym e ∙ ap (λ (xs : List A). Some (xs, bytes)) (append-nil front)

-- ---- a row

pub row_more : (front : List Value) (shape : List ColType) (i : ℕ) (d : ColType) (bytes : List ℕ) (v : Value) (after : List ℕ) (all : Option (List Value × List ℕ)) → i < length shape → value_at (get_or shape i d) bytes ≡ Some (v, after)
    → with_front front (row_at (drop i shape) bytes) ≡ all → with_front (front ++ v ∷ []) (row_at (drop (i + 1) shape) after) ≡ all
unfolding row_at
row_more front shape i d bytes v after all lt h so_far =
    let step : with_front front (row_at (drop i shape) bytes) ≡ with_front (front ++ v ∷ []) (row_at (drop (i + 1) shape) after) = rw (drop_more shape i d lt, h) (one_more front v (row_at (drop (i + 1) shape) after)) in
    sym step ∙ so_far

pub row_stops : (e : Unread) (front : List Value) (shape : List ColType) (i : ℕ) (d : ColType) (bytes : List ℕ) (all : Option (List Value × List ℕ)) → i < length shape → Fails e (value_at (get_or shape i d) bytes)
    → with_front front (row_at (drop i shape) bytes) ≡ all → Fails e all
unfolding row_at
row_stops Memory front shape i d bytes all lt h so_far = tt
row_stops NoBody front shape i d bytes all lt h so_far =
    let step : with_front front (row_at (drop i shape) bytes) ≡ None = rw (drop_more shape i d lt, h) refl in
    sym so_far ∙ step

pub row_done : (front : List Value) (shape : List ColType) (i : ℕ) (bytes : List ℕ) (all : Option (List Value × List ℕ)) → length shape ≤ i → with_front front (row_at (drop i shape) bytes) ≡ all → all ≡ Some (front, bytes)
unfolding row_at
row_done front shape i bytes all le so_far =
    let none : drop i shape ≡ [] = drop_of_length-le shape le in
    at_end front bytes all (ap (λ (s : List ColType). with_front front (row_at s bytes)) (sym none) ∙ so_far)

-- ---- the members of a group

pub members_more : (front : List Member) (shapes : Shapes) (count i : ℕ) (bytes : List ℕ) (m : Member) (after : List ℕ) (all : Option (List Member × List ℕ)) → i < count → member_at shapes bytes ≡ Some (m, after)
    → with_front front (members_at (count - i) shapes bytes) ≡ all → with_front (front ++ m ∷ []) (members_at (count - (i + 1)) shapes after) ≡ all
unfolding members_at
members_more front shapes count i bytes m after all lt h so_far =
    let k : count - i ≡ suc (count - (i + 1)) = omega arith in
    let step : with_front front (members_at (count - i) shapes bytes) ≡ with_front (front ++ m ∷ []) (members_at (count - (i + 1)) shapes after) = rw (k, h) (one_more front m (members_at (count - (i + 1)) shapes after)) in
    sym step ∙ so_far

pub members_stop : (e : Unread) (front : List Member) (shapes : Shapes) (count i : ℕ) (bytes : List ℕ) (all : Option (List Member × List ℕ)) → i < count → Fails e (member_at shapes bytes)
    → with_front front (members_at (count - i) shapes bytes) ≡ all → Fails e all
unfolding members_at
members_stop Memory front shapes count i bytes all lt h so_far = tt
members_stop NoBody front shapes count i bytes all lt h so_far =
    let k : count - i ≡ suc (count - (i + 1)) = omega arith in
    let step : with_front front (members_at (count - i) shapes bytes) ≡ None = rw (k, h) refl in
    sym so_far ∙ step

pub members_done : (front : List Member) (shapes : Shapes) (count i : ℕ) (bytes : List ℕ) (all : Option (List Member × List ℕ)) → count ≤ i → with_front front (members_at (count - i) shapes bytes) ≡ all → all ≡ Some (front, bytes)
unfolding members_at
members_done front shapes count i bytes all le so_far =
    let k : count - i ≡ 0 = omega arith in
    at_end front bytes all (ap (λ (n : ℕ). with_front front (members_at n shapes bytes)) (sym k) ∙ so_far)
