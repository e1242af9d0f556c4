-- Where a loop over the pieces of a text stands that is being written.
use Rattle.std.proofs.Common.{◌≡◌, ℕ, ◌<◌, List, [], ◌++◌, length, take, drop, Option, refl, sym, ap, ◌∙◌, append_assoc, take-append-drop}
use Rattle.std.specs.Io.KnownBytes.{Appends, Keeps}
use Rattle.std.proofs.KnownBytes.{Appends-nil, Appends-trans, Appends-kept}
use Rattle.dbn_model.specs.Content.{AppendsPart}

-- of all bytes those before the rest were written
pub record Written (old now : Option (List ℕ)) (all rest : List ℕ) : Type 0 where
  pub front : List ℕ
  pub split : all ≡ front ++ rest
  pub appended : Appends old now front

-- nothing is written yet
pub written-nothing : (old : Option (List ℕ)) (all : List ℕ) → Written old old all all
written-nothing old all = record { front = []; split = refl; appended = Appends-nil old }

-- the first bytes of the rest are written too
pub written-more : (old mid now : Option (List ℕ)) (all rest : List ℕ) (n : ℕ) → Written old mid all rest → Appends mid now (take n rest) → Written old now all (drop n rest)
written-more old mid now all rest n so_far more = record {
  front = so_far.front ++ take n rest;
  split = so_far.split ∙ ap (λ l. so_far.front ++ l) (sym (take-append-drop n rest)) ∙ sym (append_assoc so_far.front (take n rest) (drop n rest));
  appended = Appends-trans old mid now so_far.front (take n rest) so_far.appended more;
}

-- an error that comes where something is left leaves a proper front
pub written-part : (old mid now : Option (List ℕ)) (all rest : List ℕ) → Written old mid all rest → 0 < length rest → Keeps mid now → AppendsPart old now all
written-part old mid now all rest so_far some kept =
    (so_far.front, rest, so_far.split, some, Appends-kept old mid now so_far.front so_far.appended kept)
