-- The lines of a group, one member after the other.
use Rattle.std.proofs.Common.{◌≡◌, ◌⊎◌, inl, inr, Bool, List, [], ◌∷◌, ◌++◌, length, ℕ, ◌+◌, refl, sym, ap, ◌∙◌, arith, append-nil, append_assoc}
use Rattle.dbn_value.specs.declared.member.Member.{Member}
use Rattle.dbn_core.specs.declared.outcome.Fired.{Fired}
use Rattle.dbn_command.specs.declared.reply.GroupLine.{GroupLine}
use Rattle.dbn_engine.specs.Steps.{is_committed, group_lines}

no_more : (count : ℕ) (members : List Member) (all : List Fired) → (length members ≡ 0) ⊎ (length all ≡ 0) → group_lines count members all ≡ []
no_more count [] all ended = refl
no_more count (m ∷ members) [] ended = refl
no_more count (m ∷ members) (f ∷ all) (inl e) = absurd (omega (arith, e))
no_more count (m ∷ members) (f ∷ all) (inr e) = absurd (omega (arith, e))

-- one of the two lists is at its end
pub lines_done : (lines whole : List GroupLine) (count : ℕ) (members : List Member) (all : List Fired) → (length members ≡ 0) ⊎ (length all ≡ 0) → lines ++ group_lines count members all ≡ whole → lines ≡ whole
lines_done lines whole count members all ended so_far = sym (append-nil lines) ∙ ap (λ (l : List GroupLine). lines ++ l) (sym (no_more count members all ended)) ∙ so_far

-- one more line
pub lines_more : (lines whole : List GroupLine) (count : ℕ) (members rest : List Member) (all others : List Fired) (m : Member) (f : Fired) (committed : Bool) → committed ≡ is_committed f.outcome → members ≡ m ∷ rest → all ≡ f ∷ others
    → lines ++ group_lines count members all ≡ whole
    → (lines ++ record { committed = committed; t = m.t; fired = count + 1; first = f.first } ∷ []) ++ group_lines (count + 1) rest others ≡ whole
lines_more lines whole count members rest all others m f committed same is are so_far =
    append_assoc lines (record { committed = committed; t = m.t; fired = count + 1; first = f.first } ∷ []) (group_lines (count + 1) rest others)
    ∙ ap (λ (b : Bool). lines ++ record { committed = b; t = m.t; fired = count + 1; first = f.first } ∷ group_lines (count + 1) rest others) same
    ∙ ap (λ (l : List Fired). lines ++ group_lines count (m ∷ rest) l) (sym are) ∙ ap (λ (l : List Member). lines ++ group_lines count l all) (sym is) ∙ so_far
