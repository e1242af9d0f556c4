-- Rows of values and their cells, one value at a time.
use Rattle.std.proofs.Common.{arith, ◌≡◌, ◌+◌, ◌<◌, ◌++◌, ℕ, List, [], ◌∷◌, length, map, take, drop, get_or, Some, None, Option, refl, sym, ap, subst, zero, suc, ◌∙◌, inl, inr}
use Rattle.std.proofs.lemmas.Grind.{common_steps}
use Rattle.std.specs.Option.{option_map, option_and_then, unwrap_or}
use Rattle.dbn_value.specs.Coding.{Extends, Decodes, cells_of}
use Rattle.dbn_value.specs.Members.{In}
use Rattle.dbn_value.specs.declared.value.Value.{Value}

abbrev pub joined : {C : Type 0} → Option C → Option (List C) → Option (List C)
joined a b = option_and_then (λ c. option_map (λ cells. c ∷ cells) b) a

pub joined_parts : {C : Type 0} (a : Option C) (b : Option (List C)) (cs : List C) → joined a b ≡ Some cs → (c : C) × (ds : List C) × (a ≡ Some c) × (b ≡ Some ds) × (Some cs ≡ Some (c ∷ ds))
joined_parts (Some c) (Some ds) cs e = (c, ds, refl, refl, sym e)
joined_parts (Some c) None cs e = cc
joined_parts None b cs e = cc

pub joined_is : {C : Type 0} (a : Option C) (b : Option (List C)) (c : C) (ds : List C) → a ≡ Some c → b ≡ Some ds → joined a b ≡ Some (c ∷ ds)
joined_is a b c ds p q = ap (λ x. joined x b) p ∙ ap (λ y. joined (Some c) y) q

joined_none : {C : Type 0} (a : Option C) → joined a None ≡ None
joined_none (Some c) = refl
joined_none None = refl

-- a row keeps its cells while the coder grows
pub cells_extend : {C : Type 0} (f g : Value → Option C) (row : List Value) (cs : List C) → Extends f g → cells_of f row ≡ Some cs → cells_of g row ≡ Some cs
cells_extend f g [] cs ext e = e
cells_extend f g (v ∷ row) cs ext e =
    let parts = joined_parts (f v) (cells_of f row) cs e in
    joined_is (g v) (cells_of g row) parts.0 parts.1 (ext v parts.0 parts.2) (cells_extend f g row parts.1 ext parts.3) ∙ sym parts.4

-- one value behind the row
pub cells_append : {C : Type 0} (g : Value → Option C) (row : List Value) (cs : List C) (v : Value) (c : C) → cells_of g row ≡ Some cs → g v ≡ Some c → cells_of g (row ++ v ∷ []) ≡ Some (cs ++ c ∷ [])
cells_append g [] cs v c e p = joined_is (g v) (Some []) c [] p refl ∙ ap (option_map (λ ds. ds ++ c ∷ [])) e
cells_append g (w ∷ row) cs v c e p =
    let parts = joined_parts (g w) (cells_of g row) cs e in
    joined_is (g w) (cells_of g (row ++ v ∷ [])) parts.0 (parts.1 ++ c ∷ []) parts.2 (cells_append g row parts.1 v c parts.3 p) ∙ ap (option_map (λ ds. ds ++ c ∷ [])) (sym parts.4)

-- a row with a value that has no cell
pub cells_missing : {C : Type 0} (g : Value → Option C) (row : List Value) (v : Value) (rest : List Value) → g v ≡ None → cells_of g (row ++ v ∷ rest) ≡ None
cells_missing g [] v rest p = ap (λ x. joined x (cells_of g rest)) p
cells_missing g (w ∷ row) v rest p = ap (joined (g w)) (cells_missing g row v rest p) ∙ joined_none (g w)

-- each cell of a row is the cell of a value
pub cell_at : {C : Type 0} (g : Value → Option C) (values : List Value) (cells : List C) (i : ℕ) (x : C) → cells_of g values ≡ Some cells → i < length cells → x ≡ get_or cells i x → (v : Value) × (g v ≡ Some x)
cell_at g [] cells i x e l at = absurd (omega (arith, l, ap (λ o. length (unwrap_or o [])) e))
cell_at g (v ∷ values) cells i x e l at =
    let parts = joined_parts (g v) (cells_of g values) cells e in
    let both : cells ≡ parts.0 ∷ parts.1 = ap (λ o. unwrap_or o []) parts.4 in
    at_or_behind g v values parts.0 parts.1 i x parts.2 (λ j m is. cell_at g values parts.1 j x parts.3 m is) (subst (λ ds. i < length ds) both l) (subst (λ ds. x ≡ get_or ds i x) both at)
  where
    at_or_behind : {C : Type 0} (g : Value → Option C) (v : Value) (values : List Value) (c : C) (ds : List C) (i : ℕ) (x : C) → g v ≡ Some c → ((j : ℕ) → j < length ds → x ≡ get_or ds j x → (w : Value) × (g w ≡ Some x)) → i < length (c ∷ ds) → x ≡ get_or (c ∷ ds) i x → (w : Value) × (g w ≡ Some x)
    at_or_behind g v values c ds zero x p behind l at = (v, p ∙ ap Some (sym at))
    at_or_behind g v values c ds (suc i) x p behind l at = behind i (omega (arith, l)) at

-- the values of the cells of a row are the row
pub cells_decoded : {C : Type 0} (g : Value → Option C) (back : C → Value) (row : List Value) (cs : List C) → Decodes g back → cells_of g row ≡ Some cs → map back cs ≡ row
cells_decoded g back [] cs d e = ap (λ o. map back (unwrap_or o [])) (sym e)
cells_decoded g back (v ∷ row) cs d e =
    let parts = joined_parts (g v) (cells_of g row) cs e in
    ap (λ o. map back (unwrap_or o [])) parts.4
    ∙ ap (λ w. w ∷ map back parts.1) (d v parts.0 parts.2)
    ∙ ap (λ rest. v ∷ rest) (cells_decoded g back row parts.1 d parts.3)
