-- The sentences of the foreign keys of a net, in words of rows.
use Rattle.std.proofs.Common.{◌≡◌, ℕ, ◌<◌, zero, suc, true, List, [], ◌∷◌, ◌++◌, map, refl, sym, ap, ◌∙◌, subst, inl, Some, length}
use Rattle.std.specs.Prelude.{nat_lt, slice_index_or, ◌↔◌}
use Rattle.std.proofs.lemmas.Bool.{and_parts, eqb-true, ltb-true, lt-ltb, true≢false}
use Rattle.std.proofs.lemmas.List.{length-map}
use Rattle.dbn_value.specs.Members.{In}
use Rattle.dbn_value.proofs.MemberLaws.{all_at, map_in, append_right}
use Rattle.dbn_formula.specs.Holds.{Instance}
use Rattle.dbn_formula.specs.Answers.{holds}
use Rattle.dbn_formula.specs.Solutions.{HasShapes}
use Rattle.dbn_net.specs.declared.decl.Decl.{Decl}
use Rattle.dbn_net.specs.declared.decl.Decl.TheVariants.{Foreign}
use Rattle.dbn_net.specs.declared.decl.Entry.TheVariants.{Part}
use Rattle.dbn_net.specs.Maybe.{each}
use Rattle.dbn_net.specs.Forms.{Name}
use Rattle.dbn_net.specs.Tables.{Table, relations, relation_names, field_names, relation_shape, relation_shapes, columns}
use Rattle.dbn_net.specs.Naming.{number_of, name_at, fields_of, resolved_foreign}
use Rattle.dbn_net.specs.Judging.{is_new, once_behind, once}
use Rattle.dbn_net.specs.Sentences.{foreign_sentence}
use Rattle.dbn_net.specs.Keys.{IsForeignKey}
use Rattle.dbn_net.specs.WellFormed.{Passes, WellFormed}
use Rattle.dbn_net.proofs.Maybes.{some_is, first_found, mapped_found}
use Rattle.dbn_net.proofs.Listed.{each_all}
use Rattle.dbn_net.proofs.NamedLaws.{number_within}
use Rattle.dbn_net.proofs.Scoped.{later_new, itself}
use Rattle.dbn_net.proofs.LiftLaws.{stood, judged_there, relations_kept}
use Rattle.dbn_net.proofs.AddLaws.{foreign_known, foreign_from, foreign_to}
use Rattle.dbn_net.proofs.ForeignLaws.{Apart, foreign_out, foreign_in}

foreign_fields : (n m k l : ℕ) (fs gs hs ks : List ℕ) → Part (Foreign n fs m gs) ≡ Part (Foreign k hs l ks) → fs ≡ hs
foreign_fields n m k l fs gs hs ks e = cc

foreign_others : (n m k l : ℕ) (fs gs hs ks : List ℕ) → Part (Foreign n fs m gs) ≡ Part (Foreign k hs l ks) → gs ≡ ks
foreign_others n m k l fs gs hs ks e = cc

each_within : (names all : List Name) (ns : List ℕ) → each (number_of names) all ≡ Some ns → (n : ℕ) → In n ns → n < length names
each_within names all ns e n at =
    ltb-true n (length names)
    (all_at (λ k. nat_lt k (length names)) n ns
    (each_all (number_of names) (λ k. nat_lt k (length names)) (λ x k is. lt-ltb k (length names) (number_within names x k is)) all ns e) at)

fields_long : (rels : List Table) (n : ℕ) → length (slice_index_or (map (λ r. map (λ f. f.0) r.fields) rels) n []) ≡ length (slice_index_or (map relation_shape rels) n [])
fields_long [] n = refl
fields_long (r ∷ rels) zero = length-map r.fields (λ f. f.0) ∙ sym (length-map r.fields (λ f. f.1))
fields_long (r ∷ rels) (suc n) = fields_long rels n

-- numbers whose names stand once are apart
apart_names : (h : ℕ → Name) (seen : List Name) (gs : List ℕ) → once_behind seen (map h gs) ≡ true → Apart gs
apart_names h seen [] e = tt
apart_names h seen (g ∷ gs) e =
    let parts = and_parts (is_new seen (h g)) (once_behind (seen ++ h g ∷ []) (map h gs)) e in (
      λ at. true≢false (sym (itself (h g)) ∙ later_new (map h gs) (seen ++ h g ∷ []) (h g) (h g) parts.1 (append_right (h g) seen (h g ∷ []) (inl refl)) (map_in h g gs at)),
      apart_names h (seen ++ h g ∷ []) gs parts.1,
    )

-- the columns of a foreign key that passes
record Sides (net : List Decl) (rel : ℕ) (fields : List ℕ) (to : ℕ) (to_fields : List ℕ) : Type 0 where
  long : length fields ≡ length to_fields
  apart : Apart to_fields
  within : (f : ℕ) → In f fields → f < length (columns (relation_shapes net) rel)
  to_within : (g : ℕ) → In g to_fields → g < length (columns (relation_shapes net) to)

sides : (net : List Decl) (rel : ℕ) (fields : List ℕ) (to : ℕ) (to_fields : List ℕ) → Passes net (Foreign rel fields to to_fields) → Sides net rel fields to to_fields
sides net rel fields to to_fields p =
    let d : Decl = Foreign rel fields to to_fields in
    let name : Name = name_at (relation_names net) rel in
    let names : List Name = map (name_at (field_names net rel)) fields in
    let to_name : Name = name_at (relation_names net) to in
    let to_names : List Name = map (name_at (field_names net to)) to_fields in
    let j = judged_there net d p in
    let (x, is, made) = mapped_found Part (resolved_foreign net name names to_name to_names) (Part d) j.is in
    let (n, a, e1) = first_found (number_of (relation_names net) name) _ x is in
    let (fs, b, e2) = first_found (fields_of net n names) _ x e1 in
    let (m, c, e3) = first_found (number_of (relation_names net) to_name) _ x e2 in
    let (gs, f, e4) = first_found (fields_of net m to_names) (λ hs. Some (Foreign n fs m hs)) x e3 in
    let same : Part (Foreign n fs m gs) ≡ Part d = ap Part (some_is (Foreign n fs m gs) x e4) ∙ made in
    let fields_are : fs ≡ fields = foreign_fields n m rel to fs gs fields to_fields same in
    let others_are : gs ≡ to_fields = foreign_others n m rel to fs gs fields to_fields same in
    let from_is : n ≡ rel = foreign_from n m rel to fs gs fields to_fields same in
    let to_is : m ≡ to = foreign_to n m rel to fs gs fields to_fields same in
    record {
      long = eqb-true (length fields) (length to_fields) j.passed.arity;
      apart = apart_names (name_at (field_names net to)) [] to_fields (and_parts (once names) (once to_names) j.once).1;
      within = λ k at. subst (λ l. k < l) (fields_long (relations net) rel)
          (subst (λ r. k < length (field_names net r)) from_is (each_within (field_names net n) names fs b k (subst (λ l. In k l) (sym fields_are) at)));
      to_within = λ k at. subst (λ l. k < l) (fields_long (relations net) to)
          (subst (λ r. k < length (field_names net r)) to_is (each_within (field_names net m) to_names gs f k (subst (λ l. In k l) (sym others_are) at)));
    }

-- the sentence of a foreign key of the net holds exactly where its columns are one
pub foreign_says : (net : List Decl) (rel : ℕ) (fields : List ℕ) (to : ℕ) (to_fields : List ℕ) (db : Instance) → WellFormed net → In (Foreign rel fields to to_fields) net → HasShapes (relation_shapes net) db
    → (holds (foreign_sentence (columns (relation_shapes net) rel) (columns (relation_shapes net) to) rel fields to to_fields) db [] ≡ true) ↔ IsForeignKey db rel fields to to_fields
foreign_says net rel fields to to_fields db ok at fits =
    let d : Decl = Foreign rel fields to to_fields in
    let s = stood [] net d ok at in
    let known = foreign_known s.front rel to fields to_fields s.passes in
    let there = sides s.front rel fields to to_fields s.passes in
    let from_kept : columns (relation_shapes net) rel ≡ columns (relation_shapes s.front) rel = ap (λ ds. columns (relation_shapes ds) rel) s.is ∙ relations_kept s.front (d ∷ s.rest) rel known.0 in
    let to_kept : columns (relation_shapes net) to ≡ columns (relation_shapes s.front) to = ap (λ ds. columns (relation_shapes ds) to) s.is ∙ relations_kept s.front (d ∷ s.rest) to known.1 in (
      foreign_out (relation_shapes net) rel fields to to_fields db fits there.long there.apart
          (λ f within. subst (λ l. f < length l) (sym from_kept) (there.within f within)) (λ g within. subst (λ l. g < length l) (sym to_kept) (there.to_within g within)),
      foreign_in (relation_shapes net) rel fields to to_fields db fits,
    )
