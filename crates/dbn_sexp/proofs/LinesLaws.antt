-- Parts, atoms and nesting of an S-expression are the same on whatever lines it stands.
use Rattle.std.proofs.Common.{◌≡◌, ℕ, ◌+◌, max, List, [], ◌∷◌, ◌++◌, map, sym, ap, ◌∙◌, refl, Option}
use Rattle.std.specs.Option.{option_map}
use Rattle.std.specs.List.{flat_map, AllByRecursion}
use Rattle.dbn_sexp.specs.declared.sexp.Sexp.{Sexp}
use Rattle.dbn_sexp.specs.declared.sexp.Item.{Item}
use Rattle.dbn_sexp.specs.Parts.{word_in, constant_in, list_in}
use Rattle.dbn_sexp.specs.Printing.{on_line, on_lines, atoms, nesting, largest}
use Rattle.dbn_sexp.proofs.TreeLaws.{Steps, induction, line_name, line_const, line_list, atoms_list, nesting_list}
use Rattle.dbn_sexp.proofs.PartLaws.{word_name, word_const, word_list, constant_name, constant_const, constant_list, list_name, list_const, list_list}

-- the whole on one line
abbrev pub lined : ℕ → Sexp → Sexp
lined n one = record { line = n; item = on_line n one.item }

module _ (n : ℕ) where
  word_steps : Steps (λ i. (line : ℕ) → word_in (record { line = n; item = on_line n i }) ≡ word_in (record { line = line; item = i }))
  word_steps = record {
    name = λ name line. ap (λ i. word_in (record { line = n; item = i })) (line_name n name) ∙ word_name n name ∙ sym (word_name line name);
    const = λ v line. ap (λ i. word_in (record { line = n; item = i })) (line_const n v) ∙ word_const n v ∙ sym (word_const line v);
    list = λ parts all line. ap (λ i. word_in (record { line = n; item = i })) (line_list n parts) ∙ word_list n _ ∙ sym (word_list line parts);
  }

  pub word_alike : (one : Sexp) → word_in (lined n one) ≡ word_in one
  word_alike one = induction _ word_steps one.item one.line

  constant_steps : Steps (λ i. (line : ℕ) → constant_in (record { line = n; item = on_line n i }) ≡ constant_in (record { line = line; item = i }))
  constant_steps = record {
    name = λ name line. ap (λ i. constant_in (record { line = n; item = i })) (line_name n name) ∙ constant_name n name ∙ sym (constant_name line name);
    const = λ v line. ap (λ i. constant_in (record { line = n; item = i })) (line_const n v) ∙ constant_const n v ∙ sym (constant_const line v);
    list = λ parts all line. ap (λ i. constant_in (record { line = n; item = i })) (line_list n parts) ∙ constant_list n _ ∙ sym (constant_list line parts);
  }

  pub constant_alike : (one : Sexp) → constant_in (lined n one) ≡ constant_in one
  constant_alike one = induction _ constant_steps one.item one.line

  list_steps : Steps (λ i. (line : ℕ) → list_in (record { line = n; item = on_line n i }) ≡ option_map (map (lined n)) (list_in (record { line = line; item = i })))
  list_steps = record {
    name = λ name line. ap (λ i. list_in (record { line = n; item = i })) (line_name n name) ∙ list_name n name ∙ ap (option_map (map (lined n))) (sym (list_name line name));
    const = λ v line. ap (λ i. list_in (record { line = n; item = i })) (line_const n v) ∙ list_const n v ∙ ap (option_map (map (lined n))) (sym (list_const line v));
    list = λ parts all line. ap (λ i. list_in (record { line = n; item = i })) (line_list n parts) ∙ list_list n _ ∙ ap (option_map (map (lined n))) (sym (list_list line parts));
  }

  pub list_alike : (one : Sexp) → list_in (lined n one) ≡ option_map (map (lined n)) (list_in one)
  list_alike one = induction _ list_steps one.item one.line

  parts_atoms : (parts : List Sexp) → AllByRecursion (λ one. atoms (on_line n one.item) ≡ atoms one.item) parts
      → flat_map (λ one. atoms one.item) (map (lined n) parts) ≡ flat_map (λ one. atoms one.item) parts
  parts_atoms [] all = refl
  parts_atoms (one ∷ parts) all =
      ap (λ l. l ++ flat_map (λ x. atoms x.item) (map (lined n) parts)) all.0 ∙ ap (λ l. atoms one.item ++ l) (parts_atoms parts all.1)

  atoms_steps : Steps (λ i. atoms (on_line n i) ≡ atoms i)
  atoms_steps = record {
    name = λ name. ap atoms (line_name n name);
    const = λ v. ap atoms (line_const n v);
    list = λ parts all. ap atoms (line_list n parts) ∙ atoms_list (map (lined n) parts) ∙ parts_atoms parts all ∙ sym (atoms_list parts);
  }

  pub atoms_alike : (i : Item) → atoms (on_line n i) ≡ atoms i
  atoms_alike i = induction _ atoms_steps i

  parts_nest : (parts : List Sexp) → AllByRecursion (λ one. nesting (on_line n one.item) ≡ nesting one.item) parts
      → largest (map (λ one. nesting one.item) (map (lined n) parts)) ≡ largest (map (λ one. nesting one.item) parts)
  parts_nest [] all = refl
  parts_nest (one ∷ parts) all = ap (λ k. max k (largest (map (λ x. nesting x.item) (map (lined n) parts)))) all.0 ∙ ap (max (nesting one.item)) (parts_nest parts all.1)

  nest_steps : Steps (λ i. nesting (on_line n i) ≡ nesting i)
  nest_steps = record {
    name = λ name. ap nesting (line_name n name);
    const = λ v. ap nesting (line_const n v);
    list = λ parts all. ap nesting (line_list n parts) ∙ nesting_list (map (lined n) parts) ∙ ap (λ k. k + 1) (parts_nest parts all) ∙ sym (nesting_list parts);
  }

  pub nesting_alike : (i : Item) → nesting (on_line n i) ≡ nesting i
  nesting_alike i = induction _ nest_steps i

-- the same of a list that is read again
pub atoms_again : (n : ℕ) (list : List Sexp) → flat_map (λ one. atoms one.item) (on_lines n list) ≡ flat_map (λ one. atoms one.item) list
atoms_again n [] = refl
atoms_again n (one ∷ list) =
    ap (λ l. l ++ flat_map (λ x. atoms x.item) (on_lines (n + 1) list)) (atoms_alike n one.item) ∙ ap (λ l. atoms one.item ++ l) (atoms_again (n + 1) list)
