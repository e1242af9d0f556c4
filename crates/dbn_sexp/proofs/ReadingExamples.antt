-- What small texts are read as.
use Rattle.std.proofs.Common.{◌≡◌, [], ◌∷◌, pos, codes, refl}
use Rattle.std.specs.Prelude.{Ok}
use Rattle.dbn_value.specs.Text.{is_name}
use Rattle.dbn_value.specs.Spelling.{value_of_bytes}
use Rattle.dbn_value.specs.declared.value.Value.TheVariants.{Int}
use Rattle.dbn_sexp.specs.declared.fault.SexpKind.TheVariants.{Unclosed, Unopened, BadToken, Deep}
use Rattle.dbn_sexp.specs.declared.sexp.Item.TheVariants as item
use Rattle.dbn_sexp.specs.Tokens.{tokens, token_of, more}
use Rattle.dbn_sexp.specs.Reading.{fault, sexp, item_of, after, reads_from, reads}

nothing : reads 64 (codes " ; )\n") ≡ Ok []
unfolding reads_from after tokens token_of more item_of is_name value_of_bytes
nothing = refl

a_place : reads 64 (codes "(place P") ≡ fault 1 Unclosed
unfolding reads_from after tokens token_of more item_of is_name value_of_bytes
a_place = refl

a_fact : reads 64 (codes "; n\n(f\n 7)") ≡ Ok (sexp 2 (item.List (sexp 2 (item.Name (codes "f")) ∷ sexp 3 (item.Const (Int (pos 7))) ∷ [])) ∷ [])
unfolding reads_from after tokens token_of more item_of is_name value_of_bytes
a_fact = refl

the_outermost : reads 64 (codes "a\n(\n((b) c") ≡ fault 2 Unclosed
unfolding reads_from after tokens token_of more item_of is_name value_of_bytes
the_outermost = refl

a_bad_token : reads 64 (codes "(\n 07 ))") ≡ fault 2 BadToken
unfolding reads_from after tokens token_of more item_of is_name value_of_bytes
a_bad_token = refl

not_open : reads 64 (codes "()\n) 07") ≡ fault 2 Unopened
unfolding reads_from after tokens token_of more item_of is_name value_of_bytes
not_open = refl

too_deep : reads 2 (codes "(())\n((\n(") ≡ fault 3 Deep
unfolding reads_from after tokens token_of more item_of is_name value_of_bytes
too_deep = refl
