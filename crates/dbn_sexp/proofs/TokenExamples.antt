-- The tokens of small texts.
use Rattle.std.proofs.Common.{◌≡◌, ℕ, [], ◌∷◌, codes, refl}
use Rattle.dbn_sexp.specs.Tokens.{Token, Kind, Open, Close, Atom, tokens, token_of, more}

abbrev at : ℕ → Kind → Token
at line kind = record { line = line; kind = kind }

no_bytes : tokens 1 0 [] ≡ []
unfolding tokens
no_bytes = refl

three_tokens : tokens 1 0 (codes "a\"x\"b") ≡ at 1 (Atom (codes "a")) ∷ at 1 (Atom (codes "\"x\"")) ∷ at 1 (Atom (codes "b")) ∷ []
unfolding tokens token_of more
three_tokens = refl

a_comment : tokens 1 0 (codes "; )\n(a\t;b\r\n)") ≡ at 2 Open ∷ at 2 (Atom (codes "a")) ∷ at 3 Close ∷ []
unfolding tokens token_of more
a_comment = refl

escapes : tokens 1 0 (codes "\n\"a\\\"(\\\\\"b") ≡ at 2 (Atom (codes "\"a\\\"(\\\\\"")) ∷ at 2 (Atom (codes "b")) ∷ []
unfolding tokens token_of more
escapes = refl

never_closed : tokens 1 0 (codes "x \"a\n ;") ≡ at 1 (Atom (codes "x")) ∷ at 1 (Atom (codes "\"a\n ;")) ∷ []
unfolding tokens token_of more
never_closed = refl
