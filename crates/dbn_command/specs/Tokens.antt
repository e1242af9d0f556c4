-- The tokens of a line: what stands between spaces and tabs. A text runs from its quote to its closing quote, and blanks in it are
-- its own.
use Rattle.std.specs.Prelude.{ℕ, Bool, false, ◌||◌, ◌==◌, nat_lt, if◌then◌else◌, List, [], ◌∷◌, length}
use Rattle.std.specs.List.{filter, onto_first}
use Rattle.dbn_command.specs.declared.tokens.Place.{Place}
use Rattle.dbn_command.specs.declared.tokens.Place.TheVariants.{Between, Inside, Quoted, Escaped}

-- space and tab
abbrev pub is_blank : ℕ → Bool
is_blank b = b == 32 || b == 9

-- where the bytes behind b stand, by where b stands: a quote at the start of a token begins a text, which ends at the next quote
-- that isn't escaped
abbrev pub after : Place → ℕ → Place
after Between b = if is_blank b then Between else (if b == 34 then Quoted else Inside)
after Inside b = if is_blank b then Between else Inside
after Quoted b = if b == 34 then Inside else (if b == 92 then Escaped else Quoted)
after Escaped b = Quoted

-- a blank outside a text parts tokens
abbrev pub separates : Place → ℕ → Bool
separates Between b = is_blank b
separates Inside b = is_blank b
separates Quoted b = false
separates Escaped b = false

-- what stands between such blanks
abbrev pub parts : Place → List ℕ → List (List ℕ)
parts place [] = [] ∷ []
parts place (b ∷ bytes) = if separates place b then [] ∷ parts (after place b) bytes else onto_first b (parts (after place b) bytes)

abbrev pub has_bytes : List ℕ → Bool
has_bytes part = nat_lt 0 (length part)

-- the parts that aren't empty
unfoldable pub tokens : List ℕ → List (List ℕ)
tokens line = filter has_bytes (parts Between line)
