-- The tokens of a line, byte by byte, and words that are read as one token.
use Rattle.std.proofs.Common.{◌≡◌, ℕ, Bool, true, false, not, ◌&&◌, cond, if◌then◌else◌, List, [], ◌∷◌, ◌++◌, length, refl, sym, ap, ◌∙◌, arith, append_assoc, append-nil}
use Rattle.std.specs.List.{filter, onto_first, AllByRecursion}
use Rattle.std.proofs.lemmas.Bool.{and_parts, lt-ltb}
use Rattle.std.proofs.lemmas.List.Elements.{filter-append}
use Rattle.dbn_command.specs.declared.tokens.Place.{Place}
use Rattle.dbn_command.specs.declared.tokens.Place.TheVariants.{Between, Inside, Quoted, Escaped}
use Rattle.dbn_command.specs.Canonical.{joined}
use Rattle.dbn_command.specs.Tokens.{after, separates, parts, has_bytes, tokens}

-- bytes before the first part
abbrev pub onto : List ℕ → List (List ℕ) → List (List ℕ)
onto front [] = front ∷ []
onto front (part ∷ rest) = (front ++ part) ∷ rest

onto_more : (front : List ℕ) (b : ℕ) (ps : List (List ℕ)) → onto front (onto_first b ps) ≡ onto (front ++ b ∷ []) ps
onto_more front b [] = refl
onto_more front b (p ∷ ps) = ap (λ w. w ∷ ps) (sym (append_assoc front (b ∷ []) p))

nothing_before : (ps : List (List ℕ)) → filter has_bytes (onto [] ps) ≡ filter has_bytes ps
nothing_before [] = refl
nothing_before (p ∷ ps) = refl

first_onto : (b : ℕ) (w : List ℕ) (ps : List (List ℕ)) → onto_first b (onto w ps) ≡ onto (b ∷ w) ps
first_onto b w [] = refl
first_onto b w (p ∷ ps) = refl

-- ---- the walk over a line

-- the tokens of what is left, where the bytes `front` of a token stand before it
abbrev pub tokens_from : Place → List ℕ → List ℕ → List (List ℕ)
tokens_from place front bytes = filter has_bytes (onto front (parts place bytes))

pub walk_starts : (line : List ℕ) → tokens_from Between [] line ≡ tokens line
unfolding tokens
walk_starts line = nothing_before (parts Between line)

pub token_ends : (place : Place) (front : List ℕ) (b : ℕ) (bytes : List ℕ) → separates place b ≡ true
    → tokens_from place front (b ∷ bytes) ≡ filter has_bytes (front ∷ []) ++ tokens_from (after place b) [] bytes
token_ends place front b bytes e =
    let next : List (List ℕ) = parts (after place b) bytes in
    ap (λ s. filter has_bytes (onto front (if s then [] ∷ next else onto_first b next))) e
    ∙ ap (λ w. filter has_bytes (w ∷ next)) (append-nil front)
    ∙ filter-append has_bytes (front ∷ []) next
    ∙ ap (λ l. filter has_bytes (front ∷ []) ++ l) (sym (nothing_before next))

pub token_goes_on : (place : Place) (front : List ℕ) (b : ℕ) (bytes : List ℕ) → separates place b ≡ false
    → tokens_from place front (b ∷ bytes) ≡ tokens_from (after place b) (front ++ b ∷ []) bytes
token_goes_on place front b bytes e =
    let next : List (List ℕ) = parts (after place b) bytes in
    ap (λ s. filter has_bytes (onto front (if s then [] ∷ next else onto_first b next))) e ∙ ap (filter has_bytes) (onto_more front b next)

-- the last part
pub walk_ends : (place : Place) (front : List ℕ) → tokens_from place front [] ≡ filter has_bytes (front ∷ [])
walk_ends place front = ap (λ w. filter has_bytes (w ∷ [])) (append-nil front)

-- ---- words that are one token

abbrev is_inside : Place → Bool
is_inside Between = false
is_inside Inside = true
is_inside Quoted = false
is_inside Escaped = false

-- no byte parts it, and its end is outside a text
abbrev pub stays : Place → List ℕ → Bool
stays place [] = is_inside place
stays place (b ∷ bytes) = not (separates place b) && stays (after place b) bytes

abbrev pub IsToken : List ℕ → Type 0
IsToken word = stays Between word ≡ true

some_part : (place : Place) (bytes : List ℕ) → onto [] (parts place bytes) ≡ parts place bytes
some_part place [] = refl
some_part place (b ∷ bytes) = by (separates place b)
  where
    by : (s : Bool) → onto [] (if s then [] ∷ parts (after place b) bytes else onto_first b (parts (after place b) bytes)) ≡ (if s then [] ∷ parts (after place b) bytes else onto_first b (parts (after place b) bytes))
    by true = refl
    by false = each (parts (after place b) bytes)
      where
        each : (ps : List (List ℕ)) → onto [] (onto_first b ps) ≡ onto_first b ps
        each [] = refl
        each (p ∷ ps) = refl

no_part : (b : Bool) → not b ≡ true → b ≡ false
no_part true e = cc
no_part false e = refl

stays_whole : (place : Place) (word rest : List ℕ) → stays place word ≡ true → parts place (word ++ rest) ≡ onto word (parts Inside rest)
stays_whole Between [] rest e = cc
stays_whole Inside [] rest e = sym (some_part Inside rest)
stays_whole Quoted [] rest e = cc
stays_whole Escaped [] rest e = cc
stays_whole place (b ∷ word) rest e =
    let (here, on) = and_parts (not (separates place b)) (stays (after place b) word) e in
    ap (λ s. if s then [] ∷ parts (after place b) (word ++ rest) else onto_first b (parts (after place b) (word ++ rest))) (no_part (separates place b) here)
    ∙ ap (onto_first b) (stays_whole (after place b) word rest on)
    ∙ first_onto b word (parts Inside rest)

-- a token holds a byte
holds_bytes : (word : List ℕ) (words : List (List ℕ)) → IsToken word → filter has_bytes (word ∷ words) ≡ word ∷ filter has_bytes words
holds_bytes [] words e = cc
holds_bytes (b ∷ word) words e =
    ap (λ some. cond some ((b ∷ word) ∷ filter has_bytes words) (filter has_bytes words)) (lt-ltb 0 (length (b ∷ word)) (omega arith))

first_token : (word rest : List ℕ) → IsToken word → tokens (word ++ 32 ∷ rest) ≡ word ∷ tokens rest
unfolding tokens
first_token word rest e =
    ap (filter has_bytes) (stays_whole Between word (32 ∷ rest) e)
    ∙ ap (λ w. filter has_bytes (w ∷ parts Between rest)) (append-nil word)
    ∙ holds_bytes word (parts Between rest) e

one_token : (word : List ℕ) → IsToken word → tokens word ≡ word ∷ []
unfolding tokens
one_token word e =
    ap (λ l. filter has_bytes (parts Between l)) (sym (append-nil word))
    ∙ ap (filter has_bytes) (stays_whole Between word [] e)
    ∙ ap (λ w. filter has_bytes (w ∷ [])) (append-nil word)
    ∙ holds_bytes word [] e

-- words with one space between two of them are read as these words
pub joined_tokens : (words : List (List ℕ)) → AllByRecursion IsToken words → tokens (joined words) ≡ words
unfolding joined tokens
joined_tokens [] all = refl
joined_tokens (word ∷ []) all = ap tokens (append-nil word) ∙ one_token word all.0
joined_tokens (word ∷ next ∷ words) all = first_token word (joined (next ∷ words)) all.0 ∙ ap (λ l. word ∷ l) (joined_tokens (next ∷ words) all.1)
