-- The table of the words that name a verb.
use Rattle.std.specs.Prelude.{ℕ, Bool, cond, ◌&&◌, ◌==◌, nat_le, List, [], ◌∷◌, Option, None, Some, codes, decimal, bytes_eq}
use Rattle.std.specs.Str.Parse.{digits_value}
use Rattle.dbn_top.specs.declared.verb.Verb.{Verb}
use Rattle.dbn_top.specs.declared.verb.Verb.TheVariants.{Check, Try, New, Run, Dump, Demo}

-- these digits are the number, which is from 1 to `most`
abbrev pub is_number : ℕ → ℕ → List ℕ → Bool
is_number most number digits = nat_le 1 number && (nat_le number most && bytes_eq (decimal number) digits)

-- the number from 1 to `most` that the digits are; no zero stands before it
unfoldable pub number_of : ℕ → List ℕ → Option ℕ
number_of most digits = cond (is_number most (digits_value 10 digits) digits) (Some (digits_value 10 digits)) None

abbrev pub most_every : ℕ
most_every = 1000000000

abbrev pub most_size : ℕ
most_size = 1000000

abbrev pub run_every : Option ℕ → Option Verb
run_every None = None
run_every (Some number) = Some (Run (Some number))

abbrev pub demo_of : Option ℕ → Option Verb
demo_of None = None
demo_of (Some size) = Some (Demo size)

-- the bytes behind that front
abbrev pub after : List ℕ → List ℕ → Option (List ℕ)
after [] bytes = Some bytes
after (byte ∷ front) [] = None
after (byte ∷ front) (first ∷ bytes) = cond (byte == first) (after front bytes) None

abbrev pub number_in : ℕ → Option (List ℕ) → Option ℕ
number_in most None = None
number_in most (Some digits) = number_of most digits

abbrev pub one_word : List ℕ → Option Verb
one_word verb =
    cond (bytes_eq verb (codes "check")) (Some Check)
    (cond (bytes_eq verb (codes "try")) (Some Try)
    (cond (bytes_eq verb (codes "new")) (Some New)
    (cond (bytes_eq verb (codes "run")) (Some (Run None))
    (cond (bytes_eq verb (codes "dump")) (Some Dump)
    (cond (bytes_eq verb (codes "demo")) (Some (Demo 2000)) None)))))

abbrev pub two_words : List ℕ → List ℕ → Option Verb
two_words verb option =
    cond (bytes_eq verb (codes "run")) (run_every (number_in most_every (after (codes "--every=") option)))
    (cond (bytes_eq verb (codes "demo")) (demo_of (number_in most_size (after (codes "--size=") option))) None)

abbrev pub three_words : List ℕ → List ℕ → List ℕ → Option Verb
three_words verb option number =
    cond (bytes_eq verb (codes "run") && bytes_eq option (codes "--every")) (run_every (number_of most_every number))
    (cond (bytes_eq verb (codes "demo") && bytes_eq option (codes "--size")) (demo_of (number_of most_size number)) None)

-- the verb of the words; all that stand here not are none
abbrev pub verb_of : List (List ℕ) → Option Verb
verb_of [] = None
verb_of (verb ∷ []) = one_word verb
verb_of (verb ∷ option ∷ []) = two_words verb option
verb_of (verb ∷ option ∷ number ∷ []) = three_words verb option number
verb_of (verb ∷ option ∷ number ∷ more ∷ words) = None
