-- The lines of small texts.
use Rattle.std.proofs.Common.{◌≡◌, [], ◌∷◌, codes, refl}
use Rattle.dbn_model.specs.Lines.{Text, lines, whole_lines, last_part, due_lines}

no_bytes : lines [] ≡ []
no_bytes = refl

last_without_line_feed : lines (codes "a\nbc") ≡ Text (codes "a") ∷ Text (codes "bc") ∷ []
last_without_line_feed = refl

empty_lines : lines (codes "\n\n") ≡ Text [] ∷ Text [] ∷ []
empty_lines = refl

returns_dropped : lines (codes "a\r\n\r\nb\r") ≡ Text (codes "a") ∷ Text [] ∷ Text (codes "b") ∷ []
returns_dropped = refl

-- a last line without a line feed isn't whole
whole_of_two : whole_lines (codes "a\nbc") ≡ Text (codes "a") ∷ []
whole_of_two = refl

last_of_two : last_part (codes "a\nbc") ≡ codes "bc"
last_of_two = refl

last_of_whole : last_part (codes "a\n") ≡ []
last_of_whole = refl

-- at the limit all lines are due; one byte below it those that end within it
due_at_limit : due_lines 4 (codes "a\nbc") ≡ Text (codes "a") ∷ Text (codes "bc") ∷ []
due_at_limit = refl

due_below : due_lines 3 (codes "a\nbc") ≡ Text (codes "a") ∷ []
due_below = refl

due_below_line_feed : due_lines 3 (codes "a\nb\n") ≡ Text (codes "a") ∷ []
due_below_line_feed = refl
