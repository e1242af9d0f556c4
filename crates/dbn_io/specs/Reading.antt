-- Reading a source line by line: what each answer says.
use Rattle.std.specs.Prelude.{◌≡◌, ⊤, ℕ, ◌+◌, ◌<◌, ◌≤◌, Bool, true, false, IsTrue, List, [], ◌∷◌, ◌++◌, length, take, Option, Some, Result, Ok, Err}
use Rattle.std.specs.Io.KnownBytes.{Consumes, IsAtEnd, Keeps}
use Rattle.dbn_model.specs.Lines as text
use Rattle.dbn_io.specs.Stops.{MayTake}
use Rattle.dbn_io.specs.Window.{Window, allowed, to_come, Unbroken}
use Rattle.dbn_io.specs.declared.lines.Line.{Line}
use Rattle.dbn_io.specs.declared.lines.Line.TheVariants.{Bytes, Long, End}
use Rattle.dbn_io.specs.declared.take.ReadStop.{ReadStop}
use Rattle.dbn_io.specs.declared.take.ReadStop.TheVariants.{Failed, Over, Memory}

-- a reader of lines; it has ended from the end, or an error, on
pub record Reading : Type 0 where
  pub window : Window
  pub ended : Bool

-- the lines that an answer gives: one, and none at the end
abbrev pub given : Line → List text.Line
given (Bytes bytes) = text.Text bytes ∷ []
given Long = text.Long ∷ []
given End = []

abbrev pub is_end : Line → Bool
is_end (Bytes bytes) = false
is_end Long = false
is_end End = true

-- whether nothing is given after this answer
abbrev pub is_last : Result Line ReadStop → Bool
is_last (Ok line) = is_end line
is_last (Err why) = true

-- A run of answers.

-- the bytes hold these lines, and end with a line feed, unless the source has ended with them
abbrev pub Holds : Bool → List ℕ → List text.Line → Type 0
Holds false bytes lines = (lines ≡ text.whole_lines bytes) × (text.last_part bytes ≡ [])
Holds true bytes lines = lines ≡ text.lines bytes

-- the lines are the first of those that are due
abbrev pub AreFirst : ℕ → Option (List ℕ) → List text.Line → Type 0
AreFirst most initial lines = (all : List ℕ) → initial ≡ Some all → (more : List text.Line) × (text.due_lines most all ≡ lines ++ more)

-- these lines were given of a source that had `initial`, of which at most `most` bytes are taken
pub record HasRead (most : ℕ) (initial left : Option (List ℕ)) (reader : Reading) (lines : List text.Line) : Type 0 where
  -- the bytes of these lines
  pub used : List ℕ
  pub taken : Consumes initial (to_come reader.window left) used
  pub count : length used + allowed reader.window ≡ most
  pub holds : Holds reader.window.at_end used lines
  pub end : IsTrue reader.window.at_end → (reader.window.held ≡ []) × IsAtEnd left
  pub first : AreFirst most initial lines

-- these lines are all lines of a source that had `initial`, and none of its bytes is left
pub record HasReadAll (most : ℕ) (initial left : Option (List ℕ)) (lines : List text.Line) : Type 0 where
  pub bytes : List ℕ
  pub taken : Consumes initial left bytes
  pub count : length bytes ≤ most
  pub end : IsAtEnd left
  pub are_all : lines ≡ text.lines bytes
  pub due : (all : List ℕ) → initial ≡ Some all → (lines ≡ text.due_lines most all) × (length all ≤ most)

-- after an answer: the line is one more of the lines that were given, or the end is there
abbrev pub GivesNext : Line → ℕ → Option (List ℕ) → Option (List ℕ) → Reading → List text.Line → Type 0
GivesNext (Bytes bytes) most initial left reader lines = HasRead most initial left reader (lines ++ text.Text bytes ∷ [])
GivesNext Long most initial left reader lines = HasRead most initial left reader (lines ++ text.Long ∷ [])
GivesNext End most initial left reader lines = HasReadAll most initial left lines

-- the lines that were given before an error: at a failure, those that end within the bytes taken; where there was more
-- than is allowed, those that end within as much as is allowed
abbrev pub AreUpTo : ReadStop → ℕ → Option (List ℕ) → List ℕ → List text.Line → Type 0
AreUpTo Failed most initial taken lines = lines ≡ text.whole_lines taken
AreUpTo Over most initial taken lines =
    (lines ≡ text.whole_lines (take most taken))
    × ((all : List ℕ) → initial ≡ Some all → (lines ≡ text.due_lines most all) × (most < length all))
AreUpTo Memory most initial taken lines = ⊤

-- after an error: these lines were given of a source that had `initial`, and these bytes were taken
pub record HasStopped (why : ReadStop) (most : ℕ) (initial left : Option (List ℕ)) (lines : List text.Line) : Type 0 where
  pub bytes : List ℕ
  pub taken : Consumes initial left bytes
  pub count : MayTake why most (length bytes)
  pub up_to : AreUpTo why most initial bytes lines
  pub first : AreFirst most initial lines

-- One answer.

-- what a line, or the end, says of the bytes that were used
pub record Gives (line : Line) (before now : Window) (old new : Option (List ℕ)) : Type 0 where
  pub own : List ℕ
  pub used : Consumes (to_come before old) (to_come now new) own
  pub count : length own + allowed now ≡ allowed before
  pub lines : Holds now.at_end own (given line)
  pub some : is_end line ≡ false → allowed now < allowed before
  pub end : IsTrue now.at_end → (now.held ≡ []) × IsAtEnd new
  pub last : is_end line ≡ true → IsTrue now.at_end

-- what was used of the bytes to come where an error came: at a failure no line ends in it, and where there was more
-- than is allowed, none ends in as much as is allowed
abbrev pub MayLose : ReadStop → ℕ → List ℕ → Type 0
MayLose Failed allowed bytes = Unbroken bytes × (length bytes ≤ allowed)
MayLose Over allowed bytes = Unbroken (take allowed bytes) × (length bytes ≡ allowed + 1)
MayLose Memory allowed bytes = length bytes ≤ allowed

abbrev pub Loses : ReadStop → Window → Option (List ℕ) → Option (List ℕ) → Type 0
Loses why before old new = (bytes : List ℕ) × Consumes (to_come before old) new bytes × MayLose why (allowed before) bytes

-- the next piece was read: some bytes, none at the end, or one too many
abbrev pub Fills : Result Bool ReadStop → ℕ → Window → Option (List ℕ) → Option (List ℕ) → Type 0
Fills (Ok true) unread now old new =
    Consumes old new now.held × (0 < length now.held) × (length now.held + now.unread ≡ unread) × (now.at_end ≡ false)
Fills (Ok false) unread now old new =
    Keeps old new × IsAtEnd new × (now.held ≡ []) × (now.unread ≡ unread) × (now.at_end ≡ true)
Fills (Err Failed) unread now old new = Keeps old new
Fills (Err Memory) unread now old new = Keeps old new
Fills (Err Over) unread now old new = (unread ≡ 0) × ((byte : ℕ) × Consumes old new (byte ∷ []))
