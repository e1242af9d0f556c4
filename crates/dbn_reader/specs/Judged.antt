-- What the tests of a declaration return, against what the definition gives.
use Rattle.std.specs.Prelude.{◌≡◌, Option, Some, None, Result, Ok, Err}
use Rattle.dbn_net.specs.declared.fault.NetKind.{NetKind}
use Rattle.dbn_net.specs.declared.decl.Entry.{Entry}
use Rattle.dbn_reader.specs.declared.judging.Refused.{Refused}
use Rattle.dbn_reader.specs.declared.judging.Refused.TheVariants.{Kind, Memory}

-- the declaration, or its fault if it has one
abbrev pub or_fault : Entry → Option NetKind → Result Entry NetKind
or_fault e None = Ok e
or_fault e (Some kind) = Err kind

-- a declaration is refused for the kind of its fault; want of memory is free
abbrev pub Refuses : Refused → Result Entry NetKind → Type 0
Refuses (Kind kind) judged = judged ≡ Err kind
Refuses Memory judged = Unit {0}

abbrev pub Judges : Result Entry Refused → Result Entry NetKind → Type 0
Judges (Ok e) judged = judged ≡ Ok e
Judges (Err refused) judged = Refuses refused judged

-- the same where judging goes on with what is left to test
abbrev pub Leaves : {U : Type 0} → Result U Refused → Result Entry NetKind → Result Entry NetKind → Type 0
Leaves (Ok u) left judged = judged ≡ left
Leaves (Err refused) left judged = Refuses refused judged
