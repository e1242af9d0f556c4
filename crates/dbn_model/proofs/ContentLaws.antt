-- Laws on fronts of bytes that are appended.
use Rattle.std.proofs.Common.{ℕ, List, [], ◌++◌, Option, refl, sym, ap, ◌∙◌, append_assoc, append-nil}
use Rattle.std.specs.Io.KnownBytes.{Appends}
use Rattle.std.proofs.KnownBytes.{Appends-nil, Appends-trans}
use Rattle.dbn_model.specs.Content.{AppendsFront, AppendsPart}

-- nothing appended is a front of whatever is due
pub Appends-nothing : (old : Option (List ℕ)) (due : List ℕ) → AppendsFront old old due
Appends-nothing old due = ([], due, refl, Appends-nil old)

-- all that is due is a front of it
pub Appends-whole : (old new : Option (List ℕ)) (due : List ℕ) → Appends old new due → AppendsFront old new due
Appends-whole old new due h = (due, [], sym (append-nil due), h)

-- after a first part was appended, a front of the rest makes a front of both
pub Appends-more : (old mid new : Option (List ℕ)) (first due : List ℕ) → Appends old mid first → AppendsFront mid new due → AppendsFront old new (first ++ due)
Appends-more old mid new first due h more =
    (first ++ more.0, more.1, ap (λ l. first ++ l) more.2 ∙ sym (append_assoc first more.0 more.1), Appends-trans old mid new first more.0 h more.3)

-- a proper front is a front
pub part_front : (old new : Option (List ℕ)) (due : List ℕ) → AppendsPart old new due → AppendsFront old new due
part_front old new due part = (part.0, part.1, part.2, part.4)
