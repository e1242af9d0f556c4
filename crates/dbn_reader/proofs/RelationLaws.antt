-- A relation, by what its name and its fields are read as.
use Rattle.std.proofs.Common.{◌≡◌, List, ◌∷◌, ap, ◌∙◌, Some, None}
use Rattle.std.specs.Prelude.{if◌then◌else◌}
use Rattle.dbn_value.specs.declared.value.ColType.{ColType}
use Rattle.dbn_sexp.specs.declared.sexp.Sexp.{Sexp}
use Rattle.dbn_net.specs.declared.written.Written.TheVariants as written
use Rattle.dbn_net.specs.Maybe.{◌>>=◌, each}
use Rattle.dbn_net.specs.Forms.{Name, name_in, typed_in, is_connective, relation_of}

pub relation_read : (a : Sexp) (parts : List Sexp) (name : Name) (fields : List (Name × ColType)) → name_in a ≡ Some name → each typed_in parts ≡ Some fields
    → relation_of (a ∷ parts) ≡ (if is_connective name then None else Some (written.Relation name fields))
relation_read a parts name fields p q =
    ap (λ o. o >>= λ n. each typed_in parts >>= λ fs. if is_connective n then None else Some (written.Relation n fs)) p
    ∙ ap (λ o. o >>= λ fs. if is_connective name then None else Some (written.Relation name fs)) q
