-- The clauses of a transition one by one.
use Rattle.std.proofs.Common.{◌≡◌, List, [], ◌∷◌, ◌++◌, refl}
use Rattle.dbn_net.specs.declared.written.WrittenInput.{WrittenInput}
use Rattle.dbn_net.specs.declared.written.WrittenInput.TheVariants.{In, Read}
use Rattle.dbn_net.specs.Naming.{ins_of, reads_of}

pub first_in : (m : WrittenInput) (inputs : List WrittenInput) → ins_of (m ∷ inputs) ≡ ins_of (m ∷ []) ++ ins_of inputs
first_in (In p) inputs = refl
first_in (Read g) inputs = refl

pub first_read : (m : WrittenInput) (inputs : List WrittenInput) → reads_of (m ∷ inputs) ≡ reads_of (m ∷ []) ++ reads_of inputs
first_read (In p) inputs = refl
first_read (Read g) inputs = refl

pub ruleset input_laws = (first_in, first_read)
