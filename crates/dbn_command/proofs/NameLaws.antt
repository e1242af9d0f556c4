-- Bytes that are no name.
use Rattle.std.proofs.Common.{◌≡◌, ℕ, ◌&&◌, ◌||◌, Bool, true, false, if◌then◌else◌, IsFalse, List, length, Ok, Err, refl, ap}
use Rattle.std.specs.Prelude.{nat_le}
use Rattle.dbn_value.specs.Text.{is_identifier, is_operator, is_name}
use Rattle.dbn_command.specs.declared.fault.LineFault.TheVariants.{Line}
use Rattle.dbn_command.specs.Lines.{name_in}

left_false : (a b : Bool) → (a || b) ≡ false → a ≡ false
left_false true b e = cc
left_false false b e = refl

pub no_name : (bytes : List ℕ) → IsFalse (is_name bytes) → name_in bytes ≡ Err Line
unfolding name_in is_name
no_name bytes e =
    ap (λ b. if b && nat_le (length bytes) 64 then Ok bytes else Err Line) (left_false (is_identifier bytes) (is_operator bytes) e)
