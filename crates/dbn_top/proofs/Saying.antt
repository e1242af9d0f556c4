-- The last line of a call, of which a front was written.
use Rattle.std.proofs.Common.{◌≡◌, ℕ, true, false, List, [], Option, None, Some, refl, sym, subst, ◌∙◌, append-nil}
use Rattle.std.specs.Io.KnownBytes.{Appends}
use Rattle.dbn_model.specs.Content.{AppendsPart}
use Rattle.dbn_top.specs.declared.status.Status.{Status}
use Rattle.dbn_top.specs.Calls.{Stream}
use Rattle.dbn_top.specs.Writing.{Declared, Writes, is_broken_off}

-- all of it
pub said : (ended : Status) (due : Declared) (out : Stream) → Appends out.bytes out.bytes_after due.text → ended ≡ due.status → Writes ended due out
said ended due out wrote same = record { written = due.text; rest = []; wrote = wrote; front = sym (append-nil due.text); whole = λ e. (same, refl) }

-- a front of it
pub said_part : (ended : Status) (due : Declared) (out : Stream) → AppendsPart out.bytes out.bytes_after due.text → is_broken_off ended ≡ true → Writes ended due out
said_part ended due out part broken = record { written = part.0; rest = part.1; wrote = part.4; front = part.2; whole = λ e. absurd (both e) }
  where
    differ : true ≡ false → ⊥
    differ e = cc

    both : is_broken_off ended ≡ false → ⊥
    both e = differ (sym broken ∙ e)

nothing : (old new : Option (List ℕ)) → new ≡ old → Appends old new []
nothing None new e = tt
nothing (Some bytes) new e = subst (λ (o : Option (List ℕ)). Appends (Some bytes) o []) (sym e) (sym (append-nil bytes))

-- nothing was written
pub said_nothing : (ended : Status) (due : Declared) (out : Stream) → out.bytes_after ≡ out.bytes → is_broken_off ended ≡ true → Writes ended due out
said_nothing ended due out same broken = record { written = []; rest = due.text; wrote = nothing out.bytes out.bytes_after same; front = refl; whole = λ e. absurd (both e) }
  where
    differ : true ≡ false → ⊥
    differ e = cc

    both : is_broken_off ended ≡ false → ⊥
    both e = differ (sym broken ∙ e)
