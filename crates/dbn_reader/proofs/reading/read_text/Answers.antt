use Rattle.std.proofs.Common.{subst, sym}
use Rattle.std.proofs.lemmas.Result.{err_from_is_err_and}
use Rattle.dbn_net.specs.Texts.{finished}
use Rattle.dbn_reader.specs.Reading.{Starts, state_of}
use Rattle.dbn_reader.proofs.ReadingLaws.{text_fails, list_fails, list_read}
use Rattle.dbn_reader.proofs.reading.read_text.Goals as goal

pub returns-in_err-list : goal.returns-in_err-list
returns-in_err-list c =
    let p = err_from_is_err_and c.from_residual.result c.from_residual.ensures.1 in
    let fails = text_fails c.args.bytes.now c.in_err-list.field-0.0 c.in_err-list.ensures.exact in
    record { exact = rw (p.1, p.2) fails; fired = rw p.1 tt }

pub returns-in_err-reading : goal.returns-in_err-reading
returns-in_err-reading c =
    let p = err_from_is_err_and c.from_residual-in_err-reading.result c.from_residual-in_err-reading.ensures.1 in
    let fails = list_fails c.args.bytes.now c.in_ok-list.list c.in_err-reading.field-0.0 c.in_ok-list.ensures.exact (rw c.as_slice.ensures at c.in_err-reading.ensures.read) in
    record { exact = rw (p.1, p.2) fails; fired = rw p.1 tt }

pub returns : goal.returns
returns c =
    let s = state_of c.in_ok-reading.reading in
    let same = list_read c.args.bytes.now c.in_ok-list.list s c.in_ok-list.ensures.exact (rw c.as_slice.ensures at c.in_ok-reading.ensures.read) in
    record {
      exact = subst (Starts c.finish.result) (sym same) (subst (λ l. Starts c.finish.result (finished l s)) c.as_slice-2.ensures c.finish.ensures.exact);
      fired = c.finish.ensures.fired;
    }
