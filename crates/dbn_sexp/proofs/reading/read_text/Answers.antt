use Rattle.std.proofs.Common.{arith, ◌∙◌, sym}
use Rattle.std.proofs.lemmas.Result.{err_from_is_err_and}
use Rattle.std.proofs.lemmas.List.Sums.{count_by-le-length}
use Rattle.dbn_sexp.specs.Tokens.{is_line_feed}
use Rattle.dbn_sexp.proofs.ReadLaws.{reads_on, reads_stop, reads_end}
use Rattle.dbn_sexp.proofs.reading.read_text.Goals as goal

pub returns-in_err-take : goal.returns-in_err-take
returns-in_err-take c =
    let p = err_from_is_err_and c.from_residual.result c.from_residual.ensures.1 in
    let front = rw c.piece_len.ensures.count at c.split_at.ensures.front in
    let fails = rw c.loop-rest.invariant.0 at (reads_stop c.args.depth _ c.loop-rest.rest.now _ _ _ c.in-len1-up.len_at_least front c.in_err-take.ensures) in
    rw (p.1, p.2) fails

pub loop-rest-preserved : goal.loop-rest-preserved
loop-rest-preserved c =
    let front = rw c.piece_len.ensures.count at c.split_at.ensures.front in
    let back = rw c.piece_len.ensures.count at c.split_at.ensures.back in (
      reads_on c.args.depth c.loop-rest.lines _ c.loop-rest.rest.now _ _ _ _ c.in-len1-up.len_at_least front back c.line_feeds.ensures c.in_ok-take.ensures
          ∙ c.loop-rest.invariant.0,
      omega (arith, count_by-le-length is_line_feed c.split_at.result.0.now),
    )

pub returns : goal.returns
returns c =
    let same = sym (reads_end c.args.depth _ c.loop-rest.rest.now _ c.in_default.len_below) ∙ c.loop-rest.invariant.0 in
    rw same at c.end.ensures
