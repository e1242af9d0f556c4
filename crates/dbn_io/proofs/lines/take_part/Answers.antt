use Rattle.std.proofs.Common.{◌<◌, length, arith}
use Rattle.dbn_io.proofs.FeedLaws.{feed-moved}
use Rattle.dbn_io.proofs.lines.take_part.Goals as goal

pub returns-clause-moved : goal.returns-clause-moved
returns-clause-moved c =
    let below : c.feed_at-at.result < length c.held-held.result.now = omega arith in
    let moved = feed-moved c.args.pieces.now c.skip-2.new.self c.held-held.result.now c.feed_at-at.result c.held-held.ensures.held below
    c.skip-2.ensures.held c.feed_at-at.ensures.before (c.feed_at-at.ensures.found below) in (
      c.split_at.result.0.now,
      rw c.split_at.ensures.front moved.0,
      record {
        unbroken = rw c.split_at.ensures.front moved.1;
        holds = c.in_ok-add-2.ensures;
      },
    )
