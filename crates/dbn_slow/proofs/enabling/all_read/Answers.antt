use Rattle.std.proofs.Common.{◌≡◌, ◌<◌, length, get_or, subst}
use Rattle.dbn_slow.proofs.ViewLaws.{read_within}
use Rattle.dbn_slow.proofs.LoopLaws.{in_index}
use Rattle.dbn_slow.proofs.enabling.all_read.Goals as goal

pub is_read-requires-clause-view : goal.is_read-requires-clause-view
is_read-requires-clause-view c =
    let same : c.as_slice-read-items.result.now ≡ c.args.transition.now.reads = c.as_slice-read-items.ensures in
    let r = c.read-item.result in
    let i = c.loop-read.read-index in
    read_within c.args.net.now c.args.transition.now r c.requires.fits
    (in_index c.args.transition.now.reads i r (subst (λ l. i < length l) same c.loop-read-test.true) (subst (λ l. r ≡ get_or l i r) same c.read-item.is))
