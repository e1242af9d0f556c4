use Rattle.std.proofs.Common.{◌≡◌, true, false, List, ℕ, rules, sym, subst, ◌∙◌}
use Rattle.dbn_io.specs.Window.{Unbroken}
use Rattle.dbn_io.proofs.ReadingLaws.{feed-breaks, line-dropped, line-found, line-last, line-lost, not-false, not-true, read-more}
use Rattle.dbn_io.proofs.lines.next_line.Goals as goal

pub returns-in-Err-clause-lost : goal.returns-in-Err-clause-lost
returns-in-Err-clause-lost g c = line-dropped _ _ _ _ _ _ c.pieces.invariant.read

pub returns-then-is_whole-clause-line : goal.returns-then-is_whole-clause-line
returns-then-is_whole-clause-line g c =
    let part = rw c.if-is_whole.true at c.in-Ok.ensures.moved in
    line-found _ _ _ _ c.args.pieces.now c.pieces.pieces c.take_part.new.pieces (g.S.Source.left c.args.source.now) (g.S.Source.left c.pieces.source)
    part.0 c.finish.result c.pieces.invariant.read part.1 c.take_part.ensures.unread (c.take_part.ensures.at_end ∙ c.pieces.invariant.going) part.2 c.finish.ensures.line c.finish.ensures.some

pub returns-in-Err-fill-clause-lost : goal.returns-in-Err-fill-clause-lost
returns-in-Err-fill-clause-lost g c =
    let part = rw c.if-is_whole.false at c.in-Ok.ensures.moved in
    line-lost _ _ _ _ c.args.pieces.now c.pieces.pieces c.take_part.new.pieces c.fill.new.self (g.S.Source.left c.args.source.now) (g.S.Source.left c.pieces.source)
    (g.S.Source.left c.fill.new.source) part.0 c.in-Err-fill.why c.pieces.invariant.read part.1 c.take_part.ensures.unread part.2 c.in-Err-fill.ensures.filled

pub returns-then-not-is_more-clause-line : goal.returns-then-not-is_more-clause-line
returns-then-not-is_more-clause-line g c =
    let part = rw c.if-is_whole.false at c.in-Ok.ensures.moved in
    let end : c.in-Ok-fill.is_more ≡ false = search (rules, not-true) in
    let filled = rw end at c.in-Ok-fill.ensures.filled in
    line-last _ _ _ _ c.args.pieces.now c.pieces.pieces c.take_part.new.pieces c.fill.new.self (g.S.Source.left c.args.source.now) (g.S.Source.left c.pieces.source)
    (g.S.Source.left c.fill.new.source) part.0 c.finish_last.result c.pieces.invariant.read part.1 c.take_part.ensures.unread part.2 filled c.finish_last.ensures

pub pieces-preserved : goal.pieces-preserved
pieces-preserved g c =
    let part = rw c.if-is_whole.false at c.in-Ok.ensures.moved in
    let more : c.in-Ok-fill.is_more ≡ true = search (rules, not-false) in
    let filled = rw more at c.in-Ok-fill.ensures.filled in
    record {
      read = read-more _ _ _ _ c.args.pieces.now c.pieces.pieces c.take_part.new.pieces c.fill.new.self (g.S.Source.left c.args.source.now) (g.S.Source.left c.pieces.source)
          (g.S.Source.left c.fill.new.source) part.0 c.pieces.invariant.read part.1 c.take_part.ensures.unread part.2 filled;
      first = λ has. absurd (feed-breaks c.args.pieces.now.held has
          (subst (λ (l : List ℕ). Unbroken l) (sym part.1.0 ∙ (c.pieces.invariant.first has).1) part.2.unbroken));
      told = search rules;
      calm = search rules;
      going = filled.3;
    }
