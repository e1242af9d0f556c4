use Rattle.std.proofs.Common.{IsFalse, rules, refl, sym, ◌∙◌}
use Rattle.dbn_io.proofs.RunLaws.{given-next, stopped-next}
use Rattle.dbn_io.proofs.lines.Lines.next.Goals as goal

pub returns-clause-line : goal.returns-clause-line
returns-clause-line g c = λ most initial lines so_far.
    let going : IsFalse c.self.inside.pieces.at_end = sym c.is_at_end.ensures.at_end ∙ c.if-is_at_end.false in
    given-next c.next_line-line.result most initial (g.S.Source.left c.args.source.now) (g.S.Source.left c.next_line-line.new.source) c.args.self.now _
    c.self.inside.pieces c.next_line-line.new.pieces lines (search rules) refl so_far going c.next_line-line.ensures.line

pub returns-clause-stopped : goal.returns-clause-stopped
returns-clause-stopped g c = λ most initial lines so_far.
    let going : IsFalse c.self.inside.pieces.at_end = sym c.is_at_end.ensures.at_end ∙ c.if-is_at_end.false in
    stopped-next c.next_line-line.result most initial (g.S.Source.left c.args.source.now) (g.S.Source.left c.next_line-line.new.source) c.args.self.now
    c.self.inside.pieces lines (search rules) so_far going c.next_line-line.ensures.lost
