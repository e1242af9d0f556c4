use Rattle.std.proofs.Common.{rules}
use Rattle.std.proofs.Common.{tests}
use Rattle.std.proofs.lemmas.Result.{IfOk-weaker}
use Rattle.std.proofs.lemmas.Iterator.Consumers.{map_from_collect}
use Rattle.std.proofs.lemmas.Iterator.Splits.{YieldsList-from_slice_split}
use Rattle.dbn_command.specs.Lines.{is_semicolon}
use Rattle.dbn_command.proofs.Splits.{parts_seen}
use Rattle.dbn_command.proofs.reading.between_semicolons.Goals as goal

pub returns : goal.returns
returns c =
    IfOk-weaker c.collect.result _ _
    (λ found same. parts_seen (λ t. t.now) is_semicolon found.items c.args.tokens.now same)
    (map_from_collect _ c.collect.ensures.ran
    (YieldsList-from_slice_split _ (λ t. is_semicolon t.now) c.args.tokens.now c.split.ensures.rest c.split.ensures.done c.split.ensures.closure (λ x b q k. search (rules, tests))))
