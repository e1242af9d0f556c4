-- A number that `parse` refuses is past the limit.
use Rattle.std.proofs.Common.{arith, sym, subst}
use Rattle.std.specs.Str.Parse.{ParsesUnsigned}
use Rattle.dbn_value.proofs.Numbers.{past_limit}
use Rattle.dbn_value.proofs.reading.number_below.Goals as goal

pub returns-in-Err-parse-clause-value : goal.returns-in-Err-parse-clause-value
returns-in-Err-parse-clause-value c =
    let h : ParsesUnsigned 64 10 c.in-Ok.text.now c.parse.result = c.parse.ensures.value.0 in
    let p = subst (λ bs. ParsesUnsigned 64 10 bs c.parse.result) c.in-Ok.ensures.cases.0 h in
    sym (past_limit c.args.limit c.args.bytes.now c.parse.result c.in-Err-parse.field-0 (omega arith) (cc) p c.in-Err-parse.is)
