-- The value by the first byte.
use Rattle.std.proofs.Common.{arith, ◌≡◌, ◌∙◌, subst, IfOk}
use Rattle.dbn_value.proofs.Spellings.{at_none, at_quote, at_hash, at_minus, at_digit}
use Rattle.dbn_value.proofs.reading.spelled.Goals as goal

pub returns-in-empty : goal.returns-in-empty
returns-in-empty c = at_none c.args.bytes.now c.in-empty.len_below

pub returns-in-34 : goal.returns-in-34
returns-in-34 c = subst (λ w. IfOk c.read_text.result (λ value. value ≡ w)) (at_quote c.args.bytes.now (omega arith) c.in-34.is) c.read_text.ensures

pub returns-in-35 : goal.returns-in-35
returns-in-35 c = c.read_id.ensures ∙ at_hash c.args.bytes.now (omega arith) c.in-35.is

pub returns-in-45 : goal.returns-in-45
returns-in-45 c = c.read_negative.ensures ∙ at_minus c.args.bytes.now (omega arith) c.in-45.is

pub returns-in_default : goal.returns-in_default
returns-in_default c = let d = c.in_default in c.read_natural.ensures ∙ at_digit c.args.bytes.now (omega arith) (λ e. omega arith) (λ e. omega arith) (λ e. omega arith)
