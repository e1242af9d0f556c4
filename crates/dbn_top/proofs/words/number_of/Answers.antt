use Rattle.std.proofs.Common.{◌≡◌, ◌≤◌, List, ℕ, get_or, sym, ap, ◌∙◌, subst, arith, Err}
use Rattle.std.specs.Str.Parse.{ParsesUnsigned}
use Rattle.dbn_top.proofs.Numbers.{number_some, number_none, below_one, is_utf8, unparsed, parsed, too_great, Parsed}
use Rattle.dbn_top.proofs.words.number_of.Goals as goal

pub returns-then-first_byte-lt49 : goal.returns-then-first_byte-lt49
returns-then-first_byte-lt49 c =
    sym (number_none c.args.most c.args.digits.now (below_one c.args.most c.args.digits.now c.ranges.most.fits (omega (arith, c.first_byte.ensures))))

pub returns-in_default : goal.returns-in_default
returns-in_default c =
    sym (number_none c.args.most c.args.digits.now (λ number is. c.in_default.ensures.cases.0 (is_utf8 c.args.most c.args.digits.now c.ranges.most.fits number is)))

pub returns-in-Ok-parse : goal.returns-in-Ok-parse
returns-in-Ok-parse c =
    let text : c.in-Ok.text.now ≡ c.args.digits.now = c.in-Ok.ensures.cases.0 in
    let first : 49 ≤ get_or c.in-Ok.text.now 0 0 = omega (arith, c.first_byte.ensures, ap (λ (l : List ℕ). get_or l 0 0) text) in
    let is = parsed c.in-Ok.text.now c.in-Ok-parse.number first c.in-Ok-parse.ensures.value.0 in
    sym (number_some c.args.most c.in-Ok-parse.number c.args.digits.now c.ranges.most.fits (record { low = is.low; high = omega arith; text = sym text ∙ is.text }))

pub returns-in_default-parse : goal.returns-in_default-parse
returns-in_default-parse c =
    let text : c.in-Ok.text.now ≡ c.args.digits.now = c.in-Ok.ensures.cases.0 in
    let first : 49 ≤ get_or c.in-Ok.text.now 0 0 = omega (arith, c.first_byte.ensures, ap (λ (l : List ℕ). get_or l 0 0) text) in
    let is = parsed c.in-Ok.text.now c.in-Ok-parse.number first c.in-Ok-parse.ensures.value.0 in
    let here : Parsed c.in-Ok-parse.number c.args.digits.now = subst (Parsed c.in-Ok-parse.number) text is in
    sym (number_none c.args.most c.args.digits.now (too_great c.args.most c.in-Ok-parse.number c.args.digits.now c.ranges.most.fits (omega arith) here))

pub returns-in_default-parse-2 : goal.returns-in_default-parse-2
returns-in_default-parse-2 c =
    let text : c.in-Ok.text.now ≡ c.args.digits.now = c.in-Ok.ensures.cases.0 in
    sym (number_none c.args.most c.args.digits.now (unparsed c.args.most c.args.digits.now c.ranges.most.fits (subst (λ (l : List ℕ). ParsesUnsigned {E = Unit {0}} 64 10 l (Err tt)) text c.in_default-parse.ensures.value.0)))
