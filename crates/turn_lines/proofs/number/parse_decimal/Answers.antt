use Rattle.std.proofs.Common.{sym}
use Rattle.turn_lines.proofs.NumberLemmas.{utf8_of_decimal, decimal_not_parsed}
use Rattle.turn_lines.proofs.number.parse_decimal.Goals as goal

pub returns-in_default : goal.returns-in_default
returns-in_default c = absurd (c.in_default.ensures.cases.0 (utf8_of_decimal c.args.text.now (sym c.if-not-is_decimal.ensures)))

pub returns-in_default-parse : goal.returns-in_default-parse
returns-in_default-parse c =
    sym (decimal_not_parsed c.args.most c.args.text.now c.in-Ok.digits.now c.in_default-parse.field-0 c.ranges.most.fits
    c.in-Ok.ensures.cases.0 (rw c.in_default-parse.is at c.parse.ensures.value.0) (sym c.if-not-is_decimal.ensures))
