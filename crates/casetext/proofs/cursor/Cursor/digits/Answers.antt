-- Kept for the edit read_refuses_the_largest_number: `Cursor::digits` stops only where the number is past the largest.
use Rattle.std.proofs.Common.{arith, sym, ◌∙◌, ◌+◌}
use Rattle.casetext.proofs.Digits.{digits_past}
use Rattle.casetext.proofs.cursor.Cursor.digits.Goals as goal

pub returns-then-most-more : goal.returns-then-most-more
returns-then-most-more c =
    let l = c.loop-i in
    let here = c.args.self.at + l.i in
    let digit = sym c.is_ascii_digit.ensures.value ∙ c.if-not-is_ascii_digit.false in
    rw (← c.rest-digits.ensures)
    (sym (digits_past c.args.most l.value here c.rest-digits.result.now l.i (omega arith) digit (omega arith)) ∙ l.invariant.1)
