-- `casetext::writing::write_number` meets its contract: what `write_digits` writes ends where the number's digits do.
use Rattle.std.proofs.Common.{◌≡◌, ◌+◌, ◌<◌, ◌^◌, ap, arith, length}
use Rattle.casetext.specs.Numerals.{numeral}
use Rattle.casetext.proofs.Numerals.{numeral_decimal}
use Rattle.casetext.proofs.Pens.{done_to_end, left_from_end}
use Rattle.casetext.proofs.writing.write_number.Goals as goal

pub write_digits-requires : goal.write_digits-requires
write_digits-requires c =
    let small : c.args.n < 2 ^ 64 = omega arith in
    omega (arith, c.requires, ap length (numeral_decimal c.args.n small), c.digits.ensures.value)

pub returns : goal.returns
returns c =
    let a = c.args in
    let small : a.n < 2 ^ 64 = omega arith in
    let e = numeral_decimal a.n small in
    let wrote = c.write_digits.ensures in
    let at : c.write_digits.result ≡ a.at = omega (arith, wrote.start, c.digits.ensures.value, ap length e) in
    let ends : a.at + c.digits.result ≡ a.at + length (numeral a.n) = omega (arith, c.digits.ensures.value) in
    let before = rw at at wrote.before in
    let written = rw (at, ← e) at wrote.written in
    record {
      end = ends;
      done = done_to_end a.row.now _ (numeral a.n) a.at _ (omega arith) ends before written;
      left = left_from_end a.row.now _ (numeral a.n) a.at _ (omega arith) ends before written;
    }
