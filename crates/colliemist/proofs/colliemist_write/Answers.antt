-- Kept for the edit write_refuses_with_9_always: the check finds this alone, but refuses the edit only at a limit.
-- A refusal is said as minus its number.
use Rattle.std.proofs.Common.{arith, sym, ap, ◌∙◌}
use Rattle.std.proofs.lemmas.Int.{ints}
use Rattle.colliemist.specs.Count.{bytes_or}
use Rattle.colliemist.proofs.colliemist_write.Goals as goal

pub returns-in-Err : goal.returns-in-Err
returns-in-Err c = (omega (arith, ints, c.minus.ensures, ap bytes_or (sym c.in-Err.is ∙ c.write.ensures.0)), c.write.ensures.1)
