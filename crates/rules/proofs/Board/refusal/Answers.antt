-- Kept for the edit opening_refuses_by_1_at_least: the number handed in stands alone.
use Rattle.std.proofs.Common.{arith}
use Rattle.rules.proofs.Board.refusal.Goals as goal

pub returns-in-Ok : goal.returns-in-Ok
returns-in-Ok c = rw (← c.opens.ensures, c.in-Ok.is) (omega arith)
