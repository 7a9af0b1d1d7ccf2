-- `read_full` meets its contract where it stops early: only a read that gave no byte, and had room for one, is the input's end.
use Rattle.std.proofs.Common.{arith}
use Rattle.boardcase.proofs.read_full.Goals as goal

pub returns-then-bytes-eq0-clause-ended : goal.returns-then-bytes-eq0-clause-ended
returns-then-bytes-eq0-clause-ended g c room = c.in_ok-bytes.ensures.bytes.1 (omega arith) (omega arith)
