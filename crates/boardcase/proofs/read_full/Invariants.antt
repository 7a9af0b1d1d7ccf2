-- Each turn reads a byte or more, or is the last. What stands at the row's start is what has been read.
use Rattle.std.proofs.Common.{◌≤◌, ◌-◌, length, take}
use Rattle.std.specs.Io.KnownBytes.{Consumes}
use Rattle.boardcase.proofs.read_full.Given as goal

abbrev pub invariant-loop-length : goal.invariant-loop-length
invariant-loop-length g l =
    (l.length ≤ length l.row) × Consumes (g.R.Read.remaining l.initial.input) (g.R.Read.remaining l.input) (take l.length l.row)

abbrev pub decreases-loop-length : goal.decreases-loop-length
decreases-loop-length g l = length l.initial.row - l.length
