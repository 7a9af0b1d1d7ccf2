-- The loop's invariant: reading on from here gives what reading from the start gives.
use Rattle.std.proofs.Common.{◌≡◌, ◌+◌, ◌≤◌, drop}
use Rattle.casetext.specs.Pieces.{digits_from}
use Rattle.casetext.proofs.cursor.Cursor.digits.Given as goal

abbrev pub invariant-loop-i : goal.invariant-loop-i
invariant-loop-i l =
    (l.value ≤ l.most)
    × (digits_from l.most l.value (l.self.at + l.i) (drop l.i l.digits) ≡ digits_from l.most 0 l.self.at l.digits)
