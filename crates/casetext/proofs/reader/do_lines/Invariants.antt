-- The loop's invariant: what the draft holds, and then what is still to be read, make up the whole. The measure is the room left.
use Rattle.std.proofs.Common.{◌-◌, ◌≡◌, length}
use Rattle.casetext.proofs.Gathering.{Gathering}
use Rattle.casetext.proofs.reader.do_lines.Given as goal

abbrev pub invariant-loop-here : goal.invariant-loop-here
invariant-loop-here l =
    (l.here.text.now ≡ l.lines.text.now)
    × Gathering l.claimants l.ceiling l.lines.text.now l.lines.at l.draft.items l.here.at

abbrev pub decreases-loop-here : goal.decreases-loop-here
decreases-loop-here l = 2049 - length l.draft.items
