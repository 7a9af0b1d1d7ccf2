-- The loop's invariant: the reports before the i-th entry are written, and those from it on are still to come.
use Rattle.casetext.specs.Writing.{Wrote}
use Rattle.casetext.proofs.Pens.{Onward}
use Rattle.casetext.proofs.Runs.{reports}
use Rattle.casetext.proofs.reporting.put_run.Given as goal

abbrev pub invariant-loop-i : goal.invariant-loop-i
invariant-loop-i l = Onward Wrote l.initial.pen (reports l.entries l.left 0) (reports l.entries l.left l.i) l.pen
