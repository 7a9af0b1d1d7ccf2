-- The loop's invariant: the head and the do lines before this entry's are taken, and those from it on are still to come.
use Rattle.std.proofs.Common.{drop}
use Rattle.casetext.proofs.Pens.{Onward}
use Rattle.casetext.proofs.Schedules.{lines}
use Rattle.casetext.specs.Written.{schedule_text}
use Rattle.casetext.proofs.writer.case.Given as goal

abbrev pub invariant-loop-entry : goal.invariant-loop-entry
invariant-loop-entry g l =
    Onward g.S.Sink.took l.fn.sink (schedule_text l.claimants l.ceiling l.schedule) (lines (drop l.entry-index l.schedule)) l.sink
