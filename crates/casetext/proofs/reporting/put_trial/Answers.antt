-- `casetext::reporting::put_trial` meets its contract: a trial's answer says which text is printed.
use Rattle.std.proofs.Common.{ℕ, ◌≤◌, length}
use lib.ListN.{replicate, length-replicate}
use Rattle.casetext.proofs.Reports.{done_text, refused_text}
use Rattle.casetext.proofs.reporting.put_trial.Goals as goal

-- The row that is lent to the trial is of N zeros.
fits : {m : ℕ} (N : ℕ) → m ≤ N → m ≤ length {A = ℕ} (replicate N 0)
fits N h = rw (length-replicate {A = ℕ} N 0) h

pub put_run-requires-clause-room : goal.put_run-requires-clause-room
put_run-requires-clause-room g c =
    rw (done_text _ _ _ c.as_slice-entries.ensures.value (fits _ c.requires.five_each) c.trial.ensures c.in-Ok.is) at c.requires.room

pub put_refusal-requires-clause-room : goal.put_refusal-requires-clause-room
put_refusal-requires-clause-room g c =
    rw (c.at.ensures, c.from.ensures)
    (rw (refused_text _ _ _ c.as_slice-entries.ensures.value (fits _ c.requires.five_each) c.trial.ensures c.in-Err.is).0 at c.requires.room)

pub returns-in-Ok : goal.returns-in-Ok
returns-in-Ok g c = rw (done_text _ _ _ c.as_slice-entries.ensures.value (fits _ c.requires.five_each) c.trial.ensures c.in-Ok.is) c.put_run.ensures

pub returns-in-Err : goal.returns-in-Err
returns-in-Err g c =
    rw (refused_text _ _ _ c.as_slice-entries.ensures.value (fits _ c.requires.five_each) c.trial.ensures c.in-Err.is).0
    (rw (c.at.ensures, c.from.ensures) at c.put_refusal.ensures)
