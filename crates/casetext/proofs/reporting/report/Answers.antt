-- `casetext::reporting::report` meets its contract: what the reader told says which text is printed, and every text fits.
use Rattle.std.proofs.Common.{refl, sym, length, arith}
use Rattle.std.proofs.lemmas.Bool.{lt-ltb}
use Rattle.casetext.specs.Report.{reported, report_row}
use Rattle.casetext.proofs.Reports.{printed_refused, printed_case, room_for, report_is}
use Rattle.casetext.proofs.reporting.report.Goals as goal

pub returns-then-out-lt153609 : goal.returns-then-out-lt153609
unfolding reported report_row
returns-then-out-lt153609 c = rw (lt-ltb (length c.args.out.now) 153609 (omega arith)) (refl, refl)

pub put_refusal-bytes-requires-clause-line_bound : goal.put_refusal-bytes-requires-clause-line_bound
put_refusal-bytes-requires-clause-line_bound c = (printed_refused c.args.text.now (sym c.in-Err.ensures.value)).1

pub put_refusal-bytes-requires-clause-room : goal.put_refusal-bytes-requires-clause-room
put_refusal-bytes-requires-clause-room c =
    let s = c.args.text.now in
    room_for s _ (printed_refused s (sym c.in-Err.ensures.value)).0 (omega arith)

pub put_case-bytes-requires : goal.put_case-bytes-requires
put_case-bytes-requires c =
    let s = c.args.text.now in
    (room_for s _ (printed_case s _ (sym c.in-Ok.ensures.value) c.in-Ok.ensures.drafted).0 (omega arith))

pub returns-in-Err : goal.returns-in-Err
returns-in-Err c =
    let s = c.args.text.now in
    report_is s _ (printed_refused s (sym c.in-Err.ensures.value)).0 (omega arith) c.put_refusal-bytes.ensures

pub returns-in-Ok : goal.returns-in-Ok
returns-in-Ok c =
    let s = c.args.text.now in
    report_is s _ (printed_case s _ (sym c.in-Ok.ensures.value) c.in-Ok.ensures.drafted).0 (omega arith)
    c.put_case-bytes.ensures
