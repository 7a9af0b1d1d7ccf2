-- What was printed lies within the row, and is what is printed of all that the reader had.
use Rattle.std.proofs.Common.{◌∙◌, sym, arith, subst}
use Rattle.std.specs.Io.KnownBytes.{Appends}
use Rattle.casetext.proofs.Reports.{printed_inside, printed_part}
use Rattle.boardcase.proofs.Reports.{printed_read, reported_read, report_row_start, never_short}
use Rattle.boardcase.proofs.answer.Goals as goal

pub slice_bounds-out-end : goal.slice_bounds-out-end
slice_bounds-out-end g c = printed_inside _ _ _ _ (sym c.report.ensures.0 ∙ c.in-Some.is) c.report.auto.out

pub slice_bounds-write_all-end : goal.slice_bounds-write_all-end
slice_bounds-write_all-end g c = printed_part _ _ _ _ (sym c.report.ensures.0 ∙ c.in-Some.is) c.report.auto.out

pub returns-in_ok-write_all : goal.returns-in_ok-write_all
returns-in_ok-write_all g c =
    let written = Appends (g.W.Write.contents c.args.output.now) (g.W.Write.contents c.write_all.new.self) in
    let read = c.in_ok-length.ensures in
    let report = report_row_start _ _ (omega arith) (sym c.report.ensures.0 ∙ c.in-Some.is) c.report.ensures.1 in
    printed_read written _ _ c.read_full.new.row _ (omega arith) read.within read.taken read.ended
    (reported_read written _ (subst written report c.in_ok-write_all.ensures.bytes) (omega (arith, read.within)))

pub returns-in_default : goal.returns-in_default
returns-in_default g c = absurd (never_short _ _ (omega arith) (sym c.report.ensures.0 ∙ c.in_default.is))
