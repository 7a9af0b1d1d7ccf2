-- What was printed lies within the row.
use Rattle.std.proofs.Common.{sym, ◌∙◌}
use Rattle.casetext.proofs.Reports.{printed_inside, printed_part}
use Rattle.edges.proofs.tell_report.Goals as goal

pub slice_bounds-out-end : goal.slice_bounds-out-end
slice_bounds-out-end g c = printed_inside _ _ _ _ (sym c.report.ensures.0 ∙ c.in-Some.is) c.report.auto.out

pub slice_bounds-tell_end-end : goal.slice_bounds-tell_end-end
slice_bounds-tell_end-end g c = printed_part _ _ _ _ (sym c.report.ensures.0 ∙ c.in-Some.is) c.report.auto.out
