-- What was written lies within the row.
use Rattle.std.proofs.Common.{sym, ◌∙◌, length-take-le}
use Rattle.casetext.proofs.RoundTrips.{written_within}
use Rattle.edges.proofs.tell_written.Goals as goal

pub slice_bounds-tell_end-end : goal.slice_bounds-tell_end-end
slice_bounds-tell_end-end g c =
    sym (length-take-le _ c.write.new.out (rw c.write.auto.out (written_within _ _ _ _ _ (sym c.write.ensures.0 ∙ c.in-Ok.is)).1))
