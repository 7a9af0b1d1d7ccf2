-- Kept for the edit short_answers_1: a row that is too short counts 0.
use Rattle.std.proofs.Common.{sym, ap, ◌∙◌}
use Rattle.colliemist.specs.Count.{counted}
use Rattle.colliemist.proofs.colliemist_report.Goals as goal

pub returns-in-None : goal.returns-in-None
returns-in-None c = (ap counted (sym c.in-None.is ∙ c.report.ensures.0), c.report.ensures.1)
