-- Kept for the edit ask_signs_too: the check finds this alone, but refuses the edit only at a limit.
-- `Claimant::ask`: where nothing is refused, the want alone is written, at place 1.
use mathlib.Core.Path.{sym, ◌∙◌}
use Rattle.rules.specs.Rules.{asked, unless}
use Rattle.rules.proofs.Claimant.ask.Goals as goal

pub returns : goal.returns
unfolding asked unless
returns c = rw (sym c.may_ask.ensures ∙ c.in_default.is) c.reached.ensures
