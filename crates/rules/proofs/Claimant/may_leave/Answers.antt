-- Kept for the edit leave_from_9: the check finds this alone, but refuses the edit only at a limit.
-- `Claimant::may_leave`: who may leave is inside.
use mathlib.Core.Path.{◌≡◌}
use native.Mathlib.Omega.{arith}
use borrow.Author.Rules.{rules}
use Rattle.rules.specs.Tests.{first}
use Rattle.rules.proofs.Verdicts.{own_decides}
use Rattle.rules.proofs.Claimant.may_leave.Goals as goal

pub returns : goal.returns
unfolding first
returns c =
    let inside : c.args.self.place ≡ 10 = omega arith in
    own_decides _ _ _ _ _ (search rules) (rw inside)
