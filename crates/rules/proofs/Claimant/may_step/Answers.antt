-- Kept for the edit step_inside: the check finds this alone, but refuses the edit only at a limit.
-- `Claimant::may_step`: who may step is neither at rest nor inside.
use mathlib.Core.Logic.{◌≢◌}
use native.Mathlib.Omega.{arith}
use borrow.Author.Rules.{rules}
use borrow.Author.Tests.{ne_eqb}
use Rattle.rules.specs.Tests.{first}
use Rattle.rules.proofs.Verdicts.{own_decides}
use Rattle.rules.proofs.Claimant.may_step.Goals as goal

pub returns : goal.returns
unfolding first
returns c =
    let p = c.args.self.place in
    let moving : p ≢ 0 = omega arith in
    let outside : p ≢ 10 = omega arith in
    own_decides _ _ _ _ _ (search rules) (rw (ne_eqb p 0 moving, ne_eqb p 10 outside))
