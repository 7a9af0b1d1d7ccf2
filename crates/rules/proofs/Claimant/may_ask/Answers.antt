-- Kept for the edit ask_refuses_6_before_5: the check finds this alone, but refuses the edit only at a limit.
-- `Claimant::may_ask`: who asks from elsewhere than rest asks for a session all the same.
use Prim.Native.Nat.{◌≤◌}
use native.Mathlib.Omega.{arith}
use borrow.Author.Rules.{rules}
use borrow.Author.Tests.{le-leb, ne_eqb}
use Rattle.rules.specs.Tests.{first}
use Rattle.rules.proofs.Verdicts.{own_decides}
use Rattle.rules.proofs.Claimant.may_ask.Goals as goal

pub returns-then-self : goal.returns-then-self
unfolding first
returns-then-self c =
    let s = c.args.session in
    let some : 1 ≤ s = omega arith in
    own_decides _ _ _ _ _ (search rules)
    (rw (le-leb 1 s some, le-leb s 65535 (omega arith), ne_eqb c.args.self.place 0 c.if-self.true))
