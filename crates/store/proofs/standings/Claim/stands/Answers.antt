-- Kept for the edit standing_the_other_way: the check finds this alone, but refuses the edit only at a limit.
-- `Claim::stands` where the tokens differ: then they decide.
use Rattle.std.proofs.Common.{arith}
use Rattle.std.proofs.lemmas.Int.{ints}
use borrow.Author.Tests.{ne_eqb}
use Rattle.store.specs.Standings.{stands}
use Rattle.store.proofs.standings.Claim.stands.Goals as goal

pub returns : goal.returns
unfolding stands
returns c = rw (← c.opposed.ensures, c.if-not-opposed.false, ne_eqb _ _ c.if-self-other.false) (omega (arith, ints))
