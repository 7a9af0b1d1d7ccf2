-- Kept for the edit read_changes_the_ceiling_alone: the check finds this alone, but refuses the edit only at a limit.
-- What was read is said in plain numbers.
use Rattle.std.proofs.Common.{arith, sym, ap, ◌∙◌}
use Rattle.std.proofs.lemmas.Int.{ints}
use Rattle.casetext.specs.Answers.{reading_line}
use Rattle.colliemist.specs.Count.{entries_or, claimants_or, ceiling_or}
use Rattle.colliemist.proofs.colliemist_read.Goals as goal

pub returns-in-Ok : goal.returns-in-Ok
returns-in-Ok c =
    let e = sym c.in-Ok.is ∙ c.read.ensures.0 in (
      omega (arith, ints, c.count.ensures, ap entries_or e),
      c.read.ensures.1,
      ap (claimants_or c.args.claimants.now) e,
      ap (ceiling_or c.args.ceiling.now) e,
      ap reading_line e,
    )
