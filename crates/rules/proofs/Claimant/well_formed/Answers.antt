-- Kept for the edit place_13_passes: the check finds this alone, but refuses the edit only at a limit.
-- `Claimant::well_formed`: a number past 12 has no row.
use mathlib.Core.Path.{sym, ap, ◌∙◌}
use Rattle.rules.specs.declared.Place.{Place}
use Rattle.rules.proofs.Places.{formed_at, well_formed_at}
use Rattle.rules.proofs.Claimant.well_formed.Goals as goal

pub returns-in-Nowhere : goal.returns-in-Nowhere
returns-in-Nowhere c =
    let formed = λ (x : Place). formed_at x c.args.board.n c.args.board.terms c.args.self in
    ap formed (sym c.in-Nowhere.is ∙ c.from.ensures) ∙ sym (well_formed_at _ _ _)
