-- Kept for the edit scan_reads_session: at 3 and 8 `Claimant::reads` gives a token.
use mathlib.Core.Path.{sym, ap, ◌∙◌}
use mathlib.Core.Logic.{⊎_elim}
use Rattle.rules.specs.Rules.{read_at, reads}
use Rattle.rules.specs.declared.Place.{Place}
use Rattle.rules.proofs.Claimant.reads.Goals as goal

pub returns-in-Scan : goal.returns-in-Scan
unfolding reads read_at
returns-in-Scan c =
    let read = λ (x : Place). read_at x c.args.self.other in
    ⊎_elim (λ e. ap read (sym e ∙ c.from.ensures)) (λ e. ap read (sym e ∙ c.from.ensures)) c.in-Scan.is
