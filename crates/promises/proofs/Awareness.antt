-- A claimant that scans row i before it takes its token takes one above claimant i's.
use mathlib.Core.Path.{◌≡◌, refl, ap}
use Prim.Native.Nat.{ℕ, ◌≤◌, ◌<◌, max}
use native.Mathlib.Omega.{arith}
use lib.Dec.{eqb}
use borrow.Author.Tests.{eqb-true, eqb-false}
use Rattle.rules.specs.Records.{claimant}
use Rattle.rules.specs.declared.Claimant.{Claimant}
use Rattle.rules.specs.declared.Terms.{Terms}
use Rattle.rules.proofs.Choices.{decide}
use Rattle.rules.proofs.Moves.{Choice}
use Rattle.rules.proofs.Moves.Choice.{raises, scans, takes}
use Rattle.rules.proofs.Moves.Onward.{next_row, last_row}

-- Record d does not choose a token unaware of claimant i's token t: it has yet to scan row i, or has seen at least t.
pub record Aware (i t : ℕ) (d : Claimant) : Type 0 where
  pub scanning : d.place ≡ 3 → i < d.other → t ≤ d.seen
  pub taking : d.place ≡ 4 → t ≤ d.seen

pub record Chose (i t : ℕ) (d : Claimant) : Type 0 where
  pub aware : Aware i t d
  pub above : 5 ≤ d.place → t < d.token

module _ (n i : ℕ) (at : ℕ → Claimant) (low : 1 ≤ i) (high : i ≤ n) where
  sees : {x s t w o m : ℕ} → Aware i (at i).token (claimant 3 x s t w o m) → i ≤ o → (at i).token ≤ max m (at o).token
  sees {o} {m} f l =
      decide (eqb i o)
      (λ e. let q : (at i).token ≡ (at o).token = ap (λ (r : ℕ). (at r).token) (eqb-true i o e) in omega arith)
      (λ e. omega (arith, f.scanning refl (omega (arith, eqb-false i o e))))

  pub stays_aware : {k : Terms} {d d' : Claimant} → Choice n k at d d' → Aware i (at i).token d → Chose i (at i).token d'
  stays_aware raises f = omega arith
  stays_aware (scans (next_row u)) f =
      record { aware = record { scanning = λ e h. sees f (omega arith); taking = omega arith }; above = omega arith }
  stays_aware (scans (last_row u)) f =
      record { aware = record { scanning = omega arith; taking = λ e. sees f (omega arith) }; above = omega arith }
  stays_aware (takes u) f = omega (arith, f.taking refl)
