-- Where a claimant's record stands in the row, and what is read and written there.
use mathlib.Core.Path.{◌≡◌, refl}
use mathlib.Core.Bool.{false}
use Prim.Native.Nat.{ℕ, zero, suc, ◌-◌, ◌≤◌, ◌<◌}
use native.Mathlib.Numerals.{unary_clauses}
use native.Mathlib.Omega.{arith}
use lib.ListN.{length, set}
use lib.Seq.{set_out, set-get_or}
use borrow.Author.Tests.{le-leb, leb-false}
use Rattle.rules.specs.Tests.{within}
use Rattle.rules.specs.Records.{blank}
use Rattle.rules.specs.Tables.{Table, record_of}
use Rattle.rules.specs.declared.Claimant.{Claimant}
use Rattle.rules.proofs.Rows.{beyond}
use Rattle.store.specs.Entries.{written}

pub written_here : (t : Table) (w : ℕ) (c : Claimant) → 1 ≤ w → written t w c ≡ set t (w - 1) c
unfolding written
written_here t zero c h = absurd (omega arith)
written_here t (suc w) c h = simp unary_clauses

-- A record that is written as it was changes nothing.
pub written_same : (t : Table) (w : ℕ) → written t w (record_of t w) ≡ t
unfolding written record_of
written_same t zero = refl
written_same t (suc w) = set-get_or t w blank

-- A number that is within no row is nobody's, and nothing is written for it.
past : (n w : ℕ) → within 1 n (suc w) ≡ false → n < suc w
past n w e = leb-false (suc w) n (rw (le-leb 1 (suc w) (omega arith)) at e)

pub written_nowhere : (t : Table) (w : ℕ) (c : Claimant) → within 1 (length t) w ≡ false → written t w c ≡ t
unfolding written
written_nowhere t zero c e = refl
written_nowhere t (suc w) c e = let l = past (length t) w e in set_out t w c (omega arith)

pub record_nowhere : (t : Table) (w : ℕ) → within 1 (length t) w ≡ false → record_of t w ≡ blank
unfolding record_of
record_nowhere t zero e = refl
record_nowhere t (suc w) e = beyond t (suc w) (past (length t) w e)
