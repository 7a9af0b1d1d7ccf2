-- Which session is refused; and where nothing refuses a step, the next row's number fits a byte.
use mathlib.Core.Path.{◌≡◌}
use mathlib.Core.Bool.{true, not}
use Prim.Native.Nat.{ℕ, ◌≤◌}
use native.Mathlib.Omega.{arith}
use native.Mathlib.Nat.{le_trans}
use lib.Dec.{eqb}
use borrow.Author.Tests.{eqb-true, eqb-false, not-false, le-leb}
use Rattle.std.specs.Prelude.{Ok}
use Rattle.rules.specs.Tests.{◌and◌, within, first}
use Rattle.rules.specs.Places.{is_session, well_formed, rows}
use Rattle.rules.specs.Rules.{reads, holds, refusals, step_refusals}
use Rattle.rules.specs.declared.Claimant.{Claimant}
use Rattle.rules.specs.declared.Terms.{Terms}
use Rattle.rules.proofs.Choices.{decide, both, within_true, none_given}
use Rattle.rules.proofs.Shapes.{Formed, formed, between}

-- Of the numbers that a register can hold only 0 is no session.
pub no_session : (s : ℕ) → s ≤ 65535 → not (is_session s) ≡ eqb s 0
no_session s h =
    decide (eqb s 0)
    (λ e. rw (e, eqb-true s 0 e))
    (λ e. rw (e, le-leb 1 s (omega (arith, eqb-false s 0 e)), le-leb s 65535 h))

-- A well-formed record looks at a row of the table, or at none.
pub other_low : (n : ℕ) (k : Terms) (c : Claimant) → well_formed n k c ≡ true → c.other ≤ n
unfolding rows
other_low n k c e =
    let f = formed n k c e in
    between (λ c. Formed n k c → c.other ≤ n) c 0 13 (omega arith) (omega (arith, f.has_row)) (omega arith) f

-- A step is refused in a table of over 64 rows, and where the record is not well-formed.
pub next_fits : (n : ℕ) (k : Terms) (i v : ℕ) (c : Claimant) → first (step_refusals n k i v c) ≡ Ok tt → c.other ≤ 64
unfolding refusals
next_fits n k i v c e =
    let g = none_given (step_refusals n k i v c) e in
    let few = within_true 1 64 n (not-false (within 1 64 n) g.0) in
    let sound = both (well_formed n k c) (holds (reads c) k v) (not-false (well_formed n k c and holds (reads c) k v) g.1.1.0) in
    le_trans (other_low n k c sound.0) few.1
