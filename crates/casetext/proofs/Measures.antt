-- How long numbers, lines and schedules' texts are.
-- Assumes nothing.
use Prim.Native.Nat.{ℕ, zero, suc, ◌+◌, ◌*◌, ◌/◌, ◌^◌, ◌≤◌, ◌<◌, max}
use native.Mathlib.Omega.{arith}
use mathlib.Core.Path.{◌≡◌, ap, ◌∙◌}
use lib.ListN.{length, length-append}
use lib.Dec.{ltb}
use borrow.Author.Tests.{ltb-true, ltb-false}
use borrow.Table.Steps.{cases as decide}
use Rattle.rules.specs.declared.Call.{Call}
use Rattle.rules.specs.declared.Call.TheVariants.{Ask, Step, Leave}
use Rattle.casetext.specs.Numerals.{numeral}
use Rattle.casetext.specs.Layout.{head_text, turn_text, do_text}
use Rattle.casetext.proofs.Numerals.{numeral_one, numeral_more}

pub size_one : (n : ℕ) → n < 10 → length (numeral n) ≡ 1
size_one n h = ap length (numeral_one n h)

size_more : (n : ℕ) → 10 ≤ n → length (numeral n) ≡ 1 + length (numeral (n / 10))
size_more n h = ap length (numeral_more n h) ∙ rw length-append (omega arith)

-- a number from 10 ^ k up to 10 ^ (k + 1)
pub size_at : (k n : ℕ) → 10 ^ k ≤ n → n < 10 ^ suc k → length (numeral n) ≡ suc k
size_at zero n h g = size_one n (omega arith)
size_at (suc k) n h g = omega (arith, size_more n (some h), size_at k (n / 10) (omega arith) (omega arith))
  where
    some : 10 ^ suc k ≤ n → 10 ≤ n
    some h = omega (arith)

-- one digit more than its logarithm; 0 has one too
pub size_by_log : (k n : ℕ) → 10 ^ k ≤ max n 1 → max n 1 < 10 * 10 ^ k → k + 1 ≡ length (numeral n)
size_by_log zero n h g = omega (arith, size_one n (omega arith))
size_by_log (suc k) n h g = omega (arith, size_at (suc k) n (omega arith) (omega arith))

-- one below 10 ^ k has at most k digits
pub numeral_short : (k n : ℕ) → n < 10 ^ k → 1 ≤ k → length (numeral n) ≤ k
numeral_short zero n h o = absurd (omega arith)
numeral_short (suc k) n h o =
    decide (ltb n 10) (λ t. rw (size_one n (ltb-true _ _ t)) (omega arith))
    (λ t.
    let ten = ltb-false n 10 t in
    omega (arith, size_more n ten, numeral_short k (n / 10) (omega arith) (some k h ten)))
  where
    some : (k : ℕ) → n < 10 ^ suc k → 10 ≤ n → 1 ≤ k
    some zero h g = absurd (omega arith)
    some (suc k) h g = omega arith

pub head_size : (n k : ℕ) → length (head_text n k) ≡ 20 + length (numeral n) + length (numeral k)
head_size n k = simp length-append (omega arith)

pub ask_size : (w s : ℕ) → length (turn_text (Ask w s)) ≡ 5 + length (numeral w) + length (numeral s)
unfolding turn_text
ask_size w s = simp length-append (omega arith)

pub step_size : (w : ℕ) → length (turn_text (Step w)) ≡ 5 + length (numeral w)
unfolding turn_text
step_size w = simp length-append (omega arith)

pub leave_size : (w : ℕ) → length (turn_text (Leave w)) ≡ 6 + length (numeral w)
unfolding turn_text
leave_size w = simp length-append (omega arith)

pub do_size : (c : Call) → length (do_text c) ≡ 3 + length (turn_text c) + 1
do_size c = simp length-append (omega arith)
