-- Facts on the numbers of a trial and of a standing, for whoever argues about them; the check finds by itself what the functions by value need.
use mathlib.Core.Path.{◌≡◌, sym, ◌∙◌}
use Prim.Native.Nat.{ℕ, zero, suc, ◌*◌, ◌/◌, ◌<◌, ◌^◌}
use native.Mathlib.Omega.{arith}
use lib.Dec.{ltb}
use lib.IntN.{pos, ◌-ℤ◌}
use lib.Signed.{mag}
use borrow.Author.Tests.{ltb-true, ltb-false, lt-ltb, le-ltb}
use Rattle.rules.proofs.Choices.{decide}

-- A row of l numbers is too short for five to each of m entries.
pub fifth : (l m : ℕ) → ltb (l / 5) m ≡ ltb l (5 * m)
fifth l m =
    decide (ltb (l / 5) m)
    (λ e. e ∙ sym (lt-ltb l (5 * m) (omega (arith, ltb-true (l / 5) m e))))
    (λ e. e ∙ sym (le-ltb l (5 * m) (omega (arith, ltb-false (l / 5) m e))))

-- The difference of two 32-bit numbers fits a signed 64-bit one.
pub difference_fits : (a b : ℕ) → a < 2 ^ 32 → b < 2 ^ 32 → mag (pos a -ℤ pos b) < 2 ^ 63
difference_fits a zero p q = omega arith
difference_fits a (suc b) p q = decide (ltb a (suc b)) (λ e. rw e (omega arith)) (λ e. rw e (omega arith))
