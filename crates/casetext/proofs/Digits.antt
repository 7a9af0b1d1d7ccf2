-- Digits read one by one: past the largest number nothing is found, and a number that was read is in range.
-- Assumes nothing.
use Prim.Native.Nat.{ℕ, suc, ◌+◌, ◌-◌, ◌*◌, ◌≤◌, ◌<◌}
use native.Mathlib.Omega.{arith}
use mathlib.Core.Path.{◌≡◌}
use mathlib.Core.Bool.{true}
use mathlib.Core.List.{List, [], ◌∷◌}
use lib.ListN.{length, get_or, drop}
use lib.Seq.{drop-cons}
use lib.Dec.{eqb, leb}
use borrow.Author.Tests.{le-leb, lt-leb, leb-true}
use borrow.Table.Steps.{cases as decide}
use Rattle.std.specs.Prelude.{None, Some}
use Rattle.std.specs.Char.{is_ascii_digit}
use Rattle.casetext.specs.Pieces.{past, digits_from, number_at, field_at}
use Rattle.casetext.specs.declared.cursor.Found.{Found}
use Rattle.casetext.proofs.Finding.{found_of}

pub is_digit_lem : (b : ℕ) → 48 ≤ b → b ≤ 57 → is_ascii_digit b ≡ true
is_digit_lem b l h = rw (le-leb 48 b l, le-leb b 57 h)

pub digits_past : (most v at : ℕ) (l : List ℕ) (i : ℕ) → i < length l → is_ascii_digit (get_or l i 0) ≡ true → most < v * 10 + (get_or l i 0 - 48)
    → digits_from most v at (drop i l) ≡ None
unfolding digits_from
digits_past most v at l i h d m = rw (drop-cons l i 0 h, d, lt-leb _ _ m)

pub digits_most : (most v at : ℕ) (l : List ℕ) {f : Found} → v ≤ most → digits_from most v at l ≡ Some f → f.value ≤ most
unfolding digits_from
digits_most most v at [] {f} h e = let z : v ≡ f.value = cc in omega arith
digits_most most v at (b ∷ bs) {f} h e =
    decide (is_ascii_digit b)
    (λ d. decide (leb (v * 10 + (b - 48)) most)
    (λ m. digits_most most (v * 10 + (b - 48)) (suc at) bs (leb-true _ _ m) (rw (d, m) at e))
    (λ m. cc (rw (d, m) at e)))
    (λ d. let g = rw d at e in let z : v ≡ f.value = cc in omega arith)

pub number_most : (most : ℕ) (s : List ℕ) (at : ℕ) {f : Found} → number_at most s at ≡ Some f → f.value ≤ most
unfolding number_at
number_most most s at {f} e =
    decide (eqb (get_or s at 0) 48)
    (λ z. let g = rw z at e in let z : 0 ≡ f.value = cc in omega arith)
    (λ z. decide (is_ascii_digit (get_or s at 0))
    (λ d. digits_most most 0 at (drop at s) (omega arith) (rw (z, d) at e))
    (λ d. cc (rw (z, d) at e)))

pub field_most : (w : List ℕ) (most : ℕ) (s : List ℕ) (at : ℕ) {f : Found} → field_at w most s at ≡ Some f → f.value ≤ most
unfolding field_at
field_most w most s at e = let r = found_of (past w s at) e in number_most most s r.0 r.2

pub ruleset in_range = (number_most, field_most)
