-- A place by its number: what holds of each of the thirteen, and nowhere, holds of every number and its place.
use mathlib.Core.Path.{◌≡◌, refl}
use mathlib.Core.Bool.{Bool}
use Prim.Native.Nat.{ℕ, ◌≤◌}
use native.Mathlib.Omega.{arith}
use lib.Dec.{leb}
use lib.ListN.{get_or-eq_default}
use borrow.Author.Tests.{leb-true, leb-false, lt-leb}
use Rattle.rules.specs.Tests.{◌and◌}
use Rattle.rules.specs.Places.{places, place_at, fits, well_formed, rows}
use Rattle.rules.specs.declared.Place.{Place}
use Rattle.rules.specs.declared.Place.TheVariants.{Rest, Sign, Raise, Scan, Take, Lower, SeeChoosing, SeeSession, SeeToken, SeeAgain}
use Rattle.rules.specs.declared.Place.TheVariants.{Inside, DropToken, DropSession, Nowhere}
use Rattle.rules.specs.declared.Claimant.{Claimant}
use Rattle.rules.specs.declared.Terms.{Terms}
use Rattle.rules.proofs.Choices.{decide}
use Rattle.rules.proofs.Shapes.{Each, each, row_at, ◌&◌}

no_place : (p : ℕ) → 13 ≤ p → place_at p ≡ Nowhere
unfolding place_at
no_place p h = get_or-eq_default places Nowhere h

pub by_place : (P : ℕ → Place → Type 0) → Each (λ p. P p (place_at p)) 0 13 → ((p : ℕ) → 13 ≤ p → P p Nowhere)
    → (p : ℕ) → P p (place_at p)
by_place P h q p =
    decide (leb p 12)
    (λ e. each (λ p. P p (place_at p)) 0 13 h p (omega arith) (omega (arith, leb-true p 12 e)))
    (λ e. let past = leb-false p 12 e in rw (no_place p past) (q p past))

-- The number of a place; nowhere stands at each number past 12, of which this is the least.
abbrev pub place_number : Place → ℕ
place_number Rest = 0
place_number Sign = 1
place_number Raise = 2
place_number Scan = 3
place_number Take = 4
place_number Lower = 5
place_number SeeChoosing = 6
place_number SeeSession = 7
place_number SeeToken = 8
place_number SeeAgain = 9
place_number Inside = 10
place_number DropToken = 11
place_number DropSession = 12
place_number Nowhere = 13

-- A record's being well-formed, by its place.
abbrev pub formed_at : Place → (n : ℕ) → Terms → Claimant → Bool
formed_at x n k c = leb (place_number x) 12 and fits (row_at (place_number x)) n k c

pub well_formed_at : (n : ℕ) (k : Terms) (c : Claimant) → well_formed n k c ≡ formed_at (place_at c.place) n k c
unfolding well_formed place_at rows
well_formed_at n k c =
    by_place (λ p x. (leb p 12 and fits (row_at p) n k c) ≡ formed_at x n k c)
    (refl & refl & refl & refl & refl & refl & refl & refl & refl & refl & refl & refl & refl & tt)
    (λ p h. rw (lt-leb p 12 h))
    c.place
