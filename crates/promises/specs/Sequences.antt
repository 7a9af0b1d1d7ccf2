-- How a sequence of calls is spoken of: where a claimant is, what a call does, how often, and what holds all the while.
use Rattle.std.specs.Prelude.{ℕ, ◌+◌, Bool, false, List, [], ◌∷◌, eqb}
use Rattle.rules.specs.Tests.{pick, ◌and◌}
use Rattle.rules.specs.Rules.{conflict}
use Rattle.rules.specs.Tables.{Table, record_of, called}
use Rattle.rules.specs.declared.Terms.{Terms}
use Rattle.rules.specs.declared.Call.{Call}
use Rattle.rules.specs.declared.Call.TheVariants.{Ask, Step, Leave}

-- The place of a claimant.
abbrev pub place_of : Table → (w : ℕ) → ℕ
place_of t w = (record_of t w).place

-- The Sessions of two claimants conflict.
abbrev pub at_odds : Table → (i j : ℕ) → Bool
at_odds t i j = conflict (record_of t i).session (record_of t j).session

-- What a call does is told by the call, the table before it and the table after it.
abbrev pub Deed : Type 0
Deed = Call → (before after : Table) → Bool

-- How many of the calls do this, made one after the other from t on.
unfoldable pub count : Deed → Terms → List Call → Table → ℕ
count does k [] t = 0
count does k (c ∷ cs) t = pick (does c t (called k c t).table) 1 0 + count does k cs (called k c t).table

-- This holds of t, and of the table after each of the calls.
abbrev pub Throughout : (Table → Type 0) → Terms → List Call → Table → Type 0
Throughout P k [] t = P t
Throughout P k (c ∷ cs) t = P t × Throughout P k cs (called k c t).table

-- The call is a step of claimant i, accepted or refused.
unfoldable pub step_of : (i : ℕ) → Deed
step_of i (Ask w s) t t' = false
step_of i (Step w) t t' = eqb w i
step_of i (Leave w) t t' = false

-- The call is an ask of claimant i that is accepted, or a leave that is: nothing else takes it from the one place to the other.
unfoldable pub asks : (i : ℕ) → Deed
asks i c t t' = eqb (place_of t i) 0 and eqb (place_of t' i) 1

unfoldable pub leaves : (i : ℕ) → Deed
leaves i c t t' = eqb (place_of t i) 10 and eqb (place_of t' i) 11
