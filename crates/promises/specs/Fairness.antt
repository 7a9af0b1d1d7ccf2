-- What the lock promises of any sequence of calls on a freshly opened table, under one ceiling, refused calls among them.
use Rattle.std.specs.Prelude.{ℕ, ◌≤◌, true, false, not, List, [], ◌∷◌, ◌++◌, ◌≡◌, eqb}
use Rattle.rules.specs.Tests.{◌and◌}
use Rattle.rules.specs.Tables.{Table, opened, called, after, Opens, Sound}
use Rattle.rules.specs.declared.Terms.{Terms}
use Rattle.rules.specs.declared.Call.{Call}
use Rattle.rules.specs.declared.Call.TheVariants.{Step}
use Rattle.promises.specs.Sequences.{place_of, at_odds, Deed, count, Throughout}

-- Every table that is reached is well-formed, so none freezes.
unfoldable pub StaysSound : Type 0
StaysSound = (n : ℕ) (k : Terms) → Opens n k → (calls : List Call) → Sound n k (after k calls (opened n))

-- Two claimants whose sessions conflict are never inside together.
unfoldable pub Exclusion : Type 0
Exclusion =
    (n : ℕ) (k : Terms) →
    Opens n k →
    (calls : List Call) (i j : ℕ) →
    let t = after k calls (opened n) in
    place_of t i ≡ 10 →
    place_of t j ≡ 10 →
    at_odds t i j ≡ false

-- The table once claimant i, at place 5 after the calls `earlier`, has made the step that ends its doorway.
abbrev pub doorway_ended : (n : ℕ) → Terms → (earlier : List Call) → (i : ℕ) → Table
doorway_ended n k earlier i = after k (earlier ++ Step i ∷ []) (opened n)

-- Claimant i ends its doorway so, and stays at places 6 to 9 through the calls `later`.
pub record Waits (n : ℕ) (k : Terms) (earlier later : List Call) (i : ℕ) : Type 0 where
  pub lowering : place_of (after k earlier (opened n)) i ≡ 5
  pub waiting : Throughout (λ t. (6 ≤ place_of t i) × (place_of t i ≤ 9)) k later (doorway_ended n k earlier i)

-- The call takes claimant j inside, under a session that conflicts with claimant i's.
unfoldable pub overtakes : (i j : ℕ) → Deed
overtakes i j c t t' = not (eqb (place_of t j) 10) and eqb (place_of t' j) 10 and at_odds t' i j

-- The call is claimant j's sign: its doorway begins.
unfoldable pub signs : (j : ℕ) → Deed
signs j c t t' = eqb (place_of t j) 1 and eqb (place_of t' j) 2

-- While a claimant waits, each other one gets inside under a conflicting session at most once ..
unfoldable pub OvertakenOnce : Type 0
OvertakenOnce =
    (n : ℕ) (k : Terms) →
    Opens n k →
    (earlier later : List Call) (i j : ℕ) →
    Waits n k earlier later i →
    count (overtakes i j) k later (doorway_ended n k earlier i) ≤ 1

-- .. and only on an earlier claim: one that was signed when the doorway ended, and is not signed anew before that call.
pub record Earlier (n : ℕ) (k : Terms) (earlier first : List Call) (i j : ℕ) : Type 0 where
  pub signed : 2 ≤ place_of (after k earlier (opened n)) j
  pub not_anew : count (signs j) k first (doorway_ended n k earlier i) ≡ 0

unfoldable pub OvertakenByEarlier : Type 0
OvertakenByEarlier =
    (n : ℕ) (k : Terms) →
    Opens n k →
    (earlier first : List Call) (c : Call) (rest : List Call) (i j : ℕ) →
    Waits n k earlier (first ++ c ∷ rest) i →
    let t = after k first (doorway_ended n k earlier i) in
    overtakes i j c t (called k c t).table ≡ true →
    Earlier n k earlier first i j
