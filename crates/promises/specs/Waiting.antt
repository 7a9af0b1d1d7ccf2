-- Waiting that needs no waiting: how many own steps take a claimant inside that nobody is in the way of, and back to rest.
use Rattle.std.specs.Prelude.{ℕ, ◌+◌, ◌*◌, ◌≤◌, false, List, ◌≢◌, ◌↔◌, ◌≡◌, eqb, replicate}
use Rattle.rules.specs.Tests.{◌and◌}
use Rattle.rules.specs.Rules.{conflict}
use Rattle.rules.specs.Tables.{Table, record_of, called, after, Sound}
use Rattle.rules.specs.declared.Terms.{Terms}
use Rattle.rules.specs.declared.Call.{Call}
use Rattle.rules.specs.declared.Call.TheVariants.{Step, Leave}
use Rattle.promises.specs.Sequences.{place_of, Deed, count, Throughout, step_of, asks, leaves}

-- Own steps from the ask to the inside: the most where nobody conflicts ..
abbrev pub most_steps : (n : ℕ) → ℕ
most_steps n = 5 * n + 3

-- .. and exactly what it takes with all others at rest.
abbrev pub lone_steps : (n : ℕ) → ℕ
lone_steps n = 3 * n + 5

-- Own steps from the leave to rest.
abbrev pub closing_steps : ℕ
closing_steps = 2

-- No other claimant's Session conflicts with the session that claimant i wants.
abbrev pub Unopposed : (i : ℕ) → Table → Type 0
Unopposed i t = (j : ℕ) → j ≢ i → conflict (record_of t j).session (record_of t i).want ≡ false

-- The call turns claimant i away.
unfoldable pub turns_away : (i : ℕ) → Deed
turns_away i c t t' = eqb (place_of t i) 4 and eqb (place_of t' i) 12

-- Claimant i has asked, and has all those steps among the calls from then on. Meanwhile no leave of its own is accepted.
pub record Unhindered (n : ℕ) (k : Terms) (calls : List Call) (t : Table) (i : ℕ) : Type 0 where
  pub asked : place_of t i ≡ 1
  pub nobody_conflicts : Throughout (Unopposed i) k calls t
  pub not_turned_away : count (turns_away i) k calls t ≡ 0
  pub no_leave : count (leaves i) k calls t ≡ 0
  pub steps : most_steps n ≤ count (step_of i) k calls t

-- Then it is inside, whatever the others do in between: it takes at most 5 N + 3 own steps.
unfoldable pub InsideSoon : Type 0
InsideSoon =
    (n : ℕ) (k : Terms) (calls : List Call) (t : Table) (i : ℕ) →
    Sound n k t →
    Unhindered n k calls t i →
    place_of (after k calls t) i ≡ 10

-- With all others at rest it is inside after exactly 3 N + 5 of its steps: then, and not before.
unfoldable pub InsideAlone : Type 0
InsideAlone =
    (n : ℕ) (k : Terms) (t : Table) (i : ℕ) →
    Sound n k t →
    place_of t i ≡ 1 →
    ((j : ℕ) → j ≢ i → place_of t j ≡ 0) →
    (m : ℕ) →
    place_of (after k (replicate m (Step i)) t) i ≡ 10 ↔ lone_steps n ≤ m

-- After leave it is at rest in 2 steps, whatever the others do in between, until an ask of its own is accepted.
unfoldable pub BackToRest : Type 0
BackToRest =
    (n : ℕ) (k : Terms) (calls : List Call) (t : Table) (i : ℕ) →
    Sound n k t →
    place_of t i ≡ 10 →
    let t' = (called k (Leave i) t).table in
    count (asks i) k calls t' ≡ 0 →
    place_of (after k calls t') i ≡ 0 ↔ closing_steps ≤ count (step_of i) k calls t'
