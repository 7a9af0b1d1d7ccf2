-- That these things happen: the promises are not met by a lock in which nobody is refused, gets inside, waits or is overtaken.
use Rattle.std.specs.Prelude.{ℕ, ◌≤◌, true, List, ◌∷◌, ◌++◌, ◌≢◌, ◌≡◌, Err}
use Rattle.rules.specs.Answers.{refusal_number}
use Rattle.rules.specs.Tables.{Table, opened, record_of, called, after, Opens, Sound}
use Rattle.rules.specs.declared.Terms.{Terms}
use Rattle.rules.specs.declared.Call.{Call}
use Rattle.rules.specs.declared.Call.TheVariants.{Ask, Leave}
use Rattle.rules.specs.declared.Refusal.{Refusal}
use Rattle.rules.specs.declared.Refusal.TheVariants.{NotAtRest, NotInside, NoCall, NoRoom}
use Rattle.rules.specs.declared.Answer.TheVariants.{Refused}
use Rattle.store.specs.Schedules.{decoded, entered}
use Rattle.store.specs.Runs.{running}
use Rattle.promises.specs.Sequences.{place_of, at_odds, count, step_of}
use Rattle.promises.specs.Fairness.{Waits, doorway_ended, overtakes, signs}
use Rattle.promises.specs.Runs.{FreshRun, WaitsInRun, OvertakesInRun}
use Rattle.promises.specs.Waiting.{most_steps, Unhindered}

-- Some call is refused with r, some entry, some run.
abbrev pub SomeCall : Refusal → Type 0
SomeCall r = (k : Terms) × (c : Call) × (t : Table) × ((called k c t).answer ≡ Refused r)

abbrev pub SomeEntry : Refusal → Type 0
SomeEntry r = (k : Terms) × (e : ℕ) × (t : Table) × ((entered k (decoded e) t).answer ≡ Refused r)

abbrev pub SomeRun : Refusal → Type 0
SomeRun r = (k : Terms) × (schedule : List ℕ) × (row : List ℕ) × (t : Table) × ((running k schedule row t).outcome ≡ Err r)

-- Each of 1 to 8 is given to a call, 9 to an entry, 10 to a run.
unfoldable pub SomeRefused : Type 0
SomeRefused = ((r : Refusal) → refusal_number r ≤ 8 → SomeCall r) × SomeEntry NoCall × SomeRun NoRoom

-- After these calls claimants 1 and 2 are inside together, under one session.
pub record Together (n : ℕ) (k : Terms) (calls : List Call) : Type 0 where
  pub opens : Opens n k
  pub one : place_of (after k calls (opened n)) 1 ≡ 10
  pub other : place_of (after k calls (opened n)) 2 ≡ 10
  pub session : (record_of (after k calls (opened n)) 1).session ≡ (record_of (after k calls (opened n)) 2).session

unfoldable pub SomeTogether : Type 0
SomeTogether = (n : ℕ) × (k : Terms) × (calls : List Call) × Together n k calls

-- Claimant i waits through the calls `later`, and claimant j overtakes it once.
pub record Overtaken (n : ℕ) (k : Terms) (earlier later : List Call) (i j : ℕ) : Type 0 where
  pub opens : Opens n k
  pub waits : Waits n k earlier later i
  pub once : count (overtakes i j) k later (doorway_ended n k earlier i) ≡ 1

unfoldable pub SomeOvertaken : Type 0
SomeOvertaken = (n : ℕ) × (k : Terms) × (earlier : List Call) × (later : List Call) × (i : ℕ) × (j : ℕ) × Overtaken n k earlier later i j

-- The same in a run: entry q takes claimant j inside while claimant i waits.
pub record RunOvertaken (r : FreshRun) (m p i j q : ℕ) : Type 0 where
  pub waits : WaitsInRun r m p i
  pub overtakes : OvertakesInRun r m p i j q

unfoldable pub SomeRunOvertaken : Type 0
SomeRunOvertaken = (r : FreshRun) × (m : ℕ) × (p : ℕ) × (i : ℕ) × (j : ℕ) × (q : ℕ) × RunOvertaken r m p i j q

-- Claimant j signs a conflicting session while claimant i waits, and makes more steps than take it inside where nobody conflicts.
-- It is not inside before i; once i has been inside and has left, it gets inside too.
pub record Behind (n : ℕ) (k : Terms) (earlier later then last : List Call) (i j : ℕ) : Type 0 where
  pub opens : Opens n k
  pub waits : Waits n k earlier later i
  pub not_signed : place_of (after k earlier (opened n)) j ≤ 1
  pub signed : count (signs j) k later (doorway_ended n k earlier i) ≡ 1
  pub conflicting : at_odds (after k later (doorway_ended n k earlier i)) i j ≡ true
  pub many_steps : most_steps n ≤ count (step_of j) k later (doorway_ended n k earlier i)
  pub not_before : count (overtakes i j) k later (doorway_ended n k earlier i) ≡ 0
  pub first : place_of (after k (later ++ then) (doorway_ended n k earlier i)) i ≡ 10
  pub at_last : place_of (after k (later ++ then ++ last) (doorway_ended n k earlier i)) j ≡ 10

unfoldable pub SomeBehind : Type 0
SomeBehind =
    (n : ℕ) × (k : Terms) × (earlier : List Call) × (later : List Call) × (then : List Call) × (last : List Call) × (i : ℕ) × (j : ℕ)
    × Behind n k earlier later then last i j

-- Claimant i has its steps among the calls and nobody in its way, though it asks and leaves in vain at first, and another claimant makes steps too.
pub record Free (n : ℕ) (k : Terms) (s : ℕ) (calls : List Call) (t : Table) (i j : ℕ) : Type 0 where
  pub sound : Sound n k t
  pub unhindered : Unhindered n k (Ask i s ∷ Leave i ∷ calls) t i
  pub ask_refused : (called k (Ask i s) t).answer ≡ Refused NotAtRest
  pub leave_refused : (called k (Leave i) (called k (Ask i s) t).table).answer ≡ Refused NotInside
  pub not_alone : 1 ≤ count (step_of j) k calls t
  pub apart : i ≢ j

unfoldable pub SomeFree : Type 0
SomeFree = (n : ℕ) × (k : Terms) × (s : ℕ) × (calls : List Call) × (t : Table) × (i : ℕ) × (j : ℕ) × Free n k s calls t i j
