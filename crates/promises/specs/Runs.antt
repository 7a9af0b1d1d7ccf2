-- Runs: one is such a sequence of calls, and what is promised of those is promised of the tables and answers that `run` gives back, and of what
-- is printed.
use Rattle.std.specs.Prelude.{ℕ, suc, ◌+◌, ◌*◌, ◌≤◌, ◌<◌, true, false, List, [], ◌∷◌, ◌++◌, ◌≢◌, ◌≡◌, length, get_or, take, drop, Ok, Err}
use Rattle.rules.specs.Tests.{pick, first}
use Rattle.rules.specs.Answers.{refusal_number}
use Rattle.rules.specs.Tables.{Table, opened, record_of, after, Opens}
use Rattle.rules.specs.declared.Terms.{Terms}
use Rattle.rules.specs.declared.Call.{Call}
use Rattle.rules.specs.declared.Refusal.{Refusal}
use Rattle.store.specs.Schedules.{claimant_in, is_nine, call_of, ran}
use Rattle.store.specs.Runs.{Ran, running}
use Rattle.store.specs.Trials.{traced}
use Rattle.promises.specs.Sequences.{place_of, at_odds}
use Rattle.promises.specs.Refusals.{entry_refusals}

-- The calls of a schedule: those of its entries, but for the entries that are refused with 9.
unfoldable pub calls_in : (schedule : List ℕ) → List Call
calls_in [] = []
calls_in (e ∷ es) = pick (is_nine e) [] (call_of e ∷ []) ++ calls_in es

-- Wherever a schedule is cut in two, the table after it is that after the calls of the one part and then of the other.
unfoldable pub RunMakesCalls : Type 0
RunMakesCalls =
    (k : Terms) (earlier later : List ℕ) (t : Table) →
    ran k (earlier ++ later) t ≡ after k (calls_in earlier ++ calls_in later) t

-- Two claimants whose sessions conflict are not inside together after a run on a freshly opened table, accepted or refused.
unfoldable pub RunExcludes : Type 0
RunExcludes =
    (n : ℕ) (k : Terms) →
    Opens n k →
    (schedule row : List ℕ) (i j : ℕ) →
    let t = (running k schedule row (opened n)).rows in
    place_of t i ≡ 10 →
    place_of t j ≡ 10 →
    at_odds t i j ≡ false

-- A run on a freshly opened table, with a byte in the answer row for each entry: nothing refuses it.
pub record FreshRun : Type 0 where
  pub claimants : ℕ
  pub terms : Terms
  pub schedule : List ℕ
  pub row : List ℕ
  pub opens : Opens claimants terms
  pub room : length schedule ≤ length row

-- What `run` gives back, and the table that it gives back for the first m entries alone.
abbrev pub whole : FreshRun → Ran
whole r = running r.terms r.schedule r.row (opened r.claimants)

unfoldable pub table_at : FreshRun → (m : ℕ) → Table
table_at r m = (running r.terms (take m r.schedule) r.row (opened r.claimants)).rows

-- The entry after the first i.
abbrev pub entry_at : FreshRun → (i : ℕ) → ℕ
entry_at r i = get_or r.schedule i 0

-- An entry refused with x changes no record, is answered 32 + 01's number of x, and the run goes on.
unfoldable pub RefusedInRun : Type 0
RefusedInRun =
    (r : FreshRun) (i : ℕ) (x : Refusal) →
    i < length r.schedule →
    first (entry_refusals r.terms (entry_at r i) (table_at r i)) ≡ Err x →
    (table_at r (suc i) ≡ table_at r i) × (get_or (whole r).answers i 0 ≡ 32 + refusal_number x)

-- The numbers that `boardcase` prints.
abbrev pub trace : FreshRun → List ℕ
trace r = traced r.terms r.schedule (opened r.claimants)

-- Five of the entry after the first i: place, Session, Choosing and Token of the claimant that it names, in the table that the run has come to by
-- it, and the byte that the run answers. That table is the one after the calls made so far.
pub record Shows (r : FreshRun) (i : ℕ) : Type 0 where
  pub numbers :
      let c = record_of (table_at r (suc i)) (claimant_in (entry_at r i)) in
      take 5 (drop (5 * i) (trace r)) ≡ c.place ∷ c.session ∷ c.choosing ∷ c.token ∷ get_or (whole r).answers i 0 ∷ []
  pub table : table_at r (suc i) ≡ after r.terms (calls_in (take (suc i) r.schedule)) (opened r.claimants)

-- The run is accepted, nothing else is printed, and the last of these tables is the one that the run gives back.
pub record TraceShows (r : FreshRun) : Type 0 where
  pub accepted : (whole r).outcome ≡ Ok tt
  pub entries : (i : ℕ) → i < length r.schedule → Shows r i
  pub no_more : length (trace r) ≡ 5 * length r.schedule
  pub end : table_at r (length r.schedule) ≡ (whole r).rows

unfoldable pub TraceShowsRun : Type 0
TraceShowsRun = (r : FreshRun) → TraceShows r

-- Entry q takes a claimant from one place to another.
pub record Goes (r : FreshRun) (q w from to : ℕ) : Type 0 where
  pub starts : place_of (table_at r q) w ≡ from
  pub ends : place_of (table_at r (suc q)) w ≡ to

-- Entry m ends claimant i's doorway, and i stays at places 6 to 9 from then on, up to the table after the first p entries.
pub record WaitsInRun (r : FreshRun) (m p i : ℕ) : Type 0 where
  pub lowering : Goes r m i 5 6
  pub waiting : (q : ℕ) → m < q → q ≤ p → (6 ≤ place_of (table_at r q) i) × (place_of (table_at r q) i ≤ 9)

-- Meanwhile entry q takes claimant j inside, under a session that conflicts with claimant i's.
pub record OvertakesInRun (r : FreshRun) (m p i j q : ℕ) : Type 0 where
  pub later : m < q
  pub meanwhile : q < p
  pub outside : place_of (table_at r q) j ≢ 10
  pub inside : place_of (table_at r (suc q)) j ≡ 10
  pub odds : at_odds (table_at r (suc q)) i j ≡ true

-- While a claimant waits, each other one does that at most once ..
unfoldable pub RunOvertakenOnce : Type 0
RunOvertakenOnce =
    (r : FreshRun) (m p i j q q' : ℕ) →
    WaitsInRun r m p i →
    OvertakesInRun r m p i j q →
    OvertakesInRun r m p i j q' →
    q ≡ q'

-- .. and only on an earlier claim: one that was signed when the doorway ended, and is not signed anew before that entry.
pub record EarlierInRun (r : FreshRun) (m j q : ℕ) : Type 0 where
  pub signed : 2 ≤ place_of (table_at r m) j
  pub not_anew : (x : ℕ) → m ≤ x → x < q → ¬ (Goes r x j 1 2)

unfoldable pub RunOvertakenByEarlier : Type 0
RunOvertakenByEarlier =
    (r : FreshRun) (m p i j q : ℕ) →
    WaitsInRun r m p i →
    OvertakesInRun r m p i j q →
    EarlierInRun r m j q
