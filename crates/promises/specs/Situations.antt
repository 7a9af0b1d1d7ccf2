-- 01's situations P1 to P12, as the rows of a single list under a single statement.
use Rattle.std.specs.Prelude.{ℕ, ◌+◌, ◌*◌, List, [], ◌∷◌, ◌++◌, map, ◌≡◌, length, replicate, ℤ, pos, neg_ℤ}
use Rattle.rules.specs.Records.{claimant, blank}
use Rattle.rules.specs.Tables.{Table, opened}
use Rattle.rules.specs.declared.Terms.{Terms}
use Rattle.store.specs.Runs.{running}
use Rattle.store.specs.Standings.{standing_of}
use Rattle.store.specs.Answers.{outcome_number, standing_number, standing_value}

-- The standing of a against b.
pub record Standing : Type 0 where
  pub a : ℕ
  pub b : ℕ
  pub is : ℤ

abbrev pub ◌against◌is◌ : (a b : ℕ) → ℤ → Standing
◌against◌is◌ a b z = record { a = a; b = b; is = z }

infix 70 ◌against◌is◌
-- From this table, under this ceiling, this schedule gives these answers, this table at the end, and these standings there.
pub record Situation : Type 0 where
  pub from : Table
  pub ceiling : ℕ
  pub schedule : List ℕ
  pub answers : List ℕ
  pub end : Table
  pub standings : List Standing

-- A standing as it is answered: 01's number of the refusal, 0 for none, and the value.
pub record Stands : Type 0 where
  pub refusal : ℕ
  pub value : ℤ

-- What a run gives back, with 01's number of its refusal, and the standings then.
pub record Seen : Type 0 where
  pub end : Table
  pub answers : List ℕ
  pub refusal : ℕ
  pub standings : List Stands

abbrev pub terms : Situation → Terms
terms s = record { ceiling = s.ceiling }

-- The answer row that is lent has a byte more than there are entries; that byte stays.
abbrev pub spare : List ℕ
spare = 77 ∷ []

abbrev pub seen_standing : Situation → Standing → Stands
seen_standing s x =
    let z = standing_of (terms s) x.a x.b s.end in
    record { refusal = standing_number z; value = standing_value z }

unfoldable pub happens : Situation → Seen
happens s =
    let ran = running (terms s) s.schedule (replicate (length s.schedule) 0 ++ spare) s.from in
    record { end = ran.rows; answers = ran.answers; refusal = outcome_number ran.outcome; standings = map (seen_standing s) s.standings }

-- Nothing is refused.
unfoldable pub expected : Situation → Seen
expected s =
    record {
      end = s.end;
      answers = s.answers ++ spare;
      refusal = 0;
      standings = map (λ (x : Standing). record { refusal = 0; value = x.is }) s.standings;
    }

-- Entries by what they say, as 01 numbers them.
abbrev pub ask : (w s : ℕ) → ℕ
ask w s = 16777216 + w * 65536 + s

abbrev pub step : (w : ℕ) → ℕ
step w = w * 65536

abbrev pub leave : (w : ℕ) → ℕ
leave w = 33554432 + w * 65536

abbrev pub steps : (m w : ℕ) → List ℕ
steps m w = replicate m (step w)

unfoldable pub situations : List Situation
situations =
    -- P1: claimants=1, ceiling=1, `do=ask 1 7`, eight of `do=step 1`, `do=leave 1`, two of `do=step 1`.
    record {
      from = opened 1;
      ceiling = 1;
      schedule = ask 1 7 ∷ steps 8 1 ++ leave 1 ∷ steps 2 1;
      answers = 1 ∷ 2 ∷ 3 ∷ 4 ∷ 5 ∷ 6 ∷ 8 ∷ 9 ∷ 10 ∷ 11 ∷ 12 ∷ 0 ∷ [];
      end = opened 1;
      standings = [];
    } ∷
    -- P2: N = 3, others at rest: 14 steps.
    record {
      from = opened 3;
      ceiling = 9;
      schedule = ask 1 7 ∷ steps 14 1;
      answers = 1 ∷ 2 ∷ 3 ∷ 3 ∷ 3 ∷ 4 ∷ 5 ∷ 6 ∷ 8 ∷ 9 ∷ 6 ∷ 8 ∷ 6 ∷ 8 ∷ 10 ∷ [];
      end = claimant 10 0 7 1 7 0 0 ∷ blank ∷ blank ∷ [];
      standings = [];
    } ∷
    -- P3: N = 2, sessions 7 and 8, both scan before either takes: both hold token 1; 1 gets inside, 2 goes between 8 and 9.
    -- Standing of 1 against 2 is -1, the other way 1.
    record {
      from = opened 2;
      ceiling = 9;
      schedule = ask 1 7 ∷ ask 2 8 ∷ steps 4 1 ++ steps 4 2 ++ steps 2 1 ++ steps 2 2 ++ steps 5 1 ++ steps 5 2;
      answers = 1 ∷ 1 ∷ 2 ∷ 3 ∷ 3 ∷ 4 ∷ 2 ∷ 3 ∷ 3 ∷ 4 ∷ 5 ∷ 6 ∷ 5 ∷ 6 ∷ 8 ∷ 9 ∷ 6 ∷ 8 ∷ 10 ∷ 8 ∷ 9 ∷ 8 ∷ 9 ∷ 8 ∷ [];
      end = claimant 10 0 7 1 7 0 0 ∷ claimant 8 0 8 1 8 1 0 ∷ [];
      standings = (1 against 2 is neg_ℤ (pos 1)) ∷ (2 against 1 is pos 1) ∷ [];
    } ∷
    -- P4: claimant 1 of session 7 at 6 looks at a raised claimant 2 of session 8: 6, 7, 6.
    record {
      from = claimant 6 0 7 1 7 2 0 ∷ claimant 3 1 8 0 8 1 0 ∷ [];
      ceiling = 9;
      schedule = steps 2 1;
      answers = 7 ∷ 6 ∷ [];
      end = claimant 6 0 7 1 7 2 0 ∷ claimant 3 1 8 0 8 1 0 ∷ [];
      standings = [];
    } ∷
    -- P5: with session 7 for both: 6, 7, 8.
    record {
      from = claimant 6 0 7 1 7 2 0 ∷ claimant 3 1 7 0 7 1 0 ∷ [];
      ceiling = 9;
      schedule = steps 2 1;
      answers = 7 ∷ 8 ∷ [];
      end = claimant 8 0 7 1 7 2 0 ∷ claimant 3 1 7 0 7 1 0 ∷ [];
      standings = [];
    } ∷
    -- P6: ceiling 1, claimant 1 holds token 1: claimant 2 takes and answers 31, place 12 ..
    record {
      from = claimant 10 0 7 1 7 0 0 ∷ blank ∷ [];
      ceiling = 1;
      schedule = ask 2 8 ∷ steps 5 2;
      answers = 1 ∷ 2 ∷ 3 ∷ 3 ∷ 4 ∷ 31 ∷ [];
      end = claimant 10 0 7 1 7 0 0 ∷ claimant 12 0 8 0 8 0 0 ∷ [];
      standings = [];
    } ∷
    -- .. then 0.
    record {
      from = claimant 10 0 7 1 7 0 0 ∷ claimant 12 0 8 0 8 0 0 ∷ [];
      ceiling = 1;
      schedule = steps 1 2;
      answers = 0 ∷ [];
      end = claimant 10 0 7 1 7 0 0 ∷ blank ∷ [];
      standings = [];
    } ∷
    -- P7: 1 inside under 7 with token 1, 2 waiting under 8 with token 2, 3 asks under 7 and takes token 3: 3 waits at row 2.
    record {
      from = claimant 10 0 7 1 7 0 0 ∷ claimant 8 0 8 2 8 1 0 ∷ blank ∷ [];
      ceiling = 9;
      schedule = ask 3 7 ∷ steps 15 3;
      answers = 1 ∷ 2 ∷ 3 ∷ 3 ∷ 3 ∷ 4 ∷ 5 ∷ 6 ∷ 8 ∷ 9 ∷ 6 ∷ 8 ∷ 9 ∷ 8 ∷ 9 ∷ 8 ∷ [];
      end = claimant 10 0 7 1 7 0 0 ∷ claimant 8 0 8 2 8 1 0 ∷ claimant 8 0 7 3 7 2 0 ∷ [];
      standings = (3 against 2 is pos 1) ∷ (3 against 1 is pos 0) ∷ [];
    } ∷
    -- P8: ask with session 0 by a claimant not at rest: 5.
    record {
      from = claimant 1 0 0 0 7 0 0 ∷ [];
      ceiling = 9;
      schedule = ask 1 0 ∷ [];
      answers = 37 ∷ [];
      end = claimant 1 0 0 0 7 0 0 ∷ [];
      standings = [];
    } ∷
    -- P9: leave at 9: 7; step at 10: 8.
    record {
      from = claimant 9 0 7 1 7 1 0 ∷ claimant 10 0 7 1 7 0 0 ∷ [];
      ceiling = 9;
      schedule = leave 1 ∷ step 2 ∷ [];
      answers = 39 ∷ 40 ∷ [];
      end = claimant 9 0 7 1 7 1 0 ∷ claimant 10 0 7 1 7 0 0 ∷ [];
      standings = [];
    } ∷
    -- P10: 16,842,759 is ask 1 7 ..
    record {
      from = opened 1;
      ceiling = 9;
      schedule = 16842759 ∷ [];
      answers = 1 ∷ [];
      end = claimant 1 0 0 0 7 0 0 ∷ [];
      standings = [];
    } ∷
    -- .. 33,619,968 is leave 1; 50,397,184 answers 41.
    record {
      from = claimant 10 0 7 1 7 0 0 ∷ [];
      ceiling = 9;
      schedule = 33619968 ∷ 50397184 ∷ [];
      answers = 11 ∷ 41 ∷ [];
      end = claimant 11 0 7 1 7 0 0 ∷ [];
      standings = [];
    } ∷
    -- P11: tokens 4,294,967,295 and 1, sessions 7 and 8: standing 4,294,967,294.
    record {
      from = claimant 6 0 7 4294967295 7 1 0 ∷ claimant 6 0 8 1 8 1 0 ∷ [];
      ceiling = 4294967295;
      schedule = [];
      answers = [];
      end = claimant 6 0 7 4294967295 7 1 0 ∷ claimant 6 0 8 1 8 1 0 ∷ [];
      standings = (1 against 2 is pos 4294967294) ∷ (2 against 1 is neg_ℤ (pos 4294967294)) ∷ [];
    } ∷
    -- P12: empty schedule: nothing changes.
    record {
      from = claimant 6 0 7 1 7 2 0 ∷ claimant 3 1 8 0 8 1 0 ∷ [];
      ceiling = 9;
      schedule = [];
      answers = [];
      end = claimant 6 0 7 1 7 2 0 ∷ claimant 3 1 8 0 8 1 0 ∷ [];
      standings = [];
    } ∷ []

-- In each situation what happens is what it says.
unfoldable pub AsExpected : Type 0
AsExpected = map happens situations ≡ map expected situations
