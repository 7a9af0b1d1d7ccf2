-- Calls that are refused, and sequences in which claimants are inside together, overtake once, and stay behind.
use mathlib.Core.Path.{refl}
use mathlib.Core.List.{[], ◌∷◌, ◌++◌}
use Prim.Native.Nat.{◌≤◌}
use native.Mathlib.Omega.{arith}
use lib.ListN.{replicate}
use Rattle.rules.specs.Records.{claimant}
use Rattle.rules.specs.Tables.{opened, record_of, after}
use Rattle.rules.specs.declared.Terms.{Terms}
use Rattle.rules.specs.declared.Call.TheVariants.{Ask, Step, Leave}
use Rattle.rules.specs.Answers.{refusal_number}
use Rattle.rules.specs.declared.Refusal.{Refusal}
use Rattle.rules.specs.declared.Refusal.TheVariants.{RowCount, NoCeiling, Broken, NoClaimant, NoSession, NotAtRest, NotInside, NoStep, NoCall, NoRoom}
use Rattle.rules.specs.declared.Refusal.TheVariants.{TooLong, BadLine, TooManyLines}
use Rattle.rules.proofs.Shapes.{each}
use Rattle.rules.proofs.Rows.{opened_sound}
use Rattle.rules.proofs.Keeping.{sound_after}
use Rattle.promises.specs.Sequences.{place_of, count, step_of, leaves}
use Rattle.promises.specs.Fairness.{overtakes, signs}
use Rattle.promises.specs.Runs.{FreshRun, table_at}
use Rattle.promises.specs.Situations.{ask, step, steps}
use Rattle.promises.specs.Waiting.{Unopposed, turns_away}
use Rattle.promises.specs.Witnesses.{SomeCall, SomeRefused, SomeTogether, SomeOvertaken, SomeRunOvertaken, SomeBehind, SomeFree}
use Rattle.promises.proofs.Computing.{computing, computing_runs}
use Rattle.promises.proofs.Always.{always, throughout, waiting, calm, unopposed}

k : Terms
k = record { ceiling = 9 }

-- A call for each of 1 to 8, an entry and a run.
some_call : (r : Refusal) → refusal_number r ≤ 8 → SomeCall r
unfolding computing k
some_call RowCount h = (k, Step 1, [], refl)
some_call NoCeiling h = (record { ceiling = 0 }, Step 1, opened 1, refl)
some_call Broken h = (k, Step 1, claimant 13 0 0 0 0 0 0 ∷ [], refl)
some_call NoClaimant h = (k, Step 2, opened 1, refl)
some_call NoSession h = (k, Ask 1 0, opened 1, refl)
some_call NotAtRest h = (k, Ask 1 7, claimant 1 0 0 0 7 0 0 ∷ [], refl)
some_call NotInside h = (k, Leave 1, opened 1, refl)
some_call NoStep h = (k, Step 1, opened 1, refl)
some_call NoCall h = absurd (omega arith)
some_call NoRoom h = absurd (omega arith)
some_call TooLong h = absurd (omega arith)
some_call BadLine h = absurd (omega arith)
some_call TooManyLines h = absurd (omega arith)

pub some_refused : SomeRefused
unfolding SomeRefused computing_runs k
some_refused = (some_call, (k, 50397184, opened 1, refl), (k, step 1 ∷ [], [], opened 1, refl))

-- 1 goes inside, and 2 after it.
pub some_together : SomeTogether
unfolding SomeTogether computing k
some_together = (
  2,
  k,
  Ask 1 7 ∷ Ask 2 7 ∷ replicate 11 (Step 1) ++ replicate 13 (Step 2),
  record { opens = omega arith; one = refl; other = refl; session = refl },
)

-- 1 takes token 1 and 2 takes token 2; 1 goes inside, leaves, asks again and gets no further.
pub some_overtaken : SomeOvertaken
unfolding SomeOvertaken computing k always count overtakes
some_overtaken =
    let earlier = Ask 1 7 ∷ Ask 2 8 ∷ replicate 6 (Step 1) ++ replicate 5 (Step 2) in
    let later = replicate 5 (Step 1) ++ Leave 1 ∷ Step 1 ∷ Step 1 ∷ Ask 1 7 ∷ replicate 20 (Step 1) in
    (2, k, earlier, later, 2, 1, record { opens = omega arith; waits = waiting 2 k earlier later 2 refl refl; once = refl })

-- The same as a run, as far as the entry that takes 1 inside.
pub some_run_overtaken : SomeRunOvertaken
unfolding SomeRunOvertaken computing_runs table_at k
some_run_overtaken =
    let run : FreshRun =
    record {
      claimants = 2;
      terms = k;
      schedule = ask 1 7 ∷ ask 2 8 ∷ steps 6 1 ++ steps 6 2 ++ steps 5 1;
      row = replicate 19 0;
      opens = omega arith;
      room = omega arith;
    }
    in (
      run,
      13,
      19,
      2,
      1,
      18,
      record {
        waits = record {
          lowering = record { starts = refl; ends = refl };
          waiting = λ q a b. each (λ q. (6 ≤ place_of (table_at run q) 2) × (place_of (table_at run q) 2 ≤ 9)) 14 6 (omega arith) q a (omega arith);
        };
        overtakes = record { later = omega arith; meanwhile = omega arith; outside = omega arith; inside = refl; odds = refl };
      },
    )

-- 1 takes token 1 and waits; 2 signs, and has no luck for 30 steps; 1 goes inside, and when it has left so does 2.
pub some_behind : SomeBehind
unfolding SomeBehind computing k always count overtakes signs step_of
some_behind =
    let earlier = Ask 1 7 ∷ replicate 5 (Step 1) in
    let later = Ask 2 8 ∷ replicate 30 (Step 2) in
    let then = replicate 5 (Step 1) in
    let last = Leave 1 ∷ Step 1 ∷ Step 1 ∷ replicate 6 (Step 2) in (
      2,
      k,
      earlier,
      later,
      then,
      last,
      1,
      2,
      record {
        opens = omega arith;
        waits = waiting 2 k earlier later 1 refl refl;
        not_signed = omega arith;
        signed = refl;
        conflicting = refl;
        many_steps = omega arith;
        not_before = refl;
        first = refl;
        at_last = refl;
      },
    )

-- 1 and 2 ask for one session, and take turns; 1 begins with an ask and a leave that are not due.
pub some_free : SomeFree
unfolding SomeFree computing k always calm count turns_away leaves step_of
some_free =
    let t = after k (Ask 1 7 ∷ Ask 2 7 ∷ []) (opened 2) in
    let calls = replicate 7 (Step 1) ++ replicate 9 (Step 2) ++ replicate 6 (Step 1) in
    let all = Ask 1 7 ∷ Leave 1 ∷ calls in (
      2,
      k,
      7,
      calls,
      t,
      1,
      2,
      record {
        sound = sound_after (Ask 1 7 ∷ Ask 2 7 ∷ []) (opened_sound 2 k (omega arith));
        unhindered =
            record {
              asked = refl;
              nobody_conflicts = throughout (Unopposed 1) (λ t. calm 1 (record_of t 1).want 1 t) (unopposed 1) k all t refl;
              not_turned_away = refl;
              no_leave = refl;
              steps = omega arith;
            };
        ask_refused = refl;
        leave_refused = refl;
        not_alone = omega arith;
        apart = omega arith;
      },
    )
