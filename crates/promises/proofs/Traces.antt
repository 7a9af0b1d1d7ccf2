-- What is printed of a run are the records of the tables that it comes to, and its answers.
use mathlib.Core.Path.{◌≡◌, refl, ap, ◌∙◌}
use mathlib.Core.List.{List, [], ◌∷◌}
use Prim.Native.Nat.{ℕ, zero, suc, ◌*◌, ◌<◌}
use native.Mathlib.Omega.{arith}
use lib.ListN.{length, get_or, take, drop}
use lib.Seq.{take-length}
use Rattle.rules.specs.Tables.{Table, opened, record_of}
use Rattle.rules.specs.declared.Terms.{Terms}
use Rattle.store.specs.Schedules.{claimant_in, decoded, entered, ran}
use Rattle.store.specs.Runs.{Ran, running}
use Rattle.store.specs.Trials.{five, traced}
use Rattle.promises.specs.Refusals.{EntryAnswers}
use Rattle.promises.specs.Runs.{table_at, entry_at, TraceShowsRun}
use Rattle.promises.proofs.Refusals.{entry_answers}
use Rattle.promises.proofs.Runs.{ran_calls, accepted_run, table_is, answer_is}

trace_length : (k : Terms) (es : List ℕ) (t : Table) → length (traced k es t) ≡ 5 * length es
unfolding traced
trace_length k [] t = refl
trace_length k (e ∷ es) t = omega (arith, trace_length k es (entered k (decoded e) t).table)

-- The five numbers of the entry after the first i.
trace_at : (k : Terms) (es : List ℕ) (t : Table) (i : ℕ) → i < length es
    → take 5 (drop (5 * i) (traced k es t))
    ≡ five (record_of (ran k (take (suc i) es) t) (claimant_in (get_or es i 0))) (entered k (decoded (get_or es i 0)) (ran k (take i es) t)).answer
unfolding traced ran
trace_at k [] t i h = absurd (omega arith)
trace_at k (e ∷ es) t zero h = refl
trace_at k (e ∷ es) t (suc i) h =
    let on : 5 * suc i ≡ suc (suc (suc (suc (suc (5 * i))))) = omega arith in
    rw on (trace_at k es (entered k (decoded e) t).table i (omega arith))

pub trace_shows_run : TraceShowsRun
unfolding TraceShowsRun EntryAnswers table_at
trace_shows_run r =
    let k = r.terms in
    let es = r.schedule in
    let start = opened r.claimants in
    record {
      accepted = ap (λ (x : Ran). x.outcome) (accepted_run r es r.room);
      entries = λ i h. record {
        numbers =
            trace_at k es start i h
            ∙ rw (← table_is r (suc i), ← table_is r i, answer_is r i h, (entry_answers k (entry_at r i) (table_at r i)).byte);
        table = table_is r (suc i) ∙ ran_calls k (take (suc i) es) start;
      };
      no_more = trace_length k es start;
      end = ap (λ (fs : List ℕ). (running k fs r.row start).rows) (take-length es);
    }
