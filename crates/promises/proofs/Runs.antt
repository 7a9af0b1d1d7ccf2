-- A run makes the calls of its entries, one after the other, and answers each.
use mathlib.Core.Path.{◌≡◌, refl, ap, ◌∙◌}
use mathlib.Core.Bool.{false}
use mathlib.Core.List.{List, [], ◌∷◌, ◌++◌, map}
use mathlib.Core.Logic.{◌⊎◌, inl, inr}
use Prim.Native.Nat.{ℕ, zero, suc, ◌≤◌, ◌<◌}
use native.Mathlib.Omega.{arith}
use lib.Dec.{ltb}
use lib.ListN.{length, get_or, take, drop, length-take}
use lib.Seq.{take-suc, take_all}
use borrow.Author.Tests.{ne_eqb, le-ltb, ltb-true, ltb-false}
use Rattle.std.specs.Prelude.{Ok, Err}
use Rattle.rules.specs.Tests.{Verdict, first}
use Rattle.rules.specs.Answers.{byte_of}
use Rattle.rules.specs.Tables.{Table, opened, called, after, Sound}
use Rattle.rules.specs.declared.Terms.{Terms}
use Rattle.rules.specs.declared.Call.{Call}
use Rattle.rules.proofs.Choices.{decide, within_holds}
use Rattle.rules.proofs.Rows.{after_append, opened_sound}
use Rattle.rules.proofs.Keeping.{sound_after}
use Rattle.store.specs.Schedules.{is_nine, call_of, decoded, entered, ran, answered}
use Rattle.store.specs.Runs.{Ran, ran_unless, run_refusal, running}
use Rattle.store.proofs.Laws.{entry_is}
use Rattle.promises.specs.Sequences.{place_of, at_odds}
use Rattle.promises.specs.Fairness.{Exclusion}
use Rattle.promises.specs.Refusals.{EntryRefused, RefusedAnswers}
use Rattle.promises.specs.Runs.{calls_in, RunMakesCalls, RunExcludes, FreshRun, whole, table_at, entry_at, RefusedInRun}
use Rattle.promises.proofs.Exclusion.{exclusion}
use Rattle.promises.proofs.Refusals.{entry_refused, refused_answers}

pub ran_calls : (k : Terms) (es : List ℕ) (t : Table) → ran k es t ≡ after k (calls_in es) t
unfolding ran calls_in after
ran_calls k [] t = refl
ran_calls k (e ∷ es) t =
    rw (entry_is k e t)
    (decide (is_nine e)
    (λ a. rw a (ran_calls k es t))
    (λ a. rw a (ran_calls k es (called k (call_of e) t).table)))

ran_append : (k : Terms) (es fs : List ℕ) (t : Table) → ran k (es ++ fs) t ≡ ran k fs (ran k es t)
unfolding ran
ran_append k [] fs t = refl
ran_append k (e ∷ es) fs t = ran_append k es fs (entered k (decoded e) t).table

pub run_makes_calls : RunMakesCalls
unfolding RunMakesCalls
run_makes_calls k es fs t =
    rw (ran_append k es fs t, after_append k (calls_in es) (calls_in fs) t, ran_calls k es t) (ran_calls k fs (after k (calls_in es) t))

-- What holds after all calls, none among them, holds after a run.
after_run : (P : Table → Type 0) (v : Verdict) (k : Terms) (es row : List ℕ) (t : Table) → ((cs : List Call) → P (after k cs t))
    → P (ran_unless v k es row t).rows
unfolding after
after_run P (Ok u) k es row t h = rw (ran_calls k es t) (h (calls_in es))
after_run P (Err r) k es row t h = h []

pub run_excludes : RunExcludes
unfolding RunExcludes Exclusion running
run_excludes n k o es row i j =
    after_run (λ t. place_of t i ≡ 10 → place_of t j ≡ 10 → at_odds t i j ≡ false) _ k es row (opened n) (λ cs. exclusion n k o cs i j)

-- The answer to the entry after the first i.
answer_at : (k : Terms) (es rest : List ℕ) (t : Table) (i : ℕ) → i < length es
    → get_or (map byte_of (answered k es t) ++ rest) i 0 ≡ byte_of (entered k (decoded (get_or es i 0)) (ran k (take i es) t)).answer
unfolding answered ran
answer_at k [] rest t i h = absurd (omega arith)
answer_at k (e ∷ es) rest t zero h = refl
answer_at k (e ∷ es) rest t (suc i) h = answer_at k es rest (entered k (decoded e) t).table i (omega arith)

-- A run on a freshly opened table, entry by entry.
module _ (r : FreshRun) where
  abbrev k : Terms
  k = r.terms

  abbrev es : List ℕ
  es = r.schedule

  abbrev start : Table
  start = opened r.claimants

  pub accepted_run : (fs : List ℕ) → length fs ≤ length r.row
      → running k fs r.row start
      ≡ record { rows = ran k fs start; answers = map byte_of (answered k fs start) ++ drop (length fs) r.row; outcome = Ok tt }
  unfolding running run_refusal first
  accepted_run fs h =
      let n = r.claimants in
      let o = r.opens in
      let s = opened_sound n k o in
      rw (
        s.length_is,
        within_holds 1 64 n o.some_row o.rows,
        ne_eqb k.ceiling 0 (omega (arith, o.ceiling_set)),
        s.well_formed,
        le-ltb (length r.row) (length fs) h,
      )

  pub table_is : (m : ℕ) → table_at r m ≡ ran k (take m es) start
  unfolding table_at
  table_is m = ap (λ (x : Ran). x.rows) (accepted_run (take m es) (omega (arith, length-take m es, r.room)))

  pub sound_at : (m : ℕ) → Sound r.claimants k (table_at r m)
  sound_at m = rw (table_is m, ran_calls k (take m es) start) (sound_after (calls_in (take m es)) (opened_sound r.claimants k r.opens))

  pub table_next : (m : ℕ) → m < length es → table_at r (suc m) ≡ (entered k (decoded (entry_at r m)) (table_at r m)).table
  unfolding ran
  table_next m h = rw (table_is (suc m), table_is m, take-suc es m 0 h, ran_append k (take m es) (entry_at r m ∷ []) start)

  -- Each entry, and whatever comes after the last, makes one call or none.
  pub one_call : (m : ℕ) → ((c : Call) × (table_at r (suc m) ≡ (called k c (table_at r m)).table)) ⊎ (table_at r (suc m) ≡ table_at r m)
  one_call m =
      decide (ltb m (length es))
      (λ h.
      let e = entry_at r m in
      let next = table_next m (ltb-true m (length es) h) in
      decide (is_nine e)
      (λ a. inr (rw next (rw (entry_is k e (table_at r m), a))))
      (λ a. inl (call_of e, rw next (rw (entry_is k e (table_at r m), a)))))
      (λ h.
      let l = ltb-false m (length es) h in
      inr (rw (table_is (suc m), table_is m, take_all (suc m) es (omega arith), take_all m es l)))

  pub answer_is : (i : ℕ) → i < length es → get_or (whole r).answers i 0 ≡ byte_of (entered k (decoded (entry_at r i)) (table_at r i)).answer
  answer_is i h = rw (accepted_run es r.room, table_is i) (answer_at k es (drop (length es) r.row) start i h)

pub refused_in_run : RefusedInRun
unfolding RefusedInRun EntryRefused RefusedAnswers
refused_in_run r i x h e =
    let k = r.terms in
    let f = entry_refused k (entry_at r i) (table_at r i) in
    let q = (f.exactly x).1 e in
    (table_next r i h ∙ f.unchanged x q, answer_is r i h ∙ (refused_answers k (entry_at r i) (table_at r i) x q).1)
