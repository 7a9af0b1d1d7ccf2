-- A run, entry by entry: what one more entry does after those before it.
use mathlib.Core.Path.{◌≡◌, refl, ◌∙◌}
use mathlib.Core.List.{List, [], ◌∷◌, ◌++◌}
use Prim.Native.Nat.{ℕ, ◌+◌, ◌<◌}
use native.Mathlib.Numerals.{add-one}
use lib.ListN.{length, get_or, take}
use lib.Seq.{take-suc}
use Rattle.std.specs.Prelude.{is_some}
use Rattle.rules.specs.Tests.{Verdict}
use Rattle.rules.specs.Tables.{Table, record_of, Sound}
use Rattle.rules.specs.declared.Terms.{Terms}
use Rattle.rules.specs.declared.Turn.{Turn}
use Rattle.store.specs.declared.refusals.Judged.{Judged}
use Rattle.store.specs.Entries.{written, caller_of, turn_in}
use Rattle.store.specs.Schedules.{Entry, claimant_in, decoded, entered, ran, answered}
use Rattle.store.specs.Runs.{judged_of, run_refusal, ran_unless, running}
use Rattle.store.specs.Trials.{five, traced}
use Rattle.store.proofs.Lowest.{broken_is}
use Rattle.store.proofs.Entering.{Does, named, entered_on, sound_entered}

module _ (k : Terms) (e : ℕ) where
  ran_push : (es : List ℕ) (t : Table) → ran k (es ++ e ∷ []) t ≡ (entered k (decoded e) (ran k es t)).table
  unfolding ran
  ran_push [] t = refl
  ran_push (x ∷ es) t = ran_push es (entered k (decoded x) t).table

  answered_push : (es : List ℕ) (t : Table) → answered k (es ++ e ∷ []) t ≡ answered k es t ++ (entered k (decoded e) (ran k es t)).answer ∷ []
  unfolding ran answered
  answered_push [] t = refl
  answered_push (x ∷ es) t = rw (answered_push es (entered k (decoded x) t).table)

  traced_push : (es : List ℕ) (t : Table)
      → let d = entered k (decoded e) (ran k es t) in traced k (es ++ e ∷ []) t ≡ traced k es t ++ five (record_of d.table (claimant_in e)) d.answer
  unfolding ran traced
  traced_push [] t = refl
  traced_push (x ∷ es) t = rw (traced_push es (entered k (decoded x) t).table)

ran_sound : {n : ℕ} {k : Terms} (es : List ℕ) (t : Table) → Sound n k t → Sound n k (ran k es t)
unfolding ran
ran_sound [] t s = s
ran_sound {n} {k} (e ∷ es) t s = ran_sound {n = n} {k = k} es (entered k (decoded e) t).table (sound_entered (decoded e) s)

-- The turn r left the table t' after i entries and one more.
pub record Went (k : Terms) (es : List ℕ) (t₀ : Table) (i : ℕ) (t' : Table) (r : Turn) : Type 0 where
  pub rows : t' ≡ ran k (take (i + 1) es) t₀
  pub answers : answered k (take (i + 1) es) t₀ ≡ answered k (take i es) t₀ ++ r.answer ∷ []
  pub fives : traced k (take (i + 1) es) t₀ ≡ traced k (take i es) t₀ ++ five r.after r.answer

module _ (k : Terms) (es : List ℕ) (t₀ : Table) (i : ℕ) (s : Sound (length t₀) k t₀) (l : i < length es) where
  abbrev x : ℕ
  x = get_or es i 0

  abbrev before : Table
  before = ran k (take i es) t₀

  next : Does (decoded x) (turn_in k (decoded x) before) before (entered k (decoded x) before)
  next = entered_on (decoded x) (ran_sound (take i es) t₀ s)

  went : Went k es t₀ i (written before (caller_of (decoded x)) (turn_in k (decoded x) before).after) (turn_in k (decoded x) before)
  went = record {
    rows = next.table ∙ rw (add-one, take-suc es i 0, ran_push k x (take i es) t₀);
    answers = rw (add-one, take-suc es i 0, answered_push k x (take i es) t₀, next.answer);
    fives = rw (add-one, take-suc es i 0, traced_push k x (take i es) t₀, next.answer, next.own, named x);
  }

  pub went_on : {t t' : Table} {e : Entry} {r : Turn} → t ≡ before → e ≡ decoded x
      → (t' ≡ written t (caller_of e) (turn_in k e t).after) × (r ≡ turn_in k e t)
      → Went k es t₀ i t' r
  went_on p q f = rw (f.0, f.1, q, p) went

-- What a run gives back, by what its code finds of the table.
pub run_is : (k : Terms) (es row : List ℕ) (t : Table) {j : Judged} {v : Verdict}
    → j ≡ judged_of k t → v ≡ run_refusal j.board.n j.board.terms (is_some j.broken) (length es) (length row)
    → running k es row t ≡ ran_unless v k es row t
unfolding running
run_is k es row t f e = rw (e, f, broken_is k t)
