-- What the writer refuses, and what it gives back then and otherwise.
-- Assumes nothing.
use Prim.Native.Nat.{ℕ, ◌≤◌, ◌<◌}
use mathlib.Core.Bool.{true, false}
use mathlib.Core.Path.{◌≡◌, refl}
use mathlib.Core.List.{List, ◌++◌}
use lib.Dec.{ltb}
use lib.ListN.{length, drop}
use borrow.Author.Tests.{le-ltb, lt-ltb}
use borrow.Table.Steps.{cases as decide}
use Rattle.rules.specs.Tests.{first}
use Rattle.casetext.specs.Written.{some_nine, schedule_text, write_refusal, written, written_row}
use Rattle.std.specs.Prelude.{Ok, Err}
use Rattle.rules.specs.declared.Refusal.{Refusal}
use Rattle.rules.specs.declared.Refusal.TheVariants.{NoCall, TooLong, TooManyLines}

module _ (n k : ℕ) (es lent : List ℕ) where
  abbrev text : List ℕ
  text = schedule_text n k es

  -- what a refusal gives back, and what none does
  pub refused_as : {r : Refusal} → write_refusal n k es (length lent) ≡ Err r → (Err r ≡ written n k es lent) × (lent ≡ written_row n k es lent)
  unfolding written written_row
  refused_as e = rw e (refl, refl)

  pub written_as : write_refusal n k es (length lent) ≡ Ok tt
      → (Ok (length text) ≡ written n k es lent) × (text ++ drop (length text) lent ≡ written_row n k es lent)
  unfolding written written_row
  written_as e = rw e (refl, refl)

module _ (n k : ℕ) (es : List ℕ) (room : ℕ) where
  pub refuses_9 : some_nine es ≡ true → write_refusal n k es room ≡ Err NoCall
  unfolding write_refusal first
  refuses_9 e = rw e

  module _ (none : some_nine es ≡ false) where
    pub refuses_13 : 2048 < length es → write_refusal n k es room ≡ Err TooManyLines
    unfolding write_refusal first
    refuses_13 h = rw (none, lt-ltb 2048 (length es) h)

    module _ (few : length es ≤ 2048) where
      pub refuses_11_long : 32768 < length (schedule_text n k es) → write_refusal n k es room ≡ Err TooLong
      unfolding write_refusal first
      refuses_11_long h = rw (none, le-ltb 2048 (length es) few, lt-ltb 32768 (length (schedule_text n k es)) h)

      pub refuses_11_short : room < length (schedule_text n k es) → write_refusal n k es room ≡ Err TooLong
      unfolding write_refusal first
      refuses_11_short h =
          rw (none, le-ltb 2048 (length es) few, lt-ltb room (length (schedule_text n k es)) h)
          (decide (ltb 32768 (length (schedule_text n k es))) (λ t. rw t) (λ t. rw t))

      pub refuses_none : length (schedule_text n k es) ≤ 32768 → length (schedule_text n k es) ≤ room → write_refusal n k es room ≡ Ok tt
      unfolding write_refusal first
      refuses_none h g =
          rw (none, le-ltb 2048 (length es) few, le-ltb 32768 (length (schedule_text n k es)) h, le-ltb room (length (schedule_text n k es)) g)
