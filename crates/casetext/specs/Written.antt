-- The case text of a schedule, as the writer writes it, and what the writer refuses.
use Rattle.std.specs.Prelude.{ℕ, Bool, List, [], ◌∷◌, ◌++◌, map, ltb, length, drop, Result, Ok, Err}
use Rattle.std.specs.List.{list_any}
use Rattle.rules.specs.Tests.{◌or◌, ◌when◌, Verdict, first, by_verdict}
use Rattle.store.specs.Schedules.{is_nine, call_of}
use Rattle.casetext.specs.Layout.{case_text}
use Rattle.rules.specs.declared.Refusal.{Refusal}
use Rattle.rules.specs.declared.Refusal.TheVariants.{NoCall, TooLong, TooManyLines}

-- Refusal 9 names some entry of the schedule.
abbrev pub some_nine : (schedule : List ℕ) → Bool
some_nine es = list_any is_nine es

-- The text: a do line for each entry, which says the entry's call.
abbrev pub schedule_text : (claimants ceiling : ℕ) → (schedule : List ℕ) → List ℕ
schedule_text n k es = case_text n k (map call_of es)

-- What is refused, in 02's order, where this many bytes are lent.
unfoldable pub write_refusal : (claimants ceiling : ℕ) → (schedule : List ℕ) → (room : ℕ) → Verdict
write_refusal n k es room =
    let bytes = length (schedule_text n k es) in
    first (NoCall when some_nine es ∷ TooManyLines when ltb 2048 (length es) ∷ TooLong when (ltb 32768 bytes or ltb room bytes) ∷ [])

-- What the writer gives back: how many bytes the text has, or the refusal.
unfoldable pub written : (claimants ceiling : ℕ) → (schedule lent : List ℕ) → Result ℕ Refusal
written n k es lent = by_verdict (write_refusal n k es (length lent)) (Ok (length (schedule_text n k es))) Err

-- What the lent bytes are then: the text in front and the rest as it was, or all of it as it was.
unfoldable pub written_row : (claimants ceiling : ℕ) → (schedule lent : List ℕ) → List ℕ
written_row n k es lent =
    let text = schedule_text n k es in
    by_verdict (write_refusal n k es (length lent)) (text ++ drop (length text) lent) (λ r. lent)
