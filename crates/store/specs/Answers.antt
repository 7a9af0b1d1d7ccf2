-- 01's number and value for each case of what the store answers.
use Rattle.std.specs.Prelude.{ℕ, ℤ, pos, Result, Ok, Err}
use Rattle.rules.specs.Tests.{Verdict}
use Rattle.rules.specs.Answers.{refusal_number}
use Rattle.rules.specs.declared.Refusal.{Refusal}

-- The number of the refusal of an opening, a run or a trial; 0 where nothing is refused.
abbrev pub outcome_number : Verdict → ℕ
outcome_number (Ok u) = 0
outcome_number (Err r) = refusal_number r

-- The same of a standing ..
abbrev pub standing_number : Result ℤ Refusal → ℕ
standing_number (Ok z) = 0
standing_number (Err r) = refusal_number r

-- .. and the standing itself, which is 0 where it is refused.
abbrev pub standing_value : Result ℤ Refusal → ℤ
standing_value (Ok z) = z
standing_value (Err r) = pos 0
