-- 01's numbers and values for each case of what the reader and the writer answer.
use Rattle.std.specs.Prelude.{ℕ, List, [], ◌∷◌, Result, Ok, Err}
use Rattle.rules.specs.Answers.{refusal_number}
use Rattle.rules.specs.declared.Refusal.{Refusal}
use Rattle.casetext.specs.declared.Case.{Case}
use Rattle.casetext.specs.declared.Fault.{Fault}

-- The number of the refusal and its line; both are 0 where nothing is refused.
abbrev pub reading_number : Result Case Fault → ℕ
reading_number (Ok c) = 0
reading_number (Err f) = refusal_number f.refusal

abbrev pub reading_line : Result Case Fault → ℕ
reading_line (Ok c) = 0
reading_line (Err f) = f.line

-- The two numbers and the count of entries; none of them where the text is refused.
abbrev pub reading_values : Result Case Fault → List ℕ
reading_values (Ok c) = c.claimants ∷ c.ceiling ∷ c.count ∷ []
reading_values (Err f) = []

-- The number of the writer's refusal, 0 where nothing is refused; and how many bytes were written, 0 where it is.
abbrev pub written_number : Result ℕ Refusal → ℕ
written_number (Ok bytes) = 0
written_number (Err r) = refusal_number r

abbrev pub written_bytes : Result ℕ Refusal → ℕ
written_bytes (Ok bytes) = bytes
written_bytes (Err r) = 0
