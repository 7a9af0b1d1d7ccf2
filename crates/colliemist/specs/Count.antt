-- What each answer is to a caller in C.
use Rattle.std.specs.Prelude.{ℕ, ℤ, pos, neg_ℤ, Option, None, Some, Result, Ok, Err}
use Rattle.rules.specs.Answers.{refusal_number}
use Rattle.rules.specs.declared.Refusal.{Refusal}
use Rattle.casetext.specs.declared.Case.{Case}
use Rattle.casetext.specs.declared.Fault.{Fault}

-- What a report came to: its bytes, or 0 for a row that is too short.
abbrev pub counted : Option ℕ → ℕ
counted (Some bytes) = bytes
counted None = 0

-- What a schedule's text came to: its bytes, or minus the number of the refusal.
abbrev pub bytes_or : Result ℕ Refusal → ℤ
bytes_or (Ok bytes) = pos bytes
bytes_or (Err r) = neg_ℤ (pos (refusal_number r))

-- What a text says: how many entries, or minus the number of the refusal ..
abbrev pub entries_or : Result Case Fault → ℤ
entries_or (Ok c) = pos c.count
entries_or (Err f) = neg_ℤ (pos (refusal_number f.refusal))

-- .. and what the two lent numbers are then: those of the text, or what they were.
abbrev pub claimants_or : (held : ℕ) → Result Case Fault → ℕ
claimants_or held (Ok c) = c.claimants
claimants_or held (Err f) = held

abbrev pub ceiling_or : (held : ℕ) → Result Case Fault → ℕ
ceiling_or held (Ok c) = c.ceiling
ceiling_or held (Err f) = held
