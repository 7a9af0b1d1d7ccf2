-- 01's number for each refusal, and for each case of an answer.
use Rattle.std.specs.Prelude.{ℕ, ◌+◌, ◌%◌}
use Rattle.rules.specs.declared.Refusal.{Refusal}
use Rattle.rules.specs.declared.Refusal.TheVariants.{RowCount, NoCeiling, Broken, NoClaimant, NoSession, NotAtRest, NotInside, NoStep, NoCall}
use Rattle.rules.specs.declared.Refusal.TheVariants.{NoRoom, TooLong, BadLine, TooManyLines}
use Rattle.rules.specs.declared.Answer.{Answer}
use Rattle.rules.specs.declared.Answer.TheVariants.{Reached, TurnedAway, Refused}

abbrev pub refusal_number : Refusal → ℕ
refusal_number RowCount = 1
refusal_number NoCeiling = 2
refusal_number Broken = 3
refusal_number NoClaimant = 4
refusal_number NoSession = 5
refusal_number NotAtRest = 6
refusal_number NotInside = 7
refusal_number NoStep = 8
refusal_number NoCall = 9
refusal_number NoRoom = 10
refusal_number TooLong = 11
refusal_number BadLine = 12
refusal_number TooManyLines = 13

-- The place reached; 31 for a turned-away take; 32 + r where r refused.
abbrev pub number_of : Answer → ℕ
number_of (Reached p) = p
number_of TurnedAway = 31
number_of (Refused r) = 32 + refusal_number r

-- As a byte: the number, which no answer passes 255 with.
abbrev pub byte_of : Answer → ℕ
byte_of a = number_of a % 256
