-- Kept for the edit refused_answers_31_and_r: 32 stands before a refusal's number.
use Rattle.std.proofs.Common.{arith}
use Rattle.rules.proofs.answers.U16FromAnswer.from.Goals as goal

pub returns-in-Refused : goal.returns-in-Refused
returns-in-Refused c = rw c.in-Refused.is (omega (arith, c.refused_number.ensures, c.from.ensures))
