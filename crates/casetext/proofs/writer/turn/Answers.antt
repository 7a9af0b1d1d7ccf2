-- `casetext::writer::turn` meets its contract: each kind has its words.
use Rattle.std.proofs.Common.{refl}
use Rattle.casetext.specs.Layout.{turn_text}
use Rattle.casetext.proofs.writer.turn.Goals as goal

pub field-requires : goal.field-requires
unfolding turn_text
field-requires g c = g.S.Sink.laws.first _ _ (rw c.in-Ask.is at c.requires)

pub field-requires-in-Ask : goal.field-requires-in-Ask
unfolding turn_text
field-requires-in-Ask g c = g.S.Sink.laws.second _ _ c.field.ensures (rw c.in-Ask.is at c.requires)

pub returns-in-Ask : goal.returns-in-Ask
unfolding turn_text
returns-in-Ask g c = rw c.in-Ask.is (g.S.Sink.laws.both c.field.ensures c.field-in-Ask.ensures refl)

-- A step is said by the words that the contract says it by.
pub field-requires-in-Step : goal.field-requires-in-Step
unfolding turn_text
field-requires-in-Step g c = rw c.in-Step.is at c.requires

pub returns-in-Step : goal.returns-in-Step
unfolding turn_text
returns-in-Step g c = rw c.in-Step.is c.field-in-Step.ensures
