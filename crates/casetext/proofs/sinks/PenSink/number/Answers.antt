-- `casetext::sinks::PenSink::number` meets its contract: a number below 10 is its digit.
use Rattle.casetext.proofs.Numerals.{numeral_one}
use Rattle.casetext.proofs.sinks.PenSink.number.Goals as goal

pub word-requires : goal.word-requires
word-requires c = rw (numeral_one c.args.n c.if-n-lt10.true) at c.requires

pub returns-then-n-lt10 : goal.returns-then-n-lt10
returns-then-n-lt10 c = rw (numeral_one c.args.n c.if-n-lt10.true) c.word.ensures
