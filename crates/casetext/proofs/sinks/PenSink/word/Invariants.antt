-- The loop's invariant: the word's first i bytes are copied.
use Rattle.std.proofs.Common.{◌≡◌, take}
use Rattle.casetext.proofs.sinks.PenSink.word.Given as goal

abbrev pub invariant-loop-i : goal.invariant-loop-i
invariant-loop-i l = take l.i l.place ≡ take l.i l.word
