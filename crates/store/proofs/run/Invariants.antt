-- The table is what the entries so far make of it, and what these are answered stands in front.
use Rattle.std.proofs.Common.{◌≡◌, ◌≤◌, length, take, drop}
use Rattle.std.specs.Prelude.{map}
use Rattle.rules.specs.Answers.{byte_of}
use Rattle.rules.specs.Tables.{Sound}
use Rattle.store.specs.Schedules.{ran, answered}
use Rattle.store.proofs.run.Given as goal

abbrev pub invariant-loop-k : goal.invariant-loop-k
invariant-loop-k l = record {
  sound : Sound (length l.fn.rows) l.terms l.fn.rows;
  room : length l.schedule ≤ length l.fn.answers;
  rows : l.rows ≡ ran l.terms (take l.k l.schedule) l.fn.rows;
  front : take l.k l.answers ≡ map byte_of (answered l.terms (take l.k l.schedule) l.fn.rows);
  rest : drop l.k l.answers ≡ drop l.k l.fn.answers;
}
