-- The table is what the entries so far make of it, and five numbers for each of these stand in front.
use Rattle.std.proofs.Common.{◌≡◌, ◌*◌, take, drop}
use Rattle.store.specs.Schedules.{ran}
use Rattle.store.specs.Trials.{traced}
use Rattle.store.proofs.trace.Given as goal

abbrev pub invariant-loop-k : goal.invariant-loop-k
invariant-loop-k l = record {
  rows : l.rows ≡ ran l.terms (take l.k l.schedule) l.fn.rows;
  front : take (5 * l.k) l.left ≡ traced l.terms (take l.k l.schedule) l.fn.rows;
  rest : drop (5 * l.k) l.left ≡ drop (5 * l.k) l.fn.left;
}
