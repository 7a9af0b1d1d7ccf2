-- `trace` meets its contract: an entry's five numbers are written behind those before it.
use Rattle.std.proofs.Common.{◌≡◌, ◌∙◌, ◌*◌, ◌+◌, ◌-◌, arith}
use Rattle.std.proofs.lemmas.Slice.{take-put_mid, drop-put_mid}
use Rattle.store.specs.Trials.{five}
use Rattle.store.proofs.Filling.{later_rest}
use Rattle.store.proofs.Running.{went_on}
use Rattle.store.proofs.trace.Goals as goal

pub loop-k-preserved : goal.loop-k-preserved
loop-k-preserved c =
    let f = c.loop-k.invariant in
    let i = c.loop-k.k in
    let row = c.loop-k.left in
    let w = went_on c.args.terms c.args.schedule.now c.args.rows.now i c.requires.sound (omega arith) f.rows c.decoded.ensures c.enter-turn.ensures in
    let xs = five c.enter-turn.result.after c.enter-turn.result.answer in
    let written : c.copy_from_slice.new.self ≡ xs = c.copy_from_slice.ensures.after ∙ c.five.ensures in
    record {
      rows = w.rows;
      front = rw written (take-put_mid (5 * i) (5 * i + 5 - 5 * i) row xs (5 * (i + 1)) (omega arith) (omega arith) ∙ rw (f.front, w.fives));
      rest = rw written (drop-put_mid (5 * i) (5 * i + 5 - 5 * i) row xs (5 * (i + 1)) (omega arith) (omega arith) (omega arith)
          ∙ later_rest row c.args.left.now (5 * i) (5 * (i + 1)) (omega arith) f.rest);
    }
