-- `run` meets its contract: an entry's byte is written behind those before it, until all entries are made.
use Rattle.std.proofs.Common.{◌≡◌, ◌+◌, ◌∙◌, arith, refl, sym, length}
use Rattle.std.proofs.Math.Seq.{take-length}
use Rattle.std.proofs.lemmas.Grind.{take-set_at}
use Rattle.std.proofs.lemmas.List.{take-append-drop, drop-set-lt, map-append}
use Rattle.std.proofs.lemmas.Result.{err_from_is_err_and}
use Rattle.store.proofs.Filling.{later_rest}
use Rattle.store.proofs.Running.{went_on, run_is}
use Rattle.store.proofs.run.Goals as goal

pub loop-k-preserved : goal.loop-k-preserved
loop-k-preserved c =
    let f = c.loop-k.invariant in
    let i = c.loop-k.k in
    let row = c.loop-k.answers in
    let w = went_on c.args.terms c.args.schedule.now c.args.rows.now i f.sound (omega arith) f.rows c.decoded.ensures c.enter.ensures in
    record {
      sound = f.sound;
      room = f.room;
      rows = w.rows;
      front = take-set_at row i (i + 1) c.into.result refl (omega arith) ∙ rw (f.front, c.into.ensures, w.answers, map-append);
      rest = drop-set-lt (i + 1) row i c.into.result (omega arith) ∙ later_rest row c.args.answers.now i (i + 1) (omega arith) f.rest;
    }

pub returns-in_err-runs : goal.returns-in_err-runs
returns-in_err-runs c =
    let p = err_from_is_err_and c.from_residual.result c.from_residual.ensures.1 in
    let found = run_is c.args.terms c.args.schedule.now c.args.answers.now c.args.rows.now c.judged.ensures c.in_err-runs.ensures in
    rw (p.1, p.2, found) (refl, refl, refl)

pub returns : goal.returns
returns c =
    let f = c.loop-k.invariant in
    let es = c.args.schedule.now in
    let all : c.loop-k.k ≡ length es = omega arith in
    rw (run_is c.args.terms es c.args.answers.now c.args.rows.now c.judged.ensures c.in_ok-runs.ensures)
    (f.rows ∙ rw (all, take-length es), sym (take-append-drop c.loop-k.k c.loop-k.answers) ∙ rw (f.front, f.rest, all, take-length es), refl)
