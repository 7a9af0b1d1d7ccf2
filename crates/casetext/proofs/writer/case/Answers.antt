-- `casetext::writer::case` meets its contract: after the head, each turn of its loop gives the next do line.
use Rattle.std.proofs.Common.{sym, refl, get_or, arith}
use Rattle.store.specs.Schedules.{call_of}
use Rattle.store.proofs.Laws.{entry_barred, entry_made}
use Rattle.casetext.specs.Layout.{head_text, do_text}
use Rattle.casetext.proofs.Pens.{onward_room, onward_more, onward_end}
use Rattle.casetext.proofs.Schedules.{no_nine, lines_next, lines_over}
use Rattle.casetext.proofs.writer.case.Goals as goal
use Rattle.casetext.proofs.writer.case.Goals.{in-Ok, in_default}

pub line-requires : goal.line-requires
line-requires g c =
    let laws = g.S.Sink.laws in
    laws.first _ _ (laws.first (head_text c.args.claimants c.args.ceiling) _ c.requires.room)

pub line-requires-2 : goal.line-requires-2
line-requires-2 g c =
    let laws = g.S.Sink.laws in
    laws.second _ _ c.line.ensures (laws.first (head_text c.args.claimants c.args.ceiling) _ c.requires.room)

pub loop-entry-init : goal.loop-entry-init
loop-entry-init g c = record {
  before = head_text c.args.claimants c.args.ceiling;
  taken = g.S.Sink.laws.both c.line.ensures c.line-2.ensures refl;
  splits = refl;
}

pub do_line-requires : goal.do_line-requires
do_line-requires g c =
    let i = c.loop-entry.entry-index in
    let es = c.args.schedule.now in
    let t = entry_made (get_or es i 0) _ (sym c.in-Ok.ensures) in
    rw t.1 at (onward_room g.S.Sink.laws c.requires.room c.loop-entry.invariant (do_text (call_of (get_or es i 0))) _ (lines_next es i (omega arith)))

pub loop-entry-preserved : goal.loop-entry-preserved
loop-entry-preserved g c =
    let i = c.loop-entry.entry-index in
    let es = c.args.schedule.now in
    elim c.match-decoded.branch [
      | in-Ok w ↦
          let t = entry_made (get_or es i 0) _ (sym w.in-Ok.ensures) in
          let next = lines_next es i (omega arith) in
          rw w.sink-is (onward_more g.S.Sink.laws c.requires.room c.loop-entry.invariant _ _ next (rw (← t.1) at w.do_line.ensures))
      | in_default w ↦
          let t = entry_barred (get_or es i 0) _ (sym w.in_default.ensures) in
          cc (no_nine es c.requires.none_barred i (omega arith))
    ]

pub returns : goal.returns
returns g c = onward_end g.S.Sink.laws c.requires.room c.loop-entry.invariant (lines_over _ c.loop-entry.entry-index (omega arith))
