-- `casetext::reporting::put_run` meets its contract: each turn of its loop writes the next report.
use Rattle.std.proofs.lemmas.List.{take_rest}
use Rattle.std.proofs.Common.{◌*◌, ◌∙◌, rules, refl, arith}
use Rattle.casetext.specs.Report.{entries_text, run_text}
use Rattle.casetext.specs.Sinks.{room_first, room_second, wrote_both, pen_laws}
use Rattle.casetext.proofs.Pens.{front_at, front_row, room_front, onward_room, onward_more, onward_end}
use Rattle.casetext.proofs.Runs.{reports_next, reports_over}
use Rattle.casetext.proofs.reporting.put_run.Goals as goal

pub entry-requires-clause-room : goal.entry-requires-clause-room
unfolding run_text
entry-requires-clause-room c =
    let l = c.loop-i in
    let es = c.args.entries.now in
    let ns = c.args.left.now in
    let room = room_first (entries_text 1 es ns) _ (room_front c.new-pen.ensures.row c.new-pen.ensures.at c.requires.room) in
    rw (take_rest ns (5 * l.i)) (onward_room pen_laws room l.invariant _ _ (reports_next es ns l.i (omega arith)))

pub loop-i-preserved : goal.loop-i-preserved
unfolding run_text
loop-i-preserved c =
    let l = c.loop-i in
    let es = c.args.entries.now in
    let ns = c.args.left.now in
    let room = room_first (entries_text 1 es ns) _ (room_front c.new-pen.ensures.row c.new-pen.ensures.at c.requires.room) in
    onward_more pen_laws room l.invariant _ _ (reports_next es ns l.i (omega arith)) (rw (take_rest ns (5 * l.i)) at c.entry.ensures)

pub line-requires : goal.line-requires
unfolding run_text
line-requires c =
    let l = c.loop-i in
    let es = c.args.entries.now in
    let ns = c.args.left.now in
    let room = room_front c.new-pen.ensures.row c.new-pen.ensures.at c.requires.room in
    room_second _ _ (onward_end pen_laws (room_first (entries_text 1 es ns) _ room) l.invariant (reports_over es ns l.i (omega arith))) room

pub returns : goal.returns
unfolding run_text
returns c =
    let l = c.loop-i in
    let es = c.args.entries.now in
    let ns = c.args.left.now in
    let room = room_front c.new-pen.ensures.row c.new-pen.ensures.at c.requires.room in
    let entries = onward_end pen_laws (room_first (entries_text 1 es ns) _ room) l.invariant (reports_over es ns l.i (omega arith)) in
    let all = wrote_both entries c.line.ensures refl in
    let row = front_row all c.new-pen.ensures.at in
    let same = all.row ∙ c.new-pen.ensures.same in
    record { ends = c.written.ensures ∙ front_at all c.new-pen.ensures.at; row = search rules }
