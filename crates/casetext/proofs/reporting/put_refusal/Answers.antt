-- `casetext::reporting::put_refusal` meets its contract.
use Rattle.std.proofs.Common.{◌∙◌, rules, refl}
use Rattle.casetext.specs.Report.{refusal_text}
use Rattle.casetext.specs.Sinks.{room_first, room_second, wrote_both}
use Rattle.casetext.proofs.Pens.{front_at, front_row, room_front}
use Rattle.casetext.proofs.reporting.put_refusal.Goals as goal

pub field-requires : goal.field-requires
unfolding refusal_text
field-requires c = rw c.from.ensures (room_first _ _ (room_front c.new-pen.ensures.row c.new-pen.ensures.at c.requires.room))

pub line-requires : goal.line-requires
unfolding refusal_text
line-requires c = room_second _ _ (rw c.from.ensures at c.field.ensures) (room_front c.new-pen.ensures.row c.new-pen.ensures.at c.requires.room)

pub returns : goal.returns
unfolding refusal_text
returns c =
    let all = wrote_both (rw c.from.ensures at c.field.ensures) c.line.ensures refl in
    let row = front_row all c.new-pen.ensures.at in
    let same = all.row ∙ c.new-pen.ensures.same in
    record { ends = c.written.ensures ∙ front_at all c.new-pen.ensures.at; row = search rules }
