-- `casetext::writing::Pen::entry` meets its contract: its parts, one after the other.
use Rattle.std.proofs.Common.{refl}
use Rattle.casetext.specs.Report.{entry_text}
use Rattle.casetext.specs.Sinks.{room_first, room_second, wrote_both}
use Rattle.casetext.proofs.writing.Pen.entry.Goals as goal

pub field-requires : goal.field-requires
unfolding entry_text
field-requires c = room_first _ _ c.requires.room

pub field-requires-2 : goal.field-requires-2
unfolding entry_text
field-requires-2 c = room_first _ _ (room_second _ _ c.field.ensures c.requires.room)

pub field-requires-3 : goal.field-requires-3
unfolding entry_text
field-requires-3 c = room_first _ _ (room_second _ _ c.field-2.ensures (room_second _ _ c.field.ensures c.requires.room))

pub field-requires-4 : goal.field-requires-4
unfolding entry_text
field-requires-4 c =
    room_first _ _
    (room_second _ _ c.field-3.ensures
    (room_second _ _ c.field-2.ensures (room_second _ _ c.field.ensures c.requires.room)))

pub field-requires-5 : goal.field-requires-5
unfolding entry_text
field-requires-5 c =
    room_first _ _
    (room_second _ _ c.field-4.ensures
    (room_second _ _ c.field-3.ensures
    (room_second _ _ c.field-2.ensures (room_second _ _ c.field.ensures c.requires.room))))

pub field-requires-6 : goal.field-requires-6
unfolding entry_text
field-requires-6 c =
    room_first _ _
    (room_second _ _ c.field-5.ensures
    (room_second _ _ c.field-4.ensures
    (room_second _ _ c.field-3.ensures
    (room_second _ _ c.field-2.ensures (room_second _ _ c.field.ensures c.requires.room)))))

pub line-requires : goal.line-requires
unfolding entry_text
line-requires c =
    room_second _ _ c.field-6.ensures
    (room_second _ _ c.field-5.ensures
    (room_second _ _ c.field-4.ensures
    (room_second _ _ c.field-3.ensures
    (room_second _ _ c.field-2.ensures (room_second _ _ c.field.ensures c.requires.room)))))

pub returns : goal.returns
unfolding entry_text
returns c =
    wrote_both c.field.ensures
    (wrote_both c.field-2.ensures
    (wrote_both c.field-3.ensures
    (wrote_both c.field-4.ensures
    (wrote_both c.field-5.ensures (wrote_both c.field-6.ensures c.line.ensures refl) refl) refl) refl) refl) refl
